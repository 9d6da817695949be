use Rattle.std.proofs.Common.{not, ap, sym, ◌∙◌}
use Rattle.swc_ast.specs.Trees.{is_chain}
use Rattle.swc_steps.specs.Parsing.{tree_of}
use Rattle.swc_steps.proofs.Steps.{check_passes}
use Rattle.swc_left.proofs.tpl.check_tag.Goals as goal

pub returns-then-not-is_opt_chain-clause-checks : goal.returns-then-not-is_opt_chain-clause-checks
returns-then-not-is_opt_chain-clause-checks g c =
    check_passes (not (is_chain (tree_of c.args.nodes.now c.args.tag))) g.met.I.Tokens.laws _
    (ap not (sym c.is_opt_chain.ensures ∙ c.if-not-is_opt_chain.true))
