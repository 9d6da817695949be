use Rattle.std.proofs.Common.{not, ap, ◌∙◌, sym}
use Rattle.swc_ast.specs.Trees.{is_logical}
use Rattle.swc_steps.specs.Parsing.{tree_of}
use Rattle.swc_steps.proofs.Steps.{check_passes, check_notes}
use Rattle.swc_operators.proofs.ops.check_logical_operand.Goals as goal

pub returns-then-is_logical-clause-checks : goal.returns-then-is_logical-clause-checks
returns-then-is_logical-clause-checks g c =
    check_notes g.I.Tokens.model (not (is_logical (tree_of c.args.nodes.now c.args.operand))) _ _ c.emit_err.result
    (ap not (sym c.is_logical.ensures ∙ c.if-is_logical.true)) c.emit_err.ensures.tries c.emit_err.ensures.notes

pub returns-clause-checks : goal.returns-clause-checks
returns-clause-checks g c = check_passes (not (is_logical (tree_of c.args.nodes.now c.args.operand)))
    g.met.I.Tokens.laws _ (ap not (sym c.is_logical.ensures ∙ c.if-is_logical.false))
