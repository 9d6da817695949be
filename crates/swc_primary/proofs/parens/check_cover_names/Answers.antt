use Rattle.swc_ast.specs.Trees.{no_cover_in}
use Rattle.swc_steps.specs.Parsing.{tree_of}
use Rattle.swc_steps.proofs.Steps.{check_passes}
use Rattle.swc_primary.proofs.parens.check_cover_names.Goals as goal

pub returns-in-None-clause-checks : goal.returns-in-None-clause-checks
returns-in-None-clause-checks g c =
    check_passes (no_cover_in (tree_of c.args.nodes.now c.args.expr)) g.met.I.Tokens.laws _ c.in-None.ensures.covers
