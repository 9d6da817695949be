use Rattle.std.proofs.Common.{◌∙◌, sym}
use Rattle.swc_ast.specs.Trees.{left_ok}
use Rattle.swc_steps.specs.Parsing.{tree_of}
use Rattle.swc_steps.proofs.Steps.{check_passes, check_notes, not_true, not_false}
use Rattle.swc_operators.proofs.ops.check_nullish_left.Goals as goal

pub returns-then-has_nullish_left-clause-checks : goal.returns-then-has_nullish_left-clause-checks
returns-then-has_nullish_left-clause-checks g c =
    check_notes g.I.Tokens.model (left_ok (tree_of c.args.nodes.now c.args.expr)) _ _ c.emit_err.result
    (not_true _ (sym c.has_nullish_left.ensures ∙ c.if-has_nullish_left.true)) c.emit_err.ensures.tries
    c.emit_err.ensures.notes

pub returns-clause-checks : goal.returns-clause-checks
returns-clause-checks g c = check_passes (left_ok (tree_of c.args.nodes.now c.args.expr)) g.met.I.Tokens.laws _
    (not_false _ (sym c.has_nullish_left.ensures ∙ c.if-has_nullish_left.false))
