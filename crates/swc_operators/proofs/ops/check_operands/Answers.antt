use Rattle.std.proofs.Common.{◌∙◌, sym}
use Rattle.swc_ast.specs.Trees.{is_logical, nullish_ok}
use Rattle.swc_steps.specs.Parsing.{tree_of}
use Rattle.swc_steps.proofs.{Steps.check_passes, Steps.check_later, Rules.nullish_other, Rules.nullish_both}
use Rattle.swc_operators.proofs.ops.check_operands.Goals as goal

pub returns-then-not-is_nullish_op-clause-checks : goal.returns-then-not-is_nullish_op-clause-checks
returns-then-not-is_nullish_op-clause-checks g c = check_passes
    (nullish_ok c.args.op (tree_of c.args.nodes.now c.args.left) (tree_of c.args.nodes.now c.args.right))
    g.met.I.Tokens.laws _
    (nullish_other c.args.op (tree_of c.args.nodes.now c.args.left) (tree_of c.args.nodes.now c.args.right)
    (sym c.is_nullish_op.ensures ∙ c.if-not-is_nullish_op.true))

pub returns-clause-checks : goal.returns-clause-checks
returns-clause-checks g c =
    rw (nullish_both c.args.op (tree_of c.args.nodes.now c.args.left) (tree_of c.args.nodes.now c.args.right)
    (sym c.is_nullish_op.ensures ∙ c.if-not-is_nullish_op.false))
    (check_later g.I.Tokens.model (is_logical (tree_of c.args.nodes.now c.args.left))
    (is_logical (tree_of c.args.nodes.now c.args.right)) _ _ _ c.check_logical_operand-2.result
    c.in_ok-check_logical_operand.ensures.checks c.check_logical_operand-2.ensures.checks)
