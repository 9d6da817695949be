use Rattle.std.proofs.Common.{ap}
use Rattle.swc_ast.specs.Tree.{call, node}
use Rattle.swc_nodes.specs.NodeParts.{one_expr, args_parts}
use Rattle.swc_trees.proofs.Assembled.{offers-first, offers-second, made-two}
use Rattle.swc_trees.proofs.Agreed.{headed}
use Rattle.swc_trees.proofs.pieces.chain_base.Goals as goal

pub all-requires : goal.all-requires
all-requires g c =
    offers-second (one_expr c.in-Call.call.callee) (args_parts c.in-Call.call.args) (rw c.in-Call.is at c.requires)

pub pop_expr-callee-requires : goal.pop_expr-callee-requires
pop_expr-callee-requires g c =
    offers-first (one_expr c.in-Call.call.callee) (args_parts c.in-Call.call.args)
    (rw c.in-Call.is at c.requires) c.in_ok-args-in-Call.ensures

pub returns-in_ok-args-in-Call : goal.returns-in_ok-args-in-Call
returns-in_ok-args-in-Call g c =
    rw c.in-Call.is (made-two (one_expr c.in-Call.call.callee)
    (args_parts c.in-Call.call.args) c.in_ok-args-in-Call.ensures c.pop_expr-callee.ensures
    (λ at e f. ap (node call c.in-Call.call.span) (headed e f)))
