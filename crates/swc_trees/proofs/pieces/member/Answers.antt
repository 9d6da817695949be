use Rattle.std.proofs.Common.{ap}
use Rattle.swc_ast.specs.Tree.{node, member}
use Rattle.swc_nodes.specs.NodeParts.{one_expr, member_parts}
use Rattle.swc_trees.proofs.Assembled.{offers-first, offers-second, made-two}
use Rattle.swc_trees.proofs.Agreed.{two}
use Rattle.swc_trees.proofs.pieces.member.Goals as goal

pub member_prop-prop-requires : goal.member_prop-prop-requires
member_prop-prop-requires g c = offers-second (one_expr c.args.member.obj) (member_parts c.args.member.prop) c.requires

pub pop_expr-obj-requires : goal.pop_expr-obj-requires
pop_expr-obj-requires g c = offers-first (one_expr c.args.member.obj)
    (member_parts c.args.member.prop) c.requires c.member_prop-prop.ensures

pub returns : goal.returns
returns g c =
    made-two (one_expr c.args.member.obj) (member_parts c.args.member.prop) c.member_prop-prop.ensures
    c.pop_expr-obj.ensures
    (λ at e f. ap (node member c.args.member.span) (two e f))
