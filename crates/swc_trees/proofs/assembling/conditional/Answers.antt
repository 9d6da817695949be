use Rattle.std.proofs.Common.{◌++◌, ap, ◌∙◌}
use Rattle.swc_trees.proofs.Leaves.{cond_tree}
use Rattle.swc_trees.proofs.Assembled.{offers-second, offers-middle, offers-last, made-three}
use Rattle.swc_trees.proofs.Agreed.{three}
use Rattle.swc_ast.specs.Tree.{cond, node}
use Rattle.swc_nodes.specs.NodeParts.{one_expr}
use Rattle.swc_trees.proofs.assembling.conditional.Goals as goal

pub pop_expr-alt-requires : goal.pop_expr-alt-requires
pop_expr-alt-requires g c =
    offers-second (one_expr c.args.test ++ one_expr c.args.consequent) (one_expr c.args.alt) c.requires

pub pop_expr-cons-requires : goal.pop_expr-cons-requires
pop_expr-cons-requires g c =
    offers-middle (one_expr c.args.test) (one_expr c.args.consequent) (one_expr c.args.alt) c.requires
    c.pop_expr-alt.ensures

pub pop_expr-test-requires : goal.pop_expr-test-requires
pop_expr-test-requires g c =
    offers-last (one_expr c.args.test) (one_expr c.args.consequent) (one_expr c.args.alt) c.requires
    c.pop_expr-alt.ensures c.pop_expr-cons.ensures

pub returns : goal.returns
returns g c =
    made-three (one_expr c.args.test) (one_expr c.args.consequent) (one_expr c.args.alt) c.pop_expr-alt.ensures
    c.pop_expr-cons.ensures c.pop_expr-test.ensures
    (λ at d e f. cond_tree _ _ _ g.F.Spanned.place g.C.Spanned.place g.K.Spanned.place c.args.span
    c.pop_expr-test.result c.pop_expr-cons.result c.pop_expr-alt.result ∙ ap (node cond c.args.span) (three d e f))
