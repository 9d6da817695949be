use Rattle.std.proofs.Common.{[], ◌∷◌, ap, ◌∙◌}
use Rattle.swc_trees.proofs.Leaves.{bin_tree, assign_tree}
use Rattle.swc_trees.proofs.Assembled.{offers-is, offers-first, offers-second, made-one, made-two, made-is}
use Rattle.swc_trees.proofs.Agreed.{two}
use Rattle.swc_ast.specs.Tree.{bin, assign, node}
use Rattle.swc_nodes.specs.NodeParts.{one_expr, target_part}
use Rattle.swc_trees.proofs.assembling.assemble_choice.Goals as goal

pub pop_expr-right-requires : goal.pop_expr-right-requires
pop_expr-right-requires g c =
    offers-second (one_expr c.in-Bin.left) (one_expr c.in-Bin.right) (offers-is c.in-Bin.is c.requires.offers)

pub pop_expr-left-requires : goal.pop_expr-left-requires
pop_expr-left-requires g c =
    offers-first (one_expr c.in-Bin.left) (one_expr c.in-Bin.right)
    (offers-is c.in-Bin.is c.requires.offers) c.pop_expr-right.ensures

pub returns-in-Bin : goal.returns-in-Bin
returns-in-Bin g c =
    made-is _ c.in-Bin.is (made-two (one_expr c.in-Bin.left)
    (one_expr c.in-Bin.right) c.pop_expr-right.ensures c.pop_expr-left.ensures
    (λ at e f. bin_tree _ _ _ g.F.Spanned.place g.C.Spanned.place g.K.Spanned.place c.in-Bin.span c.in-Bin.op
    c.pop_expr-left.result c.pop_expr-right.result ∙ ap (node (bin c.in-Bin.op) c.in-Bin.span) (two e f)))

pub pop_expr-right-requires-in-Assign : goal.pop_expr-right-requires-in-Assign
pop_expr-right-requires-in-Assign g c =
    offers-second (target_part c.in-Assign.left ∷ []) (one_expr c.in-Assign.right)
    (offers-is c.in-Assign.is c.requires.offers)

pub pop_target-left-requires : goal.pop_target-left-requires
pop_target-left-requires g c =
    offers-first (target_part c.in-Assign.left ∷ []) (one_expr c.in-Assign.right)
    (offers-is c.in-Assign.is c.requires.offers) c.pop_expr-right-in-Assign.ensures

pub returns-in-Assign : goal.returns-in-Assign
returns-in-Assign g c =
    made-is _ c.in-Assign.is (made-two (target_part c.in-Assign.left ∷ [])
    (one_expr c.in-Assign.right) c.pop_expr-right-in-Assign.ensures c.pop_target-left.ensures
    (λ at e f. assign_tree _ _ _ g.F.Spanned.place g.C.Spanned.place g.K.Spanned.place c.in-Assign.span
    c.in-Assign.op c.pop_target-left.result c.pop_expr-right-in-Assign.result ∙ ap
    (node (assign c.in-Assign.op) c.in-Assign.span) (two e f)))

pub conditional-requires : goal.conditional-requires
conditional-requires g c = offers-is c.in-Cond.is c.requires.offers

pub returns-in-Cond : goal.returns-in-Cond
returns-in-Cond g c = made-is _ c.in-Cond.is (made-one c.conditional.ensures (λ at e. e))
