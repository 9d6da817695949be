use Rattle.std.proofs.Common.{ap, ◌∙◌}
use Rattle.swc_trees.proofs.Leaves.{unary_tree, update_tree, await_tree, yield_tree}
use Rattle.swc_trees.proofs.Assembled.{made-one, made-is}
use Rattle.swc_ast.specs.Tree.{unary, update, await, yield, node, nil, cons}
use Rattle.swc_trees.proofs.assembling.assemble_operation.Goals as goal

pub returns-in-Unary : goal.returns-in-Unary
returns-in-Unary g c =
    made-is _ c.in-Unary.is (made-one c.pop_expr-arg.ensures
    (λ at e. unary_tree _ _ _ g.F.Spanned.place g.C.Spanned.place g.K.Spanned.place c.in-Unary.span c.in-Unary.op
    c.pop_expr-arg.result ∙ ap (λ v. node (unary c.in-Unary.op) c.in-Unary.span (cons v nil)) e))

pub returns-in-Update : goal.returns-in-Update
returns-in-Update g c =
    made-is _ c.in-Update.is (made-one c.pop_expr-arg-in-Update.ensures
    (λ at e. update_tree _ _ _ g.F.Spanned.place g.C.Spanned.place g.K.Spanned.place c.in-Update.span c.in-Update.op
    c.in-Update.prefix c.pop_expr-arg-in-Update.result ∙ ap
    (λ v. node (update c.in-Update.op c.in-Update.prefix) c.in-Update.span (cons v nil)) e))

pub returns-in-Await : goal.returns-in-Await
returns-in-Await g c =
    made-is _ c.in-Await.is (made-one c.pop_expr-arg-in-Await.ensures
    (λ at e. await_tree _ _ _ g.F.Spanned.place g.C.Spanned.place g.K.Spanned.place c.in-Await.span
    c.pop_expr-arg-in-Await.result ∙ ap (λ v. node await c.in-Await.span (cons v nil)) e))

pub returns-in-Yield : goal.returns-in-Yield
returns-in-Yield g c =
    made-is _ c.in-Yield.is (made-one c.pop_if_some-arg.ensures
    (λ at e. yield_tree _ _ _ g.F.Spanned.place g.C.Spanned.place g.K.Spanned.place c.in-Yield.span
    c.pop_if_some-arg.result c.in-Yield.delegate ∙ ap
    (λ v. node (yield c.in-Yield.delegate) c.in-Yield.span (cons v nil)) e))
