use Rattle.std.proofs.Common.{◌≡◌, Ok, refl, sym, ap, ◌∙◌}
use Rattle.swc_ast.proofs.Equations.{call_expr_tree, new_tree, tagged_tree, arrow_tree}
use Rattle.swc_ast.specs.Tree.{call, new, tagged, arrow, node}
use Rattle.swc_ast.specs.{Parts.body_tree, TreeOf.boxed_tree}
use Rattle.swc_nodes.specs.NodeParts.{flat, if_some, one_expr, one_pat, args_parts, body_parts, callee_parts}
use Rattle.swc_trees.proofs.Assembled.{offers-along, offers-is, offers-first, offers-second, made-none, made-two, made-is, ok-is, ok-of}
use Rattle.swc_trees.proofs.Leaves.{invalid_tree}
use Rattle.swc_trees.proofs.Agreed.{two, headed}
use Rattle.swc_trees.proofs.assembling.assemble_call.Goals as goal

pub all-requires : goal.all-requires
all-requires g c =
    offers-second (callee_parts c.in-Call.callee) (args_parts c.in-Call.args) (offers-is c.in-Call.is c.requires.offers)

pub pop_callee-callee-requires : goal.pop_callee-callee-requires
pop_callee-callee-requires g c =
    offers-first (callee_parts c.in-Call.callee) (args_parts c.in-Call.args)
    (offers-is c.in-Call.is c.requires.offers) c.in_ok-args-in-Call.ensures

pub returns-in_ok-args-in-Call : goal.returns-in_ok-args-in-Call
returns-in_ok-args-in-Call g c =
    made-is _ c.in-Call.is (made-two (callee_parts c.in-Call.callee)
    (args_parts c.in-Call.args) c.in_ok-args-in-Call.ensures c.pop_callee-callee.ensures
    (λ at e f. call_expr_tree _ _ _ g.F.Spanned.place g.C.Spanned.place g.K.Spanned.place c.in-Call.span
    c.pop_callee-callee.result c.in_ok-args-in-Call.args ∙ ap (node call c.in-Call.span) (headed e f)))

pub args_if_some-requires : goal.args_if_some-requires
args_if_some-requires g c =
    offers-second (one_expr c.in-New.callee) (if_some args_parts c.in-New.args)
    (offers-is c.in-New.is c.requires.offers)

pub pop_expr-callee-requires : goal.pop_expr-callee-requires
pop_expr-callee-requires g c =
    offers-first (one_expr c.in-New.callee) (if_some args_parts c.in-New.args)
    (offers-is c.in-New.is c.requires.offers) c.in_ok-args-in-New.ensures

pub returns-in_ok-args-in-New : goal.returns-in_ok-args-in-New
returns-in_ok-args-in-New g c =
    made-is _ c.in-New.is (made-two (one_expr c.in-New.callee)
    (if_some args_parts c.in-New.args) c.in_ok-args-in-New.ensures c.pop_expr-callee.ensures
    (λ at e f. new_tree _ _ _ g.F.Spanned.place g.C.Spanned.place g.K.Spanned.place c.in-New.span
    c.pop_expr-callee.result c.in_ok-args-in-New.args ∙ ap (node new c.in-New.span) (two e f)))

pub template-requires : goal.template-requires
template-requires g c =
    offers-along (λ q. flat one_expr q.exprs.items) c.into_inner.ensures
    (offers-second (one_expr c.in-TaggedTpl.tag) (flat one_expr c.in-TaggedTpl.tpl.value.exprs.items)
    (offers-is c.in-TaggedTpl.is c.requires.offers))

pub pop_expr-tag-requires : goal.pop_expr-tag-requires
pop_expr-tag-requires g c =
    offers-first (one_expr c.in-TaggedTpl.tag) (flat one_expr c.in-TaggedTpl.tpl.value.exprs.items)
    (offers-is c.in-TaggedTpl.is c.requires.offers)
    (rw c.into_inner.ensures at (ok-of _ _ c.in_ok-tpl-in-TaggedTpl.tpl.value c.in_ok-tpl-in-TaggedTpl.ensures
    c.template.ensures))

pub returns-in_ok-tpl-in-TaggedTpl : goal.returns-in_ok-tpl-in-TaggedTpl
returns-in_ok-tpl-in-TaggedTpl g c =
    made-is _ c.in-TaggedTpl.is (made-two (one_expr c.in-TaggedTpl.tag)
    (flat one_expr c.in-TaggedTpl.tpl.value.exprs.items)
    (rw c.into_inner.ensures at (ok-of _ _ c.in_ok-tpl-in-TaggedTpl.tpl.value c.in_ok-tpl-in-TaggedTpl.ensures
    c.template.ensures)) c.pop_expr-tag.ensures (λ at e f.
    tagged_tree _ _ _ g.F.Spanned.place g.C.Spanned.place g.K.Spanned.place c.in-TaggedTpl.span
    c.pop_expr-tag.result c.in_ok-tpl-in-TaggedTpl.tpl ∙ ap (node tagged c.in-TaggedTpl.span) (two e f)))

pub arrow_body-requires : goal.arrow_body-requires
arrow_body-requires g c =
    offers-along body_parts c.into_inner-in-Arrow.ensures
    (offers-second (flat one_pat c.in-Arrow.params.items) (body_parts c.in-Arrow.body.value)
    (offers-is c.in-Arrow.is c.requires.offers))

pub all-params-requires : goal.all-params-requires
all-params-requires g c =
    offers-first (flat one_pat c.in-Arrow.params.items) (body_parts c.in-Arrow.body.value)
    (offers-is c.in-Arrow.is c.requires.offers) (rw c.into_inner-in-Arrow.ensures at c.arrow_body.ensures)

pub returns-in_ok-params-in-Arrow : goal.returns-in_ok-params-in-Arrow
returns-in_ok-params-in-Arrow g c =
    let b = ok-of (λ v. Ok c.arrow_body.result ≡ Ok v.value) _ c.in_ok-params-in-Arrow.body
    c.in_ok-params-in-Arrow.ensures.1 c.boxed-body.ensures in
    let tree = body_tree g.K.Spanned.place (boxed_tree _ _ _ g.F.Spanned.place g.C.Spanned.place g.K.Spanned.place) in
    made-is _ c.in-Arrow.is (made-two (flat one_pat c.in-Arrow.params.items) (body_parts c.in-Arrow.body.value)
    (rw c.into_inner-in-Arrow.ensures at c.arrow_body.ensures)
    (ok-of _ _ c.in_ok-params-in-Arrow.params c.in_ok-params-in-Arrow.ensures.0 c.all-params.ensures)
    (λ at e f. arrow_tree _ _ _ g.F.Spanned.place g.C.Spanned.place g.K.Spanned.place c.in-Arrow.span
    c.in_ok-params-in-Arrow.params c.in_ok-params-in-Arrow.body c.in-Arrow.is_async ∙ ap
    (node (arrow c.in-Arrow.is_async) c.in-Arrow.span) (headed (sym (ap tree (ok-is _ _ _ refl b)) ∙ f) e)))

pub returns-in_default : goal.returns-in_default
returns-in_default g c =
    made-is _ (rw c.unwrap.ensures at c.into_invalid.ensures) (made-none (λ at. invalid_tree _ _ _ g.F.Spanned.place
    g.C.Spanned.place g.K.Spanned.place (record { span = c.unwrap.result.span })))
