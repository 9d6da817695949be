use Rattle.std.proofs.Common.{map, refl, sym, ap, ◌∙◌}
use Rattle.swc_ast.proofs.Equations.{array_tree, object_tree, seq_tree, member_expr_tree, super_prop_expr_tree, call_expr_tree, new_tree, opt_chain_tree, tpl_expr_tree, tagged_tree, arrow_tree}
use Rattle.swc_ast.specs.Parts.{leaf, or_hole, ident_tree, private_tree, lit_tree, paren_tree, member_tree, super_prop_tree, chain_tree, callee_tree, args_tree, item_tree, item_trees, tpl_tree, body_tree}
use Rattle.swc_ast.specs.Tree.{node, cons, nil, this, meta, invalid, unary, update, bin, cond, assign, call, new, tagged, arrow, await, yield, seq, array, object, trees}
use Rattle.swc_ast.specs.TreeOf.{expr_tree, boxed_tree, pat_tree, target_tree, prop_or_spread_tree}
use Rattle.swc_nodes.specs.NodeParts.{expr, view_ok}
use Rattle.swc_trees.proofs.Leaves.{this_tree, fn_tree, class_tree, meta_tree, private_expr_tree, ident_expr_tree, lit_expr_tree, invalid_tree, unary_tree, update_tree, bin_tree, assign_tree, cond_tree, paren_expr_tree, await_tree, yield_tree}
use Rattle.swc_trees.proofs.Whole.{some-out, same-some, fn-out, class-out, arrow-out}
use Rattle.swc_trees.proofs.Splits.{split-is, split-none, split-one, split-tree}
use Rattle.swc_trees.proofs.Agreed.{read-two, read-three, read-four}
use Rattle.swc_trees.proofs.splitting.split_expr.Goals as goal

pub unwrap-requires : goal.unwrap-requires
unwrap-requires g c = some-out (c.fn_expr.ensures c.in-Fn.field-0 (c.replace.ensures.value ∙ c.in-Fn.is))

pub returns-in-Fn : goal.returns-in-Fn
returns-in-Fn g c =
    let is = fn-out c.args.expr.now c.in-Fn.field-0 c.unwrap.result c.fn_expr.result c.in-Fn.is
    (c.fn_expr.ensures c.in-Fn.field-0 (c.replace.ensures.value ∙ c.in-Fn.is)) c.unwrap.ensures in
    split-none refl (λ at. record {
      stands =
          sym (ap (expr_tree _ _ _ g.F.Spanned.place g.C.Spanned.place g.K.Spanned.place) is
          ∙ fn_tree _ _ _ g.F.Spanned.place g.C.Spanned.place g.K.Spanned.place c.unwrap.result);
      view = refl;
    })

pub unwrap-requires-in-Class : goal.unwrap-requires-in-Class
unwrap-requires-in-Class g c = some-out (c.class.ensures c.in-Class.field-0
    (c.replace-in-Class.ensures.value ∙ c.in-Class.is))

pub returns-in-Class : goal.returns-in-Class
returns-in-Class g c =
    let is = class-out c.args.expr.now c.in-Class.field-0 c.unwrap-in-Class.result c.class.result c.in-Class.is
    (c.class.ensures c.in-Class.field-0 (c.replace-in-Class.ensures.value ∙ c.in-Class.is)) c.unwrap-in-Class.ensures in
    split-none refl (λ at. record {
      stands =
          sym (ap (expr_tree _ _ _ g.F.Spanned.place g.C.Spanned.place g.K.Spanned.place) is
          ∙ class_tree _ _ _ g.F.Spanned.place g.C.Spanned.place g.K.Spanned.place c.unwrap-in-Class.result);
      view = refl;
    })

pub unwrap-is_async-requires : goal.unwrap-is_async-requires
unwrap-is_async-requires g c = some-out (c.arrow_head.ensures c.in-Arrow.span c.in-Arrow.params c.in-Arrow.body
    c.in-Arrow.is_async c.in-Arrow.is)

pub unwrap-params-requires : goal.unwrap-params-requires
unwrap-params-requires g c = some-out (c.arrow.ensures c.in-Arrow.span c.in-Arrow.params c.in-Arrow.is_async
    c.in-Arrow.body (c.replace-in-Arrow.ensures.value ∙ c.in-Arrow.is))

pub returns-in-Arrow : goal.returns-in-Arrow
returns-in-Arrow g c =
    let boxed = boxed_tree _ _ _ g.F.Spanned.place g.C.Spanned.place g.K.Spanned.place in
    let pat = pat_tree _ _ _ g.F.Spanned.place g.C.Spanned.place g.K.Spanned.place in
    let params = c.unwrap-params.result.0 in
    let body = c.unwrap-params.result.1 in
    let head = same-some (sym c.unwrap-is_async.ensures ∙ c.arrow_head.ensures c.in-Arrow.span c.in-Arrow.params
    c.in-Arrow.body c.in-Arrow.is_async c.in-Arrow.is) in
    let is = arrow-out c.args.expr.now c.in-Arrow.span c.in-Arrow.params params c.in-Arrow.body body c.in-Arrow.is_async
    c.arrow.result c.in-Arrow.is
    (c.arrow.ensures c.in-Arrow.span c.in-Arrow.params c.in-Arrow.is_async c.in-Arrow.body
    (c.replace-in-Arrow.ensures.value ∙ c.in-Arrow.is)) c.unwrap-params.ensures in
    split-tree c.split_arrow.ensures
    (ap (λ h. node (arrow h.1) h.0 (cons (body_tree g.K.Spanned.place boxed body.value) (trees (map pat params.items))))
    head
    ∙ sym (ap (expr_tree _ _ _ g.F.Spanned.place g.C.Spanned.place g.K.Spanned.place) is
    ∙ arrow_tree _ _ _ g.F.Spanned.place g.C.Spanned.place g.K.Spanned.place c.in-Arrow.span params body
    c.in-Arrow.is_async))

pub returns-in-Update : goal.returns-in-Update
returns-in-Update g c = split-tree c.split_update.ensures
    (read-four (λ v0 v1 v2 v3. node (update v1 v2) v0 (cons
    ((boxed_tree _ _ _ g.F.Spanned.place g.C.Spanned.place g.K.Spanned.place) v3) nil)) c.in-Update.span-is
    c.in-Update.op-is c.in-Update.prefix-is c.in-Update.arg-is ∙ sym
    (ap (expr_tree _ _ _ g.F.Spanned.place g.C.Spanned.place g.K.Spanned.place) c.in-Update.is
    ∙ update_tree _ _ _ g.F.Spanned.place g.C.Spanned.place g.K.Spanned.place c.in-Update.span c.in-Update.op
    c.in-Update.prefix c.in-Update.arg))

pub returns-in-Yield : goal.returns-in-Yield
returns-in-Yield g c = split-tree c.split_yield.ensures
    (read-three (λ v0 v1 v2. node (yield v2) v0
    (cons (or_hole (boxed_tree _ _ _ g.F.Spanned.place g.C.Spanned.place g.K.Spanned.place) v1) nil)) c.in-Yield.span-is
    c.in-Yield.arg-is c.in-Yield.delegate-is ∙ sym (ap
    (expr_tree _ _ _ g.F.Spanned.place g.C.Spanned.place g.K.Spanned.place) c.in-Yield.is
    ∙ yield_tree _ _ _ g.F.Spanned.place g.C.Spanned.place g.K.Spanned.place c.in-Yield.span c.in-Yield.arg
    c.in-Yield.delegate))

pub returns-in-Bin : goal.returns-in-Bin
returns-in-Bin g c = split-tree c.split_bin.ensures (read-four
    (λ v0 v1 v2 v3. node (bin v1) v0 (cons ((boxed_tree _ _ _ g.F.Spanned.place g.C.Spanned.place g.K.Spanned.place) v2)
    (cons ((boxed_tree _ _ _ g.F.Spanned.place g.C.Spanned.place g.K.Spanned.place) v3) nil))) c.in-Bin.span-is
    c.in-Bin.op-is c.in-Bin.left-is c.in-Bin.right-is ∙ sym
    (ap (expr_tree _ _ _ g.F.Spanned.place g.C.Spanned.place g.K.Spanned.place) c.in-Bin.is
    ∙ bin_tree _ _ _ g.F.Spanned.place g.C.Spanned.place g.K.Spanned.place c.in-Bin.span c.in-Bin.op c.in-Bin.left
    c.in-Bin.right))

pub returns-in-Cond : goal.returns-in-Cond
returns-in-Cond g c = split-tree c.split_cond.ensures (read-four
    (λ v0 v1 v2 v3. node cond v0 (cons ((boxed_tree _ _ _ g.F.Spanned.place g.C.Spanned.place g.K.Spanned.place) v1)
    (cons ((boxed_tree _ _ _ g.F.Spanned.place g.C.Spanned.place g.K.Spanned.place) v2)
    (cons ((boxed_tree _ _ _ g.F.Spanned.place g.C.Spanned.place g.K.Spanned.place) v3) nil)))) c.in-Cond.span-is
    c.in-Cond.test-is c.in-Cond.cons-is c.in-Cond.alt-is ∙ sym
    (ap (expr_tree _ _ _ g.F.Spanned.place g.C.Spanned.place g.K.Spanned.place) c.in-Cond.is
    ∙ cond_tree _ _ _ g.F.Spanned.place g.C.Spanned.place g.K.Spanned.place c.in-Cond.span c.in-Cond.test c.in-Cond.cons
    c.in-Cond.alt))

pub returns-in-Assign : goal.returns-in-Assign
returns-in-Assign g c = split-tree c.split_assign.ensures
    (read-four (λ v0 v1 v2 v3. node (assign v1) v0 (cons
    ((target_tree _ _ _ g.F.Spanned.place g.C.Spanned.place g.K.Spanned.place) v2)
    (cons ((boxed_tree _ _ _ g.F.Spanned.place g.C.Spanned.place g.K.Spanned.place) v3) nil))) c.in-Assign.span-is
    c.in-Assign.op-is c.in-Assign.left-is c.in-Assign.right-is ∙ sym
    (ap (expr_tree _ _ _ g.F.Spanned.place g.C.Spanned.place g.K.Spanned.place) c.in-Assign.is
    ∙ assign_tree _ _ _ g.F.Spanned.place g.C.Spanned.place g.K.Spanned.place c.in-Assign.span c.in-Assign.op
    c.in-Assign.left c.in-Assign.right))

pub returns-in-This : goal.returns-in-This
returns-in-This g c = split-none refl (λ at. record {
  stands =
      ap (λ v0. leaf this v0.span) c.in-This.e-is ∙ sym (ap
      (expr_tree _ _ _ g.F.Spanned.place g.C.Spanned.place g.K.Spanned.place) c.in-This.is
      ∙ this_tree _ _ _ g.F.Spanned.place g.C.Spanned.place g.K.Spanned.place c.in-This.e);
  view = refl;
})

pub returns-in-MetaProp : goal.returns-in-MetaProp
returns-in-MetaProp g c = split-none refl (λ at. record {
  stands =
      ap (λ v. leaf (meta v.kind) v.span) c.taken_meta.ensures
      ∙ (ap (λ v0. leaf (meta v0.kind) v0.span) c.in-MetaProp.m-is ∙ sym
      (ap (expr_tree _ _ _ g.F.Spanned.place g.C.Spanned.place g.K.Spanned.place) c.in-MetaProp.is
      ∙ meta_tree _ _ _ g.F.Spanned.place g.C.Spanned.place g.K.Spanned.place c.in-MetaProp.m));
  view = refl;
})

pub returns-in_ok-taken_private-in-PrivateName : goal.returns-in_ok-taken_private-in-PrivateName
returns-in_ok-taken_private-in-PrivateName g c = split-none refl
    (λ at. record {
      stands = ap (λ v. private_tree v) c.in_ok-taken_private-in-PrivateName.ensures
          ∙ (ap (λ v0. private_tree v0) c.in-PrivateName.p-is ∙ sym
          (ap (expr_tree _ _ _ g.F.Spanned.place g.C.Spanned.place g.K.Spanned.place) c.in-PrivateName.is
          ∙ private_expr_tree _ _ _ g.F.Spanned.place g.C.Spanned.place g.K.Spanned.place c.in-PrivateName.p));
      view = refl;
    })

pub returns-in_ok-taken_ident-in-Ident : goal.returns-in_ok-taken_ident-in-Ident
returns-in_ok-taken_ident-in-Ident g c = split-none refl
    (λ at. record {
      stands = ap (λ v. ident_tree v) c.in_ok-taken_ident-in-Ident.ensures
          ∙ (ap (λ v0. ident_tree v0) c.in-Ident.i-is ∙ sym (ap
          (expr_tree _ _ _ g.F.Spanned.place g.C.Spanned.place g.K.Spanned.place) c.in-Ident.is
          ∙ ident_expr_tree _ _ _ g.F.Spanned.place g.C.Spanned.place g.K.Spanned.place c.in-Ident.i));
      view = refl;
    })

pub returns-in-Lit : goal.returns-in-Lit
returns-in-Lit g c = split-none c.lit_node.ensures.slots
    (λ at. record {
      stands = c.lit_node.ensures.tree at ∙ ap lit_tree c.taken_lit.ensures
          ∙ (ap (λ v0. lit_tree v0) c.in-Lit.l-is ∙ sym
          (ap (expr_tree _ _ _ g.F.Spanned.place g.C.Spanned.place g.K.Spanned.place) c.in-Lit.is
          ∙ lit_expr_tree _ _ _ g.F.Spanned.place g.C.Spanned.place g.K.Spanned.place c.in-Lit.l));
      view =
          ap (view_ok expr) c.lit_node.ensures.form;
    })

pub returns-in-Invalid : goal.returns-in-Invalid
returns-in-Invalid g c = split-none refl (λ at. record {
  stands =
      ap (λ v0. leaf invalid v0.span) c.in-Invalid.i-is ∙ sym
      (ap (expr_tree _ _ _ g.F.Spanned.place g.C.Spanned.place g.K.Spanned.place) c.in-Invalid.is
      ∙ invalid_tree _ _ _ g.F.Spanned.place g.C.Spanned.place g.K.Spanned.place c.in-Invalid.i);
  view = refl;
})

pub returns-in-Array : goal.returns-in-Array
returns-in-Array g c = split-tree c.split_array.ensures
    (read-two (λ v0 v1. node array v0
    (trees (map (or_hole (item_tree (boxed_tree _ _ _ g.F.Spanned.place g.C.Spanned.place g.K.Spanned.place)))
    v1.items))) c.in-Array.span-is c.in-Array.elems-is ∙ sym
    (ap (expr_tree _ _ _ g.F.Spanned.place g.C.Spanned.place g.K.Spanned.place) c.in-Array.is
    ∙ array_tree _ _ _ g.F.Spanned.place g.C.Spanned.place g.K.Spanned.place c.in-Array.span c.in-Array.elems))

pub returns-in-Object : goal.returns-in-Object
returns-in-Object g c = split-tree c.split_object.ensures
    (read-two (λ v0 v1. node object v0
    (trees (map (prop_or_spread_tree _ _ _ g.F.Spanned.place g.C.Spanned.place g.K.Spanned.place) v1.items)))
    c.in-Object.span-is c.in-Object.props-is ∙ sym (ap
    (expr_tree _ _ _ g.F.Spanned.place g.C.Spanned.place g.K.Spanned.place) c.in-Object.is
    ∙ object_tree _ _ _ g.F.Spanned.place g.C.Spanned.place g.K.Spanned.place c.in-Object.span c.in-Object.props))

pub returns-in-Seq : goal.returns-in-Seq
returns-in-Seq g c = split-tree c.split_seq.ensures (read-two
    (λ v0 v1. node seq v0 (trees (map (boxed_tree _ _ _ g.F.Spanned.place g.C.Spanned.place g.K.Spanned.place)
    v1.items))) c.in-Seq.span-is c.in-Seq.exprs-is ∙ sym
    (ap (expr_tree _ _ _ g.F.Spanned.place g.C.Spanned.place g.K.Spanned.place) c.in-Seq.is
    ∙ seq_tree _ _ _ g.F.Spanned.place g.C.Spanned.place g.K.Spanned.place c.in-Seq.span c.in-Seq.exprs))

pub returns-in_ok-split_paren-in-Paren : goal.returns-in_ok-split_paren-in-Paren
returns-in_ok-split_paren-in-Paren g c = split-one c.in_ok-split_paren-in-Paren.ensures refl
    (λ at e. record {
      stands = e ∙ (ap (λ v0. paren_tree
          (boxed_tree _ _ _ g.F.Spanned.place g.C.Spanned.place g.K.Spanned.place) v0) c.in-Paren.p-is ∙ sym
          (ap (expr_tree _ _ _ g.F.Spanned.place g.C.Spanned.place g.K.Spanned.place) c.in-Paren.is
          ∙ paren_expr_tree _ _ _ g.F.Spanned.place g.C.Spanned.place g.K.Spanned.place c.in-Paren.p));
      view = refl;
    })

pub returns-in_ok-split_member-in-Member : goal.returns-in_ok-split_member-in-Member
returns-in_ok-split_member-in-Member g c = split-one c.in_ok-split_member-in-Member.ensures refl
    (λ at e. record {
      stands = e ∙ (ap (λ v0. member_tree
          (boxed_tree _ _ _ g.F.Spanned.place g.C.Spanned.place g.K.Spanned.place) v0) c.in-Member.m-is ∙ sym
          (ap (expr_tree _ _ _ g.F.Spanned.place g.C.Spanned.place g.K.Spanned.place) c.in-Member.is
          ∙ member_expr_tree _ _ _ g.F.Spanned.place g.C.Spanned.place g.K.Spanned.place c.in-Member.m));
      view = refl;
    })

pub returns-in_ok-split_super_prop-in-SuperProp : goal.returns-in_ok-split_super_prop-in-SuperProp
returns-in_ok-split_super_prop-in-SuperProp g c = split-one c.in_ok-split_super_prop-in-SuperProp.ensures refl
    (λ at e. record {
      stands = e ∙ (ap (λ v0. super_prop_tree
          (boxed_tree _ _ _ g.F.Spanned.place g.C.Spanned.place g.K.Spanned.place) v0) c.in-SuperProp.p-is ∙ sym
          (ap (expr_tree _ _ _ g.F.Spanned.place g.C.Spanned.place g.K.Spanned.place) c.in-SuperProp.is
          ∙ super_prop_expr_tree _ _ _ g.F.Spanned.place g.C.Spanned.place g.K.Spanned.place c.in-SuperProp.p));
      view =
          refl;
    })

pub returns-in_ok-split_chain-in-OptChain : goal.returns-in_ok-split_chain-in-OptChain
returns-in_ok-split_chain-in-OptChain g c = split-one c.in_ok-split_chain-in-OptChain.ensures refl
    (λ at e. record {
      stands = e ∙ (ap (λ v0. chain_tree
          (boxed_tree _ _ _ g.F.Spanned.place g.C.Spanned.place g.K.Spanned.place) v0) c.in-OptChain.c-is ∙ sym
          (ap (expr_tree _ _ _ g.F.Spanned.place g.C.Spanned.place g.K.Spanned.place) c.in-OptChain.is
          ∙ opt_chain_tree _ _ _ g.F.Spanned.place g.C.Spanned.place g.K.Spanned.place c.in-OptChain.c));
      view = refl;
    })

pub returns-in_ok-boxed-in-Tpl : goal.returns-in_ok-boxed-in-Tpl
returns-in_ok-boxed-in-Tpl g c = split-one (split-is c.split_tpl.ensures c.in_ok-boxed-in-Tpl.ensures) refl
    (λ at e. record {
      stands = e ∙ (ap (λ v0. tpl_tree
          (boxed_tree _ _ _ g.F.Spanned.place g.C.Spanned.place g.K.Spanned.place) v0) c.in-Tpl.t-is ∙ sym
          (ap (expr_tree _ _ _ g.F.Spanned.place g.C.Spanned.place g.K.Spanned.place) c.in-Tpl.is
          ∙ tpl_expr_tree _ _ _ g.F.Spanned.place g.C.Spanned.place g.K.Spanned.place c.in-Tpl.t));
      view = refl;
    })

pub returns-in-Unary : goal.returns-in-Unary
returns-in-Unary g c = split-tree c.split_unary.ensures
    (read-three (λ v0 v1 v2. node (unary v1) v0
    (cons ((boxed_tree _ _ _ g.F.Spanned.place g.C.Spanned.place g.K.Spanned.place) v2) nil)) c.in-Unary.span-is
    c.in-Unary.op-is c.in-Unary.arg-is ∙ sym (ap (expr_tree _ _ _ g.F.Spanned.place g.C.Spanned.place g.K.Spanned.place)
    c.in-Unary.is ∙ unary_tree _ _ _ g.F.Spanned.place g.C.Spanned.place g.K.Spanned.place c.in-Unary.span c.in-Unary.op
    c.in-Unary.arg))

pub returns-in-Await : goal.returns-in-Await
returns-in-Await g c = split-tree c.split_await.ensures
    (read-two (λ v0 v1. node await v0
    (cons ((boxed_tree _ _ _ g.F.Spanned.place g.C.Spanned.place g.K.Spanned.place) v1) nil)) c.in-Await.span-is
    c.in-Await.arg-is ∙ sym (ap (expr_tree _ _ _ g.F.Spanned.place g.C.Spanned.place g.K.Spanned.place) c.in-Await.is
    ∙ await_tree _ _ _ g.F.Spanned.place g.C.Spanned.place g.K.Spanned.place c.in-Await.span c.in-Await.arg))

pub returns-in-Call : goal.returns-in-Call
returns-in-Call g c = split-tree c.split_call.ensures (read-three
    (λ v0 v1 v2. node call v0 (cons (callee_tree (boxed_tree _ _ _ g.F.Spanned.place g.C.Spanned.place
    g.K.Spanned.place) v1) (item_trees (boxed_tree _ _ _ g.F.Spanned.place g.C.Spanned.place g.K.Spanned.place)
    v2.items))) c.in-Call.span-is c.in-Call.callee-is c.in-Call.args-is ∙ sym
    (ap (expr_tree _ _ _ g.F.Spanned.place g.C.Spanned.place g.K.Spanned.place) c.in-Call.is
    ∙ call_expr_tree _ _ _ g.F.Spanned.place g.C.Spanned.place g.K.Spanned.place c.in-Call.span c.in-Call.callee
    c.in-Call.args))

pub returns-in-New : goal.returns-in-New
returns-in-New g c = split-tree c.split_new.ensures (read-three
    (λ v0 v1 v2. node new v0 (cons ((boxed_tree _ _ _ g.F.Spanned.place g.C.Spanned.place g.K.Spanned.place) v1)
    (cons (or_hole (args_tree (boxed_tree _ _ _ g.F.Spanned.place g.C.Spanned.place g.K.Spanned.place)) v2) nil)))
    c.in-New.span-is c.in-New.callee-is c.in-New.args-is ∙ sym
    (ap (expr_tree _ _ _ g.F.Spanned.place g.C.Spanned.place g.K.Spanned.place) c.in-New.is
    ∙ new_tree _ _ _ g.F.Spanned.place g.C.Spanned.place g.K.Spanned.place c.in-New.span c.in-New.callee c.in-New.args))

pub returns-in-TaggedTpl : goal.returns-in-TaggedTpl
returns-in-TaggedTpl g c = split-tree c.split_tagged.ensures
    (read-three (λ v0 v1 v2. node tagged v0
    (cons ((boxed_tree _ _ _ g.F.Spanned.place g.C.Spanned.place g.K.Spanned.place) v1)
    (cons (tpl_tree (boxed_tree _ _ _ g.F.Spanned.place g.C.Spanned.place g.K.Spanned.place) v2.value) nil)))
    c.in-TaggedTpl.span-is c.in-TaggedTpl.tag-is c.in-TaggedTpl.tpl-is ∙ sym
    (ap (expr_tree _ _ _ g.F.Spanned.place g.C.Spanned.place g.K.Spanned.place) c.in-TaggedTpl.is
    ∙ tagged_tree _ _ _ g.F.Spanned.place g.C.Spanned.place g.K.Spanned.place c.in-TaggedTpl.span c.in-TaggedTpl.tag
    c.in-TaggedTpl.tpl))
