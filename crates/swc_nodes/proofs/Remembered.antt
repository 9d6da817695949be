-- The literals of a node's tree are the node itself, if it is one, and those of its parts' trees; and what is
-- remembered of them.
use Rattle.std.proofs.Common.{◌≡◌, ℕ, ◌<◌, List, [], ◌∷◌, ◌++◌, Option, Some, None, map, refl, sym, ap, subst, ◌∙◌, append_assoc}
use Rattle.std.proofs.lemmas.List.{append-nil, map-append}
use Rattle.std.specs.{Prelude.nat_eq, Prelude.if◌then◌else◌, declared.alloc.Global.Global, declared.vec.Vec.Vec}
use Rattle.swc_context.specs.declared.span.Span.{Span}
use Rattle.swc_ast.specs.Parts.{or_hole, prop_name_tree, member_prop_tree, super_part_tree, item_of, item_tree, item_trees, args_tree, base_tree, callee_tree, quasi_tree, tpl_tree, param_tree, function_tree}
use Rattle.swc_ast.specs.{Tree.Tree, Tree.trees, declared.expr.Callee.Callee, declared.expr.Callee.Callee as callee, declared.expr.ExprOrSpread.ExprOrSpread, declared.expr.MemberProp.MemberProp, declared.expr.MemberProp.MemberProp as member_prop, declared.expr.OptChainBase.OptChainBase, declared.expr.OptChainBase.OptChainBase as base, declared.expr.SuperProp.SuperProp, declared.expr.SuperProp.SuperProp as super_part, declared.expr.Tpl.Tpl, declared.expr.TplElement.TplElement, declared.function.Function.Function, declared.prop.PropName.PropName, declared.prop.PropName.PropName as prop_name, declared.spanned.Spanned.Ghosts}
use Rattle.swc_nodes.specs.Commas.{comma_at, Literal, commas_in, commas_of_all, part_commas, node_comma, outer_parts, body_part, recalled, Recalls}
use Rattle.swc_nodes.specs.NodeTree.{target_of, prop_of, pat_prop_of, marked_tree, part_tree, pat_elem_of}
use Rattle.swc_nodes.specs.NodeParts.{Part, slots, flat, if_some, one_expr, one_pat, item_parts, args_parts, key_parts, member_parts, super_parts, callee_parts, base_parts, param_parts, prop_parts, pat_prop_parts, target_part, part_parts, pat_elem_part}
use Rattle.swc_nodes.specs.GrowingNodes.{count, seat_before, tree_at, Stood}
use Rattle.swc_nodes.specs.{Walking.part_of, declared.apart.PartId.PartId, declared.commas.TrailingCommas.TrailingCommas, declared.node.ExprId.ExprId, declared.node.PatId.PatId, declared.node.Node.Node, declared.node.Node.Node as n, declared.node.PatPropNode.PatPropNode, declared.node.PatPropNode.PatPropNode as pat_prop, declared.node.PropNode.PropNode, declared.node.PropNode.PropNode as prop, declared.node.TargetNode.TargetNode, declared.node.TargetNode.TargetNode as target, declared.nodes.Nodes.Nodes, declared.node.PatElem.PatElem, declared.node.PatElem.PatElem as elem, declared.node.PatPart.PatPart, declared.node.PatPart.PatPart as of_pat}
use Rattle.swc_nodes.proofs.Lists.{SameTrees, same_first, same_rest, same-front, stood-trees}

module _ {F C K : Type 0} (at : ℕ → Tree F C K) where
  abbrev commas_by : List Part → List Literal
  commas_by = part_commas at

  pub part-append : (ps qs : List Part) → commas_by (ps ++ qs) ≡ commas_by qs ++ commas_by ps
  part-append [] qs = sym (append-nil (commas_by qs))
  part-append (p ∷ ps) qs =
      ap (λ v. v ++ commas_in (at p.at)) (part-append ps qs) ∙ append_assoc (commas_by qs) (commas_by ps)
      (commas_in (at p.at))

  -- two parts of a tree, one after another
  both : (ps qs : List Part) (x y : List Literal) → x ≡ commas_by ps → y ≡ commas_by qs → y ++ x ≡ commas_by (ps ++ qs)
  both ps qs x y d e = ap (λ v. y ++ v) d ∙ ap (λ v. v ++ commas_by ps) e ∙ sym (part-append ps qs)

  -- lists of parts
  listed : {X : Type 0} (f : X → Tree F C K) (parts : X → List Part) → ((x : X) → commas_in (f x) ≡ commas_by (parts x))
      → (xs : List X)
      → commas_of_all (trees (map f xs)) ≡ commas_by (flat parts xs)
  listed f parts same [] = refl
  listed f parts same (x ∷ xs) = both (parts x) (flat parts xs) _ _ (same x) (listed f parts same xs)

  texts : {X : Type 0} (f : X → Tree F C K) (parts : X → List Part) → ((x : X) → commas_in (f x) ≡ commas_by (parts x))
      → (qs : List TplElement) (xs : List X) → commas_of_all (trees (map quasi_tree qs ++ map f xs)) ≡ commas_by
      (flat parts xs)
  texts f parts same [] xs = listed f parts same xs
  texts f parts same (q ∷ qs) xs = append-nil (commas_of_all (trees (map quasi_tree qs ++ map f xs)))
      ∙ texts f parts same qs xs

  module _ {X : Type 0} (f : X → Tree F C K) (parts : X → List Part)
      (same : (x : X) → commas_in (f x) ≡ commas_by (parts x)) where
    if_there : (o : Option X) → commas_in (or_hole f o) ≡ commas_by (if_some parts o)
    if_there None = refl
    if_there (Some x) = same x

    item_same : (o : Option Span) (x : X) → commas_in (item_of o (f x)) ≡ commas_by (parts x)
    item_same None x = same x
    item_same (Some s) x = append-nil (commas_in (f x)) ∙ same x

  abbrev expr : ExprId → Tree F C K
  expr e = at e.0

  abbrev pat : PatId → Tree F C K
  pat p = at p.0

  expr_same : (e : ExprId) → commas_in (expr e) ≡ commas_by (one_expr e)
  expr_same e = refl

  pat_same : (p : PatId) → commas_in (pat p) ≡ commas_by (one_pat p)
  pat_same p = refl

  an_item : (x : ExprOrSpread ExprId) → commas_in (item_tree expr x) ≡ commas_by (item_parts x)
  an_item x = item_same expr one_expr expr_same x.spread x.expr

  items : (xs : List (ExprOrSpread ExprId)) → commas_of_all (item_trees expr xs) ≡ commas_by (flat item_parts xs)
  items = listed (item_tree expr) item_parts an_item

  pub args-commas : (xs : Vec (ExprOrSpread ExprId) Global) → commas_in (args_tree expr xs) ≡ commas_by (args_parts xs)
  args-commas xs = items xs.items

  pub key-commas : (k : PropName ExprId) → commas_in (prop_name_tree expr k) ≡ commas_by (key_parts k)
  key-commas (prop_name.Computed c) = refl
  key-commas (prop_name.Ident i) = refl
  key-commas (prop_name.Str s) = refl
  key-commas (prop_name.Num l) = refl
  key-commas (prop_name.BigInt l) = refl

  member_commas : (p : MemberProp ExprId) → commas_in (member_prop_tree expr p) ≡ commas_by (member_parts p)
  member_commas (member_prop.Computed c) = refl
  member_commas (member_prop.Ident i) = refl
  member_commas (member_prop.PrivateName p) = refl

  super_commas : (p : SuperProp ExprId) → commas_in (super_part_tree expr p) ≡ commas_by (super_parts p)
  super_commas (super_part.Computed c) = refl
  super_commas (super_part.Ident i) = refl

  callee_commas : (c : Callee ExprId) → commas_in (callee_tree expr c) ≡ commas_by (callee_parts c)
  callee_commas (callee.Expr e) = refl
  callee_commas (callee.Super s) = refl
  callee_commas (callee.Import i) = refl

  base_commas : (b : OptChainBase ExprId) → commas_in (base_tree expr b) ≡ commas_by (base_parts b)
  base_commas (base.Member m) = both (one_expr m.obj) (member_parts m.prop) _ _ refl (member_commas m.prop)
  base_commas (base.Call c) = both (one_expr c.callee) (args_parts c.args) _ _ refl (items c.args.items)

  pub tpl-commas : (t : Tpl ExprId) → commas_in (tpl_tree expr t) ≡ commas_by (flat one_expr t.exprs.items)
  tpl-commas t = texts expr one_expr expr_same t.quasis.items t.exprs.items

  args_if : (o : Option (Vec (ExprOrSpread ExprId) Global))
      → commas_in (or_hole (args_tree expr) o) ≡ commas_by (if_some args_parts o)
  args_if = if_there (args_tree expr) args_parts args-commas

  function_commas : (block_at : K → Span) (x : Function PatId K)
      → commas_in (function_tree block_at pat x) ≡ commas_by (flat param_parts x.params.items)
  function_commas block_at x = append-nil _ ∙ listed (param_tree pat) param_parts (λ p. refl) x.params.items

module _ {F C K : Type 0} (fun_at : F → Span) (class_at : C → Span) (block_at : K → Span) (at : ℕ → Tree F C K) where
  abbrev commas_now : List Part → List Literal
  commas_now = part_commas at

  target_commas : (t : TargetNode) → commas_in (target_of fun_at class_at block_at at t) ≡ commas_now
      (target_part t ∷ [])
  target_commas (target.Simple e) = refl
  target_commas (target.Pat p) = refl

  pub prop-commas : (p : PropNode K) → commas_in (prop_of fun_at class_at block_at at p) ≡ commas_now (prop_parts p)
  prop-commas (prop.Spread s) = append-nil (commas_in (at s.expr.0))
  prop-commas (prop.Shorthand i) = refl
  prop-commas (prop.KeyValue s k v) = both at (key_parts k) (one_expr v) _ _ (key-commas at k) refl
  prop-commas (prop.Assign p) = append-nil (commas_in (at p.value.0))
  prop-commas (prop.Method k f) = both at (key_parts k) (flat param_parts f.params.items) _ _ (key-commas at k)
      (function_commas at block_at f)
  prop-commas (prop.Getter s k b) = key-commas at k
  prop-commas (prop.Setter s k p b) = both at (key_parts k) (one_pat p) _ _ (key-commas at k) refl

  part-commas : (p : PatPart) → commas_in (part_tree at p) ≡ commas_now (part_parts p)
  part-commas (of_pat.Pat p) = refl
  part-commas (of_pat.Expr e) = refl

  elem-commas : (p : PatElem) → commas_in (pat_elem_of at p) ≡ commas_now (pat_elem_part p)
  elem-commas (elem.Item p) = part-commas p
  elem-commas (elem.Rest s d p) = append-nil (commas_in (part_tree at p)) ∙ part-commas p

  pub pat-prop-commas : (p : PatPropNode) → commas_in (pat_prop_of fun_at class_at block_at at p) ≡ commas_now
      (pat_prop_parts p)
  pat-prop-commas (pat_prop.KeyValue s k v) = both at (key_parts k) (part_parts v) _ _ (key-commas at k) (part-commas v)
  pat-prop-commas (pat_prop.Assign s k v) = append-nil _ ∙ if_there at (λ (e : ExprId). at e.0) one_expr (λ e. refl) v
  pat-prop-commas (pat_prop.Rest s d p) = append-nil (commas_in (part_tree at p)) ∙ part-commas p

  pub node-commas : (x : Node F C K) → commas_in (marked_tree fun_at class_at block_at at x) ≡ node_comma x
      ++ commas_now (outer_parts x)
  node-commas (n.Array s elems comma) =
      ap (λ v. (s.lo.0, comma) ∷ v)
      (listed at (or_hole (item_tree (λ (e : ExprId). at e.0))) (if_some item_parts)
      (if_there at (item_tree (λ (e : ExprId). at e.0)) item_parts (an_item at)) elems.items)
  node-commas (n.Object s props comma) =
      ap (λ v. (s.lo.0, comma) ∷ v) (listed at (prop_of fun_at class_at block_at at) prop_parts prop-commas props.items)
  node-commas (n.Assign s op l r) = both at (target_part l ∷ []) (one_expr r) _ _ (target_commas l) refl
  node-commas (n.Seq s es) = listed at (λ (e : ExprId). at e.0) one_expr (λ e. refl) es.items
  node-commas (n.Member m) = both at (one_expr m.obj) (member_parts m.prop) _ _ refl (member_commas at m.prop)
  node-commas (n.SuperProp p) = append-nil _ ∙ super_commas at p.prop
  node-commas (n.Call s c xs) = both at (callee_parts c) (args_parts xs) _ _ (callee_commas at c) (items at xs.items)
  node-commas (n.New s c xs) = both at (one_expr c) (if_some args_parts xs) _ _ refl (args_if at xs)
  node-commas (n.OptChain c) = base_commas at c.base.value
  node-commas (n.Tpl t) = tpl-commas at t.value
  node-commas (n.TaggedTpl s t q) = both at (one_expr t) (flat one_expr q.value.exprs.items) _ _ refl
      (tpl-commas at q.value)
  node-commas (n.Arrow s ps b a) = listed at (λ (p : PatId). at p.0) one_pat (λ p. refl) ps.items
  node-commas (n.Yield s a d) = if_there at (λ (e : ExprId). at e.0) one_expr (λ e. refl) a
  node-commas (n.PatArray s elems) =
      ap (λ v. (s.lo.0, None) ∷ v)
      (listed at (or_hole (pat_elem_of at)) (if_some pat_elem_part)
      (if_there at (pat_elem_of at) pat_elem_part elem-commas) elems.items)
  node-commas (n.PatObject s props) =
      ap (λ v. (s.lo.0, None) ∷ v) (listed at (pat_prop_of fun_at class_at block_at at) pat_prop_parts pat-prop-commas
      props.items)
  node-commas (n.PatAssign s l r) = both at (part_parts l) (one_expr r) _ _ (part-commas l) refl
  node-commas (n.PatRest s d p) = append-nil (commas_in (at p.0))
  node-commas x = refl

-- the body of an arrow function is the last of its parts
pub outer-first : {F C K : Type 0} (x : Node F C K) → slots x ≡ outer_parts x ++ body_part x
outer-first (n.Arrow s ps b a) = refl
outer-first (n.This a) = sym (append-nil _)
outer-first (n.Array a b c) = sym (append-nil _)
outer-first (n.Object a b c) = sym (append-nil _)
outer-first (n.Fn a) = sym (append-nil _)
outer-first (n.Class a) = sym (append-nil _)
outer-first (n.Unary a b c) = sym (append-nil _)
outer-first (n.Update a b c d) = sym (append-nil _)
outer-first (n.Bin a b c d) = sym (append-nil _)
outer-first (n.Assign a b c d) = sym (append-nil _)
outer-first (n.Cond a b c d) = sym (append-nil _)
outer-first (n.Seq a b) = sym (append-nil _)
outer-first (n.Paren a) = sym (append-nil _)
outer-first (n.Member a) = sym (append-nil _)
outer-first (n.SuperProp a) = sym (append-nil _)
outer-first (n.Call a b c) = sym (append-nil _)
outer-first (n.New a b c) = sym (append-nil _)
outer-first (n.OptChain a) = sym (append-nil _)
outer-first (n.Tpl a) = sym (append-nil _)
outer-first (n.TaggedTpl a b c) = sym (append-nil _)
outer-first (n.Await a b) = sym (append-nil _)
outer-first (n.Yield a b c) = sym (append-nil _)
outer-first (n.MetaProp a) = sym (append-nil _)
outer-first (n.PrivateName a) = sym (append-nil _)
outer-first (n.Ident a) = sym (append-nil _)
outer-first (n.Str a) = sym (append-nil _)
outer-first (n.Bool a) = sym (append-nil _)
outer-first (n.Null a) = sym (append-nil _)
outer-first (n.Num a) = sym (append-nil _)
outer-first (n.BigInt a) = sym (append-nil _)
outer-first (n.Regex a) = sym (append-nil _)
outer-first (n.Invalid a) = sym (append-nil _)
outer-first (n.PatIdent a) = sym (append-nil _)
outer-first (n.PatArray a b) = sym (append-nil _)
outer-first (n.PatObject a b) = sym (append-nil _)
outer-first (n.PatRest a b c) = sym (append-nil _)
outer-first (n.PatAssign a b c) = sym (append-nil _)
outer-first (n.PatExpr a) = sym (append-nil _)
outer-first (n.PatInvalid a) = sym (append-nil _)

-- ---- the node of a number

module _ {F C K : Type 0} (at by : ℕ → Tree F C K) where
  parts_same : (ps : List Part) → SameTrees at by ps → part_commas at ps ≡ part_commas by ps
  parts_same [] h = refl
  parts_same (p ∷ ps) h =
      ap (λ v. v ++ commas_in (at p.at)) (parts_same ps (same_rest h)) ∙ ap (λ t. part_commas by ps ++ commas_in t)
      (same_first h)

module _ {F C K : Type 0} {fg : Ghosts F} {cg : Ghosts C} {kg : Ghosts K} where
  pub stood-commas : {ns : Nodes F C K fg cg kg} {i : ℕ} {x : Node F C K} → Stood ns i x → i < count ns
      → commas_in (tree_at ns i) ≡ node_comma x ++ part_commas (tree_at ns) (outer_parts x)
  stood-commas {ns} {i} {x} s lt =
      ap (λ t. commas_in t.tree) s.stands ∙ node-commas fg.place cg.place kg.place (λ j. (seat_before i ns j).tree) x
      ∙ ap (λ v. node_comma x ++ v) (parts_same (λ j. (seat_before i ns j).tree) (tree_at ns) (outer_parts x)
      (same-front (λ j. (seat_before i ns j).tree) (tree_at ns) (outer_parts x) (body_part x)
      (subst (SameTrees (λ j. (seat_before i ns j).tree) (tree_at ns)) (outer-first x) (stood-trees s lt))))

-- ---- what is remembered

recalled_append : (ls ms : List Literal) (at : ℕ) (was : Option Span)
    → recalled (ls ++ ms) at was ≡ recalled ms at (recalled ls at was)
recalled_append [] ms at was = refl
recalled_append (l ∷ ls) ms at was = recalled_append ls ms at (if nat_eq l.0 at then l.1 else was)

-- a part is taken from the end of those that are due
pub taken : (a b : List PartId) (p : PartId) → a ≡ b ++ p ∷ [] → map part_of a ≡ map part_of b ++ part_of p ∷ []
taken a b p e = ap (map part_of) e ∙ map-append part_of b (p ∷ [])

module _ {F C K : Type 0} {fg : Ghosts F} {cg : Ghosts C} {kg : Ghosts K} where
  -- Those of the parts a are still to be remembered; the last of them is taken, remembered itself, and its parts put in
  -- its place.
  pub turn_commas : (ns : Nodes F C K fg cg kg) (a b r : List Part) (p : Part) (x : Node F C K)
      (old new : TrailingCommas)
      → a ≡ b ++ p ∷ [] → r ≡ b ++ outer_parts x → Stood ns p.at x → p.at < count ns → Recalls (node_comma x) old new
      → (at : ℕ)
      → recalled (part_commas (tree_at ns) r) at (comma_at new at) ≡ recalled (part_commas (tree_at ns) a) at
      (comma_at old at)
  turn_commas ns a b r p x old new taken put stood lt done at =
      let by = part_commas (tree_at ns) in
      let left : by r ≡ by (outer_parts x) ++ by b = ap by put ∙ part-append (tree_at ns) b (outer_parts x) in
      let was : by a ≡ node_comma x ++ by r =
      ap by taken ∙ part-append (tree_at ns) b (p ∷ []) ∙ ap (λ v. v ++ by b) (stood-commas stood lt)
      ∙ append_assoc (node_comma x) (by (outer_parts x)) (by b) ∙ ap (λ v. node_comma x ++ v) (sym left) in
      ap (λ v. recalled (by r) at v) (done at) ∙ sym (recalled_append (node_comma x) (by r) at (comma_at old at))
      ∙ ap (λ v. recalled v at (comma_at old at)) (sym was)
