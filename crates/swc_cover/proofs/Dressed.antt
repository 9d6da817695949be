-- The tree of what a node becomes is what its own tree becomes, where its parts became what they are to.
use Rattle.std.proofs.Common.{◌≡◌, ℕ, Bool, true, false, List, [], ◌∷◌, ◌++◌, map, Option, Some, None, refl, sym, ap, ◌∙◌}
use Rattle.std.specs.Prelude.{if◌then◌else◌}
use Rattle.swc_context.specs.{declared.operator.AssignOp.AssignOp as op, declared.span.Span.Span}
use Rattle.swc_ast.specs.Parts.{leaf, no_tree, or_hole, item_of, item_tree, prop_name_tree}
use Rattle.swc_ast.specs.Tree.{Kind, ident, invalid, array, array_with, object, object_with, key_value, binding_prop, default, rest, dots, pat_expr, Tree, node, Trees, nil, cons, trees, span_of}
use Rattle.swc_ast.specs.{declared.expr.ExprOrSpread.ExprOrSpread, declared.prop.PropName.PropName}
use Rattle.swc_grammar.specs.Cover.{is_pattern}
use Rattle.swc_cover.specs.Wanted as wanted
use Rattle.swc_cover.specs.Wanted.{all_holes, left_as, want, want_parts, put_prop, pat_elems, pat_props, rest_ok}
use Rattle.swc_cover.specs.Roles.{sought}
use Rattle.swc_cover.proofs.Covers.{keep-is, keeps-by, holes-same, span-want, two-are}
use Rattle.swc_nodes.proofs.Along.{Same, node-along, key-along}
use Rattle.swc_nodes.specs.NodeTree.{part_tree, pat_elem_of, target_of, prop_of, pat_prop_of, marked_tree}
use Rattle.swc_nodes.specs.NodeParts.{Part, View, Form, target_expr, other_expr, target_pat, other_pat, expr, pat, simple, pattern, flat, if_some, item_parts, key_parts, one_expr, prop_parts, target_part, slots, form, view_ok}
use Rattle.swc_nodes.specs.Recasting.{part_as, part_for, left_for, item_for, elems_for, prop_for, props_for, one_or_none, all_none, bare_part, bare_some, bare_prop}
use Rattle.swc_nodes.specs.Roles.{Due, keep, expr_due, left_due, rest_role, item_dues, elem_dues, prop_dues, part_dues, pat_elem_dues, pat_prop_dues, is_empty, becomes_as, bound_as, assigned_as, rebound_as, rest_as, again_as, dues_of, ready}
use Rattle.swc_nodes.specs.Turning.{Became, IsRecast, Law, OfKind, became, kind_of, own_place}
use Rattle.swc_nodes.specs.{declared.node.ExprId.ExprId, declared.node.Node.Node, declared.node.Node.Node as n, declared.node.PatElem.PatElem, declared.node.PatElem.PatElem as elem, declared.node.PatPart.PatPart, declared.node.PatPart.PatPart as of_pat, declared.node.PatPropNode.PatPropNode, declared.node.PatPropNode.PatPropNode as pat_prop, declared.node.PropNode.PropNode, declared.node.PropNode.PropNode as prop, declared.node.TargetNode.TargetNode, declared.node.TargetNode.TargetNode as target, declared.role.Becomes.Becomes, declared.role.Becomes.Becomes as to, declared.role.Role.Role, declared.role.Role.Role as role}

-- whether a tree is a pattern, by what its part is
abbrev pub Shaped : {F C K : Type 0} → View → Tree F C K → Type 0
Shaped simple t = is_pattern t ≡ false
Shaped pattern t = is_pattern t ≡ true
Shaped v t = Unit {0}

pub simple-expr : (f : Form) → view_ok simple f ≡ true → view_ok expr f ≡ true
simple-expr target_expr h = refl
simple-expr other_expr h = refl
simple-expr target_pat h = cc
simple-expr other_pat h = cc

pub pattern-pat : (f : Form) → view_ok pattern f ≡ true → view_ok pat f ≡ true
pattern-pat target_pat h = refl
pattern-pat other_pat h = cc
pattern-pat target_expr h = cc
pattern-pat other_expr h = cc

-- how a tree becomes a pattern that is assigned to, by how its node does
abbrev pub by_node : Becomes → wanted.Becomes
by_node to.Held = wanted.Held
by_node to.Ident = wanted.Ident
by_node to.Array = wanted.Array
by_node to.Object = wanted.Object
by_node to.Default = wanted.Default
by_node b = wanted.Nothing

module _ {F C K : Type 0} where
  abbrev as_held : Tree F C K → Tree F C K
  as_held t = node pat_expr (span_of t) (cons t nil)

  tail-is : {t : Tree F C K} {us vs : Trees F C K} → us ≡ vs → cons t us ≡ cons t vs
  tail-is {t = t} e = ap (cons t) e

  cons-are : {s t : Tree F C K} {us vs : Trees F C K} → s ≡ t → us ≡ vs → cons s us ≡ cons t vs
  cons-are {t = t} {us = us} e f = ap (λ w. cons w us) e ∙ ap (cons t) f

  pub want-held : (t : Tree F C K) → wanted.assigned_as (kind_of t) ≡ wanted.Held → want wanted.Assign t ≡ as_held t
  want-held (node k s ts) h =
      ap (λ v. wanted.shallow_as v wanted.Assign (node k s (want_parts v wanted.Assign k ts))) h
      ∙ ap (λ v. as_held (node k s v)) (keeps-by wanted.Held wanted.Assign k (λ t us. refl) ts)

  same-pattern : (k : Kind F C K) (s z : Span) (ts us : Trees F C K) →
      is_pattern (node k s ts) ≡ is_pattern (node k z us)
  same-pattern (array_with c) s z ts us = refl
  same-pattern (object_with c) s z ts us = refl
  same-pattern k s z ts us = refl

  kind-pattern : (t u : Tree F C K) → kind_of t ≡ kind_of u → is_pattern t ≡ is_pattern u
  kind-pattern (node k s ts) (node l z us) e = same-pattern k s z ts us ∙ ap (λ v. is_pattern (node v z us)) e

  no-hole : (o : Option Span) (t : Tree F C K) (ts : Trees F C K) → all_holes (cons (item_of o t) ts) ≡ false
  no-hole None t ts = refl
  no-hole (Some d) t ts = refl

module _ {F C K : Type 0} (fun_at : F → Span) (class_at : C → Span) (block_at : K → Span) where
  -- whether a node's tree is a pattern, by its form
  pub shaped : (at : ℕ → Tree F C K) (v : View) (x : Node F C K) → view_ok v (form x) ≡ true →
      Shaped v (marked_tree fun_at class_at block_at at x)
  shaped at expr x h = tt
  shaped at pat x h = tt
  shaped at simple (n.Array s elems c) h = cc
  shaped at simple (n.Object s props c) h = cc
  shaped at simple (n.PatArray s elems) h = cc
  shaped at simple (n.PatObject s props) h = cc
  shaped at simple x h = refl
  shaped at pattern (n.PatArray s elems) h = refl
  shaped at pattern (n.PatObject s props) h = refl
  shaped at pattern x h = cc

  pub assigned-how : (at : ℕ → Tree F C K) (x : Node F C K) → view_ok expr (form x) ≡ true →
      wanted.assigned_as (kind_of (marked_tree fun_at class_at block_at at x)) ≡ by_node (assigned_as x)
  assigned-how at (n.PatIdent b) h = cc
  assigned-how at (n.PatArray s elems) h = cc
  assigned-how at (n.PatObject s props) h = cc
  assigned-how at (n.Assign s op.Assign l r) h = refl
  assigned-how at (n.Assign s o l r) h = refl
  assigned-how at x h = refl

module _ {F C K : Type 0} (fun_at : F → Span) (class_at : C → Span) (block_at : K → Span) (at : ℕ → Node F C K)
    (old now : ℕ → Tree F C K) where
  abbrev tree_was : Node F C K → Tree F C K
  tree_was = marked_tree fun_at class_at block_at old

  abbrev tree_now : Node F C K → Tree F C K
  tree_now = marked_tree fun_at class_at block_at now

  abbrev olds : ExprId → Tree F C K
  olds e = old e.0

  abbrev nows : ExprId → Tree F C K
  nows e = now e.0

  abbrev Did : List Due → Type 0
  Did qs = Became fun_at class_at block_at sought at old now qs

  abbrev Are : List Part → Type 0
  Are ps = OfKind fun_at class_at block_at at old ps

  did-first : (qs rs : List Due) → Did (qs ++ rs) → Did qs
  did-first [] rs h = tt
  did-first (q ∷ qs) rs h = (h.0, did-first qs rs h.1)

  did-second : (qs rs : List Due) → Did (qs ++ rs) → Did rs
  did-second [] rs h = h
  did-second (q ∷ qs) rs h = did-second qs rs h.1

  are-first : (ps qs : List Part) → Are (ps ++ qs) → Are ps
  are-first [] qs h = tt
  are-first (p ∷ ps) qs h = (h.0, are-first ps qs h.1)

  are-second : (ps qs : List Part) → Are (ps ++ qs) → Are qs
  are-second [] qs h = h
  are-second (p ∷ ps) qs h = are-second ps qs h.1

  kept-same : (ps : List Part) → Did (map keep ps) → Same now old ps
  kept-same [] h = tt
  kept-same (p ∷ ps) h = (h.0, kept-same ps h.1)

  -- a node whose parts are kept
  stays : (x y : Node F C K) → y ≡ x → Did (map keep (slots x)) → tree_now y ≡ tree_was x
  stays x y e h = ap tree_now e ∙ node-along now old fun_at class_at block_at x (kept-same (slots x) h)

  -- ---- a part that becomes a pattern

  abbrev BecameOne : Becomes → Role → ℕ → Type 0
  BecameOne b r i = now i ≡ became sought b r (old i)

  -- the tree of a node alone
  abbrev bare : ℕ → Tree F C K
  bare i = marked_tree fun_at class_at block_at (λ j. no_tree) (at i)

  -- an expression of this kind
  abbrev Is : ExprId → Type 0
  Is e = (kind_of (old e.0) ≡ kind_of (bare e.0)) × (view_ok expr (form (at e.0)) ≡ true)

  bound-by : (x : Node F C K) (e : ExprId) → BecameOne (bound_as x) role.Bind e.0 →
      part_tree now (part_as (bound_as x) e) ≡ want wanted.Bind (old e.0)
  bound-by (n.Ident i) e h = h
  bound-by (n.Array s elems c) e h = h
  bound-by (n.Object s props c) e h = h
  bound-by (n.Assign s op.Assign l r) e h = h
  bound-by (n.Assign s o l r) e h = h
  bound-by x e h = h

  assigned-by : (b : Becomes) (e : ExprId) → wanted.assigned_as (kind_of (old e.0)) ≡ by_node b →
      BecameOne b role.Assign e.0 → part_tree now (part_as b e) ≡ want wanted.Assign (old e.0)
  assigned-by to.Held e k h = ap as_held h ∙ sym (want-held (old e.0) k)
  assigned-by b e k h = h

  rebound-by : (x : Node F C K) (i : ℕ) → BecameOne (rebound_as x) role.Rebind i → now i ≡ want wanted.Rebind (old i)
  rebound-by (n.PatIdent b) i h = h
  rebound-by (n.PatInvalid b) i h = h
  rebound-by (n.PatArray s elems) i h = h
  rebound-by (n.PatObject s props) i h = h
  rebound-by (n.PatRest s d p) i h = h
  rebound-by (n.PatAssign s l r) i h = h
  rebound-by x i h = h

  rest-by : (s : Span) (x : Node F C K) (e : ExprId) → BecameOne (rest_as s x) (role.BindRest s) e.0 →
      part_tree now (part_as (rest_as s x) e) ≡ sought (role.BindRest s) (old e.0)
  rest-by s (n.Ident i) e h = h
  rest-by s x e h = h

  again-by : (s : Span) (x : Node F C K) (i : ℕ) → BecameOne (again_as s x) (role.RebindRest s) i →
      now i ≡ sought (role.RebindRest s) (old i)
  again-by s (n.PatIdent b) i h = h
  again-by s (n.PatInvalid b) i h = h
  again-by s x i h = h

  -- what a part becomes by its role, and what an object's rest holds
  record Literal (r : Role) (w : wanted.Role) : Type 0 where
    part : (e : ExprId) → Is e → BecameOne (becomes_as r (at e.0)) r e.0 →
        part_tree now (part_for at r e) ≡ want w (old e.0)
    held : (s : Span) (e : ExprId) → Is e → BecameOne (becomes_as (rest_role r s) (at e.0)) (rest_role r s) e.0 →
        part_tree now (part_for at (rest_role r s) e)
        ≡ (if rest_ok w (want w (old e.0)) then want w (old e.0) else leaf invalid s)

  binding : Literal role.Bind wanted.Bind
  binding = record { part = λ e i h. bound-by (at e.0) e h; held = λ s e i h. rest-by s (at e.0) e h }

  assigned : (e : ExprId) → Is e → BecameOne (assigned_as (at e.0)) role.Assign e.0 →
      part_tree now (part_for at role.Assign e) ≡ want wanted.Assign (old e.0)
  assigned e i h =
      assigned-by (assigned_as (at e.0)) e
      (ap wanted.assigned_as i.0 ∙ assigned-how fun_at class_at block_at (λ j. no_tree) (at e.0) i.1) h

  assigning : Literal role.Assign wanted.Assign
  assigning = record { part = assigned; held = λ s e i h. assigned e i h }

  bare-by : (p : PatPart) → Did (part_dues role.Rebind p) →
      part_tree now (bare_part p) ≡ want wanted.Rebind (part_tree old p)
  bare-by (of_pat.Pat p) h = rebound-by (at p.0) p.0 h.0
  bare-by (of_pat.Expr e) h = h.0

  bare-rest : (s : Span) (p : PatPart) → Did (part_dues (role.RebindRest s) p) →
      part_tree now (bare_part p) ≡ sought (role.RebindRest s) (part_tree old p)
  bare-rest s (of_pat.Pat p) h = again-by s (at p.0) p.0 h.0
  bare-rest s (of_pat.Expr e) h = h.0

  -- ---- the elements of an array

  none-holes : (es : List (Option (ExprOrSpread ExprId))) →
      all_holes (trees (map (or_hole (item_tree olds)) es)) ≡ all_none es
  none-holes [] = refl
  none-holes (None ∷ es) = none-holes es
  none-holes (Some x ∷ es) = no-hole x.spread (olds x.expr) (trees (map (or_hole (item_tree olds)) es))

  abbrev pats_now : List (Option PatElem) → Trees F C K
  pats_now es = trees (map (or_hole (pat_elem_of now)) es)

  abbrev elems_was : List (Option (ExprOrSpread ExprId)) → Trees F C K
  elems_was es = trees (map (or_hole (item_tree olds)) es)

  abbrev place : ℕ → Span
  place i = span_of (old i)

  hole-both : (b : Bool) (ps : List (Option PatElem)) (us : Trees F C K) → pats_now ps ≡ us →
      pats_now (if b then [] else None ∷ ps) ≡ (if b then nil else cons no_tree us)
  hole-both true ps us h = refl
  hole-both false ps us h = ap (cons no_tree) h

  module _ (r : Role) (w : wanted.Role) (k : Kind F C K) (l : Literal r w) where
    elem-dressed : (o : Option Span) (e : ExprId) (es : List (Option (ExprOrSpread ExprId))) → Is e →
        (Did (elem_dues r es) →
        pats_now (elems_for at place r es) ≡ pat_elems (want_parts wanted.Array w k (elems_was es))) →
        Did (item_dues r (is_empty es) o e ++ elem_dues r es) →
        pats_now (item_for at place r (is_empty es) o e ++ elems_for at place r es)
        ≡ pat_elems (want_parts wanted.Array w k (cons (item_of o (olds e)) (elems_was es)))
    elem-dressed None e es i next h = cons-are (l.part e i h.0) (next h.1)
    elem-dressed (Some d) e [] i next h =
        ap (λ v. cons (node rest (place e.0) (cons (leaf dots d) (cons v nil))) nil) (l.part e i h.0)
        ∙ ap (λ v. cons (node rest v (cons (leaf dots d) (cons (want w (olds e)) nil))) nil)
        (sym (span-want w (olds e)))
    elem-dressed (Some d) e (f ∷ es) i next h = next h

    elems-dressed : (es : List (Option (ExprOrSpread ExprId))) → Are (flat (if_some item_parts) es) →
        Did (elem_dues r es) →
        pats_now (elems_for at place r es) ≡ pat_elems (want_parts wanted.Array w k (elems_was es))
    elems-dressed [] a h = refl
    elems-dressed (None ∷ es) a h =
        let us = pat_elems (want_parts wanted.Array w k (elems_was es)) in
        hole-both (all_none es) (elems_for at place r es) us (elems-dressed es a h)
        ∙ ap (λ b. if b then nil else cons no_tree us) (sym (holes-same w k (elems_was es) ∙ none-holes es))
    elems-dressed (Some x ∷ es) a h = elem-dressed x.spread x.expr es a.0 (elems-dressed es a.1) h

  -- ---- the elements of an array pattern that binds

  bare-elems : (es : List (Option PatElem)) → Did (flat pat_elem_dues es) →
      pats_now (map bare_some es)
      ≡ want_parts wanted.Same wanted.Rebind array (trees (map (or_hole (pat_elem_of old)) es))
  bare-elems [] h = refl
  bare-elems (None ∷ es) h = tail-is (bare-elems es h)
  bare-elems (Some (elem.Item p) ∷ es) h =
      let qs = part_dues role.Rebind p in
      cons-are (bare-by p (did-first qs (flat pat_elem_dues es) h))
      (bare-elems es (did-second qs (flat pat_elem_dues es) h))
  bare-elems (Some (elem.Rest s d p) ∷ es) h =
      let qs = part_dues role.Rebind p in
      cons-are (ap (λ v. node rest s (cons (leaf dots d) (cons v nil)))
      (bare-by p (did-first qs (flat pat_elem_dues es) h)))
      (bare-elems es (did-second qs (flat pat_elem_dues es) h))

  -- ---- the properties of an object

  key-same : (k : PropName ExprId) (qs : List Due) → Did (map keep (key_parts k) ++ qs) →
      prop_name_tree nows k ≡ want wanted.Keep (prop_name_tree olds k)
  key-same k qs h =
      key-along now old k (kept-same (key_parts k) (did-first (map keep (key_parts k)) qs h))
      ∙ sym (keep-is (prop_name_tree olds k))

  abbrev pat_prop_now : PatPropNode → Tree F C K
  pat_prop_now = pat_prop_of fun_at class_at block_at now

  abbrev props_now : List PatPropNode → Trees F C K
  props_now ps = trees (map pat_prop_now ps)

  abbrev prop_was : PropNode K → Tree F C K
  prop_was = prop_of fun_at class_at block_at old

  abbrev pat_prop_was : PatPropNode → Tree F C K
  pat_prop_was = pat_prop_of fun_at class_at block_at old

  module _ (r : Role) (w : wanted.Role) (l : Literal r w) where
    prop-dressed : (p : PropNode K) (ps : List PatPropNode) (us : Trees F C K) → props_now ps ≡ us →
        Are (prop_parts p) → Did (prop_dues r p) →
        props_now (one_or_none (prop_for at r p) ++ ps) ≡ put_prop w (want (wanted.Inside w) (prop_was p)) us
    prop-dressed (prop.Spread s) ps us e a h =
        cons-are (ap (λ v. node rest s.span (cons (leaf dots s.dot3_token) (cons v nil)))
        (l.held s.span s.expr a.0 h.0)) e
    prop-dressed (prop.Shorthand i) ps us e a h = tail-is e
    prop-dressed (prop.KeyValue s k v) ps us e a h =
        cons-are (ap (node key_value s) (two-are (key-same k (expr_due r v ∷ []) h)
        (l.part v (are-second (key_parts k) (one_expr v) a).0
        (did-second (map keep (key_parts k)) (expr_due r v ∷ []) h).0)))
        e
    prop-dressed (prop.Assign p) ps us e a h =
        cons-are (ap (λ v. node binding_prop p.span (cons (leaf (ident p.key.sym) p.key.span) (cons v nil)))
        (h.0 ∙ sym (keep-is (olds p.value)))) e
    prop-dressed p ps us e a h = e

    props-dressed : (k : Kind F C K) (xs : List (PropNode K)) → Are (flat prop_parts xs) → Did (flat (prop_dues r) xs) →
        props_now (props_for at r xs) ≡ pat_props w (want_parts wanted.Object w k (trees (map prop_was xs)))
    props-dressed k [] a h = refl
    props-dressed k (x ∷ xs) a h =
        prop-dressed x (props_for at r xs) _
        (props-dressed k xs (are-second (prop_parts x) (flat prop_parts xs) a)
        (did-second (prop_dues r x) (flat (prop_dues r) xs) h))
        (are-first (prop_parts x) (flat prop_parts xs) a) (did-first (prop_dues r x) (flat (prop_dues r) xs) h)

  -- ---- the properties of an object pattern that binds

  bare-prop : (p : PatPropNode) (us : Trees F C K) → Did (pat_prop_dues p) →
      cons (pat_prop_now (bare_prop p)) us
      ≡ put_prop wanted.Rebind (want (wanted.Inside wanted.Rebind) (pat_prop_was p)) us
  bare-prop (pat_prop.KeyValue s k v) us h =
      let qs = part_dues role.Rebind v in
      cons-are (ap (node key_value s) (two-are (key-same k qs h)
      (bare-by v (did-second (map keep (key_parts k)) qs h)))) refl
  bare-prop (pat_prop.Assign s k None) us h = refl
  bare-prop (pat_prop.Assign s k (Some v)) us h =
      cons-are (ap (λ w. node binding_prop s (cons (leaf (ident k.id.sym) k.id.span) (cons w nil)))
      (h.0 ∙ sym (keep-is (olds v)))) refl
  bare-prop (pat_prop.Rest s d p) us h =
      let t = part_tree old p in
      cons-are (ap (λ v. node rest s (cons (leaf dots d) (cons v nil)))
      (bare-rest s p h ∙ ap (λ v. sought (role.RebindRest s) v) (sym (keep-is t)))) refl

  bare-props : (xs : List PatPropNode) → Did (flat pat_prop_dues xs) →
      props_now (map bare_prop xs)
      ≡ pat_props wanted.Rebind (want_parts wanted.Objects wanted.Rebind object (trees (map pat_prop_was xs)))
  bare-props [] h = refl
  bare-props (x ∷ xs) h =
      tail-is (bare-props xs (did-second (pat_prop_dues x) (flat pat_prop_dues xs) h))
      ∙ bare-prop x _ (did-first (pat_prop_dues x) (flat pat_prop_dues xs) h)

  -- ---- what is left of a `=`

  simple-is : (e : ExprId) → Are (target_part (target.Simple e) ∷ []) → (is_pattern (old e.0) ≡ false) × Is e
  simple-is e a = (
    kind-pattern (old e.0) (bare e.0) a.0.0 ∙ shaped fun_at class_at block_at (λ i. no_tree) simple (at e.0) a.0.1,
    (a.0.0, simple-expr (form (at e.0)) a.0.1),
  )

  pattern-is : (i : ℕ) → Are (record { at = i; view = pattern } ∷ []) → is_pattern (old i) ≡ true
  pattern-is i a =
      kind-pattern (old i) (bare i) a.0.0
      ∙ shaped fun_at class_at block_at (λ j. no_tree) pattern (at i) a.0.1

  left-bound : (l : TargetNode) → Are (target_part l ∷ []) → Did (left_due role.Bind l ∷ []) →
      part_tree now (left_for at role.Bind l) ≡ want (left_as wanted.Bind
      (is_pattern (target_of fun_at class_at block_at old l))) (target_of fun_at class_at block_at old l)
  left-bound (target.Simple e) a h =
      bound-by (at e.0) e h.0 ∙ ap (λ b. want (left_as wanted.Bind b) (old e.0)) (sym (simple-is e a).0)
  left-bound (target.Pat p) a h =
      rebound-by (at p.0) p.0 h.0 ∙ ap (λ b. want (left_as wanted.Bind b) (old p.0)) (sym (pattern-is p.0 a))

  left-assigned : (l : TargetNode) → Are (target_part l ∷ []) → Did (left_due role.Assign l ∷ []) →
      part_tree now (left_for at role.Assign l) ≡ want (left_as wanted.Assign
      (is_pattern (target_of fun_at class_at block_at old l))) (target_of fun_at class_at block_at old l)
  left-assigned (target.Simple e) a h =
      let i = simple-is e a in
      assigned e i.1 h.0 ∙ ap (λ b. want (left_as wanted.Assign b) (old e.0)) (sym i.0)
  left-assigned (target.Pat p) a h =
      h.0 ∙ sym (keep-is (old p.0)) ∙ ap (λ b. want (left_as wanted.Assign b) (old p.0)) (sym (pattern-is p.0 a))

  -- ---- each node

  abbrev Recast : Role → Node F C K → Node F C K → Type 0
  Recast r x y = IsRecast at (λ i. span_of (old i)) (own_place fun_at class_at block_at old) (becomes_as r x) r x y

  abbrev Dressed : Role → Node F C K → Type 0
  Dressed r x = (y : Node F C K) → ready r (form x) ≡ true → Are (slots x) → Recast r x y → Did (dues_of r x) →
      tree_now y ≡ became sought (becomes_as r x) r (tree_was x)

  bind-dressed : (x : Node F C K) → Dressed role.Bind x
  bind-dressed (n.Array s elems c) y k a m h =
      ap tree_now m.is ∙ ap (λ v. node array s (pats_now v)) m.items
      ∙ ap (node array s) (elems-dressed role.Bind wanted.Bind (array_with c) binding elems.items a h)
  bind-dressed (n.Object s props c) y k a m h =
      ap tree_now m.is ∙ ap (λ v. node object s (props_now v)) m.items
      ∙ ap (node object s) (props-dressed role.Bind wanted.Bind binding (object_with c) props.items a h)
  bind-dressed (n.Assign s op.Assign l r) y k a m h =
      ap tree_now m ∙ ap (node default s) (two-are (left-bound l (a.0, tt) (h.0, tt)) (h.1.0 ∙ sym (keep-is (olds r))))
  bind-dressed (n.Assign s o l r) y k a m h = ap tree_now m
  bind-dressed (n.PatIdent b) y k a m h = cc
  bind-dressed (n.PatArray s elems) y k a m h = cc
  bind-dressed (n.PatObject s props) y k a m h = cc
  bind-dressed x y k a m h = ap tree_now m

  assign-dressed : (x : Node F C K) → Dressed role.Assign x
  assign-dressed (n.Array s elems c) y k a m h =
      ap tree_now m.is ∙ ap (λ v. node array s (pats_now v)) m.items
      ∙ ap (node array s) (elems-dressed role.Assign wanted.Assign (array_with c) assigning elems.items a h)
  assign-dressed (n.Object s props c) y k a m h =
      ap tree_now m.is ∙ ap (λ v. node object s (props_now v)) m.items
      ∙ ap (node object s) (props-dressed role.Assign wanted.Assign assigning (object_with c) props.items a h)
  assign-dressed (n.Assign s op.Assign l r) y k a m h =
      ap tree_now m
      ∙ ap (node default s) (two-are (left-assigned l (a.0, tt) (h.0, tt)) (h.1.0 ∙ sym (keep-is (olds r))))
  assign-dressed (n.Assign s o l r) y k a m h = ap tree_now m
  assign-dressed (n.PatIdent b) y k a m h = cc
  assign-dressed (n.PatArray s elems) y k a m h = cc
  assign-dressed (n.PatObject s props) y k a m h = cc
  assign-dressed (n.Member v) y k a m h = stays (n.Member v) y m h
  assign-dressed (n.SuperProp v) y k a m h = stays (n.SuperProp v) y m h
  assign-dressed (n.Call s c xs) y k a m h = stays (n.Call s c xs) y m h
  assign-dressed (n.New s c xs) y k a m h = stays (n.New s c xs) y m h
  assign-dressed (n.Fn v) y k a m h = stays (n.Fn v) y m h
  assign-dressed (n.Class v) y k a m h = stays (n.Class v) y m h
  assign-dressed (n.Paren v) y k a m h = stays (n.Paren v) y m h
  assign-dressed (n.Tpl v) y k a m h = stays (n.Tpl v) y m h
  assign-dressed (n.Str v) y k a m h = stays (n.Str v) y m h
  assign-dressed (n.Bool v) y k a m h = stays (n.Bool v) y m h
  assign-dressed (n.Null v) y k a m h = stays (n.Null v) y m h
  assign-dressed (n.Num v) y k a m h = stays (n.Num v) y m h
  assign-dressed (n.BigInt v) y k a m h = stays (n.BigInt v) y m h
  assign-dressed (n.Regex v) y k a m h = stays (n.Regex v) y m h
  assign-dressed x y k a m h = ap tree_now m

  rebind-dressed : (x : Node F C K) → Dressed role.Rebind x
  rebind-dressed (n.PatArray s elems) y k a m h =
      ap tree_now m.is ∙ ap (λ v. node array s (pats_now v)) m.items ∙ ap (node array s) (bare-elems elems.items h)
  rebind-dressed (n.PatObject s props) y k a m h =
      ap tree_now m.is ∙ ap (λ v. node object s (props_now v)) m.items ∙ ap (node object s) (bare-props props.items h)
  rebind-dressed (n.PatRest s d p) y k a m h =
      ap tree_now m ∙ ap (λ v. node rest s (cons (leaf dots d) (cons v nil))) (rebound-by (at p.0) p.0 h.0)
  rebind-dressed (n.PatAssign s l r) y k a m h =
      let qs = part_dues role.Rebind l in let rs = map keep (one_expr r) in
      ap tree_now m ∙ ap (node default s) (two-are (bare-by l (did-first qs rs h))
      ((did-second qs rs h).0 ∙ sym (keep-is (olds r))))
  rebind-dressed (n.PatIdent b) y k a m h = ap tree_now m
  rebind-dressed (n.PatInvalid i) y k a m h = ap tree_now m
  rebind-dressed (n.PatExpr e) y k a m h = ap tree_now m
  rebind-dressed x y k a m h = cc

  rest-dressed : (z : Span) (x : Node F C K) → Dressed (role.BindRest z) x
  rest-dressed z (n.Ident i) y k a m h = ap tree_now m
  rest-dressed z (n.PatIdent b) y k a m h = cc
  rest-dressed z (n.Assign s op.Assign l r) y k a m h = ap tree_now m
  rest-dressed z (n.Assign s o l r) y k a m h = ap tree_now m
  rest-dressed z x y k a m h = ap tree_now m

  again-dressed : (z : Span) (x : Node F C K) → Dressed (role.RebindRest z) x
  again-dressed z (n.PatIdent b) y k a m h = ap tree_now m
  again-dressed z (n.PatInvalid i) y k a m h = ap tree_now m
  again-dressed z (n.PatArray s elems) y k a m h = ap tree_now m
  again-dressed z (n.PatObject s props) y k a m h = ap tree_now m
  again-dressed z (n.PatRest s d p) y k a m h = ap tree_now m
  again-dressed z (n.PatAssign s l r) y k a m h = ap tree_now m
  again-dressed z (n.PatExpr e) y k a m h = ap tree_now m
  again-dressed z x y k a m h = cc

  dressed : (r : Role) (x : Node F C K) → Dressed r x
  dressed role.Keep x y k a m h = stays x y m h
  dressed role.Bind x y k a m h = bind-dressed x y k a m h
  dressed role.Assign x y k a m h = assign-dressed x y k a m h
  dressed role.Rebind x y k a m h = rebind-dressed x y k a m h
  dressed (role.BindRest z) x y k a m h = rest-dressed z x y k a m h
  dressed (role.RebindRest z) x y k a m h = again-dressed z x y k a m h
  dressed role.Nothing x y k a m h = ap tree_now m
  dressed (role.NothingAt z) x y k a m h = ap tree_now m

-- what each tree becomes, by the role of its node
pub law-sought : {F C K : Type 0} (fun_at : F → Span) (class_at : C → Span) (block_at : K → Span) →
    Law fun_at class_at block_at sought
law-sought fun_at class_at block_at = record {
  law = λ at old now r x y k a m h. dressed fun_at class_at block_at at old now r x y k a m h;
}
