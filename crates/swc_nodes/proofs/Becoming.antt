-- What a node is that became what it is to: its parts, its form, where it lies.
use Rattle.std.proofs.Common.{◌≡◌, ℕ, Bool, true, false, List, [], ◌∷◌, ◌++◌, map, Option, Some, None, refl, sym, ap, ◌∙◌}
use Rattle.std.specs.Prelude.{if◌then◌else◌}
use Rattle.std.proofs.lemmas.List.{map-append}
use Rattle.swc_context.specs.declared.operator.AssignOp.{AssignOp, AssignOp as op}
use Rattle.swc_context.specs.declared.span.Span.{Span}
use Rattle.swc_ast.specs.Tree.{Tree, span_of}
use Rattle.swc_ast.specs.declared.expr.ExprOrSpread.{ExprOrSpread}
use Rattle.swc_nodes.specs.NodeParts.{Part, View, Form, expr, pat, expr_part, flat, form, if_some, item_parts, key_parts, one_expr, pat_elem_part, pat_prop_parts, prop_parts, slots, target_part, view_ok}
use Rattle.swc_nodes.specs.Recasting.{all_none, elems_for, item_for, left_for, one_or_none, part_as, part_for, prop_for, props_for, turned}
use Rattle.swc_nodes.specs.Roles.{Due, again_as, assigned_as, becomes_as, bound_as, by_op, dues_by, dues_of, elem_dues, expr_due, held_view, is_empty, item_dues, keep, left_due, left_role, new_view, part_dues, pat_elem_dues, pat_prop_dues, prop_dues, rebound_as, rest_as, rest_role, suit, suits, turns}
use Rattle.swc_nodes.specs.Turning.{kind_of, IsRecast}
use Rattle.swc_nodes.specs.{NodeTree.marked_tree, declared.node.ExprId.ExprId, declared.node.Node.Node, declared.node.Node.Node as n, declared.node.PatElem.PatElem, declared.node.PatElem.PatElem as elem, declared.node.PatPart.PatPart, declared.node.PatPart.PatPart as of_pat, declared.node.PatPropNode.PatPropNode, declared.node.PatPropNode.PatPropNode as pat_prop, declared.node.PropNode.PropNode, declared.node.PropNode.PropNode as prop, declared.node.TargetNode.TargetNode, declared.node.TargetNode.TargetNode as target, declared.role.Becomes.Becomes, declared.role.Becomes.Becomes as to, declared.role.Role.Role, declared.role.Role.Role as role}
use Rattle.swc_nodes.proofs.Chains.{both_true, true_both}
use Rattle.swc_nodes.proofs.Recast.{bound-elems, bound-part, bound-props, elems-are, kept-is, left-is, props-are, rebound-view}

-- what has no parts then, or those that it had
abbrev is_plain : Becomes → Bool
is_plain to.Same = true
is_plain to.Held = true
is_plain to.Nothing = true
is_plain (to.Instead s) = true
is_plain b = false

-- what is asked of the form of what stays
abbrev stays_ok : Becomes → Form → Bool
stays_ok to.Same f = view_ok pat f
stays_ok to.Held f = view_ok expr f
stays_ok b f = true

module _ {F C K : Type 0} (at : ℕ → Node F C K) (place : ℕ → Span) (own : Node F C K → Span) where
  abbrev recast : Becomes → Role → Node F C K → Node F C K → Type 0
  recast = IsRecast at place own

  -- ---- its parts

  abbrev SlotsAre : Becomes → Role → Node F C K → Node F C K → Type 0
  SlotsAre b r x y = slots y ≡ map (turned at) (dues_by b r x)

  plain-slots : (b : Becomes) (r : Role) (x y : Node F C K) → is_plain b ≡ true → recast b r x y → SlotsAre b r x y
  plain-slots to.Same r x y p h = ap slots h ∙ sym (kept-is at (slots x))
  plain-slots to.Held r x y p h = ap slots h ∙ sym (kept-is at (slots x))
  plain-slots to.Nothing r x y p h = ap slots h
  plain-slots (to.Instead s) r x y p h = ap slots h
  plain-slots to.Again r x y p h = absurd cc
  plain-slots to.Ident r x y p h = absurd cc
  plain-slots to.Array r x y p h = absurd cc
  plain-slots to.Object r x y p h = absurd cc
  plain-slots to.Default r x y p h = absurd cc

  default-slots : (r : Role) (s : Span) (o : AssignOp) (l : TargetNode) (e : ExprId) (y : Node F C K) →
      turns r ≡ true → recast (by_op o) r (n.Assign s o l e) y → SlotsAre (by_op o) r (n.Assign s o l e) y
  default-slots r s op.Assign l e y t h = ap slots h ∙ ap (λ v. v ++ one_expr e) (left-is at r l t)
  default-slots r s o l e y t h = ap slots h

  pub slots-are : (r : Role) (x y : Node F C K) → recast (becomes_as r x) r x y →
      slots y ≡ map (turned at) (dues_of r x)
  slots-are role.Keep x y h = plain-slots to.Same role.Keep x y refl h
  slots-are role.Nothing x y h = plain-slots to.Nothing role.Nothing x y refl h
  slots-are (role.NothingAt z) x y h = plain-slots (to.Instead z) (role.NothingAt z) x y refl h
  slots-are role.Bind (n.Ident i) y h = ap slots h
  slots-are role.Bind (n.Array s elems comma) y h =
      ap slots h.is ∙ ap (flat (if_some pat_elem_part)) h.items ∙ elems-are at place role.Bind elems.items refl
  slots-are role.Bind (n.Object s props comma) y h =
      ap slots h.is ∙ ap (flat pat_prop_parts) h.items ∙ props-are at role.Bind props.items refl
  slots-are role.Bind (n.Assign s o l e) y h = default-slots role.Bind s o l e y refl h
  slots-are role.Bind x y h = plain-slots (bound_as x) role.Bind x y refl h
  slots-are role.Assign (n.Ident i) y h = ap slots h
  slots-are role.Assign (n.Array s elems comma) y h =
      ap slots h.is ∙ ap (flat (if_some pat_elem_part)) h.items ∙ elems-are at place role.Assign elems.items refl
  slots-are role.Assign (n.Object s props comma) y h =
      ap slots h.is ∙ ap (flat pat_prop_parts) h.items ∙ props-are at role.Assign props.items refl
  slots-are role.Assign (n.Assign s o l e) y h = default-slots role.Assign s o l e y refl h
  slots-are role.Assign x y h = plain-slots (assigned_as x) role.Assign x y refl h
  slots-are role.Rebind (n.PatArray s elems) y h =
      ap slots h.is ∙ ap (flat (if_some pat_elem_part)) h.items ∙ bound-elems at elems.items
  slots-are role.Rebind (n.PatObject s props) y h =
      ap slots h.is ∙ ap (flat pat_prop_parts) h.items ∙ bound-props at props.items
  slots-are role.Rebind (n.PatAssign s l e) y h =
      ap slots h ∙ ap (λ v. v ++ one_expr e) (bound-part at l)
      ∙ sym (map-append (turned at) (part_dues role.Rebind l) (map keep (one_expr e)))
  slots-are role.Rebind (n.PatRest s d p) y h =
      ap slots h ∙ ap (λ v. record { at = p.0; view = v } ∷ []) (sym (rebound-view (at p.0)))
  slots-are role.Rebind x y h = plain-slots (rebound_as x) role.Rebind x y refl h
  slots-are (role.BindRest s) (n.Ident i) y h = ap slots h
  slots-are (role.BindRest s) x y h = plain-slots (rest_as s x) (role.BindRest s) x y refl h
  slots-are (role.RebindRest s) (n.PatIdent b) y h = plain-slots to.Same (role.RebindRest s) (n.PatIdent b) y refl h
  slots-are (role.RebindRest s) x y h = plain-slots (again_as s x) (role.RebindRest s) x y refl h

  -- ---- its form

  plain-form : (b : Becomes) (r : Role) (x y : Node F C K) → is_plain b ≡ true → stays_ok b (form x) ≡ true →
      recast b r x y → view_ok (held_view b) (form y) ≡ true
  plain-form to.Same r x y p k h = ap (λ z. view_ok pat (form z)) h ∙ k
  plain-form to.Held r x y p k h = ap (λ z. view_ok expr (form z)) h ∙ k
  plain-form to.Nothing r x y p k h = ap (λ z. view_ok pat (form z)) h
  plain-form (to.Instead s) r x y p k h = ap (λ z. view_ok pat (form z)) h
  plain-form to.Again r x y p k h = absurd cc
  plain-form to.Ident r x y p k h = absurd cc
  plain-form to.Array r x y p k h = absurd cc
  plain-form to.Object r x y p k h = absurd cc
  plain-form to.Default r x y p k h = absurd cc

  default-form : (r : Role) (s : Span) (o : AssignOp) (l : TargetNode) (e : ExprId) (y : Node F C K) →
      recast (by_op o) r (n.Assign s o l e) y → view_ok (held_view (by_op o)) (form y) ≡ true
  default-form r s op.Assign l e y h = ap (λ z. view_ok pat (form z)) h
  default-form r s o l e y h = ap (λ z. view_ok pat (form z)) h

  pub form-is : (r : Role) (v : View) (x y : Node F C K) → suits r v ≡ true → view_ok v (form x) ≡ true →
      recast (becomes_as r x) r x y → view_ok (new_view (becomes_as r x) r v) (form y) ≡ true
  form-is role.Keep v x y u k h = ap (λ z. view_ok v (form z)) h ∙ k
  form-is role.Nothing v x y u k h = plain-form to.Nothing role.Nothing x y refl refl h
  form-is (role.NothingAt z) v x y u k h = plain-form (to.Instead z) (role.NothingAt z) x y refl refl h
  form-is role.Bind v (n.Ident i) y u k h = ap (λ z. view_ok pat (form z)) h
  form-is role.Bind v (n.Array s elems comma) y u k h = ap (λ z. view_ok pat (form z)) h.is
  form-is role.Bind v (n.Object s props comma) y u k h = ap (λ z. view_ok pat (form z)) h.is
  form-is role.Bind v (n.Assign s o l e) y u k h = default-form role.Bind s o l e y h
  form-is role.Bind v x y u k h = plain-form (bound_as x) role.Bind x y refl refl h
  form-is role.Assign v (n.Ident i) y u k h = ap (λ z. view_ok pat (form z)) h
  form-is role.Assign v (n.Array s elems comma) y u k h = ap (λ z. view_ok pat (form z)) h.is
  form-is role.Assign v (n.Object s props comma) y u k h = ap (λ z. view_ok pat (form z)) h.is
  form-is role.Assign v (n.Assign s o l e) y u k h = default-form role.Assign s o l e y h
  form-is role.Assign v x y u k h = plain-form (assigned_as x) role.Assign x y refl refl h
  form-is role.Rebind v (n.PatArray s elems) y u k h = ap (λ z. view_ok pat (form z)) h.is
  form-is role.Rebind v (n.PatObject s props) y u k h = ap (λ z. view_ok pat (form z)) h.is
  form-is role.Rebind v (n.PatAssign s l e) y u k h = ap (λ z. view_ok pat (form z)) h
  form-is role.Rebind v (n.PatRest s d p) y u k h = ap (λ z. view_ok pat (form z)) h
  form-is role.Rebind v x y u k h = plain-form (rebound_as x) role.Rebind x y refl refl h
  form-is (role.BindRest s) v (n.Ident i) y u k h = ap (λ z. view_ok pat (form z)) h
  form-is (role.BindRest s) v x y u k h = plain-form (rest_as s x) (role.BindRest s) x y refl refl h
  form-is (role.RebindRest s) v (n.PatIdent b) y u k h =
      plain-form to.Same (role.RebindRest s) (n.PatIdent b) y refl refl h
  form-is (role.RebindRest s) v x y u k h = plain-form (again_as s x) (role.RebindRest s) x y refl refl h

-- ---- the same over other nodes, where its parts are the same

module _ {F C K : Type 0} (at by : ℕ → Node F C K) (place spot : ℕ → Span) where
  abbrev pub SamePlace : View → ℕ → Type 0
  SamePlace expr i = place i ≡ spot i
  SamePlace v i = Unit {0}

  -- the nodes of parts, and where expressions lie
  abbrev pub Alike : List Part → Type 0
  Alike [] = Unit {0}
  Alike (p ∷ ps) = (at p.at ≡ by p.at) × SamePlace p.view p.at × Alike ps

  alike-first : (ps qs : List Part) → Alike (ps ++ qs) → Alike ps
  alike-first [] qs h = tt
  alike-first (p ∷ ps) qs h = (h.0, h.1, alike-first ps qs h.2)

  alike-second : (ps qs : List Part) → Alike (ps ++ qs) → Alike qs
  alike-second [] qs h = h
  alike-second (p ∷ ps) qs h = alike-second ps qs h.2

  part-alike : (r : Role) (e : ExprId) → at e.0 ≡ by e.0 → part_for at r e ≡ part_for by r e
  part-alike r e h = ap (λ x. part_as (becomes_as r x) e) h

  item-alike : (r : Role) (last : Bool) (s : Option Span) (e : ExprId) → at e.0 ≡ by e.0 → place e.0 ≡ spot e.0 →
      item_for at place r last s e ≡ item_for by spot r last s e
  item-alike r last None e h k = ap (λ v. Some (elem.Item v) ∷ []) (part-alike r e h)
  item-alike r true (Some d) e h k =
      ap (λ v. Some (elem.Rest v d (part_for at r e)) ∷ []) k
      ∙ ap (λ v. Some (elem.Rest (spot e.0) d v) ∷ []) (part-alike r e h)
  item-alike r false (Some d) e h k = refl

  hole-alike : (b : Bool) (xs ys : List (Option PatElem)) → xs ≡ ys →
      (if b then [] else None ∷ xs) ≡ (if b then [] else None ∷ ys)
  hole-alike b xs ys e = ap (λ v. if b then [] else None ∷ v) e

  elems-alike : (r : Role) (es : List (Option (ExprOrSpread ExprId))) → Alike (flat (if_some item_parts) es) →
      elems_for at place r es ≡ elems_for by spot r es
  elems-alike r [] h = refl
  elems-alike r (None ∷ es) h =
      hole-alike (all_none es) (elems_for at place r es) (elems_for by spot r es) (elems-alike r es h)
  elems-alike r (Some x ∷ es) h =
      ap (λ v. v ++ elems_for at place r es) (item-alike r (is_empty es) x.spread x.expr h.0 h.1)
      ∙ ap (λ v. item_for by spot r (is_empty es) x.spread x.expr ++ v) (elems-alike r es h.2)

  prop-alike : (r : Role) (p : PropNode K) → Alike (prop_parts p) → prop_for at r p ≡ prop_for by r p
  prop-alike r (prop.Spread s) h =
      ap (λ v. Some (pat_prop.Rest s.span s.dot3_token v)) (part-alike (rest_role r s.span) s.expr h.0)
  prop-alike r (prop.KeyValue s k v) h =
      ap (λ u. Some (pat_prop.KeyValue s k u)) (part-alike r v (alike-second (key_parts k) (one_expr v) h).0)
  prop-alike r p h = refl

  props-alike : (r : Role) (ps : List (PropNode K)) → Alike (flat prop_parts ps) → props_for at r ps ≡ props_for by r ps
  props-alike r [] h = refl
  props-alike r (p ∷ ps) h =
      ap (λ v. one_or_none v ++ props_for at r ps) (prop-alike r p (alike-first (prop_parts p) (flat prop_parts ps) h))
      ∙ ap (λ v. one_or_none (prop_for by r p) ++ v)
      (props-alike r ps (alike-second (prop_parts p) (flat prop_parts ps) h))

  left-alike : (r : Role) (l : TargetNode) → at (target_part l).at ≡ by (target_part l).at →
      left_for at r l ≡ left_for by r l
  left-alike r (target.Simple e) h = part-alike r e h
  left-alike r (target.Pat p) h = refl

  module _ (own self : Node F C K → Span) where
    abbrev was : Becomes → Role → Node F C K → Node F C K → Type 0
    was = IsRecast at place own

    abbrev is : Becomes → Role → Node F C K → Node F C K → Type 0
    is = IsRecast by spot self

    plain-alike : (b : Becomes) (r : Role) (x y : Node F C K) → is_plain b ≡ true → own x ≡ self x → was b r x y →
        is b r x y
    plain-alike to.Same r x y p e h = h
    plain-alike to.Held r x y p e h = h
    plain-alike to.Nothing r x y p e h = h ∙ ap (λ v. n.PatInvalid (record { span = v })) e
    plain-alike (to.Instead s) r x y p e h = h
    plain-alike to.Again r x y p e h = absurd cc
    plain-alike to.Ident r x y p e h = absurd cc
    plain-alike to.Array r x y p e h = absurd cc
    plain-alike to.Object r x y p e h = absurd cc
    plain-alike to.Default r x y p e h = absurd cc

    default-alike : (r : Role) (s : Span) (o : AssignOp) (l : TargetNode) (e : ExprId) (y : Node F C K) →
        at (target_part l).at ≡ by (target_part l).at → own (n.Assign s o l e) ≡ self (n.Assign s o l e) →
        was (by_op o) r (n.Assign s o l e) y → is (by_op o) r (n.Assign s o l e) y
    default-alike r s op.Assign l e y a k h = h ∙ ap (λ v. n.PatAssign s v e) (left-alike r l a)
    default-alike r s o l e y a k h = h ∙ ap (λ v. n.PatInvalid (record { span = v })) k

    pub recast-alike : (r : Role) (x y : Node F C K) → Alike (slots x) → own x ≡ self x → was (becomes_as r x) r x y →
        is (becomes_as r x) r x y
    recast-alike role.Keep x y a k h = h
    recast-alike role.Nothing x y a k h = plain-alike to.Nothing role.Nothing x y refl k h
    recast-alike (role.NothingAt z) x y a k h = plain-alike (to.Instead z) (role.NothingAt z) x y refl k h
    recast-alike role.Bind (n.Ident i) y a k h = h
    recast-alike role.Bind (n.Array s elems comma) y a k h =
        record { elems = h.elems; is = h.is; items = h.items ∙ elems-alike role.Bind elems.items a }
    recast-alike role.Bind (n.Object s props comma) y a k h =
        record { props = h.props; is = h.is; items = h.items ∙ props-alike role.Bind props.items a }
    recast-alike role.Bind (n.Assign s o l e) y a k h = default-alike role.Bind s o l e y a.0 k h
    recast-alike role.Bind x y a k h = plain-alike (bound_as x) role.Bind x y refl k h
    recast-alike role.Assign (n.Ident i) y a k h = h
    recast-alike role.Assign (n.Array s elems comma) y a k h =
        record { elems = h.elems; is = h.is; items = h.items ∙ elems-alike role.Assign elems.items a }
    recast-alike role.Assign (n.Object s props comma) y a k h =
        record { props = h.props; is = h.is; items = h.items ∙ props-alike role.Assign props.items a }
    recast-alike role.Assign (n.Assign s o l e) y a k h = default-alike role.Assign s o l e y a.0 k h
    recast-alike role.Assign x y a k h = plain-alike (assigned_as x) role.Assign x y refl k h
    recast-alike role.Rebind (n.PatArray s elems) y a k h = h
    recast-alike role.Rebind (n.PatObject s props) y a k h = h
    recast-alike role.Rebind (n.PatAssign s l e) y a k h = h
    recast-alike role.Rebind (n.PatRest s d p) y a k h = h
    recast-alike role.Rebind x y a k h = plain-alike (rebound_as x) role.Rebind x y refl k h
    recast-alike (role.BindRest s) (n.Ident i) y a k h = h
    recast-alike (role.BindRest s) x y a k h = plain-alike (rest_as s x) (role.BindRest s) x y refl k h
    recast-alike (role.RebindRest s) (n.PatIdent b) y a k h = h
    recast-alike (role.RebindRest s) x y a k h = plain-alike (again_as s x) (role.RebindRest s) x y refl k h

-- ---- its tree's kind and place depend on the node alone

module _ {F C K : Type 0} (fun_at : F → Span) (class_at : C → Span) (block_at : K → Span) (f g : ℕ → Tree F C K) where
  abbrev by_f : Node F C K → Tree F C K
  by_f x = marked_tree fun_at class_at block_at f x

  abbrev by_g : Node F C K → Tree F C K
  by_g x = marked_tree fun_at class_at block_at g x

  pub kind-alone : (x : Node F C K) → kind_of (by_f x) ≡ kind_of (by_g x)
  kind-alone (n.This e) = refl
  kind-alone x = refl

  -- but for a pattern that is an expression, which lies where that does
  abbrev pub HeldPlace : Node F C K → Type 0
  HeldPlace (n.PatExpr e) = span_of (f e.0) ≡ span_of (g e.0)
  HeldPlace x = Unit {0}

  pub place-alone : (x : Node F C K) → HeldPlace x → span_of (by_f x) ≡ span_of (by_g x)
  place-alone (n.PatExpr e) h = h
  place-alone x h = refl

-- ---- what is due may be

pub suit-first : (qs bs : List Due) → suit (qs ++ bs) ≡ true → suit qs ≡ true
suit-first [] bs h = refl
suit-first (a ∷ qs) bs h = let b = both_true h in true_both b.0 (suit-first qs bs b.1)

pub suit-second : (qs bs : List Due) → suit (qs ++ bs) ≡ true → suit bs ≡ true
suit-second [] bs h = h
suit-second (a ∷ qs) bs h = suit-second qs bs (both_true h).1

pub suit-both : (qs bs : List Due) → suit qs ≡ true → suit bs ≡ true → suit (qs ++ bs) ≡ true
suit-both [] bs h k = k
suit-both (a ∷ qs) bs h k = let b = both_true h in true_both b.0 (suit-both qs bs b.1 k)

suit-kept : (ps : List Part) → suit (map keep ps) ≡ true
suit-kept [] = refl
suit-kept (p ∷ ps) = suit-kept ps

expr-suit : (r : Role) (e : ExprId) → suits r expr ≡ true → suit (expr_due r e ∷ []) ≡ true
expr-suit r e h = true_both h refl

rest-suits : (r : Role) (s : Span) → suits r expr ≡ true → suits (rest_role r s) expr ≡ true
rest-suits role.Keep s h = refl
rest-suits role.Bind s h = refl
rest-suits role.Assign s h = refl
rest-suits role.Rebind s h = absurd cc
rest-suits (role.BindRest z) s h = refl
rest-suits (role.RebindRest z) s h = absurd cc
rest-suits role.Nothing s h = refl
rest-suits (role.NothingAt z) s h = refl

item-suit : (r : Role) (last : Bool) (s : Option Span) (e : ExprId) → suits r expr ≡ true →
    suit (item_dues r last s e) ≡ true
item-suit r last None e h = expr-suit r e h
item-suit r true (Some d) e h = expr-suit r e h
item-suit r false (Some d) e h = refl

elems-suit : (r : Role) (es : List (Option (ExprOrSpread ExprId))) → suits r expr ≡ true → suit (elem_dues r es) ≡ true
elems-suit r [] h = refl
elems-suit r (None ∷ es) h = elems-suit r es h
elems-suit r (Some x ∷ es) h =
    suit-both (item_dues r (is_empty es) x.spread x.expr) (elem_dues r es)
    (item-suit r (is_empty es) x.spread x.expr h) (elems-suit r es h)

prop-suit : {K : Type 0} (r : Role) (p : PropNode K) → suits r expr ≡ true → suit (prop_dues r p) ≡ true
prop-suit r (prop.Spread s) h = expr-suit (rest_role r s.span) s.expr (rest-suits r s.span h)
prop-suit r (prop.KeyValue s k v) h =
    suit-both (map keep (key_parts k)) (expr_due r v ∷ []) (suit-kept (key_parts k)) (expr-suit r v h)
prop-suit r (prop.Assign p) h = suit-kept (one_expr p.value)
prop-suit r p h = refl

listed-suit : {X : Type 0} (f : X → List Due) → ((x : X) → suit (f x) ≡ true) → (xs : List X) → suit (flat f xs) ≡ true
listed-suit f each [] = refl
listed-suit f each (x ∷ xs) = suit-both (f x) (flat f xs) (each x) (listed-suit f each xs)

left-suits : (r : Role) → suits (left_role r) pat ≡ true
left-suits role.Keep = refl
left-suits role.Bind = refl
left-suits role.Assign = refl
left-suits role.Rebind = refl
left-suits (role.BindRest s) = refl
left-suits (role.RebindRest s) = refl
left-suits role.Nothing = refl
left-suits (role.NothingAt z) = refl

left-suit : (r : Role) (l : TargetNode) (qs : List Due) → suits r expr ≡ true → suit qs ≡ true →
    suit (left_due r l ∷ qs) ≡ true
left-suit r (target.Simple e) qs h k = true_both h k
left-suit r (target.Pat p) qs h k = true_both (left-suits r) k

part-suit : (p : PatPart) → suit (part_dues role.Rebind p) ≡ true
part-suit (of_pat.Pat p) = refl
part-suit (of_pat.Expr e) = refl

rest-suit : (s : Span) (p : PatPart) → suit (part_dues (role.RebindRest s) p) ≡ true
rest-suit s (of_pat.Pat p) = refl
rest-suit s (of_pat.Expr e) = refl

pat-elem-suit : (e : Option PatElem) → suit (pat_elem_dues e) ≡ true
pat-elem-suit None = refl
pat-elem-suit (Some (elem.Item p)) = part-suit p
pat-elem-suit (Some (elem.Rest s d p)) = part-suit p

pat-prop-suit : (p : PatPropNode) → suit (pat_prop_dues p) ≡ true
pat-prop-suit (pat_prop.KeyValue s k v) =
    suit-both (map keep (key_parts k)) (part_dues role.Rebind v) (suit-kept (key_parts k)) (part-suit v)
pat-prop-suit (pat_prop.Assign s k v) = suit-kept (if_some one_expr v)
pat-prop-suit (pat_prop.Rest s d p) = rest-suit s p

default-suit : (F C K : Type 0) (r : Role) (s : Span) (o : AssignOp) (l : TargetNode) (e : ExprId)
    → suits r expr ≡ true →
    suit (dues_by {F = F} {C = C} {K = K} (by_op o) r (n.Assign s o l e)) ≡ true
default-suit F C K r s op.Assign l e h = left-suit r l (keep (expr_part e) ∷ []) h refl
default-suit F C K r s o l e h = refl

module _ {F C K : Type 0} where
  plain-suit : (b : Becomes) (r : Role) (x : Node F C K) → is_plain b ≡ true → suit (dues_by b r x) ≡ true
  plain-suit to.Same r x p = suit-kept (slots x)
  plain-suit to.Held r x p = suit-kept (slots x)
  plain-suit to.Nothing r x p = refl
  plain-suit (to.Instead s) r x p = refl
  plain-suit to.Again r x p = absurd cc
  plain-suit to.Ident r x p = absurd cc
  plain-suit to.Array r x p = absurd cc
  plain-suit to.Object r x p = absurd cc
  plain-suit to.Default r x p = absurd cc

  pub dues-suit : (r : Role) (x : Node F C K) → suit (dues_of r x) ≡ true
  dues-suit role.Keep x = suit-kept (slots x)
  dues-suit role.Nothing x = refl
  dues-suit (role.NothingAt z) x = refl
  dues-suit role.Bind (n.Array s elems comma) = elems-suit role.Bind elems.items refl
  dues-suit role.Bind (n.Object s props comma) = listed-suit (prop_dues role.Bind)
      (λ p. prop-suit role.Bind p refl) props.items
  dues-suit role.Bind (n.Assign s o l e) = default-suit F C K role.Bind s o l e refl
  dues-suit role.Bind x = refl
  dues-suit role.Assign (n.Ident i) = refl
  dues-suit role.Assign (n.Array s elems comma) = elems-suit role.Assign elems.items refl
  dues-suit role.Assign (n.Object s props comma) =
      listed-suit (prop_dues role.Assign) (λ p. prop-suit role.Assign p refl) props.items
  dues-suit role.Assign (n.Assign s o l e) = default-suit F C K role.Assign s o l e refl
  dues-suit role.Assign x = plain-suit (assigned_as x) role.Assign x refl
  dues-suit role.Rebind (n.PatArray s elems) = listed-suit pat_elem_dues pat-elem-suit elems.items
  dues-suit role.Rebind (n.PatObject s props) = listed-suit pat_prop_dues pat-prop-suit props.items
  dues-suit role.Rebind (n.PatAssign s l e) =
      suit-both (part_dues role.Rebind l) (map keep (one_expr e)) (part-suit l) refl
  dues-suit role.Rebind (n.PatRest s d p) = refl
  dues-suit role.Rebind x = plain-suit (rebound_as x) role.Rebind x refl
  dues-suit (role.BindRest s) (n.Ident i) = refl
  dues-suit (role.BindRest s) x = plain-suit (rest_as s x) (role.BindRest s) x refl
  dues-suit (role.RebindRest s) (n.PatIdent b) = refl
  dues-suit (role.RebindRest s) x = plain-suit (again_as s x) (role.RebindRest s) x refl
