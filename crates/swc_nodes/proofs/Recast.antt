-- What a node becomes has the parts of the node that became what they are to.
use Rattle.std.proofs.Common.{◌≡◌, ℕ, Bool, true, false, List, [], ◌∷◌, ◌++◌, map, Option, Some, None, refl, sym, ap, ◌∙◌}
use Rattle.std.proofs.Common.{append_assoc}
use Rattle.std.specs.Prelude.{if◌then◌else◌}
use Rattle.std.proofs.lemmas.List.{append-nil, map-append}
use Rattle.swc_context.specs.declared.span.Span.{Span}
use Rattle.swc_ast.specs.declared.expr.ExprOrSpread.{ExprOrSpread}
use Rattle.swc_nodes.specs.NodeParts.{Part, View, pat, flat, if_some, expr_part, one_expr, key_parts}
use Rattle.swc_nodes.specs.NodeParts.{part_parts}
use Rattle.swc_nodes.specs.NodeParts.{pat_elem_part, pat_prop_parts}
use Rattle.swc_nodes.specs.Recasting.{part_as, part_for, left_for, item_for, elems_for, prop_for, props_for, one_or_none}
use Rattle.swc_nodes.specs.Recasting.{all_none, bare_part, bare_some, bare_prop, turned}
use Rattle.swc_nodes.specs.Roles.{Due, keep, expr_due, left_due, rest_role, item_dues, elem_dues, prop_dues}
use Rattle.swc_nodes.specs.Roles.{becomes_as, rebound_as, again_as, held_view, new_view, turns, is_empty}
use Rattle.swc_nodes.specs.Roles.{part_dues, pat_elem_dues, pat_prop_dues}
use Rattle.swc_nodes.specs.declared.node.ExprId.{ExprId}
use Rattle.swc_nodes.specs.declared.node.Node.{Node}
use Rattle.swc_nodes.specs.declared.node.Node.TheVariants as n
use Rattle.swc_nodes.specs.declared.node.PatElem.{PatElem}
use Rattle.swc_nodes.specs.declared.node.PatElem.TheVariants as elem
use Rattle.swc_nodes.specs.declared.node.PatPart.{PatPart}
use Rattle.swc_nodes.specs.declared.node.PatPart.TheVariants as of_pat
use Rattle.swc_nodes.specs.declared.node.PatPropNode.{PatPropNode}
use Rattle.swc_nodes.specs.declared.node.PatPropNode.TheVariants as pat_prop
use Rattle.swc_nodes.specs.declared.node.PropNode.{PropNode}
use Rattle.swc_nodes.specs.declared.node.PropNode.TheVariants as prop
use Rattle.swc_nodes.specs.declared.node.TargetNode.{TargetNode}
use Rattle.swc_nodes.specs.declared.node.TargetNode.TheVariants as target
use Rattle.swc_nodes.specs.declared.role.Becomes.{Becomes}
use Rattle.swc_nodes.specs.declared.role.Becomes.TheVariants as to
use Rattle.swc_nodes.specs.declared.role.Role.{Role}
use Rattle.swc_nodes.specs.declared.role.Role.TheVariants as role

part-as-is : (b : Becomes) (e : ExprId) → part_parts (part_as b e) ≡ record { at = e.0; view = held_view b } ∷ []
part-as-is to.Held e = refl
part-as-is to.Same e = refl
part-as-is to.Again e = refl
part-as-is to.Ident e = refl
part-as-is to.Array e = refl
part-as-is to.Object e = refl
part-as-is to.Default e = refl
part-as-is to.Nothing e = refl
part-as-is (to.Instead s) e = refl

pub view-is : (b : Becomes) (r : Role) (v : View) → turns r ≡ true → new_view b r v ≡ held_view b
view-is b role.Keep v h = cc
view-is b role.Bind v h = refl
view-is b role.Assign v h = refl
view-is b role.Rebind v h = refl
view-is b (role.BindRest s) v h = refl
view-is b (role.RebindRest s) v h = refl
view-is b role.Nothing v h = refl
view-is b (role.NothingAt z) v h = refl

pub rest-turns : (r : Role) (s : Span) → turns r ≡ true → turns (rest_role r s) ≡ true
rest-turns role.Keep s h = cc
rest-turns role.Bind s h = refl
rest-turns role.Assign s h = refl
rest-turns role.Rebind s h = refl
rest-turns (role.BindRest z) s h = refl
rest-turns (role.RebindRest z) s h = refl
rest-turns role.Nothing s h = refl
rest-turns (role.NothingAt z) s h = refl

flat-append : {X Y : Type 0} (f : X → List Y) (xs ys : List X) → flat f (xs ++ ys) ≡ flat f xs ++ flat f ys
flat-append f [] ys = refl
flat-append f (x ∷ xs) ys = ap (λ v. f x ++ v) (flat-append f xs ys) ∙ sym (append_assoc (f x) (flat f xs) (flat f ys))

pub rebound-view : {F C K : Type 0} (x : Node F C K) → held_view (rebound_as x) ≡ pat
rebound-view (n.PatIdent b) = refl
rebound-view (n.PatInvalid i) = refl
rebound-view (n.PatArray s elems) = refl
rebound-view (n.PatObject s props) = refl
rebound-view (n.PatRest s d p) = refl
rebound-view (n.PatAssign s l r) = refl
rebound-view x = refl

again-view : {F C K : Type 0} (s : Span) (x : Node F C K) → held_view (again_as s x) ≡ pat
again-view s (n.PatIdent b) = refl
again-view s (n.PatInvalid i) = refl
again-view s (n.PatExpr e) = refl
again-view s x = refl

module _ {F C K : Type 0} (at : ℕ → Node F C K) where
  pub kept-is : (ps : List Part) → map (turned at) (map keep ps) ≡ ps
  kept-is [] = refl
  kept-is (p ∷ ps) = ap (λ v. p ∷ v) (kept-is ps)

  pub part-is : (r : Role) (e : ExprId) → turns r ≡ true → part_parts (part_for at r e) ≡ turned at (expr_due r e) ∷ []
  part-is r e h =
      let b = becomes_as r (at e.0) in
      part-as-is b e ∙ ap (λ v. record { at = e.0; view = v } ∷ []) (sym (view-is b r (expr_part e).view h))

  item-is : (place : ℕ → Span) (r : Role) (last : Bool) (s : Option Span) (e : ExprId) → turns r ≡ true →
      flat (if_some pat_elem_part) (item_for at place r last s e) ≡ map (turned at) (item_dues r last s e)
  item-is place r last None e h = append-nil (part_parts (part_for at r e)) ∙ part-is r e h
  item-is place r true (Some d) e h = append-nil (part_parts (part_for at r e)) ∙ part-is r e h
  item-is place r false (Some d) e h = refl

  none-dues : (r : Role) (es : List (Option (ExprOrSpread ExprId))) → all_none es ≡ true → elem_dues r es ≡ []
  none-dues r [] h = refl
  none-dues r (None ∷ es) h = none-dues r es h
  none-dues r (Some x ∷ es) h = cc

  hole-are : (place : ℕ → Span) (r : Role) (es : List (Option (ExprOrSpread ExprId))) (b : Bool) → all_none es ≡ b →
      flat (if_some pat_elem_part) (elems_for at place r es) ≡ map (turned at) (elem_dues r es) →
      flat (if_some pat_elem_part) (if b then [] else None ∷ elems_for at place r es) ≡ map (turned at) (elem_dues r es)
  hole-are place r es true e h = sym (ap (map (turned at)) (none-dues r es e))
  hole-are place r es false e h = h

  -- the elements of an array
  pub elems-are : (place : ℕ → Span) (r : Role) (es : List (Option (ExprOrSpread ExprId))) → turns r ≡ true →
      flat (if_some pat_elem_part) (elems_for at place r es) ≡ map (turned at) (elem_dues r es)
  elems-are place r [] h = refl
  elems-are place r (None ∷ es) h = hole-are place r es (all_none es) refl (elems-are place r es h)
  elems-are place r (Some x ∷ es) h =
      let last = is_empty es in
      let first = item_for at place r last x.spread x.expr in
      let own = item_dues r last x.spread x.expr in
      flat-append (if_some pat_elem_part) first (elems_for at place r es)
      ∙ ap (λ v. v ++ flat (if_some pat_elem_part) (elems_for at place r es)) (item-is place r last x.spread x.expr h)
      ∙ ap (λ v. map (turned at) own ++ v) (elems-are place r es h)
      ∙ sym (map-append (turned at) own (elem_dues r es))

  keyed-is : (k : List Part) (q : Due) (ps : List Part) → ps ≡ turned at q ∷ [] →
      k ++ ps ≡ map (turned at) (map keep k ++ q ∷ [])
  keyed-is k q ps e =
      ap (λ v. k ++ v) e ∙ ap (λ v. v ++ turned at q ∷ []) (sym (kept-is k))
      ∙ sym (map-append (turned at) (map keep k) (q ∷ []))

  prop-is : {K : Type 0} (r : Role) (p : PropNode K) → turns r ≡ true →
      flat pat_prop_parts (one_or_none (prop_for at r p)) ≡ map (turned at) (prop_dues r p)
  prop-is r (prop.Spread s) h =
      append-nil (part_parts (part_for at (rest_role r s.span) s.expr))
      ∙ part-is (rest_role r s.span) s.expr (rest-turns r s.span h)
  prop-is r (prop.Shorthand i) h = refl
  prop-is r (prop.KeyValue s k v) h =
      append-nil (key_parts k ++ part_parts (part_for at r v))
      ∙ keyed-is (key_parts k) (expr_due r v) (part_parts (part_for at r v)) (part-is r v h)
  prop-is r (prop.Assign p) h = sym (kept-is (one_expr p.value))
  prop-is r (prop.Method k f) h = refl
  prop-is r (prop.Getter s k b) h = refl
  prop-is r (prop.Setter s k p b) h = refl

  -- the properties of an object
  pub props-are : {K : Type 0} (r : Role) (ps : List (PropNode K)) → turns r ≡ true →
      flat pat_prop_parts (props_for at r ps) ≡ map (turned at) (flat (prop_dues r) ps)
  props-are r [] h = refl
  props-are r (p ∷ ps) h =
      flat-append pat_prop_parts (one_or_none (prop_for at r p)) (props_for at r ps)
      ∙ ap (λ v. v ++ flat pat_prop_parts (props_for at r ps)) (prop-is r p h)
      ∙ ap (λ v. map (turned at) (prop_dues r p) ++ v) (props-are r ps h)
      ∙ sym (map-append (turned at) (prop_dues r p) (flat (prop_dues r) ps))

  -- the left of an assignment
  pub left-is : (r : Role) (l : TargetNode) → turns r ≡ true →
      part_parts (left_for at r l) ≡ turned at (left_due r l) ∷ []
  left-is r (target.Simple e) h = part-is r e h
  left-is role.Bind (target.Pat p) h = ap (λ v. record { at = p.0; view = v } ∷ []) (sym (rebound-view (at p.0)))
  left-is role.Keep (target.Pat p) h = refl
  left-is role.Assign (target.Pat p) h = refl
  left-is role.Rebind (target.Pat p) h = refl
  left-is (role.BindRest s) (target.Pat p) h = refl
  left-is (role.RebindRest s) (target.Pat p) h = refl
  left-is role.Nothing (target.Pat p) h = refl
  left-is (role.NothingAt z) (target.Pat p) h = refl

  -- the parts of a pattern that is to bind
  pub bound-part : (p : PatPart) → part_parts (bare_part p) ≡ map (turned at) (part_dues role.Rebind p)
  bound-part (of_pat.Pat p) = ap (λ v. record { at = p.0; view = v } ∷ []) (sym (rebound-view (at p.0)))
  bound-part (of_pat.Expr e) = refl

  bound-rest : (s : Span) (p : PatPart) → part_parts (bare_part p) ≡ map (turned at) (part_dues (role.RebindRest s) p)
  bound-rest s (of_pat.Pat p) = ap (λ v. record { at = p.0; view = v } ∷ []) (sym (again-view s (at p.0)))
  bound-rest s (of_pat.Expr e) = refl

  bound-elem : (e : Option PatElem) → if_some pat_elem_part (bare_some e) ≡ map (turned at) (pat_elem_dues e)
  bound-elem None = refl
  bound-elem (Some (elem.Item p)) = bound-part p
  bound-elem (Some (elem.Rest s d p)) = bound-part p

  bound-prop : (p : PatPropNode) → pat_prop_parts (bare_prop p) ≡ map (turned at) (pat_prop_dues p)
  bound-prop (pat_prop.KeyValue s k v) =
      ap (λ u. key_parts k ++ u) (bound-part v)
      ∙ ap (λ u. u ++ map (turned at) (part_dues role.Rebind v)) (sym (kept-is (key_parts k)))
      ∙ sym (map-append (turned at) (map keep (key_parts k)) (part_dues role.Rebind v))
  bound-prop (pat_prop.Assign s k v) = sym (kept-is (if_some one_expr v))
  bound-prop (pat_prop.Rest s d p) = bound-rest s p

  listed-are : {X : Type 0} (parts : X → List Part) (new : X → X) (own : X → List Due) →
      ((x : X) → parts (new x) ≡ map (turned at) (own x)) → (xs : List X) →
      flat parts (map new xs) ≡ map (turned at) (flat own xs)
  listed-are parts new own same [] = refl
  listed-are parts new own same (x ∷ xs) =
      ap (λ v. v ++ flat parts (map new xs)) (same x) ∙ ap (λ v. map (turned at) (own x) ++ v)
      (listed-are parts new own same xs)
      ∙ sym (map-append (turned at) (own x) (flat own xs))

  pub bound-elems : (es : List (Option PatElem)) →
      flat (if_some pat_elem_part) (map bare_some es) ≡ map (turned at) (flat pat_elem_dues es)
  bound-elems es = listed-are (if_some pat_elem_part) bare_some pat_elem_dues bound-elem es

  pub bound-props : (ps : List PatPropNode) →
      flat pat_prop_parts (map bare_prop ps) ≡ map (turned at) (flat pat_prop_dues ps)
  bound-props ps = listed-are pat_prop_parts bare_prop pat_prop_dues bound-prop ps
