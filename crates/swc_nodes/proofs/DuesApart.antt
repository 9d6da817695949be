-- What is due of a node lies apart where the node's parts do.
use Rattle.std.proofs.Common.{◌≡◌, ℕ, suc, Bool, true, false, List, [], ◌∷◌, ◌++◌, map, Option, Some, None, refl, sym, ap}
use Rattle.std.proofs.Common.{◌∙◌, arith, append_assoc}
use Rattle.swc_context.specs.declared.span.Span.{Span}
use Rattle.swc_ast.specs.declared.expr.ExprOrSpread.{ExprOrSpread}
use Rattle.swc_nodes.specs.NodeParts.{Part, View, Form, target_expr, other_expr, target_pat, other_pat, view_ok, expr, pat}
use Rattle.swc_nodes.specs.NodeParts.{simple, pattern, flat, if_some, item_parts, one_expr, expr_part, pat_part}
use Rattle.swc_nodes.specs.NodeParts.{target_part, key_parts, prop_parts, part_parts, pat_elem_part, pat_prop_parts, slots}
use Rattle.swc_nodes.specs.NumberedTrees.{Seat, chain}
use Rattle.swc_nodes.specs.Roles.{Due, part_of_due, keep, expr_due, left_due, item_dues, elem_dues, prop_dues, part_dues}
use Rattle.swc_nodes.specs.Roles.{pat_elem_dues, pat_prop_dues, again_dues, array_dues, object_dues, default_dues, dues_by, dues_of}
use Rattle.swc_nodes.specs.Roles.{becomes_as, is_empty, ready, suits}
use Rattle.swc_nodes.specs.declared.node.ExprId.{ExprId}
use Rattle.swc_nodes.specs.declared.node.Node.{Node}
use Rattle.swc_nodes.specs.declared.node.Node.TheVariants as n
use Rattle.swc_nodes.specs.declared.node.PatElem.{PatElem}
use Rattle.swc_nodes.specs.declared.node.PatElem.TheVariants as elem
use Rattle.swc_nodes.specs.declared.node.PatPart.{PatPart}
use Rattle.swc_nodes.specs.declared.node.PatPart.TheVariants as of_pat
use Rattle.swc_nodes.specs.declared.node.PatPropNode.{PatPropNode}
use Rattle.swc_nodes.specs.declared.node.PatPropNode.TheVariants as pat_prop
use Rattle.swc_nodes.specs.declared.node.PropNode.{PropNode}
use Rattle.swc_nodes.specs.declared.node.PropNode.TheVariants as prop
use Rattle.swc_nodes.specs.declared.node.TargetNode.{TargetNode}
use Rattle.swc_nodes.specs.declared.node.TargetNode.TheVariants as target
use Rattle.swc_nodes.specs.declared.role.Becomes.{Becomes}
use Rattle.swc_nodes.specs.declared.role.Becomes.TheVariants as to
use Rattle.swc_nodes.specs.declared.role.Role.{Role}
use Rattle.swc_nodes.specs.declared.role.Role.TheVariants as role
use Rattle.std.proofs.lemmas.Bool.{le-leb}
use Rattle.swc_nodes.proofs.Chains.{both_true, true_both, Fitting, fitting, fits-of, chain-bound, chain-down}

simple-expr : (f : Form) → view_ok simple f ≡ true → view_ok expr f ≡ true
simple-expr target_expr e = refl
simple-expr other_expr e = absurd cc
simple-expr target_pat e = absurd cc
simple-expr other_pat e = absurd cc

pattern-pat : (f : Form) → view_ok pattern f ≡ true → view_ok pat f ≡ true
pattern-pat target_pat e = refl
pattern-pat other_pat e = absurd cc
pattern-pat target_expr e = absurd cc
pattern-pat other_expr e = absurd cc

module _ {F C K : Type 0} (at : ℕ → Seat F C K) (hi : ℕ) where
  -- what lies apart from any number on where the parts do
  abbrev Apart : List Part → List Part → Type 0
  Apart ps qs = (lo : ℕ) → chain at lo ps hi ≡ true → chain at lo qs hi ≡ true

  skip-one : (p : Part) (ps : List Part) → Apart (p ∷ ps) ps
  skip-one p ps lo h =
      let b = both_true h in
      let f = fitting at lo p b.0 in
      let a = f.above in
      let v = f.first in
      chain-down at (suc p.at) lo ps hi (omega arith) b.1

  skip : (ps qs : List Part) → Apart (ps ++ qs) qs
  skip [] qs lo h = h
  skip (p ∷ ps) qs lo h = skip ps qs lo (skip-one p (ps ++ qs) lo h)

  with-one : (p : Part) (ps qs : List Part) → Apart ps qs → Apart (p ∷ ps) (p ∷ qs)
  with-one p ps qs next lo h = let b = both_true h in true_both b.0 (next (suc p.at) b.1)

  kept-are : (ks ps : List Part) (qs : List Due) → Apart ps (map part_of_due qs) →
      Apart (ks ++ ps) (map part_of_due (map keep ks ++ qs))
  kept-are [] ps qs next = next
  kept-are (k ∷ ks) ps qs next = with-one k (ks ++ ps) (map part_of_due (map keep ks ++ qs)) (kept-are ks ps qs next)

  item-apart : (r : Role) (last : Bool) (s : Option Span) (e : ExprId) (ps : List Part) (qs : List Due) →
      Apart ps (map part_of_due qs) → Apart (expr_part e ∷ ps) (map part_of_due (item_dues r last s e ++ qs))
  item-apart r last None e ps qs next = with-one (expr_part e) ps (map part_of_due qs) next
  item-apart r true (Some d) e ps qs next = with-one (expr_part e) ps (map part_of_due qs) next
  item-apart r false (Some d) e ps qs next = λ lo h. next lo (skip-one (expr_part e) ps lo h)

  pub elems-apart : (r : Role) (es : List (Option (ExprOrSpread ExprId))) →
      Apart (flat (if_some item_parts) es) (map part_of_due (elem_dues r es))
  elems-apart r [] = λ lo h. h
  elems-apart r (None ∷ es) = elems-apart r es
  elems-apart r (Some x ∷ es) =
      item-apart r (is_empty es) x.spread x.expr (flat (if_some item_parts) es) (elem_dues r es) (elems-apart r es)

  prop-apart : (r : Role) (p : PropNode K) (ps : List Part) (qs : List Due) → Apart ps (map part_of_due qs) →
      Apart (prop_parts p ++ ps) (map part_of_due (prop_dues r p ++ qs))
  prop-apart r (prop.Spread s) ps qs next = with-one (expr_part s.expr) ps (map part_of_due qs) next
  prop-apart r (prop.Shorthand i) ps qs next = next
  prop-apart r (prop.KeyValue s k v) ps qs next = λ lo h.
      let whole = kept-are (key_parts k) (expr_part v ∷ ps) (expr_due r v ∷ qs)
      (with-one (expr_part v) ps (map part_of_due qs) next) lo
      (ap (λ u. chain at lo u hi) (sym (append_assoc (key_parts k) (one_expr v) ps)) ∙ h) in
      ap (λ u. chain at lo (map part_of_due u) hi) (append_assoc (map keep (key_parts k)) (expr_due r v ∷ []) qs)
      ∙ whole
  prop-apart r (prop.Assign p) ps qs next = with-one (expr_part p.value) ps (map part_of_due qs) next
  prop-apart r (prop.Method k f) ps qs next = λ lo h. next lo (skip (prop_parts (prop.Method k f)) ps lo h)
  prop-apart r (prop.Getter s k b) ps qs next = λ lo h. next lo (skip (prop_parts (prop.Getter s k b)) ps lo h)
  prop-apart r (prop.Setter s k p b) ps qs next = λ lo h. next lo (skip (prop_parts (prop.Setter s k p b)) ps lo h)

  pub props-apart : (r : Role) (xs : List (PropNode K))
      → Apart (flat prop_parts xs) (map part_of_due (flat (prop_dues r) xs))
  props-apart r [] = λ lo h. h
  props-apart r (x ∷ xs) = prop-apart r x (flat prop_parts xs) (flat (prop_dues r) xs) (props-apart r xs)

  part-apart : (r : Role) (p : PatPart) (ps : List Part) (qs : List Due) → Apart ps (map part_of_due qs) →
      Apart (part_parts p ++ ps) (map part_of_due (part_dues r p ++ qs))
  part-apart r (of_pat.Pat p) ps qs next = with-one (pat_part p) ps (map part_of_due qs) next
  part-apart r (of_pat.Expr e) ps qs next = with-one (expr_part e) ps (map part_of_due qs) next

  pub left-apart : (r : Role) (l : TargetNode) (ps : List Part) (qs : List Due) → Apart ps (map part_of_due qs) →
      Apart (target_part l ∷ ps) (map part_of_due (left_due r l ∷ qs))
  left-apart r (target.Simple e) ps qs next lo h =
      let b = both_true h in
      let f = fitting at lo (target_part (target.Simple e)) b.0 in
      let fit : Fitting at lo (expr_part e) =
      record { above = f.above; first = f.first; view = simple-expr (at e.0).form f.view } in
      true_both (fits-of at lo (expr_part e) fit) (next (suc e.0) b.1)
  left-apart r (target.Pat p) ps qs next lo h =
      let b = both_true h in
      let f = fitting at lo (target_part (target.Pat p)) b.0 in
      let fit : Fitting at lo (pat_part p) =
      record { above = f.above; first = f.first; view = pattern-pat (at p.0).form f.view } in
      true_both (fits-of at lo (pat_part p) fit) (next (suc p.0) b.1)

  elem-apart : (e : Option PatElem) (ps : List Part) (qs : List Due) → Apart ps (map part_of_due qs) →
      Apart (if_some pat_elem_part e ++ ps) (map part_of_due (pat_elem_dues e ++ qs))
  elem-apart None ps qs next = next
  elem-apart (Some (elem.Item p)) ps qs next = part-apart _ p ps qs next
  elem-apart (Some (elem.Rest s d p)) ps qs next = part-apart _ p ps qs next

  pub pat-elems-apart : (es : List (Option PatElem)) →
      Apart (flat (if_some pat_elem_part) es) (map part_of_due (flat pat_elem_dues es))
  pat-elems-apart [] = λ lo h. h
  pat-elems-apart (e ∷ es) = elem-apart e (flat (if_some pat_elem_part) es) (flat pat_elem_dues es) (pat-elems-apart es)

  none-apart : (ps : List Part) → Apart ps []
  none-apart ps lo h = le-leb lo hi (chain-bound at lo ps hi h)

  kept-same : (ps : List Part) → map part_of_due (map keep ps) ≡ ps
  kept-same [] = refl
  kept-same (p ∷ ps) = ap (λ v. p ∷ v) (kept-same ps)

  all-kept : (ps : List Part) → Apart ps (map part_of_due (map keep ps))
  all-kept ps lo h = ap (λ v. chain at lo v hi) (kept-same ps) ∙ h

  pat-prop-apart : (p : PatPropNode) (ps : List Part) (qs : List Due) → Apart ps (map part_of_due qs) →
      Apart (pat_prop_parts p ++ ps) (map part_of_due (pat_prop_dues p ++ qs))
  pat-prop-apart (pat_prop.KeyValue s k v) ps qs next = λ lo h.
      let own = part_dues role.Rebind v in
      let whole = kept-are (key_parts k) (part_parts v ++ ps) (own ++ qs) (part-apart role.Rebind v ps qs next) lo
      (ap (λ u. chain at lo u hi) (sym (append_assoc (key_parts k) (part_parts v) ps)) ∙ h) in
      ap (λ u. chain at lo (map part_of_due u) hi) (append_assoc (map keep (key_parts k)) own qs) ∙ whole
  pat-prop-apart (pat_prop.Assign s k v) ps qs next = kept-are (if_some one_expr v) ps qs next
  pat-prop-apart (pat_prop.Rest s d p) ps qs next = part-apart (role.RebindRest s) p ps qs next

  pat-props-apart : (xs : List PatPropNode) → Apart (flat pat_prop_parts xs) (map part_of_due (flat pat_prop_dues xs))
  pat-props-apart [] = λ lo h. h
  pat-props-apart (x ∷ xs) = pat-prop-apart x (flat pat_prop_parts xs) (flat pat_prop_dues xs) (pat-props-apart xs)

  again-apart : (x : Node F C K) → Apart (slots x) (map part_of_due (again_dues x))
  again-apart (n.PatArray s elems) = pat-elems-apart elems.items
  again-apart (n.PatObject s props) = pat-props-apart props.items
  again-apart (n.PatAssign s l r) =
      part-apart role.Rebind l (one_expr r) (map keep (one_expr r)) (all-kept (one_expr r))
  again-apart (n.PatRest s d p) = λ lo h. h
  again-apart x = none-apart (slots x)

  array-apart : (r : Role) (x : Node F C K) → Apart (slots x) (map part_of_due (array_dues r x))
  array-apart r (n.Array s elems comma) = elems-apart r elems.items
  array-apart r x = none-apart (slots x)

  object-apart : (r : Role) (x : Node F C K) → Apart (slots x) (map part_of_due (object_dues r x))
  object-apart r (n.Object s props comma) = props-apart r props.items
  object-apart r x = none-apart (slots x)

  default-apart : (r : Role) (x : Node F C K) → Apart (slots x) (map part_of_due (default_dues r x))
  default-apart r (n.Assign s o l e) = left-apart r l (one_expr e) (map keep (one_expr e)) (all-kept (one_expr e))
  default-apart r x = none-apart (slots x)

  dues-by-apart : (b : Becomes) (r : Role) (x : Node F C K) → Apart (slots x) (map part_of_due (dues_by b r x))
  dues-by-apart to.Same r x = all-kept (slots x)
  dues-by-apart to.Held r x = all-kept (slots x)
  dues-by-apart to.Again r x = again-apart x
  dues-by-apart to.Array r x = array-apart r x
  dues-by-apart to.Object r x = object-apart r x
  dues-by-apart to.Default r x = default-apart r x
  dues-by-apart to.Ident r x = none-apart (slots x)
  dues-by-apart to.Nothing r x = none-apart (slots x)
  dues-by-apart (to.Instead s) r x = none-apart (slots x)

  -- what is due of a node lies apart
  pub dues-apart : (r : Role) (x : Node F C K) → Apart (slots x) (map part_of_due (dues_of r x))
  dues-apart r x = dues-by-apart (becomes_as r x) r x

-- ---- a node may become what is due of it

pub suit-ready : (r : Role) (v : View) (f : Form) → suits r v ≡ true → view_ok v f ≡ true → ready r f ≡ true
suit-ready role.Keep v f h k = refl
suit-ready role.Bind expr f h k = k
suit-ready role.Bind simple f h k = simple-expr f k
suit-ready role.Bind pat f h k = absurd cc
suit-ready role.Bind pattern f h k = absurd cc
suit-ready role.Assign expr f h k = k
suit-ready role.Assign simple f h k = simple-expr f k
suit-ready role.Assign pat f h k = absurd cc
suit-ready role.Assign pattern f h k = absurd cc
suit-ready role.Rebind pat f h k = k
suit-ready role.Rebind pattern f h k = pattern-pat f k
suit-ready role.Rebind expr f h k = absurd cc
suit-ready role.Rebind simple f h k = absurd cc
suit-ready (role.BindRest s) expr f h k = k
suit-ready (role.BindRest s) simple f h k = simple-expr f k
suit-ready (role.BindRest s) pat f h k = absurd cc
suit-ready (role.BindRest s) pattern f h k = absurd cc
suit-ready (role.RebindRest s) pat f h k = k
suit-ready (role.RebindRest s) pattern f h k = absurd cc
suit-ready (role.RebindRest s) expr f h k = absurd cc
suit-ready (role.RebindRest s) simple f h k = absurd cc
suit-ready role.Nothing expr f h k = k
suit-ready (role.NothingAt z) expr f h k = k
suit-ready role.Nothing simple f h k = simple-expr f k
suit-ready (role.NothingAt z) simple f h k = simple-expr f k
suit-ready role.Nothing pat f h k = absurd cc
suit-ready (role.NothingAt z) pat f h k = absurd cc
suit-ready role.Nothing pattern f h k = absurd cc
suit-ready (role.NothingAt z) pattern f h k = absurd cc
