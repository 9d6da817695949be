-- An expression that became a pattern where it is, or is one that is assigned to as it is.
use Rattle.std.proofs.Common.{◌≡◌, ℕ, ◌⊎◌, inl, inr, true, false, not, List, [], ◌∷◌, map, refl, sym, ap, subst, ◌∙◌, arith}
use Rattle.swc_ast.specs.Tree.{pat_expr, Tree, node, nil, cons, span_of}
use Rattle.swc_ast.specs.declared.spanned.Spanned.{Ghosts}
use Rattle.swc_cover.specs.Wanted as wanted
use Rattle.swc_cover.specs.{Moving.KeptTo, Roles.refines, Roles.sought}
use Rattle.swc_cover.proofs.Dressed.{assigned-how, by_node, law-sought, want-held}
use Rattle.swc_cover.proofs.Fitting.{form-at, stood-at, stood-tree}
use Rattle.swc_cover.proofs.{Kept.kept-to, Listed.bound-view}
use Rattle.swc_nodes.proofs.Held.{apart-from, from-apart, from-down, from_self, pat_not_expr}
use Rattle.swc_nodes.specs.NodeParts.{Form, expr, pat, expr_part, pat_part, view_ok}
use Rattle.swc_nodes.specs.GrowingNodes.{seat_at, tree_at, first_at, Apart, From, Made}
use Rattle.swc_nodes.specs.Roles.{Due, becomes_as, expr_due, held_view, part_of_due, suit}
use Rattle.swc_nodes.specs.Turning.{AllTurned, KeptBelow, Turned, became, kind_of, node_at}
use Rattle.swc_nodes.specs.{declared.node.ExprId.ExprId, declared.node.PatId.PatId, declared.nodes.Nodes.Nodes, declared.role.Becomes.Becomes, declared.role.Becomes.Becomes as to, declared.role.Role.Role, declared.role.Role.Role as role}

-- ---- how it became a pattern

held-or-pat : (b : Becomes) → (b ≡ to.Held) ⊎ (held_view b ≡ pat)
held-or-pat to.Held = inl refl
held-or-pat b = inr refl

pub refines-suit : (r : Role) (id : ExprId) (ds : List Due) → refines r ≡ true → ds ≡ expr_due r id ∷ [] →
    suit ds ≡ true
refines-suit role.Bind id ds h e = ap suit e
refines-suit role.Assign id ds h e = ap suit e
refines-suit r id ds h e = cc

no-pattern : (f : Form) → view_ok expr f ≡ true → view_ok pat f ≡ true → ⊥
no-pattern f h k = let e : true ≡ false = sym k ∙ pat_not_expr f ∙ ap not h in cc

module _ {F C K : Type 0} where
  same-tree : (S : Role → Tree F C K → Tree F C K) (b : Becomes) (r : Role) (t : Tree F C K) → b ≡ to.Held →
      became S b r t ≡ t
  same-tree S b r t e = ap (λ v. became S v r t) e

  new-tree : (S : Role → Tree F C K → Tree F C K) (b : Becomes) (r : Role) (t : Tree F C K) → refines r ≡ true →
      held_view b ≡ pat → became S b r t ≡ S r t
  new-tree S to.Held r t h e = cc
  new-tree S b role.Bind t h e = refl
  new-tree S b role.Assign t h e = refl
  new-tree S b r t h e = cc

module _ {F C K : Type 0} {fg : Ghosts F} {cg : Ghosts C} {kg : Ghosts K} where
  pub one-apart : {ns : Nodes F C K fg cg kg} {k : ℕ} (r : Role) (id : ExprId) (ds : List Due) →
      ds ≡ expr_due r id ∷ [] → From k ns (expr_part id) → Apart k ns (map part_of_due ds)
  one-apart {ns} {k} r id ds e f = subst (λ v. Apart k ns (map part_of_due v)) (sym e) (apart-from (expr_part id) f)

  pub one-kept : {ns ms : Nodes F C K fg cg kg} (r : Role) (id : ExprId) (ds : List Due) → ds ≡ expr_due r id ∷ [] →
      From 0 ns (expr_part id) → ((k : ℕ) → Apart k ns (map part_of_due ds) → KeptBelow k ns ms) →
      KeptTo (first_at ns id.0) ns ms
  one-kept {ns} r id ds e f h = kept-to (h (first_at ns id.0) (one-apart r id ds e (from_self f)))

  -- what the expression became, by how its node did
  pub record Became (ns ms : Nodes F C K fg cg kg) (r : Role) (id : ExprId) (b : Becomes) : Type 0 where
    how : b ≡ becomes_as r (node_at ns.nodes.items id.0)
    from : From (first_at ns id.0) ms (record { at = id.0; view = held_view b })
    tree : tree_at ms id.0 ≡ became sought b r (tree_at ns id.0)

  by-view : {ns ms : Nodes F C K fg cg kg} (r : Role) (id : ExprId) → refines r ≡ true →
      Turned sought (first_at ns id.0) ns (expr_due r id ∷ []) ms →
      Became ns ms r id (becomes_as r (node_at ns.nodes.items id.0))
  by-view role.Bind id h t = record { how = refl; from = from-apart _ [] t.apart; tree = t.stands.0 }
  by-view role.Assign id h t = record { how = refl; from = from-apart _ [] t.apart; tree = t.stands.0 }
  by-view r id h t = cc

  pub became-one : {ns ms : Nodes F C K fg cg kg} (r : Role) (id : ExprId) (ds : List Due) → refines r ≡ true →
      ds ≡ expr_due r id ∷ [] → From 0 ns (expr_part id) →
      ((k : ℕ) → Apart k ns (map part_of_due ds) → AllTurned k ns ds ms) →
      Became ns ms r id (becomes_as r (node_at ns.nodes.items id.0))
  became-one {ns} {ms} r id ds h e f t =
      let k = first_at ns id.0 in
      by-view r id h (subst (λ v. Turned sought k ns v ms) e
      (t k (one-apart r id ds e (from_self f)) sought (law-sought fg.place cg.place kg.place)))

  -- it is a pattern
  pub became-pat : {ns ms : Nodes F C K fg cg kg} (r : Role) (id : ExprId) (b : Becomes) → refines r ≡ true →
      (From 0 ms (expr_part id) → ⊥) → Became ns ms r id b →
      Made (first_at ns id.0) ms (pat_part (record { 0 = id.0 })) (sought r (tree_at ns id.0))
  became-pat {ns} {ms} r id b h none m = elim (held-or-pat b) [
    | inl e ↦
        let from : From (first_at ns id.0) ms (expr_part id) =
        subst (λ v. From (first_at ns id.0) ms (record { at = id.0; view = held_view v })) e m.from in
        absurd (none (from-down (omega arith) from))
    | inr e ↦ record {
      from = subst (λ v. From (first_at ns id.0) ms (record { at = id.0; view = v })) e m.from;
      stands = m.tree ∙ new-tree sought b r (tree_at ns id.0) h e;
    }
  ]

  held-wanted : {ns : Nodes F C K fg cg kg} (r : Role) (id : ExprId) → refines r ≡ true → From 0 ns (expr_part id) →
      becomes_as r (node_at ns.nodes.items id.0) ≡ to.Held →
      sought r (tree_at ns id.0) ≡ node pat_expr (span_of (tree_at ns id.0)) (cons (tree_at ns id.0) nil)
  held-wanted {ns} role.Assign id h f e =
      let x = node_at ns.nodes.items id.0 in
      want-held (tree_at ns id.0)
      (ap (λ t. wanted.assigned_as (kind_of t)) (stood-tree (stood-at ns id.0 f.within) f.within)
      ∙ assigned-how fg.place cg.place kg.place (tree_at ns) x (form-at ns id.0 expr f.within f.view)
      ∙ ap by_node e)
  held-wanted {ns} role.Bind id h f e =
      let w : expr ≡ pat = ap held_view (sym e) ∙ bound-view (node_at ns.nodes.items id.0) in cc
  held-wanted r id h f e = cc

  -- it is an expression that a pattern holds
  pub became-held : {ns ms ks : Nodes F C K fg cg kg} (r : Role) (id : ExprId) (p : PatId) (b : Becomes) →
      refines r ≡ true → From 0 ns (expr_part id) → From 0 ms (expr_part id) → Became ns ms r id b →
      Made (first_at ms id.0) ks (pat_part p) (node pat_expr (span_of (tree_at ms id.0)) (cons (tree_at ms id.0) nil)) →
      Made (first_at ns id.0) ks (pat_part p) (sought r (tree_at ns id.0))
  became-held {ns} {ms} {ks} r id p b h was now m made =
      let held : b ≡ to.Held = elim (held-or-pat b) [
        | inl e ↦ e
        | inr e ↦
            let from : From (first_at ns id.0) ms (record { at = id.0; view = pat }) =
            subst (λ v. From (first_at ns id.0) ms (record { at = id.0; view = v })) e m.from in
            absurd (no-pattern (seat_at ms id.0).form now.view from.view)
      ] in
      let above = m.from.above in
      record {
        from = from-down (omega arith) made.from;
        stands =
            made.stands
            ∙ ap (λ t. node pat_expr (span_of t) (cons t nil)) (m.tree ∙ same-tree sought b r (tree_at ns id.0) held)
            ∙ sym (held-wanted r id h was (sym m.how ∙ held));
      }
