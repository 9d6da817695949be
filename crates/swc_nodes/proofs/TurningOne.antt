-- One node that becomes what it is to, among the nodes.
use Rattle.std.proofs.Common.{◌≡◌, ℕ, ◌<◌, ◌⊎◌, true, List, [], ◌∷◌, ◌++◌, map, length, take, get_or, refl, sym, ap, subst, ◌∙◌, arith, ⊎_elim}
use Rattle.std.specs.Prelude.{set}
use Rattle.std.proofs.lemmas.List.{get_or_read, get_or-take, length-set, length-take-le, set-get_or, set-set, set_split, take-set}
use Rattle.swc_context.specs.declared.span.Span.{Span}
use Rattle.swc_nodes.specs.NodeParts.{Part, form, slots, view_ok}
use Rattle.swc_nodes.specs.Onward.{TurnedOne}
use Rattle.swc_nodes.specs.Roles.{Due, again_dues, becomes_as, dues_by, dues_of, keep}
use Rattle.swc_nodes.specs.Turning.{is_made, no_node, node_at, IsAgain, PartsIn, RecastIn}
use Rattle.swc_nodes.specs.{declared.node.Node.Node, declared.role.Becomes.Becomes, declared.role.Becomes.Becomes as to, declared.role.Role.Role}

-- what isn't as it was is made anew
pub made-is : (b : Becomes) → (b ≡ to.Same → ⊥) → (b ≡ to.Held → ⊥) → (b ≡ to.Again → ⊥) → is_made b ≡ true
made-is to.Same s h a = absurd (s refl)
made-is to.Held s h a = absurd (h refl)
made-is to.Again s h a = absurd (a refl)
made-is b s h a = refl

module _ {F C K : Type 0} where
  -- what was read of nodes
  pub node-read : (xs : List (Node F C K)) (i : ℕ) (x : Node F C K) → i < length xs → x ≡ get_or xs i x →
      x ≡ node_at xs i
  node-read xs i x lt e = get_or_read xs i x lt e no_node

  -- parts among the nodes below a number are there when another is put in place of its node
  pub parts-there : (xs : List (Node F C K)) (i : ℕ) (z : Node F C K) (ps : List Part) → i < length xs →
      PartsIn (take i xs) ps → PartsIn (set xs i z) ps
  parts-there xs i z [] lt h = tt
  parts-there xs i z (p ∷ ps) lt h =
      let t = length-take-le i xs (omega arith) in
      let s = length-set xs i z in
      let low = h.0.0 in
      let same : node_at (set xs i z) p.at ≡ node_at (take i xs) p.at =
      sym (get_or-take i (set xs i z) p.at no_node (omega arith)) ∙ ap (λ v. node_at v p.at) (take-set xs i z) in
      ((omega arith, ap (λ x. view_ok p.view (form x)) same ∙ h.0.1), parts-there xs i z ps lt h.1)

-- how the node with the number i was read that says what it becomes
module _ {F C K : Type 0} (fun_at : F → Span) (class_at : C → Span) (block_at : K → Span) (xs : List (Node F C K))
    (i : ℕ) (lt : i < length xs) (r : Role) (qs bs : List Due) (w : Node F C K) (seen : w ≡ get_or xs i w) where
  abbrev one : List (Node F C K) → Type 0
  one ys = TurnedOne fun_at class_at block_at xs ys i r qs bs

  -- put in its place, over nodes that are the same below it
  turned-as : (over : List (Node F C K)) (b : Becomes) (x y : Node F C K) → take i over ≡ take i xs →
      x ≡ node_at xs i → b ≡ becomes_as r w → RecastIn fun_at class_at block_at over b r x y →
      bs ≡ qs ++ dues_by b r x → one (set xs i y)
  turned-as over b x y same here how h owes =
      let now : b ≡ becomes_as r (node_at xs i) = how ∙ ap (becomes_as r) (node-read xs i w lt seen) in
      record {
        node = y;
        over = over;
        same = same;
        recast = subst (λ z. RecastIn fun_at class_at block_at over (becomes_as r (node_at xs i)) r z y) here
            (subst (λ v. RecastIn fun_at class_at block_at over v r x y) now h);
        nodes = set_split xs i y lt;
        dues = owes ∙ ap (λ z. qs ++ dues_by b r z) here ∙ ap (λ v. qs ++ dues_by v r (node_at xs i)) now;
      }

  -- as it is
  pub turned-same : (b : Becomes) (x : Node F C K) → x ≡ get_or xs i x → b ≡ becomes_as r w →
      (b ≡ to.Same) ⊎ (b ≡ to.Held) → bs ≡ qs ++ map keep (slots x) → one xs
  turned-same b x e how same owes =
      let here = node-read xs i x lt e in
      let back : set xs i x ≡ xs = ap (λ v. set xs i v) e ∙ set-get_or xs i x in
      subst one back (⊎_elim
      (λ h. turned-as xs to.Same x x refl here (sym h ∙ how) refl owes)
      (λ h. turned-as xs to.Held x x refl here (sym h ∙ how) refl owes)
      same)

  -- a pattern that is to bind
  pub turned-again : (b : Becomes) (x y : Node F C K) → x ≡ get_or xs i x → b ≡ becomes_as r w → b ≡ to.Again →
      IsAgain x y → bs ≡ qs ++ again_dues x → one (set xs i y)
  turned-again b x y e how again h owes =
      turned-as xs to.Again x y refl (node-read xs i x lt e) (sym again ∙ how) h owes

  -- another, over the nodes in which another was in its place
  pub turned-made : (b : Becomes) (x y z : Node F C K) → x ≡ node_at xs i → b ≡ becomes_as r w →
      RecastIn fun_at class_at block_at (set xs i z) b r x y → bs ≡ qs ++ dues_of r x → one (set (set xs i z) i y)
  turned-made b x y z here how h owes =
      let goes : becomes_as r x ≡ b = ap (becomes_as r) (here ∙ sym (node-read xs i w lt seen)) ∙ sym how in
      subst one (sym (set-set xs i z y))
      (turned-as (set xs i z) b x y (take-set xs i z) here how h (owes ∙ ap (λ v. qs ++ dues_by v r x) goes))
