-- The properties `name = e` of a list, as they are looked at one after another.
use Rattle.std.proofs.Common.{◌≡◌, ℕ, zero, suc, ◌+◌, ◌<◌, ◌≤◌, Bool, true, false, not, ◌||◌, List, [], ◌∷◌, Option, Some, None, length, take, get_or, refl, sym, ap, subst, ◌∙◌, add-one, arith}
use Rattle.std.proofs.lemmas.Option.{slice_get_read}
use Rattle.std.specs.Prelude.{slice_get}
use Rattle.swc_ast.specs.declared.prop.AssignProp.{AssignProp}
use Rattle.swc_input.specs.{declared.buffer.Buffer.Buffer, Source.Model}
use Rattle.swc_nodes.specs.{Lists.is_cover_prop, Lists.has_cover, declared.node.ExprId.ExprId, declared.node.PropNode.PropNode, declared.node.PropNode.PropNode as prop}
use Rattle.swc_input.specs.Calls.{Checks}
use Rattle.swc_steps.proofs.Steps.{checks_both}

or_false : (a : Bool) → (a || false) ≡ a
or_false true = refl
or_false false = refl

or_assoc : (a b c : Bool) → (a || (b || c)) ≡ ((a || b) || c)
or_assoc true b c = refl
or_assoc false b c = refl

module _ {K : Type 0} where
  pub no_assign : (p : PropNode K) → ((x : AssignProp ExprId) → p ≡ prop.Assign x → ⊥) → is_cover_prop p ≡ false
  no_assign (prop.Assign x) h = absurd (h x refl)
  no_assign p h = refl

  abbrev covers_it : Option (PropNode K) → Bool
  covers_it None = false
  covers_it (Some p) = is_cover_prop p

  one_more : (ps : List (PropNode K)) (i : ℕ) → has_cover
      (take (suc i) ps) ≡ (has_cover (take i ps) || covers_it (slice_get ps i))
  one_more [] zero = refl
  one_more [] (suc i) = refl
  one_more (p ∷ ps) zero = or_false (is_cover_prop p)
  one_more (p ∷ ps) (suc i) =
      ap (λ v. is_cover_prop p || v) (one_more ps i)
      ∙ or_assoc (is_cover_prop p) (has_cover (take i ps)) (covers_it (slice_get ps i))

  pub cover-more : (ps : List (PropNode K)) (i : ℕ) (p : PropNode K) → i < length ps → p ≡ get_or ps i p
      → has_cover (take (i + 1) ps) ≡ (has_cover (take i ps) || is_cover_prop p)
  cover-more ps i p lt at =
      ap (λ v. has_cover (take v ps)) (add-one i) ∙ one_more ps i
      ∙ ap (λ v. has_cover (take i ps) || covers_it v) (slice_get_read ps (length ps) i p refl lt at)

  pub cover-all : (ps : List (PropNode K)) (i : ℕ) → length ps ≤ i → has_cover (take i ps) ≡ has_cover ps
  cover-all [] zero h = refl
  cover-all [] (suc i) h = refl
  cover-all (p ∷ ps) zero h = absurd (omega (arith, h))
  cover-all (p ∷ ps) (suc i) h = ap (λ v. is_cover_prop p || v) (cover-all ps i (omega (arith, h)))

module _ {S K : Type 0} {model : Model S} where
  pub checks-more : (ps : List (PropNode K)) (i : ℕ) (p : PropNode K) {b c d : Buffer S} → i < length ps
      → p ≡ get_or ps i p
      → Checks model (not (has_cover (take i ps))) b c → Checks model (not (is_cover_prop p)) c d
      → Checks model (not (has_cover (take (i + 1) ps))) b d
  checks-more ps i p {b} {c} {d} lt at h k =
      let P : Bool → Type 0 = λ v. Checks model (not v) b d in
      subst P (sym (cover-more ps i p lt at)) (checks_both (has_cover (take i ps)) (is_cover_prop p) h k)

  pub checks-all : (ps qs : List (PropNode K)) (i : ℕ) {b c : Buffer S} → ps ≡ qs → length ps ≤ i
      → Checks model (not (has_cover (take i ps))) b c → Checks model (not (has_cover qs)) b c
  checks-all ps qs i {b} {c} same h k =
      let P : Bool → Type 0 = λ v. Checks model (not v) b c in
      subst P (cover-all ps i h ∙ ap has_cover same) k
