-- Walks over pieces, a piece at a time.
use Rattle.std.proofs.Common.{◌≡◌, ℕ, suc, ◌+◌, ◌<◌, ◌≤◌, Bool, true, false, List, [], ◌∷◌, length, take, drop, refl, sym, ap, ◌∙◌, arith}
use Rattle.std.specs.Prelude.{if◌then◌else◌, ◌||◌, ◌&&◌, slice_index_or}
use Rattle.std.proofs.lemmas.List.{at_drop_more, at_drop_all, take_more}
use Rattle.regex_patterns.specs.declared.piece.Placed.{Placed}
use Rattle.regex_patterns.specs.Conditions.{count, captures, group_names, is_named, name_at, contains, are_known, is_reference}
use Rattle.regex_patterns.specs.Patterns.{are_flags, can_follow}

module _ (ps : List Placed) (i : ℕ) (d : Placed) where
  pub count_on : i < length ps → captures (slice_index_or ps i d).piece ≡ true → count (drop i ps) ≡ suc (count (drop (i + 1) ps))
  unfolding count
  count_on lt is = at_drop_more count ps i d lt ∙ ap (λ b. (if b then 1 else 0) + count (drop (i + 1) ps)) is ∙ omega arith

  pub count_off : i < length ps → captures (slice_index_or ps i d).piece ≡ false → count (drop i ps) ≡ count (drop (i + 1) ps)
  unfolding count
  count_off lt is = at_drop_more count ps i d lt ∙ ap (λ b. (if b then 1 else 0) + count (drop (i + 1) ps)) is ∙ omega arith

  module _ (units : List ℕ) where
    pub names_on : i < length ps → is_named (slice_index_or ps i d).piece ≡ true
        → group_names units (drop i ps) ≡ name_at units (slice_index_or ps i d).at ∷ group_names units (drop (i + 1) ps)
    unfolding group_names
    names_on lt is =
        at_drop_more (group_names units) ps i d lt
        ∙ ap (λ b. if b then name_at units (slice_index_or ps i d).at ∷ group_names units (drop (i + 1) ps) else group_names units (drop (i + 1) ps)) is

    pub names_off : i < length ps → is_named (slice_index_or ps i d).piece ≡ false
        → group_names units (drop i ps) ≡ group_names units (drop (i + 1) ps)
    unfolding group_names
    names_off lt is =
        at_drop_more (group_names units) ps i d lt
        ∙ ap (λ b. if b then name_at units (slice_index_or ps i d).at ∷ group_names units (drop (i + 1) ps) else group_names units (drop (i + 1) ps)) is

pub count_over : (ps : List Placed) (i : ℕ) → length ps ≤ i → count (drop i ps) ≡ 0
unfolding count
count_over ps i le = at_drop_all count ps i le

pub names_over : (units : List ℕ) (ps : List Placed) (i : ℕ) → length ps ≤ i → group_names units (drop i ps) ≡ []
unfolding group_names
names_over units ps i le = at_drop_all (group_names units) ps i le

pub or-shift : (a b c : Bool) → ((a || b) || c) ≡ (b || (a || c))
or-shift true true c = refl
or-shift true false c = refl
or-shift false true c = refl
or-shift false false c = refl

module _ (bs : List ℕ) (i : ℕ) where
  flags_at : i < length bs → are_flags (take i bs) (drop i bs)
      ≡ (can_follow (take i bs) (slice_index_or bs i 0) && are_flags (take (i + 1) bs) (drop (i + 1) bs))
  unfolding are_flags
  flags_at lt =
      at_drop_more (are_flags (take i bs)) bs i 0 lt
      ∙ ap (λ cs. can_follow (take i bs) (slice_index_or bs i 0) && are_flags cs (drop (i + 1) bs)) (sym (take_more bs i 0 lt))

  pub flags_on : i < length bs → can_follow (take i bs) (slice_index_or bs i 0) ≡ true
      → are_flags (take (i + 1) bs) (drop (i + 1) bs) ≡ are_flags (take i bs) (drop i bs)
  flags_on lt is = sym (flags_at lt ∙ ap (λ b. b && are_flags (take (i + 1) bs) (drop (i + 1) bs)) is)

  pub flags_off : i < length bs → can_follow (take i bs) (slice_index_or bs i 0) ≡ false → are_flags (take i bs) (drop i bs) ≡ false
  flags_off lt is = flags_at lt ∙ ap (λ b. b && are_flags (take (i + 1) bs) (drop (i + 1) bs)) is

  pub flags_over : length bs ≤ i → are_flags (take i bs) (drop i bs) ≡ true
  unfolding are_flags
  flags_over le = at_drop_all (are_flags (take i bs)) bs i le

module _ (units : List ℕ) (ns : List (List ℕ)) (ps : List Placed) (i : ℕ) (d : Placed) where
  known_at : i < length ps → are_known units ns (drop i ps)
      ≡ ((if is_reference (slice_index_or ps i d).piece then contains ns (name_at units (slice_index_or ps i d).at) else true)
      && are_known units ns (drop (i + 1) ps))
  known_at lt = at_drop_more (are_known units ns) ps i d lt

  pub known_on : i < length ps → is_reference (slice_index_or ps i d).piece ≡ true
      → contains ns (name_at units (slice_index_or ps i d).at) ≡ true → are_known units ns (drop (i + 1) ps) ≡ are_known units ns (drop i ps)
  known_on lt is has =
      sym (known_at lt
      ∙ ap (λ b. (if b then contains ns (name_at units (slice_index_or ps i d).at) else true) && are_known units ns (drop (i + 1) ps)) is
      ∙ ap (λ b. b && are_known units ns (drop (i + 1) ps)) has)

  pub known_off : i < length ps → is_reference (slice_index_or ps i d).piece ≡ true
      → contains ns (name_at units (slice_index_or ps i d).at) ≡ false → are_known units ns (drop i ps) ≡ false
  known_off lt is has =
      known_at lt
      ∙ ap (λ b. (if b then contains ns (name_at units (slice_index_or ps i d).at) else true) && are_known units ns (drop (i + 1) ps)) is
      ∙ ap (λ b. b && are_known units ns (drop (i + 1) ps)) has

  pub known_other : i < length ps → is_reference (slice_index_or ps i d).piece ≡ false
      → are_known units ns (drop (i + 1) ps) ≡ are_known units ns (drop i ps)
  known_other lt is =
      sym (known_at lt
      ∙ ap (λ b. (if b then contains ns (name_at units (slice_index_or ps i d).at) else true) && are_known units ns (drop (i + 1) ps)) is)
