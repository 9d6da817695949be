-- What `Layers` holds says what is in the layers.
use Rattle.std.proofs.Common.{◌≡◌, ℕ, suc, true, false, List, [], ◌∷◌, ◌++◌, ◌-◌, ◌≤◌, ◌<◌, drop, length, reverse, Option, Some, refl, sym, ap, ◌∙◌, ◌⊎◌, inl, inr, arith}
use Rattle.std.specs.Prelude.{if◌then◌else◌, ◌||◌, is_some}
use Rattle.std.specs.List.{list_any}
use Rattle.std.specs.Str.{bytes_eq}
use Rattle.program_scopes.specs.declared.layers.Layers.{Layers}
use Rattle.program_scopes.specs.Stacks.{found, since}
use Rattle.program_scopes.specs.Layers.{last, topmost, is_in_any, put, taken, ended, all_of, marks_of, AreLayers}
use Rattle.program_scopes.proofs.Bytes.{split}
use Rattle.std.proofs.lemmas.List.{append-nil, nil_from_length}
use Rattle.program_scopes.proofs.Founds.{beyond, since-in, longer, or-assoc, some-if, same-first, same-rest, not-empty, turned, drop-front}

module _ {T : Type 0} where
  -- the last thing of a layer, on those below
  pub last-of : (q : List ℕ) (l below : List (List ℕ × T)) → since (length below) (found q (l ++ below)) ≡ last q l
  unfolding found last
  last-of q [] below = beyond q below (length below) (omega arith)
  last-of q (x ∷ l) below = by (split (bytes_eq q x.0)) (last-of q l below)
    where
      here : Option (ℕ × T)
      here = Some (length (l ++ below), x.1)

      by : (bytes_eq q x.0 ≡ true) ⊎ (bytes_eq q x.0 ≡ false) → since (length below) (found q (l ++ below)) ≡ last q l
          → since (length below) (if bytes_eq q x.0 then here else found q (l ++ below)) ≡ (if bytes_eq q x.0 then Some x.1 else last q l)
      by (inl e) rest =
          ap (λ b. since (length below) (if b then here else found q (l ++ below))) e
          ∙ since-in (length below) (length (l ++ below)) x.1 (longer l below)
          ∙ sym (ap (λ b. if b then Some x.1 else last q l) e)
      by (inr e) rest =
          ap (λ b. since (length below) (if b then here else found q (l ++ below))) e ∙ rest
          ∙ sym (ap (λ b. if b then Some x.1 else last q l) e)

  -- the last thing of all
  pub last-found : (q : List ℕ) (xs : List (List ℕ × T)) → since 0 (found q xs) ≡ last q xs
  last-found q xs = ap (λ ys. since 0 (found q ys)) (sym (append-nil xs)) ∙ last-of q xs []

  -- which names are found at all
  pub any-of : (q : List ℕ) (l below : List (List ℕ × T)) → is_some (found q (l ++ below)) ≡ (list_any (λ x. bytes_eq q x.0) l || is_some (found q below))
  unfolding found
  any-of q [] below = refl
  any-of q (x ∷ l) below =
      some-if (bytes_eq q x.0) (length (l ++ below), x.1) (found q (l ++ below))
      ∙ ap (λ r. bytes_eq q x.0 || r) (any-of q l below)
      ∙ or-assoc (bytes_eq q x.0) (list_any (λ x. bytes_eq q x.0) l) (is_some (found q below))

  any-layer : (q : List ℕ) (ls : List (List (List ℕ × T))) → is_some (found q (all_of ls)) ≡ is_in_any q ls
  unfolding found all_of
  any-layer q [] = refl
  any-layer q (l ∷ ls) = any-of q l (all_of ls) ∙ ap (λ r. list_any (λ x. bytes_eq q x.0) l || r) (any-layer q ls)

  -- a layer begins
  pub began : (old new : Layers T) (ls : List (List (List ℕ × T))) → AreLayers old ls → new.things ≡ old.things → new.under ≡ length old.things
      → new.lower.items ≡ old.lower.items ++ old.under ∷ [] → AreLayers new ([] ∷ ls)
  unfolding all_of marks_of
  began old new ls are things under lower = record {
    things = things ∙ are.things;
    marks = ap (λ n. n ∷ reverse new.lower.items) (under ∙ ap length are.things)
        ∙ ap (λ ns. length (all_of ls) ∷ ns) (turned old.lower.items new.lower.items old.under lower ∙ are.marks);
  }

  -- a layer ends
  pub ends : (old new : Layers T) (ls : List (List (List ℕ × T))) (x : ℕ) → AreLayers old ls → old.lower.items ≡ new.lower.items ++ x ∷ []
      → new.under ≡ x → new.things ≡ drop (length old.things - old.under) old.things → AreLayers new (ended ls)
  unfolding all_of marks_of
  ends old new [] x are lower under things = absurd (not-empty _ _ are.marks)
  ends old new (l ∷ []) x are lower under things =
      absurd (not-empty x (reverse new.lower.items) (sym (turned new.lower.items old.lower.items x lower) ∙ same-rest _ _ _ _ are.marks))
  ends old new (l ∷ m ∷ ls) x are lower under things =
      let top : old.under ≡ length (all_of (m ∷ ls)) = same-first _ _ _ _ are.marks in
      record {
        things = things ∙ ap (λ xs. drop (length xs - old.under) xs) are.things ∙ drop-front l (all_of (m ∷ ls)) old.under top;
        marks = ap (λ n. n ∷ reverse new.lower.items) under
            ∙ sym (turned new.lower.items old.lower.items x lower) ∙ same-rest _ _ _ _ are.marks;
      }

  -- the last layer stays
  pub stays : (old new : Layers T) (ls : List (List (List ℕ × T))) → AreLayers old ls → length old.lower.items ≡ 0 → old.lower.items ≡ new.lower.items ++ []
      → new.under ≡ old.under → new.things ≡ old.things → AreLayers new (ended ls)
  unfolding all_of marks_of
  stays old new [] are none lower under things = absurd (not-empty _ _ are.marks)
  stays old new (l ∷ []) are none lower under things = record {
    things = things ∙ are.things;
    marks = ap (λ n. n ∷ reverse new.lower.items) under ∙ ap (λ ns. old.under ∷ reverse ns) (sym (lower ∙ append-nil new.lower.items)) ∙ are.marks;
  }
  stays old new (l ∷ m ∷ ls) are none lower under things =
      absurd (not-empty _ _ (sym (same-rest _ _ _ _ are.marks) ∙ ap reverse (nil_from_length old.lower.items none)))

  pub top-of : (layers : Layers T) (q : List ℕ) (ls : List (List (List ℕ × T))) → AreLayers layers ls → since layers.under (found q layers.things) ≡ topmost q ls
  unfolding all_of marks_of
  top-of layers q [] are = absurd (not-empty _ _ are.marks)
  top-of layers q (l ∷ ls) are =
      let top : layers.under ≡ length (all_of ls) = same-first _ _ _ _ are.marks in
      ap (λ n. since n (found q layers.things)) top ∙ ap (λ xs. since (length (all_of ls)) (found q xs)) are.things ∙ last-of q l (all_of ls)

  pub any-in : (layers : Layers T) (q : List ℕ) (ls : List (List (List ℕ × T))) → AreLayers layers ls → is_some (found q layers.things) ≡ is_in_any q ls
  any-in layers q ls are = ap (λ xs. is_some (found q xs)) are.things ∙ any-layer q ls

  pub has-put : (old new : Layers T) (q : List ℕ) (x : T) (ls : List (List (List ℕ × T))) → AreLayers old ls → new.things ≡ (q, x) ∷ old.things
      → new.under ≡ old.under → new.lower.items ≡ old.lower.items → AreLayers new (put q x ls)
  unfolding all_of marks_of
  has-put old new q x [] are things under lower = absurd (not-empty _ _ are.marks)
  has-put old new q x (l ∷ ls) are things under lower = record {
    things = things ∙ ap (λ xs. (q, x) ∷ xs) are.things;
    marks = ap (λ n. n ∷ reverse new.lower.items) under ∙ ap (λ ns. old.under ∷ reverse ns) lower ∙ are.marks;
  }

  pub has-taken : (old new : Layers T) (ls : List (List (List ℕ × T))) → AreLayers old ls → old.under < length old.things → new.things ≡ drop 1 old.things
      → new.under ≡ old.under → new.lower.items ≡ old.lower.items → AreLayers new (taken ls)
  unfolding all_of marks_of
  has-taken old new [] are some things under lower = absurd (not-empty _ _ are.marks)
  has-taken old new ([] ∷ ls) are some things under lower =
      let top : old.under ≡ length (all_of ls) = same-first _ _ _ _ are.marks in
      let len : length old.things ≡ length (all_of ls) = ap length are.things in
      absurd (omega (arith, top, len, some))
  has-taken old new ((x ∷ l) ∷ ls) are some things under lower = record {
    things = things ∙ ap (λ xs. drop 1 xs) are.things;
    marks = ap (λ n. n ∷ reverse new.lower.items) under ∙ ap (λ ns. old.under ∷ reverse ns) lower ∙ are.marks;
  }

  pub none-taken : (layers : Layers T) (ls : List (List (List ℕ × T))) → AreLayers layers ls → length layers.things ≤ layers.under → AreLayers layers (taken ls)
  unfolding all_of marks_of
  none-taken layers [] are none = are
  none-taken layers ([] ∷ ls) are none = are
  none-taken layers ((x ∷ l) ∷ ls) are none =
      let top : layers.under ≡ length (all_of ls) = same-first _ _ _ _ are.marks in
      let len : length layers.things ≡ suc (length (l ++ all_of ls)) = ap length are.things in
      let long = longer l (all_of ls) in
      absurd (omega (arith, top, len, none, long))
