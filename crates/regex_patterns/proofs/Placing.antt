-- Walks over a whole pattern, a piece at a time; and over names.
use Rattle.std.proofs.Common.{◌≡◌, ℕ, zero, suc, ◌+◌, ◌-◌, ◌<◌, ◌≤◌, true, false, List, [], ◌∷◌, ◌++◌, length, drop, Option, Some, None, refl, sym, ap, ◌∙◌, arith}
use Rattle.std.specs.Prelude.{if◌then◌else◌}
use Rattle.std.specs.Char.{encode_utf8}
use Rattle.std.proofs.lemmas.List.{drop-drop, at_drop_more, at_drop_all, append_assoc, append-nil}
use Rattle.swc_lexical.specs.Chars.{continues_name}
use Rattle.regex_patterns.specs.declared.mode.Mode.{Mode}
use Rattle.regex_patterns.specs.declared.piece.Piece.{Piece}
use Rattle.regex_patterns.specs.declared.piece.Placed.{Placed}
use Rattle.regex_patterns.specs.Pieces.{pieces_from, piece, and_rest}
use Rattle.regex_patterns.specs.Names.{name, name_from, character, fitting}
use Rattle.regex_patterns.proofs.Shifts.{with_before}

with-more : (ps : List Placed) (p : Piece) (at : ℕ) (o : Option (List Placed))
    → with_before (ps ++ record { piece = p; at = at } ∷ []) o ≡ with_before ps (and_rest p at o)
with-more ps p at None = refl
with-more ps p at (Some qs) = ap Some (append_assoc ps (record { piece = p; at = at } ∷ []) qs)

module _ (m : Mode) where
  passed : (k at : ℕ) (xs : List ℕ) → k ≤ length xs → pieces_from m k at xs ≡ pieces_from m 0 (at + k) (drop k xs)
  unfolding pieces_from
  passed zero at xs le = (let none : at ≡ at + 0 = omega arith in ap (λ i. pieces_from m 0 i xs) none)
  passed (suc k) at [] le = absurd (omega (arith, le))
  passed (suc k) at (x ∷ xs) le =
      passed k (suc at) xs (omega (arith, le))
      ∙ (let same : suc at + k ≡ at + suc k = omega arith in ap (λ i. pieces_from m 0 i (drop k xs)) same)

  first : (xs : List ℕ) (at n : ℕ) (p : Piece) → piece m xs ≡ Some (p, n) → 0 < n → n ≤ length xs
      → pieces_from m 0 at xs ≡ and_rest p at (pieces_from m 0 (at + n) (drop n xs))
  unfolding pieces_from
  first [] at n p is some le = absurd (omega (arith, some, le))
  first (x ∷ xs) at zero p is some le = absurd (omega (arith, some))
  first (x ∷ xs) at (suc n) p is some le =
      rw is (let one : suc n - 1 ≡ n = omega arith in
      let same : suc at + n ≡ at + suc n = omega arith in
      ap (λ k. and_rest p at (pieces_from m k (suc at) xs)) one
      ∙ ap (and_rest p at) (passed n (suc at) xs (omega (arith, le)))
      ∙ ap (λ i. and_rest p at (pieces_from m 0 i (drop n xs))) same)

  module _ (xs : List ℕ) (at : ℕ) where
    pub piece_on : (ps : List Placed) (n : ℕ) (p : Piece) → piece m (drop at xs) ≡ Some (p, n) → 0 < n → n ≤ length (drop at xs)
        → with_before (ps ++ record { piece = p; at = at } ∷ []) (pieces_from m 0 (at + n) (drop (at + n) xs))
        ≡ with_before ps (pieces_from m 0 at (drop at xs))
    piece_on ps n p is some le =
        with-more ps p at (pieces_from m 0 (at + n) (drop (at + n) xs))
        ∙ sym (ap (with_before ps) (first (drop at xs) at n p is some le
        ∙ ap (λ ys. and_rest p at (pieces_from m 0 (at + n) ys)) (drop-drop n at xs)))

    pub piece_none : at < length xs → piece m (drop at xs) ≡ None → pieces_from m 0 at (drop at xs) ≡ None
    unfolding pieces_from
    piece_none lt is =
        at_drop_more (pieces_from m 0 at) xs at 0 lt ∙ rw (sym (at_drop_more (piece m) xs at 0 lt) ∙ is) refl

    pub pieces_over : (ps : List Placed) → length xs ≤ at → with_before ps (pieces_from m 0 at (drop at xs)) ≡ Some ps
    unfolding pieces_from
    pieces_over ps le = ap (with_before ps) (at_drop_all (pieces_from m 0 at) xs at le) ∙ ap Some (append-nil ps)

name_passed : (k : ℕ) (xs : List ℕ) → k ≤ length xs → name_from k xs ≡ name_from 0 (drop k xs)
unfolding name_from
name_passed zero xs le = refl
name_passed (suc k) [] le = absurd (omega (arith, le))
name_passed (suc k) (x ∷ xs) le = name_passed k xs (omega (arith, le))

name_first : (xs : List ℕ) (n c : ℕ) → fitting (character xs) ≡ Some (c, n) → 0 < n → n ≤ length xs
    → name_from 0 xs ≡ encode_utf8 c ++ name_from 0 (drop n xs)
unfolding name_from
name_first [] n c is some le = absurd (omega (arith, some, le))
name_first (x ∷ xs) zero c is some le = absurd (omega (arith, some))
name_first (x ∷ xs) (suc n) c is some le =
    rw is (let one : suc n - 1 ≡ n = omega arith in
    ap (λ k. encode_utf8 c ++ name_from k xs) one ∙ ap (λ ys. encode_utf8 c ++ ys) (name_passed n xs (omega (arith, le))))

module _ (xs : List ℕ) (at : ℕ) where
  pub name_on : (ys zs : List ℕ) (n c : ℕ) → zs ≡ ys ++ encode_utf8 c → fitting (character (drop at xs)) ≡ Some (c, n) → 0 < n
      → n ≤ length (drop at xs) → zs ++ name_from 0 (drop (at + n) xs) ≡ ys ++ name_from 0 (drop at xs)
  name_on ys zs n c put is some le =
      ap (λ ws. ws ++ name_from 0 (drop (at + n) xs)) put
      ∙ append_assoc ys (encode_utf8 c) (name_from 0 (drop (at + n) xs))
      ∙ sym (ap (λ ws. ys ++ ws) (name_first (drop at xs) n c is some le
      ∙ ap (λ ws. encode_utf8 c ++ name_from 0 ws) (drop-drop n at xs)))

  pub name_stop : (ys : List ℕ) → at < length xs → fitting (character (drop at xs)) ≡ None
      → ys ≡ ys ++ name_from 0 (drop at xs)
  unfolding name_from
  name_stop ys lt is =
      sym (ap (λ ws. ys ++ ws) (at_drop_more (name_from 0) xs at 0 lt
      ∙ rw (sym (at_drop_more (λ ws. fitting (character ws)) xs at 0 lt) ∙ is) refl)
      ∙ append-nil ys)

  pub name_over : (ys : List ℕ) → length xs ≤ at → ys ≡ ys ++ name_from 0 (drop at xs)
  unfolding name_from
  name_over ys le = sym (ap (λ ws. ys ++ ws) (at_drop_all (name_from 0) xs at le) ∙ append-nil ys)

pub goes_on : (xs : List ℕ) (c n : ℕ) → character xs ≡ Some (c, n) → continues_name c ≡ true → fitting (character xs) ≡ Some (c, n)
goes_on xs c n is goes = ap fitting is ∙ ap (λ b. if b then Some (c, n) else None) goes

pub is_other : (xs : List ℕ) (c n : ℕ) → character xs ≡ Some (c, n) → continues_name c ≡ false → fitting (character xs) ≡ None
is_other xs c n is goes = ap fitting is ∙ ap (λ b. if b then Some (c, n) else None) goes

pub is_none : (xs : List ℕ) → character xs ≡ None → fitting (character xs) ≡ None
is_none xs is = ap fitting is

pub name_past : (xs : List ℕ) (n : ℕ) → length xs ≤ n → name (drop n xs) ≡ []
unfolding name_from
name_past xs n le = at_drop_all name xs n le
