-- Things that have names, as a list whose topmost is the last, and a table of them.
use Rattle.std.proofs.Common.{◌≡◌, ℕ, zero, suc, Bool, true, false, List, [], ◌∷◌, ◌++◌, ◌<◌, ◌-◌, drop, length, reverse, Option, Some, None, refl, sym, ap, subst, ◌∙◌, ◌⊎◌, inl, inr, arith}
use Rattle.std.specs.Prelude.{if◌then◌else◌, slice_get, option_map, IsSome}
use Rattle.std.specs.Option.{option_and_then, option_flatten}
use Rattle.std.specs.Str.{bytes_eq}
use Rattle.std.proofs.lemmas.List.{reverse-append, length-map, length-reverse, reverse-reverse}
use Rattle.std.proofs.lemmas.Option.{none-some, same_Some}
use Rattle.program_scopes.specs.declared.name_stack.Item.{Item}
use Rattle.program_scopes.specs.Stacks.{found}
use Rattle.program_scopes.specs.Linked.{named, index_of, AreLinked, Notes}
use Rattle.program_scopes.proofs.Bytes.{split, bytes-same, bytes-refl, bytes-sym}

pub flat-if : {A : Type 0} (b : Bool) (w : Option A) (o : Option (Option A)) → option_flatten (if b then Some w else o) ≡ (if b then w else option_flatten o)
flat-if true w o = refl
flat-if false w o = refl

get-last : {A : Type 0} (xs : List A) (x : A) → slice_get (xs ++ x ∷ []) (length xs) ≡ Some x
get-last [] x = refl
get-last (y ∷ xs) x = get-last xs x

get-before : {A : Type 0} (xs : List A) (x : A) (i : ℕ) → i < length xs → slice_get (xs ++ x ∷ []) i ≡ slice_get xs i
get-before [] x i lt = absurd (omega (arith, lt))
get-before (y ∷ xs) x zero lt = refl
get-before (y ∷ xs) x (suc i) lt = get-before xs x i (omega (arith, lt))

none-found : (T : Type 0) (q : List ℕ) → index_of {T = T} q [] ≡ None
unfolding found
none-found T q = refl

pub drop-more : {A : Type 0} (xs : List A) (n : ℕ) → n < length xs → drop (length (drop 1 xs) - n) (drop 1 xs) ≡ drop (length xs - n) xs
drop-more [] n lt = refl
drop-more (x ∷ xs) n lt =
    let one : suc (length xs - n) ≡ suc (length xs) - n = omega (arith, lt) in
    ap (λ k. drop k (x ∷ xs)) one

module _ {T : Type 0} where
  -- with no things
  pub is-empty : (is : List (Item T)) (p : List ℕ → Option ℕ) → is ≡ [] → ((q : List ℕ) → p q ≡ None) → AreLinked is p
  is-empty is p none all = subst (λ is. AreLinked is p) (sym none) (record { topmost = λ q. all q ∙ sym (none-found T q); chained = tt })

  length-named : (is : List (Item T)) → length (named is) ≡ length is
  length-named is = length-map is _

  found-here : (q : List ℕ) (x : Item T) (is : List (Item T)) → bytes_eq q x.name.now ≡ true → found q (named (x ∷ is)) ≡ Some (length is, x.value)
  unfolding found
  found-here q x is e =
      ap (λ b. if b then Some (length (named is), x.value) else found q (named is)) e ∙ ap (λ n. Some (n, x.value)) (length-named is)

  found-below : (q : List ℕ) (x : Item T) (is : List (Item T)) → bytes_eq q x.name.now ≡ false → found q (named (x ∷ is)) ≡ found q (named is)
  unfolding found
  found-below q x is e = ap (λ b. if b then Some (length (named is), x.value) else found q (named is)) e

  index-here : (q : List ℕ) (x : Item T) (is : List (Item T)) → bytes_eq q x.name.now ≡ true → index_of q (named (x ∷ is)) ≡ Some (length is)
  index-here q x is e = ap (λ r. option_map (λ p. p.0) r) (found-here q x is e)

  index-below : (q : List ℕ) (x : Item T) (is : List (Item T)) → bytes_eq q x.name.now ≡ false → index_of q (named (x ∷ is)) ≡ index_of q (named is)
  index-below q x is e = ap (λ r. option_map (λ p. p.0) r) (found-below q x is e)

  index-lt : (q : List ℕ) (is : List (Item T)) (i : ℕ) → index_of q (named is) ≡ Some i → i < length is
  index-lt q [] i at = absurd (none-some i (sym (none-found T q) ∙ at))
  index-lt q (x ∷ is) i at = by (split (bytes_eq q x.name.now)) (index-lt q is i)
    where
      by : (bytes_eq q x.name.now ≡ true) ⊎ (bytes_eq q x.name.now ≡ false) → (index_of q (named is) ≡ Some i → i < length is) → i < length (x ∷ is)
      by (inl e) rest =
          let same = same_Some (length is) i (sym (index-here q x is e) ∙ at) in
          omega (arith, same)
      by (inr e) rest = let lt = rest (sym (index-below q x is e) ∙ at) in omega (arith, lt)

  -- the thing at a place
  abbrev looked : Option ℕ → List (Item T) → Option (ℕ × T)
  looked o xs = option_and_then (λ i. option_map (λ x. (i, x.value)) (slice_get xs i)) o

  lower : (q : List ℕ) (x : Item T) (is : List (Item T)) (o : Option ℕ) → index_of q (named is) ≡ o → looked o (reverse is) ≡ looked o (reverse is ++ x ∷ [])
  lower q x is None at = refl
  lower q x is (Some i) at =
      let lt = index-lt q is i at in let len = length-reverse is in
      ap (λ r. option_map (λ x. (i, x.value)) r) (sym (get-before (reverse is) x i (omega (arith, lt, len))))

  -- what the topmost thing of a name is, by its place
  pub found-at : (q : List ℕ) (is : List (Item T)) (o : Option ℕ) → index_of q (named is) ≡ o → found q (named is) ≡ looked o (reverse is)
  unfolding found
  found-at q [] None at = refl
  found-at q [] (Some i) at = absurd (none-some i at)
  found-at q (x ∷ is) o at = by (split (bytes_eq q x.name.now)) (found-at q is o)
    where
      turned : reverse (x ∷ is) ≡ reverse is ++ x ∷ []
      turned = reverse-append (x ∷ []) is

      by : (bytes_eq q x.name.now ≡ true) ⊎ (bytes_eq q x.name.now ≡ false) → (index_of q (named is) ≡ o → found q (named is) ≡ looked o (reverse is))
          → found q (named (x ∷ is)) ≡ looked o (reverse (x ∷ is))
      by (inl e) rest =
          let n = length is in
          found-here q x is e
          ∙ sym (ap (λ r. option_map (λ x. (n, x.value)) r) (ap (λ k. slice_get (reverse is ++ x ∷ []) k) (sym (length-reverse is)) ∙ get-last (reverse is) x))
          ∙ sym (ap (looked (Some n)) turned)
          ∙ ap (λ o. looked o (reverse (x ∷ is))) (sym (index-here q x is e) ∙ at)
      by (inr e) rest =
          let at' = sym (index-below q x is e) ∙ at in
          found-below q x is e ∙ rest at' ∙ lower q x is o at' ∙ sym (ap (looked o) turned)

  -- the same, of a stack and its table
  pub by-place : (items : List (Item T)) (now : List (List ℕ × T)) (p : List ℕ → Option ℕ) (q : List ℕ) (o : Option ℕ)
      → named (reverse items) ≡ now → AreLinked (reverse items) p → p q ≡ o → found q now ≡ looked o items
  by-place items now p q o is linked at =
      ap (found q) (sym is) ∙ found-at q (reverse items) o (sym (linked.topmost q) ∙ at) ∙ ap (looked o) (reverse-reverse items)

  pub at-some : (items xs : List (Item T)) (i : ℕ) (x : Item T) → xs ≡ items → Some x ≡ slice_get xs i → looked (Some i) items ≡ Some (i, x.value)
  at-some items xs i x same at = ap (λ r. option_map (λ x. (i, x.value)) r) (ap (λ xs. slice_get xs i) (sym same) ∙ sym at)

  pub at-none : (items xs : List (Item T)) (i : ℕ) → xs ≡ items → None ≡ slice_get xs i → looked (Some i) items ≡ None
  at-none items xs i same at = ap (λ r. option_map (λ x. (i, x.value)) r) (ap (λ xs. slice_get xs i) (sym same) ∙ sym at)

  -- a thing is put on top
  pub put-on : (is : List (Item T)) (p p' : List ℕ → Option ℕ) (x : Item T) → AreLinked is p → x.below ≡ p x.name.now
      → Notes p p' x.name.now (Some (length is)) → AreLinked (x ∷ is) p'
  put-on is p p' x linked below now = record {
    topmost = λ q. now q ∙ ap (λ b. if b then Some (length is) else p q) (bytes-sym x.name.now q) ∙ at q (split (bytes_eq q x.name.now));
    chained = (below ∙ linked.topmost x.name.now, linked.chained);
  }
    where
      at : (q : List ℕ) → (bytes_eq q x.name.now ≡ true) ⊎ (bytes_eq q x.name.now ≡ false)
          → (if bytes_eq q x.name.now then Some (length is) else p q) ≡ index_of q (named (x ∷ is))
      at q (inl e) = ap (λ b. if b then Some (length is) else p q) e ∙ sym (index-here q x is e)
      at q (inr e) = ap (λ b. if b then Some (length is) else p q) e ∙ linked.topmost q ∙ sym (index-below q x is e)

  -- the same, of a stack
  pub pushed : (old new : List (Item T)) (p p' : List ℕ → Option ℕ) (x : Item T) (n : ℕ) → AreLinked (reverse old) p → new ≡ old ++ x ∷ [] → x.below ≡ p x.name.now
      → n ≡ length old → Notes p p' x.name.now (Some n) → AreLinked (reverse new) p'
  pushed old new p p' x n linked is below len now =
      subst (λ is. AreLinked is p') (sym (ap reverse is ∙ reverse-append old (x ∷ [])))
      (put-on (reverse old) p p' x linked below (λ q. now q ∙ ap (λ k. if bytes_eq x.name.now q then Some k else p q) (len ∙ sym (length-reverse old))))

  -- the topmost thing is taken away
  pub taken-off : (is : List (Item T)) (p p' : List ℕ → Option ℕ) (x : Item T) → AreLinked (x ∷ is) p
      → Notes p p' x.name.now x.below → AreLinked is p'
  taken-off is p p' x linked now = record {
    topmost = λ q. now q ∙ ap (λ b. if b then x.below else p q) (bytes-sym x.name.now q) ∙ at q (split (bytes_eq q x.name.now));
    chained = linked.chained.1;
  }
    where
      at : (q : List ℕ) → (bytes_eq q x.name.now ≡ true) ⊎ (bytes_eq q x.name.now ≡ false)
          → (if bytes_eq q x.name.now then x.below else p q) ≡ index_of q (named is)
      at q (inl e) =
          ap (λ b. if b then x.below else p q) e ∙ linked.chained.0 ∙ ap (λ n. index_of n (named is)) (sym (bytes-same q x.name.now e))
      at q (inr e) = ap (λ b. if b then x.below else p q) e ∙ linked.topmost q ∙ index-below q x is e

  -- a table knows the topmost thing
  pub is-known : (is : List (Item T)) (p : List ℕ → Option ℕ) (x : Item T) → AreLinked (x ∷ is) p → p x.name.now ≡ Some (length is)
  is-known is p x linked = linked.topmost x.name.now ∙ index-here x.name.now x is (bytes-refl x.name.now)

  -- the same, of a stack
  pub popped : (old new : List (Item T)) (p p' : List ℕ → Option ℕ) (x : Item T) → AreLinked (reverse old) p → old ≡ new ++ x ∷ []
      → (IsSome (p x.name.now) → Notes p p' x.name.now x.below) → AreLinked (reverse new) p'
  popped old new p p' x linked is now =
      let linked' = subst (λ is. AreLinked is p) (ap reverse is ∙ reverse-append new (x ∷ [])) linked in
      taken-off (reverse new) p p' x linked' (now (subst IsSome (sym (is-known (reverse new) p x linked')) refl))
