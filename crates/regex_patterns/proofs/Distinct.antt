-- The walk over the names of groups finds exactly those that are there twice where both may take part in a match.
use Rattle.std.proofs.Common.{◌≡◌, ℕ, suc, ◌+◌, ◌<◌, ◌≤◌, Bool, true, false, List, [], ◌∷◌, ◌++◌, length, drop, Option, Some, None, refl, sym, ap, subst, ◌∙◌, arith, ◌⊎◌, inl, inr}
use Rattle.std.specs.Prelude.{if◌then◌else◌, not, ◌&&◌, ◌||◌, nat_le, slice_index_or}
use Rattle.std.specs.List.{list_all}
use Rattle.std.specs.Str.{bytes_eq}
use Rattle.std.proofs.lemmas.Bool.Decides.{nat_tests}
use Rattle.std.proofs.lemmas.List.{at_drop_more, at_drop_all}
use Rattle.std.proofs.lemmas.List.Folds.{list_all-append, list_any-append}
use Rattle.regex_patterns.specs.declared.mode.Mode.{Mode}
use Rattle.regex_patterns.specs.declared.piece.Group.{Group}
use Rattle.regex_patterns.specs.declared.piece.Group.TheVariants.{Capture, Named, Plain, Lookahead, Lookbehind}
use Rattle.regex_patterns.specs.declared.piece.Piece.{Piece}
use Rattle.regex_patterns.specs.declared.piece.Piece.TheVariants.{Open, Close, Bar, Assertion, Quantifier, Atom, Number, Name}
use Rattle.regex_patterns.specs.declared.piece.Placed.{Placed}
use Rattle.regex_patterns.specs.declared.names.Frame.{Frame}
use Rattle.regex_patterns.specs.Grammar.{is_atom, Symbol, Disjunction, Alternative, Term, Repeatable, Tree, nothing, also, either, leaf, group, repeated, Derives, one, more, no-term, terms, assertion, look, plain, quantified, atom, grouped}
use Rattle.regex_patterns.proofs.Bytes.{split, bytes-same}
use Rattle.regex_patterns.specs.Conditions.{is_named, name_at, contains, own_name, names, share_none, are_distinct, is_within, excludes, put, frame, frames_after, apart_from, are_apart}

-- the last piece that has each name
abbrev Last : Type 0
Last = List ℕ → Option ℕ

abbrev Below : Last → ℕ → Type 0
Below f i = (q : List ℕ) (p : ℕ) → f q ≡ Some p → p < i

-- none of these names is excluded
abbrev clear : List (List ℕ) → List Frame → Last → Bool
clear ns fs f = list_all (λ n. not (excludes fs (f n))) ns

-- what was known, with these names more, from a piece on up to another one
record After (ns : List (List ℕ)) (f g : Last) (i j : ℕ) : Type 0 where
  moves : i ≤ j
  fresh : (q : List ℕ) → contains ns q ≡ true → (p : ℕ) × ((g q ≡ Some p) × (i ≤ p))
  stale : (q : List ℕ) → contains ns q ≡ false → g q ≡ f q
  below : Below g j

abbrev goes : Bool → Bool → Bool
goes ok rest = if ok then rest else false

-- tests

and-true : (b : Bool) → b ≡ (b && true)
and-true true = refl
and-true false = refl

and-false : (b : Bool) → false ≡ (b && false)
and-false true = refl
and-false false = refl

or-false : (b : Bool) → (b || false) ≡ b
or-false true = refl
or-false false = refl

swapped : (a b c d : Bool) → ((a && b) && (c && d)) ≡ ((a && c) && (b && d))
swapped false b c d = refl
swapped true false false d = refl
swapped true false true d = refl
swapped true true false d = refl
swapped true true true d = refl

in-turn : (d c e k s r : Bool) → goes (d && c) (goes (e && (k && s)) r) ≡ goes ((d && e && s) && (c && k)) r
in-turn false c e k s r = refl
in-turn true false false k s r = refl
in-turn true false true k false r = refl
in-turn true false true k true r = refl
in-turn true true false k s r = refl
in-turn true true true false false r = refl
in-turn true true true false true r = refl
in-turn true true true true false r = refl
in-turn true true true true true r = refl

either-way : (d c e k l r : Bool) → (c ≡ true → l ≡ k) → goes (d && c) (goes (e && l) r) ≡ goes ((d && e) && (c && k)) r
either-way false c e k l r same = refl
either-way true false false k l r same = refl
either-way true false true k l r same = refl
either-way true true e k l r same = ap (λ z. goes (e && z) r) (same refl)

with-name : (x d c s r : Bool) → (if x then false else goes (d && (c && s)) r) ≡ goes ((d && s) && (not x && c)) r
with-name true false c s r = refl
with-name true true c false r = refl
with-name true true c true r = refl
with-name false false c s r = refl
with-name false true false false r = refl
with-name false true false true r = refl
with-name false true true false r = refl
with-name false true true true r = refl

le-true : (a b : ℕ) → a ≤ b → nat_le a b ≡ true
le-true a b h = grind (arith, h, nat_tests)

le-false : (a b : ℕ) → b < a → nat_le a b ≡ false
le-false a b h = grind (arith, h, nat_tests)

all-same : (p q : List ℕ → Bool) (ns : List (List ℕ)) → ((n : List ℕ) → p n ≡ q n) → list_all p ns ≡ list_all q ns
all-same p q [] is = refl
all-same p q (n ∷ ns) is = ap (λ b. b && list_all p ns) (is n) ∙ ap (λ b. q n && b) (all-same p q ns is)

all-and : (p q : List ℕ → Bool) (ns : List (List ℕ)) → list_all (λ n. p n && q n) ns ≡ (list_all p ns && list_all q ns)
all-and p q [] = refl
all-and p q (n ∷ ns) = ap (λ b. (p n && q n) && b) (all-and p q ns) ∙ swapped (p n) (q n) (list_all p ns) (list_all q ns)

shares-none : (ns : List (List ℕ)) → share_none ns [] ≡ true
shares-none [] = refl
shares-none (n ∷ ns) = shares-none ns

last-true : (b : Bool) → goes (b && true) true ≡ b
last-true true = refl
last-true false = refl

-- of a name that is there, what holds of all
holds-of : (p : List ℕ → Bool) (ns : List (List ℕ)) (q : List ℕ) → list_all p ns ≡ true → contains ns q ≡ true → p q ≡ true
holds-of p [] q all has = let bad : ⊥ = cc in absurd bad
holds-of p (n ∷ ns) q all has = by (split (bytes_eq q n)) (split (p n)) (holds-of p ns q)
  where
    by : (bytes_eq q n ≡ true) ⊎ (bytes_eq q n ≡ false) → (p n ≡ true) ⊎ (p n ≡ false)
        → (list_all p ns ≡ true → contains ns q ≡ true → p q ≡ true) → p q ≡ true
    by d (inr off) rest = let bad : false ≡ true = sym (ap (λ b. b && list_all p ns) off) ∙ all in let worse : ⊥ = cc in absurd worse
    by (inl same) (inl is) rest = ap p (bytes-same q n same) ∙ is
    by (inr other) (inl is) rest = rest (sym (ap (λ b. b && list_all p ns) is) ∙ all) (sym (ap (λ b. b || contains ns q) other) ∙ has)

module _ (g : Frame) (gs : List Frame) where
  within-now : (p : ℕ) → g.began ≤ p → g.alternative ≤ p → is_within (g ∷ gs) p ≡ true
  within-now p b a = ap (λ t. if t then nat_le g.alternative p else is_within gs p) (le-true g.began p b) ∙ le-true g.alternative p a

  excluded-now : (o : Option ℕ) (p : ℕ) → o ≡ Some p → g.began ≤ p → g.alternative ≤ p → excludes (g ∷ gs) o ≡ true
  excluded-now o p is b a = ap (excludes (g ∷ gs)) is ∙ within-now p b a

  -- names that were just read exclude the same names
  after-clear : (ts us : List (List ℕ)) (f h : Last) (i j : ℕ) → After ts f h i j → g.began ≤ i → g.alternative ≤ i
      → clear us (g ∷ gs) h ≡ (clear us (g ∷ gs) f && share_none us ts)
  after-clear ts us f h i j a b c =
      all-same (λ n. not (excludes (g ∷ gs) (h n))) (λ n. not (excludes (g ∷ gs) (f n)) && not (contains ts n)) us (λ q. by q (split (contains ts q)))
      ∙ all-and (λ n. not (excludes (g ∷ gs) (f n))) (λ n. not (contains ts n)) us
    where
      by : (q : List ℕ) → (contains ts q ≡ true) ⊎ (contains ts q ≡ false)
          → not (excludes (g ∷ gs) (h q)) ≡ (not (excludes (g ∷ gs) (f q)) && not (contains ts q))
      by q (inl has) =
          let w = a.fresh q has in
          ap not (excluded-now (h q) w.0 w.1.0 (omega (arith, b, w.1.1)) (omega (arith, c, w.1.1)))
          ∙ and-false (not (excludes (g ∷ gs) (f q))) ∙ ap (λ t. not (excludes (g ∷ gs) (f q)) && not t) (sym has)
      by q (inr other) =
          ap (λ o. not (excludes (g ∷ gs) o)) (a.stale q other) ∙ and-true (not (excludes (g ∷ gs) (f q)))
          ∙ ap (λ t. not (excludes (g ∷ gs) (f q)) && not t) (sym other)

  -- a name that is put is excluded, and no other one more
  put-clear : (n : List ℕ) (us : List (List ℕ)) (f : Last) (i : ℕ) → g.began ≤ i → g.alternative ≤ i
      → clear us (g ∷ gs) (put f n i) ≡ (clear us (g ∷ gs) f && share_none us (n ∷ []))
  put-clear n us f i b c =
      all-same (λ m. not (excludes (g ∷ gs) (put f n i m))) (λ m. not (excludes (g ∷ gs) (f m)) && not (contains (n ∷ []) m)) us
      (λ q. by q (split (bytes_eq q n)))
      ∙ all-and (λ m. not (excludes (g ∷ gs) (f m))) (λ m. not (contains (n ∷ []) m)) us
    where
      by : (q : List ℕ) → (bytes_eq q n ≡ true) ⊎ (bytes_eq q n ≡ false)
          → not (excludes (g ∷ gs) (put f n i q)) ≡ (not (excludes (g ∷ gs) (f q)) && not (contains (n ∷ []) q))
      by q (inl same) =
          ap not (excluded-now (put f n i q) i (ap (λ t. if t then Some i else f q) same) b c)
          ∙ and-false (not (excludes (g ∷ gs) (f q))) ∙ ap (λ t. not (excludes (g ∷ gs) (f q)) && not (t || false)) (sym same)
      by q (inr other) =
          ap (λ t. not (excludes (g ∷ gs) (if t then Some i else f q))) other ∙ and-true (not (excludes (g ∷ gs) (f q)))
          ∙ ap (λ t. not (excludes (g ∷ gs) (f q)) && not (t || false)) (sym other)

-- a group that is open since then excludes nothing more
open-clear : (us : List (List ℕ)) (gs : List Frame) (f : Last) (i : ℕ) → Below f i → clear us (frame i ∷ gs) f ≡ clear us gs f
open-clear us gs f i below =
    all-same (λ n. not (excludes (frame i ∷ gs) (f n))) (λ n. not (excludes gs (f n))) us (λ q. ap not (by q (f q) refl))
  where
    by : (q : List ℕ) (o : Option ℕ) → f q ≡ o → excludes (frame i ∷ gs) (f q) ≡ excludes gs (f q)
    by q None is = ap (excludes (frame i ∷ gs)) is ∙ ap (excludes gs) (sym is)
    by q (Some p) is =
        ap (excludes (frame i ∷ gs)) is
        ∙ ap (λ t. if t then nat_le i p else is_within gs p) (le-false i p (below q p is))
        ∙ ap (excludes gs) (sym is)

-- in the next alternative what was excluded before the first one is excluded
module _ (g : Frame) (gs : List Frame) (ts us : List (List ℕ)) (f h : Last) (i j : ℕ) (a : After ts f h i j)
    (b : g.began ≤ g.alternative) (c : g.alternative ≤ i) (below : Below f g.alternative) where
  abbrev next : List Frame
  next = record { began = g.began; alternative = suc j } ∷ gs

  next-same : clear ts (g ∷ gs) f ≡ true → (q : List ℕ) → excludes next (h q) ≡ excludes (g ∷ gs) (f q)
  next-same ok q = by (split (contains ts q))
    where
      here : (o : Option ℕ) → f q ≡ o → excludes next o ≡ excludes (g ∷ gs) o
      here None is = refl
      here (Some p) is =
          let lt = below q p is in let m = a.moves in
          ap (λ t. if nat_le g.began p then t else is_within gs p) (le-false (suc j) p (omega (arith, lt, c, m)))
          ∙ ap (λ t. if nat_le g.began p then t else is_within gs p) (sym (le-false g.alternative p lt))

      off : (o : Bool) → not o ≡ true → false ≡ o
      off true is = let bad : ⊥ = cc in absurd bad
      off false is = refl

      by : (contains ts q ≡ true) ⊎ (contains ts q ≡ false) → excludes next (h q) ≡ excludes (g ∷ gs) (f q)
      by (inl has) =
          let w = a.fresh q has in let lt = a.below q w.0 w.1.0 in
          ap (excludes next) w.1.0
          ∙ ap (λ t. if t then nat_le (suc j) w.0 else is_within gs w.0) (le-true g.began w.0 (let le = w.1.1 in omega (arith, b, c, le)))
          ∙ le-false (suc j) w.0 (omega (arith, lt))
          ∙ off (excludes (g ∷ gs) (f q)) (holds-of (λ n. not (excludes (g ∷ gs) (f n))) ts q ok has)
      by (inr other) = ap (excludes next) (a.stale q other) ∙ here (f q) refl

  next-clear : clear ts (g ∷ gs) f ≡ true → clear us next h ≡ clear us (g ∷ gs) f
  next-clear ok = all-same (λ n. not (excludes next (h n))) (λ n. not (excludes (g ∷ gs) (f n))) us (λ q. ap not (next-same ok q))

-- one after another
after-both : (ts us : List (List ℕ)) (f g h : Last) (i j k l : ℕ) → After ts f g i j → j ≤ k → After us g h k l → After (ts ++ us) f h i l
after-both ts us f g h i j k l a le b = record {
  moves = (let x = a.moves in let y = b.moves in omega (arith, x, y, le));
  fresh = λ q has. by q (split (contains us q)) (sym (list_any-append (bytes_eq q) ts us) ∙ has);
  stale = λ q other. none q (split (contains ts q)) (split (contains us q)) (sym (list_any-append (bytes_eq q) ts us) ∙ other);
  below = b.below;
}
  where
    by : (q : List ℕ) → (contains us q ≡ true) ⊎ (contains us q ≡ false) → (contains ts q || contains us q) ≡ true
        → (p : ℕ) × ((h q ≡ Some p) × (i ≤ p))
    by q (inl has) one-of =
        let w = b.fresh q has in let x = a.moves in let y = w.1.1 in (w.0, (w.1.0, omega (arith, x, y, le)))
    by q (inr other) one-of =
        let w = a.fresh q (sym (or-false (contains ts q)) ∙ ap (λ t. contains ts q || t) (sym other) ∙ one-of) in
        (w.0, (b.stale q other ∙ w.1.0, w.1.1))

    none : (q : List ℕ) → (contains ts q ≡ true) ⊎ (contains ts q ≡ false) → (contains us q ≡ true) ⊎ (contains us q ≡ false)
        → (contains ts q || contains us q) ≡ false → h q ≡ f q
    none q (inl has) d is = let bad : true ≡ false = sym (ap (λ t. t || contains us q) has) ∙ is in let worse : ⊥ = cc in absurd worse
    none q (inr off) (inl has) is =
        let bad : true ≡ false = sym (ap (λ t. t || contains us q) off ∙ has) ∙ is in let worse : ⊥ = cc in absurd worse
    none q (inr off) (inr other) is = b.stale q other ∙ a.stale q off

after-none : (f : Last) (i j : ℕ) → i ≤ j → Below f j → After [] f f i j
after-none f i j le below = record {
  moves = le;
  fresh = λ q has. let bad : ⊥ = cc in absurd bad;
  stale = λ q other. refl;
  below = below;
}

below-more : (f : Last) (i j : ℕ) → i ≤ j → Below f i → Below f j
below-more f i j le below q p is = let lt = below q p is in omega (arith, lt, le)

-- from an earlier place, up to a later one
after-wide : (ts : List (List ℕ)) (f h : Last) (i j k l : ℕ) → i ≤ j → k ≤ l → After ts f h j k → After ts f h i l
after-wide ts f h i j k l le wide a = record {
  moves = (let x = a.moves in omega (arith, x, le, wide));
  fresh = λ q has. (let w = a.fresh q has in let y = w.1.1 in (w.0, (w.1.0, omega (arith, y, le))));
  stale = a.stale;
  below = below-more h k l wide a.below;
}

put-below : (f : Last) (n : List ℕ) (i : ℕ) → Below f i → Below (put f n i) (suc i)
put-below f n i below q p is = by (split (bytes_eq q n))
  where
    by : (bytes_eq q n ≡ true) ⊎ (bytes_eq q n ≡ false) → p < suc i
    by (inl same) = (let e : Some i ≡ Some p = sym (ap (λ t. if t then Some i else f q) same) ∙ is in let k : i ≡ p = cc in omega (arith, k))
    by (inr other) = (let e : f q ≡ Some p = sym (ap (λ t. if t then Some i else f q) other) ∙ is in let lt = below q p e in omega (arith, lt))

after-put : (n : List ℕ) (f : Last) (i : ℕ) → Below f i → After (n ∷ []) f (put f n i) i (suc i)
after-put n f i below = record {
  moves = omega arith;
  fresh = λ q has. (i, (ap (λ t. if t then Some i else f q) (sym (or-false (bytes_eq q n)) ∙ has), omega arith));
  stale = λ q other. ap (λ t. if t then Some i else f q) (sym (or-false (bytes_eq q n)) ∙ other);
  below = put-below f n i below;
}

module _ (units : List ℕ) where
  abbrev by_piece : List Frame → Last → ℕ → Placed → List Placed → Piece → Bool
  by_piece fs f i x xs p =
      if is_named p
      then (if excludes fs (f (name_at units x.at)) then false
      else apart_from units (frames_after (suc i) p fs) (put f (name_at units x.at) i) (suc i) xs)
      else apart_from units (frames_after (suc i) p fs) f (suc i) xs

  at_piece : (fs : List Frame) (f : Last) (i : ℕ) (x : Placed) (xs : List Placed) (p : Piece) → x.piece ≡ p
      → apart_from units fs f i (x ∷ xs) ≡ by_piece fs f i x xs p
  unfolding apart_from
  at_piece fs f i x xs p is = ap (by_piece fs f i x xs) is

  -- what was derived is walked over
  record Walked (t : Tree) (fs : List Frame) (f : Last) (i : ℕ) (xs ys : List Placed) (gs : List Frame) : Type 0 where
    last : Last
    at : ℕ
    after : After (names units t) f last i at
    is : apart_from units fs f i xs ≡ goes (are_distinct units t && clear (names units t) fs f) (apart_from units gs last at ys)

  abbrev Walk : Tree → List Placed → List Placed → Type 0
  Walk t xs ys =
      (g : Frame) (gs : List Frame) (f : Last) (i : ℕ) → g.began ≤ i → g.alternative ≤ i → Below f i
      → Walked t (g ∷ gs) f i xs ys (g ∷ gs)

  abbrev Walks : Symbol → Tree → List Placed → List Placed → Type 0
  Walks Disjunction t xs ys =
      (g : Frame) (gs : List Frame) (f : Last) (i : ℕ) → g.began ≤ g.alternative → g.alternative ≤ i → Below f g.alternative
      → (a : ℕ) × Walked t (g ∷ gs) f i xs ys (record { began = g.began; alternative = a } ∷ gs)
  Walks Alternative t xs ys = Walk t xs ys
  Walks Term t xs ys = Walk t xs ys
  Walks Repeatable t xs ys = Walk t xs ys

  empty : (xs : List Placed) → Walk nothing xs xs
  unfolding names are_distinct
  empty xs g gs f i b c below = record { last = f; at = i; after = after-none f i i (omega arith) below; is = refl }

  single : (x : Placed) (xs : List Placed) → ((fs : List Frame) (f : Last) (i : ℕ) → apart_from units fs f i (x ∷ xs) ≡ apart_from units fs f (suc i) xs)
      → Walk (leaf x) (x ∷ xs) xs
  unfolding names are_distinct
  single x xs same g gs f i b c below = record {
    last = f;
    at = suc i;
    after = after-none f i (suc i) (omega arith) (below-more f i (suc i) (omega arith) below);
    is = same (g ∷ gs) f i;
  }

  atom_same : (p : Piece) → is_atom p ≡ true → (fs : List Frame) (f : Last) (i : ℕ) (x : Placed) (xs : List Placed)
      → by_piece fs f i x xs p ≡ apart_from units fs f (suc i) xs
  atom_same (Open g) is fs f i x xs = let bad : ⊥ = cc in absurd bad
  atom_same Close is fs f i x xs = let bad : ⊥ = cc in absurd bad
  atom_same Bar is fs f i x xs = let bad : ⊥ = cc in absurd bad
  atom_same Assertion is fs f i x xs = let bad : ⊥ = cc in absurd bad
  atom_same Quantifier is fs f i x xs = let bad : ⊥ = cc in absurd bad
  atom_same Atom is fs f i x xs = refl
  atom_same (Number n) is fs f i x xs = refl
  atom_same Name is fs f i x xs = refl

  both_terms : {t u : Tree} {xs ys zs : List Placed} → Walk t xs ys → Walk u ys zs → Walk (also t u) xs zs
  unfolding names are_distinct
  both_terms {t = t} {u = u} {zs = zs} v w g gs f i b c below =
      let p = v g gs f i b c below in
      let le = p.after.moves in
      let q = w g gs p.last p.at (omega (arith, b, le)) (omega (arith, c, le)) p.after.below in
      record {
        last = q.last;
        at = q.at;
        after = after-both (names units t) (names units u) f p.last q.last i p.at p.at q.at p.after (omega arith) q.after;
        is = p.is
            ∙ ap (goes (are_distinct units t && clear (names units t) (g ∷ gs) f)) (q.is
            ∙ ap (λ k. goes (are_distinct units u && k) (apart_from units (g ∷ gs) q.last q.at zs))
            (after-clear g gs (names units t) (names units u) f p.last i p.at p.after b c))
            ∙ in-turn (are_distinct units t) (clear (names units t) (g ∷ gs) f) (are_distinct units u) (clear (names units u) (g ∷ gs) f)
            (share_none (names units u) (names units t)) (apart_from units (g ∷ gs) q.last q.at zs)
            ∙ ap (λ k. goes ((are_distinct units t && are_distinct units u && share_none (names units u) (names units t)) && k) (apart_from units (g ∷ gs) q.last q.at zs))
            (sym (list_all-append (λ n. not (excludes (g ∷ gs) (f n))) (names units t) (names units u)));
      }

  both_ways : {t u : Tree} {xs ys zs : List Placed} {x : Placed} → Walk t xs (x ∷ ys) → x.piece ≡ Bar → Walks Disjunction u ys zs
      → Walks Disjunction (either t u) xs zs
  unfolding names are_distinct
  both_ways {t = t} {u = u} {ys = ys} {zs = zs} {x = x} v bar w g gs f i b c below =
      let p = v g gs f i (omega (arith, b, c)) c (below-more f g.alternative i c below) in
      let le = p.after.moves in
      let n : Frame = record { began = g.began; alternative = suc p.at } in
      let r = w n gs p.last (suc p.at) (omega (arith, b, c, le)) (omega arith) (below-more p.last p.at (suc p.at) (omega arith) p.after.below) in
      let q = r.1 in (
        r.0,
        record {
          last = q.last;
          at = q.at;
          after = after-both (names units t) (names units u) f p.last q.last i p.at (suc p.at) q.at p.after (omega arith) q.after;
          is = p.is
              ∙ ap (goes (are_distinct units t && clear (names units t) (g ∷ gs) f)) (at_piece (g ∷ gs) p.last p.at x ys Bar bar ∙ q.is)
              ∙ either-way (are_distinct units t) (clear (names units t) (g ∷ gs) f) (are_distinct units u) (clear (names units u) (g ∷ gs) f)
              (clear (names units u) (n ∷ gs) p.last) (apart_from units (record { began = g.began; alternative = r.0 } ∷ gs) q.last q.at zs)
              (λ ok. next-clear g gs (names units t) (names units u) f p.last i p.at p.after b c below ok)
              ∙ ap (λ k. goes ((are_distinct units t && are_distinct units u) && k) (apart_from units (record { began = g.began; alternative = r.0 } ∷ gs) q.last q.at zs))
              (sym (list_all-append (λ n. not (excludes (g ∷ gs) (f n))) (names units t) (names units u)));
        },
      )

  -- a group without a name
  plain_group : (x y : Placed) (k : Group) (t : Tree) (xs ys : List Placed) → x.piece ≡ Open k → is_named (Open k) ≡ false → y.piece ≡ Close
      → Walks Disjunction t xs (y ∷ ys) → Walk (group x t) (x ∷ xs) ys
  unfolding names are_distinct
  plain_group x y k t xs ys opens off closes w g gs f i b c below =
      let r = w (frame (suc i)) (g ∷ gs) f (suc i) (omega arith) (omega arith) (below-more f i (suc i) (omega arith) below) in
      let q = r.1 in
      let own : own_name units x ≡ [] = ap (λ p. if is_named p then name_at units x.at ∷ [] else []) opens
      ∙ ap (λ z. if z then name_at units x.at ∷ [] else []) off in
      let D = are_distinct units t in let C = clear (names units t) (g ∷ gs) f in
      let R = apart_from units (g ∷ gs) q.last (suc q.at) ys in
      record {
        last = q.last;
        at = suc q.at;
        after = subst (λ ns. After (ns ++ names units t) f q.last i (suc q.at)) (sym own)
            (after-wide (names units t) f q.last i (suc i) q.at (suc q.at) (omega arith) (omega arith) q.after);
        is = at_piece (g ∷ gs) f i x xs (Open k) opens
            ∙ ap (λ z. if z then (if excludes (g ∷ gs) (f (name_at units x.at)) then false
            else apart_from units (frame (suc i) ∷ g ∷ gs) (put f (name_at units x.at) i) (suc i) xs)
            else apart_from units (frame (suc i) ∷ g ∷ gs) f (suc i) xs) off
            ∙ q.is
            ∙ ap (λ z. goes (D && z) (apart_from units (record { began = suc i; alternative = r.0 } ∷ g ∷ gs) q.last q.at (y ∷ ys)))
            (open-clear (names units t) (g ∷ gs) f (suc i) (below-more f i (suc i) (omega arith) below))
            ∙ ap (goes (D && C)) (at_piece (record { began = suc i; alternative = r.0 } ∷ g ∷ gs) q.last q.at y ys Close closes)
            ∙ ap (λ z. goes (z && C) R) (and-true D ∙ ap (λ z. D && z) (sym (shares-none (names units t))))
            ∙ ap (λ ns. goes ((D && share_none (names units t) ns) && clear (ns ++ names units t) (g ∷ gs) f) R) (sym own);
      }

  -- a group with a name
  named_group : (x y : Placed) (t : Tree) (xs ys : List Placed) → x.piece ≡ Open Named → y.piece ≡ Close
      → Walks Disjunction t xs (y ∷ ys) → Walk (group x t) (x ∷ xs) ys
  unfolding names are_distinct
  named_group x y t xs ys opens closes w g gs f i b c below =
      let n = name_at units x.at in let h = put f n i in
      let r = w (frame (suc i)) (g ∷ gs) h (suc i) (omega arith) (omega arith) (put-below f n i below) in
      let q = r.1 in
      let own : own_name units x ≡ n ∷ [] = ap (λ p. if is_named p then n ∷ [] else []) opens in
      let D = are_distinct units t in let C = clear (names units t) (g ∷ gs) f in
      let S = share_none (names units t) (n ∷ []) in
      let R = apart_from units (g ∷ gs) q.last (suc q.at) ys in
      record {
        last = q.last;
        at = suc q.at;
        after = subst (λ ns. After (ns ++ names units t) f q.last i (suc q.at)) (sym own)
            (after-both (n ∷ []) (names units t) f h q.last i (suc i) (suc i) (suc q.at) (after-put n f i below) (omega arith)
            (after-wide (names units t) h q.last (suc i) (suc i) q.at (suc q.at) (omega arith) (omega arith) q.after));
        is = at_piece (g ∷ gs) f i x xs (Open Named) opens
            ∙ ap (λ z. if excludes (g ∷ gs) (f n) then false else z) (q.is
            ∙ ap (λ z. goes (D && z) (apart_from units (record { began = suc i; alternative = r.0 } ∷ g ∷ gs) q.last q.at (y ∷ ys)))
            (open-clear (names units t) (g ∷ gs) h (suc i) (put-below f n i below) ∙ put-clear g gs n (names units t) f i b c)
            ∙ ap (goes (D && (C && S))) (at_piece (record { began = suc i; alternative = r.0 } ∷ g ∷ gs) q.last q.at y ys Close closes))
            ∙ with-name (excludes (g ∷ gs) (f n)) D C S R
            ∙ ap (λ ns. goes ((D && share_none (names units t) ns) && clear (ns ++ names units t) (g ∷ gs) f) R) (sym own);
      }

  any_group : (k : Group) (x y : Placed) (t : Tree) (xs ys : List Placed) → x.piece ≡ Open k → y.piece ≡ Close
      → Walks Disjunction t xs (y ∷ ys) → Walk (group x t) (x ∷ xs) ys
  any_group Capture x y t xs ys opens closes w = plain_group x y Capture t xs ys opens refl closes w
  any_group Named x y t xs ys opens closes w = named_group x y t xs ys opens closes w
  any_group Plain x y t xs ys opens closes w = plain_group x y Plain t xs ys opens refl closes w
  any_group Lookahead x y t xs ys opens closes w = plain_group x y Lookahead t xs ys opens refl closes w
  any_group Lookbehind x y t xs ys opens closes w = plain_group x y Lookbehind t xs ys opens refl closes w

  with_quantifier : {q : Placed} {t : Tree} {xs ys : List Placed} → q.piece ≡ Quantifier → Walk t xs (q ∷ ys) → Walk (repeated t) xs ys
  unfolding names are_distinct
  with_quantifier {q = q} {t = t} {ys = ys} is w g gs f i b c below =
      let p = w g gs f i b c below in
      record {
        last = p.last;
        at = suc p.at;
        after = after-wide (names units t) f p.last i i p.at (suc p.at) (omega arith) (omega arith) p.after;
        is = p.is ∙ ap (goes (are_distinct units t && clear (names units t) (g ∷ gs) f)) (at_piece (g ∷ gs) p.last p.at q ys Quantifier is);
      }

  walks : {m : Mode} {s : Symbol} {xs ys : List Placed} {t : Tree} → Derives m s xs ys t → Walks s t xs ys
  walks (one d) = λ g gs f i b c below.
      (g.alternative, walks d g gs f i (omega (arith, b, c)) c (below-more f g.alternative i c below))
  walks (more d bar e) = both_ways (walks d) bar (walks e)
  walks (no-term {xs = xs}) = empty xs
  walks (terms d e) = both_terms (walks d) (walks e)
  walks (assertion {xs = xs} {x = x} is) = single x xs (λ fs f i. at_piece fs f i x xs Assertion is)
  walks (look {xs = xs} {ys = ys} {x = x} {y = y} {g = k} {t = t} opens never d closes) = any_group k x y t xs ys opens closes (walks d)
  walks (plain d) = walks d
  walks (quantified d is) = with_quantifier is (walks d)
  walks (atom {xs = xs} {x = x} is) = single x xs (λ fs f i. at_piece fs f i x xs x.piece refl ∙ atom_same x.piece is fs f i x xs)
  walks (grouped {xs = xs} {ys = ys} {x = x} {y = y} {g = k} {t = t} opens may d closes) = any_group k x y t xs ys opens closes (walks d)

  nothing-excluded : (ns : List (List ℕ)) → clear ns (frame 0 ∷ []) (λ q. None) ≡ true
  nothing-excluded [] = refl
  nothing-excluded (n ∷ ns) = nothing-excluded ns

  pub distinct : {m : Mode} {ps : List Placed} {t : Tree} → Derives m Disjunction ps [] t → are_apart units ps ≡ are_distinct units t
  unfolding apart_from
  distinct {t = t} d =
      let w = walks d (frame 0) [] (λ q. None) 0 (omega arith) (omega arith) (λ q p is. let bad : ⊥ = cc in absurd bad) in
      w.1.is ∙ ap (λ z. goes (are_distinct units t && z) true) (nothing-excluded (names units t)) ∙ last-true (are_distinct units t)

  -- one step of the walk
  module _ (fs : List Frame) (f : Last) (i : ℕ) (ps : List Placed) (d : Placed) where
    here : i < length ps → apart_from units fs f i (drop i ps)
        ≡ by_piece fs f i (slice_index_or ps i d) (drop (i + 1) ps) (slice_index_or ps i d).piece
    unfolding apart_from
    here lt = at_drop_more (apart_from units fs f i) ps i d lt

    pub passes_unnamed : i < length ps → is_named (slice_index_or ps i d).piece ≡ false
        → apart_from units fs f i (drop i ps)
        ≡ apart_from units (frames_after (i + 1) (slice_index_or ps i d).piece fs) f (i + 1) (drop (i + 1) ps)
    passes_unnamed lt off =
        let x = slice_index_or ps i d in
        let more : suc i ≡ i + 1 = omega arith in
        here lt
        ∙ ap (λ z. if z then (if excludes fs (f (name_at units x.at)) then false
        else apart_from units (frames_after (suc i) x.piece fs) (put f (name_at units x.at) i) (suc i) (drop (i + 1) ps))
        else apart_from units (frames_after (suc i) x.piece fs) f (suc i) (drop (i + 1) ps)) off
        ∙ ap (λ k. apart_from units (frames_after k x.piece fs) f k (drop (i + 1) ps)) more

    pub passes_named : i < length ps → is_named (slice_index_or ps i d).piece ≡ true
        → (b : Bool) → excludes fs (f (name_at units (slice_index_or ps i d).at)) ≡ b
        → apart_from units fs f i (drop i ps)
        ≡ (if b then false else apart_from units (frames_after (i + 1) (slice_index_or ps i d).piece fs)
        (put f (name_at units (slice_index_or ps i d).at) i) (i + 1) (drop (i + 1) ps))
    passes_named lt on b is =
        let x = slice_index_or ps i d in
        let more : suc i ≡ i + 1 = omega arith in
        here lt
        ∙ ap (λ z. if z then (if excludes fs (f (name_at units x.at)) then false
        else apart_from units (frames_after (suc i) x.piece fs) (put f (name_at units x.at) i) (suc i) (drop (i + 1) ps))
        else apart_from units (frames_after (suc i) x.piece fs) f (suc i) (drop (i + 1) ps)) on
        ∙ ap (λ z. if z then false
        else apart_from units (frames_after (suc i) x.piece fs) (put f (name_at units x.at) i) (suc i) (drop (i + 1) ps)) is
        ∙ ap (λ k. if b then false else apart_from units (frames_after k x.piece fs) (put f (name_at units x.at) i) k (drop (i + 1) ps)) more

  pub passes_all : (fs : List Frame) (f : Last) (i : ℕ) (ps : List Placed) → length ps ≤ i → apart_from units fs f i (drop i ps) ≡ true
  unfolding apart_from
  passes_all fs f i ps le = at_drop_all (apart_from units fs f i) ps i le

  -- only what is known of names matters
  put-agree : (f h : Last) (n : List ℕ) (i : ℕ) → ((q : List ℕ) → f q ≡ h q) → (q : List ℕ) → put f n i q ≡ put h n i q
  put-agree f h n i same q = ap (λ o. if bytes_eq q n then Some i else o) (same q)

  pub agree : (fs : List Frame) (f h : Last) (i : ℕ) (xs : List Placed) → ((q : List ℕ) → f q ≡ h q)
      → apart_from units fs f i xs ≡ apart_from units fs h i xs
  unfolding apart_from
  agree fs f h i [] same = refl
  agree fs f h i (x ∷ xs) same =
      ap (λ z. if is_named x.piece then (if excludes fs z then false
      else apart_from units (frames_after (suc i) x.piece fs) (put f (name_at units x.at) i) (suc i) xs)
      else apart_from units (frames_after (suc i) x.piece fs) f (suc i) xs) (same (name_at units x.at))
      ∙ ap (λ z. if is_named x.piece then (if excludes fs (h (name_at units x.at)) then false else z)
      else apart_from units (frames_after (suc i) x.piece fs) f (suc i) xs)
      (agree (frames_after (suc i) x.piece fs) (put f (name_at units x.at) i) (put h (name_at units x.at) i) (suc i) xs
      (put-agree f h (name_at units x.at) i same))
      ∙ ap (λ z. if is_named x.piece then (if excludes fs (h (name_at units x.at)) then false
      else apart_from units (frames_after (suc i) x.piece fs) (put h (name_at units x.at) i) (suc i) xs) else z)
      (agree (frames_after (suc i) x.piece fs) f h (suc i) xs same)
