-- Classes with the flag `v`: the walk with a stack of those that are open reads what the grammar derives, and no more.
use Rattle.std.proofs.Common.{◌≡◌, ℕ, zero, suc, ◌+◌, ◌-◌, ◌<◌, ◌≤◌, Bool, true, false, List, [], ◌∷◌, length, drop, Option, Some, None, refl, sym, ap, subst, ◌∙◌, arith, length-drop, ◌⊎◌, inl, inr}
use Rattle.std.specs.Prelude.{if◌then◌else◌, ◌&&◌, ◌||◌, not, nat_eq, slice_index_or}
use Rattle.std.proofs.lemmas.Bool.Decides.{nat_tests}
use Rattle.std.proofs.lemmas.List.{drop-drop}
use Rattle.swc_lexical.specs.Runs.{is_at}
use Rattle.regex_patterns.specs.declared.mode.Mode.{Mode}
use Rattle.regex_patterns.specs.declared.escape.Meaning.{Meaning}
use Rattle.regex_patterns.specs.declared.escape.Meaning.TheVariants.{Character, Class as ClassMeaning, Strings}
use Rattle.regex_patterns.specs.declared.sets.Operator.{Operator}
use Rattle.regex_patterns.specs.declared.sets.Operator.TheVariants as op
use Rattle.regex_patterns.specs.declared.sets.Set.{Set}
use Rattle.regex_patterns.specs.Classes.{longer_by, opening}
use Rattle.regex_patterns.specs.Sets.{atom, is_strings, are_in_order, begun, takes, operates, ranges_by, ended, closed, innermost, outer, after_close, after_part, part, operand_of, as_operand, as_range, to_high, goes_on, with_two, as_around, sets_from, set_class}
use Rattle.regex_patterns.specs.ClassGrammar.{Symbol, Class, Contents, Union, Intersection, Subtraction, Operand, Reads, class, no-operand, union, intersection, subtraction, one, one-range, more, more-range, two, and, less, less-still, nested, an-atom, IsAtom, IsRange, IsClass}
use Rattle.regex_patterns.proofs.Bytes.{split}
use Rattle.regex_patterns.proofs.Walks.{same}
use Rattle.regex_patterns.proofs.Nested.{part_at, first, begins}
use Rattle.regex_patterns.proofs.Positive.{atom-some, part-some, not-close, not-open, not-minus, not-and}

some-inj : {A : Type 0} {x y : A} → Some x ≡ Some y → x ≡ y
some-inj e = let k : _ ≡ _ = cc in k

some-pair : (S T : Set) (a n : ℕ) → ◌≡◌ {A = Option (Set × ℕ)} (Some (S, a)) (Some (T, n)) → (S ≡ T) × (a ≡ n)
some-pair S T a n e = let k = some-inj {A = Set × ℕ} e in (ap (λ (r : Set × ℕ). r.0) k, ap (λ (r : Set × ℕ). r.1) k)

no-some : {A : Type 0} {x : A} {B : Type 0} → None ≡ Some x → B
no-some e = let bad : ⊥ = cc in absurd bad

no-bool : {B : Type 0} → false ≡ true → B
no-bool e = let bad : ⊥ = cc in absurd bad

eq-of : (x y : ℕ) → nat_eq x y ≡ true → x ≡ y
eq-of x y h = grind (arith, h, nat_tests)

abbrev choose : Bool → Option (Set × ℕ) → Option (Set × ℕ) → Option (Set × ℕ)
choose b x y = if b then x else y

ne-of : (x y : ℕ) → nat_eq x y ≡ false → x ≡ y → ⊥
ne-of x y h e = no-bool (sym h ∙ same x y e)

-- the states of a class that is open
abbrev fresh : ℕ → Bool → Set
fresh a b = record {
  start = a;
  is_negated = b;
  operator = op.Open;
  has_operand = false;
  has_strings = false;
  wants_operand = false;
}

abbrev after : Operator → ℕ → Bool → Bool → Set
after o a b s = record {
  start = a;
  is_negated = b;
  operator = o;
  has_operand = true;
  has_strings = s;
  wants_operand = false;
}

abbrev wanting : Operator → ℕ → Bool → Bool → Set
wanting o a b s = record {
  start = a;
  is_negated = b;
  operator = o;
  has_operand = true;
  has_strings = s;
  wants_operand = true;
}

-- what is read of a class that began with these units, before those
data Partial (m : Mode) (c : List ℕ) : Set → List ℕ → Type 0 where
  begun-at : {a : ℕ} {xs : List ℕ} → drop (opening c) c ≡ xs → Partial m c (fresh a (is_at c 1 94)) xs
  one-operand : {a : ℕ} {s : Bool} {xs : List ℕ} → Reads m Operand (drop (opening c) c) xs s
      → Partial m c (after op.Open a (is_at c 1 94) s) xs
  in-union : {a : ℕ} {s : Bool} {xs : List ℕ} → Reads m Union (drop (opening c) c) xs s
      → Partial m c (after op.Union a (is_at c 1 94) s) xs
  in-intersection : {a : ℕ} {s : Bool} {xs : List ℕ} → Reads m Intersection (drop (opening c) c) xs s
      → Partial m c (after op.Intersection a (is_at c 1 94) s) xs
  in-subtraction : {a : ℕ} {s : Bool} {xs : List ℕ} → Reads m Subtraction (drop (opening c) c) xs s
      → Partial m c (after op.Subtraction a (is_at c 1 94) s) xs
  wants-two : {a : ℕ} {s : Bool} {xs : List ℕ} → Reads m Operand (drop (opening c) c) (38 ∷ 38 ∷ xs) s → is_at xs 0 38 ≡ false
      → Partial m c (wanting op.Intersection a (is_at c 1 94) s) xs
  wants-and : {a : ℕ} {s : Bool} {xs : List ℕ} → Reads m Intersection (drop (opening c) c) (38 ∷ 38 ∷ xs) s → is_at xs 0 38 ≡ false
      → Partial m c (wanting op.Intersection a (is_at c 1 94) s) xs
  wants-less : {a : ℕ} {s : Bool} {xs : List ℕ} → Reads m Operand (drop (opening c) c) (45 ∷ 45 ∷ xs) s
      → Partial m c (wanting op.Subtraction a (is_at c 1 94) s) xs
  wants-still : {a : ℕ} {s : Bool} {xs : List ℕ} → Reads m Subtraction (drop (opening c) c) (45 ∷ 45 ∷ xs) s
      → Partial m c (wanting op.Subtraction a (is_at c 1 94) s) xs

module _ (m : Mode) (c : List ℕ) where
  put : {S T : Set} {ys : List ℕ} → Some S ≡ Some T → Partial m c S ys → Partial m c T ys
  put {ys = ys} is p = subst (λ T. Partial m c T ys) (some-inj is) p

  -- with an operand more
  take-operand : {S : Set} {xs ys : List ℕ} {s : Bool} (T : Set) → Partial m c S xs → Reads m Operand xs ys s → takes S s ≡ Some T
      → Partial m c T ys
  take-operand {ys = ys} {s = s} T (begun-at e) o is = put is (one-operand (subst (λ zs. Reads m Operand zs ys s) (sym e) o))
  take-operand T (one-operand p) o is = put is (in-union (more (one p) o))
  take-operand T (in-union p) o is = put is (in-union (more p o))
  take-operand T (in-intersection p) o is = no-some is
  take-operand T (in-subtraction p) o is = no-some is
  take-operand T (wants-two p no-third) o is = put is (in-intersection (two p no-third o))
  take-operand T (wants-and p no-third) o is = put is (in-intersection (and p no-third o))
  take-operand T (wants-less p) o is = put is (in-subtraction (less p o))
  take-operand T (wants-still p) o is = put is (in-subtraction (less-still p o))

  -- with a range more
  take-range : {S : Set} {xs ys : List ℕ} (T U : Set) → Partial m c S xs → IsRange m xs ys → takes S false ≡ Some T
      → ranges_by T.operator T ≡ Some U → Partial m c U ys
  take-range {xs = xs} {ys = ys} T U (begun-at e) r is by =
      put (subst (λ V. ranges_by V.operator V ≡ Some U) (sym (some-inj is)) by) (in-union (one-range (subst (λ zs. IsRange m zs ys) (sym e) r)))
  take-range T U (one-operand p) r is by =
      put (subst (λ V. ranges_by V.operator V ≡ Some U) (sym (some-inj is)) by) (in-union (more-range (one p) r))
  take-range T U (in-union p) r is by =
      put (subst (λ V. ranges_by V.operator V ≡ Some U) (sym (some-inj is)) by) (in-union (more-range p r))
  take-range T U (in-intersection p) r is by = no-some is
  take-range T U (in-subtraction p) r is by = no-some is
  take-range T U (wants-two p no-third) r is by = no-some (subst (λ V. ranges_by V.operator V ≡ Some U) (sym (some-inj is)) by)
  take-range T U (wants-and p no-third) r is by = no-some (subst (λ V. ranges_by V.operator V ≡ Some U) (sym (some-inj is)) by)
  take-range T U (wants-less p) r is by = no-some (subst (λ V. ranges_by V.operator V ≡ Some U) (sym (some-inj is)) by)
  take-range T U (wants-still p) r is by = no-some (subst (λ V. ranges_by V.operator V ≡ Some U) (sym (some-inj is)) by)

  -- with an operator more
  take-and : {S : Set} {zs xs : List ℕ} (T : Set) → Partial m c S zs → zs ≡ 38 ∷ 38 ∷ xs → is_at xs 0 38 ≡ false
      → operates S op.Intersection ≡ Some T → Partial m c T xs
  take-and T (begun-at e) at no-third is = no-some is
  take-and {xs = xs} T (one-operand {s = s} p) at no-third is =
      put is (wants-two (subst (λ zs. Reads m Operand (drop (opening c) c) zs s) at p) no-third)
  take-and T (in-union p) at no-third is = no-some is
  take-and {xs = xs} T (in-intersection {s = s} p) at no-third is =
      put is (wants-and (subst (λ zs. Reads m Intersection (drop (opening c) c) zs s) at p) no-third)
  take-and T (in-subtraction p) at no-third is = no-some is
  take-and T (wants-two p third) at no-third is = no-some is
  take-and T (wants-and p third) at no-third is = no-some is
  take-and T (wants-less p) at no-third is = no-some is
  take-and T (wants-still p) at no-third is = no-some is

  take-minus : {S : Set} {zs xs : List ℕ} (T : Set) → Partial m c S zs → zs ≡ 45 ∷ 45 ∷ xs
      → operates S op.Subtraction ≡ Some T → Partial m c T xs
  take-minus T (begun-at e) at is = no-some is
  take-minus T (one-operand {s = s} p) at is =
      put is (wants-less (subst (λ zs. Reads m Operand (drop (opening c) c) zs s) at p))
  take-minus T (in-union p) at is = no-some is
  take-minus T (in-intersection p) at is = no-some is
  take-minus T (in-subtraction {s = s} p) at is =
      put is (wants-still (subst (λ zs. Reads m Subtraction (drop (opening c) c) zs s) at p))
  take-minus T (wants-two p third) at is = no-some is
  take-minus T (wants-and p third) at is = no-some is
  take-minus T (wants-less p) at is = no-some is
  take-minus T (wants-still p) at is = no-some is

  -- where it ends
  ends : (t h s : Bool) → (if t then None else Some h) ≡ Some s → (t ≡ false) × (h ≡ s)
  ends true h s is = no-some is
  ends false h s is = (refl, some-inj is)

  contents : {S : Set} {xs : List ℕ} (s : Bool) → Partial m c S xs → ended S ≡ Some s
      → (Reads m Contents (drop (opening c) c) xs s) × ((is_at c 1 94 && s) ≡ false)
  contents {xs = xs} s (begun-at e) is =
      let k = ends (is_at c 1 94 && false) false s is in (
        subst (λ t. Reads m Contents (drop (opening c) c) xs t) k.1 (subst (λ zs. Reads m Contents zs xs false) (sym e) no-operand),
        ap (λ t. is_at c 1 94 && t) (sym k.1) ∙ k.0,
      )
  contents {xs = xs} s (one-operand {s = t} p) is =
      let k = ends (is_at c 1 94 && t) t s is in
      (subst (λ t. Reads m Contents (drop (opening c) c) xs t) k.1 (union (one p)), ap (λ t. is_at c 1 94 && t) (sym k.1) ∙ k.0)
  contents {xs = xs} s (in-union {s = t} p) is =
      let k = ends (is_at c 1 94 && t) t s is in
      (subst (λ t. Reads m Contents (drop (opening c) c) xs t) k.1 (union p), ap (λ t. is_at c 1 94 && t) (sym k.1) ∙ k.0)
  contents {xs = xs} s (in-intersection {s = t} p) is =
      let k = ends (is_at c 1 94 && t) t s is in
      (subst (λ t. Reads m Contents (drop (opening c) c) xs t) k.1 (intersection p), ap (λ t. is_at c 1 94 && t) (sym k.1) ∙ k.0)
  contents {xs = xs} s (in-subtraction {s = t} p) is =
      let k = ends (is_at c 1 94 && t) t s is in
      (subst (λ t. Reads m Contents (drop (opening c) c) xs t) k.1 (subtraction p), ap (λ t. is_at c 1 94 && t) (sym k.1) ∙ k.0)
  contents s (wants-two p third) is = no-some is
  contents s (wants-and p third) is = no-some is
  contents s (wants-less p) is = no-some is
  contents s (wants-still p) is = no-some is

-- lists by their units

at-cons : (x : ℕ) (xs : List ℕ) (v : ℕ) → is_at (x ∷ xs) 0 v ≡ true → x ≡ v
at-cons x xs v is = eq-of x v is

two-at : (xs : List ℕ) (v w : ℕ) → is_at xs 0 v ≡ true → is_at xs 1 w ≡ true → xs ≡ v ∷ w ∷ drop 2 xs
two-at [] v w a b = no-bool a
two-at (x ∷ []) v w a b = no-bool b
two-at (x ∷ y ∷ xs) v w a b = ap (λ z. z ∷ y ∷ xs) (eq-of x v a) ∙ ap (λ z. v ∷ z ∷ xs) (eq-of y w b)

at-drop : (xs : List ℕ) (n v : ℕ) → is_at xs n v ≡ true → drop n xs ≡ v ∷ drop (n + 1) xs
at-drop [] zero v is = no-bool is
at-drop [] (suc n) v is = no-bool is
at-drop (x ∷ xs) zero v is = ap (λ z. z ∷ xs) (eq-of x v is)
at-drop (x ∷ xs) (suc n) v is = at-drop xs n v is ∙ (let more : suc (n + 1) ≡ suc n + 1 = omega arith in ap (λ k. v ∷ drop k (x ∷ xs)) more)

and-true : (a b : Bool) → (a && b) ≡ true → (a ≡ true) × (b ≡ true)
and-true true true is = (refl, refl)
and-true true false is = no-bool is
and-true false b is = no-bool is

in-order-plain : (v w : Meaning) → are_in_order v w ≡ true → is_strings v ≡ false
in-order-plain (Character a) w is = refl
in-order-plain ClassMeaning w is = no-bool is
in-order-plain Strings w is = no-bool is

-- soundness

skip-within : (m : Mode) (us : List Set) (s : Set) (at k : ℕ) (xs : List ℕ) (j : ℕ) → sets_from m us s at k xs ≡ Some j → k ≤ length xs
unfolding sets_from
skip-within m us s at zero xs j is = omega arith
skip-within m us s at (suc k) [] j is = no-some is
skip-within m us s at (suc k) (x ∷ xs) j is = by (sets_from m us s (suc at) k xs) refl (skip-within m us s (suc at) k xs)
  where
    by : (o : Option ℕ) → sets_from m us s (suc at) k xs ≡ o → ((i : ℕ) → sets_from m us s (suc at) k xs ≡ Some i → k ≤ length xs) → suc k ≤ length (x ∷ xs)
    by None e go = no-some (sym (ap (longer_by 1) e) ∙ is)
    by (Some i) e go = (let le = go i e in omega (arith, le))

-- what was longer is there
longer-some : (n k : ℕ) (o : Option ℕ) → longer_by n o ≡ Some k → (j : ℕ) × ((o ≡ Some j) × (n + j ≡ k))
longer-some n k None is = no-some is
longer-some n k (Some j) is = (j, (refl, some-inj is))

module _ (m : Mode) (c : List ℕ) where
  -- an operand that is no class, or a range
  after-low : {S : Set} (T : Set) (xs : List ℕ) (v : Meaning) (a n : ℕ) (S1 : Set) (b : Bool) → Partial m c S xs → atom m xs ≡ Some (v, a)
      → takes S (is_strings v) ≡ Some S1 → goes_on xs a ≡ b
      → choose b (as_range m xs v a (ranges_by S1.operator S1)) (Some (S1, a)) ≡ Some (T, n) → n ≤ length xs
      → Partial m c T (drop n xs)
  after-low T xs v a n S1 false p here is off got le =
      let k = some-pair S1 T a n got in
      let same-set = k.0 in let same-len = k.1 in
      take-operand m c T p (an-atom (record { len = a; here = here; within = omega (arith, same-len, le); after = ap (λ i. drop i xs) (sym same-len) }))
      (is ∙ ap Some same-set)
  after-low {S = S} T xs v a n S1 true p here is on got le = by-set (ranges_by S1.operator S1) refl got
    where
      by-high : (U : Set) → ranges_by S1.operator S1 ≡ Some U → (o : Option (Meaning × ℕ)) → atom m (drop (a + 1) xs) ≡ o
          → to_high U v a o ≡ Some (T, n) → Partial m c T (drop n xs)
      by-high U by None high got' = no-some got'
      by-high U by (Some r) high got' = by-order (are_in_order v r.0) refl got'
        where
          by-order : (b : Bool) → are_in_order v r.0 ≡ b → choose b (Some (U, a + 1 + r.1)) None ≡ Some (T, n) → Partial m c T (drop n xs)
          by-order false ordered got'' = no-some got''
          by-order true ordered got'' =
              let k = some-pair U T (a + 1 + r.1) n got'' in
              let same-set = k.0 in let same-len = k.1 in
              let minus : drop a xs ≡ 45 ∷ drop (a + 1) xs = at-drop xs a 45 (and-true (is_at xs a 45) (not (is_at xs (a + 1) 45)) on).0 in
              let long = length-drop (a + 1) xs in
              subst (λ V. Partial m c V (drop n xs)) same-set
              (take-range m c S1 U p
              (record {
                low = v;
                high = r.0;
                ys = drop (a + 1) xs;
                first = record { len = a; here = here; within = omega (arith, same-len, le); after = sym minus };
                second = record {
                  len = r.1;
                  here = high;
                  within = omega (arith, long, same-len, le);
                  after = ap (λ i. drop i xs) (sym same-len) ∙ sym (drop-drop r.1 (a + 1) xs);
                };
                ordered = ordered;
              })
              (ap (takes S) (sym (in-order-plain v r.0 ordered)) ∙ is) by)

      by-set : (o : Option Set) → ranges_by S1.operator S1 ≡ o → as_range m xs v a o ≡ Some (T, n) → Partial m c T (drop n xs)
      by-set None e got' = no-some got'
      by-set (Some U) e got' = by-high U e (atom m (drop (a + 1) xs)) refl got'

  operand-sound : {S : Set} (T : Set) (xs : List ℕ) (n : ℕ) → Partial m c S xs → operand_of m S xs (atom m xs) ≡ Some (T, n) → n ≤ length xs
      → Partial m c T (drop n xs)
  operand-sound {S = S} T xs n p got le = by-atom (atom m xs) refl got
    where
      by-takes : (v : Meaning) (a : ℕ) → atom m xs ≡ Some (v, a) → (o : Option Set) → takes S (is_strings v) ≡ o
          → as_operand m xs v a o ≡ Some (T, n) → Partial m c T (drop n xs)
      by-takes v a here None is got' = no-some got'
      by-takes v a here (Some S1) is got' = after-low T xs v a n S1 (goes_on xs a) p here is refl got' le

      by-atom : (o : Option (Meaning × ℕ)) → atom m xs ≡ o → operand_of m S xs o ≡ Some (T, n) → Partial m c T (drop n xs)
      by-atom None here got' = no-some got'
      by-atom (Some r) here got' = by-takes r.0 r.1 here (takes S (is_strings r.0)) refl got'

  two-sound : (o : Option Set) (T : Set) (n : ℕ) → with_two o ≡ Some (T, n) → (o ≡ Some T) × (n ≡ 2)
  two-sound None T n is = no-some is
  two-sound (Some U) T n is = let k = some-pair U T 2 n is in (ap Some k.0, sym k.1)

  part-sound : {S : Set} (T : Set) (xs : List ℕ) (n : ℕ) → Partial m c S xs → part m S xs ≡ Some (T, n) → n ≤ length xs
      → Partial m c T (drop n xs)
  part-sound {S = S} T xs n p got le = by-and (is_at xs 0 38 && is_at xs 1 38) refl got
    where
      by-minus : (b : Bool) → (is_at xs 0 45 && is_at xs 1 45) ≡ b
          → choose b (with_two (operates S op.Subtraction)) (operand_of m S xs (atom m xs)) ≡ Some (T, n) → Partial m c T (drop n xs)
      by-minus false e got' = operand-sound T xs n p got' le
      by-minus true e got' =
          let k = two-sound (operates S op.Subtraction) T n got' in let l = and-true (is_at xs 0 45) (is_at xs 1 45) e in
          subst (λ i. Partial m c T (drop i xs)) (sym k.1) (take-minus m c T p (two-at xs 45 45 l.0 l.1) k.0)

      by-third : (b : Bool) → is_at xs 2 38 ≡ b → is_at xs 0 38 ≡ true → is_at xs 1 38 ≡ true
          → choose b None (with_two (operates S op.Intersection)) ≡ Some (T, n) → Partial m c T (drop n xs)
      by-third true e f g got' = no-some got'
      by-third false e f g got' =
          let k = two-sound (operates S op.Intersection) T n got' in
          subst (λ i. Partial m c T (drop i xs)) (sym k.1) (take-and m c T p (two-at xs 38 38 f g) (third xs e) k.0)
        where
          third : (ys : List ℕ) → is_at ys 2 38 ≡ false → is_at (drop 2 ys) 0 38 ≡ false
          third [] h = refl
          third (y ∷ []) h = refl
          third (y ∷ z ∷ ys) h = h

      by-and : (b : Bool) → (is_at xs 0 38 && is_at xs 1 38) ≡ b
          → choose b (choose (is_at xs 2 38) None (with_two (operates S op.Intersection)))
          (choose (is_at xs 0 45 && is_at xs 1 45) (with_two (operates S op.Subtraction)) (operand_of m S xs (atom m xs))) ≡ Some (T, n)
          → Partial m c T (drop n xs)
      by-and true e got' = let l = and-true (is_at xs 0 38) (is_at xs 1 38) e in by-third (is_at xs 2 38) refl l.0 l.1 got'
      by-and false e got' = by-minus (is_at xs 0 45 && is_at xs 1 45) refl got'

-- The classes around one that began with c, up to the outermost, which began with o.
data Around (m : Mode) : List Set → List ℕ → List ℕ → Type 0 where
  outermost : {c : List ℕ} → is_at c 0 91 ≡ true → Around m [] c c
  inner : {U : Set} {us : List Set} {c d o : List ℕ} → is_at c 0 91 ≡ true → Partial m d U c → Around m us d o → Around m (U ∷ us) c o

begins-class : (m : Mode) (us : List Set) (c o : List ℕ) → Around m us c o → is_at c 0 91 ≡ true
begins-class m us c o (outermost is) = is
begins-class m us c o (inner is p a) = is

-- a class of so many units more
record Found (m : Mode) (o xs : List ℕ) (k : ℕ) : Type 0 where
  strings : Bool
  within : k ≤ length xs
  derived : Reads m Class o (drop k xs) strings

opening-fits : (xs : List ℕ) → is_at xs 0 91 ≡ true → (0 < opening xs) × (opening xs ≤ length xs)
opening-fits [] is = no-bool is
opening-fits (x ∷ []) is = (omega arith, omega arith)
opening-fits (x ∷ y ∷ xs) is = by (nat_eq y 94)
  where
    by : (b : Bool) → (0 < (if b then 2 else 1)) × ((if b then 2 else 1) ≤ length (x ∷ y ∷ xs))
    by true = (omega arith, omega arith)
    by false = (omega arith, omega arith)

module _ (m : Mode) where
  found-more : (o xs : List ℕ) (n k : ℕ) → n ≤ length xs → Found m o (drop n xs) k → Found m o xs (n + k)
  found-more o xs n k le w = record {
    strings = w.strings;
    within = (let long = length-drop n xs in let within = w.within in omega (arith, long, within, le));
    derived = subst (λ ys. Reads m Class o ys w.strings) (drop-drop k n xs) w.derived;
  }

  -- the class that is derived where its `]` is
  closed-class : (c : List ℕ) (S : Set) (x : ℕ) (xs : List ℕ) (s : Bool) → x ≡ 93 → is_at c 0 91 ≡ true → Partial m c S (x ∷ xs) → ended S ≡ Some s
      → Reads m Class c xs s
  closed-class c S x xs s is begins' p e =
      let k = contents m c s p e in
      class begins' (subst (λ y. Reads m Contents (drop (opening c) c) (y ∷ xs) s) is k.0) k.1

  at-close : (us : List Set) (S : Set) (at x : ℕ) (xs c o : List ℕ) → x ≡ 93 → Partial m c S (x ∷ xs) → Around m us c o
      → ((us' : List Set) (T : Set) (c' : List ℕ) → Partial m c' T xs → Around m us' c' o → (j : ℕ) → sets_from m us' T (suc at) 0 xs ≡ Some j → Found m o xs j)
      → (k : ℕ) (e : Option Bool) → ended S ≡ e
      → after_close (closed e (innermost us)) (λ t. sets_from m (outer us) t (suc at) 0 xs) ≡ Some k → Found m o (x ∷ xs) k
  at-close us S at x xs c o is p a go k None e got = no-some got
  at-close us S at x xs c o is p (outermost b) go k (Some s) e got = record {
    strings = s;
    within = (let one-more : 1 ≡ k = some-inj got in omega (arith, one-more));
    derived = (let one-more : 1 ≡ k = some-inj got in
        subst (λ i. Reads m Class c (drop i (x ∷ xs)) s) one-more (closed-class c S x xs s is b p e));
  }
  at-close us S at x xs c o is p (inner {U = U} {us = vs} {d = d} b q a) go k (Some s) e got = by-takes (takes U s) refl got
    where
      by-takes : (t : Option Set) → takes U s ≡ t → after_close (as_around t) (λ t. sets_from m vs t (suc at) 0 xs) ≡ Some k → Found m o (x ∷ xs) k
      by-takes None t-is got' = no-some got'
      by-takes (Some T) t-is got' =
          let l = longer-some 1 k (sets_from m vs T (suc at) 0 xs) got' in
          subst (λ i. Found m o (x ∷ xs) i) l.1.1
          (found-more o (x ∷ xs) 1 l.0 (omega arith)
          (go vs T d (take-operand m d T q (nested (closed-class c S x xs s is b p e)) t-is) a l.0 l.1.0))

  close-at : (us : List Set) (S : Set) (at x : ℕ) (xs : List ℕ) → x ≡ 93
      → sets_from m us S at 0 (x ∷ xs) ≡ after_close (closed (ended S) (innermost us)) (λ t. sets_from m (outer us) t (suc at) 0 xs)
  unfolding sets_from
  close-at us S at x xs is = rw (same x 93 is) refl

  step : (us : List Set) (S : Set) (at x : ℕ) (xs c o : List ℕ) → Partial m c S (x ∷ xs) → Around m us c o
      → ((us' : List Set) (T : Set) (i n : ℕ) (c' : List ℕ) → 0 < n → Partial m c' T (drop n (x ∷ xs)) → Around m us' c' o → (j : ℕ)
      → sets_from m us' T i 0 (drop n (x ∷ xs)) ≡ Some j → Found m o (drop n (x ∷ xs)) j)
      → (k : ℕ) → sets_from m us S at 0 (x ∷ xs) ≡ Some k → Found m o (x ∷ xs) k
  step us S at x xs c o p a go k got = by-close (split (nat_eq x 93)) (split (nat_eq x 91))
    where
      by-part : (x ≡ 93 → ⊥) → (x ≡ 91 → ⊥) → (q : Option (Set × ℕ)) → part m S (x ∷ xs) ≡ q
          → after_part q (λ t k. sets_from m us t (suc at) k xs) ≡ Some k → Found m o (x ∷ xs) k
      by-part no-close no-open None is got' = no-some got'
      by-part no-close no-open (Some r) is got' =
          let l = longer-some 1 k (sets_from m us r.0 (suc at) (r.1 - 1) xs) got' in
          let some = part-some m S r.0 (x ∷ xs) r.1 is in
          let short = skip-within m us r.0 (suc at) (r.1 - 1) xs l.0 l.1.0 in
          let le : r.1 ≤ length (x ∷ xs) = omega (arith, some, short) in
          let h = longer-some r.1 k (sets_from m us r.0 (at + r.1) 0 (drop r.1 (x ∷ xs)))
          (sym (first m us S (x ∷ xs) at r.1 r.0 no-close no-open is some le) ∙ got) in
          subst (λ i. Found m o (x ∷ xs) i) h.1.1
          (found-more o (x ∷ xs) r.1 h.0 le (go us r.0 (at + r.1) r.1 c some (part-sound m c r.0 (x ∷ xs) r.1 p is le) a h.0 h.1.0))

      by-close : (nat_eq x 93 ≡ true) ⊎ (nat_eq x 93 ≡ false) → (nat_eq x 91 ≡ true) ⊎ (nat_eq x 91 ≡ false) → Found m o (x ∷ xs) k
      by-close (inl is) d =
          at-close us S at x xs c o (eq-of x 93 is) p a (λ us' T c' p' a' j e. go us' T (suc at) 1 c' (omega arith) p' a' j e) k (ended S) refl
          (sym (close-at us S at x xs (eq-of x 93 is)) ∙ got)
      by-close (inr no-close) (inl is) =
          let fits = opening-fits (x ∷ xs) is in let n = opening (x ∷ xs) in
          let h = longer-some n k (sets_from m (S ∷ us) (begun at (x ∷ xs)) (at + n) 0 (drop n (x ∷ xs)))
          (sym (begins m us S (x ∷ xs) at n (eq-of x 91 is) refl fits.0 fits.1) ∙ got) in
          subst (λ i. Found m o (x ∷ xs) i) h.1.1
          (found-more o (x ∷ xs) n h.0 fits.1
          (go (S ∷ us) (begun at (x ∷ xs)) (at + n) n (x ∷ xs) fits.0 (begun-at refl) (inner is p a) h.0 h.1.0))
      by-close (inr no-close) (inr no-open) =
          by-part (ne-of x 93 no-close) (ne-of x 91 no-open) (part m S (x ∷ xs)) refl
          (sym (part_at m us S at x xs (ne-of x 93 no-close) (ne-of x 91 no-open)) ∙ got)

  sound : (f : ℕ) (us : List Set) (S : Set) (at : ℕ) (xs c o : List ℕ) → length xs ≤ f → Partial m c S xs → Around m us c o
      → (k : ℕ) → sets_from m us S at 0 xs ≡ Some k → Found m o xs k
  unfolding sets_from
  sound f us S at [] c o le p a k got = no-some got
  sound zero us S at (x ∷ xs) c o le p a k got = absurd (omega (arith, le))
  sound (suc f) us S at (x ∷ xs) c o le p a k got =
      step us S at x xs c o p a
      (λ us' T i n c' some p' a' j e. sound f us' T i (drop n (x ∷ xs)) c' o
      (let long = length-drop n (x ∷ xs) in omega (arith, long, le, some)) p' a' j e)
      k got

-- completeness

tail-drop : (xs : List ℕ) (n v : ℕ) (ys : List ℕ) → drop n xs ≡ v ∷ ys → drop (n + 1) xs ≡ ys
tail-drop [] zero v ys is = let bad : ⊥ = cc in absurd bad
tail-drop [] (suc n) v ys is = let bad : ⊥ = cc in absurd bad
tail-drop (x ∷ xs) zero v ys is = let k : xs ≡ ys = cc in k
tail-drop (x ∷ xs) (suc n) v ys is =
    (let more : suc n + 1 ≡ suc (n + 1) = omega arith in ap (λ k. drop k (x ∷ xs)) more) ∙ tail-drop xs n v ys is

abbrev minus-next : List ℕ → Bool
minus-next ys = is_at ys 0 45 && not (is_at ys 1 45)

goes-drop : (xs : List ℕ) (n : ℕ) → goes_on xs n ≡ minus-next (drop n xs)
goes-drop xs zero = refl
goes-drop [] (suc n) = refl
goes-drop (x ∷ xs) (suc n) =
    (let more : suc n + 1 ≡ suc (n + 1) = omega arith in ap (λ k. is_at xs n 45 && not (is_at (x ∷ xs) k 45)) more) ∙ goes-drop xs n

-- what no atom begins with
no-minus : (m : Mode) (xs : List ℕ) (v : Meaning) (n : ℕ) → atom m xs ≡ Some (v, n) → is_at xs 0 45 ≡ false
no-minus m [] v n is = refl
no-minus m (x ∷ xs) v n is = by (split (nat_eq x 45))
  where
    by : (nat_eq x 45 ≡ true) ⊎ (nat_eq x 45 ≡ false) → nat_eq x 45 ≡ false
    by (inl e) = no-some (sym (not-minus m x xs (eq-of x 45 e)) ∙ is)
    by (inr e) = e

no-and : (m : Mode) (xs : List ℕ) (v : Meaning) (n : ℕ) → atom m xs ≡ Some (v, n) → (is_at xs 0 38 && is_at xs 1 38) ≡ false
no-and m xs v n is = by (split (is_at xs 0 38 && is_at xs 1 38))
  where
    by : ((is_at xs 0 38 && is_at xs 1 38) ≡ true) ⊎ ((is_at xs 0 38 && is_at xs 1 38) ≡ false) → (is_at xs 0 38 && is_at xs 1 38) ≡ false
    by (inl e) =
        (let l = and-true (is_at xs 0 38) (is_at xs 1 38) e in
        no-some (sym (ap (atom m) (two-at xs 38 38 l.0 l.1) ∙ not-and m 38 38 (drop 2 xs) refl refl) ∙ is))
    by (inr e) = e

abbrev first-or : List ℕ → ℕ
first-or xs = slice_index_or xs 0 0

no-close : (m : Mode) (xs : List ℕ) (v : Meaning) (n : ℕ) → atom m xs ≡ Some (v, n) → first-or xs ≡ 93 → ⊥
no-close m [] v n is e = no-some is
no-close m (x ∷ xs) v n is e = no-some (sym (not-close m x xs e) ∙ is)

no-open : (m : Mode) (xs : List ℕ) (v : Meaning) (n : ℕ) → atom m xs ≡ Some (v, n) → first-or xs ≡ 91 → ⊥
no-open m [] v n is e = no-some is
no-open m (x ∷ xs) v n is e = no-some (sym (not-open m x xs e) ∙ is)

first-is : (xs : List ℕ) → is_at xs 0 91 ≡ true → first-or xs ≡ 91
first-is [] is = no-bool is
first-is (x ∷ xs) is = eq-of x 91 is

record Ends (m : Mode) (us : List Set) (S : Set) (at : ℕ) (xs zs : List ℕ) : Type 0 where
  len : ℕ
  here : sets_from m us S at 0 xs ≡ Some len
  within : len ≤ length xs
  after-it : drop len xs ≡ zs

abbrev Ending : Mode → List Set → Set → List ℕ → List ℕ → Type 0
Ending m us S xs zs = (at : ℕ) → Ends m us S at xs zs

module _ (m : Mode) where
  lift : (us vs : List Set) (S T : Set) (at i n : ℕ) (xs ys zs : List ℕ) → n ≤ length xs → drop n xs ≡ ys
      → sets_from m us S at 0 xs ≡ longer_by n (sets_from m vs T i 0 (drop n xs)) → Ends m vs T i ys zs → Ends m us S at xs zs
  lift us vs S T at i n xs ys zs le is eq e =
      let w : Ends m vs T i (drop n xs) zs = subst (λ ws. Ends m vs T i ws zs) (sym is) e in
      record {
        len = n + w.len;
        here = eq ∙ ap (longer_by n) w.here;
        within = (let long = length-drop n xs in let within = w.within in omega (arith, long, within, le));
        after-it = sym (drop-drop w.len n xs) ∙ w.after-it;
      }

  by-part : (us : List Set) (S T : Set) (n : ℕ) (xs ys zs : List ℕ) → part m S xs ≡ Some (T, n) → (first-or xs ≡ 93 → ⊥) → (first-or xs ≡ 91 → ⊥)
      → n ≤ length xs → drop n xs ≡ ys → Ending m us T ys zs → Ending m us S xs zs
  by-part us S T n xs ys zs is off93 off91 le after-is e = λ at.
      lift us us S T at (at + n) n xs ys zs le after-is (first m us S xs at n T off93 off91 is (part-some m S T xs n is) le) (e (at + n))

  atom-part : (S T : Set) (xs ys : List ℕ) (v : Meaning) (a : IsAtom m xs ys v) → takes S (is_strings v) ≡ Some T → goes_on xs a.len ≡ false
      → part m S xs ≡ Some (T, a.len)
  atom-part S T xs ys v a is off =
      ap (λ b. choose b (choose (is_at xs 2 38) None (with_two (operates S op.Intersection)))
      (choose (is_at xs 0 45 && is_at xs 1 45) (with_two (operates S op.Subtraction)) (operand_of m S xs (atom m xs)))) (no-and m xs v a.len a.here)
      ∙ ap (λ b. choose (b && is_at xs 1 45) (with_two (operates S op.Subtraction)) (operand_of m S xs (atom m xs))) (no-minus m xs v a.len a.here)
      ∙ ap (operand_of m S xs) a.here
      ∙ ap (as_operand m xs v a.len) is
      ∙ ap (λ b. choose b (as_range m xs v a.len (ranges_by T.operator T)) (Some (T, a.len))) off

  atom-ending : (us : List Set) (S T : Set) (xs ys zs : List ℕ) (v : Meaning) → IsAtom m xs ys v → minus-next ys ≡ false
      → takes S (is_strings v) ≡ Some T → Ending m us T ys zs → Ending m us S xs zs
  atom-ending us S T xs ys zs v a off is e =
      by-part us S T a.len xs ys zs
      (atom-part S T xs ys v a is (goes-drop xs a.len ∙ ap minus-next (sym a.after) ∙ off))
      (no-close m xs v a.len a.here) (no-open m xs v a.len a.here) a.within (sym a.after) e

  range-ending : (us : List Set) (S T U : Set) (xs ys zs : List ℕ) → IsRange m xs ys → takes S false ≡ Some T → ranges_by T.operator T ≡ Some U
      → Ending m us U ys zs → Ending m us S xs zs
  range-ending us S T U xs ws zs r is by e =
      let a = r.first in let b = r.second in
      let at-minus : drop a.len xs ≡ 45 ∷ r.ys = sym a.after in
      let after-minus : drop (a.len + 1) xs ≡ r.ys = tail-drop xs a.len 45 r.ys at-minus in
      let on : goes_on xs a.len ≡ true = goes-drop xs a.len ∙ ap minus-next at-minus ∙ ap not (no-minus m r.ys r.high b.len b.here) in
      let long = length-drop (a.len + 1) xs in
      let same-len = ap length after-minus in
      let short = b.within in
      let some = atom-some m r.ys r.high b.len b.here in
      let n = a.len + 1 + b.len in
      by-part us S U n xs ws zs
      (ap (λ b. choose b (choose (is_at xs 2 38) None (with_two (operates S op.Intersection)))
      (choose (is_at xs 0 45 && is_at xs 1 45) (with_two (operates S op.Subtraction)) (operand_of m S xs (atom m xs)))) (no-and m xs r.low a.len a.here)
      ∙ ap (λ b. choose (b && is_at xs 1 45) (with_two (operates S op.Subtraction)) (operand_of m S xs (atom m xs))) (no-minus m xs r.low a.len a.here)
      ∙ ap (operand_of m S xs) a.here
      ∙ ap (as_operand m xs r.low a.len) (ap (takes S) (in-order-plain r.low r.high r.ordered) ∙ is)
      ∙ ap (λ b. choose b (as_range m xs r.low a.len (ranges_by T.operator T)) (Some (T, a.len))) on
      ∙ ap (as_range m xs r.low a.len) by
      ∙ ap (to_high U r.low a.len) (ap (atom m) after-minus ∙ b.here)
      ∙ ap (λ t. choose t (Some (U, n)) None) r.ordered)
      (no-close m xs r.low a.len a.here) (no-open m xs r.low a.len a.here)
      (omega (arith, long, same-len, short, some))
      (sym (drop-drop b.len (a.len + 1) xs) ∙ ap (drop b.len) after-minus ∙ sym b.after) e

  and-ending : (us : List Set) (S T : Set) (ys zs : List ℕ) → is_at ys 0 38 ≡ false → operates S op.Intersection ≡ Some T
      → Ending m us T ys zs → Ending m us S (38 ∷ 38 ∷ ys) zs
  and-ending us S T ys zs no-third is e =
      by-part us S T 2 (38 ∷ 38 ∷ ys) ys zs
      (ap (λ b. choose b None (with_two (operates S op.Intersection))) no-third ∙ ap with_two is)
      (λ e. absurd (omega (arith, e))) (λ e. absurd (omega (arith, e))) (omega arith) refl e

  minus-ending : (us : List Set) (S T : Set) (ys zs : List ℕ) → operates S op.Subtraction ≡ Some T
      → Ending m us T ys zs → Ending m us S (45 ∷ 45 ∷ ys) zs
  minus-ending us S T ys zs is e =
      by-part us S T 2 (45 ∷ 45 ∷ ys) ys zs (ap with_two is)
      (λ e. absurd (omega (arith, e))) (λ e. absurd (omega (arith, e))) (omega arith) refl e

  -- where a class in another one ends, and the outermost
  inner-ending : (us : List Set) (U S T : Set) (ys zs : List ℕ) (s : Bool) → ended S ≡ Some s → takes U s ≡ Some T
      → Ending m us T ys zs → Ending m (U ∷ us) S (93 ∷ ys) zs
  inner-ending us U S T ys zs s is by e = λ at.
      lift (U ∷ us) us S T at (suc at) 1 (93 ∷ ys) ys zs (omega arith) refl
      (close-at m (U ∷ us) S at 93 ys refl
      ∙ ap (λ t. after_close (closed t (Some U)) (λ t. sets_from m us t (suc at) 0 ys)) is
      ∙ ap (λ t. after_close (as_around t) (λ t. sets_from m us t (suc at) 0 ys)) by)
      (e (suc at))

  outer-ending : (S : Set) (ys : List ℕ) (s : Bool) → ended S ≡ Some s → Ending m [] S (93 ∷ ys) ys
  outer-ending S ys s is = λ at. record {
    len = 1;
    here = close-at m [] S at 93 ys refl ∙ ap (λ t. after_close (closed t None) (λ t. sets_from m [] t (suc at) 0 ys)) is;
    within = omega arith;
    after-it = refl;
  }

  begins-no-minus : {ys zs : List ℕ} {t : Bool} → Reads m Operand ys zs t → is_at ys 0 45 ≡ false
  begins-no-minus (nested (class {xs = xs} begins' p e)) = by xs begins'
    where
      by : (xs : List ℕ) → is_at xs 0 91 ≡ true → is_at xs 0 45 ≡ false
      by [] is = refl
      by (x ∷ xs) is = ap (λ y. nat_eq y 45) (eq-of x 91 is)
  begins-no-minus (an-atom {xs = xs} {v = v} a) = no-minus m xs v a.len a.here

  no-next : {ys zs : List ℕ} {t : Bool} → Reads m Operand ys zs t → minus-next ys ≡ false
  no-next {ys = ys} o = ap (λ b. b && not (is_at ys 1 45)) (begins-no-minus o)

  no-next-range : {ys zs : List ℕ} → IsRange m ys zs → minus-next ys ≡ false
  no-next-range {ys = ys} r = ap (λ b. b && not (is_at ys 1 45)) (no-minus m ys r.low r.first.len r.first.here)

  -- what is derived leads from one state to another
  abbrev Goes : Symbol → List ℕ → List ℕ → Bool → Type 0
  Goes Class xs ys s = (us : List Set) (U T : Set) (zs : List ℕ) → takes U s ≡ Some T → Ending m us T ys zs → Ending m us U xs zs
  Goes Operand xs ys s =
      (us : List Set) (U T : Set) (zs : List ℕ) → minus-next ys ≡ false → takes U s ≡ Some T → Ending m us T ys zs → Ending m us U xs zs
  Goes Union xs ys s =
      (us : List Set) (a : ℕ) (b : Bool) (zs : List ℕ) → minus-next ys ≡ false → Ending m us (after op.Open a b s) ys zs
      → Ending m us (after op.Union a b s) ys zs → Ending m us (fresh a b) xs zs
  Goes Intersection xs ys s =
      (us : List Set) (a : ℕ) (b : Bool) (zs : List ℕ) → minus-next ys ≡ false → Ending m us (after op.Intersection a b s) ys zs
      → Ending m us (fresh a b) xs zs
  Goes Subtraction xs ys s =
      (us : List Set) (a : ℕ) (b : Bool) (zs : List ℕ) → minus-next ys ≡ false → Ending m us (after op.Subtraction a b s) ys zs
      → Ending m us (fresh a b) xs zs
  Goes Contents xs ys s =
      (us : List Set) (a : ℕ) (b : Bool) (zs : List ℕ) → minus-next ys ≡ false → ((o : Operator) → Ending m us (after o a b s) ys zs)
      → (s ≡ false → Ending m us (fresh a b) ys zs) → Ending m us (fresh a b) xs zs

  ended-after : (o : Operator) (a : ℕ) (b s : Bool) → (b && s) ≡ false → ended (after o a b s) ≡ Some s
  ended-after o a b s is = ap (λ t. if t then None else Some s) is

  ended-fresh : (a : ℕ) (b s : Bool) → s ≡ false → (b && s) ≡ false → ended (fresh a b) ≡ Some s
  ended-fresh a b s none is = ap (λ t. if t then None else Some false) (ap (λ t. b && t) (sym none) ∙ is) ∙ ap Some (sym none)

  goes : {y : Symbol} {xs ys : List ℕ} {s : Bool} → Reads m y xs ys s → Goes y xs ys s
  goes (class {xs = xs} {ys = ys} {s = s} begins' p e) = λ us U T zs is end at.
      let fits = opening-fits xs begins' in
      let n = opening xs in
      lift us (U ∷ us) U (begun at xs) at (at + n) n xs (drop n xs) zs fits.1 refl
      (begins m us U xs at n (first-is xs begins') refl fits.0 fits.1)
      (goes p (U ∷ us) at (is_at xs 1 94) zs refl
      (λ o. inner-ending us U (after o at (is_at xs 1 94) s) T ys zs s (ended-after o at (is_at xs 1 94) s e) is end)
      (λ none. inner-ending us U (fresh at (is_at xs 1 94)) T ys zs s (ended-fresh at (is_at xs 1 94) s none e) is end)
      (at + n))
  goes no-operand = λ us a b zs off after-any as-fresh. as-fresh refl
  goes (union u) = λ us a b zs off after-any as-fresh. goes u us a b zs off (after-any op.Open) (after-any op.Union)
  goes (intersection i) = λ us a b zs off after-any as-fresh. goes i us a b zs off (after-any op.Intersection)
  goes (subtraction d) = λ us a b zs off after-any as-fresh. goes d us a b zs off (after-any op.Subtraction)
  goes (one {s = s} o) = λ us a b zs off as-open as-union. goes o us (fresh a b) (after op.Open a b s) zs off refl as-open
  goes (one-range {xs = xs} {ys = ys} r) = λ us a b zs off as-open as-union.
      range-ending us (fresh a b) (after op.Open a b false) (after op.Union a b false) xs ys zs r refl refl as-union
  goes (more {s = s} {t = t} u o) = λ us a b zs off as-open as-union.
      goes u us a b zs (no-next o)
      (goes o us (after op.Open a b s) (after op.Union a b (s || t)) zs off refl as-union)
      (goes o us (after op.Union a b s) (after op.Union a b (s || t)) zs off refl as-union)
  goes (more-range {ys = ys} {zs = ws} {s = s} u r) = λ us a b zs off as-open as-union.
      goes u us a b zs (no-next-range r)
      (range-ending us (after op.Open a b s) (after op.Union a b (s || false)) (after op.Union a b (s || false)) ys ws zs r refl refl as-union)
      (range-ending us (after op.Union a b s) (after op.Union a b (s || false)) (after op.Union a b (s || false)) ys ws zs r refl refl as-union)
  goes (two {ys = ys} {s = s} {t = t} p no-third o) = λ us a b zs off end.
      goes p us (fresh a b) (after op.Open a b s) zs refl refl
      (and-ending us (after op.Open a b s) (wanting op.Intersection a b s) ys zs no-third refl
      (goes o us (wanting op.Intersection a b s) (after op.Intersection a b (s && t)) zs off refl end))
  goes (and {ys = ys} {s = s} {t = t} p no-third o) = λ us a b zs off end.
      goes p us a b zs refl
      (and-ending us (after op.Intersection a b s) (wanting op.Intersection a b s) ys zs no-third refl
      (goes o us (wanting op.Intersection a b s) (after op.Intersection a b (s && t)) zs off refl end))
  goes (less {ys = ys} {s = s} {t = t} p o) = λ us a b zs off end.
      goes p us (fresh a b) (after op.Open a b s) zs refl refl
      (minus-ending us (after op.Open a b s) (wanting op.Subtraction a b s) ys zs refl
      (goes o us (wanting op.Subtraction a b s) (after op.Subtraction a b s) zs off refl end))
  goes (less-still {ys = ys} {s = s} {t = t} p o) = λ us a b zs off end.
      goes p us a b zs refl
      (minus-ending us (after op.Subtraction a b s) (wanting op.Subtraction a b s) ys zs refl
      (goes o us (wanting op.Subtraction a b s) (after op.Subtraction a b s) zs off refl end))
  goes (nested c) = λ us U T zs off is end. goes c us U T zs is end
  goes (an-atom {xs = xs} {ys = ys} {v = v} a) = λ us U T zs off is end. atom-ending us U T xs ys zs v a off is end

  -- the whole class
  pub derived-class : (xs : List ℕ) (n : ℕ) → is_at xs 0 91 ≡ true → set_class m xs ≡ Some n → IsClass m xs n
  derived-class xs n begins' is =
      let h = longer-some (opening xs) n (sets_from m [] (begun 0 xs) (opening xs) 0 (drop (opening xs) xs)) is in
      let w = found-more m xs xs (opening xs) h.0 (opening-fits xs begins').1
      (sound m (length (drop (opening xs) xs)) [] (begun 0 xs) (opening xs) (drop (opening xs) xs) xs xs (omega arith) (begun-at refl)
      (outermost begins') h.0 h.1.0) in
      subst (IsClass m xs) h.1.1 (record { strings = w.strings; within = w.within; derived = w.derived })

  same-len : (xs : List ℕ) (n k : ℕ) → n ≤ length xs → k ≤ length xs → drop n xs ≡ drop k xs → n ≡ k
  same-len xs n k a b is = let p = length-drop n xs in let q = length-drop k xs in let r = ap length is in omega (arith, p, q, r, a, b)

  of-class : (xs ys : List ℕ) (s : Bool) → Reads m Class xs ys s → (k : ℕ) × ((set_class m xs ≡ Some k) × ((k ≤ length xs) × (drop k xs ≡ ys)))
  of-class xs ys s (class begins' p e) =
      let w = goes p [] 0 (is_at xs 1 94) ys refl
      (λ o. outer-ending (after o 0 (is_at xs 1 94) s) ys s (ended-after o 0 (is_at xs 1 94) s e))
      (λ none. outer-ending (fresh 0 (is_at xs 1 94)) ys s (ended-fresh 0 (is_at xs 1 94) s none e)) (opening xs) in
      let fits = opening-fits xs begins' in let long = length-drop (opening xs) xs in let short = w.within in
      (opening xs + w.len, (ap (longer_by (opening xs)) w.here, (omega (arith, fits.1, long, short), sym (drop-drop w.len (opening xs) xs) ∙ w.after-it)))

  pub class-of : (xs : List ℕ) (n : ℕ) → IsClass m xs n → set_class m xs ≡ Some n
  class-of xs n c =
      let w = of-class xs (drop n xs) c.strings c.derived in
      w.1.0 ∙ ap Some (same-len xs w.0 n w.1.1.0 c.within w.1.1.1)
