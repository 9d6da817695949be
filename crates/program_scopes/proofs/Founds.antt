-- What is found among things that have names.
use Rattle.std.proofs.Common.{◌≡◌, ℕ, suc, Bool, true, false, List, [], ◌∷◌, ◌++◌, ◌-◌, ◌≤◌, ◌<◌, drop, reverse, length, Option, Some, None, refl, ap, ◌∙◌, ◌⊎◌, inl, inr, arith, rules}
use Rattle.std.specs.Prelude.{if◌then◌else◌, ◌||◌, nat_le, is_some}
use Rattle.std.specs.Str.{bytes_eq}
use Rattle.std.proofs.lemmas.List.{reverse-append}
use Rattle.program_scopes.specs.Stacks.{found, since}
use Rattle.program_scopes.proofs.Bytes.{split}

le-true : (m n : ℕ) → m ≤ n → nat_le m n ≡ true
le-true m n le = search (rules, le)

le-false : (m n : ℕ) → n < m → nat_le m n ≡ false
le-false m n lt = search (rules, lt)

module _ {T : Type 0} where
  pub since-in : (m n : ℕ) (x : T) → m ≤ n → since m (Some (n, x)) ≡ Some x
  since-in m n x le = ap (λ b. if b then Some x else None) (le-true m n le)

  -- nothing is found above all
  pub beyond : (q : List ℕ) (xs : List (List ℕ × T)) (n : ℕ) → length xs ≤ n → since n (found q xs) ≡ None
  unfolding found
  beyond q [] n le = refl
  beyond q (x ∷ xs) n le = by (split (bytes_eq q x.0)) (beyond q xs n (omega (arith, le)))
    where
      by : (bytes_eq q x.0 ≡ true) ⊎ (bytes_eq q x.0 ≡ false) → since n (found q xs) ≡ None → since n (found q (x ∷ xs)) ≡ None
      by (inl e) rest =
          ap (λ b. since n (if b then Some (length xs, x.1) else found q xs)) e
          ∙ ap (λ b. if b then Some x.1 else None) (le-false n (length xs) (omega (arith, le)))
      by (inr e) rest = ap (λ b. since n (if b then Some (length xs, x.1) else found q xs)) e ∙ rest

pub longer : {A : Type 0} (xs ys : List A) → length ys ≤ length (xs ++ ys)
longer [] ys = omega arith
longer (x ∷ xs) ys = let rest = longer xs ys in omega (arith, rest)

pub or-assoc : (a b c : Bool) → (a || (b || c)) ≡ ((a || b) || c)
or-assoc true b c = refl
or-assoc false b c = refl

pub some-if : {A : Type 0} (b : Bool) (x : A) (o : Option A) → is_some (if b then Some x else o) ≡ (b || is_some o)
some-if true x o = refl
some-if false x o = refl

-- lists by their first
first : {A : Type 0} → A → List A → A
first d [] = d
first d (x ∷ xs) = x

pub same-first : {A : Type 0} (x y : A) (xs ys : List A) → x ∷ xs ≡ y ∷ ys → x ≡ y
unfolding first
same-first x y xs ys e = ap (first x) e

pub same-rest : {A : Type 0} (x y : A) (xs ys : List A) → x ∷ xs ≡ y ∷ ys → xs ≡ ys
same-rest x y xs ys e = ap (λ zs. drop 1 zs) e

pub not-empty : {A : Type 0} (x : A) (xs : List A) → x ∷ xs ≡ [] → ⊥
not-empty x xs e = let len = ap length e in omega (arith, len)

pub turned : {A : Type 0} (old new : List A) (x : A) → new ≡ old ++ x ∷ [] → reverse new ≡ x ∷ reverse old
turned old new x is = ap reverse is ∙ reverse-append old (x ∷ [])

pub drop-front : {A : Type 0} (xs ys : List A) (n : ℕ) → n ≡ length ys → drop (length (xs ++ ys) - n) (xs ++ ys) ≡ ys
drop-front [] ys n is = let all : length ys - n ≡ 0 = omega (arith, is) in ap (λ k. drop k ys) all
drop-front (x ∷ xs) ys n is =
    let long = longer xs ys in
    let more : suc (length (xs ++ ys)) - n ≡ suc (length (xs ++ ys) - n) = omega (arith, is, long) in
    ap (λ k. drop k (x ∷ xs ++ ys)) more ∙ drop-front xs ys n is

pub ap2 : {A B C : Type 0} (f : A → B → C) {x x' : A} {y y' : B} → x ≡ x' → y ≡ y' → f x y ≡ f x' y'
ap2 f {x} {x'} {y} {y'} p q = ap (λ a. f a y) p ∙ ap (f x') q
