-- The grammar of classes with the flag `v` (ECMA-262, 22.2.1): `Reads m s xs ys b` says that the symbol s derives the
-- units from xs on to before ys; b says whether strings of several characters may be in it (MayContainStrings).
use Rattle.std.specs.Prelude.{◌≡◌, ℕ, ◌≤◌, Bool, true, false, ◌&&◌, ◌||◌, List, ◌∷◌, length, drop, Some}
use Rattle.swc_lexical.specs.Runs.{is_at}
use Rattle.regex_patterns.specs.declared.escape.Meaning.{Meaning}
use Rattle.regex_patterns.specs.declared.mode.Mode.{Mode}
use Rattle.regex_patterns.specs.Classes.{opening}
use Rattle.regex_patterns.specs.Sets.{atom, is_strings, are_in_order}

pub data Symbol : Type 0 where
  Class : Symbol
  Contents : Symbol
  Union : Symbol
  Intersection : Symbol
  Subtraction : Symbol
  Operand : Symbol

-- a string disjunction, a character or an escape, of so many units
pub record IsAtom (m : Mode) (xs ys : List ℕ) (v : Meaning) : Type 0 where
  pub len : ℕ
  pub here : atom m xs ≡ Some (v, len)
  pub within : len ≤ length xs
  pub after : ys ≡ drop len xs

-- two characters in order, with a `-` between them
pub record IsRange (m : Mode) (xs zs : List ℕ) : Type 0 where
  pub low : Meaning
  pub high : Meaning
  pub ys : List ℕ
  pub first : IsAtom m xs (45 ∷ ys) low
  pub second : IsAtom m ys zs high
  pub ordered : are_in_order low high ≡ true

pub data Reads (m : Mode) : Symbol → List ℕ → List ℕ → Bool → Type 0 where
  -- from `[` to `]`; after `[^` there are no strings
  class : {xs ys : List ℕ} {s : Bool} → is_at xs 0 91 ≡ true → Reads m Contents (drop (opening xs) xs) (93 ∷ ys) s
      → (is_at xs 1 94 && s) ≡ false → Reads m Class xs ys s
  no-operand : {xs : List ℕ} → Reads m Contents xs xs false
  union : {xs ys : List ℕ} {s : Bool} → Reads m Union xs ys s → Reads m Contents xs ys s
  intersection : {xs ys : List ℕ} {s : Bool} → Reads m Intersection xs ys s → Reads m Contents xs ys s
  subtraction : {xs ys : List ℕ} {s : Bool} → Reads m Subtraction xs ys s → Reads m Contents xs ys s
  one : {xs ys : List ℕ} {s : Bool} → Reads m Operand xs ys s → Reads m Union xs ys s
  one-range : {xs ys : List ℕ} → IsRange m xs ys → Reads m Union xs ys false
  more : {xs ys zs : List ℕ} {s t : Bool} → Reads m Union xs ys s → Reads m Operand ys zs t
      → Reads m Union xs zs (s || t)
  more-range : {xs ys zs : List ℕ} {s : Bool} → Reads m Union xs ys s → IsRange m ys zs → Reads m Union xs zs (s || false)
  -- `&&` has no third `&` after it
  two : {xs ys zs : List ℕ} {s t : Bool} → Reads m Operand xs (38 ∷ 38 ∷ ys) s → is_at ys 0 38 ≡ false
      → Reads m Operand ys zs t → Reads m Intersection xs zs (s && t)
  and : {xs ys zs : List ℕ} {s t : Bool} → Reads m Intersection xs (38 ∷ 38 ∷ ys) s → is_at ys 0 38 ≡ false
      → Reads m Operand ys zs t → Reads m Intersection xs zs (s && t)
  -- of what is taken away no strings count
  less : {xs ys zs : List ℕ} {s t : Bool} → Reads m Operand xs (45 ∷ 45 ∷ ys) s → Reads m Operand ys zs t
      → Reads m Subtraction xs zs s
  less-still : {xs ys zs : List ℕ} {s t : Bool} → Reads m Subtraction xs (45 ∷ 45 ∷ ys) s → Reads m Operand ys zs t
      → Reads m Subtraction xs zs s
  nested : {xs ys : List ℕ} {s : Bool} → Reads m Class xs ys s → Reads m Operand xs ys s
  an-atom : {xs ys : List ℕ} {v : Meaning} → IsAtom m xs ys v → Reads m Operand xs ys (is_strings v)

-- the class that begins here takes so many units
pub record IsClass (m : Mode) (xs : List ℕ) (n : ℕ) : Type 0 where
  pub strings : Bool
  pub within : n ≤ length xs
  pub derived : Reads m Class xs (drop n xs) strings
