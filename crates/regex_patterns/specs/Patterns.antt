-- Regular expressions (ECMA-262, 22.2.1, 22.2.1.1, 22.2.3.4 and B.1.2).
use Rattle.std.specs.Prelude.{◌≡◌, ℕ, Bool, true, false, not, ◌&&◌, ◌||◌, nat_eq, List, [], ◌∷◌, ◌++◌, Option, Some, None}
use Rattle.std.specs.List.{list_any}
use Rattle.std.specs.Str.{chars}
use Rattle.regex_patterns.specs.declared.mode.Mode.{Mode}
use Rattle.regex_patterns.specs.declared.piece.Placed.{Placed}
use Rattle.regex_patterns.specs.declared.fault.Wrong.{Wrong}
use Rattle.regex_patterns.specs.Units.{units}
use Rattle.regex_patterns.specs.Pieces.{pieces}
use Rattle.regex_patterns.specs.Grammar.{Tree, Derives, Disjunction}
use Rattle.regex_patterns.specs.Groups.{accepts}
use Rattle.regex_patterns.specs.Conditions.{are_distinct, are_apart, numbers_fit, group_names, are_known, has_names}

-- These units are a pattern: the grammar derives a tree from its pieces, and the conditions are met.
pub record IsPattern (m : Mode) (xs : List ℕ) : Type 0 where
  pub ps : List Placed
  pub tree : Tree
  pub read : pieces m xs ≡ Some ps
  pub derived : Derives m Disjunction ps [] tree
  pub distinct : are_distinct xs tree ≡ true
  pub numbers : m.unicode ≡ true → numbers_fit ps ≡ true
  pub known : are_known xs (group_names xs ps) ps ≡ true

abbrev pub mode : Bool → Bool → Bool → Mode
mode unicode sets named = record { unicode = unicode; sets = sets; named = named }

-- a group of a pattern has a name
abbrev pub HasNames : Mode → List ℕ → Type 0
HasNames m xs = (ps : List Placed) × ((pieces m xs ≡ Some ps) × (has_names ps ≡ true))

-- A pattern of old scripts, in which `\k` is a reference only where a group has a name: it is read without such
-- references first.
abbrev pub IsOldPattern : List ℕ → Type 0
IsOldPattern xs =
    IsPattern (mode false false false) xs
    × (HasNames (mode false false false) xs → IsPattern (mode false false true) xs)

-- The same of these pieces, as the walks over them tell it; and nothing is wrong with a unit after them.
abbrev pub AreGood : Mode → List ℕ → List Placed → Option Wrong → Type 0
AreGood m xs ps wrong =
    (wrong ≡ None) × (accepts m [] false ps ≡ true) × (are_apart xs ps ≡ true)
    × (m.unicode ≡ true → numbers_fit ps ≡ true) × (are_known xs (group_names xs ps) ps ≡ true)

-- d g i m s u v y, each once at most, and not u with v
abbrev pub is_flag : ℕ → Bool
is_flag b =
    nat_eq b 100 || nat_eq b 103 || nat_eq b 105 || nat_eq b 109 || nat_eq b 115 || nat_eq b 117 || nat_eq b 118
    || nat_eq b 121

abbrev pub has : List ℕ → ℕ → Bool
has bs b = list_any (λ y. nat_eq y b) bs

-- whether a flag can be after those before it
abbrev pub can_follow : List ℕ → ℕ → Bool
can_follow before b =
    is_flag b && not (has before b) && not (nat_eq b 117 && has before 118 || nat_eq b 118 && has before 117)

unfoldable pub are_flags : List ℕ → List ℕ → Bool
are_flags before [] = true
are_flags before (b ∷ bs) = can_follow before b && are_flags (before ++ (b ∷ [])) bs

-- the units of a text between the slashes
abbrev pub units_of : List ℕ → List ℕ → List ℕ
units_of text flags = units (has flags 117 || has flags 118) (chars text)

abbrev pub IsBody : Bool → Bool → List ℕ → Type 0
IsBody true sets xs = IsPattern (mode true sets true) xs
IsBody false sets xs = IsOldPattern xs

-- these are the pattern and the flags of a regular expression
abbrev pub IsRegExp : List ℕ → List ℕ → Type 0
IsRegExp text flags =
    (are_flags [] flags ≡ true)
    × IsBody (has flags 117 || has flags 118) (has flags 118) (units_of text flags)
