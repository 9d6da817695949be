-- Classes without the flag `v` (ECMA-262, 22.2.1 and B.1.2).
use Rattle.std.specs.Prelude.{ℕ, zero, suc, ◌+◌, ◌-◌, Bool, not, ◌&&◌, if◌then◌else◌, nat_eq, nat_le, List, [], ◌∷◌, Option, Some, None, slice_get, drop}
use Rattle.swc_lexical.specs.Runs.{is_at, test_at}
use Rattle.regex_patterns.specs.declared.escape.Meaning.{Meaning}
use Rattle.regex_patterns.specs.declared.escape.Meaning.TheVariants.{Character, Class, Strings}
use Rattle.regex_patterns.specs.declared.mode.Mode.{Mode}
use Rattle.regex_patterns.specs.Signs.{is_word}
use Rattle.regex_patterns.specs.Escapes.{escape, low_bits}

-- `\c` and a letter, a digit or `_`; otherwise the backslash alone
abbrev pub control_in : Option ℕ → Option (Meaning × ℕ)
control_in None = Some (Character 92, 1)
control_in (Some u) = if is_word u then Some (Character (low_bits u), 3) else Some (Character 92, 1)

-- a character or a class, as one of a class
abbrev pub plain : Option ℕ → Option (Meaning × ℕ)
plain None = None
plain (Some u) = Some (Character u, 1)

abbrev pub one : Mode → List ℕ → Option (Meaning × ℕ)
one m xs =
    if is_at xs 0 92
    then (if is_at xs 1 98 then Some (Character 8, 2)
    else if not m.unicode && is_at xs 1 99 then control_in (slice_get xs 2) else escape m xs)
    else plain (slice_get xs 0)

-- whether these can be the ends of a range: of old scripts also classes can, which are no range then
abbrev pub are_ends : Bool → Meaning → Meaning → Bool
are_ends takes_classes (Character a) (Character b) = nat_le a b
are_ends takes_classes (Character a) Class = takes_classes
are_ends takes_classes (Character a) Strings = takes_classes
are_ends takes_classes Class high = takes_classes
are_ends takes_classes Strings high = takes_classes

-- `-` and what is no `]`
abbrev pub goes_on : List ℕ → ℕ → Bool
goes_on xs n = is_at xs n 45 && test_at (λ u. not (nat_eq u 93)) xs (n + 1)

abbrev pub to_high : Mode → Meaning → ℕ → Option (Meaning × ℕ) → Option ℕ
to_high m low n None = None
to_high m low n (Some r) = if are_ends (not m.unicode) low r.0 then Some (n + 1 + r.1) else None

abbrev pub from_low : Mode → List ℕ → Option (Meaning × ℕ) → Option ℕ
from_low m xs None = None
from_low m xs (Some r) = if goes_on xs r.1 then to_high m r.0 r.1 (one m (drop (r.1 + 1) xs)) else Some r.1

-- how many units a character, a class or a range takes
abbrev pub range : Mode → List ℕ → Option ℕ
range m xs = from_low m xs (one m xs)

-- how many units a class takes up to its `]`, of which k are passed; None where it is none
abbrev pub longer_by : ℕ → Option ℕ → Option ℕ
longer_by k None = None
longer_by k (Some n) = Some (k + n)

abbrev pub after_range : Option ℕ → (ℕ → Option ℕ) → Option ℕ
after_range None f = None
after_range (Some n) f = longer_by 1 (f (n - 1))

unfoldable pub ranges_from : Mode → ℕ → List ℕ → Option ℕ
ranges_from m k [] = None
ranges_from m (suc k) (x ∷ xs) = longer_by 1 (ranges_from m k xs)
ranges_from m zero (x ∷ xs) =
    if nat_eq x 93 then Some 1 else after_range (range m (x ∷ xs)) (λ k. ranges_from m k xs)

abbrev pub opening : List ℕ → ℕ
opening xs = if is_at xs 1 94 then 2 else 1

abbrev pub old_class : Mode → List ℕ → Option ℕ
old_class m xs = longer_by (opening xs) (ranges_from m 0 (drop (opening xs) xs))
