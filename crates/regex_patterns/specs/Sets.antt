-- Classes with the flag `v` (ECMA-262, 22.2.1), which may be in one another: those that are open are on a stack, the
-- innermost first.
use Rattle.std.specs.Prelude.{ℕ, zero, suc, ◌+◌, ◌-◌, Bool, true, false, not, ◌&&◌, ◌||◌, if◌then◌else◌, nat_eq, nat_le, List, [], ◌∷◌, Option, Some, None, slice_get, drop}
use Rattle.swc_lexical.specs.Runs.{is_at}
use Rattle.regex_patterns.specs.declared.escape.Meaning.{Meaning}
use Rattle.regex_patterns.specs.declared.escape.Meaning.TheVariants.{Character, Class, Strings}
use Rattle.regex_patterns.specs.declared.sets.Operator.{Operator}
use Rattle.regex_patterns.specs.declared.sets.Operator.TheVariants.{Open, Union, Intersection, Subtraction}
use Rattle.regex_patterns.specs.declared.sets.Set.{Set}
use Rattle.regex_patterns.specs.declared.mode.Mode.{Mode}
use Rattle.regex_patterns.specs.Escapes.{escape}
use Rattle.regex_patterns.specs.Classes.{longer_by, opening}

-- & ! # $ % * + , . : ; < = > ? @ ^ ` ~
abbrev pub is_double : ℕ → Bool
is_double u =
    nat_eq u 38 || nat_eq u 33 || nat_eq u 35 || nat_eq u 36 || nat_eq u 37 || nat_eq u 42 || nat_eq u 43
    || (nat_eq u 44 || nat_eq u 46 || nat_eq u 58 || nat_eq u 59 || nat_eq u 60 || nat_eq u 61 || nat_eq u 62)
    || (nat_eq u 63 || nat_eq u 64 || nat_eq u 94 || nat_eq u 96 || nat_eq u 126)

-- ( ) [ ] { } / - |
abbrev pub is_class_syntax : ℕ → Bool
is_class_syntax u =
    nat_eq u 40 || nat_eq u 41 || nat_eq u 91 || nat_eq u 93 || nat_eq u 123 || nat_eq u 125 || nat_eq u 47
    || (nat_eq u 45 || nat_eq u 124)

-- & - ! # % , : ; < = > @ ` ~
abbrev pub is_reserved : ℕ → Bool
is_reserved u =
    nat_eq u 38 || nat_eq u 45 || nat_eq u 33 || nat_eq u 35 || nat_eq u 37 || nat_eq u 44 || nat_eq u 58
    || (nat_eq u 59 || nat_eq u 60 || nat_eq u 61 || nat_eq u 62 || nat_eq u 64 || nat_eq u 96 || nat_eq u 126)

-- an escape that only these classes have, or another
abbrev pub escape_in : Mode → List ℕ → Option ℕ → Option (Meaning × ℕ)
escape_in m xs None = None
escape_in m xs (Some u) =
    if nat_eq u 98 then Some (Character 8, 2) else if is_reserved u then Some (Character u, 2) else escape m xs

abbrev pub sign : List ℕ → Option ℕ → Option (Meaning × ℕ)
sign xs None = None
sign xs (Some u) =
    if is_class_syntax u || is_double u && is_at xs 1 u then None else Some (Character u, 1)

-- a character or an escape
abbrev pub element : Mode → List ℕ → Option (Meaning × ℕ)
element m xs = if is_at xs 0 92 then escape_in m xs (slice_get xs 1) else sign xs (slice_get xs 0)

abbrev pub is_character : Meaning → Bool
is_character (Character c) = true
is_character Class = false
is_character Strings = false

-- After `\q{`: how many units the strings take up to their `}`, and whether one of them has not one character. Of the
-- string that goes on so many are known, and so it is with those before it.
abbrev pub or_other : Bool → ℕ → Bool
or_other others count = others || not (nat_eq count 1)

abbrev pub longer : Option (Bool × ℕ) → Option (Bool × ℕ)
longer None = None
longer (Some r) = Some (r.0, 1 + r.1)

abbrev pub after_character : Option (Meaning × ℕ) → (ℕ → Option (Bool × ℕ)) → Option (Bool × ℕ)
after_character None f = None
after_character (Some r) f = if is_character r.0 then longer (f (r.1 - 1)) else None

unfoldable pub strings_from : Mode → ℕ → Bool → ℕ → List ℕ → Option (Bool × ℕ)
strings_from m count others k [] = None
strings_from m count others (suc k) (x ∷ xs) = longer (strings_from m count others k xs)
strings_from m count others zero (x ∷ xs) =
    if nat_eq x 125 then Some (or_other others count, 1)
    else if nat_eq x 124 then longer (strings_from m 0 (or_other others count) 0 xs)
    else after_character (element m (x ∷ xs)) (λ k. strings_from m (suc count) others k xs)

abbrev pub as_meaning : Option (Bool × ℕ) → Option (Meaning × ℕ)
as_meaning None = None
as_meaning (Some r) = Some (if r.0 then Strings else Class, 3 + r.1)

-- `\q{..}`, a character or an escape
abbrev pub atom : Mode → List ℕ → Option (Meaning × ℕ)
atom m xs =
    if is_at xs 0 92 && (is_at xs 1 113 && is_at xs 2 123) then as_meaning (strings_from m 0 false 0 (drop 3 xs))
    else element m xs

-- a class that begins there
abbrev pub begun : ℕ → List ℕ → Set
begun at xs = record {
  start = at;
  is_negated = is_at xs 1 94;
  operator = Open;
  has_operand = false;
  has_strings = false;
  wants_operand = false;
}

-- With an operand more, in which strings are or not: a second one without an operator makes a union, and otherwise one
-- operator is before each.
abbrev pub with_operand : Set → Operator → Bool → Set
with_operand s o strings = record {
  start = s.start;
  is_negated = s.is_negated;
  operator = o;
  has_operand = true;
  has_strings = strings;
  wants_operand = false;
}

abbrev pub takes_by : Operator → Set → Bool → Option Set
takes_by Open s strings = Some (with_operand s (if s.has_operand then Union else Open) (s.has_strings || strings))
takes_by Union s strings = Some (with_operand s Union (s.has_strings || strings))
takes_by Intersection s strings =
    if s.wants_operand then Some (with_operand s Intersection (s.has_strings && strings)) else None
takes_by Subtraction s strings = if s.wants_operand then Some (with_operand s Subtraction s.has_strings) else None

abbrev pub takes : Set → Bool → Option Set
takes s strings = takes_by s.operator s strings

-- with an operator more
abbrev pub with_operator : Set → Operator → Set
with_operator s o = record {
  start = s.start;
  is_negated = s.is_negated;
  operator = o;
  has_operand = s.has_operand;
  has_strings = s.has_strings;
  wants_operand = true;
}

abbrev pub can_be : Operator → Operator → Bool
can_be Open o = true
can_be Intersection Intersection = true
can_be Intersection Subtraction = false
can_be Intersection Open = false
can_be Intersection Union = false
can_be Subtraction Subtraction = true
can_be Subtraction Intersection = false
can_be Subtraction Open = false
can_be Subtraction Union = false
can_be Union o = false

abbrev pub operates : Set → Operator → Option Set
operates s o = if can_be s.operator o && s.has_operand && not s.wants_operand then Some (with_operator s o) else None

-- a range makes a union
abbrev pub ranges_by : Operator → Set → Option Set
ranges_by Open s = Some (with_operand s Union s.has_strings)
ranges_by Union s = Some (with_operand s Union s.has_strings)
ranges_by Intersection s = None
ranges_by Subtraction s = None

abbrev pub is_strings : Meaning → Bool
is_strings (Character c) = false
is_strings Class = false
is_strings Strings = true

abbrev pub are_in_order : Meaning → Meaning → Bool
are_in_order (Character a) (Character b) = nat_le a b
are_in_order (Character a) Class = false
are_in_order (Character a) Strings = false
are_in_order Class high = false
are_in_order Strings high = false

abbrev pub to_high : Set → Meaning → ℕ → Option (Meaning × ℕ) → Option (Set × ℕ)
to_high s low n None = None
to_high s low n (Some r) = if are_in_order low r.0 then Some (s, n + 1 + r.1) else None

abbrev pub as_range : Mode → List ℕ → Meaning → ℕ → Option Set → Option (Set × ℕ)
as_range m xs low n None = None
as_range m xs low n (Some s) = to_high s low n (atom m (drop (n + 1) xs))

-- `-`, and no second one after it
abbrev pub goes_on : List ℕ → ℕ → Bool
goes_on xs n = is_at xs n 45 && not (is_at xs (n + 1) 45)

abbrev pub as_operand : Mode → List ℕ → Meaning → ℕ → Option Set → Option (Set × ℕ)
as_operand m xs low n None = None
as_operand m xs low n (Some s) = if goes_on xs n then as_range m xs low n (ranges_by s.operator s) else Some (s, n)

abbrev pub operand_of : Mode → Set → List ℕ → Option (Meaning × ℕ) → Option (Set × ℕ)
operand_of m s xs None = None
operand_of m s xs (Some r) = as_operand m xs r.0 r.1 (takes s (is_strings r.0))

abbrev pub with_two : Option Set → Option (Set × ℕ)
with_two None = None
with_two (Some s) = Some (s, 2)

-- `&&`, but no third one; `--`; or an operand that is no class in brackets: what the class is then, and how many units
-- it takes
abbrev pub part : Mode → Set → List ℕ → Option (Set × ℕ)
part m s xs =
    if is_at xs 0 38 && is_at xs 1 38 then (if is_at xs 2 38 then None else with_two (operates s Intersection))
    else if is_at xs 0 45 && is_at xs 1 45 then with_two (operates s Subtraction)
    else operand_of m s xs (atom m xs)

-- where a class ends: whether strings are in it; `[^` must have none
abbrev pub ended : Set → Option Bool
ended s = if s.wants_operand || s.is_negated && s.has_strings then None else Some s.has_strings

abbrev pub after_part : Option (Set × ℕ) → (Set → ℕ → Option ℕ) → Option ℕ
after_part None f = None
after_part (Some r) f = longer_by 1 (f r.0 (r.1 - 1))

-- the class around one that ended, if it is in one: with that as an operand
abbrev pub as_around : Option Set → Option (Option Set)
as_around None = None
as_around (Some s) = Some (Some s)

abbrev pub closed : Option Bool → Option Set → Option (Option Set)
closed None around = None
closed (Some strings) None = Some None
closed (Some strings) (Some s) = as_around (takes s strings)

abbrev pub innermost : List Set → Option Set
innermost [] = None
innermost (s ∷ opened) = Some s

abbrev pub outer : List Set → List Set
outer [] = []
outer (s ∷ opened) = opened

abbrev pub after_close : Option (Option Set) → (Set → Option ℕ) → Option ℕ
after_close None f = None
after_close (Some None) f = Some 1
after_close (Some (Some s)) f = longer_by 1 (f s)

-- how many units come up to the `]` of the outermost class, of which k are passed
unfoldable pub sets_from : Mode → List Set → Set → ℕ → ℕ → List ℕ → Option ℕ
sets_from m opened s at k [] = None
sets_from m opened s at (suc k) (x ∷ xs) = longer_by 1 (sets_from m opened s (suc at) k xs)
sets_from m opened s at zero (x ∷ xs) =
    if nat_eq x 93
    then after_close (closed (ended s) (innermost opened)) (λ t. sets_from m (outer opened) t (suc at) 0 xs)
    else if nat_eq x 91
    then longer_by 1 (sets_from m (s ∷ opened) (begun at (x ∷ xs)) (suc at) (opening (x ∷ xs) - 1) xs)
    else after_part (part m s (x ∷ xs)) (λ t k. sets_from m opened t (suc at) k xs)

abbrev pub set_class : Mode → List ℕ → Option ℕ
set_class m xs =
    longer_by (opening xs) (sets_from m [] (begun 0 xs) (opening xs) 0 (drop (opening xs) xs))
