-- An escape and an atom of a class take one unit at least.
use Rattle.std.proofs.Common.{◌≡◌, ℕ, ◌+◌, ◌*◌, ◌<◌, Bool, true, false, List, [], ◌∷◌, drop, Option, Some, None, refl, ap, subst, ◌∙◌, arith}
use Rattle.std.specs.Prelude.{if◌then◌else◌, IfSome, ◌&&◌, ◌||◌, not, nat_eq, nat_le, slice_get, take}
use Rattle.swc_lexical.specs.Runs.{is_at, test_at}
use Rattle.swc_lexical.specs.Escapes.{two_digits, with_len, octal_at, after_one}
use Rattle.regex_patterns.specs.declared.escape.Meaning.{Meaning}
use Rattle.regex_patterns.specs.declared.escape.Meaning.TheVariants.{Character, Class}
use Rattle.regex_patterns.specs.declared.mode.Mode.{Mode}
use Rattle.regex_patterns.specs.declared.signs.Run.TheVariants.{Word}
use Rattle.regex_patterns.specs.Signs.{is_letter, is_digit, while_len, has}
use Rattle.regex_patterns.specs.Properties as properties
use Rattle.regex_patterns.specs.Escapes.{low_bits, control_of, zero, old_octal, octal, or_letter, is_syntax, letter, letter_or, is_class_letter, is_octal, is_property, by_letter, character_escape, escape_of, escape_at, escape}
use Rattle.regex_patterns.specs.declared.sets.Operator.TheVariants.{Intersection, Subtraction}
use Rattle.regex_patterns.specs.declared.sets.Set.{Set}
use Rattle.regex_patterns.specs.Sets.{atom, element, escape_in, sign, as_meaning, strings_from, is_reserved, is_class_syntax, is_double, with_two, operates, to_high, are_in_order, as_range, as_operand, goes_on, ranges_by, takes, is_strings, operand_of, part}

abbrev Pos : Option (Meaning × ℕ) → Type 0
Pos o = IfSome o (λ r. 0 < r.1)

either : (b : Bool) (x y : Option (Meaning × ℕ)) → Pos x → Pos y → Pos (if b then x else y)
either true x y p q = p
either false x y p q = q

lone-pos : (n : ℕ) (o : Option Meaning) → 0 < n → Pos (properties.with_len n o)
lone-pos n None some = tt
lone-pos n (Some v) some = some

value-pos : (xs : List ℕ) (a b : ℕ) → Pos (properties.of_value xs a b)
value-pos xs a b =
    either (is_at xs (4 + a + b) 125 && properties.has_value (take a (drop 3 xs)) (take b (drop (4 + a) xs))) (Some (Class, 5 + a + b)) None
    (omega arith) tt

name-pos : (m : Mode) (xs : List ℕ) (a : ℕ) → Pos (properties.of_name m xs a)
name-pos m xs a =
    either (is_at xs (3 + a) 61) (properties.of_value xs a (while_len (has Word) (drop (4 + a) xs)))
    (if is_at xs (3 + a) 125 then properties.with_len (4 + a) (properties.lone m (is_at xs 1 80) (take a (drop 3 xs))) else None)
    (value-pos xs a (while_len (has Word) (drop (4 + a) xs)))
    (either (is_at xs (3 + a) 125) (properties.with_len (4 + a) (properties.lone m (is_at xs 1 80) (take a (drop 3 xs)))) None
    (lone-pos (4 + a) (properties.lone m (is_at xs 1 80) (take a (drop 3 xs))) (omega arith)) tt)

property-pos : (m : Mode) (xs : List ℕ) → Pos (properties.property m xs)
property-pos m xs =
    either (is_at xs 2 123) (properties.of_name m xs (while_len (has Word) (drop 3 xs))) None
    (name-pos m xs (while_len (has Word) (drop 3 xs))) tt

control-pos : (m : Mode) (o : Option ℕ) → Pos (control_of m o)
control-pos m None = either m.unicode None (Some (Character 92, 1)) tt (omega arith)
control-pos m (Some u) =
    either (is_letter u) (Some (Character (low_bits u), 3)) (if m.unicode then None else Some (Character 92, 1)) (omega arith)
    (either m.unicode None (Some (Character 92, 1)) tt (omega arith))

abbrev second : ℕ × ℕ → ℕ
second r = r.1

pick : (b : Bool) (x y : ℕ × ℕ) → 0 < second x → 0 < second y → 0 < second (if b then x else y)
pick true x y p q = p
pick false x y p q = q

one-pos : (d : ℕ) (e f : Option ℕ) → 0 < (after_one d e f).1
one-pos d None f = omega arith
one-pos d (Some e) None = omega arith
one-pos d (Some e) (Some f) = pick (nat_le d 3) (64 * d + 8 * e + f, 4) (8 * d + e, 3) (omega arith) (omega arith)

old-pos : (xs : List ℕ) (o : Option ℕ) → Pos (old_octal xs o)
old-pos xs None = tt
old-pos xs (Some d) = one-pos d (octal_at (slice_get xs 2)) (octal_at (slice_get xs 3))

octal-pos : (m : Mode) (xs : List ℕ) → Pos (octal m xs)
octal-pos m xs =
    either m.unicode (zero xs) (old_octal xs (octal_at (slice_get xs 1)))
    (either (is_at xs 1 48 && not (test_at is_digit xs 2)) (Some (Character 0, 2)) None (omega arith) tt)
    (old-pos xs (octal_at (slice_get xs 1)))

or-pos : (m : Mode) (u : ℕ) (o : Option (ℕ × ℕ)) → Pos (or_letter m u o)
or-pos m u None = either m.unicode None (Some (Character u, 2)) tt (omega arith)
or-pos m u (Some r) = omega arith

letter-pos : (m : Mode) (u : ℕ) (o : Option ℕ) → Pos (letter_or m u o)
letter-pos m u None =
    either (if m.unicode then is_syntax u || nat_eq u 45 else not (m.named && nat_eq u 107)) (Some (Character u, 2)) None (omega arith) tt
letter-pos m u (Some c) = omega arith

by-letter-pos : (m : Mode) (xs : List ℕ) (u : ℕ) → Pos (by_letter m xs u)
by-letter-pos m xs u =
    either (nat_eq u 120) (or_letter m 120 (with_len 2 (two_digits (drop 2 xs))))
    (if nat_eq u 117 then or_letter m 117 (character_escape m.unicode (drop 2 xs)) else letter_or m u (letter u))
    (or-pos m 120 (with_len 2 (two_digits (drop 2 xs))))
    (either (nat_eq u 117) (or_letter m 117 (character_escape m.unicode (drop 2 xs))) (letter_or m u (letter u))
    (or-pos m 117 (character_escape m.unicode (drop 2 xs))) (letter-pos m u (letter u)))

escape-of-pos : (m : Mode) (xs : List ℕ) (u : ℕ) → Pos (escape_of m xs u)
escape-of-pos m xs u =
    either (is_class_letter u) (Some (Class, 2))
    (if is_property m u then properties.property m xs else if nat_eq u 99 then control_of m (slice_get xs 2)
    else if is_octal u then octal m xs else by_letter m xs u) (omega arith)
    (either (is_property m u) (properties.property m xs)
    (if nat_eq u 99 then control_of m (slice_get xs 2) else if is_octal u then octal m xs else by_letter m xs u) (property-pos m xs)
    (either (nat_eq u 99) (control_of m (slice_get xs 2)) (if is_octal u then octal m xs else by_letter m xs u) (control-pos m (slice_get xs 2))
    (either (is_octal u) (octal m xs) (by_letter m xs u) (octal-pos m xs) (by-letter-pos m xs u))))

escape-pos : (m : Mode) (xs : List ℕ) (o : Option ℕ) → Pos (escape_at m xs o)
escape-pos m xs None = tt
escape-pos m xs (Some u) = escape-of-pos m xs u

in-pos : (m : Mode) (xs : List ℕ) (o : Option ℕ) → Pos (escape_in m xs o)
in-pos m xs None = tt
in-pos m xs (Some u) =
    either (nat_eq u 98) (Some (Character 8, 2)) (if is_reserved u then Some (Character u, 2) else escape m xs) (omega arith)
    (either (is_reserved u) (Some (Character u, 2)) (escape m xs) (omega arith) (escape-pos m xs (slice_get xs 1)))

sign-pos : (xs : List ℕ) (o : Option ℕ) → Pos (sign xs o)
sign-pos xs None = tt
sign-pos xs (Some u) = either (is_class_syntax u || is_double u && is_at xs 1 u) None (Some (Character u, 1)) tt (omega arith)

element-pos : (m : Mode) (xs : List ℕ) → Pos (element m xs)
element-pos m xs =
    either (is_at xs 0 92) (escape_in m xs (slice_get xs 1)) (sign xs (slice_get xs 0)) (in-pos m xs (slice_get xs 1)) (sign-pos xs (slice_get xs 0))

meaning-pos : (o : Option (Bool × ℕ)) → Pos (as_meaning o)
meaning-pos None = tt
meaning-pos (Some r) = omega arith

atom-pos : (m : Mode) (xs : List ℕ) → Pos (atom m xs)
atom-pos m xs =
    either (is_at xs 0 92 && (is_at xs 1 113 && is_at xs 2 123)) (as_meaning (strings_from m 0 false 0 (drop 3 xs))) (element m xs)
    (meaning-pos (strings_from m 0 false 0 (drop 3 xs))) (element-pos m xs)

pub atom-some : (m : Mode) (xs : List ℕ) (v : Meaning) (n : ℕ) → atom m xs ≡ Some (v, n) → 0 < n
atom-some m xs v n is = subst Pos is (atom-pos m xs)

-- and so does a part of a class

abbrev PosSet : Option (Set × ℕ) → Type 0
PosSet o = IfSome o (λ r. 0 < r.1)

either-set : (b : Bool) (x y : Option (Set × ℕ)) → PosSet x → PosSet y → PosSet (if b then x else y)
either-set true x y p q = p
either-set false x y p q = q

two-pos : (o : Option Set) → PosSet (with_two o)
two-pos None = tt
two-pos (Some s) = omega arith

high-pos : (s : Set) (v : Meaning) (n : ℕ) (o : Option (Meaning × ℕ)) → PosSet (to_high s v n o)
high-pos s v n None = tt
high-pos s v n (Some r) = either-set (are_in_order v r.0) (Some (s, n + 1 + r.1)) None (omega arith) tt

range-pos : (m : Mode) (xs : List ℕ) (v : Meaning) (n : ℕ) (o : Option Set) → PosSet (as_range m xs v n o)
range-pos m xs v n None = tt
range-pos m xs v n (Some s) = high-pos s v n (atom m (drop (n + 1) xs))

taken-pos : (m : Mode) (xs : List ℕ) (v : Meaning) (n : ℕ) (o : Option Set) → 0 < n → PosSet (as_operand m xs v n o)
taken-pos m xs v n None some = tt
taken-pos m xs v n (Some s) some =
    either-set (goes_on xs n) (as_range m xs v n (ranges_by s.operator s)) (Some (s, n)) (range-pos m xs v n (ranges_by s.operator s)) some

operand-pos : (m : Mode) (s : Set) (xs : List ℕ) (o : Option (Meaning × ℕ)) → Pos o → PosSet (operand_of m s xs o)
operand-pos m s xs None p = tt
operand-pos m s xs (Some r) p = taken-pos m xs r.0 r.1 (takes s (is_strings r.0)) p

part-pos : (m : Mode) (s : Set) (xs : List ℕ) → PosSet (part m s xs)
part-pos m s xs =
    either-set (is_at xs 0 38 && is_at xs 1 38) (if is_at xs 2 38 then None else with_two (operates s Intersection))
    (if is_at xs 0 45 && is_at xs 1 45 then with_two (operates s Subtraction) else operand_of m s xs (atom m xs))
    (either-set (is_at xs 2 38) None (with_two (operates s Intersection)) tt (two-pos (operates s Intersection)))
    (either-set (is_at xs 0 45 && is_at xs 1 45) (with_two (operates s Subtraction)) (operand_of m s xs (atom m xs))
    (two-pos (operates s Subtraction)) (operand-pos m s xs (atom m xs) (atom-pos m xs)))

pub part-some : (m : Mode) (s t : Set) (xs : List ℕ) (n : ℕ) → part m s xs ≡ Some (t, n) → 0 < n
part-some m s t xs n is = subst PosSet is (part-pos m s xs)

-- with what units no atom begins
pub not-close : (m : Mode) (x : ℕ) (xs : List ℕ) → x ≡ 93 → atom m (x ∷ xs) ≡ None
not-close m x xs is = ap (λ y. atom m (y ∷ xs)) is

pub not-open : (m : Mode) (x : ℕ) (xs : List ℕ) → x ≡ 91 → atom m (x ∷ xs) ≡ None
not-open m x xs is = ap (λ y. atom m (y ∷ xs)) is

pub not-minus : (m : Mode) (x : ℕ) (xs : List ℕ) → x ≡ 45 → atom m (x ∷ xs) ≡ None
not-minus m x xs is = ap (λ y. atom m (y ∷ xs)) is

pub not-and : (m : Mode) (x y : ℕ) (xs : List ℕ) → x ≡ 38 → y ≡ 38 → atom m (x ∷ y ∷ xs) ≡ None
not-and m x y xs is as' = ap (λ z. atom m (z ∷ y ∷ xs)) is ∙ ap (λ z. atom m (38 ∷ z ∷ xs)) as'
