-- The pieces that a pattern is made of (ECMA-262, 22.2.1 and B.1.2).
use Rattle.std.specs.Prelude.{ℕ, zero, suc, ◌+◌, ◌-◌, Bool, not, ◌&&◌, ◌||◌, if◌then◌else◌, nat_eq, nat_le, nat_lt, List, [], ◌∷◌, Option, Some, None, slice_get, take, drop}
use Rattle.swc_lexical.specs.Runs.{is_at}
use Rattle.regex_patterns.specs.declared.escape.Meaning.{Meaning}
use Rattle.regex_patterns.specs.declared.mode.Mode.{Mode}
use Rattle.regex_patterns.specs.declared.piece.Group.TheVariants.{Capture, Named, Plain, Lookahead, Lookbehind}
use Rattle.regex_patterns.specs.declared.piece.Piece.{Piece}
use Rattle.regex_patterns.specs.declared.piece.Piece.TheVariants.{Open, Close, Bar, Assertion, Quantifier, Atom, Number, Name}
use Rattle.regex_patterns.specs.declared.piece.Placed.{Placed}
use Rattle.regex_patterns.specs.Signs.{while_len, has, number_from, times}
use Rattle.regex_patterns.specs.declared.signs.Run.TheVariants.{Digits, Flags}
use Rattle.regex_patterns.specs.Escapes.{escape}
use Rattle.regex_patterns.specs.Names.{name_len}
use Rattle.regex_patterns.specs.Classes.{longer_by, old_class}
use Rattle.regex_patterns.specs.Sets.{set_class}
use Rattle.regex_patterns.specs.Quantifiers.{braces, lazy}

abbrev pub as_piece : Piece → Option ℕ → Option (Piece × ℕ)
as_piece p None = None
as_piece p (Some n) = Some (p, n)

-- after `(?`: flags, a `-` and flags, or flags alone, and the `:`; each of i, m and s once at most, and one at least
-- where `-` is there
abbrev pub once : List ℕ → List ℕ → Bool
once fs gs =
    nat_le (times 105 fs + times 105 gs) 1 && nat_le (times 109 fs + times 109 gs) 1
    && nat_le (times 115 fs + times 115 gs) 1

abbrev pub without : List ℕ → ℕ → ℕ → Option ℕ
without xs a b =
    if is_at xs (1 + a + b) 58 && nat_lt 0 (a + b) && once (take a (drop 0 xs)) (take b (drop (1 + a) xs))
    then Some (2 + a + b) else None

abbrev pub modifiers_of : List ℕ → ℕ → Option ℕ
modifiers_of xs a =
    if is_at xs a 58 then (if once (take a (drop 0 xs)) [] then Some (1 + a) else None)
    else if is_at xs a 45 then without xs a (while_len (has Flags) (drop (1 + a) xs)) else None

abbrev pub modifiers : List ℕ → Option ℕ
modifiers xs = modifiers_of xs (while_len (has Flags) xs)

-- what begins a group, from its `(` on
abbrev pub opener : List ℕ → Option (Piece × ℕ)
opener xs =
    if not (is_at xs 1 63) then Some (Open Capture, 1)
    else if is_at xs 2 61 || is_at xs 2 33 then Some (Open Lookahead, 3)
    else if is_at xs 2 60
    then (if is_at xs 3 61 || is_at xs 3 33 then Some (Open Lookbehind, 4) else as_piece (Open Named) (longer_by 3 (name_len (drop 3 xs))))
    else as_piece (Open Plain) (longer_by 2 (modifiers (drop 2 xs)))

abbrev pub class : Mode → List ℕ → Option ℕ
class m xs = if m.sets then set_class m xs else old_class m xs

-- `{`: a quantifier, or of old scripts a character
abbrev pub quantifier : Mode → List ℕ → Option (Bool × ℕ) → Option (Piece × ℕ)
quantifier m xs None = if m.unicode then None else Some (Atom, 1)
quantifier m xs (Some r) = if r.0 then Some (Quantifier, lazy xs r.1) else None

abbrev pub as_atom : Option (Meaning × ℕ) → Option (Piece × ℕ)
as_atom None = None
as_atom (Some r) = Some (Atom, r.1)

-- a reference by its number; of old scripts these digits may be those of a character
abbrev pub reference : List ℕ → Option (Piece × ℕ)
reference xs = Some (Number (number_from 0 (drop 1 xs)), 1 + while_len (has Digits) (drop 1 xs))

abbrev pub is_number : ℕ → Bool
is_number u = nat_le 49 u && nat_le u 57

abbrev pub name_reference : List ℕ → Option (Piece × ℕ)
name_reference xs = if is_at xs 2 60 then as_piece Name (longer_by 3 (name_len (drop 3 xs))) else None

-- what begins with a backslash
abbrev pub escaped_of : Mode → List ℕ → ℕ → Option (Piece × ℕ)
escaped_of m xs u =
    if is_number u then reference xs
    else if m.named && nat_eq u 107 then name_reference xs
    else if nat_eq u 98 || nat_eq u 66 then Some (Assertion, 2)
    else if m.unicode && nat_eq u 45 then None
    else as_atom (escape m xs)

abbrev pub escaped : Mode → List ℕ → Option ℕ → Option (Piece × ℕ)
escaped m xs None = None
escaped m xs (Some u) = escaped_of m xs u

abbrev pub piece_of : Mode → List ℕ → ℕ → Option (Piece × ℕ)
piece_of m xs u =
    if nat_eq u 40 then opener xs
    else if nat_eq u 41 then Some (Close, 1)
    else if nat_eq u 124 then Some (Bar, 1)
    else if nat_eq u 94 || nat_eq u 36 then Some (Assertion, 1)
    else if nat_eq u 42 || nat_eq u 43 || nat_eq u 63 then Some (Quantifier, lazy xs 1)
    else if nat_eq u 123 then quantifier m xs (braces xs)
    else if nat_eq u 91 then as_piece Atom (class m xs)
    else if nat_eq u 92 then escaped m xs (slice_get xs 1)
    else if m.unicode && (nat_eq u 93 || nat_eq u 125) then None
    else Some (Atom, 1)

-- the piece that is here, and how many units it takes; None where none begins here
abbrev pub piece_at : Mode → List ℕ → Option ℕ → Option (Piece × ℕ)
piece_at m xs None = None
piece_at m xs (Some u) = piece_of m xs u

abbrev pub piece : Mode → List ℕ → Option (Piece × ℕ)
piece m xs = piece_at m xs (slice_get xs 0)

-- All pieces of a pattern, with their places; None where a unit begins none. Of the units the first has this place, and k
-- are those of a piece that is known.
abbrev pub and_rest : Piece → ℕ → Option (List Placed) → Option (List Placed)
and_rest p at None = None
and_rest p at (Some ps) = Some (record { piece = p; at = at } ∷ ps)

abbrev pub after_piece : ℕ → Option (Piece × ℕ) → (ℕ → Option (List Placed)) → Option (List Placed)
after_piece at None f = None
after_piece at (Some r) f = and_rest r.0 at (f (r.1 - 1))

unfoldable pub pieces_from : Mode → ℕ → ℕ → List ℕ → Option (List Placed)
pieces_from m k at [] = Some []
pieces_from m (suc k) at (x ∷ xs) = pieces_from m k (suc at) xs
pieces_from m zero at (x ∷ xs) = after_piece at (piece m (x ∷ xs)) (λ k. pieces_from m k (suc at) xs)

abbrev pub pieces : Mode → List ℕ → Option (List Placed)
pieces m xs = pieces_from m 0 0 xs
