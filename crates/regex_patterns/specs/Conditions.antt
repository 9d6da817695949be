-- What a pattern must meet beside the grammar (ECMA-262, 22.2.1.1): numbers and names of references are those of groups,
-- and no two groups have one name but in different alternatives.
use Rattle.std.specs.Prelude.{ℕ, suc, ◌+◌, Bool, true, false, not, ◌&&◌, if◌then◌else◌, nat_le, List, [], ◌∷◌, ◌++◌, Option, Some, None, drop}
use Rattle.std.specs.List.{list_all, list_any}
use Rattle.std.specs.Str.{bytes_eq}
use Rattle.regex_patterns.specs.declared.piece.Group.TheVariants.{Capture, Named, Plain, Lookahead, Lookbehind}
use Rattle.regex_patterns.specs.declared.piece.Piece.{Piece}
use Rattle.regex_patterns.specs.declared.piece.Piece.TheVariants.{Open, Close, Bar, Assertion, Quantifier, Atom, Number, Name}
use Rattle.regex_patterns.specs.declared.piece.Placed.{Placed}
use Rattle.regex_patterns.specs.declared.names.Frame.{Frame}
use Rattle.regex_patterns.specs.Names.{name}
use Rattle.regex_patterns.specs.Grammar.{Tree, nothing, also, either, leaf, group, repeated}

abbrev pub captures : Piece → Bool
captures (Open Capture) = true
captures (Open Named) = true
captures (Open Plain) = false
captures (Open Lookahead) = false
captures (Open Lookbehind) = false
captures Close = false
captures Bar = false
captures Assertion = false
captures Quantifier = false
captures Atom = false
captures (Number n) = false
captures Name = false

abbrev pub is_named : Piece → Bool
is_named (Open Capture) = false
is_named (Open Named) = true
is_named (Open Plain) = false
is_named (Open Lookahead) = false
is_named (Open Lookbehind) = false
is_named Close = false
is_named Bar = false
is_named Assertion = false
is_named Quantifier = false
is_named Atom = false
is_named (Number n) = false
is_named Name = false

-- how many groups capture
unfoldable pub count : List Placed → ℕ
count [] = 0
count (x ∷ xs) = (if captures x.piece then 1 else 0) + count xs

abbrev pub has_names : List Placed → Bool
has_names ps = list_any (λ x. is_named x.piece) ps

-- a reference by number is to one of so many groups
abbrev pub fits : ℕ → Piece → Bool
fits groups (Open g) = true
fits groups Close = true
fits groups Bar = true
fits groups Assertion = true
fits groups Quantifier = true
fits groups Atom = true
fits groups (Number n) = nat_le n groups
fits groups Name = true

abbrev pub numbers_fit : List Placed → Bool
numbers_fit ps = list_all (λ x. fits (count ps) x.piece) ps

-- the name that a group or a reference has, which begins there, among the units of a pattern
abbrev pub name_at : List ℕ → ℕ → List ℕ
name_at units at = name (drop (at + 3) units)

-- the names of groups
unfoldable pub group_names : List ℕ → List Placed → List (List ℕ)
group_names units [] = []
group_names units (x ∷ xs) =
    if is_named x.piece then name_at units x.at ∷ group_names units xs else group_names units xs

abbrev pub contains : List (List ℕ) → List ℕ → Bool
contains ns n = list_any (bytes_eq n) ns

abbrev pub is_reference : Piece → Bool
is_reference (Open g) = false
is_reference Close = false
is_reference Bar = false
is_reference Assertion = false
is_reference Quantifier = false
is_reference Atom = false
is_reference (Number n) = false
is_reference Name = true

-- each reference by name is to one of these names
abbrev pub are_known : List ℕ → List (List ℕ) → List Placed → Bool
are_known units ns ps = list_all (λ x. if is_reference x.piece then contains ns (name_at units x.at) else true) ps

-- the names of groups in a tree
abbrev pub own_name : List ℕ → Placed → List (List ℕ)
own_name units x = if is_named x.piece then name_at units x.at ∷ [] else []

unfoldable pub names : List ℕ → Tree → List (List ℕ)
names units nothing = []
names units (also t u) = names units t ++ names units u
names units (either t u) = names units t ++ names units u
names units (leaf x) = []
names units (group x t) = own_name units x ++ names units t
names units (repeated t) = names units t

abbrev pub share_none : List (List ℕ) → List (List ℕ) → Bool
share_none ns os = list_all (λ n. not (contains os n)) ns

-- no two groups that may both take part in a match have one name
unfoldable pub are_distinct : List ℕ → Tree → Bool
are_distinct units nothing = true
are_distinct units (also t u) =
    are_distinct units t && are_distinct units u && share_none (names units u) (names units t)
are_distinct units (either t u) = are_distinct units t && are_distinct units u
are_distinct units (leaf x) = true
are_distinct units (group x t) = are_distinct units t && share_none (names units t) (own_name units x)
are_distinct units (repeated t) = are_distinct units t

-- The same by one walk over the pieces. Of each name it is known which piece had it last, by its number; of each group that is open with
-- which piece it began, and with which its alternative: the last group of a name excludes another one if the innermost group
-- around both is still in that alternative.
abbrev pub is_within : List Frame → ℕ → Bool
is_within [] p = false
is_within (f ∷ fs) p = if nat_le f.began p then nat_le f.alternative p else is_within fs p

abbrev pub excludes : List Frame → Option ℕ → Bool
excludes fs None = false
excludes fs (Some p) = is_within fs p

abbrev pub put : (List ℕ → Option ℕ) → List ℕ → ℕ → List ℕ → Option ℕ
put last n i q = if bytes_eq q n then Some i else last q

abbrev pub frame : ℕ → Frame
frame i = record { began = i; alternative = i }

abbrev pub next_alternative : ℕ → List Frame → List Frame
next_alternative i [] = []
next_alternative i (f ∷ fs) = record { began = f.began; alternative = i } ∷ fs

abbrev pub tail : List Frame → List Frame
tail [] = []
tail (f ∷ fs) = fs

-- the frames after a piece, the number of which is before i
abbrev pub frames_after : ℕ → Piece → List Frame → List Frame
frames_after i (Open g) fs = frame i ∷ fs
frames_after i Close fs = tail fs
frames_after i Bar fs = next_alternative i fs
frames_after i Assertion fs = fs
frames_after i Quantifier fs = fs
frames_after i Atom fs = fs
frames_after i (Number n) fs = fs
frames_after i Name fs = fs

unfoldable pub apart_from : List ℕ → List Frame → (List ℕ → Option ℕ) → ℕ → List Placed → Bool
apart_from units fs last i [] = true
apart_from units fs last i (x ∷ xs) =
    if is_named x.piece
    then (if excludes fs (last (name_at units x.at)) then false
    else apart_from units (frames_after (suc i) x.piece fs) (put last (name_at units x.at) i) (suc i) xs)
    else apart_from units (frames_after (suc i) x.piece fs) last (suc i) xs

abbrev pub are_apart : List ℕ → List Placed → Bool
are_apart units ps = apart_from units (frame 0 ∷ []) (λ q. None) 0 ps
