-- Properties of Unicode by their names (ECMA-262, 22.2.1, tables 65 to 68).
use Rattle.std.specs.Prelude.{ℕ, suc, ◌+◌, Bool, true, false, not, ◌&&◌, ◌||◌, if◌then◌else◌, nat_eq, List, [], ◌∷◌, length, take, drop, Option, Some, None}
use Rattle.swc_lexical.specs.Runs.{is_at}
use Rattle.regex_patterns.specs.declared.properties.TheConstants.{BINARY, OF_STRINGS, CATEGORIES, SCRIPTS, CATEGORY_NAMES, SCRIPT_NAMES}
use Rattle.regex_patterns.specs.declared.escape.Meaning.{Meaning}
use Rattle.regex_patterns.specs.declared.escape.Meaning.TheVariants.{Class, Strings}
use Rattle.regex_patterns.specs.declared.mode.Mode.{Mode}
use Rattle.regex_patterns.specs.Signs.{while_len}
use Rattle.regex_patterns.specs.Signs as signs
use Rattle.regex_patterns.specs.declared.signs.Run.TheVariants.{Word}

-- How many units of a word are found of one of a list, of which these bytes are left; None where it is another word.
abbrev pub and_byte : List ℕ → Option ℕ → ℕ → Option ℕ
and_byte word None b = None
and_byte word (Some n) b = if is_at word n b then Some (suc n) else None

abbrev pub is_whole : List ℕ → Option ℕ → Bool
is_whole word None = false
is_whole word (Some n) = nat_eq n (length word)

unfoldable pub has_from : List ℕ → Option ℕ → List ℕ → Bool
has_from word found [] = is_whole word found
has_from word found (b ∷ bs) =
    if nat_eq b 32 then (if is_whole word found then true else has_from word (Some 0) bs)
    else has_from word (and_byte word found b) bs

-- whether a word is one of a list, with a blank between each two
abbrev pub has : List ℕ → List ℕ → Bool
has list word = has_from word (Some 0) list

-- a property that has values, and its value
abbrev pub has_value : List ℕ → List ℕ → Bool
has_value name value = has CATEGORY_NAMES.now name && has CATEGORIES.now value || has SCRIPT_NAMES.now name && has SCRIPTS.now value

-- a property by itself: of strings with the flag `v` alone, and not with `\P`
abbrev pub lone : Mode → Bool → List ℕ → Option Meaning
lone m is_negated name =
    if has CATEGORIES.now name || has BINARY.now name then Some Class
    else if m.sets && not is_negated && has OF_STRINGS.now name then Some Strings else None

abbrev pub with_len : ℕ → Option Meaning → Option (Meaning × ℕ)
with_len n None = None
with_len n (Some x) = Some (x, n)

-- of so many units of a name, and of so many of a value
abbrev pub of_value : List ℕ → ℕ → ℕ → Option (Meaning × ℕ)
of_value xs a b =
    if is_at xs (4 + a + b) 125 && has_value (take a (drop 3 xs)) (take b (drop (4 + a) xs)) then Some (Class, 5 + a + b)
    else None

abbrev pub of_name : Mode → List ℕ → ℕ → Option (Meaning × ℕ)
of_name m xs a =
    if is_at xs (3 + a) 61 then of_value xs a (while_len (signs.has Word) (drop (4 + a) xs))
    else if is_at xs (3 + a) 125 then with_len (4 + a) (lone m (is_at xs 1 80) (take a (drop 3 xs))) else None

-- `\p{..}` or `\P{..}`
abbrev pub property : Mode → List ℕ → Option (Meaning × ℕ)
property m xs = if is_at xs 2 123 then of_name m xs (while_len (signs.has Word) (drop 3 xs)) else None
