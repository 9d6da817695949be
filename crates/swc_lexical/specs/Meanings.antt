-- What the texts of strings and templates mean, and how templates' are written (ECMA-262, 12.9.4.2 and 12.9.6.1), in
-- UTF-8. A half of a pair by which UTF-16 writes a character, without the other half, is U+FFFD.
use Rattle.std.specs.Prelude.{◌≡◌, ◌≤◌, ℕ, suc, zero, ◌+◌, ◌*◌, ◌-◌, ◌<◌, Bool, ◌&&◌, if◌then◌else◌, nat_lt, nat_le, length, List, [], ◌∷◌, ◌++◌, Option, Some, None, drop, IfSome, encode_utf8}
use Rattle.swc_lexical.specs.{declared.escape.Meaning.Meaning, declared.escape.Meaning.TheVariants.Code, declared.escape.Meaning.TheVariants.Nothing, Runs.is_at, Chars.first_char, Chars.terminator_len, Escapes.string_escape, Names.scalar}

abbrev pub is_high : ℕ → Bool
is_high n = nat_le 0xD800 n && nat_lt n 0xDC00

abbrev pub is_low : ℕ → Bool
is_low n = nat_le 0xDC00 n && nat_lt n 0xE000

-- the first half that no second half follows
abbrev pub lost : Option ℕ → ℕ → Option ℕ
lost None c = None
lost (Some h) c = if is_low c then None else Some 0xFFFD

-- the character of a pair, or of a second half alone
abbrev pub pair : Option ℕ → ℕ → Option ℕ
pair None c = Some 0xFFFD
pair (Some h) c = scalar (h * 1024 + c - 56613888)

-- the character of a code after a half or none; a first half is none
abbrev pub char_of : Option ℕ → ℕ → Option ℕ
char_of half c = if is_low c then pair half c else scalar c

abbrev pub half_of : ℕ → Option ℕ
half_of c = if is_high c then Some c else None

abbrev pub text_of : Option ℕ → List ℕ
text_of None = []
text_of (Some c) = encode_utf8 c

-- what is written of a meaning after a half or none, and the half that is left
abbrev pub given : Option ℕ → Meaning → List ℕ
given half Nothing = []
given half (Code c) = text_of (lost half c) ++ text_of (char_of half c)

abbrev pub left : Option ℕ → Meaning → Option ℕ
left half Nothing = half
left half (Code c) = half_of c

-- what stands for a half at the end
abbrev pub lone : Option ℕ → Option ℕ
lone None = None
lone (Some h) = Some 0xFFFD

-- what the bytes begin with, and how many bytes it takes; an escape where `cooks`
abbrev pub piece_of : Option (Meaning × ℕ) → Meaning × ℕ
piece_of None = (Nothing, 1)
piece_of (Some r) = r

abbrev pub char_piece : Option (ℕ × ℕ) → Meaning × ℕ
char_piece None = (Nothing, 1)
char_piece (Some r) = (Code r.0, r.1)

abbrev pub piece : Bool → List ℕ → Meaning × ℕ
piece cooks bs =
    if cooks && is_at bs 0 92
    then piece_of (string_escape bs)
    else if is_at bs 0 13
    then (Code 10, terminator_len bs)
    else char_piece (first_char bs)

-- What a text means, of whose piece before k bytes are left, and after a half or none.
unfoldable pub meaning_from : Bool → ℕ → Option ℕ → List ℕ → List ℕ
meaning_from cooks k half [] = text_of (lone half)
meaning_from cooks (suc k) half (b ∷ bs) = meaning_from cooks k half bs
meaning_from cooks zero half (b ∷ bs) =
    given half (piece cooks (b ∷ bs)).0 ++ meaning_from cooks ((piece cooks (b ∷ bs)).1 - 1)
    (left half (piece cooks (b ∷ bs)).0) bs

-- what a text means, in which a CR, with an LF after it or not, is an LF; and where it isn't cooked, how it is written
abbrev pub meaning : Bool → List ℕ → List ℕ
meaning cooks bs = meaning_from cooks 0 None bs

-- the place is between two pieces, the text before it means what is given, and a half is left
pub record MeansTo (cooks : Bool) (bs : List ℕ) (at : ℕ) (half : Option ℕ) (value : List ℕ) : Type 0 where
  pub within : at ≤ length bs
  pub small : IfSome half (λ h. h < 0xE000)
  pub sum : value ++ meaning_from cooks 0 half (drop at bs) ≡ meaning cooks bs
