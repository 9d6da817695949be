-- Single units, and runs of them.
use Rattle.std.specs.Prelude.{ℕ, suc, ◌+◌, ◌-◌, ◌*◌, Bool, true, false, ◌&&◌, ◌||◌, if◌then◌else◌, nat_eq, nat_le, nat_lt, List, [], ◌∷◌, length}
use Rattle.regex_patterns.specs.declared.signs.Run.{Run}
use Rattle.regex_patterns.specs.declared.signs.Run.TheVariants.{Digits, HexDigits, Flags, Word}

abbrev pub is_digit : ℕ → Bool
is_digit u = nat_le 48 u && nat_le u 57

abbrev pub is_letter : ℕ → Bool
is_letter u = nat_le 97 u && nat_le u 122 || nat_le 65 u && nat_le u 90

abbrev pub is_hex_digit : ℕ → Bool
is_hex_digit u = is_digit u || nat_le 97 u && nat_le u 102 || nat_le 65 u && nat_le u 70

-- a letter, a digit or `_`
abbrev pub is_word : ℕ → Bool
is_word u = is_letter u || is_digit u || nat_eq u 95

-- the flags that a group can change: i, m, s
abbrev pub is_flag : ℕ → Bool
is_flag u = nat_eq u 105 || nat_eq u 109 || nat_eq u 115

abbrev pub has : Run → ℕ → Bool
has Digits u = is_digit u
has HexDigits u = is_hex_digit u
has Flags u = is_flag u
has Word u = is_word u

-- how many units come first of which each passes the test
unfoldable pub while_len : (ℕ → Bool) → List ℕ → ℕ
while_len p [] = 0
while_len p (x ∷ xs) = if p x then suc (while_len p xs) else 0

-- The number that the digits write with which a list begins. One of 2^59 and more, with a digit after it, is 2^63: no
-- pattern has as many groups.
abbrev pub and_digit : ℕ → ℕ → ℕ
and_digit n u = if nat_lt n 0x800_0000_0000_0000 then 10 * n + (u - 48) else 0x8000_0000_0000_0000

unfoldable pub number_from : ℕ → List ℕ → ℕ
number_from n [] = n
number_from n (x ∷ xs) = if is_digit x then number_from (and_digit n x) xs else n

-- digits without zeros at their front
unfoldable pub without_zeros : List ℕ → List ℕ
without_zeros [] = []
without_zeros (x ∷ xs) = if nat_eq x 48 then without_zeros xs else x ∷ xs

-- of two numbers with as many digits: the first isn't above the second
unfoldable pub is_up_to : List ℕ → List ℕ → Bool
is_up_to [] ys = true
is_up_to (x ∷ xs) [] = false
is_up_to (x ∷ xs) (y ∷ ys) = if nat_eq x y then is_up_to xs ys else nat_lt x y

abbrev pub by_length : List ℕ → List ℕ → Bool
by_length xs ys = if nat_eq (length xs) (length ys) then is_up_to xs ys else nat_lt (length xs) (length ys)

-- the number that the first digits write isn't above that of the second
abbrev pub in_order : List ℕ → List ℕ → Bool
in_order xs ys = by_length (without_zeros xs) (without_zeros ys)

-- how often a unit is there
unfoldable pub times : ℕ → List ℕ → ℕ
times u [] = 0
times u (x ∷ xs) = (if nat_eq x u then 1 else 0) + times u xs
