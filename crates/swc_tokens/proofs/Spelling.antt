-- Tokens that have no text of their own: signs, and what ends a text of a template.
use Rattle.std.proofs.Common.{◌≡◌, ℕ, suc, ◌+◌, ◌-◌, ◌<◌, List, [], ◌∷◌, length, codes, Bool, false, Option, Some, None, IfSome, IsFalse, take, drop, drop-cons, get_or, slice_get, slice_range, add-one, ap, sym, refl, ◌∙◌, arith}
use Rattle.std.specs.{List.slice_index, Prelude.◌==◌, Cmp.Lexicographic.unequal}
use Rattle.swc_context.specs.{Texts.is_text, Words.word_of}
use Rattle.swc_context.specs.declared.word.Word.TheVariants as word
use Rattle.swc_context.proofs.Words.{none_1}
use Rattle.std.proofs.lemmas.Option.{get_or_from_slice_get, slice_get-get_or, slice_get_within}
use Rattle.swc_input.specs.declared.token.Token.{Token}
use Rattle.swc_tokens.specs.{declared.found.Sign.Sign, Found.sign_token, Signs.has_text, Signs.sign_text, Blanks.StandAt, Profile.has, Profile.lexeme}
use Rattle.swc_tokens.specs.Spelling.{IsLexeme, IsName, IsTextBetween, Spells}
use Rattle.swc_lexical.specs.{PlainNames.name_len, Templates.text_len, declared.lexeme.Kind.Kind}
use Rattle.swc_lexical.proofs.Runs.{rest_at, rest_at-drop}
use Rattle.swc_input.specs.declared.token.Token.TheVariants as token

-- no keyword has one byte
pub word_of_one : (w : List ℕ) → length w ≡ 1 → word.Ident w ≡ word_of w
word_of_one w is =
    let null : is_text w (codes "null") ≡ false = unequal ◌==◌ w (codes "null") (λ e. absurd (omega (arith, is, e))) in
    let yes : is_text w (codes "true") ≡ false = unequal ◌==◌ w (codes "true") (λ e. absurd (omega (arith, is, e))) in
    let no : is_text w (codes "false") ≡ false = unequal ◌==◌ w (codes "false") (λ e. absurd (omega (arith, is, e))) in
    rw (null, yes, no, ← none_1 w is) refl

pub Spells_sign : (text : List ℕ) (low high : ℕ) (t : Token) → IsFalse (has_text t)
    → sign_text t ≡ slice_range text low high → Spells text low high t
unfolding Spells has_text
Spells_sign text low high (token.Word word) none same = absurd (cc)
Spells_sign text low high (token.Str value raw) none same = absurd (cc)
Spells_sign text low high (token.Num raw) none same = absurd (cc)
Spells_sign text low high (token.BigInt raw) none same = absurd (cc)
Spells_sign text low high (token.Template raw cooked) none same = absurd (cc)
Spells_sign text low high (token.Regex body flags) none same = absurd (cc)
Spells_sign text low high _ none same = same

-- the name that begins where the reader is, as code cuts the text
pub IsName_here : (text : List ℕ) (low len : ℕ) → len ≡ name_len (rest_at text low) → IsName text low (low + len)
IsName_here text low len is =
    let back : low + len - low ≡ len = omega arith in
    rw back (sym (is ∙ ap name_len (rest_at-drop text low)))

-- the lexeme that begins where the reader is, as code cuts the text
pub IsLexeme_here : (text : List ℕ) (wants : Bool) (low : ℕ) (found : Kind × ℕ)
    → lexeme wants (rest_at text low) ≡ Some found → IsLexeme found.0 text low (low + found.1)
IsLexeme_here text wants low found is =
    let back : low + found.1 - low ≡ found.1 = omega arith in
    record { wants = wants; found = rw back (rw (rest_at-drop text low) at is) }

-- the text of a template, the same
pub IsTextBetween_here : (text : List ℕ) (low len : ℕ) → text_len (rest_at text low) ≡ Some len
    → has (take len (rest_at text low)) 13 ≡ false → IsTextBetween text low (low + len)
IsTextBetween_here text low len whole none =
    let back : low + len - low ≡ len = omega arith in
    record {
      whole = rw back (rw (rest_at-drop text low) at whole);
      no_return = rw back (rw (rest_at-drop text low) at none);
    }

one_byte : (text : List ℕ) (low b : ℕ) → slice_get text low ≡ Some b → slice_range text low (low + 1) ≡ b ∷ []
one_byte text low b there =
    let inside = slice_get_within text low b there in
    let back : (low + 1) - low ≡ 1 = omega arith in
    let here = get_or_from_slice_get text low b b there in
    ap (λ n. take n (drop low text)) back ∙ ap (take 1) (drop-cons text low b inside) ∙ ap (λ x. x ∷ []) here

two_bytes : (text : List ℕ) (low a b : ℕ) → slice_get text low ≡ Some a → slice_get text (low + 1) ≡ Some b
    → slice_range text low (low + 2) ≡ a ∷ b ∷ []
two_bytes text low a b first second =
    let inside = slice_get_within text low a first in
    let behind = slice_get_within text (low + 1) b second in
    let back : (low + 2) - low ≡ 2 = omega arith in
    let here = get_or_from_slice_get text low a a first in
    let there = get_or_from_slice_get text (low + 1) b b second in
    let rest : drop (suc low) text ≡ get_or text (low + 1) b ∷ drop (suc (low + 1)) text =
    rw (sym (add-one low)) (drop-cons text (low + 1) b behind) in
    ap (λ n. take n (drop low text)) back ∙ ap (take 2) (drop-cons text low a inside)
    ∙ ap (λ xs. get_or text low a ∷ take 1 xs) rest ∙ ap (λ x. x ∷ get_or text (low + 1) b ∷ []) here ∙ ap
    (λ x. a ∷ x ∷ []) there

-- a sign of one byte, if there is one
pub Spells_lone : (text : List ℕ) (low : ℕ) (sign : Option Sign) → low < length text
    → IfSome sign (λ s. IsFalse (has_text (sign_token s)))
    → IfSome sign (λ s. sign_text (sign_token s) ≡ slice_index text low ∷ [])
    → IfSome sign (λ s. Spells text low (low + 1) (sign_token s))
Spells_lone text low None inside none same = tt
Spells_lone text low (Some s) inside none same =
    let there = slice_get-get_or text low 0 inside in
    Spells_sign text low (low + 1) (sign_token s) none (same ∙ sym (one_byte text low (slice_index text low) there))

-- the backquote after a text, and `${`
pub Spells_backquote : (text : List ℕ) (low : ℕ) → slice_get text low ≡ Some 96
    → Spells text low (low + 1) token.BackQuote
unfolding Spells sign_text
Spells_backquote text low there = sym (one_byte text low 96 there)

pub Spells_substitution : (text : List ℕ) (low : ℕ) → StandAt text low 36 123
    → Spells text low (low + 2) token.DollarLBrace
unfolding Spells sign_text
Spells_substitution text low opens = sym (two_bytes text low 36 123 opens.first_there opens.second_there)
