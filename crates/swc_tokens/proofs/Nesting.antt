-- How templates nest, a token at a time.
use Rattle.std.proofs.Common.{◌≡◌, ℕ, ◌<◌, List, [], ◌∷◌, ◌++◌, length, length-append, IsTrue, IsFalse, refl, ap, subst, arith}
use Rattle.swc_input.specs.{declared.token.Token.Token, declared.token.TokenAndSpan.TokenAndSpan}
use Rattle.swc_tokens.specs.{declared.template.Next.Next, declared.template.Open.Open, declared.found.Part.Part, Spelling.EndsText, Spelling.Spells}
use Rattle.swc_tokens.specs.Nesting.{part_of, fits, behind_backquote, Turns, text, begins, ends, opens, closes, opens_brace, closes_brace, brace_outside, close_outside, other, Nests, and_token, AreNested}
use Rattle.swc_tokens.specs.{declared.found.Shape.Shape, Found.part_of_shape, Found.token_of}
use Rattle.swc_tokens.specs.Order.{is_error, is_free, is_text}
use Rattle.swc_input.specs.declared.token.Token.TheVariants as token
use Rattle.swc_tokens.specs.declared.template.Next.TheVariants as reads
use Rattle.swc_tokens.specs.declared.template.Open.TheVariants as opened
use Rattle.swc_tokens.specs.declared.found.Part.TheVariants as part
use Rattle.swc_tokens.specs.declared.found.Shape.TheVariants as shape
use Rattle.swc_tokens.specs.declared.found.Sign.TheVariants as sign

-- what a token that was found is to templates
pub part_made : (source : List ℕ) (low high : ℕ) (s : Shape) → part_of (token_of source low high s) ≡ part_of_shape s
unfolding token_of
part_made source low high shape.Word = refl
part_made source low high shape.Number = refl
part_made source low high shape.Big = refl
part_made source low high shape.String = refl
part_made source low high shape.Regexp = refl
part_made source low high shape.Text = refl
part_made source low high (shape.Sign sign.BackQuote) = refl
part_made source low high (shape.Sign sign.DollarLBrace) = refl
part_made source low high (shape.Sign sign.LBrace) = refl
part_made source low high (shape.Sign sign.RBrace) = refl
part_made source low high (shape.Sign _) = refl

pub no_error : (t : Token) → IsTrue (is_free t) → IsFalse (is_error t)
unfolding is_free is_error
no_error (token.Error _) free = cc
no_error _ free = refl

pub no_error_text : (t : Token) → IsTrue (is_text t) → IsFalse (is_error t)
unfolding is_text is_error
no_error_text (token.Error _) is = cc
no_error_text _ is = refl

pub fits_free : (t : Token) → IsTrue (is_free t) → IsTrue (fits reads.Token (part_of t))
unfolding is_free
fits_free (token.Template _ _) free = cc
fits_free token.DollarLBrace free = cc
fits_free _ free = refl

pub fits_text : (t : Token) → IsTrue (is_text t) → IsTrue (fits reads.Text (part_of t))
unfolding is_text
fits_text (token.Template _ _) is = refl
fits_text _ is = cc

part_of_text : (t : Token) → IsTrue (is_text t) → part_of t ≡ part.Text
unfolding is_text
part_of_text (token.Template _ _) is = refl
part_of_text _ is = cc

-- a text is followed by what ends it
text_ends : (source : List ℕ) (low high : ℕ) (t : Token) → Spells source low high t → IsTrue (is_text t)
    → EndsText source high
unfolding is_text Spells
text_ends source low high (token.Template _ _) spelled is = spelled.1.ends
text_ends source low high _ spelled is = absurd (cc)

behind_text_part : (before brackets : List Open) (here behind : Next) (p : Part) → Turns before here p brackets behind
    → p ≡ part.Text → behind ≡ reads.Delimiter
behind_text_part before brackets _ _ _ text is = refl
behind_text_part before brackets _ _ _ begins is = cc
behind_text_part before brackets _ _ _ ends is = cc
behind_text_part before brackets _ _ _ opens is = cc
behind_text_part before brackets _ _ _ (closes _) is = cc
behind_text_part before brackets _ _ _ (opens_brace _) is = cc
behind_text_part before brackets _ _ _ (closes_brace _) is = cc
behind_text_part before brackets _ _ _ brace_outside is = cc
behind_text_part before brackets _ _ _ close_outside is = cc
behind_text_part before brackets _ _ _ other is = cc

-- after a text a delimiter is read
pub delimiter_behind : (before brackets : List Open) (here behind : Next) (t : Token)
    → Turns before here (part_of t) brackets behind → IsTrue (is_text t) → behind ≡ reads.Delimiter
delimiter_behind before brackets here behind t turn is =
    behind_text_part before brackets here behind (part_of t) turn (part_of_text t is)

-- after what is no text no delimiter is read
text_before : (before brackets : List Open) (here behind : Next) (p : Part) → Turns before here p brackets behind
    → behind ≡ reads.Delimiter → p ≡ part.Text
text_before before brackets _ _ _ text is = refl
text_before before brackets _ _ _ begins is = cc
text_before before brackets _ _ _ ends is = cc
text_before before brackets _ _ _ opens is = cc
text_before before brackets _ _ _ (closes _) is = cc
text_before before brackets _ _ _ (opens_brace _) is = cc
text_before before brackets _ _ _ (closes_brace _) is = cc
text_before before brackets _ _ _ brace_outside is = cc
text_before before brackets _ _ _ close_outside is = cc
text_before before brackets _ _ _ other is = cc

is_text_part : (t : Token) → part_of t ≡ part.Text → IsTrue (is_text t)
unfolding is_text
is_text_part (token.Template _ _) is = refl
is_text_part _ is = cc

-- where a delimiter is read next, there is one
pub delimiter_there : (source : List ℕ) (before brackets : List Open) (here behind : Next) (low high : ℕ) (t : Token)
    → Turns before here (part_of t) brackets behind → Spells source low high t → behind ≡ reads.Delimiter
    → EndsText source high
delimiter_there source before brackets here behind low high t turn spelled is =
    text_ends source low high t spelled (is_text_part t (text_before before brackets here behind (part_of t) turn is))

pub Turns_text : (brackets : List Open) (here : Next) → IsTrue (fits here part.Text)
    → Turns brackets here part.Text brackets reads.Delimiter
Turns_text brackets reads.Text fit = text
Turns_text brackets reads.Token fit = absurd (cc)
Turns_text brackets reads.Delimiter fit = absurd (cc)

pub Turns_backquote : (brackets : List Open) (here : Next) → IsTrue (fits here part.Backquote)
    → Turns brackets here part.Backquote brackets (behind_backquote here)
Turns_backquote brackets reads.Token fit = begins
Turns_backquote brackets reads.Delimiter fit = ends
Turns_backquote brackets reads.Text fit = absurd (cc)

pub Turns_substitution : (brackets : List Open) (here : Next) → IsTrue (fits here part.Substitution)
    → Turns brackets here part.Substitution (brackets ++ opened.Substitution ∷ []) reads.Token
Turns_substitution brackets reads.Delimiter fit = opens
Turns_substitution brackets reads.Token fit = absurd (cc)
Turns_substitution brackets reads.Text fit = absurd (cc)

pub Turns_brace : (brackets : List Open) (here : Next) → IsTrue (fits here part.OpenBrace) → 0 < length brackets
    → Turns brackets here part.OpenBrace (brackets ++ opened.Brace ∷ []) reads.Token
Turns_brace brackets reads.Token fit some = opens_brace some
Turns_brace brackets reads.Delimiter fit some = absurd (cc)
Turns_brace brackets reads.Text fit some = absurd (cc)

pub Turns_brace_outside : (brackets : List Open) (here : Next) → IsTrue (fits here part.OpenBrace)
    → ¬ (0 < length brackets) → Turns brackets here part.OpenBrace brackets reads.Token
Turns_brace_outside [] reads.Token fit none = brace_outside
Turns_brace_outside (o ∷ os) reads.Token fit none = absurd (none (omega arith))
Turns_brace_outside brackets reads.Delimiter fit none = absurd (cc)
Turns_brace_outside brackets reads.Text fit none = absurd (cc)

pub Turns_other : (brackets : List Open) (here : Next) → IsTrue (fits here part.Other)
    → Turns brackets here part.Other brackets reads.Token
Turns_other brackets reads.Token fit = other
Turns_other brackets reads.Delimiter fit = absurd (cc)
Turns_other brackets reads.Text fit = absurd (cc)

-- where no bracket is open, a `}` closes none
pub Turns_close_outside : (before brackets : List Open) → before ≡ brackets ++ [] → length before ≡ 0
    → Turns before reads.Token part.CloseBrace brackets reads.Token
Turns_close_outside [] [] same none = close_outside
Turns_close_outside [] (o ∷ os) same none = absurd (let wrong = ap length same in
    omega (arith, length-append {A = Open}))
Turns_close_outside (b ∷ bs) brackets same none = absurd (omega arith)

pub Turns_close_substitution : (before brackets : List Open) → before ≡ brackets ++ opened.Substitution ∷ []
    → Turns before reads.Token part.CloseBrace brackets reads.Text
Turns_close_substitution before brackets same = closes same

pub Turns_close_brace : (before brackets : List Open) → before ≡ brackets ++ opened.Brace ∷ []
    → Turns before reads.Token part.CloseBrace brackets reads.Token
Turns_close_brace before brackets same = closes_brace same

pub Nests_push : (ts : List TokenAndSpan) (before brackets : List Open) (here behind : Next) (t : TokenAndSpan)
    → Nests ts before here → Turns before here (part_of t.token) brackets behind → Nests (ts ++ t ∷ []) brackets behind
Nests_push ts before brackets here behind t so_far turn = and_token t so_far turn

-- with no bracket open and a token to be read next, no template is open
pub AreNested_end : (ts : List TokenAndSpan) (brackets : List Open) (here : Next) → Nests ts brackets here
    → ¬ (0 < length brackets) → here ≡ reads.Token → AreNested ts
AreNested_end ts [] here so_far none is = let P : Next → Type 0 = λ n. Nests ts [] n in subst P is so_far
AreNested_end ts (b ∷ bs) here so_far none is = absurd (none (omega arith))
