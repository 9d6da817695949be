-- The tokens read so far: none, and one more.
use Rattle.std.proofs.Common.{◌≡◌, ℕ, ◌<◌, ◌≤◌, Bool, true, false, IsTrue, IsFalse, IfSome, slice_get, List, [], ◌∷◌, ◌++◌, length, refl, sym, ap, Option, Some, None, IsSome, Bor, ◌-◌, ◌∙◌, arith}
use Rattle.std.proofs.{lemmas.List.Elements.All-nil, lemmas.List.Elements.All-push, lemmas.Option.slice_get-get_or}
use Rattle.std.specs.Option.{option_copied}
use Rattle.swc_input.specs.{declared.token.Token.Token, declared.token.TokenAndSpan.TokenAndSpan}
use Rattle.swc_tokens.specs.Blanks.{AreBlanks, OnlyBlanksBetween, MarksLineBreaks, has_line_break}
use Rattle.swc_tokens.specs.{declared.template.Next.Next, declared.template.Next.TheVariants.Delimiter, declared.template.Next.TheVariants.Text, Spelling.Spells}
use Rattle.swc_tokens.specs.Order.{HasPlace, is_error, is_text, end_of}
use Rattle.swc_tokens.specs.Reading.{AreRead, IsNext, Takes, took_some, took_text, texts_left, left}
use Rattle.swc_tokens.proofs.Blanks.{AreBlanks_none, OnlyBlanksBetween_push, OnlyBlanksBetween_wider}
use Rattle.swc_tokens.proofs.Nesting.{fits_free, fits_text, no_error, no_error_text}
use Rattle.swc_tokens.proofs.Marks.{MarksLineBreaks_push}
use Rattle.swc_tokens.proofs.Order.{InOrder_nil, InOrder_push, InOrder_wider}

pub AreRead_nil : (text : List ℕ) → AreRead text [] 0
unfolding OnlyBlanksBetween MarksLineBreaks
AreRead_nil text = record {
  in_order = InOrder_nil 0;
  blanks = AreBlanks_none text 0;
  marks = tt;
  first = tt;
  no_errors = All-nil (λ t. IsFalse (is_error t.token));
  spells = All-nil (λ t. Spells text t.span.lo.0 t.span.hi.0 t.token);
}

is-false : (b : Bool) → (IsTrue b → 0 < 0) → IsFalse b
is-false true h = absurd (omega (arith, h refl))
is-false false h = refl

first-push : (ts : List TokenAndSpan) (t : TokenAndSpan) → IfSome (slice_get ts 0) (λ s. IsFalse s.had_line_break)
    → (IsTrue t.had_line_break → 0 < length ts) → IfSome (slice_get (ts ++ t ∷ []) 0) (λ s. IsFalse s.had_line_break)
first-push [] t so_far new = is-false t.had_line_break new
first-push (s ∷ ts) t so_far new = so_far

pub Takes_some : (coming : Next) (low high : ℕ) (t : Token) → low < high → Takes coming low high t
Takes_some coming low high t more = took_some more

pub Takes_text : (coming : Next) (low high : ℕ) (t : Token) → low ≤ high → coming ≡ Text → IsTrue (is_text t)
    → Takes coming low high t
Takes_text coming low high t forward here is = took_text forward here is

-- what is known of a token by the kind of what is read
pub ruleset here = (Takes_some, Takes_text, fits_free, fits_text, no_error, no_error_text)

HasPlace_taken : (coming : Next) (t : TokenAndSpan) → Takes coming t.span.lo.0 t.span.hi.0 t.token → HasPlace t
HasPlace_taken coming t (took_some more) = record { forward = omega arith; nonempty = λ _. more }
HasPlace_taken coming t (took_text forward _ is) = record {
  forward = forward;
  nonempty =
      λ no. absurd (let both = sym no ∙ is in cc);
}

pub AreRead_push : (text : List ℕ) (ts : List TokenAndSpan) (mid : ℕ) (coming : Next) (t : TokenAndSpan) (high : ℕ)
    → AreRead text ts mid → IsNext text mid coming t high → IsFalse (is_error t.token)
    → (IsTrue t.had_line_break → 0 < length ts) → (0 < length ts
    → t.had_line_break ≡ has_line_break text mid t.span.lo.0) → mid ≡ end_of 0 ts → AreRead text (ts ++ t ∷ []) high
AreRead_push text ts mid coming t high so_far is fine broken marked end = record {
  in_order = InOrder_push 0 ts mid t high so_far.in_order is.after (HasPlace_taken coming t is.takes)
      (omega (arith, is.ends));
  blanks = rw (sym is.ends) (OnlyBlanksBetween_push text 0 ts mid t so_far.blanks is.blanks);
  marks = MarksLineBreaks_push text ts t so_far.marks (λ some. rw (sym end) (marked some));
  first = first-push ts t so_far.first broken;
  no_errors = All-push (λ s. IsFalse (is_error s.token)) ts t so_far.no_errors fine;
  spells = All-push (λ s. Spells text s.span.lo.0 s.span.hi.0 s.token) ts t so_far.spells is.spells;
}

texts_left_bound : (n : Next) → texts_left n ≤ 1
texts_left_bound Text = omega arith
texts_left_bound _ = omega arith

left_less_taken : (source : List ℕ) (low lo high : ℕ) (coming behind : Next) (t : Token) → Takes coming lo high t
    → low ≤ lo → high ≤ length source → (IsTrue (is_text t) → behind ≡ Delimiter)
    → left source high behind < left source low coming
left_less_taken source low lo high coming behind t (took_some more) after within texts =
    let bound = texts_left_bound behind in omega arith
left_less_taken source low lo high coming behind t (took_text forward here is) after within texts =
    let one = ap texts_left here in let none = ap texts_left (texts is) in omega arith

-- less is left after a token: it took some bytes, or it was the text that was to come next
pub left_less : (source : List ℕ) (low : ℕ) (coming behind : Next) (t : TokenAndSpan) (high : ℕ)
    → IsNext source low coming t high → high ≤ length source → (IsTrue (is_text t.token) → behind ≡ Delimiter)
    → left source high behind < left source low coming
left_less source low coming behind t high is within texts =
    left_less_taken source low t.span.lo.0 high coming behind t.token (rw is.ends at is.takes) is.after within texts

pub AreRead_end : (text : List ℕ) (ts : List TokenAndSpan) (mid : ℕ) → AreRead text ts mid → mid ≤ length text
    → AreBlanks text mid (length text) → AreRead text ts (length text)
AreRead_end text ts mid so_far within blanks = record {
  in_order = InOrder_wider 0 ts mid (length text) so_far.in_order within;
  blanks = OnlyBlanksBetween_wider text 0 ts mid (length text) so_far.blanks blanks;
  marks = so_far.marks;
  first = so_far.first;
  no_errors = so_far.no_errors;
  spells = so_far.spells;
}

-- where there is a last token, there are tokens
pub last-there : {T : Type 0} → (ts us : List T) (r : Option (Bor T)) → us ≡ ts
    → option_copied r ≡ slice_get us (length us - 1) → IsSome r → 0 < length ts
last-there [] us None same value there = cc
last-there [] us (Some x) same value there = let none = rw same at value in cc
last-there (t ∷ ts) us r same value there = omega arith

-- where there are tokens, there is a last one
pub last-given : {T : Type 0} → (ts us : List T) (r : Option (Bor T)) → us ≡ ts
    → option_copied r ≡ slice_get us (length us - 1) → 0 < length ts → IsSome r
last-given [] us r same value some = absurd (omega arith)
last-given (t ∷ ts) us (Some x) same value some = refl
last-given (t ∷ ts) us None same value some =
    let inside : length us - 1 < length us = let n = ap length same in omega arith in
    let there = slice_get-get_or us (length us - 1) t inside in
    cc
