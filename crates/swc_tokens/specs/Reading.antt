-- What is known of the tokens that are read so far.
use Rattle.std.specs.Prelude.{◌≡◌, ◌+◌, ◌-◌, ◌*◌, ◌<◌, ◌≤◌, ℕ, List, IfSome, IsTrue, IsFalse, length, slice_get}
use Rattle.std.specs.List.{All}
use Rattle.swc_input.specs.{declared.token.Token.Token, declared.token.TokenAndSpan.TokenAndSpan}
use Rattle.swc_tokens.specs.{declared.template.Next.Next, declared.template.Next.TheVariants.Text, Nesting.fits, Nesting.part_of, Spelling.Spells}
use Rattle.swc_tokens.specs.Blanks.{AreBlanks, OnlyBlanksBetween, MarksLineBreaks}
use Rattle.swc_tokens.specs.Order.{InOrder, is_error, is_text}

-- a token takes bytes from one position to before another: some, or it is a text that was to come next
pub data Takes (coming : Next) (low high : ℕ) (t : Token) : Type 0 where
  took_some : low < high → Takes coming low high t
  took_text : low ≤ high → coming ≡ Text → IsTrue (is_text t) → Takes coming low high t

-- whether a text of a template, which may be empty, is still to be read here
abbrev pub texts_left : Next → ℕ
texts_left Text = 1
texts_left _ = 0

-- how much is left to read: bytes, and a text that comes next
abbrev pub left : List ℕ → ℕ → Next → ℕ
left text at coming = 2 * (length text - at) + texts_left coming

-- the token is the next from a position on, and what is read of the text ends with it
pub record IsNext (text : List ℕ) (low : ℕ) (coming : Next) (t : TokenAndSpan) (high : ℕ) : Type 0 where
  pub after : low ≤ t.span.lo.0
  pub takes : Takes coming t.span.lo.0 t.span.hi.0 t.token
  pub fitting : IsTrue (fits coming (part_of t.token))
  pub ends : t.span.hi.0 ≡ high
  pub blanks : AreBlanks text low t.span.lo.0
  pub spells : Spells text t.span.lo.0 t.span.hi.0 t.token

-- the tokens are all that is read up to a position, and spell it; the first has no line break before it, and none is a
-- fault
pub record AreRead (text : List ℕ) (ts : List TokenAndSpan) (at : ℕ) : Type 0 where
  pub in_order : InOrder 0 ts at
  pub blanks : OnlyBlanksBetween text 0 ts at
  pub marks : MarksLineBreaks text ts
  pub first : IfSome (slice_get ts 0) (λ t. IsFalse t.had_line_break)
  pub no_errors : All (λ t. IsFalse (is_error t.token)) ts
  pub spells : All (λ t. Spells text t.span.lo.0 t.span.hi.0 t.token) ts
