-- What a call of a buffer does, and which tokens may still come.
use Rattle.std.specs.Prelude.{◌≡◌, ◌≢◌, ℕ, ◌+◌, ◌<◌, ◌≤◌, true, false, List, [], ◌∷◌, ◌++◌, Option, Some, None, IsSome, length, min}
use Rattle.swc_context.specs.{declared.context.Context.Context, declared.operator.BinOpToken.TheVariants.Lt, declared.span.BytePos.BytePos, declared.span.Span.Span}
use Rattle.swc_input.specs.Source.{Source, Model, Keeps, given_one}
use Rattle.swc_input.specs.{declared.buffer.Buffer.Buffer, declared.token.Token.Token, declared.token.Token.TheVariants.BinOp, declared.token.TokenAndSpan.TokenAndSpan, Plain.plain}

abbrev pub token_of : Option TokenAndSpan → Option Token
token_of None = None
token_of (Some t) = Some t.token

-- the current token and the one after it, where they are known; the place of the token consumed last; the source
abbrev pub current : {S : Type 0} → Buffer S → Option TokenAndSpan
current b = b.cur

abbrev pub peeked : {S : Type 0} → Buffer S → Option TokenAndSpan
peeked b = b.next

abbrev pub previous : {S : Type 0} → Buffer S → Span
previous b = b.prev_span

abbrev pub last_position : {S : Type 0} → Buffer S → BytePos
last_position b = b.prev_span.hi

abbrev pub source : {S : Type 0} → Buffer S → S
source b = b.iter

abbrev pub with_current : {S : Type 0} → TokenAndSpan → Buffer S → Buffer S
with_current t b = record b { cur = Some t }

abbrev pub with_source : {S : Type 0} → S → Buffer S → Buffer S
with_source s b = record b { iter = s }

-- a buffer that consumed nothing, where the text begins at the position
abbrev pub fresh : {S : Type 0} → S → BytePos → Buffer S
fresh s at = record { iter = s; prev_span = record { lo = at; hi = at }; cur = None; next = None }

-- `<<` with its first sign taken off
abbrev pub cut : TokenAndSpan → TokenAndSpan
cut t = record {
  token = BinOp Lt;
  had_line_break = false;
  span = record { lo = record { 0 = min (t.span.lo.0 + 1) 4294967295 }; hi = t.span.hi };
}

-- t, put in where the token consumed last lies
abbrev pub stored : {S : Type 0} → Token → Buffer S → TokenAndSpan
stored t b = record { token = t; had_line_break = false; span = b.prev_span }

-- the tokens that were taken from the source and are not consumed yet
abbrev pub held : {S : Type 0} → Buffer S → List TokenAndSpan
held b = given_one b.cur ++ given_one b.next

-- The law of the buffer: between b and c the tokens xs were consumed. Those held at b, and then those given by the
-- source, are xs, and then those held at c.
pub record Took {S : Type 0} (model : Model S) (b : Buffer S) (xs : List TokenAndSpan) (c : Buffer S) : Type 0 where
  pub given : List TokenAndSpan
  pub gave : model.gives b.iter given c.iter
  pub balance : held b ++ given ≡ xs ++ held c

module _ {S : Type 0} (model : Model S) where
  abbrev pub state_of : Buffer S → Source
  state_of b = model.state b.iter

  abbrev pub context : Buffer S → Context
  context b = (model.state b.iter).context

  -- no more tokens than this are still to come, those held among them
  abbrev pub to_come : Buffer S → ℕ
  to_come b = (model.state b.iter).bound + length (held b)

  -- rest may be the tokens still to come: those held, and then more, which is nothing after the end, and what a listed
  -- source knows
  pub record Future (b : Buffer S) (rest : List TokenAndSpan) : Type 0 where
    pub more : List TokenAndSpan
    pub begins : rest ≡ held b ++ more
    pub over : (model.state b.iter).ended ≡ true → more ≡ []
    pub known : (m : List TokenAndSpan) → (model.state b.iter).known ≡ Some m → more ≡ m

  -- the source is listed, and rest are the tokens still to come
  pub record Known (b : Buffer S) (rest : List TokenAndSpan) : Type 0 where
    pub more : List TokenAndSpan
    pub begins : rest ≡ held b ++ more
    pub known : (model.state b.iter).known ≡ Some more

module _ {S : Type 0} (model : Model S) where
  -- the tokens xs were consumed, the context is what it was, no recorded fault was taken out, and no more tokens are to
  -- come
  pub record Read (b : Buffer S) (xs : List TokenAndSpan) (c : Buffer S) : Type 0 where
    pub took : Took model b xs c
    pub context : (model.state c.iter).context ≡ (model.state b.iter).context
    pub errors : Keeps (model.state b.iter).errors (model.state c.iter).errors
    pub waiting : Keeps (model.state b.iter).waiting (model.state c.iter).waiting
    pub lower : to_come model c ≤ to_come model b

  -- the tokens of some list were consumed
  abbrev pub ReadSome : Buffer S → Buffer S → Type 0
  ReadSome b c = (xs : List TokenAndSpan) × Read b xs c

  -- a look consumed nothing, and moved nothing; over a listed source it recorded nothing
  pub record Still (b c : Buffer S) : Type 0 where
    pub read : Read b [] c
    pub previous : c.prev_span ≡ b.prev_span
    pub quiet : (m : List TokenAndSpan) → (model.state b.iter).known ≡ Some m
        → ((model.state c.iter).errors ≡ (model.state b.iter).errors)
        × ((model.state c.iter).waiting ≡ (model.state b.iter).waiting)

  -- the source didn't fail in between
  abbrev pub Lives : Buffer S → Buffer S → Type 0
  Lives b c = (model.state c.iter).failed ≡ true → (model.state b.iter).failed ≡ true

  -- the source runs, or it had failed before, when tokens were held that weren't consumed yet
  pub record Served (b c : Buffer S) : Type 0 where
    pub before : (model.state c.iter).failed ≡ true → ((model.state b.iter).failed ≡ true) × (held b ≢ [])

  -- a look at the current token: it is known now, or none is left, or the source has failed
  pub record Looked (b c : Buffer S) : Type 0 where
    pub look : Still b c
    pub same : (t : TokenAndSpan) → b.cur ≡ Some t → c ≡ b
    pub lives : IsSome c.cur → Lives b c
    pub end : c.cur ≡ None → (c.next ≡ None) × ((model.state c.iter).failed ≡ false → (model.state c.iter).ended ≡ true)

  -- a look at the token after the current one
  pub record Peeked (b c : Buffer S) : Type 0 where
    pub look : Still b c
    pub current : c.cur ≡ b.cur
    pub lives : IsSome c.next → Lives b c
    pub end : c.next ≡ None → (model.state c.iter).failed ≡ false → (model.state c.iter).ended ≡ true

  -- the current token was consumed, and it was t, so fewer are to come
  pub record Bumped (b : Buffer S) (t : Token) (c : Buffer S) : Type 0 where
    pub was : TokenAndSpan
    pub current : b.cur ≡ Some was
    pub token : t ≡ was.token
    pub read : Read b (plain was ∷ []) c
    pub now : c ≡ record b { cur = None; prev_span = was.span }
    pub less : to_come model c < to_come model b
