-- How faults are recorded, how refusals are made, and how out of memory and the end are told apart.
use Rattle.std.specs.Prelude.{◌≡◌, Bool, true, false, not, ◌||◌, List, [], ◌∷◌, ◌++◌, Option, Some, None}
use Rattle.swc_context.specs.{declared.error.Error.Error, declared.error.SyntaxError.SyntaxError, declared.span.BytePos.BytePos}
use Rattle.swc_context.specs.declared.error.SyntaxError.TheVariants as kind
use Rattle.swc_input.specs.Buffer.{Read, Lives, Looked, last_position, current, peeked, source}
use Rattle.swc_input.specs.{declared.buffer.Buffer.Buffer, declared.token.Token.Token, declared.token.TokenAndSpan.TokenAndSpan, Plain.plain, Source.Source, Source.Model}
use Rattle.swc_input.specs.declared.token.Token.TheVariants as token

-- no fault is recorded
abbrev pub is_silent : Source → Bool
is_silent s = s.context.ignore_error || not s.syntax.early_errors

-- a fault of the kind at one position
abbrev pub error_at : BytePos → SyntaxError → Error
error_at at kind = record { span = record { lo = at; hi = at }; kind = kind }

-- the refusal when out of memory
abbrev pub no_memory : BytePos → Error
no_memory at = error_at at kind.OutOfMemory

-- an error that a token holds, as it counts: one of the parser's own kinds is the reader's
abbrev pub counted_kind : SyntaxError → SyntaxError
counted_kind kind.OutOfMemory = kind.Lex
counted_kind kind.ParserFailed = kind.Lex
counted_kind k = k

abbrev pub counted : Error → Error
counted e = record e { kind = counted_kind e.kind }

abbrev pub error_in : Token → Option Error
error_in (token.Error e) = Some (counted e)
error_in t = None

-- the error that a current token holds
abbrev pub error_here : Option TokenAndSpan → Option Error
error_here None = None
error_here (Some t) = error_in t.token

abbrev pub is_some : {A : Type 0} → Option A → Bool
is_some None = false
is_some (Some a) = true

abbrev pub error_list : Option Error → List Error
error_list None = []
error_list (Some e) = e ∷ []

-- a token is current, and holds no error
abbrev pub is_fit : Option TokenAndSpan → Bool
is_fit None = false
is_fit (Some t) = not (is_some (error_in t.token))

abbrev pub token_if : Option Error → TokenAndSpan → List TokenAndSpan
token_if None t = []
token_if (Some e) t = plain t ∷ []

-- a current token, where it holds an error: it is consumed before a fault is recorded, and with a refusal
abbrev pub error_token : Option TokenAndSpan → List TokenAndSpan
error_token None = []
error_token (Some t) = token_if (error_in t.token) t

abbrev pub error_or : Option Error → Error → Error
error_or None e = e
error_or (Some x) e = x

-- the refusal that is answered in place of e where the current token is o: the error of an error token, and out of
-- memory where the source has failed
abbrev pub refusal : Option TokenAndSpan → Bool → BytePos → Error → Error
refusal None true at e = no_memory at
refusal None false at e = e
refusal (Some t) f at e = error_or (error_in t.token) e

-- the refusal of a token that doesn't fit: at the end `Eof`
abbrev pub unfit : Option TokenAndSpan → BytePos → SyntaxError → Error
unfit None at k = error_at at kind.Eof
unfit (Some t) at k = record { span = t.span; kind = k }

module _ {S : Type 0} (model : Model S) where
  -- the fault e was recorded, after the error of a current error token, which was consumed
  pub record Recorded (b : Buffer S) (e : Error) (c : Buffer S) : Type 0 where
    pub here : Buffer S
    pub looked : Looked model b here
    pub read : Read model here (error_token (current here)) c
    pub errors : (model.state (source c)).errors ≡ (model.state (source here)).errors ++
        (error_list (error_here (current here)) ++ e ∷ [])
    pub waiting : (model.state (source c)).waiting ≡ (model.state (source here)).waiting
    pub lives : Lives model b c

  -- the refusal r was made, where e is refused unless an error token is current; such a token was consumed
  pub record Refused (b : Buffer S) (e : Buffer S → Error) (r : Error) (c : Buffer S) : Type 0 where
    pub here : Buffer S
    pub looked : Looked model b here
    pub read : Read model here (error_token (current here)) c
    pub lives : Lives model here c
    -- and nothing was recorded, nor set waiting
    pub same : source c ≡ source here
    pub answer : r ≡ refusal (current here) (model.state (source here)).failed (last_position here) (e here)

  -- a look that tells the end from a failed source: true at a token, false at the end
  pub record Seen (b : Buffer S) (r : Bool) (c : Buffer S) : Type 0 where
    pub looked : Looked model b c
    pub token : r ≡ true → (t : TokenAndSpan) × (current c ≡ Some t)
    pub end : r ≡ false → (current c ≡ None) × (peeked c ≡ None) × ((model.state (source c)).failed ≡ false)
        × ((model.state (source c)).ended ≡ true)
