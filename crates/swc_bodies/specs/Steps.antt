-- The steps by which a body is taken from a buffer.
use Rattle.std.specs.Prelude.{◌≡◌, ◌≢◌, ◌⊎◌, ◌<◌, List, [], ◌∷◌, Option, Some, None, Result, Err, MatchResult}
use Rattle.swc_context.specs.declared.error.SyntaxError.TheVariants.{OutOfMemory, ParserFailed, Unexpected}
use Rattle.swc_context.specs.{declared.error.Error.Error, declared.error.SyntaxError.SyntaxError, declared.error.Wanted.Wanted, declared.error.Wanted.Wanted as wanted}
use Rattle.swc_input.specs.Buffer.{Read, ReadSome, Looked, Known, current, source, last_position, to_come}
use Rattle.swc_input.specs.Recording.{Refused, no_memory, unfit}
use Rattle.swc_input.specs.{declared.buffer.Buffer.Buffer, declared.token.TokenAndSpan.TokenAndSpan, Plain.plain, Source.Model, Kept.kept}
use Rattle.swc_bodies.specs.{declared.place.Place.Place, Taking.at_current, Taking.next}

-- what is wanted in place of a token that is refused
abbrev pub wanting : SyntaxError → Option Wanted
wanting (Unexpected what) = Some what
wanting k = None

module _ {S : Type 0} (model : Model S) where
  -- Why no body was answered: out of memory, at the end of the token consumed last; or the current token, which may not
  -- be in the body, or is an error token, or the end.
  pub data NoBody (e : Error) (c : Buffer S) : Type 0 where
    wanted_memory : e ≡ no_memory (last_position c) → NoBody e c
    refused_token : (b : Buffer S) (k : SyntaxError) → wanting k ≡ Some wanted.LBrace
        → Refused model b (λ here. unfit (current here) (last_position here) k) e c → NoBody e c

  -- over a listed source nothing was recorded, nor set waiting
  abbrev pub Quiet : Buffer S → Buffer S → Type 0
  Quiet b c = (m : List TokenAndSpan) → (model.state (source b)).known ≡ Some m
      → ((model.state (source c)).errors ≡ (model.state (source b)).errors)
      × ((model.state (source c)).waiting ≡ (model.state (source b)).waiting)

  -- no body is read: the current token was consumed, and is refused where it lies
  pub record Declines {V : Type 0} (b : Buffer S) (r : Result V Error) (c : Buffer S) : Type 0 where
    pub token : TokenAndSpan
    pub current : current b ≡ Some token
    pub read : Read model b (plain token ∷ []) c
    -- nothing was recorded
    pub same : source c ≡ source b
    pub refused : r ≡ Err (record { span = token.span; kind = Unexpected wanted.LBrace })

  -- the current token was consumed; it was kept after the tokens ts, which are us then, or memory ran out
  pub record KeepsOne (b : Buffer S) (ts : List TokenAndSpan) (r : Result (Unit {0}) Error) (us : List TokenAndSpan)
      (c : Buffer S) : Type 0 where
    pub token : TokenAndSpan
    pub current : current b ≡ Some token
    pub read : Read model b (plain token ∷ []) c
    pub less : to_come model c < to_come model b
    pub same : source c ≡ source b
    pub last : last_position c ≡ token.span.hi
    pub kept : MatchResult r (λ u. us ≡ kept ts token) (λ e. e ≡ no_memory (last_position c))

  -- a token is current that may be at the place p, and leads to q
  pub record GoesOn (b : Buffer S) (p q : Place) (c : Buffer S) : Type 0 where
    pub looked : Looked model b c
    pub next : at_current p (current c) ≡ Some q

  -- the refusal e, when out of memory, or since no token comes that may be at the place p
  pub record Stops (b : Buffer S) (p : Place) (e : Error) (c : Buffer S) : Type 0 where
    pub read : ReadSome model b c
    pub quiet : Quiet b c
    pub own : e.kind ≢ ParserFailed
    pub answer : NoBody e c
    pub cause : (e.kind ≡ OutOfMemory) ⊎ ((ts : List TokenAndSpan) → Known model b ts → next p ts ≡ None)
