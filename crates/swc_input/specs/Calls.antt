-- What a call of a parser does to the buffer: what it consumes, what it records, and how it is refused.
use Rattle.std.specs.Prelude.{◌≡◌, ◌≢◌, ℕ, ◌<◌, Bool, true, false, List, [], None, Result, MatchResult, length}
use Rattle.swc_context.specs.{declared.error.Error.Error, declared.error.SyntaxError.TheVariants.OutOfMemory, declared.error.SyntaxError.TheVariants.ParserFailed}
use Rattle.swc_input.specs.Buffer.{Read, Lives, Served, Looked}
use Rattle.swc_input.specs.{declared.buffer.Buffer.Buffer, declared.token.TokenAndSpan.TokenAndSpan, Recording.is_fit, Recording.is_silent, Source.Model, Source.Laws}

module _ {S : Type 0} (model : Model S) where
  -- how many faults were recorded
  abbrev pub recorded : Buffer S → ℕ
  recorded b = length (model.state b.iter).errors

  -- faults are recorded: early errors are on, and not ignored
  abbrev pub Loud : Buffer S → Type 0
  Loud b = is_silent (model.state b.iter) ≡ false

module _ {S : Type 0} (model : Model S) where
  -- from b to c: the tokens that the call consumed, with the context kept and no recorded fault taken out
  pub record Spends (b c : Buffer S) : Type 0 where
    pub laws : Laws model
    pub taken : List TokenAndSpan
    pub read : Read model b taken c

  -- the same, and the source didn't fail in between
  pub record Leads (b c : Buffer S) : Type 0 where
    pub laws : Laws model
    pub taken : List TokenAndSpan
    pub read : Read model b taken c
    pub lives : Lives model b c

  -- A refusal, which is never that of a failed parser. Where the source has failed, and no token was held before, it is
  -- out of memory.
  pub record Refuses (b : Buffer S) (e : Error) (c : Buffer S) : Type 0 where
    pub spends : Spends b c
    pub kind : e.kind ≢ ParserFailed
    pub served : e.kind ≢ OutOfMemory → Served model b c

  -- a refusal when out of memory
  pub record Forgoes (b : Buffer S) (e : Error) (c : Buffer S) : Type 0 where
    pub spends : Spends b c
    pub kind : e.kind ≡ OutOfMemory

  -- a call that is refused only when out of memory
  abbrev pub Tries : {T : Type 0} → Buffer S → Result T Error → Buffer S → Type 0
  Tries b r c = MatchResult r (λ t. Leads b c) (λ e. Forgoes b e c)

  -- a look at c: a token is current, or none is left
  pub record Here (b c : Buffer S) : Type 0 where
    pub laws : Laws model
    pub looked : Looked model b c
    pub served : Served model b c
    pub end : c.cur ≡ None → (model.state c.iter).ended ≡ true

  -- such a look, which is refused only when out of memory
  abbrev pub Looks : {T : Type 0} → Buffer S → Result T Error → Buffer S → Type 0
  Looks b r c = MatchResult r (λ t. Here b c) (λ e. Forgoes b e c)

  -- a refusal at an error token, or at the end
  pub record Unfit (b : Buffer S) (e : Error) (c : Buffer S) : Type 0 where
    pub at : Buffer S
    pub looked : Looked model b at
    pub end : at.cur ≡ None → (model.state at.iter).failed ≡ false → (model.state at.iter).ended ≡ true
    pub unfit : is_fit at.cur ≡ false
    pub refuses : Refuses at e c

  -- a look that asks for a token which is no error
  abbrev pub Fits : {T : Type 0} → Buffer S → Result T Error → Buffer S → Type 0
  Fits b r c = MatchResult r (λ t. Here b c) (λ e. Unfit b e c)

  -- A fault is recorded unless all is well. Where all is, none is recorded and nothing consumed; one may be set
  -- waiting.
  pub record Checks (well : Bool) (b c : Buffer S) : Type 0 where
    pub leads : Leads b c
    pub passes : well ≡ true → (leads.taken ≡ []) × (recorded model c ≡ recorded model b)
    pub notes : well ≡ false → Loud model b → recorded model b < recorded model c

  -- such a check, which is refused only when out of memory
  abbrev pub Checked : {T : Type 0} → Bool → Buffer S → Result T Error → Buffer S → Type 0
  Checked well b r c = MatchResult r (λ t. Checks well b c) (λ e. Forgoes b e c)
