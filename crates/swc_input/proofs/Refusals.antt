-- What a refusal may be: never the parser's own failure, and out of memory only where the source has failed.
use Rattle.std.proofs.Common.{◌≡◌, ◌≢◌, Bool, true, false, not, IsTrue, IsSome, Option, Some, None, refl, sym, ◌∙◌, ap, subst}
use Rattle.swc_context.specs.{declared.error.Error.Error, declared.error.SyntaxError.SyntaxError, declared.error.SyntaxError.SyntaxError as kind, declared.span.BytePos.BytePos}
use Rattle.swc_input.specs.Source.{Model, Laws}
use Rattle.swc_input.specs.Buffer.{Looked, current, source, last_position}
use Rattle.swc_input.specs.Recording.{Refused, counted_kind, error_in, error_or, error_here, is_some, is_fit, refusal, unfit}
use Rattle.swc_input.specs.{declared.buffer.Buffer.Buffer, declared.token.Token.Token, declared.token.Token.Token as token, declared.token.TokenAndSpan.TokenAndSpan, Laws.Looked-served, Laws.Looked-some}

counted_kind_parser : (k : SyntaxError) → counted_kind k ≢ kind.ParserFailed
counted_kind_parser kind.OutOfMemory = λ h. cc
counted_kind_parser kind.ParserFailed = λ h. cc
counted_kind_parser k = λ h. cc

error_or_parser : (t : Token) (e : Error) → e.kind ≢ kind.ParserFailed
    → (error_or (error_in t) e).kind ≢ kind.ParserFailed
error_or_parser (token.Error x) e own = counted_kind_parser x.kind
error_or_parser t e own = own

pub refusal-kind : (o : Option TokenAndSpan) (f : Bool) (at : BytePos) (e : Error) → e.kind ≢ kind.ParserFailed
    → (refusal o f at e).kind ≢ kind.ParserFailed
refusal-kind None true at e own = λ h. cc
refusal-kind None false at e own = own
refusal-kind (Some t) f at e own = error_or_parser t.token e own

refusal-failed : (o : Option TokenAndSpan) (f : Bool) (at : BytePos) (e : Error) → o ≡ None → f ≡ true
    → (refusal o f at e).kind ≡ kind.OutOfMemory
refusal-failed None true at e none failed = refl
refusal-failed o f at e none failed = cc

-- a token that doesn't fit is refused by the kind, or as `Eof`
pub unfit-kind : (o : Option TokenAndSpan) (at : BytePos) (k other : SyntaxError) → kind.Eof ≢ other → k ≢ other
    → (unfit o at k).kind ≢ other
unfit-kind None at k other end own = end
unfit-kind (Some t) at k other end own = own

-- a token that isn't known, and one that holds an error, don't fit
pub unfit-unknown : (o : Option TokenAndSpan) (known : Bool) → (IsSome o → IsTrue known) → known ≡ false
    → is_fit o ≡ false
unfit-unknown None known h e = refl
unfit-unknown (Some t) known h e = let w = h refl in cc

pub unfit-error : (o : Option TokenAndSpan) (e : Bool) → e ≡ is_some (error_here o) → e ≡ true → is_fit o ≡ false
unfit-error None e h i = refl
unfit-error (Some t) e h i = ap not (sym h ∙ i)

module _ {S : Type 0} (model : Model S) where
  pub Refused-kind : (b c : Buffer S) (e : Buffer S → Error) (f : Error)
      → ((here : Buffer S) → (e here).kind ≢ kind.ParserFailed) → Refused model b e f c → f.kind ≢ kind.ParserFailed
  Refused-kind b c e f own r h =
      refusal-kind (current r.here) (model.state (source r.here)).failed (last_position r.here) (e r.here) (own r.here)
      (ap (λ x. x.kind) (sym r.answer) ∙ h)

  -- where a look met no token since the source has failed, the refusal is out of memory
  pub Refused-failed : (laws : Laws model) (b h c : Buffer S) (e : Buffer S → Error) (f : Error) → Looked model b h
      → current h ≡ None → (model.state h.iter).failed ≡ true →
      Refused model h e f c → f.kind ≡ kind.OutOfMemory
  Refused-failed laws b h c e f l none failed r =
      let took = r.looked.look.read.took in
      let fails = ((laws.gave h.iter r.here.iter took.given took.gave).failed failed).1 in
      let never : IsSome (current r.here) → IsSome (current h) =
      λ some. Looked-some laws l ((Looked-served laws r.looked some).before fails).1 in
      elim (current r.here) as (λ o. current r.here ≡ o → f.kind ≡ kind.OutOfMemory) [
        | None ↦ (λ at. ap (λ x. x.kind) r.answer ∙ refusal-failed (current r.here) (model.state (source r.here)).failed
            (last_position r.here) (e r.here) at fails)
        | Some t ↦ (λ at. let some = subst IsSome none (never (subst IsSome (sym at) refl)) in cc)
      ] refl
