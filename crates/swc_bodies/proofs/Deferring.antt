-- What is read as a body is read by its place, where the body is kept for a pass of its own.
use Rattle.std.proofs.Common.{◌≡◌, Result, Ok, Err, MatchResult, ap, ◌∙◌}
use Rattle.swc_context.specs.{declared.error.Error.Error, declared.error.SyntaxError.TheVariants.OutOfMemory, declared.span.BytePos.BytePos, declared.span.Span.Span}
use Rattle.swc_input.specs.{declared.buffer.Buffer.Buffer, Buffer.state_of, Recording.no_memory, Source.Model}
use Rattle.swc_bodies.specs.{Body.Body, Deferred.lies_at, Mapped.mapped_reading, Mapped.found, Readings.Reading, Readings.Faithful}

-- the place of a body is answered, or memory runs out
abbrev pub Answers : Body → BytePos → Result Span Error → Type 0
Answers body at r = MatchResult r (λ place. place ≡ body.span) (λ e. e ≡ no_memory at)

put-found : (body : Body) (at : BytePos) (r : Result Span Error) (place : Span) {P Q : Type 0} → Answers body at r →
    body.span ≡ place → P → Q → MatchResult r (λ w. (w ≡ place) × P × Q) (λ e. e.kind ≡ OutOfMemory)
put-found body at (Ok w) place answer lies left quiet = (answer ∙ lies, left, quiet)
put-found body at (Err e) place answer lies left quiet = ap (λ x. x.kind) answer

module _ {S : Type 0} (model : Model S) (reads : Reading Body) (b c : Buffer S) where
  -- a body was read, and then kept, or refused when out of memory
  pub put-faithful : (body : Body) (at : BytePos) (r : Result Span Error) → Faithful model reads b (Ok body) c →
      Answers body at r → Faithful model (mapped_reading lies_at reads) b r c
  put-faithful body at r faithful answer = λ loud ts place rest known read.
      let f = found lies_at (reads (state_of model b).context ts) place rest read in
      let x = faithful loud ts f.value rest known f.is in
      put-found body at r place answer (ap (λ v. v.span) x.0 ∙ f.same) x.1 x.2

  -- no body was read
  pub none-faithful : (e : Error) → Faithful model reads b (Err e) c
      → Faithful model (mapped_reading lies_at reads) b (Err e) c
  none-faithful e faithful = λ loud ts place rest known read.
      let f = found lies_at (reads (state_of model b).context ts) place rest read in
      faithful loud ts f.value rest known f.is
