-- Bodies that are kept for passes of their own, and whose places alone are in the tree.
use Rattle.std.proofs.Common.{◌≡◌, [], ◌∷◌, ◌++◌, Ok, List}
use Rattle.swc_context.specs.{declared.context.Context.Context, declared.span.Span.Span}
use Rattle.swc_input.specs.{declared.buffer.Buffer.Buffer, Buffer.state_of, Source.Model}
use Rattle.swc_bodies.specs.{declared.deferred.DeferredBodies.DeferredBodies, declared.deferred.Waiting.Waiting, Body.Body, Replaying.token_forms_replay, Slashes.ReplayHook, Taking.token_forms, Laws.token_forms_read}
use Rattle.swc_bodies.specs.Mapped.{mapped_forms, mapped_forms_read, mapped_forms_replay}
use Rattle.swc_bodies.specs.Readings.{Reading, Hook, Hooked, Faithful, LawfulHook}

-- the bodies that wait, each with its context, in the order in which they were read
abbrev pub waiting : DeferredBodies → List Waiting
waiting h = h.waiting.items

-- a body that waits, and the context that it is in
abbrev pub in_context : Context → Body → Waiting
in_context c b = record { context = c; body = b }

-- A body was read, from the buffer b to c, and put after those that waited, with the context of b; its place is the
-- answer. The body is what the reading gives (`read`, `faithful`).
pub record Waits {S : Type 0} (model : Model S) (reads : Reading Body) (h : DeferredBodies) (b : Buffer S)
    (place : Span) (k : DeferredBodies) (c : Buffer S) : Type 0 where
  pub body : Body
  pub lies : place ≡ body.span
  pub kept : waiting k ≡ waiting h ++ in_context (state_of model b).context body ∷ []
  pub read : Hooked model reads b (Ok body) c
  pub faithful : Faithful model reads b (Ok body) c

-- where a body lies
abbrev pub lies_at : Body → Span
lies_at b = b.span

-- functions, classes and blocks, by their places
abbrev pub place_forms : Hook Span Span Span
place_forms = mapped_forms lies_at lies_at lies_at token_forms

-- the laws of the hook
pub place_forms_read : LawfulHook (λ (s : Span). s) (λ (s : Span). s) (λ (s : Span). s) place_forms
place_forms_read = mapped_forms_read lies_at lies_at lies_at (λ s. s) (λ s. s) (λ s. s) token_forms token_forms_read

pub place_forms_replay : ReplayHook place_forms
place_forms_replay = mapped_forms_replay lies_at lies_at lies_at token_forms token_forms_replay
