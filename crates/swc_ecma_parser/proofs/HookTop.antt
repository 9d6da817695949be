-- From what the hook reads where a statement is to what the call promises.
use Rattle.std.proofs.Common.{◌≡◌, ◌<◌, Bool, List, [], ◌++◌, Some, Result, OnOk, sym, subst, ◌∙◌}
use Rattle.std.proofs.lemmas.List.{append-nil, append_cancel_right}
use Rattle.swc_context.specs.{declared.error.Error.Error, declared.span.Span.Span}
use Rattle.swc_input.specs.{declared.buffer.Buffer.Buffer, declared.token.TokenAndSpan.TokenAndSpan, Buffer.to_come, Source.Model}
use Rattle.swc_bodies.specs.Readings.{Reading, IsReading}
use Rattle.swc_grammar.specs.Scope.{Scope}
use Rattle.swc_steps.specs.Parsing.{Parses, by_hook}
use Rattle.swc_steps.proofs.Steps.{consumes_of}
use Rattle.swc_ecma_parser.specs.Promise.{Anywhere, HookReads, ReadsBody}
use Rattle.swc_ecma_parser.proofs.Top.{IsSound, IsComplete, complete, sound}

module _ {V : Type 0} {place : V → Span} {starts : List TokenAndSpan → Bool} (reads : Reading V)
    (laws : IsReading place starts reads) where
  cut_own : (c : Scope) (own ys : List TokenAndSpan) (v : V) → ReadsBody reads c (own ++ ys) ys v
      → ReadsBody reads c own [] v
  cut_own c own ys v d =
      let o = laws.owns c.context (own ++ ys) v ys d in
      let same : own ≡ o.own = append_cancel_right own o.own ys o.list in
      subst (λ l. reads c.context l ≡ Some (v, [])) (append-nil o.own ∙ sym same) (o.alone [])

  body_sound : IsSound (ReadsBody reads) (by_hook reads)
  body_sound = record { sound = λ c ts ys v h. h; cut = cut_own }

  body_complete : IsComplete (ReadsBody reads) Anywhere (by_hook reads)
  body_complete = record { complete = λ c ts ys v d e. d }

  pub hook-reads : {S : Type 0} (model : Model S) (sure : Bool) (b : Buffer S) (r : Result V Error) (c : Buffer S)
      → Parses model sure (λ (v : V). v) (by_hook reads) b r c → OnOk r (to_come model c < to_come model b)
      → HookReads model sure reads b r c
  hook-reads model sure b r c h less = record {
    consumes = consumes_of model sure (λ (v : V). v) (by_hook reads) b c r h;
    sound = sound model sure (ReadsBody reads) (λ (v : V). v) (by_hook reads) body_sound b r c h;
    complete = λ y. complete model sure (ReadsBody reads) (λ (v : V). v)
        (by_hook reads) y Anywhere body_complete b r c h;
    less = less;
  }
