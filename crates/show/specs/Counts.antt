-- Functions, classes and blocks, of which the tokens are counted.
use Rattle.std.specs.Prelude.{length, Result, Ok, Err}
use Rattle.swc_context.specs.declared.error.Error.{Error}
use Rattle.swc_bodies.specs.{Body.Body, Taking.token_forms, Laws.token_forms_read, Replaying.token_forms_replay}
use Rattle.swc_bodies.specs.Mapped.{mapped_forms, mapped_forms_read, mapped_forms_replay}
use Rattle.swc_bodies.specs.{Readings.Hook, Readings.LawfulHook, Slashes.ReplayHook}
use Rattle.show.specs.declared.counted.Counted.{Counted}

-- a body, counted
abbrev pub counted : Body → Counted
counted b = record { span = b.span; tokens = length b.tokens }

-- a body that was read, counted; or the refusal
abbrev pub counted_answer : Result Body Error → Result Counted Error
counted_answer (Ok b) = Ok (counted b)
counted_answer (Err e) = Err e

-- What is read of functions, classes and blocks: what `token_forms` reads, counted.
abbrev pub counted_forms : Hook Counted Counted Counted
counted_forms = mapped_forms counted counted counted token_forms

-- the laws of the hook
pub counted_forms_read : LawfulHook (λ (c : Counted). c.span) (λ (c : Counted). c.span) (λ (c : Counted). c.span)
    counted_forms
counted_forms_read = mapped_forms_read counted counted counted (λ c. c.span) (λ c. c.span) (λ c. c.span) token_forms
    token_forms_read

pub counted_forms_replay : ReplayHook counted_forms
counted_forms_replay = mapped_forms_replay counted counted counted token_forms token_forms_replay
