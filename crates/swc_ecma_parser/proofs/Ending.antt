-- What a look for the end tells.
use Rattle.std.proofs.Common.{◌≡◌, Bool, true, false, None, Result, IfOk, IfErr, IsSome}
use Rattle.swc_context.specs.declared.error.Error.{Error}
use Rattle.swc_input.specs.Buffer.{Looked, current, last_position, state_of}
use Rattle.swc_input.specs.{declared.buffer.Buffer.Buffer, Source.Model, Recording.no_memory}
use Rattle.swc_input.specs.Calls.{Looks}
use Rattle.swc_ecma_parser.specs.Calls.{SeesEnd}

module _ {S : Type 0} {model : Model S} where
  pub sees_end : {b c : Buffer S} (r : Result Bool Error) → Looks model b r c
      → IfOk r (λ v. v ≡ true → (current c ≡ None) × ((state_of model c).ended ≡ true)) →
      IfOk r (λ v. v ≡ false → IsSome (current c)) → IfErr r
      (λ e. (e ≡ no_memory (last_position c)) × Looked model b c × ((state_of model c).failed ≡ true))
      → SeesEnd model b r c
  sees_end r looks end token refused = record { looks = looks; end = end; token = token; refused = refused }
