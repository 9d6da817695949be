-- Rests in lists of patterns, as the code sees them, and what may be read after them.
use Rattle.std.proofs.Common.{◌≡◌, Bool, List, Some, None, refl}
use Rattle.swc_input.specs.{declared.token.Token.Token, declared.token.TokenAndSpan.TokenAndSpan}
use Rattle.swc_grammar.specs.{Scope.Scope, Words.◌>>=◌}
use Rattle.swc_steps.specs.Lists.{separated}
use Rattle.swc_patterns.specs.Rests.{Stage, behind_item, behind_by, stage_of, passed, separated_item}
use Rattle.swc_patterns.specs.declared.rest.SeenRest.{SeenRest, SeenRest as seen}

-- after an item that is no rest
pub passed_stage : (r : SeenRest) → stage_of (passed r) ≡ behind_item (stage_of r)
passed_stage seen.No = refl
passed_stage (seen.Last rest None) = refl
passed_stage (seen.Last rest (Some comma)) = refl
passed_stage (seen.Earlier rest) = refl

pub separated_item_splits : (f : Token → Bool) (is_rest : Bool) (s : Stage) (x : Scope) (ts : List TokenAndSpan)
    → separated_item f is_rest s x ts ≡ (separated f x ts >>= (λ p. Some (behind_by is_rest s p.0, p.1)))
unfolding separated_item
separated_item_splits f is_rest s x ts = refl
