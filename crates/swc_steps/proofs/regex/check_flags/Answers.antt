use Rattle.std.proofs.Common.{ℕ, List, MatchResult, subst, ◌∙◌}
use Rattle.swc_input.specs.Recording.{is_some}
use Rattle.swc_input.specs.Calls.{Checks, Forgoes}
use Rattle.swc_grammar.specs.Parts.{has_unknown, repeated, flags_ok}
use Rattle.swc_steps.proofs.Refused.{err_is}
use Rattle.swc_steps.proofs.Steps.{check_later}
use Rattle.swc_steps.proofs.regex.check_flags.Goals as goal

pub returns-in_err-check_known-clause-checks : goal.returns-in_err-check_known-clause-checks
returns-in_err-check_known-clause-checks g c = rw (err_is c.from_residual.ensures.1) c.in_err-check_known.ensures.checks

pub returns-clause-checks : goal.returns-clause-checks
returns-clause-checks g c =
    let model = g.I.Tokens.model in
    let b = c.args.input.now in
    let d = c.check_once.new.input in
    let flags = c.as_bytes-flags.result.now in
    let P : List ℕ → Type 0 = λ fs. MatchResult c.check_once.result (λ x. Checks model (flags_ok fs) b d)
    (λ e. Forgoes model b e d) in
    subst P (c.as_bytes-flags.ensures.value ∙ c.as_str.ensures)
    (check_later model (has_unknown flags) (is_some (repeated flags)) _ _ _ c.check_once.result
    c.in_ok-check_known.ensures.checks c.check_once.ensures.checks)
