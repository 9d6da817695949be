use Rattle.std.proofs.Common.{sym, ap, ◌∙◌}
use Rattle.std.specs.Option.{is_some}
use Rattle.swc_steps.proofs.Refused.{err_is}
use Rattle.swc_steps.specs.Lists.{is_sign_token}
use Rattle.swc_steps.proofs.Steps as s
use Rattle.swc_patterns.specs.Rests.{behind_by, stage_of}
use Rattle.swc_patterns.proofs.Rests.{passed_stage, separated_item_splits}
use Rattle.swc_patterns.proofs.rest.separate_item.Goals as goal

pub returns-in_err-comma-clause-separates : goal.returns-in_err-comma-clause-separates
returns-in_err-comma-clause-separates g c =
    λ sure. rw (err_is c.from_residual.ensures.1) (s.unheard_call _
    (separated_item_splits (is_sign_token c.args.close) (is_some c.args.dots) (stage_of c.args.rest))
    (c.in_err-comma.ensures.separates sure))

pub returns-in-Some-clause-separates : goal.returns-in-Some-clause-separates
returns-in-Some-clause-separates g c = λ sure.
    s.on_answer (ap (λ o. behind_by (is_some o) (stage_of c.args.rest) c.in_ok-comma.comma) c.in-Some.is)
    (s.on_call _
    (separated_item_splits (is_sign_token c.args.close) (is_some c.args.dots) (stage_of c.args.rest))
    (c.in_ok-comma.ensures.separates sure))

pub returns-in-None-clause-separates : goal.returns-in-None-clause-separates
returns-in-None-clause-separates g c = λ sure.
    s.on_answer
    (ap (λ o. behind_by (is_some o) (stage_of c.args.rest) c.in_ok-comma.comma) c.in-None.is
    ∙ sym (passed_stage c.args.rest) ∙ ap stage_of (sym c.passed.ensures))
    (s.on_call _
    (separated_item_splits (is_sign_token c.args.close) (is_some c.args.dots) (stage_of c.args.rest))
    (c.in_ok-comma.ensures.separates sure))
