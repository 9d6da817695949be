use Rattle.std.proofs.Common.{rules, sym, ap, ◌∙◌}
use Rattle.swc_input.specs.Kinds.{at_token}
use Rattle.swc_grammar.specs.Arrows.{is_arrow}
use Rattle.swc_steps.proofs.Refused.{err_is}
use Rattle.swc_steps.proofs.Args.{arrow_stops, arrow_passes}
use Rattle.swc_steps.proofs.Steps as s
use Rattle.swc_primary.proofs.parens.refuse_arrow.Goals as goal

pub returns-in_err-breaks-clause-free : goal.returns-in_err-breaks-clause-free
returns-in_err-breaks-clause-free g c =
    λ sure. rw (err_is c.from_residual.ensures.1) (s.unheard_memory c.in_err-breaks.ensures.looks)

pub returns-then-not-is_sign-clause-free : goal.returns-then-not-is_sign-clause-free
returns-then-not-is_sign-clause-free g c = λ sure.
    s.on_seen c.in_ok-breaks.ensures.looks (λ x ts same e. arrow_passes x ts
    (ap (at_token is_arrow) e ∙ sym c.is_sign.ensures.value ∙ c.if-not-is_sign.true))

pub returns-clause-free : goal.returns-clause-free
returns-clause-free g c = λ sure.
    s.unheard_at c.in_ok-breaks.ensures.looks (λ x ts same e. arrow_stops x ts
    (ap (at_token is_arrow) e ∙ sym c.is_sign.ensures.value ∙ c.if-not-is_sign.false))
    (c.syntax_error.ensures.refuses (search rules))
