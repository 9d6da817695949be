use Rattle.std.proofs.Common.{refl, sym, ap, ◌∙◌}
use Rattle.swc_input.specs.Kinds.{at_token}
use Rattle.swc_bodies.specs.Readings.{is_function}
use Rattle.swc_steps.proofs.Refused.{err_is}
use Rattle.swc_steps.specs.Parsing.{by_hook, seen_of}
use Rattle.swc_steps.proofs.Keys as key
use Rattle.swc_steps.proofs.Rules as rule
use Rattle.swc_steps.proofs.Steps as s
use Rattle.swc_primary.proofs.primary.parse_function.Goals as goal

pub returns-in_err-look-clause-reads : goal.returns-in_err-look-clause-reads
returns-in_err-look-clause-reads g c =
    rw (err_is c.from_residual.ensures.1) (s.unheard_memory c.in_err-look.ensures.looks)

pub returns-then-is_sign-clause-reads : goal.returns-then-is_sign-clause-reads
returns-then-is_sign-clause-reads g c =
    s.parses_after g.I.Tokens.model g.B.Bodies.is_faithful (λ v. v) _ _ c.function_here.result
    (s.on_seen {g = by_hook g.B.BodyForms.forms.fun} c.in_ok-look.ensures.looks (λ x ts same e. refl))
    c.function_here.ensures.reads

pub returns-in_err-is_async_function-clause-reads : goal.returns-in_err-is_async_function-clause-reads
returns-in_err-is_async_function-clause-reads g c =
    let r = c.from_residual-in_err-is_async_function in
    rw (err_is r.ensures.1) (s.unheard_memory (s.forgoes_later (s.here_leads c.in_ok-look.ensures.looks)
    c.in_err-is_async_function.ensures.tells))

pub returns-then-branch-clause-reads : goal.returns-then-branch-clause-reads
returns-then-branch-clause-reads g c =
    s.parses_after g.I.Tokens.model g.B.Bodies.is_faithful (λ v. v) _ _ c.function_here-then-branch.result
    (s.on_told {g = by_hook g.B.BodyForms.forms.fun} c.in_ok-look.ensures.looks c.in_ok-is_async_function.ensures.tells
    (λ x ts same e told. refl)) c.function_here-then-branch.ensures.reads

-- what begins no function
pub returns-clause-reads : goal.returns-clause-reads
returns-clause-reads g c =
    let told = c.in_ok-is_async_function.ensures.tells in
    s.unheard_told c.in_ok-look.ensures.looks told
    (λ x ts same e is. key.fun_not _ g.met.B.Bodies.lawful x ts (rule.function_not ts
    (ap (at_token is_function) (e ∙ ap seen_of told.current) ∙ sym c.is_sign.ensures.value ∙ c.if-is_sign.false)
    (is ∙ c.if-branch.false)))
    (c.unexpected.ensures.refuses (λ e. cc))
