use Rattle.std.proofs.Common.{sym, ap, ◌∙◌}
use Rattle.swc_input.specs.Kinds.{at_token}
use Rattle.swc_grammar.specs.Tokens.{is_star}
use Rattle.swc_steps.proofs.Refused.{err_is}
use Rattle.swc_steps.proofs.Steps as s
use Rattle.swc_operators.proofs.Prefixes as prefix
use Rattle.swc_operators.proofs.prefix.is_await_name.Goals as goal

pub returns-in_err-look-clause-names : goal.returns-in_err-look-clause-names
returns-in_err-look-clause-names g c =
    rw (err_is c.from_residual.ensures.1) (λ sure. s.unheard_memory c.in_err-look.ensures.looks)

pub returns-then-is_sign-clause-names : goal.returns-then-is_sign-clause-names
returns-then-is_sign-clause-names g c = λ sure.
    s.unheard_at c.in_ok-look.ensures.looks (λ x ts same e. prefix.name_star x ts
    (ap (at_token is_star) e ∙ sym c.is_sign.ensures.value ∙ c.if-is_sign.true)) (c.syntax_error.ensures.refuses
    (λ e. cc))

pub returns-clause-names : goal.returns-clause-names
returns-clause-names g c = λ sure.
    prefix.name_told g.I.Tokens.model sure _ c.is_await_ident.result c.in_ok-look.ensures.looks
    (sym c.is_sign.ensures.value ∙ c.if-is_sign.false) c.is_await_ident.ensures.looks c.is_await_ident.ensures.value

pub returns-clause-falls : goal.returns-clause-falls
returns-clause-falls g c =
    s.falls_after g.I.Tokens.model c.is_await_ident.new.input c.is_await_ident.result
    (s.here_leads c.in_ok-look.ensures.looks)
    c.is_await_ident.ensures.falls
