use Rattle.std.proofs.Common.{refl, sym, ap, subst}
use Rattle.std.specs.Prelude.{IsSome}
use Rattle.swc_steps.proofs.Refused.{err_is}
use Rattle.swc_steps.proofs.Steps.{forgoes_refuses, refuses_later}
use Rattle.swc_cover.proofs.FaultsNoted.{refused-at}
use Rattle.swc_cover.specs.Noting.{no_pattern, refusal_of}
use Rattle.swc_context.specs.declared.error.SyntaxError.TheVariants.{InvalidPat}
use Rattle.swc_cover.proofs.noting.record_found.Goals as goal

pub returns-in_err-record_all-clause-refuses : goal.returns-in_err-record_all-clause-refuses
returns-in_err-record_all-clause-refuses g c =
    let h = c.in_err-record_all.ensures.checks in
    rw (err_is c.from_residual.ensures.1) (forgoes_refuses h, λ n. absurd (n h.kind))

pub returns-in-Some-clause-refuses : goal.returns-in-Some-clause-refuses
returns-in-Some-clause-refuses g c = (
  refuses_later c.in_ok-record_all.ensures.checks.leads
      (c.syntax_error.ensures.refuses (λ e. cc)),
  λ n. subst IsSome (sym c.in-Some.is) refl,
)

pub returns-in-None-clause-checks : goal.returns-in-None-clause-checks
returns-in-None-clause-checks g c = (c.in-None.is, c.in_ok-record_all.ensures.checks)

pub returns-in_err-record_all-clause-judges : goal.returns-in_err-record_all-clause-judges
returns-in_err-record_all-clause-judges g c =
    let h = c.in_err-record_all.ensures.checks in rw (err_is c.from_residual.ensures.1) (λ n. absurd (n h.kind))

pub returns-in-Some-clause-judges : goal.returns-in-Some-clause-judges
returns-in-Some-clause-judges g c = λ n. record {
  fault = no_pattern c.in-Some.span;
  is = ap refusal_of c.in-Some.is;
  noted = _;
  notes = c.in_ok-record_all.ensures.notes;
  refused = refused-at c.in-Some.span c.in_order.result InvalidPat c.in_order.ensures c.syntax_error.ensures.refused;
}

pub returns-in-None-clause-judges : goal.returns-in-None-clause-judges
returns-in-None-clause-judges g c = (ap refusal_of c.in-None.is, c.in_ok-record_all.ensures.notes)
