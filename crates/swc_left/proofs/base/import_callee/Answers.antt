use Rattle.std.proofs.Common.{not, Some, refl, ap}
use Rattle.swc_steps.proofs.Refused.{err_is}
use Rattle.swc_left.specs.declared.base.ImportHead.TheVariants as begun
use Rattle.swc_left.proofs.Bases as base
use Rattle.swc_steps.proofs.Steps as s
use Rattle.swc_left.proofs.base.import_callee.Goals as goal

pub returns-then-no_call-clause-parses : goal.returns-then-no_call-clause-parses
returns-then-no_call-clause-parses g c = λ sure.
    s.unheard_none (λ x ts. base.import_no_call (not c.args.no_call) c.args.import x ts (ap not c.if-no_call.true))
    c.refuse_import.ensures

pub returns-in_err-expect-clause-parses : goal.returns-in_err-expect-clause-parses
returns-in_err-expect-clause-parses g c =
    λ sure. rw (err_is c.from_residual.ensures.1)
    (s.unheard_call (λ x p. Some (begun.Call c.args.import, p.1))
    (λ x ts. base.import_calls (not c.args.no_call) c.args.import x ts (ap not c.if-no_call.false))
    (c.in_err-expect.ensures.expects sure))

pub returns-clause-parses : goal.returns-clause-parses
returns-clause-parses g c = λ sure.
    s.heard_call (λ x p. Some (begun.Call c.args.import, p.1))
    (λ x ts. base.import_calls (not c.args.no_call) c.args.import x ts (ap not c.if-no_call.false)) (λ x ts. refl)
    (c.in_ok-expect.ensures.expects sure)
