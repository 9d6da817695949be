use Rattle.swc_steps.proofs.Refused.{err_is}
use Rattle.swc_ecma_parser.specs.WholeList.{tried, refused, lost}
use Rattle.swc_ecma_parser.proofs.whole.try_whole_pat.Goals as goal

pub returns-in_err-pat-clause-tries : goal.returns-in_err-pat-clause-tries
returns-in_err-pat-clause-tries g c = rw (err_is c.from_residual.ensures.1) (refused c.in_err-pat.ensures.promised)

pub returns-in_err-at_end-clause-tries : goal.returns-in_err-at_end-clause-tries
returns-in_err-at_end-clause-tries g c =
    rw (err_is c.from_residual-in_err-at_end.ensures.1) (lost c.in_ok-pat.ensures.promised c.in_err-at_end.ensures)

pub returns-clause-tries : goal.returns-clause-tries
returns-clause-tries g c = tried c.in_ok-pat.ensures.promised c.in_ok-at_end.ensures
