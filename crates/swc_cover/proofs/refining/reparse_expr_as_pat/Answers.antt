use Rattle.swc_steps.proofs.Refused.{err_is}
use Rattle.swc_cover.proofs.Refines.{refined-is}
use Rattle.swc_cover.proofs.refining.reparse_expr_as_pat.Goals as goal

pub returns-in-Ok-clause-refined : goal.returns-in-Ok-clause-refined
returns-in-Ok-clause-refined g c =
    refined-is c.args.pat_type c.args.id c.in-Ok.pat c.requires c.in_ok-check_pat.ensures.checks c.in-Ok.ensures.kept
    c.in-Ok.ensures.made

pub returns-in_err-check_pat-clause-unclear : goal.returns-in_err-check_pat-clause-unclear
returns-in_err-check_pat-clause-unclear g c = rw (err_is c.from_residual.ensures.1) c.in_err-check_pat.ensures.unclear

pub returns-in_err-check_pat-clause-judges : goal.returns-in_err-check_pat-clause-judges
returns-in_err-check_pat-clause-judges g c =
    rw (err_is c.from_residual.ensures.1) c.in_err-check_pat.ensures.judges
