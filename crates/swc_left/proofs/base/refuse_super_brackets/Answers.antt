use Rattle.std.proofs.Common.{true}
use Rattle.swc_steps.proofs.Steps as s
use Rattle.swc_left.proofs.base.refuse_super_brackets.Goals as goal

pub returns-in-Ok : goal.returns-in-Ok
returns-in-Ok g c = s.refuses_later (c.in-Ok.ensures.expects true).on.leads c.refuse_super_link.ensures

pub returns-in-Err : goal.returns-in-Err
returns-in-Err g c = (c.in-Err.ensures.expects true).refuses
