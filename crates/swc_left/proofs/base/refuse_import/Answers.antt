use Rattle.swc_steps.proofs.Steps as s
use Rattle.swc_left.proofs.base.refuse_import.Goals as goal

pub returns-in-Err : goal.returns-in-Err
returns-in-Err g c = s.forgoes_refuses c.in-Err.ensures.looks

pub returns-then-is_sign : goal.returns-then-is_sign
returns-then-is_sign g c = s.refuses_later (s.here_leads c.in-Ok.ensures.looks) (c.syntax_error.ensures.refuses
    (λ e. cc))

pub returns : goal.returns
returns g c = s.refuses_later (s.here_leads c.in-Ok.ensures.looks) (c.unexpected.ensures.refuses (λ e. cc))
