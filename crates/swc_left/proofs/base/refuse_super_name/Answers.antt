use Rattle.std.proofs.Common.{refl}
use Rattle.swc_steps.proofs.Making as m
use Rattle.swc_steps.proofs.Steps as s
use Rattle.swc_left.proofs.base.refuse_super_name.Goals as goal

pub returns-in_err-parse_member_name : goal.returns-in_err-parse_member_name
returns-in_err-parse_member_name g c =
    m.refused c.from_residual.ensures.1
    (s.unheard_none (λ x ts. refl) c.in_err-parse_member_name.ensures.reads.refuses) c.parse_member_name.ensures.grows

pub returns : goal.returns
returns g c =
    m.no (s.unheard_none (λ x ts. refl) (s.refuses_later c.in_ok-parse_member_name.ensures.reads.on.leads
    c.refuse_super_link.ensures)) c.parse_member_name.ensures.grows
