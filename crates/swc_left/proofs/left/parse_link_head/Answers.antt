use Rattle.std.proofs.Common.{not, Some, refl, ◌∙◌}
use Rattle.swc_grammar.specs.Words.{◌>>=◌}
use Rattle.swc_steps.proofs.Refused.{err_is}
use Rattle.swc_left.specs.Links.{head_of}
use Rattle.swc_left.proofs.Links as link
use Rattle.swc_steps.proofs.Steps as s
use Rattle.swc_left.proofs.left.parse_link_head.Goals as goal

pub returns-in_err-look-clause-begins : goal.returns-in_err-look-clause-begins
returns-in_err-look-clause-begins g c =
    λ sure. rw (err_is c.from_residual.ensures.1) (s.unheard_memory c.in_err-look.ensures.looks)

pub returns-in_err-link-clause-begins : goal.returns-in_err-link-clause-begins
returns-in_err-link-clause-begins g c =
    λ sure. rw (err_is c.from_residual-in_err-link.ensures.1)
    (s.unheard_memory (s.forgoes_later (s.here_leads c.in_ok-look.ensures.looks) c.in_err-link.ensures.tells))

pub returns-in-None-clause-begins : goal.returns-in-None-clause-begins
returns-in-None-clause-begins g c = λ sure.
    s.on_told c.in_ok-look.ensures.looks c.in_ok-link.ensures.tells
    (λ x ts same e told. link.head_ends (not c.args.no_call) x ts (told ∙ c.in-None.is))

pub returns-in_err-head-clause-begins : goal.returns-in_err-head-clause-begins
returns-in_err-head-clause-begins g c =
    λ sure. rw (err_is c.from_residual-in_err-head.ensures.1)
    (s.unheard_after (s.on_told {g = λ x ts. head_of c.in-Some.link x ts >>=
    (λ p. Some (Some p.0, p.1))} c.in_ok-look.ensures.looks c.in_ok-link.ensures.tells
    (λ x ts same e told. link.head_takes (not c.args.no_call) c.in-Some.link x ts (told ∙ c.in-Some.is)))
    (s.unheard_call (λ x p. Some (Some p.0, p.1)) (λ x ts. refl) (c.in_err-head.ensures.begins sure)))

pub returns-clause-begins : goal.returns-clause-begins
returns-clause-begins g c = λ sure.
    s.on_then (s.on_told {g = λ x ts. head_of c.in-Some.link x ts >>=
    (λ p. Some (Some p.0, p.1))} c.in_ok-look.ensures.looks c.in_ok-link.ensures.tells
    (λ x ts same e told. link.head_takes (not c.args.no_call) c.in-Some.link x ts (told ∙ c.in-Some.is)))
    (s.on_call (λ x p. Some (Some p.0, p.1)) (λ x ts. refl) (c.in_ok-head.ensures.begins sure).on)
