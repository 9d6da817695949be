use Rattle.std.proofs.Common.{refl, ◌∙◌}
use Rattle.swc_steps.proofs.Refused.{err_is}
use Rattle.swc_primary.specs.{Methods.method_tail, Properties.spread_prop_tail}
use Rattle.swc_primary.proofs.Begins.{begins_faulty}
use Rattle.swc_primary.proofs.Properties as props
use Rattle.swc_steps.proofs.Steps as s
use Rattle.swc_primary.proofs.object.parse_prop_head.Goals as goal

pub returns-in_err-look-clause-reads : goal.returns-in_err-look-clause-reads
returns-in_err-look-clause-reads g c =
    rw (err_is c.from_residual.ensures.1) (s.unheard_memory c.in_err-look.ensures.looks)

pub returns-in_err-prop_kind-clause-reads : goal.returns-in_err-prop_kind-clause-reads
returns-in_err-prop_kind-clause-reads g c =
    rw (err_is c.from_residual-in_err-prop_kind.ensures.1)
    (s.unheard_memory (s.forgoes_later (s.here_leads c.in_ok-look.ensures.looks) c.in_err-prop_kind.ensures.tells))

pub returns-in_err-name-in-Shorthand-clause-reads : goal.returns-in_err-name-in-Shorthand-clause-reads
returns-in_err-name-in-Shorthand-clause-reads g c =
    let told = s.on_told c.in_ok-look.ensures.looks c.in_ok-prop_kind.ensures.tells
    (λ x ts same e told. props.short_picked g.B.BodyForms.forms x ts (told ∙ c.in-Shorthand.is)) in
    rw (err_is c.from_residual-in_err-name-in-Shorthand.ensures.1)
    (s.unheard_after told (s.unheard_call _ (props.short_splits _)
    (c.in_err-name-in-Shorthand.ensures.parses g.B.Bodies.is_faithful)))

pub returns-in_ok-name-in-Shorthand-clause-reads : goal.returns-in_ok-name-in-Shorthand-clause-reads
returns-in_ok-name-in-Shorthand-clause-reads g c =
    let told = s.on_told c.in_ok-look.ensures.looks c.in_ok-prop_kind.ensures.tells
    (λ x ts same e told. props.short_picked g.B.BodyForms.forms x ts (told ∙ c.in-Shorthand.is)) in
    s.heard_after told (s.heard_call _ (props.short_splits _) (λ x ts. refl)
    (c.in_ok-name-in-Shorthand.ensures.parses g.B.Bodies.is_faithful))

pub returns-in_err-dots-in-Spread-clause-reads : goal.returns-in_err-dots-in-Spread-clause-reads
returns-in_err-dots-in-Spread-clause-reads g c =
    let told = s.on_told c.in_ok-look.ensures.looks c.in_ok-prop_kind.ensures.tells
    (λ x ts same e told. props.spread_picked g.B.BodyForms.forms x ts (told ∙ c.in-Spread.is)) in
    rw (err_is c.from_residual-in_err-dots-in-Spread.ensures.1)
    (s.unheard_after told (s.unheard_call (λ x p. spread_prop_tail _ p.0 x p.1) (λ x ts. refl)
    (c.in_err-dots-in-Spread.ensures.expects g.B.Bodies.is_faithful)))

pub returns-in_ok-dots-in-Spread-clause-reads : goal.returns-in_ok-dots-in-Spread-clause-reads
returns-in_ok-dots-in-Spread-clause-reads g c =
    let told = s.on_told c.in_ok-look.ensures.looks c.in_ok-prop_kind.ensures.tells
    (λ x ts same e told. props.spread_picked g.B.BodyForms.forms x ts (told ∙ c.in-Spread.is)) in
    s.on_then told (s.on_call (λ x p. spread_prop_tail _ p.0 x p.1) (λ x ts. refl)
    (c.in_ok-dots-in-Spread.ensures.expects g.B.Bodies.is_faithful).on)

pub returns-in_err-name-in-Cover-clause-reads : goal.returns-in_err-name-in-Cover-clause-reads
returns-in_err-name-in-Cover-clause-reads g c =
    let told = s.on_told c.in_ok-look.ensures.looks c.in_ok-prop_kind.ensures.tells
    (λ x ts same e told. props.cover_picked g.B.BodyForms.forms x ts (told ∙ c.in-Cover.is)) in
    rw (err_is c.from_residual-in_err-name-in-Cover.ensures.1)
    (s.unheard_after told (s.unheard_call _ (props.cover_splits _)
    (c.in_err-name-in-Cover.ensures.parses g.B.Bodies.is_faithful)))

pub returns-in_ok-name-in-Cover-clause-reads : goal.returns-in_ok-name-in-Cover-clause-reads
returns-in_ok-name-in-Cover-clause-reads g c =
    let told = s.on_told c.in_ok-look.ensures.looks c.in_ok-prop_kind.ensures.tells
    (λ x ts same e told. props.cover_picked g.B.BodyForms.forms x ts (told ∙ c.in-Cover.is)) in
    s.on_then told (s.on_call _ (props.cover_splits _)
    (c.in_ok-name-in-Cover.ensures.parses g.B.Bodies.is_faithful).on)

pub returns-in-Key-clause-reads : goal.returns-in-Key-clause-reads
returns-in-Key-clause-reads g c =
    s.on_told c.in_ok-look.ensures.looks c.in_ok-prop_kind.ensures.tells
    (λ x ts same e told. props.key_picked g.B.BodyForms.forms x ts (told ∙ c.in-Key.is))

pub returns-in_err-start-in-Method-clause-reads : goal.returns-in_err-start-in-Method-clause-reads
returns-in_err-start-in-Method-clause-reads g c =
    let told = s.on_told c.in_ok-look.ensures.looks c.in_ok-prop_kind.ensures.tells
    (λ x ts same e told. props.method_picked g.B.BodyForms.forms c.in-Method.kind x ts (told ∙ c.in-Method.is)) in
    rw (err_is c.from_residual-in_err-start-in-Method.ensures.1)
    (s.unheard_after told (s.unheard_call (λ x p. method_tail _ c.in-Method.kind p.0 x p.1) (λ x ts. refl)
    (c.in_err-start-in-Method.ensures.parses g.B.Bodies.is_faithful)))

pub returns-in_ok-start-in-Method-clause-reads : goal.returns-in_ok-start-in-Method-clause-reads
returns-in_ok-start-in-Method-clause-reads g c =
    let told = s.on_told c.in_ok-look.ensures.looks c.in_ok-prop_kind.ensures.tells
    (λ x ts same e told. props.method_picked g.B.BodyForms.forms c.in-Method.kind x ts (told ∙ c.in-Method.is)) in
    s.on_then told (s.on_call (λ x p. method_tail _ c.in-Method.kind p.0 x p.1) (λ x ts. refl)
    (c.in_ok-start-in-Method.ensures.parses g.B.Bodies.is_faithful).on)

pub returns-in-Questioned-clause-reads : goal.returns-in-Questioned-clause-reads
returns-in-Questioned-clause-reads g c =
    let told = s.on_told c.in_ok-look.ensures.looks c.in_ok-prop_kind.ensures.tells
    (λ x ts same e told. props.questioned_none g.B.BodyForms.forms x ts (told ∙ c.in-Questioned.is)) in
    begins_faulty g.I.Tokens.model g.B.Bodies.is_faithful g.B.BodyForms.forms _ _ c.parse_questioned_head.result told
    (c.parse_questioned_head.ensures.parses g.B.Bodies.is_faithful)

pub returns-in-Unfit-clause-reads : goal.returns-in-Unfit-clause-reads
returns-in-Unfit-clause-reads g c =
    s.unheard_told c.in_ok-look.ensures.looks c.in_ok-prop_kind.ensures.tells
    (λ x ts same e told. props.unfit_none g.B.BodyForms.forms x ts (told ∙ c.in-Unfit.is)) c.unfit_prop.ensures.refuses
