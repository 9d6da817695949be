use Rattle.std.proofs.Common.{refl, sym, ap, ◌∙◌}
use Rattle.swc_input.specs.{Kinds.at_token, Buffer.current}
use Rattle.swc_bodies.specs.Readings.{is_brace}
use Rattle.swc_steps.proofs.Refused.{err_is}
use Rattle.swc_steps.specs.{Parsing.by_hook, declared.tokens.Sign.TheVariants.LBrace}
use Rattle.swc_steps.proofs.Hearing as hearing
use Rattle.swc_steps.proofs.{Naming.parses_lower, Signs.sign_here}
use Rattle.swc_steps.proofs.Keys as key
use Rattle.swc_steps.proofs.Steps as s
use Rattle.swc_primary.proofs.methods.parse_block.Goals as goal

pub returns-in_err-look-clause-reads : goal.returns-in_err-look-clause-reads
returns-in_err-look-clause-reads g c =
    rw (err_is c.from_residual.ensures.1) (s.unheard_memory c.in_err-look.ensures.looks)

pub returns-then-not-is_sign-clause-reads : goal.returns-then-not-is_sign-clause-reads
returns-then-not-is_sign-clause-reads g c =
    s.unheard_at c.in_ok-look.ensures.looks
    (λ x ts same e. key.block_not _ g.met.B.Bodies.lawful x ts
    (ap (at_token is_brace) e ∙ sym c.is_sign.ensures.value ∙ c.if-not-is_sign.true)) (c.unexpected.ensures.refuses
    (λ e. cc))

pub returns-clause-reads : goal.returns-clause-reads
returns-clause-reads g c =
    s.parses_after g.I.Tokens.model g.B.Bodies.is_faithful (λ v. v) _ _ c.answered.result
    (s.on_seen {g = by_hook g.B.BodyForms.forms.block} c.in_ok-look.ensures.looks (λ x ts same e. refl))
    (hearing.hook_parses g.I.Tokens.model g.met.I.Tokens.laws _ g.met.B.Bodies.lawful.block.viewed
    g.B.Bodies.is_faithful _ c.block-answer.result c.answered.result
    c.block-answer.ensures.hooked c.block-answer.ensures.faithful c.answered.ensures.runs c.answered.ensures.fails)

pub block-answer-requires : goal.block-answer-requires
block-answer-requires g c =
    sign_here LBrace (current c.look.new.input) (sym c.is_sign.ensures.value ∙ c.if-not-is_sign.false)

pub returns-clause-falls : goal.returns-clause-falls
returns-clause-falls g c =
    parses_lower g.I.Tokens.model g.B.Bodies.is_faithful (λ v. v) (by_hook g.B.BodyForms.forms.block) _ _
    c.answered.result (returns-clause-reads g c)
