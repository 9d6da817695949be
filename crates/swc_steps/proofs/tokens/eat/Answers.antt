use Rattle.std.proofs.Common.{Some, refl, sym, ap, ◌∙◌}
use Rattle.swc_input.specs.{Plain.plain, Kinds.at_token}
use Rattle.swc_steps.specs.Lists.{is_sign_token, eaten}
use Rattle.swc_steps.proofs.{Lists.eaten_not, Lists.eaten_takes, Rules.passes_plain}
use Rattle.swc_steps.proofs.Steps as s
use Rattle.swc_steps.proofs.tokens.eat.Goals as goal

pub returns-then-not-is_sign-clause-eats : goal.returns-then-not-is_sign-clause-eats
returns-then-not-is_sign-clause-eats g c = λ sure.
    s.on_seen c.in_ok-look.ensures.looks (λ x ts same e. eaten_not (is_sign_token c.args.sign) x ts
    (ap (at_token (is_sign_token c.args.sign)) e ∙ sym c.is_sign.ensures.value ∙ c.if-not-is_sign.true))

pub returns-clause-eats : goal.returns-clause-eats
returns-clause-eats g c = λ sure.
    let took = c.skip.ensures.took.1 in
    s.heard_answer (ap (λ v. Some v) (sym (s.place_was took c.cur_span-span.result c.cur_span-span.ensures)))
    (s.heard_after (s.on_seen {f = eaten (is_sign_token c.args.sign)}
    {g = eaten (is_sign_token c.args.sign)} c.in_ok-look.ensures.looks (λ x ts same e. refl))
    (s.heard_took g.met.I.Tokens.laws took
    (λ x ts. eaten_takes (is_sign_token c.args.sign) x (plain took.was) ts
    (passes_plain (is_sign_token c.args.sign) _ took.was took.current
    (sym c.is_sign.ensures.value ∙ c.if-not-is_sign.false)))))
