use Rattle.std.proofs.Common.{false, sym, ap, ◌∙◌}
use Rattle.swc_input.specs.Plain.{plain}
use Rattle.swc_left.specs.{declared.left.LinkHead.LinkHead as head, Links.chain_head, Links.head_behind}
use Rattle.swc_left.proofs.Links as link
use Rattle.swc_steps.proofs.Steps as s
use Rattle.swc_left.proofs.left.open_link.Goals as goal

pub returns-in-Name-clause-begins : goal.returns-in-Name-clause-begins
returns-in-Name-clause-begins g c = λ sure.
    let first = c.skip.ensures.took.1 in
    s.heard_took g.met.I.Tokens.laws first (λ x ts. link.head_opens c.args.link (plain first.was) x ts
    ∙ ap (λ k. head_behind k (plain first.was).span x ts) c.in-Name.is)

pub returns-in-Computed-clause-begins : goal.returns-in-Computed-clause-begins
returns-in-Computed-clause-begins g c = λ sure.
    let first = c.skip.ensures.took.1 in
    s.heard_answer (ap (λ v. head.Computed v false) (sym
    (s.place_was first c.cur_span-start.result c.cur_span-start.ensures)))
    (s.heard_took g.met.I.Tokens.laws first (λ x ts. link.head_opens c.args.link (plain first.was) x ts
    ∙ ap (λ k. head_behind k (plain first.was).span x ts) c.in-Computed.is))

pub returns-in-Call-clause-begins : goal.returns-in-Call-clause-begins
returns-in-Call-clause-begins g c = λ sure.
    let first = c.skip.ensures.took.1 in
    s.heard_took g.met.I.Tokens.laws first (λ x ts. link.head_opens c.args.link (plain first.was) x ts
    ∙ ap (λ k. head_behind k (plain first.was).span x ts) c.in-Call.is)

pub returns-in-Chain-clause-begins : goal.returns-in-Chain-clause-begins
returns-in-Chain-clause-begins g c = λ sure.
    let first = c.skip.ensures.took.1 in
    s.parses_after g.I.Tokens.model sure (λ h. h) _ _ c.open_chain.result
    (s.on_took {g = chain_head} g.met.I.Tokens.laws first (λ x ts. link.head_opens c.args.link (plain first.was) x ts
    ∙ ap (λ k. head_behind k (plain first.was).span x ts) c.in-Chain.is)) (c.open_chain.ensures.begins sure)

pub returns-in-Template-clause-begins : goal.returns-in-Template-clause-begins
returns-in-Template-clause-begins g c = λ sure.
    let first = c.skip.ensures.took.1 in
    s.heard_answer (ap (λ v. head.Template v)
    (sym (s.place_was first c.cur_span-start.result c.cur_span-start.ensures)))
    (s.heard_took g.met.I.Tokens.laws first (λ x ts. link.head_opens c.args.link (plain first.was) x ts
    ∙ ap (λ k. head_behind k (plain first.was).span x ts) c.in-Template.is))
