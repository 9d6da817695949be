use Rattle.std.proofs.Common.{sym, ap, refl, ◌∙◌}
use Rattle.swc_input.specs.{Plain.plain, Kinds.at_token}
use Rattle.swc_grammar.specs.{Parts.lit_of, Clean.is_lit}
use Rattle.swc_steps.proofs.Refused.{err_is}
use Rattle.swc_steps.specs.Parsing.{lit_in}
use Rattle.swc_steps.proofs.Steps as s
use Rattle.swc_steps.proofs.Rules as rule
use Rattle.swc_primary.proofs.Openings.{literal_tree}
use Rattle.swc_primary.proofs.primary.parse_lit.Goals as goal

pub returns-in_err-require_cur-clause-parses : goal.returns-in_err-require_cur-clause-parses
returns-in_err-require_cur-clause-parses g c =
    λ sure. rw (err_is c.from_residual.ensures.1)
    (s.unheard_unfit g.met.I.Tokens.laws (λ x ts h. rule.lit_unfit _ x ts h) c.in_err-require_cur.ensures.fits)

pub returns-then-not-is_lit-clause-parses : goal.returns-then-not-is_lit-clause-parses
returns-then-not-is_lit-clause-parses g c = λ sure.
    s.unheard_at c.in_ok-require_cur.ensures.fits (λ x ts same e.
    rule.lit_not _ x ts (ap (at_token is_lit) e ∙ sym c.is_lit.ensures.value ∙ c.if-not-is_lit.true))
    c.no_primary.ensures.refuses

pub returns-clause-parses : goal.returns-clause-parses
returns-clause-parses g c = λ sure.
    let took = c.bump-token.ensures in
    let e = lit_in c.args.p.now.nodes c.lit_of.result in
    s.heard_after (s.on_seen c.in_ok-require_cur.ensures.fits (λ x ts same h. refl))
    (s.heard_took g.met.I.Tokens.laws took (λ x ts. rule.lit_takes _ e x (plain took.was) ts
    (s.at_was lit_of e took c.prev_span-span.result c.prev_span-span.ensures
    (literal_tree _ _ c.lit_of.result c.lit_of.ensures))))

pub returns-clause-literal : goal.returns-clause-literal
returns-clause-literal g c =
    s.literal_took c.in_ok-require_cur.ensures.fits c.bump-token.ensures
    (s.at_was lit_of (lit_in c.args.p.now.nodes c.lit_of.result) c.bump-token.ensures c.prev_span-span.result
    c.prev_span-span.ensures
    (literal_tree _ _ c.lit_of.result c.lit_of.ensures))
