use Rattle.std.proofs.Common.{Some, true, refl, sym, ap, ◌∙◌}
use Rattle.swc_input.specs.{Plain.plain, Kinds.at_token}
use Rattle.swc_grammar.specs.Tokens.{is_word}
use Rattle.swc_steps.proofs.Refused.{err_is}
use Rattle.swc_steps.specs.Keys.{named_key, name_key, literal_key, is_key_lit}
use Rattle.swc_steps.proofs.Keys as key
use Rattle.swc_steps.proofs.Naming.{name_read, name_unread}
use Rattle.swc_steps.proofs.Steps as s
use Rattle.swc_primary.proofs.object.parse_plain_prop_name.Goals as goal

pub returns-in_err-require_cur-clause-parses : goal.returns-in_err-require_cur-clause-parses
returns-in_err-require_cur-clause-parses g c =
    λ sure. rw (err_is c.from_residual.ensures.1)
    (s.unheard_unfit g.met.I.Tokens.laws (λ x ts h. key.plain_key_unfit x ts h) c.in_err-require_cur.ensures.fits)

pub returns-in_err-name-clause-parses : goal.returns-in_err-name-clause-parses
returns-in_err-name-clause-parses g c =
    λ sure. rw (err_is c.from_residual-in_err-name.ensures.1) (s.unheard_after
    (s.on_seen {g = name_key} c.in_ok-require_cur.ensures.fits (λ x ts same e. key.name_key_here x ts
    (ap (at_token is_word) e ∙ sym c.is_word.ensures.value ∙ c.if-is_word.true)))
    (s.unheard_call (λ x p. Some (named_key p.0, p.1)) (λ x ts. refl)
    (name_unread g.met.I.Tokens.laws c.in_err-name.ensures.names)))

pub returns-then-is_word-clause-parses : goal.returns-then-is_word-clause-parses
returns-then-is_word-clause-parses g c = λ sure.
    s.heard_after
    (s.on_seen {g = name_key} c.in_ok-require_cur.ensures.fits (λ x ts same e. key.name_key_here x ts
    (ap (at_token is_word) e ∙ sym c.is_word.ensures.value ∙ c.if-is_word.true)))
    (s.heard_as named_key (λ x ts. refl) (name_read g.met.I.Tokens.laws c.in_ok-name.ensures.names))

pub returns-then-is_word-clause-falls : goal.returns-then-is_word-clause-falls
returns-then-is_word-clause-falls g c =
    let h = returns-then-is_word-clause-parses g c true in s.lower (record { leads = h.on.leads; onward = h.onward })

pub returns-then-not-is_key_lit-clause-parses : goal.returns-then-not-is_key_lit-clause-parses
returns-then-not-is_key_lit-clause-parses g c = λ sure.
    s.unheard_at c.in_ok-require_cur.ensures.fits (λ x ts same e. key.plain_key_not x ts
    (ap (at_token is_word) e ∙ sym c.is_word.ensures.value ∙ c.if-is_word.false)
    (ap (at_token is_key_lit) e ∙ sym c.is_key_lit.ensures.value ∙ c.if-not-is_key_lit.true))
    (c.unexpected.ensures.refuses (λ e. cc))

pub returns-clause-parses : goal.returns-clause-parses
returns-clause-parses g c = λ sure.
    let took = c.bump-token.ensures in
    let k = c.key_lit_of.result in
    s.heard_after (s.on_seen c.in_ok-require_cur.ensures.fits (λ x ts same h. refl))
    (s.heard_took g.met.I.Tokens.laws took (λ x ts. key.lit_key_takes k x (plain took.was) ts
    (s.at_was literal_key k took c.prev_span-span.result c.prev_span-span.ensures c.key_lit_of.ensures.literal)))
