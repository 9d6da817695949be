use Rattle.std.proofs.Common.{◌≡◌, Some, None, true, Ok, ◌&&◌, refl, sym, ap, ◌∙◌}
use Rattle.swc_input.specs.{Buffer.context, Kinds.at_token}
use Rattle.swc_grammar.specs.{Clean.Out, Names.may_refer, Tokens.may_be_reference, Words.◌>>=◌, Words.word}
use Rattle.swc_steps.proofs.Refused.{err_is}
use Rattle.swc_steps.specs.Parsing.{ident_spelling, scope, seen, is_strict}
use Rattle.swc_steps.proofs.Naming.{parses_lower, ref_read, ref_unread}
use Rattle.swc_steps.proofs.Rules as rule
use Rattle.swc_steps.proofs.Steps as s
use Rattle.swc_primary.proofs.primary.parse_reference.Goals as goal

all_of : {A : Type 0} (o : Out A) → o ≡ (o >>= (λ p. Some (p.0, p.1)))
all_of None = refl
all_of (Some p) = refl

pub returns-in_err-ident-clause-parses : goal.returns-in_err-ident-clause-parses
returns-in_err-ident-clause-parses g c =
    λ sure. rw (err_is c.from_residual.ensures.1)
    (ref_unread g.met.I.Tokens.laws c.requires c.in_err-ident.ensures.names)

pub returns-in_err-check_strict_word-clause-parses : goal.returns-in_err-check_strict_word-clause-parses
returns-in_err-check_strict_word-clause-parses g c =
    let r = c.from_residual-in_err-check_strict_word in
    λ sure. rw (err_is r.ensures.1) (s.unheard_memory (s.forgoes_later
    (ref_read {sure = sure} g.met.I.Tokens.laws c.requires c.in_ok-ident.ensures.names).on.leads
    c.in_err-check_strict_word.ensures.checks))

pub returns-clause-parses : goal.returns-clause-parses
returns-clause-parses g c = λ sure.
    let read = ref_read {sure = sure} g.met.I.Tokens.laws c.requires c.in_ok-ident.ensures.names in
    let before = context g.I.Tokens.model c.args.input.now in
    let behind = context g.I.Tokens.model c.parse_ident_ref.new.input in
    let kept = ap (λ x. x.«module») read.on.leads.read.context in
    let strict = at_token (is_strict before.«module») in
    s.heard_unless (behind.«module» && c.is_strict_word-is_strict.result) (λ x p. Some (p.0, p.1))
    (λ x ts. all_of (word may_refer x ts)) (λ x ts. refl)
    (s.seen_some (may_be_reference before) c.args.input.now c.requires) read
    c.in_ok-check_strict_word.ensures.checks
    (λ bad ts first. rule.name_strict (scope g.I.Tokens.model c.args.input.now) ts
    (ap (λ v. before.«module» && strict v) first ∙ ap (λ v. v && strict (seen c.args.input.now)) (sym kept)
    ∙ ap (λ v. behind.«module» && v) (sym c.is_strict_word-is_strict.ensures.value) ∙ bad))

pub returns-clause-falls : goal.returns-clause-falls
returns-clause-falls g c =
    parses_lower g.I.Tokens.model true ident_spelling (word may_refer) _ _ (Ok c.in_ok-ident.ident)
    (returns-clause-parses g c true)
