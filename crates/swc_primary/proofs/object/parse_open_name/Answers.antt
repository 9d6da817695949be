use Rattle.std.proofs.Common.{not, true}
use Rattle.swc_context.specs.Reserved.{is_reserved_word}
use Rattle.swc_input.specs.Buffer.{context}
use Rattle.swc_steps.proofs.Refused.{err_is}
use Rattle.swc_steps.specs.Parsing.{scope, name_spelling}
use Rattle.swc_primary.proofs.Properties.{open_name_splits, open_by_well, open_by_ill}
use Rattle.swc_steps.proofs.Naming.{name_read, name_unread}
use Rattle.swc_steps.proofs.Steps as s
use Rattle.swc_primary.proofs.object.parse_open_name.Goals as goal

pub returns-in_err-name-clause-parses : goal.returns-in_err-name-clause-parses
returns-in_err-name-clause-parses g c =
    λ sure. rw (err_is c.from_residual.ensures.1)
    (s.unheard_call _ open_name_splits (name_unread g.met.I.Tokens.laws c.in_err-name.ensures.names))

pub returns-in_err-check_open_name-clause-parses : goal.returns-in_err-check_open_name-clause-parses
returns-in_err-check_open_name-clause-parses g c =
    λ sure. rw (err_is c.from_residual-in_err-check_open_name.ensures.1)
    (s.unheard_memory (s.forgoes_later (name_read {sure = sure} g.met.I.Tokens.laws c.in_ok-name.ensures.names).on.leads
    c.in_err-check_open_name.ensures.checks))

pub returns-clause-parses : goal.returns-clause-parses
returns-clause-parses g c = λ sure.
    let name = name_spelling c.in_ok-name.name in
    s.heard_more _ open_name_splits (name_read g.met.I.Tokens.laws c.in_ok-name.ensures.names)
    (s.on_checked_in (not (is_reserved_word (context g.I.Tokens.model c.parse_ident_name.new.input)
    c.in_ok-name.name.sym)) c.in_ok-check_open_name.ensures.checks
    (λ ts h. open_by_well (scope g.I.Tokens.model c.parse_ident_name.new.input) name ts h)
    (λ ts h. open_by_ill (scope g.I.Tokens.model c.parse_ident_name.new.input) name ts h))

pub returns-clause-falls : goal.returns-clause-falls
returns-clause-falls g c =
    let h = returns-clause-parses g c true in s.lower (record { leads = h.on.leads; onward = h.onward })
