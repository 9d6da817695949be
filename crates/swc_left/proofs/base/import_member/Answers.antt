use Rattle.std.proofs.Common.{not, refl}
use Rattle.swc_grammar.specs.Tokens.{is_meta, is_source}
use Rattle.swc_steps.proofs.Refused.{err_is}
use Rattle.swc_left.specs.Bases.{import_source}
use Rattle.swc_left.proofs.Bases as base
use Rattle.swc_steps.proofs.Naming.{name_read, name_unread}
use Rattle.swc_steps.proofs.Steps as s
use Rattle.swc_left.proofs.base.import_member.Goals as goal

pub returns-in_err-end-clause-parses : goal.returns-in_err-end-clause-parses
returns-in_err-end-clause-parses g c =
    let b = not c.args.no_call in
    λ sure. rw (err_is c.from_residual.ensures.1)
    (s.unheard_call _ (base.member_begins b c.args.start) (c.in_err-end.ensures.eats sure))

pub returns-in_err-check_import_meta-in-Some-clause-parses : goal.returns-in_err-check_import_meta-in-Some-clause-parses
returns-in_err-check_import_meta-in-Some-clause-parses g c = λ sure.
    let some = s.eats_some sure is_meta _ c.in-Some.end _ _ c.in-Some.is (c.in_ok-end.ensures.eats sure) in
    rw (err_is c.from_residual-in_err-check_import_meta-in-Some.ensures.1)
    (s.unheard_memory (s.forgoes_later some.on.leads c.in_err-check_import_meta-in-Some.ensures.checks))

pub returns-in-Some-clause-parses : goal.returns-in-Some-clause-parses
returns-in-Some-clause-parses g c = λ sure.
    let b = not c.args.no_call in
    let end = c.in-Some.end in
    let some = s.eats_some sure is_meta _ end _ _ c.in-Some.is (c.in_ok-end.ensures.eats sure) in
    s.heard_more _ (base.member_begins b c.args.start) some
    (s.on_checked_in _ c.in_ok-check_import_meta-in-Some.ensures.checks (λ ts h. rw h refl) (λ ts h. rw h refl))

pub returns-in_err-end-2-clause-parses : goal.returns-in_err-end-2-clause-parses
returns-in_err-end-2-clause-parses g c =
    let b = not c.args.no_call in
    λ sure.
    let none = s.eats_none sure is_meta _ _ _ c.in-None.is (c.in_ok-end.ensures.eats sure) in
    rw (err_is c.from_residual-in_err-end-2.ensures.1)
    (s.unheard_after (s.on_call _ (base.member_begins b c.args.start) none)
    (s.unheard_call (λ x q. import_source b c.args.start q.0 x q.1) (λ x ts. refl) (c.in_err-end-2.ensures.eats sure)))

pub returns-in-Some-2-clause-parses : goal.returns-in-Some-2-clause-parses
returns-in-Some-2-clause-parses g c = λ sure.
    let b = not c.args.no_call in
    let end = c.in-Some-2.end in
    let none = s.eats_none sure is_meta _ _ _ c.in-None.is (c.in_ok-end.ensures.eats sure) in
    let some = s.eats_some sure is_source _ end _ _ c.in-Some-2.is (c.in_ok-end-2.ensures.eats sure) in
    s.parses_after g.I.Tokens.model sure (λ h. h) _ _ c.import_callee.result
    (s.on_then (s.on_call _ (base.member_begins b c.args.start) none)
    (s.on_call (λ x q. import_source b c.args.start q.0 x q.1) (λ x ts. refl) some.on))
    (c.import_callee.ensures.parses sure)

pub returns-in_err-parse_ident_name-in-None-2-clause-parses :
    goal.returns-in_err-parse_ident_name-in-None-2-clause-parses
returns-in_err-parse_ident_name-in-None-2-clause-parses g c =
    let b = not c.args.no_call in
    λ sure.
    let none = s.eats_none sure is_meta _ _ _ c.in-None.is (c.in_ok-end.ensures.eats sure) in
    let no = s.eats_none sure is_source _ _ _ c.in-None-2.is (c.in_ok-end-2.ensures.eats sure) in
    rw (err_is c.from_residual-in_err-parse_ident_name-in-None-2.ensures.1)
    (s.unheard_after (s.on_then (s.on_call _ (base.member_begins b c.args.start) none)
    (s.on_call (λ x q. import_source b c.args.start q.0 x q.1) (λ x ts. refl) no))
    (s.unheard_none (λ x ts. refl)
    (name_unread {sure = sure} g.met.I.Tokens.laws c.in_err-parse_ident_name-in-None-2.ensures.names).refuses))

pub returns-in_ok-parse_ident_name-in-None-2-clause-parses : goal.returns-in_ok-parse_ident_name-in-None-2-clause-parses
returns-in_ok-parse_ident_name-in-None-2-clause-parses g c = λ sure.
    let b = not c.args.no_call in
    let none = s.eats_none sure is_meta _ _ _ c.in-None.is (c.in_ok-end.ensures.eats sure) in
    let no = s.eats_none sure is_source _ _ _ c.in-None-2.is (c.in_ok-end-2.ensures.eats sure) in
    s.unheard_after (s.on_then (s.on_call _ (base.member_begins b c.args.start) none)
    (s.on_call (λ x q. import_source b c.args.start q.0 x q.1) (λ x ts. refl) no))
    (s.unheard_none (λ x ts. refl) (s.refuses_later
    (name_read {sure = sure} g.met.I.Tokens.laws c.in_ok-parse_ident_name-in-None-2.ensures.names).on.leads
    (c.unexpected.ensures.refuses (λ e. cc))))
