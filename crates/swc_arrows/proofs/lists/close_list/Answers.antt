use Rattle.std.proofs.Common.{map, refl, sym, ap, ◌∙◌}
use Rattle.swc_input.specs.Kinds.{at_token}
use Rattle.swc_grammar.specs.Arrows.{is_arrow}
use Rattle.swc_nodes.specs.GrowingNodes.{first_start, last_end}
use Rattle.swc_steps.specs.Parsing.{args_at}
use Rattle.swc_steps.proofs.Steps as s
use Rattle.swc_arrows.specs.Readers.{base_behind, base_closed, base_look, params_closed}
use Rattle.swc_arrows.specs.{Answers.callee_at, Answers.IsBase, declared.names.Beginning.Beginning as begins}
use Rattle.swc_nodes.proofs.Standing.{grows-same}
use Rattle.swc_arrows.proofs.Bases.{if_arrow, look_base}
use Rattle.swc_arrows.proofs.ListReads.{appended, closed_arrow, closed_base, list_after, list_is, list_refused}
use Rattle.swc_arrows.proofs.lists.close_list.Goals as goal

pub returns-in_err-look-clause-rewrites : goal.returns-in_err-look-clause-rewrites
returns-in_err-look-clause-rewrites g c = λ k le apart.
    list_refused g.B.BodyForms.forms c.from_residual.result c.from_residual.ensures.1
    (s.unheard_memory c.in_err-look.ensures.looks) (appended le (grows-same _))

pub returns-then-is_sign-clause-rewrites : goal.returns-then-is_sign-clause-rewrites
returns-then-is_sign-clause-rewrites g c = λ k le apart.
    let now = c.args.p.now.nodes in
    let hook = g.B.BodyForms.forms in
    let xs = map (λ e. e.expr) c.args.list.items.items in
    list_after hook c.parse_params.result
    (s.on_seen {g = params_closed hook (callee_at now c.args.start.callee) c.args.start.at (args_at now c.args.list)}
    c.in_ok-look.ensures.looks (λ x ts same e. closed_arrow hook (first_start now xs) (last_end now xs)
    (callee_at now c.args.start.callee) c.args.start.at (args_at now c.args.list) x ts
    (ap (at_token is_arrow) e ∙ sym c.is_sign.ensures.value ∙ c.if-is_sign.true)))
    refl (c.parse_params.ensures.rewrites k le apart)

pub returns-in_err-base-clause-rewrites : goal.returns-in_err-base-clause-rewrites
returns-in_err-base-clause-rewrites g c = λ k le apart.
    let now = c.args.p.now.nodes in
    let hook = g.B.BodyForms.forms in
    let xs = map (λ e. e.expr) c.args.list.items.items in
    let h = c.in_err-base.ensures k apart in
    list_refused hook c.from_residual-in_err-base.result c.from_residual-in_err-base.ensures.1
    (s.unheard_after (s.on_seen c.in_ok-look.ensures.looks (λ x ts same e. closed_base hook (first_start now xs)
    (last_end now xs)
    (callee_at now c.args.start.callee) c.args.start.at (args_at now c.args.list) x ts
    (ap (at_token is_arrow) e ∙ sym c.is_sign.ensures.value ∙ c.if-is_sign.false)))
    (s.unheard_call (λ x p. base_behind hook p.0 x p.1) (λ x ts. refl) h.reads)) (appended le h.grows)

pub returns-clause-rewrites : goal.returns-clause-rewrites
returns-clause-rewrites g c = λ k le apart.
    let now = c.args.p.now.nodes in
    let hook = g.B.BodyForms.forms in
    let xs = map (λ e. e.expr) c.args.list.items.items in
    let h = c.in_ok-base.ensures k apart in
    list_is hook (begins.Base c.in_ok-base.base)
    (s.on_then (s.on_seen c.in_ok-look.ensures.looks (λ x ts same e. closed_base hook (first_start now xs)
    (last_end now xs)
    (callee_at now c.args.start.callee) c.args.start.at (args_at now c.args.list) x ts
    (ap (at_token is_arrow) e ∙ sym c.is_sign.ensures.value ∙ c.if-is_sign.false)))
    (s.on_call (λ x p. base_behind hook p.0 x p.1) (λ x ts. refl) h.reads)) (appended le h.grows) h.from

pub returns-then-is_sign-clause-base : goal.returns-then-is_sign-clause-base
returns-then-is_sign-clause-base g c =
    let now = c.args.p.now.nodes in
    let xs = map (λ e. e.expr) c.args.list.items.items in
    if_arrow (λ v. IsBase g.I.Tokens.model g.B.Bodies.is_faithful (base_look (first_start now xs) (last_end now xs)
    (callee_at now c.args.start.callee) c.args.start.at (args_at now c.args.list)) c.parse_params.new.p.nodes v
    c.args.p.now.input c.parse_params.new.p.input) (λ h. tt) c.parse_params.result c.parse_params.ensures.arrow

pub returns-clause-base : goal.returns-clause-base
returns-clause-base g c =
    let now = c.args.p.now.nodes in
    let xs = map (λ e. e.expr) c.args.list.items.items in
    let h = c.in_ok-base.ensures 0 c.requires in
    s.on_then (s.on_seen {g = base_closed (first_start now xs) (last_end now xs) (callee_at now c.args.start.callee)
    c.args.start.at (args_at now c.args.list)}
    c.in_ok-look.ensures.looks (λ x ts same e. look_base (first_start now xs) (last_end now xs)
    (callee_at now c.args.start.callee) c.args.start.at (args_at now c.args.list) x ts
    (ap (at_token is_arrow) e ∙ sym c.is_sign.ensures.value ∙ c.if-is_sign.false))) h.reads
