use Rattle.std.proofs.Common.{Ok, refl, ◌∙◌}
use Rattle.swc_nodes.proofs.Standing.{grows-same}
use Rattle.swc_steps.specs.Args.{counted}
use Rattle.swc_steps.specs.Parsing.{scope, tree_of}
use Rattle.swc_left.specs.Counted.{counted_ok}
use Rattle.swc_left.proofs.Counted.{counted_is}
use Rattle.swc_operators.proofs.InContext.{args_within}
use Rattle.swc_productions.proofs.ByThemselves as piece
use Rattle.swc_steps.proofs.Making as m
use Rattle.swc_steps.proofs.Steps as s
use Rattle.swc_productions.proofs.args.parse_arguments.Goals as goal

pub returns-in_err-open : goal.returns-in_err-open
returns-in_err-open g c =
    m.refused c.from_residual.ensures.1
    (s.unheard_call _ (piece.arguments_splits _ c.args.is_dynamic_import)
    (c.in_err-open.ensures.expects g.B.Bodies.is_faithful)) (grows-same _)

pub returns-in_err-list : goal.returns-in_err-list
returns-in_err-list g c =
    let inner = args_within g.B.BodyForms.forms c.args.is_dynamic_import c.get_ctx.ensures
    c.items_context-ctx.ensures.decides c.replace_ctx-before.ensures.before c.replace_ctx-before.ensures.moves
    c.replace_ctx-before.ensures.context c.parse_args-read.ensures c.in_err-list.was c.replace_ctx.ensures.moves
    c.replace_ctx.ensures.context in
    let i = c.args.is_dynamic_import in
    m.refused c.from_residual-in_err-list.ensures.1
    (s.unheard_after (s.on_call _ (piece.arguments_splits _ i) (c.in_ok-open.ensures.expects g.B.Bodies.is_faithful).on)
    (s.unheard_call (λ x q. counted i q.0 x q.1) (λ x ts. refl) inner.reads)) inner.grows

pub returns-in_err-check_import_args : goal.returns-in_err-check_import_args
returns-in_err-check_import_args g c =
    let inner = args_within g.B.BodyForms.forms c.args.is_dynamic_import c.get_ctx.ensures
    c.items_context-ctx.ensures.decides c.replace_ctx-before.ensures.before c.replace_ctx-before.ensures.moves
    c.replace_ctx-before.ensures.context c.parse_args-read.ensures c.in_ok-list.was c.replace_ctx.ensures.moves
    c.replace_ctx.ensures.context in
    m.refused c.from_residual-in_err-check_import_args.ensures.1
    (s.unheard_memory (s.forgoes_later (c.in_ok-open.ensures.expects g.B.Bodies.is_faithful).on.leads
    (s.forgoes_later inner.reads.on.leads c.in_err-check_import_args.ensures.checks)))
    inner.grows

pub returns : goal.returns
returns g c =
    let inner = args_within g.B.BodyForms.forms c.args.is_dynamic_import c.get_ctx.ensures
    c.items_context-ctx.ensures.decides c.replace_ctx-before.ensures.before c.replace_ctx-before.ensures.moves
    c.replace_ctx-before.ensures.context c.parse_args-read.ensures c.in_ok-list.was c.replace_ctx.ensures.moves
    c.replace_ctx.ensures.context in
    let i = c.args.is_dynamic_import in
    let l = c.in_ok-list.list in
    let x = scope g.I.Tokens.model c.replace_ctx.new.input in
    let same = counted_is (tree_of c.parse_args-read.new.p.nodes) x i l.trailing_comma l.end l.items.items in
    m.yes (Ok l)
    (s.heard_after (s.on_call _ (piece.arguments_splits _ i) (c.in_ok-open.ensures.expects g.B.Bodies.is_faithful).on)
    (s.heard_more (λ x q. counted i q.0 x q.1) (λ x ts. refl) inner.reads
    (s.on_checked_in (counted_ok x i l.items.items) c.in_ok-check_import_args.ensures.checks
    (λ ts h. rw (same ∙ h) refl) (λ ts h. rw (same ∙ h) refl)))) inner.grows inner.from
