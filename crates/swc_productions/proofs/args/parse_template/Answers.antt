use Rattle.std.proofs.Common.{Some, Ok, map, refl, sym, ap}
use Rattle.std.proofs.lemmas.Result.{err_from_is_err_and}
use Rattle.swc_ast.specs.Parts.{quasi_tree}
use Rattle.swc_ast.specs.Tree.{node, span_of, tpl as tpl_kind}
use Rattle.swc_ast.specs.Trees.{to, tpl_e}
use Rattle.swc_nodes.proofs.Lists.{trees-both}
use Rattle.swc_nodes.proofs.Standing.{grows-same}
use Rattle.swc_steps.specs.Parsing.{tree_of}
use Rattle.swc_left.specs.Templates.{template_tail}
use Rattle.swc_left.proofs.Templates as tpl
use Rattle.swc_operators.proofs.InContext.{aside}
use Rattle.swc_steps.proofs.Making as m
use Rattle.swc_steps.proofs.Steps as s
use Rattle.swc_productions.proofs.args.parse_template.Goals as goal

pub returns-in_err-start : goal.returns-in_err-start
returns-in_err-start g c =
    let p = err_from_is_err_and c.from_residual.result c.from_residual.ensures.1 in rw (p.1, p.2)
    (m.no (s.unheard_call (λ x p. template_tail _ c.args.is_tagged p.0 x p.1)
    (λ x ts. tpl.template_splits _ c.args.is_tagged x ts)
    (c.in_err-start.ensures.expects g.B.Bodies.is_faithful)) (grows-same _))

pub returns-in_err-parts : goal.returns-in_err-parts
returns-in_err-parts g c =
    let inner = aside c.get_ctx.ensures c.without_colon-ctx.ensures.decides c.replace_ctx-before.ensures.before
    c.replace_ctx-before.ensures.moves c.replace_ctx-before.ensures.context c.parse_tpl_elements-read.ensures
    c.in_err-parts.was c.replace_ctx.ensures.moves c.replace_ctx.ensures.context in
    let start = c.in_ok-start.start in
    let p = err_from_is_err_and c.from_residual-in_err-parts.result c.from_residual-in_err-parts.ensures.1 in
    rw (p.1, p.2)
    (m.no (s.unheard_after (s.on_call (λ x p. template_tail _ c.args.is_tagged p.0 x p.1)
    (λ x ts. tpl.template_splits _ c.args.is_tagged x ts) (c.in_ok-start.ensures.expects g.B.Bodies.is_faithful).on)
    (s.unheard_call (λ x p. Some (tpl_e (to start (span_of p.0)) p.0, p.1)) (λ x ts. refl)
    inner.reads)) inner.grows)

pub returns : goal.returns
returns g c =
    let inner = aside c.get_ctx.ensures c.without_colon-ctx.ensures.decides c.replace_ctx-before.ensures.before
    c.replace_ctx-before.ensures.moves c.replace_ctx-before.ensures.context c.parse_tpl_elements-read.ensures
    c.in_ok-parts.was c.replace_ctx.ensures.moves c.replace_ctx.ensures.context in
    let start = c.in_ok-start.start in
    let parts = c.in_ok-parts.parts in
    let exprs = map (tree_of c.parse_tpl_elements-read.new.p.nodes) parts.exprs.items in
    m.yes (Ok _)
    (s.heard_answer (ap (λ v. node tpl_kind (to start parts.end) v)
    (sym (trees-both (map quasi_tree parts.quasis.items) exprs)))
    (s.heard_more (λ x p. template_tail _ c.args.is_tagged p.0 x p.1)
    (λ x ts. tpl.template_splits _ c.args.is_tagged x ts) (c.in_ok-start.ensures.expects g.B.Bodies.is_faithful)
    (s.on_call (λ x p. Some (tpl_e (to start (span_of p.0)) p.0, p.1)) (λ x ts. refl) inner.reads.on)))
    inner.grows inner.from
