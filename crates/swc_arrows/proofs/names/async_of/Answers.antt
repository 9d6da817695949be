use Rattle.std.proofs.Common.{Some, sym, subst}
use Rattle.swc_input.specs.Buffer.{context}
use Rattle.swc_ast.specs.Parts.{ident_tree}
use Rattle.swc_nodes.specs.GrowingNodes.{count}
use Rattle.swc_nodes.proofs.Standing.{grows-same}
use Rattle.swc_patterns.proofs.PartlyRead.{refused, left}
use Rattle.swc_steps.specs.Parsing.{scope, ident_spelling, On}
use Rattle.swc_steps.proofs.{Building.made_at, Naming.goes, Naming.stops}
use Rattle.swc_steps.proofs.Steps as s
use Rattle.swc_arrows.specs.Readers.{async_of, base_behind, of_base}
use Rattle.swc_arrows.specs.declared.names.Beginning.{Beginning as begins}
use Rattle.swc_arrows.proofs.names.async_of.Goals as goal

pub returns-in_err-check_async_of-clause-leaves : goal.returns-in_err-check_async_of-clause-leaves
returns-in_err-check_async_of-clause-leaves g c =
    refused c.from_residual.ensures.1 (s.unheard_memory c.in_err-check_async_of.ensures.checks) (grows-same _)

pub returns-in_err-base-clause-leaves : goal.returns-in_err-base-clause-leaves
returns-in_err-base-clause-leaves g c =
    refused c.from_residual-in_err-base.ensures.1
    (s.unheard_memory (s.forgoes_later c.in_ok-check_async_of.ensures.checks.leads
    (s.forgoes_here g.met.I.Tokens.laws _ _ _ c.in_err-base.ensures.refused))) c.ident_expr-node.ensures.grows

pub returns-clause-leaves : goal.returns-clause-leaves
returns-clause-leaves g c =
    let hook = g.B.BodyForms.forms in
    let b = c.args.p.now.input in
    let well = (context g.I.Tokens.model b).expr_ctx.for_await_loop_init in
    let t = ident_tree c.args.name in
    let made = made_at c.ident_expr-node.new.self
    (count c.args.p.now.nodes) t c.ident_expr-node.result c.in_ok-base.base
    c.ident_expr-node.ensures.made c.in_ok-base.ensures.ok in
    let o = s.on_checked_in {f = async_of hook (ident_spelling c.args.name)} {g = base_behind hook t} well
    c.in_ok-check_async_of.ensures.checks
    (λ ts h. goes well (base_behind hook t (scope g.I.Tokens.model b) ts) h)
    (λ ts h. stops well (base_behind hook t (scope g.I.Tokens.model b) ts) h) in
    left (begins.Base c.in_ok-base.base)
    (subst (λ v. On g.I.Tokens.model g.B.Bodies.is_faithful (async_of hook (ident_spelling c.args.name))
    (base_behind hook v)
    b c.check_async_of.new.input) (sym made.stands) o)
    c.ident_expr-node.ensures.grows made.from

pub returns-clause-base : goal.returns-clause-base
returns-clause-base g c =
    let b = c.args.p.now.input in
    let well = (context g.I.Tokens.model b).expr_ctx.for_await_loop_init in
    let t = ident_tree c.args.name in
    let made = made_at c.ident_expr-node.new.self (count c.args.p.now.nodes) t c.ident_expr-node.result
    c.in_ok-base.base c.ident_expr-node.ensures.made c.in_ok-base.ensures.ok in
    s.on_answer (sym made.stands)
    (s.on_checked_in {f = of_base (ident_spelling c.args.name)} {g = s.give t} well
    c.in_ok-check_async_of.ensures.checks
    (λ ts h. goes well (Some (t, ts)) h) (λ ts h. stops well (Some (t, ts)) h))
