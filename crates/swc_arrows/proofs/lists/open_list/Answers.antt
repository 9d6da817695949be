use Rattle.std.proofs.Common.{Some, None, refl, sym, subst, ap, arith, ◌∙◌}
use Rattle.swc_ast.specs.Trees.{ident_e}
use Rattle.swc_grammar.specs.{Tokens.is_lparen, Words.◌>>=◌}
use Rattle.swc_nodes.specs.{GrowingNodes.count, NodeParts.expr_part}
use Rattle.swc_nodes.proofs.{Held.apart-from, Lists.apart-none, Standing.grows-same}
use Rattle.swc_patterns.proofs.PartlyRead.{refused, left}
use Rattle.swc_steps.specs.{Keys.expected, Parsing.ident_spelling, Parsing.On}
use Rattle.swc_steps.proofs.Building.{made_at}
use Rattle.swc_steps.proofs.Steps as s
use Rattle.swc_arrows.specs.Readers.{list_head, list_rest, spelling_of}
use Rattle.swc_arrows.proofs.{Bases.on_async_list, Bases.paren_starts, ListReads.paren_opens, ListReads.async_opens}
use Rattle.swc_arrows.proofs.lists.open_list.Goals as goal

pub returns-in_err-at-clause-leaves : goal.returns-in_err-at-clause-leaves
returns-in_err-at-clause-leaves g c =
    let hook = g.B.BodyForms.forms in
    refused c.from_residual.ensures.1
    (s.unheard_call (λ x p. list_rest hook None p.0 x p.1) (paren_opens hook c.args.is_async c.if-not-is_async.true)
    (c.in_err-at.ensures.expects g.B.Bodies.is_faithful)) (grows-same _)

pub returns-then-not-is_async-clause-leaves : goal.returns-then-not-is_async-clause-leaves
returns-then-not-is_async-clause-leaves g c =
    let hook = g.B.BodyForms.forms in
    left _ (s.on_call (λ x p. list_rest hook None p.0 x p.1) (paren_opens hook c.args.is_async c.if-not-is_async.true)
    (c.in_ok-at.ensures.expects g.B.Bodies.is_faithful).on) (grows-same _)
    (apart-none {ns = c.args.p.now.nodes} {k = count c.args.p.now.nodes} (omega arith))

pub returns-in_err-name-clause-leaves : goal.returns-in_err-name-clause-leaves
returns-in_err-name-clause-leaves g c =
    let hook = g.B.BodyForms.forms in
    refused c.from_residual-in_err-name.ensures.1
    (s.unheard_call (λ x p. expected is_lparen x p.1 >>= (λ q. list_rest hook
    (Some (ident_e p.0.at p.0.text)) p.0.at x q.1))
    (async_opens hook c.args.is_async c.if-not-is_async.false) (c.in_err-name.ensures.parses g.B.Bodies.is_faithful))
    (grows-same _)

pub returns-in_err-expect-clause-leaves : goal.returns-in_err-expect-clause-leaves
returns-in_err-expect-clause-leaves g c =
    let hook = g.B.BodyForms.forms in
    let n = ident_spelling c.in_ok-name.name in
    refused c.from_residual-in_err-expect.ensures.1
    (s.unheard_after
    (s.on_call (λ x p. expected is_lparen x p.1 >>= (λ q. list_rest hook (Some (ident_e p.0.at p.0.text)) p.0.at x q.1))
    (async_opens hook c.args.is_async c.if-not-is_async.false) (c.in_ok-name.ensures.parses g.B.Bodies.is_faithful).on)
    (s.unheard_call (λ x q. list_rest hook (Some (ident_e n.at n.text)) n.at x q.1) (λ x ts. refl)
    (c.in_err-expect.ensures.expects g.B.Bodies.is_faithful))) (grows-same _)

pub returns-in_err-callee-clause-leaves : goal.returns-in_err-callee-clause-leaves
returns-in_err-callee-clause-leaves g c =
    refused c.from_residual-in_err-callee.ensures.1
    (s.unheard_memory (s.forgoes_later (c.in_ok-name.ensures.parses g.B.Bodies.is_faithful).on.leads
    (s.forgoes_later (c.in_ok-expect.ensures.expects g.B.Bodies.is_faithful).on.leads
    (s.forgoes_here g.met.I.Tokens.laws _ _ _ c.in_err-callee.ensures.refused)))) c.ident_expr-node.ensures.grows

pub returns-clause-leaves : goal.returns-clause-leaves
returns-clause-leaves g c =
    let hook = g.B.BodyForms.forms in
    let n = ident_spelling c.in_ok-name.name in
    let t = ident_e n.at n.text in
    let made = made_at c.ident_expr-node.new.self
    (count c.args.p.now.nodes) t c.ident_expr-node.result c.in_ok-callee.callee
    c.ident_expr-node.ensures.made c.in_ok-callee.ensures.ok in
    left _ (subst (λ v. On g.I.Tokens.model g.B.Bodies.is_faithful (list_head hook c.args.is_async) (list_rest hook
    (Some v) n.at)
    c.args.p.now.input c.expect-2.new.input) (sym made.stands)
    (s.on_then
    (s.on_call (λ x p. expected is_lparen x p.1 >>= (λ q. list_rest hook (Some (ident_e p.0.at p.0.text)) p.0.at x q.1))
    (async_opens hook c.args.is_async c.if-not-is_async.false) (c.in_ok-name.ensures.parses g.B.Bodies.is_faithful).on)
    (s.on_call (λ x q. list_rest hook (Some (ident_e n.at n.text)) n.at x q.1) (λ x ts. refl)
    (c.in_ok-expect.ensures.expects g.B.Bodies.is_faithful).on)))
    c.ident_expr-node.ensures.grows (apart-from (expr_part c.in_ok-callee.callee) made.from)

pub returns-clause-callee : goal.returns-clause-callee
returns-clause-callee g c =
    let n = ident_spelling c.in_ok-name.name in
    let t = ident_e n.at n.text in
    let made = made_at c.ident_expr-node.new.self
    (count c.args.p.now.nodes) t c.ident_expr-node.result c.in_ok-callee.callee
    c.ident_expr-node.ensures.made c.in_ok-callee.ensures.ok in
    made.stands ∙ ap (λ v. ident_e n.at (spelling_of v).text) (sym made.stands)

pub returns-then-not-is_async-clause-opens : goal.returns-then-not-is_async-clause-opens
returns-then-not-is_async-clause-opens g c =
    s.heard_as (λ at. (None, at)) (paren_starts c.args.is_async c.if-not-is_async.true)
    (c.in_ok-at.ensures.expects g.B.Bodies.is_faithful)

pub returns-clause-opens : goal.returns-clause-opens
returns-clause-opens g c =
    let n = ident_spelling c.in_ok-name.name in
    let t = ident_e n.at n.text in
    let made = made_at c.ident_expr-node.new.self (count c.args.p.now.nodes) t c.ident_expr-node.result
    c.in_ok-callee.callee c.ident_expr-node.ensures.made c.in_ok-callee.ensures.ok in
    s.heard_answer (ap (λ v. (Some v, n.at)) (sym made.stands))
    (s.heard_after (on_async_list g.met.I.Tokens.laws c.args.is_async c.args.p.now.input c.if-not-is_async.false
    (c.requires c.if-not-is_async.false))
    (s.heard_more (λ x p. expected is_lparen x p.1 >>= (λ q. Some ((Some (ident_e p.0.at p.0.text), p.0.at), q.1)))
    (λ x ts. refl) (c.in_ok-name.ensures.parses g.B.Bodies.is_faithful)
    (s.on_call (λ x q. Some ((Some t, n.at), q.1)) (λ x ts. refl)
    (c.in_ok-expect.ensures.expects g.B.Bodies.is_faithful).on)))
