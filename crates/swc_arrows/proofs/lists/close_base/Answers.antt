use Rattle.std.proofs.Common.{◌++◌, map, sym, subst}
use Rattle.swc_nodes.specs.GrowingNodes.{Apart, first_start, last_end}
use Rattle.swc_nodes.specs.NodeParts.{args_parts, expr_part}
use Rattle.swc_nodes.proofs.Held.{from-apart, from-down}
use Rattle.swc_steps.specs.Parsing.{args_at, itself, tree_of, GoesOn}
use Rattle.swc_steps.proofs.Making as m
use Rattle.swc_arrows.specs.{Answers.callee_at, Answers.callee_parts, Readers.base_closed}
use Rattle.swc_arrows.proofs.lists.close_base.Goals as goal

pub returns-in-Some : goal.returns-in-Some
returns-in-Some g c = λ k apart.
    let now = c.args.p.now.nodes in
    let h = c.async_call.ensures in
    let own = subst (λ o. Apart k now (callee_parts o ++ args_parts c.args.list.items)) c.in-Some.is apart in
    subst (λ o. GoesOn g.I.Tokens.model g.B.Bodies.is_faithful itself tree_of
    (base_closed (first_start now (map (λ e. e.expr) c.args.list.items.items)) (last_end now
    (map (λ e. e.expr) c.args.list.items.items))
    (callee_at now o) c.args.start.at (args_at now c.args.list)) k c.args.p.now c.async_call.result c.async_call.new.p)
    (sym c.in-Some.is)
    (m.on c.async_call.result h.reads h.grows
    (m.if_held (λ x. from-down (from-apart (expr_part c.in-Some.callee) (args_parts c.args.list.items) own).above)
    c.async_call.result h.from))

pub returns-in-None : goal.returns-in-None
returns-in-None g c = λ k apart.
    let now = c.args.p.now.nodes in
    let own = subst (λ o. Apart k now (callee_parts o ++ args_parts c.args.list.items)) c.in-None.is apart in
    subst (λ o. GoesOn g.I.Tokens.model g.B.Bodies.is_faithful itself tree_of
    (base_closed (first_start now (map (λ e. e.expr) c.args.list.items.items)) (last_end now
    (map (λ e. e.expr) c.args.list.items.items))
    (callee_at now o) c.args.start.at
    (args_at now c.args.list)) k c.args.p.now c.paren_items.result c.paren_items.new.p)
    (sym c.in-None.is) (c.paren_items.ensures k own)
