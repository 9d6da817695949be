use Rattle.std.proofs.Common.{map, sym, ap}
use Rattle.swc_context.specs.Spans.{from_to}
use Rattle.swc_ast.specs.{Parts.item_trees, Trees.paren_e, Trees.held_exprs, declared.expr.ExprOrSpread.ExprOrSpread}
use Rattle.swc_nodes.specs.{Lists.seq_between, NodeParts.args_parts, GrowingNodes.first_start, GrowingNodes.last_end, declared.node.ExprId.ExprId}
use Rattle.swc_nodes.proofs.Standing.{grows-same}
use Rattle.swc_steps.specs.Parsing.{tree_of}
use Rattle.swc_steps.proofs.{Building.made_at, Building.made_over, Naming.goes, Naming.stops}
use Rattle.swc_steps.proofs.Making as m
use Rattle.swc_steps.proofs.Steps as s
use Rattle.swc_primary.proofs.ParenItems.{free_on, not_free}
use Rattle.swc_primary.proofs.primary.paren_items.Goals as goal

pub returns-in_err-refuse_arrow : goal.returns-in_err-refuse_arrow
returns-in_err-refuse_arrow g c = λ k apart.
    m.refused_more c.from_residual.ensures.1
    (not_free _ (c.in_err-refuse_arrow.ensures.free g.B.Bodies.is_faithful)) (grows-same _)

pub returns-in_err-check_paren_items : goal.returns-in_err-check_paren_items
returns-in_err-check_paren_items g c = λ k apart.
    let h = c.in_err-check_paren_items.ensures.refuses in
    m.refused_more c.from_residual-in_err-check_paren_items.ensures.1
    (s.unheard_after (free_on _ (c.in_ok-refuse_arrow.ensures.free g.B.Bodies.is_faithful))
    (record { refuses = h.0; none = λ n sure loud ts z. stops _ _ (h.1 n) })) (grows-same _)

pub returns-in_err-expr : goal.returns-in_err-expr
returns-in_err-expr g c = λ k apart.
    m.refused_more c.from_residual-in_err-expr.ensures.1
    (s.unheard_memory (s.forgoes_later (c.in_ok-refuse_arrow.ensures.free g.B.Bodies.is_faithful).leads
    (s.forgoes_later c.in_ok-check_paren_items.ensures.checks.leads
    (s.forgoes_here g.met.I.Tokens.laws _ _ _ c.in_err-expr.ensures.refused)))) c.seq_of_items-node.ensures.grows

pub returns : goal.returns
returns g c = λ k apart.
    let now = c.args.p.now.nodes in
    let xs = map (λ (x : ExprOrSpread ExprId). x.expr) c.args.list.items.items in
    let held = seq_between (first_start now xs) (last_end now xs)
    (held_exprs (item_trees (tree_of now) c.args.list.items.items)) in
    let over = made_over now c.seq_of_items-node.new.self k
    (args_parts c.args.list.items) held c.seq_of_items-node.result c.seq_of_items-node.ensures.made apart in
    let one = made_at c.seq_of_items-node.new.self k held c.seq_of_items-node.result c.in_ok-expr.expr over
    c.in_ok-expr.ensures.ok in
    m.node_on _ c.paren_expr-node.result c.made-2.result one.from.above c.paren_expr-node.ensures.made
    c.made-2.ensures.ok
    c.made-2.ensures.refused c.seq_of_items-node.ensures.grows c.paren_expr-node.ensures.grows
    (s.on_answer (ap (λ v. paren_e (from_to c.args.start.lo c.args.list.end.hi) v) (sym one.stands))
    (s.on_then (free_on _ (c.in_ok-refuse_arrow.ensures.free g.B.Bodies.is_faithful))
    (s.on_checked_in _ c.in_ok-check_paren_items.ensures.checks (λ ts h. goes _ _ h) (λ ts h. stops _ _ h))))
