use Rattle.std.proofs.Common.{◌≡◌, IfOk, sym, ap, subst, ◌∙◌}
use Rattle.swc_nodes.specs.{GrowingNodes.bare_at, NodeTree.prop_of, NodeParts.prop_parts}
use Rattle.swc_trees.specs.Moving.{prop_or_spread_in, prop_node_as}
use Rattle.swc_ast.specs.TreeOf.{prop_or_spread_tree}
use Rattle.swc_trees.proofs.Rebuilt.{left-none, left-piece, piece-offered, piece-made}
use Rattle.swc_trees.proofs.taking.take_prop.Goals as goal

pub returns-in_err-parts-clause-left : goal.returns-in_err-parts-clause-left
returns-in_err-parts-clause-left g c = left-none (prop_parts c.args.prop) c.requires

pub returns-in_err-built-clause-left : goal.returns-in_err-built-clause-left
returns-in_err-built-clause-left g c = left-piece c.in_ok-parts.ensures c.take_all.ensures.left

pub assemble-requires : goal.assemble-requires
assemble-requires g c = rw c.into_inner.ensures (piece-offered
    (prop_parts c.args.prop) c.in_ok-parts.ensures c.in_ok-built.ensures)

pub returns-clause-left : goal.returns-clause-left
returns-clause-left g c = left-piece c.in_ok-parts.ensures c.in_ok-built.ensures.left

pub returns-clause-moved : goal.returns-clause-moved
returns-clause-moved g c =
    subst
    (λ p. IfOk c.assemble.result (λ y. prop_or_spread_in c.args.nodes.now y ≡ prop_node_as c.args.nodes.now
    (bare_at c.args.nodes.now) p))
    c.into_inner.ensures
    (piece-made
    (λ at y. prop_or_spread_tree _ _ _ g.F.Spanned.place g.C.Spanned.place g.K.Spanned.place y ≡ prop_of
    g.F.Spanned.place g.C.Spanned.place g.K.Spanned.place at c.into_inner.result)
    (prop_parts c.into_inner.result) _ c.assemble.result
    (c.in_ok-parts.ensures ∙ ap prop_parts (sym c.into_inner.ensures)) c.in_ok-built.ensures c.assemble.ensures)
