use Rattle.std.proofs.Common.{ap}
use Rattle.swc_ast.specs.Tree.{opt_chain, node, nil, cons}
use Rattle.swc_nodes.specs.NodeParts.{base_parts}
use Rattle.swc_trees.proofs.Assembled.{offers-along, made-one, ok-of}
use Rattle.swc_trees.proofs.pieces.chain.Goals as goal

pub chain_base-requires : goal.chain_base-requires
chain_base-requires g c = offers-along base_parts c.into_inner.ensures c.requires

pub returns : goal.returns
returns g c =
    made-one (rw c.into_inner.ensures at (ok-of _ _ c.in_ok-base.base.value c.in_ok-base.ensures c.chain_base.ensures))
    (λ at e. ap (λ v. node (opt_chain c.args.chain.optional) c.args.chain.span (cons v nil)) e)
