-- A node that is of none of some kinds.
use Rattle.std.proofs.Common.{◌≡◌, false, refl}
use Rattle.swc_ast.specs.{declared.expr.Invalid.Invalid, declared.expr.OptChainExpr.OptChainExpr}
use Rattle.swc_nodes.specs.{declared.node.ExprId.ExprId, declared.node.InvalidNode.InvalidNode, declared.node.Node.Node, declared.node.Node.Node as n}
use Rattle.swc_trees.specs.Kinds.{is_chain, is_invalid, is_invalid_pat}

module _ {F C K : Type 0} where
  pub not_chain : (x : Node F C K) → ((c : OptChainExpr ExprId) → x ≡ n.OptChain c → ⊥) → is_chain x ≡ false
  not_chain (n.OptChain c) h = absurd (h c refl)
  not_chain x h = refl

  pub not_invalid : (x : Node F C K) → ((i : InvalidNode) → x ≡ n.Invalid i → ⊥) → is_invalid x ≡ false
  not_invalid (n.Invalid i) h = absurd (h i refl)
  not_invalid x h = refl

  pub not_invalid_pat : (x : Node F C K) → ((i : Invalid) → x ≡ n.PatInvalid i → ⊥) → is_invalid_pat x ≡ false
  not_invalid_pat (n.PatInvalid i) h = absurd (h i refl)
  not_invalid_pat x h = refl
