-- What the calls on pieces of expressions answer: templates of which no node is made.
use Rattle.std.specs.Prelude.{ℕ}
use Rattle.swc_ast.specs.Parts.{tpl_tree}
use Rattle.swc_ast.specs.Tree.{Tree}
use Rattle.swc_ast.specs.declared.expr.Tpl.{Tpl}
use Rattle.swc_ast.specs.declared.spanned.Spanned.{Ghosts}
use Rattle.swc_nodes.specs.Lists.{exprs_parts}
use Rattle.swc_nodes.specs.GrowingNodes.{Apart}
use Rattle.swc_nodes.specs.declared.node.ExprId.{ExprId}
use Rattle.swc_nodes.specs.declared.nodes.Nodes.{Nodes}
use Rattle.swc_steps.specs.Parsing.{tree_of}

module _ {F C K : Type 0} {fg : Ghosts F} {cg : Ghosts C} {kg : Ghosts K} where
  -- what a template holds of numbers, and what it stands for
  abbrev pub tpl_of : ℕ → Nodes F C K fg cg kg → Tpl ExprId → Type 0
  tpl_of k ns t = Apart k ns (exprs_parts t.exprs)

  abbrev pub tpl_at : Nodes F C K fg cg kg → Tpl ExprId → Tree F C K
  tpl_at ns t = tpl_tree (tree_of ns) t
