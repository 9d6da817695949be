-- Formal parameters among nodes (15.1): the tree of a pattern, and of parameters, each of which lies where its pattern
-- does.
use Rattle.std.specs.Prelude.{◌≡◌, ℕ, List, [], ◌∷◌, Some, None, map}
use Rattle.std.specs.{declared.alloc.Global.Global, declared.vec.Vec.Vec}
use Rattle.swc_input.specs.declared.token.TokenAndSpan.{TokenAndSpan}
use Rattle.swc_ast.specs.Tree.{Tree, Trees, trees, span_of}
use Rattle.swc_ast.specs.{Trees.listed, declared.function.Param.Param, declared.spanned.Spanned.Ghosts}
use Rattle.swc_grammar.specs.{Clean.Out, Scope.Scope, Tokens.is_rparen, Words.◌>>=◌}
use Rattle.swc_nodes.specs.GrowingNodes.{tree_at, Apart}
use Rattle.swc_nodes.specs.{NodeParts.param_parts, NodeParts.flat, declared.node.PatId.PatId, declared.nodes.Nodes.Nodes}
use Rattle.swc_steps.specs.Keys.{expected}

module _ {F C K : Type 0} {fg : Ghosts F} {cg : Ghosts C} {kg : Ghosts K} where
  abbrev pub pat_at : Nodes F C K fg cg kg → PatId → Tree F C K
  pat_at ns id = tree_at ns id.0

  abbrev pub placed : Nodes F C K fg cg kg → List (Param PatId) → Type 0
  placed ns [] = Unit {0}
  placed ns (p ∷ ps) = (p.span ≡ span_of (pat_at ns p.pat)) × placed ns ps

  abbrev pub params_of : ℕ → Nodes F C K fg cg kg → Vec (Param PatId) Global → Type 0
  params_of k ns ps = Apart k ns (flat param_parts ps.items) × placed ns ps.items

  abbrev pub params_at : Nodes F C K fg cg kg → Vec (Param PatId) Global → Trees F C K
  params_at ns ps = trees (map (λ p. pat_at ns p.pat) ps.items)

module _ {F C K : Type 0} where
  -- after all parameters: the parenthesis that closes them
  unfoldable pub params_close : Trees F C K → Scope → List TokenAndSpan → Out (Tree F C K)
  params_close before c ts = expected is_rparen c ts >>= (λ p. Some (listed None p.0 before, p.1))
