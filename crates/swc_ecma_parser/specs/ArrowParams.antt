-- The parameters of an arrow function, read from their parenthesis on (ECMA-262, 13.2.9 and 15.3): as they are among
-- the nodes, before they are moved out of these.
use Rattle.std.specs.Prelude.{ℕ, List, Some}
use Rattle.std.specs.{declared.alloc.Global.Global, declared.vec.Vec.Vec}
use Rattle.swc_input.specs.declared.token.TokenAndSpan.{TokenAndSpan}
use Rattle.swc_ast.specs.Tree.{Tree, node, args, no_span}
use Rattle.swc_ast.specs.declared.spanned.Spanned.{Ghosts}
use Rattle.swc_bodies.specs.Readings.{Hook}
use Rattle.swc_cover.specs.Refining.{pats_at}
use Rattle.swc_grammar.specs.Clean.{Out, sym, run}
use Rattle.swc_grammar.specs.{Scope.Scope, Symbols.ArrowParams, Words.◌>>=◌}
use Rattle.swc_nodes.specs.{GrowingNodes.Apart, Lists.pats_parts, declared.node.PatId.PatId, declared.nodes.Nodes.Nodes}
use Rattle.swc_ecma_parser.specs.Promise.{keep_items}

-- what is read of them: the parameters alone, since the answer has no place for that of the list
abbrev pub params_items : {F C K : Type 0} → Hook F C K → Scope → List TokenAndSpan → Out (Tree F C K)
params_items hook c ts = run hook (sym ArrowParams) c ts >>= (λ p. Some (keep_items p.0, p.1))

module _ {F C K : Type 0} {fg : Ghosts F} {cg : Ghosts C} {kg : Ghosts K} where
  -- what they hold of numbers, and what they stand for
  abbrev pub arrow_params_of : ℕ → Nodes F C K fg cg kg → Vec PatId Global → Type 0
  arrow_params_of k ns ps = Apart k ns (pats_parts ps)

  abbrev pub arrow_params_at : Nodes F C K fg cg kg → Vec PatId Global → Tree F C K
  arrow_params_at ns ps = node args no_span (pats_at ns ps.items)
