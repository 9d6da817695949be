-- Parameters that lie where their patterns do: the same among more nodes, and one more of them.
use Rattle.std.proofs.Common.{◌≡◌, ℕ, List, [], ◌∷◌, ◌++◌, sym, ap, ◌∙◌}
use Rattle.swc_ast.specs.{Tree.span_of, declared.function.Param.Param, declared.spanned.Spanned.Ghosts}
use Rattle.swc_nodes.specs.NodeParts.{flat, param_parts, pat_part}
use Rattle.swc_nodes.specs.GrowingNodes.{count, tree_at, Apart, From, Grows}
use Rattle.swc_nodes.specs.{declared.node.PatId.PatId, declared.nodes.Nodes.Nodes}
use Rattle.swc_nodes.proofs.Held.{apart-from}
use Rattle.swc_nodes.proofs.Lists.{SameTrees, same_first, same_rest, apart-list-more, apart-trees}
use Rattle.swc_steps.specs.Params.{pat_at, placed}

module _ {F C K : Type 0} {fg : Ghosts F} {cg : Ghosts C} {kg : Ghosts K} where
  placed-same : (ns ms : Nodes F C K fg cg kg) (ps : List (Param PatId))
      → SameTrees (tree_at ms) (tree_at ns) (flat param_parts ps) → placed ns ps → placed ms ps
  placed-same ns ms [] h p = tt
  placed-same ns ms (x ∷ xs) h p = (p.0 ∙ ap span_of (sym (same_first h)), placed-same ns ms xs (same_rest h) p.1)

  placed-more : (ns : Nodes F C K fg cg kg) (ps : List (Param PatId)) (x : Param PatId) → placed ns ps
      → x.span ≡ span_of (pat_at ns x.pat) → placed ns (ps ++ x ∷ [])
  placed-more ns [] x p e = (e, tt)
  placed-more ns (y ∷ ys) x p e = (p.0, placed-more ns ys x p.1 e)

  pub params-later : {ns ms : Nodes F C K fg cg kg} {k : ℕ} (ps : List (Param PatId)) → Grows ns ms
      → Apart k ns (flat param_parts ps) → placed ns ps → placed ms ps
  params-later {ns} {ms} ps g a p = placed-same ns ms ps (apart-trees g a) p

  pub params-more : {ns ms : Nodes F C K fg cg kg} {k : ℕ} (ps : List (Param PatId)) (x : Param PatId) → Grows ns ms
      → Apart k ns (flat param_parts ps) × placed ns ps → From (count ns) ms (pat_part x.pat)
      → x.span ≡ span_of (pat_at ms x.pat) → Apart k ms (flat param_parts (ps ++ x ∷ [])) × placed ms (ps ++ x ∷ [])
  params-more {ms = ms} ps x g a f e = (
    apart-list-more param_parts ps x g a.0 (apart-from (pat_part x.pat) f),
    placed-more ms ps x (params-later ps g a.0 a.1) e,
  )
