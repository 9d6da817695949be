-- Lists of patterns that are read one after another: elements of an array pattern, with holes among them, and formal
-- parameters. They keep what they stand for.
use Rattle.std.proofs.Common.{◌≡◌, ℕ, List, [], ◌∷◌, ◌++◌, map, Option, Some, None, refl, ap, ◌∙◌}
use Rattle.swc_ast.specs.Tree.{cons, nil, trees}
use Rattle.swc_ast.specs.{Trees.trees_append, declared.function.Param.Param, declared.spanned.Spanned.Ghosts}
use Rattle.swc_nodes.specs.NodeParts.{flat, if_some, one_pat, param_parts}
use Rattle.swc_nodes.specs.GrowingNodes.{tree_at, Apart, Grows}
use Rattle.swc_nodes.specs.{declared.node.PatId.PatId, declared.nodes.Nodes.Nodes}
use Rattle.swc_nodes.proofs.Lists.{SameTrees, same_first, same-front, same-back, apart-trees, list-more}
use Rattle.swc_steps.specs.Params.{pat_at}
use Rattle.swc_patterns.specs.Answers.{if_there}

map-more : {X Y : Type 0} (f : X → Y) (xs : List X) (x : X) → map f (xs ++ x ∷ []) ≡ map f xs ++ f x ∷ []
map-more f [] x = refl
map-more f (y ∷ xs) x = ap (λ ts. f y ∷ ts) (map-more f xs x)

module _ {F C K : Type 0} {fg : Ghosts F} {cg : Ghosts C} {kg : Ghosts K} where
  holed-one : (ns ms : Nodes F C K fg cg kg) (x : Option PatId)
      → SameTrees (tree_at ms) (tree_at ns) (if_some one_pat x) → if_there ms x ≡ if_there ns x
  holed-one ns ms None h = refl
  holed-one ns ms (Some p) h = ap (λ t. Some t) (same_first h)

  holed-same : (ns ms : Nodes F C K fg cg kg) (xs : List (Option PatId))
      → SameTrees (tree_at ms) (tree_at ns) (flat (if_some one_pat) xs) → map (if_there ms) xs ≡ map (if_there ns) xs
  holed-same ns ms [] h = refl
  holed-same ns ms (x ∷ xs) h =
      let first = same-front (tree_at ms) (tree_at ns) (if_some one_pat x) (flat (if_some one_pat) xs) h in
      let others = same-back (tree_at ms) (tree_at ns) (if_some one_pat x) (flat (if_some one_pat) xs) h in
      ap (λ t. t ∷ map (if_there ms) xs) (holed-one ns ms x first)
      ∙ ap (λ ts. if_there ns x ∷ ts) (holed-same ns ms xs others)

  -- elements, and one that is read after them
  pub holed-more : {ns ms : Nodes F C K fg cg kg} {k : ℕ} (xs : List (Option PatId)) (x : Option PatId)
      → Grows ns ms → Apart k ns (flat (if_some one_pat) xs)
      → map (if_there ms) (xs ++ x ∷ []) ≡ map (if_there ns) xs ++ if_there ms x ∷ []
  holed-more {ns = ns} {ms = ms} xs x g a =
      map-more (if_there ms) xs x ∙ ap (λ ts. ts ++ if_there ms x ∷ []) (holed-same ns ms xs (apart-trees g a))

  -- parameters, and one that is read after them
  pub params-more : {ns ms : Nodes F C K fg cg kg} {k : ℕ} (xs : List (Param PatId)) (x : Param PatId)
      → Grows ns ms → Apart k ns (flat param_parts xs) → trees (map (λ p. pat_at ms p.pat) (xs ++ x ∷ []))
      ≡ trees_append (trees (map (λ p. pat_at ns p.pat) xs)) (cons (pat_at ms x.pat) nil)
  params-more xs x g a = list-more param_parts (λ at p. at p.pat.0) (λ at by p h. same_first h) xs x g a
