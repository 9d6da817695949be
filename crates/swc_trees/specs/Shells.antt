-- Nodes of trees, each before those of its parts, and which trees they are read back to, from the last on.
use Rattle.std.specs.Prelude.{◌≡◌, List, [], ◌∷◌, ◌++◌, length}
use Rattle.swc_context.specs.declared.span.Span.{Span}
use Rattle.swc_nodes.specs.NodeParts.{slots}
use Rattle.swc_trees.specs.{Building.built_tree, Moving.IsNode, Splitting.Split, Splitting.built_view, declared.built.Built.Built, declared.putting.Shell.Shell}

module _ {F C K : Type 0} (fun_at : F → Span) (class_at : C → Span) (block_at : K → Span) where
  -- The node is one for a tree, whose parts are the last of the list, from the place `from` on. `rest` holds of the
  -- list where the tree takes their place.
  pub record Closes (x : Shell F C K) (list : List (Built F C K)) (rest : List (Built F C K) → Type 0) : Type 0 where
    pub front : List (Built F C K)
    pub tree : Built F C K
    pub from : x.from ≡ length front
    pub split : Split fun_at class_at block_at slots (IsNode fun_at class_at block_at (built_view tree)
        (built_tree fun_at class_at block_at tree)) front x.node list
    pub rest_of : rest (front ++ tree ∷ [])

  -- The nodes, the first first, each in place of its parts, make one list of the other.
  abbrev pub Reads : List (Shell F C K) → List (Built F C K) → List (Built F C K) → Type 0
  Reads [] list all = list ≡ all
  Reads (x ∷ xs) list all = Closes x list (λ next. Reads xs next all)
