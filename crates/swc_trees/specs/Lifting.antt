-- Nodes that were taken out for parts, and the parts that were due.
use Rattle.std.specs.Prelude.{◌≡◌, ℕ, true, List, [], ◌∷◌, ◌++◌}
use Rattle.swc_context.specs.declared.span.Span.{Span}
use Rattle.swc_ast.specs.Tree.{Tree}
use Rattle.swc_nodes.specs.NodeParts.{Part, form, view_ok, slots}
use Rattle.swc_nodes.specs.{NodeTree.node_tree, Walking.part_of}
use Rattle.swc_trees.specs.{Moving.AreGiven, declared.taking.Lifted.Lifted}

-- the hook's types, and where their values are
module _ {F C K : Type 0} (fun_at : F → Span) (class_at : C → Span) (block_at : K → Span) where
  -- a node is what its part is to be, and stands for the part's tree where its own parts stand for what is given
  pub record IsOf (at : ℕ → Tree F C K) (l : Lifted F C K) : Type 0 where
    pub view : view_ok (part_of l.part).view (form l.node) ≡ true
    pub of : ℕ → Tree F C K
    pub given : AreGiven at of (slots l.node)
    pub stands : at (part_of l.part).at ≡ node_tree fun_at class_at block_at of l.node

  -- Nodes, the one that was taken out last first, and the parts that were due after and before. Each node's parts were
  -- due in the place of its part.
  abbrev pub Reads : (ℕ → Tree F C K) → List (Lifted F C K) → List Part → List Part → Type 0
  Reads at [] after before = after ≡ before
  Reads at (l ∷ ls) after before = (others : List Part)
      × ((after ≡ others ++ slots l.node) × (IsOf at l × Reads at ls (others ++ part_of l.part ∷ []) before))
