-- What stays where an expression becomes a pattern.
use Rattle.std.specs.Prelude.{◌≡◌, ℕ, ◌≤◌, List, [], ◌∷◌, ◌⊎◌, take}
use Rattle.swc_ast.specs.declared.spanned.Spanned.{Ghosts}
use Rattle.swc_nodes.specs.{GrowingNodes.count, declared.nodes.Nodes.Nodes}

-- what is one of a list
abbrev pub In : {A : Type 0} → A → List A → Type 0
In a [] = ⊥
In a (x ∷ xs) = (a ≡ x) ⊎ In a xs

module _ {F C K : Type 0} {fg : Ghosts F} {cg : Ghosts C} {kg : Ghosts K} where
  -- the nodes with numbers below k stay
  pub record KeptTo (k : ℕ) (ns ms : Nodes F C K fg cg kg) : Type 0 where
    pub kept : take k ms.nodes.items ≡ take k ns.nodes.items
    pub above : k ≤ count ms
