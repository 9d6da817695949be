-- New numbers, in place of those that a node's parts are named by.
use Rattle.std.specs.Prelude.{◌≡◌, ℕ, ◌-◌, List, map, get_or, nat_lt, if◌then◌else◌}
use Rattle.swc_ast.specs.Tree.{Tree}
use Rattle.swc_nodes.specs.{NodeParts.Part, declared.renumbering.Numbers.Numbers}

-- the new number of an old one; one that has none stays
abbrev pub given : Numbers → ℕ → ℕ
given ids k = if nat_lt k ids.from then k else get_or ids.ids.items (k - ids.from) k

abbrev pub with_given : Numbers → Part → Part
with_given ids p = record { at = given ids p.at; view = p.view }

module _ {F C K : Type 0} where
  -- The parts have the new numbers, and the tree is what it was with what is given for those.
  pub record Renumbered {Y : Type 0} (parts : Y → List Part) (of : (ℕ → Tree F C K) → Y → Tree F C K) (ids : Numbers)
      (old new : Y) : Type 0 where
    pub placed : parts new ≡ map (with_given ids) (parts old)
    pub stands : (at : ℕ → Tree F C K) → of at new ≡ of (λ k. at (given ids k)) old
