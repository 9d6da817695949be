-- Things with names, and where the topmost of each name is.
use Rattle.std.specs.Prelude.{◌≡◌, ℕ, List, [], ◌∷◌, map, Option, option_map, if◌then◌else◌}
use Rattle.std.specs.Str.{bytes_eq}
use Rattle.std.specs.Borrow.{Bor}
use Rattle.std.specs.HashMap.{HashMap, get_by}
use Rattle.std.specs.Option.{option_flatten}
use Rattle.program_scopes.specs.Stacks.{found}
use Rattle.program_scopes.specs.declared.name_stack.Item.{Item}

-- where a table says that the topmost thing of the name is
abbrev pub place_in : {S : Type 0} → HashMap (Bor (List ℕ)) (Option ℕ) S → List ℕ → Option ℕ
place_in last q = option_flatten (get_by (λ k. bytes_eq q k.now) last)

-- a table is after the topmost thing of a name was noted as it was before, but for this name
abbrev pub Notes : (List ℕ → Option ℕ) → (List ℕ → Option ℕ) → List ℕ → Option ℕ → Type 0
Notes p p' name place = (q : List ℕ) → p' q ≡ (if bytes_eq name q then place else p q)

module _ {T : Type 0} where
  -- the names and the things, in their order
  abbrev pub named : List (Item T) → List (List ℕ × T)
  named is = map (λ i. (i.name.now, i.value)) is

  -- where the topmost thing is that has the name
  abbrev pub index_of : List ℕ → List (List ℕ × T) → Option ℕ
  index_of q xs = option_map (λ p. p.0) (found q xs)

  -- each of these, the topmost first, says where the next is that has its name
  abbrev pub AreChained : List (Item T) → Type 0
  AreChained [] = Unit {0}
  AreChained (i ∷ is) = (i.below ≡ index_of i.name.now (named is)) × AreChained is

  -- a table says where the topmost of each name is, and each thing where the next is
  pub record AreLinked (is : List (Item T)) (p : List ℕ → Option ℕ) : Type 0 where
    pub topmost : (q : List ℕ) → p q ≡ index_of q (named is)
    pub chained : AreChained is
