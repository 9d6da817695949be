-- What is asked of arguments (13.3.8) once all of them were read, by how many there are and which are spread: the trees
-- of the expressions in them don't matter.
use Rattle.std.specs.Prelude.{Bool, false, not, ◌&&◌, ◌||◌, List, [], ◌∷◌, is_some}
use Rattle.swc_ast.specs.declared.expr.ExprOrSpread.{ExprOrSpread}
use Rattle.swc_grammar.specs.Scope.{Scope}

module _ {X : Type 0} where
  -- no dots are before the item
  abbrev pub is_plain : ExprOrSpread X → Bool
  is_plain x = not (is_some x.spread)

  -- one item, or where `two` may be also two, and none after dots
  abbrev pub few_items : Bool → List (ExprOrSpread X) → Bool
  few_items two (x ∷ []) = is_plain x
  few_items two (x ∷ (y ∷ [])) = two && (is_plain x && is_plain y)
  few_items two xs = false

  -- those of `import` (13.3.10), where the syntax is pedantic, and any others
  abbrev pub counted_ok : Scope → Bool → List (ExprOrSpread X) → Bool
  counted_ok c i xs = not (i && c.syntax.pedantic) || few_items c.syntax.import_attributes xs
