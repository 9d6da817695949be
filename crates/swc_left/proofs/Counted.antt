-- Arguments that are counted, by their items and by the tree of their list.
use Rattle.std.specs.Prelude.{◌≡◌, Bool, true, false, not, ◌&&◌, ◌||◌, List, [], ◌∷◌, Option, Some, None, is_some}
use Rattle.std.proofs.Common.{refl, ap, ◌∙◌}
use Rattle.swc_context.specs.declared.span.Span.{Span}
use Rattle.swc_ast.specs.Parts.{item_of, item_tree, item_trees}
use Rattle.swc_ast.specs.Trees.{listed, is_spread, no_spread, is_few}
use Rattle.swc_ast.specs.{Tree.Tree, declared.expr.ExprOrSpread.ExprOrSpread}
use Rattle.swc_grammar.specs.{Parts.import_args_ok, Scope.Scope}
use Rattle.swc_left.specs.Counted.{is_plain, few_items, counted_ok}
use Rattle.swc_steps.proofs.Steps.{and_true}

none_left : (a b : Bool) → (a && (b && false)) ≡ false
none_left true true = refl
none_left true false = refl
none_left false b = refl

module _ {F C K : Type 0} where
  spread_is : (s : Option Span) (t : Tree F C K) → is_spread (item_of s t) ≡ is_some s
  spread_is None t = refl
  spread_is (Some s) t = refl

module _ {F C K X : Type 0} (at : X → Tree F C K) where
  plain_is : (x : ExprOrSpread X) → not (is_spread (item_tree at x)) ≡ is_plain x
  plain_is x = ap not (spread_is x.spread (at x.expr))

  few_is : (two : Bool) (xs : List (ExprOrSpread X))
      → (is_few two (item_trees at xs) && no_spread (item_trees at xs)) ≡ few_items two xs
  few_is two [] = refl
  few_is two (x ∷ []) = and_true (not (is_spread (item_tree at x))) ∙ plain_is x
  few_is true (x ∷ (y ∷ [])) =
      ap (λ b. not (is_spread (item_tree at x)) && b) (and_true (not (is_spread (item_tree at y))))
      ∙ ap (λ b. b && not (is_spread (item_tree at y))) (plain_is x) ∙ ap (λ b. is_plain x && b) (plain_is y)
  few_is false (x ∷ (y ∷ [])) = refl
  few_is two (x ∷ (y ∷ (z ∷ xs))) = refl

  pub counted_is : (c : Scope) (i : Bool) (comma : Option Span) (s : Span) (xs : List (ExprOrSpread X))
      → import_args_ok c i (listed comma s (item_trees at xs)) ≡ counted_ok c i xs
  counted_is c i comma s xs = ap (λ b. not (i && c.syntax.pedantic) || b) (few_is c.syntax.import_attributes xs)
