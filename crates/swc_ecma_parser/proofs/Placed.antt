-- Where the syntax is pedantic private names are where they may be, also in what is left of a list: its items alone.
use Rattle.std.proofs.Common.{◌≡◌, Bool, true, false, List, ◌∙◌}
use Rattle.swc_input.specs.declared.token.TokenAndSpan.{TokenAndSpan}
use Rattle.swc_ast.specs.{Pedantic.all_privates_ok, Pedantic.privates_ok, Tree.Tree, Tree.node, Trees.items_of}
use Rattle.swc_bodies.specs.Readings.{Hook}
use Rattle.swc_grammar.specs.Symbols.{Symbol, Arguments, ArrowParams}
use Rattle.swc_grammar.specs.{Reads.Reads, Scope.Scope}
use Rattle.swc_laws.proofs.{PedanticTrees.all-privates-unmarked, Privates.privates-listed}
use Rattle.swc_ecma_parser.specs.Promise.{items_and_comma, keep_items, only_items}

module _ {F C K : Type 0} where
  only_placed : (t : Tree F C K) → all_privates_ok false false (items_of t) ≡ true
      → privates_ok false (only_items t) ≡ true
  only_placed (node k s ts) h = all-privates-unmarked false false ts ∙ h

  comma_placed : (t : Tree F C K) → all_privates_ok false false (items_of t) ≡ true
      → privates_ok false (items_and_comma t) ≡ true
  comma_placed (node k s ts) h = all-privates-unmarked false false ts ∙ h

-- in what is derived as the symbol, as `strip` leaves it
abbrev pub PrivatesLeft : {F C K : Type 0} → Hook F C K → (Tree F C K → Tree F C K) → Symbol → Type 0
PrivatesLeft {F} {C} {K} hook strip s = (c : Scope) (xs ys : List TokenAndSpan) (t : Tree F C K)
    → Reads hook s c xs ys t → c.syntax.pedantic ≡ true → privates_ok false (strip t) ≡ true

module _ {F C K : Type 0} (hook : Hook F C K) where
  pub arguments-placed : {i : Bool} → PrivatesLeft hook only_items (Arguments i)
  arguments-placed c xs ys t d y = only_placed t (privates-listed d y)

  pub list-placed : {i : Bool} → PrivatesLeft hook items_and_comma (Arguments i)
  list-placed c xs ys t d y = comma_placed t (privates-listed d y)

  pub params-placed : PrivatesLeft hook only_items ArrowParams
  params-placed c xs ys t d y = only_placed t (privates-listed d y)

  pub params-kept-placed : PrivatesLeft hook keep_items ArrowParams
  params-kept-placed c xs ys t d y = privates-listed d y
