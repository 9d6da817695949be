-- The converse of the cover law: parameters by free names, with a parenthesis before them, are those of an arrow
-- function, and the same patterns.
use Rattle.std.specs.Prelude.{◌≡◌, true, List, ◌∷◌}
use Rattle.swc_input.specs.declared.token.TokenAndSpan.{TokenAndSpan}
use Rattle.swc_ast.specs.{Tree.Tree, Tree.erase_all, Trees.items_of}
use Rattle.swc_bodies.specs.Readings.{Hook}
use Rattle.swc_grammar.specs.{Patterns.all_bind_names, Reads.Reads, Scope.Scope, Symbols.Params, Symbols.ArrowParams, Tokens.is_lparen}
use Rattle.swc_laws.specs.Bound.{is_free_name}

abbrev pub Converse : {F C K : Type 0} → Hook F C K → Type 0
Converse {F} {C} {K} hook = (c : Scope) (a : TokenAndSpan) (xs ys : List TokenAndSpan) (qs : Tree F C K)
    → is_lparen a.token ≡ true → Reads hook Params c xs ys qs → all_bind_names is_free_name (items_of qs) ≡ true
    → (hs : Tree F C K) × Reads hook ArrowParams c (a ∷ xs) ys hs × (erase_all (items_of hs) ≡ erase_all (items_of qs))
