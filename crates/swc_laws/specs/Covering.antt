-- The cover law: what is in parentheses before `=>`, where it binds no `await` in a static block, is parameters of the
-- same patterns, without the parenthesis that opens. The code is a script or a strict module, and the tokens are
-- spelled as a reader spells them.
use Rattle.std.specs.Prelude.{◌≡◌, true, List, ◌∷◌}
use Rattle.swc_input.specs.declared.token.TokenAndSpan.{TokenAndSpan}
use Rattle.swc_ast.specs.{Tree.Tree, Tree.erase_all, Trees.items_of}
use Rattle.swc_bodies.specs.Readings.{Hook}
use Rattle.swc_grammar.specs.{Patterns.all_bind_names, Reads.Reads, Scope.Scope, Symbols.Params, Symbols.ArrowParams}
use Rattle.swc_laws.specs.Bound.{Spelled, is_kept_name}

abbrev pub Covering : {F C K : Type 0} → Hook F C K → Type 0
Covering {F} {C} {K} hook = (c : Scope) → (c.context.module ≡ true → c.context.strict ≡ true)
    → (a : TokenAndSpan) (xs ys : List TokenAndSpan) (hs : Tree F C K) → Spelled (a ∷ xs)
    → Reads hook ArrowParams c (a ∷ xs) ys hs → all_bind_names (is_kept_name c.context) (items_of hs) ≡ true
    → (qs : Tree F C K) × Reads hook Params c xs ys qs × (erase_all (items_of hs) ≡ erase_all (items_of qs))
