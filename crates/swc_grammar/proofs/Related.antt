-- Relations between trees that hold, taken apart.
use Rattle.std.specs.Prelude.{◌≡◌, Bool, true, Option, Some, None}
use Rattle.std.proofs.Common.{refl, sym, ap}
use Rattle.swc_ast.specs.Patterns.{array_p, object_p}
use Rattle.swc_ast.specs.Tree.{Tree, node, array_with, object_with}
use Rattle.swc_grammar.specs.Cover.{target, ◌>>>◌, as_pat, as_elements, as_props, as_literal, is_pattern}
use Rattle.swc_grammar.proofs.Answers.{inj}

-- one after another
pub bind-some : {A B : Type 0} (o : Option A) (f : A → Option B) {r : B} → o >>> f ≡ Some r
    → (x : A) × (o ≡ Some x) × (f x ≡ Some r)
bind-some None f h = cc
bind-some (Some x) f h = (x, refl, h)

module _ {F C K : Type 0} where
  pub literal-is : (strict : Bool) (l p : Tree F C K) → as_literal strict l ≡ Some p
      → (as_pat (target strict) l ≡ Some p) × (is_pattern p ≡ true)
  literal-is strict (node (array_with comma) s ts) p h =
      let (ps, a, b) = bind-some (as_elements (target strict) comma ts) _ h in
      (h, ap is_pattern (sym (inj (array_p s ps) p b)))
  literal-is strict (node (object_with comma) s ts) p h =
      let (ps, a, b) = bind-some (as_props (target strict) comma ts) _ h in
      (h, ap is_pattern (sym (inj (object_p s ps) p b)))
  literal-is strict (node k s ts) p h = absurd cc
