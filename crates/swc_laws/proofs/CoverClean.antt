-- The cover law and its converse, of what the clean parser reads: what a call's contract comes to.
use Rattle.std.specs.Prelude.{◌≡◌, true, List, ◌∷◌, Some}
use Rattle.swc_context.specs.declared.span.Span.{Span}
use Rattle.swc_input.specs.declared.token.TokenAndSpan.{TokenAndSpan}
use Rattle.swc_ast.specs.{Tree.Tree, Tree.erase_all, Trees.items_of}
use Rattle.swc_bodies.specs.Readings.{Hook, LawfulHook}
use Rattle.swc_grammar.specs.{Scope.Scope, Symbols.Params, Symbols.ArrowParams, Patterns.all_bind_names, Clean.sym, Clean.run}
use Rattle.swc_grammar.proofs.{Complete.complete, Sound.sound}
use Rattle.swc_laws.specs.Bound.{Spelled, is_kept_name}
use Rattle.swc_laws.proofs.CoverLaw.{covering}

module _ {F C K : Type 0} {fun_at : F → Span} {class_at : C → Span} {block_at : K → Span} (hook : Hook F C K)
    (laws : LawfulHook fun_at class_at block_at hook) where
  -- what is read as the parameters of an arrow function is read as parameters
  pub cover-clean : (c : Scope) → (c.context.module ≡ true → c.context.strict ≡ true)
      → (a : TokenAndSpan) (xs ys : List TokenAndSpan) → Spelled (a ∷ xs) → (hs : Tree F C K)
      → run hook (sym ArrowParams) c (a ∷ xs) ≡ Some (hs, ys)
      → all_bind_names (is_kept_name c.context) (items_of hs) ≡ true
      → (qs : Tree F C K) × (run hook (sym Params) c xs ≡ Some (qs, ys))
      × (erase_all (items_of hs) ≡ erase_all (items_of qs))
  cover-clean c strict a xs ys sp hs h b =
      let (qs, d, same) = covering hook c strict a xs ys hs sp (sound hook laws ArrowParams c (a ∷ xs) (hs, ys) h) b in
      (qs, complete hook d tt, same)
