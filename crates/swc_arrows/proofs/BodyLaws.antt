-- What the clean parser reads of the body of an arrow function (15.3, 15.9), as the code does it.
use Rattle.std.specs.Prelude.{◌≡◌, Bool, true, false, List, [], ◌∷◌, Some, None}
use Rattle.std.proofs.Common.{refl, sym, ap, ◌∙◌}
use Rattle.swc_context.specs.{Contexts.arrow_body, declared.span.Span.Span}
use Rattle.swc_input.specs.{declared.token.TokenAndSpan.TokenAndSpan, Kinds.at_token}
use Rattle.swc_ast.specs.Trees.{block_e}
use Rattle.swc_bodies.specs.Readings.{Hook, LawfulHook, is_brace}
use Rattle.swc_grammar.specs.Clean.{Out, first, sym as at, run, hear_then}
use Rattle.swc_grammar.specs.Symbols.{Assign, ArrowBody, block}
use Rattle.swc_grammar.specs.{Scope.Scope, Scope.in_context, Words.◌>>=◌}
use Rattle.swc_grammar.proofs.Bodies.{hears, hears-place, hears-run}
use Rattle.swc_grammar.proofs.{Complete.last, Knot.knot}
use Rattle.swc_arrows.specs.Readers.{block_inside}

module _ {F C K : Type 0} (hook : Hook F C K) where
  -- a block, which the hook reads, in the context of the body
  pub body_block : {fun_at : F → Span} {class_at : C → Span} {block_at : K → Span}
      → LawfulHook fun_at class_at block_at hook → (a : Bool) (x : Scope) (ts : List TokenAndSpan)
      → at_token is_brace (first ts) ≡ true
      → run hook (at (ArrowBody a)) x ts ≡ block_inside hook block_at (in_context (arrow_body a) x) ts
  unfolding block_inside
  body_block laws a x [] h = absurd cc
  body_block {block_at = block_at} laws a x (t ∷ us) h =
      knot hook (at (ArrowBody a)) x (t ∷ us) ∙ rw h (by_what (hook.block (arrow_body a x.context) (t ∷ us)) refl)
    where
      ts : List TokenAndSpan
      ts = t ∷ us

      by_what : (o : Out K) → hook.block (arrow_body a x.context) (t ∷ us) ≡ o
          → hear_then (hook.block (arrow_body a x.context) (t ∷ us)) (t ∷ us)
          (λ v s us. Some (block_e {F = F} {C = C} {K = K} s v, us))
          ≡ (hook.block (arrow_body a x.context) (t ∷ us) >>= (λ p. Some (block_e (block_at p.0) p.0, p.1)))
      by_what None e = rw e refl
      by_what (Some p) e =
          let h = hears hook laws block (in_context (arrow_body a) x) (t ∷ us) p.0 p.1 e in
          hears-run h (λ v s us. Some (block_e s v, us))
          ∙ ap (λ s. Some (block_e s p.0, p.1))
          (sym (hears-place hook laws block (in_context (arrow_body a) x) (t ∷ us) p.0 p.1 h))
          ∙ ap (λ o. o >>= (λ p. Some (block_e (block_at p.0) p.0, p.1))) (sym e)

  -- an assignment expression, in that context
  pub body_expr : (a : Bool) (x : Scope) (ts : List TokenAndSpan) → at_token is_brace (first ts) ≡ false
      → run hook (at (ArrowBody a)) x ts ≡ run hook (at Assign) (in_context (arrow_body a) x) ts
  body_expr a x [] h =
      knot hook (at (ArrowBody a)) x [] ∙ last hook (Some 15) (at Assign) (in_context (arrow_body a) x) [] refl
  body_expr a x (t ∷ us) h =
      knot hook (at (ArrowBody a)) x (t ∷ us)
      ∙ rw h (rw h (last hook (Some 15) (at Assign) (in_context (arrow_body a) x) (t ∷ us) refl))
