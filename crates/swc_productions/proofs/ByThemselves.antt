-- The clean parser's steps in pieces of expressions that are read by themselves: arguments (13.3.8).
use Rattle.std.proofs.Common.{◌≡◌, Bool, List, [], ◌∷◌, ◌∙◌}
use Rattle.swc_input.specs.declared.token.TokenAndSpan.{TokenAndSpan}
use Rattle.swc_ast.specs.Tree.{Tree}
use Rattle.swc_bodies.specs.Readings.{Hook}
use Rattle.swc_grammar.specs.Scope.{Scope}
use Rattle.swc_grammar.specs.Symbols.{Arguments, Args}
use Rattle.swc_grammar.specs.Tokens.{with_in, is_lparen}
use Rattle.swc_grammar.specs.Clean.{Out, and_then, sym as at, run}
use Rattle.swc_grammar.specs.Words.{◌>>=◌}
use Rattle.swc_grammar.proofs.Knot.{knot}
use Rattle.swc_steps.specs.Keys.{expected}
use Rattle.swc_steps.specs.Args.{args_inside, counted}
use Rattle.swc_steps.proofs.Keys.{then_token}
use Rattle.swc_steps.proofs.Lists.{calls, bind_same}

module _ {F C K : Type 0} (hook : Hook F C K) where
  -- after the parenthesis: the arguments, which are counted
  abbrev pub args_counted : Bool → Scope → List TokenAndSpan → Out (Tree F C K)
  args_counted i x us = args_inside hook i x us >>= (λ q. counted i q.0 x q.1)

  opens : (i : Bool) (x : Scope) (ts : List TokenAndSpan) → run hook (at (Arguments i)) x ts
      ≡ (expected is_lparen x ts
      >>= (λ p. and_then (run hook (at (Args i)) (with_in x) p.1) (λ es us. counted i es x us)))
  opens i x [] =
      knot hook (at (Arguments i)) x []
      ∙ then_token is_lparen x []
      (λ s us. and_then (run hook (at (Args i)) (with_in x) us) (λ es vs. counted i es x vs))
  opens i x (t ∷ ts) =
      knot hook (at (Arguments i)) x (t ∷ ts)
      ∙ then_token is_lparen x (t ∷ ts)
      (λ s us. and_then (run hook (at (Args i)) (with_in x) us) (λ es vs. counted i es x vs))

  pub arguments_splits : (i : Bool) (x : Scope) (ts : List TokenAndSpan)
      → run hook (at (Arguments i)) x ts ≡ (expected is_lparen x ts >>= (λ p. args_counted i x p.1))
  unfolding args_inside
  arguments_splits i x ts =
      opens i x ts ∙ bind_same (expected is_lparen x ts) _ _ (λ p. calls (run hook (at (Args i)) (with_in x) p.1) _)
