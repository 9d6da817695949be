-- Operands of binary operators: a `#` and a name that are free, or a unary expression.
use Rattle.std.proofs.Common.{◌≡◌, Bool, true, false, ◌&&◌, List, Option, refl, ap, ◌∙◌}
use Rattle.swc_input.specs.{declared.token.TokenAndSpan.TokenAndSpan, Kinds.at_token, Kinds.is_hash}
use Rattle.swc_ast.specs.Tree.{Tree}
use Rattle.swc_bodies.specs.Readings.{Hook}
use Rattle.swc_grammar.specs.Clean.{Out, first, sym as at, links, updates, run}
use Rattle.swc_grammar.specs.{Scope.Scope, Symbols.Unary, Words.◌>>=◌}
use Rattle.swc_steps.proofs.Steps.Inner.{inner_is}
use Rattle.swc_steps.specs.Readers.{behind_operand, is_private_here, operand, private_operand}

-- whether one begins is told of the current token
pub told_here : (f b : Bool) {x y : Scope} (ts : List TokenAndSpan) {o : Option TokenAndSpan} → x ≡ y → first ts ≡ o
    → (f && (y.syntax.pedantic && at_token is_hash o)) ≡ b → is_private_here f x ts ≡ b
told_here f b {y = y} ts same e h =
    ap (λ z. f && (z.syntax.pedantic && at_token is_hash (first ts))) same
    ∙ ap (λ v. f && (y.syntax.pedantic && at_token is_hash v)) e ∙ h

module _ {F C K : Type 0} (hook : Hook F C K) where
  -- after a left-hand side's links, and after what begins one
  abbrev pub updated : Scope → Tree F C K × List TokenAndSpan → Out (Tree F C K)
  updated x p = run hook (updates p.0) x p.1

  abbrev pub behind : Scope → Tree F C K × List TokenAndSpan → Out (Tree F C K)
  behind x p = run hook (links true p.0) x p.1 >>= updated x

  pub unary_operand : (f : Bool) (x : Scope) (ts : List TokenAndSpan) → is_private_here f x ts ≡ false
      → operand hook f x ts ≡ run hook (at Unary) x ts
  unfolding operand
  unary_operand f x ts h = rw h refl

  pub private_first : (f : Bool) (x : Scope) (ts : List TokenAndSpan) → x.head ≡ false → is_private_here f x ts ≡ true
      → operand hook f x ts ≡ (private_operand hook x ts >>= behind x)
  unfolding operand behind_operand
  private_first f x ts none h = rw h (ap (λ y. private_operand hook x ts >>= behind y) (inner_is x none))
