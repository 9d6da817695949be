-- Arguments, elements of arrays, and items: which production is picked, and that it may be run.
use Rattle.std.specs.Prelude.{◌≡◌, Bool, true, false, List, [], ◌∷◌, Some}
use Rattle.std.proofs.Common.{refl}
use Rattle.swc_context.specs.declared.span.Span.{Span}
use Rattle.swc_input.specs.{declared.token.Token.Token, declared.token.Token.Token as token, declared.token.TokenAndSpan.TokenAndSpan, Kinds.at_token}
use Rattle.swc_ast.specs.Tree.{Tree}
use Rattle.swc_bodies.specs.Readings.{Hook}
use Rattle.swc_grammar.specs.Tokens.{tk, is_rparen, is_dots}
use Rattle.swc_grammar.specs.Symbols.{Args, ArgsTail, Elements, ElementsTail, Item, Side}
use Rattle.swc_grammar.specs.Grammar.{Production, args-end, args-more, args-tail-end, args-tail-more, elements-end, elements-hole, elements-more, tail-end, tail-more, item-expr, item-spread}
use Rattle.swc_grammar.specs.Reads.{Follows, took, held, part}
use Rattle.swc_grammar.specs.Clean.{first, args, args_tail, Stop, pick, elements, elements_tail, item}
use Rattle.swc_grammar.specs.{Scope.Scope, Firsts.starts, Firsts.begins_expression}
use Rattle.swc_grammar.proofs.Only.{comma-is, dots-is, rbracket-is, rparen-is}
use Rattle.swc_grammar.proofs.{Firsts.begins, Complete.Stops.quiet-tail, Complete.Stops.quiet-args, Complete.Sides.Ready}

-- arguments
not-closed : (c : Scope) (xs : List TokenAndSpan) → at_token (starts Item c) (first xs) ≡ true
    → at_token is_rparen (first xs) ≡ false
not-closed c [] h = refl
not-closed c (a ∷ us) h = by-token a.token h
  where
    by-token : (t : Token) → starts Item c t ≡ true → is_rparen t ≡ false
    by-token token.RParen h = absurd cc
    by-token t h = refl

no-dots-first : (c : Scope) (xs : List TokenAndSpan) → at_token (begins_expression c) (first xs) ≡ true
    → at_token is_dots (first xs) ≡ false
no-dots-first c [] h = refl
no-dots-first c (a ∷ us) h = by-token a.token h
  where
    by-token : (t : Token) → begins_expression c t ≡ true → is_dots t ≡ false
    by-token token.DotDotDot h = absurd cc
    by-token t h = refl

module _ {F C K : Type 0} (hook : Hook F C K) where
  pub picked-args : {c : Scope} {i : Bool} {r : Side F C K (Args i)} {xs ys : List TokenAndSpan} {t : Tree F C K}
      (p : Production (Args i) c r) → Follows hook (Args i) r xs ys t → args i c xs ≡ pick p
  picked-args args-end (took {a = a} (held h d)) = rw (rparen-is a.token h) refl
  picked-args {c = c} args-more (part {xs = xs} e d) = rw (not-closed c xs (begins e)) refl

  pub picked-args-tail : {c : Scope} {i : Bool} {r : Side F C K (ArgsTail i)} {xs ys : List TokenAndSpan}
      {t : Tree F C K} (p : Production (ArgsTail i) c r)
      → Follows hook (ArgsTail i) r xs ys t → args_tail i c xs ≡ pick p
  picked-args-tail args-tail-end (took {a = a} (held h d)) = rw (rparen-is a.token h) refl
  picked-args-tail args-tail-more (took {a = a} (held h d)) = rw (comma-is a.token h) refl

  -- lists and items
  not-listed : (c : Scope) (xs : List TokenAndSpan) → at_token (starts Item c) (first xs) ≡ true
      → elements {F = F} {C = C} {K = K} c xs ≡ pick elements-more
  not-listed c [] h = absurd cc
  not-listed c (a ∷ us) h = by-token a.token a.had_line_break a.span h
    where
      by-token : (t : Token) (b : Bool) (s : Span) → starts Item c t ≡ true
          → elements {F = F} {C = C} {K = K} c (tk t b s ∷ us) ≡ pick elements-more
      by-token token.Comma b s h = absurd cc
      by-token token.RBracket b s h = absurd cc
      by-token t b s h = refl

  pub picked-elements : {c : Scope} {r : Side F C K Elements} {xs ys : List TokenAndSpan} {t : Tree F C K}
      (p : Production Elements c r) → Follows hook Elements r xs ys t → elements c xs ≡ pick p
  picked-elements elements-end (took {a = a} (held h d)) = rw (rbracket-is a.token h) refl
  picked-elements elements-hole (took {a = a} (held h d)) = rw (comma-is a.token h) refl
  picked-elements {c = c} elements-more (part {xs = xs} e d) = not-listed c xs (begins e)

  pub picked-tail : {c : Scope} {r : Side F C K ElementsTail} {xs ys : List TokenAndSpan} {t : Tree F C K}
      (p : Production ElementsTail c r) → Follows hook ElementsTail r xs ys t → elements_tail c xs ≡ pick p
  picked-tail tail-end (took {a = a} (held h d)) = rw (rbracket-is a.token h) refl
  picked-tail tail-more (took {a = a} (held h d)) = rw (comma-is a.token h) refl

  pub picked-item : {c : Scope} {r : Side F C K Item} {xs ys : List TokenAndSpan} {t : Tree F C K}
      (p : Production Item c r) → Follows hook Item r xs ys t → item c xs ≡ pick p
  picked-item {c = c} item-expr (part {xs = xs} e d) = rw (no-dots-first c xs (begins e)) refl
  picked-item item-spread (took {a = a} (held h d)) = rw (dots-is a.token h) refl

  pub ready-args : {c : Scope} {i : Bool} {r : Side F C K (Args i)} (ys : List TokenAndSpan) → Production (Args i) c r
      → Ready (Some 17) ys r
  ready-args ys args-end = λ a h. tt
  ready-args ys (args-more {c = c} {i = i}) = (refl, λ e. (λ a us h. quiet-args i c a us h, (refl, λ es. (tt, tt))))

  pub ready-args-tail : {c : Scope} {i : Bool} {r : Side F C K (ArgsTail i)} (ys : List TokenAndSpan)
      → Production (ArgsTail i) c r → Ready (Some 5) ys r
  ready-args-tail ys args-tail-end = λ a h. tt
  ready-args-tail ys args-tail-more = λ a h. (refl, λ es. (λ n. tt, λ n. tt))

  pub ready-elements : {c : Scope} {r : Side F C K Elements} (ys : List TokenAndSpan) → Production Elements c r
      → Ready (Some 17) ys r
  ready-elements ys elements-end = λ a h. tt
  ready-elements ys elements-hole = λ a h. (refl, λ e. (tt, tt))
  ready-elements ys (elements-more {c = c}) = (refl, λ e. (λ a us h. quiet-tail c a us h, (refl, λ es. (tt, tt))))

  pub ready-tail : {c : Scope} {r : Side F C K ElementsTail} (ys : List TokenAndSpan) → Production ElementsTail c r
      → Ready (Some 5) ys r
  ready-tail ys tail-end = λ a h. tt
  ready-tail ys tail-more = λ a h. (refl, λ e. (tt, tt))

  pub ready-item : {c : Scope} {r : Side F C K Item} (ys : List TokenAndSpan) → Stop Item c ys → Production Item c r
      → Ready (Some 16) ys r
  ready-item ys stop item-expr = (refl, λ e. (stop, tt))
  ready-item ys stop item-spread = λ a h. (refl, λ e. (stop, tt))
