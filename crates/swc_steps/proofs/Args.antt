-- The clean parser's steps in arguments (13.3.8) and in parentheses (13.2.9), as the code takes them.
use Rattle.std.specs.Prelude.{◌≡◌, Bool, true, false, not, ◌||◌, if◌then◌else◌, List, [], ◌∷◌, Option, Some, None}
use Rattle.std.proofs.Common.{refl, sym, ap, ◌∙◌}
use Rattle.swc_context.specs.declared.span.Span.{Span}
use Rattle.swc_input.specs.{declared.token.Token.Token, declared.token.Token.Token as token, declared.token.TokenAndSpan.TokenAndSpan, Kinds.at_token}
use Rattle.swc_ast.specs.Tree.{Tree, nil, span_of}
use Rattle.swc_ast.specs.Trees.{listed, items_of, put_first, has_items, comma_ok, behind_comma, to, seq_of, held_exprs, paren_ok, paren_e}
use Rattle.swc_bodies.specs.Readings.{Hook}
use Rattle.swc_grammar.specs.Symbols.{Args, ArgsTail, Item}
use Rattle.swc_grammar.specs.Tokens.{tk, with_in, is_rparen, import_comma_ok, is_lparen}
use Rattle.swc_grammar.specs.Clean.{Out, and_then, first, sym as at, run, no_arrow}
use Rattle.swc_grammar.specs.{Scope.Scope, Rule.sees, Arrows.is_arrow, Words.◌>>=◌, Grammar.paren-expr}
use Rattle.swc_grammar.proofs.{Knot.knot, Only.rparen-is}
use Rattle.swc_steps.specs.Args.{args_inside, arg_item, last_by, last_comma, comma_behind, separated_args, paren_of, paren_expr_tail, paren_closed, arrow_free}
use Rattle.swc_steps.specs.Lists.{eaten, closed, separated, behind}
use Rattle.swc_steps.specs.Readers.{reading, by_production_apart}
use Rattle.swc_steps.proofs.Lists.{calls, bind_same, tail_left, list_from, item_more, IsList}

pub neither : (a b : Bool) → (a || b) ≡ false → (a ≡ false) × (b ≡ false)
neither true b h = absurd cc
neither false b h = (refl, h)

-- ---- what is after an argument

pub args_separated : (i : Bool) (x : Scope) (ts : List TokenAndSpan)
    → separated_args i x ts ≡ (separated is_rparen x ts >>= (λ p. comma_behind i p.0 x p.1))
unfolding separated_args
args_separated i x ts = refl

pub behind_other : (i : Bool) (o : Option Span) (x : Scope) (ts : List TokenAndSpan) → i ≡ false
    → comma_behind i o x ts ≡ Some (o, ts)
behind_other true o x ts h = absurd cc
behind_other false o x ts h = refl

pub behind_last : (i : Bool) (o : Option Span) (s : Span) (x : Scope) (ts : List TokenAndSpan) → i ≡ true
    → o ≡ Some s → comma_behind i o x ts ≡ (last_comma x ts >>= (λ p. Some (Some s, p.1)))
behind_last true o s x ts h k = rw k refl
behind_last false o s x ts h k = absurd cc

pub behind_none : (i : Bool) (o : Option Span) (x : Scope) (ts : List TokenAndSpan) → o ≡ None
    → comma_behind i o x ts ≡ Some (None, ts)
behind_none true o x ts k = rw k refl
behind_none false o x ts k = rw k refl

-- a comma that may be the last, or isn't, or may not
may_last : (b : Bool) (ts : List TokenAndSpan) → last_by b true ts ≡ Some (tt, ts)
may_last true ts = refl
may_last false ts = refl

pub last_allowed : (x : Scope) (ts : List TokenAndSpan) → import_comma_ok x ≡ true → last_comma x ts ≡ Some (tt, ts)
unfolding last_comma
last_allowed x ts h =
    ap (λ m. last_by (at_token is_rparen (first ts)) m ts) h ∙ may_last (at_token is_rparen (first ts)) ts

pub last_not : (x : Scope) (ts : List TokenAndSpan) → at_token is_rparen (first ts) ≡ false
    → last_comma x ts ≡ Some (tt, ts)
unfolding last_comma
last_not x ts h = ap (λ b. last_by b (import_comma_ok x) ts) h

pub last_refused : (x : Scope) (ts : List TokenAndSpan) → at_token is_rparen (first ts) ≡ true
    → import_comma_ok x ≡ false → last_comma x ts ≡ None
unfolding last_comma
last_refused x ts h k = ap (λ b. last_by b (import_comma_ok x) ts) h ∙ ap (λ m. last_by true m ts) k

-- ---- no `=>` after a list in parentheses

pub arrow_stops : (x : Scope) (ts : List TokenAndSpan) → at_token is_arrow (first ts) ≡ true → arrow_free x ts ≡ None
unfolding arrow_free
arrow_stops x ts h = rw h refl

pub arrow_passes : (x : Scope) (ts : List TokenAndSpan) → at_token is_arrow (first ts) ≡ false
    → arrow_free x ts ≡ Some (tt, ts)
unfolding arrow_free
arrow_passes x ts h = rw h refl

closed_by : {A : Type 0} (b : Bool) (q : List TokenAndSpan → Out A) (ts : List TokenAndSpan)
    → (if b then q ts else None) ≡ ((if b then Some (tt {0}, ts) else None) >>= (λ p. q p.1))
closed_by true q ts = refl
closed_by false q ts = refl

pub paren_closed_splits : {F C K : Type 0} (q : List TokenAndSpan → Out (Tree F C K)) (x : Scope)
    (ts : List TokenAndSpan) → paren_closed q ts ≡ (arrow_free x ts >>= (λ p. q p.1))
unfolding arrow_free
paren_closed_splits q x ts = closed_by (no_arrow ts) q ts

module _ {F C K : Type 0} where
  -- arguments of which there is one
  pub one_more : (e : Tree F C K) (o : Out (Tree F C K)) (k : Tree F C K → List TokenAndSpan → Out (Tree F C K))
      → and_then (and_then o (λ es vs. Some (put_first e es, vs)))
      (λ es vs. if has_items (items_of es) then k es vs else None)
      ≡ and_then (and_then o (λ es vs. Some (put_first e es, vs))) k
  one_more e None k = refl
  one_more e (Some r) k = refl

  pub full_by : (o : Out (Tree F C K)) (q : List TokenAndSpan → Out (Tree F C K))
      (k : Tree F C K → List TokenAndSpan → Out (Tree F C K))
      → and_then (and_then o (λ e us. and_then (q us) (λ es vs. Some (put_first e es, vs))))
      (λ es vs. if has_items (items_of es) then k es vs else None)
      ≡ and_then (and_then o (λ e us. and_then (q us) (λ es vs. Some (put_first e es, vs)))) k
  full_by None q k = refl
  full_by (Some p) q k = one_more p.0 (q p.1) k

module _ {F C K : Type 0} (hook : Hook F C K) where
  -- ---- arguments (13.3.8)

  pub inside_args : (i : Bool) (x : Scope) (ts : List TokenAndSpan)
      → args_inside hook i x ts ≡ run hook (at (Args i)) (with_in x) ts
  unfolding args_inside
  inside_args i x ts = refl

  -- the parenthesis closes the list
  args_close : (i : Bool) (x : Scope) (t : TokenAndSpan) (ts : List TokenAndSpan) → is_rparen t.token ≡ true
      → run hook (at (Args i)) x (t ∷ ts) ≡ Some (listed None t.span nil, ts)
  args_close i x t ts h =
      knot hook (at (Args i)) x (t ∷ ts)
      ∙ rw (rparen-is t.token h) refl

  -- an argument, and then those after it
  args_runs : (i : Bool) (x : Scope) (ts : List TokenAndSpan) → at_token is_rparen (first ts) ≡ false
      → run hook (at (Args i)) x ts
      ≡ and_then (run hook (at Item) x ts) (λ e us. and_then (run hook (at (ArgsTail i)) x us)
      (λ es vs. Some (put_first e es, vs)))
  args_runs i x ts h = knot hook (at (Args i)) x ts ∙ rw h refl

  -- so there is one, where the parenthesis doesn't close the list
  full : (i : Bool) (x : Scope) (ts : List TokenAndSpan) (k : Tree F C K → List TokenAndSpan → Out (Tree F C K))
      → at_token is_rparen (first ts) ≡ false
      → and_then (run hook (at (Args i)) x ts) (λ es vs. if has_items (items_of es) then k es vs else None)
      ≡ and_then (run hook (at (Args i)) x ts) k
  full i x ts k h =
      let e = args_runs i x ts h in
      ap (λ o. and_then o (λ es vs. if has_items (items_of es) then k es vs else None)) e
      ∙ full_by (run hook (at Item) x ts) (λ us. run hook (at (ArgsTail i)) x us) k
      ∙ ap (λ o. and_then o k) (sym e)

  -- a comma at s that may be the last, or that an argument follows
  abbrev comma_left : Bool → Span → Scope → List TokenAndSpan → Out (Tree F C K)
  comma_left m s x us =
      and_then (run hook (at (Args true)) x us)
      (λ es vs. if comma_ok m es then Some (behind_comma s es, vs) else None)

  abbrev comma_reads_as : Bool → Span → Scope → List TokenAndSpan → Out (Tree F C K)
  comma_reads_as m s x us =
      last_by (at_token is_rparen (first us)) m us >>= (λ p. Some (Some s, p.1))
      >>= tail_left (run hook (at (Args true))) x

  last_open : (b : Bool) (s : Span) (x : Scope) (us : List TokenAndSpan)
      → tail_left (run hook (at (Args true))) x (Some s, us)
      ≡ (last_by b true us >>= (λ p. Some (Some s, p.1)) >>= tail_left (run hook (at (Args true))) x)
  last_open true s x us = refl
  last_open false s x us = refl

  comma_token : (s : Span) (x : Scope) (v : Token) (b : Bool) (q : Span) (us : List TokenAndSpan)
      → comma_left false s x (tk v b q ∷ us) ≡ comma_reads_as false s x (tk v b q ∷ us)
  comma_token s x token.RParen b q us =
      ap (λ o. and_then o (λ es vs. if comma_ok false es then Some (behind_comma s es, vs) else None))
      (args_close true x (tk token.RParen b q) us refl)
  comma_token s x v b q us =
      full true x (tk v b q ∷ us) (λ es vs. Some (behind_comma s es, vs)) refl
      ∙ calls (run hook (at (Args true)) x (tk v b q ∷ us)) _

  comma_reads : (m : Bool) (s : Span) (x : Scope) (us : List TokenAndSpan)
      → comma_left m s x us ≡ comma_reads_as m s x us
  comma_reads true s x us =
      calls (run hook (at (Args true)) x us) (λ es vs. Some (behind_comma s es, vs))
      ∙ last_open (at_token is_rparen (first us)) s x us
  comma_reads false s x [] =
      full true x [] (λ es vs. Some (behind_comma s es, vs)) refl ∙ calls (run hook (at (Args true)) x []) _
  comma_reads false s x (t ∷ us) = comma_token s x t.token t.had_line_break t.span us

  tail_token : (i : Bool) (x : Scope) (v : Token) (b : Bool) (s : Span) (us : List TokenAndSpan)
      → run hook (at (ArgsTail i)) x (tk v b s ∷ us)
      ≡ (separated_args i x (tk v b s ∷ us) >>= tail_left (run hook (at (Args i))) x)
  unfolding separated_args separated closed eaten last_comma
  tail_token false x token.Comma b s us =
      knot hook (at (ArgsTail false)) x (tk token.Comma b s ∷ us) ∙ calls (run hook (at (Args false)) x us) _
  tail_token true x token.Comma b s us =
      knot hook (at (ArgsTail true)) x (tk token.Comma b s ∷ us) ∙ comma_reads (import_comma_ok x) s x us
  tail_token false x token.RParen b s us =
      knot hook (at (ArgsTail false)) x (tk token.RParen b s ∷ us)
      ∙ ap (λ o. o >>= (λ p. Some (behind None p.0, p.1))) (sym (args_close false x (tk token.RParen b s) us refl))
  tail_token true x token.RParen b s us =
      knot hook (at (ArgsTail true)) x (tk token.RParen b s ∷ us)
      ∙ ap (λ o. o >>= (λ p. Some (behind None p.0, p.1))) (sym (args_close true x (tk token.RParen b s) us refl))
  tail_token i x v b s us = knot hook (at (ArgsTail i)) x (tk v b s ∷ us)

  tail_is : (i : Bool) (x : Scope) (us : List TokenAndSpan)
      → run hook (at (ArgsTail i)) x us ≡ (separated_args i x us >>= tail_left (run hook (at (Args i))) x)
  unfolding separated_args separated closed eaten
  tail_is i x [] = knot hook (at (ArgsTail i)) x []
  tail_is i x (t ∷ us) = tail_token i x t.token t.had_line_break t.span us

  -- one argument, and those that are left
  args_step : (i : Bool) (x : Scope) (ts : List TokenAndSpan) → at_token is_rparen (first ts) ≡ false
      → run hook (at (Args i)) x ts
      ≡ (arg_item hook i x ts >>= list_from (run hook (at (Args i))) x)
  args_step i x ts h =
      args_runs i x ts h
      ∙ item_more (run hook (at (Args i))) (run hook (at Item)) (run hook (at (ArgsTail i))) (separated_args i)
      (tail_is i)
      x ts

  pub args_list : (i : Bool) → IsList is_rparen (run hook (at (Args i))) (arg_item hook i)
  args_list i = record { close = args_close i; step = args_step i }

  -- ---- parentheses (13.2.9)

  both_tests : (a b : Bool) (o : Out (Tree F C K))
      → (if a then (if b then None else o) else None) ≡ (if not b then (if a then o else None) else None)
  both_tests true true o = refl
  both_tests true false o = refl
  both_tests false true o = refl
  both_tests false false o = refl

  -- no `=>` comes next
  apart_closes : (c : Scope) (s : Span) (es : Tree F C K) (us : List TokenAndSpan)
      → (if paren_ok c.syntax.pedantic es then (if sees (λ t. is_arrow t.token) us then None else
      Some (paren_e (to s (span_of es)) (seq_of (held_exprs (items_of es))), us)) else None)
      ≡ paren_closed (paren_of c s es) us
  apart_closes c s es [] = refl
  apart_closes c s es (u ∷ us) =
      both_tests (paren_ok c.syntax.pedantic es) (is_arrow u.token)
      (Some (paren_e (to s (span_of es)) (seq_of (held_exprs (items_of es))), u ∷ us))

  pub paren_expr_opens : (t : TokenAndSpan) (x : Scope) (ts : List TokenAndSpan) → is_lparen t.token ≡ true
      → by_production_apart hook (λ c. paren-expr) x (t ∷ ts) ≡ paren_expr_tail hook t.span x ts
  unfolding by_production_apart paren_expr_tail args_inside reading
  paren_expr_opens t x ts h =
      rw h (calls (run hook (at (Args false)) (with_in x) ts) _
      ∙ bind_same (run hook (at (Args false)) (with_in x) ts) _ _ (λ p. apart_closes x t.span p.0 p.1))

  pub paren_expr_splits : (s : Span) (x : Scope) (ts : List TokenAndSpan)
      → paren_expr_tail hook s x ts ≡ (args_inside hook false x ts >>= (λ p. paren_closed (paren_of x s p.0) p.1))
  unfolding paren_expr_tail
  paren_expr_splits s x ts = refl
