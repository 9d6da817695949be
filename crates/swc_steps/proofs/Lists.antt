-- The clean parser's steps in lists, as the code takes them.
use Rattle.std.specs.Prelude.{◌≡◌, Bool, true, false, List, [], ◌∷◌, Option, Some, None}
use Rattle.std.proofs.Common.{refl, sym, ap, ◌∙◌}
use Rattle.swc_context.specs.declared.span.Span.{Span}
use Rattle.swc_input.specs.{declared.token.Token.Token, declared.token.Token.Token as token, declared.token.TokenAndSpan.TokenAndSpan, Kinds.at_token}
use Rattle.swc_ast.specs.Tree.{Tree, Trees, nil, cons, span_of}
use Rattle.swc_ast.specs.Parts.{item_of}
use Rattle.swc_ast.specs.Trees.{to, array_e, listed, items_of, comma_of, put_first, trees_append}
use Rattle.swc_bodies.specs.Readings.{Hook}
use Rattle.swc_grammar.specs.Symbols.{Assign, Primary, Elements, ElementsTail, Item}
use Rattle.swc_grammar.specs.Tokens.{tk, with_in, is_comma, is_dots, is_lbracket, is_rbracket}
use Rattle.swc_grammar.specs.Clean.{Out, and_then, first, sym as at, primary, run}
use Rattle.swc_grammar.specs.{Scope.Scope, Grammar.array-lit, Words.◌>>=◌}
use Rattle.swc_grammar.proofs.{Knot.knot, Only.lbracket-is, Only.rbracket-is, Rules.run_picked}
use Rattle.swc_steps.specs.Readers.{reading, by_production}
use Rattle.swc_steps.specs.Lists.{eaten, eaten_by, closed, separated, separated_by, behind, put_before, with_comma, or_elided, elided_by, left_behind, left_from, left_by, elements_inside, array_lit_tail, element, element_item}
use Rattle.swc_nodes.proofs.Lists.{trees_append-assoc, trees_append-nil}

pub eaten_not : (f : Token → Bool) (x : Scope) (ts : List TokenAndSpan) → at_token f (first ts) ≡ false
    → eaten f x ts ≡ Some (None, ts)
unfolding eaten
eaten_not f x ts h = rw h refl

pub eaten_takes : (f : Token → Bool) (x : Scope) (t : TokenAndSpan) (ts : List TokenAndSpan) → f t.token ≡ true
    → eaten f x (t ∷ ts) ≡ Some (Some t.span, ts)
unfolding eaten
eaten_takes f x t ts h = rw h refl

pub separated_splits : (f : Token → Bool) (x : Scope) (ts : List TokenAndSpan)
    → separated f x ts ≡ (eaten is_comma x ts >>= (λ p. separated_by f p.0 x p.1))
unfolding separated
separated_splits f x ts = refl

pub closed_not : (f : Token → Bool) (x : Scope) (ts : List TokenAndSpan) → at_token f (first ts) ≡ false
    → closed f x ts ≡ None
unfolding closed
closed_not f x ts h = rw h refl

pub closed_here : (f : Token → Bool) (x : Scope) (ts : List TokenAndSpan) → at_token f (first ts) ≡ true
    → closed f x ts ≡ Some (tt, ts)
unfolding closed
closed_here f x ts h = rw h refl

-- what a call read, and what is run after it
pub calls : {A B : Type 0} (o : Out A) (k : A → List TokenAndSpan → Out B) → and_then o k ≡ (o >>= (λ p. k p.0 p.1))
calls None k = refl
calls (Some p) k = refl

-- one after another, however they are grouped
pub binds : {A B D : Type 0} (o : Out A) (f : A × List TokenAndSpan → Out B) (k : B × List TokenAndSpan → Out D)
    → (o >>= (λ p. f p >>= k)) ≡ ((o >>= f) >>= k)
binds None f k = refl
binds (Some p) f k = refl

pub bind_same : {A B : Type 0} (o : Out A) (f k : A × List TokenAndSpan → Out B)
    → ((p : A × List TokenAndSpan) → f p ≡ k p) → (o >>= f) ≡ (o >>= k)
bind_same None f k h = refl
bind_same (Some p) f k h = h p

module _ {F C K : Type 0} where
  -- items before items; a comma that an item follows doesn't count
  pub twice : (before : Trees F C K) (comma : Option Span) (e es : Tree F C K)
      → put_before before (behind comma (put_first e es)) ≡ put_before (trees_append before (cons e nil)) es
  twice before None e es =
      ap (λ v. listed (comma_of es) (span_of es) v) (sym (trees_append-assoc before (cons e nil) (items_of es)))
  twice before (Some s) e es =
      ap (λ v. listed (comma_of es) (span_of es) v) (sym (trees_append-assoc before (cons e nil) (items_of es)))

  -- where none follows, the comma after the last is that of the list
  pub ended : (before : Trees F C K) (comma : Option Span) (s : Span)
      → put_before before (behind comma (listed None s nil)) ≡ listed comma s before
  ended before None s = ap (λ v. listed None s v) (trees_append-nil before)
  ended before (Some c) s = ap (λ v. listed (Some c) s v) (trees_append-nil before)

-- ---- any list that a symbol reads, to the token that closes it

module _ {F C K : Type 0} (all : Scope → List TokenAndSpan → Out (Tree F C K)) where
  -- after an item: what is left after the comma that is there, or where none is
  abbrev pub tail_left : Scope → Option Span × List TokenAndSpan → Out (Tree F C K)
  tail_left x q = all x q.1 >>= (λ p. Some (behind q.0 p.0, p.1))

  -- after an item and the comma that is there, or none: the list from that item on
  abbrev pub list_from : Scope → (Tree F C K × Option Span) × List TokenAndSpan → Out (Tree F C K)
  list_from x p = all x p.1 >>= (λ q. Some (put_first p.0.0 (behind p.0.1 q.0), q.1))

  -- an item, and what is after it
  pub item_more : (item tail : Scope → List TokenAndSpan → Out (Tree F C K))
      (separates : Scope → List TokenAndSpan → Out (Option Span))
      → ((x : Scope) (us : List TokenAndSpan) → tail x us ≡ (separates x us >>= tail_left x))
      → (x : Scope) (ts : List TokenAndSpan)
      → and_then (item x ts) (λ e us. and_then (tail x us) (λ es vs. Some (put_first e es, vs)))
      ≡ (with_comma item separates x ts >>= list_from x)
  unfolding with_comma
  item_more item tail separates tail_is x ts =
      calls (item x ts) _
      ∙ bind_same (item x ts) _ _ (λ p.
      calls (tail x p.1) _
      ∙ ap (λ o. o >>= (λ q. Some (put_first p.0 q.0, q.1))) (tail_is x p.1)
      ∙ sym (binds (separates x p.1) (tail_left x) _)
      ∙ bind_same (separates x p.1) _ _ (λ q. sym (binds (all x q.1) _ _))
      ∙ binds (separates x p.1) (λ q. Some ((p.0, q.0), q.1)) _)
      ∙ binds (item x ts) _ _

-- `all` reads a list, and `one` an item of it with the comma after it
pub record IsList {F C K : Type 0} (closes : Token → Bool) (all : Scope → List TokenAndSpan → Out (Tree F C K))
    (one : Scope → List TokenAndSpan → Out (Tree F C K × Option Span)) : Type 0 where
  pub close : (x : Scope) (t : TokenAndSpan) (ts : List TokenAndSpan) → closes t.token ≡ true
      → all x (t ∷ ts) ≡ Some (listed None t.span nil, ts)
  pub step : (x : Scope) (ts : List TokenAndSpan) → at_token closes (first ts) ≡ false
      → all x ts ≡ (one x ts >>= list_from all x)

module _ {F C K : Type 0} {closes : Token → Bool} {all : Scope → List TokenAndSpan → Out (Tree F C K)}
    {one : Scope → List TokenAndSpan → Out (Tree F C K × Option Span)} (list : IsList closes all one) where
  -- from an item on
  behind_more : (before : Trees F C K) (comma : Option Span) (x : Scope) (ts : List TokenAndSpan)
      → at_token closes (first ts) ≡ false → left_behind all before comma x ts ≡ left_from all one before x ts
  unfolding left_behind left_from
  behind_more before comma x ts h =
      ap (λ o. o >>= (λ p. Some (put_before before (behind comma p.0), p.1))) (list.step x ts h)
      ∙ sym (binds (one x ts) _ _)
      ∙ bind_same (one x ts) _ _ (λ p.
      sym (binds (all x p.1) _ _)
      ∙ bind_same (all x p.1) _ _ (λ q.
      ap (λ v. Some (v, q.1)) (twice before comma p.0.0 (behind p.0.1 q.0))))

  behind_by_test : (before : Trees F C K) (comma : Option Span) (b : Bool) (x : Scope) (ts : List TokenAndSpan)
      → at_token closes (first ts) ≡ b
      → left_behind all before comma x ts ≡ (eaten_by b ts >>= (λ p. left_by all one before comma p.0 x p.1))
  unfolding left_behind
  behind_by_test before comma true x [] h = absurd cc
  behind_by_test before comma true x (t ∷ ts) h =
      ap (λ o. o >>= (λ p. Some (put_before before (behind comma p.0), p.1))) (list.close x t ts h)
      ∙ ap (λ v. Some (v, ts)) (ended before comma t.span)
  behind_by_test before comma false x ts h = behind_more before comma x ts h

  -- after some items the list is closed, or goes on
  pub list_splits : (before : Trees F C K) (comma : Option Span) (x : Scope) (ts : List TokenAndSpan)
      → left_behind all before comma x ts
      ≡ (eaten closes x ts >>= (λ p. left_by all one before comma p.0 x p.1))
  unfolding eaten
  list_splits before comma x ts = behind_by_test before comma (at_token closes (first ts)) x ts refl

  -- before the first item
  first_by_test : (b : Bool) (x : Scope) (ts : List TokenAndSpan) → at_token closes (first ts) ≡ b
      → all x ts ≡ left_behind all nil None x ts
  unfolding left_behind
  first_by_test true x [] h = absurd cc
  first_by_test true x (t ∷ ts) h =
      let e = list.close x t ts h in
      e ∙ ap (λ o. o >>= (λ p. Some (put_before nil p.0, p.1))) (sym e)
  first_by_test false x ts h =
      list.step x ts h
      ∙ bind_same (one x ts) _ _ (λ p. binds (all x p.1) _ _)
      ∙ binds (one x ts) _ _
      ∙ ap (λ o. o >>= (λ p. Some (put_before nil p.0, p.1))) (sym (list.step x ts h))

  pub list_first : (x : Scope) (ts : List TokenAndSpan) → all x ts ≡ left_behind all nil None x ts
  list_first x ts = first_by_test (at_token closes (first ts)) x ts refl

-- ---- the parts of a list

module _ {F C K : Type 0} where
  pub with_comma_splits : (item : Scope → List TokenAndSpan → Out (Tree F C K))
      (separates : Scope → List TokenAndSpan → Out (Option Span)) (x : Scope) (ts : List TokenAndSpan)
      → with_comma item separates x ts
      ≡ (item x ts >>= (λ p. separates x p.1 >>= (λ q. Some ((p.0, q.0), q.1))))
  unfolding with_comma
  with_comma_splits item separates x ts = refl

  pub elided_splits : (one : Scope → List TokenAndSpan → Out (Tree F C K × Option Span)) (x : Scope)
      (ts : List TokenAndSpan) → or_elided one x ts ≡ (eaten is_comma x ts >>= (λ p. elided_by one p.0 x p.1))
  unfolding or_elided
  elided_splits one x ts = refl

  pub left_splits : (all : Scope → List TokenAndSpan → Out (Tree F C K))
      (one : Scope → List TokenAndSpan → Out (Tree F C K × Option Span)) (before : Trees F C K) (x : Scope)
      (ts : List TokenAndSpan) → left_from all one before x ts
      ≡ (one x ts >>= (λ p. left_behind all (trees_append before (cons p.0.0 nil)) p.0.1 x p.1))
  unfolding left_from
  left_splits all one before x ts = refl

module _ {F C K : Type 0} (hook : Hook F C K) where
  -- ---- array literals (13.2.4)

  pub array_lit_picked : (x : Scope) (ts : List TokenAndSpan) → at_token is_lbracket (first ts) ≡ true
      → run hook (at Primary) x ts ≡ by_production hook (λ c. array-lit) x ts
  unfolding by_production reading
  array_lit_picked x [] h = absurd cc
  array_lit_picked x (t ∷ ts) h =
      run_picked hook Primary x (t ∷ ts) array-lit (primary x (t ∷ ts)) refl
      (rw (lbracket-is t.token h) refl)

  pub array_lit_opens : (t : TokenAndSpan) (x : Scope) (ts : List TokenAndSpan) → is_lbracket t.token ≡ true
      → by_production hook (λ c. array-lit) x (t ∷ ts) ≡ array_lit_tail hook t.span x ts
  unfolding by_production array_lit_tail elements_inside reading
  array_lit_opens t x ts h = rw h (calls (run hook (at Elements) (with_in x) ts) _)

  pub array_lit_splits : (s : Span) (x : Scope) (ts : List TokenAndSpan) → array_lit_tail hook s x ts
      ≡ (elements_inside hook x ts >>= (λ p. Some (array_e (comma_of p.0) (to s (span_of p.0)) (items_of p.0), p.1)))
  unfolding array_lit_tail
  array_lit_splits s x ts = refl

  pub inside_elements : (x : Scope) (ts : List TokenAndSpan)
      → elements_inside hook x ts ≡ run hook (at Elements) (with_in x) ts
  unfolding elements_inside
  inside_elements x ts = refl

  -- the bracket closes the list
  pub elements_close : (x : Scope) (t : TokenAndSpan) (ts : List TokenAndSpan) → is_rbracket t.token ≡ true
      → run hook (at Elements) x (t ∷ ts) ≡ Some (listed None t.span nil, ts)
  elements_close x t ts h =
      knot hook (at Elements) x (t ∷ ts)
      ∙ rw (rbracket-is t.token h) refl

  tail_token : (x : Scope) (v : Token) (b : Bool) (s : Span) (us : List TokenAndSpan)
      → run hook (at ElementsTail) x (tk v b s ∷ us)
      ≡ (separated is_rbracket x (tk v b s ∷ us) >>= tail_left (run hook (at Elements)) x)
  unfolding separated closed eaten
  tail_token x token.Comma b s us =
      knot hook (at ElementsTail) x (tk token.Comma b s ∷ us) ∙ calls (run hook (at Elements) x us) _
  tail_token x token.RBracket b s us =
      knot hook (at ElementsTail) x (tk token.RBracket b s ∷ us)
      ∙ ap (λ o. o >>= (λ p. Some (behind None p.0, p.1))) (sym (elements_close x (tk token.RBracket b s) us refl))
  tail_token x v b s us = knot hook (at ElementsTail) x (tk v b s ∷ us)

  tail_is : (x : Scope) (us : List TokenAndSpan)
      → run hook (at ElementsTail) x us ≡ (separated is_rbracket x us >>= tail_left (run hook (at Elements)) x)
  unfolding separated closed eaten
  tail_is x [] = knot hook (at ElementsTail) x []
  tail_is x (t ∷ us) = tail_token x t.token t.had_line_break t.span us

  -- an item, and those that are left
  item_step : (x : Scope) (ts : List TokenAndSpan)
      → and_then (run hook (at Item) x ts) (λ e us. and_then (run hook (at ElementsTail) x us)
      (λ es vs. Some (put_first e es, vs)))
      ≡ (element_item hook x ts >>= list_from (run hook (at Elements)) x)
  item_step x ts =
      item_more (run hook (at Elements)) (run hook (at Item)) (run hook (at ElementsTail))
      (separated is_rbracket) tail_is
      x ts

  step_token : (x : Scope) (v : Token) (b : Bool) (s : Span) (us : List TokenAndSpan) → is_rbracket v ≡ false
      → run hook (at Elements) x (tk v b s ∷ us)
      ≡ (element hook x (tk v b s ∷ us) >>= list_from (run hook (at Elements)) x)
  unfolding or_elided eaten
  step_token x token.Comma b s us h =
      knot hook (at Elements) x (tk token.Comma b s ∷ us) ∙ calls (run hook (at Elements) x us) _
  step_token x token.RBracket b s us h = absurd cc
  step_token x v b s us h = knot hook (at Elements) x (tk v b s ∷ us) ∙ item_step x (tk v b s ∷ us)

  -- one element, and those that are left
  pub elements_step : (x : Scope) (ts : List TokenAndSpan) → at_token is_rbracket (first ts) ≡ false
      → run hook (at Elements) x ts
      ≡ (element hook x ts >>= list_from (run hook (at Elements)) x)
  unfolding or_elided eaten
  elements_step x [] h = knot hook (at Elements) x [] ∙ item_step x []
  elements_step x (t ∷ ts) h = step_token x t.token t.had_line_break t.span ts h

  pub elements_list : IsList is_rbracket (run hook (at Elements)) (element hook)
  elements_list = record { close = elements_close; step = elements_step }

  -- ---- items (13.2.4, 13.3.8)

  item_token : (x : Scope) (v : Token) (b : Bool) (s : Span) (us : List TokenAndSpan)
      → run hook (at Item) x (tk v b s ∷ us)
      ≡ (eaten is_dots x (tk v b s ∷ us) >>= (λ p. run hook (at Assign) x p.1 >>= (λ q. Some (item_of p.0 q.0, q.1))))
  unfolding eaten
  item_token x token.DotDotDot b s us =
      knot hook (at Item) x (tk token.DotDotDot b s ∷ us) ∙ calls (run hook (at Assign) x us) _
  item_token x v b s us = knot hook (at Item) x (tk v b s ∷ us) ∙ calls (run hook (at Assign) x (tk v b s ∷ us)) _

  pub item_splits : (x : Scope) (ts : List TokenAndSpan) → run hook (at Item) x ts
      ≡ (eaten is_dots x ts >>= (λ p. run hook (at Assign) x p.1 >>= (λ q. Some (item_of p.0 q.0, q.1))))
  unfolding eaten
  item_splits x [] = knot hook (at Item) x [] ∙ calls (run hook (at Assign) x []) _
  item_splits x (t ∷ ts) = item_token x t.token t.had_line_break t.span ts
