-- What the clean parser reads at an assignment expression, by what two tokens tell of its beginning.
use Rattle.std.specs.Prelude.{◌≡◌, Bool, true, false, not, ◌&&◌, ◌||◌, if◌then◌else◌, List, [], ◌∷◌, Option, Some, None, ℕ, codes}
use Rattle.std.proofs.Common.{refl, sym, ap, ◌∙◌, arith}
use Rattle.swc_context.specs.{Reserved.is_reserved, Texts.is_text, Words.word_text, declared.span.Span.Span, declared.word.Keyword.Keyword as keyword, declared.word.Word.Word, declared.word.Word.Word as written}
use Rattle.swc_input.specs.{declared.token.Token.Token, declared.token.Token.Token as token, declared.token.TokenAndSpan.TokenAndSpan, Kinds.at_token, Kinds.is_hash}
use Rattle.swc_ast.specs.Tree.{Tree, nil, cons, span_of}
use Rattle.swc_ast.specs.Trees.{to, arrow_e, ident_e}
use Rattle.swc_bodies.specs.Readings.{Hook, is_async, is_function, is_function_here}
use Rattle.swc_grammar.specs.Arrows.{is_arrow, is_arrow_word, binds_alone, async_name, is_bindable, is_of, async_param as async_param_of}
use Rattle.swc_grammar.specs.Clean.{Out, and_then, first, second, third, sym as at, run, exec, plan, assigns, parens, asyncs, no_error, begins_yield, begins_arrow, begins_async_name, begins_async_list, is_bindable_here, before_of_here, is_arrow_here, is_lparen_here, links, updates, climb, begins_new, prefix_at}
use Rattle.swc_grammar.specs.Names.{Spelling, spelling, may_refer, may_bind, spelled}
use Rattle.swc_grammar.specs.Rule.{gives, take, check, peek, read, given, ◌>>=◌ as ◌▸◌}
use Rattle.swc_grammar.specs.Scope.{Scope, at_head, inner}
use Rattle.swc_grammar.specs.Symbols.{Assign, Level, Unary, Lhs, Base, Primary, Args, ArrowBody, Side}
use Rattle.swc_grammar.specs.Tokens.{is_lparen, is_reference, is_put_off, with_in, tk, is_update, is_await, is_new, is_super, is_import}
use Rattle.swc_grammar.specs.Words.{◌>>=◌, one, word}
use Rattle.swc_grammar.proofs.{Answers.both, Complete.last, Head.level-run, Knot.knot}
use Rattle.swc_steps.proofs.Lists.{calls, bind_same, binds}
use Rattle.swc_steps.proofs.{Rules.operand_splits, Rules.async_name_picked, Keys.then_calls, Steps.Inner.inner_is}
use Rattle.swc_steps.specs.{Args.args_inside, Keys.expected, Lists.eaten, Parsing.begins_async, Readers.named_expr, Readers.operand}
use Rattle.swc_arrows.specs.Starts.{start_kind}
use Rattle.swc_arrows.specs.Readers.{others, base_behind, arrow_behind, name_ok, name_behind, name_arrow, is_of_alone, async_param, async_of, async_behind, async_arrow, list_rest, list_head, arrow_on_line}
use Rattle.swc_arrows.specs.declared.starts.StartKind.TheVariants as head
use Rattle.swc_arrows.proofs.StartKinds.{Picks, head_picks}

no_name : (a b d : Bool) → (a && b) ≡ false → (a && (b && d)) ≡ false
no_name true true d h = absurd cc
no_name true false d h = refl
no_name false b d h = refl

neither : (a b : Bool) → a ≡ false → b ≡ false → (a || b) ≡ false
neither true b h k = absurd cc
neither false b h k = k

-- an assignment expression begins here, which is no `yield`, at a token that is no fault
pub record BeginsAssign (x : Scope) (ts : List TokenAndSpan) : Type 0 where
  pub head : x.head ≡ false
  pub yields : begins_yield x ts ≡ false
  pub fits : at_token no_error (first ts) ≡ true

module _ {F C K : Type 0} (hook : Hook F C K) (x : Scope) (ts : List TokenAndSpan) (begins : BeginsAssign x ts) where
  -- ---- no arrow function

  then_assigns : (o : Out (Tree F C K))
      → and_then o (λ e us. exec hook (run hook) (Some 14) (read (assigns e) x (λ v. gives v)) us)
      ≡ (o >>= (λ p. run hook (assigns p.0) x p.1))
  then_assigns None = refl
  then_assigns (Some p) = last hook (Some 14) (assigns p.0) x p.1 refl

  assigned_level : begins_arrow x ts ≡ false → at_token is_lparen (first ts) ≡ false → begins_async_name x ts ≡ false
      → begins_async_list ts ≡ false → run hook (at Assign) x ts ≡ others hook x ts
  unfolding others
  assigned_level a p m l =
      knot hook (at Assign) x ts
      ∙ rw (begins.yields, a, p, m, l, begins.fits) (then_assigns (run hook (at (Level 1)) (at_head x) ts))
      ∙ ap (λ o. o >>= (λ p. run hook (assigns p.0) x p.1))
      (level-run hook x ts (neither (begins_async_name x ts) (begins_async_list ts) m l)
      ∙ ap (λ y. run hook (at (Level 1)) y ts) (inner_is x begins.head))

  pub assign_others : start_kind x.context ts ≡ head.Other → run hook (at Assign) x ts ≡ others hook x ts
  assign_others e =
      let k = head_picks x ts head.Other e in
      assigned_level k.arrow k.paren (no_name (at_token is_async (first ts)) (is_bindable_here x (second ts))
      (not (before_of_here x (second ts) && not (at_token is_arrow (third ts)))) k.name) k.list

-- ---- signs and names

pub expected_is : (f : Token → Bool) (x : Scope) (t : TokenAndSpan) (ts : List TokenAndSpan) → f t.token ≡ true
    → expected f x (t ∷ ts) ≡ Some (t.span, ts)
unfolding expected eaten
expected_is f x t ts h = rw h refl

pub expected_not : (f : Token → Bool) (x : Scope) (ts : List TokenAndSpan) → at_token f (first ts) ≡ false
    → expected f x ts ≡ None
unfolding expected eaten
expected_not f x ts h = rw h refl

module _ {F C K : Type 0} (hook : Hook F C K) (x : Scope) where
  -- ---- a name, and `=>`

  abbrev named : Spelling → Side F C K Assign
  named n = take (λ t. check (not t.had_line_break) (check (is_arrow t.token) (read (ArrowBody false) x
      (λ b. gives (arrow_e (to n.at (span_of b)) false b (cons (ident_e n.at n.text) nil))))))

  -- after the name, by whether it may be and be bound
  name_by : (refers binds : Bool) (n : Spelling) (us : List TokenAndSpan) → is_arrow_here (first us) ≡ true
      → binds ≡ name_ok x.context n
      → exec hook (run hook) None (plan (given (if refers && binds then Some n else None) ▸ named)) us
      ≡ (one (if refers then Some n else None) us >>= (λ p. expected is_arrow x p.1 >>=
      (λ q. name_behind hook p.0 x q.1)))
  unfolding arrow_behind
  name_by refers binds n [] h e = absurd cc
  name_by false binds n (u ∷ us) h e = refl
  name_by true false n (u ∷ us) h e =
      let (l, a) = both (not u.had_line_break) (is_arrow u.token) h in
      rw (expected_is is_arrow x u us a, sym e) refl
  name_by true true n (u ∷ us) h e =
      let (l, a) = both (not u.had_line_break) (is_arrow u.token) h in
      rw (expected_is is_arrow x u us a, sym e, l, a) (calls (run hook (at (ArrowBody false)) x us) _)

  name_word : (w : Word) (b : Bool) (s : Span) (us : List TokenAndSpan) → is_arrow_word w ≡ true
      → begins_yield x (tk (token.Word w) b s ∷ us) ≡ false → begins_arrow x (tk (token.Word w) b s ∷ us) ≡ true
      → is_arrow_here (first us) ≡ true
      → run hook (at Assign) x (tk (token.Word w) b s ∷ us) ≡ name_arrow hook x (tk (token.Word w) b s ∷ us)
  unfolding name_arrow word
  name_word w b s us h y a n =
      knot hook (at Assign) x (tk (token.Word w) b s ∷ us)
      ∙ rw (y, a) (name_by (may_refer x.context w) (binds_alone x.context w) (spelling (word_text w) s) us n
      (rw h refl))

  name_token : (t : Token) (b : Bool) (s : Span) (us : List TokenAndSpan) → begins_yield x (tk t b s ∷ us) ≡ false
      → begins_arrow x (tk t b s ∷ us) ≡ true → run hook (at Assign) x (tk t b s ∷ us)
      ≡ name_arrow hook x (tk t b s ∷ us)
  name_token (token.Word w) b s us y a =
      let (alone, here) = both (is_reference x.context w && is_arrow_word w) (is_arrow_here (first us)) a in
      name_word w b s us (both (is_reference x.context w) (is_arrow_word w) alone).1 y a here
  name_token t b s us y a = absurd cc

module _ {F C K : Type 0} (hook : Hook F C K) (x : Scope) where
  pub assign_name : (ts : List TokenAndSpan) → BeginsAssign x ts → start_kind x.context ts ≡ head.Name
      → run hook (at Assign) x ts ≡ name_arrow hook x ts
  assign_name [] begins e = absurd cc
  assign_name (t ∷ us) begins e =
      name_token hook x t.token t.had_line_break t.span us begins.yields (head_picks x (t ∷ us) head.Name e).arrow

  -- ---- a list in parentheses

  pub assign_list : (ts : List TokenAndSpan) → BeginsAssign x ts → start_kind x.context ts ≡ head.List false
      → run hook (at Assign) x ts ≡ list_head hook false x ts
  unfolding list_head list_rest args_inside
  assign_list [] begins e = absurd cc
  assign_list (t ∷ us) begins e =
      let k = head_picks x (t ∷ us) (head.List false) e in
      knot hook (at Assign) x (t ∷ us)
      ∙ rw (begins.yields, k.arrow, k.paren, expected_is is_lparen x t us k.paren)
      (then_calls (run hook (at (Args false)) (with_in x) us) _ (λ es vs. run hook (parens t.span es) x vs)
      (λ es vs. last hook None (parens t.span es) x vs refl))

  -- ---- the same after `async`

  async_by : (o : Option Spelling) (us : List TokenAndSpan) → is_lparen_here (first us) ≡ true
      → exec hook (run hook) None (given o ▸ (λ n. take (λ t. check (not t.had_line_break) (check (is_lparen t.token)
      (read (at (Args false)) (with_in x) (λ es. read (asyncs n es) x (λ v. gives v))))))) us
      ≡ (one o us >>= (λ p. expected is_lparen x p.1
      >>= (λ q. list_rest hook (Some (ident_e p.0.at p.0.text)) p.0.at x q.1)))
  unfolding list_rest args_inside
  async_by o [] h = absurd cc
  async_by None (u ∷ us) h = refl
  async_by (Some n) (u ∷ us) h =
      let (l, a) = both (not u.had_line_break) (is_lparen u.token) h in
      rw (expected_is is_lparen x u us a, l, a)
      (then_calls (run hook (at (Args false)) (with_in x) us) _ (λ es vs. run hook (asyncs n es) x vs)
      (λ es vs. last hook None (asyncs n es) x vs refl))

  -- the name, which is `async`
  async_spelled : (w : Word) (s : Span) → is_put_off w ≡ true
      → async_name x (token.Word w) s ≡ spelled (may_refer x.context) (token.Word w) s
  async_spelled w s h = ap (λ v. if v then Some (spelling (word_text w) s) else None) (and_so (may_refer x.context w)
      (is_put_off w) h)
    where
      and_so : (a b : Bool) → b ≡ true → (a && b) ≡ a
      and_so true b h = h
      and_so false b h = refl

  pub async_token : (t : Token) (s : Span) → is_async t ≡ true → async_name x t s ≡ spelled (may_refer x.context) t s
  async_token (token.Word (written.Ident w)) s h = async_spelled (written.Ident w) s h
  async_token t s h = absurd cc

  pub assign_async_list : (ts : List TokenAndSpan) → BeginsAssign x ts → start_kind x.context ts ≡ head.List true
      → run hook (at Assign) x ts ≡ list_head hook true x ts
  unfolding list_head word
  assign_async_list [] begins e = absurd cc
  assign_async_list (t ∷ us) begins e =
      let k = head_picks x (t ∷ us) (head.List true) e in
      let (a, l) = both (is_async t.token) (is_lparen_here (first us)) k.list in
      let name = no_name (is_async t.token) (is_bindable_here x (first us))
      (not (before_of_here x (first us) && not (at_token is_arrow (second us)))) k.name in
      knot hook (at Assign) x (t ∷ us)
      ∙ rw (begins.yields, k.arrow, k.paren, name, k.list) (async_by (async_name x t.token t.span) us l)
      ∙ ap (λ o. one o us >>= (λ p. expected is_lparen x p.1
      >>= (λ q. list_rest hook (Some (ident_e p.0.at p.0.text)) p.0.at x q.1))) (async_token t.token t.span a)

  -- either
  pub assign_listed : (b : Bool) (ts : List TokenAndSpan) → BeginsAssign x ts → start_kind x.context ts ≡ head.List b
      → run hook (at Assign) x ts ≡ list_head hook b x ts
  assign_listed true ts begins e = assign_async_list ts begins e
  assign_listed false ts begins e = assign_list ts begins e

  -- ---- `async`, a name, and `=>`

  -- after `async`: the name is `of` alone exactly where the head of a `for await` may take `async` for a name, if it is
  -- one of these
  of_alone : (us : List TokenAndSpan) → is_of_alone x.context us ≡ false
      → (before_of_here x (first us) && not (at_token is_arrow (second us))) ≡ false
  of_alone [] h = refl
  of_alone (u ∷ us) h =
      by_loop x.context.expr_ctx.for_loop_init x.context.expr_ctx.for_await_loop_init (is_of u.token)
      (at_token is_arrow (first us)) h
    where
      by_loop : (l w o a : Bool) → (l && (o && not a)) ≡ false → (((l && w) && o) && not a) ≡ false
      by_loop true true o a h = h
      by_loop true false o a h = refl
      by_loop false w o a h = refl

  -- what is after that name
  abbrev parameter : Spelling → Spelling → Side F C K Assign
  parameter s n = peek (λ t. x.syntax.pedantic && t.had_line_break) (take (λ t. check (is_arrow t.token)
      (read (ArrowBody true) x
      (λ b. gives (arrow_e (to s.at (span_of b)) true b (cons (ident_e n.at n.text) nil))))))

  abbrev arrowed : Spelling → Spelling → List TokenAndSpan → Out (Tree F C K)
  arrowed s n us = arrow_on_line x us >>= (λ l. expected is_arrow x l.1
      >>= (λ q. arrow_behind hook s.at.lo true false (cons (ident_e n.at n.text) nil) x q.1))

  parameter_by : (s n : Spelling) (us : List TokenAndSpan) → exec hook (run hook) None (plan (parameter s n)) us
      ≡ arrowed s n us
  unfolding arrow_behind
  parameter_by s n [] = rw (expected_not is_arrow x [] refl) refl
  parameter_by s n (u ∷ us) = by_arrow (is_arrow u.token) refl (x.syntax.pedantic && u.had_line_break) refl
    where
      by_arrow : (b : Bool) → is_arrow u.token ≡ b → (w : Bool) → (x.syntax.pedantic && u.had_line_break) ≡ w
          → exec hook (run hook) None (plan (parameter s n)) (u ∷ us) ≡ arrowed s n (u ∷ us)
      by_arrow true e true w = rw (e, w) refl
      by_arrow true e false w = rw (e, w, expected_is is_arrow x u us e) (calls (run hook (at (ArrowBody true)) x us) _)
      by_arrow false e true w = rw (e, w, expected_not is_arrow x (u ∷ us) e) refl
      by_arrow false e false w = rw (e, w, expected_not is_arrow x (u ∷ us) e) refl

  -- the name, which is bound, and no reserved word
  abbrev named_by : Spelling → Side F C K Assign
  named_by s = take (λ t. check (not t.had_line_break) (given (async_param_of x t.token t.span) ▸ parameter s))

  bound : (w : Word) (s : Span) → is_reserved x.context w ≡ false
      → async_param_of x (token.Word w) s ≡ spelled (may_bind x.context) (token.Word w) s
  bound w s h = ap (λ v. if v then Some (spelling (word_text w) s) else None) (and_not (may_bind x.context w) _ h)
    where
      and_not : (a b : Bool) → b ≡ false → (a && not b) ≡ a
      and_not true b h = ap not h
      and_not false b h = refl

  bound_token : (t : Token) (s : Span) → is_bindable x t ≡ true
      → async_param_of x t s ≡ spelled (may_bind x.context) t s
  bound_token (token.Word w) s h = bound w s (not_true (is_reserved x.context w) h)
    where
      not_true : (b : Bool) → not b ≡ true → b ≡ false
      not_true true h = absurd cc
      not_true false h = refl
  bound_token t s h = absurd cc

  given_by : (o : Option Spelling) (s : Spelling) (us : List TokenAndSpan)
      → exec hook (run hook) None (plan (given o ▸ parameter s)) us ≡ (one o us >>= (λ p. arrowed s p.0 p.1))
  given_by None s us = refl
  given_by (Some n) s us = parameter_by s n us

  param_by : (s : Spelling) (us : List TokenAndSpan) → is_bindable_here x (first us) ≡ true
      → exec hook (run hook) None (plan (named_by s)) us ≡ async_param hook s x us
  unfolding word
  param_by s [] h = absurd cc
  param_by s (u ∷ us) h =
      let (l, b) = both (not u.had_line_break) (is_bindable x u.token) h in
      rw l (given_by (async_param_of x u.token u.span) s us)
      ∙ ap (λ o. one o us >>= (λ p. arrowed s p.0 p.1)) (bound_token u.token u.span b)

module _ {F C K : Type 0} (hook : Hook F C K) (x : Scope) (n : x.head ≡ false) where
  -- ---- `async` as an identifier, where no assignment expression begins

  -- after it
  abbrev goes : Out (Tree F C K) → Out (Tree F C K)
  goes o = o >>= (λ p. run hook (links true p.0) x p.1 >>= (λ l. run hook (updates l.0) x l.1
      >>= (λ u. run hook (climb u.0 0) x u.1)))

  links_goes : (us : List TokenAndSpan) (e : Tree F C K)
      → exec hook (run hook) (Some 10) (read (links true e) (inner x) (λ v. gives v)) us ≡ run hook (links true e) x us
  links_goes us e = last hook (Some 10) (links true e) (inner x) us refl
      ∙ ap (λ y. run hook (links true e) y us) (inner_is x n)

  lhs_goes : (ts : List TokenAndSpan) → begins_new ts ≡ false → run hook (at (Lhs true)) x ts
      ≡ (run hook (at (Base true)) x ts >>= (λ p. run hook (links true p.0) x p.1))
  lhs_goes ts h =
      knot hook (at (Lhs true)) x ts
      ∙ rw h (then_calls (run hook (at (Base true)) x ts) _ (λ e us. run hook (links true e) x us)
      (λ e us. links_goes us e))

  unary_goes : (ts : List TokenAndSpan) → at_token is_update (first ts) ≡ false → at_token is_await (first ts) ≡ false
      → prefix_at (first ts) ≡ None → run hook (at Unary) x ts
      ≡ (run hook (at (Lhs true)) x ts >>= (λ p. run hook (updates p.0) x p.1))
  unary_goes ts h k l =
      knot hook (at Unary) x ts
      ∙ rw (h, k, l) (then_calls (run hook (at (Lhs true)) x ts) _ (λ e us. run hook (updates e) x us)
      (λ e us. last hook (Some 11) (updates e) (inner x) us refl ∙ ap (λ y. run hook (updates e) y us) (inner_is x n)))

  level_goes : (ts : List TokenAndSpan) → at_token is_hash (first ts) ≡ false → run hook (at (Level 1)) x ts
      ≡ (run hook (at Unary) x ts >>= (λ p. run hook (climb p.0 0) x p.1))
  unfolding operand
  level_goes ts h =
      operand_splits hook 0 x ts (omega arith)
      ∙ rw (h, and_false x.syntax.pedantic) (bind_same (run hook (at Unary) x ts) _ _
      (λ p. ap (λ y. run hook (climb p.0 0) y p.1) (inner_is x n)))
    where
      and_false : (a : Bool) → (a && false) ≡ false
      and_false true = refl
      and_false false = refl

  base_goes : (ts : List TokenAndSpan) → at_token is_new (first ts) ≡ false → at_token is_super (first ts) ≡ false
      → at_token is_import (first ts) ≡ false → run hook (at (Base true)) x ts ≡ run hook (at Primary) x ts
  base_goes ts h k l = knot hook (at (Base true)) x ts ∙ rw (h, k, l) (last hook (Some 9) (at Primary) x ts refl)

  async_word : (w : List ℕ) (b : Bool) (s : Span) (us : List TokenAndSpan) → is_text w (codes "async") ≡ true
      → begins_async (tk (token.Word (written.Ident w)) b s ∷ us) ≡ false
      → run hook (at (Level 1)) x (tk (token.Word (written.Ident w)) b s ∷ us)
      ≡ goes (named_expr x (tk (token.Word (written.Ident w)) b s ∷ us))
  async_word w b s us h f =
      let ts = tk (token.Word (written.Ident w)) b s ∷ us in
      level_goes ts refl
      ∙ ap (λ o. o >>= (λ p. run hook (climb p.0 0) x p.1)) (unary_goes ts refl refl refl
      ∙ ap (λ o. o >>= (λ p. run hook (updates p.0) x p.1)) (lhs_goes ts refl
      ∙ ap (λ o. o >>= (λ p. run hook (links true p.0) x p.1)) (base_goes ts refl refl refl
      ∙ async_name_picked hook x ts n h f)))
      ∙ grouped (named_expr x ts)
    where
      grouped : (o : Out (Tree F C K))
          → ((o >>= (λ p. run hook (links true p.0) x p.1)) >>= (λ p. run hook (updates p.0) x p.1)
          >>= (λ p. run hook (climb p.0 0) x p.1)) ≡ goes o
      grouped None = refl
      grouped (Some p) = sym (binds (run hook (links true p.0) x p.1) (λ l. run hook (updates l.0) x l.1) _)

-- ---- `async` before a word that may be bound

-- such a word is not `function`
bindable_keyword : (x : Scope) (k : Token) → is_bindable x k ≡ true → is_function k ≡ false
bindable_keyword x (token.Word (written.Keyword keyword.Function)) h = absurd cc
bindable_keyword x k h = refl

bindable_no : (x : Scope) (us : List TokenAndSpan) → is_bindable_here x (first us) ≡ true → is_function_here us ≡ false
bindable_no x [] h = absurd cc
bindable_no x (u ∷ us) h =
    let (l, b) = both (not u.had_line_break) (is_bindable x u.token) h in rw (bindable_keyword x u.token b) refl

module _ {F C K : Type 0} (hook : Hook F C K) (x : Scope) where
  -- a parameter
  by_param : (o : Option Spelling) (us : List TokenAndSpan) → is_bindable_here x (first us) ≡ true
      → is_of_alone x.context us ≡ false → exec hook (run hook) None (plan (given o ▸ named_by hook x)) us
      ≡ (one o us >>= (λ p. async_behind hook p.0 x p.1))
  unfolding async_behind
  by_param None us h e = refl
  by_param (Some s) us h e = param_by hook x s us h ∙ rw e refl

  -- `of`, which no `=>` follows, elsewhere than in the head of a `for await`
  no_arrow : (s : Spelling) (us : List TokenAndSpan) → at_token is_arrow (second us) ≡ false → async_param hook s x us
      ≡ None
  unfolding word
  no_arrow s [] h = refl
  no_arrow s (u ∷ us) h = by_word (spelled (may_bind x.context) u.token u.span)
    where
      by_word : (o : Option Spelling) → (one o us >>= (λ p. arrowed hook x s p.0 p.1)) ≡ None
      by_word None = refl
      by_word (Some n) = rw (h, expected_not is_arrow x us h) refl

  by_fault : (o : Option Spelling) (us : List TokenAndSpan) → is_bindable_here x (first us) ≡ true
      → is_of_alone x.context us ≡ true → at_token is_arrow (second us) ≡ false
      → x.context.expr_ctx.for_await_loop_init ≡ false → exec hook (run hook) None (plan (given o ▸ named_by hook x)) us
      ≡ (one o us >>= (λ p. async_behind hook p.0 x p.1))
  unfolding async_behind
  by_fault None us h e a w = refl
  by_fault (Some s) us h e a w = param_by hook x s us h ∙ no_arrow s us a ∙ rw (e, w) refl

  -- in the head of a `for await`
  grouped : (o : Out (Tree F C K)) → (o >>= (λ l. run hook (updates l.0) x l.1 >>= (λ u. run hook (climb u.0 0) x u.1))
      >>= (λ p. run hook (assigns p.0) x p.1))
      ≡ (o >>= (λ l. run hook (updates l.0) x l.1 >>= (λ u. run hook (climb u.0 0) x u.1
      >>= (λ p. run hook (assigns p.0) x p.1))))
  grouped None = refl
  grouped (Some l) = sym (binds (run hook (updates l.0) x l.1) (λ u. run hook (climb u.0 0) x u.1) _)

  by_name : (n : x.head ≡ false) (o : Option Spelling) (us : List TokenAndSpan) → is_of_alone x.context us ≡ true
      → x.context.expr_ctx.for_await_loop_init ≡ true
      → (goes hook x n (one o us >>= (λ p. Some (ident_e p.0.at p.0.text, p.1))) >>= (λ p. run hook
      (assigns p.0) x p.1))
      ≡ (one o us >>= (λ p. async_behind hook p.0 x p.1))
  unfolding async_behind base_behind
  by_name n None us e w = refl
  by_name n (Some s) us e w =
      grouped (run hook (links true (ident_e s.at s.text)) x us)
      ∙ sym (ap (λ b. if b then async_of hook s x us else async_param hook s x us) e
      ∙ ap (λ b. if b then base_behind hook (ident_e s.at s.text) x us else None) w)

  -- is what the head of a `for` has, and no `=>` after it
  alone_parts : (us : List TokenAndSpan) → is_of_alone x.context us ≡ true
      → (x.context.expr_ctx.for_loop_init ≡ true) × (at_token is_of (first us) ≡ true)
      × (at_token is_arrow (second us) ≡ false)
  alone_parts us h =
      let (l, r) = both x.context.expr_ctx.for_loop_init (at_token is_of (first us) && not
      (at_token is_arrow (second us))) h in
      let (o, a) = both (at_token is_of (first us)) (not (at_token is_arrow (second us))) r in
      (l, o, is_not (at_token is_arrow (second us)) a)
    where
      is_not : (b : Bool) → not b ≡ true → b ≡ false
      is_not true h = absurd cc
      is_not false h = refl

  before_if : (us : List TokenAndSpan) (w : Bool) → x.context.expr_ctx.for_await_loop_init ≡ w
      → is_of_alone x.context us ≡ true → (before_of_here x (first us) && not (at_token is_arrow (second us))) ≡ w
  before_if [] w e h = absurd (no_end x.context.expr_ctx.for_loop_init h)
    where
      no_end : (b : Bool) → (b && false) ≡ true → ⊥
      no_end true h = cc
      no_end false h = cc
  before_if (u ∷ us) w e h = let (l, o, a) = alone_parts (u ∷ us) h in rw (l, e, o, a) (plain_and w)
    where
      plain_and : (b : Bool) → ((b && true) && true) ≡ b
      plain_and true = refl
      plain_and false = refl

  -- the two readings, by whether the name is alone, and is one of a `for await`
  of_name : (t : TokenAndSpan) (us : List TokenAndSpan) → BeginsAssign x (t ∷ us)
      → Picks x (t ∷ us) false false true false → (b : Bool)
      → (before_of_here x (first us) && not (at_token is_arrow (second us))) ≡ false
      → exec hook (run hook) None (plan (given (async_name x t.token t.span) ▸ named_by hook x)) us
      ≡ (one (async_name x t.token t.span) us >>= (λ p. async_behind hook p.0 x p.1))
      → run hook (at Assign) x (t ∷ us) ≡ async_arrow hook x (t ∷ us)
  unfolding async_arrow word
  of_name t us begins k b e h =
      let (a, p) = both (is_async t.token) (is_bindable_here x (first us)) k.name in
      knot hook (at Assign) x (t ∷ us)
      ∙ rw (begins.yields, k.arrow, k.paren, a, p, e) h
      ∙ ap (λ o. one o us >>= (λ p. async_behind hook p.0 x p.1)) (async_token hook x t.token t.span a)

  for_await : (t : Token) (b : Bool) (s : Span) (us : List TokenAndSpan) → BeginsAssign x (tk t b s ∷ us)
      → Picks x (tk t b s ∷ us) false false true false → is_of_alone x.context us ≡ true
      → x.context.expr_ctx.for_await_loop_init ≡ true
      → run hook (at Assign) x (tk t b s ∷ us) ≡ async_arrow hook x (tk t b s ∷ us)
  unfolding async_arrow word others named_expr
  for_await (token.Word (written.Ident w)) b s us begins k e h =
      let ts = tk (token.Word (written.Ident w)) b s ∷ us in
      let (a, p) = both (is_text w (codes "async")) (is_bindable_here x (first us)) k.name in
      let quiet : begins_async ts ≡ false = rw (bindable_no x us p) (and_false (is_text w (codes "async"))) in
      let none : begins_async_name x ts ≡ false = rw (a, p, before_if us true h e) refl in
      assigned_level hook x ts begins k.arrow k.paren none k.list
      ∙ ap (λ o. o >>= (λ p. run hook (assigns p.0) x p.1)) (async_word hook x begins.head w b s us a quiet)
      ∙ by_name begins.head (spelled (may_refer x.context) (token.Word (written.Ident w)) s) us e h
    where
      and_false : (a : Bool) → (a && false) ≡ false
      and_false true = refl
      and_false false = refl
  for_await t b s us begins k e h = absurd cc

  pub assign_async_name : (ts : List TokenAndSpan) → BeginsAssign x ts → start_kind x.context ts ≡ head.AsyncName
      → run hook (at Assign) x ts ≡ async_arrow hook x ts
  assign_async_name [] begins e = absurd cc
  assign_async_name (t ∷ us) begins e =
      by_alone (is_of_alone x.context us) refl x.context.expr_ctx.for_await_loop_init refl
    where
      k : Picks x (t ∷ us) false false true false
      k = head_picks x (t ∷ us) head.AsyncName e

      p : is_bindable_here x (first us) ≡ true
      p = (both (is_async t.token) (is_bindable_here x (first us)) k.name).1

      by_alone : (b : Bool) → is_of_alone x.context us ≡ b → (w : Bool) → x.context.expr_ctx.for_await_loop_init ≡ w
          → run hook (at Assign) x (t ∷ us) ≡ async_arrow hook x (t ∷ us)
      by_alone true h true w = for_await t.token t.had_line_break t.span us begins k h w
      by_alone true h false w =
          of_name t us begins k true (before_if us false w h)
          (by_fault (async_name x t.token t.span) us p h (alone_parts us h).2 w)
      by_alone false h w e =
          of_name t us begins k false (of_alone hook x us h) (by_param (async_name x t.token t.span) us p h)
