-- What the clean parser reads of `++`, `--` and `await`, a step at a time, as the code does it.
use Rattle.std.specs.Prelude.{codes}
use Rattle.std.proofs.Common.{◌≡◌, Bool, true, false, not, ◌&&◌, if◌then◌else◌, List, [], ◌∷◌, Option, Some, None, refl, sym, ap, ◌∙◌, ◌||◌, Result, Ok, Err}
use Rattle.swc_context.specs.{declared.error.Error.Error, declared.operator.UpdateOp.UpdateOp, declared.span.Span.Span, declared.word.Keyword.Keyword as keyword, declared.word.Word.Word as written}
use Rattle.swc_input.specs.{declared.buffer.Buffer.Buffer, declared.token.Token.Token, declared.token.Token.Token as token, declared.token.TokenAndSpan.TokenAndSpan, Buffer.Bumped, Kinds.at_token, Plain.plain, Source.Model, Source.Laws}
use Rattle.swc_ast.specs.Trees.{to, update_e, await_e, ident_e}
use Rattle.swc_ast.specs.{Targets.is_target, Tree.Tree, Tree.span_of}
use Rattle.swc_bodies.specs.Readings.{Hook}
use Rattle.swc_grammar.specs.Rule.{gives, read, sees}
use Rattle.swc_grammar.specs.Tokens.{tk, is_update, update_of, is_await, is_star, await_ok, await_ident_ok, ends_await}
use Rattle.swc_grammar.specs.Clean.{Out, and_then, first, sym as at, updates, no_update_at, ends_await_at, prefix_at, exec, run, chosen, await_by as await_choice}
use Rattle.swc_grammar.specs.{Scope.Scope, Scope.inner, Symbols.Unary, Symbols.Lhs, Words.◌>>=◌, Words.rest}
use Rattle.swc_grammar.proofs.{Answers.both, Complete.last, Knot.knot}
use Rattle.swc_operators.specs.Updates.{update_at, update_behind, update_node, update_tail, update_prefix, await_ident, await_operand, await_tail, await_expr}
use Rattle.swc_steps.specs.Parsing.{Continues, Parses}
use Rattle.swc_steps.proofs.Lists.{calls}
use Rattle.swc_steps.proofs.Steps.{Reader, heard_first, on_took, unheard_after, inner_is}

pub if_on : {A : Type 0} (b : Bool) (x y : A) → b ≡ true → (if b then x else y) ≡ x
if_on true x y h = refl
if_on false x y h = absurd cc

pub if_off : {A : Type 0} (b : Bool) (x y : A) → b ≡ false → (if b then x else y) ≡ y
if_off true x y h = absurd cc
if_off false x y h = refl

module _ {F C K : Type 0} where
  -- `++` or `--` after l, which is written to, and what is left after it
  abbrev pub update_put : UpdateOp → Tree F C K → Option TokenAndSpan → List TokenAndSpan → Out (Tree F C K)
  update_put op l None us = None
  update_put op l (Some t) us = Some (update_e (to (span_of l) t.span) op false l, us)

  abbrev pub update_last : UpdateOp → Tree F C K → Scope → List TokenAndSpan → Out (Tree F C K)
  update_last op l x ts = update_put op l (first ts) (rest ts)

  abbrev pub update_rest : UpdateOp → Tree F C K → Scope → List TokenAndSpan → Out (Tree F C K)
  update_rest op l x ts = if is_target x.context.strict l then update_last op l x ts else None

module _ {F C K : Type 0} (hook : Hook F C K) where
  -- ---- `++` and `--` (13.4)

  update_is : (t : Token) (op : UpdateOp) → update_of t ≡ Some op → is_update t ≡ true
  update_is token.PlusPlus op h = refl
  update_is token.MinusMinus op h = refl
  update_is t op h = absurd cc

  no_update_is : (t : Token) → update_of t ≡ None → is_update t ≡ false
  no_update_is token.PlusPlus h = absurd cc
  no_update_is token.MinusMinus h = absurd cc
  no_update_is t h = refl

  pub no_update_first : (o : Option TokenAndSpan) → update_at o ≡ None → at_token is_update o ≡ false
  no_update_first None h = refl
  no_update_first (Some t) h = no_update_is t.token h

  pub update_picked : (op : UpdateOp) (x : Scope) (ts : List TokenAndSpan) → update_at (first ts) ≡ Some op
      → run hook (at Unary) x ts ≡ update_prefix hook op x ts
  unfolding update_prefix update_tail update_node
  update_picked op x [] h = cc
  update_picked op x (t ∷ ts) h =
      let u = update_is t.token op h in
      knot hook (at Unary) x (t ∷ ts) ∙ rw u (rw (h, exec) (calls (run hook (at Unary) (inner x) ts) _))

  pub update_opens : (op : UpdateOp) (t : TokenAndSpan) (x : Scope) (ts : List TokenAndSpan)
      → update_prefix hook op x (t ∷ ts) ≡ update_tail hook t.span op x ts
  unfolding update_prefix
  update_opens op t x ts = refl

  pub update_splits : (s : Span) (op : UpdateOp) (x : Scope) (ts : List TokenAndSpan)
      → update_tail hook s op x ts ≡ (run hook (at Unary) (inner x) ts >>= (λ p. update_node s op x p.0 p.1))
  unfolding update_tail
  update_splits s op x ts = refl

  -- a left-hand side, and what is after it
  pub operand_splits : (x : Scope) (ts : List TokenAndSpan) → x.head ≡ false
      → at_token is_update (first ts) ≡ false → at_token is_await (first ts) ≡ false → prefix_at (first ts) ≡ None
      → run hook (at Unary) x ts ≡ (run hook (at (Lhs true)) x ts >>= (λ p. run hook (updates p.0) x p.1))
  operand_splits x ts none u w p =
      knot hook (at Unary) x ts ∙ rw (u, w, p) (then_last (run hook (at (Lhs true)) x ts))
      ∙ ap (λ y. run hook (at (Lhs true)) x ts >>= (λ p. run hook (updates p.0) y p.1)) (inner_is x none)
    where
      then_last : (o : Out (Tree F C K))
          → and_then o (λ e us. exec hook (run hook) (Some 11) (read (updates e) (inner x) (λ v. gives v)) us)
          ≡ (o >>= (λ p. run hook (updates p.0) (inner x) p.1))
      then_last None = refl
      then_last (Some p) = last hook (Some 11) (updates p.0) (inner x) p.1 refl

  behind_none : (t : TokenAndSpan) → (if t.had_line_break then None else update_of t.token) ≡ None
      → no_update_at (Some t) ≡ true
  behind_none t h = by_break t.had_line_break h
    where
      by_break : (b : Bool) → (if b then None else update_of t.token) ≡ None → (not (is_update t.token) || b) ≡ true
      by_break true h = or_true (not (is_update t.token))
        where
          or_true : (a : Bool) → (a || true) ≡ true
          or_true true = refl
          or_true false = refl
      by_break false h = rw (no_update_is t.token h) refl

  pub updates_end : (l : Tree F C K) (x : Scope) (ts : List TokenAndSpan) → update_behind (first ts) ≡ None
      → run hook (updates l) x ts ≡ Some (l, ts)
  updates_end l x [] h = knot hook (updates l) x []
  updates_end l x (t ∷ ts) h = knot hook (updates l) x (t ∷ ts) ∙ rw (behind_none t h) refl

  if_some : {A : Type 0} (b : Bool) (o : Option A) (a : A) → (if b then None else o) ≡ Some a
      → (b ≡ false) × (o ≡ Some a)
  if_some true o a h = cc
  if_some false o a h = (refl, h)

  -- the operator is after l, which it writes to, or doesn't
  pub updates_well : (op : UpdateOp) (l : Tree F C K) (x : Scope) (t : TokenAndSpan) (ts : List TokenAndSpan)
      → update_behind (Some t) ≡ Some op → is_target x.context.strict l ≡ true
      → run hook (updates l) x (t ∷ ts) ≡ Some (update_e (to (span_of l) t.span) op false l, ts)
  updates_well op l x t ts h g =
      let (n, o) = if_some t.had_line_break (update_of t.token) op h in
      let u = update_is t.token op o in
      knot hook (updates l) x (t ∷ ts) ∙ rw (u, n) (rw (o, g) refl)

  pub updates_ill : (op : UpdateOp) (l : Tree F C K) (x : Scope) (ts : List TokenAndSpan)
      → update_behind (first ts) ≡ Some op → is_target x.context.strict l ≡ false → run hook (updates l) x ts ≡ None
  updates_ill op l x [] h g = absurd cc
  updates_ill op l x (t ∷ ts) h g =
      let (n, o) = if_some t.had_line_break (update_of t.token) op h in
      let u = update_is t.token op o in
      knot hook (updates l) x (t ∷ ts) ∙ rw (u, n) (rw (o, g) refl)

  -- the same, by whether l may be written to
  pub updates_by : (op : UpdateOp) (l : Tree F C K) (x : Scope) (ts : List TokenAndSpan)
      → update_behind (first ts) ≡ Some op → run hook (updates l) x ts ≡ update_rest op l x ts
  updates_by op l x [] h = absurd cc
  updates_by op l x (t ∷ ts) h = by_target (is_target x.context.strict l) refl
    where
      by_target : (b : Bool) → is_target x.context.strict l ≡ b
          → run hook (updates l) x (t ∷ ts) ≡ update_rest op l x (t ∷ ts)
      by_target true g = updates_well op l x t ts h g ∙ sym (if_on (is_target x.context.strict l) _ _ g)
      by_target false g = updates_ill op l x (t ∷ ts) h g ∙ sym (if_off (is_target x.context.strict l) _ _ g)

  -- ---- `await` (15.8)

  -- what is after the word is what the production looks at
  sees_end : (us : List TokenAndSpan) → at_token is_star (first us) ≡ false → ends_await_at (first us) ≡ true
      → sees (λ t. is_star t.token || not (ends_await t)) us ≡ false
  sees_end [] h e = refl
  sees_end (t ∷ us) h e = rw (h, e) refl

  sees_more : (x : Scope) (us : List TokenAndSpan) → at_token is_star (first us) ≡ false
      → (not x.context.in_async && ends_await_at (first us)) ≡ false
      → sees (λ t. is_star t.token || (not x.context.in_async && ends_await t)) us ≡ false
  sees_more x [] h e = refl
  sees_more x (t ∷ us) h e = rw h e

  await_reads : (s : Span) (w : Bool) (x : Scope) (us : List TokenAndSpan)
      → run hook (at Unary) x (tk (token.Word (written.Keyword keyword.Await)) w s ∷ us) ≡ await_tail hook s x us
  unfolding await_tail await_operand await_ident
  await_reads s w x us =
      knot hook (at Unary) x (a ∷ us)
      ∙ by_tests (at_token is_star (first us)) (not x.context.in_async && ends_await_at (first us)) refl refl
    where
      a : TokenAndSpan
      a = tk (token.Word (written.Keyword keyword.Await)) w s

      by_tests : (b e : Bool) → at_token is_star (first us) ≡ b
          → (not x.context.in_async && ends_await_at (first us)) ≡ e
          → exec hook (run hook) (Some 11) (chosen {s = Unary} {c = x}
          (await_choice {F = F} {C = C} {K = K} x (first us))) (a ∷ us)
          ≡ (if at_token is_star (first us) then None else
          (if not x.context.in_async && ends_await_at (first us) then
          (if await_ident_ok x.context then Some (ident_e s (codes "await"), us) else None) else
          (if await_ok x.context then
          (run hook (at Unary) (inner x) us >>= (λ p. Some (await_e (to s (span_of p.0)) p.0, p.1))) else None)))
      by_tests true e h k =
          ap (λ v. exec hook (run hook) (Some 11) (chosen {s = Unary} {c = x} v) (a ∷ us))
          (if_on (at_token is_star (first us)) _ _ h)
          ∙ sym (if_on (at_token is_star (first us)) _ _ h)
      by_tests false true h k =
          ap (λ v. exec hook (run hook) (Some 11) (chosen {s = Unary} {c = x} v) (a ∷ us))
          (if_off (at_token is_star (first us)) _ _ h
          ∙ if_on (not x.context.in_async && ends_await_at (first us)) _ _ k)
          ∙ ap (λ v. if await_ident_ok x.context then v else None)
          (if_off (sees (λ t. is_star t.token || not (ends_await t)) us) None _
          (sees_end us h (both (not x.context.in_async) (ends_await_at (first us)) k).1))
          ∙ sym (if_off (at_token is_star (first us)) _ _ h
          ∙ if_on (not x.context.in_async && ends_await_at (first us)) _ _ k)
      by_tests false false h k =
          ap (λ v. exec hook (run hook) (Some 11) (chosen {s = Unary} {c = x} v) (a ∷ us))
          (if_off (at_token is_star (first us)) _ _ h
          ∙ if_off (not x.context.in_async && ends_await_at (first us)) _ _ k)
          ∙ ap (λ v. if await_ok x.context then v else None)
          (if_off (sees (λ t. is_star t.token || (not x.context.in_async && ends_await t)) us) None _
          (sees_more x us h k)
          ∙ calls (run hook (at Unary) (inner x) us) _)
          ∙ sym (if_off (at_token is_star (first us)) _ _ h
          ∙ if_off (not x.context.in_async && ends_await_at (first us)) _ _ k)

  pub await_picked : (x : Scope) (ts : List TokenAndSpan) → at_token is_await (first ts) ≡ true
      → run hook (at Unary) x ts ≡ await_expr hook x ts
  unfolding await_expr
  await_picked x [] h = absurd cc
  await_picked x (t ∷ ts) h = by_token t.token t.had_line_break t.span h
    where
      by_token : (u : Token) (w : Bool) (s : Span) → is_await u ≡ true
          → run hook (at Unary) x (tk u w s ∷ ts) ≡ await_tail hook s x ts
      by_token (token.Word (written.Keyword keyword.Await)) w s h = await_reads s w x ts
      by_token u w s h = absurd cc

  pub await_opens : (t : TokenAndSpan) (x : Scope) (ts : List TokenAndSpan)
      → await_expr hook x (t ∷ ts) ≡ await_tail hook t.span x ts
  unfolding await_expr
  await_opens t x ts = refl

  pub await_well : (s : Span) (x : Scope) (ts : List TokenAndSpan) → await_ok x.context ≡ true
      → await_operand hook s x ts
      ≡ (run hook (at Unary) (inner x) ts >>= (λ p. Some (await_e (to s (span_of p.0)) p.0, p.1)))
  unfolding await_operand
  await_well s x ts h = rw h refl

  pub await_ill : (s : Span) (x : Scope) (ts : List TokenAndSpan) → await_ok x.context ≡ false
      → await_operand hook s x ts ≡ None
  unfolding await_operand
  await_ill s x ts h = rw h refl

-- what is made of `++` and `--`, and of the identifier `await`
module _ {F C K : Type 0} where
  pub update_well : (s : Span) (op : UpdateOp) (x : Scope) (e : Tree F C K) (ts : List TokenAndSpan)
      → is_target x.context.strict e ≡ true → update_node s op x e ts ≡ Some (update_e (to s (span_of e)) op true e, ts)
  unfolding update_node
  update_well s op x e ts h = rw h refl

  pub update_ill : (s : Span) (op : UpdateOp) (x : Scope) (e : Tree F C K) (ts : List TokenAndSpan)
      → is_target x.context.strict e ≡ false → update_node s op x e ts ≡ None
  unfolding update_node
  update_ill s op x e ts h = rw h refl

  pub ident_well : (s : Span) (x : Scope) (ts : List TokenAndSpan) → await_ident_ok x.context ≡ true
      → await_ident {F = F} {C = C} {K = K} s x ts ≡ Some (ident_e s (codes "await"), ts)
  unfolding await_ident
  ident_well s x ts h = rw h refl

  pub ident_ill : (s : Span) (x : Scope) (ts : List TokenAndSpan) → await_ident_ok x.context ≡ false
      → await_ident {F = F} {C = C} {K = K} s x ts ≡ None
  unfolding await_ident
  ident_ill s x ts h = rw h refl

-- a token, and what is read after it, which may be nothing
module _ {S : Type 0} (model : Model S) (sure : Bool) {T A : Type 0} (view : T → A) (f g : Reader A) where
  pub parses_first : {b c : Buffer S} {k : Token} (d : Buffer S) (r : Result T Error) (laws : Laws model)
      (h : Bumped model b k c) → ((x : Scope) (ts : List TokenAndSpan) → f x (plain h.was ∷ ts) ≡ g x ts)
      → Continues model sure view g c r d → Parses model sure view f b r d
  parses_first d (Ok x) laws h step q = heard_first laws h step q
  parses_first d (Err e) laws h step q = unheard_after (on_took {g = g} laws h step) q
