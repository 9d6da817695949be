-- Where the clean parser stops, the expression that it read doesn't go on (`goes_on`). But for one: outside async code
-- and modules `await` alone is a name before anything on another line, and a link isn't read after it there.
--
-- `Wp` says what has to hold of what is run, if of each call in it `Post` holds; so each call is looked at once.
use Rattle.std.specs.Prelude.{◌≡◌, ℕ, zero, suc, ◌≤◌, Bool, true, false, not, ◌||◌, ◌&&◌, if◌then◌else◌, List, [], ◌∷◌, Option, Some, None, nat_le, nat_lt}
use Rattle.std.proofs.Common.{refl, sym as sym_path, subst, arith}
use Rattle.std.proofs.lemmas.Bool.{leb-true}
use Rattle.swc_context.specs.{Contexts.arrow_body, Operators.operator_of, Operators.precedence_of, declared.operator.UnaryOp.UnaryOp, declared.operator.BinaryOp.BinaryOp, declared.operator.BinaryOp.BinaryOp as binary, declared.span.Span.Span, declared.word.Keyword.Keyword as keyword, declared.word.Word.Word as word}
use Rattle.swc_input.specs.{Kinds.is_hash, declared.token.Token.Token, declared.token.Token.Token as token, declared.token.TokenAndSpan.TokenAndSpan, Kinds.at_token}
use Rattle.swc_ast.specs.Tree.{Tree, Trees, node, nil, cons, hole, block as block_kind, bin, unary as unary_kind, update, span_of}
use Rattle.swc_ast.specs.Trees.{to, yield_e, private_e, paren_e, call_e, ident_e, held_exprs, items_of, seq_of, trees_append, is_operation}
use Rattle.swc_bodies.specs.Readings.{Hook, is_brace, begins}
use Rattle.swc_grammar.specs.Scope.{Scope, inner, in_context}
use Rattle.swc_grammar.specs.Rule.{Rule, gives, never, take, check, peek, peek_two, read, hear, given, ◌>>=◌, ◌>>◌, symbol, must, sees, sees_two}
use Rattle.swc_grammar.specs.Tokens.{is_assign, is_comma, is_lparen, is_lbracket, is_backquote, is_dot, is_question, is_in, is_update, is_await, is_star, yield_ok, binary_of}
use Rattle.swc_grammar.specs.Names.{Spelling}
use Rattle.swc_grammar.specs.Symbols.{Answer, reading_of, Symbol, Expr, Assign, Level, Unary, Lhs, ArrowBody, Body, Value}
use Rattle.swc_grammar.specs.Parts.{any_name, update_here, assign_here, prefix_here, private_ok}
use Rattle.swc_grammar.specs.Arrows.{is_arrow, arrow_name, async_name, async_param}
use Rattle.swc_grammar.specs.Cover.{as_literal, as_params, is_pattern}
use Rattle.swc_grammar.specs.Endings.{Last, any, operators, nothing, last_in, last_in_all, last_of_block, writes_in, writes_in_all, writes_of_block, is_link, is_sign, goes_on_after, goes_on}
use Rattle.swc_grammar.specs.AwaitName.{await_in, await_in_all, await_of_block}
use Rattle.swc_grammar.specs.Grammar.{yield-alone, yield-expr, yield-star, await-ident, await-expr, body-block, body-expr, member-computed, tagged-tpl, call}
use Rattle.swc_grammar.specs.Clean.{Choice, none, allowed, assign, unary, Call, sym, links, constructs, updates, climb, assigns, seqs, parens, asyncs, Ans, Plan, plan, Runs, rank, exec, step, run_at, run, measure, chosen, pick, first, second, third, no_link, no_link_at, no_update_at, Bound, operator_at, turn, turned, bin_op, linked, link, dot_link, chain_link, call_link, Link, more, no_more, begins_yield, begins_arrow, begins_async_name, begins_async_list, no_error, assigned, yield_by, goes_on_yield_at, ends_await_at, unary_by, prefix_at, constructed, constructed_with, begins_new, behind_base, pattern_tail, assign_tail, exprs_tail, private_operand, begins_private}
use Rattle.swc_grammar.proofs.Answers.{then-ok, only, unless, hear-ok, inj, both}
use Rattle.swc_grammar.proofs.Soft.{last-put, last-seq}

abbrev is_any : Last → Bool
is_any any = true
is_any l = false

-- no link comes next, unless the tree ends so that none goes on with it, or in the name `await`, in a script
abbrev is_named : Scope → Bool → Bool
is_named c w = w && not c.context.module

abbrev Linkless : {F C K : Type 0} → Scope → Tree F C K → List TokenAndSpan → Type 0
Linkless c t ys = at_token is_link (first ys) ≡ true → is_any (last_in t) ≡ true → is_named c (await_in t) ≡ true

-- of what ends so, whether an operator that writes goes on with it, and whether it ends in that name
pub record Quiet (c : Scope) (l : Last) (b w : Bool) (ys : List TokenAndSpan) : Type 0 where
  pub link : at_token is_link (first ys) ≡ true → is_any l ≡ true → is_named c w ≡ true
  pub sign : at_token (is_sign c) (first ys) ≡ true → l ≡ nothing
  pub writes : at_token is_assign (first ys) ≡ true → b ≡ false

abbrev QuietAt : {F C K : Type 0} → Scope → Tree F C K → List TokenAndSpan → Type 0
QuietAt c t ys = Quiet c (last_in t) (writes_in t) (await_in t) ys

await-put : {F C K : Type 0} (ts : Trees F C K) (e : Tree F C K)
    → await_in_all (trees_append ts (cons e nil)) ≡ await_in e
await-put nil e = refl
await-put (cons t nil) e = refl
await-put (cons t (cons u us)) e = await-put (cons u us) e

await-seq : {F C K : Type 0} (ts : Trees F C K) → await_in (seq_of ts) ≡ await_in_all ts
await-seq nil = refl
await-seq (cons t nil) = refl
await-seq (cons t (cons u us)) = refl

no-link-next : (ys : List TokenAndSpan) → no_link true ys ≡ true → at_token is_link (first ys) ≡ false
no-link-next [] h = refl
no-link-next (a ∷ us) h = by-token a.token h
  where
    by-token : (t : Token)
        → no_link_at true (Some (record { token = t; had_line_break = a.had_line_break; span = a.span })) (first us)
        ≡ true
        → is_link t ≡ false
    by-token token.LParen h = absurd cc
    by-token token.LBracket h = absurd cc
    by-token token.BackQuote h = absurd cc
    by-token t h = refl

-- where no operator comes next at all, no sign does
some-precedence : (op : BinaryOp) → suc 0 ≤ precedence_of op
some-precedence binary.Exp = omega arith
some-precedence op = omega arith

none-above : (op : BinaryOp) → precedence_of op ≤ 0 → ⊥
none-above op n = let k = some-precedence op in absurd (omega arith)

in-bound : (x : Bool) → x ≡ true
    → ((op : BinaryOp) → (if x then Some binary.In else None) ≡ Some op → precedence_of op ≤ 0)
    → ⊥
in-bound true h b = none-above binary.In (b binary.In refl)
in-bound false h b = absurd cc

sign-bound : (c : Scope) (t : Token) → ((op : BinaryOp) → binary_of c.context t ≡ Some op → precedence_of op ≤ 0)
    → is_sign c t ≡ true → ⊥
sign-bound c (token.BinOp o) b h = none-above (operator_of o) (b (operator_of o) refl)
sign-bound c (token.Word (word.Keyword keyword.In)) b h = in-bound c.context.include_in_expr h b
sign-bound c (token.Word (word.Keyword keyword.InstanceOf)) b h =
    none-above binary.InstanceOf (b binary.InstanceOf refl)
sign-bound c t b h = absurd cc

no-sign-next : (c : Scope) (ys : List TokenAndSpan) → Bound c 0 ys → at_token (is_sign c) (first ys) ≡ true → ⊥
no-sign-next c [] b h = absurd cc
no-sign-next c (a ∷ us) b h = sign-bound c a.token (λ op k. b op k) h

in-no-link : (ys : List TokenAndSpan) → at_token is_in (first ys) ≡ true → at_token is_link (first ys) ≡ true → ⊥
in-no-link [] h k = absurd cc
in-no-link (a ∷ us) h k = by-token a.token h k
  where
    by-token : (t : Token) → is_in t ≡ true → is_link t ≡ true → ⊥
    by-token (token.Word (word.Keyword keyword.In)) h k = absurd cc
    by-token t h k = absurd cc

-- after `new` without arguments
no-paren-next : (b : Bool) (ys : List TokenAndSpan) → no_link false ys ≡ true → at_token is_lparen (first ys) ≡ false
    → no_link b ys ≡ true
no-paren-next false ys n h = n
no-paren-next true [] n h = refl
no-paren-next true (a ∷ us) n h = rw h n

name-only : (x y : Bool) → not (x || y) ≡ true → not y ≡ true
name-only true y h = cc
name-only false y h = h

on-off : (x y : Bool) → (x && not y) ≡ false → x ≡ true → y ≡ true
on-off true true h k = refl
on-off true false h k = cc
on-off false y h k = cc

apart-two : (x y : Bool) → (x && y) ≡ false → x ≡ true → y ≡ true → ⊥
apart-two true true h k l = absurd cc
apart-two true false h k l = absurd cc
apart-two false y h k l = absurd cc

by-write : (z w : Bool) → (z ≡ true → w ≡ false) → (z && w) ≡ false
by-write true w h = h refl
by-write false w h = refl

abbrev after_by : Last → Bool → Bool → Bool
after_by any x y = x || y
after_by operators x y = y
after_by nothing x y = false

after-is : (c : Scope) (l : Last) (t : Token) (w : Bool)
    → (after_by l (is_link t) (is_sign c t) || (is_assign t && w)) ≡ false
    → (goes_on_after c l t || (is_assign t && w)) ≡ false
after-is c any t w h = h
after-is c operators t w h = h
after-is c nothing t w h = h

quiet-nothing : (c : Scope) (l : Last) (b : Bool) (w : Bool) (ys : List TokenAndSpan) → l ≡ nothing → b ≡ false
    → Quiet c l b w ys
quiet-nothing c l b w ys p q = record { link = λ k n. absurd cc; sign = λ k. p; writes = λ k. q }

quiet-as : {c : Scope} {l m : Last} {a b v w : Bool} {ys : List TokenAndSpan} → l ≡ m → a ≡ b → v ≡ w
    → Quiet c l a v ys → Quiet c m b w ys
quiet-as {c = c} {l = l} {m = m} {a = a} {b = b} {v = v} {w = w} {ys = ys} p q r k =
    subst (λ x. Quiet c x b w ys) p (subst (λ x. Quiet c l x w ys) q (subst (λ x. Quiet c l a x ys) r k))

settled : (l : Last) (x y z b : Bool) → (x ≡ true → is_any l ≡ true → ⊥) → (y ≡ true → l ≡ nothing)
    → (z ≡ true → b ≡ false) → (after_by l x y || (z && b)) ≡ false
settled any true y z b f g h = absurd (f refl refl)
settled any false true z b f g h = let k = g refl in absurd cc
settled any false false z b f g h = by-write z b h
settled operators x true z b f g h = let k = g refl in absurd cc
settled operators x false z b f g h = by-write z b h
settled nothing x y z b f g h = by-write z b h

module _ {F C K : Type 0} where
  quiet-yield : (c : Scope) (s : Span) (d : Bool) (e : Tree F C K) (ys : List TokenAndSpan)
      → QuietAt c e ys → QuietAt c (yield_e s d e) ys
  quiet-yield c s d (node hole s' ts) ys q = quiet-nothing c nothing false false ys refl refl
  quiet-yield c s d (node k s' ts) ys q = q

  quiet-body : (c : Scope) (a : Bool) (e : Tree F C K) (ys : List TokenAndSpan)
      → QuietAt (in_context (arrow_body a) c) e ys
      → Quiet c (last_of_block e (last_in e)) (writes_of_block e (writes_in e)) (await_of_block e (await_in e)) ys
  quiet-body c a (node (block_kind v) s ts) ys q = quiet-nothing c nothing false false ys refl refl
  quiet-body c a (node k s ts) ys q =
      record { link = λ m n. q.link m n; sign = λ n. q.sign n; writes = λ n. q.writes n }

  operation-writes : (t : Tree F C K) → is_operation t ≡ true → writes_in t ≡ false
  operation-writes (node (bin op) s ts) h = refl
  operation-writes (node (unary_kind op) s ts) h = refl
  operation-writes (node (update op b) s ts) h = refl
  operation-writes (node k s ts) h = absurd cc

  -- what holds of what each call reads of ts, leaving ys
  abbrev Post : (k : Call F C K) → Scope → List TokenAndSpan → Ans F C K k → List TokenAndSpan → Type 0
  Post (sym Expr) c ts t ys = QuietAt c t ys
  Post (sym Assign) c ts t ys = QuietAt c t ys
  Post (sym (ArrowBody a)) c ts t ys =
      Quiet c (last_of_block t (last_in t)) (writes_of_block t (writes_in t)) (await_of_block t (await_in t)) ys
  Post (sym (Level zero)) c ts t ys = Unit {0}
  Post (sym (Level (suc m))) c ts t ys = Linkless c t ys × Bound c m ys
  Post (sym Unary) c ts t ys = Linkless c t ys
  Post (sym (Lhs b)) c ts t ys = no_link b ys ≡ true
  Post (links b l) c ts t ys = no_link b ys ≡ true
  Post (constructs b s l) c ts t ys = no_link false ts ≡ true → no_link b ys ≡ true
  Post (updates l) c ts t ys = no_link true ts ≡ true → Linkless c t ys
  Post (climb l m) c ts t ys = Linkless c l ts → Linkless c t ys × Bound c m ys
  Post (assigns e) c ts t ys = Linkless c e ts → Bound c 0 ts → QuietAt c t ys
  Post (seqs es) c ts t ys =
      Quiet c (last_in_all es) (writes_in_all es) (await_in_all es) ts → QuietAt c t ys
  Post (parens s es) c ts t ys = QuietAt c t ys
  Post (asyncs n es) c ts t ys = QuietAt c t ys
  Post k c ts t ys = Unit {0}

  -- what has to hold for Q of what is run
  abbrev Wp : {A : Type 0} → Plan F C K A → List TokenAndSpan → (A → List TokenAndSpan → Type 0) → Type 0
  Wp (gives a) ts Q = Q a ts
  Wp never ts Q = Unit {0}
  Wp (take f) ts Q = (t : TokenAndSpan) (us : List TokenAndSpan) → ts ≡ (t ∷ us) → Wp (f t) us Q
  Wp (check b x) ts Q = b ≡ true → Wp x ts Q
  Wp (peek p x) ts Q = sees p ts ≡ false → Wp x ts Q
  Wp (peek_two p x) ts Q = sees_two p ts ≡ false → Wp x ts Q
  Wp (read k c f) ts Q = (e : Ans F C K k) (us : List TokenAndSpan) → Post k c ts e us → Wp (f e) us Q
  Wp (hear b c f) ts Q = (v : Value F C K b) (s : Span) (us : List TokenAndSpan) → Wp (f v s) us Q

  wp-any : {A B : Type 0} (x : Plan F C K A) (k : A → Plan F C K B) (ts : List TokenAndSpan)
      (Q : B → List TokenAndSpan → Type 0)
      → ((a : A) (us : List TokenAndSpan) → Wp (k a) us Q) → Wp (x >>= k) ts Q
  wp-any (gives a) k ts Q h = h a ts
  wp-any never k ts Q h = tt
  wp-any (take f) k ts Q h = λ t us y. wp-any (f t) k us Q h
  wp-any (check b x) k ts Q h = λ y. wp-any x k ts Q h
  wp-any (peek p x) k ts Q h = λ y. wp-any x k ts Q h
  wp-any (peek_two p x) k ts Q h = λ y. wp-any x k ts Q h
  wp-any (read s c f) k ts Q h = λ e us y. wp-any (f e) k us Q h
  wp-any (hear b c f) k ts Q h = λ v s us. wp-any (f v s) k us Q h

  wp-if : {A : Type 0} (b : Bool) (x y : Plan F C K A) (ts : List TokenAndSpan) (Q : A → List TokenAndSpan → Type 0)
      → (b ≡ true → Wp x ts Q) → (b ≡ false → Wp y ts Q) → Wp (if b then x else y) ts Q
  wp-if true x y ts Q f g = f refl
  wp-if false x y ts Q f g = g refl

  wp-plan-if : {A : Type 0} (b : Bool) (x y : Rule Symbol (Answer F C K) Body (Value F C K) A) (ts : List TokenAndSpan)
      (Q : A → List TokenAndSpan → Type 0)
      → Wp (plan x) ts Q → Wp (plan y) ts Q → Wp (plan (if b then x else y)) ts Q
  wp-plan-if true x y ts Q f g = f
  wp-plan-if false x y ts Q f g = g

  wp-pick : {s : Symbol} {c : Scope} (b : Bool) (x y : Choice F C K s c) (ts : List TokenAndSpan)
      (Q : Tree F C K → List TokenAndSpan → Type 0)
      → (b ≡ true → Wp (chosen x) ts Q) → (b ≡ false → Wp (chosen y) ts Q) → Wp (chosen (if b then x else y)) ts Q
  wp-pick true x y ts Q f g = f refl
  wp-pick false x y ts Q f g = g refl

  wp-given : {A D : Type 0} (o : Option D) (k : D → Rule Symbol (Answer F C K) Body (Value F C K) A)
      (ts : List TokenAndSpan) (Q : A → List TokenAndSpan → Type 0)
      → ((x : D) → o ≡ Some x → Wp (plan (k x)) ts Q) → Wp (plan (given o >>= k)) ts Q
  wp-given None k ts Q h = tt
  wp-given (Some x) k ts Q h = h x refl

  wp-some : {A D : Type 0} (o : Option D) (k : D → Plan F C K A) (ts : List TokenAndSpan)
      (Q : A → List TokenAndSpan → Type 0)
      → ((x : D) → o ≡ Some x → Wp (k x) ts Q) → Wp (given o >>= k) ts Q
  wp-some None k ts Q h = tt
  wp-some (Some x) k ts Q h = h x refl

  -- so it holds of what is run
  wp-holds : {A : Type 0} (hook : Hook F C K) (p : Runs F C K)
      → ((k : Call F C K) (c : Scope) (ts : List TokenAndSpan) (r : Ans F C K k × List TokenAndSpan)
      → p k c ts ≡ Some r → Post k c ts r.0 r.1)
      → (g : Option ℕ) (x : Plan F C K A) (ts : List TokenAndSpan) (Q : A → List TokenAndSpan → Type 0)
      (r : A × List TokenAndSpan) → exec hook p g x ts ≡ Some r → Wp x ts Q → Q r.0 r.1
  wp-holds hook p ih g (gives a) ts Q r h w = subst (λ v. Q v.0 v.1) (inj (a, ts) r h) w
  wp-holds hook p ih g never ts Q r h w = absurd cc
  wp-holds hook p ih g (take f) [] Q r h w = absurd cc
  wp-holds hook p ih g (take f) (t ∷ ts) Q r h w = wp-holds hook p ih None (f t) ts Q r h (w t ts refl)
  wp-holds hook p ih g (check b x) ts Q r h w = let (y, h1) = only b h in wp-holds hook p ih g x ts Q r h1 (w y)
  wp-holds hook p ih g (peek q x) ts Q r h w =
      let (y, h1) = unless (sees q ts) h in wp-holds hook p ih g x ts Q r h1 (w y)
  wp-holds hook p ih g (peek_two q x) ts Q r h w =
      let (y, h1) = unless (sees_two q ts) h in wp-holds hook p ih g x ts Q r h1 (w y)
  wp-holds hook p ih g (read k c f) ts Q r h w =
      let (y, h1) = only (allowed g (rank k)) h in
      let (q, a, b) = then-ok (p k c ts) (λ e us. exec hook p g (f e) us) h1 in
      wp-holds hook p ih g (f q.0) q.1 Q r b (w q.0 q.1 (ih k c ts q a))
  wp-holds hook p ih g (hear b c f) ts Q r h w =
      let (q, a, lt, j) = hear-ok (reading_of hook b c.context ts) ts (λ v s us. exec hook p None (f v s) us) h in
      wp-holds hook p ih None (f q.0 _) q.1 Q r j (w q.0 _ q.1)

  -- ---- links
  abbrev is_last_link : {b : Bool} {c : Scope} → Link F C K b c → Bool
  is_last_link no_more = true
  is_last_link (more p) = false

  wp-linked : (b : Bool) (c : Scope) (m : Link F C K b c) (l : Tree F C K) (ts : List TokenAndSpan)
      → (is_last_link m ≡ true → no_link b ts ≡ true) → Wp (linked m l) ts (λ t ys. no_link b ys ≡ true)
  wp-linked b c no_more l ts h = h refl
  wp-linked b c (more {f = f} p) l ts h = λ t us eq.
      wp-any (plan (f l t)) (λ e. symbol (links b e) c) us (λ t ys. no_link b ys ≡ true) (λ e vs. λ v ws n. n)

  last-if : {b : Bool} {c : Scope} (x : Bool) (m n : Link F C K b c) → is_last_link (if x then m else n) ≡ true
      → is_last_link m ≡ false → (x ≡ false) × (is_last_link n ≡ true)
  last-if true m n h k = absurd cc
  last-if false m n h k = (refl, h)

  no-last : {b : Bool} {c : Scope} (x : Bool) (m n : Link F C K b c) → is_last_link m ≡ false → is_last_link n ≡ false
      → is_last_link (if x then m else n) ≡ false
  no-last true m n h k = h
  no-last false m n h k = k

module _ (F C K : Type 0) where
  last-call : (b : Bool) (c : Scope) (t : TokenAndSpan)
      → is_last_link (call_link {F = F} {C = C} {K = K} b {c = c} (Some t)) ≡ true → (b && is_lparen t.token) ≡ false
  last-call true c t h = (last-if (is_lparen t.token) (more (λ i. call)) no_more h refl).0
  last-call false c t h = refl

  link-none : (b : Bool) (c : Scope) (ts : List TokenAndSpan)
      → is_last_link (link {F = F} {C = C} {K = K} b c ts) ≡ true
      → no_link b ts ≡ true
  link-none b c [] h = refl
  link-none b c (t ∷ us) h =
      let (x, h1) = last-if (is_dot t.token) (dot_link (first us)) _ h
      (no-last (at_token is_hash (first us)) _ _ refl refl) in
      let (y, h2) = last-if (is_lbracket t.token) (more (λ i. member-computed)) _ h1 refl in
      let (z, h3) = last-if (is_backquote t.token) (more (λ i. tagged-tpl)) _ h2 refl in
      let (w, h4) = last-if (is_question t.token && at_token is_dot (first us)) (chain_link (second us)) _ h3
      (no-last (at_token is_lbracket (second us)) _ _ refl (no-last (at_token is_lparen (second us)) _ _ refl
      (no-last (at_token is_hash (second us)) _ _ refl refl))) in
      rw (x, y, z, w, last-call b c t h4) refl

  -- ---- operators
  wp-turn : (c : Scope) (l : Tree F C K) (m : ℕ) (ts : List TokenAndSpan) (o : Option BinaryOp)
      → operator_at c.context (first ts) ≡ o
      → Wp {F = F} {C = C} {K = K} (turn o l m c >>= (λ r. turned r.0 r.1 c)) ts
      (λ t ys. Linkless c l ts → Linkless c t ys × Bound c m ys)
  wp-turn c l m ts None e = λ y p. (p, λ op k. absurd cc)
  wp-turn c l m ts (Some op) e = by-test (nat_le (precedence_of op) m) refl
    where
      same-op : (op' : BinaryOp) → operator_at c.context (first ts) ≡ Some op' → nat_le (precedence_of op) m ≡ true
          → precedence_of op' ≤ m
      same-op op' k q =
          let same : op ≡ op' = cc in subst (λ v. precedence_of v ≤ m) same (leb-true (precedence_of op) m q)

      by-test : (b : Bool) → nat_le (precedence_of op) m ≡ b
          → Wp {F = F} {C = C} {K = K}
          ((if b then gives (l, None) else take (λ t. bin_op op l m c)) >>= (λ r. turned r.0 r.1 c)) ts
          (λ t ys. Linkless c l ts → Linkless c t ys × Bound c m ys)
      by-test true q = λ y p. (p, λ op' k. same-op op' k q)
      by-test false q = (λ t us eq. λ x. λ r vs lr. λ n. λ z. λ v ws cl. λ p. cl lr.0)

  private-by : (m : ℕ) (c : Scope) (s : Span) (vs : List TokenAndSpan) (o : Option Spelling)
      → at_token is_in (first vs) ≡ true
      → Wp {F = F} {C = C} {K = K}
      ((given o >>= (λ n. must (private_ok c s n.at) >> gives (private_e (to s n.at) n.text)))
      >>= (λ e. symbol (climb e m) (inner c))) vs (λ t ys. Linkless c t ys × Bound c m ys)
  private-by m c s vs None h = tt
  private-by m c s vs (Some n) h = λ x. λ t ys cl. cl (λ k a. absurd (in-no-link vs h k))

  private-wp : (f : Bool) (m : ℕ) (c : Scope) (ts : List TokenAndSpan) → begins_private f c ts ≡ true
      → Wp {F = F} {C = C} {K = K} (private_operand c >>= (λ e. symbol (climb e m) (inner c))) ts
      (λ t ys. Linkless c t ys × Bound c m ys)
  private-wp f m c ts h = λ a us p. λ y. λ b vs q.
      let same : ts ≡ (a ∷ (b ∷ vs)) = cc in
      let (h1, k1) = both (at_token is_hash (first ts)) _ h in
      let (h2, k2) = both f _ k1 in
      let (h3, k3) = both c.syntax.pedantic _ k2 in
      private-by m c a.span vs (any_name c b.token b.span) (subst (λ v. at_token is_in (third v) ≡ true) same k3)

  behind-wp : (c : Scope) (e : Tree F C K) (ts : List TokenAndSpan)
      → Wp {F = F} {C = C} {K = K} (behind_base c e) ts (λ t ys. QuietAt c t ys)
  behind-wp c e ts = λ l us n. λ u vs up. λ k ws cl. λ t xs ends. ends (cl (up n)).0 (cl (up n)).1

  -- ---- each call
  yield-wp : (c : Scope) (u : Option TokenAndSpan) (ts : List TokenAndSpan)
      → Wp {F = F} {C = C} {K = K} (chosen (yield_by c u)) ts (λ t ys. QuietAt c t ys)
  yield-wp c u ts =
      wp-pick (not (yield_ok c.context)) none _ ts _ (λ h. tt) (λ h.
      wp-pick (not (goes_on_yield_at u)) (pick yield-alone) _ ts _
      (λ h. (λ t us eq. λ i j w. quiet-nothing c nothing false false us refl refl)) (λ h.
      wp-pick (at_token is_star u) (pick yield-star) (pick yield-expr) ts _
      (λ h. (λ t us eq. λ i j. (λ b vs eq. λ n x. λ e ws q. quiet-yield c (to t.span (span_of e)) true e ws q)))
      (λ h. (λ t us eq. λ i j w. λ e ws q. quiet-yield c (to t.span (span_of e)) false e ws q))))

  assign-wp : (c : Scope) (ts : List TokenAndSpan)
      → Wp {F = F} {C = C} {K = K} (assign c ts) ts (λ t ys. QuietAt c t ys)
  assign-wp c ts =
      wp-if (begins_yield c ts) _ _ ts _ (λ h. yield-wp c (second ts) ts) (λ h.
      wp-if (begins_arrow c ts) _ _ ts _
      (λ h. (λ t us eq. wp-given (arrow_name c t.token t.span) _ us _
      (λ n o. (λ b vs eq. λ l x. λ e ws q. q)))) (λ h.
      wp-if (at_token is_lparen (first ts)) _ _ ts _ (λ h. (λ t us eq. λ es vs y. λ v ws q. q)) (λ h.
      wp-if (begins_async_name c ts) _ _ ts _
      (λ h. (λ t us eq. wp-given (async_name c t.token t.span) _ us _
      (λ n o. (λ b vs eq. λ l. wp-given (async_param c b.token b.span) _ vs _
      (λ m i. λ w. (λ g ws eq. λ x. λ e zs q. q)))))) (λ h.
      wp-if (begins_async_list ts) _ _ ts _
      (λ h. (λ t us eq. wp-some (async_name c t.token t.span) _ us _
      (λ n o. (λ b vs eq. λ l x. λ es ws y. λ v zs q. q)))) (λ h.
      wp-if (at_token no_error (first ts)) (assigned c) never ts _ (λ h. λ e us l. λ t ys k. k l.0 l.1) (λ h. tt))))))

  unary-by-wp : (c : Scope) (o : Option UnaryOp) (ts : List TokenAndSpan)
      → Wp {F = F} {C = C} {K = K} (unary_by c o) ts (λ t ys. Linkless c t ys)
  unary-by-wp c None ts = λ l us n. λ t ys up. up n
  unary-by-wp c (Some op) ts =
      (λ t us eq. wp-given (prefix_here t.token t.span) _ us _ (λ x o. λ e vs l. λ y. l))

  unary-wp : (c : Scope) (ts : List TokenAndSpan)
      → Wp {F = F} {C = C} {K = K} (unary c ts) ts (λ t ys. Linkless c t ys)
  unary-wp c ts =
      wp-if (at_token is_update (first ts)) _ _ ts _
      (λ h. (λ t us eq. wp-given (update_here t.token t.span) _ us _ (λ x o. λ e vs l. λ y. l))) (λ h.
      wp-if (at_token is_await (first ts)) _ _ ts _
      (λ h. wp-pick (at_token is_star (second ts)) none _ ts _ (λ h. tt) (λ h.
      wp-pick (not c.context.in_async && ends_await_at (second ts)) (pick await-ident) (pick await-expr) ts _
      (λ h. (λ t us eq. λ i j w. λ k a. name-only c.context.in_async c.context.module j))
      (λ h. (λ t us eq. λ i j w. λ e vs l. l))))
      (λ h. unary-by-wp c (prefix_at (first ts)) ts))

  assigns-wp : (c : Scope) (e : Tree F C K) (ts : List TokenAndSpan)
      → Wp {F = F} {C = C} {K = K} (step (assigns e) c ts) ts
      (λ t ys. Linkless c e ts → Bound c 0 ts → QuietAt c t ys)
  assigns-wp c e ts =
      wp-if (at_token is_question (first ts)) _ _ ts _
      (λ h. (λ t us eq. λ q. λ m vs qm. (λ o ws eq. λ i. λ v zs qv. λ p b. qv))) (λ h.
      wp-if (at_token is_assign (first ts) && not (is_operation e)) _ _ ts _
      (λ h. wp-plan-if (is_pattern e) (pattern_tail c e) (assign_tail c e) ts _
      ((λ t us eq. λ i. wp-given (as_literal c.context.strict e) _ us _ (λ p o. λ r vs q. λ l b. q)))
      ((λ t us eq. wp-given (assign_here t.token t.span) _ us _ (λ op o. λ y. λ r vs q. λ l b. q))))
      (λ h. λ p b. record {
        link = p;
        sign = λ k. absurd (no-sign-next c ts b k);
        writes = λ k. operation-writes e (on-off (at_token is_assign (first ts)) (is_operation e) h k);
      }))

  step-quiet : (hook : Hook F C K) (p : Runs F C K)
      → ((k : Call F C K) (c : Scope) (ts : List TokenAndSpan) (r : Ans F C K k × List TokenAndSpan)
      → p k c ts ≡ Some r → Post k c ts r.0 r.1)
      → (k : Call F C K) (c : Scope) (ts : List TokenAndSpan) (r : Ans F C K k × List TokenAndSpan)
      → exec hook p (Some (rank k)) (step k c ts) ts ≡ Some r → Post k c ts r.0 r.1
  step-quiet hook p ih (sym Expr) c ts r h =
      wp-holds hook p ih (Some 15) (step (sym Expr) c ts) ts (λ t ys. Post (sym Expr) c ts t ys) r h
      (λ e us q. λ t ys k. k q)
  step-quiet hook p ih (sym Assign) c ts r h =
      wp-holds hook p ih (Some 14) (step (sym Assign) c ts) ts (λ t ys. Post (sym Assign) c ts t ys) r h
      (assign-wp c ts)
  step-quiet hook p ih (sym (ArrowBody a)) c ts r h =
      wp-holds hook p ih (Some 15) (step (sym (ArrowBody a)) c ts) ts (λ t ys. Post (sym (ArrowBody a)) c ts t ys) r h
      (wp-pick (begins is_brace ts) (pick body-block) (pick body-expr) ts _
      (λ y. λ v s us. quiet-nothing c nothing false false us refl refl) (λ y. λ w. λ e us q. quiet-body c a e us q))
  step-quiet hook p ih (sym (Level zero)) c ts r h = tt
  step-quiet hook p ih (sym (Level (suc m))) c ts r h =
      wp-holds hook p ih (Some 12) (step (sym (Level (suc m))) c ts) ts
      (λ t ys. Post (sym (Level (suc m))) c ts t ys) r h
      (wp-if (begins_private (nat_lt m 7) c ts) _ _ ts _ (λ y. private-wp (nat_lt m 7) m c ts y)
      (λ y. λ z. λ e us l. λ t ys cl. cl l))
  step-quiet hook p ih (sym Unary) c ts r h =
      wp-holds hook p ih (Some 11) (step (sym Unary) c ts) ts (λ t ys. Post (sym Unary) c ts t ys) r h (unary-wp c ts)
  step-quiet hook p ih (sym (Lhs b)) c ts r h =
      wp-holds hook p ih (Some 10) (step (sym (Lhs b)) c ts) ts (λ t ys. Post (sym (Lhs b)) c ts t ys) r h
      (wp-if (begins_new ts) (constructed b c) _ ts _
      (λ y. (λ t us eq. λ l vs n. λ z. λ v ws k. k n)) (λ y. λ e us i. λ t ys n. n))
  step-quiet hook p ih (links b l) c ts r h =
      wp-holds hook p ih (Some 1) (step (links b l) c ts) ts (λ t ys. Post (links b l) c ts t ys) r h
      (wp-linked b c (link b c ts) l ts (λ y. link-none b c ts y))
  step-quiet hook p ih (constructs b s l) c ts r h =
      wp-holds hook p ih (Some 1) (step (constructs b s l) c ts) ts (λ t ys. Post (constructs b s l) c ts t ys) r h
      (wp-if (at_token is_lparen (first ts)) (constructed_with b s l c) _ ts _
      (λ y. (λ t us eq. λ es vs i. λ v ws n. λ z. n)) (λ y. λ z. no-paren-next b ts z y))
  step-quiet hook p ih (updates l) c ts r h =
      wp-holds hook p ih (Some 1) (step (updates l) c ts) ts (λ t ys. Post (updates l) c ts t ys) r h
      (wp-if (no_update_at (first ts)) (gives l) _ ts _
      (λ y. λ n. λ k a. let z = no-link-next ts n in absurd cc)
      (λ y. (λ t us eq. λ i. wp-given (update_here t.token t.span) _ us _ (λ x o. λ z. λ n k a. absurd cc))))
  step-quiet hook p ih (climb l m) c ts r h =
      wp-holds hook p ih (Some 1) (step (climb l m) c ts) ts (λ t ys. Post (climb l m) c ts t ys) r h
      (wp-turn c l m ts (operator_at c.context (first ts)) refl)
  step-quiet hook p ih (assigns e) c ts r h =
      wp-holds hook p ih (Some 1) (step (assigns e) c ts) ts (λ t ys. Post (assigns e) c ts t ys) r h
      (assigns-wp c e ts)
  step-quiet hook p ih (seqs es) c ts r h =
      wp-holds hook p ih (Some 1) (step (seqs es) c ts) ts (λ t ys. Post (seqs es) c ts t ys) r h
      (wp-if (at_token is_comma (first ts)) (exprs_tail c es) (gives (seq_of es)) ts _
      (λ y. (λ t us eq. λ i. λ e vs q. λ v ws k. λ z.
      k (quiet-as (sym_path (last-put es e).0) (sym_path (last-put es e).1) (sym_path (await-put es e)) q)))
      (λ y. λ z. quiet-as (sym_path (last-seq es).0) (sym_path (last-seq es).1) (sym_path (await-seq es)) z))
  step-quiet hook p ih (parens s es) c ts r h =
      wp-holds hook p ih (Some 2) (step (parens s es) c ts) ts (λ t ys. Post (parens s es) c ts t ys) r h
      (wp-if (at_token is_arrow (first ts)) _ _ ts _
      (λ y. wp-given (as_params es) _ ts _ (λ ps o. λ k. (λ a us eq. λ l x. λ e vs q. λ w. q)))
      (λ y. λ k. behind-wp c (paren_e (to s (span_of es)) (seq_of (held_exprs (items_of es)))) ts))
  step-quiet hook p ih (asyncs n es) c ts r h =
      wp-holds hook p ih (Some 2) (step (asyncs n es) c ts) ts (λ t ys. Post (asyncs n es) c ts t ys) r h
      (wp-if (at_token is_arrow (first ts)) _ _ ts _
      (λ y. wp-given (as_params es) _ ts _ (λ ps o. λ k. (λ a us eq. λ l x. λ e vs q. λ w. q)))
      (λ y. λ k. behind-wp c (call_e (to n.at (span_of es)) (ident_e n.at n.text) (items_of es)) ts))
  step-quiet hook p ih k c ts r h = tt

  quiet-at : (hook : Hook F C K) (n : ℕ) (k : Call F C K) (c : Scope) (ts : List TokenAndSpan)
      (r : Ans F C K k × List TokenAndSpan) → run_at hook n k c ts ≡ Some r → Post k c ts r.0 r.1
  quiet-at hook zero k c ts r h = cc
  quiet-at hook (suc n) k c ts r h = step-quiet hook (run_at hook n) (quiet-at hook n) k c ts r h

module _ {F C K : Type 0} where
  -- where reading an expression stops, and an assignment expression
  pub expr-quiet : (hook : Hook F C K) (c : Scope) (ts : List TokenAndSpan) (e : Tree F C K) (ys : List TokenAndSpan)
      → run hook (sym Expr) c ts ≡ Some (e, ys) → QuietAt c e ys
  unfolding run
  expr-quiet hook c ts e ys h =
      quiet-at F C K hook (suc (measure {F = F} {C = C} {K = K} (sym Expr) ts)) (sym Expr) c ts (e, ys) h

  pub assign-quiet : (hook : Hook F C K) (c : Scope) (ts : List TokenAndSpan) (e : Tree F C K) (ys : List TokenAndSpan)
      → run hook (sym Assign) c ts ≡ Some (e, ys) → QuietAt c e ys
  unfolding run
  assign-quiet hook c ts e ys h =
      quiet-at F C K hook (suc (measure {F = F} {C = C} {K = K} (sym Assign) ts)) (sym Assign) c ts (e, ys) h

  -- So it doesn't go on, unless it ends in the name `await` before a link, in a script.
  pub goes-quiet : (c : Scope) (e : Tree F C K) (a : TokenAndSpan) (us : List TokenAndSpan) → QuietAt c e (a ∷ us)
      → (is_link a.token && (await_in e && not c.context.module)) ≡ false → goes_on c e a ≡ false
  goes-quiet c e a us q m =
      after-is c (last_in e) a.token (writes_in e)
      (settled (last_in e) (is_link a.token) (is_sign c a.token) (is_assign a.token) (writes_in e)
      (λ k n. apart-two (is_link a.token) (await_in e && not c.context.module) m k (q.link k n)) q.sign q.writes)
