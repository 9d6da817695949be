-- An expression is read up to a token with which it doesn't go on (`goes_on`): up to `(` on the line after `a++`, too,
-- and up to anything after the block of an arrow function. Beyond Complete, whose stops know nothing of the tree.
use Rattle.std.specs.Prelude.{◌≡◌, ℕ, zero, suc, ◌≤◌, min, Bool, true, false, not, ◌||◌, ◌&&◌, if◌then◌else◌, nat_lt, List, [], ◌∷◌, Option, Some, None}
use Rattle.std.proofs.Common.{refl, sym as sym_path, ap, subst, ◌∙◌, arith}
use Rattle.std.proofs.lemmas.Bool.{eqb-true, ltb-true, lt-ltb}
use Rattle.swc_context.specs.{Contexts.arrow_body, Operators.precedence_of, declared.operator.AssignOp.AssignOp as write, declared.operator.BinaryOp.BinaryOp, declared.operator.BinaryOp.BinaryOp as binary, declared.span.Span.Span, declared.word.Keyword.Keyword as keyword, declared.word.Word.Word as word}
use Rattle.swc_input.specs.{Kinds.is_hash, declared.token.Token.Token, declared.token.Token.Token as token, declared.token.TokenAndSpan.TokenAndSpan, Kinds.at_token}
use Rattle.swc_ast.specs.Tree.{Tree, Trees, nil, cons, span_of}
use Rattle.swc_ast.specs.Trees.{to, bin_e, ident_e, arrow_e, block_e, items_of, trees_append, seq_of, min_right, is_operation, private_e}
use Rattle.swc_bodies.specs.Readings.{Hook}
use Rattle.swc_grammar.specs.Scope.{Scope, at_head, inner, in_context}
use Rattle.swc_grammar.specs.Rule.{Rule, gives, take, check, peek, read, given, ◌>>=◌, ◌>>◌, symbol, token as a_token, token_on_line, one_on_line, ahead, sees}
use Rattle.swc_grammar.specs.Tokens.{with_in, tk, is_assign, is_comma, is_lparen, is_question, is_in}
use Rattle.swc_grammar.specs.Symbols.{Symbol, Expr, Exprs, Assign, Level, Unary, ArrowParams, ArrowBody, Body, Value, Answer, Side}
use Rattle.swc_grammar.specs.Parts.{any_name, update_here, assign_here, operator_here, prefix_here, private_ok}
use Rattle.swc_grammar.specs.Arrows.{is_arrow, arrow_name, async_name, async_param}
use Rattle.swc_grammar.specs.Cover.{as_literal, is_pattern}
use Rattle.swc_grammar.specs.Names.{Spelling}
use Rattle.swc_grammar.specs.Endings.{Last, any, operators, nothing, last_in, last_in_all, last_of_block, writes_in, writes_in_all, writes_of_block, is_link, begins_anew, goes_on_after, goes_on}
use Rattle.swc_grammar.specs.Grammar.{Production, unary-left, unary-op, update-postfix, update-prefix, await-expr, await-ident, exp-unary, exp-op, level-up, bin-op, private-in, assign-level, cond-expr, assign-expr, assign-pattern, yield-alone, yield-expr, yield-star, exprs-one, exprs-more, seq-expr, arrow-name, arrow-params, arrow-async-name, arrow-async-params, body-block, body-expr}
use Rattle.swc_grammar.specs.Reads.{Reads, by, part, gave}
use Rattle.swc_grammar.specs.Clean.{Out, first, sym, step, climb, updates, assigns, seqs, exec, plan, run, chosen, pick, Stop, Bound, ends_unary, no_arrow, no_update_at, no_assign_at, assign_tail, pattern_tail, arrow_tail, async_arrow_tail, arrow_block, begins_private}
use Rattle.swc_grammar.proofs.{Answers.both, Answers.only, Good.good, Knot.knot, Levels.bound-some, Levels.min-right-same, Firsts.begins, Firsts.update-first, Bodies.hears-run}
use Rattle.swc_grammar.proofs.Induct.{Ran, forget, given-ran, every, ran-gave, ran-took, ran-held, ran-calm, ran-part, ran-heard}
use Rattle.swc_grammar.proofs.Complete.{complete, claim}
use Rattle.swc_grammar.proofs.Complete.Bools.{if-on, if-off, is-false}
use Rattle.swc_grammar.proofs.Complete.Sides.{last, picks, climb-ends, starting}
use Rattle.swc_grammar.proofs.Complete.Operators.{operand-reads, operand-climbs, picked-unary, operator-ends, climb-takes, in-word, power-op, left-free, update-link}
use Rattle.swc_grammar.proofs.Complete.Assignments.{level-reads, assigns-end, picked-assign, question-ends, question-bound, no-dot-expr, assign-token, assign-no-arrow, equals-plain, target-apart, target-no-pattern, pattern-apart}
use Rattle.swc_grammar.proofs.Complete.Arrows.{here-arrow, line-arrow, params-reads, picked-body, body-bound}
use Rattle.swc_grammar.proofs.Complete.Asyncs.{lparen-next, lparen-here, async-params-reads}
use Rattle.swc_grammar.proofs.Complete.Stops.{quiet-colon, quiet-comma}
use Rattle.swc_grammar.proofs.Only.{lparen-is, question-is, equals-is}
use Rattle.swc_grammar.proofs.Shapes.{plain-any, below-writes, ordinary-yield, ordinary-body, shape}

-- Why an expression that ends so stops before these tokens.
pub data Rest (c : Scope) (l : Last) (b : Bool) (ys : List TokenAndSpan) : Type 0 where
  at-stop : Stop Assign c ys → Rest c l b ys
  behind-update : l ≡ operators → at_token is_link (first ys) ≡ true → Rest c l b ys
  behind-block : l ≡ nothing → Rest c l b ys
  behind-operation : b ≡ false → at_token is_assign (first ys) ≡ true → Rest c l b ys

-- before `(`, `[` and a backquote all else ends but links
link-ends : (c : Scope) (n : ℕ) (ys : List TokenAndSpan) → at_token is_link (first ys) ≡ true
    → (no_arrow ys ≡ true) × (no_update_at (first ys) ≡ true) × (no_assign_at (first ys) ≡ true) × Bound c n ys
link-ends c n [] h = absurd cc
link-ends c n (a ∷ us) h = by-token a.token a.had_line_break a.span h
  where
    by-token : (t : Token) (b : Bool) (s : Span) → is_link t ≡ true
        → (no_arrow (tk t b s ∷ us) ≡ true) × (no_update_at (Some (tk t b s)) ≡ true)
        × (no_assign_at (Some (tk t b s)) ≡ true) × Bound c n (tk t b s ∷ us)
    by-token token.LParen b s h = (refl, refl, refl, λ op k. absurd cc)
    by-token token.LBracket b s h = (refl, refl, refl, λ op k. absurd cc)
    by-token token.BackQuote b s h = (refl, refl, refl, λ op k. absurd cc)
    by-token t b s h = absurd cc

-- before an operator that writes a binary expression ends
write-ends : (c : Scope) (ys : List TokenAndSpan) → at_token is_assign (first ys) ≡ true
    → (ends_unary ys ≡ true) × (no_arrow ys ≡ true) × (at_token is_question (first ys) ≡ false) × Bound c 0 ys
write-ends c [] h = absurd cc
write-ends c (a ∷ us) h = by-token a.token a.had_line_break a.span h
  where
    by-token : (t : Token) (b : Bool) (s : Span) → is_assign t ≡ true
        → (ends_unary (tk t b s ∷ us) ≡ true) × (no_arrow (tk t b s ∷ us) ≡ true) × (is_question t ≡ false)
        × Bound c 0 (tk t b s ∷ us)
    by-token (token.AssignOp op) b s h = (refl, refl, refl, λ op k. absurd cc)
    by-token t b s h = absurd cc

pub last-put : {F C K : Type 0} (ts : Trees F C K) (e : Tree F C K)
    → (last_in_all (trees_append ts (cons e nil)) ≡ last_in e)
    × (writes_in_all (trees_append ts (cons e nil)) ≡ writes_in e)
last-put nil e = (refl, refl)
last-put (cons t nil) e = (refl, refl)
last-put (cons t (cons u us)) e = last-put (cons u us) e

pub last-seq : {F C K : Type 0} (ts : Trees F C K)
    → (last_in (seq_of ts) ≡ last_in_all ts) × (writes_in (seq_of ts) ≡ writes_in_all ts)
last-seq nil = (refl, refl)
last-seq (cons t nil) = (refl, refl)
last-seq (cons t (cons u us)) = (refl, refl)

as-is : {c : Scope} {l m : Last} {a b : Bool} {ys : List TokenAndSpan} → l ≡ m → a ≡ b → Rest c l a ys → Rest c m b ys
as-is {c = c} {l = l} {m = m} {a = a} {b = b} {ys = ys} p q r =
    subst (λ v. Rest c v b ys) p (subst (λ v. Rest c l v ys) q r)

module _ {F C K : Type 0} (hook : Hook F C K) where
  -- what is claimed of the symbols that may end so
  abbrev pub SoftClaim : (s : Symbol) → Scope → List TokenAndSpan → List TokenAndSpan → Answer F C K s → Type 0
  SoftClaim Unary c xs ys t =
      last_in t ≡ operators → at_token is_link (first ys) ≡ true → run hook (sym Unary) c xs ≡ Some (t, ys)
  SoftClaim (Level zero) c xs ys t = Unit {0}
  SoftClaim (Level (suc n)) c xs ys t = n ≤ 10 → last_in t ≡ operators → at_token is_link (first ys) ≡ true
      → (m : ℕ) → m ≤ n → run hook (sym (Level (suc m))) c xs ≡ run hook (climb t m) (inner c) ys
  SoftClaim Assign c xs ys t =
      Rest c (last_in t) (writes_in t) ys → run hook (sym Assign) c xs ≡ Some (t, ys)
  SoftClaim (ArrowBody a) c xs ys t = Rest c (last_of_block t (last_in t)) (writes_of_block t (writes_in t)) ys
      → run hook (sym (ArrowBody a)) c xs ≡ Some (t, ys)
  SoftClaim Exprs c xs ys t = Rest c (last_in_all (items_of t)) (writes_in_all (items_of t)) ys
      → run hook (sym Expr) c xs ≡ run hook (seqs (items_of t)) c ys
  SoftClaim Expr c xs ys t = Rest c (last_in t) (writes_in t) ys → at_token is_comma (first ys) ≡ false
      → run hook (sym Expr) c xs ≡ Some (t, ys)
  SoftClaim s c xs ys t = Unit {0}

  abbrev Soften : (s : Symbol) → Side F C K s → List TokenAndSpan → List TokenAndSpan → Answer F C K s → Type 0
  Soften s r xs ys t = Ran hook SoftClaim s r xs ys t

  gave-soft : {s : Symbol} {u t : Answer F C K s} {xs ys : List TokenAndSpan}
      (P : Answer F C K s → List TokenAndSpan → Type 0) → Soften s (gives u) xs ys t → P u xs → P t ys
  gave-soft P ran-gave h = h

  given-soft : {s : Symbol} {A : Type 0} {xs ys : List TokenAndSpan} {t : Answer F C K s} (o : Option A)
      (k : A → Side F C K s) → Soften s (given o >>= k) xs ys t
      → (x : A) × (o ≡ Some x) × Soften s (k x) xs ys t
  given-soft o k d = given-ran hook SoftClaim o k d

  -- a level that is read to its end
  level-soft : (n : ℕ) (c : Scope) (ms ys : List TokenAndSpan) (r : Tree F C K) → n ≤ 10
      → Reads hook (Level (suc n)) c ms ys r → SoftClaim (Level (suc n)) c ms ys r → last_in r ≡ operators
      → at_token is_link (first ys) ≡ true → run hook (sym (Level (suc n))) c ms ≡ Some (r, ys)
  level-soft n c ms ys r top d right w k =
      right top w k n (omega arith) ∙ climb-ends hook r n (inner c) ys (good d).left (link-ends c n ys k).3

  must-soft : {s : Symbol} {b : Bool} {r : Side F C K s} {xs ys : List TokenAndSpan} {t : Answer F C K s}
      → Soften s (check b r) xs ys t → (b ≡ true) × Soften s r xs ys t
  must-soft (ran-held h d) = (h, d)

  -- what was given, and what was read, by name
  given-then : {s : Symbol} {A P : Type 0} {xs ys : List TokenAndSpan} {t : Answer F C K s} (o : Option A)
      (k : A → Side F C K s) → Soften s (given o >>= k) xs ys t
      → ((x : A) → o ≡ Some x → Soften s (k x) xs ys t → P) → P
  given-then o k d f = let (x, e, d1) = given-soft o k d in f x e d1

  part-then : {s s' : Symbol} {c : Scope} {f : Answer F C K s' → Side F C K s} {xs ys : List TokenAndSpan}
      {t : Answer F C K s} {P : Type 0} → Soften s (read s' c f) xs ys t
      → ((e : Answer F C K s') (ms : List TokenAndSpan) → Reads hook s' c xs ms e → SoftClaim s' c xs ms e
      → Soften s (f e) ms ys t → P) → P
  part-then (ran-part {e = e} {ms = ms} d k r) f = f e ms d k r

  exec-given : {A D : Type 0} (g : Option ℕ) (o : Option D) (k : D → Rule Symbol (Answer F C K) Body (Value F C K) A)
      (x : D) (ts : List TokenAndSpan) {r : Out A} → o ≡ Some x → exec hook (run hook) g (plan (k x)) ts ≡ r
      → exec hook (run hook) g (plan (given o >>= k)) ts ≡ r
  exec-given g o k x ts e h = rw e h

  -- ---- operands
  soft-unary : {c : Scope} {r : Side F C K Unary} {xs ys : List TokenAndSpan} {t : Tree F C K}
      → Production Unary c r → Soften Unary r xs ys t → SoftClaim Unary c xs ys t
  soft-unary {c = c} unary-left (ran-calm {xs = xs} w (ran-part {e = l} dl h d)) =
      gave-soft (λ u us. SoftClaim Unary c xs us u) d (λ p k. let q = plain-any l (shape dl) in absurd cc)
  soft-unary {c = c} update-postfix
      (ran-calm {xs = xs} w (ran-part {e = l} dl h (ran-took {a = a} {xs = us} (ran-held n d)))) =
      given-then (update_here a.token a.span) _ d (λ x o d1.
      let (z, d2) = must-soft d1 in
      let u = update-first a.token a.span x o in
      gave-soft (λ v vs. SoftClaim Unary c xs vs v) d2
      (λ p k. operand-reads hook c xs (a ∷ us) l (begins dl) w (complete hook dl (update-link a us u))
      ∙ knot hook (updates l) (inner c) (a ∷ us)
      ∙ ap (λ v. exec hook (run hook) (Some 1) v (a ∷ us))
      (if-off (no_update_at (Some a)) _ _ (rw (u, is-false a.had_line_break n) refl))
      ∙ rw n (exec-given None (update_here a.token a.span) _ x us o (rw z refl))))
  soft-unary {c = c} update-prefix (ran-took {a = a} {xs = us} d) =
      let step-is = picked-unary hook update-prefix refl (forget hook SoftClaim (ran-took {a = a} d)) in
      given-then (update_here a.token a.span) _ d (λ x o d1. part-then d1 (λ e ms de j d2.
      let (z, d3) = must-soft d2 in
      gave-soft (λ v vs. SoftClaim Unary c (a ∷ us) vs v) d3
      (λ p k. picks hook Unary c (a ∷ us) (update-prefix {c = c}) (pick update-prefix) step-is refl
      (exec-given None (update_here a.token a.span) _ x us o (rw (j p k, z) refl)))))
  soft-unary {c = c} await-expr (ran-took {a = a} {xs = us} (ran-held h (ran-held i (ran-calm w d)))) =
      let step-is = picked-unary hook await-expr refl
      (forget hook SoftClaim (ran-took {a = a} (ran-held h (ran-held i (ran-calm w d))))) in
      part-then d (λ e ms de j d1.
      gave-soft (λ v vs. SoftClaim Unary c (a ∷ us) vs v) d1
      (λ p k. picks hook Unary c (a ∷ us) (await-expr {c = c}) (pick await-expr) step-is refl
      (rw (h, i, w, j p k) refl)))
  soft-unary {c = c} await-ident (ran-took {a = a} {xs = us} (ran-held h (ran-held i (ran-calm w d)))) =
      gave-soft (λ v vs. SoftClaim Unary c (a ∷ us) vs v) d (λ p k. absurd cc)
  soft-unary {c = c} unary-op (ran-took {a = a} {xs = us} d) =
      let step-is = picked-unary hook unary-op refl (forget hook SoftClaim (ran-took {a = a} d)) in
      given-then (prefix_here a.token a.span) _ d (λ x o d1. part-then d1 (λ e ms de j d2.
      let (z, d3) = must-soft d2 in
      gave-soft (λ v vs. SoftClaim Unary c (a ∷ us) vs v) d3
      (λ p k. picks hook Unary c (a ∷ us) (unary-op {c = c}) (pick unary-op) step-is refl
      (exec-given None (prefix_here a.token a.span) _ x us o (rw (j p k, z) refl)))))

  -- ---- operators
  soft-private : (c : Scope) (a b : TokenAndSpan) (us ys : List TokenAndSpan) (n : Spelling) {t : Tree F C K}
      → is_hash a.token ≡ true → any_name c b.token b.span ≡ Some n → private_ok c a.span n.at ≡ true
      → Soften (Level 7) (take (λ g. check (is_in g.token) (read (Level 8) (inner c) (λ r.
      gives (bin_e (to (to a.span n.at) (span_of r)) binary.In (private_e (to a.span n.at) n.text) r))))) us ys t
      → SoftClaim (Level 7) c (a ∷ (b ∷ us)) ys t
  soft-private c a b us ys n h o x (ran-took {a = g} {xs = vs} (ran-held i (ran-part {e = r} {ms = ms} dr right d))) =
      gave-soft (λ u ws. SoftClaim (Level 7) c (a ∷ (b ∷ (g ∷ vs))) ws u) d
      (λ le w q m lt.
      let (x1, x2) = both c.syntax.pedantic _ x in
      let (x3, x4) = both c.context.include_in_expr _ x2 in
      let e = level-soft 7 (inner c) vs ms r (omega arith) dr right w q in
      let is : begins_private (nat_lt m 7) c (a ∷ (b ∷ (g ∷ vs))) ≡ true =
      rw (h, lt-ltb m 7 (omega arith), x1, i) refl in
      knot hook (sym (Level (suc m))) c (a ∷ (b ∷ (g ∷ vs)))
      ∙ ap (λ v. exec hook (run hook) (Some 12) v (a ∷ (b ∷ (g ∷ vs))))
      (if-on (begins_private (nat_lt m 7) c (a ∷ (b ∷ (g ∷ vs)))) _ _ is)
      ∙ rw (h, o, x) (last hook None (climb (private_e (to a.span n.at) n.text) m) (inner c) (g ∷ vs) refl)
      ∙ climb-takes hook binary.In m (inner c) g (private_e (to a.span n.at) n.text) r vs ms (in-word c g.token x3 i)
      (omega arith) refl refl refl e)

  soft-level : {k : ℕ} {c : Scope} {r : Side F C K (Level k)} {xs ys : List TokenAndSpan} {t : Tree F C K}
      → Production (Level k) c r → Soften (Level k) r xs ys t → SoftClaim (Level k) c xs ys t
  soft-level {c = c} exp-unary (ran-part {e = e} {xs = xs} {ms = ms} l h d) =
      gave-soft (λ u us. SoftClaim (Level 11) c xs us u) d
      (λ le p k m lt. operand-climbs hook m c xs ms e (omega arith) (h p k))
  soft-level {c = c} exp-op (ran-part {e = l} {xs = xs} dl left (ran-took {a = a} {xs = us} d)) =
      let (x, d1) = must-soft d in
      let (n, d2) = must-soft d1 in
      part-then d2 (λ r ms dr right d3.
      gave-soft (λ u vs. SoftClaim (Level 11) c xs vs u) d3
      (λ le p k m lt.
      operand-climbs hook m c xs (a ∷ us) l (omega arith)
      (complete hook dl (operator-ends c a us binary.Exp (power-op c a x)))
      ∙ climb-takes hook binary.Exp m (inner c) a l r us ms (power-op c a x) (omega arith) n refl refl
      (level-soft 10 (inner c) us ms r (omega arith) dr right p k)))
  soft-level (level-up {k = zero} b) d = tt
  soft-level {c = c} (level-up {k = suc k} b) (ran-part {e = e} {xs = xs} {ms = ms} l h d) =
      gave-soft (λ u us. SoftClaim (Level (suc k)) c xs us u) d
      (λ le p q m lt. let top = ltb-true (suc k) 11 b in h (omega arith) p q m (omega arith))
  soft-level (bin-op {k = zero} b) d = tt
  soft-level {c = c} (bin-op {k = suc n} b) (ran-part {e = l} {xs = xs} dl left (ran-took {a = a} {xs = us} d)) =
      given-then (operator_here c a.token a.span) _ d (λ op o d1.
      let (p, d2) = must-soft d1 in
      part-then d2 (λ r ms dr right d3.
      let (k, d4) = must-soft d3 in
      let (g, d5) = must-soft d4 in
      let top = ltb-true (suc n) 11 b in
      let q = eqb-true (precedence_of op) (suc n) p in
      gave-soft (λ u vs. SoftClaim (Level (suc n)) c xs vs u) d5
      (λ le w y m lt.
      let right-at : min_right op ≡ suc n = min-right-same op (omega arith) ∙ q in
      let e : run hook (sym (Level (suc (min_right op)))) (inner c) us ≡ Some (r, ms) =
      rw right-at (level-soft (suc n) (inner c) us ms r (omega arith) dr right w y) in
      claim hook dl le (operator-ends c a us op o) (bound-some c (min (suc n) 10) (a ∷ us) op o (omega arith)) m lt
      ∙ climb-takes hook op m (inner c) a l r us ms o (omega arith) (left-free hook op l (omega arith)) k g e)))
  soft-level {c = c} {ys = ys} private-in (ran-took {a = a} (ran-held h (ran-took {a = b} {xs = us} d))) =
      given-then (any_name c b.token b.span) _ d (λ n o d1.
      let (x, d2) = must-soft d1 in soft-private c a b us ys n h o x d2)

  -- ---- assignment expressions
  level-rest : (c : Scope) (xs ms : List TokenAndSpan) (e : Tree F C K) → Reads hook (Level 1) (at_head c) xs ms e
      → SoftClaim (Level 1) (at_head c) xs ms e → SoftClaim Assign c xs ms e
  level-rest c xs ms e d h (at-stop stop) = complete hook (by assign-level (part d gave)) stop
  level-rest c xs ms e d h (behind-update p k) =
      let (n, u, m, b) = link-ends c 0 ms k in
      level-reads hook c xs ms e (begins d) n (level-soft 0 (at_head c) xs ms e (omega arith) d h p k)
      ∙ assigns-end hook c e ms m
  level-rest c xs ms e d h (behind-block p) = let q = (shape d).0 in absurd cc
  level-rest c xs ms e d h (behind-operation w k) =
      let (u, n, q, b) = write-ends c ms k in
      let o = operation-on (is_operation e) (sym_path (below-writes e (shape d).1) ∙ w) in
      level-reads hook c xs ms e (begins d) n (complete hook d (omega arith, u, b))
      ∙ knot hook (assigns e) c ms ∙ rw (q, k, o) refl
    where
      operation-on : (b : Bool) → not b ≡ false → b ≡ true
      operation-on true h = refl
      operation-on false h = cc

  soft-async-parts : (c : Scope) (n : Spelling) (us : List TokenAndSpan) {ys : List TokenAndSpan} {t : Tree F C K}
      → Soften Assign (peek (λ t. t.had_line_break) (read ArrowParams c (λ hs. async_arrow_tail c n hs))) us ys t
      → (sees (λ t. t.had_line_break) us ≡ false)
      × (hs : Tree F C K) × (ms : List TokenAndSpan) × Reads hook ArrowParams c us ms hs
      × Soften Assign (async_arrow_tail c n hs) ms ys t
  soft-async-parts c n us (ran-calm l (ran-part {e = hs} {ms = ms} dh k w)) = (l, hs, ms, dh, w)

  -- the arrow and the body
  soft-tail : (c : Scope) (hs : Tree F C K) {ms ys : List TokenAndSpan} {t : Tree F C K}
      → Soften Assign (arrow_tail c hs) ms ys t → Rest c (last_in t) (writes_in t) ys
      → exec hook (run hook) (Some 2) (plan (arrow_tail c hs)) ms ≡ Some (t, ys)
  soft-tail c hs (ran-took {a = a} {xs = us} (ran-held l (ran-held x (ran-part {e = e} de j (ran-calm w d))))) =
      gave-soft (λ v vs. Rest c (last_in v) (writes_in v) vs
      → exec hook (run hook) (Some 2) (plan (arrow_tail c hs)) (a ∷ us) ≡ Some (v, vs)) d
      (λ s. rw (l, x, j s, w) refl)

  soft-async-tail : (c : Scope) (n : Spelling) (hs : Tree F C K) {ms ys : List TokenAndSpan} {t : Tree F C K}
      → Soften Assign (async_arrow_tail c n hs) ms ys t → Rest c (last_in t) (writes_in t) ys
      → exec hook (run hook) (Some 2) (plan (async_arrow_tail c n hs)) ms ≡ Some (t, ys)
  soft-async-tail c n hs (ran-took {a = a} {xs = us} (ran-held l (ran-held x (ran-part {e = e} de j (ran-calm w d))))) =
      gave-soft (λ v vs. Rest c (last_in v) (writes_in v) vs
      → exec hook (run hook) (Some 2) (plan (async_arrow_tail c n hs)) (a ∷ us) ≡ Some (v, vs)) d
      (λ s. rw (l, x, j s, w) refl)

  soft-async-behind : (c : Scope) (a b : TokenAndSpan) (n m : Spelling) {us ys : List TokenAndSpan} {t : Tree F C K}
      → async_name c a.token a.span ≡ Some n
      → step (sym Assign) c (a ∷ (b ∷ us)) ≡ chosen {F = F} {C = C} {K = K} (pick (arrow-async-name {c = c}))
      → not b.had_line_break ≡ true → async_param c b.token b.span ≡ Some m
      → Soften Assign (ahead (λ t. c.syntax.pedantic && t.had_line_break)
      >> (a_token is_arrow >> (symbol (ArrowBody true) c >>= (λ b.
      gives (arrow_e (to n.at (span_of b)) true b (cons (ident_e m.at m.text) nil)))))) us ys t
      → SoftClaim Assign c (a ∷ (b ∷ us)) ys t
  soft-async-behind c a b n m o e l i (ran-calm w (ran-took {a = g} {xs = us} (ran-held x (ran-part {e = v} dv j d)))) =
      gave-soft (λ u vs. SoftClaim Assign c (a ∷ (b ∷ (g ∷ us))) vs u) d
      (λ s. picks hook Assign c (a ∷ (b ∷ (g ∷ us))) (arrow-async-name {c = c}) (pick arrow-async-name) e refl
      (exec-given None (async_name c a.token a.span) _ n (b ∷ (g ∷ us)) o
      (rw l (exec-given None (async_param c b.token b.span) _ m (g ∷ us) i (rw (w, x, j s) refl)))))

  soft-name : (c : Scope) (a : TokenAndSpan) (n : Spelling) {us ys : List TokenAndSpan} {t : Tree F C K}
      → arrow_name c a.token a.span ≡ Some n
      → step (sym Assign) c (a ∷ us) ≡ chosen {F = F} {C = C} {K = K} (pick (arrow-name {c = c}))
      → Soften Assign (token_on_line is_arrow >> (symbol (ArrowBody false) c >>= (λ b.
      gives (arrow_e (to n.at (span_of b)) false b (cons (ident_e n.at n.text) nil))))) us ys t
      → SoftClaim Assign c (a ∷ us) ys t
  soft-name c a n o e (ran-took {a = b} {xs = us} (ran-held l (ran-held x (ran-part {e = v} dv j d)))) =
      gave-soft (λ u vs. SoftClaim Assign c (a ∷ (b ∷ us)) vs u) d
      (λ s. picks hook Assign c (a ∷ (b ∷ us)) (arrow-name {c = c}) (pick arrow-name) e refl
      (exec-given None (arrow_name c a.token a.span) _ n (b ∷ us) o (rw (l, x, j s) refl)))

  soft-async-name : (c : Scope) (a : TokenAndSpan) (n : Spelling) {us ys : List TokenAndSpan} {t : Tree F C K}
      → async_name c a.token a.span ≡ Some n
      → step (sym Assign) c (a ∷ us) ≡ chosen {F = F} {C = C} {K = K} (pick (arrow-async-name {c = c}))
      → Soften Assign (one_on_line (async_param c) >>= (λ m. ahead (λ t. c.syntax.pedantic && t.had_line_break)
      >> (a_token is_arrow >> (symbol (ArrowBody true) c >>= (λ b.
      gives (arrow_e (to n.at (span_of b)) true b (cons (ident_e m.at m.text) nil))))))) us ys t
      → SoftClaim Assign c (a ∷ us) ys t
  soft-async-name c a n o e (ran-took {a = b} {xs = us} (ran-held l d)) =
      given-then (async_param c b.token b.span) _ d (λ m i d1. soft-async-behind c a b n m o e l i d1)

  soft-assign : {c : Scope} {r : Side F C K Assign} {xs ys : List TokenAndSpan} {t : Tree F C K}
      → Production Assign c r → Soften Assign r xs ys t → SoftClaim Assign c xs ys t
  soft-assign {c = c} assign-level (ran-part {e = e} {xs = xs} {ms = ms} de h d) =
      gave-soft (λ u us. SoftClaim Assign c xs us u) d (level-rest c xs ms e de h)
  soft-assign {c = c} cond-expr
      (ran-part {e = e} {xs = xs} de h (ran-took {a = a} {xs = us} (ran-held q
      (ran-part {e = m} dm k (ran-took {a = o} {xs = vs} (ran-held i (ran-part {e = v} dv j d))))))) =
      gave-soft (λ u ws. SoftClaim Assign c xs ws u) d
      (λ s. level-reads hook c xs (a ∷ us) e (begins de) (rw (question-is a.token q) refl)
      (complete hook de
      (omega arith, question-ends a us q (no-dot-expr (with_in c) us (begins dm)), question-bound c a us q))
      ∙ knot hook (assigns e) c (a ∷ us)
      ∙ rw (q, q, complete hook dm (quiet-colon (with_in c) o vs i), i, j s) refl)
  soft-assign {c = c} assign-expr (ran-part {e = l} {xs = xs} dl h (ran-took {a = a} {xs = us} d)) =
      given-then (assign_here a.token a.span) _ d (λ op o d1.
      let (t, d2) = must-soft d1 in
      part-then d2 (λ r ms dr j d3.
      let (q, w, u, b) = assign-token c a us op o in
      gave-soft (λ v vs. SoftClaim Assign c xs vs v) d3
      (λ s. level-reads hook c xs (a ∷ us) l (begins dl) (assign-no-arrow a us op o)
      (operand-climbs hook 0 (at_head c) xs (a ∷ us) l (omega arith) (complete hook dl u)
      ∙ climb-ends hook l 0 (inner c) (a ∷ us) (good dl).left b)
      ∙ knot hook (assigns l) c (a ∷ us)
      ∙ rw (q, w, target-apart hook c.context.strict l t, target-no-pattern hook c.context.strict l t)
      (exec-given None (assign_here a.token a.span) _ op us o (rw (t, j s) refl)))))
  soft-assign {c = c} assign-pattern
      (ran-part {e = l} {xs = xs} dl h (ran-took {a = a} {xs = us} (ran-held i d))) =
      given-then (as_literal c.context.strict l) _ d (λ p o d1. part-then d1 (λ r ms dr j d2.
      let (q, w, u, b) = assign-token c a us write.Assign (equals-plain a i) in
      let z = (only (is_pattern l) o).0 in
      gave-soft (λ v vs. SoftClaim Assign c xs vs v) d2
      (λ s. level-reads hook c xs (a ∷ us) l (begins dl) (rw (equals-is a.token i) refl)
      (operand-climbs hook 0 (at_head c) xs (a ∷ us) l (omega arith) (complete hook dl u)
      ∙ climb-ends hook l 0 (inner c) (a ∷ us) (good dl).left b)
      ∙ knot hook (assigns l) c (a ∷ us)
      ∙ rw (q, w, pattern-apart hook l z)
      (ap (λ v. exec hook (run hook) (Some 1) (plan v) (a ∷ us))
      (if-on (is_pattern l) (pattern_tail c l) (assign_tail c l) z)
      ∙ rw i (exec-given None (as_literal c.context.strict l) _ p us o (rw (j s) refl))))))
  soft-assign {c = c} yield-alone (ran-took {a = a} {xs = us} (ran-held h (ran-held k (ran-calm w d)))) =
      gave-soft (λ v vs. SoftClaim Assign c (a ∷ us) vs v) d
      (λ s. picks hook Assign c (a ∷ us) (yield-alone {c = c}) (pick yield-alone)
      (picked-assign hook yield-alone refl
      (forget hook SoftClaim (ran-took {a = a} (ran-held h (ran-held k (ran-calm w d)))))) refl
      (rw (h, k, w) refl))
  soft-assign {c = c} yield-expr
      (ran-took {a = a} {xs = us} (ran-held h (ran-held k (ran-calm w (ran-part {e = e} de j d))))) =
      let (x, y) = ordinary-yield (to a.span (span_of e)) false e (shape de) in
      gave-soft (λ v vs. SoftClaim Assign c (a ∷ us) vs v) d
      (λ s. picks hook Assign c (a ∷ us) (yield-expr {c = c}) (pick yield-expr)
      (picked-assign hook yield-expr refl
      (forget hook SoftClaim (ran-took {a = a} (ran-held h (ran-held k (ran-calm w (ran-part de j d))))))) refl
      (rw (h, k, w, j (as-is x y s)) refl))
  soft-assign {c = c} yield-star
      (ran-took {a = a} {xs = us} (ran-held h (ran-held k (ran-took {a = b} (ran-held n (ran-held x
      (ran-part {e = e} de j d))))))) =
      let (y, z) = ordinary-yield (to a.span (span_of e)) true e (shape de) in
      gave-soft (λ v vs. SoftClaim Assign c (a ∷ us) vs v) d
      (λ s. picks hook Assign c (a ∷ (b ∷ _)) (yield-star {c = c}) (pick yield-star)
      (picked-assign hook yield-star refl (forget hook SoftClaim
      (ran-took {a = a} (ran-held h (ran-held k (ran-took {a = b} (ran-held n (ran-held x (ran-part de j d))))))))) refl
      (rw (h, k, n, x, j (as-is y z s)) refl))
  soft-assign {c = c} arrow-name (ran-took {a = a} {xs = us} d) =
      let step-is = picked-assign hook arrow-name refl (forget hook SoftClaim (ran-took {a = a} d)) in
      given-then (arrow_name c a.token a.span) _ d (λ n o d1. soft-name c a n o step-is d1)
  soft-assign {c = c} arrow-async-name (ran-took {a = a} {xs = us} d) =
      let step-is = picked-assign hook arrow-async-name refl (forget hook SoftClaim (ran-took {a = a} d)) in
      given-then (async_name c a.token a.span) _ d (λ n o d1. soft-async-name c a n o step-is d1)
  soft-assign {c = c} {ys = ys} {t = t} arrow-params (ran-part {e = hs} {xs = xs} {ms = ms} dh k w) = λ s.
      starting (λ v. run hook (sym ArrowParams) c v ≡ Some (hs, ms) → run hook (sym Assign) c v ≡ Some (t, ys))
      is_lparen xs (begins dh)
      (λ a us h. subst (λ v. run hook (sym ArrowParams) c (tk v a.had_line_break a.span ∷ us) ≡ Some (hs, ms)
      → run hook (sym Assign) c (tk v a.had_line_break a.span ∷ us) ≡ Some (t, ys)) (sym_path (lparen-is a.token h))
      (λ i. params-reads hook c a.had_line_break a.span us ms ys hs t i
      (here-arrow (first ms) (line-arrow hook (forget hook SoftClaim w))) (soft-tail c hs w s)))
      (complete hook dh tt)
  soft-assign {c = c} {ys = ys} {t = t} arrow-async-params (ran-took {a = a} {xs = us} w) = λ s.
      given-then (async_name c a.token a.span) _ w (λ n i w1.
      let (l, hs, ms, dh, w2) = soft-async-parts c n us w1 in
      lparen-next hook (λ v. run hook (sym ArrowParams) c v ≡ Some (hs, ms) → run hook (sym Assign) c (a ∷ v)
      ≡ Some (t, ys)) us
      (lparen-here hook us l (begins dh))
      (λ b vs h. async-params-reads hook c a b vs ms ys n hs t i h
      (here-arrow (first ms) (line-arrow hook (forget hook SoftClaim w2))) (soft-async-tail c n hs w2 s))
      (complete hook dh tt))

  -- ---- bodies of arrow functions
  body-rest : (c : Scope) (is_async : Bool) (l : Last) (b : Bool) (ys : List TokenAndSpan) → Rest c l b ys
      → Rest (in_context (arrow_body is_async) c) l b ys
  body-rest c is_async l b ys (at-stop stop) = at-stop (stop.0, body-bound hook c is_async ys stop.1)
  body-rest c is_async l b ys (behind-update p k) = behind-update p k
  body-rest c is_async l b ys (behind-block p) = behind-block p
  body-rest c is_async l b ys (behind-operation p k) = behind-operation p k

  soft-body : {c : Scope} {a : Bool} {r : Side F C K (ArrowBody a)} {xs ys : List TokenAndSpan} {t : Tree F C K}
      → Production (ArrowBody a) c r → Soften (ArrowBody a) r xs ys t → SoftClaim (ArrowBody a) c xs ys t
  soft-body {c = c} {a = a} {xs = xs} body-block (ran-heard h d) =
      gave-soft (λ v vs. SoftClaim (ArrowBody a) c xs vs v) d
      (λ s. picks hook (ArrowBody a) c xs body-block (arrow_block a c xs) refl
      (picked-body hook body-block (forget hook SoftClaim (ran-heard h d)))
      (hears-run h (λ v at us. exec hook (run hook) None (gives (block_e at v)) us)))
  soft-body {c = c} {a = a} {xs = xs} body-expr (ran-calm w (ran-part {e = e} de j d)) =
      gave-soft (λ v vs. SoftClaim (ArrowBody a) c xs vs v) d
      (λ s. let (x, y) = ordinary-body e (last_in e) (writes_in e) (shape de) in
      picks hook (ArrowBody a) c xs body-expr (arrow_block a c xs) refl
      (picked-body hook body-expr (forget hook SoftClaim (ran-calm w (ran-part de j d))))
      (rw (w, j (body-rest c a _ _ _ (as-is x y s))) refl))

  -- ---- expressions with commas between them
  soft-exprs : {c : Scope} {r : Side F C K Exprs} {xs ys : List TokenAndSpan} {t : Tree F C K}
      → Production Exprs c r → Soften Exprs r xs ys t → SoftClaim Exprs c xs ys t
  soft-exprs {c = c} exprs-one (ran-part {e = e} {xs = xs} {ms = ms} de h d) =
      gave-soft (λ u us. SoftClaim Exprs c xs us u) d
      (λ s. knot hook (sym Expr) c xs ∙ rw (h s) (last hook (Some 15) (seqs (cons e nil)) c ms refl))
  soft-exprs {c = c} exprs-more
      (ran-part {e = es} {xs = xs} ds h (ran-took {a = a} {xs = us} (ran-held q (ran-part {e = e} {ms = ms} de k d)))) =
      let (x, y) = last-put (items_of es) e in
      gave-soft (λ u vs. SoftClaim Exprs c xs vs u) d
      (λ s. claim hook ds (quiet-comma c a us q)
      ∙ knot hook (seqs (items_of es)) c (a ∷ us)
      ∙ rw (q, k (as-is x y s)) (rw q (last hook None (seqs (trees_append (items_of es) (cons e nil))) c ms refl)))

  soft-expr : {c : Scope} {r : Side F C K Expr} {xs ys : List TokenAndSpan} {t : Tree F C K}
      → Production Expr c r → Soften Expr r xs ys t → SoftClaim Expr c xs ys t
  soft-expr {c = c} seq-expr (ran-part {e = es} {xs = xs} {ms = ms} ds h d) =
      let (x, y) = last-seq (items_of es) in
      gave-soft (λ u us. SoftClaim Expr c xs us u) d
      (λ s n. h (as-is x y s) ∙ knot hook (seqs (items_of es)) c ms ∙ rw n refl)

  soft-by : (s : Symbol) (c : Scope) (r : Side F C K s) (xs ys : List TokenAndSpan) (t : Answer F C K s)
      → Production s c r → Soften s r xs ys t → SoftClaim s c xs ys t
  soft-by Unary c r xs ys t p d = soft-unary p d
  soft-by (Level zero) c r xs ys t p d = tt
  soft-by (Level (suc n)) c r xs ys t p d = soft-level p d
  soft-by Assign c r xs ys t p d = soft-assign p d
  soft-by (ArrowBody a) c r xs ys t p d = soft-body p d
  soft-by Exprs c r xs ys t p d = soft-exprs p d
  soft-by Expr c r xs ys t p d = soft-expr p d
  soft-by s c r xs ys t p d = tt

  soft : {s : Symbol} {c : Scope} {xs ys : List TokenAndSpan} {t : Answer F C K s} → Reads hook s c xs ys t
      → SoftClaim s c xs ys t
  soft d = every hook SoftClaim soft-by d

  -- ---- before a token with which the expression doesn't go on
  no-in : (x : Bool) → (x || false) ≡ false → (op : BinaryOp) → (if x then Some binary.In else None) ≡ Some op
      → precedence_of op ≤ 0
  no-in true h op k = absurd cc
  no-in false h op k = absurd cc

  anew-comma : (t : Token) → begins_anew t ≡ true → is_comma t ≡ false
  anew-comma token.Comma h = cc
  anew-comma t h = refl

  rests : (c : Scope) (l : Last) (b : Bool) (t : Token) (d : Bool) (s : Span) (us : List TokenAndSpan) → d ≡ true
      → begins_anew t ≡ true → (goes_on_after c l t || (is_assign t && b)) ≡ false
      → Rest c l b (tk t d s ∷ us)
  rests c nothing b t d s us e i h = behind-block refl
  rests c any b token.LParen d s us e i h = absurd cc
  rests c any b token.LBracket d s us e i h = absurd cc
  rests c any b token.BackQuote d s us e i h = absurd cc
  rests c any b (token.BinOp op) d s us e i h = absurd cc
  rests c any b (token.AssignOp op) d s us e i h = behind-operation h refl
  rests c any b (token.Word (word.Keyword keyword.InstanceOf)) d s us e i h = absurd cc
  rests c any b (token.Word (word.Keyword keyword.In)) d s us e i h =
      at-stop (refl, no-in c.context.include_in_expr h)
  rests c any b (token.Word w) d s us e i h = at-stop (refl, λ op k. absurd cc)
  rests c operators b token.LParen d s us e i h = behind-update refl refl
  rests c operators b token.LBracket d s us e i h = behind-update refl refl
  rests c operators b token.BackQuote d s us e i h = behind-update refl refl
  rests c operators b (token.BinOp op) d s us e i h = absurd cc
  rests c operators b (token.AssignOp op) d s us e i h = behind-operation h refl
  rests c operators b (token.Word (word.Keyword keyword.InstanceOf)) d s us e i h = absurd cc
  rests c operators b (token.Word (word.Keyword keyword.In)) d s us e i h =
      at-stop (refl, no-in c.context.include_in_expr h)
  rests c operators b (token.Word w) d s us e i h = at-stop (refl, λ op k. absurd cc)
  rests c l b (token.Num raw) d s us e i h = at-stop (refl, λ op k. absurd cc)
  rests c l b (token.BigInt raw) d s us e i h = at-stop (refl, λ op k. absurd cc)
  rests c l b (token.Str value raw) d s us e i h = at-stop (refl, λ op k. absurd cc)
  rests c l b (token.Regex exp flags) d s us e i h = at-stop (refl, λ op k. absurd cc)
  rests c l b token.LBrace d s us e i h = at-stop (refl, λ op k. absurd cc)
  rests c l b token.Hash d s us e i h = at-stop (refl, λ op k. absurd cc)
  rests c l b token.At d s us e i h = at-stop (refl, λ op k. absurd cc)
  rests c l b token.Bang d s us e i h = at-stop (refl, λ op k. absurd cc)
  rests c l b token.Tilde d s us e i h = at-stop (refl, λ op k. absurd cc)
  rests c l b token.PlusPlus d s us e i h = at-stop (rw e refl, λ op k. absurd cc)
  rests c l b token.MinusMinus d s us e i h = at-stop (rw e refl, λ op k. absurd cc)
  rests c l b t d s us e i h = absurd cc

  pub expr-stops : (c : Scope) (e : Tree F C K) (xs : List TokenAndSpan) (a : TokenAndSpan) (us : List TokenAndSpan)
      → Reads hook Expr c xs (a ∷ us) e → a.had_line_break ≡ true → begins_anew a.token ≡ true
      → goes_on c e a ≡ false → run hook (sym Expr) c xs ≡ Some (e, a ∷ us)
  expr-stops c e xs a us d l i h =
      soft d (rests c (last_in e) (writes_in e) a.token a.had_line_break a.span us l i h) (anew-comma a.token i)

  pub assign-stops : (c : Scope) (e : Tree F C K) (xs : List TokenAndSpan) (a : TokenAndSpan) (us : List TokenAndSpan)
      → Reads hook Assign c xs (a ∷ us) e → a.had_line_break ≡ true → begins_anew a.token ≡ true
      → goes_on c e a ≡ false → run hook (sym Assign) c xs ≡ Some (e, a ∷ us)
  assign-stops c e xs a us d l i h =
      soft d (rests c (last_in e) (writes_in e) a.token a.had_line_break a.span us l i h)
