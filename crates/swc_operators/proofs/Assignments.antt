-- What the clean parser reads in parentheses, sequences, conditionals, assignments and of `yield`, a step at a time, as
-- the code does it.
use Rattle.std.proofs.Common.{◌≡◌, Bool, true, false, not, ◌&&◌, if◌then◌else◌, List, [], ◌∷◌, Option, Some, None, refl, sym, ap, ◌∙◌, ◌||◌}
use Rattle.swc_context.specs.{declared.operator.AssignOp.AssignOp, declared.operator.AssignOp.AssignOp as write, declared.span.BytePos.BytePos, declared.span.Span.Span, declared.word.Keyword.Keyword as keyword, declared.word.Word.Word as written}
use Rattle.swc_input.specs.{declared.token.Token.Token, declared.token.Token.Token as token, declared.token.TokenAndSpan.TokenAndSpan, Kinds.at_token, Recording.is_some}
use Rattle.swc_ast.specs.Tree.{Tree, Trees, nil, cons, span_of, node, array_with, object_with}
use Rattle.swc_ast.specs.Trees.{to, trees_append, cond_e, assign_e, yield_e, hole_e, is_operation, is_valid}
use Rattle.swc_ast.specs.{Targets.is_target, Patterns.array_p, Patterns.object_p}
use Rattle.swc_bodies.specs.Readings.{Hook}
use Rattle.swc_grammar.specs.Cover.{is_assign as is_assign_tree, as_literal, as_elements, as_props, is_pattern, is_plain_assign, target, ◌>>>◌}
use Rattle.swc_grammar.specs.Rule.{gives, take, check, read, sees, given, symbol, ◌>>=◌ as ◌▸◌}
use Rattle.swc_grammar.specs.Tokens.{with_in, assign_of, is_assign, is_comma, is_question, is_colon, is_star, is_equals, tk, is_yield, yield_ok, goes_on_yield, begins_yielded}
use Rattle.swc_grammar.specs.Clean.{Out, and_then, first, sym as at, assigns, seqs, begins_yield, plan, writes_tail, goes_on_yield_at, exec, run, chosen, yield_by as yield_choice}
use Rattle.swc_grammar.specs.{Scope.Scope, Symbols.Expr, Symbols.Assign, Words.◌>>=◌, Words.rest}
use Rattle.swc_grammar.proofs.{Answers.both, Complete.last, Knot.knot}
use Rattle.swc_operators.specs.Assignments.{refines, pattern_by, assign_pattern, assign_refined, assign_by, assigned_by, assign_at, seqs_more, seqs_by, cond_tail, seqs_from_by, assigns_from, cond_colon, cond_close, assign_tail, assign_expr, yield_arg, yield_operand, yield_go, yield_tail, yield_expr}
use Rattle.swc_cover.proofs.{Clear.clear-fits, Formed.Formed, Ties.pattern-is}
use Rattle.swc_cover.specs.PatTypes.{stands_whole, verdict_as, want_as}
use Rattle.swc_cover.specs.{Clear.is_clear, declared.pat_type.PatType.TheVariants.AssignPat}
use Rattle.swc_steps.specs.Readers.{begun_if, inside, whole_inside}
use Rattle.swc_steps.specs.Parsing.{behind}
use Rattle.swc_steps.specs.{Keys.expected, Lists.eaten, Lists.eaten_by}
use Rattle.swc_steps.proofs.{Keys.then_calls, Keys.then_token, Lists.calls}
use Rattle.swc_operators.proofs.Updates.{if_on, if_off}
use Rattle.std.specs.Prelude.{is_some as is_given}

-- whether something is given, by either name
pub given_some : {A : Type 0} (o : Option A) → is_given o ≡ is_some o
given_some None = refl
given_some (Some a) = refl

-- the operator that makes a pattern of what is before it
pub plain_is : (op : AssignOp) → is_plain_assign op ≡ true → op ≡ write.Assign
plain_is write.Assign h = refl
plain_is op h = absurd cc

pub refining_op : {F C K : Type 0} (op : AssignOp) (l : Tree F C K) → refines op l ≡ true
    → (is_plain_assign op ≡ true) × (op ≡ write.Assign) × (is_pattern l ≡ true)
refining_op op l h = let (p, k) = both (is_plain_assign op) (is_pattern l) h in (p, plain_is op p, k)

module _ {F C K : Type 0} (hook : Hook F C K) where
  -- ---- sequences (13.16)

  pub inside_expr : (x : Scope) (ts : List TokenAndSpan) → whole_inside hook x ts ≡ run hook (at Expr) (with_in x) ts
  unfolding whole_inside
  inside_expr x ts = refl

  pub expr_splits : (x : Scope) (ts : List TokenAndSpan)
      → run hook (at Expr) x ts ≡ (run hook (at Assign) x ts >>= (λ p. run hook (seqs (cons p.0 nil)) x p.1))
  expr_splits x ts =
      knot hook (at Expr) x ts
      ∙ then_last (run hook (at Assign) x ts)
    where
      then_last : (o : Out (Tree F C K))
          → and_then o (λ e us. exec hook (run hook) (Some 15) (read (seqs (cons e nil)) x (λ v. gives v)) us)
          ≡ (o >>= (λ p. run hook (seqs (cons p.0 nil)) x p.1))
      then_last None = refl
      then_last (Some p) = last hook (Some 15) (seqs (cons p.0 nil)) x p.1 refl

  pub seqs_splits : (es : Trees F C K) (x : Scope) (ts : List TokenAndSpan)
      → run hook (seqs es) x ts ≡ (eaten is_comma x ts >>= (λ p. seqs_by hook es p.0 x p.1))
  unfolding eaten seqs_more
  seqs_splits es x [] = knot hook (seqs es) x []
  seqs_splits es x (t ∷ ts) = by_comma (is_comma t.token) refl
    where
      more : (o : Out (Tree F C K))
          → and_then o (λ e us. exec hook (run hook) None
          (read (seqs (trees_append es (cons e nil))) x (λ v. gives v)) us)
          ≡ (o >>= (λ p. run hook (seqs (trees_append es (cons p.0 nil))) x p.1))
      more None = refl
      more (Some p) = last hook None (seqs (trees_append es (cons p.0 nil))) x p.1 refl

      by_comma : (b : Bool) → is_comma t.token ≡ b
          → run hook (seqs es) x (t ∷ ts) ≡ (eaten_by (is_comma t.token) (t ∷ ts) >>= (λ p. seqs_by hook es p.0 x p.1))
      by_comma true e = knot hook (seqs es) x (t ∷ ts) ∙ rw e (rw e (more (run hook (at Assign) x ts)))
      by_comma false e = knot hook (seqs es) x (t ∷ ts) ∙ rw e refl

  pub seqs_more_splits : (es : Trees F C K) (x : Scope) (ts : List TokenAndSpan) → seqs_more hook es x ts
      ≡ (run hook (at Assign) x ts >>= (λ p. run hook (seqs (trees_append es (cons p.0 nil))) x p.1))
  unfolding seqs_more
  seqs_more_splits es x ts = refl

  -- ---- assignment expressions (13.15)

  -- after the `:` of a conditional
  alt_reads : (l e : Tree F C K) (x : Scope) (t : TokenAndSpan) (us : List TokenAndSpan)
      → (if is_colon t.token then and_then (run hook (at Assign) x us)
      (λ a vs. Some (cond_e (to (span_of l) (span_of a)) l e a, vs)) else None)
      ≡ (if is_colon t.token then cond_close hook (span_of l).lo l e x us else None)
  alt_reads l e x t us = ap (λ o. if is_colon t.token then o else None) (calls (run hook (at Assign) x us) _)

  -- after the middle of a conditional
  colon_reads : (l e : Tree F C K) (x : Scope) (us : List TokenAndSpan) → exec hook (run hook) None
      (take (λ t. check (is_colon t.token) (read (at Assign) x
      (λ a. gives (cond_e (to (span_of l) (span_of a)) l e a))))) us
      ≡ cond_colon hook (span_of l).lo l e x us
  colon_reads l e x [] = then_token is_colon x [] (λ q vs. cond_close hook (span_of l).lo l e x vs)
  colon_reads l e x (t ∷ us) =
      alt_reads l e x t us ∙ then_token is_colon x (t ∷ us) (λ q vs. cond_close hook (span_of l).lo l e x vs)

  -- after what binary operators join
  pub assigns_cond : (l : Tree F C K) (x : Scope) (ts : List TokenAndSpan) → at_token is_question (first ts) ≡ true
      → run hook (assigns l) x ts ≡ behind (cond_tail hook (span_of l).lo l) x ts
  unfolding cond_tail inside expected eaten
  assigns_cond l x [] h = cc
  assigns_cond l x (t ∷ ts) h =
      knot hook (assigns l) x (t ∷ ts)
      ∙ rw h (rw h (then_calls (run hook (at Assign) (with_in x) ts) _ (λ e us. cond_colon hook (span_of l).lo l e x us)
      (λ e us. colon_reads l e x us)))

  assign_is : (t : Token) (op : AssignOp) → assign_of t ≡ Some op → (is_question t ≡ false) × (is_assign t ≡ true)
  assign_is (token.AssignOp o) op h = (refl, refl)
  assign_is t op h = absurd cc

  no_assign_is : (t : Token) → assign_of t ≡ None → is_assign t ≡ false
  no_assign_is (token.AssignOp o) h = absurd cc
  no_assign_is t h = refl

  if_some : {A : Type 0} (b : Bool) (o : Option A) (a : A) → (if b then None else o) ≡ Some a
      → (b ≡ false) × (o ≡ Some a)
  if_some true o a h = cc
  if_some false o a h = (refl, h)

  no_equals : (t : Token) (op : AssignOp) → assign_of t ≡ Some op → is_plain_assign op ≡ false → is_equals t ≡ false
  no_equals (token.AssignOp write.Assign) op h k = let same : write.Assign ≡ op = cc in absurd (differs op same k)
    where
      differs : (o : AssignOp) → write.Assign ≡ o → is_plain_assign o ≡ false → ⊥
      differs o e h = let f : true ≡ false = ap is_plain_assign e ∙ h in cc
  no_equals (token.AssignOp o) op h k = refl
  no_equals t op h k = refl

  equals_is : (t : Token) → assign_of t ≡ Some write.Assign → is_equals t ≡ true
  equals_is (token.AssignOp write.Assign) h = refl
  equals_is (token.AssignOp o) h = absurd cc
  equals_is t h = absurd cc

  no_target : (strict : Bool) (l : Tree F C K) → is_pattern l ≡ true → is_target strict l ≡ false
  no_target strict (node (array_with comma) s ts) h = refl
  no_target strict (node (object_with comma) s ts) h = refl
  no_target strict l h = absurd cc

  -- what is written to by an operator that makes no pattern of it
  by_pattern : (b : Bool) (op : AssignOp) (l : Tree F C K) (x : Scope) (t : TokenAndSpan) (ts : List TokenAndSpan)
      → is_pattern l ≡ b → refines op l ≡ false → assign_of t.token ≡ Some op
      → exec hook (run hook) (Some 1) (plan (writes_tail x l)) (t ∷ ts) ≡ assign_expr hook op l x (t ∷ ts)
  unfolding assign_expr assign_tail
  by_pattern true op l x t ts h k o =
      rw (
        h,
        no_equals t.token op o (plain_not (is_plain_assign op) (is_pattern l) k h),
        no_target x.context.strict l h,
      ) refl
    where
      plain_not : (a b : Bool) → (a && b) ≡ false → b ≡ true → a ≡ false
      plain_not true true k h = absurd cc
      plain_not true false k h = absurd cc
      plain_not false b k h = refl
  by_pattern false op l x t ts h k o =
      rw h (rw (o, exec) (ap (λ v. if is_target x.context.strict l then v else None)
      (calls (run hook (at Assign) x ts) _)))

  pub assigns_assign : (op : AssignOp) (l : Tree F C K) (x : Scope) (ts : List TokenAndSpan) → refines op l ≡ false
      → assign_at (first ts) l ≡ Some op → run hook (assigns l) x ts ≡ assign_expr hook op l x ts
  assigns_assign op l x [] k h = cc
  assigns_assign op l x (t ∷ ts) k h =
      let (n, o) = if_some (is_operation l) (assign_of t.token) op h in
      let (q, a) = assign_is t.token op o in
      knot hook (assigns l) x (t ∷ ts)
      ∙ rw (q, a, n) (by_pattern (is_pattern l) op l x t ts refl k o)

  -- a literal lies where the pattern lies that it is
  then_span : (s : Span) (o : Option (Trees F C K)) (f : Trees F C K → Tree F C K) (t : Tree F C K)
      → ((ps : Trees F C K) → span_of (f ps) ≡ s) → (o >>> (λ ps. Some (f ps))) ≡ Some t → span_of t ≡ s
  then_span s None f t k h = absurd cc
  then_span s (Some ps) f t k h = let same : f ps ≡ t = cc in sym (ap span_of same) ∙ k ps

  literal_span : (strict : Bool) (l t : Tree F C K) → as_literal strict l ≡ Some t → span_of t ≡ span_of l
  literal_span strict (node (array_with comma) s ts) t h =
      then_span s (as_elements (target strict) comma ts) (λ ps. array_p s ps) t (λ ps. refl) h
  literal_span strict (node (object_with comma) s ts) t h =
      then_span s (as_props (target strict) comma ts) (λ ps. object_p s ps) t (λ ps. refl) h
  literal_span strict l t h = absurd cc

  given_pattern : (o : Option (Tree F C K)) (l : Tree F C K) (x : Scope) (us : List TokenAndSpan)
      → ((t : Tree F C K) → o ≡ Some t → span_of t ≡ span_of l)
      → exec hook (run hook) None (plan {A = Tree F C K} (given o ▸ (λ p. symbol Assign x
      ▸ (λ r. gives (assign_e (to (span_of l) (span_of r)) write.Assign p r))))) us
      ≡ pattern_by hook o x us
  unfolding assign_tail
  given_pattern None l x us h = refl
  given_pattern (Some t) l x us h =
      calls (run hook (at Assign) x us) _
      ∙ ap (λ s. run hook (at Assign) x us >>= (λ p. Some (assign_e (to s (span_of p.0)) write.Assign t p.0, p.1)))
      (sym (h t refl))

  writes_pattern : (l : Tree F C K) (x : Scope) (t : TokenAndSpan) (ts : List TokenAndSpan) → is_pattern l ≡ true
      → is_equals t.token ≡ true → exec hook (run hook) (Some 1) (plan (writes_tail x l)) (t ∷ ts)
      ≡ pattern_by hook (as_literal x.context.strict l) x ts
  writes_pattern l x t ts k e =
      ap (λ v. exec hook (run hook) (Some 1) (plan v) (t ∷ ts)) (if_on (is_pattern l) _ _ k)
      ∙ if_on (is_equals t.token) _ _ e
      ∙ given_pattern (as_literal x.context.strict l) l x ts (λ v h. literal_span x.context.strict l v h)

  -- a literal before `=`
  pub assigns_pattern : (l : Tree F C K) (x : Scope) (ts : List TokenAndSpan) → is_pattern l ≡ true
      → assign_at (first ts) l ≡ Some write.Assign → run hook (assigns l) x ts ≡ assign_pattern hook l x ts
  unfolding assign_pattern
  assigns_pattern l x [] k h = cc
  assigns_pattern l x (t ∷ ts) k h =
      let (n, o) = if_some (is_operation l) (assign_of t.token) write.Assign h in
      let (q, a) = assign_is t.token write.Assign o in
      knot hook (assigns l) x (t ∷ ts)
      ∙ rw (q, a, n) (writes_pattern l x t ts k (equals_is t.token o))

  pub assigns_end : (l : Tree F C K) (x : Scope) (ts : List TokenAndSpan) → at_token is_question (first ts) ≡ false
      → assign_at (first ts) l ≡ None → run hook (assigns l) x ts ≡ Some (l, ts)
  assigns_end l x [] q h = knot hook (assigns l) x []
  assigns_end l x (t ∷ ts) q h =
      knot hook (assigns l) x (t ∷ ts) ∙ rw q (rw (none (is_operation l) h) refl)
    where
      none : (b : Bool) → (if b then None else assign_of t.token) ≡ None → (is_assign t.token && not b) ≡ false
      none true h = and_false (is_assign t.token)
        where
          and_false : (a : Bool) → (a && false) ≡ false
          and_false true = refl
          and_false false = refl
      none false h = rw (no_assign_is t.token h) refl

  -- ---- `yield` (15.5)

  sees_stays : (us : List TokenAndSpan) → goes_on_yield_at (first us) ≡ false → sees goes_on_yield us ≡ false
  sees_stays [] h = refl
  sees_stays (t ∷ us) h = h

  sees_goes : (us : List TokenAndSpan) → goes_on_yield_at (first us) ≡ true → at_token is_star (first us) ≡ false
      → sees (λ t. is_star t.token || not (goes_on_yield t)) us ≡ false
  sees_goes [] g h = refl
  sees_goes (t ∷ us) g h = rw (h, g) refl

  is_false : (b : Bool) → not b ≡ true → b ≡ false
  is_false true h = absurd cc
  is_false false h = refl

  -- after `yield`, where an operand is there: with a `*` before it or not
  star_reads : (s : Span) (x : Scope) (t : TokenAndSpan) (us : List TokenAndSpan) → is_star t.token ≡ true
      → t.had_line_break ≡ false
      → exec hook (run hook) None (plan (take (λ u. check (not u.had_line_break) (check (is_star u.token)
      (read Assign x (λ e. gives (yield_e (to s (span_of e)) true e))))))) (t ∷ us)
      ≡ (eaten is_star x (t ∷ us) >>= (λ p. yield_arg hook s p.0 x p.1))
  unfolding eaten
  star_reads s x t us h n = rw (h, n) (calls (run hook (at Assign) x us) _)

  plain_reads : (s : Span) (x : Scope) (us : List TokenAndSpan) → at_token is_star (first us) ≡ false
      → and_then (run hook (at Assign) x us) (λ e vs. Some (yield_e (to s (span_of e)) false e, vs))
      ≡ (eaten is_star x us >>= (λ p. yield_arg hook s p.0 x p.1))
  unfolding eaten
  plain_reads s x us h = rw h (calls (run hook (at Assign) x us) _)

  -- by what is after the word, where it is an operator
  yield_reads : (s : Span) (w : Bool) (x : Scope) (us : List TokenAndSpan) → x.context.in_generator ≡ true
      → run hook (at Assign) x (tk (token.Word (written.Keyword keyword.Yield)) w s ∷ us) ≡ yield_tail hook s x us
  unfolding yield_tail yield_operand
  yield_reads s w x us g =
      knot hook (at Assign) x (a ∷ us)
      ∙ ap (λ v. exec hook (run hook) (Some 14) v (a ∷ us)) (if_on (begins_yield x (a ∷ us)) _ _ g)
      ∙ by_tests (yield_ok x.context) (goes_on_yield_at (first us)) (at_token is_star (first us)) refl refl refl
    where
      a : TokenAndSpan
      a = tk (token.Word (written.Keyword keyword.Yield)) w s

      star_is : (vs : List TokenAndSpan) → goes_on_yield_at (first vs) ≡ true → at_token is_star (first vs) ≡ true
          → exec hook (run hook) None (plan (take (λ u. check (not u.had_line_break) (check (is_star u.token)
          (read Assign x (λ e. gives (yield_e (to s (span_of e)) true e))))))) vs
          ≡ (eaten is_star x vs >>= (λ p. yield_arg hook s p.0 x p.1))
      star_is [] k h = absurd cc
      star_is (t ∷ vs) k h =
          star_reads s x t vs h
          (is_false t.had_line_break (both (not t.had_line_break) (begins_yielded t.token) k).0)

      by_tests : (o k b : Bool) → yield_ok x.context ≡ o → goes_on_yield_at (first us) ≡ k
          → at_token is_star (first us) ≡ b
          → exec hook (run hook) (Some 14) (chosen {s = Assign} {c = x}
          (yield_choice {F = F} {C = C} {K = K} x (first us))) (a ∷ us)
          ≡ (if yield_ok x.context then yield_go hook s x us else None)
      by_tests false k b h i j =
          ap (λ v. exec hook (run hook) (Some 14) (chosen {s = Assign} {c = x} v) (a ∷ us))
          (if_on (not (yield_ok x.context)) _ _ (rw h refl))
          ∙ sym (if_off (yield_ok x.context) _ _ h)
      by_tests true false b h i j =
          ap (λ v. exec hook (run hook) (Some 14) (chosen {s = Assign} {c = x} v) (a ∷ us))
          (if_off (not (yield_ok x.context)) _ _ (rw h refl)
          ∙ if_on (not (goes_on_yield_at (first us))) _ _ (rw i refl))
          ∙ if_on (x.context.in_generator && yield_ok x.context) _ _ (rw (g, h) refl)
          ∙ if_off (sees goes_on_yield us) None _ (sees_stays us i)
          ∙ sym (if_on (yield_ok x.context) _ _ h ∙ if_off (goes_on_yield_at (first us)) _ _ i)
      by_tests true true true h i j =
          ap (λ v. exec hook (run hook) (Some 14) (chosen {s = Assign} {c = x} v) (a ∷ us))
          (if_off (not (yield_ok x.context)) _ _ (rw h refl)
          ∙ if_off (not (goes_on_yield_at (first us))) _ _ (rw i refl) ∙ if_on (at_token is_star (first us)) _ _ j)
          ∙ if_on (x.context.in_generator && yield_ok x.context) _ _ (rw (g, h) refl)
          ∙ star_is us i j
          ∙ sym (if_on (yield_ok x.context) _ _ h ∙ if_on (goes_on_yield_at (first us)) _ _ i)
      by_tests true true false h i j =
          ap (λ v. exec hook (run hook) (Some 14) (chosen {s = Assign} {c = x} v) (a ∷ us))
          (if_off (not (yield_ok x.context)) _ _ (rw h refl)
          ∙ if_off (not (goes_on_yield_at (first us))) _ _ (rw i refl) ∙ if_off (at_token is_star (first us)) _ _ j)
          ∙ if_on (x.context.in_generator && yield_ok x.context) _ _ (rw (g, h) refl)
          ∙ if_off (sees (λ t. is_star t.token || not (goes_on_yield t)) us) None _ (sees_goes us i j)
          ∙ plain_reads s x us j
          ∙ sym (if_on (yield_ok x.context) _ _ h ∙ if_on (goes_on_yield_at (first us)) _ _ i)

  pub yield_picked : (x : Scope) (ts : List TokenAndSpan) → begins_yield x ts ≡ true
      → run hook (at Assign) x ts ≡ yield_expr hook x ts
  unfolding yield_expr
  yield_picked x [] h = absurd cc
  yield_picked x (t ∷ ts) h =
      let (y, g) = both (is_yield t.token) x.context.in_generator h in
      by_token t.token t.had_line_break t.span y
    where
      by_token : (u : Token) (w : Bool) (s : Span) → is_yield u ≡ true
          → run hook (at Assign) x (tk u w s ∷ ts) ≡ yield_tail hook s x ts
      by_token (token.Word (written.Keyword keyword.Yield)) w s y =
          yield_reads s w x ts (both (is_yield t.token) x.context.in_generator h).1
      by_token u w s y = absurd cc

  pub yield_opens : (t : TokenAndSpan) (x : Scope) (ts : List TokenAndSpan)
      → yield_expr hook x (t ∷ ts) ≡ yield_tail hook t.span x ts
  unfolding yield_expr
  yield_opens t x ts = refl

  pub yield_well : (s : Span) (x : Scope) (ts : List TokenAndSpan) → yield_ok x.context ≡ true
      → yield_tail hook s x ts ≡ yield_go hook s x ts
  unfolding yield_tail
  yield_well s x ts h = rw h refl

  pub yield_ill : (s : Span) (x : Scope) (ts : List TokenAndSpan) → yield_ok x.context ≡ false
      → yield_tail hook s x ts ≡ None
  unfolding yield_tail
  yield_ill s x ts h = rw h refl

  pub yield_goes : (s : Span) (x : Scope) (ts : List TokenAndSpan) → goes_on_yield_at (first ts) ≡ true
      → yield_go hook s x ts ≡ yield_operand hook s x ts
  yield_goes s x ts h = rw h refl

  pub yield_stays : (s : Span) (x : Scope) (ts : List TokenAndSpan) → goes_on_yield_at (first ts) ≡ false
      → yield_go hook s x ts ≡ Some (yield_e s false hole_e, ts)
  yield_stays s x ts h = rw h refl

  pub yield_operand_splits : (s : Span) (x : Scope) (ts : List TokenAndSpan)
      → yield_operand hook s x ts ≡ (eaten is_star x ts >>= (λ p. yield_arg hook s p.0 x p.1))
  unfolding yield_operand
  yield_operand_splits s x ts = refl

  -- ---- assignments, after the operator

  pub assign_well : (op : AssignOp) (l : Tree F C K) (x : Scope) (ts : List TokenAndSpan)
      → is_target x.context.strict l ≡ true → assign_expr hook op l x ts ≡ behind (assign_tail hook op l) x ts
  unfolding assign_expr
  assign_well op l x ts h = rw h refl

  pub assign_ill : (op : AssignOp) (l : Tree F C K) (x : Scope) (ts : List TokenAndSpan)
      → is_target x.context.strict l ≡ false → assign_expr hook op l x ts ≡ None
  unfolding assign_expr
  assign_ill op l x ts h = rw h refl

  pub assign_tail_splits : (op : AssignOp) (l : Tree F C K) (x : Scope) (ts : List TokenAndSpan)
      → assign_tail hook op l x ts
      ≡ (run hook (at Assign) x ts >>= (λ p. Some (assign_e (to (span_of l) (span_of p.0)) op l p.0, p.1)))
  unfolding assign_tail
  assign_tail_splits op l x ts = refl

  pub cond_tail_splits : (lo : BytePos) (l : Tree F C K) (x : Scope) (ts : List TokenAndSpan)
      → cond_tail hook lo l x ts ≡ (inside hook x ts >>= (λ p. cond_colon hook lo l p.0 x p.1))
  unfolding cond_tail
  cond_tail_splits lo l x ts = refl

  -- after what binary operators join: a conditional, or something else; all of it, where the conditional begins where
  -- what it tests does
  pub from_question : (lo : BytePos) (l : Tree F C K) (x : Scope) (ts : List TokenAndSpan)
      → at_token is_question (first ts) ≡ true
      → assigns_from hook lo l x ts ≡ behind (cond_tail hook lo l) x ts
  unfolding assigns_from
  from_question lo l x ts h = rw h refl

  pub from_other : (lo : BytePos) (l : Tree F C K) (x : Scope) (ts : List TokenAndSpan)
      → at_token is_question (first ts) ≡ false
      → assigns_from hook lo l x ts ≡ assigned_by hook (assign_at (first ts) l) l x ts
  unfolding assigns_from
  from_other lo l x ts h = rw h refl

  -- the operator, or none
  pub from_operator : (lo : BytePos) (op : AssignOp) (l : Tree F C K) (x : Scope) (ts : List TokenAndSpan)
      → at_token is_question (first ts) ≡ false → assign_at (first ts) l ≡ Some op
      → assigns_from hook lo l x ts ≡ assign_by hook op l x ts
  from_operator lo op l x ts h k = from_other lo l x ts h ∙ ap (λ o. assigned_by hook o l x ts) k

  pub from_none : (lo : BytePos) (l : Tree F C K) (x : Scope) (ts : List TokenAndSpan)
      → at_token is_question (first ts) ≡ false → assign_at (first ts) l ≡ None
      → assigns_from hook lo l x ts ≡ Some (l, ts)
  from_none lo l x ts h k = from_other lo l x ts h ∙ ap (λ o. assigned_by hook o l x ts) k

  -- a literal that holds nothing that was refused is refined as the pattern that it is
  not_whole : (l : Tree F C K) → is_pattern l ≡ true → (stands_whole AssignPat l && is_assign_tree l) ≡ false
  not_whole (node (array_with comma) s ts) h = refl
  not_whole (node (object_with comma) s ts) h = refl
  not_whole l h = absurd cc

  literal_is : (strict : Bool) (l : Tree F C K) → is_pattern l ≡ true → is_valid l ≡ true → Formed l
      → as_literal strict l ≡ (if is_clear (verdict_as strict AssignPat l) then Some (want_as AssignPat l) else None)
  literal_is strict l h v f =
      if_on (is_pattern l) _ _ h
      ∙ sym (if_off (stands_whole AssignPat l && is_assign_tree l) None _ (not_whole l h))
      ∙ pattern-is strict AssignPat l (want_as AssignPat l) f refl
      ∙ ap (λ b. if b then Some (want_as AssignPat l) else None) (sym (clear-fits strict AssignPat l v))

  refined_by : (b : Bool) (t : Tree F C K) (x : Scope) (us : List TokenAndSpan)
      → pattern_by hook (if b then Some t else None) x us
      ≡ (if b then assign_tail hook write.Assign t x us else None)
  refined_by true t x us = refl
  refined_by false t x us = refl

  pattern_reads : (l : Tree F C K) (x : Scope) (ts : List TokenAndSpan) → is_pattern l ≡ true → is_valid l ≡ true
      → Formed l → assign_pattern hook l x ts ≡ assign_refined hook l x ts
  unfolding assign_pattern assign_refined
  pattern_reads l x ts h v f =
      ap (λ o. pattern_by hook o x (rest ts)) (literal_is x.context.strict l h v f)
      ∙ refined_by (is_clear (verdict_as x.context.strict AssignPat l)) (want_as AssignPat l) x (rest ts)

  by_refines : (b : Bool) (op : AssignOp) (l : Tree F C K) (x : Scope) (ts : List TokenAndSpan) → refines op l ≡ b
      → is_valid l ≡ true → Formed l → assign_at (first ts) l ≡ Some op
      → run hook (assigns l) x ts ≡ assign_by hook op l x ts
  by_refines true op l x ts r v f k =
      let (p, h) = both (is_plain_assign op) (is_pattern l) r in
      assigns_pattern l x ts h (k ∙ ap Some (plain_is op p)) ∙ pattern_reads l x ts h v f
      ∙ sym (if_on (refines op l) _ _ r)
  by_refines false op l x ts r v f k = assigns_assign op l x ts r k ∙ sym (if_off (refines op l) _ _ r)

  by_operator : (o : Option AssignOp) (l : Tree F C K) (x : Scope) (ts : List TokenAndSpan) → is_valid l ≡ true
      → Formed l → at_token is_question (first ts) ≡ false → assign_at (first ts) l ≡ o
      → run hook (assigns l) x ts ≡ assigned_by hook o l x ts
  by_operator None l x ts v f q k = assigns_end l x ts q k
  by_operator (Some op) l x ts v f q k = by_refines (refines op l) op l x ts refl v f k

  from_by : (l : Tree F C K) (x : Scope) (ts : List TokenAndSpan) (b : Bool) → at_token is_question (first ts) ≡ b
      → is_valid l ≡ true → Formed l → run hook (assigns l) x ts ≡ assigns_from hook (span_of l).lo l x ts
  from_by l x ts true h v f = assigns_cond l x ts h ∙ sym (from_question (span_of l).lo l x ts h)
  from_by l x ts false h v f =
      by_operator (assign_at (first ts) l) l x ts v f h refl ∙ sym (from_other (span_of l).lo l x ts h)

  -- where l holds nothing that was refused, and the conditional begins where it does
  pub from_place : (lo : BytePos) (l : Tree F C K) (x : Scope) (ts : List TokenAndSpan) → lo ≡ (span_of l).lo
      → is_valid l ≡ true → Formed l → run hook (assigns l) x ts ≡ assigns_from hook lo l x ts
  from_place lo l x ts h v f =
      from_by l x ts (at_token is_question (first ts)) refl v f ∙ sym (ap (λ w. assigns_from hook w l x ts) h)

  -- ---- to a target, by the operator

  pub refined_well : (l : Tree F C K) (x : Scope) (ts : List TokenAndSpan)
      → is_clear (verdict_as x.context.strict AssignPat l) ≡ true
      → assign_refined hook l x ts ≡ behind (assign_tail hook write.Assign (want_as AssignPat l)) x ts
  unfolding assign_refined
  refined_well l x ts h = rw h refl

  pub refined_ill : (l : Tree F C K) (x : Scope) (ts : List TokenAndSpan)
      → is_clear (verdict_as x.context.strict AssignPat l) ≡ false → assign_refined hook l x ts ≡ None
  unfolding assign_refined
  refined_ill l x ts h = rw h refl

  pub by_pattern_node : (op : AssignOp) (l : Tree F C K) (x : Scope) (ts : List TokenAndSpan) → refines op l ≡ true
      → assign_by hook op l x ts ≡ assign_refined hook l x ts
  by_pattern_node op l x ts h = if_on (refines op l) _ _ h

  pub by_simple_node : (op : AssignOp) (l : Tree F C K) (x : Scope) (ts : List TokenAndSpan) → refines op l ≡ false
      → assign_by hook op l x ts ≡ assign_expr hook op l x ts
  by_simple_node op l x ts h = if_off (refines op l) _ _ h

  -- a sequence that begins where its first expression does
  begun_none : (lo : BytePos) (o : Out (Tree F C K)) → o ≡ (o >>= (λ p. Some (begun_if false lo p.0, p.1)))
  begun_none lo None = refl
  begun_none lo (Some p) = refl

  pub seqs_begun : (b : Bool) (lo : BytePos) (es : Trees F C K) (x : Scope) (ts : List TokenAndSpan) → b ≡ false
      → run hook (seqs es) x ts ≡ (eaten is_comma x ts >>= (λ p. seqs_from_by hook b lo es p.0 x p.1))
  seqs_begun b lo es x ts h =
      seqs_splits es x ts ∙ then_begun (eaten is_comma x ts)
    where
      then_begun : (o : Out (Option Span)) → (o >>= (λ p. seqs_by hook es p.0 x p.1))
          ≡ (o >>= (λ p. seqs_from_by hook b lo es p.0 x p.1))
      then_begun None = refl
      then_begun (Some p) = begun_none lo (seqs_by hook es p.0 x p.1)
          ∙ ap (λ v. seqs_by hook es p.0 x p.1 >>= (λ q. Some (begun_if v lo q.0, q.1))) (sym h)
