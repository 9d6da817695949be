-- Assignment expressions: `yield`, conditionals, and operators that write.
use Rattle.std.specs.Prelude.{◌≡◌, Bool, true, false, not, ◌||◌, List, [], ◌∷◌, ◌&&◌, if◌then◌else◌, Option, Some, None}
use Rattle.std.proofs.Common.{refl, ap, ◌∙◌, sym as sym_path, subst}
use Rattle.swc_context.specs.{declared.operator.AssignOp.AssignOp, declared.operator.AssignOp.AssignOp as assign, declared.span.Span.Span, declared.word.Keyword.Keyword as keyword, declared.word.Word.Word as word}
use Rattle.swc_input.specs.{declared.token.Token.Token, declared.token.Token.Token as token, declared.token.TokenAndSpan.TokenAndSpan, Kinds.at_token}
use Rattle.swc_ast.specs.Tree.{Tree, node, bin as bin_kind, unary as unary_kind, update as update_kind, array_with, object_with}
use Rattle.swc_ast.specs.{Targets.is_target, Targets.is_target as is_simple_target, Trees.is_operation}
use Rattle.swc_bodies.specs.Readings.{Hook, is_async}
use Rattle.swc_grammar.specs.Tokens.{tk, is_star, is_question, is_dot, is_assign, is_yield, yield_ok, goes_on_yield, begins_yielded, is_lparen, is_equals}
use Rattle.swc_grammar.specs.Symbols.{Assign, Level, Side}
use Rattle.swc_grammar.specs.Grammar.{Production, yield-alone, yield-expr, yield-star, arrow-name, arrow-async-name}
use Rattle.swc_grammar.specs.Reads.{Follows, took, held, calm, part}
use Rattle.swc_grammar.specs.Clean.{first, sym, assigns, ends_unary, no_assign_at, begins_yield, goes_on_yield_at, yield_by, Bound, Stop, no_error, Choice, pick, chosen, step, run, begins_arrow, begins_async_name, begins_async_list, is_lparen_here, before_of_here, is_alone, is_bindable_here, is_arrow_here, no_arrow}
use Rattle.swc_grammar.specs.Arrows.{is_arrow, arrow_name, async_name, async_param}
use Rattle.swc_grammar.specs.{Scope.Scope, Scope.at_head, Rule.sees, Parts.assign_here, Firsts.begins_operand, Firsts.begins_expression, Cover.is_pattern}
use Rattle.swc_grammar.proofs.Only.{question-is, star-is, lparen-is, equals-is}
use Rattle.swc_grammar.proofs.Firsts.{begins, async-token, given-held, alone-first, arrow-alone}
use Rattle.swc_grammar.proofs.Complete.Bools.{if-on, if-off, not-on, not-off, is-false, neither, is-true, and-false}
use Rattle.swc_grammar.proofs.Complete.Sides.{Claim, Ready, last, picks, Ran, forget, side-reads, ready-given}
use Rattle.swc_grammar.proofs.Complete.Arrows.{line-arrow, body-bound, listed-reads, alone-ends}
use Rattle.swc_grammar.proofs.Complete.Asyncs.{param-next, no-arrow-begins, async-step, lparen-next, async-listed, async-none}
use Rattle.swc_grammar.proofs.{Answers.both, Knot.knot}

-- what binary operators join begins with no error, and not with `yield` where that is an operator
no-yield-first : (c : Scope) (xs : List TokenAndSpan) → at_token (begins_operand c) (first xs) ≡ true
    → (begins_yield c xs ≡ false) × (at_token no_error (first xs) ≡ true)
no-yield-first c [] h = absurd cc
no-yield-first c (a ∷ us) h = by-token a.token h
  where
    by-token : (t : Token) → begins_operand c t ≡ true
        → ((is_yield t && c.context.in_generator) ≡ false) × (no_error t ≡ true)
    by-token (token.Error e) h = absurd cc
    by-token (token.Word (word.Keyword keyword.Yield)) h = (by-flag c.context.in_generator refl, refl)
      where
        by-flag : (b : Bool) → c.context.in_generator ≡ b → c.context.in_generator ≡ false
        by-flag true e = absurd cc
        by-flag false e = e
    by-token t h = (refl, refl)

-- what follows `?` is no `.`
pub no-dot-expr : (c : Scope) (xs : List TokenAndSpan) → at_token (begins_expression c) (first xs) ≡ true
    → at_token is_dot (first xs) ≡ false
no-dot-expr c [] h = refl
no-dot-expr c (a ∷ us) h = by-token a.token h
  where
    by-token : (t : Token) → begins_expression c t ≡ true → is_dot t ≡ false
    by-token token.Dot h = absurd cc
    by-token t h = refl

yield-ends : (us : List TokenAndSpan) → sees goes_on_yield us ≡ false → goes_on_yield_at (first us) ≡ false
yield-ends [] w = refl
yield-ends (t ∷ ts) w = w

yield-goes-on : (c : Scope) (us : List TokenAndSpan) → sees (λ t. is_star t.token || not (goes_on_yield t)) us ≡ false
    → at_token (begins_expression c) (first us) ≡ true
    → (at_token is_star (first us) ≡ false) × (goes_on_yield_at (first us) ≡ true)
yield-goes-on c [] w h = absurd cc
yield-goes-on c (t ∷ ts) w h =
    let (x, y) = neither (is_star t.token) (not (goes_on_yield t)) w in (x, is-true (goes_on_yield t) y)

star-yielded : (t : Token) → is_star t ≡ true → begins_yielded t ≡ true
star-yielded t h = rw (star-is t h) refl

no-assign-here : (o : Option TokenAndSpan) → no_assign_at o ≡ true
    → (at_token is_question o ≡ false) × (at_token is_assign o ≡ false)
no-assign-here None h = (refl, refl)
no-assign-here (Some t) h =
    let (x, y) = both (not (is_question t.token)) (not (is_assign t.token)) h in
    (is-false (is_question t.token) x, is-false (is_assign t.token) y)

pub question-ends : (a : TokenAndSpan) (us : List TokenAndSpan) → is_question a.token ≡ true
    → at_token is_dot (first us) ≡ false → ends_unary (a ∷ us) ≡ true
question-ends a us h d = rw (question-is a.token h) (rw d refl)

pub question-bound : (c : Scope) (a : TokenAndSpan) (us : List TokenAndSpan) → is_question a.token ≡ true
    → Bound c 0 (a ∷ us)
question-bound c a us h = rw (question-is a.token h) (λ op k. absurd cc)

pub assign-token : (c : Scope) (a : TokenAndSpan) (us : List TokenAndSpan) (op : AssignOp)
    → assign_here a.token a.span ≡ Some op
    → (is_question a.token ≡ false) × (is_assign a.token ≡ true) × (ends_unary (a ∷ us) ≡ true) × Bound c 0 (a ∷ us)
assign-token c a us op h = by-token a.token a.had_line_break a.span h
  where
    by-token : (t : Token) (b : Bool) (s : Span) → assign_here t s ≡ Some op
        → (is_question t ≡ false) × (is_assign t ≡ true) × (ends_unary (tk t b s ∷ us) ≡ true)
        × Bound c 0 (tk t b s ∷ us)
    by-token (token.AssignOp o) b s h = (refl, refl, refl, λ op' k. absurd cc)
    by-token t b s h = absurd cc

pub assign-no-arrow : (a : TokenAndSpan) (us : List TokenAndSpan) (op : AssignOp) → assign_here a.token a.span ≡ Some op
    → no_arrow (a ∷ us) ≡ true
assign-no-arrow a us op h = by-token a.token a.span h
  where
    by-token : (t : Token) (s : Span) → assign_here t s ≡ Some op → not (is_arrow t) ≡ true
    by-token (token.AssignOp o) s h = refl
    by-token t s h = absurd cc

pub equals-plain : (a : TokenAndSpan) → is_equals a.token ≡ true → assign_here a.token a.span ≡ Some assign.Assign
equals-plain a h = rw (equals-is a.token h) refl

module _ {F C K : Type 0} (hook : Hook F C K) where
  -- `yield`, by what is after it
  yield-picks : (c : Scope) (a : TokenAndSpan) (us : List TokenAndSpan) (x : Choice F C K Assign c)
      → is_yield a.token ≡ true → (c.context.in_generator && yield_ok c.context) ≡ true
      → (yield_ok c.context ≡ true → yield_by {F = F} {C = C} {K = K} c (first us) ≡ x)
      → step (sym Assign) c (a ∷ us) ≡ chosen x
  yield-picks c a us x h k e =
      let (g, o) = both c.context.in_generator (yield_ok c.context) k in
      if-on (begins_yield c (a ∷ us)) _ _ (rw (h, g) refl) ∙ ap chosen (e o)

  alone-picks : (c : Scope) (u : Option TokenAndSpan) → goes_on_yield_at u ≡ false → yield_ok c.context ≡ true
      → yield_by {F = F} {C = C} {K = K} c u ≡ pick yield-alone
  alone-picks c u h o =
      if-off (not (yield_ok c.context)) _ _ (not-off (yield_ok c.context) o)
      ∙ if-on (not (goes_on_yield_at u)) _ _ (not-on (goes_on_yield_at u) h)

  yielded-picks : (c : Scope) (u : Option TokenAndSpan) (x : Choice F C K Assign c) → goes_on_yield_at u ≡ true
      → (if at_token is_star u then pick yield-star else pick yield-expr) ≡ x → yield_ok c.context ≡ true
      → yield_by {F = F} {C = C} {K = K} c u ≡ x
  yielded-picks c u x h e o =
      if-off (not (yield_ok c.context)) _ _ (not-off (yield_ok c.context) o)
      ∙ if-off (not (goes_on_yield_at u)) _ _ (not-off (goes_on_yield_at u) h) ∙ e

  -- the productions that are picked by what comes first: those of `yield`, and of arrow functions of one name
  abbrev pub is_yielded : {c : Scope} {r : Side F C K Assign} → Production Assign c r → Bool
  is_yielded yield-alone = true
  is_yielded yield-expr = true
  is_yielded yield-star = true
  is_yielded arrow-name = true
  is_yielded arrow-async-name = true
  is_yielded p = false

  pub picked-assign : {c : Scope} {r : Side F C K Assign} {xs ys : List TokenAndSpan} {t : Tree F C K}
      (p : Production Assign c r) → is_yielded p ≡ true
      → Follows hook Assign r xs ys t → step (sym Assign) c xs ≡ chosen (pick p)
  picked-assign {c = c} yield-alone y (took {a = a} {xs = us} (held h (held k (calm w d)))) =
      yield-picks c a us _ h k (alone-picks c (first us) (yield-ends us w))
  picked-assign {c = c} yield-expr y (took {a = a} {xs = us} (held h (held k (calm w (part e d))))) =
      let (x, g) = yield-goes-on c us w (begins e) in
      yield-picks c a us _ h k (yielded-picks c (first us) _ g (if-off (at_token is_star (first us)) _ _ x))
  picked-assign {c = c} yield-star y (took {a = a} (held h (held k (took {a = b} {xs = us} (held n (held x d)))))) =
      yield-picks c a (b ∷ us) _ h k
      (yielded-picks c (Some b) _ (rw (is-false b.had_line_break n, star-yielded b.token x) refl)
      (if-on (is_star b.token) _ _ x))
  picked-assign {c = c} arrow-name y (took {a = a} {xs = us} d) =
      let (n, h, g) = given-held (arrow_name c a.token a.span) _ d in
      let i = arrow-alone c a.token a.span n h in
      let f = alone-first c a.token i in
      let (z, e) = no-yield-first c (a ∷ us) (rw f refl) in
      rw (z, i, line-arrow hook g) refl
  picked-assign {c = c} arrow-async-name y (took {a = a} {xs = us} d) =
      let (n, h, g) = given-held (async_name c a.token a.span) _ d in
      let x = async-token c a.token a.span n h in
      let (z, w, y) = param-next hook c us g in
      async-step hook c a us x (no-arrow-begins hook c a us w)
      ∙ if-on (begins_async_name c (a ∷ us)) _ _ (rw (x, z, y, and-false (before_of_here c (first us))) refl)
  picked-assign p y d = absurd cc

  -- where a symbol's reading stops, what a picked production reads stops too
  ready-assign : {c : Scope} {r : Side F C K Assign} (ys : List TokenAndSpan) → Stop Assign c ys
      → (p : Production Assign c r) → is_yielded p ≡ true → Ready (Some 14) ys r
  ready-assign ys stop yield-alone y = λ a h k. tt
  ready-assign ys stop yield-expr y = λ a h k. (refl, λ e. (stop, tt))
  ready-assign ys stop yield-star y = λ a h k b n x. (refl, λ e. (stop, tt))
  ready-assign ys stop (arrow-name {c = c}) y = λ a. ready-given _ _ (arrow_name c a.token a.span) _
      (λ n h b x z. (refl, λ e. ((stop.0, body-bound hook c false ys stop.1), tt)))
  ready-assign ys stop (arrow-async-name {c = c}) y = λ a. ready-given _ _ (async_name c a.token a.span) _
      (λ m j b l. ready-given _ _ (async_param c b.token b.span) _
      (λ n h d x. (refl, λ e. ((stop.0, body-bound hook c true ys stop.1), tt))))
  ready-assign ys stop p y = absurd cc

  -- what is picked by what comes first
  pub yielded : {c : Scope} {r : Side F C K Assign} {xs ys : List TokenAndSpan} {t : Tree F C K}
      (p : Production Assign c r) → is_yielded p ≡ true → Ran hook Assign r xs ys t → Claim hook Assign c xs ys t
  yielded {c = c} {xs = xs} {ys = ys} p y d = λ stop.
      picks hook Assign c xs p (pick p) (picked-assign p y (forget hook d)) refl
      (side-reads hook (Some 14) d (ready-assign ys stop p y))

  -- what binary operators join, and what `?` or an operator that writes is after
  pub level-reads : (c : Scope) (xs ms : List TokenAndSpan) (e : Tree F C K)
      → at_token (begins_operand c) (first xs) ≡ true → no_arrow ms ≡ true
      → run hook (sym (Level 1)) (at_head c) xs ≡ Some (e, ms) → run hook (sym Assign) c xs ≡ run hook (assigns e) c ms
  level-reads c [] ms e h r d = absurd cc
  level-reads c (a ∷ us) ms e h r d = by-name (begins_arrow c (a ∷ us)) refl
    where
      clash : at_token is_arrow (first ms) ≡ true → ⊥
      clash w = let n = is-false (at_token is_arrow (first ms)) r in absurd cc

      by-list : (y : Bool) → begins_async_list (a ∷ us) ≡ y → is_lparen a.token ≡ false
          → begins_arrow c (a ∷ us) ≡ false → begins_async_name c (a ∷ us) ≡ false
          → run hook (sym Assign) c (a ∷ us) ≡ run hook (assigns e) c ms
      by-list true y p z w =
          let (i, j) = both (is_async a.token) (is_lparen_here (first us)) y in
          lparen-next hook (λ v. run hook (sym (Level 1)) (at_head c) (a ∷ v) ≡ Some (e, ms)
          → run hook (sym Assign) c (a ∷ v) ≡ run hook (assigns e) c ms) us j
          (λ s vs k. async-listed hook c a s vs ms e i k) d
      by-list false y p z w =
          let (u, n) = no-yield-first c (a ∷ us) h in
          knot hook (sym Assign) c (a ∷ us) ∙ rw (u, z, p, w, y, n, d) (last hook (Some 14) (assigns e) c ms refl)

      by-word : (y : Bool) → begins_async_name c (a ∷ us) ≡ y → is_lparen a.token ≡ false
          → begins_arrow c (a ∷ us) ≡ false → run hook (sym Assign) c (a ∷ us) ≡ run hook (assigns e) c ms
      by-word true y p z =
          let (i, k) = both (is_async a.token) _ y in
          let (j, m) = both (is_bindable_here c (first us)) _ k in
          absurd (async-none hook c a us ms e i j m d)
      by-word false y p z = by-list (begins_async_list (a ∷ us)) refl p z y

      by-paren : (y : Bool) → is_lparen a.token ≡ y → begins_arrow c (a ∷ us) ≡ false
          → run hook (sym Assign) c (a ∷ us) ≡ run hook (assigns e) c ms
      by-paren true y z =
          subst (λ t. run hook (sym (Level 1)) (at_head c) (tk t a.had_line_break a.span ∷ us) ≡ Some (e, ms)
          → run hook (sym Assign) c (tk t a.had_line_break a.span ∷ us) ≡ run hook (assigns e) c ms)
          (sym_path (lparen-is a.token y)) (λ k. listed-reads hook c a.had_line_break a.span us ms e k) d
      by-paren false y z = by-word (begins_async_name c (a ∷ us)) refl y z

      by-name : (y : Bool) → begins_arrow c (a ∷ us) ≡ y → run hook (sym Assign) c (a ∷ us) ≡ run hook (assigns e) c ms
      by-name false z = by-paren (is_lparen a.token) refl z
      by-name true z =
          let (i, j) = both (is_alone c.context a.token) (is_arrow_here (first us)) z in
          absurd (clash (alone-ends hook c a us ms e i j d))

  pub assigns-end : (c : Scope) (e : Tree F C K) (ms : List TokenAndSpan) → no_assign_at (first ms) ≡ true
      → run hook (assigns e) c ms ≡ Some (e, ms)
  assigns-end c e ms h =
      let (q, a) = no-assign-here (first ms) h in knot hook (assigns e) c ms ∙ rw (q, a) refl

  -- a target is no operation
  pub target-apart : (strict : Bool) (t : Tree F C K) → is_target strict t ≡ true → is_operation t ≡ false
  target-apart strict (node (bin_kind op) s ts) h = absurd cc
  target-apart strict (node (unary_kind op) s ts) h = absurd cc
  target-apart strict (node (update_kind op is_prefix) s ts) h = absurd cc
  target-apart strict (node k s ts) h = refl

  -- what is a pattern is no operation, and a target no pattern
  pub pattern-apart : (t : Tree F C K) → is_pattern t ≡ true → is_operation t ≡ false
  pattern-apart (node (bin_kind op) s ts) h = absurd cc
  pattern-apart (node (unary_kind op) s ts) h = absurd cc
  pattern-apart (node (update_kind op is_prefix) s ts) h = absurd cc
  pattern-apart (node k s ts) h = refl

  -- kinds of trees
  pub target-no-pattern : (strict : Bool) (t : Tree F C K) → is_simple_target strict t ≡ true → is_pattern t ≡ false
  target-no-pattern strict (node (array_with comma) s ts) h = absurd cc
  target-no-pattern strict (node (object_with comma) s ts) h = absurd cc
  target-no-pattern strict (node k s ts) h = refl
