-- The clean parser's steps in patterns and array patterns (14.3.3), as the code takes them.
use Rattle.std.proofs.Common.{◌≡◌, ◌≤◌, ℕ, zero, suc, Bool, true, false, not, if◌then◌else◌, List, [], ◌∷◌, ◌++◌, length, Option, Some, None, IsSome, refl, sym, ap, subst, ◌∙◌, arith}
use Rattle.swc_context.specs.{declared.span.Span.Span, declared.word.Word.Word}
use Rattle.swc_input.specs.{declared.token.Token.Token, declared.token.Token.Token as token, declared.token.TokenAndSpan.TokenAndSpan, Kinds.at_token}
use Rattle.swc_ast.specs.Patterns.{default_p, object_p, put_element}
use Rattle.swc_ast.specs.Tree.{Tree, Trees, nil, cons, span_of}
use Rattle.swc_ast.specs.Trees.{to, ident_e, hole_e, listed, items_of, comma_of, put_first}
use Rattle.swc_bodies.specs.Readings.{Hook, is_brace}
use Rattle.swc_grammar.specs.Rule.{gives, take, check, given, ◌>>=◌ as ◌▸◌}
use Rattle.swc_grammar.specs.Symbols.{Assign, Pat, Element, Rest, PatElements, PatElementsTail, PatProps}
use Rattle.swc_grammar.specs.Tokens.{tk, with_in, is_comma, is_equals, is_lbracket, is_rbracket, is_word}
use Rattle.swc_grammar.specs.Clean.{Out, and_then, first, sym as at, defaults, plan, exec, pat, run}
use Rattle.swc_grammar.specs.Words.{◌>>=◌, one, word}
use Rattle.swc_grammar.specs.{Grammar.pat-array, Grammar.pat-object, Names.may_bind, Names.spelled, Parts.binding, Scope.Scope}
use Rattle.swc_grammar.proofs.Only.{lbracket-is, rbracket-is, brace-is, equals-is}
use Rattle.swc_grammar.proofs.{Answers.only, Answers.inj, Complete.last, Knot.knot, Knot.run-less, Rules.run_picked}
use Rattle.swc_steps.specs.Lists.{eaten, eaten_by, closed, separated}
use Rattle.swc_steps.specs.Readers.{reading, by_production, inside}
use Rattle.swc_steps.specs.{Keys.expected, Parsing.seen_of}
use Rattle.swc_steps.proofs.Lists.{calls, binds, bind_same}
use Rattle.swc_patterns.specs.Arrays.{pat_kind, plain_pat, put_elements, array_from, array_pat_tail, default_value, default_by, ended, head_by, element_head, next_element, item_read, elements_left, behind_element, elements_with}
use Rattle.swc_patterns.specs.Rests.{Stage, going, closing, never, stage_of, has_comma, has_rest, behind_by, separated_item}
use Rattle.swc_patterns.specs.{declared.pat.NextElement.NextElement, declared.pat.NextElement.NextElement as next, declared.pat.PatKind.PatKind as kind, declared.rest.SeenRest.SeenRest, declared.rest.SeenRest.SeenRest as seen}

-- ---- what is before an element

pub next_ends : (s : Stage) (x : Scope) (ts : List TokenAndSpan) → at_token is_rbracket (first ts) ≡ true
    → next_element s x ts ≡ ended s x ts
unfolding next_element
next_ends s x ts h = rw h refl

pub next_goes : (s : Stage) (x : Scope) (ts : List TokenAndSpan) → at_token is_rbracket (first ts) ≡ false
    → next_element s x ts ≡ element_head s x ts
unfolding next_element
next_goes s x ts h = rw h refl

-- the bracket, where no comma is before it after a rest
pub ends_well : (r : SeenRest) (x : Scope) (ts : List TokenAndSpan) → not (has_comma r) ≡ true
    → ended (stage_of r) x ts ≡ (expected is_rbracket x ts >>= (λ p. Some (next.End p.0, p.1)))
ends_well seen.No x ts h = refl
ends_well (seen.Last rest None) x ts h = refl
ends_well (seen.Last rest (Some comma)) x ts h = absurd cc
ends_well (seen.Earlier rest) x ts h = refl

pub ends_ill : (r : SeenRest) (x : Scope) (ts : List TokenAndSpan) → not (has_comma r) ≡ false
    → ended (stage_of r) x ts ≡ None
ends_ill seen.No x ts h = absurd cc
ends_ill (seen.Last rest None) x ts h = absurd cc
ends_ill (seen.Last rest (Some comma)) x ts h = refl
ends_ill (seen.Earlier rest) x ts h = absurd cc

-- elsewhere an element comes, unless a rest was read before
abbrev pub head_of : SeenRest → Scope → List TokenAndSpan → Out NextElement
head_of r x ts = if has_rest r then None else (eaten is_comma x ts >>= (λ p. head_by p.0 x p.1))

head_token : (r : SeenRest) (x : Scope) (t : TokenAndSpan) (ts : List TokenAndSpan)
    → element_head (stage_of r) x (t ∷ ts) ≡ head_of r x (t ∷ ts)
head_token seen.No x t ts = refl
head_token (seen.Last rest None) x t ts = refl
head_token (seen.Last rest (Some comma)) x t ts = refl
head_token (seen.Earlier rest) x t ts = refl

pub head_here : (r : SeenRest) (x : Scope) (ts : List TokenAndSpan) (o : Option TokenAndSpan) → first ts ≡ seen_of o
    → IsSome o → element_head (stage_of r) x ts ≡ head_of r x ts
head_here r x [] None h some = absurd cc
head_here r x [] (Some t) h some = absurd cc
head_here r x (t ∷ ts) o h some = head_token r x t ts

-- none at the end
pub head_end : (s : Stage) (x : Scope) (ts : List TokenAndSpan) → first ts ≡ None → element_head s x ts ≡ None
head_end going x [] h = refl
head_end s x [] h = refl
head_end s x (t ∷ ts) h = absurd cc

pub head_well : (r : SeenRest) (x : Scope) (ts : List TokenAndSpan) → not (has_rest r) ≡ true
    → head_of r x ts ≡ (eaten is_comma x ts >>= (λ p. head_by p.0 x p.1))
head_well seen.No x ts h = refl
head_well (seen.Last rest comma) x ts h = absurd cc
head_well (seen.Earlier rest) x ts h = absurd cc

pub head_ill : (r : SeenRest) (x : Scope) (ts : List TokenAndSpan) → not (has_rest r) ≡ false → head_of r x ts ≡ None
head_ill seen.No x ts h = absurd cc
head_ill (seen.Last rest comma) x ts h = refl
head_ill (seen.Earlier rest) x ts h = refl

-- ---- helpers

plain_kind : (a b : Bool) → (if a then kind.Array else (if b then kind.Object else kind.Plain)) ≡ kind.Plain
    → (a ≡ false) × (b ≡ false)
plain_kind true b h = absurd cc
plain_kind false true h = absurd cc
plain_kind false false h = (refl, refl)

then_calls : {A B : Type 0} (o : Out A) (k : A → List TokenAndSpan → Out B) (f : A → List TokenAndSpan → Out B)
    → ((e : A) (us : List TokenAndSpan) → k e us ≡ f e us) → and_then o k ≡ (o >>= (λ p. f p.0 p.1))
then_calls None k f h = refl
then_calls (Some p) k f h = h p.0 p.1

no_word : (ok : Word → Bool) (t : Token) (s : Span) → is_word t ≡ false → spelled ok t s ≡ None
no_word ok (token.Word w) s h = absurd cc
no_word ok t s h = refl

just : {A : Type 0} (o : Out A) → and_then o (λ a us. Some (a, us)) ≡ o
just None = refl
just (Some p) = refl

module _ {F C K : Type 0} where
  pub put_elements_append : (xs ys : List (Option (Tree F C K))) (us : Trees F C K)
      → put_elements (xs ++ ys) us ≡ put_elements xs (put_elements ys us)
  put_elements_append [] ys us = refl
  put_elements_append (None ∷ xs) ys us = ap (put_element true hole_e) (put_elements_append xs ys us)
  put_elements_append (Some t ∷ xs) ys us = ap (cons t) (put_elements_append xs ys us)

  -- elements before those of a list
  abbrev left : List (Option (Tree F C K)) → Tree F C K × List TokenAndSpan → Out (Tree F C K)
  left before p = Some (listed None (span_of p.0) (put_elements before (items_of p.0)), p.1)

  left_more : (before : List (Option (Tree F C K))) (x : Option (Tree F C K)) (p : Tree F C K × List TokenAndSpan)
      → Some (listed None (span_of p.0) (put_elements before (put_elements (x ∷ []) (items_of p.0))), p.1)
      ≡ left (before ++ x ∷ []) p
  left_more before x p =
      ap (λ v. Some (listed None (span_of p.0) v, p.1)) (sym (put_elements_append before (x ∷ []) (items_of p.0)))

  -- a name that is bound
  pub plain_splits : (x : Scope) (ts : List TokenAndSpan) → plain_pat {F = F} {C = C} {K = K} x ts
      ≡ (word may_bind x ts >>= (λ p. Some (ident_e p.0.at p.0.text, p.1)))
  unfolding plain_pat
  plain_splits x ts = refl

  pub plain_no : (x : Scope) (ts : List TokenAndSpan) → at_token is_word (first ts) ≡ false
      → plain_pat {F = F} {C = C} {K = K} x ts ≡ None
  unfolding plain_pat word
  plain_no x [] h = refl
  plain_no x (t ∷ ts) h = rw (no_word (may_bind x.context) t.token t.span h) refl

  -- the tree of a list without a comma at the end
  abbrev Bare : Tree F C K → Type 0
  Bare t = t ≡ listed None (span_of t) (items_of t)

  bare_is : (t : Tree F C K) (us : List TokenAndSpan) (r : Tree F C K × List TokenAndSpan) → Some (t, us) ≡ Some r
      → Bare t → Bare r.0
  bare_is t us r e h = subst (λ v. Bare v.0) (inj (t, us) r e) h

  bare_then : {A : Type 0} (o : Out A) (f : A → List TokenAndSpan → Out (Tree F C K))
      (r : Tree F C K × List TokenAndSpan) → and_then o f ≡ Some r
      → ((p : A × List TokenAndSpan) → o ≡ Some p → f p.0 p.1 ≡ Some r → Bare r.0) → Bare r.0
  bare_then None f r e h = absurd cc
  bare_then (Some p) f r e h = h p refl e

  bare_first : (p es : Tree F C K) → Bare es → Bare (put_first p es)
  bare_first p es h = ap (λ v. listed v (span_of es) (cons p (items_of es))) (ap comma_of h)

  -- after a rest: the bracket alone
  abbrev closes_with : Tree F C K → List TokenAndSpan → Out (Tree F C K)
  closes_with p [] = None
  closes_with p (t ∷ ts) = if is_rbracket t.token then Some (listed None t.span (cons p nil), ts) else None

  bare_rest : (p : Tree F C K) (vs : List TokenAndSpan) (r : Tree F C K × List TokenAndSpan) → closes_with p vs ≡ Some r
      → Bare r.0
  bare_rest p [] r h = absurd cc
  bare_rest p (t ∷ vs) r h = bare_is (listed None t.span (cons p nil)) vs r (only (is_rbracket t.token) h).1 refl

module _ {F C K : Type 0} (hook : Hook F C K) where
  -- ---- patterns

  given_one : {A : Type 0} (o : Option A) (k : A → Tree F C K) (us : List TokenAndSpan)
      → exec hook (run hook) None (plan {F = F} {C = C} {K = K} (given o ▸ (λ n. gives (k n)))) us
      ≡ (one o us >>= (λ p. Some (k p.0, p.1)))
  given_one None k us = refl
  given_one (Some n) k us = refl

  pub pat_plain : (x : Scope) (ts : List TokenAndSpan) → pat_kind (first ts) ≡ kind.Plain
      → run hook (at Pat) x ts ≡ plain_pat x ts
  unfolding plain_pat word
  pat_plain x [] h = knot hook (at Pat) x []
  pat_plain x (t ∷ ts) h =
      let (a, b) = plain_kind (is_lbracket t.token) (is_brace t.token) h in
      knot hook (at Pat) x (t ∷ ts)
      ∙ rw (a, b) (given_one (binding x t.token t.span) (λ n. ident_e n.at n.text) ts)

  pub pat_array_picked : (x : Scope) (ts : List TokenAndSpan) → at_token is_lbracket (first ts) ≡ true
      → run hook (at Pat) x ts ≡ by_production hook (λ c. pat-array) x ts
  unfolding by_production reading
  pat_array_picked x [] h = absurd cc
  pat_array_picked x (t ∷ ts) h =
      run_picked hook Pat x (t ∷ ts) pat-array (pat x (t ∷ ts)) refl (rw (lbracket-is t.token h) refl)

  pub pat_array_opens : (t : TokenAndSpan) (x : Scope) (ts : List TokenAndSpan) → is_lbracket t.token ≡ true
      → by_production hook (λ c. pat-array) x (t ∷ ts) ≡ array_pat_tail hook t.span x ts
  unfolding by_production reading array_pat_tail
  pat_array_opens t x ts h = rw h (calls (run hook (at PatElements) x ts) _)

  pub array_pat_splits : (s : Span) (x : Scope) (ts : List TokenAndSpan)
      → array_pat_tail hook s x ts ≡ (run hook (at PatElements) x ts >>= (λ p. Some (array_from s p.0, p.1)))
  unfolding array_pat_tail
  array_pat_splits s x ts = refl

  pub pat_object_picked : (x : Scope) (ts : List TokenAndSpan) → at_token is_brace (first ts) ≡ true
      → run hook (at Pat) x ts ≡ by_production hook (λ c. pat-object) x ts
  unfolding by_production reading
  pat_object_picked x [] h = absurd cc
  pat_object_picked x (t ∷ ts) h =
      run_picked hook Pat x (t ∷ ts) pat-object (pat x (t ∷ ts)) refl (rw (brace-is t.token h) refl)

  pub pat_object_opens : (t : TokenAndSpan) (x : Scope) (ts : List TokenAndSpan) → is_brace t.token ≡ true
      → by_production hook (λ c. pat-object) x (t ∷ ts)
      ≡ (run hook (at PatProps) x ts >>= (λ p. Some (object_p (to t.span (span_of p.0)) (items_of p.0), p.1)))
  unfolding by_production reading
  pat_object_opens t x ts h = rw h (calls (run hook (at PatProps) x ts) _)

  -- ---- a pattern and its initialiser, or none

  defaults_by : (l : Tree F C K) (b : Bool) (x : Scope) (us : List TokenAndSpan) → at_token is_equals (first us) ≡ b
      → run hook (defaults l) x us ≡ (eaten_by b us >>= (λ q. default_by hook l q.0 x q.1))
  unfolding default_value inside
  defaults_by l true x [] h = absurd cc
  defaults_by l true x (t ∷ us) h =
      knot hook (defaults l) x (t ∷ us)
      ∙ rw (equals-is t.token h) (calls (run hook (at Assign) (with_in x) us) _)
  defaults_by l false x us h = knot hook (defaults l) x us ∙ rw h refl

  pub default_value_splits : (l : Tree F C K) (x : Scope) (ts : List TokenAndSpan) → default_value hook l x ts
      ≡ (inside hook x ts >>= (λ p. Some (default_p (to (span_of l) (span_of p.0)) l p.0, p.1)))
  unfolding default_value
  default_value_splits l x ts = refl

  pub element_splits : (x : Scope) (ts : List TokenAndSpan) → run hook (at Element) x ts
      ≡ (run hook (at Pat) x ts >>= (λ p. eaten is_equals x p.1 >>= (λ q. default_by hook p.0 q.0 x q.1)))
  unfolding eaten
  element_splits x ts =
      knot hook (at Element) x ts
      ∙ then_calls (run hook (at Pat) x ts) _
      (λ e us. eaten is_equals x us >>= (λ q. default_by hook e q.0 x q.1))
      (λ e us. last hook (Some 3) (defaults e) x us refl ∙ defaults_by e (at_token is_equals (first us)) x us refl)

  -- nothing is read at the end
  pat_none : (x : Scope) → run hook (at Pat) x [] ≡ None
  pat_none x = knot hook (at Pat) x []

  element_none : (x : Scope) → run hook (at Element) x [] ≡ None
  element_none x = element_splits x [] ∙ rw (pat_none x) refl

  elements_none : (x : Scope) → run hook (at PatElements) x [] ≡ None
  elements_none x = knot hook (at PatElements) x [] ∙ rw (element_none x) refl

  -- ---- the elements of an array pattern

  pub pat_elements_close : (x : Scope) (t : TokenAndSpan) (ts : List TokenAndSpan) → is_rbracket t.token ≡ true
      → run hook (at PatElements) x (t ∷ ts) ≡ Some (listed None t.span nil, ts)
  pat_elements_close x t ts h = knot hook (at PatElements) x (t ∷ ts) ∙ rw (rbracket-is t.token h) refl

  tail_token : (x : Scope) (v : Token) (b : Bool) (s : Span) (us : List TokenAndSpan)
      → run hook (at PatElementsTail) x (tk v b s ∷ us)
      ≡ (separated is_rbracket x (tk v b s ∷ us) >>= (λ q. run hook (at PatElements) x q.1))
  unfolding separated closed eaten
  tail_token x token.Comma b s us =
      knot hook (at PatElementsTail) x (tk token.Comma b s ∷ us) ∙ just (run hook (at PatElements) x us)
  tail_token x token.RBracket b s us =
      knot hook (at PatElementsTail) x (tk token.RBracket b s ∷ us)
      ∙ sym (pat_elements_close x (tk token.RBracket b s) us refl)
  tail_token x v b s us = knot hook (at PatElementsTail) x (tk v b s ∷ us)

  tail_is : (x : Scope) (us : List TokenAndSpan)
      → run hook (at PatElementsTail) x us ≡ (separated is_rbracket x us >>= (λ q. run hook (at PatElements) x q.1))
  unfolding separated closed eaten
  tail_is x [] = knot hook (at PatElementsTail) x []
  tail_is x (t ∷ us) = tail_token x t.token t.had_line_break t.span us

  rest_close : (p : Tree F C K) (vs : List TokenAndSpan) → exec hook (run hook) (Some 4)
      (take (λ t. check (is_rbracket t.token) (gives (listed None t.span (cons p nil))))) vs
      ≡ closes_with p vs
  rest_close p [] = refl
  rest_close p (t ∷ vs) = refl

  -- after a rest
  rest_token : (before : List (Option (Tree F C K))) (p : Tree F C K) (x : Scope) (v : Token) (b : Bool) (s : Span)
      (vs : List TokenAndSpan) → (closes_with p (tk v b s ∷ vs) >>= left before)
      ≡ behind_element hook true going (before ++ Some p ∷ []) x (tk v b s ∷ vs)
  unfolding behind_element separated_item elements_left separated closed eaten expected
  rest_token before p x token.RBracket b s vs =
      ap (λ u. Some (listed None s u, vs)) (sym (put_elements_append before (Some p ∷ []) nil))
  rest_token before p x v b s vs = refl

  rest_left : (before : List (Option (Tree F C K))) (p : Tree F C K) (x : Scope) (vs : List TokenAndSpan)
      → (closes_with p vs >>= left before) ≡ behind_element hook true going (before ++ Some p ∷ []) x vs
  unfolding behind_element separated_item elements_left separated closed eaten expected
  rest_left before p x [] = refl
  rest_left before p x (t ∷ vs) = rest_token before p x t.token t.had_line_break t.span vs

  rest_is : (x : Scope) (b : Bool) (s : Span) (us : List TokenAndSpan)
      → run hook (at Rest) x (tk token.DotDotDot b s ∷ us) ≡ item_read hook (Some s) x us
  rest_is x b s us = knot hook (at Rest) x (tk token.DotDotDot b s ∷ us) ∙ calls (run hook (at Pat) x us) _

  -- after an element that is no rest
  item_left : (before : List (Option (Tree F C K))) (p : Tree F C K) (x : Scope) (us : List TokenAndSpan)
      → (and_then (run hook (at PatElementsTail) x us) (λ es vs. Some (put_first p es, vs)) >>= left before)
      ≡ behind_element hook false going (before ++ Some p ∷ []) x us
  unfolding behind_element separated_item elements_left
  item_left before p x us =
      ap (λ o. o >>= left before) (calls (run hook (at PatElementsTail) x us) _)
      ∙ sym (binds (run hook (at PatElementsTail) x us) _ (left before))
      ∙ ap (λ o. o >>= (λ q. left before (put_first p q.0, q.1))) (tail_is x us)
      ∙ sym (binds (separated is_rbracket x us) _ _)
      ∙ bind_same (separated is_rbracket x us) _ _
      (λ q. bind_same (run hook (at PatElements) x q.1) _ _ (λ r. left_more before (Some p) r))
      ∙ binds (separated is_rbracket x us) (λ q. Some (behind_by false going q.0, q.1)) _

  turn_token : (before : List (Option (Tree F C K))) (x : Scope) (v : Token) (b : Bool) (s : Span)
      (us : List TokenAndSpan) → (run hook (at PatElements) x (tk v b s ∷ us) >>= left before)
      ≡ (next_element going x (tk v b s ∷ us) >>= (λ p. elements_with hook p.0 going before x p.1))
  unfolding next_element eaten expected elements_left
  turn_token before x token.Comma b s us =
      ap (λ o. o >>= left before)
      (knot hook (at PatElements) x (tk token.Comma b s ∷ us) ∙ calls (run hook (at PatElements) x us) _)
      ∙ sym (binds (run hook (at PatElements) x us) _ (left before))
      ∙ bind_same (run hook (at PatElements) x us) _ _ (λ p. left_more before None p)
  turn_token before x token.RBracket b s us =
      ap (λ o. o >>= left before) (pat_elements_close x (tk token.RBracket b s) us refl)
  turn_token before x token.DotDotDot b s us =
      ap (λ o. o >>= left before)
      (knot hook (at PatElements) x (tk token.DotDotDot b s ∷ us)
      ∙ then_calls (run hook (at Rest) x (tk token.DotDotDot b s ∷ us)) _ (λ p vs. closes_with p vs)
      (λ p vs. rest_close p vs))
      ∙ sym (binds (run hook (at Rest) x (tk token.DotDotDot b s ∷ us)) _ (left before))
      ∙ ap (λ o. o >>= (λ p. closes_with p.0 p.1 >>= left before)) (rest_is x b s us)
      ∙ bind_same (item_read hook (Some s) x us) _ _ (λ p. rest_left before p.0 x p.1)
  turn_token before x v b s us =
      ap (λ o. o >>= left before)
      (knot hook (at PatElements) x (tk v b s ∷ us) ∙ calls (run hook (at Element) x (tk v b s ∷ us)) _)
      ∙ sym (binds (run hook (at Element) x (tk v b s ∷ us)) _ (left before))
      ∙ bind_same (run hook (at Element) x (tk v b s ∷ us)) _ _ (λ p. item_left before p.0 x p.1)

  closing_by : (b : Bool) (before : List (Option (Tree F C K))) (x : Scope) (ts : List TokenAndSpan)
      → at_token is_rbracket (first ts) ≡ b
      → (expected is_rbracket x ts >>= (λ p. Some (listed None p.0 (put_elements before nil), p.1)))
      ≡ ((if b then ended closing x ts else element_head closing x ts)
      >>= (λ p. elements_with hook p.0 closing before x p.1))
  unfolding expected eaten
  closing_by true before x ts h = binds (expected is_rbracket x ts) (λ p. Some (next.End p.0, p.1)) _
  closing_by false before x ts h = rw h refl

  never_by : (b : Bool) (before : List (Option (Tree F C K))) (x : Scope) (ts : List TokenAndSpan)
      → None ≡ ((if b then ended never x ts else element_head never x ts)
      >>= (λ p. elements_with hook p.0 never before x p.1))
  never_by true before x ts = refl
  never_by false before x ts = refl

  -- after some elements the list is closed, or goes on
  pub elements_turn : (s : Stage) (before : List (Option (Tree F C K))) (x : Scope) (ts : List TokenAndSpan)
      → elements_left hook s before x ts ≡ (next_element s x ts >>= (λ p. elements_with hook p.0 s before x p.1))
  unfolding elements_left next_element
  elements_turn going before x [] = ap (λ o. o >>= left before) (elements_none x)
  elements_turn going before x (t ∷ ts) = turn_token before x t.token t.had_line_break t.span ts
  elements_turn closing before x ts = closing_by (at_token is_rbracket (first ts)) before x ts refl
  elements_turn never before x ts = never_by (at_token is_rbracket (first ts)) before x ts

  pub behind_element_splits : (is_rest : Bool) (s : Stage) (before : List (Option (Tree F C K))) (x : Scope)
      (ts : List TokenAndSpan) → behind_element hook is_rest s before x ts
      ≡ (separated_item is_rbracket is_rest s x ts >>= (λ p. elements_left hook p.0 before x p.1))
  unfolding behind_element
  behind_element_splits is_rest s before x ts = refl

  -- no comma is told of

  abbrev Shorter : ℕ → Type 0
  Shorter n = (x : Scope) (ts : List TokenAndSpan) (r : Tree F C K × List TokenAndSpan) → length ts ≤ n
      → run hook (at PatElements) x ts ≡ Some r → Bare r.0

  tail_bare : (n : ℕ) → Shorter n → (x : Scope) (v : Token) (b : Bool) (s : Span) (us : List TokenAndSpan)
      (r : Tree F C K × List TokenAndSpan) → length us ≤ n → run hook (at PatElementsTail) x (tk v b s ∷ us) ≡ Some r
      → Bare r.0
  tail_bare n shorter x token.Comma b s us r le h =
      shorter x us r le
      (sym (just (run hook (at PatElements) x us))
      ∙ sym (knot hook (at PatElementsTail) x (tk token.Comma b s ∷ us)) ∙ h)
  tail_bare n shorter x token.RBracket b s us r le h =
      bare_is (listed None s nil) us r (sym (knot hook (at PatElementsTail) x (tk token.RBracket b s ∷ us)) ∙ h) refl
  tail_bare n shorter x v b s us r le h =
      let e = sym (knot hook (at PatElementsTail) x (tk v b s ∷ us)) ∙ h in absurd cc

  tail_all : (n : ℕ) → Shorter n → (x : Scope) (us : List TokenAndSpan) (r : Tree F C K × List TokenAndSpan)
      → length us ≤ suc n → run hook (at PatElementsTail) x us ≡ Some r → Bare r.0
  tail_all n shorter x [] r le h = let e = sym (knot hook (at PatElementsTail) x []) ∙ h in absurd cc
  tail_all n shorter x (t ∷ us) r le h = tail_bare n shorter x t.token t.had_line_break t.span us r (omega arith) h

  bare_token : (n : ℕ) → Shorter n → (x : Scope) (v : Token) (b : Bool) (s : Span) (us : List TokenAndSpan)
      (r : Tree F C K × List TokenAndSpan) → length us ≤ n → run hook (at PatElements) x (tk v b s ∷ us) ≡ Some r
      → Bare r.0
  bare_token n shorter x token.Comma b s us r le h =
      bare_then (run hook (at PatElements) x us) _ r (sym (knot hook (at PatElements) x (tk token.Comma b s ∷ us)) ∙ h)
      (λ p e k. bare_is _ p.1 r k refl)
  bare_token n shorter x token.RBracket b s us r le h =
      bare_is (listed None s nil) us r (sym (knot hook (at PatElements) x (tk token.RBracket b s ∷ us)) ∙ h) refl
  bare_token n shorter x token.DotDotDot b s us r le h =
      bare_then (run hook (at Rest) x (tk token.DotDotDot b s ∷ us)) _ r
      (sym (knot hook (at PatElements) x (tk token.DotDotDot b s ∷ us)) ∙ h)
      (λ p e k. bare_rest p.0 p.1 r (sym (rest_close p.0 p.1) ∙ k))
  bare_token n shorter x v b s us r le h =
      bare_then (run hook (at Element) x (tk v b s ∷ us)) _ r (sym (knot hook (at PatElements) x (tk v b s ∷ us)) ∙ h)
      (λ p e k.
      let l = run-less hook (at Element) x (tk v b s ∷ us) p e in
      bare_then (run hook (at PatElementsTail) x p.1) _ r k
      (λ q f m. bare_is (put_first p.0 q.0) q.1 r m
      (bare_first p.0 q.0 (tail_all n shorter x p.1 q (omega arith) f))))

  bare_all : (n : ℕ) → Shorter n
  bare_all n x [] r le h = let e = sym (elements_none x) ∙ h in absurd cc
  bare_all zero x (t ∷ ts) r le h = absurd (omega arith)
  bare_all (suc n) x (t ∷ ts) r le h = bare_token n (bare_all n) x t.token t.had_line_break t.span ts r (omega arith) h

  first_by : (o : Out (Tree F C K)) → ((r : Tree F C K × List TokenAndSpan) → o ≡ Some r → Bare r.0)
      → o ≡ (o >>= left [])
  first_by None h = refl
  first_by (Some p) h = ap (λ v. Some (v, p.1)) (h p refl)

  -- before the first element
  pub elements_first : (x : Scope) (ts : List TokenAndSpan)
      → run hook (at PatElements) x ts ≡ elements_left hook going [] x ts
  unfolding elements_left
  elements_first x ts = first_by (run hook (at PatElements) x ts) (λ r h. bare_all (length ts) x ts r (omega arith) h)
