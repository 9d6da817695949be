-- The clean parser's steps in object patterns (14.3.3), as the code takes them.
use Rattle.std.specs.Prelude.{◌≡◌, ℕ, Bool, true, false, not, if◌then◌else◌, List, [], ◌∷◌, Option, Some, None, Result, Ok, Err, IfOk}
use Rattle.std.proofs.Common.{refl, sym, ap, ◌∙◌}
use Rattle.swc_context.specs.{Reserved.is_reserved_word, declared.error.Error.Error, Words.word_text, declared.operator.AssignOp.AssignOp as assign, declared.span.BytePos.BytePos, declared.span.Span.Span, declared.word.Word.Word}
use Rattle.swc_input.specs.{declared.token.Token.Token, declared.token.Token.Token as token, declared.token.TokenAndSpan.TokenAndSpan, Kinds.at_token}
use Rattle.swc_ast.specs.Tree.{Tree, Trees, nil, cons, span_of}
use Rattle.swc_ast.specs.Trees.{to, ident_e, hole_e, name_e, computed_e, str_e, num_e, big_e, key_value_e, listed, put_first, trees_append, items_of, comma_of}
use Rattle.swc_ast.specs.{Patterns.name_p, Patterns.holds_ident, Parts.prop_name_tree, declared.ident.IdentName.IdentName, declared.prop.PropName.PropName, declared.prop.PropName.PropName as name}
use Rattle.swc_bodies.specs.Readings.{Hook}
use Rattle.swc_grammar.specs.Rule.{gives, symbol, token as token_of, ◌>>=◌ as ◌▸◌, ◌>>◌}
use Rattle.swc_grammar.specs.Symbols.{Assign, Pat, Element, Rest, Key, PatProps, PatPropsTail, PatProp}
use Rattle.swc_grammar.specs.Tokens.{tk, is_word, is_rbracket, is_rbrace, is_dots, is_colon, is_equals, with_in}
use Rattle.swc_grammar.specs.Clean.{Out, and_then, first, sym as at, exec, plan, run}
use Rattle.swc_grammar.specs.{Scope.Scope, Words.◌>>=◌}
use Rattle.swc_grammar.proofs.{Knot.knot, Only.rbrace-is}
use Rattle.swc_nodes.specs.declared.node.ExprId.{ExprId}
use Rattle.swc_nodes.proofs.Lists.{trees_append-nil}
use Rattle.swc_steps.specs.Keys.{expected, expected_by, plain_key, computed_key}
use Rattle.swc_steps.specs.Lists.{eaten, eaten_by, closed, separated, put_before}
use Rattle.swc_steps.specs.Readers.{inside}
use Rattle.swc_steps.proofs.Keys.{bind_none, then_calls, key_splits}
use Rattle.swc_steps.proofs.Steps.{not_true, not_false}
use Rattle.swc_steps.proofs.Lists.{calls, binds, bind_same, twice}
use Rattle.swc_patterns.specs.declared.object.AfterPatKey.{AfterPatKey as after, AfterPatKey}
use Rattle.swc_patterns.specs.Objects.{after_pat_key, after_name, after_by, no_colon, name_by, bound, pat_prop_left, pat_prop_by, pat_prop_item, is_rest, props_stage, rests_checked, object_pat_of, object_pat_from, props_by, pat_props_left, pat_prop_more, pat_props_with, is_value, key_or}
use Rattle.swc_patterns.specs.Rests.{Stage, going, closing, never, is_never, behind_rest, rest_node}
use Rattle.swc_patterns.proofs.Closing.{closing_by, rest_closes}

-- ---- after a key

pub after_pat_key_splits : (k : PropName ExprId) (x : Scope) (ts : List TokenAndSpan)
    → after_pat_key k x ts ≡ (eaten is_colon x ts >>= (λ p. after_by k p.0 x p.1))
unfolding after_pat_key
after_pat_key_splits k x ts = refl

pub no_colon_name : (k : PropName ExprId) (n : IdentName) → k ≡ name.Ident n → (x : Scope) (ts : List TokenAndSpan)
    → after_by k None x ts ≡ after_name n x ts
no_colon_name k n is x ts = ap (λ v. no_colon v x ts) is

pub no_colon_other : (k : PropName ExprId) → ((n : IdentName) → k ≡ name.Ident n → ⊥) → (x : Scope)
    (ts : List TokenAndSpan) → after_by k None x ts ≡ None
no_colon_other (name.Ident n) h x ts = absurd (h n refl)
no_colon_other k h x ts = refl

-- where nothing but a name is handed on, no key is
bare_key : (k : PropName ExprId) (a : AfterPatKey) → is_value a ≡ false → key_or k a ≡ k
bare_key k (after.Value n) h = absurd cc
bare_key k a h = refl

pub bare_keeps : (k : PropName ExprId) (r : Result AfterPatKey Error) → IfOk r (λ a. is_value a ≡ false)
    → IfOk r (λ a. key_or k a ≡ k)
bare_keeps k (Ok a) h = bare_key k a h
bare_keeps k (Err e) h = tt

pub after_name_splits : (n : IdentName) (x : Scope) (ts : List TokenAndSpan)
    → after_name n x ts ≡ (eaten is_equals x ts >>= (λ p. name_by n p.0 x p.1))
unfolding after_name
after_name_splits n x ts = refl

pub name_well : (n : IdentName) (x : Scope) (ts : List TokenAndSpan) → not (is_reserved_word x.context n.sym) ≡ true
    → name_by n None x ts ≡ Some (after.Name (bound n), ts)
name_well n x ts h = rw (not_true (is_reserved_word x.context n.sym) h) refl

pub name_ill : (n : IdentName) (x : Scope) (ts : List TokenAndSpan) → not (is_reserved_word x.context n.sym) ≡ false
    → name_by n None x ts ≡ None
name_ill n x ts h = rw (not_false (is_reserved_word x.context n.sym) h) refl

module _ {F C K : Type 0} where
  -- a name with no colon after it: `=`, or nothing, where the name isn't reserved
  abbrev pub name_left : Hook F C K → Span → List ℕ → Option Span → Scope → List TokenAndSpan → Out (Tree F C K)
  name_left hook s text (Some e) x us =
      inside hook x us >>= (λ p. Some (name_p (to s (span_of p.0)) (ident_e s text) p.0, p.1))
  name_left hook s text None x us =
      if is_reserved_word x.context text then None else Some (name_p s (ident_e s text) hole_e, us)

  abbrev pub no_colon_left : Hook F C K → Tree F C K → Scope → List TokenAndSpan → Out (Tree F C K)
  no_colon_left hook (name_e s text) x us = eaten is_equals x us >>= (λ p. name_left hook s text p.0 x p.1)
  no_colon_left hook k x us = None

  -- what is left of a property after its key
  abbrev pub key_left_by : Hook F C K → Tree F C K → Option Span → Scope → List TokenAndSpan → Out (Tree F C K)
  key_left_by hook k (Some s) x us =
      run hook (at Element) x us >>= (λ p. Some (key_value_e (to (span_of k) (span_of p.0)) k p.0, p.1))
  key_left_by hook k None x us = no_colon_left hook k x us

unfoldable pub key_left : {F C K : Type 0} → Hook F C K → Tree F C K → Scope → List TokenAndSpan → Out (Tree F C K)
key_left hook k x us = eaten is_colon x us >>= (λ p. key_left_by hook k p.0 x p.1)

-- whether a tree is a name that is a key
abbrev is_name : {F C K : Type 0} → Tree F C K → Bool
is_name (name_e s text) = true
is_name k = false

-- a property that is no rest
abbrev only_prop : {F C K : Type 0} → Tree F C K × List TokenAndSpan → Out (Tree F C K)
only_prop p = if is_rest p.0 then None else Some p

-- an answer, and the tokens left
abbrev pub answer : {A : Type 0} → A → List TokenAndSpan → Out A
answer a us = Some (a, us)

pub again : {A : Type 0} (o : Out A) → and_then o (λ e us. Some (e, us)) ≡ o
again None = refl
again (Some p) = refl

module _ {F C K : Type 0} (hook : Hook F C K) where
  -- ---- after a key

  name_by_is : (n : IdentName) (k : Tree F C K) (o : Option Span) (x : Scope) (us : List TokenAndSpan)
      → name_left hook n.span n.sym o x us ≡ (name_by n o x us >>= (λ p. pat_prop_left hook k p.0 x p.1))
  name_by_is n k (Some s) x us = refl
  name_by_is n k None x us = by_reserved (is_reserved_word x.context n.sym)
    where
      by_reserved : (r : Bool) → (if r then None else answer (name_p n.span (ident_e n.span n.sym) hole_e) us)
          ≡ ((if r then None else answer (after.Name (bound n)) us) >>= (λ p. pat_prop_left hook k p.0 x p.1))
      by_reserved true = refl
      by_reserved false = refl

  no_colon_is : (to_tree : ExprId → Tree F C K) (k : PropName ExprId) (x : Scope) (us : List TokenAndSpan)
      → no_colon_left hook (prop_name_tree to_tree k) x us
      ≡ (no_colon k x us >>= (λ p. pat_prop_left hook (prop_name_tree to_tree k) p.0 x p.1))
  unfolding after_name
  no_colon_is to_tree (name.Ident n) x us =
      bind_same (eaten is_equals x us) _ _ (λ p. name_by_is n (prop_name_tree to_tree (name.Ident n)) p.0 x p.1)
      ∙ binds (eaten is_equals x us) _ _
  no_colon_is to_tree k x us = refl

  after_by_is : (to_tree : ExprId → Tree F C K) (k : PropName ExprId) (o : Option Span) (x : Scope)
      (us : List TokenAndSpan) → key_left_by hook (prop_name_tree to_tree k) o x us
      ≡ (after_by k o x us >>= (λ p. pat_prop_left hook (prop_name_tree to_tree k) p.0 x p.1))
  after_by_is to_tree k (Some s) x us = refl
  after_by_is to_tree k None x us = no_colon_is to_tree k x us

  -- of a key that the code has, whose tree is to_tree's
  pub key_left_splits : (to_tree : ExprId → Tree F C K) (k : PropName ExprId) (x : Scope) (us : List TokenAndSpan)
      → key_left hook (prop_name_tree to_tree k) x us
      ≡ (after_pat_key k x us >>= (λ p. pat_prop_left hook (prop_name_tree to_tree k) p.0 x p.1))
  unfolding key_left after_pat_key
  key_left_splits to_tree k x us =
      bind_same (eaten is_colon x us) _ _ (λ p. after_by_is to_tree k p.0 x p.1) ∙ binds (eaten is_colon x us) _ _

  -- ---- a property

  -- a key and a colon
  abbrev value_left : Tree F C K → Scope → List TokenAndSpan → Out (Tree F C K)
  value_left k x us =
      expected is_colon x us
      >>= (λ q. run hook (at Element) x q.1 >>= (λ p. Some (key_value_e (to (span_of k) (span_of p.0)) k p.0, p.1)))

  value_run : (k : Tree F C K) (x : Scope) (us : List TokenAndSpan)
      → exec hook (run hook) (Some 4) (plan (token_of is_colon >> (symbol Element x ▸
      (λ p. gives (key_value_e (to (span_of k) (span_of p)) k p))))) us
      ≡ value_left k x us
  unfolding expected eaten
  value_run k x [] = refl
  value_run k x (u ∷ us) = by_colon (is_colon u.token)
    where
      by_colon : (b : Bool) → (if b then and_then (run hook (at Element) x us)
          (λ p vs. Some (key_value_e (to (span_of k) (span_of p)) k p, vs)) else None)
          ≡ (eaten_by b (u ∷ us) >>= (λ p. expected_by p.0 p.1)
          >>= (λ q. run hook (at Element) x q.1
          >>= (λ p. Some (key_value_e (to (span_of k) (span_of p.0)) k p.0, p.1))))
      by_colon true = calls (run hook (at Element) x us) _
      by_colon false = refl

  no_colon_none : (k : Tree F C K) → is_name k ≡ false → (x : Scope) (us : List TokenAndSpan)
      → None ≡ no_colon_left hook k x us
  no_colon_none (name_e s text) h x us = absurd cc
  no_colon_none k h x us = refl

  value_only : (k : Tree F C K) → is_name k ≡ false → (x : Scope) (us : List TokenAndSpan)
      → value_left k x us ≡ key_left hook k x us
  unfolding key_left expected
  value_only k h x us =
      sym (binds (eaten is_colon x us) _ _) ∙ bind_same (eaten is_colon x us) _ _ (λ p. by_sign p.0 p.1)
    where
      by_sign : (o : Option Span) (vs : List TokenAndSpan) → (expected_by o vs >>= (λ q. run hook (at Element) x q.1
          >>= (λ p. Some (key_value_e (to (span_of k) (span_of p.0)) k p.0, p.1))))
          ≡ key_left_by hook k o x vs
      by_sign (Some s) vs = refl
      by_sign None vs = no_colon_none k h x vs

  -- no key that begins with another token than a word is a name
  key_only : (x : Scope) (v : Token) (b : Bool) (s : Span) (us : List TokenAndSpan) → is_word v ≡ false
      → (run hook (at Key) x (tk v b s ∷ us) >>= (λ p. value_left p.0 x p.1))
      ≡ (run hook (at Key) x (tk v b s ∷ us) >>= (λ p. key_left hook p.0 x p.1))
  unfolding eaten plain_key computed_key
  key_only x token.LBracket b s us h =
      let is = key_splits hook x (tk token.LBracket b s ∷ us) in
      ap (λ o. o >>= (λ p. value_left p.0 x p.1)) is
      ∙ sym (binds (inside hook x us) _ _)
      ∙ bind_same (inside hook x us) _ _ (λ p.
      sym (binds (expected is_rbracket x p.1) _ _)
      ∙ bind_same (expected is_rbracket x p.1) _ _ (λ q. value_only (computed_e (to s q.0) p.0) refl x q.1)
      ∙ binds (expected is_rbracket x p.1) _ _)
      ∙ binds (inside hook x us) _ _
      ∙ ap (λ o. o >>= (λ p. key_left hook p.0 x p.1)) (sym is)
  key_only x (token.Str value raw) b s us h =
      let is = key_splits hook x (tk (token.Str value raw) b s ∷ us) in
      ap (λ o. o >>= (λ p. value_left p.0 x p.1)) is ∙ value_only (str_e s value raw) refl x us
      ∙ ap (λ o. o >>= (λ p. key_left hook p.0 x p.1)) (sym is)
  key_only x (token.Num raw) b s us h =
      let is = key_splits hook x (tk (token.Num raw) b s ∷ us) in
      ap (λ o. o >>= (λ p. value_left p.0 x p.1)) is ∙ value_only (num_e s raw) refl x us
      ∙ ap (λ o. o >>= (λ p. key_left hook p.0 x p.1)) (sym is)
  key_only x (token.BigInt raw) b s us h =
      let is = key_splits hook x (tk (token.BigInt raw) b s ∷ us) in
      ap (λ o. o >>= (λ p. value_left p.0 x p.1)) is ∙ value_only (big_e s raw) refl x us
      ∙ ap (λ o. o >>= (λ p. key_left hook p.0 x p.1)) (sym is)
  key_only x (token.Word w) b s us h = absurd cc
  key_only x v b s us h =
      let is = key_splits hook x (tk v b s ∷ us) in
      ap (λ o. o >>= (λ p. value_left p.0 x p.1)) is ∙ ap (λ o. o >>= (λ p. key_left hook p.0 x p.1)) (sym is)

  key_word : (x : Scope) (w : Word) (b : Bool) (s : Span) (us : List TokenAndSpan)
      → run hook (at Key) x (tk (token.Word w) b s ∷ us) ≡ Some (name_e s (word_text w), us)
  key_word x w b s us = knot hook (at Key) x (tk (token.Word w) b s ∷ us)

  short_by : (r : Bool) (s : Span) (text : List ℕ) (us : List TokenAndSpan)
      → (if not r then answer (name_p {F = F} {C = C} {K = K} s (ident_e s text) hole_e) us else None)
      ≡ (if r then None else answer (name_p s (ident_e s text) hole_e) us)
  short_by true s text us = refl
  short_by false s text us = refl

  value_colon : (k : Tree F C K) (x : Scope) (d : Bool) (e : Span) (vs : List TokenAndSpan)
      → value_left k x (tk token.Colon d e ∷ vs)
      ≡ (run hook (at Element) x vs >>= (λ p. Some (key_value_e (to (span_of k) (span_of p.0)) k p.0, p.1)))
  unfolding expected eaten
  value_colon k x d e vs = refl

  -- a word, by the token after it
  word_first : (x : Scope) (w : Word) (b : Bool) (s : Span) (v : Token) (d : Bool) (e : Span) (vs : List TokenAndSpan)
      → run hook (at PatProp) x (tk (token.Word w) b s ∷ tk v d e ∷ vs)
      ≡ key_left hook (name_e s (word_text w)) x (tk v d e ∷ vs)
  unfolding key_left eaten inside
  word_first x w b s token.Colon d e vs =
      knot hook (at PatProp) x (tk (token.Word w) b s ∷ tk token.Colon d e ∷ vs)
      ∙ then_calls (run hook (at Key) x (tk (token.Word w) b s ∷ tk token.Colon d e ∷ vs)) _
      (λ k us. value_left k x us) (λ k us. value_run k x us)
      ∙ ap (λ o. o >>= (λ p. value_left p.0 x p.1)) (key_word x w b s (tk token.Colon d e ∷ vs))
      ∙ value_colon (name_e s (word_text w)) x d e vs
  word_first x w b s (token.AssignOp assign.Assign) d e vs =
      knot hook (at PatProp) x (tk (token.Word w) b s ∷ tk (token.AssignOp assign.Assign) d e ∷ vs)
      ∙ calls (run hook (at Assign) (with_in x) vs) _
  word_first x w b s v d e vs =
      knot hook (at PatProp) x (tk (token.Word w) b s ∷ tk v d e ∷ vs)
      ∙ short_by (is_reserved_word x.context (word_text w)) s (word_text w) (tk v d e ∷ vs)

  word_splits : (x : Scope) (w : Word) (b : Bool) (s : Span) (us : List TokenAndSpan)
      → run hook (at PatProp) x (tk (token.Word w) b s ∷ us) ≡ key_left hook (name_e s (word_text w)) x us
  unfolding key_left eaten
  word_splits x w b s [] =
      knot hook (at PatProp) x (tk (token.Word w) b s ∷ [])
      ∙ short_by (is_reserved_word x.context (word_text w)) s (word_text w) []
  word_splits x w b s (u ∷ us) = word_first x w b s u.token u.had_line_break u.span us

  prop_token : (x : Scope) (v : Token) (b : Bool) (s : Span) (us : List TokenAndSpan)
      → run hook (at PatProp) x (tk v b s ∷ us)
      ≡ (run hook (at Key) x (tk v b s ∷ us) >>= (λ p. key_left hook p.0 x p.1))
  prop_token x (token.Word w) b s us =
      word_splits x w b s us ∙ ap (λ o. o >>= (λ p. key_left hook p.0 x p.1)) (sym (key_word x w b s us))
  prop_token x v b s us =
      knot hook (at PatProp) x (tk v b s ∷ us)
      ∙ then_calls (run hook (at Key) x (tk v b s ∷ us)) _ (λ k vs. value_left k x vs) (λ k vs. value_run k x vs)
      ∙ key_only x v b s us refl

  -- a key, and what is left after it
  pub pat_prop_splits : (x : Scope) (ts : List TokenAndSpan)
      → run hook (at PatProp) x ts ≡ (run hook (at Key) x ts >>= (λ p. key_left hook p.0 x p.1))
  pat_prop_splits x [] =
      let none = knot hook (at Key) x [] in
      knot hook (at PatProp) x []
      ∙ ap (λ o. and_then o (λ k us. exec hook (run hook) (Some 4) (plan (token_of is_colon >> (symbol Element x ▸
      (λ p. gives (key_value_e (to (span_of k) (span_of p)) k p))))) us)) none
      ∙ ap (λ o. o >>= (λ p. key_left hook p.0 x p.1)) (sym none)
  pat_prop_splits x (t ∷ ts) = prop_token x t.token t.had_line_break t.span ts

  pub pat_prop_item_splits : (x : Scope) (ts : List TokenAndSpan)
      → pat_prop_item hook x ts ≡ (eaten is_dots x ts >>= (λ p. pat_prop_by hook p.0 x p.1))
  unfolding pat_prop_item
  pat_prop_item_splits x ts = refl

-- ---- rests among properties

-- after items of a stage, where one more is, which gives another by itself
abbrev pub stage_with : Stage → Stage → Stage
stage_with going s = s
stage_with s r = never

one_more : (r i : Bool) (comma : Option Span) (s : Stage)
    → (if r then never else s) ≡ stage_with (if r then (if i then behind_rest comma else never) else going) s
one_more true true None s = refl
one_more true true (Some c) s = refl
one_more true false comma s = refl
one_more false i comma s = refl

go_on : (r : Bool) (a b s : Stage) → b ≡ stage_with a s
    → (if r then never else b) ≡ stage_with (if r then never else a) s
go_on true a b s h = refl
go_on false a b s h = h

module _ {F C K : Type 0} where
  pub stage_more : (before : Trees F C K) (comma : Option Span) (t : Tree F C K) (q : Option Span)
      → props_stage (trees_append before (cons t nil)) q
      ≡ stage_with (props_stage before comma) (props_stage (cons t nil) q)
  stage_more nil comma t q = refl
  stage_more (cons u nil) comma t q = one_more (is_rest u) (holds_ident u) comma (props_stage (cons t nil) q)
  stage_more (cons u (cons v us)) comma t q =
      go_on (is_rest u) (props_stage (cons v us) comma) (props_stage (trees_append (cons v us) (cons t nil)) q)
      (props_stage (cons t nil) q) (stage_more (cons v us) comma t q)

  -- after a property, and after a rest, where none is before it
  prop_stage : (before : Trees F C K) (comma : Option Span) → props_stage before comma ≡ going → (t : Tree F C K)
      → is_rest t ≡ false → (q : Option Span) → props_stage (trees_append before (cons t nil)) q ≡ going
  prop_stage before comma h t one q =
      stage_more before comma t q ∙ ap (λ v. stage_with v (props_stage (cons t nil) q)) h ∙ rw one refl

  rest_stage : (before : Trees F C K) (comma : Option Span) → props_stage before comma ≡ going → (s : Span)
      (t : Tree F C K) (q : Option Span)
      → props_stage (trees_append before (cons (rest_node s t) nil)) q ≡ props_stage (cons (rest_node s t) nil) q
  rest_stage before comma h s t q =
      stage_more before comma (rest_node s t) q ∙ ap (λ v. stage_with v (props_stage (cons (rest_node s t) nil) q)) h

module _ {F C K : Type 0} (hook : Hook F C K) where
  -- a property is no rest
  left_only : (k : Tree F C K) (x : Scope) (us : List TokenAndSpan)
      → (key_left hook k x us >>= only_prop) ≡ key_left hook k x us
  unfolding key_left
  left_only k x us =
      sym (binds (eaten is_colon x us) _ _) ∙ bind_same (eaten is_colon x us) _ _ (λ p. by_sign k p.0 p.1)
    where
      by_reserved : (r : Bool) (s : Span) (text : List ℕ) (vs : List TokenAndSpan)
          → ((if r then None else answer (name_p {F = F} {C = C} {K = K} s (ident_e s text) hole_e) vs) >>= only_prop)
          ≡ (if r then None else answer (name_p s (ident_e s text) hole_e) vs)
      by_reserved true s text vs = refl
      by_reserved false s text vs = refl

      by_equals : (s : Span) (text : List ℕ) (o : Option Span) (vs : List TokenAndSpan)
          → (name_left hook s text o x vs >>= only_prop) ≡ name_left hook s text o x vs
      by_equals s text (Some e) vs = sym (binds (inside hook x vs) _ _)
      by_equals s text None vs = by_reserved (is_reserved_word x.context text) s text vs

      by_sign : (k : Tree F C K) (o : Option Span) (vs : List TokenAndSpan)
          → (key_left_by hook k o x vs >>= only_prop) ≡ key_left_by hook k o x vs
      by_sign k (Some s) vs = sym (binds (run hook (at Element) x vs) _ _)
      by_sign (name_e s text) None vs =
          sym (binds (eaten is_equals x vs) _ _) ∙ bind_same (eaten is_equals x vs) _ _ (λ p. by_equals s text p.0 p.1)
      by_sign k None vs = refl

  prop_only : (x : Scope) (ts : List TokenAndSpan)
      → (run hook (at PatProp) x ts >>= only_prop) ≡ run hook (at PatProp) x ts
  prop_only x ts =
      ap (λ o. o >>= only_prop) (pat_prop_splits hook x ts)
      ∙ sym (binds (run hook (at Key) x ts) _ _)
      ∙ bind_same (run hook (at Key) x ts) _ _ (λ p. left_only p.0 x p.1)
      ∙ sym (pat_prop_splits hook x ts)

  -- what is read after a property may take it for no rest
  behind_prop : {A : Type 0} (x : Scope) (ts : List TokenAndSpan) (f g : Tree F C K × List TokenAndSpan → Out A)
      → ((p : Tree F C K × List TokenAndSpan) → is_rest p.0 ≡ false → f p ≡ g p)
      → (run hook (at PatProp) x ts >>= f) ≡ (run hook (at PatProp) x ts >>= g)
  behind_prop x ts f g h =
      ap (λ o. o >>= f) (sym (prop_only x ts))
      ∙ sym (binds (run hook (at PatProp) x ts) only_prop f)
      ∙ bind_same (run hook (at PatProp) x ts) _ _ (λ p. by_rest (is_rest p.0) p refl)
      ∙ binds (run hook (at PatProp) x ts) only_prop g
      ∙ ap (λ o. o >>= g) (prop_only x ts)
    where
      by_rest : (b : Bool) (p : Tree F C K × List TokenAndSpan) → is_rest p.0 ≡ b
          → ((if b then None else Some p) >>= f) ≡ ((if b then None else Some p) >>= g)
      by_rest true p e = refl
      by_rest false p e = h p e

  -- ---- the list

  abbrev with_items : Trees F C K → Tree F C K × List TokenAndSpan → Out (Tree F C K)
  with_items before p = Some (put_before before p.0, p.1)

  props_close : (x : Scope) (t : TokenAndSpan) (ts : List TokenAndSpan) → is_rbrace t.token ≡ true
      → run hook (at PatProps) x (t ∷ ts) ≡ Some (listed None t.span nil, ts)
  props_close x t ts h = knot hook (at PatProps) x (t ∷ ts) ∙ rw (rbrace-is t.token h) refl

  tail_token : (x : Scope) (v : Token) (b : Bool) (s : Span) (us : List TokenAndSpan)
      → run hook (at PatPropsTail) x (tk v b s ∷ us)
      ≡ (separated is_rbrace x (tk v b s ∷ us) >>= (λ q. run hook (at PatProps) x q.1))
  unfolding separated closed eaten
  tail_token x token.Comma b s us =
      knot hook (at PatPropsTail) x (tk token.Comma b s ∷ us) ∙ again (run hook (at PatProps) x us)
  tail_token x token.RBrace b s us =
      knot hook (at PatPropsTail) x (tk token.RBrace b s ∷ us)
      ∙ sym (props_close x (tk token.RBrace b s) us refl)
  tail_token x v b s us = knot hook (at PatPropsTail) x (tk v b s ∷ us)

  tail_is : (x : Scope) (us : List TokenAndSpan)
      → run hook (at PatPropsTail) x us ≡ (separated is_rbrace x us >>= (λ q. run hook (at PatProps) x q.1))
  unfolding separated closed eaten
  tail_is x [] = knot hook (at PatPropsTail) x []
  tail_is x (t ∷ us) = tail_token x t.token t.had_line_break t.span us

  -- after an item that was read: those that are left
  abbrev left_from : Trees F C K → Scope → Tree F C K × List TokenAndSpan → Out (Tree F C K)
  left_from before x p =
      separated is_rbrace x p.1 >>= (λ q. pat_props_left hook (trees_append before (cons p.0 nil)) q.0 x q.1)

  -- the same, where the item is no rest, and none is before it
  prop_left : (before : Trees F C K) (comma : Option Span) → props_stage before comma ≡ going
      → (x : Scope) (p : Tree F C K × List TokenAndSpan) → is_rest p.0 ≡ false
      → (run hook (at PatPropsTail) x p.1 >>= (λ q. with_items before (put_first p.0 q.0, q.1))) ≡ left_from before x p
  unfolding pat_props_left
  prop_left before comma h x p one =
      ap (λ o. o >>= (λ q. with_items before (put_first p.0 q.0, q.1))) (tail_is x p.1)
      ∙ sym (binds (separated is_rbrace x p.1) _ _)
      ∙ bind_same (separated is_rbrace x p.1) _ _ (λ q.
      bind_same (run hook (at PatProps) x q.1) _ _ (λ r. ap (λ v. Some (v, r.1)) (twice before None p.0 r.0))
      ∙ ap (λ s. props_by hook s (trees_append before (cons p.0 nil)) x q.1)
      (sym (prop_stage before comma h p.0 one q.0)))

  more_step : (before : Trees F C K) (comma : Option Span) → props_stage before comma ≡ going
      → (x : Scope) (ts : List TokenAndSpan)
      → (and_then (run hook (at PatProp) x ts) (λ e us. and_then (run hook (at PatPropsTail) x us)
      (λ es vs. Some (put_first e es, vs))) >>= with_items before)
      ≡ (run hook (at PatProp) x ts >>= left_from before x)
  more_step before comma h x ts =
      ap (λ o. o >>= with_items before) (then_calls (run hook (at PatProp) x ts) _
      (λ e us. run hook (at PatPropsTail) x us >>= (λ q. Some (put_first e q.0, q.1)))
      (λ e us. calls (run hook (at PatPropsTail) x us) _))
      ∙ sym (binds (run hook (at PatProp) x ts) _ _)
      ∙ behind_prop x ts _ _ (λ p one.
      sym (binds (run hook (at PatPropsTail) x p.1) _ _) ∙ prop_left before comma h x p one)

  -- a rest, which has to be the last
  abbrev rest_last : Span → Scope → Tree F C K × List TokenAndSpan → Out (Tree F C K)
  rest_last s x p =
      if holds_ident (rest_node s p.0) then
      (expected is_rbrace x p.1 >>= (λ q. Some (listed None q.0 (cons (rest_node s p.0) nil), q.1))) else None

  brace_run : (t : Tree F C K) (x : Scope) (us : List TokenAndSpan)
      → exec hook (run hook) (Some 5) (plan (token_of is_rbrace ▸ (λ s. gives (listed None s (cons t nil))))) us
      ≡ (expected is_rbrace x us >>= (λ q. Some (listed None q.0 (cons t nil), q.1)))
  unfolding expected eaten
  brace_run t x [] = refl
  brace_run t x (u ∷ us) = by_brace (is_rbrace u.token)
    where
      by_brace : (b : Bool) → (if b then answer (listed None u.span (cons t nil)) us else None)
          ≡ (eaten_by b (u ∷ us) >>= (λ p. expected_by p.0 p.1) >>= (λ q. Some (listed None q.0 (cons t nil), q.1)))
      by_brace true = refl
      by_brace false = refl

  rest_read : (x : Scope) (b : Bool) (s : Span) (us : List TokenAndSpan)
      → run hook (at Rest) x (tk token.DotDotDot b s ∷ us)
      ≡ (run hook (at Pat) x us >>= (λ p. Some (rest_node s p.0, p.1)))
  rest_read x b s us = knot hook (at Rest) x (tk token.DotDotDot b s ∷ us) ∙ calls (run hook (at Pat) x us) _

  props_rest : (x : Scope) (b : Bool) (s : Span) (us : List TokenAndSpan)
      → run hook (at PatProps) x (tk token.DotDotDot b s ∷ us) ≡ (run hook (at Pat) x us >>= rest_last s x)
  props_rest x b s us =
      knot hook (at PatProps) x (tk token.DotDotDot b s ∷ us)
      ∙ then_calls (run hook (at Rest) x (tk token.DotDotDot b s ∷ us)) _
      (λ t vs. if holds_ident t then
      (expected is_rbrace x vs >>= (λ q. Some (listed None q.0 (cons t nil), q.1))) else None)
      (λ t vs. ap (λ o. if holds_ident t then o else None) (brace_run t x vs))
      ∙ ap (λ o. o >>= (λ p. if holds_ident p.0 then
      (expected is_rbrace x p.1 >>= (λ q. Some (listed None q.0 (cons p.0 nil), q.1))) else None)) (rest_read x b s us)
      ∙ sym (binds (run hook (at Pat) x us) _ _)

  last_by : (i : Bool) (before : Trees F C K) (t : Tree F C K) (x : Scope) (us : List TokenAndSpan)
      → ((if i then (expected is_rbrace x us >>= (λ q. Some (listed None q.0 (cons t nil), q.1))) else None)
      >>= with_items before)
      ≡ (separated is_rbrace x us
      >>= (λ q. props_by hook (if i then behind_rest q.0 else never) (trees_append before (cons t nil)) x q.1))
  last_by true before t x us =
      sym (binds (expected is_rbrace x us) _ _)
      ∙ sym (rest_closes is_rbrace (λ q. Some (listed None q.0 (trees_append before (cons t nil)), q.1)) refl x us)
      ∙ bind_same (separated is_rbrace x us) _ _ (λ q. by_comma q.0 q.1)
    where
      by_comma : (o : Option Span) (vs : List TokenAndSpan)
          → closing_by is_rbrace (λ q. Some (listed None q.0 (trees_append before (cons t nil)), q.1)) x o vs
          ≡ props_by hook (behind_rest o) (trees_append before (cons t nil)) x vs
      by_comma None vs = refl
      by_comma (Some c) vs = refl
  last_by false before t x us = sym (bind_none (separated is_rbrace x us) _ (λ q. refl))

  rest_step : (before : Trees F C K) (comma : Option Span) → props_stage before comma ≡ going
      → (s : Span) (x : Scope) (us : List TokenAndSpan)
      → (run hook (at Pat) x us >>= rest_last s x >>= with_items before)
      ≡ (run hook (at Pat) x us >>= (λ p. Some (rest_node s p.0, p.1)) >>= left_from before x)
  unfolding pat_props_left
  rest_step before comma h s x us =
      sym (binds (run hook (at Pat) x us) _ _)
      ∙ bind_same (run hook (at Pat) x us) _ _ (λ p.
      last_by (holds_ident (rest_node s p.0)) before (rest_node s p.0) x p.1
      ∙ bind_same (separated is_rbrace x p.1) _ _ (λ q.
      ap (λ v. props_by hook v (trees_append before (cons (rest_node s p.0) nil)) x q.1)
      (sym (rest_stage before comma h s p.0 q.0))))
      ∙ binds (run hook (at Pat) x us) _ _

  item_step : (before : Trees F C K) (comma : Option Span) → props_stage before comma ≡ going
      → (x : Scope) (v : Token) (b : Bool) (s : Span) (us : List TokenAndSpan) → is_rbrace v ≡ false
      → (run hook (at PatProps) x (tk v b s ∷ us) >>= with_items before) ≡ pat_prop_more hook before x (tk v b s ∷ us)
  unfolding pat_prop_more pat_prop_item eaten
  item_step before comma h x token.DotDotDot b s us other =
      ap (λ o. o >>= with_items before) (props_rest x b s us) ∙ rest_step before comma h s x us
  item_step before comma h x token.RBrace b s us other = absurd cc
  item_step before comma h x v b s us other =
      ap (λ o. o >>= with_items before) (knot hook (at PatProps) x (tk v b s ∷ us))
      ∙ more_step before comma h x (tk v b s ∷ us)

  -- where any item may come
  open_turn : (before : Trees F C K) (comma : Option Span) → props_stage before comma ≡ going
      → (c : Bool) (x : Scope) (ts : List TokenAndSpan) → at_token is_rbrace (first ts) ≡ c
      → (run hook (at PatProps) x ts >>= with_items before)
      ≡ (eaten_by c ts >>= (λ p. pat_props_with hook before comma p.0 x p.1))
  unfolding pat_prop_more pat_prop_item eaten
  open_turn before comma h true x [] e = absurd cc
  open_turn before comma h true x (t ∷ ts) e =
      ap (λ o. o >>= with_items before) (props_close x t ts e)
      ∙ rw h (ap (λ v. Some (listed None t.span v, ts)) (trees_append-nil before))
  open_turn before comma h false x [] e =
      ap (λ o. o >>= with_items before) (knot hook (at PatProps) x []) ∙ more_step before comma h x []
  open_turn before comma h false x (t ∷ ts) e = item_step before comma h x t.token t.had_line_break t.span ts e

  -- after a rest nothing is read
  nothing_more : (before : Trees F C K) (comma : Option Span) → stage_with (props_stage before comma) going ≡ never
      → (x : Scope) (ts : List TokenAndSpan) → pat_prop_more hook before x ts ≡ None
  unfolding pat_prop_more pat_props_left
  nothing_more before comma h x ts =
      bind_none (pat_prop_item hook x ts) _ (λ p. bind_none (separated is_rbrace x p.1) _ (λ q.
      ap (λ v. props_by hook v (trees_append before (cons p.0 nil)) x q.1)
      (stage_more before comma p.0 q.0 ∙ stays (props_stage before comma) (props_stage (cons p.0 nil) q.0) h)))
    where
      stays : (s r : Stage) → stage_with s going ≡ never → stage_with s r ≡ never
      stays going r e = absurd cc
      stays closing r e = refl
      stays never r e = refl

  closed_turn : (before : Trees F C K) (comma : Option Span) → props_stage before comma ≡ closing
      → (c : Bool) (x : Scope) (ts : List TokenAndSpan)
      → (eaten_by c ts >>= (λ p. expected_by p.0 p.1) >>= (λ p. Some (listed None p.0 before, p.1)))
      ≡ (eaten_by c ts >>= (λ p. pat_props_with hook before comma p.0 x p.1))
  closed_turn before comma h true x [] = sym (nothing_more before comma (rw h refl) x [])
  closed_turn before comma h true x (t ∷ ts) = rw h refl
  closed_turn before comma h false x ts = sym (nothing_more before comma (rw h refl) x ts)

  never_turn : (before : Trees F C K) (comma : Option Span) → props_stage before comma ≡ never
      → (c : Bool) (x : Scope) (ts : List TokenAndSpan)
      → None ≡ (eaten_by c ts >>= (λ p. pat_props_with hook before comma p.0 x p.1))
  never_turn before comma h true x [] = sym (nothing_more before comma (rw h refl) x [])
  never_turn before comma h true x (t ∷ ts) = rw h refl
  never_turn before comma h false x ts = sym (nothing_more before comma (rw h refl) x ts)

  turn_by : (s : Stage) (before : Trees F C K) (comma : Option Span) → props_stage before comma ≡ s
      → (x : Scope) (ts : List TokenAndSpan)
      → props_by hook s before x ts ≡ (eaten is_rbrace x ts >>= (λ p. pat_props_with hook before comma p.0 x p.1))
  unfolding eaten expected
  turn_by going before comma h x ts = open_turn before comma h (at_token is_rbrace (first ts)) x ts refl
  turn_by closing before comma h x ts = closed_turn before comma h (at_token is_rbrace (first ts)) x ts
  turn_by never before comma h x ts = never_turn before comma h (at_token is_rbrace (first ts)) x ts

  -- after some properties the list is closed, or goes on
  pub props_turn : (before : Trees F C K) (comma : Option Span) (x : Scope) (ts : List TokenAndSpan)
      → pat_props_left hook before comma x ts
      ≡ (eaten is_rbrace x ts >>= (λ p. pat_props_with hook before comma p.0 x p.1))
  unfolding pat_props_left
  props_turn before comma x ts = turn_by (props_stage before comma) before comma refl x ts

  pub pat_prop_more_splits : (before : Trees F C K) (x : Scope) (ts : List TokenAndSpan)
      → pat_prop_more hook before x ts
      ≡ (pat_prop_item hook x ts >>= (λ p. separated is_rbrace x p.1
      >>= (λ q. pat_props_left hook (trees_append before (cons p.0 nil)) q.0 x q.1)))
  unfolding pat_prop_more
  pat_prop_more_splits before x ts = refl

  -- before the first property
  first_more : (x : Scope) (ts : List TokenAndSpan)
      → and_then (run hook (at PatProp) x ts) (λ e us. and_then (run hook (at PatPropsTail) x us)
      (λ es vs. Some (put_first e es, vs)))
      ≡ (and_then (run hook (at PatProp) x ts) (λ e us. and_then (run hook (at PatPropsTail) x us)
      (λ es vs. Some (put_first e es, vs))) >>= with_items nil)
  first_more x ts =
      then_calls (run hook (at PatProp) x ts) _
      (λ e us. run hook (at PatPropsTail) x us >>= (λ q. Some (put_first e q.0, q.1)))
      (λ e us. calls (run hook (at PatPropsTail) x us) _)
      ∙ bind_same (run hook (at PatProp) x ts) _ _ (λ p. binds (run hook (at PatPropsTail) x p.1) _ (with_items nil))
      ∙ binds (run hook (at PatProp) x ts) _ _
      ∙ ap (λ o. o >>= with_items nil) (sym (then_calls (run hook (at PatProp) x ts) _
      (λ e us. run hook (at PatPropsTail) x us >>= (λ q. Some (put_first e q.0, q.1)))
      (λ e us. calls (run hook (at PatPropsTail) x us) _)))

  first_rest : (i : Bool) (t : Tree F C K) (x : Scope) (us : List TokenAndSpan)
      → (if i then (expected is_rbrace x us >>= (λ q. Some (listed None q.0 (cons t nil), q.1))) else None)
      ≡ ((if i then (expected is_rbrace x us >>= (λ q. Some (listed None q.0 (cons t nil), q.1))) else None)
      >>= with_items nil)
  first_rest true t x us = binds (expected is_rbrace x us) _ _
  first_rest false t x us = refl

  first_token : (x : Scope) (v : Token) (b : Bool) (s : Span) (us : List TokenAndSpan)
      → run hook (at PatProps) x (tk v b s ∷ us) ≡ (run hook (at PatProps) x (tk v b s ∷ us) >>= with_items nil)
  first_token x token.RBrace b s us =
      let is = props_close x (tk token.RBrace b s) us refl in is ∙ ap (λ o. o >>= with_items nil) (sym is)
  first_token x token.DotDotDot b s us =
      let is = props_rest x b s us in
      is
      ∙ bind_same (run hook (at Pat) x us) _ _ (λ p. first_rest (holds_ident (rest_node s p.0)) (rest_node s p.0) x p.1)
      ∙ binds (run hook (at Pat) x us) _ _
      ∙ ap (λ o. o >>= with_items nil) (sym is)
  first_token x v b s us =
      let is = knot hook (at PatProps) x (tk v b s ∷ us) in
      is ∙ first_more x (tk v b s ∷ us) ∙ ap (λ o. o >>= with_items nil) (sym is)

  pub props_first : (x : Scope) (ts : List TokenAndSpan)
      → run hook (at PatProps) x ts ≡ pat_props_left hook nil None x ts
  unfolding pat_props_left
  props_first x [] =
      let is = knot hook (at PatProps) x [] in is ∙ first_more x [] ∙ ap (λ o. o >>= with_items nil) (sym is)
  props_first x (t ∷ ts) = first_token x t.token t.had_line_break t.span ts

-- ---- after all properties

module _ {F C K : Type 0} where
  -- the rests are checked, and the pattern is made
  pub object_splits : (lo : BytePos) (l : Tree F C K) (x : Scope) (ts : List TokenAndSpan) → object_pat_from lo l x ts
      ≡ (rests_checked (props_stage (items_of l) (comma_of l)) x ts >>= (λ p. Some (object_pat_of lo l, p.1)))
  object_splits lo l x ts = by_stage (is_never (props_stage (items_of l) (comma_of l)))
    where
      by_stage : (b : Bool) → ((if b then None else answer (listed None (span_of l) (items_of l)) ts)
          >>= (λ p. Some (object_pat_of lo p.0, p.1)))
          ≡ ((if b then None else answer (tt {0}) ts) >>= (λ p. Some (object_pat_of lo l, p.1)))
      by_stage true = refl
      by_stage false = refl
