-- The clean parser's steps in object literals (13.2.5), as the code takes them.
use Rattle.std.specs.Prelude.{◌≡◌, Bool, true, false, not, if◌then◌else◌, List, [], ◌∷◌, Option, Some, None}
use Rattle.std.proofs.Common.{refl, sym, ap, ◌∙◌}
use Rattle.swc_context.specs.{Reserved.is_reserved_word, declared.span.Span.Span}
use Rattle.swc_input.specs.{declared.token.Token.Token, declared.token.Token.Token as token, declared.token.TokenAndSpan.TokenAndSpan, Kinds.at_token}
use Rattle.swc_ast.specs.Tree.{nil, span_of}
use Rattle.swc_ast.specs.Trees.{to, object_e, listed, items_of, comma_of, spread_prop_e, short_e, cover_e, ident_e}
use Rattle.swc_bodies.specs.Readings.{Hook, is_async, is_brace}
use Rattle.swc_grammar.specs.Symbols.{Assign, Primary, Props, PropsTail, Prop, Side}
use Rattle.swc_grammar.specs.Tokens.{tk, with_in, is_dots, is_equals, is_get, is_set, is_question, is_rbrace, is_star, is_word, ends_prop, follows_key}
use Rattle.swc_grammar.specs.Grammar.{Production, object-lit, prop-spread, prop-short, prop-cover, prop-key, prop-generator, prop-async, prop-async-generator, prop-getter, prop-setter}
use Rattle.swc_grammar.specs.Rule.{gives, must, given, symbol, token as token_of, ◌>>=◌ as ◌▸◌, ◌>>◌}
use Rattle.swc_grammar.specs.Clean.{and_then, first, second, sym as at, exec, Choice, none, pick, chosen, plan, primary, prop, prop_word, async_method, run}
use Rattle.swc_grammar.specs.Words.{◌>>=◌, one, word}
use Rattle.swc_grammar.specs.{Scope.Scope, Scope.inner, Names.Spelling, Names.may_name, Parts.any_name}
use Rattle.swc_grammar.proofs.{Knot.knot, Only.brace-is, Only.rbrace-is, Rules.run_picked}
use Rattle.swc_primary.specs.Properties.{object_lit_tail, prop_item, spread_prop_tail, open_by, open_name, cover_name, cover_node, cover_tail, modifier_of, by_modifier, word_kind, prop_kind}
use Rattle.swc_primary.specs.{declared.modifiers.MethodKind.MethodKind, declared.modifiers.MethodKind.MethodKind as method, declared.modifiers.Modifier.Modifier, declared.modifiers.Modifier.Modifier as modifier, declared.modifiers.PropKind.PropKind, declared.modifiers.PropKind.PropKind as kind, Methods.modifiers, Methods.method_tail}
use Rattle.swc_steps.specs.Readers.{reading, by_production, inside}
use Rattle.swc_steps.specs.Lists.{eaten, eaten_by, closed, separated, behind}
use Rattle.swc_steps.specs.Keys.{expected, expected_by}
use Rattle.swc_primary.proofs.Keyed.{generator_splits, async_splits, async_generator_splits, getter_splits, setter_splits}
use Rattle.swc_steps.proofs.Steps.{not_true, not_false}
use Rattle.swc_steps.proofs.Lists.{calls, binds, bind_same, tail_left, list_from, item_more, IsList}

pub open_name_splits : (x : Scope) (ts : List TokenAndSpan) → open_name x ts ≡ (word may_name x ts >>= open_by x)
unfolding open_name
open_name_splits x ts = refl

pub cover_name_splits : (x : Scope) (ts : List TokenAndSpan)
    → cover_name x ts ≡ (open_name x ts >>= (λ p. expected is_equals x p.1 >>= (λ q. Some (p.0, q.1))))
unfolding cover_name
cover_name_splits x ts = refl

pub open_by_well : (x : Scope) (n : Spelling) (ts : List TokenAndSpan) → not (is_reserved_word x.context n.text) ≡ true
    → open_by x (n, ts) ≡ Some (n, ts)
open_by_well x n ts h = rw (not_true (is_reserved_word x.context n.text) h) refl

pub open_by_ill : (x : Scope) (n : Spelling) (ts : List TokenAndSpan) → not (is_reserved_word x.context n.text) ≡ false
    → open_by x (n, ts) ≡ None
open_by_ill x n ts h = rw (not_false (is_reserved_word x.context n.text) h) refl

-- what is made of a choice
chosen_by : {A B : Type 0} (f : A → B) (b : Bool) {x y : A} {v w : B} → f x ≡ v → f y ≡ w
    → f (if b then x else y) ≡ (if b then v else w)
chosen_by f true p q = p
chosen_by f false p q = q

module _ {F C K : Type 0} {c : Scope} where
  -- which production each kind of property is
  abbrev method_choice : MethodKind → Choice F C K Prop c
  method_choice method.Generator = pick prop-generator
  method_choice method.Async = pick prop-async
  method_choice method.AsyncGenerator = pick prop-async-generator
  method_choice method.Getter = pick prop-getter
  method_choice method.Setter = pick prop-setter

  abbrev kind_choice : PropKind → Choice F C K Prop c
  kind_choice kind.Spread = pick prop-spread
  kind_choice kind.Shorthand = pick prop-short
  kind_choice kind.Cover = pick prop-cover
  kind_choice kind.Key = pick prop-key
  kind_choice (kind.Method m) = method_choice m
  kind_choice kind.Questioned = none
  kind_choice kind.Unfit = none

  modifier_choice : (t u : Option TokenAndSpan) → kind_choice (by_modifier (modifier_of t) (at_token is_star u))
      ≡ (if at_token is_get t then pick prop-getter else
      (if at_token is_set t then pick prop-setter else (if at_token is_async t then async_method u else none)))
  modifier_choice t u =
      chosen_by (λ m. kind_choice (by_modifier m (at_token is_star u))) (at_token is_get t) refl
      (chosen_by (λ m. kind_choice (by_modifier m (at_token is_star u))) (at_token is_set t) refl
      (chosen_by (λ m. kind_choice (by_modifier m (at_token is_star u))) (at_token is_async t)
      (chosen_by method_choice (at_token is_star u) refl refl) refl))

  word_choice : (t u : Option TokenAndSpan) → kind_choice (word_kind t u) ≡ prop_word t u
  word_choice t u =
      chosen_by kind_choice (at_token ends_prop u) refl (chosen_by kind_choice (at_token is_equals u) refl
      (chosen_by kind_choice (at_token follows_key u) refl (chosen_by kind_choice (at_token is_question u) refl
      (modifier_choice t u))))

  prop_choice : (ts : List TokenAndSpan) → kind_choice (prop_kind ts) ≡ prop c ts
  prop_choice ts =
      chosen_by kind_choice (at_token is_dots (first ts)) refl (chosen_by kind_choice (at_token is_star (first ts)) refl
      (chosen_by kind_choice (at_token is_word (first ts)) (word_choice (first ts) (second ts)) refl))

module _ {F C K : Type 0} (hook : Hook F C K) where
  -- ---- object literals

  pub object_lit_picked : (x : Scope) (ts : List TokenAndSpan) → at_token is_brace (first ts) ≡ true
      → run hook (at Primary) x ts ≡ by_production hook (λ c. object-lit) x ts
  unfolding by_production reading
  object_lit_picked x [] h = absurd cc
  object_lit_picked x (t ∷ ts) h =
      run_picked hook Primary x (t ∷ ts) object-lit (primary x (t ∷ ts)) refl
      (rw (brace-is t.token h) refl)

  pub object_lit_opens : (t : TokenAndSpan) (x : Scope) (ts : List TokenAndSpan) → is_brace t.token ≡ true
      → by_production hook (λ c. object-lit) x (t ∷ ts) ≡ object_lit_tail hook t.span x ts
  unfolding by_production object_lit_tail reading
  object_lit_opens t x ts h = rw h (calls (run hook (at Props) (inner x) ts) _)

  pub object_lit_splits : (s : Span) (x : Scope) (ts : List TokenAndSpan) → object_lit_tail hook s x ts
      ≡ (run hook (at Props) (inner x) ts >>=
      (λ p. Some (object_e (comma_of p.0) (to s (span_of p.0)) (items_of p.0), p.1)))
  unfolding object_lit_tail
  object_lit_splits s x ts = refl

  -- the brace closes the list
  props_close : (x : Scope) (t : TokenAndSpan) (ts : List TokenAndSpan) → is_rbrace t.token ≡ true
      → run hook (at Props) x (t ∷ ts) ≡ Some (listed None t.span nil, ts)
  props_close x t ts h =
      knot hook (at Props) x (t ∷ ts)
      ∙ rw (rbrace-is t.token h) refl

  tail_token : (x : Scope) (v : Token) (b : Bool) (s : Span) (us : List TokenAndSpan)
      → run hook (at PropsTail) x (tk v b s ∷ us)
      ≡ (separated is_rbrace x (tk v b s ∷ us) >>= tail_left (run hook (at Props)) x)
  unfolding separated closed eaten
  tail_token x token.Comma b s us =
      knot hook (at PropsTail) x (tk token.Comma b s ∷ us) ∙ calls (run hook (at Props) x us) _
  tail_token x token.RBrace b s us =
      knot hook (at PropsTail) x (tk token.RBrace b s ∷ us)
      ∙ ap (λ o. o >>= (λ p. Some (behind None p.0, p.1))) (sym (props_close x (tk token.RBrace b s) us refl))
  tail_token x v b s us = knot hook (at PropsTail) x (tk v b s ∷ us)

  tail_is : (x : Scope) (us : List TokenAndSpan)
      → run hook (at PropsTail) x us ≡ (separated is_rbrace x us >>= tail_left (run hook (at Props)) x)
  unfolding separated closed eaten
  tail_is x [] = knot hook (at PropsTail) x []
  tail_is x (t ∷ us) = tail_token x t.token t.had_line_break t.span us

  -- one property, and those that are left
  props_step : (x : Scope) (ts : List TokenAndSpan) → at_token is_rbrace (first ts) ≡ false → run hook (at Props) x ts
      ≡ (prop_item hook x ts >>= list_from (run hook (at Props)) x)
  props_step x ts h =
      knot hook (at Props) x ts
      ∙ rw h (item_more (run hook (at Props)) (run hook (at Prop)) (run hook (at PropsTail))
      (separated is_rbrace) tail_is
      x ts)

  pub props_list : IsList is_rbrace (run hook (at Props)) (prop_item hook)
  props_list = record { close = props_close; step = props_step }

  -- ---- properties

  pub spread_prop_splits : (s : Span) (x : Scope) (ts : List TokenAndSpan)
      → spread_prop_tail hook s x ts ≡ (inside hook x ts >>= (λ p. Some (spread_prop_e s p.0, p.1)))
  unfolding spread_prop_tail
  spread_prop_splits s x ts = refl

  -- a name alone
  short_by : (r : Bool) (n : Spelling) (us : List TokenAndSpan)
      → (if not r then Some (short_e {F = F} {C = C} {K = K} n.at n.text, us) else None)
      ≡ ((if r then None else Some (n, us)) >>= (λ p. Some (short_e p.0.at p.0.text, p.1)))
  short_by true n us = refl
  short_by false n us = refl

  short_one : (o : Option Spelling) (x : Scope) (us : List TokenAndSpan) → exec hook (run hook) None (plan (given o ▸
      (λ n. must (not (is_reserved_word x.context n.text)) >> gives (short_e {F = F} {C = C} {K = K} n.at n.text)))) us
      ≡ ((one o us >>= open_by x) >>= (λ p. Some (short_e p.0.at p.0.text, p.1)))
  short_one None x us = refl
  short_one (Some n) x us = short_by (is_reserved_word x.context n.text) n us

  pub short_splits : (x : Scope) (ts : List TokenAndSpan) → by_production hook (λ c. prop-short) x ts
      ≡ (open_name x ts >>= (λ p. Some (short_e p.0.at p.0.text, p.1)))
  unfolding by_production reading open_name word
  short_splits x [] = refl
  short_splits x (t ∷ ts) = short_one (any_name x t.token t.span) x ts

  -- a name with `=` and an expression after it
  cover_sign : (b : Bool) (n : Spelling) (x : Scope) (t : TokenAndSpan) (us : List TokenAndSpan)
      → (if b then and_then (run hook (at Assign) (with_in x) us)
      (λ e vs. Some (cover_e (to n.at (span_of e)) (ident_e n.at n.text) e, vs)) else None)
      ≡ ((eaten_by b (t ∷ us) >>= (λ p. expected_by p.0 p.1)) >>= (λ q. cover_tail hook n x q.1))
  unfolding cover_tail inside
  cover_sign true n x t us = calls (run hook (at Assign) (with_in x) us) _
  cover_sign false n x t us = refl

  cover_run : (n : Spelling) (x : Scope) (us : List TokenAndSpan)
      → exec hook (run hook) None (plan (token_of is_equals >> (symbol Assign (with_in x) ▸
      (λ e. gives (cover_e {F = F} {C = C} {K = K} (to n.at (span_of e)) (ident_e n.at n.text) e))))) us
      ≡ (expected is_equals x us >>= (λ q. cover_tail hook n x q.1))
  unfolding expected eaten
  cover_run n x [] = refl
  cover_run n x (t ∷ us) = cover_sign (is_equals t.token) n x t us

  cover_open : (r : Bool) (n : Spelling) (x : Scope) (us : List TokenAndSpan)
      → (if not r then (expected is_equals x us >>= (λ q. cover_tail hook n x q.1)) else None)
      ≡ ((if r then None else Some (n, us)) >>= (λ p. expected is_equals x p.1 >>= (λ q. cover_tail hook p.0 x q.1)))
  cover_open true n x us = refl
  cover_open false n x us = refl

  cover_one : (o : Option Spelling) (x : Scope) (us : List TokenAndSpan)
      → exec hook (run hook) None (plan
      (given o ▸ (λ n. must (not (is_reserved_word x.context n.text)) >> (token_of is_equals >>
      (symbol Assign (with_in x) ▸
      (λ e. gives (cover_e {F = F} {C = C} {K = K} (to n.at (span_of e)) (ident_e n.at n.text) e))))))) us
      ≡ ((one o us >>= open_by x) >>= (λ p. expected is_equals x p.1 >>= (λ q. cover_tail hook p.0 x q.1)))
  cover_one None x us = refl
  cover_one (Some n) x us =
      ap (λ v. if not (is_reserved_word x.context n.text) then v else None) (cover_run n x us)
      ∙ cover_open (is_reserved_word x.context n.text) n x us

  cover_opens : (x : Scope) (ts : List TokenAndSpan) → by_production hook (λ c. prop-cover) x ts
      ≡ (open_name x ts >>= (λ p. expected is_equals x p.1 >>= (λ q. cover_tail hook p.0 x q.1)))
  unfolding by_production reading open_name word
  cover_opens x [] = refl
  cover_opens x (t ∷ ts) = cover_one (any_name x t.token t.span) x ts

  pub cover_splits : (x : Scope) (ts : List TokenAndSpan)
      → by_production hook (λ c. prop-cover) x ts ≡ (cover_name x ts >>= (λ p. cover_tail hook p.0 x p.1))
  unfolding cover_name
  cover_splits x ts =
      cover_opens x ts
      ∙ bind_same (open_name x ts) _ _ (λ p. binds (expected is_equals x p.1) (λ q. Some (p.0, q.1))
      (λ r. cover_tail hook r.0 x r.1))
      ∙ binds (open_name x ts) _ _

  pub cover_tail_splits : (n : Spelling) (x : Scope) (ts : List TokenAndSpan) → cover_tail hook n x ts
      ≡ (inside hook x ts >>= (λ p. Some (cover_node n p.0, p.1)))
  unfolding cover_tail
  cover_tail_splits n x ts = refl

  -- each property is picked by its kind
  kind_picked : (x : Scope) (ts : List TokenAndSpan) {r : Side F C K Prop} (p : Production Prop x r) (k : PropKind)
      → kind_choice k ≡ pick p → prop_kind ts ≡ k → run hook (at Prop) x ts ≡ exec hook (run hook) (Some 4) (plan r) ts
  kind_picked x ts p k e h = run_picked hook Prop x ts p (prop x ts) refl (sym (prop_choice ts) ∙ ap kind_choice h ∙ e)

  pub short_picked : (x : Scope) (ts : List TokenAndSpan) → prop_kind ts ≡ kind.Shorthand
      → run hook (at Prop) x ts ≡ by_production hook (λ c. prop-short) x ts
  unfolding by_production reading
  short_picked x [] h = kind_picked x [] prop-short kind.Shorthand refl h
  short_picked x (t ∷ ts) h = kind_picked x (t ∷ ts) prop-short kind.Shorthand refl h

  pub cover_picked : (x : Scope) (ts : List TokenAndSpan) → prop_kind ts ≡ kind.Cover
      → run hook (at Prop) x ts ≡ by_production hook (λ c. prop-cover) x ts
  unfolding by_production reading
  cover_picked x [] h = kind_picked x [] prop-cover kind.Cover refl h
  cover_picked x (t ∷ ts) h = kind_picked x (t ∷ ts) prop-cover kind.Cover refl h

  pub key_picked : (x : Scope) (ts : List TokenAndSpan) → prop_kind ts ≡ kind.Key
      → run hook (at Prop) x ts ≡ by_production hook (λ c. prop-key) x ts
  unfolding by_production reading
  key_picked x ts h = kind_picked x ts prop-key kind.Key refl h

  generator_picked : (x : Scope) (ts : List TokenAndSpan) → prop_kind ts ≡ kind.Method method.Generator
      → run hook (at Prop) x ts ≡ by_production hook (λ c. prop-generator) x ts
  unfolding by_production reading
  generator_picked x [] h = kind_picked x [] prop-generator (kind.Method method.Generator) refl h
  generator_picked x (t ∷ ts) h = kind_picked x (t ∷ ts) prop-generator (kind.Method method.Generator) refl h

  getter_picked : (x : Scope) (ts : List TokenAndSpan) → prop_kind ts ≡ kind.Method method.Getter
      → run hook (at Prop) x ts ≡ by_production hook (λ c. prop-getter) x ts
  unfolding by_production reading
  getter_picked x [] h = kind_picked x [] prop-getter (kind.Method method.Getter) refl h
  getter_picked x (t ∷ ts) h = kind_picked x (t ∷ ts) prop-getter (kind.Method method.Getter) refl h

  setter_picked : (x : Scope) (ts : List TokenAndSpan) → prop_kind ts ≡ kind.Method method.Setter
      → run hook (at Prop) x ts ≡ by_production hook (λ c. prop-setter) x ts
  unfolding by_production reading
  setter_picked x [] h = kind_picked x [] prop-setter (kind.Method method.Setter) refl h
  setter_picked x (t ∷ ts) h = kind_picked x (t ∷ ts) prop-setter (kind.Method method.Setter) refl h

  async_picked : (x : Scope) (ts : List TokenAndSpan) → prop_kind ts ≡ kind.Method method.Async
      → run hook (at Prop) x ts ≡ by_production hook (λ c. prop-async) x ts
  unfolding by_production reading
  async_picked x [] h = kind_picked x [] prop-async (kind.Method method.Async) refl h
  async_picked x (t ∷ ts) h = kind_picked x (t ∷ ts) prop-async (kind.Method method.Async) refl h

  async_generator_picked : (x : Scope) (ts : List TokenAndSpan) → prop_kind ts ≡ kind.Method method.AsyncGenerator
      → run hook (at Prop) x ts ≡ by_production hook (λ c. prop-async-generator) x ts
  unfolding by_production reading
  async_generator_picked x [] h = kind_picked x [] prop-async-generator (kind.Method method.AsyncGenerator) refl h
  async_generator_picked x (t ∷ ts) h = kind_picked x (t ∷ ts) prop-async-generator
      (kind.Method method.AsyncGenerator) refl h

  none_picked : (x : Scope) (ts : List TokenAndSpan) (k : PropKind) → prop_kind ts ≡ k
      → kind_choice {F = F} {C = C} {K = K} {c = x} k ≡ none → run hook (at Prop) x ts ≡ None
  none_picked x ts k h e = knot hook (at Prop) x ts ∙ ap (λ v. exec hook (run hook) (Some 4) (chosen v) ts)
      (sym (prop_choice ts) ∙ ap kind_choice h ∙ e)

-- dots are at no other kind
spread_by : (b : Bool) (k : PropKind) → (k ≡ kind.Spread → ⊥) → (if b then kind.Spread else k) ≡ kind.Spread → b ≡ true
spread_by true k n h = refl
spread_by false k n h = absurd (n h)

no_modifier_spread : (m : Modifier) (with_star : Bool) → by_modifier m with_star ≡ kind.Spread → ⊥
no_modifier_spread modifier.Get with_star h = cc
no_modifier_spread modifier.Set with_star h = cc
no_modifier_spread modifier.Async with_star h = cc
no_modifier_spread modifier.Other with_star h = cc

no_word_spread : (t u : Option TokenAndSpan) → word_kind t u ≡ kind.Spread → ⊥
no_word_spread t u = by_four (at_token ends_prop u) (at_token is_equals u) (at_token follows_key u)
    (at_token is_question u) (by_modifier (modifier_of t) (at_token is_star u))
    (no_modifier_spread (modifier_of t) (at_token is_star u))
  where
    by_four : (a b c d : Bool) (k : PropKind) → (k ≡ kind.Spread → ⊥) → (if a then kind.Shorthand else
        (if b then kind.Cover else (if c then kind.Key else (if d then kind.Questioned else k)))) ≡ kind.Spread → ⊥
    by_four true b c d k n h = cc
    by_four false true c d k n h = cc
    by_four false false true d k n h = cc
    by_four false false false true k n h = cc
    by_four false false false false k n h = n h

no_other_spread : (a b : Bool) (t u : Option TokenAndSpan)
    → (if a then kind.Method method.Generator else (if b then word_kind t u else kind.Key)) ≡ kind.Spread → ⊥
no_other_spread true b t u h = cc
no_other_spread false true t u h = no_word_spread t u h
no_other_spread false false t u h = cc

spread_dots : (ts : List TokenAndSpan) → prop_kind ts ≡ kind.Spread → at_token is_dots (first ts) ≡ true
spread_dots ts h = spread_by (at_token is_dots (first ts)) _
    (no_other_spread (at_token is_star (first ts)) (at_token is_word (first ts)) (first ts) (second ts)) h

module _ {F C K : Type 0} (hook : Hook F C K) where
  -- dots, and what is read after them
  spread_token : (x : Scope) (v : Token) (b : Bool) (s : Span) (us : List TokenAndSpan) → is_dots v ≡ true
      → run hook (at Prop) x (tk v b s ∷ us) ≡ spread_prop_tail hook s x us
  unfolding spread_prop_tail inside
  spread_token x token.DotDotDot b s us h =
      knot hook (at Prop) x (tk token.DotDotDot b s ∷ us) ∙ calls (run hook (at Assign) (with_in x) us) _
  spread_token x v b s us h = absurd cc

  pub spread_picked : (x : Scope) (ts : List TokenAndSpan) → prop_kind ts ≡ kind.Spread
      → run hook (at Prop) x ts ≡ (expected is_dots x ts >>= (λ p. spread_prop_tail hook p.0 x p.1))
  unfolding expected eaten
  spread_picked x [] h = let d = spread_dots [] h in absurd cc
  spread_picked x (t ∷ ts) h =
      let d = spread_dots (t ∷ ts) h in
      spread_token x t.token t.had_line_break t.span ts d ∙ rw d refl

  -- a method by its kind
  pub method_picked : (m : MethodKind) (x : Scope) (ts : List TokenAndSpan) → prop_kind ts ≡ kind.Method m
      → run hook (at Prop) x ts ≡ (modifiers m x ts >>= (λ p. method_tail hook m p.0 x p.1))
  method_picked method.Generator x ts h = generator_picked hook x ts h ∙ generator_splits hook x ts
  method_picked method.Async x ts h = async_picked hook x ts h ∙ async_splits hook x ts
  method_picked method.AsyncGenerator x ts h = async_generator_picked hook x ts h ∙ async_generator_splits hook x ts
  method_picked method.Getter x ts h = getter_picked hook x ts h ∙ getter_splits hook x ts
  method_picked method.Setter x ts h = setter_picked hook x ts h ∙ setter_splits hook x ts

  pub questioned_none : (x : Scope) (ts : List TokenAndSpan) → prop_kind ts ≡ kind.Questioned
      → run hook (at Prop) x ts ≡ None
  questioned_none x ts h = none_picked hook x ts kind.Questioned h refl

  pub unfit_none : (x : Scope) (ts : List TokenAndSpan) → prop_kind ts ≡ kind.Unfit → run hook (at Prop) x ts ≡ None
  unfit_none x ts h = none_picked hook x ts kind.Unfit h refl
