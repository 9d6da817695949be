-- What holds of every tree that the grammar derives where the syntax is pedantic: `#` and a name are on the left of
-- `in` alone, or name a link (13.10.1). One clause per production says that its node keeps this; the induction is done
-- once.
use Rattle.std.specs.Prelude.{◌≡◌, ℕ, Bool, true, false, not, ◌||◌, if◌then◌else◌, List, Option, Some, None}
use Rattle.std.proofs.Common.{refl, ap, subst, ◌∙◌}
use Rattle.swc_context.specs.{declared.operator.BinaryOp.BinaryOp, declared.operator.BinaryOp.BinaryOp as binary, declared.span.Span.Span, declared.word.Word.Word as word}
use Rattle.swc_input.specs.{declared.token.Token.Token, declared.token.Token.Token as token, declared.token.TokenAndSpan.TokenAndSpan}
use Rattle.swc_ast.specs.Patterns.{put_element}
use Rattle.swc_ast.specs.Pedantic.{privates_ok, all_privates_ok, takes_private_first}
use Rattle.swc_ast.specs.Tree.{Tree, node, Trees, nil, cons, span_of, item, spread, param, bin as bin_kind}
use Rattle.swc_ast.specs.Trees.{to, bin_e, items_of, comma_of, at_place, method_e, value_e, prop_of, regex_e, trees_append, texts_of, exprs_of, held_expr, held_exprs, seq_of, paren_e, params_e, pattern_of, setter_parts, is_chain, chain_e, link_e, member_e, call_e, name_e, private_e, computed_e, hole_e}
use Rattle.swc_bodies.specs.Readings.{Hook}
use Rattle.swc_grammar.specs.Scope.{Scope}
use Rattle.swc_grammar.specs.Rule.{Rule, gives, never, take, check, peek, peek_two, read, hear, given, ◌>>=◌}
use Rattle.swc_grammar.specs.Symbols.{Symbol, Exprs, Arguments, Args, ArgsTail, Parts, Elements, ElementsTail, Props, PropsTail, Shell, PatElements, PatElementsTail, PatProps, PatPropsTail, Params, ParamsTail, ArrowParams, Answer, Body, Value, Side}
use Rattle.swc_grammar.specs.Parts.{reference, binding, any_name, lit_of, regex_of, flags_ok, cooked_of, text_by, text_of, key_lit_of, prefix_here, update_here, assign_here, operator_here}
use Rattle.swc_grammar.specs.Arrows.{arrow_name, async_name, async_param}
use Rattle.swc_grammar.specs.Cover.{as_literal, as_params, binding as binding_role}
use Rattle.swc_grammar.specs.Grammar.{Production, ident-expr, async-ident, async-call, this-expr, lit, primary-literal, regex-alone, regex-slash, primary-template, template, parts-end, parts-more, array-lit, elements-end, elements-hole, elements-more, tail-end, tail-more, item-expr, item-spread, object-lit, props-end, props-more, props-tail-end, props-tail-more, prop-spread, prop-short, prop-cover, prop-key, prop-generator, prop-async, prop-async-generator, prop-getter, prop-setter, after-value, after-shell, shell-block, key-name, key-literal, key-computed, fn-expr, class-expr, paren-expr, lhs-left, new-bare, left-base, left-new, base-primary, new-target, super-name, super-computed, import-meta, super-call, import-call, import-source, member-name, member-private, member-computed, call, chain-name, chain-private, chain-computed, chain-call, tagged-tpl, arguments, args-end, args-more, args-tail-end, args-tail-more, unary-left, update-postfix, update-prefix, await-expr, await-ident, unary-op, exp-unary, exp-op, level-up, bin-op, private-expr, private-in, assign-level, cond-expr, assign-expr, yield-alone, yield-expr, yield-star, exprs-one, exprs-more, seq-expr, assign-pattern, pat-bind, pat-array, pat-object, element-pat, element-default, pat-rest, pat-elements-end, pat-elements-hole, pat-elements-more, pat-elements-rest, pat-tail-end, pat-tail-more, pat-props-end, pat-props-more, pat-props-rest, pat-props-tail-end, pat-props-tail-more, pat-prop-key, pat-prop-short, pat-prop-default, params-end, params-more, params-rest, params-tail-end, params-tail-more, covered-params, arrow-name, arrow-params, arrow-async-name, arrow-async-params, body-block, body-expr}
use Rattle.swc_grammar.specs.Reads.{Reads, by, Follows, gave, took, held, calm, calm-two, part, heard}
use Rattle.swc_grammar.proofs.Answers.{inj, both, only}
use Rattle.swc_laws.proofs.PedanticTrees.{privates-eased}
use Rattle.swc_laws.proofs.PrivatesKept.{Fit, AllFit, literal-fit, elements-fit}

-- what holds of each tree of a symbol: of a list it holds of the items too, and of a template of both its lists
abbrev pub Listed : {F C K : Type 0} → Symbol → Tree F C K → Type 0
Listed (Parts is_tagged) t = AllFit (texts_of t) × AllFit (exprs_of t)
Listed Exprs t = AllFit (items_of t)
Listed (Arguments i) t = AllFit (items_of t)
Listed (Args i) t = AllFit (items_of t)
Listed (ArgsTail i) t = AllFit (items_of t)
Listed Elements t = AllFit (items_of t)
Listed ElementsTail t = AllFit (items_of t)
Listed Props t = AllFit (items_of t)
Listed PropsTail t = AllFit (items_of t)
Listed (Shell is_async is_generator) t = AllFit (items_of t)
Listed PatElements t = AllFit (items_of t)
Listed PatElementsTail t = AllFit (items_of t)
Listed PatProps t = AllFit (items_of t)
Listed PatPropsTail t = AllFit (items_of t)
Listed Params t = AllFit (items_of t)
Listed ParamsTail t = AllFit (items_of t)
Listed ArrowParams t = AllFit (items_of t)
Listed s t = Unit {0}

abbrev Placed : (F C K : Type 0) (s : Symbol) → Answer F C K s → Type 0
Placed F C K s t = Fit t × Listed s t

-- a side gives what is so, where its parts are so
abbrev Keeps : {F C K A : Type 0} → (A → Type 0) → Rule Symbol (Answer F C K) Body (Value F C K) A → Type 0
Keeps P (gives a) = P a
Keeps P never = Unit {0}
Keeps P (take f) = (a : TokenAndSpan) → Keeps P (f a)
Keeps P (check b r) = b ≡ true → Keeps P r
Keeps P (peek p r) = Keeps P r
Keeps P (peek_two p r) = Keeps P r
Keeps {F} {C} {K} P (read s c f) = (e : Answer F C K s) → Placed F C K s e → Keeps P (f e)
Keeps {F} {C} {K} P (hear b c f) = (v : Value F C K b) (s : Span) → Keeps P (f v s)

-- all parts of a side are read where the syntax is that of d
module _ {F C K : Type 0} (d : Scope) where
  abbrev Alike : {A : Type 0} → Rule Symbol (Answer F C K) Body (Value F C K) A → Type 0
  Alike (gives a) = Unit {0}
  Alike never = Unit {0}
  Alike (take f) = (a : TokenAndSpan) → Alike (f a)
  Alike (check b r) = Alike r
  Alike (peek p r) = Alike r
  Alike (peek_two p r) = Alike r
  Alike (read s c f) = (c.syntax ≡ d.syntax) × ((e : Answer F C K s) → Alike (f e))
  Alike (hear b c f) = (v : Value F C K b) (s : Span) → Alike (f v s)

  alike-given : {A D : Type 0} (o : Option A) (k : A → Rule Symbol (Answer F C K) Body (Value F C K) D)
      → ((x : A) → Alike (k x)) → Alike (given o >>= k)
  alike-given None k f = tt
  alike-given (Some x) k f = f x

never-both : (b : Bool) → b ≡ true → not b ≡ true → ⊥
never-both true h k = cc
never-both false h k = cc

twice : {A : Type 0} → A → A × A
twice h = (h, h)

module _ {F C K : Type 0} where
  alike : {s : Symbol} {c : Scope} {r : Side F C K s} → Production s c r → Alike c r
  alike this-expr = λ a. tt
  alike {c = c} p = search (refl, alike-given {F = F} {C = C} {K = K} c)

  keeps-given : {A D : Type 0} (P : D → Type 0) (o : Option A) (k : A → Rule Symbol (Answer F C K) Body (Value F C K) D)
      → ((x : A) → o ≡ Some x → Keeps P (k x)) → Keeps P (given o >>= k)
  keeps-given P None k f = tt
  keeps-given P (Some x) k f = f x refl

  -- literals, and texts of templates
  land : {x y : Tree F C K} → Some x ≡ Some y → Fit x → Fit y
  land {x = x} {y = y} p g = subst Fit (inj x y p) g

  lit-fit : (t : Token) (s : Span) (e : Tree F C K) → lit_of t s ≡ Some e → Fit e
  lit-fit (token.Word word.Null) s e h = land h refl
  lit-fit (token.Word word.True) s e h = land h refl
  lit-fit (token.Word word.False) s e h = land h refl
  lit-fit (token.Num raw) s e h = land h refl
  lit-fit (token.BigInt raw) s e h = land h refl
  lit-fit (token.Str value raw) s e h = land h refl
  lit-fit t s e h = absurd cc

  key-lit-fit : (t : Token) (s : Span) (e : Tree F C K) → key_lit_of t s ≡ Some e → Fit e
  key-lit-fit (token.Num raw) s e h = land h refl
  key-lit-fit (token.BigInt raw) s e h = land h refl
  key-lit-fit (token.Str value raw) s e h = land h refl
  key-lit-fit t s e h = absurd cc

  regex-fit : (t : Token) (s s' : Span) (e : Tree F C K) → regex_of t s ≡ Some e → Fit e × Fit (at_place s' e)
  regex-fit (token.Regex exp flags) s s' e h =
      subst (λ v. Fit v × Fit (at_place s' v)) (inj (regex_e s exp flags) e (only (flags_ok flags) h).1) (refl, refl)
  regex-fit t s s' e h = absurd cc

  text-fit : (is_tagged is_last : Bool) (t : Token) (s : Span) (e : Tree F C K) → text_of is_tagged is_last t s ≡ Some e
      → Fit e
  text-fit is_tagged is_last (token.Template raw cooked) s e h = by-cooked (cooked_of is_tagged cooked) h
    where
      by-cooked : (o : Option (Option (List ℕ))) → text_by is_last s raw o ≡ Some e → Fit e
      by-cooked None h = absurd cc
      by-cooked (Some o) h = land h refl
  text-fit is_tagged is_last t s e h = absurd cc

  -- it doesn't matter where a node is
  moved : (s : Span) (t : Tree F C K) → Fit t → Fit (at_place s t)
  moved s (node k s' ts) h = h

  -- methods
  params-fit : (ps : Trees F C K) → AllFit ps → AllFit (params_e ps)
  params-fit nil h = refl
  params-fit (cons p ps) h =
      let (x, y) = both (privates_ok false p) (all_privates_ok false false ps) h in rw (x, params-fit ps y) refl

  pattern-fit : (p : Tree F C K) → Fit p → Fit (pattern_of p)
  pattern-fit (node param s (cons p ts)) h = (both (privates_ok false p) (all_privates_ok false false ts) h).0
  pattern-fit t h = h

  setter-fit : (ts : Trees F C K) → AllFit ts → AllFit (setter_parts ts)
  setter-fit nil h = refl
  setter-fit (cons b nil) h = h
  setter-fit (cons b (cons p ps)) h =
      let (x, y) = both (privates_ok false b) (all_privates_ok false false (cons p ps)) h in
      rw (pattern-fit p (both (privates_ok false p) (all_privates_ok false false ps) y).0, x) refl

  method-fit : (at : Span) (k f : Tree F C K) → Fit k → Fit f → Fit (method_e at k f)
  method-fit at k f g d = rw (g, moved at f d) refl

  prop-fit : (k x : Tree F C K) → Fit k → Fit x → Fit (prop_of k x)
  prop-fit k (value_e s e) g d = rw (g, (both (privates_ok false e) true d).0) refl
  prop-fit k x g d = method-fit (to (span_of k) (span_of x)) k x g d

  -- lists
  append-fit : (ts us : Trees F C K) → AllFit ts → AllFit us → AllFit (trees_append ts us)
  append-fit nil us h k = k
  append-fit (cons t ts) us h k =
      let (x, y) = both (privates_ok false t) (all_privates_ok false false ts) h in rw (x, append-fit ts us y k) refl

  put-fit : (ps : Trees F C K) → AllFit ps → AllFit (put_element true hole_e ps)
  put-fit nil h = refl
  put-fit (cons p ps) h = h

  -- what the items of a list hold, and the sequence of that
  held-fit : (t : Tree F C K) → Fit t → Fit (held_expr t)
  held-fit (node item s (cons e ts)) h = (both (privates_ok false e) (all_privates_ok false false ts) h).0
  held-fit (node spread s (cons d (cons e ts))) h =
      let (x, y) = both (privates_ok false d) (all_privates_ok false false (cons e ts)) h in
      (both (privates_ok false e) (all_privates_ok false false ts) y).0
  held-fit t h = h

  all-held-fit : (ts : Trees F C K) → AllFit ts → AllFit (held_exprs ts)
  all-held-fit nil h = refl
  all-held-fit (cons t ts) h =
      let (x, y) = both (privates_ok false t) (all_privates_ok false false ts) h in
      rw (held-fit t x, all-held-fit ts y) refl

  seq-fit : (ts : Trees F C K) → AllFit ts → Fit (seq_of ts)
  seq-fit nil h = refl
  seq-fit (cons e nil) h = (both (privates_ok false e) true h).0
  seq-fit (cons e (cons u us)) h = h

  paren-fit : (s : Span) (ts : Trees F C K) → AllFit ts → Fit (paren_e s (seq_of (held_exprs ts)))
  paren-fit s ts h = wrapped (seq_of (held_exprs ts)) (seq-fit (held_exprs ts) (all-held-fit ts h))
    where
      wrapped : (e : Tree F C K) → Fit e → Fit (paren_e s e)
      wrapped e g = rw g refl

  -- a link, as one of an optional chain or not; what names a member may be `#` and a name
  link-fit : (is_optional : Bool) (l t : Tree F C K) → Fit t → Fit (link_e is_optional l t)
  link-fit is_optional l t g = by-chain (is_optional || is_chain l)
    where
      by-chain : (o : Bool) → Fit (if o then chain_e is_optional t else t)
      by-chain false = g
      by-chain true = rw g refl

  member-fit : (is_optional : Bool) (s : Span) (l prop : Tree F C K) → Fit l → privates_ok true prop ≡ true
      → Fit (link_e is_optional l (member_e s l prop))
  member-fit is_optional s l prop g v = link-fit is_optional l (member_e s l prop) (rw (g, v) refl)

  call-fit : (is_optional : Bool) (s : Span) (l : Tree F C K) (ts : Trees F C K) → Fit l → AllFit ts
      → Fit (link_e is_optional l (call_e s l ts))
  call-fit is_optional s l ts g k = link-fit is_optional l (call_e s l ts) (rw (g, k) refl)

  bin-fit : (s : Span) (op : BinaryOp) (l r : Tree F C K) → Fit l → Fit r → Fit (bin_e s op l r)
  bin-fit s op l r g d = rw (privates-eased (takes_private_first {F = F} {C = C} {K = K} (bin_kind op)) l g, d) refl

  -- one clause per production
  keeps : {s : Symbol} {c : Scope} {r : Side F C K s} → Production s c r → c.syntax.pedantic ≡ true
      → Keeps (Placed F C K s) r
  keeps (ident-expr {c = c}) y = λ a. keeps-given _ (reference c a.token a.span) _ (λ n h. (refl, tt))
  keeps (async-ident {c = c}) y = λ a. keeps-given _ (async_name c a.token a.span) _ (λ n h. (refl, tt))
  keeps (async-call {c = c}) y = λ a. keeps-given _ (async_name c a.token a.span) _ (λ n h d b l p es g k. (g.1, tt))
  keeps this-expr y = λ a h. (refl, tt)
  keeps lit y = λ a. keeps-given _ (lit_of a.token a.span) _ (λ e h. (lit-fit a.token a.span e h, tt))
  keeps primary-literal y = λ e g. g
  keeps regex-alone y = λ a. keeps-given _ (regex_of a.token a.span) _
      (λ e h. ((regex-fit a.token a.span a.span e h).0, tt))
  keeps regex-slash y = λ a h b. keeps-given _ (regex_of b.token b.span) _
      (λ e k. ((regex-fit b.token b.span _ e k).1, tt))
  keeps primary-template y = λ e g. (g.0, tt)
  keeps template y = λ a h ps g. (append-fit (texts_of ps) (exprs_of ps) g.1.0 g.1.1, tt)
  keeps (parts-end {is_tagged = is_tagged}) y = λ a. keeps-given _ (text_of is_tagged true a.token a.span) _
      (λ t h b k. let g = text-fit is_tagged true a.token a.span t h in (rw g refl, (rw g refl, refl)))
  keeps (parts-more {is_tagged = is_tagged}) y = λ a. keeps-given _ (text_of is_tagged false a.token a.span) _
      (λ t h b k e d j i ps w. let g = text-fit is_tagged false a.token a.span t h in
      (rw (g, w.1.0, d.0, w.1.1) refl, (rw (g, w.1.0) refl, rw (d.0, w.1.1) refl)))
  keeps array-lit y = λ a h es g. (g.1, tt)
  keeps elements-end y = λ a h. (refl, refl)
  keeps elements-hole y = λ a h es g. (g.1, g.1)
  keeps elements-more y = λ e g es k. twice (rw (g.0, k.1) refl)
  keeps tail-end y = λ a h. (refl, refl)
  keeps tail-more y = λ a h es g. (g.1, g.1)
  keeps item-expr y = λ e g. (rw g.0 refl, tt)
  keeps item-spread y = λ a h e g. (rw g.0 refl, tt)
  keeps object-lit y = λ a h ps g. (g.1, tt)
  keeps props-end y = λ a h. (refl, refl)
  keeps props-more y = λ p g ps k. twice (rw (g.0, k.1) refl)
  keeps props-tail-end y = λ a h. (refl, refl)
  keeps props-tail-more y = λ a h ps g. (g.1, g.1)
  keeps prop-spread y = λ a h e g. (rw g.0 refl, tt)
  keeps (prop-short {c = c}) y = λ a. keeps-given _ (any_name c a.token a.span) _ (λ n h r. (refl, tt))
  keeps (prop-cover {c = c}) y = λ a. keeps-given _ (any_name c a.token a.span) _ (λ n h r b k e g. (rw g.0 refl, tt))
  keeps prop-key y = λ k g x d. (prop-fit k x g.0 d.0, tt)
  keeps prop-generator y = λ a h k g f d. (method-fit (to a.span (span_of f)) k f g.0 d.0, tt)
  keeps prop-async y = λ a h k g f d. (method-fit (to a.span (span_of f)) k f g.0 d.0, tt)
  keeps prop-async-generator y = λ a h b j k g f d. (method-fit (to a.span (span_of f)) k f g.0 d.0, tt)
  keeps prop-getter y = λ a h k g f d n. (rw (g.0, d.1) refl, tt)
  keeps prop-setter y = λ a h k g f d n. (rw (g.0, setter-fit (items_of f) d.1) refl, tt)
  keeps after-value y = λ a h e g. (rw g.0 refl, tt)
  keeps after-shell y = λ f g. (g.0, tt)
  keeps shell-block y = λ a h ps g v s. let w = params-fit (items_of ps) g.1 in (w, w)
  keeps (key-name {c = c}) y = λ a. keeps-given _ (any_name c a.token a.span) _ (λ n h. (refl, tt))
  keeps key-literal y = λ a. keeps-given _ (key_lit_of a.token a.span) _ (λ e h. (key-lit-fit a.token a.span e h, tt))
  keeps key-computed y = λ a h e g b k. (rw g.0 refl, tt)
  keeps fn-expr y = λ v s. (refl, tt)
  keeps class-expr y = λ v s. (refl, tt)
  keeps paren-expr y = λ a h es g p. (paren-fit (to a.span (span_of es)) (items_of es) g.1, tt)
  keeps lhs-left y = λ e g. g
  keeps new-bare y = λ a h l g n. (rw g.0 refl, tt)
  keeps left-base y = λ e g. g
  keeps left-new y = λ a h l g n b k es d. (rw (g.0, d.1) refl, tt)
  keeps base-primary y = λ e g. g
  keeps new-target y = λ a h b k d j n. (refl, tt)
  keeps (super-name {c = c}) y = λ a h b k d. keeps-given _ (any_name c d.token d.span) _ (λ n j o. (refl, tt))
  keeps super-computed y = λ a h b k e g d j o. (rw g.0 refl, tt)
  keeps super-call y = λ a h b k es g. (g.1, tt)
  keeps import-meta y = λ a h b k d j n. (refl, tt)
  keeps import-call y = λ a h b k es g n. (g.1, tt)
  keeps import-source y = λ a h b k d j i m es g n. (g.1, tt)
  keeps (member-name {c = c}) y = λ l g a h b. keeps-given _ (any_name c b.token b.span) _
      (λ n k. (member-fit false _ l (name_e n.at n.text) g.0 refl, tt))
  keeps (member-private {c = c}) y = λ l g a h b k d. keeps-given _ (any_name c d.token d.span) _
      (λ n j o. (member-fit false _ l (private_e (to b.span n.at) n.text) g.0 refl, tt))
  keeps member-computed y = λ l g a h e d b k.
      (member-fit false _ l (computed_e (to a.span b.span) e) g.0 (rw d.0 refl), tt)
  keeps call y = λ l g a h es k. (call-fit false _ l (items_of es) g.0 k.1, tt)
  keeps (chain-name {c = c}) y = λ l g a h b k d. keeps-given _ (any_name c d.token d.span) _
      (λ n j. (member-fit true (to (span_of l) n.at) l (name_e n.at n.text) g.0 refl, tt))
  keeps (chain-private {c = c}) y = λ l g a h b k d j i. keeps-given _ (any_name c i.token i.span) _
      (λ n m o. (member-fit true (to (span_of l) n.at) l (private_e (to d.span n.at) n.text) g.0 refl, tt))
  keeps chain-computed y = λ l g a h b k d j e w i m.
      (member-fit true (to (span_of l) i.span) l (computed_e (to d.span i.span) e) g.0 (rw w.0 refl), tt)
  keeps chain-call y = λ l g a h b k d j es w. (call-fit true (to (span_of l) (span_of es)) l (items_of es) g.0 w.1, tt)
  keeps tagged-tpl y = λ l g a h ps w n. (rw (g.0, append-fit (texts_of ps) (exprs_of ps) w.1.0 w.1.1) refl, tt)
  keeps arguments y = λ a h es g n. g
  keeps args-end y = λ a h. (refl, refl)
  keeps args-more y = λ e g es k. twice (rw (g.0, k.1) refl)
  keeps args-tail-end y = λ a h. (refl, refl)
  keeps args-tail-more y = λ a h es g n. (g.1, g.1)
  keeps unary-left y = λ e g. g
  keeps update-postfix y = λ l g a b. keeps-given _ (update_here a.token a.span) _ (λ x h n. (rw g.0 refl, tt))
  keeps update-prefix y = λ a. keeps-given _ (update_here a.token a.span) _ (λ x h e g n. (rw g.0 refl, tt))
  keeps await-expr y = λ a h k e g. (rw g.0 refl, tt)
  keeps await-ident y = λ a h k. (refl, tt)
  keeps unary-op y = λ a. keeps-given _ (prefix_here a.token a.span) _ (λ x h e g n. (rw g.0 refl, tt))
  keeps exp-unary y = λ e g. g
  keeps exp-op y = λ l g a h n r d. (bin-fit (to (span_of l) (span_of r)) binary.Exp l r g.0 d.0, tt)
  keeps (level-up b) y = λ e g. g
  keeps (bin-op {c = c} b) y = λ l g a. keeps-given _ (operator_here c a.token a.span) _
      (λ op h p r d n o. (bin-fit (to (span_of l) (span_of r)) op l r g.0 d.0, tt))
  keeps (private-expr {c = c}) y = λ a h b. keeps-given _ (any_name c b.token b.span) _
      (λ n k x. absurd (never-both c.syntax.pedantic y x))
  keeps (private-in {c = c}) y = λ a h b. keeps-given _ (any_name c b.token b.span) _
      (λ n k x d j r g. (rw g.0 refl, tt))
  keeps assign-level y = λ e g. g
  keeps cond-expr y = λ t g b h e d i j a k. (rw (g.0, d.0, k.0) refl, tt)
  keeps assign-expr y = λ l g a. keeps-given _ (assign_here a.token a.span) _ (λ op h n r d. (rw (g.0, d.0) refl, tt))
  keeps yield-alone y = λ a h k. (refl, tt)
  keeps yield-expr y = λ a h k e g. (rw g.0 refl, tt)
  keeps yield-star y = λ a h k b i j e g. (rw g.0 refl, tt)
  keeps exprs-one y = λ e g. twice (rw g.0 refl)
  keeps exprs-more y = λ es g a h e d. twice (append-fit (items_of es) (cons e nil) g.1 (rw d.0 refl))
  keeps seq-expr y = λ es g. (seq-fit (items_of es) g.1, tt)
  keeps (assign-pattern {c = c}) y = λ l g a h. keeps-given _ (as_literal c.context.strict l) _
      (λ p k r d. (rw (literal-fit c.context.strict l p k g.0, d.0) refl, tt))
  keeps (pat-bind {c = c}) y = λ a. keeps-given _ (binding c a.token a.span) _ (λ n h. (refl, tt))
  keeps pat-array y = λ a h es g. (g.1, tt)
  keeps pat-object y = λ a h es g. (g.1, tt)
  keeps element-pat y = λ p g. g
  keeps element-default y = λ p g a h e d. (rw (g.0, d.0) refl, tt)
  keeps pat-rest y = λ a h p g. (rw g.0 refl, tt)
  keeps pat-elements-end y = λ a h. (refl, refl)
  keeps pat-elements-hole y = λ a h es g. twice (put-fit (items_of es) g.1)
  keeps pat-elements-more y = λ e g es k. twice (rw (g.0, k.1) refl)
  keeps pat-elements-rest y = λ e g a h. twice (rw g.0 refl)
  keeps pat-tail-end y = λ a h. (refl, refl)
  keeps pat-tail-more y = λ a h es g. g
  keeps pat-props-end y = λ a h. (refl, refl)
  keeps pat-props-more y = λ e g es k. twice (rw (g.0, k.1) refl)
  keeps pat-props-rest y = λ e g i a h. twice (rw g.0 refl)
  keeps pat-props-tail-end y = λ a h. (refl, refl)
  keeps pat-props-tail-more y = λ a h es g. g
  keeps pat-prop-key y = λ k g a h p d. (rw (g.0, d.0) refl, tt)
  keeps (pat-prop-short {c = c}) y = λ a. keeps-given _ (any_name c a.token a.span) _ (λ n h r. (refl, tt))
  keeps (pat-prop-default {c = c}) y = λ a. keeps-given _ (any_name c a.token a.span) _
      (λ n h b k e g. (rw g.0 refl, tt))
  keeps params-end y = λ a h. (refl, refl)
  keeps params-more y = λ e g es k. twice (rw (g.0, k.1) refl)
  keeps params-rest y = λ e g a h. twice (rw g.0 refl)
  keeps params-tail-end y = λ a h. (refl, refl)
  keeps params-tail-more y = λ a h es g. g
  keeps covered-params y = λ a h es g. keeps-given _ (as_params es) _
      (λ ps k w. twice (elements-fit binding_role (comma_of es) (items_of es) ps k g.1))
  keeps (arrow-name {c = c}) y = λ a. keeps-given _ (arrow_name c a.token a.span) _ (λ n h b x z e g. (rw g.0 refl, tt))
  keeps arrow-params y = λ hs g a x z e d. (rw (d.0, g.1) refl, tt)
  keeps (arrow-async-name {c = c}) y = λ a. keeps-given _ (async_name c a.token a.span) _
      (λ m j b l. keeps-given _ (async_param c b.token b.span) _ (λ n h x z e d. (rw d.0 refl, tt)))
  keeps (arrow-async-params {c = c}) y = λ b. keeps-given _ (async_name c b.token b.span) _
      (λ m j hs g a x z e d. (rw (d.0, g.1) refl, tt))
  keeps body-block y = λ v s. (refl, tt)
  keeps body-expr y = λ e g. (g.0, tt)

  mutual
    placed : {hook : Hook F C K} {s : Symbol} {c : Scope} {xs ys : List TokenAndSpan} {t : Answer F C K s}
        → Reads hook s c xs ys t → c.syntax.pedantic ≡ true → Placed F C K s t
    placed {c = c} (by p d) y = placed-side c d y (alike p) (keeps p y)

    placed-side : {hook : Hook F C K} {s : Symbol} {r : Side F C K s} {xs ys : List TokenAndSpan} {t : Answer F C K s}
        (c : Scope) → Follows hook s r xs ys t → c.syntax.pedantic ≡ true → Alike c r → Keeps (Placed F C K s) r
        → Placed F C K s t
    placed-side c gave y m k = k
    placed-side c (took {a = a} d) y m k = placed-side c d y (m a) (k a)
    placed-side c (held b d) y m k = placed-side c d y m (k b)
    placed-side c (calm b d) y m k = placed-side c d y m k
    placed-side c (calm-two b d) y m k = placed-side c d y m k
    placed-side c (part {e = t} e d) y m k = placed-side c d y (m.1 t) (k t (placed e (ap (λ v. v.pedantic) m.0 ∙ y)))
    placed-side c (heard {v = v} h d) y m k = placed-side c d y (m v _) (k v _)

  pub privates : {hook : Hook F C K} {s : Symbol} {c : Scope} {xs ys : List TokenAndSpan} {t : Answer F C K s}
      → Reads hook s c xs ys t → c.syntax.pedantic ≡ true → privates_ok false t ≡ true
  privates d y = (placed d y).0

  -- of a list, of its items too
  pub privates-listed : {hook : Hook F C K} {s : Symbol} {c : Scope} {xs ys : List TokenAndSpan} {t : Answer F C K s}
      → Reads hook s c xs ys t → c.syntax.pedantic ≡ true → Listed s t
  privates-listed d y = (placed d y).1
