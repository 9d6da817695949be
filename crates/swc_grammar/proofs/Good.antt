-- What holds of every tree that the grammar derives: it has no `Invalid` in it, its operators group as the levels say,
-- and no `??` is on the left of `||` or `&&`. One clause per production says that its node keeps this; the induction is
-- done once.
use Rattle.std.specs.Prelude.{◌≡◌, ℕ, suc, ◌≤◌, Bool, true, false, not, ◌&&◌, ◌||◌, List, Option, Some, None, IsTrue, nat_le, nat_lt, nat_eq, if◌then◌else◌}
use Rattle.std.proofs.Common.{refl, subst, arith}
use Rattle.std.proofs.lemmas.Bool.{eqb-true, ltb-true, le-leb, lt-ltb}
use Rattle.swc_context.specs.{Operators.precedence_of, declared.operator.BinaryOp.BinaryOp, declared.operator.BinaryOp.BinaryOp as binary, declared.span.Span.Span, declared.word.Word.Word as word}
use Rattle.swc_input.specs.{declared.token.Token.Token, declared.token.Token.Token as token, declared.token.TokenAndSpan.TokenAndSpan}
use Rattle.swc_ast.specs.Patterns.{put_element}
use Rattle.swc_ast.specs.Tree.{Kind, Tree, node, Trees, nil, cons, span_of, unary as unary_kind, bin as bin_kind, update as update_kind, cond as cond_kind, await as await_kind, assign as assign_kind, item, spread, param}
use Rattle.swc_ast.specs.Trees.{to, bin_e, tightness, least_left, min_right, exp_ok, is_unary, nullish_ok, logical_ok, is_valid, are_valid, is_invalid, is_grouped, are_grouped, grouped_at, items_of, at_place, method_e, value_e, prop_of, regex_e, text_e, trees_append, texts_of, exprs_of, held_expr, held_exprs, seq_of, paren_e, params_e, pattern_of, setter_parts, is_chain, chain_e, link_e, member_e, call_e, name_e, private_e, computed_e, hole_e, left_ok, comma_of}
use Rattle.swc_grammar.specs.Scope.{Scope}
use Rattle.swc_grammar.specs.Rule.{Rule, gives, never, take, check, peek, peek_two, read, hear, given, ◌>>=◌}
use Rattle.swc_grammar.specs.Symbols.{Symbol, Expr, Level, Unary, Lhs, Left, Base, Primary, Literal, Template, Parts, Prop, Key, AfterKey, Answer, Body, Value, Side}
use Rattle.swc_grammar.specs.Parts.{reference, any_name, lit_of, regex_of, flags_ok, cooked_of, text_by, text_of, key_lit_of, prefix_here, update_here, assign_here, operator_here, binding}
use Rattle.swc_grammar.specs.Grammar.{Production, ident-expr, lit, paren-expr, unary-left, unary-op, exp-unary, base-primary, super-name, super-computed, super-call, import-meta, import-call, import-source, left-base, member-name, member-private, member-computed, call, args-end, args-more, args-tail-end, args-tail-more, lhs-left, new-bare, left-new, new-target, chain-name, chain-private, chain-computed, chain-call, tagged-tpl, arguments, primary-template, template, parts-end, parts-more, regex-alone, regex-slash, exp-op, primary-literal, this-expr, array-lit, elements-end, elements-hole, elements-more, tail-end, tail-more, item-expr, item-spread, fn-expr, class-expr, object-lit, props-end, props-more, props-tail-end, props-tail-more, prop-spread, prop-short, prop-cover, prop-key, prop-generator, prop-async, prop-async-generator, prop-getter, prop-setter, after-value, after-shell, shell-block, key-name, key-literal, key-computed, level-up, bin-op, private-expr, private-in, assign-level, update-postfix, update-prefix, await-expr, await-ident, cond-expr, assign-expr, yield-alone, yield-expr, yield-star, exprs-one, exprs-more, seq-expr, pat-bind, pat-array, pat-object, element-pat, element-default, pat-rest, pat-elements-end, pat-elements-hole, pat-elements-more, pat-elements-rest, pat-tail-end, pat-tail-more, pat-props-end, pat-props-more, pat-props-rest, pat-props-tail-end, pat-props-tail-more, pat-prop-key, pat-prop-short, pat-prop-default, params-end, params-more, params-rest, params-tail-end, params-tail-more, async-ident, async-call, arrow-async-name, arrow-async-params, arrow-name, arrow-params, body-block, body-expr, assign-pattern, covered-params}
use Rattle.swc_grammar.specs.Reads.{Reads, by, Follows, gave, took, held, calm, part, heard, calm-two}
use Rattle.swc_grammar.specs.Arrows.{arrow_name, async_name, async_param}
use Rattle.swc_grammar.specs.Cover.{as_literal, as_params, binding as binding_role}
use Rattle.swc_bodies.specs.Readings.{Hook}
use Rattle.swc_grammar.proofs.Answers.{inj, both, only}
use Rattle.swc_grammar.proofs.Kept.{literal-kept, literal-tight, elements-kept}

-- how loosely a symbol's trees may hold together
abbrev pub loosest : Symbol → ℕ
loosest (Level k) = k
loosest Unary = 12
loosest (Lhs b) = 12
loosest (Left b) = 12
loosest (Base b) = 12
loosest Primary = 12
loosest Literal = 12
loosest (Template is_tagged) = 12
loosest s = 0

-- what holds of each tree of a symbol
pub record Good (F C K : Type 0) (s : Symbol) (t : Answer F C K s) : Type 0 where
  pub valid : is_valid t ≡ true
  pub left : left_ok t ≡ true
  pub grouped : is_grouped t ≡ true
  pub tight : loosest s ≤ tightness t

-- a side gives what is so, where its parts are so
abbrev Keeps : {F C K A : Type 0} → (A → Type 0) → Rule Symbol (Answer F C K) Body (Value F C K) A → Type 0
Keeps P (gives a) = P a
Keeps P never = Unit {0}
Keeps P (take f) = (a : TokenAndSpan) → Keeps P (f a)
Keeps P (check b r) = b ≡ true → Keeps P r
Keeps P (peek p r) = Keeps P r
Keeps P (peek_two p r) = Keeps P r
Keeps {F} {C} {K} P (read s c f) = (e : Answer F C K s) → Good F C K s e → Keeps P (f e)
Keeps {F} {C} {K} P (hear b c f) = (v : Value F C K b) (s : Span) → Keeps P (f v s)

all-seven : (a b c d e l r : Bool) → IsTrue a → IsTrue b → IsTrue c → IsTrue d → IsTrue e → l ≡ true → r ≡ true
    → ((a && b && c && d && e) && (l && (r && true))) ≡ true
all-seven a b c d e l r ha hb hc hd he hl hr = rw (ha, hb, hc, hd, he, hl, hr) refl

-- an operator below `**`
plain : {F C K : Type 0} (op : BinaryOp) (l : Tree F C K) → precedence_of op ≤ 10
    → (least_left op ≡ precedence_of op) × (min_right op ≡ precedence_of op) × (exp_ok op l ≡ true)
plain binary.Exp l h = absurd (omega arith)
plain op l h = (refl, refl, refl)

last-of-five : (a b c d e : Bool) → (a && b && c && d && e) ≡ true → e ≡ true
last-of-five true true true true e h = h
last-of-five true true true false e h = absurd cc
last-of-five true true false d e h = absurd cc
last-of-five true false c d e h = absurd cc
last-of-five false b c d e h = absurd cc

module _ {F C K : Type 0} where
  -- a tree whose operators group has none of `??` on the left of `||` or `&&` at its top
  grouped-left : (t : Tree F C K) → is_grouped t ≡ true → left_ok t ≡ true
  grouped-left (bin_e s op l r) h =
      last-of-five (nat_le (least_left op) (tightness l)) (nat_lt (min_right op) (tightness r)) (exp_ok op l)
      (nullish_ok op l r) (logical_ok op l) (both (grouped_at (bin_e s op l r)) (are_grouped (cons l (cons r nil))) h).0
  grouped-left t h = refl

  -- a tree that holds tightest, as it has no operator
  leaf : {s : Symbol} (t : Answer F C K s) → is_valid t ≡ true → left_ok t ≡ true → is_grouped t ≡ true
      → loosest s ≤ tightness t → Good F C K s t
  leaf t v l g h = record { valid = v; left = l; grouped = g; tight = h }

  -- the same tree, of a looser symbol
  looser : {s s' : Symbol} {t : Tree F C K} → loosest s' ≤ tightness t → Good F C K s t → Good F C K s' t
  looser h g = record { valid = g.valid; left = g.left; grouped = g.grouped; tight = h }

  land : {x y : Tree F C K} → Some x ≡ Some y → Good F C K Literal x → Good F C K Literal y
  land {x = x} {y = y} p g = subst (λ v. Good F C K Literal v) (inj x y p) g

  lit-good : (t : Token) (s : Span) (e : Tree F C K) → lit_of t s ≡ Some e → Good F C K Literal e
  lit-good (token.Word word.Null) s e h = land h (leaf _ refl refl refl (omega arith))
  lit-good (token.Word word.True) s e h = land h (leaf _ refl refl refl (omega arith))
  lit-good (token.Word word.False) s e h = land h (leaf _ refl refl refl (omega arith))
  lit-good (token.Num raw) s e h = land h (leaf _ refl refl refl (omega arith))
  lit-good (token.BigInt raw) s e h = land h (leaf _ refl refl refl (omega arith))
  lit-good (token.Str value raw) s e h = land h (leaf _ refl refl refl (omega arith))
  lit-good t s e h = absurd cc

  keeps-given : {A D : Type 0} (P : D → Type 0) (o : Option A) (k : A → Rule Symbol (Answer F C K) Body (Value F C K) D)
      → ((x : A) → o ≡ Some x → Keeps P (k x)) → Keeps P (given o >>= k)
  keeps-given P None k f = tt
  keeps-given P (Some x) k f = f x refl

  -- a node of an operator
  bin-good : (k : ℕ) (op : BinaryOp) (l r : Tree F C K)
      → IsTrue (nat_lt k 11) → nat_eq (precedence_of op) k ≡ true → nullish_ok op l r ≡ true → logical_ok op l ≡ true
      → Good F C K (Level k) l → Good F C K (Level (suc k)) r
      → Good F C K (Level k) (bin_e (to (span_of l) (span_of r)) op l r)
  bin-good k op l r h p n g dl dr =
      let e : precedence_of op ≡ k = eqb-true (precedence_of op) k p in
      let small = ltb-true k 11 h in
      let (least, least_right, fine) = plain op l (omega arith) in
      let looser : nat_le (least_left op) (tightness l) ≡ true =
      le-leb (least_left op) (tightness l) (let t = dl.tight in omega arith) in
      let below : nat_lt (min_right op) (tightness r) ≡ true =
      lt-ltb (min_right op) (tightness r) (let t = dr.tight in omega arith) in
      leaf _ (rw (dl.valid, dr.valid) refl) g
      (all-seven _ _ (exp_ok op l) (nullish_ok op l r) (logical_ok op l) (is_grouped l) (is_grouped r)
      looser below fine n g dl.grouped dr.grouped) (omega arith)

  exp-good : (l r : Tree F C K) → not (is_unary l) ≡ true → Good F C K Unary l → Good F C K (Level 11) r
      → Good F C K (Level 11) (bin_e (to (span_of l) (span_of r)) binary.Exp l r)
  exp-good l r n dl dr =
      let looser : nat_le 12 (tightness l) ≡ true = le-leb 12 (tightness l) dl.tight in
      let below : nat_lt 10 (tightness r) ≡ true = lt-ltb 10 (tightness r) (let t = dr.tight in omega arith) in
      leaf _ (rw (dl.valid, dr.valid) refl) refl
      (all-seven _ _ (not (is_unary l)) true true (is_grouped l) (is_grouped r)
      looser below n refl refl dl.grouped dr.grouped) (omega arith)

  -- what holds of a list holds of its items
  pub items-valid : (t : Tree F C K) → is_valid t ≡ true → are_valid (items_of t) ≡ true
  items-valid (node k s ts) h = (both (not (is_invalid k)) (are_valid ts) h).1

  items-grouped : (t : Tree F C K) → is_grouped t ≡ true → are_grouped (items_of t) ≡ true
  items-grouped (node k s ts) h = (both (grouped_at (node k s ts)) (are_grouped ts) h).1

  key-lit-good : (t : Token) (s : Span) (e : Tree F C K) → key_lit_of t s ≡ Some e → Good F C K Key e
  key-lit-good (token.Num raw) s e h = subst (λ v. Good F C K Key v) (inj _ e h) (leaf _ refl refl refl (omega arith))
  key-lit-good (token.BigInt raw) s e h =
      subst (λ v. Good F C K Key v) (inj _ e h) (leaf _ refl refl refl (omega arith))
  key-lit-good (token.Str value raw) s e h =
      subst (λ v. Good F C K Key v) (inj _ e h) (leaf _ refl refl refl (omega arith))
  key-lit-good t s e h = absurd cc

  -- nor does it matter where a node is
  moved-at : (k : Kind F C K) (s s' : Span) (ts : Trees F C K) → grouped_at (node k s ts) ≡ grouped_at (node k s' ts)
  moved-at (bin_kind op) s s' (cons l (cons r nil)) = refl
  moved-at (bin_kind op) s s' ts = refl
  moved-at (unary_kind op) s s' (cons e nil) = refl
  moved-at (unary_kind op) s s' ts = refl
  moved-at (update_kind op is_prefix) s s' (cons e nil) = refl
  moved-at (update_kind op is_prefix) s s' ts = refl
  moved-at await_kind s s' (cons e nil) = refl
  moved-at await_kind s s' ts = refl
  moved-at cond_kind s s' (cons e (cons d (cons a nil))) = refl
  moved-at cond_kind s s' ts = refl
  moved-at (assign_kind op) s s' (cons l (cons r nil)) = refl
  moved-at (assign_kind op) s s' ts = refl
  moved-at k s s' ts = refl

  moved-grouped : (s : Span) (t : Tree F C K) → is_grouped t ≡ true → is_grouped (at_place s t) ≡ true
  moved-grouped s (node k s' ts) h =
      let (own, all) = both (grouped_at (node k s' ts)) (are_grouped ts) h in rw (moved-at k s s' ts, own, all) refl

  moved-valid : (s : Span) (t : Tree F C K) → is_valid t ≡ true → is_valid (at_place s t) ≡ true
  moved-valid s (node k s' ts) h = h

  -- properties
  method-good : {s s' : Symbol} (at : Span) (k f : Tree F C K) → Good F C K s k → Good F C K s' f
      → Good F C K Prop (method_e at k f)
  method-good at k f g d =
      leaf _ (rw (g.valid, moved-valid at f d.valid) refl) refl
      (rw (g.grouped, moved-grouped at f d.grouped) refl) (omega arith)

  params-valid : (ps : Trees F C K) → are_valid ps ≡ true → are_valid (params_e ps) ≡ true
  params-valid nil h = refl
  params-valid (cons p ps) h = let (x, y) = both (is_valid p) (are_valid ps) h in rw (x, params-valid ps y) refl

  params-grouped : (ps : Trees F C K) → are_grouped ps ≡ true → are_grouped (params_e ps) ≡ true
  params-grouped nil h = refl
  params-grouped (cons p ps) h = let (x, y) = both (is_grouped p) (are_grouped ps) h in rw (x, params-grouped ps y) refl

  pattern-valid : (p : Tree F C K) → is_valid p ≡ true → is_valid (pattern_of p) ≡ true
  pattern-valid (node param s (cons p ts)) h = (both (is_valid p) (are_valid ts) h).0
  pattern-valid t h = h

  pattern-grouped : (p : Tree F C K) → is_grouped p ≡ true → is_grouped (pattern_of p) ≡ true
  pattern-grouped (node param s (cons p ts)) h = (both (is_grouped p) (are_grouped ts) h).0
  pattern-grouped t h = h

  setter-valid : (ts : Trees F C K) → are_valid ts ≡ true → are_valid (setter_parts ts) ≡ true
  setter-valid nil h = refl
  setter-valid (cons b nil) h = h
  setter-valid (cons b (cons p ps)) h =
      let (x, y) = both (is_valid b) (are_valid (cons p ps)) h in
      rw (pattern-valid p (both (is_valid p) (are_valid ps) y).0, x) refl

  setter-grouped : (ts : Trees F C K) → are_grouped ts ≡ true → are_grouped (setter_parts ts) ≡ true
  setter-grouped nil h = refl
  setter-grouped (cons b nil) h = h
  setter-grouped (cons b (cons p ps)) h =
      let (x, y) = both (is_grouped b) (are_grouped (cons p ps)) h in
      rw (pattern-grouped p (both (is_grouped p) (are_grouped ps) y).0, x) refl

  prop-good : (k x : Tree F C K) → Good F C K Key k → Good F C K AfterKey x → Good F C K Prop (prop_of k x)
  prop-good k (value_e s e) g d =
      let (v, w) = both (is_valid e) true d.valid in
      let (p, q) = both (is_grouped e) true d.grouped in
      leaf _ (rw (g.valid, v) refl) refl (rw (g.grouped, p) refl) (omega arith)
  prop-good k x g d = method-good _ k x g d

  -- regular expressions, and texts of templates
  regex-is : (t : Token) (s : Span) (e : Tree F C K) → regex_of t s ≡ Some e
      → (exp : List ℕ) × (flags : List ℕ) × (regex_e s exp flags ≡ e)
  regex-is (token.Regex exp flags) s e h = (exp, flags, inj (regex_e s exp flags) e (only (flags_ok flags) h).1)
  regex-is t s e h = absurd cc

  regex-good : (t : Token) (s : Span) (e : Tree F C K) → regex_of t s ≡ Some e → Good F C K Primary e
  regex-good t s e h = let (exp, flags, p) = regex-is t s e h in
      subst (λ v. Good F C K Primary v) p (leaf (regex_e s exp flags) refl refl refl (omega arith))

  regex-moved : (t : Token) (s s' : Span) (e : Tree F C K) → regex_of t s ≡ Some e → Good F C K Primary (at_place s' e)
  regex-moved t s s' e h = let (exp, flags, p) = regex-is t s e h in
      subst (λ v. Good F C K Primary (at_place s' v)) p (leaf (regex_e s' exp flags) refl refl refl (omega arith))

  text-good : (is_tagged is_last : Bool) (t : Token) (s : Span) (e : Tree F C K)
      → text_of is_tagged is_last t s ≡ Some e → Good F C K (Parts is_tagged) e
  text-good is_tagged is_last (token.Template raw cooked) s e h = by-cooked (cooked_of is_tagged cooked) h
    where
      by-cooked : (o : Option (Option (List ℕ))) → text_by is_last s raw o ≡ Some e → Good F C K (Parts is_tagged) e
      by-cooked None h = absurd cc
      by-cooked (Some o) h =
          subst (λ v. Good F C K (Parts is_tagged) v) (inj (text_e s is_last o raw) e h)
          (leaf (text_e s is_last o raw) refl refl refl (omega arith))
  text-good is_tagged is_last t s e h = absurd cc

  -- what holds of both lists of a template holds of its parts
  append-valid : (ts us : Trees F C K) → are_valid ts ≡ true → are_valid us ≡ true
      → are_valid (trees_append ts us) ≡ true
  append-valid nil us h k = k
  append-valid (cons t ts) us h k =
      let (x, y) = both (is_valid t) (are_valid ts) h in rw (x, append-valid ts us y k) refl

  append-grouped : (ts us : Trees F C K) → are_grouped ts ≡ true → are_grouped us ≡ true
      → are_grouped (trees_append ts us) ≡ true
  append-grouped nil us h k = k
  append-grouped (cons t ts) us h k =
      let (x, y) = both (is_grouped t) (are_grouped ts) h in rw (x, append-grouped ts us y k) refl

  texts-valid : (ps : Tree F C K) → is_valid ps ≡ true → are_valid (texts_of ps) ≡ true
  texts-valid (node k s nil) h = refl
  texts-valid (node k s (cons t ts)) h = items-valid t
      (both (is_valid t) (are_valid ts) (items-valid (node k s (cons t ts)) h)).0

  exprs-valid : (ps : Tree F C K) → is_valid ps ≡ true → are_valid (exprs_of ps) ≡ true
  exprs-valid (node k s nil) h = refl
  exprs-valid (node k s (cons t nil)) h = refl
  exprs-valid (node k s (cons t (cons u ts))) h =
      items-valid u (both (is_valid u) (are_valid ts) (both (is_valid t) (are_valid (cons u ts))
      (items-valid (node k s (cons t (cons u ts))) h)).1).0

  texts-grouped : (ps : Tree F C K) → is_grouped ps ≡ true → are_grouped (texts_of ps) ≡ true
  texts-grouped (node k s nil) h = refl
  texts-grouped (node k s (cons t ts)) h = items-grouped t
      (both (is_grouped t) (are_grouped ts) (items-grouped (node k s (cons t ts)) h)).0

  exprs-grouped : (ps : Tree F C K) → is_grouped ps ≡ true → are_grouped (exprs_of ps) ≡ true
  exprs-grouped (node k s nil) h = refl
  exprs-grouped (node k s (cons t nil)) h = refl
  exprs-grouped (node k s (cons t (cons u ts))) h =
      items-grouped u (both (is_grouped u) (are_grouped ts)
      (both (is_grouped t) (are_grouped (cons u ts)) (items-grouped (node k s (cons t (cons u ts))) h)).1).0

  parts-valid : (ps : Tree F C K) → is_valid ps ≡ true → are_valid (trees_append (texts_of ps) (exprs_of ps)) ≡ true
  parts-valid ps h = append-valid (texts_of ps) (exprs_of ps) (texts-valid ps h) (exprs-valid ps h)

  parts-grouped : (ps : Tree F C K) → is_grouped ps ≡ true
      → are_grouped (trees_append (texts_of ps) (exprs_of ps)) ≡ true
  parts-grouped ps h = append-grouped (texts_of ps) (exprs_of ps) (texts-grouped ps h) (exprs-grouped ps h)

  -- what holds of the items of a list holds of what they hold, and of the sequence of that
  held-valid : (t : Tree F C K) → is_valid t ≡ true → is_valid (held_expr t) ≡ true
  held-valid (node item s (cons e ts)) h = (both (is_valid e) (are_valid ts) h).0
  held-valid (node spread s (cons d (cons e ts))) h =
      (both (is_valid e) (are_valid ts) (both (is_valid d) (are_valid (cons e ts)) h).1).0
  held-valid t h = h

  held-grouped : (t : Tree F C K) → is_grouped t ≡ true → is_grouped (held_expr t) ≡ true
  held-grouped (node item s (cons e ts)) h = (both (is_grouped e) (are_grouped ts) h).0
  held-grouped (node spread s (cons d (cons e ts))) h =
      (both (is_grouped e) (are_grouped ts) (both (is_grouped d) (are_grouped (cons e ts)) h).1).0
  held-grouped t h = h

  all-valid : (ts : Trees F C K) → are_valid ts ≡ true → are_valid (held_exprs ts) ≡ true
  all-valid nil h = refl
  all-valid (cons t ts) h = let (x, y) = both (is_valid t) (are_valid ts) h in rw (held-valid t x, all-valid ts y) refl

  all-grouped : (ts : Trees F C K) → are_grouped ts ≡ true → are_grouped (held_exprs ts) ≡ true
  all-grouped nil h = refl
  all-grouped (cons t ts) h =
      let (x, y) = both (is_grouped t) (are_grouped ts) h in rw (held-grouped t x, all-grouped ts y) refl

  seq-valid : (ts : Trees F C K) → are_valid ts ≡ true → is_valid (seq_of ts) ≡ true
  seq-valid nil h = refl
  seq-valid (cons e nil) h = (both (is_valid e) true h).0
  seq-valid (cons e (cons u us)) h = h

  seq-grouped : (ts : Trees F C K) → are_grouped ts ≡ true → is_grouped (seq_of ts) ≡ true
  seq-grouped nil h = refl
  seq-grouped (cons e nil) h = (both (is_grouped e) true h).0
  seq-grouped (cons e (cons u us)) h = h

  seq-good : (ts : Trees F C K) → are_valid ts ≡ true → are_grouped ts ≡ true → Good F C K Expr (seq_of ts)
  seq-good ts v g =
      let h = seq-grouped ts g in leaf (seq_of ts) (seq-valid ts v) (grouped-left (seq_of ts) h) h (omega arith)

  paren-good : (s : Span) (ts : Trees F C K) → are_valid ts ≡ true → are_grouped ts ≡ true
      → Good F C K Primary (paren_e s (seq_of (held_exprs ts)))
  paren-good s ts v g =
      let w = seq-valid (held_exprs ts) (all-valid ts v) in
      let h = seq-grouped (held_exprs ts) (all-grouped ts g) in
      wrapped s (seq_of (held_exprs ts)) w h
    where
      wrapped : (s : Span) (e : Tree F C K) → is_valid e ≡ true → is_grouped e ≡ true → Good F C K Primary (paren_e s e)
      wrapped s e v g = leaf (paren_e s e) (rw v refl) refl (rw g refl) (omega arith)

  -- a link, as one of an optional chain or not
  link-good : {b : Bool} (is_optional : Bool) (l t : Tree F C K) → Good F C K (Left b) t
      → Good F C K (Left b) (link_e is_optional l t)
  link-good {b = b} is_optional l t g = by-chain (is_optional || is_chain l)
    where
      by-chain : (o : Bool) → Good F C K (Left b) (if o then chain_e is_optional t else t)
      by-chain false = g
      by-chain true = leaf (chain_e is_optional t) (rw g.valid refl) refl (rw g.grouped refl) (omega arith)

  member-good : {b : Bool} (is_optional : Bool) (s : Span) (l prop : Tree F C K) → Good F C K (Left b) l
      → is_valid prop ≡ true → is_grouped prop ≡ true → Good F C K (Left b) (link_e is_optional l (member_e s l prop))
  member-good is_optional s l prop g v w =
      link-good is_optional l (member_e s l prop)
      (leaf (member_e s l prop) (rw (g.valid, v) refl) refl (rw (g.grouped, w) refl) (omega arith))

  call-good : {b : Bool} {s' : Symbol} (is_optional : Bool) (s : Span) (l es : Tree F C K) → Good F C K (Left b) l
      → Good F C K s' es → Good F C K (Left b) (link_e is_optional l (call_e s l (items_of es)))
  call-good is_optional s l es g k =
      link-good is_optional l (call_e s l (items_of es))
      (leaf (call_e s l (items_of es)) (rw (g.valid, items-valid es k.valid) refl) refl
      (rw (g.grouped, items-grouped es k.grouped) refl) (omega arith))

  -- elements after a hole
  put-valid : (ps : Trees F C K) → are_valid ps ≡ true → are_valid (put_element true hole_e ps) ≡ true
  put-valid nil h = refl
  put-valid (cons p ps) h = h

  put-grouped : (ps : Trees F C K) → are_grouped ps ≡ true → are_grouped (put_element true hole_e ps) ≡ true
  put-grouped nil h = refl
  put-grouped (cons p ps) h = h

  -- one clause per production
  keeps : {s : Symbol} {c : Scope} {r : Side F C K s} → Production s c r → Keeps (Good F C K s) r
  keeps (ident-expr {c = c}) =
      λ a. keeps-given _ (reference c a.token a.span) _ (λ n h. leaf _ refl refl refl (omega arith))
  keeps (async-ident {c = c}) =
      λ a. keeps-given _ (async_name c a.token a.span) _ (λ n h. leaf _ refl refl refl (omega arith))
  keeps (async-call {c = c}) = λ a. keeps-given _ (async_name c a.token a.span) _
      (λ n h d b l p es g k. leaf _ (items-valid es g.valid) refl (items-grouped es g.grouped) (omega arith))
  keeps this-expr = λ a h. leaf _ refl refl refl (omega arith)
  keeps lit = λ a. keeps-given _ (lit_of a.token a.span) _ (λ e h. lit-good a.token a.span e h)
  keeps primary-literal = λ e g. looser g.tight g
  keeps array-lit = λ a h es g. leaf _ (items-valid es g.valid) refl (items-grouped es g.grouped) (omega arith)
  keeps elements-end = λ a h. leaf _ refl refl refl (omega arith)
  keeps elements-hole = λ a h es g. leaf _ (items-valid es g.valid) refl (items-grouped es g.grouped) (omega arith)
  keeps elements-more = λ e g es k.
      leaf _ (rw (g.valid, items-valid es k.valid) refl) refl (rw (g.grouped, items-grouped es k.grouped) refl)
      (omega arith)
  keeps tail-end = λ a h. leaf _ refl refl refl (omega arith)
  keeps tail-more = λ a h es g. leaf _ (items-valid es g.valid) refl (items-grouped es g.grouped) (omega arith)
  keeps item-expr = λ e g. leaf _ (rw g.valid refl) refl (rw g.grouped refl) (omega arith)
  keeps item-spread = λ a h e g. leaf _ (rw g.valid refl) refl (rw g.grouped refl) (omega arith)
  keeps fn-expr = λ v s. leaf _ refl refl refl (omega arith)
  keeps class-expr = λ v s. leaf _ refl refl refl (omega arith)
  keeps object-lit = λ a h ps g. leaf _ (items-valid ps g.valid) refl (items-grouped ps g.grouped) (omega arith)
  keeps props-end = λ a h. leaf _ refl refl refl (omega arith)
  keeps props-more = λ p g ps k.
      leaf _ (rw (g.valid, items-valid ps k.valid) refl) refl (rw (g.grouped, items-grouped ps k.grouped) refl)
      (omega arith)
  keeps props-tail-end = λ a h. leaf _ refl refl refl (omega arith)
  keeps props-tail-more = λ a h ps g. leaf _ (items-valid ps g.valid) refl (items-grouped ps g.grouped) (omega arith)
  keeps prop-spread = λ a h e g. leaf _ (rw g.valid refl) refl (rw g.grouped refl) (omega arith)
  keeps (prop-short {c = c}) =
      λ a. keeps-given _ (any_name c a.token a.span) _ (λ n h r. leaf _ refl refl refl (omega arith))
  keeps (prop-cover {c = c}) = λ a. keeps-given _ (any_name c a.token a.span) _
      (λ n h r b k e g. leaf _ (rw g.valid refl) refl (rw g.grouped refl) (omega arith))
  keeps prop-key = λ k g x d. prop-good k x g d
  keeps prop-generator = λ a h k g f d. method-good _ k f g d
  keeps prop-async = λ a h k g f d. method-good _ k f g d
  keeps prop-async-generator = λ a h b j k g f d. method-good _ k f g d
  keeps prop-getter = λ a h k g f d n.
      leaf _ (rw (g.valid, items-valid f d.valid) refl) refl (rw (g.grouped, items-grouped f d.grouped) refl)
      (omega arith)
  keeps prop-setter = λ a h k g f d n.
      leaf _ (rw (g.valid, setter-valid (items_of f) (items-valid f d.valid)) refl) refl
      (rw (g.grouped, setter-grouped (items_of f) (items-grouped f d.grouped)) refl) (omega arith)
  keeps after-value = λ a h e g. leaf _ (rw g.valid refl) refl (rw g.grouped refl) (omega arith)
  keeps after-shell = λ f g. looser (omega arith) g
  keeps shell-block = λ a h ps g v s.
      leaf _ (params-valid (items_of ps) (items-valid ps g.valid)) refl
      (params-grouped (items_of ps) (items-grouped ps g.grouped)) (omega arith)
  keeps (key-name {c = c}) =
      λ a. keeps-given _ (any_name c a.token a.span) _ (λ n h. leaf _ refl refl refl (omega arith))
  keeps key-literal = λ a. keeps-given _ (key_lit_of a.token a.span) _ (λ e h. key-lit-good a.token a.span e h)
  keeps key-computed = λ a h e g b k. leaf _ (rw g.valid refl) refl (rw g.grouped refl) (omega arith)
  keeps paren-expr = λ a h es g p. paren-good _ (items_of es) (items-valid es g.valid) (items-grouped es g.grouped)
  keeps regex-alone = λ a. keeps-given _ (regex_of a.token a.span) _ (λ e h. regex-good a.token a.span e h)
  keeps regex-slash = λ a h b. keeps-given _ (regex_of b.token b.span) _ (λ e k. regex-moved b.token b.span _ e k)
  keeps primary-template = λ e g. looser g.tight g
  keeps template = λ a h ps g. leaf _ (parts-valid ps g.valid) refl (parts-grouped ps g.grouped) (omega arith)
  keeps (parts-end {is_tagged = is_tagged}) = λ a. keeps-given _ (text_of is_tagged true a.token a.span) _
      (λ t h b k. let g = text-good is_tagged true a.token a.span t h in
      leaf _ (rw g.valid refl) refl (rw g.grouped refl) (omega arith))
  keeps (parts-more {is_tagged = is_tagged}) = λ a. keeps-given _ (text_of is_tagged false a.token a.span) _
      (λ t h b k e d j i ps w. let g = text-good is_tagged false a.token a.span t h in
      leaf _ (rw (g.valid, texts-valid ps w.valid, d.valid, exprs-valid ps w.valid) refl) refl
      (rw (g.grouped, texts-grouped ps w.grouped, d.grouped, exprs-grouped ps w.grouped) refl) (omega arith))
  keeps lhs-left = λ e g. looser g.tight g
  keeps new-bare = λ a h l g n. leaf _ (rw g.valid refl) refl (rw g.grouped refl) (omega arith)
  keeps left-base = λ e g. looser g.tight g
  keeps left-new = λ a h l g n b k es d.
      leaf _ (rw (g.valid, items-valid es d.valid) refl) refl (rw (g.grouped, items-grouped es d.grouped) refl)
      (omega arith)
  keeps base-primary = λ e g. looser g.tight g
  keeps new-target = λ a h b k d j n. leaf _ refl refl refl (omega arith)
  keeps (super-name {c = c}) = λ a h b k d. keeps-given _ (any_name c d.token d.span) _
      (λ n j o. leaf _ refl refl refl (omega arith))
  keeps super-computed = λ a h b k e g d j o. leaf _ (rw g.valid refl) refl (rw g.grouped refl) (omega arith)
  keeps super-call = λ a h b k es g. leaf _ (items-valid es g.valid) refl (items-grouped es g.grouped) (omega arith)
  keeps import-meta = λ a h b k d j n. leaf _ refl refl refl (omega arith)
  keeps import-call = λ a h b k es g n. leaf _ (items-valid es g.valid) refl (items-grouped es g.grouped) (omega arith)
  keeps import-source = λ a h b k d j i m es g n.
      leaf _ (items-valid es g.valid) refl (items-grouped es g.grouped) (omega arith)
  keeps (member-name {c = c}) = λ l g a h b. keeps-given _ (any_name c b.token b.span) _
      (λ n k. member-good false _ l (name_e n.at n.text) g refl refl)
  keeps (member-private {c = c}) = λ l g a h b k d. keeps-given _ (any_name c d.token d.span) _
      (λ n j o. member-good false _ l (private_e (to b.span n.at) n.text) g refl refl)
  keeps member-computed = λ l g a h e d b k. member-good false _ l (computed_e (to a.span b.span) e) g
      (rw d.valid refl) (rw d.grouped refl)
  keeps call = λ l g a h es k. call-good false _ l es g k
  keeps (chain-name {c = c}) = λ l g a h b k d. keeps-given _ (any_name c d.token d.span) _
      (λ n j. member-good true _ l (name_e n.at n.text) g refl refl)
  keeps (chain-private {c = c}) = λ l g a h b k d j i. keeps-given _ (any_name c i.token i.span) _
      (λ n m o. member-good true _ l (private_e (to d.span n.at) n.text) g refl refl)
  keeps chain-computed = λ l g a h b k d j e w i m. member-good true _ l (computed_e (to d.span i.span) e) g
      (rw w.valid refl) (rw w.grouped refl)
  keeps chain-call = λ l g a h b k d j es w. call-good true _ l es g w
  keeps tagged-tpl = λ l g a h ps w n.
      leaf _ (rw (g.valid, parts-valid ps w.valid) refl) refl (rw (g.grouped, parts-grouped ps w.grouped) refl)
      (omega arith)
  keeps arguments = λ a h es g n. looser (omega arith) g
  keeps args-end = λ a h. leaf _ refl refl refl (omega arith)
  keeps args-more = λ e g es k.
      leaf _ (rw (g.valid, items-valid es k.valid) refl) refl (rw (g.grouped, items-grouped es k.grouped) refl)
      (omega arith)
  keeps args-tail-end = λ a h. leaf _ refl refl refl (omega arith)
  keeps args-tail-more = λ a h es g n. leaf _ (items-valid es g.valid) refl (items-grouped es g.grouped) (omega arith)
  keeps unary-left = λ e g. looser g.tight g
  keeps update-postfix = λ l g a b. keeps-given _ (update_here a.token a.span) _
      (λ x h n. leaf _ (rw g.valid refl) refl (rw (le-leb 12 (tightness l) g.tight, g.grouped) refl) (omega arith))
  keeps update-prefix = λ a. keeps-given _ (update_here a.token a.span) _
      (λ x h e g n. leaf _ (rw g.valid refl) refl (rw (le-leb 12 (tightness e) g.tight, g.grouped) refl) (omega arith))
  keeps await-expr = λ a h k e g.
      leaf _ (rw g.valid refl) refl (rw (le-leb 12 (tightness e) g.tight, g.grouped) refl) (omega arith)
  keeps await-ident = λ a h k. leaf _ refl refl refl (omega arith)
  keeps unary-op = λ a. keeps-given _ (prefix_here a.token a.span) _
      (λ x h e g n. leaf _ (rw g.valid refl) refl (rw (le-leb 12 (tightness e) g.tight, g.grouped) refl) (omega arith))
  keeps exp-unary = λ e g. looser (let t = g.tight in omega arith) g
  keeps exp-op = λ l dl a h n r dr. exp-good l r n dl dr
  keeps (level-up b) = λ e g. looser (let t = g.tight in omega arith) g
  keeps (bin-op {c = c} {k = k} b) =
      λ l dl a. keeps-given _ (operator_here c a.token a.span) _ (λ op h p r dr n g. bin-good k op l r b p n g dl dr)
  keeps (private-expr {c = c}) =
      λ a h b. keeps-given _ (any_name c b.token b.span) _ (λ n h1 x. leaf _ refl refl refl (omega arith))
  keeps (private-in {c = c}) = λ a h b. keeps-given _ (any_name c b.token b.span) _
      (λ n h1 x d j r g. bin-good 7 binary.In (private_e (to a.span n.at) n.text) r refl refl refl refl
      (leaf _ refl refl refl (omega arith)) g)
  keeps assign-level = λ e g. looser (omega arith) g
  keeps cond-expr = λ t g b h e d i j a k.
      leaf _ (rw (g.valid, d.valid, k.valid) refl) refl
      (rw (le-leb 1 (tightness t) g.tight, g.grouped, d.grouped, k.grouped) refl) (omega arith)
  keeps assign-expr = λ l g a. keeps-given _ (assign_here a.token a.span) _
      (λ op h n r d. leaf _ (rw (g.valid, d.valid) refl) refl
      (rw (le-leb 12 (tightness l) g.tight, g.grouped, d.grouped) refl) (omega arith))
  keeps yield-alone = λ a h k. leaf _ refl refl refl (omega arith)
  keeps yield-expr = λ a h k e g. leaf _ (rw g.valid refl) refl (rw g.grouped refl) (omega arith)
  keeps yield-star = λ a h k b i j e g. leaf _ (rw g.valid refl) refl (rw g.grouped refl) (omega arith)
  keeps (assign-pattern {c = c}) = λ l g a h. keeps-given _ (as_literal c.context.strict l) _
      (λ p k r d. let w = literal-kept c.context.strict l p k (g.valid, g.grouped) in
      leaf _ (rw (w.0, d.valid) refl) refl (rw (literal-tight c.context.strict l p k, w.1, d.grouped) refl)
      (omega arith))
  keeps exprs-one = λ e g. leaf _ (rw g.valid refl) refl (rw g.grouped refl) (omega arith)
  keeps exprs-more = λ es g a h e d.
      leaf _ (append-valid (items_of es) (cons e nil) (items-valid es g.valid) (rw d.valid refl)) refl
      (append-grouped (items_of es) (cons e nil) (items-grouped es g.grouped) (rw d.grouped refl)) (omega arith)
  keeps seq-expr = λ es g. seq-good (items_of es) (items-valid es g.valid) (items-grouped es g.grouped)
  keeps (pat-bind {c = c}) =
      λ a. keeps-given _ (binding c a.token a.span) _ (λ n h. leaf _ refl refl refl (omega arith))
  keeps pat-array = λ a h es g. leaf _ (items-valid es g.valid) refl (items-grouped es g.grouped) (omega arith)
  keeps pat-object = λ a h es g. leaf _ (items-valid es g.valid) refl (items-grouped es g.grouped) (omega arith)
  keeps element-pat = λ p g. looser (omega arith) g
  keeps element-default = λ p g a h e d.
      leaf _ (rw (g.valid, d.valid) refl) refl (rw (g.grouped, d.grouped) refl) (omega arith)
  keeps pat-rest = λ a h p g. leaf _ (rw g.valid refl) refl (rw g.grouped refl) (omega arith)
  keeps pat-elements-end = λ a h. leaf _ refl refl refl (omega arith)
  keeps pat-elements-hole = λ a h es g.
      leaf _ (put-valid (items_of es) (items-valid es g.valid)) refl
      (put-grouped (items_of es) (items-grouped es g.grouped)) (omega arith)
  keeps pat-elements-more = λ e g es k.
      leaf _ (rw (g.valid, items-valid es k.valid) refl) refl (rw (g.grouped, items-grouped es k.grouped) refl)
      (omega arith)
  keeps pat-elements-rest = λ e g a h. leaf _ (rw g.valid refl) refl (rw g.grouped refl) (omega arith)
  keeps pat-tail-end = λ a h. leaf _ refl refl refl (omega arith)
  keeps pat-tail-more = λ a h es g. looser (omega arith) g
  keeps pat-props-end = λ a h. leaf _ refl refl refl (omega arith)
  keeps pat-props-more = λ e g es k.
      leaf _ (rw (g.valid, items-valid es k.valid) refl) refl (rw (g.grouped, items-grouped es k.grouped) refl)
      (omega arith)
  keeps pat-props-rest = λ e g i a h. leaf _ (rw g.valid refl) refl (rw g.grouped refl) (omega arith)
  keeps pat-props-tail-end = λ a h. leaf _ refl refl refl (omega arith)
  keeps pat-props-tail-more = λ a h es g. looser (omega arith) g
  keeps pat-prop-key = λ k g a h p d.
      leaf _ (rw (g.valid, d.valid) refl) refl (rw (g.grouped, d.grouped) refl) (omega arith)
  keeps (pat-prop-short {c = c}) =
      λ a. keeps-given _ (any_name c a.token a.span) _ (λ n h r. leaf _ refl refl refl (omega arith))
  keeps (pat-prop-default {c = c}) = λ a. keeps-given _ (any_name c a.token a.span) _
      (λ n h b k e g. leaf _ (rw g.valid refl) refl (rw g.grouped refl) (omega arith))
  keeps params-end = λ a h. leaf _ refl refl refl (omega arith)
  keeps params-more = λ e g es k.
      leaf _ (rw (g.valid, items-valid es k.valid) refl) refl (rw (g.grouped, items-grouped es k.grouped) refl)
      (omega arith)
  keeps params-rest = λ e g a h. leaf _ (rw g.valid refl) refl (rw g.grouped refl) (omega arith)
  keeps params-tail-end = λ a h. leaf _ refl refl refl (omega arith)
  keeps params-tail-more = λ a h es g. looser (omega arith) g
  keeps (arrow-name {c = c}) = λ a. keeps-given _ (arrow_name c a.token a.span) _
      (λ n h b x y e g. leaf _ (rw g.valid refl) refl (rw g.grouped refl) (omega arith))
  keeps arrow-params = λ hs g a x y e d.
      leaf _ (rw (d.valid, items-valid hs g.valid) refl) refl (rw (d.grouped, items-grouped hs g.grouped) refl)
      (omega arith)
  keeps (arrow-async-name {c = c}) = λ a. keeps-given _ (async_name c a.token a.span) _
      (λ m j b l. keeps-given _ (async_param c b.token b.span) _
      (λ n h x y e d. leaf _ (rw d.valid refl) refl (rw d.grouped refl) (omega arith)))
  keeps (arrow-async-params {c = c}) = λ b. keeps-given _ (async_name c b.token b.span) _ (λ m j hs g a x y e d.
      leaf _ (rw (d.valid, items-valid hs g.valid) refl) refl (rw (d.grouped, items-grouped hs g.grouped) refl)
      (omega arith))
  keeps body-block = λ v s. leaf _ refl refl refl (omega arith)
  keeps body-expr = λ e g. looser (omega arith) g
  keeps covered-params = λ a h es g. keeps-given _ (as_params es) _
      (λ ps k w. let z = elements-kept binding_role (comma_of es) (items_of es) ps k
      (items-valid es g.valid, items-grouped es g.grouped) in
      leaf _ z.0 refl z.1 (omega arith))

  mutual
    pub good : {hook : Hook F C K} {s : Symbol} {c : Scope} {xs ys : List TokenAndSpan} {t : Answer F C K s}
        → Reads hook s c xs ys t → Good F C K s t
    good (by p d) = good-side d (keeps p)

    good-side : {hook : Hook F C K} {s : Symbol} {r : Side F C K s} {xs ys : List TokenAndSpan} {t : Answer F C K s}
        → Follows hook s r xs ys t → Keeps (Good F C K s) r → Good F C K s t
    good-side gave k = k
    good-side (took {a = a} d) k = good-side d (k a)
    good-side (held b d) k = good-side d (k b)
    good-side (calm b d) k = good-side d k
    good-side (calm-two b d) k = good-side d k
    good-side (part {e = t} e d) k = good-side d (k t (good e))
    good-side (heard {v = v} h d) k = good-side d (k v _)

  pub grouped : {hook : Hook F C K} {s : Symbol} {c : Scope} {xs ys : List TokenAndSpan} {t : Answer F C K s}
      → Reads hook s c xs ys t → is_grouped t ≡ true
  grouped d = (good d).grouped

  pub valid : {hook : Hook F C K} {s : Symbol} {c : Scope} {xs ys : List TokenAndSpan} {t : Answer F C K s}
      → Reads hook s c xs ys t → is_valid t ≡ true
  valid d = (good d).valid
