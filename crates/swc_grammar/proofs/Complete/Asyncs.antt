-- Async arrow functions; and what else `async` is, by what is after it.
use Rattle.std.proofs.Common.{refl, sym as sym_path, ap, subst, ◌∙◌}
use Rattle.std.specs.Prelude.{◌≡◌, ℕ, Bool, true, false, not, List, [], ◌∷◌, ◌&&◌, if◌then◌else◌, Option, Some, None}
use Rattle.swc_context.specs.{declared.span.Span.Span, declared.word.Keyword.Keyword as keyword, declared.word.Word.Word as word, Reserved.is_reserved}
use Rattle.swc_input.specs.{declared.token.Token.Token, declared.token.Token.Token as token, declared.token.TokenAndSpan.TokenAndSpan, Kinds.at_token, Kinds.is_hash}
use Rattle.swc_ast.specs.Tree.{Tree, span_of}
use Rattle.swc_ast.specs.Trees.{items_of, to, listed, ident_e, call_e, covers_ok}
use Rattle.swc_bodies.specs.Readings.{Hook, is_function_here, is_function, is_async}
use Rattle.swc_grammar.specs.Scope.{Scope, at_head, inner}
use Rattle.swc_grammar.specs.Rule.{gives, take, check, peek, peek_two, read, sees, sees_two, given, ◌>>=◌}
use Rattle.swc_grammar.specs.Tokens.{tk, with_in, is_lparen}
use Rattle.swc_grammar.specs.Reads.{calm, Reads, Follows, took, held}
use Rattle.swc_grammar.specs.Symbols.{Symbol, Assign, Level, Args, Primary, Answer, Side, ArrowParams}
use Rattle.swc_grammar.specs.Grammar.{base-primary, async-ident, async-call, arrow-async-name}
use Rattle.swc_grammar.specs.Clean.{first, sym, plan, exec, base, begins_new, second, assigns, pick, chosen, step, run, begins_arrow, asyncs, async_head, async_arrow_tail, begins_async_name, is_alone, begins_async_list, is_lparen_here, before_of_here, is_bindable_here, assigned, operand, unary, Plan, is_arrow_here, pick_apart}
use Rattle.swc_grammar.specs.Arrows.{is_arrow, async_name, async_param, goes_on_async, of_arrow, is_bindable, before_of}
use Rattle.swc_grammar.specs.{Names.Spelling, Names.may_bind, Cover.as_params, Cover.arrow_params_ok}
use Rattle.swc_grammar.proofs.Answers.{both, only, unless, then-ok, inj}
use Rattle.swc_grammar.proofs.Complete.Sides.{last, Ran, Claim, given-ran}
use Rattle.swc_grammar.proofs.Complete.Bools.{and-false, if-on, if-off}
use Rattle.swc_grammar.proofs.Complete.Arrows.{Behind, level-behind, base-behind, given-run, apart-picked}
use Rattle.swc_grammar.proofs.{Firsts.async-token, Firsts.given-held, Knot.knot, Induct.ran-calm, Induct.ran-part, Complete.Primaries.async-picks-primary}

module _ {F C K : Type 0} (hook : Hook F C K) where
  -- an async one, by its first two tokens
  param-token : (c : Scope) (t : Token) (s : Span) (n : Spelling) → async_param c t s ≡ Some n
      → (is_bindable c t ≡ true) × (is_arrow t ≡ false)
  param-token c (token.Word w) s n h =
      let (a, e) = only (may_bind c.context w && not (is_reserved c.context w)) h in
      ((both (may_bind c.context w) (not (is_reserved c.context w)) a).1, refl)
  param-token c t s n h = absurd cc

  then-arrow : {s : Symbol} {r : TokenAndSpan → Side F C K s} {xs ys : List TokenAndSpan} {t : Answer F C K s}
      → Follows hook s (take (λ a. check (is_arrow a.token) (r a))) xs ys t → at_token is_arrow (first xs) ≡ true
  then-arrow (took (held h d)) = h

  calm-then : {s : Symbol} {p : TokenAndSpan → Bool} {r : Side F C K s} {xs ys : List TokenAndSpan} {t : Answer F C K s}
      → Follows hook s (peek p r) xs ys t → Follows hook s r xs ys t
  calm-then (calm h d) = d

  pub param-next : {s : Symbol} (c : Scope) {k : Spelling → TokenAndSpan → Side F C K s} (xs : List TokenAndSpan)
      {ys : List TokenAndSpan} {t : Answer F C K s}
      → Follows hook s (take (λ a. check (not a.had_line_break) (given (async_param c a.token a.span) >>= (λ n.
      peek (λ b. c.syntax.pedantic && b.had_line_break) (take (λ b. check (is_arrow b.token) (k n b))))))) xs ys t
      → (is_bindable_here c (first xs) ≡ true) × (is_arrow_here (first xs) ≡ false)
      × (at_token is_arrow (second xs) ≡ true)
  param-next c xs (took {a = a} {xs = us} (held l d)) =
      let (n, h, g) = given-held (async_param c a.token a.span) _ d in
      let (x, y) = param-token c a.token a.span n h in
      (rw (l, x) refl, rw y (and-false (not a.had_line_break)), then-arrow (calm-then g))

  pub no-arrow-begins : (c : Scope) (a : TokenAndSpan) (us : List TokenAndSpan) → is_arrow_here (first us) ≡ false
      → begins_arrow c (a ∷ us) ≡ false
  no-arrow-begins c a us h = rw h (and-false (is_alone c.context a.token))

  pub async-step : (c : Scope) (a : TokenAndSpan) (us : List TokenAndSpan) → is_async a.token ≡ true
      → begins_arrow c (a ∷ us) ≡ false → step {F = F} {C = C} {K = K} (sym Assign) c (a ∷ us)
      ≡ (if begins_async_name c (a ∷ us) then chosen (pick (arrow-async-name {c = c})) else
      (if begins_async_list (a ∷ us) then async_head c else assigned c))
  async-step c a us h z = by-token a.token a.had_line_break a.span h z
    where
      by-token : (t : Token) (b : Bool) (s : Span) → is_async t ≡ true → begins_arrow c (tk t b s ∷ us) ≡ false
          → step {F = F} {C = C} {K = K} (sym Assign) c (tk t b s ∷ us)
          ≡ (if begins_async_name c (tk t b s ∷ us) then chosen (pick (arrow-async-name {c = c})) else
          (if begins_async_list (tk t b s ∷ us) then async_head c else assigned c))
      by-token (token.Word (word.Ident w)) b s h z = rw z refl
      by-token t b s h z = absurd cc

  -- the same after `async`
  pub lparen-next : (Q : List TokenAndSpan → Type 0) (us : List TokenAndSpan) → is_lparen_here (first us) ≡ true
      → ((s : Span) (vs : List TokenAndSpan) → Q (tk token.LParen false s ∷ vs)) → Q us
  lparen-next Q [] h f = absurd cc
  lparen-next Q (t ∷ vs) h f = by-token t.token t.had_line_break t.span h
    where
      by-token : (u : Token) (b : Bool) (s : Span) → (not b && is_lparen u) ≡ true → Q (tk u b s ∷ vs)
      by-token token.LParen true s h = absurd cc
      by-token token.LParen false s h = f s vs
      by-token u b s h = let (x, y) = both (not b) (is_lparen u) h in absurd cc

  pub lparen-here : (us : List TokenAndSpan) → sees (λ t. t.had_line_break) us ≡ false
      → at_token is_lparen (first us) ≡ true → is_lparen_here (first us) ≡ true
  lparen-here [] l h = absurd cc
  lparen-here (t ∷ ts) l h = rw (l, h) refl

  given-plan : {A B : Type 0} (g : Option ℕ) (o : Option A) (k : A → Plan F C K B) (x : A) → o ≡ Some x
      → (ts : List TokenAndSpan) → exec hook (run hook) g (given o >>= k) ts ≡ exec hook (run hook) g (k x) ts
  given-plan g o k x e ts = ap (λ v. exec hook (run hook) g (given v >>= k) ts) e

  -- `async` begins an operand, and a base
  async-no-hash : (t : Token) → is_async t ≡ true → is_hash t ≡ false
  async-no-hash (token.Word w) h = refl
  async-no-hash t h = absurd cc

  async-places : (d : Scope) (a : TokenAndSpan) (us : List TokenAndSpan) → is_async a.token ≡ true
      → (unary {F = F} {C = C} {K = K} d (a ∷ us) ≡ operand d) × (begins_new (a ∷ us) ≡ false)
      × (base {F = F} {C = C} {K = K} true d (a ∷ us) ≡ pick base-primary)
  async-places d a us h = by-token a.token a.had_line_break a.span h
    where
      by-token : (t : Token) (b : Bool) (s : Span) → is_async t ≡ true
          → (unary {F = F} {C = C} {K = K} d (tk t b s ∷ us) ≡ operand d) × (begins_new (tk t b s ∷ us) ≡ false)
          × (base {F = F} {C = C} {K = K} true d (tk t b s ∷ us) ≡ pick base-primary)
      by-token (token.Word (word.Ident w)) b s h = (refl, refl, refl)
      by-token t b s h = absurd cc

  -- at `async` and `(`, as it is read where an arrow may be, and as a primary expression
  async-reads : (c : Scope) (a : TokenAndSpan) (s : Span) (us vs : List TokenAndSpan) (n : Spelling) (es : Tree F C K)
      → async_name c a.token a.span ≡ Some n → run hook (sym (Args false)) (with_in c) us ≡ Some (es, vs)
      → run hook (sym Assign) c (a ∷ (tk token.LParen false s ∷ us)) ≡ run hook (asyncs n es) c vs
  async-reads c a s us vs n es i h =
      let ts = tk token.LParen false s ∷ us in
      let x = async-token c a.token a.span n i in
      let rest : Spelling → Plan F C K (Tree F C K) =
      λ m. take (λ u. check (not u.had_line_break) (check (is_lparen u.token)
      (read (sym (Args false)) (with_in c) (λ es. read (asyncs m es) c (λ v. gives v))))) in
      knot hook (sym Assign) c (a ∷ ts)
      ∙ ap (λ v. exec hook (run hook) (Some 14) v (a ∷ ts)) (async-step c a ts x (no-arrow-begins c a ts refl)
      ∙ if-off (begins_async_name c (a ∷ ts)) (chosen (pick (arrow-async-name {c = c}))) _
      (and-false (is_async a.token))
      ∙ if-on (begins_async_list (a ∷ ts)) (async_head c) (assigned c) (rw x refl))
      ∙ given-plan None (async_name c a.token a.span) rest n i ts
      ∙ rw h (last hook None (asyncs n es) c vs refl)

  pub async-listed : (c : Scope) (a : TokenAndSpan) (s : Span) (us ms : List TokenAndSpan) (e : Tree F C K)
      → is_async a.token ≡ true
      → run hook (sym (Level 1)) (at_head c) (a ∷ (tk token.LParen false s ∷ us)) ≡ Some (e, ms)
      → run hook (sym Assign) c (a ∷ (tk token.LParen false s ∷ us)) ≡ run hook (assigns e) c ms
  async-listed c a s us ms e x h =
      let d = at_head c in
      let ts = tk token.LParen false s ∷ us in
      let (pu, pn, pb) = async-places d a ts x in
      let (o, a4, v) = level-behind hook d (a ∷ ts) ms e pu pn pb (rw (async-no-hash a.token x) refl) h in
      let rest : Spelling → Side F C K Primary =
      λ m. check true (take (λ u. check (not u.had_line_break) (check (is_lparen u.token)
      (read (Args false) (with_in c) (λ es. check (covers_ok c.syntax.pedantic es)
      (gives (call_e (to m.at (span_of es)) (ident_e m.at m.text) (items_of es)))))))) in
      let k0 : exec hook (run hook) (Some 8) (chosen (pick_apart (async-call {c = d}))) (a ∷ ts) ≡ Some o =
      ap (λ v. exec hook (run hook) (Some 8) (chosen v) (a ∷ ts)) (sym_path (async-picks-primary hook d a ts x refl))
      ∙ sym_path (knot hook (sym Primary) d (a ∷ ts)) ∙ a4 in
      let (k, z) = apart-picked hook (async-call {c = d}) (Some 8) (a ∷ ts) o k0 in
      let (m, i, k1) = given-run hook None (async_name c a.token a.span) rest ts k in
      let (w, a5, b5) = then-ok (run hook (sym (Args false)) (with_in c) us) _ k1 in
      let (ok, b6) = only (covers_ok c.syntax.pedantic w.0) b5 in
      let l0 : Tree F C K = call_e (to m.at (span_of w.0)) (ident_e m.at m.text) (items_of w.0) in
      let same = inj (l0, w.1) o b6 in
      let u : Behind hook (inner c) l0 w.1 e ms = subst (λ x. Behind hook (inner c) x.0 x.1 e ms) (sym_path same) v in
      let y : at_token is_arrow (first w.1) ≡ false =
      subst (λ v. at_token is_arrow (first v.1) ≡ false) (sym_path same) z in
      async-reads c a s us w.1 m w.0 i a5 ∙ knot hook (asyncs m w.0) c w.1
      ∙ rw (y, ok) (base-behind hook c l0 w.1 e ms u)

  -- before a word that may be bound nothing is read: one of the two tests holds
  data Blocked (c : Scope) (us : List TokenAndSpan) : Type 0 where
    by-one : sees (goes_on_async (at_head c)) us ≡ true → Blocked c us
    by-two : sees_two (of_arrow (at_head c)) us ≡ true → Blocked c us

  one-case : (l b o : Bool) → not l ≡ true → b ≡ true → o ≡ false → (not l && (b && not o)) ≡ true
  one-case l b o h k q = rw (h, k, q) refl

  two-case : (l b o w : Bool) → not l ≡ true → b ≡ true → o ≡ true → w ≡ true → (not l && ((b && o) && w)) ≡ true
  two-case l b o w h k q z = rw (h, k, q, z) refl

  arrow-after : (x y : Bool) → x ≡ true → not (x && not y) ≡ true → y ≡ true
  arrow-after true true e h = refl
  arrow-after true false e h = absurd cc
  arrow-after false y e h = absurd cc

  bindable-next : (c : Scope) (us : List TokenAndSpan) → is_bindable_here c (first us) ≡ true
      → (is_function_here us ≡ false) × (is_lparen_here (first us) ≡ false)
  bindable-next c [] h = absurd cc
  bindable-next c (t ∷ ts) h =
      let (l, k) = both (not t.had_line_break) (is_bindable c t.token) h in by-token t.token t.had_line_break k
    where
      by-token : (u : Token) (b : Bool) → is_bindable c u ≡ true
          → ((is_function u && not b) ≡ false) × ((not b && is_lparen u) ≡ false)
      by-token (token.Word (word.Keyword keyword.Function)) b k = absurd cc
      by-token (token.Word w) b k = (refl, and-false (not b))
      by-token u b k = absurd cc

  bindable-signs : (c : Scope) (u : Token) → is_bindable c u ≡ true → (is_function u ≡ false) × (is_lparen u ≡ false)
  bindable-signs c (token.Word (word.Keyword keyword.Function)) k = absurd cc
  bindable-signs c (token.Word w) k = (refl, refl)
  bindable-signs c u k = absurd cc

  blocked : (c : Scope) (us : List TokenAndSpan) → is_bindable_here c (first us) ≡ true
      → not (before_of_here c (first us) && not (at_token is_arrow (second us))) ≡ true → Blocked c us
  blocked c [] h k = absurd cc
  blocked c (t ∷ ts) h k =
      let (l, w) = both (not t.had_line_break) (is_bindable c t.token) h in
      let (f, p) = bindable-signs c t.token w in by-of (before_of c t.token) refl l w f p ts k
    where
      by-of : (o : Bool) → before_of c t.token ≡ o → not t.had_line_break ≡ true → is_bindable c t.token ≡ true
          → is_function t.token ≡ false → is_lparen t.token ≡ false → (ts : List TokenAndSpan)
          → not (before_of c t.token && not (at_token is_arrow (first ts))) ≡ true → Blocked c (t ∷ ts)
      by-of false o l w f p ts k =
          by-one (rw (f, p) (one-case t.had_line_break (is_bindable c t.token) (before_of c t.token) l w o))
      by-of true o l w f p [] k = absurd (arrow-none o k)
        where
          arrow-none : before_of c t.token ≡ true → not (before_of c t.token && true) ≡ true → ⊥
          arrow-none o k = absurd cc
      by-of true o l w f p (u ∷ us) k =
          by-two (two-case t.had_line_break (is_bindable c t.token) (before_of c t.token) (is_arrow u.token) l w o
          (arrow-after (before_of c t.token) (is_arrow u.token) o k))

  pub async-none : (c : Scope) (a : TokenAndSpan) (us ms : List TokenAndSpan) (e : Tree F C K)
      → is_async a.token ≡ true → is_bindable_here c (first us) ≡ true
      → not (before_of_here c (first us) && not (at_token is_arrow (second us))) ≡ true
      → run hook (sym (Level 1)) (at_head c) (a ∷ us) ≡ Some (e, ms) → ⊥
  async-none c a us ms e x y z h =
      let d = at_head c in
      let (pu, pn, pb) = async-places d a us x in
      let (o, a4, v) = level-behind hook d (a ∷ us) ms e pu pn pb (rw (async-no-hash a.token x) refl) h in
      let (f, l) = bindable-next c us y in
      let rest : Spelling → Side F C K Primary =
      λ m. peek (goes_on_async d) (peek_two (of_arrow d) (gives (ident_e m.at m.text))) in
      let k : exec hook (run hook) (Some 8) (chosen (pick (async-ident {c = d}))) (a ∷ us) ≡ Some o =
      ap (λ v. exec hook (run hook) (Some 8) (chosen v) (a ∷ us))
      (sym_path (async-picks-primary hook d a us x f ∙ if-off (is_lparen_here (first us)) (pick_apart async-call)
      (pick async-ident) l))
      ∙ sym_path (knot hook (sym Primary) d (a ∷ us)) ∙ a4 in
      let (m, i, k1) = given-run hook None (async_name c a.token a.span) rest us k in
      let (q, k2) = unless (sees (goes_on_async d) us) k1 in
      let (r, k3) = unless (sees_two (of_arrow d) us) k2 in
      clash q r (blocked c us y z)
    where
      clash : sees (goes_on_async (at_head c)) us ≡ false → sees_two (of_arrow (at_head c)) us ≡ false → Blocked c us
          → ⊥
      clash q r (by-one w) = absurd cc
      clash q r (by-two w) = absurd cc

  pub async-params-reads : (c : Scope) (a : TokenAndSpan) (s : Span) (us ms ys : List TokenAndSpan) (n : Spelling)
      (hs t : Tree F C K) → async_name c a.token a.span ≡ Some n
      → run hook (sym ArrowParams) c (tk token.LParen false s ∷ us) ≡ Some (hs, ms)
      → at_token is_arrow (first ms) ≡ true
      → exec hook (run hook) (Some 2) (plan (async_arrow_tail c n hs)) ms ≡ Some (t, ys)
      → run hook (sym Assign) c (a ∷ (tk token.LParen false s ∷ us)) ≡ Some (t, ys)
  async-params-reads c a s us ms ys n hs t i h y d =
      let (w, a1, b1) = then-ok (run hook (sym (Args false)) (with_in c) us) _
      (sym_path (knot hook (sym ArrowParams) c (tk token.LParen false s ∷ us)) ∙ h) in
      let (ps, e, b2) = given-run hook None (as_params w.0) _ w.1 b1 in
      let (ok, b3) = only (arrow_params_ok c.context ps) b2 in
      let o = inj (listed None (to s (span_of w.0)) ps, w.1) (hs, ms) b3 in
      let z : at_token is_arrow (first w.1) ≡ true = subst (λ v. at_token is_arrow (first v.1) ≡ true) (sym_path o) y in
      let f : exec hook (run hook) (Some 2) (plan (async_arrow_tail c n (listed None (to s (span_of w.0)) ps))) w.1
      ≡ Some (t, ys) =
      subst (λ v. exec hook (run hook) (Some 2) (plan (async_arrow_tail c n v.0)) v.1 ≡ Some (t, ys)) (sym_path o) d in
      async-reads c a s us w.1 n w.0 i a1 ∙ knot hook (asyncs n w.0) c w.1 ∙ rw (z, e, ok) f

  calm-parts : (c : Scope) (n : Spelling) (us : List TokenAndSpan) {ys : List TokenAndSpan} {t : Tree F C K}
      → Ran hook Assign (peek (λ t. t.had_line_break) (read ArrowParams c (λ hs. async_arrow_tail c n hs))) us ys t
      → (sees (λ t. t.had_line_break) us ≡ false)
      × (hs : Tree F C K) × (ms : List TokenAndSpan) × Reads hook ArrowParams c us ms hs
      × Claim hook ArrowParams c us ms hs
      × Ran hook Assign (async_arrow_tail c n hs) ms ys t
  calm-parts c n us (ran-calm l (ran-part {e = hs} {ms = ms} dh k w)) = (l, hs, ms, dh, k, w)

  pub async-params-parts : (c : Scope) (a : TokenAndSpan)
      (us : List TokenAndSpan) {ys : List TokenAndSpan} {t : Tree F C K}
      → Ran hook Assign (given (async_name c a.token a.span) >>= (λ s. peek (λ t. t.had_line_break)
      (read ArrowParams c (λ hs. async_arrow_tail c s hs)))) us ys t
      → (n : Spelling) × (async_name c a.token a.span ≡ Some n) × ((sees (λ t. t.had_line_break) us ≡ false)
      × (hs : Tree F C K) × (ms : List TokenAndSpan) × Reads hook ArrowParams c us ms hs
      × Claim hook ArrowParams c us ms hs
      × Ran hook Assign (async_arrow_tail c n hs) ms ys t)
  async-params-parts c a us w =
      let (n, i, w1) = given-ran hook (async_name c a.token a.span) _ w in (n, i, calm-parts c n us w1)
