-- Arrow functions of parameters in parentheses or of a name, and their bodies; and what else a list in parentheses is.
use Rattle.std.proofs.Common.{refl, sym as sym_path, ap, subst, ◌∙◌}
use Rattle.std.specs.Prelude.{◌≡◌, ℕ, Bool, true, false, not, List, [], ◌∷◌, ◌++◌, ◌&&◌, Option, Some, None}
use Rattle.swc_context.specs.{Contexts.arrow_body, declared.operator.BinaryOp.BinaryOp, declared.span.Span.Span, declared.word.Keyword.Keyword as keyword, declared.word.Word.Word as word, declared.context.Context.Context}
use Rattle.swc_input.specs.{declared.token.Token.Token, declared.token.Token.Token as token, declared.token.TokenAndSpan.TokenAndSpan, Kinds.at_token, Kinds.is_hash}
use Rattle.swc_ast.specs.Tree.{Tree, span_of}
use Rattle.swc_ast.specs.Trees.{items_of, seq_of, to, left_ok, paren_e, paren_ok, held_exprs, listed, ident_e}
use Rattle.swc_bodies.specs.Readings.{Hook, begins as begins_own, is_function_here, is_function, is_async, is_brace}
use Rattle.swc_grammar.specs.Scope.{Scope, in_context, at_head, inner}
use Rattle.swc_grammar.specs.Rule.{Rule, gives, take, check, peek, peek_two, read, sees, sees_two, given, ◌>>=◌}
use Rattle.swc_grammar.specs.Tokens.{tk, with_in, binary_of, is_reference, is_lparen, is_put_off}
use Rattle.swc_grammar.specs.Symbols.{Symbol, Assign, Level, Unary, Lhs, Args, Primary, Base, Answer, Body, Value, Side, ArrowParams, ArrowBody}
use Rattle.swc_grammar.specs.Grammar.{Production, ident-expr, base-primary, body-block, body-expr, async-ident, async-call}
use Rattle.swc_grammar.specs.Reads.{Follows, took, held, calm, heard}
use Rattle.swc_grammar.specs.Clean.{begins_private, Ans, Out, first, Call, sym, links, climb, plan, rank, allowed, exec, no_link, base, begins_new, updates, assigns, no_update_at, Bound, Stop, pick, chosen, primary, run, parens, arrow_tail, arrow_block, behind_base, is_lparen_here, unary, is_alone, constructed, Plan, is_arrow_here, is_identifier, pick_apart, operand}
use Rattle.swc_grammar.specs.Arrows.{is_arrow, async_name, goes_on_async, of_arrow, is_arrow_word}
use Rattle.swc_grammar.specs.{Names.Spelling, Parts.reference, Cover.as_params, Cover.arrow_params_ok}
use Rattle.swc_grammar.proofs.Answers.{both, only, unless, then-ok, inj}
use Rattle.swc_grammar.proofs.Complete.Sides.{last, climb-ends, Ready}
use Rattle.swc_grammar.proofs.Complete.Bools.{and-false, if-on, if-off}
use Rattle.swc_grammar.proofs.{Firsts.put-token, Knot.knot, Complete.LeftSides.links-end, Complete.Operators.updates-end, Complete.Operators.first-sees, Complete.Primaries.async-picks-primary, Binds.apart-read}

pub here-arrow : (o : Option TokenAndSpan) → is_arrow_here o ≡ true → at_token is_arrow o ≡ true
here-arrow None h = absurd cc
here-arrow (Some t) h = (both (not t.had_line_break) (is_arrow t.token) h).1

module _ {F C K : Type 0} (hook : Hook F C K) where
  -- an arrow function: in its body the same operators are read, and `=>` is on a line
  pub body-bound : (c : Scope) (is_async : Bool) (ys : List TokenAndSpan) → Bound c 0 ys
      → Bound (in_context (arrow_body is_async) c) 0 ys
  body-bound c is_async [] h = λ op k. absurd cc
  body-bound c is_async (a ∷ us) h = λ op k. h op (by-token a.token op k)
    where
      by-token : (t : Token) (op : BinaryOp) → binary_of (arrow_body is_async c.context) t ≡ Some op
          → binary_of c.context t ≡ Some op
      by-token (token.Word (word.Keyword keyword.In)) op k = k
      by-token (token.Word (word.Keyword keyword.InstanceOf)) op k = k
      by-token (token.BinOp o) op k = k
      by-token t op k = absurd cc

  pub line-arrow : {s : Symbol} {r : TokenAndSpan → Side F C K s} {xs ys : List TokenAndSpan} {t : Answer F C K s}
      → Follows hook s (take (λ a. check (not a.had_line_break) (check (is_arrow a.token) (r a)))) xs ys t
      → is_arrow_here (first xs) ≡ true
  line-arrow (took {a = a} (held h (held k d))) = rw (h, k) refl

  -- before `=>` every reading below an assignment expression ends
  arrow-quiet : (c : Scope) (ms : List TokenAndSpan) → at_token is_arrow (first ms) ≡ true
      → (no_link true ms ≡ true) × (no_update_at (first ms) ≡ true) × Bound c 0 ms
  arrow-quiet c [] h = absurd cc
  arrow-quiet c (a ∷ us) h = by-token a.token a.had_line_break a.span h
    where
      by-token : (t : Token) (b : Bool) (s : Span) → is_arrow t ≡ true
          → (no_link true (tk t b s ∷ us) ≡ true) × (no_update_at (Some (tk t b s)) ≡ true) × Bound c 0 (tk t b s ∷ us)
      by-token token.Arrow b s h = (refl, refl, λ op k. absurd cc)
      by-token t b s h = absurd cc

  -- a list in parentheses: as an operand, and as it is read where an arrow may be
  abbrev paren_of : Span → Tree F C K → Tree F C K
  paren_of s es = paren_e (to s (span_of es)) (seq_of (held_exprs (items_of es)))

  -- what was read after a primary expression, at the head
  pub record Behind (d : Scope) (l : Tree F C K) (us : List TokenAndSpan) (e : Tree F C K) (ms : List TokenAndSpan)
      : Type 0 where
    pub left : Tree F C K
    pub behind : List TokenAndSpan
    pub linked : run hook (links true l) d us ≡ Some (left, behind)
    pub operand : Tree F C K
    pub next : List TokenAndSpan
    pub updated : run hook (updates left) d behind ≡ Some (operand, next)
    pub climbed : run hook (climb operand 0) d next ≡ Some (e, ms)

  last-is : (g : Option ℕ) (k : Call F C K) (c : Scope) (ts : List TokenAndSpan) {o : Out (Ans F C K k)}
      → allowed g (rank k) ≡ true → exec hook (run hook) g (read k c (λ v. gives v)) ts ≡ o → run hook k c ts ≡ o
  last-is g k c ts h d = sym_path (last hook g k c ts h) ∙ d

  pub level-behind : (d : Scope) (xs ms : List TokenAndSpan) (e : Tree F C K)
      → unary {F = F} {C = C} {K = K} d xs ≡ operand d → begins_new xs ≡ false
      → base {F = F} {C = C} {K = K} true d xs ≡ pick base-primary → begins_private true d xs ≡ false
      → run hook (sym (Level 1)) d xs ≡ Some (e, ms)
      → (n : Tree F C K × List TokenAndSpan) × (run hook (sym Primary) d xs ≡ Some n) × Behind (inner d) n.0 n.1 e ms
  level-behind d xs ms e hu hn hb hp h =
      let (q, a1, b1) = then-ok (run hook (sym Unary) d xs) _ (sym_path (knot hook (sym (Level 1)) d xs
      ∙ ap (λ v. exec hook (run hook) (Some 12) v xs) (if-off (begins_private true d xs) _ _ hp)) ∙ h) in
      let k2 : exec hook (run hook) (Some 11) (operand d) xs ≡ Some q =
      ap (λ v. exec hook (run hook) (Some 11) v xs) (sym_path hu) ∙ sym_path (knot hook (sym Unary) d xs) ∙ a1 in
      let (p, a2, b2) = then-ok (run hook (sym (Lhs true)) d xs) _ k2 in
      let sides : Plan F C K (Tree F C K) =
      read (sym (Base true)) d (λ v. read (links true v) (inner d) (λ w. gives w)) in
      let k3 : exec hook (run hook) (Some 10) sides xs ≡ Some p =
      ap (λ v. exec hook (run hook) (Some 10) v xs) (sym_path (if-off (begins_new xs) (constructed true d) sides hn))
      ∙ sym_path (knot hook (sym (Lhs true)) d xs) ∙ a2 in
      let (o, a3, b3) = then-ok (run hook (sym (Base true)) d xs) _ k3 in
      let k4 : exec hook (run hook) (Some 9) (chosen (pick (base-primary {c = d} {b = true}))) xs ≡ Some o =
      ap (λ v. exec hook (run hook) (Some 9) (chosen v) xs) (sym_path hb) ∙ sym_path (knot hook (sym (Base true)) d xs)
      ∙ a3 in
      let (n, a4, b4) = then-ok (run hook (sym Primary) d xs) _ k4 in (
        o,
        a4 ∙ b4,
        record {
          left = p.0;
          behind = p.1;
          linked = last-is (Some 10) (links true o.0) (inner d) o.1 refl b3;
          operand = q.0;
          next = q.1;
          updated = last-is (Some 11) (updates p.0) (inner d) p.1 refl b2;
          climbed = last-is (Some 12) (climb q.0 0) (inner d) q.1 refl b1;
        },
      )

  -- where an arrow is after it, nothing was read there
  behind-arrow : (d : Scope) (l : Tree F C K) (us : List TokenAndSpan) (e : Tree F C K) (ms : List TokenAndSpan)
      → left_ok l ≡ true → Behind d l us e ms → at_token is_arrow (first us) ≡ true → at_token is_arrow (first ms)
      ≡ true
  behind-arrow d l us e ms g v y =
      let (x, u, q) = arrow-quiet d us y in
      let i = inj (l, us) (v.left, v.behind) (sym_path (links-end hook true l d us x) ∙ v.linked) in
      let j : run hook (updates l) d us ≡ Some (v.operand, v.next) =
      subst (λ w. run hook (updates w.0) d w.1 ≡ Some (v.operand, v.next)) (sym_path i) v.updated in
      let k = inj (l, us) (v.operand, v.next) (sym_path (updates-end hook d l us u) ∙ j) in
      let m : run hook (climb l 0) d us ≡ Some (e, ms) =
      subst (λ w. run hook (climb w.0 0) d w.1 ≡ Some (e, ms)) (sym_path k) v.climbed in
      let o = inj (l, us) (e, ms) (sym_path (climb-ends hook l 0 d us g q) ∙ m) in
      subst (λ w. at_token is_arrow (first w.1) ≡ true) o y

  pub base-behind : (c : Scope) (l : Tree F C K) (us : List TokenAndSpan) (e : Tree F C K) (ms : List TokenAndSpan)
      → Behind (inner c) l us e ms → exec hook (run hook) (Some 2) (behind_base c l) us ≡ run hook (assigns e) c ms
  base-behind c l us e ms v = rw (v.linked, v.updated, v.climbed) (last hook (Some 2) (assigns e) c ms refl)

  head-reads : (c : Scope) (b : Bool) (s : Span) (us vs : List TokenAndSpan) (es : Tree F C K)
      → run hook (sym (Args false)) (with_in c) us ≡ Some (es, vs)
      → run hook (sym Assign) c (tk token.LParen b s ∷ us) ≡ run hook (parens s es) c vs
  head-reads c b s us vs es h =
      knot hook (sym Assign) c (tk token.LParen b s ∷ us) ∙ rw h (last hook None (parens s es) c vs refl)

  pub given-run : {A B : Type 0} (g : Option ℕ) (o : Option A) (k : A → Rule Symbol (Answer F C K) Body (Value F C K) B)
      (ts : List TokenAndSpan) {r : B × List TokenAndSpan} → exec hook (run hook) g (plan (given o >>= k)) ts ≡ Some r
      → (x : A) × (o ≡ Some x) × (exec hook (run hook) g (plan (k x)) ts ≡ Some r)
  given-run g None k ts h = cc
  given-run g (Some x) k ts h = (x, refl, h)

  -- what is picked with nothing after it that goes on as an arrow function
  pub apart-picked : {s : Symbol} {c : Scope} {r : Side F C K s} (p : Production s c r) (g : Option ℕ)
      (xs : List TokenAndSpan) (o : Answer F C K s × List TokenAndSpan)
      → exec hook (run hook) g (chosen (pick_apart p)) xs ≡ Some o
      → (exec hook (run hook) g (chosen (pick p)) xs ≡ Some o) × (at_token is_arrow (first o.1) ≡ false)
  apart-picked {r = r} p g xs o h = apart-read hook (run hook) g (plan r) xs o h

  pub listed-reads : (c : Scope) (b : Bool) (s : Span) (us ms : List TokenAndSpan) (e : Tree F C K)
      → run hook (sym (Level 1)) (at_head c) (tk token.LParen b s ∷ us) ≡ Some (e, ms)
      → run hook (sym Assign) c (tk token.LParen b s ∷ us) ≡ run hook (assigns e) c ms
  listed-reads c b s us ms e h =
      let d = at_head c in
      let xs = tk token.LParen b s ∷ us in
      let (o, a4, v) = level-behind d xs ms e refl refl refl refl h in
      let (w, a5, b5) =
      then-ok (run hook (sym (Args false)) (with_in c) us) _ (sym_path (knot hook (sym Primary) d xs) ∙ a4) in
      let (ok, b6) = only (paren_ok c.syntax.pedantic w.0) b5 in
      let (y, b7) = unless (sees (λ t. is_arrow t.token) w.1) b6 in
      let l0 = paren_of s w.0 in
      let u : Behind (inner c) l0 w.1 e ms =
      subst (λ x. Behind (inner c) x.0 x.1 e ms) (sym_path (inj (l0, w.1) o b7)) v in
      head-reads c b s us w.1 w.0 a5 ∙ knot hook (parens s w.0) c w.1
      ∙ rw (first-sees is_arrow w.1 y, ok) (base-behind c l0 w.1 e ms u)

  -- an arrow function
  pub params-reads : (c : Scope) (b : Bool) (s : Span) (us ms ys : List TokenAndSpan) (hs t : Tree F C K)
      → run hook (sym ArrowParams) c (tk token.LParen b s ∷ us) ≡ Some (hs, ms) → at_token is_arrow (first ms) ≡ true
      → exec hook (run hook) (Some 2) (plan (arrow_tail c hs)) ms ≡ Some (t, ys)
      → run hook (sym Assign) c (tk token.LParen b s ∷ us) ≡ Some (t, ys)
  params-reads c b s us ms ys hs t h y d =
      let (w, a1, b1) = then-ok (run hook (sym (Args false)) (with_in c) us) _
      (sym_path (knot hook (sym ArrowParams) c (tk token.LParen b s ∷ us)) ∙ h) in
      let (ps, e, b2) = given-run None (as_params w.0) _ w.1 b1 in
      let (ok, b3) = only (arrow_params_ok c.context ps) b2 in
      let o = inj (listed None (to s (span_of w.0)) ps, w.1) (hs, ms) b3 in
      let z : at_token is_arrow (first w.1) ≡ true = subst (λ v. at_token is_arrow (first v.1) ≡ true) (sym_path o) y in
      let f : exec hook (run hook) (Some 2) (plan (arrow_tail c (listed None (to s (span_of w.0)) ps))) w.1
      ≡ Some (t, ys) =
      subst (λ v. exec hook (run hook) (Some 2) (plan (arrow_tail c v.0)) v.1 ≡ Some (t, ys)) (sym_path o) d in
      head-reads c b s us w.1 w.0 a1 ∙ knot hook (parens s w.0) c w.1 ∙ rw (z, e, ok) f

  -- A reference that may be alone, before `=>`: nothing more is read there than it.
  alone-places : (d : Scope) (a : TokenAndSpan) (us : List TokenAndSpan) → is_alone d.context a.token ≡ true
      → (unary {F = F} {C = C} {K = K} d (a ∷ us) ≡ operand d) × (begins_new (a ∷ us) ≡ false)
      × (base {F = F} {C = C} {K = K} true d (a ∷ us) ≡ pick base-primary)
  alone-places d a us h = by-token a.token a.had_line_break a.span h
    where
      by-token : (t : Token) (b : Bool) (s : Span) → is_alone d.context t ≡ true
          → (unary {F = F} {C = C} {K = K} d (tk t b s ∷ us) ≡ operand d) × (begins_new (tk t b s ∷ us) ≡ false)
          × (base {F = F} {C = C} {K = K} true d (tk t b s ∷ us) ≡ pick base-primary)
      by-token (token.Word (word.Ident w)) b s h = (refl, refl, refl)
      by-token (token.Word (word.Keyword keyword.Yield)) b s h = (refl, refl, refl)
      by-token (token.Word w) b s h = let (x, y) = both (is_reference d.context w) (is_arrow_word w) h in absurd cc
      by-token t b s h = absurd cc

  arrow-signs : (us : List TokenAndSpan) → at_token is_arrow (first us) ≡ true
      → (is_function_here us ≡ false) × (is_lparen_here (first us) ≡ false)
  arrow-signs [] h = absurd cc
  arrow-signs (t ∷ ts) h = by-token t.token t.had_line_break h
    where
      by-token : (u : Token) (b : Bool) → is_arrow u ≡ true
          → ((is_function u && not b) ≡ false) × ((not b && is_lparen u) ≡ false)
      by-token token.Arrow b h = (refl, and-false (not b))
      by-token u b h = absurd cc

  alone-primary : (d : Scope) (a : TokenAndSpan) (us : List TokenAndSpan) (o : Tree F C K × List TokenAndSpan)
      → is_alone d.context a.token ≡ true → at_token is_arrow (first us) ≡ true
      → run hook (sym Primary) d (a ∷ us) ≡ Some o → (left_ok o.0 ≡ true) × (o.1 ≡ us)
  alone-primary d a us o i y h = by-token a.token a.had_line_break a.span i h
    where
      given-name : (n : Spelling) → Some (ident_e n.at n.text, us) ≡ Some o → (left_ok o.0 ≡ true) × (o.1 ≡ us)
      given-name n e =
          let same = inj (ident_e {F = F} {C = C} {K = K} n.at n.text, us) o e in
          (subst (λ v. left_ok v.0 ≡ true) same refl, sym_path (ap (λ v. v.1) same))

      by-token : (t : Token) (b : Bool) (s : Span) → is_alone d.context t ≡ true
          → run hook (sym Primary) d (tk t b s ∷ us) ≡ Some o → (left_ok o.0 ≡ true) × (o.1 ≡ us)
      by-token (token.Word w) b s i h = by-put (is_put_off w) refl
        where
          by-put : (z : Bool) → is_put_off w ≡ z → (left_ok o.0 ≡ true) × (o.1 ≡ us)
          by-put true z =
              let xs = tk (token.Word w) b s ∷ us in
              let (f, l) = arrow-signs us y in
              let rest : Spelling → Side F C K Primary =
              λ m. peek (goes_on_async d) (peek_two (of_arrow d) (gives (ident_e m.at m.text))) in
              let k : exec hook (run hook) (Some 8) (chosen (pick (async-ident {c = d}))) xs ≡ Some o =
              ap (λ v. exec hook (run hook) (Some 8) (chosen v) xs)
              (sym_path (async-picks-primary hook d (tk (token.Word w) b s) us (put-token w z) f
              ∙ if-off (d.head && is_lparen_here (first us)) (pick_apart async-call) (pick async-ident)
              (rw l (and-false d.head))))
              ∙ sym_path (knot hook (sym Primary) d xs) ∙ h in
              let (m, j, k1) = given-run None (async_name d (token.Word w) s) rest us k in
              let (q, k2) = unless (sees (goes_on_async d) us) k1 in
              let (r, k3) = unless (sees_two (of_arrow d) us) k2 in
              given-name m k3
          by-put false z =
              let xs = tk (token.Word w) b s ∷ us in
              let ref : is_identifier d.context (token.Word w) ≡ true =
              rw ((both (is_reference d.context w) (is_arrow_word w) i).0, z) refl in
              let chose : primary {F = F} {C = C} {K = K} d xs ≡ pick ident-expr =
              if-on (is_identifier d.context (token.Word w)) (pick ident-expr) _ ref in
              let k : exec hook (run hook) (Some 8) (chosen (pick (ident-expr {c = d}))) xs ≡ Some o =
              ap (λ v. exec hook (run hook) (Some 8) (chosen v) xs) (sym_path chose)
              ∙ sym_path (knot hook (sym Primary) d xs) ∙ h in
              let (m, j, k1) =
              given-run None (reference d (token.Word w) s) (λ n. gives (ident_e n.at n.text)) us k in
              given-name m k1
      by-token t b s i h = absurd cc

  alone-no-hash : (c : Context) (t : Token) → is_alone c t ≡ true → is_hash t ≡ false
  alone-no-hash c (token.Word w) h = refl
  alone-no-hash c t h = absurd cc

  pub alone-ends : (c : Scope) (a : TokenAndSpan) (us ms : List TokenAndSpan) (e : Tree F C K)
      → is_alone c.context a.token ≡ true → is_arrow_here (first us) ≡ true
      → run hook (sym (Level 1)) (at_head c) (a ∷ us) ≡ Some (e, ms) → at_token is_arrow (first ms) ≡ true
  alone-ends c a us ms e i j h =
      let d = at_head c in
      let y = here-arrow (first us) j in
      let (pu, pn, pb) = alone-places d a us i in
      let (o, a4, v) = level-behind d (a ∷ us) ms e pu pn pb (rw (alone-no-hash c.context a.token i) refl) h in
      let (l, k) = alone-primary d a us o i y a4 in
      behind-arrow (inner c) o.0 o.1 e ms l v (subst (λ w. at_token is_arrow (first w) ≡ true) (sym_path k) y)

  brace-more : (ts us : List TokenAndSpan) → begins_own is_brace ts ≡ true → begins_own is_brace (ts ++ us) ≡ true
  brace-more [] us h = absurd cc
  brace-more (t ∷ ts) us h = h

  no-brace : (xs : List TokenAndSpan) → sees (λ t. is_brace t.token) xs ≡ false → begins_own is_brace xs ≡ false
  no-brace [] h = refl
  no-brace (t ∷ ts) h = h

  pub picked-body : {c : Scope} {is_async : Bool} {r : Side F C K (ArrowBody is_async)} {xs ys : List TokenAndSpan}
      {t : Tree F C K} (p : Production (ArrowBody is_async) c r)
      → Follows hook (ArrowBody is_async) r xs ys t → arrow_block is_async c xs ≡ pick p
  picked-body {c = c} body-block (heard {ms = ms} h d) =
      let k : begins_own is_brace (h.own ++ ms) ≡ true = brace-more h.own ms h.begins in
      let e = sym_path h.list in
      rw (subst (λ v. begins_own is_brace v ≡ true) e k) refl
  picked-body body-expr (calm {xs = xs} h d) = rw (no-brace xs h) refl

  pub ready-body : {c : Scope} {is_async : Bool} {r : Side F C K (ArrowBody is_async)} (ys : List TokenAndSpan)
      → Stop (ArrowBody is_async) c ys → Production (ArrowBody is_async) c r → Ready (Some 15) ys r
  ready-body ys stop body-block = λ v s. tt
  ready-body ys stop body-expr = (refl, λ e. (stop, tt))
