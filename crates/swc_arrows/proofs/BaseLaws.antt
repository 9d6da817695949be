-- What the clean parser reads where an assignment expression begins with an operand that may have been the parameters
-- of an arrow function (13.2.9, 13.3.8, 15.9): the grammar derives it, and so it holds nothing that was refused.
use Rattle.std.proofs.Common.{◌≡◌, ℕ, Bool, true, false, not, ◌&&◌, ◌||◌, if◌then◌else◌, List, [], ◌∷◌, Option, Some, None, map, refl, sym, ap, subst, ◌∙◌, arith}
use Rattle.swc_context.specs.{declared.span.Span.Span, declared.word.Word.Word as word}
use Rattle.swc_input.specs.{declared.token.Token.Token, declared.token.TokenAndSpan.TokenAndSpan, Kinds.at_token, Source.Model, declared.buffer.Buffer.Buffer}
use Rattle.swc_input.specs.declared.token.Token.TheVariants as token
use Rattle.swc_ast.specs.Trees.{ident_e, is_valid, covers_ok, paren_ok}
use Rattle.swc_ast.specs.{Tree.Tree, declared.expr.ExprOrSpread.ExprOrSpread, declared.spanned.Spanned.Ghosts}
use Rattle.swc_bodies.specs.Readings.{Hook, LawfulHook, is_async as is_async_token, is_function}
use Rattle.swc_grammar.specs.Arrows.{async_name, goes_on_async, is_arrow, is_bindable, is_of, of_arrow, before_of as of_follows}
use Rattle.swc_grammar.specs.Clean.{Out, first, second, run, links, updates, climb}
use Rattle.swc_grammar.specs.Grammar.{async-ident, base-primary, call, left-base, lhs-left, paren-expr}
use Rattle.swc_grammar.specs.Names.{Spelling, spelled, may_refer}
use Rattle.swc_grammar.specs.Reads.{Reads, by, gave, took, held, calm, calm-two, part}
use Rattle.swc_grammar.specs.Symbols.{Args, Left, Level}
use Rattle.swc_grammar.specs.Tokens.{with_in, is_await, is_lparen, is_put_off}
use Rattle.swc_grammar.specs.Words.{◌>>=◌, one, word as word_at}
use Rattle.swc_grammar.specs.{Rule.sees, Rule.sees_two, Scope.Scope, Scope.inner}
use Rattle.swc_grammar.proofs.Answers.{only, unless, inj}
use Rattle.swc_grammar.proofs.Sound.{sound, run-sound, alone}
use Rattle.swc_grammar.proofs.{Good.valid, Induct.follows-given}
use Rattle.swc_nodes.specs.GrowingNodes.{first_start, last_end, Apart}
use Rattle.swc_nodes.specs.{NodeParts.args_parts, declared.node.ExprId.ExprId, declared.nodes.Nodes.Nodes}
use Rattle.swc_steps.specs.Args.{args_inside, paren_closed, paren_of, paren_from}
use Rattle.swc_input.specs.Calls.{Here}
use Rattle.swc_steps.specs.Parsing.{args_at, Told, On, Heard}
use Rattle.swc_steps.specs.{Keys.expected, Keys.expected_by, Lists.eaten, Lists.eaten_by, declared.tokens.Listed.Listed}
use Rattle.swc_steps.proofs.Steps.{give, on_call_read, on_then, on_told, heard_after, heard_more}
use Rattle.swc_steps.proofs.{Args.inside_args, Steps.Inner.inner_is}
use Rattle.swc_arrows.proofs.Closes.{closed_clean}
use Rattle.swc_arrows.specs.Readers.{async_base, async_call, base_look, base_plain, before_of, is_of_alone, list_opening, listed_base, of_base, operators_behind}
use Rattle.swc_arrows.specs.Answers.{HearsOperand, Operand}

-- ---- tokens

-- what was read, and what is read after it
then_read : {A B : Type 0} (o : Out A) (f : A × List TokenAndSpan → Out B) {r : B × List TokenAndSpan}
    → (o >>= f) ≡ Some r → (p : A × List TokenAndSpan) × (o ≡ Some p) × (f p ≡ Some r)
then_read None f h = cc
then_read (Some p) f h = (p, refl, h)

-- a token that comes first
record Taken (f : Token → Bool) (ts us : List TokenAndSpan) (s : Span) : Type 0 where
  pub token : TokenAndSpan
  pub list : ts ≡ token ∷ us
  pub is : f token.token ≡ true
  pub place : token.span ≡ s

by_test : (f : Token → Bool) (t : TokenAndSpan) (ts : List TokenAndSpan) (b : Bool) (s : Span) (us : List TokenAndSpan)
    → f t.token ≡ b → (eaten_by b (t ∷ ts) >>= (λ p. expected_by p.0 p.1)) ≡ Some (s, us) → Taken f (t ∷ ts) us s
by_test f t ts true s us h k =
    let e = inj (t.span, ts) (s, us) k in
    record { token = t; list = ap (λ p. t ∷ p.1) e; is = h; place = ap (λ p. p.0) e }
by_test f t ts false s us h k = cc

expected_took : (f : Token → Bool) (x : Scope) (ts : List TokenAndSpan) (s : Span) (us : List TokenAndSpan)
    → expected f x ts ≡ Some (s, us) → Taken f ts us s
unfolding expected eaten
expected_took f x [] s us h = cc
expected_took f x (t ∷ ts) s us h = by_test f t ts (f t.token) s us refl h

-- `async`, which comes first, as a reference
record Async (x : Scope) (ts us : List TokenAndSpan) (n : Spelling) : Type 0 where
  pub token : TokenAndSpan
  pub list : ts ≡ token ∷ us
  pub name : async_name x token.token token.span ≡ Some n
  pub calm : is_await token.token ≡ false

put_off : (m p : Bool) (n : Spelling) (us : List TokenAndSpan) (k : Spelling × List TokenAndSpan) → p ≡ true
    → one (if m then Some n else None) us ≡ Some k → ((if m && p then Some n else None) ≡ Some k.0) × (us ≡ k.1)
put_off true true n us k h e = (ap (λ q. Some q.0) (inj (n, us) k e), ap (λ q. q.1) (inj (n, us) k e))
put_off true false n us k h e = absurd cc
put_off false p n us k h e = cc

async_by : (x : Scope) (t : Token) (s : Span) (ts : List TokenAndSpan) (k : Spelling × List TokenAndSpan)
    → is_async_token t ≡ true → one (spelled (may_refer x.context) t s) ts ≡ Some k
    → (async_name x t s ≡ Some k.0) × (ts ≡ k.1) × (is_await t ≡ false)
async_by x (token.Word (word.Ident w)) s ts k h e =
    let (n, l) = put_off (may_refer x.context (word.Ident w)) (is_put_off (word.Ident w)) _ ts k h e in (n, l, refl)
async_by x t s ts k h e = absurd cc

async_took : (x : Scope) (ts : List TokenAndSpan) (n : Spelling) (us : List TokenAndSpan)
    → at_token is_async_token (first ts) ≡ true → word_at may_refer x ts ≡ Some (n, us) → Async x ts us n
unfolding word_at
async_took x [] n us h k = absurd cc
async_took x (t ∷ ts) n us h k =
    let (m, l, c) = async_by x t.token t.span ts (n, us) h k in
    record { token = t; list = ap (λ v. t ∷ v) l; name = m; calm = c }

-- ---- where no assignment expression begins, `async` is an identifier

nothing_on : (a b c d : Bool) → b ≡ false → c ≡ false → (not a && (b || (c && d))) ≡ false
nothing_on true b c d h k = refl
nothing_on false true c d h k = absurd cc
nothing_on false false true d h k = absurd cc
nothing_on false false false d h k = refl

calm_at : (x : Scope) (t : TokenAndSpan) → x.head ≡ false → is_function t.token ≡ false → goes_on_async x t ≡ false
calm_at x t n h =
    nothing_on t.had_line_break (is_function t.token) x.head
    (is_lparen t.token || (is_bindable x t.token && not (of_follows x t.token))) h n

calm_two : (x : Scope) (ts : List TokenAndSpan) → x.head ≡ false → sees_two (of_arrow x) ts ≡ false
calm_two x [] n = refl
calm_two x (t ∷ []) n = refl
calm_two x (t ∷ u ∷ ts) n =
    ap (λ b. b && (not t.had_line_break && ((is_bindable x t.token && of_follows x t.token) && is_arrow u.token))) n

lparen_calm : (t : Token) → is_lparen t ≡ true → is_function t ≡ false
lparen_calm token.LParen h = refl
lparen_calm t h = absurd cc

lparen_no_await : (t : Token) → is_lparen t ≡ true → is_await t ≡ false
lparen_no_await token.LParen h = refl
lparen_no_await t h = absurd cc

of_calm : (t : Token) → is_of t ≡ true → is_function t ≡ false
of_calm (token.Word (word.Ident w)) h = refl
of_calm t h = absurd cc

of_sees : (x : Scope) (ts : List TokenAndSpan) → x.head ≡ false → at_token is_of (first ts) ≡ true
    → sees (goes_on_async x) ts ≡ false
of_sees x [] n h = refl
of_sees x (t ∷ ts) n h = calm_at x t n (of_calm t.token h)

alone_of : (a b c : Bool) → (a && (b && c)) ≡ true → b ≡ true
alone_of true true c h = refl
alone_of true false c h = absurd cc
alone_of false b c h = absurd cc

module _ {F C K : Type 0} (hook : Hook F C K) (x : Scope) (n : x.head ≡ false) where
  async_left : (a : TokenAndSpan) (m : Spelling) (us : List TokenAndSpan) → async_name x a.token a.span ≡ Some m
      → sees (goes_on_async x) us ≡ false → Reads hook (Left true) x (a ∷ us) us (ident_e m.at m.text)
  async_left a m us h s =
      by left-base (part (by base-primary (part (by async-ident (took (follows-given (async_name x a.token a.span) _ m h
      (calm s (calm-two (calm_two x us n) gave))))) gave)) gave)

  -- ---- `async` before `of`

  before_took : (m : Spelling) (ts : List TokenAndSpan) (r : Tree F C K × List TokenAndSpan) (b : Bool)
      → is_of_alone x.context ts ≡ b → (if b then of_base m x ts else None) ≡ Some r
      → (at_token is_of (first ts) ≡ true) × ((ident_e m.at m.text, ts) ≡ r)
  before_took m ts r true h k = (
    alone_of x.context.expr_ctx.for_loop_init (at_token is_of (first ts)) (not (at_token is_arrow (second ts))) h,
    inj (ident_e m.at m.text, ts) r (only x.context.expr_ctx.for_await_loop_init k).1,
  )
  before_took m ts r false h k = cc

  pub async_is_operand : (ts us : List TokenAndSpan) (e : Tree F C K) → async_base x ts ≡ Some (e, us)
      → Operand hook x ts us e
  unfolding async_base
  async_is_operand ts us e h =
      let (y, k) = only (at_token is_async_token (first ts)) h in
      let (p, w, l) = then_read (word_at may_refer x ts) (λ p. before_of p.0 x p.1) k in
      let a = async_took x ts p.0 p.1 y w in
      let (o, same) = before_took p.0 p.1 (e, us) (is_of_alone x.context p.1) refl l in
      let d = async_left a.token p.0 p.1 a.name (of_sees x p.1 n o) in
      subst (λ v. Operand hook x v us e) (sym a.list)
      (record { derived = subst (λ v. Reads hook (Left true) x (a.token ∷ p.1) v.1 v.0) same d; calm = a.calm })

module _ {F C K : Type 0} {fun_at : F → Span} {class_at : C → Span} {block_at : K → Span} (hook : Hook F C K)
    (lawful : LawfulHook fun_at class_at block_at hook) (x : Scope) (n : x.head ≡ false) where
  -- ---- lists in parentheses

  args_read : (ts us : List TokenAndSpan) (es : Tree F C K) → args_inside hook false x ts ≡ Some (es, us)
      → Reads hook (Args false) (with_in x) ts us es
  args_read ts us es h = sound hook lawful (Args false) (with_in x) ts (es, us) (sym (inside_args hook false x ts) ∙ h)

  paren_read : (a : TokenAndSpan) (vs ws us : List TokenAndSpan) (es e : Tree F C K) → is_lparen a.token ≡ true
      → Reads hook (Args false) (with_in x) vs ws es → paren_closed (paren_of x a.span es) ws ≡ Some (e, us)
      → Reads hook (Left true) x (a ∷ vs) us e
  paren_read a vs ws us es e y d h =
      let (z, k) = only (not (at_token is_arrow (first ws))) h in
      let (ok, l) = only (paren_ok x.syntax.pedantic es) k in
      subst (λ v. Reads hook (Left true) x (a ∷ vs) v.1 v.0) (inj _ (e, us) l)
      (by left-base (part (by base-primary (part (by paren-expr (took (held y (part d (held ok gave))))) gave)) gave))

  call_read : (a b : TokenAndSpan) (m : Spelling) (vs ws us : List TokenAndSpan) (es e : Tree F C K)
      → async_name x a.token a.span ≡ Some m → is_lparen b.token ≡ true → Reads hook (Args false) (with_in x) vs ws es
      → async_call (ident_e m.at m.text) es x ws ≡ Some (e, us) → Reads hook (Left true) x (a ∷ b ∷ vs) us e
  call_read a b m vs ws us es e i y d h =
      let (ok, l) = only (covers_ok x.syntax.pedantic es) h in
      subst (λ v. Reads hook (Left true) x (a ∷ b ∷ vs) v.1 v.0) (inj _ (e, us) l)
      (by call (part (async_left hook x n a m (b ∷ vs) i (calm_at x b n (lparen_calm b.token y)))
      (took (held y (part d gave)))))

  paren_operand : (ts vs ws us : List TokenAndSpan) (s : Span) (es e : Tree F C K)
      → expected is_lparen x ts ≡ Some (s, vs) → args_inside hook false x vs ≡ Some (es, ws)
      → paren_closed (paren_of x s es) ws ≡ Some (e, us) → Operand hook x ts us e
  paren_operand ts vs ws us s es e h k l =
      let t = expected_took is_lparen x ts s vs h in
      subst (λ v. Operand hook x v us e) (sym t.list)
      (record {
        derived = paren_read t.token vs ws us es e t.is (args_read vs ws es k)
            (subst (λ v. paren_closed (paren_of x v es) ws ≡ Some (e, us)) (sym t.place) l);
        calm = lparen_no_await t.token.token t.is;
      })

  -- `async`, as an identifier, and such a list
  call_operand : (ts us0 vs ws us : List TokenAndSpan) (m : Spelling) (s : Span) (es e : Tree F C K)
      → at_token is_async_token (first ts) ≡ true → word_at may_refer x ts ≡ Some (m, us0)
      → expected is_lparen x us0 ≡ Some (s, vs) → args_inside hook false x vs ≡ Some (es, ws)
      → (if at_token is_arrow (first ws) then None else async_call (ident_e m.at m.text) es x ws) ≡ Some (e, us)
      → Operand hook x ts us e
  call_operand ts us0 vs ws us m s es e y w h k l =
      let a = async_took x ts m us0 y w in
      let t = expected_took is_lparen x us0 s vs h in
      subst (λ v. Operand hook x v us e) (sym (a.list ∙ ap (λ v. a.token ∷ v) t.list))
      (record {
        derived = call_read a.token t.token m vs ws us es e a.name t.is (args_read vs ws es k)
            (unless (at_token is_arrow (first ws)) l).1;
        calm = a.calm;
      })

  -- What was heard one after another: how the list begins, what is in it, and what it is.
  pub opened_operand : (b : Bool) (o : Option (Tree F C K)) (s : Span) (ts vs ws us : List TokenAndSpan)
      (es e : Tree F C K) → list_opening b x ts ≡ Some ((o, s), vs) → args_inside hook false x vs ≡ Some (es, ws)
      → base_plain o s es x ws ≡ Some (e, us) → Operand hook x ts us e
  unfolding list_opening
  opened_operand false o s ts vs ws us es e h k l =
      let (p, y, q) = then_read (expected is_lparen x ts) (λ p. Some ((None, p.0), p.1)) h in
      let same : ((None, p.0), p.1) ≡ ((o, s), vs) = inj ((None, p.0), p.1) ((o, s), vs) q in
      paren_operand ts p.1 ws us p.0 es e y (ap (λ v. args_inside hook false x v.1) same ∙ k)
      (ap (λ v. base_plain v.0.0 v.0.1 es x ws) same ∙ l)
  opened_operand true o s ts vs ws us es e h k l =
      let (z, j) = only (at_token is_async_token (first ts)) h in
      let (p, w, i) = then_read (word_at may_refer x ts) _ j in
      let (q, y, f) = then_read (expected is_lparen x p.1)
      (λ q. Some ((Some (ident_e p.0.at p.0.text), p.0.at), q.1)) i in
      let same : ((Some (ident_e p.0.at p.0.text), p.0.at), q.1) ≡ ((o, s), vs) =
      inj ((Some (ident_e p.0.at p.0.text), p.0.at), q.1) ((o, s), vs) f in
      call_operand ts p.1 q.1 ws us p.0 q.0 es e z w y (ap (λ v. args_inside hook false x v.1) same ∙ k)
      (ap (λ v. base_plain v.0.0 v.0.1 es x ws) same ∙ l)

  pub listed_operand : (b : Bool) (ts us : List TokenAndSpan) (e : Tree F C K) → listed_base hook b x ts ≡ Some (e, us)
      → Operand hook x ts us e
  unfolding listed_base
  listed_operand b ts us e h =
      let (p, o, k) = then_read (list_opening b x ts) _ h in
      let (q, a, l) = then_read (args_inside hook false x p.1) _ k in
      opened_operand b p.0.0 p.0.1 ts p.1 q.1 us q.0 e o a l

  -- ---- what is after it

  -- After an operand its links, `++` or `--`, and operators: the grammar derives all of it, as operators.
  pub operators_read : (xs ts us vs ws : List TokenAndSpan) (e l u k : Tree F C K) → Operand hook x xs ts e
      → run hook (links true e) x ts ≡ Some (l, us) → run hook (updates l) x us ≡ Some (u, vs)
      → run hook (climb u 0) x vs ≡ Some (k, ws) → Reads hook (Level 1) x xs ws k
  operators_read xs ts us vs ws e l u k o h i j =
      let e0 : inner x ≡ x = inner_is x n in
      let d = run-sound hook lawful (links true e) x ts (l, us) h false xs
      (subst (λ v. Reads hook (Left true) v xs ts e) (sym e0) o.derived) in
      let w = run-sound hook lawful (updates l) x us (u, vs) i false xs o.calm (by lhs-left (part d gave)) in
      let (c, b) = run-sound hook lawful (climb u 0) x vs (k, ws) j (omega arith) false xs (alone w) in
      subst (λ v. Reads hook (Level 1) v xs ws k) e0 c

  pub operators_valid : (xs ts us vs ws : List TokenAndSpan) (e l u k : Tree F C K) → Operand hook x xs ts e
      → run hook (links true e) x ts ≡ Some (l, us) → run hook (updates l) x us ≡ Some (u, vs)
      → run hook (climb u 0) x vs ≡ Some (k, ws) → is_valid k ≡ true
  operators_valid xs ts us vs ws e l u k o h i j = valid (operators_read xs ts us vs ws e l u k o h i j)

  -- the same, of what q reads, where that is an operand
  pub behind_operand : (q : Scope → List TokenAndSpan → Out (Tree F C K)) (xs us : List TokenAndSpan) (k : Tree F C K)
      → ((ts : List TokenAndSpan) (e : Tree F C K) → q x xs ≡ Some (e, ts) → Operand hook x xs ts e)
      → operators_behind hook q x xs ≡ Some (k, us) → Reads hook (Level 1) x xs us k
  unfolding operators_behind
  behind_operand q xs us k o h =
      let (p, a, f) = then_read (q x xs) _ h in
      let (l, i, g) = then_read (run hook (links true p.0) x p.1) _ f in
      let (u, j, w) = then_read (run hook (updates l.0) x l.1) _ g in
      operators_read xs p.1 l.1 u.1 us p.0 l.0 u.0 k (o p.1 p.0 a) i j w

module _ {F C K : Type 0} {fg : Ghosts F} {cg : Ghosts C} {kg : Ghosts K} (hook : Hook F C K)
    (lawful : LawfulHook fg.place cg.place kg.place hook) where
  plain_look : (a : Bool) (o u : Out (Tree F C K)) → (if not a then o else None) ≡ (if not a then u else None)
      → (if a then None else (if not a then u else None)) ≡ (if not a then o else None)
  plain_look true o u h = refl
  plain_look false o u h = sym h

  -- A list that was read: the first of its items begins, and the last one ends, where their places say.
  pub list_looks : {ns : Nodes F C K fg cg kg} {k : ℕ} (o : Option (Tree F C K)) (s : Span)
      (list : Listed (ExprOrSpread ExprId)) (y : Scope) (vs ws : List TokenAndSpan) → Apart k ns (args_parts list.items)
      → args_inside hook false y vs ≡ Some (args_at ns list, ws) → (x : Scope) (ts : List TokenAndSpan)
      → base_look (first_start ns (map (λ e. e.expr) list.items.items))
      (last_end ns (map (λ e. e.expr) list.items.items)) o s (args_at ns list) x ts
      ≡ base_plain o s (args_at ns list) x ts
  unfolding base_look
  list_looks {ns} None s list y vs ws a h x ts =
      plain_look (at_token is_arrow (first ts)) (paren_of x s (args_at ns list) ts)
      (paren_from (first_start ns (map (λ e. e.expr) list.items.items))
      (last_end ns (map (λ e. e.expr) list.items.items)) x s (args_at ns list) ts)
      (closed_clean hook lawful s list y vs ws a h x ts)
  list_looks (Some c) s list y vs ws a h x ts = refl

module _ {S F C K : Type 0} {fg : Ghosts F} {cg : Ghosts C} {kg : Ghosts K} {model : Model S} {sure : Bool}
    (hook : Hook F C K) (lawful : LawfulHook fg.place cg.place kg.place hook) where
  -- ---- the same in the code: how a list begins, what is in it, and that it is no parameters

  pub list_heard : {ns : Nodes F C K fg cg kg} {k : ℕ} (a : Bool) (o : Option (Tree F C K)) (s : Span)
      (list : Listed (ExprOrSpread ExprId)) {e : Tree F C K} {b c d f : Buffer S} → Apart k ns (args_parts list.items)
      → Heard model sure (list_opening a) (o, s) b c → Heard model sure (args_inside hook false) (args_at ns list) c d
      → On model sure (base_look (first_start ns (map (λ e. e.expr) list.items.items))
      (last_end ns (map (λ e. e.expr) list.items.items)) o s (args_at ns list)) (give e) d f
      → HearsOperand model sure hook e b f
  unfolding listed_base
  list_heard {ns} a o s list apart h i j = record {
    reader = listed_base hook a;
    heard = heard_more (λ x p. args_inside hook false x p.1 >>= (λ q. base_plain p.0.0 p.0.1 q.0 x q.1))
        (λ x ts. refl) h (on_then (on_call_read {g = base_look (first_start ns (map (λ e. e.expr) list.items.items))
        (last_end ns (map (λ e. e.expr) list.items.items)) o s (args_at ns list)}
        (λ x q. base_plain o s q.0 x q.1) (λ x ts. refl) i.on
        (λ x vs ws read y ys. sym (list_looks hook lawful o s list x vs ws apart read y ys))) j);
    operand = λ x ts us t n read. listed_operand hook lawful x n a ts us t read;
  }

  pub async_heard : {e : Tree F C K} {b c : Buffer S} → Heard model sure async_base e b c
      → HearsOperand model sure hook e b c
  async_heard h = record {
    reader = async_base;
    heard = h;
    operand = λ x ts us t n read. async_is_operand hook x n ts us t read;
  }

module _ {S F C K : Type 0} {model : Model S} {sure : Bool} (hook : Hook F C K) where
  -- the same, where a look ahead is before it
  pub operand_told : {V : Type 0} {test : List TokenAndSpan → V} {v : V} {e : Tree F C K} {a b c d : Buffer S}
      → Here model a b → Told model test v b c → HearsOperand model sure hook e c d → HearsOperand model sure hook e a d
  operand_told l t h = record {
    reader = h.reader;
    heard = heard_after (on_told {g = h.reader} l t (λ x ts same e told. refl)) h.heard;
    operand = h.operand;
  }
