-- Regular expressions: the hints to a lexer, and what is read, a step at a time.
use Rattle.std.specs.{Prelude.nat_eq, Prelude.if◌then◌else◌, List.list_any}
use Rattle.std.proofs.Common.{◌≡◌, ℕ, Bool, true, false, ◌&&◌, List, [], ◌∷◌, Option, Some, None, MatchOption, length, refl, sym, ap, ◌∙◌, arith}
use Rattle.swc_context.specs.{declared.span.BytePos.BytePos, declared.span.Span.Span, declared.operator.AssignOp.AssignOp as assign, declared.operator.BinOpToken.BinOpToken as sign}
use Rattle.swc_input.specs.Source.{Model, Laws, Hinted}
use Rattle.swc_input.specs.Buffer.{Took, Still, Lives, Bumped, current, source, held, with_source}
use Rattle.swc_input.specs.{declared.buffer.Buffer.Buffer, declared.token.Token.Token, declared.token.Token.Token as token, declared.token.TokenAndSpan.TokenAndSpan, Plain.plain, Kinds.at_token, Laws.Took-then, Laws.keeps_same}
use Rattle.swc_ast.specs.Trees.{to, at_place, regex_e}
use Rattle.swc_ast.specs.{declared.lit.Lit.Lit as lit, declared.lit.Regex.Regex, Parts.lit_tree, Tree.Tree, Tree.span_of}
use Rattle.swc_bodies.specs.Readings.{Hook}
use Rattle.swc_grammar.specs.Rule.{gives, given, one as one_of, ◌>>=◌ as ◌▸◌}
use Rattle.swc_grammar.specs.Parts.{regex_of, is_flag, repeated, flags_ok}
use Rattle.swc_grammar.specs.Tokens.{tk, is_slash, is_regex, begins_regex}
use Rattle.swc_grammar.specs.Clean.{first, sym as at, plan, exec, run}
use Rattle.swc_grammar.specs.{Scope.Scope, Symbols.Primary, Words.◌>>=◌, Words.one}
use Rattle.swc_grammar.proofs.Knot.{knot}
use Rattle.swc_steps.specs.Parsing.{scope, On}
use Rattle.swc_steps.specs.Regexes.{regex_in, regex_alone, regex_tail, from_slash, regex_text, regex_made, regex_expr, SkipsSlash}
use Rattle.swc_steps.proofs.Steps.{read_scope, Reader}

-- ---- hints

module _ {S : Type 0} (model : Model S) where
  pub hinted_lives : (b c : Buffer S) (start : Option BytePos)
      → Hinted start (model.state (source b)) (model.state (source c)) → Lives model b c
  hinted_lives b c start hint f = ap (λ s. s.failed) (sym hint.1) ∙ f

module _ {S : Type 0} {model : Model S} where
  -- that no regular expression begins changes nothing that is seen, and brings no token
  pub unhinted : (b c : Buffer S) → Took model b [] c → c ≡ with_source (source c) b
      → Hinted None (model.state (source b)) (model.state (source c)) → Still model b c
  unhinted b c took rest hint =
      let errors = ap (λ s. s.errors) hint.1 in
      let waiting = ap (λ s. s.waiting) hint.1 in
      record {
        read = record {
          took = took;
          context = ap (λ s. s.context) hint.1;
          errors = keeps_same _ _ errors;
          waiting = keeps_same _ _ waiting;
          lower = let bound = ap (λ s. s.bound) hint.1 in let held = ap (λ x. length (held x)) rest in
              let few = hint.2 in omega arith;
        };
        previous = ap (λ x. x.prev_span) rest;
        quiet = λ m h. (errors, waiting);
      }

  -- the slash was consumed, and the hint given that a regular expression begins there
  pub skips_slash : Laws model → (b c d : Buffer S) (t : Token) (start : BytePos) → Bumped model b t c
      → Took model c [] d → d ≡ with_source (source d) c →
      Hinted (Some start) (model.state (source c)) (model.state (source d)) → SkipsSlash model b d
  skips_slash laws b c d t start took hinting rest hint =
      let state = ap (λ x. model.state x.iter) took.now in
      let errors = ap (λ s. s.errors) hint.1 ∙ ap (λ s. s.errors) state in
      record {
        was = took.was;
        current = took.current;
        read = record {
          took = Took-then laws b c d (plain took.was ∷ []) [] took.read.took hinting;
          context = ap (λ s. s.context) hint.1 ∙ took.read.context;
          errors = keeps_same _ _ errors;
          waiting = keeps_same _ _ (ap (λ s. s.waiting) hint.1 ∙ ap (λ s. s.waiting) state);
          lower = let bound = ap (λ s. s.bound) hint.1 in let held = ap (λ x. length (held x)) rest in
              let few = hint.2 in let less = took.less in omega arith;
        };
        errors = errors;
        lives = λ f. ap (λ s. s.failed) (sym state) ∙ hinted_lives model c d (Some start) hint f;
        place = ap (λ x. x.prev_span) rest ∙ ap (λ x. x.prev_span) took.now;
      }

  pub slash_was : {b c : Buffer S} (h : SkipsSlash model b c) (p q : Span)
      → MatchOption (current b) (p ≡ q) (λ t. p ≡ t.span) → p ≡ h.was.span
  slash_was {b} h p q m = place_of b.cur h.was q p h.current m
    where
      place_of : (o : Option TokenAndSpan) (t : TokenAndSpan) (q p : Span) → o ≡ Some t
          → MatchOption o (p ≡ q) (λ x. p ≡ x.span) → p ≡ t.span
      place_of None t q p e m = cc
      place_of (Some x) t q p e m = let same : x ≡ t = cc in m ∙ ap (λ z. z.span) same

module _ {S : Type 0} {model : Model S} {sure : Bool} where
  pub on_slash : {A : Type 0} {f g : Reader A} {b c : Buffer S} (laws : Laws model) (h : SkipsSlash model b c)
      → ((x : Scope) (ts : List TokenAndSpan) → f x (plain h.was ∷ ts) ≡ g x ts) → On model sure f g b c
  on_slash {g = g} {b = b} laws h step = record {
    leads = record { laws = laws; taken = plain h.was ∷ []; read = h.read; lives = h.lives };
    clean = λ l s ys f. step (scope model b) ys ∙ ap (λ x. g x ys) (sym (read_scope laws h.read));
    faulty = λ y l lt ts k. let e = ap length h.errors in absurd (omega (arith, lt, e));
  }

  -- nothing that is seen changed
  pub on_still : {A : Type 0} {f : Reader A} {b c : Buffer S} → Laws model → Still model b c → Lives model b c
      → On model sure f f b c
  on_still {f = f} laws h lives = record {
    leads = record { laws = laws; taken = []; read = h.read; lives = lives };
    clean = λ l s ys fut. ap (λ x. f x ys) (sym (read_scope laws h.read));
    faulty = λ y l lt ts k. let e = ap length (h.quiet k.more k.known).0 in absurd (omega (arith, lt, e));
  }

-- ---- what is read

pub regex_takes : (r : Regex) (x : Scope) (t : TokenAndSpan) (ts : List TokenAndSpan) → regex_in t.token t.span ≡ Some r
    → regex_alone x (t ∷ ts) ≡ Some (r, ts)
unfolding regex_alone
regex_takes r x t ts h = ap (λ o. one o ts) h

regex_none : (t : Token) (s : Span) → is_regex t ≡ false → regex_in t s ≡ None
regex_none (token.Regex exp flags) s h = cc
regex_none t s h = refl

alone_not : (x : Scope) (ts : List TokenAndSpan) → at_token is_regex (first ts) ≡ false → regex_alone x ts ≡ None
unfolding regex_alone
alone_not x [] h = refl
alone_not x (t ∷ ts) h = ap (λ o. one o ts) (regex_none t.token t.span h)

pub tail_not : (s : Span) (x : Scope) (ts : List TokenAndSpan) → at_token is_regex (first ts) ≡ false
    → regex_tail s x ts ≡ None
unfolding regex_tail
tail_not s x ts h = ap (λ o. o >>= (λ p. Some (from_slash s p.0, p.1))) (alone_not x ts h)

pub tail_splits : (s : Span) (x : Scope) (ts : List TokenAndSpan)
    → regex_tail s x ts ≡ (regex_alone x ts >>= (λ p. Some (from_slash s p.0, p.1)))
unfolding regex_tail
tail_splits s x ts = refl

pub text_opens : (t : TokenAndSpan) (x : Scope) (ts : List TokenAndSpan) → is_slash t.token ≡ true
    → regex_text x (t ∷ ts) ≡ regex_tail t.span x ts
unfolding regex_text
text_opens t x ts h = rw h refl

pub text_alone : (x : Scope) (ts : List TokenAndSpan) → at_token is_slash (first ts) ≡ false
    → regex_text x ts ≡ regex_alone x ts
unfolding regex_text regex_alone
text_alone x [] h = refl
text_alone x (t ∷ ts) h = rw h refl

module _ {F C K : Type 0} where
  pub expr_splits : (x : Scope) (ts : List TokenAndSpan)
      → regex_expr {F = F} {C = C} {K = K} x ts ≡ (regex_text x ts >>= (λ p. regex_made p.0 p.1))
  unfolding regex_expr
  expr_splits x ts = refl

  pub made_well : (r : Regex) (ts : List TokenAndSpan) → flags_ok r.flags ≡ true
      → regex_made {F = F} {C = C} {K = K} r ts ≡ Some (lit_tree (lit.Regex r), ts)
  unfolding regex_made
  made_well r ts h = rw h refl

  pub made_ill : (r : Regex) (ts : List TokenAndSpan) → flags_ok r.flags ≡ false
      → regex_made {F = F} {C = C} {K = K} r ts ≡ None
  unfolding regex_made
  made_ill r ts h = rw h refl

pub begins_alone : (o : Option TokenAndSpan) → at_token begins_regex o ≡ true → at_token is_slash o ≡ false
    → at_token is_regex o ≡ true
begins_alone None h k = h
begins_alone (Some t) h k = rw k at h

pub repeated_here : (b : ℕ) (fs : List ℕ) → is_flag b ≡ true → list_any (λ f. nat_eq f b) fs ≡ true
    → repeated (b ∷ fs) ≡ Some b
unfolding repeated
repeated_here b fs h k = rw (h, k) refl

pub repeated_later : (b : ℕ) (fs : List ℕ) → (is_flag b && list_any (λ f. nat_eq f b) fs) ≡ false
    → repeated (b ∷ fs) ≡ repeated fs
unfolding repeated
repeated_later b fs h = rw h refl

pub repeated_none : (fs : List ℕ) → length fs ≡ 0 → repeated fs ≡ None
unfolding repeated
repeated_none [] h = refl
repeated_none (b ∷ fs) h = absurd (omega (arith, h))

pub ruleset repeated_steps = (repeated_here, repeated_later, repeated_none)

-- ---- as a primary expression (13.2.7)

module _ {F C K : Type 0} (hook : Hook F C K) where
  -- by its flags
  whole : (b : Bool) (s : Span) (exp flags : List ℕ) (us : List TokenAndSpan)
      → exec hook (run hook) None (plan (given (if b then Some (regex_e {F = F} {C = C} {K = K} s exp flags) else None)
      ▸ (λ e. gives e))) us
      ≡ (if b then Some (regex_e s exp flags, us) else None)
  whole true s exp flags us = refl
  whole false s exp flags us = refl

  slashed : (b : Bool) (q s : Span) (exp flags : List ℕ) (us : List TokenAndSpan) → exec hook (run hook) None
      (plan (given (if b then Some (regex_e {F = F} {C = C} {K = K} s exp flags) else None) ▸
      (λ e. gives (at_place (to q (span_of e)) e)))) us
      ≡ (if b then Some (regex_e (to q s) exp flags, us) else None)
  slashed true q s exp flags us = refl
  slashed false q s exp flags us = refl

  behind_slash : (x : Scope) (q : Span) (v : Token) (b : Bool) (s : Span) (us : List TokenAndSpan)
      → exec hook (run hook) None
      (plan (given (regex_of {F = F} {C = C} {K = K} v s) ▸ (λ e. gives (at_place (to q (span_of e)) e)))) us
      ≡ (regex_tail q x (tk v b s ∷ us) >>= (λ p. regex_made p.0 p.1))
  unfolding regex_tail regex_alone regex_made
  behind_slash x q (token.Regex exp flags) b s us = slashed (flags_ok flags) q s exp flags us
  behind_slash x q v b s us = refl

  slash_reads : (x : Scope) (q : Span) (us : List TokenAndSpan) → exec hook (run hook) None
      (plan (one_of {A = Tree F C K} regex_of ▸ (λ e. gives (at_place (to q (span_of e)) e)))) us
      ≡ (regex_tail q x us >>= (λ p. regex_made p.0 p.1))
  unfolding regex_tail regex_alone regex_made
  slash_reads x q [] = refl
  slash_reads x q (u ∷ us) = behind_slash x q u.token u.had_line_break u.span us

  regex_token : (x : Scope) (v : Token) (b : Bool) (s : Span) (us : List TokenAndSpan) → begins_regex v ≡ true
      → run hook (at Primary) x (tk v b s ∷ us) ≡ regex_expr x (tk v b s ∷ us)
  unfolding regex_expr regex_text regex_alone regex_made
  regex_token x (token.Regex exp flags) b s us h =
      knot hook (at Primary) x (tk (token.Regex exp flags) b s ∷ us) ∙ whole (flags_ok flags) s exp flags us
  regex_token x (token.BinOp sign.Div) b s us h =
      knot hook (at Primary) x (tk (token.BinOp sign.Div) b s ∷ us) ∙ slash_reads x s us
  regex_token x (token.AssignOp assign.DivAssign) b s us h =
      knot hook (at Primary) x (tk (token.AssignOp assign.DivAssign) b s ∷ us) ∙ slash_reads x s us
  regex_token x v b s us h = absurd cc

  pub regex_picked : (x : Scope) (ts : List TokenAndSpan) → at_token begins_regex (first ts) ≡ true
      → run hook (at Primary) x ts ≡ regex_expr x ts
  regex_picked x [] h = absurd cc
  regex_picked x (t ∷ ts) h = regex_token x t.token t.had_line_break t.span ts h
