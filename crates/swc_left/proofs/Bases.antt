-- The clean parser's steps in what a left-hand side begins with (13.3), as the code takes them.
use Rattle.std.specs.Prelude.{◌≡◌, Bool, true, false, if◌then◌else◌, List, [], ◌∷◌, Option, Some, None, codes}
use Rattle.std.proofs.Common.{refl, ap, ◌∙◌}
use Rattle.swc_context.specs.{Texts.is_text, declared.span.Span.Span, declared.word.Keyword.Keyword as keyword, declared.word.Word.Word as word_of}
use Rattle.swc_input.specs.{declared.token.Token.Token, declared.token.Token.Token as token, declared.token.TokenAndSpan.TokenAndSpan, Kinds.at_token, Kinds.is_hash}
use Rattle.swc_ast.specs.Trees.{to, items_of, call_e, super_e, import_e, meta_e}
use Rattle.swc_ast.specs.{Tree.Tree, Tree.span_of, declared.expr.Import.Import, declared.expr.ImportPhase.ImportPhase as phase, declared.expr.MetaPropKind.MetaPropKind as kind}
use Rattle.swc_bodies.specs.Readings.{Hook}
use Rattle.swc_grammar.specs.Rule.{gives, take, check, read, given, must, ◌>>=◌ as ◌▸◌, ◌>>◌}
use Rattle.swc_grammar.specs.Symbols.{Expr, Base, Args, Primary}
use Rattle.swc_grammar.specs.Tokens.{tk, with_in, is_new, is_dot, is_rbracket, is_lparen, is_super, is_meta, is_source, super_ok}
use Rattle.swc_grammar.specs.Clean.{Out, and_then, first, second, sym as at, plan, exec, chosen, super_base, import_base, import_dot as import_dotted, run}
use Rattle.swc_grammar.specs.Words.{◌>>=◌, one, word}
use Rattle.swc_grammar.specs.{Scope.Scope, Parts.any_name, Parts.import_args_ok, Names.Spelling, Names.may_name}
use Rattle.swc_grammar.proofs.{Complete.last, Knot.knot}
use Rattle.swc_left.specs.Bases.{here_by, super_here, head_paren, head_call, head_dot, super_head, callee_of, import_callee, import_meta, import_member, import_dot, import_head, allowed, super_named, super_name_tail, super_in, super_close, callee_node, import_node, super_computed_tail, super_args_tail, super_left, super_tail, super_by, import_args, import_left, import_tail, plain_base}
use Rattle.swc_left.specs.{declared.base.ImportHead.ImportHead as begun, declared.base.SuperHead.SuperHead as head}
use Rattle.swc_steps.specs.{Keys.expected, Args.args_inside, Lists.eaten, Readers.whole_inside}
use Rattle.swc_steps.proofs.{Keys.then_calls, Keys.then_token, Lists.calls, Lists.bind_same, Words.is_same}

-- the words `meta` and `source` are two
no_source : (t : Token) → is_meta t ≡ true → is_source t ≡ false
no_source (token.Word (word_of.Ident w)) h = ap (λ v. is_text v (codes "source")) (is_same w (codes "meta") h)
no_source t h = absurd cc

abbrev super_token : Token
super_token = token.Word (word_of.Keyword keyword.Super)

abbrev import_token : Token
import_token = token.Word (word_of.Keyword keyword.Import)

-- ---- where `super` may have properties

pub super_may : (x : Scope) (ts : List TokenAndSpan) → super_ok x ≡ true → super_here x ts ≡ Some (tt, ts)
unfolding super_here
super_may x ts h = rw h refl

pub super_may_not : (x : Scope) (ts : List TokenAndSpan) → super_ok x ≡ false → super_here x ts ≡ None
unfolding super_here
super_may_not x ts h = rw h refl

-- ---- the first tokens after `super`

pub super_begins : (b : Bool) (x : Scope) (ts : List TokenAndSpan)
    → super_head b x ts ≡ (eaten is_dot x ts >>= (λ p. head_dot b p.0 x p.1))
unfolding super_head
super_begins b x ts = refl

-- a call, where there may be one, and where there may be none
pub super_calls : (b : Bool) (x : Scope) (ts : List TokenAndSpan) → b ≡ true
    → head_call b x ts ≡ (eaten is_lparen x ts >>= (λ p. head_paren p.0 x p.1))
super_calls true x ts h = refl
super_calls false x ts h = absurd cc

pub super_no_call : (b : Bool) (x : Scope) (ts : List TokenAndSpan) → b ≡ false
    → head_call b x ts ≡ Some (head.Other, ts)
super_no_call true x ts h = absurd cc
super_no_call false x ts h = refl

-- ---- `import`, up to the arguments of a call

pub import_calls : (b : Bool) (i : Import) (x : Scope) (ts : List TokenAndSpan) → b ≡ true
    → import_callee b i x ts ≡ (expected is_lparen x ts >>= (λ p. Some (begun.Call i, p.1)))
unfolding import_callee
import_calls true i x ts h = refl
import_calls false i x ts h = absurd cc

pub import_no_call : (b : Bool) (i : Import) (x : Scope) (ts : List TokenAndSpan) → b ≡ false
    → import_callee b i x ts ≡ None
unfolding import_callee
import_no_call true i x ts h = absurd cc
import_no_call false i x ts h = refl

pub import_begins : (b : Bool) (s : Span) (x : Scope) (ts : List TokenAndSpan)
    → import_head b s x ts ≡ (eaten is_dot x ts >>= (λ p. import_dot b s p.0 x p.1))
unfolding import_head
import_begins b s x ts = refl

pub member_begins : (b : Bool) (s : Span) (x : Scope) (ts : List TokenAndSpan)
    → import_member b s x ts ≡ (eaten is_meta x ts >>= (λ p. import_meta b s p.0 x p.1))
unfolding import_member
member_begins b s x ts = refl

module _ {F C K : Type 0} where
  may_by : (b : Bool) (t : Tree F C K) (us : List TokenAndSpan) → (if b then Some (t, us) else None)
      ≡ (here_by b us >>= (λ q. Some (t, q.1)))
  may_by true t us = refl
  may_by false t us = refl

  pub name_splits : (s : Span) (x : Scope) (ts : List TokenAndSpan) → super_name_tail {F = F} {C = C} {K = K} s x ts
      ≡ (word may_name x ts >>= (λ p. allowed (super_named s p.0.at p.0.text) x p.1))
  unfolding super_name_tail
  name_splits s x ts = refl

  -- no name begins with `#`
  hash_token : (s : Span) (x : Scope) (v : Token) (b : Bool) (q : Span) (us : List TokenAndSpan) → is_hash v ≡ true
      → super_name_tail {F = F} {C = C} {K = K} s x (tk v b q ∷ us) ≡ None
  unfolding super_name_tail word
  hash_token s x token.Hash b q us h = refl
  hash_token s x v b q us h = absurd cc

  pub no_hash_name : (s : Span) (x : Scope) (ts : List TokenAndSpan) → at_token is_hash (first ts) ≡ true
      → super_name_tail {F = F} {C = C} {K = K} s x ts ≡ None
  no_hash_name s x [] h = absurd cc
  no_hash_name s x (t ∷ ts) h = hash_token s x t.token t.had_line_break t.span ts h

  -- a call of `import`, of which the arguments are as many as there may be, or not
  pub import_well : (s : Span) (i es : Tree F C K) (x : Scope) (ts : List TokenAndSpan)
      → import_args_ok x true es ≡ true → import_node s i es x ts ≡ callee_node s i es x ts
  import_well s i es x ts h = rw h refl

  pub import_ill : (s : Span) (i es : Tree F C K) (x : Scope) (ts : List TokenAndSpan)
      → import_args_ok x true es ≡ false → import_node s i es x ts ≡ None
  import_ill s i es x ts h = rw h refl

module _ {F C K : Type 0} (hook : Hook F C K) where
  pub computed_splits : (s q : Span) (x : Scope) (ts : List TokenAndSpan)
      → super_computed_tail hook s q x ts ≡ (whole_inside hook x ts >>= (λ p. super_close s q p.0 x p.1))
  unfolding super_computed_tail
  computed_splits s q x ts = refl

  pub args_splits : (s : Span) (x : Scope) (ts : List TokenAndSpan) → super_args_tail hook s x ts
      ≡ (args_inside hook false x ts >>= (λ p. callee_node s (super_e s) p.0 x p.1))
  unfolding super_args_tail
  args_splits s x ts = refl

  pub super_splits : (b : Bool) (s : Span) (x : Scope) (ts : List TokenAndSpan)
      → super_tail hook b s x ts ≡ (super_head b x ts >>= (λ p. super_left hook s p.0 x p.1))
  unfolding super_tail
  super_splits b s x ts = refl

  pub import_splits : (b : Bool) (s : Span) (x : Scope) (ts : List TokenAndSpan)
      → import_tail hook b s x ts ≡ (import_head b s x ts >>= (λ p. import_left hook s p.0 x p.1))
  unfolding import_tail
  import_splits b s x ts = refl

  pub plain_splits : (b : Bool) (x : Scope) (ts : List TokenAndSpan)
      → plain_base hook b x ts ≡ (eaten is_super x ts >>= (λ p. super_by hook b p.0 x p.1))
  unfolding plain_base
  plain_splits b x ts = refl

  -- ---- `super` (13.3.7)

  -- a name after the `.`
  name_one : (n : Option Spelling) (s : Span) (x : Scope) (us : List TokenAndSpan) → exec hook (run hook) None
      (plan {A = Tree F C K} (given n ▸ (λ n. must (super_ok x) >> gives (super_named s n.at n.text)))) us
      ≡ (one n us >>= (λ p. allowed (super_named s p.0.at p.0.text) x p.1))
  unfolding super_here
  name_one None s x us = refl
  name_one (Some n) s x us = may_by (super_ok x) (super_named s n.at n.text) us

  -- after the expression in brackets
  closes : (s q : Span) (e : Tree F C K) (x : Scope) (us : List TokenAndSpan) → exec hook (run hook) None
      (take (λ t. check (is_rbracket t.token) (check (super_ok x) (gives (super_in s q t.span e))))) us
      ≡ super_close s q e x us
  unfolding super_here
  closes s q e x [] =
      then_token is_rbracket x [] (λ r vs. if super_ok x then Some (super_in s q r e, vs) else None)
      ∙ bind_same (expected is_rbracket x []) _ _ (λ r. may_by (super_ok x) (super_in s q r.0 e) r.1)
  closes s q e x (t ∷ us) =
      then_token is_rbracket x (t ∷ us) (λ r vs. if super_ok x then Some (super_in s q r e, vs) else None)
      ∙ bind_same (expected is_rbracket x (t ∷ us)) _ _ (λ r. may_by (super_ok x) (super_in s q r.0 e) r.1)

  -- the token after `super`
  super_second : (b : Bool) (x : Scope) (n : Bool) (s : Span) (v : Token) (m : Bool) (q : Span)
      (us : List TokenAndSpan)
      → exec hook (run hook) (Some 9) (chosen (super_base {F = F} {C = C} {K = K} b {c = x} (Some (tk v m q))))
      (tk super_token n s ∷ (tk v m q ∷ us))
      ≡ super_tail hook b s x (tk v m q ∷ us)
  unfolding super_tail super_head super_name_tail super_computed_tail super_args_tail args_inside whole_inside
      eaten word
  super_second b x n s token.Dot m q [] = refl
  super_second b x n s token.Dot m q (u ∷ us) = name_one (any_name x u.token u.span) s x us
  super_second b x n s token.LBracket m q us =
      then_calls (run hook (at Expr) (with_in x) us) _ (λ e vs. super_close s q e x vs)
      (λ e vs. closes s q e x vs)
  super_second true x n s token.LParen m q us = calls (run hook (at (Args false)) (with_in x) us) _
  super_second false x n s token.LParen m q us = refl
  super_second true x n s v m q us = refl
  super_second false x n s v m q us = refl

  super_first : (b : Bool) (x : Scope) (n : Bool) (s : Span) (us : List TokenAndSpan)
      → exec hook (run hook) (Some 9) (chosen (super_base {F = F} {C = C} {K = K} b {c = x} (first us)))
      (tk super_token n s ∷ us)
      ≡ super_tail hook b s x us
  unfolding super_tail super_head eaten
  super_first true x n s [] = refl
  super_first false x n s [] = refl
  super_first b x n s (u ∷ us) = super_second b x n s u.token u.had_line_break u.span us

  -- ---- `import` (13.3.10, 13.3.12)

  -- its arguments, from the parenthesis on
  paren_reads : (s : Span) (i : Tree F C K) (x : Scope) (us : List TokenAndSpan) → exec hook (run hook) None
      (take (λ t. check (is_lparen t.token)
      (read (at (Args true)) (with_in x)
      (λ es. check (import_args_ok x true es) (gives (call_e (to s (span_of es)) i (items_of es))))))) us
      ≡ (expected is_lparen x us >>= (λ p. import_args hook s i x p.1))
  unfolding args_inside
  paren_reads s i x [] =
      then_token is_lparen x [] (λ r vs. and_then (run hook (at (Args true)) (with_in x) vs)
      (λ es ws. import_node s i es x ws))
      ∙ bind_same (expected is_lparen x []) _ _ (λ r. calls (run hook (at (Args true)) (with_in x) r.1) _)
  paren_reads s i x (t ∷ us) =
      then_token is_lparen x (t ∷ us) (λ r vs. and_then (run hook (at (Args true)) (with_in x) vs)
      (λ es ws. import_node s i es x ws))
      ∙ bind_same (expected is_lparen x (t ∷ us)) _ _ (λ r. calls (run hook (at (Args true)) (with_in x) r.1) _)

  -- what is called, and after it a call
  called : (i : Import) (s : Span) (x : Scope) (o : Out Span)
      → (o >>= (λ p. import_args hook s (import_e i.span i.phase) x p.1))
      ≡ ((o >>= (λ p. Some (begun.Call i, p.1))) >>= (λ p. import_left hook s p.0 x p.1))
  called i s x None = refl
  called i s x (Some p) = refl

  -- `import.meta`, where there is one
  meta_by : (b : Bool) (s q : Span) (x : Scope) (us : List TokenAndSpan)
      → (if b then Some (meta_e q kind.ImportMeta, us) else None)
      ≡ ((if b then Some (begun.Meta q, us) else None) >>= (λ p. import_left hook s p.0 x p.1))
  meta_by true s q x us = refl
  meta_by false s q x us = refl

  -- the token after `import` and the `.`
  import_third : (b is_m is_s : Bool) (x : Scope) (n : Bool) (s : Span) (m : Bool) (q : Span) (u : TokenAndSpan)
      (us : List TokenAndSpan) → is_meta u.token ≡ is_m → is_source u.token ≡ is_s
      → exec hook (run hook) (Some 9) (chosen (import_dotted {F = F} {C = C} {K = K} b {c = x} (Some u)))
      (tk import_token n s ∷ (tk token.Dot m q ∷ (u ∷ us)))
      ≡ (import_member b s x (u ∷ us) >>= (λ p. import_left hook s p.0 x p.1))
  unfolding import_member import_callee eaten
  import_third b true true x n s m q u us h k = let l = no_source u.token h in absurd cc
  import_third true true false x n s m q u us h k = rw (k, h) (meta_by x.context.can_be_module s (to s u.span) x us)
  import_third false true false x n s m q u us h k = rw h (meta_by x.context.can_be_module s (to s u.span) x us)
  import_third true false true x n s m q u us h k =
      rw (h, k) (rw k (paren_reads s (import_e (to s u.span) phase.Source) x us
      ∙ called (callee_of (to s u.span) phase.Source) s x (expected is_lparen x us)))
  import_third false false true x n s m q u us h k = rw (h, k) refl
  import_third true false false x n s m q u us h k = rw (k, h) (rw k refl)
  import_third false false false x n s m q u us h k = rw (h, k) refl

  import_dot_first : (b : Bool) (x : Scope) (n : Bool) (s : Span) (m : Bool) (q : Span) (us : List TokenAndSpan)
      → exec hook (run hook) (Some 9) (chosen (import_dotted {F = F} {C = C} {K = K} b {c = x} (first us)))
      (tk import_token n s ∷ (tk token.Dot m q ∷ us))
      ≡ (import_member b s x us >>= (λ p. import_left hook s p.0 x p.1))
  unfolding import_member eaten
  import_dot_first true x n s m q [] = refl
  import_dot_first false x n s m q [] = refl
  import_dot_first b x n s m q (u ∷ us) = import_third b (is_meta u.token) (is_source u.token) x n s m q u us refl refl

  -- the token after `import`
  import_second : (b : Bool) (x : Scope) (n : Bool) (s : Span) (v : Token) (m : Bool) (q : Span)
      (us : List TokenAndSpan) → exec hook (run hook) (Some 9)
      (chosen (import_base {F = F} {C = C} {K = K} b {c = x} (Some (tk v m q)) (first us)))
      (tk import_token n s ∷ (tk v m q ∷ us))
      ≡ import_tail hook b s x (tk v m q ∷ us)
  unfolding import_tail import_head import_callee args_inside expected eaten
  import_second b x n s token.Dot m q us = import_dot_first b x n s m q us
  import_second true x n s token.LParen m q us = calls (run hook (at (Args true)) (with_in x) us) _
  import_second false x n s token.LParen m q us = refl
  import_second true x n s v m q us = refl
  import_second false x n s v m q us = refl

  import_first : (b : Bool) (x : Scope) (n : Bool) (s : Span) (us : List TokenAndSpan) → exec hook (run hook) (Some 9)
      (chosen (import_base {F = F} {C = C} {K = K} b {c = x} (first us) (second us))) (tk import_token n s ∷ us)
      ≡ import_tail hook b s x us
  unfolding import_tail import_head import_callee expected eaten
  import_first true x n s [] = refl
  import_first false x n s [] = refl
  import_first b x n s (u ∷ us) = import_second b x n s u.token u.had_line_break u.span us

  -- ---- what a left-hand side begins with

  base_token : (b : Bool) (x : Scope) (v : Token) (n : Bool) (s : Span) (us : List TokenAndSpan) → is_new v ≡ false
      → run hook (at (Base b)) x (tk v n s ∷ us) ≡ plain_base hook b x (tk v n s ∷ us)
  unfolding plain_base eaten
  base_token b x (token.Word (word_of.Keyword keyword.New)) n s us h = absurd cc
  base_token b x (token.Word (word_of.Keyword keyword.Super)) n s us h =
      knot hook (at (Base b)) x (tk super_token n s ∷ us) ∙ super_first b x n s us
  base_token b x (token.Word (word_of.Keyword keyword.Import)) n s us h =
      knot hook (at (Base b)) x (tk import_token n s ∷ us) ∙ import_first b x n s us
  base_token b x v n s us h =
      knot hook (at (Base b)) x (tk v n s ∷ us) ∙ last hook (Some 9) (at Primary) x (tk v n s ∷ us) refl

  -- where that isn't `new`
  pub base_splits : (b : Bool) (x : Scope) (ts : List TokenAndSpan) → at_token is_new (first ts) ≡ false
      → run hook (at (Base b)) x ts ≡ plain_base hook b x ts
  unfolding plain_base eaten
  base_splits b x [] h = knot hook (at (Base b)) x [] ∙ last hook (Some 9) (at Primary) x [] refl
  base_splits b x (t ∷ ts) h = base_token b x t.token t.had_line_break t.span ts h
