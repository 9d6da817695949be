-- The steps of the code at names that are parameters of arrow functions by themselves (15.3, 15.9).
use Rattle.std.proofs.Common.{◌≡◌, ℕ, Bool, true, false, not, ◌&&◌, if◌then◌else◌, List, None, Some, Result, Ok, Err, IfOk, MatchResult, map, refl, sym, ap, subst, ◌∙◌, arith}
use Rattle.swc_context.specs.{declared.context.Context.Context, declared.error.Error.Error, declared.span.BytePos.BytePos}
use Rattle.swc_input.specs.{declared.buffer.Buffer.Buffer, declared.token.TokenAndSpan.TokenAndSpan, Buffer.context, Kinds.at_token, Source.Model, Source.Laws}
use Rattle.swc_ast.specs.Tree.{Tree, nil, cons, trees}
use Rattle.swc_ast.specs.{Trees.ident_e, declared.spanned.Spanned.Ghosts}
use Rattle.swc_bodies.specs.Readings.{Hook}
use Rattle.swc_grammar.specs.Clean.{Out, first, second}
use Rattle.swc_grammar.specs.Names.{Spelling, may_refer, may_bind}
use Rattle.swc_grammar.specs.{Arrows.is_arrow, Arrows.is_of, Scope.Scope, Words.◌>>=◌, Words.word}
use Rattle.swc_nodes.specs.NodeParts.{one_pat, pat_part, flat}
use Rattle.swc_nodes.specs.GrowingNodes.{tree_at, Apart, From, Grows}
use Rattle.swc_nodes.specs.declared.node.PatId.{PatId}
use Rattle.swc_nodes.proofs.{Held.apart-from, Standing.grows-then}
use Rattle.swc_patterns.specs.{Answers.Leaves, Arrays.plain_pat}
use Rattle.swc_patterns.proofs.PartlyRead.{left}
use Rattle.swc_input.specs.Calls.{Here}
use Rattle.swc_steps.specs.Parsing.{breaks_at, scope, seen, seen_of, Tells, On, Unheard}
use Rattle.swc_steps.specs.{Keys.expected, declared.productions.Productions.Productions}
use Rattle.swc_steps.proofs.Steps.{Reader, give, less, read_scope, here_leads, forgoes_later, forgoes_here, on_told, unheard_after, unheard_memory, and_false}
use Rattle.swc_steps.proofs.{Lists.binds, Steps.Consumed.here, Steps.Tokens.on_then}
use Rattle.swc_arrows.specs.Answers.{beginning_of, beginning_behind, OneParam, Opens}
use Rattle.swc_arrows.specs.Readers.{arrow_behind, name_behind, name_arrow, async_of, async_param, async_behind, async_arrow, arrow_on_line, is_of_alone, of_alone}
use Rattle.swc_arrows.specs.declared.names.Beginning.{Beginning}
use Rattle.swc_arrows.proofs.Dooms.{opens_later}

-- ---- names that may be bound

pub ok_lax : (m s o : Bool) → s ≡ false → not ((m && s) && o) ≡ true
ok_lax true s o h = rw h refl
ok_lax false s o h = refl

pub ok_other : (m s o : Bool) → o ≡ false → not ((m && s) && o) ≡ true
ok_other true true o h = rw h refl
ok_other true false o h = refl
ok_other false s o h = refl

pub ok_strict : (m s o : Bool) → s ≡ true → o ≡ true → not ((m && s) && o) ≡ not m
ok_strict true s o h k = rw (h, k) refl
ok_strict false s o h k = refl

-- ---- `=>` after a parameter

pub line_unasked : (x : Scope) (ts : List TokenAndSpan) → x.syntax.pedantic ≡ false → arrow_on_line x ts ≡ Some (tt, ts)
line_unasked x ts h = rw (h, and_false (at_token is_arrow (first ts))) refl

pub line_free : (x : Scope) (ts : List TokenAndSpan) → at_token is_arrow (first ts) ≡ false
    → arrow_on_line x ts ≡ Some (tt, ts)
line_free x ts h = rw h refl

pub line_joined : (x : Scope) (ts : List TokenAndSpan) → breaks_at (first ts) ≡ false
    → arrow_on_line x ts ≡ Some (tt, ts)
line_joined x ts h = rw (h, and_false x.syntax.pedantic, and_false (at_token is_arrow (first ts))) refl

pub line_refuses : (x : Scope) (ts : List TokenAndSpan) → x.syntax.pedantic ≡ true → breaks_at (first ts) ≡ true
    → at_token is_arrow (first ts) ≡ true → arrow_on_line x ts ≡ None
line_refuses x ts p e h = rw (h, p, e) refl

-- ---- `of` alone

pub no_loop : (c : Context) (ts : List TokenAndSpan) → c.expr_ctx.for_loop_init ≡ false → is_of_alone c ts ≡ false
no_loop c ts h = ap (λ b. b && (at_token is_of (first ts) && not (at_token is_arrow (second ts)))) h

pub not_of : (c : Context) (ts : List TokenAndSpan) → at_token is_of (first ts) ≡ false → is_of_alone c ts ≡ false
not_of c ts h =
    ap (λ b. c.expr_ctx.for_loop_init && (b && not (at_token is_arrow (second ts)))) h
    ∙ and_false c.expr_ctx.for_loop_init

pub by_arrow : (c : Context) (ts : List TokenAndSpan) (b : Bool) → c.expr_ctx.for_loop_init ≡ true
    → at_token is_of (first ts) ≡ true → not (at_token is_arrow (second ts)) ≡ b → is_of_alone c ts ≡ b
by_arrow c ts b l o h =
    ap (λ v. v && (at_token is_of (first ts) && not (at_token is_arrow (second ts)))) l
    ∙ ap (λ v. v && not (at_token is_arrow (second ts))) o ∙ h

module _ {S : Type 0} {model : Model S} {sure : Bool} where
  -- nothing was done, in the scope there
  pub on_at : {A : Type 0} {f g : Reader A} (laws : Laws model) (b : Buffer S)
      → ((ts : List TokenAndSpan) → f (scope model b) ts ≡ g (scope model b) ts) → On model sure f g b b
  unfolding here
  on_at laws b step = record {
    leads = here laws b;
    clean = λ l s ys f. step ys;
    faulty = λ y l lt ts k. absurd (omega (arith, lt));
  }

module _ {S : Type 0} {model : Model S} (sure : Bool) where
  pub of_told : {a b : Buffer S} (c : Buffer S) (r : Result Bool Error) → Here model a b
      → Tells model (λ ts. not (at_token is_arrow (second ts))) b r c → (context model a).expr_ctx.for_loop_init ≡ true
      → at_token is_of (seen b) ≡ true
      → MatchResult r (λ v. On model sure of_alone (give v) a c) (λ e. Unheard model sure of_alone a e c)
  of_told {a} {b} c (Ok v) h t l o =
      let kept : scope model c ≡ scope model a = read_scope t.laws t.still.read
      ∙ read_scope h.laws h.looked.look.read in
      on_told h t (λ x ts same at told. ap (λ w. Some (w, ts)) (by_arrow x.context ts v
      (ap (λ y. y.context.expr_ctx.for_loop_init) (same ∙ kept) ∙ l)
      (ap (at_token is_of) (at ∙ ap seen_of t.current) ∙ o) told))
  of_told {a} {b} c (Err e) h t l o = unheard_memory (forgoes_later (here_leads h) t)

-- ---- what is read

module _ {F C K : Type 0} (hook : Hook F C K) where
  abbrev pub name_rest : Spelling → Scope → List TokenAndSpan → Out (Tree F C K)
  name_rest n c ts = expected is_arrow c ts >>= (λ q. name_behind hook n c q.1)

  pub name_splits : (x : Scope) (ts : List TokenAndSpan)
      → name_arrow hook x ts ≡ (word may_refer x ts >>= (λ p. name_rest p.0 x p.1))
  unfolding name_arrow
  name_splits x ts = refl

  abbrev pub of_by : Spelling → Bool → Scope → List TokenAndSpan → Out (Tree F C K)
  of_by n b c ts = if b then async_of hook n c ts else async_param hook n c ts

  pub async_splits : (x : Scope) (ts : List TokenAndSpan)
      → async_arrow hook x ts ≡ (word may_refer x ts >>= (λ p. async_behind hook p.0 x p.1))
  unfolding async_arrow
  async_splits x ts = refl

  pub of_splits : (n : Spelling) (x : Scope) (ts : List TokenAndSpan)
      → async_behind hook n x ts ≡ (of_alone x ts >>= (λ p. of_by n p.0 x p.1))
  unfolding async_behind
  of_splits n x ts = refl

  abbrev pub arrow_rest : Spelling → Tree F C K → Scope → List TokenAndSpan → Out (Tree F C K)
  arrow_rest n t c ts = expected is_arrow c ts >>= (λ q. arrow_behind hook n.at.lo true false (cons t nil) c q.1)

  abbrev pub param_rest : Spelling → Tree F C K → Scope → List TokenAndSpan → Out (Tree F C K)
  param_rest n t c ts = arrow_on_line c ts >>= (λ l. arrow_rest n t c l.1)

  pub param_splits : (n : Spelling) (x : Scope) (ts : List TokenAndSpan)
      → async_param hook n x ts ≡ (plain_pat x ts >>= (λ p. param_rest n p.0 x p.1))
  unfolding plain_pat
  param_splits n x ts =
      binds (word may_bind x ts) (λ p. Some (ident_e p.0.at p.0.text, p.1)) (λ p. param_rest n p.0 x p.1)

-- ---- what is answered

module _ {S H F C K : Type 0} {fg : Ghosts F} {cg : Ghosts C} {kg : Ghosts K} {model : Model S} {sure : Bool}
    (hook : Hook F C K) {f : Reader (Tree F C K)} {k : ℕ} {p q : Productions S H F C K fg cg kg} where
  pub leaves_after : {g : Reader (Tree F C K)} {m : Productions S H F C K fg cg kg} (r : Result Beginning Error)
      → On model sure f g p.input m.input → Grows p.nodes m.nodes
      → Leaves model sure beginning_of g (beginning_behind hook) k m r q
      → Leaves model sure beginning_of f (beginning_behind hook) k p r q
  leaves_after (Ok b) o w h =
      record {
        reads = on_then o h.reads;
        falls = less (on_then o h.reads).leads;
        grows = grows-then w h.grows;
        from = h.from;
      }
  leaves_after (Err e) o w h =
      record { reads = unheard_after o h.reads; falls = tt; grows = grows-then w h.grows; from = h.from }

  pub one_leaves : (start : BytePos) (a : Bool) {param : PatId} (at : BytePos) {t : Tree F C K}
      (r : Result Beginning Error) → OneParam start a param at r
      → On model sure f (arrow_behind hook start a false (cons t nil)) p.input q.input → Grows p.nodes q.nodes
      → From k q.nodes (pat_part param) → tree_at q.nodes param.0 ≡ t
      → Leaves model sure beginning_of f (beginning_behind hook) k p r q
  one_leaves start a {param} at {t} (Ok b) (h, is, st, y, ip, ps) o w from stands =
      let whole : beginning_behind hook q.nodes b ≡ arrow_behind hook start a false (cons t nil) =
      ap (beginning_behind hook q.nodes) is
      ∙ ap (λ v. arrow_behind hook v h.is_async h.in_parens (trees (map (λ x. tree_at q.nodes x.0) h.params.items))) st
      ∙ ap (λ v. arrow_behind hook start v h.in_parens (trees (map (λ x. tree_at q.nodes x.0) h.params.items))) y
      ∙ ap (λ v. arrow_behind hook start a v (trees (map (λ x. tree_at q.nodes x.0) h.params.items))) ip
      ∙ ap (λ v. arrow_behind hook start a false (trees (map (λ x. tree_at q.nodes x.0) v))) ps
      ∙ ap (λ v. arrow_behind hook start a false (cons v nil)) stands in
      left b (subst (λ v. On model sure f v p.input q.input) (sym whole) o) w
      (subst (λ v. beginning_of k q.nodes v) (sym is)
      (subst (λ v. Apart k q.nodes (flat one_pat v)) (sym ps) (apart-from (pat_part param) from)))
  one_leaves start a at (Err e) h o w from stands = record {
    reads = unheard_memory (forgoes_later o.leads (forgoes_here o.leads.laws _ at e h));
    falls = tt;
    grows = w;
    from = tt;
  }

module _ {S H F C K : Type 0} {fg : Ghosts F} {cg : Ghosts C} {kg : Ghosts K} {model : Model S} {sure : Bool}
    (hook : Hook F C K) {f : Reader (Tree F C K)} {k : ℕ} where
  -- the same, where a token was consumed before
  pub opens_after_all : {g : Reader (Tree F C K)} {b : Buffer S} (m : Productions S H F C K fg cg kg)
      {q : Productions S H F C K fg cg kg} (r : Result Beginning Error)
      → Opens model sure f g b m.input → Leaves model sure beginning_of g (beginning_behind hook) k m r q
      → IfOk r (λ x. Opens model sure f (beginning_behind hook q.nodes x) b q.input)
  opens_after_all m (Ok x) o h = opens_later o h.reads
  opens_after_all m (Err e) o h = tt
