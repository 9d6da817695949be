-- The steps of the code at lists in parentheses that may be parameters of arrow functions (13.2.9, 15.3, 15.9).
use Rattle.std.proofs.Common.{◌≡◌, ℕ, ◌≤◌, Bool, true, false, List, ◌∷◌, ◌++◌, Option, Some, None, Result, Ok, Err, IsErrAnd, refl, ap, subst}
use Rattle.std.specs.Prelude.{is_some}
use Rattle.swc_context.specs.{declared.error.Error.Error, declared.span.BytePos.BytePos, declared.span.Span.Span}
use Rattle.swc_input.specs.{declared.token.TokenAndSpan.TokenAndSpan, Kinds.at_token, Source.Model}
use Rattle.swc_ast.specs.{Tree.Tree, Trees.ident_e, declared.spanned.Spanned.Ghosts}
use Rattle.swc_bodies.specs.Readings.{Hook}
use Rattle.swc_grammar.specs.{Arrows.is_arrow, Clean.first, Names.may_refer, Scope.Scope, Tokens.is_lparen, Words.◌>>=◌, Words.word}
use Rattle.swc_nodes.specs.GrowingNodes.{count, seat_at, Apart, Grows}
use Rattle.swc_nodes.specs.{NumberedTrees.floor, NodeParts.Part, declared.node.ExprId.ExprId, declared.nodes.Nodes.Nodes}
use Rattle.swc_nodes.proofs.Chains.{chain-bound, chain-first}
use Rattle.swc_cover.specs.{Moving.KeptTo, Rewriting.Rewrites}
use Rattle.swc_cover.proofs.Kept.{kept-grows, kept-less}
use Rattle.swc_steps.specs.Parsing.{breaks_at, On, Unheard}
use Rattle.swc_steps.specs.{Keys.expected, declared.productions.Productions.Productions}
use Rattle.swc_steps.proofs.Steps.{Reader, less, unheard_after}
use Rattle.swc_steps.proofs.Steps.Tokens.{on_then}
use Rattle.swc_arrows.specs.Answers.{beginning_of, beginning_behind, callee_at}
use Rattle.swc_arrows.specs.Readers.{list_head, list_rest, list_closed, params_closed, params_refined, base_closed, base_behind, on_line}
use Rattle.swc_arrows.specs.declared.names.Beginning.{Beginning}
use Rattle.swc_arrows.proofs.HeadLaws.{expected_is}

pub line_here : (x : Scope) (ts : List TokenAndSpan) → breaks_at (first ts) ≡ false → on_line x ts ≡ Some (tt, ts)
line_here x ts h = rw h refl

pub line_breaks : (x : Scope) (ts : List TokenAndSpan) → breaks_at (first ts) ≡ true → on_line x ts ≡ None
line_breaks x ts h = rw h refl

pub is_given : {F C K : Type 0} {fg : Ghosts F} {cg : Ghosts C} {kg : Ghosts K} (ns : Nodes F C K fg cg kg)
    (o : Option ExprId) → is_some (callee_at ns o) ≡ is_some o
is_given ns None = refl
is_given ns (Some e) = refl

module _ {F C K : Type 0} (hook : Hook F C K) where
  -- ---- where a list begins

  pub paren_opens : (b : Bool) → b ≡ false → (x : Scope) (ts : List TokenAndSpan)
      → list_head hook b x ts ≡ (expected is_lparen x ts >>= (λ p. list_rest hook None p.0 x p.1))
  unfolding list_head
  paren_opens true h x ts = absurd cc
  paren_opens false h x ts = refl

  pub async_opens : (b : Bool) → b ≡ true → (x : Scope) (ts : List TokenAndSpan)
      → list_head hook b x ts ≡ (word may_refer x ts >>= (λ p. expected is_lparen x p.1
      >>= (λ q. list_rest hook (Some (ident_e p.0.at p.0.text)) p.0.at x q.1)))
  unfolding list_head
  async_opens true h x ts = refl
  async_opens false h x ts = absurd cc

  -- ---- and after it

  pub params_splits : (o : Option (Tree F C K)) (s : Span) (es : Tree F C K) (x : Scope) (ts : List TokenAndSpan)
      → params_closed hook o s es x ts
      ≡ (on_line x ts >>= (λ p. expected is_arrow x p.1 >>= (λ q. params_refined hook o s es x q.1)))
  unfolding params_closed
  params_splits o s es x ts = refl

  pub arrow_takes : (o : Option (Tree F C K)) (s : Span) (es : Tree F C K) (x : Scope) (t : TokenAndSpan)
      (ts : List TokenAndSpan) → is_arrow t.token ≡ true
      → (expected is_arrow x (t ∷ ts) >>= (λ q. params_refined hook o s es x q.1)) ≡ params_refined hook o s es x ts
  arrow_takes o s es x t ts h = ap (λ r. r >>= (λ q. params_refined hook o s es x q.1)) (expected_is is_arrow x t ts h)

  pub closed_arrow : (lo hi : BytePos) (o : Option (Tree F C K)) (s : Span) (es : Tree F C K) (x : Scope)
      (ts : List TokenAndSpan) → at_token is_arrow (first ts) ≡ true
      → list_closed hook lo hi o s es x ts ≡ params_closed hook o s es x ts
  unfolding list_closed
  closed_arrow lo hi o s es x ts h = rw h refl

  pub closed_base : (lo hi : BytePos) (o : Option (Tree F C K)) (s : Span) (es : Tree F C K) (x : Scope)
      (ts : List TokenAndSpan) → at_token is_arrow (first ts) ≡ false
      → list_closed hook lo hi o s es x ts ≡ (base_closed lo hi o s es x ts >>= (λ p. base_behind hook p.0 x p.1))
  unfolding list_closed
  closed_base lo hi o s es x ts h = rw h refl

module _ {S H F C K : Type 0} {fg : Ghosts F} {cg : Ghosts C} {kg : Ghosts K} {model : Model S} {sure : Bool}
    (hook : Hook F C K) {f : Reader (Tree F C K)} {k : ℕ} {p q : Productions S H F C K fg cg kg} where
  pub list_refused : {e : Error} (r : Result Beginning Error) → IsErrAnd r (λ x. x ≡ e)
      → Unheard model sure f p.input e q.input → KeptTo k p.nodes q.nodes
      → Rewrites model sure beginning_of f (beginning_behind hook) k p r q
  list_refused (Ok x) h u w = absurd h
  list_refused (Err x) h u w = rw h (record { reads = u; falls = tt; kept = w; from = tt })

  pub list_after : {g : Reader (Tree F C K)} {m : Productions S H F C K fg cg kg} (r : Result Beginning Error)
      → On model sure f g p.input m.input → m.nodes ≡ p.nodes
      → Rewrites model sure beginning_of g (beginning_behind hook) k m r q
      → Rewrites model sure beginning_of f (beginning_behind hook) k p r q
  list_after (Ok b) o w h = record {
    reads = on_then o h.reads;
    falls = less (on_then o h.reads).leads;
    kept = subst (λ ns. KeptTo k ns q.nodes) w h.kept;
    from = h.from;
  }
  list_after (Err e) o w h = record {
    reads = unheard_after o h.reads;
    falls = tt;
    kept = subst (λ ns. KeptTo k ns q.nodes) w h.kept;
    from = h.from;
  }

  pub list_is : (b : Beginning) → On model sure f (beginning_behind hook q.nodes b) p.input q.input
      → KeptTo k p.nodes q.nodes → beginning_of k q.nodes b
      → Rewrites model sure beginning_of f (beginning_behind hook) k p (Ok b) q
  list_is b o w h = record { reads = o; falls = less o.leads; kept = w; from = h }

-- nodes that were appended alone
pub appended : {F C K : Type 0} {fg : Ghosts F} {cg : Ghosts C} {kg : Ghosts K} {ns ms : Nodes F C K fg cg kg} {k : ℕ}
    → k ≤ count ns → Grows ns ms → KeptTo k ns ms
appended le w = kept-less le (kept-grows w)

module _ {F C K : Type 0} {fg : Ghosts F} {cg : Ghosts C} {kg : Ghosts K} where
  -- parts after others lie from where these do
  pub floor_up : {ns : Nodes F C K fg cg kg} {k : ℕ} (ps qs : List Part) → Apart k ns (ps ++ qs)
      → k ≤ floor (seat_at ns) (count ns) qs
  floor_up {ns} {k} ps qs a =
      chain-bound (seat_at ns) k ps (floor (seat_at ns) (count ns) qs)
      (chain-first (seat_at ns) k ps qs (count ns) a.chained)
