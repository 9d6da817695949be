-- Arrow functions after their bodies: their nodes, and operators that may not follow.
use Rattle.std.proofs.Common.{◌≡◌, ℕ, suc, zero, ◌<◌, Bool, true, false, ◌&&◌, ◌||◌, if◌then◌else◌, List, [], ◌∷◌, Some, None, OnOk, Result, Ok, Err, IsErrAnd, length, refl, sym, ap, subst, ◌∙◌, arith}
use Rattle.std.specs.Prelude.{slice_index_or}
use Rattle.swc_context.specs.{Spans.from_to, declared.error.Error.Error, declared.span.BytePos.BytePos, declared.span.Span.Span}
use Rattle.swc_input.specs.{declared.buffer.Buffer.Buffer, declared.token.TokenAndSpan.TokenAndSpan, Kinds.at_token, Source.Model}
use Rattle.swc_ast.specs.{Tree.Tree, Tree.Trees, Trees.arrow_e, Trees.block_e, declared.expr.BlockStmtOrExpr.BlockStmtOrExpr, declared.expr.BlockStmtOrExpr.BlockStmtOrExpr as body, declared.spanned.Spanned.Ghosts}
use Rattle.swc_bodies.specs.Readings.{Hook}
use Rattle.swc_grammar.specs.{Arrows.is_block, Arrows.is_sign, Clean.Out, Clean.first, Scope.Scope, Words.◌>>=◌}
use Rattle.swc_nodes.specs.GrowingNodes.{count, seat_before, tree_at, Apart, From, Grows, Made}
use Rattle.swc_nodes.specs.{NodeParts.expr_part, NodeParts.body_parts, NodeTree.marked_tree, declared.node.ExprId.ExprId, declared.node.Node.Node, declared.node.Node.Node as n, declared.nodes.Nodes.Nodes}
use Rattle.swc_nodes.proofs.{ArrowNodes.body-from, Lists.apart-none, Standing.get_stood}
use Rattle.swc_input.specs.Calls.{recorded, Here, Loud, Tries}
use Rattle.swc_steps.specs.Parsing.{scope, seen, breaks_at, On, Unheard, by_hook}
use Rattle.swc_steps.specs.declared.productions.Productions.{Productions}
use Rattle.swc_steps.proofs.Steps.{Reader, less, on_answer}
use Rattle.swc_arrows.specs.Answers.{has_block, body_at, Doomed, EndsArrow}
use Rattle.swc_arrows.specs.Readers.{arrow_end, block_inside, ends_statement, no_sign, statement_ends}
use Rattle.swc_arrows.specs.declared.bodies.ArrowOrBase.{ArrowOrBase, ArrowOrBase as arrow_or}
use Rattle.swc_arrows.proofs.Dooms.{doomed_on, doomed_seen}

-- what is at a place of a list
there : {A : Type 0} (xs : List A) (i : ℕ) → i < length xs → (x : A) × (x ≡ slice_index_or xs i x)
there [] i h = absurd (omega (arith, h))
there (x ∷ xs) zero h = (x, refl)
there (x ∷ xs) (suc i) h = there xs i (omega (arith, h))

-- ---- operators that may not follow

abbrev barred : Bool → List TokenAndSpan → Out (Unit {0})
barred b ts = if b then None else Some (tt, ts)

pub not_barred : (bars : Bool) (x : Scope) (ts : List TokenAndSpan) → bars ≡ false → no_sign bars x ts ≡ Some (tt, ts)
not_barred bars x ts h = rw h refl

pub no_sign_here : (bars : Bool) (x : Scope) (ts : List TokenAndSpan) → at_token is_sign (first ts) ≡ false
    → no_sign bars x ts ≡ Some (tt, ts)
no_sign_here true x ts h = rw h refl
no_sign_here false x ts h = refl

pub sign_barred : (bars : Bool) (x : Scope) (ts : List TokenAndSpan) → bars ≡ true → at_token is_sign (first ts) ≡ true
    → no_sign bars x ts ≡ None
sign_barred bars x ts b h = rw (b, h) refl

or_true : (a : Bool) → (a || true) ≡ true
or_true true = refl
or_true false = refl

pub ends_line : (x : Scope) (ts : List TokenAndSpan) → breaks_at (first ts) ≡ true → statement_ends x ts ≡ Some (tt, ts)
ends_line x ts h = rw h refl

pub ends_sign : (x : Scope) (ts : List TokenAndSpan) → at_token ends_statement (first ts) ≡ true
    → statement_ends x ts ≡ Some (tt, ts)
ends_sign x ts h = rw (h, or_true (breaks_at (first ts))) refl

pub ends_not : (x : Scope) (ts : List TokenAndSpan) → breaks_at (first ts) ≡ false
    → at_token ends_statement (first ts) ≡ false → statement_ends x ts ≡ None
ends_not x ts h k = rw (h, k) refl

-- a fault is recorded where f reads nothing of a list that begins with what is seen
pub noted_here : {S A : Type 0} {model : Model S} (f g : Reader A) {b c : Buffer S} (d : Buffer S)
    (r : Result (Unit {0}) Error) → Here model b c
    → ((x : Scope) (ts : List TokenAndSpan) → x ≡ scope model c → first ts ≡ seen c → f x ts ≡ None)
    → Tries model c r d → (Loud model c → OnOk r (recorded model c < recorded model d))
    → OnOk r ((sure : Bool) → On model sure f g b d)
noted_here f g d (Ok u) h none t lt = λ sure. doomed_on (doomed_seen h none t lt)
noted_here f g d (Err e) h none t lt = tt

module _ {F C K : Type 0} where
  -- no node by itself is a block
  node_no_block : (fun_at : F → Span) (class_at : C → Span) (block_at : K → Span) (at : ℕ → Tree F C K) (x : Node F C K)
      → is_block (marked_tree fun_at class_at block_at at x) ≡ false
  node_no_block fun_at class_at block_at at (n.This e) = refl
  node_no_block fun_at class_at block_at at x = refl

  sign_by : (e : Tree F C K) (ts : List TokenAndSpan) (i j t : Bool)
      → (if i && (j && t) then None else Some (e, ts)) ≡ (barred ((i && j) && t) ts >>= (λ p. Some (e, p.1)))
  sign_by e ts true true true = refl
  sign_by e ts true true false = refl
  sign_by e ts true false t = refl
  sign_by e ts false j t = refl

  -- after the body: a look at the operator there, and the node
  pub end_splits : (lo hi : BytePos) (is_async in_parens bars : Bool) (ps : Trees F C K) (b : Tree F C K)
      → bars ≡ (in_parens && is_block b) → (x : Scope) (ts : List TokenAndSpan)
      → arrow_end lo hi is_async in_parens ps b ts
      ≡ (no_sign bars x ts >>= (λ p. Some (arrow_e (from_to lo hi) is_async b ps, p.1)))
  end_splits lo hi is_async in_parens bars ps b e x ts =
      sign_by (arrow_e (from_to lo hi) is_async b ps) ts in_parens (is_block b) (at_token is_sign (first ts))
      ∙ ap (λ v. barred (v && at_token is_sign (first ts)) ts
      >>= (λ p. Some (arrow_e (from_to lo hi) is_async b ps, p.1))) (sym e)

module _ {F C K : Type 0} {fg : Ghosts F} {cg : Ghosts C} {kg : Ghosts K} where
  expr_no_block : {ns : Nodes F C K fg cg kg} {k : ℕ} (e : ExprId) → From k ns (expr_part e)
      → is_block (tree_at ns e.0) ≡ false
  expr_no_block {ns} e from =
      let (x, is) = there ns.nodes.items e.0 from.within in
      let stood = get_stood ns e.0 x from.within is in
      ap (λ s. is_block s.tree) stood.stands ∙ node_no_block fg.place cg.place kg.place (λ i.
      (seat_before e.0 ns i).tree) x

  pub block_same : {ns : Nodes F C K fg cg kg} {k : ℕ} (b : BlockStmtOrExpr ExprId K) → Apart k ns (body_parts b)
      → is_block (body_at ns b) ≡ has_block b
  block_same (body.BlockStmt v) a = refl
  block_same (body.Expr e) a = expr_no_block e (body-from (body.Expr e) e refl a)

  -- a block by itself has no parts
  pub no_parts : {ns ms : Nodes F C K fg cg kg} → ms ≡ ns → Apart (count ns) ms []
  no_parts {ns} {ms} e = subst (λ v. Apart (count ns) v []) (sym e) (apart-none {ns = ns} {k = count ns} (omega arith))

module _ {F C K : Type 0} (hook : Hook F C K) (place : K → Span) where
  pub block_splits : (x : Scope) (ts : List TokenAndSpan)
      → block_inside hook place x ts ≡ (by_hook hook.block x ts >>= (λ p. Some (block_e (place p.0) p.0, p.1)))
  unfolding block_inside
  block_splits x ts = refl

module _ {S H F C K : Type 0} {fg : Ghosts F} {cg : Ghosts C} {kg : Ghosts K} {model : Model S} {sure : Bool}
    {f : Reader (Tree F C K)} {k : ℕ} {p q : Productions S H F C K fg cg kg} where
  pub ends_refused : {e : Error} (r : Result ArrowOrBase Error) → IsErrAnd r (λ x. x ≡ e)
      → Unheard model sure f p.input e q.input → Grows p.nodes q.nodes → EndsArrow model sure f k p r q
  ends_refused (Ok x) h u w = absurd h
  ends_refused (Err x) h u w = rw h (record { reads = u; falls = tt; grows = w; from = tt })

  pub ends_arrow : (e : ExprId) (t : Tree F C K) → On model sure f (λ x ts. Some (t, ts)) p.input q.input
      → Grows p.nodes q.nodes → Made k q.nodes (expr_part e) t → EndsArrow model sure f k p (Ok (arrow_or.Arrow e)) q
  ends_arrow e t o w m = record { reads = on_answer (sym m.stands) o; falls = less o.leads; grows = w; from = m.from }

  pub ends_operand : (e : ExprId) (t : Tree F C K) → Doomed model sure f p.input q.input
      → Grows p.nodes q.nodes → Made k q.nodes (expr_part e) t → EndsArrow model sure f k p (Ok (arrow_or.Operand e)) q
  ends_operand e t d w m = record { reads = d; falls = less d.leads; grows = w; from = m.from }
