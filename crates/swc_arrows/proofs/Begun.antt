-- Where an assignment expression may be an arrow function: what is answered, and what is left to read.
use Rattle.std.proofs.Common.{◌≡◌, ℕ, ◌≤◌, Bool, false, List, Option, Some, Result, Ok, Err, IsErrAnd, refl, sym, ap}
use Rattle.swc_context.specs.{declared.error.Error.Error, declared.span.BytePos.BytePos, declared.span.Span.Span}
use Rattle.swc_input.specs.{declared.token.TokenAndSpan.TokenAndSpan, Source.Model}
use Rattle.swc_ast.specs.Tree.{Tree, Trees, span_of}
use Rattle.swc_ast.specs.{declared.expr.BlockStmtOrExpr.BlockStmtOrExpr, declared.spanned.Spanned.Ghosts}
use Rattle.swc_bodies.specs.Readings.{Hook, LawfulHook}
use Rattle.swc_grammar.specs.Clean.{run, assigns, sym as at}
use Rattle.swc_grammar.specs.{Scope.Scope, Symbols.ArrowBody, Symbols.Level, Words.◌>>=◌}
use Rattle.swc_nodes.specs.GrowingNodes.{tree_at, body_end, Apart, From, Grows}
use Rattle.swc_nodes.specs.{NodeParts.body_parts, NodeParts.expr_part, declared.node.ExprId.ExprId, declared.nodes.Nodes.Nodes}
use Rattle.swc_nodes.proofs.{Held.from-down, Standing.grows-then}
use Rattle.swc_steps.specs.{Args.args_inside, Parsing.On, Parsing.Unheard, declared.productions.Productions.Productions}
use Rattle.swc_steps.proofs.Steps.{Reader, less, heard_after, unheard_after}
use Rattle.swc_arrows.specs.Answers.{Based, body_at, MayBeArrow, EndsArrow, Opens, ReadsArrow}
use Rattle.swc_arrows.specs.Readers.{others, arrow_behind, arrow_end, list_behind, list_rest}
use Rattle.swc_arrows.specs.declared.bodies.ArrowOrBase.{ArrowOrBase, ArrowOrBase as arrow_or}
use Rattle.swc_arrows.proofs.BodyEnds.{body_ended}
use Rattle.swc_arrows.proofs.Dooms.{fails_after, opens_fails, opens_heard, opens_later}

-- ---- how readers go on

module _ {F C K : Type 0} (hook : Hook F C K) where
  pub others_splits : (x : Scope) (ts : List TokenAndSpan)
      → others hook x ts ≡ (run hook (at (Level 1)) x ts >>= (λ p. run hook (assigns p.0) x p.1))
  unfolding others
  others_splits x ts = refl

  pub list_splits : (o : Option (Tree F C K)) (s : Span) (x : Scope) (ts : List TokenAndSpan)
      → list_rest hook o s x ts ≡ (args_inside hook false x ts >>= (λ q. list_behind hook o s q.0 x q.1))
  unfolding list_rest
  list_splits o s x ts = refl

  pub arrow_splits : (lo : BytePos) (a in_parens : Bool) (ps : Trees F C K) (x : Scope) (ts : List TokenAndSpan)
      → arrow_behind hook lo a in_parens ps x ts
      ≡ (run hook (at (ArrowBody a)) x ts >>= (λ p. arrow_end lo (span_of p.0).hi a in_parens ps p.0 p.1))
  unfolding arrow_behind
  arrow_splits lo a in_parens ps x ts = refl

-- after a body that was read
pub end_same : {F C K : Type 0} {fg : Ghosts F} {cg : Ghosts C} {kg : Ghosts K} (hook : Hook F C K)
    → LawfulHook fg.place cg.place kg.place hook → {ns : Nodes F C K fg cg kg} {k : ℕ} (lo : BytePos)
    (a in_parens : Bool)
    (ps : Trees F C K) (b : BlockStmtOrExpr ExprId K) → Apart k ns (body_parts b)
    → (x : Scope) (ts us : List TokenAndSpan)
    → run hook (at (ArrowBody a)) x ts ≡ Some (body_at ns b, us) → (ys : List TokenAndSpan)
    → arrow_end lo (span_of (body_at ns b)).hi a in_parens ps (body_at ns b) ys
    ≡ arrow_end lo (body_end ns b) a in_parens ps (body_at ns b) ys
end_same hook lawful {ns} lo a in_parens ps b p x ts us h ys =
    ap (λ v. arrow_end lo v a in_parens ps (body_at ns b) ys) (sym (body_ended hook lawful b a x ts us p h))

-- ---- what is answered

module _ {S H F C K : Type 0} {fg : Ghosts F} {cg : Ghosts C} {kg : Ghosts K} {model : Model S} {sure : Bool}
    (hook : Hook F C K) {f : Reader (Tree F C K)} {k : ℕ} {p q : Productions S H F C K fg cg kg} where
  pub may_refused : {e : Error} (r : Result ArrowOrBase Error) → IsErrAnd r (λ x. x ≡ e)
      → Unheard model sure f p.input e q.input → Grows p.nodes q.nodes → MayBeArrow model sure hook f k p r q
  may_refused (Ok x) h u w = absurd h
  may_refused (Err x) h u w = rw h (record { reads = u; falls = tt; grows = w; from = tt })

  pub may_other : On model sure f (others hook) p.input q.input → Grows p.nodes q.nodes
      → MayBeArrow model sure hook f k p (Ok arrow_or.Other) q
  may_other o w = record { reads = o; falls = less o.leads; grows = w; from = tt }

  pub may_base : (e : ExprId) → Based model sure hook f (tree_at q.nodes e.0) p.input q.input
      → Grows p.nodes q.nodes → From k q.nodes (expr_part e) → MayBeArrow model sure hook f k p (Ok (arrow_or.Base e)) q
  may_base e o w h = record { reads = o; falls = less o.opens.on.leads; grows = w; from = h }

  -- from the `=>` on
  pub may_arrow : {g : Reader (Tree F C K)} {j : ℕ} {m : Productions S H F C K fg cg kg} (r : Result ArrowOrBase Error)
      → On model sure f g p.input m.input → Grows p.nodes m.nodes → k ≤ j → ReadsArrow model sure g j m r q
      → MayBeArrow model sure hook f k p r q
  may_arrow (Ok (arrow_or.Arrow e)) o grows le h = record {
    reads = heard_after o h.reads;
    falls = less (heard_after {t = tree_at q.nodes e.0} o h.reads).on.leads;
    grows = grows-then grows h.grows;
    from = from-down le h.from;
  }
  may_arrow (Ok (arrow_or.Base e)) o grows le h = absurd h.reads
  may_arrow (Ok (arrow_or.Operand e)) o grows le h = record {
    reads = fails_after o h.reads;
    falls = less (fails_after o h.reads).doomed.leads;
    grows = grows-then grows h.grows;
    from = from-down le h.from;
  }
  may_arrow (Ok arrow_or.Other) o grows le h = absurd h.reads
  may_arrow (Err e) o grows le h =
      record { reads = unheard_after o h.reads; falls = tt; grows = grows-then grows h.grows; from = tt }

module _ {S H F C K : Type 0} {fg : Ghosts F} {cg : Ghosts C} {kg : Ghosts K} {model : Model S} {sure : Bool}
    {f : Reader (Tree F C K)} {k : ℕ} {p q : Productions S H F C K fg cg kg} where
  pub rest_refused : {e : Error} → Unheard model sure f p.input e q.input → Grows p.nodes q.nodes
      → ReadsArrow model sure f k p (Err e) q
  rest_refused u w = record { reads = u; falls = tt; grows = w; from = tt }

module _ {S H F C K : Type 0} {fg : Ghosts F} {cg : Ghosts C} {kg : Ghosts K} {model : Model S} {sure : Bool}
    {f g : Reader (Tree F C K)} {k j : ℕ} {p m q : Productions S H F C K fg cg kg} where
  -- from the body on
  pub arrow_read : (r : Result ArrowOrBase Error) → Opens model sure f g p.input m.input → Grows p.nodes m.nodes → k ≤ j
      → EndsArrow model sure g j m r q → ReadsArrow model sure f k p r q
  arrow_read (Ok (arrow_or.Arrow e)) o grows le h = record {
    reads = opens_heard (opens_later o h.reads);
    falls = less (opens_later {h = λ x ts. Some (tree_at q.nodes e.0, ts)} o h.reads).on.leads;
    grows = grows-then grows h.grows;
    from = from-down le h.from;
  }
  arrow_read (Ok (arrow_or.Base e)) o grows le h = absurd h.reads
  arrow_read (Ok (arrow_or.Operand e)) o grows le h = record {
    reads = opens_fails o h.reads;
    falls = less (opens_fails o h.reads).doomed.leads;
    grows = grows-then grows h.grows;
    from = from-down le h.from;
  }
  arrow_read (Ok arrow_or.Other) o grows le h = absurd h.reads
  arrow_read (Err e) o grows le h =
      record { reads = unheard_after o.on h.reads; falls = tt; grows = grows-then grows h.grows; from = tt }
