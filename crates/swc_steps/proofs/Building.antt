-- Nodes that were made, and numbers that are held.
use Rattle.std.proofs.Common.{◌≡◌, ℕ, ◌≤◌, ◌∷◌, ◌++◌, List, Result, Ok, Err, IfOk, ap, subst, arith}
use Rattle.std.specs.declared.alloc.AllocError.{AllocError}
use Rattle.swc_context.specs.declared.error.Error.{Error}
use Rattle.swc_ast.specs.{Tree.Tree, declared.spanned.Spanned.Ghosts}
use Rattle.swc_nodes.specs.NodeParts.{Part, expr_part, one_expr}
use Rattle.swc_nodes.specs.GrowingNodes.{count, seat_at, first_at, Apart, From, Grows, Made}
use Rattle.swc_nodes.specs.{declared.node.ExprId.ExprId, declared.nodes.Nodes.Nodes}
use Rattle.swc_nodes.proofs.Chains.{both_true, fitting, chain-cons, chain-down}
use Rattle.swc_nodes.proofs.Held.{apart-from, from-down, from_self}
use Rattle.swc_nodes.proofs.{Lists.apart-more, Standing.grows-none}
use Rattle.swc_steps.specs.Parsing.{tree_of}

module _ {F C K : Type 0} {fg : Ghosts F} {cg : Ghosts C} {kg : Ghosts K} where
  pub made_at : (ms : Nodes F C K fg cg kg) (k : ℕ) (t : Tree F C K) (q : Result ExprId AllocError) (x : ExprId)
      → IfOk q (λ id. Made k ms (expr_part id) t) → q ≡ Ok x → Made k ms (expr_part x) t
  made_at ms k t (Ok y) x m e = let same : y ≡ x = cc in subst (λ id. Made k ms (expr_part id) t) same m
  made_at ms k t (Err y) x m e = cc

  pub made_tree : (ms : Nodes F C K fg cg kg) (k : ℕ) (t : Tree F C K) (q : Result ExprId AllocError)
      (r : Result ExprId Error) → IfOk q (λ id. Made k ms (expr_part id) t) → IfOk r (λ id. q ≡ Ok id)
      → IfOk r (λ id. tree_of ms id ≡ t)
  made_tree ms k t q (Ok y) m e = (made_at ms k t q y m e).stands
  made_tree ms k t q (Err y) m e = tt

  pub made_from : (ms : Nodes F C K fg cg kg) (k j : ℕ) (t : Tree F C K) (q : Result ExprId AllocError)
      (r : Result ExprId Error) → k ≤ j → IfOk q (λ id. Made j ms (expr_part id) t) → IfOk r (λ id. q ≡ Ok id)
      → IfOk r (λ id. From k ms (expr_part id))
  made_from ms k j t q (Ok y) h m e = from-down h (made_at ms j t q y m e).from
  made_from ms k j t q (Err y) h m e = tt

  -- a node over parts that lie apart from the number j on
  pub made_over : (ns ms : Nodes F C K fg cg kg) (j : ℕ) (ps : List Part) (t : Tree F C K)
      (q : Result ExprId AllocError)
      → IfOk q (λ id. (k : ℕ) → Apart k ns ps → Made k ms (expr_part id) t) → Apart j ns ps
      → IfOk q (λ id. Made j ms (expr_part id) t)
  made_over ns ms j ps t (Ok x) f a = f j a
  made_over ns ms j ps t (Err e) f a = tt

  pub apart-down : {ns : Nodes F C K fg cg kg} {k : ℕ} (ps : List Part) → Apart k ns ps → Apart 0 ns ps
  apart-down {ns} {k} ps a = record { chained = chain-down (seat_at ns) k 0 ps (count ns) (omega arith) a.chained }

  pub apart-lower : {ns : Nodes F C K fg cg kg} {k j : ℕ} (ps : List Part) → k ≤ j → Apart j ns ps → Apart k ns ps
  apart-lower {ns} {k} {j} ps h a = record { chained = chain-down (seat_at ns) j k ps (count ns) h a.chained }

  -- parts are reached from the number that the first of them begins with
  pub apart-first : {ns : Nodes F C K fg cg kg} {k : ℕ} (p : Part) (ps : List Part) → Apart k ns (p ∷ ps)
      → Apart (first_at ns p.at) ns (p ∷ ps)
  apart-first {ns} {k} p ps a =
      let b = both_true a.chained in
      let f = fitting (seat_at ns) k p b.0 in
      record {
        chained = chain-cons (seat_at ns) (first_at ns p.at) p ps (count ns)
            (record { above = omega arith; first = f.first; view = f.view }) b.1;
      }

  -- an expression, and parts that were read after it
  pub apart_behind : {ns ms : Nodes F C K fg cg kg} {k : ℕ} {e : ExprId} {ps : List Part} → Grows ns ms
      → From k ns (expr_part e) → Apart (count ns) ms ps → Apart (first_at ns e.0) ms (one_expr e ++ ps)
  apart_behind {e = e} g f a = apart-more g (apart-from (expr_part e) (from_self f)) a

  -- ---- numbers that are held

  -- the nodes are the same
  pub grows-kept : {ns ms : Nodes F C K fg cg kg} → ms ≡ ns → Grows ns ms
  grows-kept {ns} {ms} e = grows-none ns ms (ap (λ v. v.nodes.items) e)
