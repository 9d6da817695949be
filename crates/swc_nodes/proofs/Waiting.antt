-- Operators are put on the pending ones and taken from them, and their operands lie apart.
use Rattle.std.proofs.Common.{◌≡◌, ℕ, suc, ◌+◌, ◌<◌, true, List, [], ◌∷◌, ◌++◌, refl, sym, ap, subst, ◌∙◌, lt-ltb, arith, Option, Some, None}
use Rattle.std.proofs.lemmas.List.{append-nil}
use Rattle.std.specs.Prelude.{option_to_list}
use Rattle.swc_context.specs.Operators.{precedence_of}
use Rattle.swc_ast.specs.{declared.spanned.Spanned.Ghosts, Trees.min_right}
use Rattle.swc_nodes.specs.GrowingNodes.{count, seat_at, first_at, Apart, From, Grows}
use Rattle.swc_nodes.specs.{Pending.operand_parts, Pending.first_operand, Rising.least_above, Rising.rises, NodeParts.Part, NodeParts.expr_part, declared.node.ExprId.ExprId, declared.nodes.Nodes.Nodes, declared.pending.PendingOperator.PendingOperator}
use Rattle.swc_nodes.proofs.Chains.{both_true, true_both, chain-cons}
use Rattle.swc_nodes.proofs.Held.{apart-from, from-apart, from-down, from-later}
use Rattle.swc_nodes.proofs.Lists.{apart-more-one}

-- the precedences rise with one operator more, and with one fewer
pub rises_more : (m : ℕ) (ws : List PendingOperator) (w : PendingOperator) → rises m ws ≡ true
    → least_above m ws < precedence_of w.op → rises m (ws ++ w ∷ []) ≡ true
rises_more m [] w h lt = true_both (lt-ltb m (precedence_of w.op) lt) refl
rises_more m (v ∷ ws) w h lt =
    let b = both_true h in true_both b.0 (rises_more (min_right v.op) ws w b.1 lt)

pub rises_fewer : (m : ℕ) (ws : List PendingOperator) (w : PendingOperator) → rises m (ws ++ w ∷ []) ≡ true
    → rises m ws ≡ true
rises_fewer m [] w h = refl
rises_fewer m (v ∷ ws) w h = let b = both_true h in true_both b.0 (rises_fewer (min_right v.op) ws w b.1)

-- the same of the list below the one on top
pub rises_put : (o : Option PendingOperator) (ws vs : List PendingOperator) (w : PendingOperator)
    → vs ≡ ws ++ option_to_list o → rises 0 (ws ++ option_to_list o) ≡ true
    → least_above 0 (ws ++ option_to_list o) < precedence_of w.op → rises 0 (vs ++ w ∷ []) ≡ true
rises_put o ws vs w e h lt = ap (λ us. rises 0 (us ++ w ∷ [])) e ∙ rises_more 0 (ws ++ option_to_list o) w h lt

rises_below : (o : Option PendingOperator) (ws : List PendingOperator) → rises 0 (ws ++ option_to_list o) ≡ true
    → rises 0 ws ≡ true
rises_below None ws h = ap (rises 0) (sym (append-nil ws)) ∙ h
rises_below (Some w) ws h = rises_fewer 0 ws w h

pub rises_taken : (o p : Option PendingOperator) (ws vs : List PendingOperator) → ws ≡ vs ++ option_to_list p
    → rises 0 (ws ++ option_to_list o) ≡ true → rises 0 (vs ++ option_to_list p) ≡ true
rises_taken o p ws vs e h = ap (rises 0) (sym e) ∙ rises_below o ws h

-- what the operator on top leaves to its right
pub least_more : (m : ℕ) (ws : List PendingOperator) (w : PendingOperator)
    → least_above m (ws ++ w ∷ []) ≡ min_right w.op
least_more m [] w = refl
least_more m (v ∷ ws) w = least_more (min_right v.op) ws w

pub parts_more : (ws : List PendingOperator) (w : PendingOperator) (e : ExprId)
    → operand_parts (ws ++ w ∷ []) e ≡ operand_parts ws w.left ++ expr_part e ∷ []
parts_more [] w e = refl
parts_more (v ∷ ws) w e = ap (λ ps. expr_part v.left ∷ ps) (parts_more ws w e)

module _ {F C K : Type 0} {fg : Ghosts F} {cg : Ghosts C} {kg : Ghosts K} where
  pub apart-rest : {ns : Nodes F C K fg cg kg} {k : ℕ} (p : Part) (ps : List Part) → Apart k ns (p ∷ ps)
      → Apart (suc p.at) ns ps
  apart-rest p ps a = record { chained = (both_true a.chained).1 }

  apart-cons : {ns : Nodes F C K fg cg kg} {k : ℕ} (p : Part) (ps : List Part) → From k ns p → Apart (suc p.at) ns ps
      → Apart k ns (p ∷ ps)
  apart-cons {ns} {k} p ps f a = record {
    chained = chain-cons (seat_at ns) k p ps (count ns)
        (record { above = f.above; first = f.first; view = f.view }) a.chained;
  }

  -- all are reached from the number that the first of them begins with
  pub operands-first : {ns : Nodes F C K fg cg kg} {k : ℕ} (ws : List PendingOperator) (e : ExprId)
      → Apart k ns (operand_parts ws e) → Apart (first_at ns (first_operand ws e).0) ns (operand_parts ws e)
  operands-first {ns} {k} [] e a =
      let f = from-apart (expr_part e) [] a in
      apart-from (expr_part e) (record { within = f.within; above = omega arith; first = f.first; view = f.view })
  operands-first {ns} {k} (w ∷ ws) e a =
      let f = from-apart (expr_part w.left) (operand_parts ws e) a in
      apart-cons (expr_part w.left) (operand_parts ws e)
      (record { within = f.within; above = omega arith; first = f.first; view = f.view })
      (apart-rest (expr_part w.left) (operand_parts ws e) a)

  -- the one that was read last
  pub operands-last : {ns : Nodes F C K fg cg kg} {k : ℕ} (ws : List PendingOperator) (e : ExprId)
      → Apart k ns (operand_parts ws e) → From 0 ns (expr_part e)
  operands-last [] e a = from-down (omega arith) (from-apart (expr_part e) [] a)
  operands-last (w ∷ ws) e a = operands-last ws e (apart-rest (expr_part w.left) (operand_parts ws e) a)

  -- one more was read
  pub operands-more : {ns ms : Nodes F C K fg cg kg} {k : ℕ} (ws : List PendingOperator) (w : PendingOperator)
      (e : ExprId) → Grows ns ms → Apart k ns (operand_parts ws w.left) → From (count ns) ms (expr_part e)
      → Apart k ms (operand_parts (ws ++ w ∷ []) e)
  operands-more {ns} {ms} {k} ws w e g a f = subst (Apart k ms) (sym (parts_more ws w e)) (apart-more-one g a f)

  -- the left operand of the operator on top, and its right one after it
  pub operands-top : {ns : Nodes F C K fg cg kg} {k : ℕ} (ws : List PendingOperator) (w : PendingOperator) (e : ExprId)
      → Apart k ns (operand_parts (ws ++ w ∷ []) e)
      → From 0 ns (expr_part w.left) × From (w.left.0 + 1) ns (expr_part e)
  operands-top [] w e a =
      let r = from-apart (expr_part e) [] (apart-rest (expr_part w.left) (expr_part e ∷ []) a) in
      (from-down (omega arith) (from-apart (expr_part w.left) (expr_part e ∷ []) a), from-down (omega arith) r)
  operands-top (v ∷ ws) w e a = operands-top ws w e (apart-rest (expr_part v.left) (operand_parts (ws ++ w ∷ []) e) a)

  -- these are joined to a node
  pub operands-joined : {ns ms : Nodes F C K fg cg kg} {k : ℕ} (ws : List PendingOperator) (w : PendingOperator)
      (e n : ExprId) → Grows ns ms → Apart k ns (operand_parts (ws ++ w ∷ []) e)
      → From (first_at ns w.left.0) ms (expr_part n) → Apart k ms (operand_parts ws n)
  operands-joined [] w e n g a f =
      let l = from-apart (expr_part w.left) (expr_part e ∷ []) a in
      apart-from (expr_part n) (from-down l.above f)
  operands-joined (v ∷ ws) w e n g a f =
      let rest = operand_parts (ws ++ w ∷ []) e in
      apart-cons (expr_part v.left) (operand_parts ws n) (from-later g (from-apart (expr_part v.left) rest a))
      (operands-joined ws w e n g (apart-rest (expr_part v.left) rest a) f)

  -- without the operand on top, its left one is the last
  pub operands-below : {ns : Nodes F C K fg cg kg} {k : ℕ} (ws : List PendingOperator) (w : PendingOperator)
      (e : ExprId) → Apart k ns (operand_parts (ws ++ w ∷ []) e) → Apart k ns (operand_parts ws w.left)
  operands-below [] w e a = apart-from (expr_part w.left) (from-apart (expr_part w.left) (expr_part e ∷ []) a)
  operands-below (v ∷ ws) w e a =
      let rest = operand_parts (ws ++ w ∷ []) e in
      apart-cons (expr_part v.left) (operand_parts ws w.left) (from-apart (expr_part v.left) rest a)
      (operands-below ws w e (apart-rest (expr_part v.left) rest a))
