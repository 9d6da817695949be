-- Numbers that are held while nodes are appended, and what is made of them.
use Rattle.std.proofs.Common.{◌≡◌, ℕ, suc, ◌<◌, ◌≤◌, Bool, true, false, not, ◌&&◌, List, [], ◌∷◌, Result, Ok, Err, IfOk, refl, sym, ap, subst, ◌∙◌, arith}
use Rattle.swc_context.specs.{declared.operator.BinaryOp.BinaryOp, declared.span.Span.Span}
use Rattle.swc_ast.specs.declared.spanned.Spanned.{Ghosts}
use Rattle.swc_ast.specs.Trees.{is_logical_op, is_nullish, logical_ok, left_ok}
use Rattle.swc_nodes.specs.NodeParts.{Part, View, Form, target_expr, other_expr, target_pat, other_pat, expr, pat, slots, form, view_ok, expr_part, one_expr}
use Rattle.swc_nodes.specs.GrowingNodes.{count, seat_at, seat_before, tree_at, first_at, Apart, From, Grows, Added, Made, Stood}
use Rattle.swc_nodes.specs.{NodeTree.marked_tree, NumberedTrees.floor, NumberedTrees.chain, declared.node.ExprId.ExprId, declared.node.Node.Node, declared.nodes.Nodes.Nodes}
use Rattle.swc_nodes.specs.declared.node.Node.TheVariants as n
use Rattle.swc_nodes.proofs.Chains.{both_true, fitting, chain-one, chain-up, chain-same, chain-bound, floor-under}
use Rattle.swc_nodes.proofs.Standing.{before-same, grows-count, seat-later}

pub pat_not_expr : (f : Form) → view_ok pat f ≡ not (view_ok expr f)
pat_not_expr target_expr = refl
pat_not_expr other_expr = refl
pat_not_expr target_pat = refl
pat_not_expr other_pat = refl

not_not : (b : Bool) → not (not b) ≡ b
not_not true = refl
not_not false = refl

module _ {F C K : Type 0} {fg : Ghosts F} {cg : Ghosts C} {kg : Ghosts K} where
  -- ---- parts, and one part

  pub from-apart : {ns : Nodes F C K fg cg kg} {k : ℕ} (p : Part) (ps : List Part) → Apart k ns (p ∷ ps) → From k ns p
  from-apart {ns} {k} p ps a =
      let b = both_true a.chained in
      let f = fitting (seat_at ns) k p b.0 in
      let w = chain-bound (seat_at ns) (suc p.at) ps (count ns) b.1 in
      record { within = omega arith; above = f.above; first = f.first; view = f.view }

  pub apart-from : {ns : Nodes F C K fg cg kg} {k : ℕ} (p : Part) → From k ns p → Apart k ns (p ∷ [])
  apart-from {ns} {k} p f = record {
    chained = chain-one (seat_at ns) k p (count ns)
        (record { above = f.above; first = f.first; view = f.view }) f.within;
  }

  pub from-down : {ns : Nodes F C K fg cg kg} {k j : ℕ} {p : Part} → k ≤ j → From j ns p → From k ns p
  from-down h f = let a = f.above in record { within = f.within; above = omega arith; first = f.first; view = f.view }

  pub from-up : {ns : Nodes F C K fg cg kg} {k j : ℕ} {p : Part} → k ≤ first_at ns p.at → From j ns p → From k ns p
  from-up h f = record { within = f.within; above = h; first = f.first; view = f.view }

  pub from_self : {ns : Nodes F C K fg cg kg} {k : ℕ} {p : Part} → From k ns p → From (first_at ns p.at) ns p
  from_self f = from-up (omega arith) f

  pub if_from : (ns : Nodes F C K fg cg kg) (k j : ℕ) {T E : Type 0} (number : T → ExprId) (r : Result T E) → k ≤ j →
      IfOk r (λ t. From j ns (expr_part (number t))) → IfOk r (λ t. From k ns (expr_part (number t)))
  if_from ns k j number (Ok t) h f = from-down h f
  if_from ns k j number (Err e) h f = tt

  -- ---- the node of a number, and its parts

  pub stood-parts : {ns : Nodes F C K fg cg kg} {i : ℕ} {x : Node F C K} → Stood ns i x → i < count ns
      → chain (seat_at ns) 0 (slots x) i ≡ true
  stood-parts {ns} {i} {x} s h = chain-same (seat_before i ns) (seat_at ns) 0 (slots x) i
      (λ j lt. before-same i ns j lt (omega arith)) s.chained

  pub stood-apart : {ns : Nodes F C K fg cg kg} {i : ℕ} {x : Node F C K} → Stood ns i x → i < count ns
      → Apart 0 ns (slots x)
  stood-apart {ns} {i} {x} s h = record {
    chained = chain-up (seat_at ns) 0 (slots x) i (count ns) (omega arith)
        (stood-parts s h);
  }

  pub stood-from : {ns : Nodes F C K fg cg kg} {i : ℕ} {x : Node F C K} (v : View) → Stood ns i x → i < count ns
      → view_ok v (form x) ≡ true → From 0 ns (record { at = i; view = v })
  stood-from {ns} {i} {x} v s h k =
      let first : first_at ns i ≡ floor (seat_before i ns) i (slots x) = ap (λ t. t.first) s.stands in
      let u = floor-under (seat_before i ns) 0 (slots x) i s.chained in
      record { within = h; above = omega arith; first = omega arith; view = ap (λ t. view_ok v t.form) s.stands ∙ k }

  pub stood-view : {ns : Nodes F C K fg cg kg} {i : ℕ} {x : Node F C K} (v : View) → Stood ns i x
      → From 0 ns (record { at = i; view = v }) → view_ok v (form x) ≡ true
  stood-view v s f = ap (λ t. view_ok v t.form) (sym s.stands) ∙ f.view

  pub stood-is : {ns : Nodes F C K fg cg kg} {i : ℕ} {x : Node F C K} (y : Node F C K) → x ≡ y → Stood ns i x
      → Stood ns i y
  stood-is {ns} {i} y e s = subst (λ v. Stood ns i v) e s

  pub left-nullish : {ns : Nodes F C K fg cg kg} {i : ℕ} (s : Span) (op : BinaryOp) (l r : ExprId) (b : Bool)
      → Stood ns i (n.Bin s op l r) → i < count ns → is_logical_op op ≡ true → b ≡ is_nullish (tree_at ns l.0)
      → b ≡ not (left_ok (tree_at ns i))
  left-nullish {ns} {i} s op l r b t lt h e =
      let p = both_true (stood-parts t lt) in
      let f = fitting (seat_at ns) 0 (expr_part l) p.0 in
      let w = chain-bound (seat_at ns) (suc l.0) (one_expr r) i p.1 in
      let same : seat_before i ns l.0 ≡ seat_at ns l.0 = before-same i ns l.0 (omega arith) (omega arith) in
      let whole : left_ok (tree_at ns i) ≡ logical_ok op (seat_before i ns l.0).tree =
      ap (λ v. left_ok v.tree) t.stands in
      let left : logical_ok op (seat_before i ns l.0).tree ≡ not (is_nullish (tree_at ns l.0)) =
      ap (λ v. not (v && is_nullish (seat_before i ns l.0).tree)) h ∙ ap (λ v. not (is_nullish v.tree)) same in
      e ∙ sym (ap not (whole ∙ left) ∙ not_not (is_nullish (tree_at ns l.0)))

  -- ---- numbers keep what they stand for

  pub first-later : {ns ms : Nodes F C K fg cg kg} {k : ℕ} {p : Part} → Grows ns ms → From k ns p
      → first_at ms p.at ≡ first_at ns p.at
  first-later {p = p} g f = ap (λ s. s.first) (seat-later p.at g f.within)

  pub first_kept : {ns ms : Nodes F C K fg cg kg} {k : ℕ} {p : Part} → Grows ns ms → From k ns p →
      first_at ns p.at ≤ first_at ms p.at
  first_kept {ns} {ms} {k} {p} g f = let e = first-later g f in omega arith

  pub tree-later : {ns ms : Nodes F C K fg cg kg} {k : ℕ} {p : Part} → Grows ns ms → From k ns p
      → tree_at ms p.at ≡ tree_at ns p.at
  tree-later {p = p} g f = ap (λ s. s.tree) (seat-later p.at g f.within)

  pub from-later : {ns ms : Nodes F C K fg cg kg} {k : ℕ} {p : Part} → Grows ns ms → From k ns p → From k ms p
  from-later {ns} {ms} {k} {p} g f =
      let e : first_at ms p.at ≡ first_at ns p.at = first-later g f in
      let l = grows-count g in let w = f.within in let a = f.above in let b = f.first in
      record {
        within = omega arith;
        above = omega arith;
        first = omega arith;
        view =
            ap (λ s. view_ok p.view s.form) (seat-later p.at g f.within) ∙ f.view;
      }

  -- ---- a node is made

  pub added-made : {ns ms : Nodes F C K fg cg kg} {i : ℕ} (v : View) (x : Node F C K) → view_ok v (form x) ≡ true
      → Apart 0 ns (slots x) → Added ns ms i x →
      Made (floor (seat_at ns) (count ns) (slots x)) ms (record { at = i; view = v })
      (marked_tree fg.place cg.place kg.place (λ j. (seat_at ns j).tree) x)
  added-made {ns} {ms} {i} v x k a d =
      let n = d.number in let w = d.counted in
      let first : first_at ms i ≡ floor (seat_at ns) (count ns) (slots x) =
      ap (λ s. s.first) d.stands ∙ ap (λ m. floor (seat_at ns) m (slots x)) n in
      let u = floor-under (seat_at ns) 0 (slots x) (count ns) a.chained in
      record {
        from = record {
          within = omega arith;
          above = omega arith;
          first = omega arith;
          view =
              ap (λ s. view_ok v s.form) d.stands ∙ k;
        };
        stands = ap (λ s. s.tree) d.stands;
      }
