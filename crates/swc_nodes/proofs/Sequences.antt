-- Expressions with commas between them: one alone, or a sequence from the first to the last.
use Rattle.std.proofs.Common.{◌≡◌, ℕ, zero, suc, ◌-◌, ◌≤◌, ◌<◌, List, [], ◌∷◌, map, Option, Some, None, length, Result, Ok, Err, IfOk, refl, sym, ap, subst, ◌∙◌, arith}
use Rattle.std.specs.{Prelude.slice_index_or, declared.alloc.Global.Global, declared.vec.Vec.Vec}
use Rattle.swc_context.specs.{Spans.from_to, declared.span.BytePos.BytePos, declared.span.Span.Span}
use Rattle.swc_ast.specs.Parts.{item_of, item_tree, item_trees}
use Rattle.swc_ast.specs.Tree.{Tree, node, cons, trees, seq}
use Rattle.swc_ast.specs.{Trees.held_expr, Trees.held_exprs, declared.expr.ExprOrSpread.ExprOrSpread, declared.spanned.Spanned.Ghosts}
use Rattle.swc_nodes.specs.Lists.{exprs_parts, expr_trees, seq_between}
use Rattle.swc_nodes.specs.NodeParts.{expr, flat, one_expr, item_parts, args_parts, expr_part}
use Rattle.swc_nodes.specs.GrowingNodes.{count, seat_at, tree_at, start_at, end_at, first_start, last_end, Apart, From, Added, Made}
use Rattle.swc_nodes.specs.{NumberedTrees.fits, NumberedTrees.chain, declared.node.ExprId.ExprId, declared.node.Node.Node as n, declared.nodes.Nodes.Nodes}
use Rattle.swc_nodes.proofs.{Chains.both_true, Held.from-apart, Held.from-down, Lists.list-made}

-- ---- the tree of a sequence

module _ {F C K : Type 0} (at : ExprId → Tree F C K) where
  seq-is : (lo hi : BytePos) (xs : List ExprId) → 2 ≤ length xs →
      node seq (from_to lo hi) (trees (map at xs)) ≡ seq_between lo hi (trees (map at xs))
  seq-is lo hi [] le = absurd (omega arith)
  seq-is lo hi (a ∷ []) le = absurd (omega arith)
  seq-is lo hi (a ∷ b ∷ bs) le = refl

-- ---- what the items of a list hold

held-one : {F C K : Type 0} (s : Option Span) (t : Tree F C K) → held_expr (item_of s t) ≡ t
held-one None t = refl
held-one (Some s) t = refl

pub held-trees : {F C K : Type 0} (at : ExprId → Tree F C K) (xs : List (ExprOrSpread ExprId)) →
    trees (map at (map (λ x. x.expr) xs)) ≡ held_exprs (trees (map (item_tree at) xs))
held-trees at [] = refl
held-trees at (x ∷ xs) =
    ap (λ ts. cons (at x.expr) ts) (held-trees at xs)
    ∙ ap (λ t. cons t (held_exprs (trees (map (item_tree at) xs)))) (sym (held-one x.spread (at x.expr)))

pub held-parts : (xs : List (ExprOrSpread ExprId)) → flat one_expr (map (λ x. x.expr) xs) ≡ flat item_parts xs
held-parts [] = refl
held-parts (x ∷ xs) = ap (λ ps. expr_part x.expr ∷ ps) (held-parts xs)

module _ {F C K : Type 0} {fg : Ghosts F} {cg : Ghosts C} {kg : Ghosts K} where
  -- each of expressions that lie apart is one of the nodes
  pub from-nth : {ns : Nodes F C K fg cg kg} (k : ℕ) (xs : List ExprId) (j : ℕ) (x : ExprId) → j < length xs →
      x ≡ slice_index_or xs j x → Apart k ns (flat one_expr xs) → From k ns (expr_part x)
  from-nth k [] j x lt e a = absurd (omega arith)
  from-nth {ns} k (y ∷ ys) zero x lt e a =
      subst (λ v. From k ns (expr_part v)) (sym e) (from-apart (expr_part y) (flat one_expr ys) a)
  from-nth {ns} k (y ∷ ys) (suc j) x lt e a =
      let b = both_true {a = fits (seat_at ns) k (expr_part y)} a.chained in
      let f = from-apart (expr_part y) (flat one_expr ys) a in
      let u = f.above in let v = f.first in
      from-down (omega arith) (from-nth (suc y.0) ys j x (omega arith) e (record { chained = b.1 }))

  -- where the first one begins, and where the last one ends
  pub first-is : (ns : Nodes F C K fg cg kg) (xs : List ExprId) (x : ExprId) → 1 ≤ length xs
      → x ≡ slice_index_or xs 0 x →
      start_at ns x.0 ≡ first_start ns xs
  first-is ns [] x le e = absurd (omega arith)
  first-is ns (y ∷ ys) x le e = ap (λ v. start_at ns v.0) e

  last-behind : (ns : Nodes F C K fg cg kg) (y : ExprId) (ys : List ExprId) (x : ExprId) →
      x ≡ slice_index_or (y ∷ ys) (length ys) x → end_at ns x.0 ≡ last_end ns (y ∷ ys)
  last-behind ns y [] x e = ap (λ v. end_at ns v.0) e
  last-behind ns y (z ∷ zs) x e = last-behind ns z zs x e

  pub last-is : (ns : Nodes F C K fg cg kg) (xs : List ExprId) (x : ExprId) → 1 ≤ length xs →
      x ≡ slice_index_or xs (length xs - 1) x → end_at ns x.0 ≡ last_end ns xs
  last-is ns [] x le e = absurd (omega arith)
  last-is ns (y ∷ ys) x le e =
      let k : length (y ∷ ys) - 1 ≡ length ys = omega arith in
      last-behind ns y ys x (e ∙ ap (λ j. slice_index_or (y ∷ ys) j x) k)

  pub seq-made : {ns ms : Nodes F C K fg cg kg} {i : ℕ} (s : Span) (es : Vec ExprId Global) →
      s ≡ from_to (first_start ns es.items) (last_end ns es.items) → 2 ≤ length es.items →
      Apart 0 ns (exprs_parts es) → Added ns ms i (n.Seq s es) → (k : ℕ) → Apart k ns (exprs_parts es) →
      Made k ms (record { at = i; view = expr })
      (seq_between (first_start ns es.items) (last_end ns es.items) (expr_trees (tree_at ns) es))
  seq-made {ns} s es place le parts d k from =
      let made = list-made (n.Seq s es) refl parts d k from in
      let at : ExprId → Tree F C K = λ e. tree_at ns e.0 in
      record {
        from = made.from;
        stands = made.stands ∙ ap (λ v. node seq v (trees (map at es.items))) place
            ∙ seq-is at (first_start ns es.items) (last_end ns es.items) es.items le;
      }

  -- what items hold lies apart as the items do, and what is made of it is made of them
  pub held-apart : {ns : Nodes F C K fg cg kg} {k : ℕ} (es : Vec ExprId Global)
      (items : Vec (ExprOrSpread ExprId) Global) →
      es.items ≡ map (λ x. x.expr) items.items → Apart k ns (args_parts items) → Apart k ns (exprs_parts es)
  held-apart {ns} {k} es items e a =
      let same = ap (flat one_expr) e ∙ held-parts items.items in
      record { chained = ap (λ v. chain (seat_at ns) k v (count ns)) same ∙ a.chained }

  pub held-made : {E : Type 0} (ns ms : Nodes F C K fg cg kg) (r : Result ExprId E) (es : Vec ExprId Global)
      (items : Vec (ExprOrSpread ExprId) Global) → es.items ≡ map (λ x. x.expr) items.items →
      IfOk r (λ id. (k : ℕ) → Apart k ns (exprs_parts es) → Made k ms (expr_part id)
      (seq_between (first_start ns es.items) (last_end ns es.items) (expr_trees (tree_at ns) es))) →
      IfOk r (λ id. (k : ℕ) → Apart k ns (args_parts items) → Made k ms (expr_part id)
      (seq_between (first_start ns (map (λ x. x.expr) items.items)) (last_end ns (map (λ x. x.expr) items.items))
      (held_exprs (item_trees (λ e. tree_at ns e.0) items.items))))
  held-made ns ms (Ok id) es items e made =
      λ k a.
      let m = made k (held-apart es items e a) in
      let at : ExprId → Tree F C K = λ x. tree_at ns x.0 in
      let xs = map (λ (x : ExprOrSpread ExprId). x.expr) items.items in
      record {
        from = m.from;
        stands = m.stands ∙ ap (λ v. seq_between (first_start ns v) (last_end ns v) (trees (map at v))) e
            ∙ ap (seq_between (first_start ns xs) (last_end ns xs)) (held-trees at items.items);
      }
  held-made ns ms (Err x) es items e made = tt
