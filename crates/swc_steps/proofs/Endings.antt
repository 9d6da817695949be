-- Where what was read begins and ends: it holds nothing that was refused, so that its place says it.
use Rattle.std.proofs.Common.{◌≡◌, ℕ, suc, Bool, true, false, ◌&&◌, List, [], ◌∷◌, ◌++◌, Option, Some, None, map, length, ◌≤◌, refl, sym, ap, subst, ◌∙◌, arith}
use Rattle.std.specs.Prelude.{slice_index_or}
use Rattle.swc_context.specs.{Spans.from_to, declared.span.BytePos.BytePos, declared.span.Span.Span}
use Rattle.swc_input.specs.declared.token.TokenAndSpan.{TokenAndSpan}
use Rattle.swc_ast.specs.Tree.{Tree, node, trees, invalid, span_of}
use Rattle.swc_ast.specs.Trees.{is_valid, are_valid, ends_in_invalid, begins_in_invalid, unary_e, update_e, bin_e, cond_e, last_place, seq_e, seq_of}
use Rattle.swc_ast.specs.{Parts.item_of, Parts.item_tree, declared.expr.ExprOrSpread.ExprOrSpread, declared.spanned.Spanned.Ghosts}
use Rattle.swc_bodies.specs.Readings.{Hook, LawfulHook}
use Rattle.swc_grammar.specs.{Clean.run, Clean.sym as at, Scope.Scope, Symbols.Symbol}
use Rattle.swc_grammar.proofs.{Good.valid, Sound.sound}
use Rattle.swc_nodes.specs.NodeParts.{Part, flat, one_expr, expr_part}
use Rattle.swc_nodes.specs.GrowingNodes.{seat_at, start_at, end_at, first_start, last_end, Apart, From, Grows}
use Rattle.swc_nodes.specs.{Lists.seq_between, NumberedTrees.fits, declared.node.ExprId.ExprId, declared.nodes.Nodes.Nodes}
use Rattle.swc_nodes.proofs.Edges.{start-clean, end-clean, start-later}
use Rattle.swc_nodes.proofs.{Chains.both_true, Chains.true_both, Held.from-apart, Held.tree-later}
use Rattle.swc_steps.specs.{Readers.begun_if, Parsing.tree_of}

-- ---- a tree that holds nothing that was refused neither begins nor ends in such a place

module _ {F C K : Type 0} where
  pub valid-begins : (t : Tree F C K) → is_valid t ≡ true → begins_in_invalid t ≡ false
  valid-begins (node invalid s ts) h = cc
  valid-begins (bin_e s op l r) h = valid-begins l (both_true {b = is_valid r && true} h).0
  valid-begins t h = refl

  pub valid-ends : (t : Tree F C K) → is_valid t ≡ true → ends_in_invalid t ≡ false
  valid-ends (node invalid s ts) h = cc
  valid-ends (unary_e s op e) h = valid-ends e (both_true {b = true} h).0
  valid-ends (update_e s op true e) h = valid-ends e (both_true {b = true} h).0
  valid-ends (bin_e s op l r) h = valid-ends r (both_true {b = true} (both_true {a = is_valid l} h).1).0
  valid-ends (cond_e s test e a) h =
      valid-ends a (both_true {b = true} (both_true {a = is_valid e} (both_true {a = is_valid test} h).1).1).0
  valid-ends t h = refl

module _ {F C K : Type 0} {fg : Ghosts F} {cg : Ghosts C} {kg : Ghosts K} (hook : Hook F C K)
    (lawful : LawfulHook fg.place cg.place kg.place hook) where
  -- what is read at a symbol
  pub read-valid : (s : Symbol) (x : Scope) (ts us : List TokenAndSpan) (t : Tree F C K)
      → run hook (at s) x ts ≡ Some (t, us) →
      is_valid t ≡ true
  read-valid s x ts us t h = valid (sound hook lawful s x ts (t, us) h)

  pub begun : {ns : Nodes F C K fg cg kg} {k : ℕ} (e : ExprId) (s : Symbol) (x : Scope) (ts us : List TokenAndSpan) →
      From k ns (expr_part e) → run hook (at s) x ts ≡ Some (tree_of ns e, us)
      → start_at ns e.0 ≡ (span_of (tree_of ns e)).lo
  begun {ns} e s x ts us f h = start-clean f (valid-begins (tree_of ns e) (read-valid s x ts us (tree_of ns e) h))

  pub ended : {ns : Nodes F C K fg cg kg} {k : ℕ} (e : ExprId) (s : Symbol) (x : Scope) (ts us : List TokenAndSpan) →
      From k ns (expr_part e) → run hook (at s) x ts ≡ Some (tree_of ns e, us)
      → end_at ns e.0 ≡ (span_of (tree_of ns e)).hi
  ended {ns} e s x ts us f h = end-clean f (valid-ends (tree_of ns e) (read-valid s x ts us (tree_of ns e) h))

-- ---- expressions one after another

-- the first of a list, where one more is put after it
pub head-more : {X : Type 0} (xs : List X) (x d : X) → 1 ≤ length xs
    → slice_index_or (xs ++ x ∷ []) 0 d ≡ slice_index_or xs 0 d
head-more [] x d le = absurd (omega arith)
head-more (y ∷ ys) x d le = refl

module _ {F C K : Type 0} {fg : Ghosts F} {cg : Ghosts C} {kg : Ghosts K} where
  behind : {ns : Nodes F C K fg cg kg} {k : ℕ} (p : Part) (ps : List Part) → Apart k ns (p ∷ ps)
      → Apart (suc p.at) ns ps
  behind {ns} {k} p ps a = record { chained = (both_true {a = fits (seat_at ns) k p} a.chained).1 }

  last-clean : {ns : Nodes F C K fg cg kg} {k : ℕ} (y : ExprId) (ys : List ExprId)
      → Apart k ns (flat one_expr (y ∷ ys)) →
      are_valid (trees (map (tree_of ns) (y ∷ ys))) ≡ true →
      last_end ns (y ∷ ys) ≡ (last_place (span_of (tree_of ns y)) (trees (map (tree_of ns) ys))).hi
  last-clean {ns} y [] a v = end-clean (from-apart (expr_part y) [] a)
      (valid-ends (tree_of ns y) (both_true {b = true} v).0)
  last-clean {ns} y (z ∷ zs) a v =
      last-clean z zs (behind (expr_part y) (flat one_expr (z ∷ zs)) a) (both_true {a = is_valid (tree_of ns y)} v).1

  -- where all of them hold nothing that was refused
  pub seq-clean : {ns : Nodes F C K fg cg kg} {k : ℕ} (xs : List ExprId) → Apart k ns (flat one_expr xs) →
      are_valid (trees (map (tree_of ns) xs)) ≡ true →
      seq_of (trees (map (tree_of ns) xs)) ≡ seq_between (first_start ns xs) (last_end ns xs)
      (trees (map (tree_of ns) xs))
  seq-clean [] a v = refl
  seq-clean (x ∷ []) a v = refl
  seq-clean {ns} (x ∷ y ∷ ys) a v =
      let ts = trees (map (tree_of ns) (x ∷ y ∷ ys)) in
      let b = both_true {a = is_valid (tree_of ns x)} v in
      let first = start-clean (from-apart (expr_part x) (flat one_expr (y ∷ ys)) a) (valid-begins (tree_of ns x) b.0) in
      let last = last-clean y ys (behind (expr_part x) (flat one_expr (y ∷ ys)) a) b.1 in
      sym (ap (λ p. seq_e (from_to p (last_end ns (y ∷ ys))) ts) first
      ∙ ap (λ p. seq_e (from_to (span_of (tree_of ns x)).lo p) ts) last)

  -- after others comes one that holds nothing that was refused
  last-behind : (ns : Nodes F C K fg cg kg) (s : Span) (zs : List ExprId) (e : ExprId) →
      last_place s (trees (map (tree_of ns) (zs ++ e ∷ []))) ≡ span_of (tree_of ns e)
  last-behind ns s [] e = refl
  last-behind ns s (z ∷ zs) e = last-behind ns (span_of (tree_of ns z)) zs e

  end-behind : (ns : Nodes F C K fg cg kg) (z : ExprId) (zs : List ExprId) (e : ExprId)
      → last_end ns (z ∷ zs ++ e ∷ []) ≡ end_at ns e.0
  end-behind ns z [] e = refl
  end-behind ns z (w ∷ ws) e = end-behind ns w ws e

  seq-behind : (ns : Nodes F C K fg cg kg) (x : ExprId) (zs : List ExprId) (e : ExprId) →
      end_at ns e.0 ≡ (span_of (tree_of ns e)).hi →
      seq_of (trees (map (tree_of ns) (x ∷ zs ++ e ∷ [])))
      ≡ seq_between (span_of (tree_of ns x)).lo (last_end ns (x ∷ zs ++ e ∷ []))
      (trees (map (tree_of ns) (x ∷ zs ++ e ∷ [])))
  seq-behind ns x [] e h =
      ap (λ p. seq_e (from_to (span_of (tree_of ns x)).lo p) (trees (map (tree_of ns) (x ∷ e ∷ [])))) (sym h)
  seq-behind ns x (z ∷ zs) e h =
      let ts = trees (map (tree_of ns) (x ∷ z ∷ zs ++ e ∷ [])) in
      let last = ap (λ p. p.hi) (last-behind ns (span_of (tree_of ns z)) zs e) ∙ sym h ∙ sym (end-behind ns z zs e) in
      ap (λ p. seq_e (from_to (span_of (tree_of ns x)).lo p) ts) last

  begun-behind : (ns : Nodes F C K fg cg kg) (x : ExprId) (zs : List ExprId) (e : ExprId) (b : Bool)
      (lo from hi : BytePos) →
      (b ≡ false → lo ≡ from) →
      begun_if b lo (seq_between from hi (trees (map (tree_of ns) (x ∷ zs ++ e ∷ []))))
      ≡ seq_between lo hi (trees (map (tree_of ns) (x ∷ zs ++ e ∷ [])))
  begun-behind ns x [] e true lo from hi h = refl
  begun-behind ns x (z ∷ zs) e true lo from hi h = refl
  begun-behind ns x zs e false lo from hi h =
      ap (λ p. seq_between p hi (trees (map (tree_of ns) (x ∷ zs ++ e ∷ [])))) (sym (h refl))

  -- a sequence that was read after its first expression, of which the last holds nothing that was refused
  pub seq-read : (old ns : Nodes F C K fg cg kg) (first e : ExprId) (before xs : List ExprId) → Grows old ns →
      From 0 old (expr_part first) → 1 ≤ length before → slice_index_or before 0 first ≡ first → xs ≡ before ++ e ∷ [] →
      end_at ns e.0 ≡ (span_of (tree_of ns e)).hi →
      seq_of (trees (map (tree_of ns) xs))
      ≡ seq_between (span_of (tree_of old first)).lo (last_end ns xs) (trees (map (tree_of ns) xs))
  seq-read old ns first e [] xs g f le head added h = absurd (omega arith)
  seq-read old ns first e (x ∷ zs) xs g f le head added h =
      let Same : List ExprId → Type 0 = λ ys. seq_of (trees (map (tree_of ns) ys))
      ≡ seq_between (span_of (tree_of old first)).lo (last_end ns ys) (trees (map (tree_of ns) ys)) in
      let ys = x ∷ zs ++ e ∷ [] in
      let at = ap (λ v. (span_of (tree_of ns v)).lo) head ∙ ap (λ t. (span_of t).lo) (tree-later g f) in
      subst Same (sym added)
      (seq-behind ns x zs e h ∙ ap (λ p. seq_between p (last_end ns ys) (trees (map (tree_of ns) ys))) at)

  pub seq-begun : (old ns : Nodes F C K fg cg kg) (first e : ExprId) (before xs : List ExprId) → Grows old ns →
      From 0 old (expr_part first) → 1 ≤ length before → slice_index_or before 0 first ≡ first → xs ≡ before ++ e ∷ [] →
      begun_if (begins_in_invalid (tree_of old first)) (start_at old first.0)
      (seq_between (span_of (tree_of old first)).lo (last_end ns xs) (trees (map (tree_of ns) xs)))
      ≡ seq_between (first_start ns xs) (last_end ns xs) (trees (map (tree_of ns) xs))
  seq-begun old ns first e [] xs g f le head added = absurd (omega arith)
  seq-begun old ns first e (x ∷ zs) xs g f le head added =
      let b = begins_in_invalid (tree_of old first) in
      let lo = start_at old first.0 in
      let from = (span_of (tree_of old first)).lo in
      let Same : List ExprId → Type 0 = λ ys. begun_if b lo
      (seq_between from (last_end ns ys) (trees (map (tree_of ns) ys)))
      ≡ seq_between (first_start ns ys) (last_end ns ys) (trees (map (tree_of ns) ys)) in
      let ys = x ∷ zs ++ e ∷ [] in
      let at = sym (ap (λ v. start_at ns v.0) head ∙ start-later g f) in
      subst Same (sym added)
      (begun-behind ns x zs e b lo from (last_end ns ys) (λ h. start-clean f h)
      ∙ ap (λ p. seq_between p (last_end ns ys) (trees (map (tree_of ns) ys))) at)

-- ---- what the items of a list hold

module _ {F C K : Type 0} where
  item-valid : (s : Option Span) (t : Tree F C K) → is_valid (item_of s t) ≡ true → is_valid t ≡ true
  item-valid None t h = (both_true {b = true} h).0
  item-valid (Some d) t h = (both_true {b = true} h).0

  held-valid : (by : ExprId → Tree F C K) (xs : List (ExprOrSpread ExprId))
      → are_valid (trees (map (item_tree by) xs)) ≡ true →
      are_valid (trees (map by (map (λ x. x.expr) xs))) ≡ true
  held-valid by [] h = refl
  held-valid by (x ∷ xs) h =
      let b = both_true {a = is_valid (item_tree by x)} h in
      true_both (item-valid x.spread (by x.expr) b.0) (held-valid by xs b.1)
