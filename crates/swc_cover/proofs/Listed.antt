-- Items that become parameters: each becomes a pattern, and a spread that is the last a rest.
use Rattle.std.proofs.Common.{◌≡◌, ℕ, suc, ◌≤◌, true, List, [], ◌∷◌, ◌++◌, map, length, get_or, ◌+◌, ◌-◌, zero, Option, Some, None, refl, sym, ap, subst, ◌∙◌, arith}
use Rattle.std.proofs.{lemmas.Grind.get_or_tail, lemmas.List.append-nil, lemmas.List.map-append}
use Rattle.swc_context.specs.{declared.operator.AssignOp.AssignOp as op, declared.span.Span.Span}
use Rattle.swc_ast.specs.Parts.{leaf, item_of, item_tree}
use Rattle.swc_ast.specs.Tree.{Tree, node, Trees, nil, cons, trees, array, rest, dots, span_of}
use Rattle.swc_ast.specs.{declared.expr.ExprOrSpread.ExprOrSpread, declared.spanned.Spanned.Ghosts}
use Rattle.swc_cover.specs.Wanted as wanted
use Rattle.swc_cover.specs.Wanted.{pat_elems, want, want_parts}
use Rattle.swc_cover.specs.Items.{item_due, listed, dotted, last_rest, want_items, AllMade}
use Rattle.swc_cover.specs.{Moving.KeptTo, Roles.sought, declared.items.Dotted.Dotted}
use Rattle.swc_cover.proofs.{Dressed.law-sought, Fitting.flat-both, Kept.kept-to}
use Rattle.swc_nodes.proofs.Chains.{both_true, true_both, fitting, chain-bound, chain-down, chain-first, chain-second, chain-both, chain-same}
use Rattle.swc_nodes.proofs.{Held.added-made, Held.apart-from, Held.from-apart, Settling.chain-raise, Standing.seat-later}
use Rattle.swc_nodes.specs.NumberedTrees.{Seat, floor, chain}
use Rattle.swc_nodes.specs.NodeParts.{Part, pat, flat, one_pat, item_parts, expr_part, pat_part}
use Rattle.swc_nodes.specs.GrowingNodes.{count, seat_at, tree_at, first_at, Apart, From, Grows, Added}
use Rattle.swc_nodes.specs.Roles.{Due, bound_as, held_view, part_of_due, suit}
use Rattle.swc_nodes.specs.Turning.{AllTurned, Became, KeptBelow, Turned, became, node_at}
use Rattle.swc_nodes.specs.{Recasting.turned, declared.node.ExprId.ExprId, declared.node.PatId.PatId, declared.node.Node.Node, declared.node.Node.Node as n, declared.nodes.Nodes.Nodes, declared.role.Role.Role, declared.role.Role.Role as role}

-- ---- what is due of the items

abbrev pub item_dues : List (ExprOrSpread ExprId) → List Due
item_dues xs = map (item_due role.Bind) xs

item-parts : (xs : List (ExprOrSpread ExprId)) → map part_of_due (item_dues xs) ≡ flat item_parts xs
item-parts [] = refl
item-parts (x ∷ xs) = ap (λ v. expr_part x.expr ∷ v) (item-parts xs)

items-suit : (xs : List (ExprOrSpread ExprId)) → suit (item_dues xs) ≡ true
items-suit [] = refl
items-suit (x ∷ xs) = items-suit xs

roots-parts : (xs : List (ExprOrSpread ExprId)) (ds : List Due) → ds ≡ item_dues xs →
    map part_of_due ds ≡ flat item_parts xs
roots-parts xs ds e = ap (map part_of_due) e ∙ item-parts xs

pub roots-suit : (xs : List (ExprOrSpread ExprId)) (ds : List Due) → ds ≡ item_dues xs → suit ds ≡ true
roots-suit xs ds e = ap suit e ∙ items-suit xs

-- a pattern that binds is held by no other
pub bound-view : {F C K : Type 0} (x : Node F C K) → held_view (bound_as x) ≡ pat
bound-view (n.Ident i) = refl
bound-view (n.Array s elems c) = refl
bound-view (n.Object s props c) = refl
bound-view (n.Assign s op.Assign l r) = refl
bound-view (n.Assign s o l r) = refl
bound-view x = refl

bound-became : {F C K : Type 0} (S : Role → Tree F C K → Tree F C K) (x : Node F C K) (t : Tree F C K) →
    became S (bound_as x) role.Bind t ≡ S role.Bind t
bound-became S (n.Ident i) t = refl
bound-became S (n.Array s elems c) t = refl
bound-became S (n.Object s props c) t = refl
bound-became S (n.Assign s op.Assign l r) t = refl
bound-became S (n.Assign s o l r) t = refl
bound-became S x t = refl

-- the pattern of an item has its number
abbrev pub as_pat : ExprOrSpread ExprId → Part
as_pat x = record { at = x.expr.0; view = pat }

module _ {F C K : Type 0} where
  views : (at : ℕ → Node F C K) (xs : List (ExprOrSpread ExprId)) → map (turned at) (item_dues xs) ≡ map as_pat xs
  views at [] = refl
  views at (x ∷ xs) =
      ap (λ v. record { at = x.expr.0; view = v } ∷ map (turned at) (item_dues xs)) (bound-view (at x.expr.0))
      ∙ ap (λ v. as_pat x ∷ v) (views at xs)

  item-bound : (o : Option Span) (s t : Tree F C K) (us vs : Trees F C K) → s ≡ want wanted.Bind t →
      us ≡ want_parts wanted.Array wanted.Bind array vs →
      cons (item_of o s) us ≡ want_parts wanted.Array wanted.Bind array (cons (item_of o t) vs)
  item-bound None s t us vs e f = ap (λ v. cons (item_of None v) us) e ∙ ap (cons (item_of None (want wanted.Bind t))) f
  item-bound (Some d) s t us vs e f =
      ap (λ v. cons (item_of (Some d) v) us) e ∙ ap (cons (item_of (Some d) (want wanted.Bind t))) f

  items-bound : (fun_at : F → Span) (class_at : C → Span) (block_at : K → Span) (at : ℕ → Node F C K)
      (old now : ℕ → Tree F C K) (xs : List (ExprOrSpread ExprId)) →
      Became fun_at class_at block_at sought at old now (item_dues xs) →
      trees (map (item_tree (λ (e : ExprId). now e.0)) xs)
      ≡ want_parts wanted.Array wanted.Bind array (trees (map (item_tree (λ (e : ExprId). old e.0)) xs))
  items-bound fun_at class_at block_at at old now [] h = refl
  items-bound fun_at class_at block_at at old now (x ∷ xs) h =
      item-bound x.spread (now x.expr.0) (old x.expr.0) _ _
      (h.0 ∙ bound-became sought (at x.expr.0) (old x.expr.0)) (items-bound fun_at class_at block_at at old now xs h.1)

module _ {F C K : Type 0} {fg : Ghosts F} {cg : Ghosts C} {kg : Ghosts K} where
  pub roots-apart : {ns : Nodes F C K fg cg kg} {k : ℕ} (xs : List (ExprOrSpread ExprId)) (ds : List Due) →
      ds ≡ item_dues xs → Apart k ns (flat item_parts xs) → Apart k ns (map part_of_due ds)
  roots-apart {ns} {k} xs ds e a = subst (λ v. Apart k ns v) (sym (roots-parts xs ds e)) a

  abbrev pub lowest : Nodes F C K fg cg kg → List (ExprOrSpread ExprId) → ℕ
  lowest ns xs = floor (seat_at ns) (count ns) (flat item_parts xs)

  -- they lie apart from the smallest number on that is reached from them
  raised : {ns : Nodes F C K fg cg kg} (xs : List (ExprOrSpread ExprId)) (ds : List Due) → ds ≡ item_dues xs →
      Apart 0 ns (flat item_parts xs) → Apart (lowest ns xs) ns (map part_of_due ds)
  raised {ns} xs ds e a = roots-apart xs ds e (record {
    chained = chain-raise (seat_at ns) (lowest ns xs) (flat item_parts xs) (count ns) a.chained (omega arith);
  })

  pub roots-kept : {ns ms : Nodes F C K fg cg kg} (xs : List (ExprOrSpread ExprId)) (ds : List Due) →
      ds ≡ item_dues xs → Apart 0 ns (flat item_parts xs) →
      ((k : ℕ) → Apart k ns (map part_of_due ds) → KeptBelow k ns ms) → KeptTo (lowest ns xs) ns ms
  roots-kept {ns} xs ds e a h = kept-to (h (lowest ns xs) (raised xs ds e a))

  -- each item became the pattern that it is to
  pub record ItemsBound (old now : Nodes F C K fg cg kg) (k : ℕ) (xs : List (ExprOrSpread ExprId)) : Type 0 where
    pub apart : chain (seat_at now) k (map as_pat xs) (count now) ≡ true
    pub stands : trees (map (item_tree (λ (e : ExprId). tree_at now e.0)) xs)
        ≡ want_parts wanted.Array wanted.Bind array (trees (map (item_tree (λ (e : ExprId). tree_at old e.0)) xs))

  pub roots-bound : {ns ms : Nodes F C K fg cg kg} (xs : List (ExprOrSpread ExprId)) (ds : List Due) →
      ds ≡ item_dues xs → Apart 0 ns (flat item_parts xs) →
      ((k : ℕ) → Apart k ns (map part_of_due ds) → AllTurned k ns ds ms) → ItemsBound ns ms (lowest ns xs) xs
  roots-bound {ns} {ms} xs ds e a h =
      let k = lowest ns xs in
      let at = node_at ns.nodes.items in
      let t : Turned sought k ns (item_dues xs) ms =
      subst (λ v. Turned sought k ns v ms) e (h k (raised xs ds e a) sought (law-sought fg.place cg.place kg.place)) in
      record {
        apart = ap (λ v. chain (seat_at ms) k v (count ms)) (sym (views at xs)) ∙ t.apart.chained;
        stands = items-bound fg.place cg.place kg.place at (tree_at ns) (tree_at ms) xs t.stands;
      }

-- ---- their trees

module _ {F C K : Type 0} where
  -- trees before others
  abbrev before : List (Tree F C K) → Trees F C K → Trees F C K
  before [] us = us
  before (t ∷ ts) us = cons t (before ts us)

  before-nil : (ts : List (Tree F C K)) → before ts nil ≡ trees ts
  before-nil [] = refl
  before-nil (t ∷ ts) = ap (cons t) (before-nil ts)

  -- what a spread that is the last becomes
  abbrev rest_trees : (ℕ → Tree F C K) → Option Dotted → Trees F C K
  rest_trees at None = nil
  rest_trees at (Some z) = cons (node rest (span_of (at z.held.0)) (cons (leaf dots z.dots) (cons (at z.held.0) nil)))
      nil

  module _ (now : ℕ → Tree F C K) where
    abbrev pats_at : List PatId → List (Tree F C K)
    pats_at ps = map (λ (p : PatId). now p.0) ps

    one-item : (o : Option Span) (e : ExprId) → pat_elems (cons (item_of o (now e.0)) nil) ≡ before
        (pats_at (listed (record { spread = o; expr = e }))) (rest_trees now (dotted o e))
    one-item None e = refl
    one-item (Some d) e = refl

    more-items : (o : Option Span) (e : ExprId) (t : Tree F C K) (ts us : Trees F C K) (ps : List PatId) →
        pat_elems (cons t ts) ≡ before (pats_at ps) us →
        pat_elems (cons (item_of o (now e.0)) (cons t ts)) ≡ before
        (pats_at (listed (record { spread = o; expr = e }) ++ ps)) us
    more-items None e t ts us ps h = ap (cons (now e.0)) h
    more-items (Some d) e t ts us ps h = h

    items-stand : (xs : List (ExprOrSpread ExprId)) → pat_elems
        (trees (map (item_tree (λ (e : ExprId). now e.0)) xs)) ≡ before (pats_at (flat listed xs))
        (rest_trees now (last_rest xs))
    items-stand [] = refl
    items-stand (x ∷ []) = one-item x.spread x.expr
        ∙ ap (λ v. before (pats_at v) (rest_trees now (dotted x.spread x.expr))) (sym (append-nil (listed x)))
    items-stand (x ∷ y ∷ xs) = more-items x.spread x.expr _ _ (rest_trees now (last_rest (y ∷ xs)))
        (flat listed (y ∷ xs)) (items-stand (y ∷ xs))

-- ---- where they lie

abbrev rest_parts : Option Dotted → List Part
rest_parts None = []
rest_parts (Some z) = record { at = z.held.0; view = pat } ∷ []

abbrev pats_parts : List PatId → List Part
pats_parts ps = flat one_pat ps

module _ {F C K : Type 0} (at : ℕ → Seat F C K) where
  one-lies : (lo hi : ℕ) (o : Option Span) (e : ExprId) → chain at lo (record { at = e.0; view = pat } ∷ []) hi ≡ true →
      chain at lo (pats_parts (listed (record { spread = o; expr = e }) ++ []) ++ rest_parts (dotted o e)) hi ≡ true
  one-lies lo hi None e h = h
  one-lies lo hi (Some d) e h = h

  more-lie : (lo hi : ℕ) (o : Option Span) (e : ExprId) (ps : List PatId) (us qs : List Part) →
      chain at lo (record { at = e.0; view = pat } ∷ us) hi ≡ true →
      ((k : ℕ) → chain at k us hi ≡ true → chain at k (pats_parts ps ++ qs) hi ≡ true) →
      chain at lo (pats_parts (listed (record { spread = o; expr = e }) ++ ps) ++ qs) hi ≡ true
  more-lie lo hi None e ps us qs h f = let b = both_true h in true_both b.0 (f (suc e.0) b.1)
  more-lie lo hi (Some d) e ps us qs h f =
      let b = both_true h in
      let w = fitting at lo (record { at = e.0; view = pat }) b.0 in
      let a = w.above in let c = w.first in
      chain-down at (suc e.0) lo (pats_parts ps ++ qs) hi (omega arith) (f (suc e.0) b.1)

  items-lie : (hi : ℕ) (xs : List (ExprOrSpread ExprId)) (lo : ℕ) → chain at lo (map as_pat xs) hi ≡ true →
      chain at lo (pats_parts (flat listed xs) ++ rest_parts (last_rest xs)) hi ≡ true
  items-lie hi [] lo h = h
  items-lie hi (x ∷ []) lo h = one-lies lo hi x.spread x.expr h
  items-lie hi (x ∷ y ∷ xs) lo h =
      more-lie lo hi x.spread x.expr (flat listed (y ∷ xs)) (map as_pat (y ∷ xs))
      (rest_parts (last_rest (y ∷ xs))) h (items-lie hi (y ∷ xs))

-- ---- the parameters

module _ {F C K : Type 0} {fg : Ghosts F} {cg : Ghosts C} {kg : Ghosts K} where
  -- what the items are to become, by what they became
  items-are : {old now : Nodes F C K fg cg kg} {k : ℕ} (xs : List (ExprOrSpread ExprId)) → ItemsBound old now k xs →
      before (pats_at (tree_at now) (flat listed xs)) (rest_trees (tree_at now) (last_rest xs)) ≡
      want_items (trees (map (item_tree (λ (e : ExprId). tree_at old e.0)) xs))
  items-are {old} {now} {k} xs m = sym (items-stand (tree_at now) xs) ∙ ap pat_elems m.stands

  items-apart : {old now : Nodes F C K fg cg kg} {k : ℕ} (xs : List (ExprOrSpread ExprId)) → ItemsBound old now k xs →
      chain (seat_at now) k (pats_parts (flat listed xs) ++ rest_parts (last_rest xs)) (count now) ≡ true
  items-apart {old} {now} {k} xs m = items-lie (seat_at now) (count now) xs k m.apart

  -- no spread is the last
  pub items-made : {old now : Nodes F C K fg cg kg} {k : ℕ} {ps : List PatId} (xs : List (ExprOrSpread ExprId)) →
      ItemsBound old now k xs → ps ≡ flat listed xs → None ≡ last_rest xs →
      AllMade k now ps (want_items (trees (map (item_tree (λ (e : ExprId). tree_at old e.0)) xs)))
  items-made {old} {now} {k} {ps} xs own p r =
      let here : AllMade k now (flat listed xs) (want_items
      (trees (map (item_tree (λ (e : ExprId). tree_at old e.0)) xs))) = record {
        apart = record {
          chained =
              ap (λ v. chain (seat_at now) k v (count now)) (sym (append-nil (pats_parts (flat listed xs))))
              ∙ ap (λ v. chain (seat_at now) k (pats_parts (flat listed xs) ++ rest_parts v) (count now)) r
              ∙ items-apart xs own;
        };
        stands =
            sym (before-nil (pats_at (tree_at now) (flat listed xs)))
            ∙ ap (λ v. before (pats_at (tree_at now) (flat listed xs)) (rest_trees (tree_at now) v)) r
            ∙ items-are xs own;
      } in
      subst (λ v. AllMade k now v (want_items (trees (map (item_tree (λ (e : ExprId). tree_at old e.0)) xs)))) (sym p)
      here

  -- trees stay as nodes are appended
  pats-later : {ns ms : Nodes F C K fg cg kg} (lo hi : ℕ) (ps : List PatId) (t : Tree F C K) → Grows ns ms →
      hi ≤ count ns → chain (seat_at ns) lo (pats_parts ps) hi ≡ true →
      trees (map (λ (p : PatId). tree_at ms p.0) ps ++ t ∷ []) ≡ before (map (λ (p : PatId). tree_at ns p.0) ps)
      (cons t nil)
  pats-later lo hi [] t g le h = refl
  pats-later {ns} {ms} lo hi (p ∷ ps) t g le h =
      let b = both_true h in
      let w = chain-bound (seat_at ns) (suc p.0) (pats_parts ps) hi b.1 in
      let same = ap (λ s. s.tree) (seat-later p.0 g (omega arith)) in
      ap (λ v. cons v (trees (map (λ (q : PatId). tree_at ms q.0) ps ++ t ∷ []))) same
      ∙ ap (cons (tree_at ns p.0)) (pats-later (suc p.0) hi ps t g le b.1)

  -- where the rest's pattern is
  pub held-item : {old now : Nodes F C K fg cg kg} {k : ℕ} (xs : List (ExprOrSpread ExprId)) (z : Dotted) →
      ItemsBound old now k xs → Some z ≡ last_rest xs → From 0 now (record { at = z.held.0; view = pat })
  held-item {old} {now} {k} xs z own r =
      let c : chain (seat_at now) k (pats_parts (flat listed xs) ++ rest_parts (Some z)) (count now) ≡ true =
      ap (λ v. chain (seat_at now) k (pats_parts (flat listed xs) ++ rest_parts v) (count now)) r
      ∙ items-apart xs own in
      let s = chain-second (seat_at now) k (pats_parts (flat listed xs)) (rest_parts (Some z)) (count now) c in
      from-apart (record { at = z.held.0; view = pat }) [] (record { chained = s })

  -- a rest is the last
  pub rest-made : {old mid now : Nodes F C K fg cg kg} {k id : ℕ} {ps qs : List PatId}
      (xs : List (ExprOrSpread ExprId)) (z : Dotted) (s : Span) → ItemsBound old mid k xs →
      qs ≡ flat listed xs → Some z ≡ last_rest xs → s ≡ span_of (tree_at mid z.held.0) →
      Grows mid now → Added mid now id (n.PatRest s z.dots (record { 0 = z.held.0 })) →
      ps ≡ qs ++ record { 0 = id } ∷ [] →
      AllMade k now ps (want_items (trees (map (item_tree (λ (e : ExprId). tree_at old e.0)) xs)))
  rest-made {old} {mid} {now} {k} {id} {ps} {qs} xs z s own q r span g a p =
      let front = flat listed xs in
      let last : Part = record { at = z.held.0; view = pat } in
      let c : chain (seat_at mid) k (pats_parts front ++ last ∷ []) (count mid) ≡ true =
      ap (λ v. chain (seat_at mid) k (pats_parts front ++ rest_parts v) (count mid)) r ∙ items-apart xs own in
      let f = held-item xs z own r in
      let y : Node F C K = n.PatRest s z.dots (record { 0 = z.held.0 }) in
      let middle = first_at mid z.held.0 in
      let firsts : chain (seat_at mid) k (pats_parts front) middle ≡ true = chain-first (seat_at mid) k
      (pats_parts front) (last ∷ []) (count mid) c in
      let within = f.within in
      let first = f.first in
      let m = added-made pat y refl (apart-from last f) a in
      let kept_front : chain (seat_at now) k (pats_parts front) middle ≡ true =
      chain-same (seat_at mid) (seat_at now) k (pats_parts front) middle (λ j h. sym (seat-later j g (omega arith)))
      firsts in
      let rest_there = apart-from (record { at = id; view = pat }) m.from in
      let tree : tree_at now id ≡ node rest (span_of (tree_at mid z.held.0))
      (cons (leaf dots z.dots) (cons (tree_at mid z.held.0) nil)) =
      m.stands ∙ ap (λ v. node rest v (cons (leaf dots z.dots) (cons (tree_at mid z.held.0) nil))) span in
      let whole : AllMade k now (front ++ record { 0 = id } ∷ [])
      (want_items (trees (map (item_tree (λ (e : ExprId). tree_at old e.0)) xs))) = record {
        apart = record {
          chained =
              ap (λ v. chain (seat_at now) k v (count now)) (flat-both one_pat front (record { 0 = id } ∷ []))
              ∙ chain-both (seat_at now) k middle (pats_parts front) (pat_part (record { 0 = id }) ∷ []) (count now)
              kept_front rest_there.chained;
        };
        stands =
            ap trees (map-append (λ (v : PatId). tree_at now v.0) front (record { 0 = id } ∷ []))
            ∙ pats-later k middle front (tree_at now id) g (omega arith) firsts
            ∙ ap (λ v. before (pats_at (tree_at mid) front) (cons v nil)) tree
            ∙ ap (λ v. before (pats_at (tree_at mid) front) (rest_trees (tree_at mid) v)) r
            ∙ items-are xs own;
      } in
      subst (λ v. AllMade k now v (want_items (trees (map (item_tree (λ (e : ExprId). tree_at old e.0)) xs))))
      (sym (p ∙ ap (λ v. v ++ record { 0 = id } ∷ []) q)) whole

-- ---- the last item

pub last-is : (xs : List (ExprOrSpread ExprId)) (x : ExprOrSpread ExprId) (i : ℕ) → i + 1 ≡ length xs →
    x ≡ get_or xs i x → dotted x.spread x.expr ≡ last_rest xs
last-is [] x i h e = absurd (omega arith)
last-is (y ∷ []) x zero h e = ap (λ v. dotted v.spread v.expr) e
last-is (y ∷ []) x (suc i) h e = absurd (omega arith)
last-is (y ∷ z ∷ zs) x zero h e = absurd (omega arith)
last-is (y ∷ z ∷ zs) x (suc i) h e =
    let before : suc i - 1 ≡ i = omega arith in
    last-is (z ∷ zs) x i (omega arith) (e ∙ get_or_tail y (z ∷ zs) (suc i) x (omega arith) ∙ ap
    (λ j. get_or (z ∷ zs) j x) before)

pub no-last : (xs : List (ExprOrSpread ExprId)) → length xs ≡ 0 → None ≡ last_rest xs
no-last [] e = refl
no-last (x ∷ xs) e = absurd (omega arith)

pub last-none : (xs : List (ExprOrSpread ExprId)) (x : ExprOrSpread ExprId) (i : ℕ) → i + 1 ≡ length xs →
    x ≡ get_or xs i x → x.spread ≡ None → None ≡ last_rest xs
last-none xs x i h e n = ap (λ v. dotted v x.expr) (sym n) ∙ last-is xs x i h e

pub last-some : (xs : List (ExprOrSpread ExprId)) (x : ExprOrSpread ExprId) (i : ℕ) (d : Span) → i + 1 ≡ length xs →
    x ≡ get_or xs i x → x.spread ≡ Some d → Some (record { dots = d; held = x.expr }) ≡ last_rest xs
last-some xs x i d h e n = ap (λ v. dotted v x.expr) (sym n) ∙ last-is xs x i h e
