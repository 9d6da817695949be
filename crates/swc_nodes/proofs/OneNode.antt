-- One node that became what it is to goes on from any nodes in which its parts did.
use Rattle.std.proofs.Common.{◌≡◌, ℕ, suc, ◌+◌, ◌<◌, ◌≤◌, true, List, [], ◌∷◌, ◌++◌, length, take, drop, sym, ap, ◌∙◌, arith}
use Rattle.std.proofs.lemmas.List.{get_or_default, get_or-take, length-take-le, map-append, take-append-drop}
use Rattle.swc_context.specs.declared.span.Span.{Span}
use Rattle.swc_ast.specs.Parts.{no_tree}
use Rattle.swc_ast.specs.Tree.{Tree, span_of}
use Rattle.swc_nodes.specs.NodeParts.{Part, View, one_expr, expr, form, slots, view_ok}
use Rattle.swc_nodes.specs.NodeTree.{marked_tree}
use Rattle.swc_nodes.specs.NumberedTrees.{Seat, chain, floor, ordered, seat}
use Rattle.swc_nodes.specs.Onward.{turned_parts, Met, Promise}
use Rattle.swc_nodes.specs.Recasting.{turned}
use Rattle.swc_nodes.specs.Roles.{Due, becomes_as, dues_of, suits}
use Rattle.swc_nodes.specs.Settled.{seat_in, tree_in}
use Rattle.swc_nodes.specs.Turning.{bare_tree, kind_of, no_node, node_at, own_place, became, IsRecast, OfKind, PartsIn, RecastIn}
use Rattle.swc_nodes.specs.{declared.node.Node.Node, declared.node.Node.Node as n, declared.role.Role.Role}
use Rattle.swc_nodes.proofs.Along.{Same, node-along}
use Rattle.swc_nodes.proofs.Becoming.{form-is, kind-alone, place-alone, recast-alike, slots-are, Alike, HeldPlace, SamePlace}
use Rattle.swc_nodes.proofs.Chains.{both_true, Fitting, fitting, chain-bound, chain-both, chain-first, chain-second, chain-one, chain-same, floor-both, floor-under}
use Rattle.swc_nodes.proofs.DuesApart.{suit-ready}
use Rattle.swc_nodes.proofs.Onward.{became-both, became-first, became-same, became-second, floor-same, ordered-more, seat-front, seat-here}
use Rattle.swc_nodes.proofs.Standing.{chain_between, seat_between, split_at}

module _ {F C K : Type 0} where
  -- the same nodes below a number
  pub node-below : (ws xs : List (Node F C K)) (i t : ℕ) → take i ws ≡ take i xs → t < i → node_at ws t ≡ node_at xs t
  node-below ws xs i t e lt =
      sym (get_or-take i ws t no_node lt) ∙ ap (λ v. node_at v t) e ∙ get_or-take i xs t no_node lt

module _ {F C K : Type 0} (fun_at : F → Span) (class_at : C → Span) (block_at : K → Span) (xs : List (Node F C K))
    (o : ordered fun_at class_at block_at [] xs ≡ true) where
  abbrev at_of : List (Node F C K) → ℕ → Seat F C K
  at_of = seat_in fun_at class_at block_at

  abbrev trees_of : List (Node F C K) → ℕ → Tree F C K
  trees_of = tree_in fun_at class_at block_at

  abbrev in_order : List (Node F C K) → Type 0
  in_order ys = ordered fun_at class_at block_at [] ys ≡ true

  -- ---- the nodes as they were

  whole : (i : ℕ) → i < length xs → (xs ≡ take i xs ++ node_at xs i ∷ drop (i + 1) xs) × (length (take i xs) ≡ i)
  whole i lt = split_at xs i (node_at xs i) lt (get_or_default xs i no_node (node_at xs i) lt)

  pub seat-split : (i : ℕ) → i < length xs →
      at_of xs i ≡ seat fun_at class_at block_at (at_of (take i xs)) i (node_at xs i)
  seat-split i lt =
      let w = whole i lt in
      seat_between fun_at class_at block_at (take i xs) (drop (i + 1) xs) xs (node_at xs i) i w.0 w.1

  pub parts-split : (i : ℕ) → i < length xs → chain (at_of (take i xs)) 0 (slots (node_at xs i)) i ≡ true
  parts-split i lt =
      let w = whole i lt in
      chain_between fun_at class_at block_at (take i xs) (drop (i + 1) xs) xs (node_at xs i) i w.0 w.1 o

  pub seat-taken : (i t : ℕ) → i ≤ length xs → t < i → at_of (take i xs) t ≡ at_of xs t
  seat-taken i t le lt =
      let l = length-take-le i xs le in
      seat-front fun_at class_at block_at (take i xs) (drop i xs) t (omega arith)
      ∙ ap (λ v. at_of v t) (take-append-drop i xs)

  pub parts-whole : (i : ℕ) → i < length xs → chain (at_of xs) 0 (slots (node_at xs i)) i ≡ true
  parts-whole i lt =
      chain-same (at_of (take i xs)) (at_of xs) 0 (slots (node_at xs i)) i (λ t l. seat-taken i t (omega arith) l)
      (parts-split i lt)

  -- the form of a number is its node's, and so are the kind of its tree, and the place of an expression
  pub form-at : (t : ℕ) → t < length xs → (at_of xs t).form ≡ form (node_at xs t)
  form-at t lt = ap (λ s. s.form) (seat-split t lt)

  kind-at : (t : ℕ) → t < length xs →
      kind_of (trees_of xs t) ≡ kind_of (marked_tree fun_at class_at block_at (λ j. no_tree) (node_at xs t))
  kind-at t lt =
      ap (λ s. kind_of s.tree) (seat-split t lt)
      ∙ kind-alone fun_at class_at block_at (trees_of (take t xs)) (λ j. no_tree) (node_at xs t)

  no-held : (f g : ℕ → Tree F C K) (x : Node F C K) → view_ok expr (form x) ≡ true
      → HeldPlace fun_at class_at block_at f g x
  no-held f g (n.PatExpr e) h = absurd cc
  no-held f g x h = tt

  place-at : (t : ℕ) → t < length xs → view_ok expr (form (node_at xs t)) ≡ true →
      span_of (marked_tree fun_at class_at block_at (λ j. no_tree) (node_at xs t)) ≡ span_of (trees_of xs t)
  place-at t lt h =
      sym (ap (λ s. span_of s.tree) (seat-split t lt)
      ∙ place-alone fun_at class_at block_at (trees_of (take t xs)) (λ j. no_tree) (node_at xs t)
      (no-held (trees_of (take t xs)) (λ j. no_tree) (node_at xs t) h))

  kinds-of : (lo : ℕ) (ps : List Part) (hi : ℕ) → hi ≤ length xs → chain (at_of xs) lo ps hi ≡ true →
      OfKind fun_at class_at block_at (node_at xs) (trees_of xs) ps
  kinds-of lo [] hi le c = tt
  kinds-of lo (p ∷ ps) hi le c =
      let b = both_true c in
      let w = chain-bound (at_of xs) (suc p.at) ps hi b.1 in
      let f = fitting (at_of xs) lo p b.0 in (
        (kind-at p.at (omega arith), ap (view_ok p.view) (sym (form-at p.at (omega arith))) ∙ f.view),
        kinds-of (suc p.at) ps hi le b.1,
      )

  -- the parts of a node are among the nodes below it
  pub parts-in : (lo : ℕ) (ps : List Part) (hi : ℕ) → hi ≤ length xs → chain (at_of xs) lo ps hi ≡ true →
      PartsIn (take hi xs) ps
  parts-in lo [] hi le c = tt
  parts-in lo (p ∷ ps) hi le c =
      let b = both_true c in
      let w = chain-bound (at_of xs) (suc p.at) ps hi b.1 in
      let f = fitting (at_of xs) lo p b.0 in
      let l = length-take-le hi xs le in (
        (
          omega arith,
          ap (λ x. view_ok p.view (form x)) (get_or-take hi xs p.at no_node (omega arith))
              ∙ ap (view_ok p.view) (sym (form-at p.at (omega arith))) ∙ f.view,
        ),
        parts-in (suc p.at) ps hi le b.1,
      )

  same-place : (ws : List (Node F C K)) (v : View) (t : ℕ) → t < length xs → node_at ws t ≡ node_at xs t →
      view_ok v (form (node_at xs t)) ≡ true →
      SamePlace (node_at ws) (node_at xs) (λ i. span_of (bare_tree fun_at class_at block_at ws i))
      (λ i. span_of (trees_of xs i)) v t
  same-place ws expr t lt e h =
      ap (λ x. span_of (marked_tree fun_at class_at block_at (λ j. no_tree) x)) e ∙ place-at t lt h
  same-place ws v t lt e h = tt

  -- among nodes that are the same below a number
  alike-below : (ws : List (Node F C K)) (i : ℕ) → take i ws ≡ take i xs → i ≤ length xs → (lo : ℕ) (ps : List Part) →
      chain (at_of xs) lo ps i ≡ true →
      Alike (node_at ws) (node_at xs) (λ t. span_of (bare_tree fun_at class_at block_at ws t))
      (λ t. span_of (trees_of xs t)) ps
  alike-below ws i e le lo [] c = tt
  alike-below ws i e le lo (p ∷ ps) c =
      let b = both_true c in
      let w = chain-bound (at_of xs) (suc p.at) ps i b.1 in
      let f = fitting (at_of xs) lo p b.0 in
      let same = node-below ws xs i p.at e (omega arith) in (
        same,
        same-place ws p.view p.at (omega arith) same (ap (view_ok p.view) (sym (form-at p.at (omega arith))) ∙ f.view),
        alike-below ws i e le (suc p.at) ps b.1,
      )

  held-below : (ws : List (Node F C K)) (i : ℕ) → take i ws ≡ take i xs → i ≤ length xs → (x : Node F C K) →
      chain (at_of xs) 0 (slots x) i ≡ true →
      HeldPlace fun_at class_at block_at (bare_tree fun_at class_at block_at ws) (trees_of xs) x
  held-below ws i e le (n.PatExpr p) c = (alike-below ws i e le 0 (one_expr p) c).1
  held-below ws i e le x c = tt

  pub recast-below : (ws : List (Node F C K)) (i : ℕ) → take i ws ≡ take i xs → i < length xs → (r : Role)
      (y : Node F C K) → RecastIn fun_at class_at block_at ws (becomes_as r (node_at xs i)) r (node_at xs i) y →
      IsRecast (node_at xs) (λ t. span_of (trees_of xs t)) (own_place fun_at class_at block_at (trees_of xs))
      (becomes_as r (node_at xs i)) r (node_at xs i) y
  recast-below ws i e lt r y h =
      let x = node_at xs i in
      let c = parts-whole i lt in
      recast-alike (node_at ws) (node_at xs) (λ t. span_of (bare_tree fun_at class_at block_at ws t))
      (λ t. span_of (trees_of xs t)) (own_place fun_at class_at block_at (bare_tree fun_at class_at block_at ws))
      (own_place fun_at class_at block_at (trees_of xs)) r x y (alike-below ws i e (omega arith) 0 (slots x) c)
      (place-alone fun_at class_at block_at (bare_tree fun_at class_at block_at ws) (trees_of xs) x
      (held-below ws i e (omega arith) x c)) h

  -- ---- one node

  same-trees : (f g : ℕ → Tree F C K) (ps : List Part) (lo hi : ℕ) → ((t : ℕ) → t < hi → f t ≡ g t) →
      chain (at_of xs) lo ps hi ≡ true → Same f g ps
  same-trees f g [] lo hi same c = tt
  same-trees f g (p ∷ ps) lo hi same c =
      let b = both_true c in
      let w = chain-bound (at_of xs) (suc p.at) ps hi b.1 in
      (same p.at (omega arith), same-trees f g ps (suc p.at) hi same b.1)

  -- the tree of a number, by those of the nodes before it
  tree-split : (i : ℕ) → i < length xs →
      trees_of xs i ≡ marked_tree fun_at class_at block_at (trees_of xs) (node_at xs i)
  tree-split i lt =
      ap (λ s. s.tree) (seat-split i lt)
      ∙ node-along (trees_of (take i xs)) (trees_of xs) fun_at class_at block_at (node_at xs i)
      (same-trees (trees_of (take i xs)) (trees_of xs) (slots (node_at xs i)) 0 i
      (λ t l. ap (λ s. s.tree) (seat-taken i t (omega arith) l)) (parts-whole i lt))

  module _ (q : Due) (y : Node F C K) (lt : q.part.at < length xs) (u : suits q.role q.part.view ≡ true)
      (v : view_ok q.part.view (form (node_at xs q.part.at)) ≡ true)
      (h : IsRecast (node_at xs) (λ t. span_of (trees_of xs t)) (own_place fun_at class_at block_at (trees_of xs))
      (becomes_as q.role (node_at xs q.part.at)) q.role (node_at xs q.part.at) y) where
    abbrev i : ℕ
    i = q.part.at

    abbrev x : Node F C K
    x = node_at xs q.part.at

    abbrev parts : List Due → List Part
    parts = turned_parts xs

    abbrev due_then : List Due
    due_then = dues_of q.role x

    parts-are : slots y ≡ parts due_then
    parts-are =
        slots-are (node_at xs) (λ t. span_of (trees_of xs t))
        (own_place fun_at class_at block_at (trees_of xs)) q.role x y h

    node-met : (qs : List Due) (k : ℕ) (zs : List (Node F C K)) → length zs ≡ i → in_order zs →
        chain (at_of zs) k (parts (qs ++ due_then)) i ≡ true →
        Met fun_at class_at block_at xs k zs (zs ++ y ∷ []) i (qs ++ due_then) (suc i) (qs ++ q ∷ []) []
    node-met qs k zs l oz c =
        let us = zs ++ y ∷ [] in
        let own = turned (node_at xs) q in
        let split : parts (qs ++ due_then) ≡ parts qs ++ slots y =
        map-append (turned (node_at xs)) qs due_then ∙ ap (λ v. parts qs ++ v) (sym parts-are) in
        let joined : parts (qs ++ q ∷ []) ≡ parts qs ++ own ∷ [] = map-append (turned (node_at xs)) qs (q ∷ []) in
        let d : chain (at_of zs) k (parts qs ++ slots y) i ≡ true = ap (λ v. chain (at_of zs) k v i) (sym split) ∙ c in
        let first = floor (at_of zs) i (slots y) in
        let front = chain-first (at_of zs) k (parts qs) (slots y) i d in
        let back = chain-second (at_of zs) k (parts qs) (slots y) i d in
        let bound = chain-bound (at_of zs) k (parts qs) first front in
        let under = floor-under (at_of zs) 0 (slots y) i back in
        let here = seat-here fun_at class_at block_at zs [] y i l in
        let lowest : (at_of us i).first ≡ first = ap (λ s. s.first) here in
        let same : (t : ℕ) → t < first → at_of zs t ≡ at_of us t =
        λ t less. seat-front fun_at class_at block_at zs (y ∷ []) t (omega arith) in
        let moved = chain-same (at_of zs) (at_of us) k (parts qs) first same front in
        let view = ap (λ s. view_ok own.view s.form) here
        ∙ form-is (node_at xs) (λ t. span_of (trees_of xs t)) (own_place fun_at class_at block_at (trees_of xs))
        q.role q.part.view x y u v h in
        let fit : Fitting (at_of us) first own = record { above = omega arith; first = omega arith; view = view } in
        let last = chain-one (at_of us) first own (suc i) fit (omega arith) in
        record {
          order = ordered-more fun_at class_at block_at zs y i l oz back;
          apart = ap (λ v. chain (at_of us) k v (suc i)) joined
              ∙ chain-both (at_of us) k first (parts qs) (own ∷ []) (suc i) moved last;
          lowest = ap (floor (at_of us) (suc i)) joined
              ∙ floor-both (at_of us) (parts qs) (own ∷ []) (suc i)
              ∙ ap (λ v. floor (at_of us) v (parts qs)) lowest
              ∙ sym (floor-same (at_of zs) (at_of us) first k first (parts qs) same front)
              ∙ sym (floor-both (at_of zs) (parts qs) (slots y) i)
              ∙ ap (floor (at_of zs) i) (sym split);
          above = λ t lo hi.
              let e : t ≡ i = omega arith in
              let f : (at_of us t).first ≡ first = ap (λ v. (at_of us v).first) e ∙ lowest in
              omega arith;
          ranges = omega arith;
        }

    pub promise-node : (qs : List Due) →
        Promise fun_at class_at block_at xs i (qs ++ due_then) (y ∷ []) (suc i) (qs ++ q ∷ []) []
    promise-node qs = record {
      long = omega arith;
      meets = λ k zs l oz c. node-met qs k zs l oz c;
      became = λ S law k zs l oz c g.
          let us = zs ++ y ∷ [] in
          let split : parts (qs ++ due_then) ≡ parts qs ++ parts due_then =
          map-append (turned (node_at xs)) qs due_then in
          let d : chain (at_of zs) k (parts qs ++ parts due_then) i ≡ true =
          ap (λ v. chain (at_of zs) k v i) (sym split) ∙ c in
          let front = chain-first (at_of zs) k (parts qs) (parts due_then) i d in
          let back = chain-second (at_of zs) k (parts qs) (parts due_then) i d in
          let under = floor-under (at_of zs) 0 (parts due_then) i back in
          let same : (t : ℕ) → t < floor (at_of zs) i (parts due_then) → at_of zs t ≡ at_of us t =
          λ t less. seat-front fun_at class_at block_at zs (y ∷ []) t (omega arith) in
          let own = became-second fun_at class_at block_at S (node_at xs) (trees_of xs) (trees_of zs) qs due_then g in
          let now = law.law (node_at xs) (trees_of xs) (trees_of zs) q.role x y
          (suit-ready q.role q.part.view (form x) u v)
          (kinds-of 0 (slots x) i (omega arith) (parts-whole i lt)) h own in
          became-both fun_at class_at block_at S (node_at xs) (trees_of xs) (trees_of us) qs (q ∷ [])
          (became-same fun_at class_at block_at S (node_at xs) (trees_of xs) (at_of zs) (at_of us) k
          (floor (at_of zs) i (parts due_then)) qs same front
          (became-first fun_at class_at block_at S (node_at xs) (trees_of xs) (trees_of zs) qs due_then g)) (
            ap (λ s. s.tree) (seat-here fun_at class_at block_at zs [] y i l) ∙ now
                ∙ ap (λ t. became S (becomes_as q.role x) q.role t) (sym (tree-split i lt)),
            tt,
          );
    }
