-- A settled pattern goes on from any nodes; and what is due of a node, as it was.
use Rattle.std.proofs.Common.{◌≡◌, ℕ, suc, ◌+◌, ◌<◌, ◌≤◌, true, List, [], ◌∷◌, ◌++◌, map, length, take, drop, refl, sym, ap, subst, ◌∙◌, arith, append_assoc, length-append}
use Rattle.std.proofs.lemmas.List.{get_or_past, length-take-le, map-append, take-append-drop}
use Rattle.swc_context.specs.declared.span.Span.{Span}
use Rattle.swc_ast.specs.Tree.{Tree}
use Rattle.swc_nodes.specs.NodeParts.{Part, slots, view_ok}
use Rattle.swc_nodes.specs.NumberedTrees.{Seat, chain, floor, found, no_seat, ordered, seats_after}
use Rattle.swc_nodes.specs.Onward.{turned_parts, Met, Promise}
use Rattle.swc_nodes.specs.Roles.{Due, dues_of, keep, part_of_due}
use Rattle.swc_nodes.specs.Settled.{seat_in, tree_in, IsSettled}
use Rattle.swc_nodes.specs.Turning.{node_at}
use Rattle.swc_nodes.specs.{Recasting.turned, declared.node.Node.Node, declared.turning.Settled.Settled}
use Rattle.swc_nodes.proofs.Chains.{both_true, Fitting, chain-bound, chain-both, chain-first, chain-second, chain-one, chain-same, floor-both}
use Rattle.swc_nodes.proofs.DuesApart.{dues-apart}
use Rattle.swc_nodes.proofs.Onward.{became-both, became-same, floor-same, seat-front, seat-here}
use Rattle.swc_nodes.proofs.OneNode.{parts-split, parts-whole, seat-split, seat-taken}
use Rattle.swc_nodes.proofs.Settling.{Above, Over, chain-raise, over}
use Rattle.swc_nodes.proofs.Standing.{after_append, after_length, ordered_back, ordered_both, ordered_front}

module _ {F C K : Type 0} (fun_at : F → Span) (class_at : C → Span) (block_at : K → Span) where
  abbrev after : List (Node F C K) → List (Seat F C K)
  after = seats_after fun_at class_at block_at []

  abbrev at_of : List (Node F C K) → ℕ → Seat F C K
  at_of = seat_in fun_at class_at block_at

  abbrev trees_of : List (Node F C K) → ℕ → Tree F C K
  trees_of = tree_in fun_at class_at block_at

  abbrev in_order : List (Node F C K) → Type 0
  in_order ys = ordered fun_at class_at block_at [] ys ≡ true

  above-of : (k : ℕ) (ws ms : List (Node F C K)) →
      ((j : ℕ) → length ws ≤ j → j < length ws + length ms → k ≤ (at_of (ws ++ ms) j).first) →
      Above fun_at class_at block_at k (after ws) ms
  above-of k ws [] h = tt
  above-of k ws (x ∷ ms) h =
      let l = after_length fun_at class_at block_at [] ws in
      let e : length ws ≡ length (after ws) = omega arith in
      let here = h (length ws) (omega arith) (omega arith) in
      let first : (at_of (ws ++ x ∷ ms) (length ws)).first ≡ floor (at_of ws) (length (after ws)) (slots x) =
      ap (λ s. s.first) (seat-here fun_at class_at block_at ws ms x (length ws) refl)
      ∙ ap (λ m. floor (at_of ws) m (slots x)) e in
      let lx = length-append ws (x ∷ []) in (
        omega arith,
        subst (λ v. Above fun_at class_at block_at k v ms) (after_append fun_at class_at block_at [] ws (x ∷ []))
            (above-of k (ws ++ x ∷ []) ms (λ j lo hi.
            let a = h j (omega arith) (omega arith) in
            let same : (at_of ((ws ++ x ∷ []) ++ ms) j).first ≡ (at_of (ws ++ x ∷ ms) j).first =
            ap (λ v. (at_of v j).first) (append_assoc ws (x ∷ []) ms) in
            omega arith)),
      )

  module _ (xs : List (Node F C K)) (o : ordered fun_at class_at block_at [] xs ≡ true) where
    abbrev parts : List Due → List Part
    parts = turned_parts xs

    -- ---- a settled pattern

    module _ (b : Settled) (lt : b.last < length xs) (s : IsSettled (seat_in fun_at class_at block_at xs) b) where
      abbrev ws : List (Node F C K)
      ws = take (suc b.last) xs

      abbrev front : List (Node F C K)
      front = take b.first ws

      abbrev pub range_nodes : List (Node F C K)
      range_nodes = drop b.first ws

      joined : front ++ range_nodes ≡ ws
      joined = take-append-drop b.first ws

      long-ws : length ws ≡ suc b.last
      long-ws = length-take-le (suc b.last) xs (omega arith)

      long-front : length front ≡ b.first
      long-front = let l = long-ws in let w = s.order in length-take-le b.first ws (omega arith)

      long-range : b.first + length range_nodes ≡ suc b.last
      long-range =
          let l = long-ws in
          let f = long-front in
          let j = ap length joined in
          let a = length-append front range_nodes in
          omega arith

      ordered-ws : in_order (front ++ range_nodes)
      ordered-ws =
          ap (ordered fun_at class_at block_at []) joined
          ∙ ordered_front fun_at class_at block_at [] ws (drop (suc b.last) xs)
          (ap (ordered fun_at class_at block_at []) (take-append-drop (suc b.last) xs) ∙ o)

      range-above : Above fun_at class_at block_at b.first (after front) range_nodes
      range-above =
          let l = long-front in
          let r = long-range in
          above-of b.first front range_nodes (λ j lo hi.
          let a = s.above j (omega arith) (omega arith) in
          let same : (at_of (front ++ range_nodes) j).first ≡ (at_of xs j).first =
          ap (λ v. (at_of v j).first) joined
          ∙ ap (λ z. z.first) (seat-taken fun_at class_at block_at xs o (suc b.last) j (omega arith) (omega arith)) in
          omega arith)

      module _ (zs : List (Node F C K)) (l : length zs ≡ b.first)
          (oz : ordered fun_at class_at block_at [] zs ≡ true) where
        long-after : length (after zs) ≡ length (after front)
        long-after =
            let f = long-front in
            let a = after_length fun_at class_at block_at [] zs in
            let c = after_length fun_at class_at block_at [] front in
            omega arith

        range-over : Over fun_at class_at block_at b.first (after front) (after zs) range_nodes
        range-over =
            let f = long-front in
            let a = after_length fun_at class_at block_at [] zs in
            let c = after_length fun_at class_at block_at [] front in
            over fun_at class_at block_at b.first (after front) (after zs) range_nodes long-after
            (λ i le. get_or_past (after front) i no_seat (omega arith) ∙ sym
            (get_or_past (after zs) i no_seat (omega arith)))
            (ordered_back fun_at class_at block_at [] front range_nodes ordered-ws) range-above

        range-seat : (t : ℕ) → b.first ≤ t → t < suc b.last → at_of xs t ≡ at_of (zs ++ range_nodes) t
        range-seat t lo hi =
            sym (seat-taken fun_at class_at block_at xs o (suc b.last) t (omega arith) hi)
            ∙ ap (λ v. at_of v t) (sym joined)
            ∙ ap (λ v. found v t) (after_append fun_at class_at block_at [] front range_nodes)
            ∙ (range-over).same t lo
            ∙ sym (ap (λ v. found v t) (after_append fun_at class_at block_at [] zs range_nodes))

      module _ (p : Part) (e : p.at ≡ b.last) (v : view_ok p.view
          (seat_in fun_at class_at block_at xs p.at).form ≡ true) where
        abbrev q : Due
        q = keep p

        kept-met : (qs : List Due) (k : ℕ) (zs : List (Node F C K)) → length zs ≡ b.first → in_order zs →
            chain (at_of zs) k (parts qs) b.first ≡ true →
            Met fun_at class_at block_at xs k zs (zs ++ range_nodes) b.first qs (suc b.last) (qs ++ q ∷ []) []
        kept-met qs k zs l oz c =
            let us = zs ++ range_nodes in
            let w = s.order in
            let split : parts (qs ++ q ∷ []) ≡ parts qs ++ p ∷ [] = map-append (turned (node_at xs)) qs (q ∷ []) in
            let same : (t : ℕ) → t < b.first → at_of zs t ≡ at_of us t =
            λ t less. seat-front fun_at class_at block_at zs range_nodes t (omega arith) in
            let here : at_of xs p.at ≡ at_of us p.at = range-seat zs l oz p.at (omega arith) (omega arith) in
            let first : (at_of us p.at).first ≡ b.first =
            ap (λ z. z.first) (sym here) ∙ ap (λ i. (at_of xs i).first) e ∙ s.first in
            let fit : Fitting (at_of us) b.first p =
            record {
              above = omega arith;
              first = omega arith;
              view =
                  ap (λ z. view_ok p.view z.form) (sym here) ∙ v;
            } in
            let last = chain-one (at_of us) b.first p (suc b.last) fit (omega arith) in
            let moved = chain-same (at_of zs) (at_of us) k (parts qs) b.first same c in
            let bound = chain-bound (at_of zs) k (parts qs) b.first c in
            record {
              order = ordered_both fun_at class_at block_at [] zs range_nodes oz ((range-over zs l oz).order);
              apart = ap (λ u. chain (at_of us) k u (suc b.last)) split
                  ∙ chain-both (at_of us) k b.first (parts qs) (p ∷ []) (suc b.last) moved last;
              lowest = ap (floor (at_of us) (suc b.last)) split
                  ∙ floor-both (at_of us) (parts qs) (p ∷ []) (suc b.last)
                  ∙ ap (λ u. floor (at_of us) u (parts qs)) first
                  ∙ sym (floor-same (at_of zs) (at_of us) b.first k b.first (parts qs) same c);
              above = λ t lo hi.
                  let a = s.above t lo (omega arith) in
                  let f : (at_of xs t).first ≡ (at_of us t).first = ap (λ z. z.first) (range-seat zs l oz t lo hi) in
                  omega arith;
              ranges = omega arith;
            }

        pub promise-kept : (qs : List Due) →
            Promise fun_at class_at block_at xs b.first qs range_nodes (suc b.last) (qs ++ q ∷ []) []
        promise-kept qs =
            let w = s.order in
            record {
              long = long-range;
              meets = λ k zs l oz c. kept-met qs k zs l oz c;
              became = λ S law k zs l oz c g.
                  let us = zs ++ range_nodes in
                  let same : (t : ℕ) → t < b.first → at_of zs t ≡ at_of us t =
                  λ t less. seat-front fun_at class_at block_at zs range_nodes t (omega arith) in
                  became-both fun_at class_at block_at S (node_at xs) (trees_of xs) (trees_of us) qs (q ∷ [])
                  (became-same fun_at class_at block_at S (node_at xs) (trees_of xs) (at_of zs)
                  (at_of us) k b.first qs same c g)
                  (ap (λ z. z.tree) (sym (range-seat zs l oz p.at (omega arith) (omega arith))), tt);
            }

    -- ---- what is due of a node, as it was

    pub pending-next : (qs : List Due) (q : Due) (k hi : ℕ) → hi ≤ length xs →
        chain (at_of xs) k (map part_of_due (qs ++ q ∷ [])) hi ≡ true →
        chain (at_of xs) k (map part_of_due (qs ++ dues_of q.role (node_at xs q.part.at))) q.part.at ≡ true
    pending-next qs q k hi le c =
        let x = node_at xs q.part.at in
        let split = map-append part_of_due qs (q ∷ []) in
        let d : chain (at_of xs) k (map part_of_due qs ++ q.part ∷ []) hi ≡ true =
        ap (λ v. chain (at_of xs) k v hi) (sym split) ∙ c in
        let front = chain-first (at_of xs) k (map part_of_due qs) (q.part ∷ []) hi d in
        let back = both_true (chain-second (at_of xs) k (map part_of_due qs) (q.part ∷ []) hi d) in
        let less = chain-bound (at_of xs) (suc q.part.at) [] hi back.1 in
        let own = parts-whole fun_at class_at block_at xs o q.part.at (omega arith) in
        let first : (at_of xs q.part.at).first ≡ floor (at_of xs) q.part.at (slots x) =
        ap (λ s. s.first) (seat-split fun_at class_at block_at xs o q.part.at (omega arith))
        ∙ floor-same (at_of (take q.part.at xs)) (at_of xs) q.part.at 0 q.part.at (slots x)
        (λ t l. seat-taken fun_at class_at block_at xs o q.part.at t (omega arith) l)
        (parts-split fun_at class_at block_at xs o q.part.at (omega arith)) in
        let raised = chain-raise (at_of xs) (at_of xs q.part.at).first (slots x) q.part.at own (omega arith) in
        let dues = dues-apart (at_of xs) q.part.at q.role x (at_of xs q.part.at).first raised in
        ap (λ v. chain (at_of xs) k v q.part.at) (map-append part_of_due qs (dues_of q.role x))
        ∙ chain-both (at_of xs) k (at_of xs q.part.at).first (map part_of_due qs) (map part_of_due (dues_of q.role x))
        q.part.at front dues
