-- The loop in which all parts become what they are to, the last first.
use Rattle.std.proofs.Common.{◌≡◌, ℕ, suc, ◌+◌, ◌-◌, ◌<◌, ◌≤◌, true, List, [], ◌∷◌, ◌++◌, map, length, take, drop, reverse, refl, sym, ap, subst, ◌∙◌, arith, length-append}
use Rattle.std.proofs.Math.Seq.{take-length}
use Rattle.std.proofs.lemmas.Bool.{le-leb, leb-true}
use Rattle.std.proofs.lemmas.List.{append-nil, drop_at, length-take-le, map-append, reverse-append, take-append-drop, take-take, take_at}
use Rattle.swc_context.specs.declared.span.Span.{Span}
use Rattle.swc_nodes.specs.NodeParts.{Part}
use Rattle.swc_nodes.specs.NumberedTrees.{Seat, chain, floor, ordered}
use Rattle.swc_nodes.specs.Onward.{cleared, no_nodes, up_to, AllDone, AllKept, AllReady, Met, Promise, RootCut, RootDone, RootReady}
use Rattle.swc_nodes.specs.Recasting.{turned}
use Rattle.swc_nodes.specs.Roles.{Due, becomes_as, part_of_due, suit}
use Rattle.swc_nodes.specs.Settled.{seat_in, tree_in, DroppedFrom, Ranges}
use Rattle.swc_nodes.specs.Turning.{node_at, became}
use Rattle.swc_nodes.specs.{declared.node.Node.Node, declared.turning.Settled.Settled}
use Rattle.swc_nodes.proofs.Becoming.{suit-first, suit-second}
use Rattle.swc_nodes.proofs.Chains.{both_true, fitting, chain-bound, chain-both, chain-first, chain-one, chain-same, chain-second, chain-up}
use Rattle.swc_nodes.proofs.Going.{ranges-dropped, ranges-up}
use Rattle.swc_nodes.proofs.Onward.{promise-beside, promise-leaves, promise-none, promise-then, ranges-same, seat-front}
use Rattle.swc_nodes.proofs.OneNode.{node-below, seat-taken}
use Rattle.swc_nodes.proofs.Settling.{chain-raise}
use Rattle.swc_nodes.proofs.Standing.{ordered_front}

-- ---- parts

module _ {F C K : Type 0} (at : ℕ → Seat F C K) where
  -- the last of parts ends before the number after it
  pub chain-tight : (lo : ℕ) (ps : List Part) (p : Part) (hi : ℕ) → chain at lo (ps ++ p ∷ []) hi ≡ true →
      (chain at lo (ps ++ p ∷ []) (suc p.at) ≡ true) × (p.at < hi)
  chain-tight lo ps p hi c =
      let front = chain-first at lo ps (p ∷ []) hi c in
      let back = both_true (chain-second at lo ps (p ∷ []) hi c) in
      let f = fitting at 0 p back.0 in
      let v = f.first in
      let w = chain-bound at (suc p.at) [] hi back.1 in (
        chain-both at lo (at p.at).first ps (p ∷ []) (suc p.at) front
            (chain-one at (at p.at).first p (suc p.at) (record { above = omega arith; first = f.first; view = f.view })
            (omega arith)),
        omega arith,
      )

  -- the last of parts, by itself
  pub chain-last : (lo : ℕ) (ps : List Part) (p : Part) (hi : ℕ) → chain at lo (ps ++ p ∷ []) hi ≡ true →
      chain at lo (p ∷ []) (suc p.at) ≡ true
  chain-last lo ps p hi c =
      let t = chain-tight lo ps p hi c in
      let front = chain-first at lo ps (p ∷ []) hi c in
      let b = chain-bound at lo ps (at p.at).first front in
      chain-raise at lo (p ∷ []) (suc p.at) (chain-second at lo ps (p ∷ []) (suc p.at) t.0) (omega arith)

module _ {F C K : Type 0} (fun_at : F → Span) (class_at : C → Span) (block_at : K → Span) where
  -- what is promised of one part, over nodes that are the same there
  promise-same : (xs ys : List (Node F C K)) (q : Due) (i : ℕ) (mid : List (Node F C K)) (j : ℕ) (cs : List Settled) →
      node_at xs q.part.at ≡ node_at ys q.part.at →
      tree_in fun_at class_at block_at xs q.part.at ≡ tree_in fun_at class_at block_at ys q.part.at →
      Promise fun_at class_at block_at xs i [] mid j (q ∷ []) cs →
      Promise fun_at class_at block_at ys i [] mid j (q ∷ []) cs
  promise-same xs ys q i mid j cs e t p =
      let same : turned (node_at xs) q ≡ turned (node_at ys) q =
      ap (λ x. turned (λ n. x) q) e in
      record {
        long = p.long;
        meets = λ k zs l o c.
            let a = p.meets k zs l o c in
            record {
              order = a.order;
              apart = subst (λ v. chain (seat_in fun_at class_at block_at (zs ++ mid)) k (v ∷ []) j ≡ true) same
                  a.apart;
              lowest = subst (λ v. floor (seat_in fun_at class_at block_at (zs ++ mid)) j (v ∷ []) ≡ i) same a.lowest;
              above = a.above;
              ranges = a.ranges;
            };
        became = λ S law k zs l o c h.
            let a = p.became S law k zs l o c tt in (
              a.0 ∙ ap (λ x. became S (becomes_as q.role x) q.role (tree_in fun_at class_at block_at xs q.part.at)) e
                  ∙ ap (λ v. became S (becomes_as q.role (node_at ys q.part.at)) q.role v) t,
              tt,
            );
      }

  -- ns are the nodes as they were, `all` what is due
  pub record AllGoing (ns : List (Node F C K)) (all : List Due) (end : ℕ) (ys : List (Node F C K)) (qs : List Due)
      (bs cs : List Settled) : Type 0 where
    pub mid : List (Node F C K)
    pub hi : ℕ
    pub nodes : ys ≡ take end ns ++ mid
    pub within : end ≤ length ns
    pub order : ordered fun_at class_at block_at [] ns ≡ true
    pub whole : chain (seat_in fun_at class_at block_at ns) 0 (map part_of_due all) (length ns) ≡ true
    pub pending : (k : ℕ) → chain (seat_in fun_at class_at block_at ns) k (map part_of_due all) (length ns) ≡ true →
        chain (seat_in fun_at class_at block_at ns) k (map part_of_due qs) end ≡ true
    pub suits : suit qs ≡ true
    pub promise : Promise fun_at class_at block_at ns end qs mid hi all (reverse bs)
    pub ranges : Ranges (seat_in fun_at class_at block_at ns) 0 cs (length ns)

  module _ (ns : List (Node F C K)) (all : List Due) where
    abbrev at_of : ℕ → Seat F C K
    at_of = seat_in fun_at class_at block_at ns

    abbrev going : ℕ → List (Node F C K) → List Due → List Settled → List Settled → Type 0
    going = AllGoing ns all

    pub all-first : (qs : List Due) (q : Due) (ys : List (Node F C K)) (end : ℕ) (cs : List Settled) →
        all ≡ qs ++ q ∷ [] → end ≡ suc q.part.at → ys ≡ take end ns → AllReady fun_at class_at block_at ns all cs →
        going end ys all [] cs
    all-first qs q ys end cs e l t r =
        let split : map part_of_due all ≡ map part_of_due qs ++ q.part ∷ [] =
        ap (map part_of_due) e ∙ map-append part_of_due qs (q ∷ []) in
        let less = (chain-tight at_of 0 (map part_of_due qs) q.part (length ns)
        (ap (λ v. chain at_of 0 v (length ns)) (sym split) ∙ r.apart)).1 in
        record {
          mid = [];
          hi = end;
          nodes = t ∙ sym (append-nil (take end ns));
          within = omega arith;
          order = r.order;
          whole = r.apart;
          pending = λ k g. ap (λ v. chain at_of k v end) split
              ∙ ap (chain at_of k (map part_of_due qs ++ q.part ∷ [])) l
              ∙ (chain-tight at_of k (map part_of_due qs) q.part (length ns)
              (ap (λ v. chain at_of k v (length ns)) (sym split) ∙ g)).0;
          suits = r.suits;
          promise = promise-none fun_at class_at block_at ns end all;
          ranges = r.ranges;
        }

    module _ (end : ℕ) (ys : List (Node F C K)) (qs : List Due) (q : Due) (bs cs ds : List Settled)
        (w : AllGoing ns all end ys (qs ++ q ∷ []) bs cs)
        (d : DroppedFrom (q.part.at + 1) cs ds) where
      abbrev i : ℕ
      i = q.part.at

      pending-parts : (k : ℕ) → chain at_of k (map part_of_due all) (length ns) ≡ true →
          chain at_of k (map part_of_due qs ++ q.part ∷ []) end ≡ true
      pending-parts k g = ap (λ v. chain at_of k v end) (sym (map-append part_of_due qs (q ∷ []))) ∙ w.pending k g

      pub below : i < end
      below = (chain-tight at_of 0 (map part_of_due qs) q.part end (pending-parts 0 w.whole)).1

      pub longer : end ≤ length ys
      longer =
          let n = w.within in
          let e = ap length w.nodes in
          let a = length-append (take end ns) w.mid in
          let t = length-take-le end ns n in
          omega arith

      abbrev pub now : List (Node F C K)
      now = cleared (i + 1) (end - (i + 1)) ys

      abbrev after : List (Node F C K)
      after = no_nodes (end - (i + 1)) ++ w.mid

      now-is : now ≡ take (i + 1) ns ++ after
      now-is =
          let b = below in
          let n = w.within in
          let t = length-take-le end ns n in
          let e : (i + 1) + (end - (i + 1)) ≡ end = omega arith in
          let front : take (i + 1) ys ≡ take (i + 1) ns =
          sym (take-take (i + 1) end ys (omega arith))
          ∙ ap (take (i + 1)) (ap (take end) w.nodes ∙ take_at (take end ns) w.mid end t)
          ∙ take-take (i + 1) end ns (omega arith) in
          let back : drop ((i + 1) + (end - (i + 1))) ys ≡ w.mid =
          ap (λ v. drop v ys) e ∙ ap (drop end) w.nodes ∙ drop_at (take end ns) w.mid end t in
          ap (λ v. v ++ (no_nodes (end - (i + 1)) ++ drop ((i + 1) + (end - (i + 1))) ys)) front
          ∙ ap (λ v. take (i + 1) ns ++ (no_nodes (end - (i + 1)) ++ v)) back

      front-now : (m : ℕ) → m ≤ i + 1 → take m now ≡ take m ns
      front-now m le =
          let b = below in
          let n = w.within in
          let t = length-take-le (i + 1) ns (omega arith) in
          sym (take-take m (i + 1) now le)
          ∙ ap (take m) (ap (take (i + 1)) now-is ∙ take_at (take (i + 1) ns) after (i + 1) t)
          ∙ take-take m (i + 1) ns le

      upto : up_to q now ≡ up_to q ns
      upto = front-now (suc i) (omega arith)

      same-seat : (t : ℕ) → t < suc i → at_of t ≡ seat_in fun_at class_at block_at (up_to q ns) t
      same-seat t lt =
          let b = below in
          let n = w.within in
          sym (seat-taken fun_at class_at block_at ns w.order (suc i) t (omega arith) lt)

      pub all-ready : RootReady fun_at class_at block_at now q ds
      all-ready =
          let b = below in
          let n = w.within in
          let e = ap length now-is in
          let a = length-append (take (i + 1) ns) after in
          let t = length-take-le (i + 1) ns (omega arith) in
          let c = chain-last at_of 0 (map part_of_due qs) q.part end (pending-parts 0 w.whole) in
          let l : i + 1 ≡ suc i = omega arith in
          record {
            within = omega arith;
            order = ap (ordered fun_at class_at block_at []) upto
                ∙ ordered_front fun_at class_at block_at [] (up_to q ns) (drop (suc i) ns)
                (ap (ordered fun_at class_at block_at []) (take-append-drop (suc i) ns) ∙ w.order);
            apart = ap (λ v. chain (seat_in fun_at class_at block_at v) 0 (q.part ∷ []) (suc i)) upto
                ∙ chain-same at_of (seat_in fun_at class_at block_at (up_to q ns)) 0 (q.part ∷ []) (suc i) same-seat c;
            suits = suit-second qs (q ∷ []) w.suits;
            ranges = subst (λ v. Ranges (seat_in fun_at class_at block_at v) 0 ds (suc i)) (sym upto)
                (ranges-same at_of (seat_in fun_at class_at block_at (up_to q ns)) 0 ds (suc i) same-seat
                (subst (λ v. Ranges at_of 0 ds v) l
                (ranges-dropped at_of (i + 1) 0 cs ds (length ns) (omega arith) w.ranges d)));
          }

      -- a number below which nothing is reached from the parts
      root-above : (k : ℕ) → chain at_of k (map part_of_due all) (length ns) ≡ true →
          chain (seat_in fun_at class_at block_at (up_to q now)) k (q.part ∷ []) (suc i) ≡ true
      root-above k g =
          ap (λ v. chain (seat_in fun_at class_at block_at v) k (q.part ∷ []) (suc i)) upto
          ∙ chain-same at_of (seat_in fun_at class_at block_at (up_to q ns)) k (q.part ∷ []) (suc i) same-seat
          (chain-last at_of k (map part_of_due qs) q.part end (pending-parts k g))

      own-above : chain (seat_in fun_at class_at block_at (up_to q now)) (at_of i).first (q.part ∷ []) (suc i) ≡ true
      own-above =
          let c = chain-last at_of 0 (map part_of_due qs) q.part end (pending-parts 0 w.whole) in
          ap (λ v. chain (seat_in fun_at class_at block_at v) (at_of i).first (q.part ∷ []) (suc i)) upto
          ∙ chain-same at_of (seat_in fun_at class_at block_at (up_to q ns)) (at_of i).first (q.part ∷ [])
          (suc i) same-seat
          (chain-raise at_of (at_of i).first (q.part ∷ []) (suc i) c (omega arith))

      back-ranges : (es : List Settled) (n : ℕ) → n ≤ suc i →
          Ranges (seat_in fun_at class_at block_at (up_to q now)) 0 es n → Ranges at_of 0 es n
      back-ranges es n le h =
          ranges-same (seat_in fun_at class_at block_at (up_to q ns)) at_of 0 es n
          (λ t lt. sym (same-seat t (omega arith)))
          (subst (λ v. Ranges (seat_in fun_at class_at block_at v) 0 es n) upto h)

      pub all-next : (f : ℕ) (zs : List (Node F C K)) (es : List Settled) →
          RootDone fun_at class_at block_at now q f zs es →
          going f zs qs (bs ++ record { first = f; last = q.part.at } ∷ []) es
      all-next f zs es r =
          let b = below in
          let n = w.within in
          let range : Settled = record { first = f; last = q.part.at } in
          let lp = r.promise.long in
          let le : f ≤ suc i = omega arith in
          let o = r.above (at_of i).first own-above in
          let p1 = subst (λ v. Promise fun_at class_at block_at v f [] r.mid (suc i) (q ∷ []) (range ∷ [])) upto
          r.promise in
          let seat = same-seat i (omega arith) in
          let p2 = promise-same (up_to q ns) ns q f r.mid (suc i) (range ∷ [])
          (node-below (up_to q ns) ns (suc i) i (take-take (suc i) (suc i) ns (omega arith)) (omega arith))
          (ap (λ s. s.tree) (sym seat)) p1 in
          let p3 = promise-beside fun_at class_at block_at ns f r.mid (suc i) q (range ∷ []) qs p2 in
          let p4 = promise-leaves fun_at class_at block_at ns (suc i) (end - (i + 1)) end qs q (omega arith) in
          let p5 = promise-then fun_at class_at block_at ns (suc i) (qs ++ q ∷ []) (no_nodes (end - (i + 1))) end
          (qs ++ q ∷ []) [] w.mid w.hi all (reverse bs) p4 w.promise in
          let p6 = promise-then fun_at class_at block_at ns f qs r.mid (suc i) (qs ++ q ∷ [])
          (range ∷ []) after w.hi all
          (reverse bs) p3 p5 in
          let l : suc i ≡ i + 1 = omega arith in
          let rest : drop (suc i) now ≡ after =
          ap (λ v. drop v now) l ∙ ap (drop (i + 1)) now-is
          ∙ drop_at (take (i + 1) ns) after (i + 1) (length-take-le (i + 1) ns (omega arith)) in
          record {
            mid = r.mid ++ after;
            hi = w.hi;
            nodes = r.nodes ∙ ap (λ v. v ++ (r.mid ++ drop (suc i) now)) (front-now f (omega arith))
                ∙ ap (λ v. take f ns ++ (r.mid ++ v)) rest;
            within = omega arith;
            order = w.order;
            whole = w.whole;
            pending = λ k g.
                chain-up at_of k (map part_of_due qs) (at_of i).first f o
                (chain-first at_of k (map part_of_due qs) (q.part ∷ []) end (pending-parts k g));
            suits = suit-first qs (q ∷ []) w.suits;
            promise = subst (λ v. Promise fun_at class_at block_at ns f qs (r.mid ++ after) w.hi all v)
                (sym (reverse-append bs (range ∷ []))) p6;
            ranges = ranges-up at_of 0 es f (length ns) (omega arith) (back-ranges es f le r.ranges);
          }

      kept-to : (n : ℕ) (ks : List (Node F C K)) (es : List Settled) → n ≤ suc i → ks ≡ take n ns →
          Ranges (seat_in fun_at class_at block_at (up_to q now)) 0 es n →
          ((k : ℕ) → chain at_of k (map part_of_due all) (length ns) ≡ true → k ≤ n) →
          AllKept fun_at class_at block_at ns all ks es
      kept-to n ks es le e h above =
          let b = below in
          let m = w.within in
          let l : length ks ≡ n = ap length e ∙ length-take-le n ns (omega arith) in
          record {
            order = ap (ordered fun_at class_at block_at []) e
                ∙ ordered_front fun_at class_at block_at [] (take n ns) (drop n ns)
                (ap (ordered fun_at class_at block_at []) (take-append-drop n ns) ∙ w.order);
            ranges = subst (λ v. Ranges (seat_in fun_at class_at block_at ks) 0 es v) (sym l)
                (subst (λ v. Ranges (seat_in fun_at class_at block_at v) 0 es n) (sym e)
                (ranges-same at_of (seat_in fun_at class_at block_at (take n ns)) 0 es n
                (λ t lt. sym (seat-taken fun_at class_at block_at ns w.order n t (omega arith) lt))
                (back-ranges es n le h)));
            kept = λ k g.
                let a = above k g in
                (ap (take k) e ∙ take-take k n ns a, omega arith);
          }

      pub all-cut : (ks : List (Node F C K)) (es : List Settled) → RootCut fun_at class_at block_at now q ks es →
          AllKept fun_at class_at block_at ns all ks es
      all-cut ks es r =
          let n = r.within in
          kept-to r.end ks es (omega arith) (r.nodes ∙ front-now r.end (omega arith)) r.ranges
          (λ k g. r.above k (root-above k g))

      -- its range can't be held
      pub all-stopped : (f : ℕ) (zs ks : List (Node F C K)) (es : List Settled) →
          RootDone fun_at class_at block_at now q f zs es → ks ≡ take f zs
          → AllKept fun_at class_at block_at ns all ks es
      all-stopped f zs ks es r e =
          let b = below in
          let n = w.within in
          let lp = r.promise.long in
          let t : length (take f now) ≡ f = ap length (front-now f (omega arith)) ∙ length-take-le f ns (omega arith) in
          kept-to f ks es (omega arith)
          (e ∙ ap (take f) r.nodes ∙ take_at (take f now) (r.mid ++ drop (suc i) now) f t ∙ front-now f (omega arith))
          r.ranges (λ k g. r.above k (root-above k g))

    -- ---- all are done

    module _ (end : ℕ) (ys : List (Node F C K)) (bs cs : List Settled)
        (w : AllGoing ns all end ys [] bs cs) (h : Ranges (seat_in fun_at class_at block_at ns) 0 cs end)
      where
        front-ordered : ordered fun_at class_at block_at [] (take end ns) ≡ true
        front-ordered =
            ordered_front fun_at class_at block_at [] (take end ns) (drop end ns)
            (ap (ordered fun_at class_at block_at []) (take-append-drop end ns) ∙ w.order)

        all-met : Met fun_at class_at block_at ns 0 (take end ns) (take end ns ++ w.mid) end [] w.hi all (reverse bs)
        all-met = w.promise.meets 0 (take end ns) (length-take-le end ns w.within) front-ordered
            (le-leb 0 end (omega arith))

        pub all-ranges : (Ranges (seat_in fun_at class_at block_at ys) 0 cs end)
            × Ranges (seat_in fun_at class_at block_at ys) end (reverse bs) (length ys)
        all-ranges =
            let n = w.within in
            let t = length-take-le end ns n in
            let p = w.promise.long in
            let a = length-append (take end ns) w.mid in
            let e = ap length w.nodes in
            let l : w.hi ≡ length ys = omega arith in
            let same : (j : ℕ) → j < end → at_of j ≡ seat_in fun_at class_at block_at ys j =
            λ j lt. sym (seat-taken fun_at class_at block_at ns w.order end j n lt)
            ∙ seat-front fun_at class_at block_at (take end ns) w.mid j (omega arith)
            ∙ ap (λ v. seat_in fun_at class_at block_at v j) (sym w.nodes) in (
              ranges-same at_of (seat_in fun_at class_at block_at ys) 0 cs end same h,
              subst (λ v. Ranges (seat_in fun_at class_at block_at ys) end (reverse bs) v) l
                  (subst (λ v. Ranges (seat_in fun_at class_at block_at v) end (reverse bs) w.hi) (sym w.nodes)
                  (all-met).ranges),
            )

        pub all-kept : (es : List Settled) → Ranges (seat_in fun_at class_at block_at ys) 0 es (length ys) →
            AllKept fun_at class_at block_at ns all ys es
        all-kept es r =
            let n = w.within in
            let t = length-take-le end ns n in
            let a = length-append (take end ns) w.mid in
            let e = ap length w.nodes in
            record {
              order = ap (ordered fun_at class_at block_at []) w.nodes ∙ (all-met).order;
              ranges = r;
              kept = λ k g.
                  let b = leb-true k end (w.pending k g) in (
                    sym (take-take k end ys b)
                        ∙ ap (take k) (ap (take end) w.nodes ∙ take_at (take end ns) w.mid end t)
                        ∙ take-take k end ns b,
                    omega arith,
                  );
            }

        pub all-done : AllDone fun_at class_at block_at ns all ys
        all-done = record {
          first = end;
          end = w.hi;
          mid = w.mid;
          ranges = reverse bs;
          nodes = w.nodes;
          within = w.within;
          promise = w.promise;
          above = λ k g. leb-true k end (w.pending k g);
        }

    -- ---- there are none

    pub none-kept : (cs : List Settled) → AllReady fun_at class_at block_at ns all cs →
        AllKept fun_at class_at block_at ns all ns cs
    none-kept cs r = record {
      order = r.order;
      ranges = r.ranges;
      kept = λ k g. (refl, chain-bound at_of k (map part_of_due all) (length ns) g);
    }

    pub none-done : (cs : List Settled) → all ≡ [] → AllDone fun_at class_at block_at ns all ns
    none-done cs e = record {
      first = length ns;
      end = length ns;
      mid = [];
      ranges = [];
      nodes = sym (append-nil (take (length ns) ns) ∙ take-length ns);
      within = omega arith;
      promise = subst (λ v. Promise fun_at class_at block_at ns (length ns) [] [] (length ns) v []) (sym e)
          (promise-none fun_at class_at block_at ns (length ns) []);
      above = λ k g. chain-bound at_of k (map part_of_due all) (length ns) g;
    }
