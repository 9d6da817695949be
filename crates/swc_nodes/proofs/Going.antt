-- The loop in which one part becomes what it is to.
use Rattle.std.proofs.Common.{◌≡◌, ℕ, suc, ◌+◌, ◌-◌, ◌<◌, ◌≤◌, true, List, [], ◌∷◌, ◌++◌, map, length, take, drop, get_or, refl, sym, ap, subst, ◌∙◌, arith, append_assoc, length-append}
use Rattle.std.proofs.lemmas.Bool.{leb-true}
use Rattle.std.proofs.lemmas.List.{get_or_at, get_or-take, length-take-le, map-append, take-append-drop, take-take, take_at, drop_at}
use Rattle.swc_context.specs.declared.span.Span.{Span}
use Rattle.swc_nodes.specs.NodeParts.{form, slots, view_ok}
use Rattle.swc_nodes.specs.NumberedTrees.{Seat, chain, ordered}
use Rattle.swc_nodes.specs.Onward.{cleared, no_nodes, Promise, RootCut, RootDone, RootReady, Stays, TurnedOne}
use Rattle.swc_nodes.specs.Roles.{Due, becomes_as, dues_of, keep, part_of_due, ready, suit, suits}
use Rattle.swc_nodes.specs.Settled.{seat_in, DroppedFrom, IsSettled, Ranges}
use Rattle.swc_nodes.specs.Turning.{node_at, PartsIn, RecastIn}
use Rattle.swc_nodes.specs.{declared.node.Node.Node, declared.role.Role.Role as role, declared.turning.Settled.Settled}
use Rattle.swc_nodes.proofs.Becoming.{dues-suit, suit-both, suit-first, suit-second}
use Rattle.swc_nodes.proofs.Chains.{both_true, fitting, chain-bound, chain-first, chain-second}
use Rattle.swc_nodes.proofs.DuesApart.{suit-ready}
use Rattle.swc_nodes.proofs.Onward.{promise-leaves, promise-none, promise-settled, promise-then, ranges-bound}
use Rattle.swc_nodes.proofs.OneNode.{form-at, node-below, parts-in, parts-whole, promise-node, recast-below}
use Rattle.swc_nodes.proofs.Stays.{pending-next, promise-kept}

-- ---- ranges that are dropped

module _ {F C K : Type 0} (at : ℕ → Seat F C K) where
  pub ranges-front : (lo : ℕ) (bs more : List Settled) (hi : ℕ) → Ranges at lo (bs ++ more) hi → Ranges at lo bs hi
  ranges-front lo [] more hi h = ranges-bound at lo more hi h
  ranges-front lo (b ∷ bs) more hi h = (h.0, h.1, ranges-front (suc b.last) bs more hi h.2)

  last-below : (n : ℕ) (lo : ℕ) (b : Settled) (bs : List Settled) (hi : ℕ) → Ranges at lo (b ∷ bs) hi →
      ((cs : List Settled) (c : Settled) → (b ∷ bs) ≡ cs ++ c ∷ [] → c.last < n) → b.last < n
  last-below n lo b [] hi h below = below [] b refl
  last-below n lo b (c ∷ bs) hi h below =
      let w = last-below n (suc b.last) c bs hi h.2 (λ cs d e. below (b ∷ cs) d (ap (λ v. b ∷ v) e)) in
      let l = h.2.0 in
      let o = h.2.1.order in
      omega arith

  ranges-lower : (n : ℕ) (lo : ℕ) (bs : List Settled) (hi : ℕ) → lo ≤ n → Ranges at lo bs hi →
      ((cs : List Settled) (c : Settled) → bs ≡ cs ++ c ∷ [] → c.last < n) → Ranges at lo bs n
  ranges-lower n lo [] hi le h below = le
  ranges-lower n lo (b ∷ bs) hi le h below =
      let w = last-below n lo b bs hi h below in (
        h.0,
        h.1,
        ranges-lower n (suc b.last) bs hi (omega arith) h.2 (λ cs c e. below (b ∷ cs) c (ap (λ v. b ∷ v) e)),
      )

  pub ranges-dropped : (n lo : ℕ) (old new : List Settled) (hi : ℕ) → lo ≤ n → Ranges at lo old hi →
      DroppedFrom n old new → Ranges at lo new n
  ranges-dropped n lo old new hi le h d =
      ranges-lower n lo new hi le (ranges-front lo new d.more hi (subst (λ v. Ranges at lo v hi) d.dropped h)) d.below

  pub ranges-up : (lo : ℕ) (bs : List Settled) (n hi : ℕ) → n ≤ hi → Ranges at lo bs n → Ranges at lo bs hi
  ranges-up lo [] n hi le h = omega arith
  ranges-up lo (b ∷ bs) n hi le h = (h.0, h.1, ranges-up (suc b.last) bs n hi le h.2)

  -- the last of them
  pub range-last : (lo : ℕ) (bs : List Settled) (b : Settled) (hi : ℕ) → Ranges at lo (bs ++ b ∷ []) hi →
      IsSettled at b × (b.last < hi)
  range-last lo [] b hi h = let w = h.2 in (h.1, omega arith)
  range-last lo (c ∷ bs) b hi h = range-last (suc c.last) bs b hi h.2

pub dropped-past : (n len : ℕ) (old : List Settled) (d : Settled) → len ≤ length old →
    (0 < len → (get_or old (len - 1) d).last < n) → DroppedFrom n old (take len old)
dropped-past n len old d le h = record {
  more = drop len old;
  dropped = sym (take-append-drop len old);
  below = λ bs b e.
      let l = length-append bs (b ∷ []) in
      let t = length-take-le len old le in
      let m = ap length e in
      let k : len - 1 ≡ length bs = omega arith in
      let at : get_or old (len - 1) d ≡ b =
      sym (get_or-take len old (len - 1) d (omega arith)) ∙ ap (λ v. get_or v (len - 1) d) e
      ∙ ap (λ v. get_or (bs ++ b ∷ []) v d) k ∙ get_or_at bs b [] d (length bs) refl in
      let w = h (omega arith) in
      let z : (get_or old (len - 1) d).last ≡ b.last = ap (λ v. v.last) at in
      omega arith;
}

-- ---- the loop

module _ {F C K : Type 0} (fun_at : F → Span) (class_at : C → Span) (block_at : K → Span) where
  -- ns are the nodes as they were, of which those up to the root are looked at
  pub record Going (ns : List (Node F C K)) (root : Due) (first : ℕ) (ys : List (Node F C K)) (qs : List Due)
      (cs : List Settled) : Type 0 where
    pub mid : List (Node F C K)
    pub nodes : ys ≡ take first ns ++ (mid ++ drop (suc root.part.at) ns)
    pub within : first ≤ suc root.part.at
    pub counted : suc root.part.at ≤ length ns
    pub order : ordered fun_at class_at block_at [] (take (suc root.part.at) ns) ≡ true
    pub whole : chain (seat_in fun_at class_at block_at (take (suc root.part.at) ns)) 0 (root.part ∷ [])
        (suc root.part.at) ≡ true
    pub pending : (k : ℕ) →
        chain (seat_in fun_at class_at block_at (take (suc root.part.at) ns)) k (root.part ∷ [])
        (suc root.part.at) ≡ true →
        chain (seat_in fun_at class_at block_at (take (suc root.part.at) ns)) k (map part_of_due qs) first ≡ true
    pub suits : suit qs ≡ true
    pub promise : Promise fun_at class_at block_at (take (suc root.part.at) ns) first qs mid (suc root.part.at)
        (root ∷ []) []
    pub ranges : Ranges (seat_in fun_at class_at block_at (take (suc root.part.at) ns)) 0 cs (suc root.part.at)

  module _ (ns : List (Node F C K)) (root : Due) where
    abbrev hi : ℕ
    hi = suc root.part.at

    abbrev xs : List (Node F C K)
    xs = take (suc root.part.at) ns

    abbrev at_of : ℕ → Seat F C K
    at_of = seat_in fun_at class_at block_at xs

    abbrev going : ℕ → List (Node F C K) → List Due → List Settled → Type 0
    going = Going ns root

    pub going-first : (cs : List Settled) → RootReady fun_at class_at block_at ns root cs → going hi ns (root ∷ []) cs
    going-first cs r =
        let lt = r.within in
        record {
          mid = [];
          nodes = sym (take-append-drop hi ns);
          within = omega arith;
          counted = omega arith;
          order = r.order;
          whole = r.apart;
          pending = λ k h. h;
          suits = r.suits;
          promise = promise-none fun_at class_at block_at xs hi (root ∷ []);
          ranges = r.ranges;
        }

    -- ---- a duty is taken

    module _ (first : ℕ) (ys : List (Node F C K)) (qs : List Due) (q : Due) (cs : List Settled)
        (w : Going ns root first ys (qs ++ q ∷ []) cs) where
      abbrev i : ℕ
      i = q.part.at

      abbrev x : Node F C K
      x = node_at xs q.part.at

      counted : length xs ≡ hi
      counted = let c = w.counted in length-take-le hi ns (omega arith)

      own : chain at_of 0 (q.part ∷ []) first ≡ true
      own =
          chain-second at_of 0 (map part_of_due qs) (q.part ∷ []) first
          (ap (λ v. chain at_of 0 v first) (sym (map-append part_of_due qs (q ∷ []))) ∙ w.pending 0 w.whole)

      pub below : suc i ≤ first
      below = chain-bound at_of (suc i) [] first (both_true own).1

      pub longer : first ≤ length ys
      longer =
          let c = w.counted in
          let n = w.within in
          let e = ap length w.nodes in
          let a = length-append (take first ns) (w.mid ++ drop hi ns) in
          let t = length-take-le first ns (omega arith) in
          omega arith

      view : view_ok q.part.view (form x) ≡ true
      view =
          let b = below in
          let n = w.within in
          let c = counted in
          ap (view_ok q.part.view) (sym (form-at fun_at class_at block_at xs w.order i (omega arith)))
          ∙ (fitting at_of 0 q.part (both_true own).0).view

      suited : suits q.role q.part.view ≡ true
      suited = (both_true (suit-second qs (q ∷ []) w.suits)).0

      -- what is between it and what is done is cleared
      abbrev pub now : List (Node F C K)
      now = cleared (i + 1) (first - (i + 1)) ys

      abbrev after : List (Node F C K)
      after = no_nodes (first - (i + 1)) ++ w.mid

      rest-done : drop ((i + 1) + (first - (i + 1))) ys ≡ w.mid ++ drop hi ns
      rest-done =
          let b = below in
          let n = w.within in
          let c = w.counted in
          let e : (i + 1) + (first - (i + 1)) ≡ first = omega arith in
          let t = length-take-le first ns (omega arith) in
          ap (λ v. drop v ys) e ∙ ap (drop first) w.nodes ∙ drop_at (take first ns) (w.mid ++ drop hi ns) first t

      front-ys : (m : ℕ) → m ≤ first → take m ys ≡ take m ns
      front-ys m le =
          let n = w.within in
          let c = w.counted in
          let t = length-take-le first ns (omega arith) in
          sym (take-take m first ys le)
          ∙ ap (take m) (ap (take first) w.nodes ∙ take_at (take first ns) (w.mid ++ drop hi ns) first t)
          ∙ take-take m first ns le

      now-is : now ≡ take (i + 1) ns ++ (after ++ drop hi ns)
      now-is =
          let b = below in
          ap (λ v. v ++ (no_nodes (first - (i + 1)) ++ drop ((i + 1) + (first - (i + 1))) ys))
          (front-ys (i + 1) (omega arith))
          ∙ ap (λ v. take (i + 1) ns ++ (no_nodes (first - (i + 1)) ++ v)) rest-done
          ∙ ap (λ v. take (i + 1) ns ++ v) (sym (append_assoc (no_nodes (first - (i + 1))) w.mid (drop hi ns)))

      front-now : (m : ℕ) → m ≤ i + 1 → take m now ≡ take m ns
      front-now m le =
          let b = below in
          let n = w.within in
          let c = w.counted in
          let t = length-take-le (i + 1) ns (omega arith) in
          sym (take-take m (i + 1) now le)
          ∙ ap (take m) (ap (take (i + 1)) now-is ∙ take_at (take (i + 1) ns) (after ++ drop hi ns) (i + 1) t)
          ∙ take-take m (i + 1) ns le

      front-xs : (m : ℕ) → m ≤ i + 1 → take m now ≡ take m xs
      front-xs m le =
          let b = below in
          let n = w.within in
          front-now m le ∙ sym (take-take m hi ns (omega arith))

      node-now : node_at now i ≡ x
      node-now = node-below now xs (i + 1) i (front-xs (i + 1) (omega arith)) (omega arith)

      pub now-within : i < length now
      now-within =
          let b = below in
          let n = w.within in
          let c = w.counted in
          let e = ap length now-is in
          let a = length-append (take (i + 1) ns) (after ++ drop hi ns) in
          let t = length-take-le (i + 1) ns (omega arith) in
          omega arith

      pub now-ready : ready q.role (form (node_at now i)) ≡ true
      now-ready = ap (λ z. ready q.role (form z)) node-now ∙ suit-ready q.role q.part.view (form x) suited view

      pub now-parts : PartsIn (take i now) (slots (node_at now i))
      now-parts =
          let b = below in
          let n = w.within in
          let c = counted in
          subst (λ z. PartsIn (take i now) (slots z)) (sym node-now)
          (subst (λ v. PartsIn v (slots x)) (sym (front-xs i (omega arith)))
          (parts-in fun_at class_at block_at xs w.order 0 (slots x) i (omega arith)
          (parts-whole fun_at class_at block_at xs w.order i (omega arith))))

      -- from there on all is done
      onward : Promise fun_at class_at block_at xs (suc i) (qs ++ q ∷ []) after hi (root ∷ []) []
      onward =
          let b = below in
          promise-then fun_at class_at block_at xs (suc i) (qs ++ q ∷ []) (no_nodes (first - (i + 1))) first
          (qs ++ q ∷ [])
          [] w.mid hi (root ∷ []) []
          (promise-leaves fun_at class_at block_at xs (suc i) (first - (i + 1)) first qs q (omega arith)) w.promise

      -- ---- it became what it is to

      pub going-next : (zs : List (Node F C K)) (bs : List Due) (ds : List Settled) →
          TurnedOne fun_at class_at block_at now zs i q.role (qs) bs → DroppedFrom (i + 1) cs ds → going i zs bs ds
      going-next zs bs ds t d =
          let b = below in
          let n = w.within in
          let c = counted in
          let same : take i t.over ≡ take i xs = t.same ∙ front-xs i (omega arith) in
          let h = recast-below fun_at class_at block_at xs w.order t.over i same (omega arith) q.role t.node
          (subst (λ z. RecastIn fun_at class_at block_at t.over (becomes_as q.role z) q.role z t.node) node-now
          t.recast) in
          let dues : bs ≡ qs ++ dues_of q.role x = t.dues ∙ ap (λ z. qs ++ dues_of q.role z) node-now in
          let own-step = promise-node fun_at class_at block_at xs w.order q t.node (omega arith) suited view h qs in
          let whole-step = promise-then fun_at class_at block_at xs i (qs ++ dues_of q.role x) (t.node ∷ []) (suc i)
          (qs ++ q ∷ []) [] after hi (root ∷ []) [] own-step onward in
          let l = w.counted in
          let e : suc i ≡ i + 1 = omega arith in
          let back : drop (suc i) now ≡ after ++ drop hi ns =
          ap (λ v. drop v now) e ∙ ap (drop (i + 1)) now-is
          ∙ drop_at (take (i + 1) ns) (after ++ drop hi ns) (i + 1) (length-take-le (i + 1) ns (omega arith)) in
          record {
            mid = t.node ∷ after;
            nodes = t.nodes ∙ ap (λ v. v ++ t.node ∷ drop (suc i) now) (front-now i (omega arith))
                ∙ ap (λ v. take i ns ++ t.node ∷ v) back;
            within = omega arith;
            counted = w.counted;
            order = w.order;
            whole = w.whole;
            pending = λ k g.
                subst (λ v. chain at_of k (map part_of_due v) i ≡ true) (sym dues)
                (pending-next fun_at class_at block_at xs w.order qs q k first (omega arith) (w.pending k g));
            suits = ap suit dues ∙ suit-both qs (dues_of q.role x) (suit-first qs (q ∷ []) w.suits)
                (dues-suit q.role x);
            promise = subst (λ v. Promise fun_at class_at block_at xs i v (t.node ∷ after) hi (root ∷ []) [])
                (sym dues) whole-step;
            ranges = ranges-up at_of 0 ds (i + 1) hi (omega arith)
                (ranges-dropped at_of (i + 1) 0 cs ds hi (omega arith) w.ranges d);
          }

      -- ---- it is settled

      before-kept : (s : Settled) → s.last ≡ i → IsSettled at_of s
          → take s.first ns ++ drop s.first (take (suc s.last) xs)
          ≡ take (i + 1) ns
      before-kept s e k =
          let b = below in
          let n = w.within in
          let o = k.order in
          let l : suc s.last ≡ i + 1 = omega arith in
          let f : take (suc s.last) xs ≡ take (i + 1) ns =
          take-take (suc s.last) hi ns (omega arith) ∙ ap (λ v. take v ns) l in
          let g : take s.first ns ≡ take s.first (take (suc s.last) xs) =
          sym (ap (take s.first) f ∙ take-take s.first (i + 1) ns (omega arith)) in
          ap (λ v. v ++ drop s.first (take (suc s.last) xs)) g
          ∙ take-append-drop s.first (take (suc s.last) xs) ∙ f

      step-kept : (s : Settled) → s.last ≡ i → q.role ≡ role.Keep → IsSettled at_of s →
          Promise fun_at class_at block_at xs s.first qs (drop s.first (take (suc s.last) xs) ++ after) hi
          (root ∷ []) []
      step-kept s e r k =
          let b = below in
          let n = w.within in
          let c = counted in
          let same : keep q.part ≡ q = ap (λ v. record { part = q.part; role = v }) (sym r) in
          let l : suc s.last ≡ suc i = omega arith in
          let v : view_ok q.part.view (at_of i).form ≡ true = (fitting at_of 0 q.part (both_true own).0).view in
          let p = promise-kept fun_at class_at block_at xs w.order s (omega arith) k q.part (sym e) v qs in
          let m = drop s.first (take (suc s.last) xs) in
          let p1 = subst (λ z. Promise fun_at class_at block_at xs s.first qs m (suc s.last) (qs ++ z ∷ []) [])
          same p in
          let p2 = subst (λ z. Promise fun_at class_at block_at xs s.first qs m z (qs ++ q ∷ []) []) l p1 in
          promise-then fun_at class_at block_at xs s.first qs m (suc i) (qs ++ q ∷ []) [] after hi
          (root ∷ []) [] p2 onward

      settled-next : (s : Settled) (ds : List Settled) → s.last ≡ i → q.role ≡ role.Keep → IsSettled at_of s →
          DroppedFrom (i + 1) cs ds → going s.first now qs ds
      settled-next s ds e r k d =
          let b = below in
          let n = w.within in
          let o = k.order in
          let m = drop s.first (take (suc s.last) xs) in
          let lowest : (at_of i).first ≡ s.first = ap (λ v. (at_of v).first) (sym e) ∙ k.first in
          record {
            mid = m ++ after;
            nodes = now-is ∙ ap (λ v. v ++ (after ++ drop hi ns)) (sym (before-kept s e k))
                ∙ append_assoc (take s.first ns) m (after ++ drop hi ns)
                ∙ ap (λ v. take s.first ns ++ v) (sym (append_assoc m after (drop hi ns)));
            within = omega arith;
            counted = w.counted;
            order = w.order;
            whole = w.whole;
            pending = λ z g.
                let c = ap (λ v. chain at_of z v first) (sym (map-append part_of_due qs (q ∷ []))) ∙ w.pending z g in
                ap (chain at_of z (map part_of_due qs)) (sym lowest)
                ∙ chain-first at_of z (map part_of_due qs) (q.part ∷ []) first c;
            suits = suit-first qs (q ∷ []) w.suits;
            promise = step-kept s e r k;
            ranges = ranges-up at_of 0 ds (i + 1) hi (omega arith)
                (ranges-dropped at_of (i + 1) 0 cs ds hi (omega arith) w.ranges d);
          }

      pub going-stays : (zs : List (Node F C K)) (bs : List Due) (ds : List Settled) (f : ℕ) →
          Stays fun_at class_at block_at now zs i q.role qs bs ds f → DroppedFrom (i + 1) cs ds
          → (going f zs bs ds) × (f ≤ i)
      going-stays zs bs ds f t d =
          let k = range-last at_of 0 t.before t.range (i + 1)
          (subst (λ v. Ranges at_of 0 v (i + 1)) t.found
          (ranges-dropped at_of (i + 1) 0 cs ds hi (omega arith) w.ranges d)) in
          let o = k.0.order in
          let l = t.last in
          let g = settled-next t.range ds t.last t.keeps k.0 d in
          let e = t.first in (
            subst (λ v. going v zs bs ds) t.first
                (subst (λ v. going t.range.first v bs ds) (sym t.nodes)
                (subst (λ v. going t.range.first now v ds) (sym t.dues) g)),
            omega arith,
          )

      -- ---- out of memory

      pub going-cut : (zs ks : List (Node F C K)) (ds es : List Settled) → take i zs ≡ take i now →
          DroppedFrom (i + 1) cs ds → ks ≡ take i zs → DroppedFrom i ds es →
          RootCut fun_at class_at block_at ns root ks es
      going-cut zs ks ds es e d t u =
          let b = below in
          let n = w.within in
          record {
            end = i;
            nodes = t ∙ e ∙ front-now i (omega arith);
            within = omega arith;
            above = λ k g.
                let c = ap (λ v. chain at_of k v first) (sym (map-append part_of_due qs (q ∷ []))) ∙ w.pending k g in
                let f = chain-bound at_of k (map part_of_due qs) (at_of i).first
                (chain-first at_of k (map part_of_due qs) (q.part ∷ []) first c) in
                let v = (fitting at_of 0 q.part (both_true own).0).first in
                omega arith;
            ranges = ranges-dropped at_of i 0 ds es (i + 1) (omega arith)
                (ranges-dropped at_of (i + 1) 0 cs ds hi (omega arith) w.ranges d) u;
          }

    -- ---- nothing is due

    pub going-done : (first : ℕ) (ys : List (Node F C K)) (cs ds : List Settled) → going first ys [] cs →
        DroppedFrom first cs ds → RootDone fun_at class_at block_at ns root first ys ds
    going-done first ys cs ds w d = record {
      mid = w.mid;
      nodes = w.nodes;
      promise = promise-settled fun_at class_at block_at xs first w.mid hi root (omega arith) refl w.promise;
      above = λ k g. leb-true k first (w.pending k g);
      ranges = ranges-dropped at_of first 0 cs ds hi (omega arith) w.ranges d;
    }

    -- the root can't be held
    pub root-cut : (cs ds : List Settled) (ks : List (Node F C K)) → RootReady fun_at class_at block_at ns root cs →
        ks ≡ take root.part.at ns → DroppedFrom root.part.at cs ds → RootCut fun_at class_at block_at ns root ks ds
    root-cut cs ds ks r t u = record {
      end = root.part.at;
      nodes = t;
      within = omega arith;
      above = λ k g.
          let f = fitting at_of k root.part (both_true g).0 in
          let a = f.above in
          let b = f.first in
          omega arith;
      ranges = ranges-dropped at_of root.part.at 0 cs ds hi (omega arith) r.ranges u;
    }
