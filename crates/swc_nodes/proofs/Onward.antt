-- Nodes that go on from any others, in which what is due became what it is to.
use Rattle.std.proofs.Common.{◌≡◌, ℕ, zero, suc, ◌+◌, ◌-◌, ◌<◌, ◌≤◌, true, List, [], ◌∷◌, ◌++◌, map, length, take, drop, refl, sym, ap, subst, ◌∙◌, arith, append_assoc, length-append, ⊎_elim, slice_set}
use Rattle.std.proofs.lemmas.Bool.{cases_lt, le-leb}
use Rattle.std.proofs.lemmas.List.{append-nil, drop_more, length-take-le, map-append}
use Rattle.std.specs.Prelude.{slice_index_or}
use Rattle.swc_context.specs.declared.span.Span.{Span}
use Rattle.swc_ast.specs.Tree.{Tree}
use Rattle.swc_nodes.specs.NodeParts.{Part, slots}
use Rattle.swc_nodes.specs.NumberedTrees.{Seat, chain, floor, found, ordered, seat, seats_after}
use Rattle.swc_nodes.specs.Onward.{cleared, no_nodes, turned_parts, Met, Promise}
use Rattle.swc_nodes.specs.Roles.{Due}
use Rattle.swc_nodes.specs.Settled.{seat_in, tree_in, IsSettled, Ranges}
use Rattle.swc_nodes.specs.Turning.{no_node, node_at, Became}
use Rattle.swc_nodes.specs.{Recasting.turned, declared.node.Node.Node, declared.role.Role.Role, declared.turning.Settled.Settled}
use Rattle.swc_nodes.proofs.Chains.{both_true, true_both, fitting, chain-bound, chain-both, chain-same, chain-up, floor-both}
use Rattle.swc_nodes.proofs.Standing.{after_append, after_keeps, after_length, ordered_both, seat_between}

-- ---- nodes that are cleared

set-here : {X : Type 0} (us : List X) (y x : X) (bs : List X) → slice_set (us ++ y ∷ bs) (length us) x ≡ us ++ x ∷ bs
set-here [] y x bs = refl
set-here (a ∷ us) y x bs = ap (λ v. a ∷ v) (set-here us y x bs)

no-nodes-more : {F C K : Type 0} (n : ℕ) (ys : List (Node F C K)) → no_nodes n ++ no_node ∷ ys ≡ no_nodes (suc n) ++ ys
no-nodes-more zero ys = refl
no-nodes-more (suc n) ys = ap (λ v. no_node ∷ v) (no-nodes-more n ys)

no-nodes-long : (F C K : Type 0) (n : ℕ) → length (no_nodes {F = F} {C = C} {K = K} n) ≡ n
no-nodes-long F C K zero = refl
no-nodes-long F C K (suc n) = ap suc (no-nodes-long F C K n)

pub cleared-next : {F C K : Type 0} (from i : ℕ) (xs ys : List (Node F C K)) (x : Node F C K) → from ≤ i
    → i < length xs →
    ys ≡ cleared from (i - from) xs → x ≡ no_node → slice_set ys i x ≡ cleared from ((i + 1) - from) xs
cleared-next {F = F} {C = C} {K = K} from i xs ys x le lt e k =
    let n = i - from in
    let front = take from xs ++ no_nodes n in
    let l = length-append (take from xs) (no_nodes n) in
    let t = length-take-le from xs (omega arith) in
    let w = no-nodes-long F C K n in
    let long : i ≡ length front = omega arith in
    let at : from + n ≡ i = omega arith in
    let rest : drop (from + n) xs ≡ slice_index_or xs i x ∷ drop (i + 1) xs =
    ap (λ v. drop v xs) at ∙ drop_more xs i x lt in
    let whole : ys ≡ front ++ slice_index_or xs i x ∷ drop (i + 1) xs =
    e ∙ ap (λ v. take from xs ++ (no_nodes n ++ v)) rest
    ∙ sym (append_assoc (take from xs) (no_nodes n) (slice_index_or xs i x ∷ drop (i + 1) xs)) in
    let more : suc n ≡ (i + 1) - from = omega arith in
    let end : i + 1 ≡ from + suc n = omega arith in
    ap (λ v. slice_set v i x) whole
    ∙ ap (λ v. slice_set (front ++ slice_index_or xs i x ∷ drop (i + 1) xs) v x) long
    ∙ set-here front (slice_index_or xs i x) x (drop (i + 1) xs)
    ∙ ap (λ v. front ++ v ∷ drop (i + 1) xs) k
    ∙ append_assoc (take from xs) (no_nodes n) (no_node ∷ drop (i + 1) xs)
    ∙ ap (λ v. take from xs ++ v) (no-nodes-more n (drop (i + 1) xs))
    ∙ ap (λ v. take from xs ++ (no_nodes (suc n) ++ drop v xs)) end
    ∙ ap (λ v. cleared from v xs) more

-- ---- parts and ranges

pub floor-last : {F C K : Type 0} (at : ℕ → Seat F C K) (hi ho : ℕ) (ps : List Part) (p : Part) →
    floor at hi (ps ++ p ∷ []) ≡ floor at ho (ps ++ p ∷ [])
floor-last at hi ho [] p = refl
floor-last at hi ho (x ∷ ps) p = refl

pub floor-same : {F C K : Type 0} (at by : ℕ → Seat F C K) (m lo hi : ℕ) (ps : List Part) →
    ((i : ℕ) → i < m → at i ≡ by i) → chain at lo ps m ≡ true → floor at hi ps ≡ floor by hi ps
floor-same at by m lo hi [] same c = refl
floor-same at by m lo hi (p ∷ ps) same c =
    let b = both_true c in
    let w = chain-bound at (suc p.at) ps m b.1 in
    ap (λ s. s.first) (same p.at (omega arith))

module _ {F C K : Type 0} where
  pub ranges-bound : (at : ℕ → Seat F C K) (lo : ℕ) (bs : List Settled) (hi : ℕ) → Ranges at lo bs hi → lo ≤ hi
  ranges-bound at lo [] hi h = h
  ranges-bound at lo (b ∷ bs) hi h =
      let o = h.1.order in
      let l = h.0 in
      let w = ranges-bound at (suc b.last) bs hi h.2 in
      omega arith

  settled-same : (at by : ℕ → Seat F C K) (b : Settled) → ((i : ℕ) → i ≤ b.last → at i ≡ by i) → IsSettled at b →
      IsSettled by b
  settled-same at by b same h =
      let o = h.order in
      record {
        order = h.order;
        first = ap (λ s. s.first) (sym (same b.last (omega arith))) ∙ h.first;
        above = λ i lo hi.
            let e : (at i).first ≡ (by i).first = ap (λ s. s.first) (same i hi) in
            let a = h.above i lo hi in
            omega arith;
      }

  pub ranges-same : (at by : ℕ → Seat F C K) (lo : ℕ) (bs : List Settled) (hi : ℕ) →
      ((i : ℕ) → i < hi → at i ≡ by i) → Ranges at lo bs hi → Ranges by lo bs hi
  ranges-same at by lo [] hi same h = h
  ranges-same at by lo (b ∷ bs) hi same h =
      let w = ranges-bound at (suc b.last) bs hi h.2 in
      (h.0, settled-same at by b (λ i le. same i (omega arith)) h.1, ranges-same at by (suc b.last) bs hi same h.2)

  pub ranges-both : (at : ℕ → Seat F C K) (lo mid : ℕ) (bs cs : List Settled) (hi : ℕ) → Ranges at lo bs mid →
      Ranges at mid cs hi → Ranges at lo (bs ++ cs) hi
  ranges-both at lo mid [] [] hi h k = omega arith
  ranges-both at lo mid [] (c ∷ cs) hi h k = let l = k.0 in (omega arith, k.1, k.2)
  ranges-both at lo mid (b ∷ bs) cs hi h k = (h.0, h.1, ranges-both at (suc b.last) mid bs cs hi h.2 k)

-- ---- what is due

module _ {F C K : Type 0} (fun_at : F → Span) (class_at : C → Span) (block_at : K → Span) where
  module _ (S : Role → Tree F C K → Tree F C K) (n : ℕ → Node F C K) (old : ℕ → Tree F C K) where
    abbrev became : (ℕ → Tree F C K) → List Due → Type 0
    became now qs = Became fun_at class_at block_at S n old now qs

    pub became-first : (now : ℕ → Tree F C K) (qs bs : List Due) → became now (qs ++ bs) → became now qs
    became-first now [] bs h = tt
    became-first now (a ∷ qs) bs h = (h.0, became-first now qs bs h.1)

    pub became-second : (now : ℕ → Tree F C K) (qs bs : List Due) → became now (qs ++ bs) → became now bs
    became-second now [] bs h = h
    became-second now (a ∷ qs) bs h = became-second now qs bs h.1

    pub became-both : (now : ℕ → Tree F C K) (qs bs : List Due) → became now qs → became now bs → became now (qs ++ bs)
    became-both now [] bs h k = k
    became-both now (a ∷ qs) bs h k = (h.0, became-both now qs bs h.1 k)

    -- where all below the upper bound have the same seats
    pub became-same : (at by : ℕ → Seat F C K) (lo hi : ℕ) (qs : List Due) → ((i : ℕ) → i < hi → at i ≡ by i) →
        chain at lo (map (turned n) qs) hi ≡ true → became (λ i. (at i).tree) qs → became (λ i. (by i).tree) qs
    became-same at by lo hi [] same c h = tt
    became-same at by lo hi (a ∷ qs) same c h =
        let b = both_true c in
        let w = chain-bound at (suc a.part.at) (map (turned n) qs) hi b.1 in (
          ap (λ s. s.tree) (sym (same a.part.at (omega arith))) ∙ h.0,
          became-same at by (suc a.part.at) hi qs same b.1 h.1,
        )

  -- ---- nodes after others

  abbrev at_of : List (Node F C K) → ℕ → Seat F C K
  at_of = seat_in fun_at class_at block_at

  abbrev trees_of : List (Node F C K) → ℕ → Tree F C K
  trees_of = tree_in fun_at class_at block_at

  abbrev in_order : List (Node F C K) → Type 0
  in_order xs = ordered fun_at class_at block_at [] xs ≡ true

  pub seat-front : (zs ms : List (Node F C K)) (i : ℕ) → i < length zs → at_of zs i ≡ at_of (zs ++ ms) i
  seat-front zs ms i lt =
      let l = after_length fun_at class_at block_at [] zs in
      sym (ap (λ v. found v i) (after_append fun_at class_at block_at [] zs ms)
      ∙ after_keeps fun_at class_at block_at (seats_after fun_at class_at block_at [] zs) ms i (omega arith))

  pub seat-here : (zs ms : List (Node F C K)) (x : Node F C K) (i : ℕ) → length zs ≡ i →
      at_of (zs ++ x ∷ ms) i ≡ seat fun_at class_at block_at (at_of zs) i x
  seat-here zs ms x i l = seat_between fun_at class_at block_at zs ms (zs ++ x ∷ ms) x i refl l

  pub ordered-more : (zs : List (Node F C K)) (x : Node F C K) (i : ℕ) → length zs ≡ i → in_order zs →
      chain (at_of zs) 0 (slots x) i ≡ true → in_order (zs ++ x ∷ [])
  ordered-more zs x i l o c =
      let k = after_length fun_at class_at block_at [] zs in
      let e : length (seats_after fun_at class_at block_at [] zs) ≡ i = omega arith in
      ordered_both fun_at class_at block_at [] zs (x ∷ []) o
      (true_both (ap (chain (at_of zs) 0 (slots x)) e ∙ c) refl)

  module _ (xs : List (Node F C K)) where
    abbrev parts : List Due → List Part
    parts = turned_parts xs

    abbrev promise : ℕ → List Due → List (Node F C K) → ℕ → List Due → List Settled → Type 0
    promise = Promise fun_at class_at block_at xs

    abbrev met : ℕ → List (Node F C K) → List (Node F C K) → ℕ → List Due → ℕ → List Due → List Settled → Type 0
    met = Met fun_at class_at block_at xs

    -- no node
    none-met : (k : ℕ) (zs : List (Node F C K)) (i : ℕ) (qs : List Due) → in_order zs →
        chain (at_of zs) k (parts qs) i ≡ true → met k zs zs i qs i qs []
    none-met k zs i qs o c = record {
      order = o;
      apart = c;
      lowest = refl;
      above = λ l lo hi. absurd (omega arith);
      ranges = omega arith;
    }

    pub promise-none : (i : ℕ) (qs : List Due) → promise i qs [] i qs []
    promise-none i qs = record {
      long = omega arith;
      meets = λ k zs l o c. subst (λ u. met k zs u i qs i qs []) (sym (append-nil zs)) (none-met k zs i qs o c);
      became = λ S law k zs l o c h.
          subst (λ u. Became fun_at class_at block_at S (node_at xs) (trees_of xs) (trees_of u) qs)
          (sym (append-nil zs)) h;
    }

    -- nodes, and then more
    two-met : (k : ℕ) (zs us ws : List (Node F C K)) (i : ℕ) (qs : List Due) (j : ℕ) (bs : List Due) (l : ℕ)
        (es : List Due)
        (ms : List (Node F C K)) (cs ds : List Settled) → length us ≡ j → ws ≡ us ++ ms →
        met k zs us i qs j bs cs → met k us ws j bs l es ds → met k zs ws i qs l es (cs ++ ds)
    two-met k zs us ws i qs j bs l es ms cs ds lu e p q =
        let same : (t : ℕ) → t < j → at_of us t ≡ at_of ws t =
        λ t lt. seat-front us ms t (omega arith) ∙ ap (λ v. at_of v t) (sym e) in
        record {
          order = q.order;
          apart = q.apart;
          lowest = q.lowest ∙ p.lowest;
          above = λ t lo hi. ⊎_elim
              (λ lt.
              let a = p.above t lo lt in
              let f : (at_of us t).first ≡ (at_of ws t).first = ap (λ s. s.first) (same t lt) in
              omega arith)
              (λ ge. q.above t ge hi)
              (cases_lt t j);
          ranges = ranges-both (at_of ws) i j cs ds l (ranges-same (at_of us) (at_of ws) i cs j same p.ranges) q.ranges;
        }

    pub promise-then : (i : ℕ) (qs : List Due) (m1 : List (Node F C K)) (j : ℕ) (bs : List Due) (cs : List Settled)
        (m2 : List (Node F C K)) (l : ℕ) (es : List Due) (ds : List Settled) →
        promise i qs m1 j bs cs → promise j bs m2 l es ds → promise i qs (m1 ++ m2) l es (cs ++ ds)
    promise-then i qs m1 j bs cs m2 l es ds p q =
        let lp = p.long in
        let lq = q.long in
        let lm = length-append m1 m2 in
        record {
          long = omega arith;
          meets = λ k zs lz o c.
              let a = p.meets k zs lz o c in
              let lu = length-append zs m1 in
              let b = q.meets k (zs ++ m1) (omega arith) a.order a.apart in
              subst (λ u. met k zs u i qs l es (cs ++ ds)) (append_assoc zs m1 m2)
              (two-met k zs (zs ++ m1) ((zs ++ m1) ++ m2) i qs j bs l es m2 cs ds (omega arith) refl a b);
          became = λ S law k zs lz o c h.
              let a = p.meets k zs lz o c in
              let lu = length-append zs m1 in
              subst (λ u. Became fun_at class_at block_at S (node_at xs) (trees_of xs) (trees_of u) es)
              (append_assoc zs m1 m2)
              (q.became S law k (zs ++ m1) (omega arith) a.order a.apart (p.became S law k zs lz o c h));
        }

    -- a node without parts, before which something became what it is to
    leaf-met : (k : ℕ) (zs : List (Node F C K)) (i : ℕ) (qs : List Due) (q : Due) → length zs ≡ i → in_order zs →
        chain (at_of zs) k (parts (qs ++ q ∷ [])) i ≡ true →
        met k zs (zs ++ no_node ∷ []) i (qs ++ q ∷ []) (suc i) (qs ++ q ∷ []) []
    leaf-met k zs i qs q lz o c =
        let us = zs ++ no_node ∷ [] in
        let ps = parts (qs ++ q ∷ []) in
        let same : (t : ℕ) → t < i → at_of zs t ≡ at_of us t = λ t lt. seat-front zs (no_node ∷ []) t (omega arith) in
        let moved = chain-same (at_of zs) (at_of us) k ps i same c in
        let split : ps ≡ parts qs ++ turned (node_at xs) q ∷ [] = map-append (turned (node_at xs)) qs (q ∷ []) in
        let here : (at_of us i).first ≡ i = ap (λ s. s.first) (seat-here zs [] no_node i lz) in
        let bound = chain-bound (at_of zs) k ps i c in
        record {
          order = ordered-more zs no_node i lz o (le-leb 0 i (omega arith));
          apart = chain-up (at_of us) k ps i (suc i) (omega arith) moved;
          lowest =
              sym (floor-same (at_of zs) (at_of us) i k (suc i) ps same c)
              ∙ ap (floor (at_of zs) (suc i)) split
              ∙ floor-last (at_of zs) (suc i) i (parts qs) (turned (node_at xs) q)
              ∙ ap (floor (at_of zs) i) (sym split);
          above = λ l lo hi.
              let e : l ≡ i = omega arith in
              let f : (at_of us l).first ≡ i = ap (λ v. (at_of us v).first) e ∙ here in
              omega arith;
          ranges = omega arith;
        }

    pub promise-leaf : (i : ℕ) (qs : List Due) (q : Due) →
        promise i (qs ++ q ∷ []) (no_node ∷ []) (suc i) (qs ++ q ∷ []) []
    promise-leaf i qs q = record {
      long = omega arith;
      meets = λ k zs l o c. leaf-met k zs i qs q l o c;
      became = λ S law k zs l o c h.
          became-same S (node_at xs) (trees_of xs) (at_of zs) (at_of (zs ++ no_node ∷ [])) k i (qs ++ q ∷ [])
          (λ t lt. seat-front zs (no_node ∷ []) t (omega arith)) c h;
    }

    pub promise-leaves : (i n j : ℕ) (qs : List Due) (q : Due) → i + n ≡ j →
        promise i (qs ++ q ∷ []) (no_nodes n) j (qs ++ q ∷ []) []
    promise-leaves i zero j qs q e =
        let same : i ≡ j = omega arith in
        subst (λ v. promise i (qs ++ q ∷ []) [] v (qs ++ q ∷ []) []) same (promise-none i (qs ++ q ∷ []))
    promise-leaves i (suc n) j qs q e =
        let bs = qs ++ q ∷ [] in
        promise-then i bs (no_node ∷ []) (suc i) bs [] (no_nodes n) j bs [] (promise-leaf i qs q)
        (promise-leaves (suc i) n j qs q (omega arith))

    -- what became what it is to beside what was due before it
    pub promise-beside : (i : ℕ) (mid : List (Node F C K)) (j : ℕ) (q : Due) (cs : List Settled) (qs : List Due) →
        promise i [] mid j (q ∷ []) cs → promise i qs mid j (qs ++ q ∷ []) cs
    promise-beside i mid j q cs qs p =
        let lp = p.long in
        record {
          long = p.long;
          meets = λ k zs l o c.
              let n = chain-bound (at_of zs) k (parts qs) i c in
              let a = p.meets i zs l o (le-leb i i (omega arith)) in
              let same : (t : ℕ) → t < i → at_of zs t ≡ at_of (zs ++ mid) t =
              λ t lt. seat-front zs mid t (omega arith) in
              let split : parts (qs ++ q ∷ []) ≡ parts qs ++ turned (node_at xs) q ∷ [] =
              map-append (turned (node_at xs)) qs (q ∷ []) in
              let moved = chain-same (at_of zs) (at_of (zs ++ mid)) k (parts qs) i same c in
              record {
                order = a.order;
                apart = ap (λ v. chain (at_of (zs ++ mid)) k v j) split
                    ∙ chain-both (at_of (zs ++ mid)) k i (parts qs) (turned (node_at xs) q ∷ []) j moved a.apart;
                lowest = ap (floor (at_of (zs ++ mid)) j) split
                    ∙ floor-both (at_of (zs ++ mid)) (parts qs) (turned (node_at xs) q ∷ []) j
                    ∙ ap (λ v. floor (at_of (zs ++ mid)) v (parts qs)) a.lowest
                    ∙ sym (floor-same (at_of zs) (at_of (zs ++ mid)) i k i (parts qs) same c);
                above = λ t lo hi. let b = a.above t lo hi in omega arith;
                ranges = a.ranges;
              };
          became = λ S law k zs l o c h.
              let same : (t : ℕ) → t < i → at_of zs t ≡ at_of (zs ++ mid) t =
              λ t lt. seat-front zs mid t (omega arith) in
              became-both S (node_at xs) (trees_of xs) (trees_of (zs ++ mid)) qs (q ∷ [])
              (became-same S (node_at xs) (trees_of xs) (at_of zs) (at_of (zs ++ mid)) k i qs same c h)
              (p.became S law i zs l o (le-leb i i (omega arith)) tt);
        }

    -- the range of a root that is done
    pub promise-settled : (i : ℕ) (mid : List (Node F C K)) (j : ℕ) (q : Due) → q.part.at < j → suc q.part.at ≡ j →
        promise i [] mid j (q ∷ []) [] → promise i [] mid j (q ∷ []) (record { first = i; last = q.part.at } ∷ [])
    promise-settled i mid j q lt e p = record {
      long = p.long;
      meets = λ k zs l o c.
          let a = p.meets k zs l o c in
          let b = p.meets i zs l o (le-leb i i (omega arith)) in
          let f = fitting (at_of (zs ++ mid)) i (turned (node_at xs) q) (both_true b.apart).0 in
          let u = f.above in
          let v = f.first in
          record {
            order = a.order;
            apart = a.apart;
            lowest = a.lowest;
            above = a.above;
            ranges = (
              omega arith,
              record {
                order = omega arith;
                first = b.lowest;
                above = λ t lo hi. b.above t lo (omega arith);
              },
              omega arith,
            );
          };
      became = p.became;
    }
