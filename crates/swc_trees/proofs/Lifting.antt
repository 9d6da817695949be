-- Nodes are taken out for parts, the last first: all parts that are due lie apart, before what was taken. Then trees
-- are made of the nodes, from the last on: each finds those of its parts last in the list.
use Rattle.std.proofs.Common.{◌≡◌, ℕ, suc, ◌<◌, ◌≤◌, true, List, [], ◌∷◌, ◌++◌, map, reverse, length, Ok, refl, sym, ap, subst, ◌∙◌, arith}
use Rattle.std.proofs.lemmas.Bool.{le-leb}
use Rattle.std.proofs.lemmas.List.{append_cancel_right, length-map, map-append, reverse-append}
use Rattle.std.specs.{declared.alloc.Global.Global, declared.vec.Vec.Vec}
use Rattle.swc_context.specs.declared.span.Span.{Span}
use Rattle.swc_ast.specs.{Tree.Tree, declared.spanned.Spanned.Ghosts}
use Rattle.swc_nodes.specs.NumberedTrees.{Seat, floor, fits, chain}
use Rattle.swc_nodes.specs.NodeParts.{Part, form, view_ok, slots}
use Rattle.swc_nodes.specs.GrowingNodes.{count, seat_at, bare_at, first_at, Apart, Grows, Left, Popped}
use Rattle.swc_nodes.specs.{NodeTree.node_tree, Walking.part_of, declared.apart.PartId.PartId, declared.node.Node.Node, declared.nodes.Nodes.Nodes}
use Rattle.swc_nodes.proofs.Chains.{both_true, fitting, chain-cons, chain-bound, chain-first, chain-second, chain-both, chain-same, floor-both, floor-under}
use Rattle.swc_nodes.proofs.Held.{from-apart}
use Rattle.swc_nodes.proofs.Standing.{grows-same, grows-then, seat-later}
use Rattle.swc_trees.specs.Building.{part_kind, built_kind, built_tree, AreFor, Offers, Assembled}
use Rattle.swc_trees.specs.{Lifting.IsOf, Lifting.Reads, Moving.AreGiven, Moving.TakesOut, declared.built.Built.Built, declared.taking.Lifted.Lifted}
use Rattle.swc_trees.proofs.{Agreed.bare-same, Agreed.bare-node, Assembled.kinds-long, Assembled.split-even}

-- ---- parts that are due

module _ {F C K : Type 0} where
  -- parts lie apart from the smallest number on that is reached from them
  chain-floor : (at : ℕ → Seat F C K) (ps : List Part) (hi : ℕ) → chain at 0 ps hi ≡ true
      → chain at (floor at hi ps) ps hi ≡ true
  chain-floor at [] hi h = le-leb hi hi (omega arith)
  chain-floor at (p ∷ ps) hi h =
      let b = both_true h in let f = fitting at 0 p b.0 in
      chain-cons at (at p.at).first p ps hi (record { above = omega arith; first = f.first; view = f.view }) b.1

  floor-same : (at by : ℕ → Seat F C K) (ps : List Part) (hi : ℕ) → ((i : ℕ) → i < hi → at i ≡ by i)
      → chain at 0 ps hi ≡ true → floor at hi ps ≡ floor by hi ps
  floor-same at by [] hi same h = refl
  floor-same at by (p ∷ ps) hi same h =
      let w : suc p.at ≤ hi = chain-bound at (suc p.at) ps hi (both_true {a = fits at 0 p} h).1 in
      ap (λ s. s.first) (same p.at (omega arith))

module _ {F C K : Type 0} {fg : Ghosts F} {cg : Ghosts C} {kg : Ghosts K} where
  apart-last : {ns : Nodes F C K fg cg kg} (ps : List Part) (p : Part) → Apart 0 ns (ps ++ p ∷ []) → Apart 0 ns (p ∷ [])
  apart-last {ns} ps p a = record { chained = chain-second (seat_at ns) 0 ps (p ∷ []) (count ns) a.chained }

  apart-within : {ns : Nodes F C K fg cg kg} (ps : List Part) (p : Part) → Apart 0 ns (ps ++ p ∷ []) → p.at < count ns
  apart-within ps p a = (from-apart p [] (apart-last ps p a)).within

  -- the last part's node was taken out
  popped-first : {old new : Nodes F C K fg cg kg} {x : Node F C K} (p : Part) → Popped old p.at x new
      → first_at old p.at ≡ floor (seat_at new) (count new) (slots x)
  popped-first {new = new} {x = x} p o = ap (λ s. s.first) o.stood ∙ ap (λ n. floor (seat_at new) n (slots x))
      (sym o.counted)

  -- the other parts, which keep their seats
  others-chained : {old new : Nodes F C K fg cg kg} {x : Node F C K} (ps : List Part) (p : Part)
      → Apart 0 old (ps ++ p ∷ []) → Popped old p.at x new
      → chain (seat_at old) 0 ps (floor (seat_at new) (count new) (slots x)) ≡ true
  others-chained {old} ps p a o = subst (λ n. chain (seat_at old) 0 ps n ≡ true) (popped-first p o)
      (chain-first (seat_at old) 0 ps (p ∷ []) (count old) a.chained)

  others-same : {old new : Nodes F C K fg cg kg} {x : Node F C K} (p : Part) → Popped old p.at x new → (i : ℕ)
      → i < floor (seat_at new) (count new) (slots x) → seat_at old i ≡ seat_at new i
  others-same {new = new} {x = x} p o i lt = let u = floor-under (seat_at new) 0 (slots x)
      (count new) o.apart.chained in seat-later i o.grows (omega arith)

  -- they, and the node's parts
  due-apart : {old new : Nodes F C K fg cg kg} {x : Node F C K} (ps : List Part) (p : Part) → Apart 0 old (ps ++ p ∷ [])
      → Popped old p.at x new → Apart 0 new (ps ++ slots x)
  due-apart {old} {new} {x} ps p a o =
      let low = floor (seat_at new) (count new) (slots x) in
      let first = chain-same (seat_at old) (seat_at new) 0 ps low (others-same p o) (others-chained ps p a o) in
      record {
        chained = chain-both (seat_at new) 0 low ps (slots x) (count new) first
            (chain-floor (seat_at new) (slots x) (count new) o.apart.chained);
      }

  due-floor : {old new : Nodes F C K fg cg kg} {x : Node F C K} (ps : List Part) (p : Part) → Apart 0 old (ps ++ p ∷ [])
      → Popped old p.at x new → floor (seat_at new) (count new) (ps ++ slots x) ≡ floor (seat_at old) (count old)
      (ps ++ p ∷ [])
  due-floor {old} {new} {x} ps p a o =
      let low = floor (seat_at new) (count new) (slots x) in
      floor-both (seat_at new) ps (slots x) (count new) ∙ sym
      (floor-same (seat_at old) (seat_at new) ps low (others-same p o) (others-chained ps p a o))
      ∙ ap (λ n. floor (seat_at old) n ps) (sym (popped-first p o)) ∙ sym
      (floor-both (seat_at old) ps (p ∷ []) (count old))

  -- what parts stand for, among the nodes that are left
  given-left : (ns ms : Nodes F C K fg cg kg) (lo : ℕ) (ps : List Part) (hi : ℕ) → Grows ms ns → hi ≤ count ms
      → chain (seat_at ms) lo ps hi ≡ true → AreGiven (bare_at ns) (bare_at ms) ps
  given-left ns ms lo [] hi g le h = tt
  given-left ns ms lo (p ∷ ps) hi g le h =
      let c : chain (seat_at ms) (suc p.at) ps hi ≡ true = (both_true {a = fits (seat_at ms) lo p} h).1 in
      let w = chain-bound (seat_at ms) (suc p.at) ps hi c in
      (bare-same ns ms p.at p.at (seat-later p.at g (omega arith)), given-left ns ms (suc p.at) ps hi g le c)

  popped-of : {old now new : Nodes F C K fg cg kg} (ps : List Part) (l : Lifted F C K) → Grows now old
      → Apart 0 now (ps ++ part_of l.part ∷ []) → Popped now (part_of l.part).at l.node new
      → IsOf fg.place cg.place kg.place (bare_at old) l
  popped-of {old} {now} {new} ps l g a o =
      let p = part_of l.part in
      let from = from-apart p [] (apart-last ps p a) in
      record {
        view = ap (λ s. view_ok p.view s.form) (sym o.stood) ∙ from.view;
        of = bare_at new;
        given = given-left old new 0 (slots l.node) (count new) (grows-then o.grows g) (omega arith) o.apart.chained;
        stands = bare-same old now p.at p.at (seat-later p.at g from.within) ∙ bare-node now new p.at l.node o.stood;
      }

  -- ---- nodes that were taken out

  -- for all parts, where others are due yet
  pub record Lifting (all : List Part) (old : Nodes F C K fg cg kg) (due : List Part) (ls : List (Lifted F C K))
      (now : Nodes F C K fg cg kg) : Type 0 where
    pub grows : Grows now old
    pub low : floor (seat_at now) (count now) due ≡ floor (seat_at old) (count old) all
    pub apart : Apart 0 now due
    pub reads : Reads fg.place cg.place kg.place (bare_at old) (reverse ls) due all

  pub lifting-starts : {old : Nodes F C K fg cg kg} {ls : List (Lifted F C K)} (all : List Part) → Apart 0 old all
      → ls ≡ [] → Lifting all old all ls old
  lifting-starts {old} all a e = record {
    grows = grows-same old;
    low = refl;
    apart = a;
    reads = subst (λ v. Reads fg.place cg.place kg.place (bare_at old) (reverse v) all all) (sym e) refl;
  }

  lifting-more : {all : List Part} {old now new : Nodes F C K fg cg kg} {ls : List (Lifted F C K)} (ps : List Part)
      (l : Lifted F C K) → Popped now (part_of l.part).at l.node new
      → Lifting all old (ps ++ part_of l.part ∷ []) ls now → Lifting all old (ps ++ slots l.node) (ls ++ l ∷ []) new
  lifting-more {all} {old} {ls = ls} ps l o t = record {
    grows = grows-then o.grows t.grows;
    low = due-floor ps (part_of l.part) t.apart o ∙ t.low;
    apart = due-apart ps (part_of l.part) t.apart o;
    reads =
        subst (λ v. Reads fg.place cg.place kg.place (bare_at old) v (ps ++ slots l.node) all)
        (sym (reverse-append ls (l ∷ [])))
        (ps, (refl, (popped-of ps l t.grows t.apart o, t.reads)));
  }

  pub lifting-left : {all due : List Part} {old now : Nodes F C K fg cg kg} {ls : List (Lifted F C K)}
      → Lifting all old due ls now → Left (floor (seat_at old) (count old) all) old now
  lifting-left {due = due} {now = now} t =
      let u = floor-under (seat_at now) 0 due (count now) t.apart.chained in let e = t.low in
      record { grows = t.grows; above = omega arith }

  pub lifting-ends : {all : List Part} {old now : Nodes F C K fg cg kg} {ls : List (Lifted F C K)} {is : List PartId}
      → is ≡ [] → Lifting all old (map part_of is) ls now
      → Reads fg.place cg.place kg.place (bare_at old) (reverse ls) [] all
  lifting-ends {all} {old} {ls = ls} e t =
      subst (λ v. Reads fg.place cg.place kg.place (bare_at old) (reverse ls) (map part_of v) all) e t.reads

  -- the parts by their numbers
  last-due : {all : List Part} {old now : Nodes F C K fg cg kg} {ls : List (Lifted F C K)} {is : List PartId}
      (less : List PartId) (i : PartId) → is ≡ less ++ i ∷ [] → Lifting all old (map part_of is) ls now
      → Lifting all old (map part_of less ++ part_of i ∷ []) ls now
  last-due {all} {old} {now} {ls} less i e t = subst (λ v. Lifting all old v ls now)
      (ap (map part_of) e ∙ map-append part_of less (i ∷ [])) t

  pub next-within : {all : List Part} {old now : Nodes F C K fg cg kg} {ls : List (Lifted F C K)} {is : List PartId}
      (less : List PartId) (i : PartId) → is ≡ less ++ i ∷ [] → Lifting all old (map part_of is) ls now
      → (part_of i).at < count now
  next-within less i e t = apart-within (map part_of less) (part_of i) (last-due less i e t).apart

  next-lifting : {all : List Part} {old now new : Nodes F C K fg cg kg} {ls : List (Lifted F C K)} {is : List PartId}
      {n : ℕ} (less : List PartId) (l : Lifted F C K) → is ≡ less ++ l.part ∷ [] → n ≡ (part_of l.part).at
      → Popped now n l.node new → Lifting all old (map part_of is) ls now →
      Lifting all old (map part_of less ++ slots l.node) (ls ++ l ∷ []) new
  next-lifting {now = now} {new = new} less l e n o t =
      lifting-more (map part_of less) l (subst (λ v. Popped now v l.node new) n o) (last-due less l.part e t)

  pub next-left : {all : List Part} {old now new : Nodes F C K fg cg kg} {ls : List (Lifted F C K)} {is : List PartId}
      {n : ℕ} {x : Node F C K} (less : List PartId) (i : PartId) → is ≡ less ++ i ∷ [] → n ≡ (part_of i).at
      → Popped now n x new → Lifting all old (map part_of is) ls now →
      Left (floor (seat_at old) (count old) all) old new
  next-left {x = x} less i e n o t = lifting-left (next-lifting less (record { part = i; node = x }) e n o t)

  pub lifting-step : {all : List Part} {old now new : Nodes F C K fg cg kg} {ls more : List (Lifted F C K)}
      {is : List PartId} {n : ℕ} {x y : Node F C K} (less then : List PartId) (i : PartId) → is ≡ less ++ i ∷ []
      → n ≡ (part_of i).at → Popped now n x new →
      map part_of then ≡ map part_of less ++ slots x → y ≡ x → more ≡ ls ++ record { part = i; node = y } ∷ []
      → Lifting all old (map part_of is) ls now → Lifting all old (map part_of then) more new
  lifting-step {all} {old} {now} {new} {ls} {x = x} less then i e n o s same m t =
      let made = next-lifting less (record { part = i; node = x }) e n o t in
      subst (λ v. Lifting all old (map part_of then) v new)
      (sym (m ∙ ap (λ v. ls ++ record { part = i; node = v } ∷ []) same))
      (subst (λ v. Lifting all old v (ls ++ record { part = i; node = x } ∷ []) new) (sym s) made)

-- ---- trees that were made

module _ {F C K : Type 0} (fun_at : F → Span) (class_at : C → Span) (block_at : K → Span) where
  -- of the nodes after those that are left: they stand for parts, in whose place the others' parts are
  pub record Raising (at : ℕ → Tree F C K) (all : List Part) (ls : List (Lifted F C K))
      (bs : List (Built F C K)) : Type 0 where
    pub due : List Part
    pub are : AreFor fun_at class_at block_at at due bs
    pub reads : Reads fun_at class_at block_at at (reverse ls) due all

  -- the last trees are those of a node's parts, the first those of the other parts
  are-both : (at : ℕ → Tree F C K) (ps qs : List Part) (bs own old : List (Built F C K)) → old ≡ bs ++ own
      → map built_kind own ≡ map part_kind qs → AreFor fun_at class_at block_at at (ps ++ qs) old
      → AreFor fun_at class_at block_at at ps bs × AreFor fun_at class_at block_at at qs own
  are-both at ps qs bs own old e k a =
      let tree = built_tree fun_at class_at block_at in
      let of : Part → Tree F C K = λ p. at p.at in
      let w : map built_kind bs ++ map part_kind qs ≡ map part_kind ps ++ map part_kind qs =
      ap (λ v. map built_kind bs ++ v) (sym k) ∙ sym (map-append built_kind bs own) ∙ sym
      (ap (map built_kind) e) ∙ a.0 ∙ map-append part_kind ps qs in
      let first = append_cancel_right (map built_kind bs) (map part_kind ps) (map part_kind qs) w in
      let n : length (map tree bs) ≡ length (map of ps) =
      length-map bs tree ∙ kinds-long ps bs first ∙ sym (length-map ps of) in
      let t : map tree bs ++ map tree own ≡ map of ps ++ map of qs =
      sym (map-append tree bs own) ∙ sym (ap (map tree) e) ∙ a.1 ∙ map-append of ps qs in
      let s = split-even (map tree bs) (map tree own) (map of ps) (map of qs) n t in
      ((first, s.0), (k, s.1))

  are-more : (at : ℕ → Tree F C K) (ps : List Part) (p : Part) (bs : List (Built F C K)) (b : Built F C K)
      → AreFor fun_at class_at block_at at ps bs → built_kind b ≡ part_kind p
      → built_tree fun_at class_at block_at b ≡ at p.at
      → AreFor fun_at class_at block_at at (ps ++ p ∷ []) (bs ++ b ∷ [])
  are-more at ps p bs b a k t =
      let tree = built_tree fun_at class_at block_at in
      let of : Part → Tree F C K = λ q. at q.at in (
        map-append built_kind bs (b ∷ []) ∙ ap (λ v. v ++ built_kind b ∷ []) a.0 ∙ ap
            (λ v. map part_kind ps ++ v ∷ []) k ∙ sym (map-append part_kind ps (p ∷ [])),
        map-append tree bs (b ∷ []) ∙ ap (λ v. v ++ tree b ∷ []) a.1 ∙ ap (λ v. map of ps ++ v ∷ []) t ∙ sym
            (map-append of ps (p ∷ [])),
      )

given-map : {F C K : Type 0} (at of : ℕ → Tree F C K) (ps : List Part) → AreGiven at of ps
    → map (λ p. at p.at) ps ≡ map (λ p. of p.at) ps
given-map at of [] h = refl
given-map at of (p ∷ ps) h = ap (λ v. v ∷ map (λ q. at q.at) ps) h.0 ∙ ap (λ v. of p.at ∷ v) (given-map at of ps h.1)

module _ {F C K : Type 0} {fun_at : F → Span} {class_at : C → Span} {block_at : K → Span} where
  pub raising-starts : {at : ℕ → Tree F C K} {all : List Part} {ls : List (Lifted F C K)} {bs : List (Built F C K)}
      → bs ≡ [] → Reads fun_at class_at block_at at (reverse ls) [] all → Raising fun_at class_at block_at at all ls bs
  raising-starts {at} e r = record {
    due = [];
    are = subst (λ v. AreFor fun_at class_at block_at at [] v) (sym e)
        (refl, refl);
    reads = r;
  }

  last-read : {at : ℕ → Tree F C K} {due : List Part} (all : List Part) {ls : List (Lifted F C K)}
      (less : List (Lifted F C K)) (l : Lifted F C K) → ls ≡ less ++ l ∷ []
      → Reads fun_at class_at block_at at (reverse ls) due all
      → Reads fun_at class_at block_at at (l ∷ reverse less) due all
  last-read {at} {due} all less l e r = subst (λ v. Reads fun_at class_at block_at at v due all)
      (ap reverse e ∙ reverse-append less (l ∷ [])) r

  pub raising-offers : {at : ℕ → Tree F C K} {all : List Part} {ls : List (Lifted F C K)} {bs : List (Built F C K)}
      (less : List (Lifted F C K)) (l : Lifted F C K) → ls ≡ less ++ l ∷ []
      → Raising fun_at class_at block_at at all ls bs → Offers (slots l.node) bs
  raising-offers {all = all} less l e t =
      let r = last-read all less l e t.reads in
      record {
        front = map part_kind r.0;
        ends = t.are.0 ∙ ap (map part_kind) r.1.0 ∙ map-append part_kind r.0
            (slots l.node);
      }

  pub raising-view : {at : ℕ → Tree F C K} {all : List Part} {ls : List (Lifted F C K)} {bs : List (Built F C K)}
      (less : List (Lifted F C K)) (l : Lifted F C K) → ls ≡ less ++ l ∷ []
      → Raising fun_at class_at block_at at all ls bs → view_ok (part_of l.part).view (form l.node) ≡ true
  raising-view {all = all} less l e t = (last-read all less l e t.reads).1.1.0.view

  pub raising-more : {at : ℕ → Tree F C K} {all : List Part} {ls : List (Lifted F C K)}
      {bs new more : List (Built F C K)} (less : List (Lifted F C K)) (l : Lifted F C K) (b : Built F C K)
      → ls ≡ less ++ l ∷ [] → built_kind b ≡ part_kind (part_of l.part) →
      Assembled fun_at class_at block_at (slots l.node)
      (λ of. built_tree fun_at class_at block_at b ≡ node_tree fun_at class_at block_at of l.node) bs new
      → more ≡ new ++ b ∷ [] → Raising fun_at class_at block_at at all ls bs
      → Raising fun_at class_at block_at at all less more
  raising-more {at} {all} {bs = bs} {new = new} less l b e k a m t =
      let r = last-read all less l e t.reads in
      let x = r.1.1.0 in
      let both = are-both fun_at class_at block_at at r.0 (slots l.node) new a.own bs a.split a.kinds
      (subst (λ v. AreFor fun_at class_at block_at at v bs) r.1.0 t.are) in
      let made = a.moved x.of (both.1.1 ∙ given-map at x.of (slots l.node) x.given) ∙ sym x.stands in
      record {
        due = r.0 ++ part_of l.part ∷ [];
        are = subst (λ v. AreFor fun_at class_at block_at at (r.0 ++ part_of l.part ∷ []) v) (sym m)
            (are-more fun_at class_at block_at at r.0 (part_of l.part) new b both.0 k made);
        reads = r.1.1.1;
      }

  raising-ends : {at : ℕ → Tree F C K} {all : List Part} {ls : List (Lifted F C K)} {bs : List (Built F C K)} → ls ≡ []
      → Raising fun_at class_at block_at at all ls bs → AreFor fun_at class_at block_at at all bs
  raising-ends {at} {all} {bs = bs} e t =
      let same : t.due ≡ all = subst (λ v. Reads fun_at class_at block_at at (reverse v) t.due all) e t.reads in
      subst (λ v. AreFor fun_at class_at block_at at v bs) same t.are

module _ {F C K : Type 0} {fg : Ghosts F} {cg : Ghosts C} {kg : Ghosts K} where
  pub taken-out : {old now : Nodes F C K fg cg kg} {all : List Part} {ls : List (Lifted F C K)}
      {bs : Vec (Built F C K) Global} → Left (floor (seat_at old) (count old) all) old now → ls ≡ []
      → Raising fg.place cg.place kg.place (bare_at old) all ls bs.items →
      TakesOut all (λ at v. AreFor fg.place cg.place kg.place at all v.items) old (Ok bs) now
  taken-out {old} {all = all} l e t =
      let are = raising-ends e t in
      record { left = l; moved = λ at h. (are.0, are.1 ∙ sym (given-map at (bare_at old) all h)) }
