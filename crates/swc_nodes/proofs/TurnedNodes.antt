-- What is said of lists of nodes that became what they are to, said of nodes.
use Rattle.std.proofs.Common.{◌≡◌, ℕ, true, List, [], map, length, take, drop, sym, ap, subst, ◌∙◌, arith, length-append}
use Rattle.std.proofs.lemmas.Bool.{le-leb}
use Rattle.std.proofs.lemmas.List.{length-take-le, take-append-drop}
use Rattle.swc_ast.specs.declared.spanned.Spanned.{Ghosts}
use Rattle.swc_nodes.specs.GrowingNodes.{count, seat_at, tree_at}
use Rattle.swc_nodes.specs.NumberedTrees.{chain, ordered}
use Rattle.swc_nodes.specs.Onward.{AllDone, AllKept, AllReady}
use Rattle.swc_nodes.specs.Recasting.{turned}
use Rattle.swc_nodes.specs.Roles.{Due, suit}
use Rattle.swc_nodes.specs.Settled.{seat_in, tree_in}
use Rattle.swc_nodes.specs.Turning.{node_at, AllTurned, Became, DuesApart, KeptBelow}
use Rattle.swc_nodes.specs.{declared.nodes.Nodes.Nodes, declared.turning.Settled.Settled}
use Rattle.swc_nodes.proofs.Standing.{ordered_front}

module _ {F C K : Type 0} {fg : Ghosts F} {cg : Ghosts C} {kg : Ghosts K} (ns : Nodes F C K fg cg kg)
    (qs : List Due) where
  pub turn-ready : DuesApart 0 ns qs → suit qs ≡ true →
      AllReady fg.place cg.place kg.place ns.nodes.items qs ns.settled.items
  unfolding seat_at
  turn-ready a s = record { order = ns.in_order; apart = a.chained; suits = s; ranges = ns.in_ranges.ranges }

  pub turn-kept : (ms : Nodes F C K fg cg kg) (cs : List Settled) →
      AllKept fg.place cg.place kg.place ns.nodes.items qs ms.nodes.items cs → (k : ℕ) → DuesApart k ns qs →
      KeptBelow k ns ms
  unfolding seat_at
  turn-kept ms cs h k a = let b = h.kept k a.chained in record { kept = b.0; above = b.1 }

  pub turn-turned : (ms : Nodes F C K fg cg kg) →
      AllDone fg.place cg.place kg.place ns.nodes.items qs ms.nodes.items → (k : ℕ) → DuesApart k ns qs →
      AllTurned k ns qs ms
  unfolding seat_at
  turn-turned ms d k a = λ S law.
      let xs = ns.nodes.items in
      let front = take d.first xs in
      let l = length-take-le d.first xs d.within in
      let o : ordered fg.place cg.place kg.place [] front ≡ true =
      ordered_front fg.place cg.place kg.place [] front (drop d.first xs)
      (ap (ordered fg.place cg.place kg.place []) (take-append-drop d.first xs) ∙ ns.in_order) in
      let c = le-leb k d.first (d.above k a.chained) in
      let m = d.promise.meets k front l o c in
      let b = d.promise.became S law k front l o c tt in
      let lp = d.promise.long in
      let la = length-append front d.mid in
      let e = ap length d.nodes in
      let n : d.end ≡ count ms = omega arith in
      record {
        apart = record {
          chained = subst
              (λ v. chain (seat_in fg.place cg.place kg.place ms.nodes.items) k
              (map (turned (node_at xs)) qs) v ≡ true) n
              (subst (λ v. chain (seat_in fg.place cg.place kg.place v) k (map (turned (node_at xs)) qs) d.end ≡ true)
              (sym d.nodes) m.apart);
        };
        stands = subst
            (λ v. Became fg.place cg.place kg.place S (node_at xs) (tree_at ns)
            (tree_in fg.place cg.place kg.place v) qs)
            (sym d.nodes) b;
      }
