-- Nodes below a number stay: how that goes on from nodes that were appended alone.
use Rattle.std.proofs.Common.{◌≡◌, ℕ, ◌≤◌, List, [], ◌++◌, take, drop, refl, sym, ap, ◌∙◌, arith}
use Rattle.std.proofs.lemmas.List.{take-append-drop, take-take, take_at, append-nil}
use Rattle.swc_ast.specs.declared.spanned.Spanned.{Ghosts}
use Rattle.swc_cover.specs.Moving.{KeptTo}
use Rattle.swc_nodes.proofs.{Standing.grows-count, Standing.cut_kept, Chains.chain-down, Chains.floor-under}
use Rattle.swc_nodes.specs.GrowingNodes.{count, seat_at, first_at, Apart, From, Grows}
use Rattle.swc_nodes.specs.{Turning.KeptBelow, NumberedTrees.floor, NodeParts.Part, declared.nodes.Nodes.Nodes}

module _ {F C K : Type 0} {fg : Ghosts F} {cg : Ghosts C} {kg : Ghosts K} where
  -- what was appended is refined, from no number below those that were there: as if nodes were appended alone
  pub grows-kept : {ns ms ks : Nodes F C K fg cg kg} {k : ℕ} → Grows ns ms → count ns ≤ k → KeptTo k ms ks → Grows ns ks
  grows-kept {ns} {ms} {ks} {k} g le h =
      let n = count ns in
      let front : take n ks.nodes.items ≡ ns.nodes.items =
      sym (take-take n k ks.nodes.items le) ∙ ap (take n) h.kept ∙ take-take n k ms.nodes.items le ∙ cut_kept g in
      record {
        more = drop n ks.nodes.items;
        appended = sym (take-append-drop n ks.nodes.items) ∙ ap (λ v. v ++ drop n ks.nodes.items) front;
      }

  pub kept-to : {ns ms : Nodes F C K fg cg kg} {k : ℕ} → KeptBelow k ns ms → KeptTo k ns ms
  kept-to h = record { kept = h.kept; above = h.above }

  -- nodes that were appended alone: those below their count stay
  pub kept-grows : {ns ms : Nodes F C K fg cg kg} → Grows ns ms → KeptTo (count ns) ns ms
  kept-grows {ns} {ms} g =
      record {
        kept = cut_kept g ∙ sym (take_at ns.nodes.items [] (count ns) refl)
            ∙ ap (take (count ns)) (append-nil ns.nodes.items);
        above = grows-count g;
      }

  pub kept-then : {ns ms ks : Nodes F C K fg cg kg} {k : ℕ} → KeptTo k ns ms → KeptTo k ms ks → KeptTo k ns ks
  kept-then p q = record { kept = q.kept ∙ p.kept; above = q.above }

  pub kept-less : {ns ms : Nodes F C K fg cg kg} {j k : ℕ} → j ≤ k → KeptTo k ns ms → KeptTo j ns ms
  kept-less {ns} {ms} {j} {k} le h =
      let a = h.above in
      record {
        kept = sym (take-take j k ms.nodes.items le) ∙ ap (take j) h.kept ∙ take-take j k ns.nodes.items le;
        above = omega arith;
      }

  pub none-kept : {ns : Nodes F C K fg cg kg} {p : Part} → From 0 ns p → KeptTo (first_at ns p.at) ns ns
  none-kept {ns} f = let a = f.within in let b = f.first in record { kept = refl; above = omega arith }

  pub parts-kept : {ns : Nodes F C K fg cg kg} (ps : List Part) → Apart 0 ns ps →
      KeptTo (floor (seat_at ns) (count ns) ps) ns ns
  parts-kept {ns} ps a = record { kept = refl; above = floor-under (seat_at ns) 0 ps (count ns) a.chained }

  -- nodes were appended after those that stay
  pub kept-more : {ns ms ks : Nodes F C K fg cg kg} {k : ℕ} → KeptTo k ns ms → Grows ms ks → KeptTo k ns ks
  kept-more {ns} {ms} {ks} {k} h g =
      let a = h.above in
      kept-then h (kept-less a (kept-grows g))

  -- parts that lie apart, from a number on or from the first
  pub apart-any : {ns : Nodes F C K fg cg kg} {k : ℕ} {ps : List Part} → Apart k ns ps → Apart 0 ns ps
  apart-any {ns} {k} {ps} a = record { chained = chain-down (seat_at ns) k 0 ps (count ns) (omega arith) a.chained }
