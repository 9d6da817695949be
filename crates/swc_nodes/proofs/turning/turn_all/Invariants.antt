use Rattle.std.proofs.Common.{◌≡◌, ◌⊎◌, map, length}
use Rattle.swc_nodes.specs.Roles.{due}
use Rattle.swc_nodes.specs.Settled.{seat_in, Ranges}
use Rattle.swc_nodes.proofs.Rounds.{AllGoing}
use Rattle.swc_nodes.proofs.Turns.{Put}
use Rattle.swc_nodes.proofs.turning.turn_all.Given as goal

-- at first what is settled may go on after the last part
abbrev pub invariant-loop-root : goal.invariant-loop-root
invariant-loop-root g l = record {
  going : AllGoing g.F.Spanned.place g.C.Spanned.place g.K.Spanned.place l.fn.nodes.items (map due l.fn.roots.items)
      l.end l.nodes.items (map due l.roots.items) l.turned.items l.settled.items;
  ranges : (l.roots.items ≡ l.fn.roots.items)
      ⊎ Ranges (seat_in g.F.Spanned.place g.C.Spanned.place g.K.Spanned.place l.fn.nodes.items) 0 l.settled.items l.end;
}

abbrev pub decreases-loop-root : goal.decreases-loop-root
decreases-loop-root g l = length l.roots.items

abbrev pub invariant-loop-block : goal.invariant-loop-block
invariant-loop-block g l =
    Put g.F.Spanned.place g.C.Spanned.place g.K.Spanned.place l.nodes.items l.settled.items l.turned.items

abbrev pub decreases-loop-block : goal.decreases-loop-block
decreases-loop-block g l = length l.turned.items
