use Rattle.std.proofs.Common.{sym, arith}
use Rattle.swc_nodes.specs.Visits.{past, left}
use Rattle.swc_nodes.proofs.walk.turn.Goals as goal

pub returns-then-len-at : goal.returns-then-len-at
returns-then-len-at g c = past (omega (arith, c.number-at.ensures, c.len.ensures, c.if-len-at.true))

pub returns : goal.returns
returns g c =
    left {x = c.get.result.now} (omega (arith, c.number-at.ensures, c.len.ensures, c.if-len-at.false))
    (rw (sym c.number-at.ensures) c.get.ensures)
    (let o = c.args.due.now.ok.0 in omega (arith, c.len-rest.ensures)) c.in_ok-list.ensures c.in_ok-leave.ensures.around
    c.in_ok-leave.ensures.visits
