use Rattle.std.proofs.Common.{◌≡◌, [], rules}
use Rattle.swc_print.proofs.Added.{one_moved, none_left}
use Rattle.swc_print.proofs.print.move_onto.Goals as goal

pub loop-piece-preserved : goal.loop-piece-preserved
loop-piece-preserved c = one_moved c.loop-piece.stack.items c.loop-piece.pieces.items c.push.new.self.items
    c.pop.new.self.items c.in-Some.piece _ c.in-Some.ensures.items c.in_ok-push.ensures.items c.loop-piece.invariant

pub returns-clause-moved : goal.returns-clause-moved
returns-clause-moved c =
    let none : c.loop-piece.pieces.items ≡ [] = search rules in
    none_left c.loop-piece.stack.items c.loop-piece.pieces.items _ none c.loop-piece.invariant
