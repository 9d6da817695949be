use Rattle.std.proofs.Common.{◌≡◌, [], ◌∷◌, refl, ap}
use Rattle.swc_print.specs.{Numbers.numbers, declared.pieces.Piece.Piece}
use Rattle.swc_print.proofs.Added.{text_taken, node_taken, last_taken}
use Rattle.swc_print.proofs.print.next_node.Goals.{in-Text, in-Count, in-Property}
use Rattle.swc_print.proofs.print.next_node.Goals as goal

pub loop-piece-preserved : goal.loop-piece-preserved
loop-piece-preserved c =
    let none : numbers (c.in-Some.piece ∷ []) ≡ [] = elim c.match-piece.branch [
      | in-Text w ↦ ap
          (λ (v : Piece). numbers (v ∷ [])) w.in-Text.is
      | in-Count w ↦ ap
          (λ (v : Piece). numbers (v ∷ [])) w.in-Count.is
      | in-Property w ↦ ap
          (λ (v : Piece). numbers (v ∷ [])) w.in-Property.is
    ] in
    text_taken c.loop-piece.stack.items c.pop.new.self.items c.in-Some.piece _ c.in-Some.ensures.items none
    c.loop-piece.invariant

pub returns-in-Node : goal.returns-in-Node
returns-in-Node c =
    node_taken c.loop-piece.stack.items c.pop.new.self.items c.in-Some.piece c.in-Node.number _ c.in-Some.ensures.items
    (ap (λ (v : Piece). numbers (v ∷ [])) c.in-Node.is) c.loop-piece.invariant

pub returns-in-Next : goal.returns-in-Next
returns-in-Next c =
    node_taken c.loop-piece.stack.items c.pop.new.self.items c.in-Some.piece c.in-Next.number _ c.in-Some.ensures.items
    (ap (λ (v : Piece). numbers (v ∷ [])) c.in-Next.is) c.loop-piece.invariant

pub returns-in-Last : goal.returns-in-Last
returns-in-Last c =
    last_taken c.loop-piece.stack.items c.pop.new.self.items c.push.new.self.items c.in-Some.piece _ c.in-Last.number _
    c.in-Some.ensures.items (ap (λ (v : Piece). numbers (v ∷ [])) c.in-Last.is) c.in_ok-push-in-Last.ensures.items
    refl c.loop-piece.invariant

pub returns-in-Bracketed : goal.returns-in-Bracketed
returns-in-Bracketed c =
    last_taken c.loop-piece.stack.items c.pop.new.self.items c.push-in-Bracketed.new.self.items c.in-Some.piece _
    c.in-Bracketed.number _ c.in-Some.ensures.items (ap (λ (v : Piece). numbers (v ∷ [])) c.in-Bracketed.is)
    c.in_ok-push-in-Bracketed.ensures.items refl c.loop-piece.invariant
