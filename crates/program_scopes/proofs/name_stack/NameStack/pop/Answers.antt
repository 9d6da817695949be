use Rattle.program_scopes.specs.Linked.{place_in}
use Rattle.program_scopes.proofs.Stacks.{popped}
use Rattle.program_scopes.proofs.name_stack.NameStack.pop.Goals as goal

pub invariant_of-self : goal.invariant_of-self
invariant_of-self g c =
    popped c.self.inside.items.items c.pop.new.self.items (place_in c.self.inside.last) (place_in c.note_again.new.last) c.in-Some.item
    c.self.invariant c.in-Some.ensures.items c.note_again.ensures
