use Rattle.std.proofs.Common.{arith}
use Rattle.program_scopes.specs.Linked.{place_in}
use Rattle.program_scopes.proofs.Stacks.{pushed}
use Rattle.program_scopes.proofs.name_stack.NameStack.push.Goals as goal

pub invariant_of-self-in-Ok : goal.invariant_of-self-in-Ok
invariant_of-self-in-Ok g c =
    let len = c.self.inside.items.ok.0 in
    pushed c.self.inside.items.items c.push.new.self.items (place_in c.self.inside.last) (place_in c.note.new.last)
    (record { name = c.args.name; value = c.args.value; below = c.place_of-below.result }) c.len-index.result
    c.self.invariant c.in_ok-push.ensures.items c.place_of-below.ensures (omega (arith, len, c.len-index.ensures)) c.in-Ok.ensures.noted
