use Rattle.std.proofs.Common.{sym, ◌∙◌, Some, refl, length}
use Rattle.std.proofs.lemmas.Bool.{ltb-true, ltb-false}
use Rattle.std.proofs.lemmas.Option.{slice_get_past, slice_get_read}
use Rattle.program_scopes.specs.Linked.{place_in}
use Rattle.program_scopes.proofs.Stacks.{by-place, at-some, at-none}
use Rattle.program_scopes.proofs.name_stack.NameStack.find.Goals as goal

pub returns-in-None : goal.returns-in-None
returns-in-None g c =
    let items = c.self.inside.items.items in let xs = c.deref.result.now in let i = c.in_ok-index.index in
    sym (by-place items c.args.self.now (place_in c.self.inside.last) c.args.name.now (Some i) c.self.view_is c.self.invariant (sym c.in_ok-index.ensures)
    ∙ at-none items xs i c.deref.ensures.value (sym (slice_get_past xs i (ltb-false i (length xs) (sym c.in-None.ensures.lookup.0)))))

pub returns-in-Some : goal.returns-in-Some
returns-in-Some g c =
    let items = c.self.inside.items.items in let xs = c.deref.result.now in let i = c.in_ok-index.index in
    sym (by-place items c.args.self.now (place_in c.self.inside.last) c.args.name.now (Some i) c.self.view_is c.self.invariant (sym c.in_ok-index.ensures)
    ∙ at-some items xs i c.in-Some.item.now c.deref.ensures.value
    (sym (slice_get_read xs (length xs) i c.in-Some.item.now refl (ltb-true i (length xs) (sym c.in-Some.ensures.lookup.0)) c.in-Some.ensures.lookup.1)))
