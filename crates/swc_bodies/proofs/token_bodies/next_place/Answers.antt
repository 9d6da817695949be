use Rattle.std.proofs.Common.{refl, sym, ◌∙◌}
use Rattle.swc_bodies.proofs.Steps.{stops-full, stops-here}
use Rattle.swc_bodies.proofs.token_bodies.next_place.Goals as goal

pub returns-then-is_full : goal.returns-then-is_full
returns-then-is_full g c = stops-full g.met.I.Tokens.laws c.args.input.now c.args.place c.out_of_memory.result
    c.out_of_memory.ensures

pub returns-in-None : goal.returns-in-None
returns-in-None g c =
    stops-here g.met.I.Tokens.laws c.args.input.now c.after_current.new.input c.unexpected.new.self c.args.place _
    c.unexpected.result refl
    c.after_current.ensures.looked (sym c.after_current.ensures.value ∙ c.in-None.is) c.unexpected.ensures.refused
