use Rattle.std.proofs.Common.{ap, reverse, ◌∷◌}
use Rattle.program_scopes.specs.Layers.{all_of, marks_of}
use Rattle.program_scopes.proofs.layers.Layers.new.Goals as goal

pub returns : goal.returns
unfolding all_of marks_of
returns g c = record { things = c.new.ensures; marks = ap (λ ns. 0 ∷ reverse ns) c.new-2.ensures.items }
