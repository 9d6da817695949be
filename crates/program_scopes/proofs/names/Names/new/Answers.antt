use Rattle.std.proofs.Common.{ap, reverse, ◌∷◌, true}
use Rattle.program_scopes.specs.Names.{kept_of, kept_in, vars_of, marks_of, before_function}
use Rattle.program_scopes.proofs.names.Names.new.Goals as goal

pub returns : goal.returns
unfolding kept_of kept_in vars_of marks_of before_function
returns c = record { in_blocks = c.new.ensures; vars = c.new-2.ensures; marks = ap (λ ms. record { is_function = true; in_blocks = 0; vars = 0; function = 0 } ∷ reverse ms) c.new-3.ensures.items }
