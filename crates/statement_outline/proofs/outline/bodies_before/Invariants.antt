use Rattle.std.specs.Prelude.{◌-◌, length}
use Rattle.statement_outline.proofs.outline.bodies_before.Given as goal

-- each step leaves out at least one body
abbrev pub decreases-loop-body : goal.decreases-loop-body
decreases-loop-body l = length l.bodies - l.at
