use Rattle.std.proofs.Common.{◌≡◌, length}
use Rattle.swc_grammar.specs.Parts.{repeated}
use Rattle.swc_steps.proofs.regex.repeated.Given as goal

-- what comes twice among the flags that are left comes twice among all
abbrev pub invariant-loop-flag : goal.invariant-loop-flag
invariant-loop-flag l = repeated l.rest ≡ repeated l.fn.flags

abbrev pub decreases-loop-flag : goal.decreases-loop-flag
decreases-loop-flag l = length l.rest
