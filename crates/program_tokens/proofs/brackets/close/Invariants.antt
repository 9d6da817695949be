use Rattle.std.specs.Prelude.{vec_len}
use Rattle.program_tokens.proofs.brackets.close.Given as goal

-- each that is taken is open no more
abbrev pub decreases-loop-inner : goal.decreases-loop-inner
decreases-loop-inner l = vec_len l.open
