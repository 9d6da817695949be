use Rattle.swc_input.specs.Buffer.{ReadSome, to_come}
use Rattle.lower_rows.proofs.hooks.read_on.Given as goal

abbrev pub invariant-loop-input : goal.invariant-loop-input
invariant-loop-input g l = ReadSome g.I.Tokens.model l.fn.input l.input

-- each token that is consumed is one less to come
abbrev pub decreases-loop-input : goal.decreases-loop-input
decreases-loop-input g l = to_come g.I.Tokens.model l.input
