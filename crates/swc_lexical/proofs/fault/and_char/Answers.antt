use Rattle.std.proofs.Common.{◌+◌, ap, ◌∙◌}
use Rattle.swc_lexical.specs.Faults.{char_len}
use Rattle.swc_lexical.proofs.Runs.{rest_at-drop}
use Rattle.swc_lexical.proofs.fault.and_char.Goals as goal

pub returns-clause-value : goal.returns-clause-value
returns-clause-value c = ap (λ n. 1 + n) (c.char_len.ensures.value ∙ ap char_len (rest_at-drop c.args.rest.now 1))
