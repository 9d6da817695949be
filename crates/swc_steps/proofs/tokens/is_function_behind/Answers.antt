use Rattle.std.proofs.Common.{Some, ap, ◌∙◌}
use Rattle.swc_steps.proofs.Ahead as ahead
use Rattle.swc_steps.proofs.tokens.is_function_behind.Goals as goal

pub returns-in-Some-true-clause-tells : goal.returns-in-Some-true-clause-tells
returns-in-Some-true-clause-tells g c =
    ahead.tells_function g.met.I.Tokens.laws (c.in-Some-true.is ∙ ap Some c.in-Some-true.field-0-test)
    c.peek_function.ensures.peeked c.has_linebreak_between_cur_and_peeked.ensures.peeked
    c.requires c.peek_function.ensures.value c.has_linebreak_between_cur_and_peeked.result
    c.has_linebreak_between_cur_and_peeked.ensures.value
