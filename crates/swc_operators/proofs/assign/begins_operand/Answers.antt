use Rattle.std.proofs.Common.{sym, ◌∙◌}
use Rattle.swc_grammar.proofs.Openings.{begun-opens, opens-begun}
use Rattle.swc_operators.proofs.assign.begins_operand.Goals as goal

pub returns-clause-all : goal.returns-clause-all
returns-clause-all c = λ x h. c.is_opening.ensures ∙ begun-opens x c.args.token.now h

pub returns-clause-only : goal.returns-clause-only
returns-clause-only c = λ x h. opens-begun x c.args.token.now (sym c.is_opening.ensures ∙ h)
