use Rattle.std.proofs.Common.{Some, sym, ap, ◌∙◌}
use Rattle.swc_input.specs.Kinds.{at_token}
use Rattle.swc_steps.specs.Parsing.{breaks_at}
use Rattle.swc_steps.proofs.Steps as s
use Rattle.swc_arrows.specs.Readers.{ends_statement, statement_ends}
use Rattle.swc_arrows.proofs.Dooms.{tries_later}
use Rattle.swc_arrows.proofs.Ends.{ends_line, ends_sign, ends_not, noted_here}
use Rattle.swc_arrows.proofs.bodies.check_operators_end.Goals as goal

pub returns-then-branch-clause-ends : goal.returns-then-branch-clause-ends
returns-then-branch-clause-ends g c = λ sure.
    s.on_seen c.in_ok-is_after_line_break.ensures.looks (λ x ts same e. ends_line x ts
    (ap breaks_at e ∙ sym c.in_ok-is_after_line_break.ensures.value ∙ c.if-branch.true))

pub returns-then-is_statement_end-clause-ends : goal.returns-then-is_statement_end-clause-ends
returns-then-is_statement_end-clause-ends g c = λ sure.
    s.on_seen c.in_ok-is_after_line_break.ensures.looks (λ x ts same e. ends_sign x ts
    (ap (at_token ends_statement) e ∙ sym c.is_statement_end.ensures ∙ c.if-is_statement_end.true))

pub returns-clause-tries : goal.returns-clause-tries
returns-clause-tries g c =
    tries_later c.emit_err.new.self c.emit_err.result (s.here_leads c.in_ok-is_after_line_break.ensures.looks)
    c.emit_err.ensures.tries

pub returns-clause-ends : goal.returns-clause-ends
returns-clause-ends g c =
    noted_here statement_ends (λ x ts. Some (tt, ts)) c.emit_err.new.self c.emit_err.result
    c.in_ok-is_after_line_break.ensures.looks (λ x ts same e. ends_not x ts
    (ap breaks_at e ∙ sym c.in_ok-is_after_line_break.ensures.value ∙ c.if-branch.false)
    (ap (at_token ends_statement) e ∙ sym c.is_statement_end.ensures ∙ c.if-is_statement_end.false))
    c.emit_err.ensures.tries c.emit_err.ensures.notes
