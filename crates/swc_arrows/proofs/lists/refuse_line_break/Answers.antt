use Rattle.std.proofs.Common.{sym, ap, ◌∙◌}
use Rattle.swc_steps.specs.Parsing.{breaks_at}
use Rattle.swc_steps.proofs.Steps as s
use Rattle.swc_arrows.proofs.ListReads.{line_here, line_breaks}
use Rattle.swc_arrows.proofs.lists.refuse_line_break.Goals as goal

pub returns-then-branch-clause-continues : goal.returns-then-branch-clause-continues
returns-then-branch-clause-continues g c = λ sure.
    s.unheard_at c.in_ok-is_after_line_break.ensures.looks (λ x ts same e. line_breaks x ts
    (ap breaks_at e ∙ sym c.in_ok-is_after_line_break.ensures.value ∙ c.if-branch.true))
    (c.syntax_error.ensures.refuses (λ e. cc))

pub returns-clause-continues : goal.returns-clause-continues
returns-clause-continues g c = λ sure.
    s.on_seen c.in_ok-is_after_line_break.ensures.looks (λ x ts same e. line_here x ts
    (ap breaks_at e ∙ sym c.in_ok-is_after_line_break.ensures.value ∙ c.if-branch.false))
