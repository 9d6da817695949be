use Rattle.std.proofs.Common.{sym, ap, ◌∙◌}
use Rattle.swc_input.specs.Kinds.{at_token}
use Rattle.swc_grammar.specs.Arrows.{is_arrow}
use Rattle.swc_steps.specs.Parsing.{breaks_at, scope}
use Rattle.swc_steps.proofs.Steps as s
use Rattle.swc_arrows.proofs.NameReads.{line_free, line_joined, line_refuses, line_unasked, on_at}
use Rattle.swc_arrows.proofs.names.refuse_arrow_line.Goals.{else-branch-via-then-branch+else-is_sign, else-branch-via-else-branch}
use Rattle.swc_arrows.proofs.names.refuse_arrow_line.Goals as goal

pub returns-then-not-syntax-clause-continues : goal.returns-then-not-syntax-clause-continues
returns-then-not-syntax-clause-continues g c = λ sure.
    on_at g.met.I.Tokens.laws c.args.input.now
    (λ ts. line_unasked (scope g.I.Tokens.model c.args.input.now) ts
    (ap (λ v. v.pedantic) (sym c.syntax-syntax.ensures) ∙ s.not_true _ c.if-not-syntax.true))

pub returns-then-is_sign-clause-continues : goal.returns-then-is_sign-clause-continues
returns-then-is_sign-clause-continues g c = λ sure.
    let l = c.in_ok-is_after_line_break.ensures.looks in
    s.unheard_at l (λ x ts same e. line_refuses x ts
    (ap (λ y. y.syntax.pedantic) (same ∙ s.read_scope l.laws l.looked.look.read)
    ∙ ap (λ v. v.pedantic) (sym c.syntax-syntax.ensures) ∙ s.not_false _ c.if-not-syntax.false)
    (ap breaks_at e ∙ sym c.in_ok-is_after_line_break.ensures.value ∙ c.if-branch.true)
    (ap (at_token is_arrow) e ∙ sym c.is_sign.ensures.value ∙ c.if-is_sign.true)) (c.syntax_error.ensures.refuses
    (λ e. cc))

pub returns-clause-continues : goal.returns-clause-continues
returns-clause-continues g c = λ sure.
    s.on_seen c.in_ok-is_after_line_break.ensures.looks (λ x ts same e. elim c.else-branch.branch [
      | else-branch-via-then-branch+else-is_sign w ↦ line_free x ts
          (ap (at_token is_arrow) e ∙ sym w.is_sign.ensures.value ∙ w.if-is_sign.false)
      | else-branch-via-else-branch w ↦ line_joined x ts
          (ap breaks_at e ∙ sym c.in_ok-is_after_line_break.ensures.value ∙ w.if-branch.false)
    ])
