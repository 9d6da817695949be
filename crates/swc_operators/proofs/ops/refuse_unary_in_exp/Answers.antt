use Rattle.std.proofs.Common.{◌∙◌, sym, refl}
use Rattle.swc_steps.proofs.Steps.{not_true, not_false}
use Rattle.swc_operators.proofs.ops.refuse_unary_in_exp.Goals as goal

pub returns-then-is_unary_in_exp-clause-refuses : goal.returns-then-is_unary_in_exp-clause-refuses
returns-then-is_unary_in_exp-clause-refuses g c = (
  c.syntax_error.ensures.refuses (λ e. cc),
  not_true _ (sym c.is_unary_in_exp.ensures ∙ c.if-is_unary_in_exp.true),
)

pub returns-clause-passes : goal.returns-clause-passes
returns-clause-passes g c = (refl, not_false _ (sym c.is_unary_in_exp.ensures ∙ c.if-is_unary_in_exp.false))
