use Rattle.std.proofs.Common.{refl}
use Rattle.show.specs.Answers.{refused}
use Rattle.show.proofs.Judging.{answered, same_error}
use Rattle.show.proofs.answer.answer_to.Goals as goal

pub returns-in-Expr : goal.returns-in-Expr
returns-in-Expr c = λ heeded.
    rw c.in-Expr.is (answered c.in-Ok.ensures.tokens c.in-Ok.ensures.state c.answer_expr.ensures heeded)

pub returns-in-Pat : goal.returns-in-Pat
returns-in-Pat c = λ heeded.
    rw c.in-Pat.is (answered c.in-Ok.ensures.tokens c.in-Ok.ensures.state c.answer_pat.ensures heeded)

pub returns-in-Err : goal.returns-in-Err
returns-in-Err c = λ heeded.
    rw c.new-in-Err.ensures.items (refused {e = c.in-Err.fault} (record {
      too_long = λ long. same_error _ _ refl refl (c.in-Err.ensures.too_long long);
      inside = c.in-Err.ensures.refused;
    }))
