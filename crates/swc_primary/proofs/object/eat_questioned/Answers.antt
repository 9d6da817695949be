use Rattle.std.proofs.Common.{true}
use Rattle.swc_grammar.specs.Tokens.{is_equals, is_star}
use Rattle.swc_steps.proofs.Steps as s
use Rattle.swc_primary.proofs.object.eat_questioned.Goals as goal

pub returns-in-Cover-clause-acts : goal.returns-in-Cover-clause-acts
returns-in-Cover-clause-acts g c = s.eats_acts g.I.Tokens.model is_equals _ _ c.eat.result (c.eat.ensures.eats true)

pub returns-in-Method-AsyncGenerator-clause-acts : goal.returns-in-Method-AsyncGenerator-clause-acts
returns-in-Method-AsyncGenerator-clause-acts g c =
    s.eats_acts g.I.Tokens.model is_star _ _ c.eat-in-Method-AsyncGenerator.result
    (c.eat-in-Method-AsyncGenerator.ensures.eats true)

pub returns-in_default-clause-acts : goal.returns-in_default-clause-acts
returns-in_default-clause-acts g c = s.here g.met.I.Tokens.laws _
