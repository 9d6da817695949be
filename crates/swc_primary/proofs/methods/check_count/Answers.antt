use Rattle.std.proofs.Common.{not, ap, arith}
use Rattle.std.proofs.lemmas.Grind.{common_steps}
use Rattle.swc_primary.specs.Methods.{just_one}
use Rattle.swc_primary.proofs.Functions.{just-one}
use Rattle.swc_steps.proofs.Steps.{check_passes}
use Rattle.swc_primary.proofs.methods.check_count.Goals as goal

pub returns-then-len-eq1-clause-checks : goal.returns-then-len-eq1-clause-checks
returns-then-len-eq1-clause-checks g c =
    check_passes (not (not (just_one c.args.params.now.items))) g.met.I.Tokens.laws _
    (ap (λ b. not (not b))
    (just-one c.args.params.now.items (grind (arith, common_steps, c.len.ensures, c.if-len-eq1.true))))
