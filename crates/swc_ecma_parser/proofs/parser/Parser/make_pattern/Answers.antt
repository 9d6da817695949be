use Rattle.std.proofs.Common.{ap}
use Rattle.swc_steps.proofs.Steps.{spent, unheard_memory}
use Rattle.swc_ecma_parser.proofs.parser.Parser.make_pattern.Goals as goal

pub returns-in-Err-remember-clause-makes : goal.returns-in-Err-remember-clause-makes
returns-in-Err-remember-clause-makes g c = record {
  checks = λ sure. unheard_memory (record {
    spends = spent (c.in-Ok.ensures.checks sure).leads;
    kind =
        ap (λ v. v.kind) c.out_of_memory.ensures;
  });
  notes = λ n. absurd (n (ap (λ v. v.kind) c.out_of_memory.ensures));
  makes = tt;
}
