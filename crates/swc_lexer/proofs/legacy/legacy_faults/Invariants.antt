use Rattle.swc_lexer.specs.Legacy.{FaultsTo}
use Rattle.swc_lexer.proofs.legacy.legacy_faults.Given as goal

abbrev pub invariant-loop-token : goal.invariant-loop-token
invariant-loop-token l = FaultsTo l.tokens l.token-index l.faults.items
