use Rattle.std.proofs.Common.{◌≡◌, ◌++◌, drop, map}
use Rattle.swc_input.specs.Plain.{plain}
use Rattle.swc_ecma_parser.proofs.both_ways.copies.Given as goal

abbrev pub invariant-loop-token : goal.invariant-loop-token
invariant-loop-token l = map plain l.copied.items ++ map plain (drop l.token-index l.tokens) ≡ map plain l.tokens
