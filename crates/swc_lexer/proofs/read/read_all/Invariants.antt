use Rattle.std.specs.Prelude.{All}
use Rattle.swc_lexer.specs.Readings.{bound, reading_of, tokens_from}
use Rattle.swc_lexer.specs.Reads.{IsClean}
use Rattle.swc_lexer.proofs.Sums.{ReadTo}
use Rattle.swc_lexer.proofs.read.read_all.Given as goal

abbrev pub invariant-loop-tokens : goal.invariant-loop-tokens
invariant-loop-tokens l =
    ReadTo l.end l.text (tokens_from l.end l.text (reading_of l.fn.reader)) l.tokens.items l.reader.at
    (reading_of l.reader) × All IsClean l.tokens.items

abbrev pub decreases-loop-tokens : goal.decreases-loop-tokens
decreases-loop-tokens l = bound l.text (reading_of l.reader)
