use Rattle.swc_lexer.specs.Readings.{bound, reading_of, tokens_of}
use Rattle.swc_lexer.proofs.Sums.{ReadTo}
use Rattle.swc_lexer.proofs.read.read_list.Given as goal

abbrev pub invariant-loop-reader : goal.invariant-loop-reader
invariant-loop-reader l = ReadTo l.end l.text (tokens_of l.end 0 l.fn.start l.fn.kind l.text) l.tokens.items l.reader.at
    (reading_of l.reader)

abbrev pub decreases-loop-reader : goal.decreases-loop-reader
decreases-loop-reader l = bound l.text (reading_of l.reader)
