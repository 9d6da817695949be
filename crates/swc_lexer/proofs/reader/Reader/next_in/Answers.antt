use Rattle.std.proofs.Common.{arith}
use Rattle.swc_lexer.specs.Readings.{reading_of}
use Rattle.swc_lexer.proofs.Readings.{gives_ok}
use Rattle.swc_lexer.proofs.reader.Reader.next_in.Goals as goal

pub returns-in-Piece-clause-given : goal.returns-in-Piece-clause-given
returns-in-Piece-clause-given c =
    gives_ok c.args.end _ _ c.args.text.now (reading_of c.args.self.now) c.in-Piece.piece _ c.requires.runs
    c.as_bytes-bytes.ensures.value
    c.rest_from-rest.ensures c.what_comes.ensures.value c.in-Piece.is c.in-Piece.ensures.goal c.in-Piece.ensures.within
    c.requires.within
    (omega (arith, c.requires.small)) c.give.result _ c.give.ensures.given
