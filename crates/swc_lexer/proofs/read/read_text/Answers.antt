use Rattle.swc_lexer.proofs.Sums.{answer_covers, read_answers, refused_answers}
use Rattle.swc_lexer.proofs.read.read_text.Goals as goal

pub returns-in-Ok-clause-answers : goal.returns-in-Ok-clause-answers
returns-in-Ok-clause-answers c = read_answers _ _ _ _ _ _ _ c.as_bytes.ensures.value c.new-reader.ensures.value
    c.in-Ok.ensures

pub returns-in-Ok-clause-covers : goal.returns-in-Ok-clause-covers
returns-in-Ok-clause-covers c = answer_covers _ _ _ _ _ _ _ c.as_bytes.ensures.value c.new-reader.ensures.value
    c.in-Ok.ensures

pub returns-clause-answers : goal.returns-clause-answers
returns-clause-answers c = refused_answers _ _ c.out_of_memory.ensures
