use Rattle.swc_lexer.specs.Reads.{refused}
use Rattle.swc_lexer.proofs.comments.read_comments.Goals as goal

pub returns-clause-refused : goal.returns-clause-refused
returns-clause-refused c = rw c.out_of_memory.ensures refused
