use Rattle.std.proofs.Common.{arith}
use Rattle.swc_lexer.proofs.Stacks.{innermost_is}
use Rattle.swc_lexer.proofs.stack.frame_at.Goals as goal

pub returns : goal.returns
returns c = innermost_is c.args.frames.now c.args.depth _ (omega arith) c.requires
