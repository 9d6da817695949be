use Rattle.std.proofs.Common.{◌+◌, ◌<◌, ◌^◌, length, arith}
use Rattle.swc_tokens.proofs.Moved.{InOrder_moved, MayMove_all}
use Rattle.swc_tokens.proofs.read_tokens_at.Goals as goal

-- the tokens end with the part, for which there is room
pub move_tokens-requires : goal.move_tokens-requires
move_tokens-requires c =
    let short : length c.args.text.now + c.args.start.0 < 2 ^ 32 = omega arith in
    let read = c.in-Ok.ensures in
    MayMove_all _ _ _ short read.spans read.spells read.no_errors

-- and they stay in their order
pub returns-in-Ok-clause-spans : goal.returns-in-Ok-clause-spans
returns-in-Ok-clause-spans c = rw c.move_tokens.ensures (InOrder_moved _ _ _ c.in-Ok.ensures.spans)
