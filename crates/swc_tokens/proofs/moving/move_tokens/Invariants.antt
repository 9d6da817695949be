use Rattle.std.proofs.Common.{◌≡◌, ◌++◌, map, take, drop}
use Rattle.swc_tokens.specs.Moved.{moved_token}
use Rattle.swc_tokens.proofs.moving.move_tokens.Given as goal

-- the tokens before this one are moved
abbrev pub invariant-loop-token : goal.invariant-loop-token
invariant-loop-token l =
    l.token-items ≡ map (moved_token l.by) (take l.token-index l.fn.tokens.items)
    ++ drop l.token-index l.fn.tokens.items
