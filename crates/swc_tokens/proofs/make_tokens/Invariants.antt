use Rattle.std.proofs.Common.{◌≡◌, take}
use Rattle.swc_tokens.specs.Found.{all_made}
use Rattle.swc_tokens.proofs.make_tokens.Given as goal

-- those before this one are made
abbrev pub invariant-loop-place : goal.invariant-loop-place
invariant-loop-place l = l.tokens.items ≡ all_made l.text (take l.place-index l.found)
