use Rattle.std.proofs.Common.{◌≡◌, length, take}
use Rattle.swc_context.proofs.atom.Short.new.Given as goal

-- the bytes that were copied, of those that are left
abbrev pub invariant-loop-at : goal.invariant-loop-at
invariant-loop-at l = (take l.at l.bytes ≡ take l.at l.text-2) × (length l.bytes ≡ 14)
