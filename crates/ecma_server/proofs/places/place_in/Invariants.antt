use Rattle.std.proofs.Common.{◌≡◌, ◌≤◌, ◌-◌, length}
use Rattle.ecma_server.specs.Places.{seek}
use Rattle.ecma_server.proofs.places.place_in.Given as goal

abbrev pub invariant-loop-at : goal.invariant-loop-at
invariant-loop-at l = record {
  seeks : seek l.units l.bytes (length l.bytes - l.at) l.left l.at ≡ seek l.units l.bytes (length l.bytes) l.fn.position 0;
  below : l.at ≤ length l.bytes;
}

abbrev pub decreases-loop-at : goal.decreases-loop-at
decreases-loop-at l = length l.bytes - l.at
