use Rattle.std.proofs.Common.{◌≡◌, ◌-◌, ◌++◌, length, drop, ◌⊎◌}
use Rattle.std.specs.List.{Contains}
use Rattle.std.specs.String.{string_bytes}
use Rattle.text_edits.specs.declared.edit.Edit.{Edit}
use Rattle.text_edits.specs.Edits.{spliced}
use Rattle.text_edits.proofs.edit.edited.Given as goal

abbrev pub invariant-loop-number : goal.invariant-loop-number
invariant-loop-number l = record {
  made : string_bytes l.out ++ spliced l.text l.at (drop l.number l.edits) ≡ spliced l.text 0 l.edits;
  from : (l.at ≡ 0) ⊎ ((e : Edit) × (Contains l.edits e × (l.at ≡ e.end)));
}

abbrev pub decreases-loop-number : goal.decreases-loop-number
decreases-loop-number l = length l.edits - l.number
