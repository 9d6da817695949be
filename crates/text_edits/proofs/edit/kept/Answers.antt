use Rattle.std.proofs.Common.{inl, inr}
use Rattle.text_edits.proofs.edit.kept.Goals as goal
use Rattle.text_edits.proofs.edit.kept.Goals.{then-edit-via-then-edit, then-edit-via-else-edit+then-edit-text}

pub returns-then-edit-at-clause-refused : goal.returns-then-edit-at-clause-refused
returns-then-edit-at-clause-refused c = c.if-edit-at.true

pub returns-then-edit-clause-refused : goal.returns-then-edit-clause-refused
returns-then-edit-clause-refused c = elim c.then-edit.branch [ then-edit-via-then-edit w ↦ inl w.if-edit.true | then-edit-via-else-edit+then-edit-text w ↦ inr w.if-edit-text.true ]
