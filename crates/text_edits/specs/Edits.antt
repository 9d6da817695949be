-- The text that edits make: what is outside of them, and their texts in place of what is within.
use Rattle.std.specs.Prelude.{ℕ, ◌-◌, ◌<◌, ◌++◌, List, [], ◌∷◌, take, drop, length, ⊤, ◌⊎◌}
use Rattle.std.specs.List.{Contains}
use Rattle.std.specs.String.{string_bytes}
use Rattle.text_edits.specs.declared.edit.BadEdit.{BadEdit}
use Rattle.text_edits.specs.declared.edit.BadEdit.TheVariants.{Outside, Overlaps, WithinCharacter, OutOfMemory}
use Rattle.text_edits.specs.declared.edit.Edit.{Edit}

-- from a byte of the text on
unfoldable pub spliced : List ℕ → ℕ → List Edit → List ℕ
spliced text at [] = drop at text
spliced text at (e ∷ es) = take (e.start - at) (drop at text) ++ (string_bytes e.text ++ spliced text e.end es)

-- why an edit is refused: one of the edits ends before it begins or after the text, or begins before one before it ends
abbrev pub Wrong : List ℕ → List Edit → BadEdit → Type 0
Wrong text es (Outside n) = (e : Edit) × (Contains es e × ((e.end < e.start) ⊎ (length text < e.end)))
Wrong text es (Overlaps n) = (a : Edit) × ((b : Edit) × (Contains es a × (Contains es b × (b.start < a.end))))
Wrong text es (WithinCharacter n) = ⊤
Wrong text es OutOfMemory = ⊤

-- the same of one edit, after another that ends at a byte
abbrev pub WrongAt : List ℕ → ℕ → Edit → BadEdit → Type 0
WrongAt text at e (Outside n) = (e.end < e.start) ⊎ (length text < e.end)
WrongAt text at e (Overlaps n) = e.start < at
WrongAt text at e (WithinCharacter n) = ⊤
WrongAt text at e OutOfMemory = ⊥
