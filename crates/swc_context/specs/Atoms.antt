-- The bytes of an atom.
use Rattle.std.specs.Prelude.{ℕ, List, string_bytes}
use Rattle.swc_context.specs.declared.atom.Text.{Text, TheVariants.Short, TheVariants.Long}

abbrev pub text_bytes : Text → List ℕ
text_bytes (Short text) = text
text_bytes (Long text) = string_bytes text.value
