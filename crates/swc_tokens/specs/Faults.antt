-- What the reader refuses, and where.
use Rattle.std.specs.Prelude.{◌≡◌, ℕ, ◌+◌, ◌≤◌, ◌⊎◌, List, length, min}
use Rattle.swc_context.specs.{declared.span.Span.Span, declared.error.Error.Error, declared.error.SyntaxError.Lex, declared.error.SyntaxError.OutOfMemory}

-- from one position to before another
abbrev pub between : ℕ → ℕ → Span
between low high = record { lo = record { 0 = low }; hi = record { 0 = high } }

-- the fault of what is at a place
abbrev pub lex_fault : Span → Error
lex_fault place = record { span = place; kind = Lex }

-- out of memory
abbrev pub out_of_memory : Error
out_of_memory = record { span = between 0 0; kind = OutOfMemory }

-- the place of the byte at a position; at the end of the text it is empty
abbrev pub byte_at : List ℕ → ℕ → Span
byte_at text at = between at (min (at + 1) (length text))

-- the fault of a byte of the text, or of its end
pub record IsByteFault (text : List ℕ) (e : Error) : Type 0 where
  pub inside : e.span.lo.0 ≤ length text
  pub fault : e ≡ lex_fault (byte_at text e.span.lo.0)

-- what may be refused where the text isn't too long
abbrev pub IsRefusal : List ℕ → Error → Type 0
IsRefusal text e = (e ≡ out_of_memory) ⊎ IsByteFault text e
