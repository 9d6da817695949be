-- The refusal when out of memory.
use Rattle.swc_context.specs.{declared.error.Error.Error, declared.error.SyntaxError.TheVariants.OutOfMemory, declared.span.BytePos.BytePos}

abbrev start : BytePos
start = record { 0 = 0 }

-- It has no place in a text.
abbrev pub want_of_memory : Error
want_of_memory = record { span = record { lo = start; hi = start }; kind = OutOfMemory }
