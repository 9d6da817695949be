-- What the calls of a pass leave: its context, and what is left to do.
use Rattle.std.specs.Prelude.{◌≡◌, ℕ, ◌+◌, ◌*◌, ◌≤◌, List, vec_len}
use Rattle.swc_bodies.specs.{Deferred.waiting, declared.deferred.Waiting.Waiting}
use Rattle.swc_context.specs.declared.context.Context.{Context}
use Rattle.swc_ecma_parser.specs.Calls.{buffer_of, hook_of}
use Rattle.swc_input.specs.{declared.buffer.Buffer.Buffer, Buffer.state_of, Buffer.to_come}
use Rattle.statement_trees.specs.declared.reader.Reader.{Reader}
use Rattle.program_tokens.specs.{declared.source.ProgramInput.ProgramInput, Source.program_model}

-- the context in which the current pass reads
abbrev pub context_of : Reader → Context
context_of s = (state_of program_model (buffer_of s.parser)).context

-- what is left to do: five for each token to come, and one for each part that was put off
unfoldable pub effort : Buffer ProgramInput → ℕ → ℕ
effort b due = 5 * to_come program_model b + due

abbrev pub work : Reader → ℕ
work s = effort (buffer_of s.parser) (vec_len s.frames)

-- a token was consumed from s to t, and nothing put off
abbrev pub Takes : Reader → Reader → Type 0
Takes s t = work t + 5 ≤ work s

-- the text is a module, or is none, as before
abbrev pub SameModule : Reader → Reader → Type 0
SameModule s t = (context_of t).module ≡ (context_of s).module

-- the bodies that the hook has kept, and that no one has taken yet
abbrev pub kept_bodies : Reader → List Waiting
kept_bodies s = waiting (hook_of s.parser).kept
