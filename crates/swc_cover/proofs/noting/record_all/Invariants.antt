use Rattle.std.proofs.Common.{◌≡◌, ◌≤◌, true, take}
use Rattle.swc_input.specs.{Buffer.current, Buffer.to_come, Kinds.at_token, Recordings.NotesAll}
use Rattle.swc_grammar.specs.Clean.{no_error}
use Rattle.swc_cover.specs.{ReservedNames.has_none, Noting.errors_of}
use Rattle.swc_input.specs.Calls.{Checks}
use Rattle.swc_steps.specs.Parsing.{seen}
use Rattle.swc_cover.proofs.noting.record_all.Given as goal

abbrev pub invariant-loop-fault : goal.invariant-loop-fault
invariant-loop-fault g l =
    Checks g.I.Tokens.model (has_none (take l.fault-index l.fault-items)) l.fn.input l.input
    × (to_come g.I.Tokens.model l.input ≤ to_come g.I.Tokens.model l.fn.input)
    × (at_token no_error (seen l.fn.input) ≡ true → current l.input ≡ current l.fn.input)
    × NotesAll g.I.Tokens.model (errors_of (take l.fault-index l.fault-items)) l.fn.input l.input
