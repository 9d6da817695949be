use Rattle.std.proofs.Common.{◌≤◌, not, ◌||◌, map, take}
use Rattle.swc_input.specs.Buffer.{context, to_come}
use Rattle.swc_cover.specs.{ReservedNames.has_none, Noting.name_error, Noting.NotesStrict}
use Rattle.swc_input.specs.Calls.{Checks}
use Rattle.swc_cover.proofs.param_names.record_names.Given as goal

abbrev pub invariant-loop-span : goal.invariant-loop-span
invariant-loop-span g l =
    Checks g.I.Tokens.model (not (context g.I.Tokens.model l.fn.input).module || has_none
    (take l.span-index l.span-items))
    l.fn.input l.input
    × (to_come g.I.Tokens.model l.input ≤ to_come g.I.Tokens.model l.fn.input)
    × NotesStrict g.I.Tokens.model (map name_error (take l.span-index l.span-items)) l.fn.input l.input
