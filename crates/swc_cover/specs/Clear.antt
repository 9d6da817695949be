-- Whether a check finds nothing wrong.
use Rattle.std.specs.Prelude.{Bool, ◌&&◌, is_none}
use Rattle.swc_cover.specs.{Faults.Verdict, ReservedNames.has_none}

abbrev pub is_clear : Verdict → Bool
is_clear v = has_none v.faults && is_none v.refused
