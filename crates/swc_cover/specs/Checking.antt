-- As what an expression is checked that is to become a pattern.
use Rattle.std.specs.Prelude.{Bool, true, false}
use Rattle.swc_context.specs.declared.operator.AssignOp.{AssignOp, AssignOp as op}
use Rattle.swc_cover.specs.Fits as cover
use Rattle.swc_cover.specs.declared.checking.Way.{Way, Way as way}

-- as what it is checked
abbrev pub way_of : Way → cover.Way
way_of way.Binding = cover.Binding
way_of (way.Target strict) = cover.Target strict

-- the operator `=`
abbrev pub plain_op : AssignOp → Bool
plain_op op.Assign = true
plain_op o = false
