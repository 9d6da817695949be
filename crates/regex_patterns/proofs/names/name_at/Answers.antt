use Rattle.std.proofs.Common.{◌+◌, ◌≤◌, sym, ◌∙◌, length, arith}
use Rattle.regex_patterns.proofs.Placing.{name_past}
use Rattle.regex_patterns.proofs.names.name_at.Goals as goal
use Rattle.regex_patterns.proofs.names.name_at.Goals.{then-units-lt3-via-then-units-lt3, then-units-lt3-via-else-units-lt3+then-units-at}

pub returns-then-units-lt3 : goal.returns-then-units-lt3
returns-then-units-lt3 c =
    let short : length c.args.units.now ≤ c.args.at + 3 = elim c.then-units-lt3.branch [
      | then-units-lt3-via-then-units-lt3 w ↦ omega (arith, w.if-units-lt3.true)
      | then-units-lt3-via-else-units-lt3+then-units-at w ↦ omega (arith, w.if-units-at.true, w.if-units-lt3.false)
    ] in
    c.new.ensures.bytes ∙ sym (name_past c.args.units.now (c.args.at + 3) short)
