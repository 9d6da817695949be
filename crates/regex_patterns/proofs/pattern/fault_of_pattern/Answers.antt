use Rattle.regex_patterns.proofs.Wholes.{pattern_of, good_of}
use Rattle.regex_patterns.proofs.pattern.fault_of_pattern.Goals as goal

pub returns-clause-pattern : goal.returns-clause-pattern
returns-clause-pattern c =
    let ps = c.in_ok-pieces.pieces in (
      (λ e. pattern_of c.args.mode c.args.units.now ps.list.items ps.wrong c.in_ok-pieces.ensures (c.in_ok-found.ensures.0 e)),
      λ p. c.in_ok-found.ensures.1 (good_of c.args.mode c.args.units.now ps.list.items ps.wrong c.in_ok-pieces.ensures p),
    )
