use Rattle.std.proofs.Common.{not, ap, arith}
use Rattle.swc_nodes.specs.Lists.{is_cover_prop}
use Rattle.swc_primary.proofs.Covers.{no_assign}
use Rattle.swc_steps.proofs.Steps.{check_passes}
use Rattle.swc_primary.proofs.parens.check_prop.Goals as goal

pub returns-in_default : goal.returns-in_default
returns-in_default g c = record {
  checks = check_passes (not (is_cover_prop c.args.prop.now)) g.met.I.Tokens.laws _
      (ap not (no_assign c.args.prop.now c.in_default.not-Assign));
  falls = omega arith;
}
