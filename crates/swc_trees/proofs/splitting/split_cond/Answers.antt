use Rattle.std.proofs.Common.{refl, ap}
use Rattle.swc_ast.specs.Tree.{node, cond}
use Rattle.swc_trees.proofs.{Agreed.three, Splits.split-three}
use Rattle.swc_trees.proofs.splitting.split_cond.Goals as goal

pub returns : goal.returns
returns g c = split-three c.in_ok-test.ensures c.in_ok-cons.ensures c.in_ok-alt.ensures refl
    (λ at d e f. record { stands = ap (node cond c.args.span) (three d e f); view = refl })
