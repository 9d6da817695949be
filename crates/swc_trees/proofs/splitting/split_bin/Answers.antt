use Rattle.std.proofs.Common.{refl, ap}
use Rattle.swc_ast.specs.Tree.{node, bin}
use Rattle.swc_trees.proofs.{Agreed.two, Splits.split-two}
use Rattle.swc_trees.proofs.splitting.split_bin.Goals as goal

pub returns : goal.returns
returns g c = split-two c.in_ok-left.ensures c.in_ok-right.ensures refl
    (λ at e f. record { stands = ap (node (bin c.args.op) c.args.span) (two e f); view = refl })
