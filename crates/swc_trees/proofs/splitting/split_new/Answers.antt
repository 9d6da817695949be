use Rattle.std.proofs.Common.{refl, ap}
use Rattle.swc_ast.specs.Tree.{node, new}
use Rattle.swc_trees.proofs.{Agreed.two, Splits.split-two}
use Rattle.swc_trees.proofs.splitting.split_new.Goals as goal

pub returns : goal.returns
returns g c = split-two c.in_ok-callee.ensures c.in_ok-args.ensures refl
    (λ at e f. record { stands = ap (node new c.args.span) (two e f); view = refl })
