use Rattle.std.proofs.Common.{refl, ap}
use Rattle.swc_ast.specs.Tree.{node, cons, nil, unary}
use Rattle.swc_trees.proofs.Splits.{split-one}
use Rattle.swc_trees.proofs.splitting.split_unary.Goals as goal

pub returns : goal.returns
returns g c = split-one c.in_ok-arg.ensures refl (λ at e.
    record { stands = ap (λ v. node (unary c.args.op) c.args.span (cons v nil)) e; view = refl })
