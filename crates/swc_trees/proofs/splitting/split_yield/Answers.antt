use Rattle.std.proofs.Common.{refl, ap}
use Rattle.swc_ast.specs.Tree.{node, cons, nil, yield}
use Rattle.swc_trees.proofs.Splits.{split-one}
use Rattle.swc_trees.proofs.splitting.split_yield.Goals as goal

pub returns : goal.returns
returns g c = split-one c.in_ok-arg.ensures refl (λ at e.
    record { stands = ap (λ v. node (yield c.args.delegate) c.args.span (cons v nil)) e; view = refl })
