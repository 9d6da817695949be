use Rattle.std.proofs.Common.{refl}
use Rattle.swc_ast.specs.Tree.{node, cons, nil, method}
use Rattle.swc_trees.proofs.{Splits.split-two, Agreed.read-three}
use Rattle.swc_trees.proofs.parting.split_method.Goals as goal

pub returns : goal.returns
returns g c = split-two c.in_ok-key.ensures c.in_ok-function.ensures refl
    (λ at e f. read-three (λ s k v. node method s (cons k (cons v nil))) f.1 e f.0)
