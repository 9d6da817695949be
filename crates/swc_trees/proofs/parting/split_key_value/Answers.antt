use Rattle.std.proofs.Common.{refl, ap}
use Rattle.swc_ast.specs.Tree.{node, key_value}
use Rattle.swc_trees.proofs.{Agreed.two, Splits.split-two}
use Rattle.swc_trees.proofs.parting.split_key_value.Goals as goal

pub returns : goal.returns
returns g c = split-two c.in_ok-key.ensures c.in_ok-value.ensures refl
    (λ at e f. ap (node key_value c.args.span) (two e f))
