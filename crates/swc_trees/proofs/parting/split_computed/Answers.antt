use Rattle.std.proofs.Common.{refl, ap}
use Rattle.swc_ast.specs.Tree.{node, cons, nil, computed}
use Rattle.swc_trees.proofs.Splits.{split-one}
use Rattle.swc_trees.proofs.parting.split_computed.Goals as goal

pub returns : goal.returns
returns g c = split-one c.in_ok-expr.ensures refl (λ at e. ap (λ v. node computed c.args.key.now.span (cons v nil)) e)
