use Rattle.std.proofs.Common.{refl, ap}
use Rattle.swc_ast.specs.Tree.{node, object, trees}
use Rattle.swc_trees.proofs.Splits.{split-one}
use Rattle.swc_trees.proofs.splitting.split_object.Goals as goal

pub returns : goal.returns
returns g c = split-one c.in_ok-props.ensures refl (λ at e.
    record { stands = ap (λ v. node object c.args.span (trees v)) e; view = refl })
