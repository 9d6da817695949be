use Rattle.std.proofs.Common.{refl, ap}
use Rattle.swc_ast.specs.Tree.{node, array, trees}
use Rattle.swc_trees.proofs.Splits.{split-one}
use Rattle.swc_trees.proofs.splitting.split_array.Goals as goal

pub returns : goal.returns
returns g c = split-one c.in_ok-elems.ensures refl (λ at e.
    record { stands = ap (λ v. node array c.args.span (trees v)) e; view = refl })
