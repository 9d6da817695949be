use Rattle.std.proofs.Common.{refl, ap}
use Rattle.swc_ast.specs.Tree.{node, args, trees, no_span}
use Rattle.swc_trees.proofs.Splits.{split-none, split-one}
use Rattle.swc_trees.proofs.parting.split_new_args.Goals as goal

pub returns-in-None : goal.returns-in-None
returns-in-None g c = rw c.in-None.is (split-none refl (λ at. refl))

pub returns-in_ok-split_all-in-Some : goal.returns-in_ok-split_all-in-Some
returns-in_ok-split_all-in-Some g c =
    rw c.in-Some.is (split-one c.in_ok-split_all-in-Some.ensures refl (λ at e. ap (λ v. node args no_span (trees v)) e))
