use Rattle.std.proofs.Common.{◌++◌, map, refl}
use Rattle.swc_ast.specs.Parts.{quasi_tree}
use Rattle.swc_ast.specs.Tree.{node, tpl, trees}
use Rattle.swc_trees.proofs.{Splits.split-one, Agreed.read-two}
use Rattle.swc_trees.proofs.parting.split_tpl.Goals as goal

pub returns : goal.returns
returns g c = split-one c.in_ok-exprs.ensures refl (λ at e.
    read-two (λ q v. node tpl c.args.tpl.now.span (trees (map quasi_tree q.items ++ v)))
    c.replace-quasis.ensures.value e)
