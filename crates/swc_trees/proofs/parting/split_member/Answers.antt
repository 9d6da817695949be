use Rattle.std.proofs.Common.{refl, ap}
use Rattle.swc_ast.specs.Tree.{node, member}
use Rattle.swc_trees.proofs.{Agreed.two, Splits.split-two}
use Rattle.swc_trees.proofs.parting.split_member.Goals as goal

pub returns : goal.returns
returns g c = split-two c.in_ok-obj.ensures c.in_ok-prop.ensures refl
    (λ at e f. ap (node member c.args.member.now.span) (two e f))
