use Rattle.std.proofs.Common.{refl, ap}
use Rattle.swc_ast.specs.Tree.{node, call}
use Rattle.swc_trees.proofs.{Agreed.headed, Splits.split-two}
use Rattle.swc_trees.proofs.parting.split_chain_call.Goals as goal

pub returns : goal.returns
returns g c = split-two c.in_ok-callee.ensures c.in_ok-args.ensures refl
    (λ at e f. ap (node call c.args.call.now.span) (headed e f))
