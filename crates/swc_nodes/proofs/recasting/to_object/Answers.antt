use Rattle.std.proofs.Common.{refl}
use Rattle.swc_nodes.proofs.recasting.to_object.Goals as goal

pub returns-in_ok-props-in-Object-clause-node : goal.returns-in_ok-props-in-Object-clause-node
returns-in_ok-props-in-Object-clause-node g c =
    rw c.in-Object.is
    (record { props = c.in_ok-props-in-Object.props; is = refl; items = c.in_ok-props-in-Object.ensures.props })
