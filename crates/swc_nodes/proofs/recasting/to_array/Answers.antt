use Rattle.std.proofs.Common.{refl}
use Rattle.swc_nodes.proofs.recasting.to_array.Goals as goal

pub returns-in_ok-elems-in-Array-clause-node : goal.returns-in_ok-elems-in-Array-clause-node
returns-in_ok-elems-in-Array-clause-node g c =
    rw c.in-Array.is
    (record { elems = c.in_ok-elems-in-Array.elems; is = refl; items = c.in_ok-elems-in-Array.ensures.elems })
