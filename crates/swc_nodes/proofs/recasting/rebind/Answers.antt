use Rattle.std.proofs.Common.{refl}
use Rattle.std.proofs.lemmas.Result.{IfOk-weaker}
use Rattle.swc_nodes.proofs.Recasts.{again-array, again-object}
use Rattle.swc_nodes.proofs.recasting.rebind.Goals as goal

pub returns-in-PatArray-clause-node : goal.returns-in-PatArray-clause-node
returns-in-PatArray-clause-node g c =
    IfOk-weaker c.rebind_elems.result _ _
    (λ x e. again-array c.in-PatArray.span c.in-PatArray.elems c.rebind_elems.new.elems c.in-PatArray.is refl e)
    c.rebind_elems.ensures.elems

pub returns-in-PatObject-clause-node : goal.returns-in-PatObject-clause-node
returns-in-PatObject-clause-node g c =
    IfOk-weaker c.rebind_props.result _ _
    (λ x e. again-object c.in-PatObject.span c.in-PatObject.props c.rebind_props.new.props c.in-PatObject.is refl e)
    c.rebind_props.ensures.props
