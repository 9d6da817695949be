use Rattle.std.proofs.Common.{refl}
use Rattle.swc_trees.proofs.Splits.{split-one}
use Rattle.swc_trees.proofs.parting.split_base.Goals as goal

pub returns-in_ok-split_member-in-Member : goal.returns-in_ok-split_member-in-Member
returns-in_ok-split_member-in-Member g c = rw c.in-Member.is
    (split-one c.in_ok-split_member-in-Member.ensures refl (λ at e. e))

pub returns-in_ok-split_chain_call-in-Call : goal.returns-in_ok-split_chain_call-in-Call
returns-in_ok-split_chain_call-in-Call g c = rw c.in-Call.is
    (split-one c.in_ok-split_chain_call-in-Call.ensures refl (λ at e. e))
