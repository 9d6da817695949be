use Rattle.std.proofs.Common.{refl, ap}
use Rattle.swc_ast.specs.Parts.{name_tree, private_tree}
use Rattle.swc_trees.proofs.Splits.{split-none, split-one}
use Rattle.swc_trees.proofs.parting.split_member_prop.Goals as goal

pub returns-in_ok-taken_name-in-Ident : goal.returns-in_ok-taken_name-in-Ident
returns-in_ok-taken_name-in-Ident g c = rw c.in-Ident.is
    (split-none refl (λ at. ap name_tree c.in_ok-taken_name-in-Ident.ensures))

pub returns-in_ok-taken_private-in-PrivateName : goal.returns-in_ok-taken_private-in-PrivateName
returns-in_ok-taken_private-in-PrivateName g c = rw c.in-PrivateName.is
    (split-none refl (λ at. ap private_tree c.in_ok-taken_private-in-PrivateName.ensures))

pub returns-in_ok-split_computed-in-Computed : goal.returns-in_ok-split_computed-in-Computed
returns-in_ok-split_computed-in-Computed g c = rw c.in-Computed.is
    (split-one c.in_ok-split_computed-in-Computed.ensures refl (λ at e. e))
