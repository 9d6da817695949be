use Rattle.std.proofs.Common.{refl, ap}
use Rattle.swc_ast.specs.Parts.{ident_tree}
use Rattle.swc_trees.proofs.Splits.{split-none, split-one}
use Rattle.swc_trees.proofs.splitting.split_simple.Goals as goal

pub returns-in_ok-taken_ident-in-Ident : goal.returns-in_ok-taken_ident-in-Ident
returns-in_ok-taken_ident-in-Ident g c = rw c.in-Ident.is
    (split-none refl (λ at. record { stands = ap ident_tree c.in_ok-taken_ident-in-Ident.ensures; view = refl }))

pub returns-in_ok-split_member-in-Member : goal.returns-in_ok-split_member-in-Member
returns-in_ok-split_member-in-Member g c = rw c.in-Member.is
    (split-one c.in_ok-split_member-in-Member.ensures refl (λ at e. record { stands = e; view = refl }))

pub returns-in_ok-split_super_prop-in-SuperProp : goal.returns-in_ok-split_super_prop-in-SuperProp
returns-in_ok-split_super_prop-in-SuperProp g c = rw c.in-SuperProp.is
    (split-one c.in_ok-split_super_prop-in-SuperProp.ensures refl (λ at e. record { stands = e; view = refl }))

pub returns-in_ok-split_paren-in-Paren : goal.returns-in_ok-split_paren-in-Paren
returns-in_ok-split_paren-in-Paren g c = rw c.in-Paren.is
    (split-one c.in_ok-split_paren-in-Paren.ensures refl (λ at e. record { stands = e; view = refl }))

pub returns-in_ok-split_chain-in-OptChain : goal.returns-in_ok-split_chain-in-OptChain
returns-in_ok-split_chain-in-OptChain g c = rw c.in-OptChain.is
    (split-one c.in_ok-split_chain-in-OptChain.ensures refl (λ at e. record { stands = e; view = refl }))
