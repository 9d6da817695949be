use Rattle.std.proofs.Common.{refl, ap}
use Rattle.swc_ast.specs.Parts.{name_tree, str_tree, num_tree, big_tree}
use Rattle.swc_trees.proofs.Splits.{split-none, split-one}
use Rattle.swc_trees.proofs.parting.split_key.Goals as goal

pub returns-in_ok-taken_name-in-Ident : goal.returns-in_ok-taken_name-in-Ident
returns-in_ok-taken_name-in-Ident g c = rw c.in-Ident.is
    (split-none refl (λ at. ap name_tree c.in_ok-taken_name-in-Ident.ensures))

pub returns-in_ok-taken_str-in-Str : goal.returns-in_ok-taken_str-in-Str
returns-in_ok-taken_str-in-Str g c =
    rw c.in-Str.is (split-none refl (λ at. ap str_tree c.in_ok-taken_str-in-Str.ensures))

pub returns-in_ok-taken_num-in-Num : goal.returns-in_ok-taken_num-in-Num
returns-in_ok-taken_num-in-Num g c =
    rw c.in-Num.is (split-none refl (λ at. ap num_tree c.in_ok-taken_num-in-Num.ensures))

pub returns-in_ok-taken_big-in-BigInt : goal.returns-in_ok-taken_big-in-BigInt
returns-in_ok-taken_big-in-BigInt g c = rw c.in-BigInt.is
    (split-none refl (λ at. ap big_tree c.in_ok-taken_big-in-BigInt.ensures))

pub returns-in_ok-split_computed-in-Computed : goal.returns-in_ok-split_computed-in-Computed
returns-in_ok-split_computed-in-Computed g c = rw c.in-Computed.is
    (split-one c.in_ok-split_computed-in-Computed.ensures refl (λ at e. e))
