use Rattle.std.proofs.Common.{refl}
use Rattle.swc_ast.specs.Parts.{ident_tree}
use Rattle.swc_ast.specs.Tree.{node, cons, nil, cover}
use Rattle.swc_trees.proofs.{Splits.split-one, Agreed.read-two}
use Rattle.swc_trees.proofs.parting.split_cover.Goals as goal

pub returns : goal.returns
returns g c = split-one c.in_ok-value.ensures refl (λ at e.
    read-two (λ k v. node cover c.args.prop.now.span (cons (ident_tree k) (cons v nil))) c.in_ok-key.ensures e)
