use Rattle.std.proofs.Common.{refl, ap}
use Rattle.swc_ast.specs.Parts.{leaf}
use Rattle.swc_ast.specs.Tree.{node, cons, nil, super_prop, super}
use Rattle.swc_trees.proofs.Splits.{split-one}
use Rattle.swc_trees.proofs.parting.split_super_prop.Goals as goal

pub returns : goal.returns
returns g c = split-one c.in_ok-prop.ensures refl (λ at e.
    ap (λ v. node super_prop c.args.super_prop.now.span
    (cons (leaf super c.args.super_prop.now.obj.span) (cons v nil))) e)
