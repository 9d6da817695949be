use Rattle.std.proofs.Common.{refl, ap}
use Rattle.swc_ast.specs.Parts.{leaf}
use Rattle.swc_ast.specs.Tree.{node, cons, nil, block, getter}
use Rattle.swc_trees.proofs.Splits.{split-one}
use Rattle.swc_trees.proofs.parting.split_getter.Goals as goal

pub returns : goal.returns
returns g c = split-one c.in_ok-key.ensures refl (λ at e.
    ap (λ v. node getter c.args.span (cons v (cons (leaf (block c.args.body) (g.K.Spanned.place c.args.body)) nil))) e)
