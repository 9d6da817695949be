use Rattle.std.proofs.Common.{refl, ap}
use Rattle.swc_ast.specs.Parts.{leaf}
use Rattle.swc_ast.specs.Tree.{node, cons, nil, spread, dots}
use Rattle.swc_trees.proofs.Splits.{split-one}
use Rattle.swc_trees.proofs.parting.split_spread.Goals as goal

pub returns : goal.returns
returns g c = split-one c.in_ok-expr.ensures refl (λ at e.
    ap (λ v. node spread c.args.spread.now.span (cons (leaf dots c.args.spread.now.dot3_token) (cons v nil))) e)
