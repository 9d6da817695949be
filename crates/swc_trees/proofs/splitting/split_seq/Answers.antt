use Rattle.std.proofs.Common.{refl, ap}
use Rattle.swc_ast.specs.Tree.{node, seq, trees}
use Rattle.swc_trees.proofs.Splits.{split-one}
use Rattle.swc_trees.proofs.splitting.split_seq.Goals as goal

pub returns : goal.returns
returns g c = split-one c.in_ok-exprs.ensures refl (λ at e.
    record { stands = ap (λ v. node seq c.args.span (trees v)) e; view = refl })
