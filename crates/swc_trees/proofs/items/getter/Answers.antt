use Rattle.std.proofs.Common.{ap, ◌∙◌}
use Rattle.swc_ast.proofs.Equations.{getter_tree}
use Rattle.swc_ast.specs.Parts.{leaf}
use Rattle.swc_ast.specs.Tree.{block, getter, node, nil, cons}
use Rattle.swc_trees.proofs.Assembled.{made-one}
use Rattle.swc_trees.proofs.items.getter.Goals as goal

pub returns : goal.returns
returns g c =
    made-one c.key-key.ensures (λ at e. getter_tree _ _ _ g.F.Spanned.place g.C.Spanned.place g.K.Spanned.place
    c.args.span c.key-key.result c.args.body ∙ ap (λ v. node getter c.args.span
    (cons v (cons (leaf (block c.args.body) (g.K.Spanned.place c.args.body)) nil))) e)
