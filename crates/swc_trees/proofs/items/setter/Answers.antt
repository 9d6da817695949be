use Rattle.std.proofs.Common.{refl, ap, ◌∙◌}
use Rattle.swc_ast.proofs.Equations.{setter_tree}
use Rattle.swc_ast.specs.Tree.{setter, node}
use Rattle.swc_nodes.specs.NodeParts.{one_pat, key_parts}
use Rattle.swc_trees.proofs.{Agreed.three, Assembled.offers-first, Assembled.offers-second, Assembled.made-two}
use Rattle.swc_trees.proofs.items.setter.Goals as goal

pub boxed_pat-requires : goal.boxed_pat-requires
boxed_pat-requires g c = offers-second (key_parts c.args.name) (one_pat c.args.param) c.requires

pub key-key-requires : goal.key-key-requires
key-key-requires g c = offers-first (key_parts c.args.name) (one_pat c.args.param) c.requires c.in_ok-param.ensures

pub returns : goal.returns
returns g c =
    made-two (key_parts c.args.name) (one_pat c.args.param) c.in_ok-param.ensures c.key-key.ensures
    (λ at e f. setter_tree _ _ _ g.F.Spanned.place g.C.Spanned.place g.K.Spanned.place c.args.span
    c.key-key.result c.in_ok-param.param c.args.body ∙ ap (node setter c.args.span) (three e f refl))
