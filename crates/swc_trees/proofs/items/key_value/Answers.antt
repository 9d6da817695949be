use Rattle.std.proofs.Common.{ap, ◌∙◌}
use Rattle.swc_ast.proofs.Equations.{key_value_tree}
use Rattle.swc_ast.specs.Tree.{key_value, node}
use Rattle.swc_nodes.specs.NodeParts.{one_expr, key_parts}
use Rattle.swc_trees.proofs.{Agreed.two, Assembled.offers-first, Assembled.offers-second, Assembled.made-two}
use Rattle.swc_trees.proofs.items.key_value.Goals as goal

pub pop_expr-value-requires : goal.pop_expr-value-requires
pop_expr-value-requires g c = offers-second (key_parts c.args.name) (one_expr c.args.value) c.requires

pub key-key-requires : goal.key-key-requires
key-key-requires g c = offers-first (key_parts c.args.name) (one_expr c.args.value) c.requires c.pop_expr-value.ensures

pub returns : goal.returns
returns g c =
    made-two (key_parts c.args.name) (one_expr c.args.value) c.pop_expr-value.ensures c.key-key.ensures
    (λ at e f. key_value_tree _ _ _ g.F.Spanned.place g.C.Spanned.place g.K.Spanned.place c.args.span
    c.key-key.result c.pop_expr-value.result ∙ ap (node key_value c.args.span) (two e f))
