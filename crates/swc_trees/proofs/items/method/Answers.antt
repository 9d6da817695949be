use Rattle.std.proofs.Common.{ap, ◌∙◌}
use Rattle.swc_ast.proofs.Equations.{method_tree}
use Rattle.swc_ast.specs.Parts.{prop_name_tree, function_tree}
use Rattle.swc_ast.specs.Tree.{method, node, nil, cons}
use Rattle.swc_ast.specs.TreeOf.{boxed_tree, pat_tree}
use Rattle.swc_nodes.specs.NodeParts.{flat, key_parts, param_parts}
use Rattle.swc_trees.proofs.{Agreed.two, Assembled.offers-first, Assembled.offers-second, Assembled.made-two, Assembled.ok-of}
use Rattle.swc_trees.proofs.items.method.Goals as goal

pub method_function-requires : goal.method_function-requires
method_function-requires g c =
    offers-second (key_parts c.args.name) (flat param_parts c.args.function.params.items) c.requires

pub key-key-requires : goal.key-key-requires
key-key-requires g c =
    offers-first (key_parts c.args.name) (flat param_parts c.args.function.params.items) c.requires
    (ok-of _ _ c.in_ok-function.function.value c.in_ok-function.ensures c.method_function.ensures)

pub returns : goal.returns
returns g c =
    made-two (key_parts c.args.name) (flat param_parts c.args.function.params.items)
    (ok-of _ _ c.in_ok-function.function.value c.in_ok-function.ensures c.method_function.ensures) c.key-key.ensures
    (λ at e f. method_tree _ _ _ g.F.Spanned.place g.C.Spanned.place g.K.Spanned.place c.key-key.result
    c.in_ok-function.function ∙ ap (λ v.
    node method v (cons (prop_name_tree (boxed_tree _ _ _ g.F.Spanned.place g.C.Spanned.place g.K.Spanned.place)
    c.key-key.result) (cons (function_tree g.K.Spanned.place
    (pat_tree _ _ _ g.F.Spanned.place g.C.Spanned.place g.K.Spanned.place)
    c.in_ok-function.function.value) nil))) f.1 ∙ ap (node method c.args.function.span) (two e f.0))
