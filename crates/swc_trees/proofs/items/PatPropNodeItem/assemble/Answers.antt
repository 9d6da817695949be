use Rattle.std.proofs.Common.{ap, ◌∙◌}
use Rattle.swc_ast.proofs.Equations.{pat_key_value_tree}
use Rattle.swc_trees.proofs.Assembled.{offers-first, offers-second, made-one, made-two}
use Rattle.swc_trees.proofs.{Leaves.binding_prop_tree, Leaves.rest_prop_tree, Agreed.two}
use Rattle.swc_ast.specs.Tree.{dots, key_value, binding_prop, rest, node, nil, cons}
use Rattle.swc_ast.specs.Parts.{leaf, binding_tree}
use Rattle.swc_nodes.specs.NodeParts.{key_parts, part_parts}
use Rattle.swc_trees.proofs.items.PatPropNodeItem.assemble.Goals as goal

pub boxed_part-requires : goal.boxed_part-requires
boxed_part-requires g c =
    offers-second (key_parts c.in-KeyValue.name) (part_parts c.in-KeyValue.value) (rw c.in-KeyValue.is at c.requires)

pub key-key-requires : goal.key-key-requires
key-key-requires g c =
    offers-first (key_parts c.in-KeyValue.name) (part_parts c.in-KeyValue.value)
    (rw c.in-KeyValue.is at c.requires) c.in_ok-value-in-KeyValue.ensures

pub returns-in_ok-value-in-KeyValue : goal.returns-in_ok-value-in-KeyValue
returns-in_ok-value-in-KeyValue g c =
    rw c.in-KeyValue.is (made-two (key_parts c.in-KeyValue.name)
    (part_parts c.in-KeyValue.value) c.in_ok-value-in-KeyValue.ensures c.key-key.ensures
    (λ at e f. pat_key_value_tree _ _ _ g.F.Spanned.place g.C.Spanned.place g.K.Spanned.place c.in-KeyValue.span
    c.key-key.result c.in_ok-value-in-KeyValue.value ∙ ap (node key_value c.in-KeyValue.span) (two e f)))

pub returns-in-Assign : goal.returns-in-Assign
returns-in-Assign g c =
    rw c.in-Assign.is (made-one c.pop_if_some-value.ensures
    (λ at e. binding_prop_tree _ _ _ g.F.Spanned.place g.C.Spanned.place g.K.Spanned.place c.in-Assign.span
    c.in-Assign.key c.pop_if_some-value.result ∙ ap
    (λ v. node binding_prop c.in-Assign.span (cons (binding_tree c.in-Assign.key) (cons v nil))) e))

pub returns-in_ok-arg-in-Rest : goal.returns-in_ok-arg-in-Rest
returns-in_ok-arg-in-Rest g c =
    rw c.in-Rest.is (made-one c.in_ok-arg-in-Rest.ensures
    (λ at e. rest_prop_tree _ _ _ g.F.Spanned.place g.C.Spanned.place g.K.Spanned.place
    (record { span = c.in-Rest.span; dot3_token = c.in-Rest.dot3_token; arg = c.in_ok-arg-in-Rest.arg }) ∙ ap
    (λ v. node rest c.in-Rest.span (cons (leaf dots c.in-Rest.dot3_token) (cons v nil))) e))
