use Rattle.std.proofs.Common.{sym, ap, ◌∙◌}
use Rattle.swc_ast.proofs.Equations.{pat_key_value_tree}
use Rattle.swc_ast.specs.Parts.{or_hole, binding_tree, prop_name_tree, rest_tree}
use Rattle.swc_ast.specs.Tree.{node, cons, nil, key_value, binding_prop}
use Rattle.swc_ast.specs.TreeOf.{boxed_tree, pat_tree, pat_prop_tree}
use Rattle.swc_trees.proofs.{Leaves.binding_prop_tree, Leaves.rest_prop_tree, Splits.split-eq, Agreed.read-three}
use Rattle.swc_trees.proofs.parting.ObjectPatPropWhole.split.Goals as goal

pub returns-in-KeyValue : goal.returns-in-KeyValue
returns-in-KeyValue g c = split-eq c.split_key_pat.ensures
    (read-three (λ v0 v1 v2. node key_value v0
    (cons (prop_name_tree (boxed_tree _ _ _ g.F.Spanned.place g.C.Spanned.place g.K.Spanned.place) v1)
    (cons ((pat_tree _ _ _ g.F.Spanned.place g.C.Spanned.place g.K.Spanned.place) v2.value) nil))) c.in-KeyValue.span-is
    c.in-KeyValue.key-is c.in-KeyValue.value-is ∙ sym (ap
    (pat_prop_tree _ _ _ g.F.Spanned.place g.C.Spanned.place g.K.Spanned.place) c.in-KeyValue.is
    ∙ pat_key_value_tree _ _ _ g.F.Spanned.place g.C.Spanned.place g.K.Spanned.place c.in-KeyValue.span
    c.in-KeyValue.key c.in-KeyValue.value))

pub returns-in-Assign : goal.returns-in-Assign
returns-in-Assign g c = split-eq c.split_binding.ensures
    (read-three (λ v0 v1 v2. node binding_prop v0 (cons (binding_tree v1)
    (cons (or_hole (boxed_tree _ _ _ g.F.Spanned.place g.C.Spanned.place g.K.Spanned.place) v2) nil)))
    c.in-Assign.span-is c.in-Assign.key-is c.in-Assign.value-is ∙ sym
    (ap (pat_prop_tree _ _ _ g.F.Spanned.place g.C.Spanned.place g.K.Spanned.place) c.in-Assign.is
    ∙ binding_prop_tree _ _ _ g.F.Spanned.place g.C.Spanned.place g.K.Spanned.place c.in-Assign.span c.in-Assign.key
    c.in-Assign.value))

pub returns-in-Rest : goal.returns-in-Rest
returns-in-Rest g c = split-eq c.split_rest_prop.ensures
    (ap (λ v0. rest_tree (pat_tree _ _ _ g.F.Spanned.place g.C.Spanned.place g.K.Spanned.place) v0) c.in-Rest.rest-is
    ∙ sym (ap (pat_prop_tree _ _ _ g.F.Spanned.place g.C.Spanned.place g.K.Spanned.place) c.in-Rest.is
    ∙ rest_prop_tree _ _ _ g.F.Spanned.place g.C.Spanned.place g.K.Spanned.place c.in-Rest.rest))
