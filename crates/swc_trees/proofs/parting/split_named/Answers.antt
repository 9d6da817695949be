use Rattle.std.proofs.Common.{refl, sym, ap, ◌∙◌}
use Rattle.swc_ast.proofs.Equations.{key_value_tree, method_tree, getter_tree, setter_tree}
use Rattle.swc_ast.specs.TreeOf.{prop_tree}
use Rattle.swc_trees.proofs.{Leaves.shorthand_tree, Leaves.cover_prop_tree, Splits.split-none, Splits.split-eq}
use Rattle.swc_trees.proofs.parting.split_named.Goals as goal

pub returns-in-Shorthand : goal.returns-in-Shorthand
returns-in-Shorthand g c = split-none refl
    (λ at. sym (ap (prop_tree _ _ _ g.F.Spanned.place g.C.Spanned.place g.K.Spanned.place)
    (sym c.replace.ensures.value ∙ c.in-Shorthand.is)
    ∙ shorthand_tree _ _ _ g.F.Spanned.place g.C.Spanned.place g.K.Spanned.place c.in-Shorthand.i))

pub returns-in-KeyValue : goal.returns-in-KeyValue
returns-in-KeyValue g c = split-eq c.split_key_value.ensures
    (sym (ap (prop_tree _ _ _ g.F.Spanned.place g.C.Spanned.place g.K.Spanned.place)
    (sym c.replace.ensures.value ∙ c.in-KeyValue.is)
    ∙ key_value_tree _ _ _ g.F.Spanned.place g.C.Spanned.place g.K.Spanned.place c.in-KeyValue.span c.in-KeyValue.key
    c.in-KeyValue.value))

pub returns-in-Assign : goal.returns-in-Assign
returns-in-Assign g c = split-eq c.split_cover.ensures
    (sym (ap (prop_tree _ _ _ g.F.Spanned.place g.C.Spanned.place g.K.Spanned.place)
    (sym c.replace.ensures.value ∙ c.in-Assign.is)
    ∙ cover_prop_tree _ _ _ g.F.Spanned.place g.C.Spanned.place g.K.Spanned.place c.in-Assign.p))

pub returns-in-Method : goal.returns-in-Method
returns-in-Method g c = split-eq c.split_method.ensures
    (sym (ap (prop_tree _ _ _ g.F.Spanned.place g.C.Spanned.place g.K.Spanned.place)
    (sym c.replace.ensures.value ∙ c.in-Method.is)
    ∙ method_tree _ _ _ g.F.Spanned.place g.C.Spanned.place g.K.Spanned.place c.in-Method.key c.in-Method.function))

pub returns-in-Getter : goal.returns-in-Getter
returns-in-Getter g c = split-eq c.split_getter.ensures
    (sym (ap (prop_tree _ _ _ g.F.Spanned.place g.C.Spanned.place g.K.Spanned.place)
    (sym c.replace.ensures.value ∙ c.in-Getter.is)
    ∙ getter_tree _ _ _ g.F.Spanned.place g.C.Spanned.place g.K.Spanned.place c.in-Getter.span c.in-Getter.key
    c.in-Getter.body))

pub returns-in-Setter : goal.returns-in-Setter
returns-in-Setter g c = split-eq c.split_setter.ensures
    (sym (ap (prop_tree _ _ _ g.F.Spanned.place g.C.Spanned.place g.K.Spanned.place)
    (sym c.replace.ensures.value ∙ c.in-Setter.is)
    ∙ setter_tree _ _ _ g.F.Spanned.place g.C.Spanned.place g.K.Spanned.place c.in-Setter.span c.in-Setter.key
    c.in-Setter.param c.in-Setter.body))
