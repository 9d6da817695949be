use Rattle.std.proofs.Common.{Ok, ap, ◌∙◌}
use Rattle.swc_trees.proofs.Leaves.{spread_item_tree, shorthand_tree, cover_prop_tree}
use Rattle.swc_trees.proofs.Assembled.{made-none, made-one, made-wrapped}
use Rattle.swc_ast.specs.Tree.{spread, dots, cover, node, nil, cons}
use Rattle.swc_ast.specs.Parts.{leaf, ident_tree}
use Rattle.swc_ast.specs.TreeOf.{prop_tree, prop_or_spread_tree}
use Rattle.swc_trees.proofs.items.PropNodeItem.assemble.Goals as goal

pub returns-in-Spread : goal.returns-in-Spread
returns-in-Spread g c =
    rw c.in-Spread.is (made-one c.pop_expr-expr.ensures
    (λ at e. spread_item_tree _ _ _ g.F.Spanned.place g.C.Spanned.place g.K.Spanned.place
    (record { span = c.in-Spread.s.span; dot3_token = c.in-Spread.s.dot3_token; expr = c.pop_expr-expr.result })
    ∙ ap (λ v. node spread c.in-Spread.s.span (cons (leaf dots c.in-Spread.s.dot3_token) (cons v nil))) e))

pub returns-in-Shorthand : goal.returns-in-Shorthand
returns-in-Shorthand g c =
    rw c.in-Shorthand.is (made-wrapped _ _ _ _ _ _
    (prop_tree _ _ _ g.F.Spanned.place g.C.Spanned.place g.K.Spanned.place)
    (prop_or_spread_tree _ _ _ g.F.Spanned.place g.C.Spanned.place g.K.Spanned.place) _
    (Ok _) _ c.named.ensures
    (made-none (λ at. shorthand_tree _ _ _ g.F.Spanned.place g.C.Spanned.place g.K.Spanned.place c.in-Shorthand.i)))

pub key_value-requires : goal.key_value-requires
key_value-requires g c = rw c.in-KeyValue.is at c.requires

pub returns-in-KeyValue : goal.returns-in-KeyValue
returns-in-KeyValue g c =
    rw c.in-KeyValue.is (made-wrapped _ _ _ _ _ _
    (prop_tree _ _ _ g.F.Spanned.place g.C.Spanned.place g.K.Spanned.place)
    (prop_or_spread_tree _ _ _ g.F.Spanned.place g.C.Spanned.place g.K.Spanned.place) _
    (Ok c.key_value.result) _ c.named-in-KeyValue.ensures
    c.key_value.ensures)

pub returns-in-Assign : goal.returns-in-Assign
returns-in-Assign g c =
    rw c.in-Assign.is (made-wrapped _ _ _ _ _ _
    (prop_tree _ _ _ g.F.Spanned.place g.C.Spanned.place g.K.Spanned.place)
    (prop_or_spread_tree _ _ _ g.F.Spanned.place g.C.Spanned.place g.K.Spanned.place) _
    (Ok _) _ c.named-in-Assign.ensures
    (made-one c.pop_expr-value.ensures (λ at e.
    cover_prop_tree _ _ _ g.F.Spanned.place g.C.Spanned.place g.K.Spanned.place
    (record { span = c.in-Assign.p.span; key = c.in-Assign.p.key; value = c.pop_expr-value.result }) ∙ ap
    (λ v. node cover c.in-Assign.p.span (cons (ident_tree c.in-Assign.p.key) (cons v nil))) e)))

pub method-requires : goal.method-requires
method-requires g c = rw c.in-Method.is at c.requires

pub returns-in-Method : goal.returns-in-Method
returns-in-Method g c =
    rw c.in-Method.is (made-wrapped _ _ _ _ _ _
    (prop_tree _ _ _ g.F.Spanned.place g.C.Spanned.place g.K.Spanned.place)
    (prop_or_spread_tree _ _ _ g.F.Spanned.place g.C.Spanned.place g.K.Spanned.place) _
    c.method.result _ c.named-in-Method.ensures
    c.method.ensures)

pub getter-requires : goal.getter-requires
getter-requires g c = rw c.in-Getter.is at c.requires

pub returns-in-Getter : goal.returns-in-Getter
returns-in-Getter g c =
    rw c.in-Getter.is (made-wrapped _ _ _ _ _ _
    (prop_tree _ _ _ g.F.Spanned.place g.C.Spanned.place g.K.Spanned.place)
    (prop_or_spread_tree _ _ _ g.F.Spanned.place g.C.Spanned.place g.K.Spanned.place) _
    (Ok c.getter.result) _ c.named-in-Getter.ensures
    c.getter.ensures)

pub setter-requires : goal.setter-requires
setter-requires g c = rw c.in-Setter.is at c.requires

pub returns-in-Setter : goal.returns-in-Setter
returns-in-Setter g c =
    rw c.in-Setter.is (made-wrapped _ _ _ _ _ _
    (prop_tree _ _ _ g.F.Spanned.place g.C.Spanned.place g.K.Spanned.place)
    (prop_or_spread_tree _ _ _ g.F.Spanned.place g.C.Spanned.place g.K.Spanned.place) _
    c.setter.result _ c.named-in-Setter.ensures
    c.setter.ensures)
