-- Trees as patterns, computed.
use Rattle.std.specs.Prelude.{◌≡◌, ℕ, Bool, true, false, Some, None, codes}
use Rattle.std.proofs.Common.{refl}
use Rattle.swc_context.specs.{declared.span.Span.Span, declared.operator.AssignOp.AssignOp as write}
use Rattle.swc_ast.specs.Tree.{Tree, node, Trees, nil, cons, no_span, pat_expr, dots}
use Rattle.swc_ast.specs.Trees.{ident_e, item_e, hole_e, spread_e, paren_e, member_e, name_e, assign_e, listed, num_e, array_e, object_e, cover_e, spread_prop_e}
use Rattle.swc_ast.specs.Patterns.{array_p, object_p, rest_p, name_p}
use Rattle.swc_grammar.specs.Cover.{Role, target, binding, as_pat, as_params, as_literal}

abbrev s : Span
s = no_span

abbrev a : Tree ℕ ℕ ℕ
a = ident_e s (codes "a")

abbrev b : Tree ℕ ℕ ℕ
b = ident_e s (codes "b")

abbrev n : Tree ℕ ℕ ℕ
n = num_e s (codes "1")

abbrev eval : Tree ℕ ℕ ℕ
eval = ident_e s (codes "eval")

abbrev dot : Tree ℕ ℕ ℕ → Tree ℕ ℕ ℕ
dot t = member_e s t (name_e s (codes "x"))

abbrev one : Tree ℕ ℕ ℕ → Trees ℕ ℕ ℕ
one t = cons t nil

-- `(a, [b], {c = 1})`
params-row : as_params (listed None s (cons (item_e a) (cons (item_e (array_e None s (one (item_e b))))
    (one (item_e (object_e None s (one (cover_e s a n))))))))
    ≡ Some (cons a (cons (array_p s (one b)) (one (object_p s (one (name_p s a n))))))
params-row = refl

-- `(a.x)`, `((a))`: no parameters
member-row : as_params (listed None s (one (item_e (dot a)))) ≡ None
member-row = refl

paren-row : as_params (listed None s (one (item_e (paren_e s a)))) ≡ None
paren-row = refl

-- `([a.x] = b)`: the literal is refined for the assignment, and what it gives doesn't bind
inner-row : as_literal false (array_e None s (one (item_e (dot a))))
    ≡ Some (array_p s (one (node pat_expr s (one (dot a)))))
inner-row = refl

refined-row : as_params
    (listed None s (one (item_e (assign_e s write.Assign (array_p s (one (node pat_expr s (one (dot a))))) b))))
    ≡ None
refined-row = refl

-- `[a,,] = b` drops its hole; `[...a,,]`, `[...a,]` and `[...a = 1]` aren't written to
hole-row : as_literal false (array_e None s (cons (item_e a) (one hole_e))) ≡ Some (array_p s (one a))
hole-row = refl

rest-hole-row : as_literal false (array_e None s (cons (spread_e s a) (one hole_e))) ≡ None
rest-hole-row = refl

rest-comma-row : as_literal false (array_e (Some s) s (one (spread_e s a))) ≡ None
rest-comma-row = refl

rest-row : as_literal false (array_e None s (cons hole_e (one (spread_e s (array_e None s (one (item_e a)))))))
    ≡ Some (array_p s (cons hole_e (one (rest_p s (node dots s nil) (array_p s (one a))))))
rest-row = refl

rest-assign-row : as_literal false (array_e None s (one (spread_e s (assign_e s write.Assign a n)))) ≡ None
rest-assign-row = refl

-- `{...[a]} = b` is written to, and no parameter; `{...a}` is both
rest-prop-row : as_literal false (object_e None s (one (spread_prop_e s (array_e None s nil))))
    ≡ Some (object_p s (one (rest_p s (node dots s nil) (array_p s nil))))
rest-prop-row = refl

rest-prop-bound-row : as_pat binding (object_e None s (one (spread_prop_e s (array_e None s nil)))) ≡ None
rest-prop-bound-row = refl

rest-name-row : (m : Role) → as_pat m (object_e None s (one (spread_prop_e s a)))
    ≡ Some (object_p s (one (rest_p s (node dots s nil) a)))
rest-name-row (target strict) = by-strict strict
  where
    by-strict : (strict : Bool) → as_pat (target strict) (object_e None s (one (spread_prop_e s a)))
        ≡ Some (object_p s (one (rest_p s (node dots s nil) a)))
    by-strict true = refl
    by-strict false = refl
rest-name-row binding = refl

-- `eval` in strict code, and `a += 1`
eval-row : as_pat (target true) eval ≡ None
eval-row = refl

sum-row : as_pat binding (assign_e s write.AddAssign a n) ≡ None
sum-row = refl
