use Rattle.std.proofs.Common.{ap, map, ◌++◌, ◌∷◌, [], ◌∙◌, sym}
use Rattle.swc_cover.proofs.InPlace.{one-apart, one-kept, refines-suit, became-one, became-pat, became-held}
use Rattle.swc_cover.proofs.{Appended.if_ok-as, Kept.none-kept, Kept.kept-more}
use Rattle.swc_nodes.specs.Roles.{due}
use Rattle.swc_nodes.specs.declared.role.Duty.{Duty}
use Rattle.swc_nodes.specs.declared.apart.PartId.TheVariants as part
use Rattle.swc_cover.proofs.patterns.refine.Goals as goal

pub turn-requires-clause-apart : goal.turn-requires-clause-apart
turn-requires-clause-apart g c =
    let d : Duty = record { part = part.Expr c.args.id; role = c.args.role } in
    one-apart c.args.role c.args.id _
    (ap (map due) (c.in_ok-push.ensures.items ∙ ap (λ v. v ++ d ∷ []) c.new-roots.ensures.items))
    c.requires.from

pub turn-requires-clause-suit : goal.turn-requires-clause-suit
turn-requires-clause-suit g c =
    let d : Duty = record { part = part.Expr c.args.id; role = c.args.role } in
    refines-suit c.args.role c.args.id _ c.requires.role
    (ap (map due) (c.in_ok-push.ensures.items ∙ ap (λ v. v ++ d ∷ []) c.new-roots.ensures.items))

pub returns-in_err-push-clause-kept : goal.returns-in_err-push-clause-kept
returns-in_err-push-clause-kept g c = none-kept c.requires.from

pub returns-in_err-turn-clause-kept : goal.returns-in_err-turn-clause-kept
returns-in_err-turn-clause-kept g c =
    let d : Duty = record { part = part.Expr c.args.id; role = c.args.role } in
    one-kept c.args.role c.args.id _
    (ap (map due) (c.in_ok-push.ensures.items ∙ ap (λ v. v ++ d ∷ []) c.new-roots.ensures.items))
    c.requires.from c.turn.ensures.kept

pub returns-then-has_expr-clause-kept : goal.returns-then-has_expr-clause-kept
returns-then-has_expr-clause-kept g c =
    let d : Duty = record { part = part.Expr c.args.id; role = c.args.role } in
    kept-more (one-kept c.args.role c.args.id _ (ap (map due) (c.in_ok-push.ensures.items ∙ ap (λ v. v ++ d ∷ [])
    c.new-roots.ensures.items)) c.requires.from c.turn.ensures.kept) c.hold_expr.ensures.grows

pub returns-then-has_expr-clause-made : goal.returns-then-has_expr-clause-made
returns-then-has_expr-clause-made g c =
    let d : Duty = record { part = part.Expr c.args.id; role = c.args.role } in
    let m = became-one c.args.role c.args.id _ c.requires.role
    (ap (map due) (c.in_ok-push.ensures.items ∙ ap (λ v. v ++ d ∷ []) c.new-roots.ensures.items))
    c.requires.from c.in_ok-turn.ensures.turned in
    if_ok-as _ _ c.hold_expr.result
    (λ p made. became-held c.args.role c.args.id p _ c.requires.role c.requires.from
    (c.has_expr.ensures.has c.if-has_expr.true) m made) c.hold_expr.ensures.made

pub returns-clause-kept : goal.returns-clause-kept
returns-clause-kept g c =
    let d : Duty = record { part = part.Expr c.args.id; role = c.args.role } in
    one-kept c.args.role c.args.id _
    (ap (map due) (c.in_ok-push.ensures.items ∙ ap (λ v. v ++ d ∷ []) c.new-roots.ensures.items))
    c.requires.from c.turn.ensures.kept

pub returns-clause-made : goal.returns-clause-made
returns-clause-made g c =
    let d : Duty = record { part = part.Expr c.args.id; role = c.args.role } in
    became-pat c.args.role c.args.id _ c.requires.role
    (λ f. let e = sym c.if-has_expr.false ∙ c.has_expr.ensures.all f in cc)
    (became-one c.args.role c.args.id _ c.requires.role
    (ap (map due) (c.in_ok-push.ensures.items ∙ ap (λ v. v ++ d ∷ []) c.new-roots.ensures.items))
    c.requires.from c.in_ok-turn.ensures.turned)
