use Rattle.std.proofs.Common.{◌≡◌, Bool, true, false, not, ◌||◌, OnOk, sym, ap, subst, ◌∙◌}
use Rattle.swc_input.specs.Buffer.{last_position}
use Rattle.swc_steps.proofs.Steps.{forgoes_here}
use Rattle.swc_nodes.specs.GrowingNodes.{tree_at}
use Rattle.swc_input.specs.Recordings.{RecordsAll}
use Rattle.swc_ecma_parser.specs.Faults.{cover_faults}
use Rattle.swc_ecma_parser.specs.{CoverNames.parts_covers_left, Finishing.no_places}
use Rattle.swc_ecma_parser.proofs.CoversLeft.{covers-checked, unchecked}
use Rattle.swc_ecma_parser.proofs.finishing.check_covers.Goals as goal

not_pedantic : {A : Type 0} {b : Bool} → b ≡ true → not b ≡ true → A
not_pedantic {b = true} h k = absurd cc
not_pedantic {b = false} h k = absurd cc

pub returns-then-not-syntax-clause-checks : goal.returns-then-not-syntax-clause-checks
returns-then-not-syntax-clause-checks g c =
    let none = no_places (parts_covers_left (tree_at c.args.nodes.now) (g.T.Take.parts c.args.item.now)) in
    unchecked g.met.I.Tokens.laws c.args.input.now
    (ap (λ v. not v.pedantic || none) (sym c.syntax-syntax.ensures) ∙ ap (λ v. v || none) c.if-not-syntax.true)

pub returns-in-Ok-clause-checks : goal.returns-in-Ok-clause-checks
returns-in-Ok-clause-checks g c =
    let none = no_places (parts_covers_left (tree_at c.args.nodes.now) (g.T.Take.parts c.args.item.now)) in
    let done = c.record_cover_names.ensures in
    covers-checked g.met.I.Tokens.laws c.deref.result.now _ _ _ c.record_cover_names.result
    (ap (λ v. not v.pedantic || none) (sym c.syntax-syntax.ensures) ∙ ap (λ v. v || none) c.if-not-syntax.false
    ∙ ap no_places (sym (c.deref.ensures.value ∙ c.in-Ok.ensures)))
    done.silent done.recorded done.refused done.read done.lives

pub returns-in-Err-clause-checks : goal.returns-in-Err-clause-checks
returns-in-Err-clause-checks g c =
    forgoes_here g.met.I.Tokens.laws c.args.input.now (last_position c.args.input.now)
    c.out_of_memory.result c.out_of_memory.ensures

pub returns-then-not-syntax-clause-records : goal.returns-then-not-syntax-clause-records
returns-then-not-syntax-clause-records g c = λ pedantic loud.
    not_pedantic (ap (λ v. v.pedantic) c.syntax-syntax.ensures ∙ pedantic) c.if-not-syntax.true

pub returns-in-Ok-clause-records : goal.returns-in-Ok-clause-records
returns-in-Ok-clause-records g c = λ pedantic loud.
    subst (λ ss. OnOk c.record_cover_names.result (RecordsAll g.I.Tokens.model (cover_faults ss)
    c.args.input.now c.record_cover_names.new.input)) (c.deref.ensures.value ∙ c.in-Ok.ensures)
    (c.record_cover_names.ensures.recorded loud)
