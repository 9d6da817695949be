use Rattle.std.proofs.Common.{sym, ap, ◌∙◌}
use Rattle.swc_input.specs.Buffer.{context}
use Rattle.swc_ast.specs.Targets.{is_target}
use Rattle.swc_steps.specs.Parsing.{tree_of}
use Rattle.swc_steps.proofs.Emitted.{fit_seen}
use Rattle.swc_steps.proofs.Steps.{check_passes, check_notes, on_ok}
use Rattle.swc_operators.proofs.ops.check_update_target.Goals as goal

pub returns-then-is_simple_target-clause-checks : goal.returns-then-is_simple_target-clause-checks
returns-then-is_simple_target-clause-checks g c =
    let e = tree_of c.args.nodes.now c.args.arg in
    check_passes (is_target (context g.I.Tokens.model c.args.input.now).strict e) g.met.I.Tokens.laws _
    (ap (λ v. is_target v.strict e) (sym c.get_ctx-strict.ensures) ∙ sym c.is_simple_target.ensures
    ∙ c.if-is_simple_target.true)

pub returns-clause-checks : goal.returns-clause-checks
returns-clause-checks g c =
    let e = tree_of c.args.nodes.now c.args.arg in
    check_notes g.I.Tokens.model (is_target (context g.I.Tokens.model c.args.input.now).strict e) _ _ c.emit_err.result
    (ap (λ v. is_target v.strict e) (sym c.get_ctx-strict.ensures) ∙ sym c.is_simple_target.ensures
    ∙ c.if-is_simple_target.false)
    c.emit_err.ensures.tries c.emit_err.ensures.notes

pub returns-clause-kept : goal.returns-clause-kept
returns-clause-kept g c = λ h. on_ok c.emit_err.result (c.emit_err.ensures.kept (fit_seen _ h))
