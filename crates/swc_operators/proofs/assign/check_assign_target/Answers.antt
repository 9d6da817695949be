use Rattle.std.proofs.Common.{◌≡◌, false, sym, ap, subst, ◌∙◌}
use Rattle.swc_input.specs.Buffer.{context}
use Rattle.swc_ast.specs.Targets.{is_target}
use Rattle.swc_nodes.proofs.Targets.{target-from}
use Rattle.swc_input.specs.Calls.{Refuses}
use Rattle.swc_steps.specs.Parsing.{tree_of}
use Rattle.swc_steps.proofs.Steps.{check_passes, refuses_later}
use Rattle.swc_operators.proofs.assign.check_assign_target.Goals as goal
use Rattle.swc_operators.proofs.assign.check_assign_target.Goals.{in-Assign+in_ok-emit_err-in-Assign, in_default+in_ok-emit_err-in_default}

pub returns-then-is_simple_target-clause-checks : goal.returns-then-is_simple_target-clause-checks
returns-then-is_simple_target-clause-checks g c =
    let e = tree_of c.args.nodes.now c.args.left in
    check_passes (is_target (context g.I.Tokens.model c.args.input.now).strict e) g.met.I.Tokens.laws _
    (ap (λ v. is_target v.strict e) (sym c.get_ctx-strict.ensures) ∙ sym c.is_simple_target.ensures
    ∙ c.if-is_simple_target.true)

pub returns-then-is_simple_target-clause-target : goal.returns-then-is_simple_target-clause-target
returns-then-is_simple_target-clause-target g c =
    target-from c.get_ctx-strict.result.strict c.requires.from
    (sym c.is_simple_target.ensures ∙ c.if-is_simple_target.true)

pub returns-clause-refuses : goal.returns-clause-refuses
returns-clause-refuses g c =
    let e = tree_of c.args.nodes.now c.args.left in
    let bad : is_target (context g.I.Tokens.model c.args.input.now).strict e ≡ false =
    ap (λ v. is_target v.strict e) (sym c.get_ctx-strict.ensures) ∙ sym c.is_simple_target.ensures
    ∙ c.if-is_simple_target.false in
    let refused = c.syntax_error.ensures.refuses (λ e. cc) in
    let later : Refuses g.I.Tokens.model c.args.input.now c.syntax_error.result c.syntax_error.new.self =
    elim c.match-op.branch [
      | in-Assign+in_ok-emit_err-in-Assign w ↦
          refuses_later w.in_ok-emit_err-in-Assign.ensures.tries
          (subst (λ b. Refuses g.I.Tokens.model b c.syntax_error.result c.syntax_error.new.self) w.input-is refused)
      | in_default+in_ok-emit_err-in_default w ↦
          refuses_later w.in_ok-emit_err-in_default.ensures.tries
          (subst (λ b. Refuses g.I.Tokens.model b c.syntax_error.result c.syntax_error.new.self) w.input-is refused)
    ] in
    (later, λ n. bad)
