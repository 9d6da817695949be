use Rattle.std.proofs.Common.{◌≡◌, Bool, true, false, not, ◌||◌, ◌&&◌, refl, sym, ap, ◌∙◌}
use Rattle.swc_input.specs.Buffer.{context}
use Rattle.swc_grammar.specs.Tokens.{await_ok}
use Rattle.swc_steps.proofs.Steps.{check_passes, not_and, not_false}
use Rattle.swc_operators.proofs.ops.check_await.Goals as goal
use Rattle.swc_operators.proofs.ops.check_await.Goals.{else-ctx-via-then-ctx+else-not-ctx, else-ctx-via-else-ctx, else-ctx-2-via-then-ctx-2+else-not-ctx-2, else-ctx-2-via-else-ctx-2}

or_not : (a b : Bool) → b ≡ false → (a || not b) ≡ true
or_not true b h = refl
or_not false b h = ap not h

pub returns-clause-checks : goal.returns-clause-checks
returns-clause-checks g c =
    let x = c.get_ctx-ctx.result in
    let one : (x.in_async || not x.in_function) ≡ true = elim c.else-ctx.branch [
      | else-ctx-via-then-ctx+else-not-ctx w ↦ ap (λ b. b || not x.in_function)
          (not_false x.in_async w.if-not-ctx.false)
      | else-ctx-via-else-ctx w ↦ or_not x.in_async x.in_function w.if-ctx.false
    ] in
    let two : not (x.in_parameters && not x.in_function) ≡ true = elim c.else-ctx-2.branch [
      | else-ctx-2-via-then-ctx-2+else-not-ctx-2 w ↦ not_and x.in_parameters (not x.in_function) w.if-not-ctx-2.false
      | else-ctx-2-via-else-ctx-2 w ↦ ap (λ b. not (b && not x.in_function)) w.if-ctx-2.false
    ] in
    check_passes (await_ok (context g.I.Tokens.model c.args.input.now)) g.met.I.Tokens.laws _
    (ap await_ok (sym c.get_ctx-ctx.ensures) ∙ ap (λ b. b && not (x.in_parameters && not x.in_function)) one ∙ two)
