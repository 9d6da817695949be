use Rattle.std.proofs.Common.{◌≡◌, true, false, not, ◌++◌, sym, ap, ◌∙◌}
use Rattle.swc_input.specs.Buffer.{context, last_position}
use Rattle.swc_cover.proofs.Bound.{names-lax}
use Rattle.swc_cover.proofs.FaultsNoted.{all-bound, none-bound, none-strict, strict-as}
use Rattle.swc_cover.specs.{ReservedNames.all_reserved, ReservedNames.names_ok, Refining.pats_at}
use Rattle.swc_steps.proofs.Steps.{check_passes, forgoes_here}
use Rattle.swc_cover.proofs.param_names.check_param_names.Goals as goal

pub returns-then-not-get_ctx-clause-checks : goal.returns-then-not-get_ctx-clause-checks
returns-then-not-get_ctx-clause-checks g c =
    let ps = pats_at c.args.nodes.now c.args.pats.now.items in
    let k = context g.I.Tokens.model c.args.input.now in
    check_passes (names_ok k ps) g.met.I.Tokens.laws _
    (names-lax k ps (ap (λ v. not v.strict) (sym c.get_ctx.ensures) ∙ c.if-not-get_ctx.true))

pub returns-clause-checks : goal.returns-clause-checks
returns-clause-checks g c =
    forgoes_here g.met.I.Tokens.laws c.args.input.now (last_position c.args.input.now) c.out_of_memory.result
    c.out_of_memory.ensures

pub returns-then-not-get_ctx-clause-notes : goal.returns-then-not-get_ctx-clause-notes
returns-then-not-get_ctx-clause-notes g c =
    let ps = pats_at c.args.nodes.now c.args.pats.now.items in
    let k = context g.I.Tokens.model c.args.input.now in
    let lax : not k.strict ≡ true = ap (λ v. not v.strict) (sym c.get_ctx.ensures) ∙ c.if-not-get_ctx.true in
    rw (none-bound k ps lax) (none-strict _)

pub returns-in-Ok-clause-notes : goal.returns-in-Ok-clause-notes
returns-in-Ok-clause-notes g c =
    let ps = pats_at c.args.nodes.now c.args.pats.now.items in
    let k = context g.I.Tokens.model c.args.input.now in
    let sharp : not k.strict ≡ false = ap (λ v. not v.strict) (sym c.get_ctx.ensures) ∙ c.if-not-get_ctx.false in
    strict-as g.I.Tokens.model _ _ c.record_names.result (all-bound k ps sharp
    (c.in-Ok.ensures ∙ ap (λ v. v ++ all_reserved ps) c.new-spans.ensures.items)) c.record_names.ensures.notes
