use Rattle.std.proofs.Common.{not, sym, ap, ◌∙◌}
use Rattle.swc_primary.specs.Methods.{begins_rest, is_rest_at}
use Rattle.swc_primary.proofs.Functions.{first-from}
use Rattle.swc_steps.proofs.Steps.{check_passes, check_notes}
use Rattle.swc_primary.proofs.methods.check_rest.Goals as goal

pub is_rest_pat-requires : goal.is_rest_pat-requires
is_rest_pat-requires g c =
    first-from c.args.params.now.items c.in-Some.pat (sym c.first_param_pat.ensures ∙ c.in-Some.is) c.requires.params.0

pub pat_span-requires : goal.pat_span-requires
pat_span-requires g c =
    first-from c.args.params.now.items c.in-Some.pat (sym c.first_param_pat.ensures ∙ c.in-Some.is) c.requires.params.0

pub returns-then-not-is_rest_pat-clause-checks : goal.returns-then-not-is_rest_pat-clause-checks
returns-then-not-is_rest_pat-clause-checks g c =
    check_passes (not (begins_rest c.args.nodes.now c.args.params.now.items)) g.met.I.Tokens.laws _
    (ap (λ o. not (is_rest_at c.args.nodes.now o)) (sym c.first_param_pat.ensures ∙ c.in-Some.is)
    ∙ ap not (sym c.is_rest_pat.ensures ∙ c.if-not-is_rest_pat.true))

pub returns-else-not-is_rest_pat-clause-checks : goal.returns-else-not-is_rest_pat-clause-checks
returns-else-not-is_rest_pat-clause-checks g c =
    check_notes g.I.Tokens.model (not (begins_rest c.args.nodes.now c.args.params.now.items)) _ _ c.emit_err.result
    (ap (λ o. not (is_rest_at c.args.nodes.now o)) (sym c.first_param_pat.ensures ∙ c.in-Some.is)
    ∙ ap not (sym c.is_rest_pat.ensures ∙ c.if-not-is_rest_pat.false)) c.emit_err.ensures.tries c.emit_err.ensures.notes

pub returns-in-None-clause-checks : goal.returns-in-None-clause-checks
returns-in-None-clause-checks g c =
    check_passes (not (begins_rest c.args.nodes.now c.args.params.now.items)) g.met.I.Tokens.laws _
    (ap (λ o. not (is_rest_at c.args.nodes.now o)) (sym c.first_param_pat.ensures ∙ c.in-None.is))
