use Rattle.std.proofs.Common.{sym, ap, subst, ◌∙◌}
use Rattle.swc_context.specs.{Reserved.strict_binding_words, Texts.is_one_of}
use Rattle.swc_input.specs.Buffer.{context}
use Rattle.swc_input.specs.Calls.{Checked}
use Rattle.swc_steps.specs.Parsing.{ident_spelling}
use Rattle.swc_steps.proofs.Steps.{check_passes, not_true, not_false}
use Rattle.swc_arrows.specs.Readers.{name_ok}
use Rattle.swc_arrows.proofs.NameReads.{ok_lax, ok_other, ok_strict}
use Rattle.swc_arrows.proofs.names.check_arrow_name.Goals as goal

pub returns-then-not-ctx-clause-checks : goal.returns-then-not-ctx-clause-checks
returns-then-not-ctx-clause-checks g c =
    let x = context g.I.Tokens.model c.args.input.now in
    check_passes (name_ok x (ident_spelling c.args.name.now)) g.met.I.Tokens.laws _
    (ok_lax x.module x.strict (is_one_of c.args.name.now.sym strict_binding_words)
    (ap (λ v. v.strict) (sym c.get_ctx-ctx.ensures) ∙ not_true _ c.if-not-ctx.true))

pub returns-then-not-is_reserved_in_strict_bind-clause-checks :
    goal.returns-then-not-is_reserved_in_strict_bind-clause-checks
returns-then-not-is_reserved_in_strict_bind-clause-checks g c =
    let x = context g.I.Tokens.model c.args.input.now in
    check_passes (name_ok x (ident_spelling c.args.name.now)) g.met.I.Tokens.laws _
    (ok_other x.module x.strict (is_one_of c.args.name.now.sym strict_binding_words)
    (sym c.is_reserved_in_strict_bind.ensures ∙ c.if-not-is_reserved_in_strict_bind.true))

pub returns-clause-checks : goal.returns-clause-checks
returns-clause-checks g c =
    let x = context g.I.Tokens.model c.args.input.now in
    subst (λ v. Checked g.I.Tokens.model v c.args.input.now c.emit_strict_mode_err.result
    c.emit_strict_mode_err.new.self)
    (sym (ok_strict x.module x.strict (is_one_of c.args.name.now.sym strict_binding_words)
    (ap (λ v. v.strict) (sym c.get_ctx-ctx.ensures) ∙ not_false _ c.if-not-ctx.false)
    (sym c.is_reserved_in_strict_bind.ensures ∙ c.if-not-is_reserved_in_strict_bind.false)))
    c.emit_strict_mode_err.ensures.checks
