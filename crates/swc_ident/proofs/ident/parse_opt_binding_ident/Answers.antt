use Rattle.std.proofs.Common.{sym, ap, ◌∙◌}
use Rattle.std.proofs.lemmas.Result.{err_from_is_err_and}
use Rattle.swc_ident.specs.Naming.{no_memory_to_bind}
use Rattle.swc_ident.proofs.Reading.{looked_reads, reads_then}
use Rattle.swc_ident.proofs.Finding.{bound_later, unbound, unbindable_later}
use Rattle.swc_ident.proofs.ident.parse_opt_binding_ident.Goals as goal

pub returns-in_err-has_cur-clause-optional : goal.returns-in_err-has_cur-clause-optional
returns-in_err-has_cur-clause-optional g c =
    let p = err_from_is_err_and c.from_residual.result c.from_residual.ensures.1 in rw (p.1, p.2)
    (no_memory_to_bind _ c.in_err-has_cur.ensures.refused.1.look.read
    (ap (λ x. x.kind) c.in_err-has_cur.ensures.refused.0))

pub returns-then-not-is_at_bindable-clause-optional : goal.returns-then-not-is_at_bindable-clause-optional
returns-then-not-is_at_bindable-clause-optional g c =
    unbound c.in_ok-has_cur.ensures.seen.looked (sym c.is_at_bindable.ensures ∙ c.if-not-is_at_bindable.true)

pub returns-in_err-name-clause-optional : goal.returns-in_err-name-clause-optional
returns-in_err-name-clause-optional g c =
    let p = err_from_is_err_and c.from_residual-in_err-name.result c.from_residual-in_err-name.ensures.1 in
    rw (p.1, p.2)
    (unbindable_later g.met.I.Tokens.laws c.in_ok-has_cur.ensures.seen.looked
    (sym c.is_at_bindable.ensures ∙ c.if-not-is_at_bindable.false) c.in_err-name.ensures.names)

pub returns-in_err-name-clause-read : goal.returns-in_err-name-clause-read
returns-in_err-name-clause-read g c = reads_then g.met.I.Tokens.laws
    (looked_reads c.in_ok-has_cur.ensures.seen.looked) c.parse_binding_ident.ensures.read

pub returns-clause-optional : goal.returns-clause-optional
returns-clause-optional g c =
    bound_later g.met.I.Tokens.laws c.in_ok-has_cur.ensures.seen.looked
    (sym c.is_at_bindable.ensures ∙ c.if-not-is_at_bindable.false) c.in_ok-name.ensures.names

pub returns-clause-read : goal.returns-clause-read
returns-clause-read g c = reads_then g.met.I.Tokens.laws
    (looked_reads c.in_ok-has_cur.ensures.seen.looked) c.parse_binding_ident.ensures.read
