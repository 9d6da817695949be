use Rattle.std.proofs.{Common.sym, Common.◌∙◌, lemmas.Result.err_from_is_err_and}
use Rattle.swc_ident.specs.Verdicts.{ident_verdict}
use Rattle.swc_ident.proofs.Reading.{forgone_here, notes_read, place_told, reads_then, passed_reads}
use Rattle.swc_ident.proofs.Finding.{forgone_unnamed, named_reads, names_read, refused_name, same_faults, taken_word, unnamed_any, unnamed_reads}
use Rattle.swc_ident.proofs.ident.parse_ident.Goals as goal

pub returns-in_err-word-clause-names : goal.returns-in_err-word-clause-names
returns-in_err-word-clause-names g c =
    let p = err_from_is_err_and c.from_residual.result c.from_residual.ensures.1 in
    rw (p.1, p.2) (unnamed_any c.in_err-word.ensures)

pub returns-in_err-word-clause-read : goal.returns-in_err-word-clause-read
returns-in_err-word-clause-read g c =
    names_read g.I.Tokens.model (ident_verdict c.args.incl_yield c.args.incl_await) (λ i. i.sym)
    (λ i. i.span) _ _ c.from_residual.result
    g.met.I.Tokens.laws (returns-in_err-word-clause-names g c)

pub returns-in-Err-clause-names : goal.returns-in-Err-clause-names
returns-in-Err-clause-names g c =
    forgone_unnamed g.met.I.Tokens.laws
    (passed_reads g.met.I.Tokens.laws c.in_ok-word.ensures) c.in-Err.ensures

pub returns-in-Err-clause-read : goal.returns-in-Err-clause-read
returns-in-Err-clause-read g c = unnamed_reads g.met.I.Tokens.laws (returns-in-Err-clause-names g c)

pub returns-in-Some-clause-names : goal.returns-in-Some-clause-names
returns-in-Some-clause-names g c =
    refused_name c.get_ctx-ctx.result c.get_ctx-ctx.ensures (place_told c.prev_span-span.ensures c.in_ok-word.ensures)
    (sym c.refusal_of.ensures ∙ c.in-Some.is) (c.mark_of-mark.ensures
    ∙ same_faults c.args.incl_yield c.args.incl_await c.get_ctx-ctx.result c.in_ok-word.word)
    c.in_default.ensures c.syntax_error.ensures.refused

pub returns-in-Some-clause-read : goal.returns-in-Some-clause-read
returns-in-Some-clause-read g c = unnamed_reads g.met.I.Tokens.laws (returns-in-Some-clause-names g c)

pub returns-in_err-sym-clause-names : goal.returns-in_err-sym-clause-names
returns-in_err-sym-clause-names g c =
    let p = err_from_is_err_and c.from_residual-in_err-sym.result c.from_residual-in_err-sym.ensures.1 in rw (p.1, p.2)
    (forgone_unnamed g.met.I.Tokens.laws
    (reads_then g.met.I.Tokens.laws
    (passed_reads g.met.I.Tokens.laws c.in_ok-word.ensures)
    (notes_read g.met.I.Tokens.laws c.in_default.ensures))
    (forgone_here g.met.I.Tokens.laws c.in_err-sym.ensures))

pub returns-in_err-sym-clause-read : goal.returns-in_err-sym-clause-read
returns-in_err-sym-clause-read g c =
    names_read g.I.Tokens.model (ident_verdict c.args.incl_yield c.args.incl_await) (λ i. i.sym)
    (λ i. i.span) _ _ c.from_residual-in_err-sym.result
    g.met.I.Tokens.laws (returns-in_err-sym-clause-names g c)

pub returns-clause-names : goal.returns-clause-names
returns-clause-names g c =
    taken_word c.get_ctx-ctx.result g.met.I.Tokens.laws c.get_ctx-ctx.ensures
    (place_told c.prev_span-span.ensures c.in_ok-word.ensures) c.in_ok-sym.ensures
    (sym c.refusal_of.ensures ∙ c.in_default-refusal_of.is)
    (c.mark_of-mark.ensures ∙ same_faults c.args.incl_yield c.args.incl_await c.get_ctx-ctx.result c.in_ok-word.word)
    c.in_default.ensures

pub returns-clause-read : goal.returns-clause-read
returns-clause-read g c = named_reads (returns-clause-names g c)
