use Rattle.std.proofs.{Common.refl, lemmas.Result.err_from_is_err_and}
use Rattle.swc_ident.specs.{Naming.none-noted, Verdicts.name_of_any}
use Rattle.swc_ident.proofs.Reading.{forgone_here, passed_reads, place_told}
use Rattle.swc_ident.proofs.Finding.{forgone_unnamed, named_reads, names_read, taken_word}
use Rattle.swc_ident.proofs.ident.parse_ident_name.Goals as goal

pub returns-in_err-word-clause-names : goal.returns-in_err-word-clause-names
returns-in_err-word-clause-names g c =
    let p = err_from_is_err_and c.from_residual.result c.from_residual.ensures.1 in rw (p.1, p.2) c.in_err-word.ensures

pub returns-in_err-word-clause-read : goal.returns-in_err-word-clause-read
returns-in_err-word-clause-read g c =
    names_read g.I.Tokens.model name_of_any (λ i. i.sym) (λ i. i.span) _ _ c.from_residual.result
    g.met.I.Tokens.laws (returns-in_err-word-clause-names g c)

pub returns-in_err-sym-clause-names : goal.returns-in_err-sym-clause-names
returns-in_err-sym-clause-names g c =
    let p = err_from_is_err_and c.from_residual-in_err-sym.result c.from_residual-in_err-sym.ensures.1 in rw (p.1, p.2)
    (forgone_unnamed g.met.I.Tokens.laws
    (passed_reads g.met.I.Tokens.laws c.in_ok-word.ensures)
    (forgone_here g.met.I.Tokens.laws c.in_err-sym.ensures))

pub returns-in_err-sym-clause-read : goal.returns-in_err-sym-clause-read
returns-in_err-sym-clause-read g c =
    names_read g.I.Tokens.model name_of_any (λ i. i.sym) (λ i. i.span) _ _ c.from_residual-in_err-sym.result
    g.met.I.Tokens.laws (returns-in_err-sym-clause-names g c)

pub returns-clause-names : goal.returns-clause-names
returns-clause-names g c =
    taken_word _ g.met.I.Tokens.laws refl
    (place_told c.prev_span-span.ensures c.in_ok-word.ensures) c.in_ok-sym.ensures refl refl none-noted

pub returns-clause-read : goal.returns-clause-read
returns-clause-read g c = named_reads (returns-clause-names g c)
