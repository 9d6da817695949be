use Rattle.std.proofs.lemmas.Result.{err_from_is_err_and}
use Rattle.swc_ident.proofs.Reading.{reads_then}
use Rattle.swc_ident.proofs.Finding.{binding_named, binding_unnamed, forgone_unnamed, named_reads}
use Rattle.swc_ident.proofs.ident.parse_binding_ident.Goals as goal

pub returns-in_err-id-clause-names : goal.returns-in_err-id-clause-names
returns-in_err-id-clause-names g c =
    let p = err_from_is_err_and c.from_residual.result c.from_residual.ensures.1 in
    rw (p.1, p.2) (binding_unnamed c.in_err-id.ensures.names)

pub returns-in_err-note_binding-clause-names : goal.returns-in_err-note_binding-clause-names
returns-in_err-note_binding-clause-names g c =
    let p = err_from_is_err_and c.from_residual-in_err-note_binding.result
    c.from_residual-in_err-note_binding.ensures.1 in rw (p.1, p.2)
    (forgone_unnamed g.met.I.Tokens.laws (named_reads c.in_ok-id.ensures.names) c.in_err-note_binding.ensures)

pub returns-in_err-note_binding-clause-read : goal.returns-in_err-note_binding-clause-read
returns-in_err-note_binding-clause-read g c =
    let f = c.in_err-note_binding.ensures in reads_then g.met.I.Tokens.laws (named_reads c.in_ok-id.ensures.names)
    (f.consumed, f.read)

pub returns-clause-names : goal.returns-clause-names
returns-clause-names g c = binding_named g.met.I.Tokens.laws c.in_ok-id.ensures.names c.in_ok-note_binding.ensures

pub returns-clause-read : goal.returns-clause-read
returns-clause-read g c = named_reads (returns-clause-names g c)
