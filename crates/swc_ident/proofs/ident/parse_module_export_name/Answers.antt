use Rattle.std.proofs.Common.{refl, sym, ap, ◌∙◌}
use Rattle.std.proofs.lemmas.Result.{err_from_is_err_and}
use Rattle.swc_input.specs.Kinds.{at_token}
use Rattle.swc_ident.specs.{Naming.no_memory_for_it, Naming.no_string, Verdicts.is_word, Verdicts.is_str}
use Rattle.swc_ident.proofs.Reading.{forgone_later, looked_reads, passed_over, reads_then, refused_reads}
use Rattle.swc_ident.proofs.Finding.{named_later, word_forgone}
use Rattle.swc_ident.proofs.ident.parse_module_export_name.Goals as goal

pub returns-in_err-has_cur-clause-export : goal.returns-in_err-has_cur-clause-export
returns-in_err-has_cur-clause-export g c =
    let p = err_from_is_err_and c.from_residual.result c.from_residual.ensures.1 in rw (p.1, p.2)
    (no_memory_for_it _ c.in_err-has_cur.ensures.refused.1.look.read
    (ap (λ x. x.kind) c.in_err-has_cur.ensures.refused.0))

pub returns-then-is_at_str-clause-export : goal.returns-then-is_at_str-clause-export
returns-then-is_at_str-clause-export g c = record {
  here = c.has_cur.new.self;
  looked = c.in_ok-has_cur.ensures.seen.looked;
  took = c.bump_str.ensures.took;
  place = c.bump_str.ensures.place ∙ ap (λ b. b.prev_span) c.bump_str.ensures.took.now;
}

pub returns-then-is_at_str-clause-read : goal.returns-then-is_at_str-clause-read
returns-then-is_at_str-clause-read g c = reads_then g.met.I.Tokens.laws
    (looked_reads c.in_ok-has_cur.ensures.seen.looked) (_, c.bump_str.ensures.took.read)

pub returns-in_err-name-clause-export : goal.returns-in_err-name-clause-export
returns-in_err-name-clause-export g c =
    let p = err_from_is_err_and c.from_residual-in_err-name.result c.from_residual-in_err-name.ensures.1 in
    let f = forgone_later g.met.I.Tokens.laws (looked_reads c.in_ok-has_cur.ensures.seen.looked)
    (word_forgone (sym c.is_at_word.ensures ∙ c.if-is_at_word.true) c.in_err-name.ensures.names) in
    rw (p.1, p.2) (no_memory_for_it f.consumed f.read f.kind)

pub returns-in_err-name-clause-read : goal.returns-in_err-name-clause-read
returns-in_err-name-clause-read g c = reads_then g.met.I.Tokens.laws
    (looked_reads c.in_ok-has_cur.ensures.seen.looked) c.parse_ident_name.ensures.read

pub returns-then-is_at_word-clause-export : goal.returns-then-is_at_word-clause-export
returns-then-is_at_word-clause-export g c = named_later g.met.I.Tokens.laws c.in_ok-has_cur.ensures.seen.looked
    c.in_ok-name.ensures.names

pub returns-then-is_at_word-clause-read : goal.returns-then-is_at_word-clause-read
returns-then-is_at_word-clause-read g c = reads_then g.met.I.Tokens.laws
    (looked_reads c.in_ok-has_cur.ensures.seen.looked) c.parse_ident_name.ensures.read

pub returns-clause-export : goal.returns-clause-export
returns-clause-export g c =
    let x = passed_over c.in_ok-has_cur.field-0 g.met.I.Tokens.laws c.in_ok-has_cur.ensures.seen
    c.unexpected.ensures.refused in
    no_string x.0 refl (ap (at_token is_word) x.1 ∙ sym c.is_at_word.ensures ∙ c.if-is_at_word.false)
    (ap (at_token is_str) x.1 ∙ sym c.is_at_str.ensures ∙ c.if-is_at_str.false)

pub returns-clause-read : goal.returns-clause-read
returns-clause-read g c = reads_then g.met.I.Tokens.laws (looked_reads c.in_ok-has_cur.ensures.seen.looked)
    (refused_reads g.met.I.Tokens.laws c.unexpected.ensures.refused)
