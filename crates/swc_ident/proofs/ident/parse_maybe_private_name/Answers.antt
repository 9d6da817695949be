use Rattle.std.proofs.{Common.sym, Common.◌∙◌, lemmas.Result.err_from_is_err_and}
use Rattle.swc_ident.proofs.{Reading.looked_reads, Reading.reads_then, Finding.named_later, Privacy.neither_memory, Privacy.private_later}
use Rattle.swc_ident.proofs.ident.parse_maybe_private_name.Goals as goal

pub returns-in_err-has_cur-clause-either : goal.returns-in_err-has_cur-clause-either
returns-in_err-has_cur-clause-either g c =
    let p = err_from_is_err_and c.from_residual.result c.from_residual.ensures.1 in rw (p.1, p.2)
    (neither_memory g.met.I.Tokens.laws c.in_err-has_cur.ensures.refused.1 c.in_err-has_cur.ensures.refused.2
    c.in_err-has_cur.ensures.refused.0)

pub returns-in_err-name-clause-either : goal.returns-in_err-name-clause-either
returns-in_err-name-clause-either g c =
    let p = err_from_is_err_and c.from_residual-in_err-name.result c.from_residual-in_err-name.ensures.1 in
    rw (p.1, p.2)
    (record {
      here = c.has_cur.new.self;
      looked = c.in_ok-has_cur.ensures.seen.looked;
      at_hash = λ t. c.in_err-name.ensures.private;
      elsewhere = λ f. let t = sym c.is_at_hash.ensures ∙ c.if-is_at_hash.true in absurd cc;
    })

pub returns-in_err-name-clause-read : goal.returns-in_err-name-clause-read
returns-in_err-name-clause-read g c = reads_then g.met.I.Tokens.laws
    (looked_reads c.in_ok-has_cur.ensures.seen.looked) c.parse_private_name.ensures.read

pub returns-then-is_at_hash-clause-either : goal.returns-then-is_at_hash-clause-either
returns-then-is_at_hash-clause-either g c = private_later g.met.I.Tokens.laws c.in_ok-has_cur.ensures.seen.looked
    c.in_ok-name.ensures.private

pub returns-then-is_at_hash-clause-read : goal.returns-then-is_at_hash-clause-read
returns-then-is_at_hash-clause-read g c = reads_then g.met.I.Tokens.laws
    (looked_reads c.in_ok-has_cur.ensures.seen.looked) c.parse_private_name.ensures.read

pub returns-in_err-name-2-clause-either : goal.returns-in_err-name-2-clause-either
returns-in_err-name-2-clause-either g c =
    let p = err_from_is_err_and c.from_residual-in_err-name-2.result c.from_residual-in_err-name-2.ensures.1 in
    rw (p.1, p.2)
    (record {
      here = c.has_cur.new.self;
      looked = c.in_ok-has_cur.ensures.seen.looked;
      at_hash = λ t. let f = sym c.is_at_hash.ensures ∙ c.if-is_at_hash.false in absurd cc;
      elsewhere = λ f. c.in_err-name-2.ensures.names;
    })

pub returns-in_err-name-2-clause-read : goal.returns-in_err-name-2-clause-read
returns-in_err-name-2-clause-read g c = reads_then g.met.I.Tokens.laws
    (looked_reads c.in_ok-has_cur.ensures.seen.looked) c.parse_ident_name.ensures.read

pub returns-clause-either : goal.returns-clause-either
returns-clause-either g c = named_later g.met.I.Tokens.laws c.in_ok-has_cur.ensures.seen.looked
    c.in_ok-name-2.ensures.names

pub returns-clause-read : goal.returns-clause-read
returns-clause-read g c = reads_then g.met.I.Tokens.laws
    (looked_reads c.in_ok-has_cur.ensures.seen.looked) c.parse_ident_name.ensures.read
