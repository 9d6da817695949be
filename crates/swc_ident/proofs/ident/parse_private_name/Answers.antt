use Rattle.std.proofs.{Common.refl, lemmas.Result.err_from_is_err_and}
use Rattle.swc_ident.specs.Naming.{no_name}
use Rattle.swc_ident.proofs.Reading.{end_seen, looked_then}
use Rattle.swc_ident.proofs.Privacy.{apart_from, joins_hash, private_forgone, private_reads, unprivate_reads}
use Rattle.swc_ident.proofs.ident.parse_private_name.Goals as goal

pub returns-in_err-hash-clause-read : goal.returns-in_err-hash-clause-read
returns-in_err-hash-clause-read g c = unprivate_reads g.met.I.Tokens.laws c.in_err-hash.ensures

pub returns-in_err-has_cur-clause-private : goal.returns-in_err-has_cur-clause-private
returns-in_err-has_cur-clause-private g c =
    let p = err_from_is_err_and c.from_residual-in_err-has_cur.result c.from_residual-in_err-has_cur.ensures.1 in
    rw (p.1, p.2)
    (private_forgone g.met.I.Tokens.laws c.in_ok-hash.ensures c.in_err-has_cur.ensures.refused.1
    c.in_err-has_cur.ensures.refused.0)

pub returns-in_err-has_cur-clause-read : goal.returns-in_err-has_cur-clause-read
returns-in_err-has_cur-clause-read g c =
    unprivate_reads g.met.I.Tokens.laws
    (private_forgone g.met.I.Tokens.laws c.in_ok-hash.ensures c.in_err-has_cur.ensures.refused.1
    c.in_err-has_cur.ensures.refused.0)

pub returns-then-cur_pos-hash-clause-private : goal.returns-then-cur_pos-hash-clause-private
returns-then-cur_pos-hash-clause-private g c =
    let looked = looked_then g.met.I.Tokens.laws c.in_ok-has_cur.ensures.seen.looked c.cur_pos.ensures.looked in
    apart_from _ c.cur_pos.result c.new-at.result refl c.in_ok-hash.ensures looked c.cur_pos.ensures.value
    c.if-cur_pos-hash.true
    c.new-at.ensures c.syntax_error.ensures.refused

pub returns-then-cur_pos-hash-clause-read : goal.returns-then-cur_pos-hash-clause-read
returns-then-cur_pos-hash-clause-read g c = unprivate_reads g.met.I.Tokens.laws
    (returns-then-cur_pos-hash-clause-private g c)

pub returns-in_err-name-clause-private : goal.returns-in_err-name-clause-private
returns-in_err-name-clause-private g c =
    let looked = looked_then g.met.I.Tokens.laws c.in_ok-has_cur.ensures.seen.looked c.cur_pos.ensures.looked in
    let p = err_from_is_err_and c.from_residual-in_err-name.result c.from_residual-in_err-name.ensures.1 in
    rw (p.1, p.2)
    (no_name c.in_ok-hash.ensures looked (joins_hash c.cur_pos.new.self c.in_ok-hash.hash c.cur_pos.result
    c.cur_pos.ensures.value c.if-cur_pos-hash.false) c.in_err-name.ensures.names)

pub returns-in_err-name-clause-read : goal.returns-in_err-name-clause-read
returns-in_err-name-clause-read g c =
    let looked = looked_then g.met.I.Tokens.laws c.in_ok-has_cur.ensures.seen.looked c.cur_pos.ensures.looked in
    unprivate_reads g.met.I.Tokens.laws
    (no_name c.in_ok-hash.ensures looked (joins_hash c.cur_pos.new.self c.in_ok-hash.hash c.cur_pos.result
    c.cur_pos.ensures.value c.if-cur_pos-hash.false) c.in_err-name.ensures.names)

pub returns-clause-private : goal.returns-clause-private
returns-clause-private g c = record {
  hash = c.in_ok-hash.hash;
  hashed = c.parse_hash.new.input;
  sign = c.in_ok-hash.ensures;
  near = c.cur_pos.new.self;
  looked = looked_then g.met.I.Tokens.laws c.in_ok-has_cur.ensures.seen.looked c.cur_pos.ensures.looked;
  end = end_seen c.in_ok-has_cur.field-0 g.met.I.Tokens.laws c.in_ok-has_cur.ensures.seen c.cur_pos.ensures.looked;
  joined = joins_hash c.cur_pos.new.self c.in_ok-hash.hash c.cur_pos.result c.cur_pos.ensures.value
      c.if-cur_pos-hash.false;
  word = c.in_ok-name.name.span;
  name = c.in_ok-name.ensures.names;
  place = refl;
}

pub returns-clause-read : goal.returns-clause-read
returns-clause-read g c = private_reads g.met.I.Tokens.laws (returns-clause-private g c)
