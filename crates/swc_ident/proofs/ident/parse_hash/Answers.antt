use Rattle.std.proofs.Common.{refl, sym, ap, ◌∙◌}
use Rattle.std.proofs.lemmas.Result.{err_from_is_err_and}
use Rattle.swc_input.specs.Kinds.{at_token, is_hash}
use Rattle.swc_ident.specs.Naming.{no_memory_either, no_hash}
use Rattle.swc_ident.proofs.Reading.{passed_over}
use Rattle.swc_ident.proofs.ident.parse_hash.Goals as goal

pub returns-in_err-has_cur : goal.returns-in_err-has_cur
returns-in_err-has_cur g c =
    let p = err_from_is_err_and c.from_residual.result c.from_residual.ensures.1 in rw (p.1, p.2)
    (no_memory_either _ c.in_err-has_cur.ensures.refused.1.look.read
    (ap (λ x. x.kind) c.in_err-has_cur.ensures.refused.0))

pub returns-then-not-is_at_hash : goal.returns-then-not-is_at_hash
returns-then-not-is_at_hash g c =
    let x = passed_over c.in_ok-has_cur.field-0 g.met.I.Tokens.laws c.in_ok-has_cur.ensures.seen
    c.unexpected.ensures.refused in
    no_hash x.0 refl (ap (at_token is_hash) x.1 ∙ sym c.is_at_hash.ensures ∙ c.if-not-is_at_hash.true)

pub returns : goal.returns
returns g c = record {
  here = c.has_cur.new.self;
  looked = c.in_ok-has_cur.ensures.seen.looked;
  took = c.bump_hash.ensures;
  place = c.prev_span.ensures ∙ ap (λ b. b.prev_span) c.bump_hash.ensures.now;
}
