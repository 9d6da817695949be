use Rattle.std.proofs.Common.{refl, sym, ap, ◌∙◌}
use Rattle.std.proofs.lemmas.Result.{err_from_is_err_and}
use Rattle.swc_ident.specs.Naming.{not_fit}
use Rattle.swc_ident.proofs.Finding.{missed_word}
use Rattle.swc_ident.proofs.words.take_word.Goals as goal

pub returns-in_err-require_cur : goal.returns-in_err-require_cur
returns-in_err-require_cur g c =
    let p = err_from_is_err_and c.from_residual.result c.from_residual.ensures.1 in rw (p.1, p.2)
    (not_fit c.in_err-require_cur.ensures.refused.0 c.in_err-require_cur.ensures.refused.1)

pub returns-then-is_at_word : goal.returns-then-is_at_word
returns-then-is_at_word g c = record {
  here = c.require_cur.new.self;
  looked = c.in_ok-require_cur.ensures.found.0;
  took = c.bump_word.ensures;
  place = ap (λ b. b.prev_span) c.bump_word.ensures.now;
}

pub returns : goal.returns
returns g c =
    missed_word _ c.cur_span-at.result refl c.in_ok-require_cur.ensures.found.1 c.in_ok-require_cur.ensures.found.2
    c.in_ok-require_cur.ensures.found.0
    (sym c.is_at_word.ensures ∙ c.if-is_at_word.false) c.cur_span-at.ensures c.syntax_error.ensures.refused
