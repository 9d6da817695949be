use Rattle.std.proofs.Common.{◌≤◌, ◌<◌, ◌+◌, ap, sym, subst, ◌∙◌, length, drop, arith, length-drop}
use Rattle.std.specs.Result.{result_ok}
use Rattle.std.specs.Prelude.{IfOk}
use Rattle.swc_lexical.proofs.Runs.{rest_at, rest_at-drop}
use Rattle.regex_patterns.specs.Pieces.{piece, pieces_from}
use Rattle.regex_patterns.proofs.Placing.{piece_on, piece_none, pieces_over}
use Rattle.regex_patterns.proofs.Shifts.{with_before}
use Rattle.regex_patterns.proofs.piece.pieces_of.Goals as goal

pub loop-at-preserved : goal.loop-at-preserved
loop-at-preserved c =
    let xs = c.args.units.now in let at = c.loop-at.at in let n = c.in-Ok.len in
    let fits = subst (λ o. IfOk o (λ r. (0 < r.1) × (r.1 ≤ length (rest_at xs at)))) c.in-Ok.is c.in_ok-piece.ensures.within in
    let some = fits.0 in
    let within : n ≤ length (drop at xs) = subst (λ ys. n ≤ length ys) (rest_at-drop xs at) fits.1 in
    record {
      within = (let long = length-drop at xs in omega (arith, within, long, some, c.loop-at-test.true));
      left = ap (λ ps. with_before ps (pieces_from c.args.mode 0 (at + n) (drop (at + n) xs))) c.in_ok-push-in-Ok.ensures.items
          ∙ piece_on c.args.mode xs at c.loop-at.list.items n c.in-Ok.piece
          (sym (ap result_ok (sym c.in-Ok.is) ∙ c.in_ok-piece.ensures.value ∙ ap (piece c.args.mode) (rest_at-drop xs at))) some within
          ∙ c.loop-at.invariant.left;
    }

pub returns-in-Err : goal.returns-in-Err
returns-in-Err c =
    sym c.loop-at.invariant.left
    ∙ ap (with_before c.loop-at.list.items) (piece_none c.args.mode c.args.units.now c.loop-at.at c.loop-at-test.true
    (sym (ap result_ok (sym c.in-Err.is) ∙ c.in_ok-piece.ensures.value ∙ ap (piece c.args.mode) (rest_at-drop c.args.units.now c.loop-at.at))))

pub returns : goal.returns
returns c =
    sym c.loop-at.invariant.left
    ∙ pieces_over c.args.mode c.args.units.now c.loop-at.at c.loop-at.list.items c.loop-at-test.false
