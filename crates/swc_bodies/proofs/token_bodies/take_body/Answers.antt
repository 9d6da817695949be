use Rattle.std.proofs.Common.{sym, ap, ◌∙◌, map}
use Rattle.std.proofs.lemmas.Result.{err_from_is_err_and}
use Rattle.swc_input.specs.Plain.{plain}
use Rattle.swc_bodies.specs.Taking.{taken, body}
use Rattle.swc_bodies.proofs.Steps.{stepped, stopped-hooked, stopped-faithful, stopped-quiet, unkept-hooked, unkept-quiet, done-hooked, done-faithful, ended}
use Rattle.swc_bodies.proofs.token_bodies.take_body.Goals as goal

pub returns-in_err-place-clause-hooked : goal.returns-in_err-place-clause-hooked
returns-in_err-place-clause-hooked g c = λ begins so.
    let p = err_from_is_err_and c.from_residual-in_err-place.result c.from_residual-in_err-place.ensures.1 in
    rw (p.1, p.2)
    (stopped-hooked g.met.I.Tokens.laws (taken begins) c.args.input.now c.args.first c.cur_span.result.lo
    c.loop-place.input c.loop-place.place c.loop-place.kept.items _ c.next_place.new.input
    c.loop-place.invariant c.in_err-place.ensures)

pub returns-in_err-place-clause-faithful : goal.returns-in_err-place-clause-faithful
returns-in_err-place-clause-faithful g c = λ begins so.
    let p = err_from_is_err_and c.from_residual-in_err-place.result c.from_residual-in_err-place.ensures.1 in
    rw (p.1, p.2)
    (stopped-faithful g.met.I.Tokens.laws c.args.input.now c.args.first c.cur_span.result.lo c.loop-place.input
    c.loop-place.place c.loop-place.kept.items _ c.next_place.new.input begins so
    (sym c.is_end.ensures ∙ c.loop-place-test.true) c.loop-place.invariant c.in_err-place.ensures)

pub loop-place-preserved : goal.loop-place-preserved
loop-place-preserved g c =
    stepped g.met.I.Tokens.laws c.args.input.now c.args.first c.cur_span.result.lo c.loop-place.input c.loop-place.place
    c.loop-place.kept.items c.in_ok-place.place c.next_place.new.input c.in_ok-keep_current-2.ensures.token
    c.keep_current-in-loop-place.new.input c.keep_current-in-loop-place.new.kept.items c.loop-place.invariant
    c.in_ok-place.ensures
    c.in_ok-keep_current-2.ensures.current c.in_ok-keep_current-2.ensures.read c.in_ok-keep_current-2.ensures.same
    c.in_ok-keep_current-2.ensures.last c.in_ok-keep_current-2.ensures.kept

pub returns-in_err-keep_current-2-clause-hooked : goal.returns-in_err-keep_current-2-clause-hooked
returns-in_err-keep_current-2-clause-hooked g c = λ begins so.
    let p = err_from_is_err_and c.from_residual-in_err-keep_current-2.result
    c.from_residual-in_err-keep_current-2.ensures.1 in rw (p.1, p.2)
    (unkept-hooked g.met.I.Tokens.laws (taken begins) c.args.input.now c.args.first c.cur_span.result.lo
    c.loop-place.input c.loop-place.place c.loop-place.kept.items c.in_ok-place.place c.next_place.new.input _ _
    c.keep_current-in-loop-place.new.input c.loop-place.invariant c.in_ok-place.ensures
    c.in_err-keep_current-2.ensures.read c.in_err-keep_current-2.ensures.kept)

pub returns-clause-hooked : goal.returns-clause-hooked
returns-clause-hooked g c = λ begins so.
    done-hooked g.met.I.Tokens.laws c.args.input.now c.args.first c.cur_span.result.lo c.loop-place.input
    c.loop-place.place c.loop-place.kept.items _ begins so
    (ended c.loop-place.place (sym c.is_end.ensures ∙ c.loop-place-test.false))
    (ap (λ ts. body c.cur_span.result.lo (map plain ts) c.last_pos.result) c.shrink_to_fit.ensures.items
    ∙ ap (body c.cur_span.result.lo (map plain c.loop-place.kept.items)) c.last_pos.ensures) c.loop-place.invariant

pub returns-clause-faithful : goal.returns-clause-faithful
returns-clause-faithful g c = λ begins so.
    done-faithful g.met.I.Tokens.laws c.args.input.now c.args.first c.cur_span.result.lo c.loop-place.input
    c.loop-place.place c.loop-place.kept.items _ begins so
    (ended c.loop-place.place (sym c.is_end.ensures ∙ c.loop-place-test.false))
    (ap (λ ts. body c.cur_span.result.lo (map plain ts) c.last_pos.result) c.shrink_to_fit.ensures.items
    ∙ ap (body c.cur_span.result.lo (map plain c.loop-place.kept.items)) c.last_pos.ensures) c.loop-place.invariant

pub returns-in_err-place-clause-refused : goal.returns-in_err-place-clause-refused
returns-in_err-place-clause-refused g c =
    let p = err_from_is_err_and c.from_residual-in_err-place.result c.from_residual-in_err-place.ensures.1 in
    rw (p.1, p.2) c.in_err-place.ensures.answer

pub returns-in_err-place-clause-quiet : goal.returns-in_err-place-clause-quiet
returns-in_err-place-clause-quiet g c =
    stopped-quiet g.met.I.Tokens.laws c.args.input.now c.args.first c.cur_span.result.lo c.loop-place.input
    c.loop-place.place c.loop-place.kept.items _ c.next_place.new.input
    c.loop-place.invariant c.in_err-place.ensures

pub returns-in_err-keep_current-2-clause-quiet : goal.returns-in_err-keep_current-2-clause-quiet
returns-in_err-keep_current-2-clause-quiet g c =
    unkept-quiet g.met.I.Tokens.laws c.args.input.now c.args.first c.cur_span.result.lo c.loop-place.input
    c.loop-place.place c.loop-place.kept.items c.in_ok-place.place c.next_place.new.input
    c.keep_current-in-loop-place.new.input c.loop-place.invariant c.in_ok-place.ensures
    c.in_err-keep_current-2.ensures.same
