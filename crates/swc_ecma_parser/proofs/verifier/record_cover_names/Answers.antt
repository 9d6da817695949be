use Rattle.std.proofs.Common.{refl, ap, ◌∙◌, arith}
use Rattle.swc_input.specs.{Buffer.state_of, Recording.is_silent}
use Rattle.swc_steps.proofs.Refused.{err_is}
use Rattle.swc_ecma_parser.proofs.Recordings.{midway-first, midway-more, all-recorded, all-appended, all-listed, read-on, none-left, more-left}
use Rattle.swc_ecma_parser.proofs.verifier.record_cover_names.Goals as goal

pub loop-name-init : goal.loop-name-init
loop-name-init g c = midway-first g.met.I.Tokens.laws _ _

pub returns-in_err-emit_err-clause-silent : goal.returns-in_err-emit_err-clause-silent
returns-in_err-emit_err-clause-silent g c = λ s.
    let now = ap (λ b. is_silent (state_of g.I.Tokens.model b)) (c.loop-name.invariant.silent s) ∙ s in
    let none = (c.in_err-emit_err.ensures.silent now).0 in absurd cc

pub returns-in_err-emit_err-clause-refused : goal.returns-in_err-emit_err-clause-refused
returns-in_err-emit_err-clause-refused g c =
    let r = c.in_err-emit_err.ensures.refused in
    rw (err_is c.from_residual.ensures.1) (_, read-on g.met.I.Tokens.laws c.loop-name.invariant r.0 r.1, r.2)

pub returns-in_err-emit_err-clause-read : goal.returns-in_err-emit_err-clause-read
returns-in_err-emit_err-clause-read g c =
    let r = c.in_err-emit_err.ensures.read in
    (_, read-on g.met.I.Tokens.laws c.loop-name.invariant r.0 r.1)

pub loop-name-preserved : goal.loop-name-preserved
loop-name-preserved g c =
    let is = more-left c.args.names.now c.loop-name.name-index _ c.in_order.result c.loop-name-test.true
    c.in_order.ensures in
    let done = c.in_ok-emit_err.ensures in
    midway-more g.met.I.Tokens.laws _ _ is c.loop-name.invariant
    (λ s. (done.silent s).1) done.recorded done.read done.kept

pub returns-clause-silent : goal.returns-clause-silent
returns-clause-silent g c = λ s. (refl, c.loop-name.invariant.silent s)

pub returns-clause-recorded : goal.returns-clause-recorded
returns-clause-recorded g c =
    let none = none-left c.args.names.now c.loop-name.name-index (let h = c.loop-name-test.false in omega arith) in
    all-recorded g.met.I.Tokens.laws c.loop-name.invariant none

pub returns-clause-read : goal.returns-clause-read
returns-clause-read g c = c.loop-name.invariant.read

pub returns-clause-lives : goal.returns-clause-lives
returns-clause-lives g c = c.loop-name.invariant.lives

pub returns-clause-current : goal.returns-clause-current
returns-clause-current g c =
    let none = none-left c.args.names.now c.loop-name.name-index (let h = c.loop-name-test.false in omega arith) in
    all-appended g.met.I.Tokens.laws c.loop-name.invariant none

pub returns-clause-listed : goal.returns-clause-listed
returns-clause-listed g c =
    let none = none-left c.args.names.now c.loop-name.name-index (let h = c.loop-name-test.false in omega arith) in
    all-listed g.met.I.Tokens.laws c.loop-name.invariant none
