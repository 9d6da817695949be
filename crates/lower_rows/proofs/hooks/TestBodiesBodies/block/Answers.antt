use Rattle.swc_bodies.specs.Taking.{token_forms}
use Rattle.lower_rows.proofs.Bodies.{noisy, looks_on}
use Rattle.lower_rows.proofs.hooks.TestBodiesBodies.block.Goals as goal

pub returns-in-Fails-clause-hooked : goal.returns-in-Fails-clause-hooked
returns-in-Fails-clause-hooked g c =
    looks_on g.I.Tokens.model g.met.I.Tokens.laws token_forms.block c.args.input.now c.block-body.new.input
    c.fail.new.input c.block-body.result
    c.block-body.ensures.hooked c.fail.ensures

pub returns-in_ok-record-in-RecordsAndReads-clause-hooked : goal.returns-in_ok-record-in-RecordsAndReads-clause-hooked
returns-in_ok-record-in-RecordsAndReads-clause-hooked g c =
    let begun = c.in_ok-record-in-RecordsAndReads.ensures in
    let body = c.block-body-in-RecordsAndReads in
    noisy g.I.Tokens.model g.met.I.Tokens.laws token_forms.block c.args.input.now c.record.new.input body.new.input
    c.end.new.input body.result
    begun.read.0 begun.recorded body.ensures.hooked c.end.ensures
