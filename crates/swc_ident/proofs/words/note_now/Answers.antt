use Rattle.swc_ident.proofs.Reading.{noted_now}
use Rattle.swc_ident.proofs.words.note_now.Goals as goal

pub returns : goal.returns
returns g c = noted_now g.I.Tokens.model c.args.at c.args.kind c.args.input.now c.emit_err.new.self c.emit_err.result
    c.emit_err.ensures.silent c.emit_err.ensures.recorded c.emit_err.ensures.refused
