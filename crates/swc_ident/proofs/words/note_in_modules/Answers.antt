use Rattle.swc_ident.proofs.Reading.{noted_in_modules}
use Rattle.swc_ident.proofs.words.note_in_modules.Goals as goal

pub returns : goal.returns
returns g c = let e = c.emit_strict_mode_err.ensures in
    noted_in_modules g.I.Tokens.model c.args.at c.args.kind c.args.input.now c.emit_strict_mode_err.new.self
    c.emit_strict_mode_err.result e.read e.rest e.silent e.recorded e.refused
