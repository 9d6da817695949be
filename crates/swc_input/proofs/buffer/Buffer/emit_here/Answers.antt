use Rattle.swc_input.specs.{Buffer.current, Recording.error_token, Laws.Read-still}
use Rattle.swc_input.proofs.buffer.Buffer.emit_here.Goals as goal

pub returns-in-Ok-clause-read : goal.returns-in-Ok-clause-read
returns-in-Ok-clause-read g c =
    Read-still g.met.I.Tokens.laws c.args.self.now c.record-in-Some.new.self c.record-in-Ok.new.self
    (error_token (current c.args.self.now))
    (Read-still g.met.I.Tokens.laws c.args.self.now c.take_error.new.self c.record-in-Some.new.self
    (error_token (current c.args.self.now))
    c.take_error.ensures.read c.record-in-Some.ensures.read)
    c.record-in-Ok.ensures.read

pub returns-in-Err-clause-read : goal.returns-in-Err-clause-read
returns-in-Err-clause-read g c =
    Read-still g.met.I.Tokens.laws c.args.self.now c.take_error.new.self c.record-in-Some.new.self
    (error_token (current c.args.self.now))
    c.take_error.ensures.read c.record-in-Some.ensures.read
