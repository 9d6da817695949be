use Rattle.std.specs.Prelude.{[]}
use Rattle.swc_input.specs.{Buffer.current, Buffer.last_position, Laws.Read-same, Recording.error_token}
use Rattle.swc_input.proofs.Emits.{recorded_by, read_by, no_memory_by, kept_by}
use Rattle.swc_input.proofs.buffer.Buffer.emit_error.Goals as goal

pub returns-then-is_silent-clause-read : goal.returns-then-is_silent-clause-read
returns-then-is_silent-clause-read g c = ([], Read-same g.met.I.Tokens.laws c.args.self.now)

pub returns-in-Ok-clause-recorded : goal.returns-in-Ok-clause-recorded
returns-in-Ok-clause-recorded g c = λ loud.
    recorded_by g.I.Tokens.model c.args.self.now c.has_cur.new.self c.emit_here.new.self c.args.error c.emit_here.result
    c.has_cur.ensures.looked c.emit_here.ensures.read c.emit_here.ensures.errors c.emit_here.ensures.waiting
    c.in-Ok.ensures.lives c.emit_here.ensures.lives

pub returns-in-Ok-clause-read : goal.returns-in-Ok-clause-read
returns-in-Ok-clause-read g c =
    read_by g.I.Tokens.model g.met.I.Tokens.laws c.args.self.now c.has_cur.new.self c.emit_here.new.self
    (error_token (current c.has_cur.new.self)) c.has_cur.ensures.looked c.emit_here.ensures.read

pub returns-in-Ok-clause-refused : goal.returns-in-Ok-clause-refused
returns-in-Ok-clause-refused g c =
    no_memory_by g.I.Tokens.model c.args.self.now c.emit_here.new.self
    (last_position c.emit_here.new.self) c.emit_here.result
    (read_by g.I.Tokens.model g.met.I.Tokens.laws c.args.self.now c.has_cur.new.self c.emit_here.new.self
    (error_token (current c.has_cur.new.self)) c.has_cur.ensures.looked c.emit_here.ensures.read)
    c.emit_here.ensures.refused

pub returns-in-Ok-clause-kept : goal.returns-in-Ok-clause-kept
returns-in-Ok-clause-kept g c =
    kept_by g.I.Tokens.model c.args.self.now c.has_cur.new.self c.emit_here.new.self
    c.has_cur.ensures.looked c.emit_here.ensures.kept
