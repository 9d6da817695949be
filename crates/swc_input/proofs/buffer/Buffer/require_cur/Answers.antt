use Rattle.std.proofs.Common.{ap, ◌∙◌}
use Rattle.swc_context.specs.declared.error.SyntaxError.TheVariants.{Eof}
use Rattle.swc_input.specs.Buffer.{current, source, last_position}
use Rattle.swc_input.specs.Recording.{refusal, unfit}
use Rattle.swc_input.proofs.{Calls.unfits, Emits.unfit_by, Refusals.unfit-unknown, Refusals.unfit-error, buffer.Buffer.require_cur.Goals.else-knows_cur-via-then-knows_cur+else-not-is_error, buffer.Buffer.require_cur.Goals.else-knows_cur-via-else-knows_cur}
use Rattle.swc_input.proofs.buffer.Buffer.require_cur.Goals as goal

pub returns-clause-refused : goal.returns-clause-refused
returns-clause-refused g c =
    unfit_by g.I.Tokens.model c.args.self.now c.had_line_break_before_cur.new.self c.refuse.new.self
    (λ here. unfit (current here) (last_position here) Eof) c.refuse.result
    c.had_line_break_before_cur.ensures.looked c.refuse.ensures.read c.refuse.ensures.lives c.refuse.ensures.same
    (c.refuse.ensures.answer ∙ ap (λ e. refusal (current c.had_line_break_before_cur.new.self)
    (g.I.Tokens.model.state (source c.had_line_break_before_cur.new.self)).failed
    (last_position c.had_line_break_before_cur.new.self) e) c.unfit-error.ensures)
    (elim c.else-knows_cur.branch [
      | else-knows_cur-via-then-knows_cur+else-not-is_error w ↦ unfit-error
          (current c.had_line_break_before_cur.new.self) w.is_error.result w.is_error.ensures w.if-not-is_error.false
      | else-knows_cur-via-else-knows_cur w ↦ unfit-unknown
          (current c.had_line_break_before_cur.new.self) c.knows_cur.result c.knows_cur.ensures.1 w.if-knows_cur.false
    ])

pub returns-clause-fits : goal.returns-clause-fits
returns-clause-fits g c = unfits g.met.I.Tokens.laws (returns-clause-refused g c)
