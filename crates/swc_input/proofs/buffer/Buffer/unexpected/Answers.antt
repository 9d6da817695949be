use Rattle.std.proofs.Common.{ap, ◌∙◌}
use Rattle.swc_context.specs.declared.error.SyntaxError.TheVariants.{ParserFailed}
use Rattle.swc_input.specs.Buffer.{current, source, last_position}
use Rattle.swc_input.specs.Recording.{refusal, unfit}
use Rattle.swc_input.proofs.{Calls.refused, Emits.refused_by, Refusals.unfit-kind}
use Rattle.swc_input.proofs.buffer.Buffer.unexpected.Goals as goal

pub returns-clause-refused : goal.returns-clause-refused
returns-clause-refused g c =
    refused_by g.I.Tokens.model c.args.self.now c.had_line_break_before_cur.new.self c.refuse.new.self
    (λ here. unfit (current here) (last_position here) c.args.kind) c.refuse.result
    c.had_line_break_before_cur.ensures.looked c.refuse.ensures.read c.refuse.ensures.lives c.refuse.ensures.same
    (c.refuse.ensures.answer ∙ ap (λ e. refusal (current c.had_line_break_before_cur.new.self)
    (g.I.Tokens.model.state (source c.had_line_break_before_cur.new.self)).failed
    (last_position c.had_line_break_before_cur.new.self) e) c.unfit-error.ensures)

pub returns-clause-refuses : goal.returns-clause-refuses
returns-clause-refuses g c = λ h. refused g.met.I.Tokens.laws
    (λ here. unfit (current here) (last_position here) c.args.kind) _
    (λ here. unfit-kind (current here) (last_position here) c.args.kind ParserFailed (λ e. cc) h)
    (returns-clause-refused g c)
