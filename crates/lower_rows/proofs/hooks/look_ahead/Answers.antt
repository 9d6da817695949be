use Rattle.std.specs.Prelude.{[]}
use Rattle.swc_input.specs.Laws.{Read-still}
use Rattle.lower_rows.proofs.hooks.look_ahead.Goals as goal

pub returns-then-knows_cur : goal.returns-then-knows_cur
returns-then-knows_cur g c =
    Read-still g.met.I.Tokens.laws c.args.input.now c.had_line_break_before_cur.new.self
    c.has_linebreak_between_cur_and_peeked.new.self []
    c.had_line_break_before_cur.ensures.looked.look.read c.has_linebreak_between_cur_and_peeked.ensures.peeked.look.read
