use Rattle.std.specs.Prelude.{reverse}
use Rattle.swc_lexer.specs.Stacks.{with_frames}
use Rattle.swc_lexer.proofs.Stacks.{changed_is}
use Rattle.swc_lexer.proofs.stack.change_at.Goals as goal

pub returns-clause-state : goal.returns-clause-state
returns-clause-state c =
    changed_is c.args.frames.now (with_frames c.args.place (reverse c.args.frames.now)) c.args.mark c.args.adjoins
    c.args.breaks _ c.started-start.result.depth
    c.closed-part.result.depth c.depth_after-depth.result c.started-start.result.place c.closed-part.result.place _ _ _
    _ _ c.started-start.ensures.state
    c.closed-part.ensures.state c.closed-part.ensures.within c.frame_at-top.ensures c.enters-entry.ensures
    c.top_of-inner.ensures c.after-step.ensures
    c.depth_after-depth.ensures c.kept-first.ensures c.is_chars-has_text.ensures
