use Rattle.swc_lexer.proofs.Sums.{ReadTo_more, ReadTo_over, lower, none_of}
use Rattle.swc_lexer.proofs.read.read_list.Goals as goal

pub loop-reader-smaller : goal.loop-reader-smaller
loop-reader-smaller c = lower _ _ _ _ _ _ c.in_ok-found.ensures.given c.in-Some.is

pub loop-reader-preserved : goal.loop-reader-preserved
loop-reader-preserved c =
    ReadTo_more _ _ _ _ _ _ _ _ _ _ c.in-Some.found c.loop-reader.invariant c.in_ok-found.ensures.given
    c.in_ok-found.ensures.within c.in-Some.is
    c.in_ok-push.ensures.items

pub returns : goal.returns
returns c = ReadTo_over _ _ _ _ _ _ _ _ c.loop-reader.invariant c.in_ok-found.ensures.given
    (none_of _ c.in_default.not-Some)
