use Rattle.std.proofs.Common.{◌+◌}
use Rattle.swc_lexer.proofs.Slashes.{after_slash, at_slash, past_slash}
use Rattle.swc_lexer.proofs.token.slashed.Goals as goal

pub range-requires-clause-start_boundary : goal.range-requires-clause-start_boundary
range-requires-clause-start_boundary c = λ h. after_slash c.args.text.now 0 c.utf8.text c.requires.opens

pub range-requires-clause-end_boundary : goal.range-requires-clause-end_boundary
range-requires-clause-end_boundary c =
    at_slash _ c.args.text.now (c.in-Some.len + 1) _ c.as_bytes-bytes.ensures.value c.is_at-closes.ensures.value
    c.if-closes.true

pub range_from-requires : goal.range_from-requires
range_from-requires c = λ h.
    past_slash _ c.args.text.now c.in-Some.len _ c.utf8.text c.as_bytes-bytes.ensures.value c.is_at-closes.ensures.value
    c.if-closes.true
