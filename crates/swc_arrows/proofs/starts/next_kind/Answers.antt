use Rattle.std.proofs.Common.{sym, ap, subst, if◌then◌else◌}
use Rattle.swc_grammar.specs.Clean.{second}
use Rattle.swc_steps.specs.Parsing.{Told}
use Rattle.swc_arrows.specs.{Starts.next_kind, declared.starts.NextKind.NextKind as next_is}
use Rattle.swc_arrows.proofs.NextTokens.{told_as, told_next}
use Rattle.swc_arrows.proofs.starts.next_kind.Goals as goal

pub returns-then-has_linebreak_between_cur_and_peeked-clause-tells :
    goal.returns-then-has_linebreak_between_cur_and_peeked-clause-tells
returns-then-has_linebreak_between_cur_and_peeked-clause-tells g c =
    let behind = c.has_linebreak_between_cur_and_peeked in
    told_as g.met.I.Tokens.laws (λ ts. ap (λ x. next_kind x (second ts)) (sym c.get_ctx-ctx.ensures))
    (subst (λ r. Told g.I.Tokens.model (λ ts. next_kind c.get_ctx-ctx.result (second ts))
    (if r then next_is.Other else c.in-Some.kind) c.args.input.now behind.new.self)
    c.if-has_linebreak_between_cur_and_peeked.true
    (told_next g.met.I.Tokens.laws c.get_ctx-ctx.result behind.result c.in-Some.is c.peek_kind.ensures.peeked
    behind.ensures.peeked c.requires c.peek_kind.ensures.value behind.ensures.value))

pub returns-else-has_linebreak_between_cur_and_peeked-clause-tells :
    goal.returns-else-has_linebreak_between_cur_and_peeked-clause-tells
returns-else-has_linebreak_between_cur_and_peeked-clause-tells g c =
    let behind = c.has_linebreak_between_cur_and_peeked in
    told_as g.met.I.Tokens.laws (λ ts. ap (λ x. next_kind x (second ts)) (sym c.get_ctx-ctx.ensures))
    (subst (λ r. Told g.I.Tokens.model (λ ts. next_kind c.get_ctx-ctx.result (second ts))
    (if r then next_is.Other else c.in-Some.kind) c.args.input.now behind.new.self)
    c.if-has_linebreak_between_cur_and_peeked.false
    (told_next g.met.I.Tokens.laws c.get_ctx-ctx.result behind.result c.in-Some.is c.peek_kind.ensures.peeked
    behind.ensures.peeked c.requires c.peek_kind.ensures.value behind.ensures.value))
