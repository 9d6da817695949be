use Rattle.std.proofs.Common.{false, refl, sym, ◌∙◌}
use Rattle.swc_input.specs.Buffer.{context}
use Rattle.swc_arrows.specs.{declared.starts.FirstKind.FirstKind as first_is, declared.starts.StartKind.StartKind as head}
use Rattle.swc_arrows.proofs.NextTokens.{told_first, told_head}
use Rattle.swc_arrows.proofs.starts.start_kind.Goals as goal

pub returns-in-Paren-clause-tells : goal.returns-in-Paren-clause-tells
returns-in-Paren-clause-tells g c =
    told_first g.met.I.Tokens.laws (context g.I.Tokens.model c.args.input.now) c.args.input.now first_is.Paren
    (head.List false)
    (sym c.in-Paren.is ∙ c.first_kind.ensures) (λ k. refl)

pub returns-in_ok-next-in-Async-clause-tells : goal.returns-in_ok-next-in-Async-clause-tells
returns-in_ok-next-in-Async-clause-tells g c =
    told_head g.met.I.Tokens.laws (context g.I.Tokens.model c.args.input.now) first_is.Async c.in_ok-next-in-Async.next
    c.async_head.result (sym c.in-Async.is
    ∙ c.first_kind.ensures) c.async_head.ensures c.in_ok-next-in-Async.ensures.tells

pub returns-in_ok-next-in-Word-clause-tells : goal.returns-in_ok-next-in-Word-clause-tells
returns-in_ok-next-in-Word-clause-tells g c =
    told_head g.met.I.Tokens.laws (context g.I.Tokens.model c.args.input.now) first_is.Word c.in_ok-next-in-Word.next
    c.name_head.result (sym c.in-Word.is ∙ c.first_kind.ensures) c.name_head.ensures c.in_ok-next-in-Word.ensures.tells

pub returns-in-Other-clause-tells : goal.returns-in-Other-clause-tells
returns-in-Other-clause-tells g c =
    told_first g.met.I.Tokens.laws
    (context g.I.Tokens.model c.args.input.now) c.args.input.now first_is.Other head.Other
    (sym c.in-Other.is ∙ c.first_kind.ensures) (λ k. refl)
