use Rattle.std.proofs.Common.{ap, ◌∙◌}
use Rattle.swc_grammar.specs.Words.{rest}
use Rattle.swc_ecma_parser.specs.WholeList.{plain_list}
use Rattle.swc_ecma_parser.proofs.BothWays.{along, cover-law, converse-law}
use Rattle.swc_ecma_parser.proofs.both_ways.read_both_ways.Goals as goal

pub returns-clause-formal : goal.returns-clause-formal
returns-clause-formal g c =
    along _ _ (c.in_ok-behind.ensures ∙ ap (λ l. rest (plain_list l)) c.deref.ensures.value)
    c.read_formal_params-formal.ensures

pub returns-clause-cover : goal.returns-clause-cover
returns-clause-cover g c =
    cover-law _ _ _ _ (plain_list c.args.tokens.items) c.read_arrow_params-arrow.result.read
    c.read_formal_params-formal.result.read c.read_arrow_params-arrow.ensures
    (along _ _ (c.in_ok-behind.ensures ∙ ap (λ l. rest (plain_list l)) c.deref.ensures.value)
    c.read_formal_params-formal.ensures)

pub returns-clause-converse : goal.returns-clause-converse
returns-clause-converse g c =
    converse-law _ _ _ _ (plain_list c.args.tokens.items) c.read_arrow_params-arrow.result.read
    c.read_formal_params-formal.result.read c.read_arrow_params-arrow.ensures
    (along _ _ (c.in_ok-behind.ensures ∙ ap (λ l. rest (plain_list l)) c.deref.ensures.value)
    c.read_formal_params-formal.ensures)
