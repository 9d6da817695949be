use Rattle.std.proofs.Common.{Some, sym, ap, ◌∙◌}
use Rattle.swc_input.specs.Kinds.{at_token}
use Rattle.swc_grammar.specs.Arrows.{is_of}
use Rattle.swc_steps.specs.Parsing.{scope}
use Rattle.swc_steps.proofs.Steps as s
use Rattle.swc_arrows.proofs.NameReads.{no_loop, not_of, on_at, of_told}
use Rattle.swc_arrows.proofs.names.is_of_alone.Goals as goal

pub returns-then-not-ctx-clause-tells : goal.returns-then-not-ctx-clause-tells
returns-then-not-ctx-clause-tells g c = λ sure.
    on_at g.met.I.Tokens.laws _ (λ ts. ap (λ v. Some (v, ts)) (no_loop
    (scope g.I.Tokens.model c.args.input.now).context ts
    (ap (λ x. x.expr_ctx.for_loop_init) (sym c.get_ctx-ctx.ensures) ∙ s.not_true _ c.if-not-ctx.true)))

pub returns-then-not-is_of-clause-tells : goal.returns-then-not-is_of-clause-tells
returns-then-not-is_of-clause-tells g c = λ sure.
    s.on_seen c.in_ok-look.ensures.looks (λ x ts same e. ap (λ v. Some (v, ts)) (not_of x.context ts
    (ap (at_token is_of) e ∙ sym c.is_of.ensures.value ∙ c.if-not-is_of.true)))

pub returns-clause-tells : goal.returns-clause-tells
returns-clause-tells g c = λ sure.
    of_told sure c.is_no_arrow_next.new.input c.is_no_arrow_next.result c.in_ok-look.ensures.looks
    c.is_no_arrow_next.ensures.tells
    (ap (λ x. x.expr_ctx.for_loop_init) (sym c.get_ctx-ctx.ensures) ∙ s.not_false _ c.if-not-ctx.false)
    (sym c.is_of.ensures.value ∙ c.if-not-is_of.false)
