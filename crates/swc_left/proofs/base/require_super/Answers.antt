use Rattle.std.proofs.Common.{sym, ◌∙◌}
use Rattle.swc_grammar.specs.Tokens.{super_ok}
use Rattle.swc_steps.specs.Parsing.{scope}
use Rattle.swc_left.proofs.Bases.{super_may, super_may_not}
use Rattle.swc_steps.proofs.Steps as s
use Rattle.swc_left.proofs.base.require_super.Goals as goal

pub returns-then-super_allowed-clause-passes : goal.returns-then-super_allowed-clause-passes
returns-then-super_allowed-clause-passes g c = λ sure.
    let x = scope g.I.Tokens.model c.args.input.now in
    let well = sym c.super_allowed.ensures ∙ c.if-super_allowed.true in
    s.on_checked_in (super_ok x) (s.check_passes (super_ok x) g.met.I.Tokens.laws _ well)
    (λ ts h. super_may x ts h) (λ ts h. super_may_not x ts h)

pub returns-clause-passes : goal.returns-clause-passes
returns-clause-passes g c = λ sure.
    let x = scope g.I.Tokens.model c.args.input.now in
    record {
      refuses = c.syntax_error.ensures.refuses (λ e. cc);
      none = λ n y l ts k. super_may_not x ts (sym c.super_allowed.ensures ∙ c.if-super_allowed.false);
    }
