use Rattle.std.proofs.Common.{◌∙◌, sym, vec_capacity}
use Rattle.swc_input.proofs.Kept.{all-stay, clears-last}
use Rattle.swc_input.proofs.keeping.clear.Goals as goal

pub loop-at-preserved : goal.loop-at-preserved
loop-at-preserved c =
    clears-last c.args.at c.args.tokens.now.items (vec_capacity c.args.tokens.now) c.loop-at.tokens.items
    c.pop.new.self.items (vec_capacity c.loop-at.tokens) (vec_capacity c.pop.new.self) c.pop.result
    c.loop-at.invariant c.pop.ensures.items (sym c.ends_late.ensures ∙ c.loop-at-test.true) c.pop.ensures.capacity

-- the last token isn't late, so all stay
pub returns-clause-cleared : goal.returns-clause-cleared
returns-clause-cleared c = sym (all-stay c.args.at c.loop-at.tokens.items
    (sym c.ends_late.ensures ∙ c.loop-at-test.false)) ∙ c.loop-at.invariant.same
