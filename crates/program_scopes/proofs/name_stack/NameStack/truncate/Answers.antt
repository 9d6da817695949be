use Rattle.std.proofs.Common.{ap, ◌∙◌, arith, drop, length, ◌-◌}
use Rattle.program_scopes.proofs.Stacks.{drop-more}
use Rattle.program_scopes.proofs.name_stack.NameStack.truncate.Goals as goal

pub loop-self-preserved : goal.loop-self-preserved
loop-self-preserved g c =
    ap (λ xs. drop (length xs - c.args.count) xs) c.pop.ensures ∙ drop-more c.loop-self.self c.args.count (omega (arith, c.len.ensures, c.loop-self-test.true)) ∙ c.loop-self.invariant
