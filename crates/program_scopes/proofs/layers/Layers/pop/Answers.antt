use Rattle.std.proofs.Common.{refl, arith}
use Rattle.program_scopes.proofs.Layered.{has-taken, none-taken}
use Rattle.program_scopes.proofs.layers.Layers.pop.Goals as goal

pub returns-then-len-self : goal.returns-then-len-self
returns-then-len-self g c = λ ls are. has-taken c.args.self.now _ ls are (omega (arith, c.len.ensures, c.if-len-self.true)) c.pop.ensures refl refl

pub returns-else-len-self : goal.returns-else-len-self
returns-else-len-self g c = λ ls are. none-taken c.args.self.now ls are (omega (arith, c.len.ensures, c.if-len-self.false))
