use Rattle.std.proofs.Common.{refl}
use Rattle.program_scopes.proofs.Layered.{began}
use Rattle.program_scopes.proofs.layers.Layers.begin.Goals as goal

pub returns : goal.returns
returns g c = λ ls are. began c.args.self.now _ ls are refl c.len-self.ensures c.in_ok-push.ensures.items
