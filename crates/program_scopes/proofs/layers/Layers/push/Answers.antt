use Rattle.std.proofs.Common.{refl}
use Rattle.program_scopes.proofs.Layered.{has-put}
use Rattle.program_scopes.proofs.layers.Layers.push.Goals as goal

pub returns : goal.returns
returns g c = λ ls are. has-put c.args.self.now _ c.args.name.now c.args.thing ls are c.in_ok-push.ensures refl refl
