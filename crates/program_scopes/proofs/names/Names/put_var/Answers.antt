use Rattle.std.proofs.Common.{refl}
use Rattle.program_scopes.proofs.Opened.{has-var}
use Rattle.program_scopes.proofs.names.Names.put_var.Goals as goal

pub returns : goal.returns
returns c = λ ss are. has-var c.args.self.now _ c.args.name.now c.args.place ss are c.in_ok-push.ensures refl refl refl
