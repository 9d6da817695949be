use Rattle.program_scopes.proofs.Opened.{no-block}
use Rattle.program_scopes.proofs.names.Names.is_in_no_block.Goals as goal

pub returns : goal.returns
returns c = λ ss are. no-block c.args.self.now ss are
