use Rattle.std.proofs.Common.{rules}
use Rattle.program_scopes.proofs.Opened.{has-program}
use Rattle.program_scopes.proofs.names.Names.is_of_program.Goals as goal

pub returns : goal.returns
returns c = λ ss are.
    let len = c.args.self.now.around.ok.0 in
    has-program c.args.self.now ss c.is_empty.result are (λ e. search (rules, len, e)) (λ e n. search (rules, len, e, n))
