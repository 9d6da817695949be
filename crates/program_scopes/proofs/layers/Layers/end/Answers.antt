use Rattle.std.proofs.Common.{refl, arith}
use Rattle.program_scopes.proofs.Layered.{ends, stays}
use Rattle.program_scopes.proofs.layers.Layers.end.Goals as goal

pub returns-in-Some : goal.returns-in-Some
returns-in-Some g c = λ ls are. ends c.args.self.now _ ls c.in-Some.under are c.in-Some.ensures.items refl c.truncate.ensures

pub returns-in-None : goal.returns-in-None
returns-in-None g c = λ ls are.
    let len = c.args.self.now.lower.ok.0 in
    stays c.args.self.now _ ls are (omega (arith, len, c.in-None.ensures.cases.0)) c.in-None.ensures.items refl refl
