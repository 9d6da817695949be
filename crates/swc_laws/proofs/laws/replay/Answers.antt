use Rattle.swc_grammar.specs.Symbols.{Expr}
use Rattle.swc_laws.proofs.{Replay.replay, Wanted.replay-wanted}
use Rattle.swc_laws.proofs.laws.replay.Goals as goal

-- src/laws.rt:11:13
pub returns-clause-joined : goal.returns-clause-joined
returns-clause-joined g c =
    let hook = g.met.B.ReplayBodies in replay g.B.BodyForms.forms hook.lawful hook.replays Expr

-- src/laws.rt:12:13
pub returns-clause-wanted : goal.returns-clause-wanted
returns-clause-wanted g c =
    let hook = g.met.B.ReplayBodies in replay-wanted g.B.BodyForms.forms hook.lawful hook.replays Expr
