use Rattle.swc_steps.proofs.Steps.{looks}
use Rattle.swc_steps.proofs.tokens.look.Goals as goal

pub returns-clause-looks : goal.returns-clause-looks
returns-clause-looks g c = looks g.met.I.Tokens.laws _ _ c.has_cur.result c.has_cur.ensures.looked
    c.has_cur.ensures.seen c.has_cur.ensures.refused
