use Rattle.swc_left.specs.Links.{chain_at}
use Rattle.swc_steps.proofs.Ahead.{behind_some, told_behind}
use Rattle.swc_left.proofs.NextLink.{plain_chain}
use Rattle.swc_left.proofs.left.chain_behind.Goals as goal

pub returns-in-Some-clause-tells : goal.returns-in-Some-clause-tells
returns-in-Some-clause-tells g c =
    let w = behind_some chain_at plain_chain _ c.peek_chain.result c.in-Some.link c.in-Some.is
    c.peek_chain.ensures.value in
    told_behind g.met.I.Tokens.laws chain_at c.in-Some.link c.peek_chain.ensures.peeked c.requires w.0 w.1
