use Rattle.swc_nodes.proofs.Lists.{chain-made}
use Rattle.swc_nodes.proofs.nodes.Nodes.opt_chain.Goals as goal

pub returns-clause-made : goal.returns-clause-made
returns-clause-made g c =
    chain-made c.args.span c.args.optional c.args.base c.in_ok-base.base c.in_ok-base.ensures.ok c.requires.place
    c.requires.apart c.in_ok-push.ensures.added
