use Rattle.swc_nodes.proofs.Sequences.{held-apart, held-made}
use Rattle.swc_nodes.proofs.nodes.Nodes.seq_of_items.Goals as goal

pub seq_expr-requires-clause-apart : goal.seq_expr-requires-clause-apart
seq_expr-requires-clause-apart g c = held-apart c.in_ok-exprs.exprs c.args.items c.in_ok-exprs.ensures c.requires.apart

pub returns-clause-made : goal.returns-clause-made
returns-clause-made g c =
    held-made c.args.self.now c.seq_expr.new.self c.seq_expr.result c.in_ok-exprs.exprs c.args.items
    c.in_ok-exprs.ensures
    c.seq_expr.ensures.made
