use Rattle.swc_nodes.specs.NodeParts.{one_pat, flat, body_parts}
use Rattle.swc_print.proofs.Added.{both_ok}
use Rattle.swc_print.proofs.links.put_arrow.Goals as goal

pub returns : goal.returns
returns g c = both_ok c.put_body.result _ _ _ (flat one_pat c.args.params.now)
    (body_parts c.args.body.now) c.in_ok-put_list.ensures c.put_body.ensures
