use Rattle.swc_ast.specs.Trees.{covers_ok}
use Rattle.swc_nodes.specs.NodeParts.{args_parts, one_expr}
use Rattle.swc_nodes.proofs.{ArrowNodes.apart-back, Standing.grows-same}
use Rattle.swc_steps.specs.Parsing.{scope, args_at}
use Rattle.swc_steps.proofs.Making as m
use Rattle.swc_steps.proofs.Naming.{goes, stops}
use Rattle.swc_steps.proofs.Steps as s
use Rattle.swc_arrows.proofs.lists.async_call.Goals as goal

pub check_item_covers-requires : goal.check_item_covers-requires
check_item_covers-requires g c = apart-back (one_expr c.args.callee) (args_parts c.args.list.items) c.requires

pub returns-in_err-check_item_covers : goal.returns-in_err-check_item_covers
returns-in_err-check_item_covers g c =
    m.refused_more c.from_residual.ensures.1 (s.unheard_memory c.in_err-check_item_covers.ensures.checks) (grows-same _)

pub returns : goal.returns
returns g c =
    let x = scope g.I.Tokens.model c.args.p.now.input in
    let well = covers_ok x.syntax.pedantic (args_at c.args.p.now.nodes c.args.list) in
    m.on_after c.call_expr.result
    (s.on_checked_in well c.in_ok-check_item_covers.ensures.checks (λ ts h. goes well _ h) (λ ts h. stops well _ h))
    (grows-same _) c.call_expr.ensures
