use Rattle.std.proofs.Common.{arith}
use Rattle.swc_input.specs.Buffer.{context}
use Rattle.swc_ast.specs.Targets.{is_target}
use Rattle.swc_nodes.proofs.Standing.{grows-same}
use Rattle.swc_steps.specs.Parsing.{scope, tree_of}
use Rattle.swc_steps.proofs.Making as m
use Rattle.swc_steps.proofs.Steps as s
use Rattle.swc_operators.proofs.Updates as update
use Rattle.swc_operators.proofs.prefix.update_prefix.Goals as goal

pub returns-in_err-check_update_target : goal.returns-in_err-check_update_target
returns-in_err-check_update_target g c =
    m.refused_more c.from_residual.ensures.1
    (s.unheard_memory c.in_err-check_update_target.ensures.checks) (grows-same _)

pub returns : goal.returns
returns g c =
    let x = scope g.I.Tokens.model c.args.p.now.input in
    let arg = tree_of c.args.p.now.nodes c.args.arg in
    m.node_on _ c.update_prefix-node.result c.made.result (omega arith) c.update_prefix-node.ensures.made
    c.made.ensures.ok c.made.ensures.refused (grows-same _) c.update_prefix-node.ensures.grows
    (s.on_checked_in (is_target (context g.I.Tokens.model c.args.p.now.input).strict arg)
    c.in_ok-check_update_target.ensures.checks
    (λ ts h. update.update_well c.args.start c.args.op x arg ts h)
    (λ ts h. update.update_ill c.args.start c.args.op x arg ts h))
