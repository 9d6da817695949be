use Rattle.std.proofs.Common.{arith}
use Rattle.swc_input.specs.Buffer.{context}
use Rattle.swc_ast.specs.Trees.{delete_ok}
use Rattle.swc_nodes.proofs.Standing.{grows-same}
use Rattle.swc_steps.proofs.Refused.{err_is}
use Rattle.swc_steps.specs.Parsing.{scope, tree_of}
use Rattle.swc_steps.proofs.Making as m
use Rattle.swc_steps.proofs.Rules as rule
use Rattle.swc_steps.proofs.Steps as s
use Rattle.swc_operators.proofs.ops.unary_expr.Goals as goal

pub returns-in_err-check_delete-clause-reads : goal.returns-in_err-check_delete-clause-reads
returns-in_err-check_delete-clause-reads g c =
    m.refused_more c.from_residual.ensures.1
    (s.unheard_memory c.in_err-check_delete.ensures.checks) (grows-same _)

pub returns-in_err-check_delete-clause-memory : goal.returns-in_err-check_delete-clause-memory
returns-in_err-check_delete-clause-memory g c =
    rw (err_is c.from_residual.ensures.1) c.in_err-check_delete.ensures.checks.kind

pub returns-clause-reads : goal.returns-clause-reads
returns-clause-reads g c =
    let x = scope g.I.Tokens.model c.args.p.now.input in
    let arg = tree_of c.args.p.now.nodes c.args.arg in
    m.node_on _ c.unary_op-node.result c.made.result (omega arith) c.unary_op-node.ensures.made c.made.ensures.ok
    c.made.ensures.refused (grows-same _) c.unary_op-node.ensures.grows
    (s.on_checked_in (delete_ok (context g.I.Tokens.model c.args.p.now.input) c.args.op arg)
    c.in_ok-check_delete.ensures.checks
    (λ ts h. rule.unary_op_well _ c.args.start c.args.op x arg ts h)
    (λ ts h. rule.unary_op_ill _ c.args.start c.args.op x arg ts h))

pub returns-clause-memory : goal.returns-clause-memory
returns-clause-memory g c = m.out_of_memory _ c.made.result c.made.ensures.refused
