use Rattle.std.proofs.Common.{Ok, None, sym, ap, ◌∙◌}
use Rattle.swc_ast.specs.Trees.{nullish_ok, left_ok}
use Rattle.swc_nodes.proofs.Standing.{grows-same}
use Rattle.swc_steps.proofs.Refused.{err_is}
use Rattle.swc_steps.specs.{Parsing.tree_of, Readers.turned}
use Rattle.swc_steps.proofs.Building.{made_at}
use Rattle.swc_steps.proofs.Making as m
use Rattle.swc_steps.proofs.Rules as rule
use Rattle.swc_steps.proofs.Steps as s
use Rattle.swc_operators.proofs.Pending.{join_well, join_ill}
use Rattle.swc_operators.proofs.ops.join_operands.Goals as goal

pub returns-in_err-check_operands : goal.returns-in_err-check_operands
returns-in_err-check_operands g c =
    m.refused_more c.from_residual.ensures.1
    (s.unheard_memory c.in_err-check_operands.ensures.checks) (grows-same _)

pub returns-in_err-node : goal.returns-in_err-node
returns-in_err-node g c =
    let failed = c.from_residual-in_err-node in
    rw (err_is failed.ensures.1) (m.no_more
    (s.unheard_memory (s.forgoes_later c.in_ok-check_operands.ensures.checks.leads
    (s.forgoes_here g.met.I.Tokens.laws _ _ _ c.in_err-node.ensures.refused)))
    c.bin_op-node.ensures.grows)

pub returns-in_err-check_nullish_left : goal.returns-in_err-check_nullish_left
returns-in_err-check_nullish_left g c =
    let failed = c.from_residual-in_err-check_nullish_left in
    rw (err_is failed.ensures.1) (m.no_more
    (s.unheard_memory (s.forgoes_later c.in_ok-check_operands.ensures.checks.leads
    c.in_err-check_nullish_left.ensures.checks))
    c.bin_op-node.ensures.grows)

pub returns : goal.returns
returns g c =
    let op = c.args.operator.op in
    let l = tree_of c.args.p.now.nodes c.args.operator.left in
    let r = tree_of c.args.p.now.nodes c.args.right in
    let n = tree_of c.bin_op-node.new.self c.in_ok-node.node in
    let ok = c.in_ok-node.ensures.ok in
    let made = made_at _ _ _ c.bin_op-node.result c.in_ok-node.node c.bin_op-node.ensures.made ok in
    m.on (Ok _)
    (s.on_then
    (s.on_checked {g = turned g.B.BodyForms.forms n None} (nullish_ok op l r) c.in_ok-check_operands.ensures.checks
    (λ x ts h. join_well g.B.BodyForms.forms op l r x ts h
    ∙ ap (λ t. turned g.B.BodyForms.forms t None x ts) (sym made.stands))
    (λ x ts h. join_ill g.B.BodyForms.forms op l r x ts h))
    (s.on_checked (left_ok n) c.in_ok-check_nullish_left.ensures.checks
    (λ x ts h. rule.turned_well g.B.BodyForms.forms n None x ts h)
    (λ x ts h. rule.turned_ill g.B.BodyForms.forms n None x ts h)))
    c.bin_op-node.ensures.grows made.from
