use Rattle.std.proofs.Common.{Some}
use Rattle.swc_ast.specs.Trees.{private_e}
use Rattle.swc_nodes.proofs.Standing.{grows-same}
use Rattle.swc_steps.specs.{Parsing.private_spelling, Readers.before_in}
use Rattle.swc_steps.proofs.Making as m
use Rattle.swc_steps.proofs.Steps as s
use Rattle.swc_primary.proofs.PrivateNames.{before_splits, operand_splits}
use Rattle.swc_primary.proofs.primary.parse_private_operand.Goals as goal

pub returns-in_err-name : goal.returns-in_err-name
returns-in_err-name g c =
    let hook = g.B.BodyForms.forms in
    m.refused c.from_residual.ensures.1
    (s.unheard_call (λ x p. before_in hook p.0.0 x p.1) (operand_splits hook)
    (c.in_err-name.ensures.parses g.B.Bodies.is_faithful)) (grows-same _)

pub returns-in_err-check_before_in : goal.returns-in_err-check_before_in
returns-in_err-check_before_in g c =
    let hook = g.B.BodyForms.forms in
    let heard = c.in_ok-name.ensures.parses g.B.Bodies.is_faithful in
    m.refused c.from_residual-in_err-check_before_in.ensures.1
    (s.unheard_after (s.on_call (λ x p. before_in hook p.0.0 x p.1) (operand_splits hook) heard.on)
    (s.unheard_call _ (before_splits hook (private_spelling c.in_ok-name.name))
    (c.in_err-check_before_in.ensures.checks g.B.Bodies.is_faithful))) (grows-same _)

pub returns : goal.returns
returns g c =
    let hook = g.B.BodyForms.forms in
    let n = private_spelling c.in_ok-name.name in
    let heard = c.in_ok-name.ensures.parses g.B.Bodies.is_faithful in
    m.call {m = record c.args.p.now { input = c.parse_private_name.new.input }} c.private_node.result
    (λ x p. before_in hook p.0.0 x p.1) (operand_splits hook) heard (grows-same _) (λ x h. h)
    (m.on_after {m = record c.args.p.now { input = c.check_before_in.new.input }} c.private_node.result
    (s.on_call (λ x q. Some (private_e n.at n.text, q.1)) (before_splits hook n)
    (c.in_ok-check_before_in.ensures.checks g.B.Bodies.is_faithful)) (grows-same _) c.private_node.ensures)
