use Rattle.std.proofs.Common.{◌++◌, ◌&&◌, sym, ap, subst, ◌∙◌}
use Rattle.swc_context.specs.Spans.{from_to}
use Rattle.swc_ast.specs.Trees.{arrow_e}
use Rattle.swc_nodes.specs.{GrowingNodes.tree_at, GrowingNodes.body_end, Lists.pats_parts, Lists.pat_trees, NodeParts.body_parts}
use Rattle.swc_nodes.proofs.ArrowNodes.{apart-back}
use Rattle.swc_steps.proofs.Building.{made_at, made_over}
use Rattle.swc_steps.proofs.Steps as s
use Rattle.swc_arrows.specs.Answers.{body_at, SignChecked}
use Rattle.swc_arrows.proofs.Ends.{block_same, end_splits, ends_arrow, ends_operand, ends_refused}
use Rattle.swc_arrows.proofs.Dooms.{doomed_call}
use Rattle.swc_arrows.proofs.bodies.arrow_function.Goals as goal

pub returns-in_err-arrow : goal.returns-in_err-arrow
returns-in_err-arrow g c = λ k apart.
    ends_refused c.from_residual.result c.from_residual.ensures.1
    (s.unheard_memory (s.forgoes_here g.met.I.Tokens.laws _ _ _ c.in_err-arrow.ensures.refused))
    c.arrow_expr-node.ensures.grows

pub returns-in_err-check_sign : goal.returns-in_err-check_sign
returns-in_err-check_sign g c = λ k apart.
    let now = c.args.p.now.nodes in
    let head = c.args.head in
    let parts = apart-back (pats_parts head.params) (body_parts c.args.body) apart in
    ends_refused c.from_residual-in_err-check_sign.result c.from_residual-in_err-check_sign.ensures.1
    (s.unheard_call _ (end_splits head.start
    (body_end now c.args.body) head.is_async head.in_parens c.bars_signs-bars.result
    (pat_trees (tree_at now) head.params) (body_at now c.args.body)
    (c.bars_signs-bars.ensures ∙ ap (λ v. head.in_parens && v) (sym (block_same c.args.body parts))))
    (c.in_err-check_sign.ensures.checks g.B.Bodies.is_faithful)) c.arrow_expr-node.ensures.grows

pub returns-then-branch : goal.returns-then-branch
returns-then-branch g c = λ k apart.
    let now = c.args.p.now.nodes in
    let head = c.args.head in
    let new = c.arrow_expr-node.new.self in
    let parts = apart-back (pats_parts head.params) (body_parts c.args.body) apart in
    let t = arrow_e (from_to head.start (body_end now c.args.body)) head.is_async (body_at now c.args.body)
    (pat_trees (tree_at now) head.params) in
    let made = made_at new k t c.arrow_expr-node.result c.in_ok-arrow.arrow
    (made_over now new k (pats_parts head.params ++ body_parts c.args.body) t c.arrow_expr-node.result
    c.arrow_expr-node.ensures.made apart) c.in_ok-arrow.ensures.ok in
    let checks = subst (λ v. SignChecked g.I.Tokens.model g.B.Bodies.is_faithful c.bars_signs-bars.result v
    c.args.p.now.input
    c.check_sign.new.input) c.if-branch.true (c.in_ok-check_sign.ensures.checks g.B.Bodies.is_faithful) in
    ends_operand c.in_ok-arrow.arrow t
    (doomed_call _ (end_splits head.start
    (body_end now c.args.body) head.is_async head.in_parens c.bars_signs-bars.result
    (pat_trees (tree_at now) head.params) (body_at now c.args.body)
    (c.bars_signs-bars.ensures ∙ ap (λ v. head.in_parens && v) (sym (block_same c.args.body parts)))) checks)
    c.arrow_expr-node.ensures.grows made

pub returns : goal.returns
returns g c = λ k apart.
    let now = c.args.p.now.nodes in
    let head = c.args.head in
    let new = c.arrow_expr-node.new.self in
    let parts = apart-back (pats_parts head.params) (body_parts c.args.body) apart in
    let t = arrow_e (from_to head.start (body_end now c.args.body)) head.is_async (body_at now c.args.body)
    (pat_trees (tree_at now) head.params) in
    let made = made_at new k t c.arrow_expr-node.result c.in_ok-arrow.arrow
    (made_over now new k (pats_parts head.params ++ body_parts c.args.body) t c.arrow_expr-node.result
    c.arrow_expr-node.ensures.made apart) c.in_ok-arrow.ensures.ok in
    let checks = subst (λ v. SignChecked g.I.Tokens.model g.B.Bodies.is_faithful c.bars_signs-bars.result v
    c.args.p.now.input
    c.check_sign.new.input) c.if-branch.false (c.in_ok-check_sign.ensures.checks g.B.Bodies.is_faithful) in
    ends_arrow c.in_ok-arrow.arrow t
    (s.on_call _ (end_splits head.start (body_end now c.args.body) head.is_async head.in_parens c.bars_signs-bars.result
    (pat_trees (tree_at now) head.params) (body_at now c.args.body)
    (c.bars_signs-bars.ensures ∙ ap (λ v. head.in_parens && v) (sym (block_same c.args.body parts)))) checks)
    c.arrow_expr-node.ensures.grows made
