use Rattle.std.proofs.Common.{Ok, sym, ap, ◌∙◌, arith}
use Rattle.swc_input.specs.Kinds.{at_token}
use Rattle.swc_nodes.specs.{GrowingNodes.tree_at, declared.node.ForHeadId.ForHeadId as number, NodeParts.expr_part, NodeParts.pat_part}
use Rattle.swc_nodes.proofs.Held.{apart-from, from-down}
use Rattle.swc_cover.proofs.Kept.{grows-kept}
use Rattle.swc_steps.specs.Parsing.{seen_of}
use Rattle.swc_steps.proofs.Making as making
use Rattle.swc_steps.proofs.Steps as steps
use Rattle.swc_ecma_parser.specs.ForHeads.{is_each_word}
use Rattle.swc_ecma_parser.proofs.ForHeads.{each-fits, head_splits, heard-expr, heard-target, tail, tail-unheard, unheard-target}
use Rattle.swc_ecma_parser.proofs.for_heads.parse_for_head.Goals as goal

pub returns-in_err-expr-clause-produces : goal.returns-in_err-expr-clause-produces
returns-in_err-expr-clause-produces g c =
    making.refused c.from_residual.ensures.1
    (steps.unheard_call tail (head_splits g.B.BodyForms.forms c.args.is_await) c.in_err-expr.ensures.produces.reads)
    c.parse_head_expr.ensures.produces.grows

pub returns-in_err-look-clause-produces : goal.returns-in_err-look-clause-produces
returns-in_err-look-clause-produces g c =
    let read = c.in_ok-expr.ensures.produces in
    making.refused c.from_residual-in_err-look.ensures.1
    (tail-unheard g.B.BodyForms.forms g.met.B.Bodies.lawful c.in_ok-expr.expr (from-down (omega arith) read.from)
    c.args.is_await read.reads (steps.unheard_memory c.in_err-look.ensures.looks))
    c.parse_head_expr.ensures.produces.grows

pub returns-in_err-target-clause-produces : goal.returns-in_err-target-clause-produces
returns-in_err-target-clause-produces g c =
    let read = c.in_ok-expr.ensures.produces in
    let refused = c.in_err-target.ensures in
    making.refused c.from_residual-in_err-target.ensures.1
    (unheard-target g.B.BodyForms.forms g.met.B.Bodies.lawful c.in_ok-expr.expr (from-down (omega arith) read.from)
    c.args.is_await read.reads c.in_ok-look.ensures.looks _ (sym c.is_each.ensures ∙ c.if-is_each.true)
    refused.unrefined.refuses.refuses refused.unclear)
    (grows-kept c.parse_head_expr.ensures.produces.grows read.from.above refused.unrefined.kept)

pub returns-in_ok-target-clause-produces : goal.returns-in_ok-target-clause-produces
returns-in_ok-target-clause-produces g c =
    let read = c.in_ok-expr.ensures.produces in
    let made = c.in_ok-target.ensures in
    let target = c.in_ok-target.target in
    making.yes (Ok (number.Target target))
    (heard-target g.B.BodyForms.forms g.met.B.Bodies.lawful c.in_ok-expr.expr (from-down (omega arith) read.from)
    c.args.is_await read.reads c.in_ok-look.ensures.looks (tree_at c.reparse_expr_as_pat.new.p.nodes target.0)
    (sym c.is_each.ensures ∙ c.if-is_each.true) made.refined.made.stands made.exact)
    (grows-kept c.parse_head_expr.ensures.produces.grows read.from.above made.refined.kept)
    (apart-from (pat_part target) (from-down read.from.above made.refined.made.from))

pub returns-in_ok-target-clause-which : goal.returns-in_ok-target-clause-which
returns-in_ok-target-clause-which g c =
    let each = sym c.is_each.ensures ∙ c.if-is_each.true in
    sym (ap (λ o. at_token is_each_word (seen_of o)) (c.in_ok-target.ensures.kept (each-fits _ each)) ∙ each)

pub returns-else-is_each-clause-produces : goal.returns-else-is_each-clause-produces
returns-else-is_each-clause-produces g c =
    let read = c.in_ok-expr.ensures.produces in
    making.yes (Ok (number.Expr c.in_ok-expr.expr))
    (heard-expr g.B.BodyForms.forms g.met.B.Bodies.lawful c.in_ok-expr.expr (from-down (omega arith) read.from)
    c.args.is_await read.reads c.in_ok-look.ensures.looks (sym c.is_each.ensures ∙ c.if-is_each.false))
    c.parse_head_expr.ensures.produces.grows (apart-from (expr_part c.in_ok-expr.expr) read.from)
