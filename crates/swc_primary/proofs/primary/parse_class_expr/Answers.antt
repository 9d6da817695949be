use Rattle.std.proofs.Common.{Ok, Err, arith}
use Rattle.swc_ast.specs.Trees.{class_e}
use Rattle.swc_nodes.proofs.Standing.{grows-same}
use Rattle.swc_steps.proofs.Hearing as hearing
use Rattle.swc_steps.proofs.Rules as rule
use Rattle.swc_steps.proofs.Making as m
use Rattle.swc_steps.proofs.Steps as s
use Rattle.swc_primary.proofs.primary.parse_class_expr.Goals as goal

pub returns-in_err-class : goal.returns-in_err-class
returns-in_err-class g c =
    m.refused c.from_residual.ensures.1
    (s.unheard_call _ (rule.class_expr_hears _ g.met.B.Bodies.lawful)
    (hearing.hook_parses g.I.Tokens.model g.met.I.Tokens.laws _ g.met.B.Bodies.lawful.class.viewed
    g.B.Bodies.is_faithful _ c.class-answer.result (Err c.in_err-class.field-0.0)
    c.class-answer.ensures.hooked c.class-answer.ensures.faithful c.in_err-class.ensures.runs
    c.in_err-class.ensures.fails)) (grows-same _)

pub returns : goal.returns
returns g c =
    m.node _ c.class_expr-node.result c.made.result (omega arith) c.class_expr-node.ensures.made c.made.ensures.ok
    c.made.ensures.refused (grows-same _) c.class_expr-node.ensures.grows
    (s.heard_as (λ v. class_e (g.B.Class.Spanned.place v) v)
    (λ x ts. rule.class_expr_hears _ g.met.B.Bodies.lawful x ts)
    (hearing.hook_parses g.I.Tokens.model g.met.I.Tokens.laws _ g.met.B.Bodies.lawful.class.viewed
    g.B.Bodies.is_faithful _ c.class-answer.result (Ok c.in_ok-class.class)
    c.class-answer.ensures.hooked c.class-answer.ensures.faithful c.in_ok-class.ensures.runs
    c.in_ok-class.ensures.fails))
