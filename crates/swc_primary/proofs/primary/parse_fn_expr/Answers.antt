use Rattle.std.proofs.Common.{Ok, Err, arith}
use Rattle.swc_ast.specs.Trees.{fn_e}
use Rattle.swc_nodes.proofs.Standing.{grows-same}
use Rattle.swc_steps.proofs.Hearing as hearing
use Rattle.swc_steps.proofs.Rules as rule
use Rattle.swc_steps.proofs.Making as m
use Rattle.swc_steps.proofs.Steps as s
use Rattle.swc_primary.proofs.primary.parse_fn_expr.Goals as goal

pub returns-in_err-function : goal.returns-in_err-function
returns-in_err-function g c =
    m.refused c.from_residual.ensures.1
    (s.unheard_call _ (rule.fn_expr_hears _ g.met.B.Bodies.lawful)
    (hearing.hook_parses g.I.Tokens.model g.met.I.Tokens.laws _ g.met.B.Bodies.lawful.fun.viewed g.B.Bodies.is_faithful
    _ c.fun-answer.result (Err c.in_err-function.field-0.0)
    c.fun-answer.ensures.hooked c.fun-answer.ensures.faithful c.in_err-function.ensures.runs
    c.in_err-function.ensures.fails)) (grows-same _)

pub returns : goal.returns
returns g c =
    m.node _ c.fn_expr-node.result c.made.result (omega arith) c.fn_expr-node.ensures.made c.made.ensures.ok
    c.made.ensures.refused (grows-same _) c.fn_expr-node.ensures.grows
    (s.heard_as (λ v. fn_e (g.B.Fun.Spanned.place v) v) (λ x ts. rule.fn_expr_hears _ g.met.B.Bodies.lawful x ts)
    (hearing.hook_parses g.I.Tokens.model g.met.I.Tokens.laws _ g.met.B.Bodies.lawful.fun.viewed g.B.Bodies.is_faithful
    _ c.fun-answer.result (Ok c.in_ok-function.function)
    c.fun-answer.ensures.hooked c.fun-answer.ensures.faithful c.in_ok-function.ensures.runs
    c.in_ok-function.ensures.fails))
