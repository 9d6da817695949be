use Rattle.swc_context.specs.Spans.{from_to}
use Rattle.swc_ast.specs.Trees.{to, private_e}
use Rattle.swc_nodes.proofs.Standing.{grows-same}
use Rattle.std.proofs.Common.{◌≡◌, sym, ap, ◌∙◌, arith}
use Rattle.swc_input.specs.{Plain.plain, Kinds.is_hash}
use Rattle.swc_steps.specs.Readers.{private_expr_tail}
use Rattle.swc_steps.proofs.Rules as rule
use Rattle.swc_steps.proofs.Making as m
use Rattle.swc_steps.proofs.Naming.{name_read, name_unread}
use Rattle.swc_steps.proofs.Steps as s
use Rattle.swc_primary.proofs.PrivateNames.{on_lenient}
use Rattle.swc_primary.proofs.primary.parse_private_expr.Goals as goal

pub returns-in_err-name : goal.returns-in_err-name
returns-in_err-name g c =
    m.refused c.from_residual.ensures.1
    (s.unheard_after (s.on_took {g = private_expr_tail _ (plain c.skip.ensures.took.1.was).span} g.met.I.Tokens.laws
    c.skip.ensures.took.1 (λ x ts. rule.private_expr_opens _ (plain c.skip.ensures.took.1.was) x ts
    (rule.passes_plain is_hash _ _ c.skip.ensures.took.1.current c.requires)))
    (s.unheard_call _ (rule.private_expr_splits _ (plain c.skip.ensures.took.1.was).span)
    (name_unread g.met.I.Tokens.laws c.in_err-name.ensures.names))) (grows-same _)

pub returns : goal.returns
returns g c =
    let first = c.skip.ensures.took.1 in
    let name = c.in_ok-name.name in
    let heard = name_read {sure = g.B.Bodies.is_faithful} g.met.I.Tokens.laws c.in_ok-name.ensures.names in
    let same = s.read_scope g.met.I.Tokens.laws heard.on.leads.read ∙ s.read_scope g.met.I.Tokens.laws first.read in
    let lenient = ap (λ v. v.syntax.pedantic) same ∙ ap (λ v. v.pedantic)
    (sym c.syntax-syntax.ensures) ∙ c.if-syntax.false in
    let whole : private_e (to first.was.span name.span) name.sym ≡ private_e
    (from_to c.cur_span.result.lo name.span.hi) name.sym =
    ap (λ v. private_e (from_to v name.span.hi) name.sym)
    (ap (λ v. v.lo) (sym (s.place_was first c.cur_span.result c.cur_span.ensures))) in
    m.node _ c.private_expr-node.result c.made.result (omega arith) c.private_expr-node.ensures.made c.made.ensures.ok
    c.made.ensures.refused (grows-same _) c.private_expr-node.ensures.grows
    (s.heard_answer whole (s.heard_first {g = private_expr_tail _ (plain c.skip.ensures.took.1.was).span}
    g.met.I.Tokens.laws first (λ x ts. rule.private_expr_opens _ (plain first.was) x ts
    (rule.passes_plain is_hash _ _ first.current c.requires))
    (s.on_then (s.on_call _ (rule.private_expr_splits _ (plain c.skip.ensures.took.1.was).span) heard.on)
    (on_lenient g.met.I.Tokens.laws _ lenient))))
