use Rattle.std.proofs.Common.{sym, ap, ◌∙◌, arith}
use Rattle.swc_input.specs.Plain.{plain}
use Rattle.swc_ast.specs.Trees.{this_e}
use Rattle.swc_grammar.specs.Tokens.{is_this}
use Rattle.swc_nodes.proofs.Standing.{grows-same}
use Rattle.swc_steps.proofs.Rules as rule
use Rattle.swc_steps.proofs.Making as m
use Rattle.swc_steps.proofs.Steps as s
use Rattle.swc_primary.proofs.primary.parse_this_expr.Goals as goal

pub returns : goal.returns
returns g c =
    let first = c.skip.ensures.took.1 in
    m.node _ c.this_expr-node.result c.made.result (omega arith) c.this_expr-node.ensures.made c.made.ensures.ok
    c.made.ensures.refused (grows-same _) c.this_expr-node.ensures.grows
    (s.heard_answer (ap this_e (sym (s.last_was first) ∙ sym c.prev_span-span.ensures))
    (s.heard_took g.met.I.Tokens.laws first (λ x ts. rule.this_expr_takes _ (plain first.was) x ts
    (rule.passes_plain is_this _ _ first.current c.requires))))
