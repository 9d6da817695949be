use Rattle.std.proofs.Common.{arith}
use Rattle.swc_ast.specs.{declared.lit.Lit.Lit as lit, Parts.lit_tree}
use Rattle.swc_nodes.proofs.Standing.{grows-same}
use Rattle.swc_grammar.specs.Parts.{flags_ok}
use Rattle.swc_steps.proofs.Regexes as rule
use Rattle.swc_steps.proofs.Making as m
use Rattle.swc_steps.proofs.Steps as s
use Rattle.swc_steps.proofs.regex.parse_regex.Goals as goal

pub returns-in_err-regex : goal.returns-in_err-regex
returns-in_err-regex g c =
    m.refused c.from_residual.ensures.1
    (s.unheard_call _ rule.expr_splits (c.in_err-regex.ensures.parses g.B.Bodies.is_faithful))
    (grows-same _)

pub returns-in_err-check_flags : goal.returns-in_err-check_flags
returns-in_err-check_flags g c =
    m.refused c.from_residual-in_err-check_flags.ensures.1
    (s.unheard_after
    (s.on_call _ rule.expr_splits (c.in_ok-regex.ensures.parses g.B.Bodies.is_faithful).on)
    (s.unheard_memory c.in_err-check_flags.ensures.checks)) (grows-same _)

pub returns : goal.returns
returns g c =
    let regex = c.in_ok-regex.regex in
    m.node _ c.lit-node.result c.made.result (omega arith) c.lit-node.ensures.made c.made.ensures.ok
    c.made.ensures.refused
    (grows-same _) c.lit-node.ensures.grows
    (s.heard_more _ rule.expr_splits (c.in_ok-regex.ensures.parses g.B.Bodies.is_faithful)
    (s.on_checked {g = s.give (lit_tree (lit.Regex regex))} (flags_ok regex.flags) c.in_ok-check_flags.ensures.checks
    (λ x ts w. rule.made_well regex ts w) (λ x ts w. rule.made_ill regex ts w)))
