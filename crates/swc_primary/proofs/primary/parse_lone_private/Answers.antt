use Rattle.std.proofs.Common.{Some, refl}
use Rattle.swc_nodes.proofs.Standing.{grows-same}
use Rattle.swc_steps.proofs.Making as m
use Rattle.swc_steps.proofs.Steps as s
use Rattle.swc_primary.proofs.PrivateNames.{never_private}
use Rattle.swc_primary.proofs.primary.parse_lone_private.Goals as goal

pub returns-in_err-name : goal.returns-in_err-name
returns-in_err-name g c =
    m.refused c.from_residual.ensures.1
    (s.unheard_after (never_private _ g.met.I.Tokens.laws _ c.requires)
    (s.unheard_none (λ x ts. refl) (c.in_err-name.ensures.parses g.B.Bodies.is_faithful).refuses)) (grows-same _)

pub returns-in_err-emit_lone_private : goal.returns-in_err-emit_lone_private
returns-in_err-emit_lone_private g c =
    let heard = c.in_ok-name.ensures.parses g.B.Bodies.is_faithful in
    m.refused c.from_residual-in_err-emit_lone_private.ensures.1
    (s.unheard_memory (s.forgoes_later heard.on.leads c.in_err-emit_lone_private.ensures.checks)) (grows-same _)

pub returns : goal.returns
returns g c =
    let heard = c.in_ok-name.ensures.parses g.B.Bodies.is_faithful in
    let noted = c.in_ok-emit_lone_private.ensures.checks in
    m.after {m = c.args.p.now} c.private_node.result
    (never_private _ g.met.I.Tokens.laws _ c.requires) (grows-same _)
    (m.call {m = record c.args.p.now { input = c.emit_lone_private.new.input }} c.private_node.result (λ x p. Some p)
    (λ x ts. refl) (s.heard_noted heard.on.leads heard.onward noted.leads (noted.notes refl)) (grows-same _)
    (λ x h. h) c.private_node.ensures)
