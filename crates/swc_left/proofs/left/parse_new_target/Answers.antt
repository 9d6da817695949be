use Rattle.std.proofs.Common.{refl, arith}
use Rattle.swc_input.specs.Buffer.{context}
use Rattle.swc_grammar.specs.Tokens.{new_target_ok}
use Rattle.swc_nodes.proofs.Standing.{grows-same}
use Rattle.swc_left.proofs.Links as link
use Rattle.swc_steps.proofs.Making as m
use Rattle.swc_steps.proofs.Steps as s
use Rattle.swc_left.proofs.left.parse_new_target.Goals as goal

pub returns-in_err-end : goal.returns-in_err-end
returns-in_err-end g c =
    m.refused c.from_residual.ensures.1
    (s.unheard_call _ (link.target_splits c.args.start) (c.in_err-end.ensures.expects g.B.Bodies.is_faithful))
    (grows-same _)

pub returns-in_err-check_new_target : goal.returns-in_err-check_new_target
returns-in_err-check_new_target g c =
    m.refused c.from_residual-in_err-check_new_target.ensures.1
    (s.unheard_memory (s.forgoes_later (c.in_ok-end.ensures.expects g.B.Bodies.is_faithful).on.leads
    c.in_err-check_new_target.ensures.checks)) (grows-same _)

pub returns : goal.returns
returns g c =
    m.node _ c.meta_prop-node.result c.made.result (omega arith) c.meta_prop-node.ensures.made c.made.ensures.ok
    c.made.ensures.refused (grows-same _) c.meta_prop-node.ensures.grows
    (s.heard_more _ (link.target_splits c.args.start) (c.in_ok-end.ensures.expects g.B.Bodies.is_faithful)
    (s.on_checked_in (new_target_ok (context g.I.Tokens.model c.expect_or.new.input))
    c.in_ok-check_new_target.ensures.checks (λ ts h. rw h refl) (λ ts h. rw h refl)))
