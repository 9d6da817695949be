use Rattle.std.proofs.Common.{Ok, false, refl, sym, ap, ◌∙◌, arith}
use Rattle.swc_context.specs.Spans.{from_to}
use Rattle.swc_ast.specs.{Targets.is_target, Tree.span_of, Trees.update_e}
use Rattle.swc_nodes.proofs.{Held.from_self, Standing.grows-same}
use Rattle.swc_steps.specs.Parsing.{scope, tree_of}
use Rattle.swc_operators.specs.Updates.{update_behind}
use Rattle.swc_steps.proofs.Making as m
use Rattle.swc_steps.proofs.Steps as s
use Rattle.swc_operators.proofs.Updates as update
use Rattle.swc_operators.proofs.ops.parse_update_postfix.Goals as goal

pub returns-in_err-op : goal.returns-in_err-op
returns-in_err-op g c =
    m.refused_more c.from_residual.ensures.1
    (s.unheard_memory c.in_err-op.ensures.looks) (grows-same _)

pub returns-in-None : goal.returns-in-None
returns-in-None g c =
    let l = tree_of c.args.p.now.nodes c.args.expr in
    m.on (Ok _) (s.on_seen c.in_ok-op.ensures.looks (λ x ts same e. update.updates_end _ l x ts
    (ap update_behind e ∙ sym c.in_ok-op.ensures.value ∙ c.in-None.is))) (grows-same _) (from_self c.requires.from)

pub returns-in_err-check_update_target : goal.returns-in_err-check_update_target
returns-in_err-check_update_target g c =
    m.refused_more c.from_residual-in_err-check_update_target.ensures.1
    (s.unheard_memory (s.forgoes_later (s.here_leads c.in_ok-op.ensures.looks)
    c.in_err-check_update_target.ensures.checks)) (grows-same _)

pub returns : goal.returns
returns g c =
    let l = tree_of c.args.p.now.nodes c.args.expr in
    let op = c.in-Some.op in
    let first = c.skip.ensures.took.1 in
    let x0 = scope g.I.Tokens.model c.update_behind_cur.new.input in
    let whole = ap (λ v. update_e (from_to (span_of l).lo v) op false l)
    (ap (λ v. v.hi) (sym (s.last_was first)) ∙ sym c.last_pos-end.ensures) in
    m.weaker c.made.result
    (m.node _ c.update_postfix-node.result c.made.result
    (omega arith) c.update_postfix-node.ensures.made c.made.ensures.ok
    c.made.ensures.refused (grows-same _) c.update_postfix-node.ensures.grows
    (s.heard_answer whole
    (s.heard_after (s.on_seen {g = update.update_rest op l} c.in_ok-op.ensures.looks
    (λ x ts same e. update.updates_by _ op l x ts
    (ap update_behind e ∙ sym c.in_ok-op.ensures.value ∙ c.in-Some.is)))
    (s.heard_after (s.on_checked_in {g = update.update_last op l}
    (is_target x0.context.strict l) c.in_ok-check_update_target.ensures.checks
    (λ ts h. update.if_on (is_target x0.context.strict l) _ _ h)
    (λ ts h. update.if_off (is_target x0.context.strict l) _ _ h))
    (s.heard_took g.met.I.Tokens.laws first (λ x ts. refl))))))
