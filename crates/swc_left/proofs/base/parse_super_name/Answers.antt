use Rattle.std.proofs.Common.{[], Some, refl, sym, ap, ◌∙◌, arith}
use Rattle.swc_input.specs.Kinds.{at_token, is_hash}
use Rattle.swc_nodes.specs.GrowingNodes.{count}
use Rattle.swc_nodes.proofs.{Lists.apart-none, Standing.grows-same}
use Rattle.swc_left.specs.Bases.{super_named, super_name_tail}
use Rattle.swc_left.proofs.Bases as base
use Rattle.swc_steps.proofs.Building.{made_over}
use Rattle.swc_steps.proofs.Making as m
use Rattle.swc_steps.proofs.Naming.{name_read, name_unread}
use Rattle.swc_steps.proofs.Steps as s
use Rattle.swc_left.proofs.base.parse_super_name.Goals as goal

pub returns-in_err-look : goal.returns-in_err-look
returns-in_err-look g c =
    m.refused c.from_residual.ensures.1
    (s.unheard_memory c.in_err-look.ensures.looks) (grows-same _)

pub returns-in_err-parse_private_name : goal.returns-in_err-parse_private_name
returns-in_err-parse_private_name g c =
    m.refused c.from_residual-in_err-parse_private_name.ensures.1
    (s.unheard_at c.in_ok-look.ensures.looks
    (λ x ts same e. base.no_hash_name c.args.start x ts
    (ap (at_token is_hash) e ∙ sym c.is_sign.ensures.value ∙ c.if-is_sign.true))
    (c.in_err-parse_private_name.ensures.parses g.B.Bodies.is_faithful).refuses) (grows-same _)

pub returns-then-is_sign : goal.returns-then-is_sign
returns-then-is_sign g c =
    m.no (s.unheard_at c.in_ok-look.ensures.looks
    (λ x ts same e. base.no_hash_name c.args.start x ts
    (ap (at_token is_hash) e ∙ sym c.is_sign.ensures.value ∙ c.if-is_sign.true))
    (s.refuses_later (c.in_ok-parse_private_name.ensures.parses g.B.Bodies.is_faithful).on.leads
    c.refuse_super_link.ensures)) (grows-same _)

pub returns-in_err-name : goal.returns-in_err-name
returns-in_err-name g c =
    m.refused c.from_residual-in_err-name.ensures.1
    (s.unheard_after (s.on_seen {g = super_name_tail c.args.start} c.in_ok-look.ensures.looks (λ x ts same e. refl))
    (s.unheard_call _ (base.name_splits c.args.start) (name_unread g.met.I.Tokens.laws c.in_err-name.ensures.names)))
    (grows-same _)

pub returns-in_err-require_super : goal.returns-in_err-require_super
returns-in_err-require_super g c =
    let name = c.in_ok-name.name in
    m.refused c.from_residual-in_err-require_super.ensures.1
    (s.unheard_after (s.on_then (s.on_seen {g = super_name_tail c.args.start} c.in_ok-look.ensures.looks
    (λ x ts same e. refl))
    (s.on_call _ (base.name_splits c.args.start)
    (name_read {sure = g.B.Bodies.is_faithful} g.met.I.Tokens.laws c.in_ok-name.ensures.names).on))
    (s.unheard_call (λ x q. Some (super_named c.args.start name.span name.sym, q.1)) (λ x ts. refl)
    (c.in_err-require_super.ensures.passes g.B.Bodies.is_faithful))) (grows-same _)

pub super_prop_expr-node-requires : goal.super_prop_expr-node-requires
super_prop_expr-node-requires g c = record { apart = apart-none (omega arith) }

pub returns : goal.returns
returns g c =
    let name = c.in_ok-name.name in
    m.node {j = count c.args.p.now.nodes} _ c.super_prop_expr-node.result c.made.result (omega arith)
    (made_over _ _ _ [] _ c.super_prop_expr-node.result c.super_prop_expr-node.ensures.made (apart-none (omega arith)))
    c.made.ensures.ok c.made.ensures.refused (grows-same _) c.super_prop_expr-node.ensures.grows
    (s.heard_after (s.on_seen {g = super_name_tail c.args.start} c.in_ok-look.ensures.looks (λ x ts same e. refl))
    (s.heard_more _ (base.name_splits c.args.start) (name_read g.met.I.Tokens.laws c.in_ok-name.ensures.names)
    (s.on_call (λ x q. Some (super_named c.args.start name.span name.sym, q.1)) (λ x ts. refl)
    (c.in_ok-require_super.ensures.passes g.B.Bodies.is_faithful))))
