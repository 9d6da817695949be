use Rattle.std.proofs.Common.{Ok, Some, refl, sym, ap, ◌∙◌, arith}
use Rattle.swc_input.specs.Kinds.{at_token, is_hash}
use Rattle.swc_ast.specs.Trees.{name_e, private_e}
use Rattle.swc_grammar.specs.{Names.may_name, Words.◌>>=◌, Words.word}
use Rattle.swc_nodes.proofs.{Lists.apart-none, Standing.grows-same}
use Rattle.swc_steps.specs.Args.{hash_name}
use Rattle.swc_left.proofs.Links as link
use Rattle.swc_steps.proofs.Making as m
use Rattle.swc_steps.proofs.Naming.{name_read, name_unread}
use Rattle.swc_steps.proofs.Steps as s
use Rattle.swc_left.proofs.left.parse_member_name.Goals as goal

pub returns-in_err-look : goal.returns-in_err-look
returns-in_err-look g c =
    m.refused c.from_residual.ensures.1
    (s.unheard_memory c.in_err-look.ensures.looks) (grows-same _)

pub returns-in_err-name : goal.returns-in_err-name
returns-in_err-name g c =
    m.refused c.from_residual-in_err-name.ensures.1
    (s.unheard_after (s.on_seen {g = λ x ts. hash_name x ts >>=
    (λ p. Some ((private_e p.0.0.at p.0.0.text, p.0.1), p.1))} c.in_ok-look.ensures.looks
    (λ x ts same e. link.member_private x ts (ap (at_token is_hash) e ∙ sym c.is_sign.ensures.value
    ∙ c.if-is_sign.true)))
    (s.unheard_call (λ x p. Some ((private_e p.0.0.at p.0.0.text, p.0.1), p.1)) (λ x ts. refl)
    (c.in_err-name.ensures.parses g.B.Bodies.is_faithful))) (grows-same _)

pub returns-then-is_sign : goal.returns-then-is_sign
returns-then-is_sign g c =
    m.yes (Ok _)
    (s.heard_after (s.on_seen {g = λ x ts. hash_name x ts >>=
    (λ p. Some ((private_e p.0.0.at p.0.0.text, p.0.1), p.1))} c.in_ok-look.ensures.looks
    (λ x ts same e. link.member_private x ts (ap (at_token is_hash) e ∙ sym c.is_sign.ensures.value
    ∙ c.if-is_sign.true)))
    (s.heard_call (λ x p. Some ((private_e p.0.0.at p.0.0.text, p.0.1), p.1)) (λ x ts. refl) (λ x ts. refl)
    (c.in_ok-name.ensures.parses g.B.Bodies.is_faithful)))
    (grows-same _) (apart-none (omega arith))

pub returns-in_err-name-2 : goal.returns-in_err-name-2
returns-in_err-name-2 g c =
    m.refused c.from_residual-in_err-name-2.ensures.1
    (s.unheard_after (s.on_seen {g = λ x ts. word may_name x ts >>=
    (λ p. Some ((name_e p.0.at p.0.text, p.0.at.hi), p.1))} c.in_ok-look.ensures.looks
    (λ x ts same e. link.member_word x ts (ap (at_token is_hash) e ∙ sym c.is_sign.ensures.value ∙ c.if-is_sign.false)))
    (s.unheard_call (λ x p. Some ((name_e p.0.at p.0.text, p.0.at.hi), p.1)) (λ x ts. refl)
    (name_unread g.met.I.Tokens.laws c.in_err-name-2.ensures.names))) (grows-same _)

pub returns : goal.returns
returns g c =
    m.yes (Ok _)
    (s.heard_after (s.on_seen {g = λ x ts. word may_name x ts >>=
    (λ p. Some ((name_e p.0.at p.0.text, p.0.at.hi), p.1))} c.in_ok-look.ensures.looks
    (λ x ts same e. link.member_word x ts (ap (at_token is_hash) e ∙ sym c.is_sign.ensures.value ∙ c.if-is_sign.false)))
    (s.heard_call (λ x p. Some ((name_e p.0.at p.0.text, p.0.at.hi), p.1)) (λ x ts. refl) (λ x ts. refl)
    (name_read g.met.I.Tokens.laws c.in_ok-name-2.ensures.names)))
    (grows-same _) (apart-none (omega arith))
