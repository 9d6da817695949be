use Rattle.std.proofs.Common.{refl, sym, ap, ◌∙◌, arith}
use Rattle.swc_input.specs.Kinds.{at_token}
use Rattle.swc_ast.specs.Trees.{ident_e}
use Rattle.swc_grammar.specs.Tokens.{is_word}
use Rattle.swc_nodes.proofs.Standing.{grows-same}
use Rattle.swc_steps.proofs.Making as m
use Rattle.swc_steps.proofs.Steps as s
use Rattle.swc_patterns.specs.Arrays.{plain_pat}
use Rattle.swc_patterns.proofs.{Arrays.plain_splits, Arrays.plain_no, Bindings.binding_read, Bindings.binding_unread, PatNodes.pat_node}
use Rattle.swc_patterns.proofs.pat.parse_plain_pat.Goals as goal

pub returns-in_err-look : goal.returns-in_err-look
returns-in_err-look g c =
    m.refused c.from_residual.ensures.1 (s.unheard_memory c.in_err-look.ensures.looks) (grows-same _)

pub returns-then-not-is_word : goal.returns-then-not-is_word
returns-then-not-is_word g c =
    m.no (s.unheard_at c.in_ok-look.ensures.looks (λ x ts same e. plain_no x ts
    (ap (at_token is_word) e ∙ sym c.is_word.ensures ∙ c.if-not-is_word.true)) (c.unexpected.ensures.refuses (λ e. cc)))
    (grows-same _)

pub returns-in_err-name : goal.returns-in_err-name
returns-in_err-name g c =
    m.refused c.from_residual-in_err-name.ensures.1
    (s.unheard_after (s.on_seen {f = plain_pat} {g = plain_pat} c.in_ok-look.ensures.looks (λ x ts same e. refl))
    (s.unheard_call _ plain_splits (binding_unread g.met.I.Tokens.laws c.in_err-name.ensures.names))) (grows-same _)

pub returns : goal.returns
returns g c =
    pat_node _ c.ident_pat-node.result c.made.result (omega arith) c.ident_pat-node.ensures.made c.made.ensures.ok
    c.made.ensures.refused (grows-same _) c.ident_pat-node.ensures.grows
    (s.heard_after (s.on_seen {f = plain_pat} {g = plain_pat} c.in_ok-look.ensures.looks (λ x ts same e. refl))
    (s.heard_as (λ n. ident_e n.at n.text) plain_splits (binding_read g.met.I.Tokens.laws c.in_ok-name.ensures.names)))
