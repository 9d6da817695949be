use Rattle.std.proofs.Common.{◌≡◌, sym, ap, subst, ◌∙◌}
use Rattle.swc_input.specs.{Kinds.at_token, Buffer.context}
use Rattle.swc_bodies.specs.Readings.{is_async}
use Rattle.swc_nodes.proofs.Standing.{grows-count, grows-same}
use Rattle.swc_steps.proofs.Building.{grows-kept}
use Rattle.swc_steps.specs.Parsing.{seen, seen_of}
use Rattle.swc_steps.proofs.Making as m
use Rattle.swc_steps.proofs.Regexes as regex
use Rattle.swc_steps.proofs.Rules as rule
use Rattle.swc_steps.proofs.Steps as s
use Rattle.swc_primary.specs.{Openings.primary_kind, declared.primary.PrimaryKind.TheVariants.Plain, declared.primary.PlainKind.PlainKind as kind}
use Rattle.swc_primary.proofs.Openings as opening
use Rattle.swc_primary.proofs.primary.parse_plain_primary.Goals as goal

pub returns-in-This : goal.returns-in-This
returns-in-This g c =
    m.after c.parse_this_expr.result (s.on_seen c.requires.looked (λ x ts same e. rule.this_expr_picked _ x ts
    (opening.kind_first kind.This ts same e (opening.kind_is g.I.Tokens.model c.args.p.now.input c.in-This.is
    c.plain_kind.ensures.begins)))) (grows-same _) c.parse_this_expr.ensures

pub returns-in_err-is_async_function-in-Async : goal.returns-in_err-is_async_function-in-Async
returns-in_err-is_async_function-in-Async g c =
    m.refused c.from_residual.ensures.1
    (s.unheard_memory (s.forgoes_later (s.here_leads c.requires.looked)
    c.in_err-is_async_function-in-Async.ensures.tells)) (grows-same _)

pub returns-then-branch : goal.returns-then-branch
returns-then-branch g c =
    m.after c.parse_fn_expr.result (s.on_told c.requires.looked c.in_ok-is_async_function-in-Async.ensures.tells
    (λ x ts same e told. rule.fn_expr_picked _ x ts (rule.async_begins ts (told ∙ c.if-branch.true))))
    (grows-same _) c.parse_fn_expr.ensures

pub parse_ident_expr-requires : goal.parse_ident_expr-requires
parse_ident_expr-requires g c =
    opening.async_refers (context g.I.Tokens.model c.is_async_function.new.input) (seen c.is_async_function.new.input)
    (ap (at_token is_async) (ap seen_of c.in_ok-is_async_function-in-Async.ensures.tells.current)
    ∙ opening.kind_is g.I.Tokens.model c.args.p.now.input c.in-Async.is c.plain_kind.ensures.begins)

pub returns-else-branch : goal.returns-else-branch
returns-else-branch g c =
    let told = c.in_ok-is_async_function-in-Async.ensures.tells in
    m.after {m = record c.args.p.now { input = c.is_async_function.new.input }} c.parse_ident_expr.result
    (s.on_told c.requires.looked told (λ x ts same e is. rule.async_name_picked _ x ts (s.no_head same)
    (ap (at_token is_async) (e ∙ ap seen_of told.current)
    ∙ opening.kind_is g.I.Tokens.model c.args.p.now.input c.in-Async.is c.plain_kind.ensures.begins)
    (is ∙ c.if-branch.false))) (grows-same _) c.parse_ident_expr.ensures

pub returns-in-Function : goal.returns-in-Function
returns-in-Function g c =
    m.after c.parse_fn_expr-in-Function.result (s.on_seen c.requires.looked (λ x ts same e. rule.fn_expr_picked _ x ts
    (rule.function_begins ts (opening.kind_first kind.Function ts same e
    (opening.kind_is g.I.Tokens.model c.args.p.now.input c.in-Function.is c.plain_kind.ensures.begins)))))
    (grows-same _) c.parse_fn_expr-in-Function.ensures

pub returns-in_err-lit-in-Literal : goal.returns-in_err-lit-in-Literal
returns-in_err-lit-in-Literal g c =
    m.refused c.from_residual-in_err-lit-in-Literal.ensures.1
    (s.unheard_after (s.on_seen c.requires.looked (λ x ts same e. rule.lit_picked _ x ts (s.no_head same)
    (opening.kind_first kind.Literal ts same e (opening.kind_is g.I.Tokens.model c.args.p.now.input c.in-Literal.is
    c.plain_kind.ensures.begins)))) (c.in_err-lit-in-Literal.ensures.parses g.B.Bodies.is_faithful))
    (grows-kept c.parse_lit.ensures.nodes)

pub returns-in_ok-lit-in-Literal : goal.returns-in_ok-lit-in-Literal
returns-in_ok-lit-in-Literal g c =
    m.node _ c.lit-node.result c.made.result (grows-count (grows-kept c.parse_lit.ensures.nodes))
    c.lit-node.ensures.made c.made.ensures.ok c.made.ensures.refused
    (grows-kept c.parse_lit.ensures.nodes) c.lit-node.ensures.grows
    (s.heard_after (s.on_seen c.requires.looked (λ x ts same e. rule.lit_picked _ x ts (s.no_head same)
    (opening.kind_first kind.Literal ts same e (opening.kind_is g.I.Tokens.model c.args.p.now.input c.in-Literal.is
    c.plain_kind.ensures.begins)))) (c.in_ok-lit-in-Literal.ensures.parses g.B.Bodies.is_faithful))

pub returns-in-Class : goal.returns-in-Class
returns-in-Class g c =
    m.after c.parse_class_expr.result (s.on_seen c.requires.looked (λ x ts same e. rule.class_expr_picked _ x ts
    (opening.kind_first kind.Class ts same e (opening.kind_is g.I.Tokens.model c.args.p.now.input c.in-Class.is
    c.plain_kind.ensures.begins)))) (grows-same _) c.parse_class_expr.ensures

pub returns-in-Name : goal.returns-in-Name
returns-in-Name g c =
    m.after c.parse_ident_expr-in-Name.result (s.on_seen c.requires.looked (λ x ts same e. rule.name_picked _ x ts
    (opening.kind_first kind.Name ts same e (opening.kind_is g.I.Tokens.model c.args.p.now.input c.in-Name.is
    c.plain_kind.ensures.begins)))) (grows-same _) c.parse_ident_expr-in-Name.ensures

pub returns-in-Private : goal.returns-in-Private
returns-in-Private g c =
    m.after c.parse_private_expr.result (s.on_seen c.requires.looked (λ x ts same e. rule.private_expr_picked _ x ts
    (opening.kind_first kind.Private ts same e (opening.kind_is g.I.Tokens.model c.args.p.now.input c.in-Private.is
    c.plain_kind.ensures.begins)))) (grows-same _) c.parse_private_expr.ensures

pub returns-in-Regex : goal.returns-in-Regex
returns-in-Regex g c =
    m.after c.parse_regex.result (s.on_seen c.requires.looked (λ x ts same e. regex.regex_picked _ x ts
    (opening.kind_first kind.Regex ts same e (opening.kind_is g.I.Tokens.model c.args.p.now.input c.in-Regex.is
    c.plain_kind.ensures.begins)))) (grows-same _) c.parse_regex.ensures

pub returns-in-Other : goal.returns-in-Other
returns-in-Other g c =
    m.no (s.unheard_at c.requires.looked (λ x ts same e. opening.other_ends _ x ts
    (subst (λ v. primary_kind v ≡ Plain) (sym e) c.requires.plain)
    (opening.kind_first kind.Other ts same e (opening.kind_is g.I.Tokens.model c.args.p.now.input c.in-Other.is
    c.plain_kind.ensures.begins))) c.no_primary.ensures.refuses) (grows-same _)
