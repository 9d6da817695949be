use Rattle.std.proofs.Common.{true, false, refl, subst}
use Rattle.swc_nodes.proofs.Standing.{grows-same}
use Rattle.swc_steps.specs.Params.{pat_at}
use Rattle.swc_patterns.proofs.PartlyRead.{refused}
use Rattle.swc_steps.specs.Parsing.{ident_spelling, On}
use Rattle.swc_steps.proofs.Steps as s
use Rattle.swc_arrows.specs.Answers.{HearsBase, Opens}
use Rattle.swc_arrows.specs.Readers.{arrow_behind, async_arrow, async_base, async_behind}
use Rattle.swc_arrows.proofs.Bases.{base_before_of, if_arrow, one_is_arrow}
use Rattle.swc_arrows.proofs.NameReads.{arrow_rest, async_splits, of_by, of_splits, param_rest, param_splits, leaves_after, one_leaves, opens_after_all}
use Rattle.swc_arrows.proofs.Dooms.{opens_call, opens_later}
use Rattle.swc_ast.specs.Tree.{nil, cons}
use Rattle.swc_arrows.proofs.names.parse_async_name.Goals as goal

pub returns-in_err-name-clause-leaves : goal.returns-in_err-name-clause-leaves
returns-in_err-name-clause-leaves g c =
    let hook = g.B.BodyForms.forms in
    refused c.from_residual.ensures.1
    (s.unheard_call (λ x p. async_behind hook p.0 x p.1) (async_splits hook)
    (c.in_err-name.ensures.parses g.B.Bodies.is_faithful)) (grows-same _)

pub returns-in_err-is_of_alone-clause-leaves : goal.returns-in_err-is_of_alone-clause-leaves
returns-in_err-is_of_alone-clause-leaves g c =
    let hook = g.B.BodyForms.forms in
    let n = ident_spelling c.in_ok-name.name in
    refused c.from_residual-in_err-is_of_alone.ensures.1
    (s.unheard_after (s.on_call (λ x p. async_behind hook p.0 x p.1) (async_splits hook)
    (c.in_ok-name.ensures.parses g.B.Bodies.is_faithful).on)
    (s.unheard_call (λ x p. of_by hook n p.0 x p.1) (of_splits hook n)
    (c.in_err-is_of_alone.ensures.tells g.B.Bodies.is_faithful))) (grows-same _)

pub returns-then-branch-clause-leaves : goal.returns-then-branch-clause-leaves
returns-then-branch-clause-leaves g c =
    let hook = g.B.BodyForms.forms in
    let n = ident_spelling c.in_ok-name.name in
    let o = s.on_then (s.on_call (λ x p. async_behind hook p.0 x p.1) (async_splits hook)
    (c.in_ok-name.ensures.parses g.B.Bodies.is_faithful).on)
    (s.on_call (λ x p. of_by hook n p.0 x p.1) (of_splits hook n)
    (c.in_ok-is_of_alone.ensures.tells g.B.Bodies.is_faithful)) in
    leaves_after hook c.async_of.result
    (subst (λ v. On g.I.Tokens.model g.B.Bodies.is_faithful (async_arrow hook) (λ x ts. of_by hook n v x ts)
    c.args.p.now.input c.is_of_alone.new.input) c.if-branch.true o) (grows-same _) c.async_of.ensures.leaves

pub returns-in_err-param-clause-leaves : goal.returns-in_err-param-clause-leaves
returns-in_err-param-clause-leaves g c =
    let hook = g.B.BodyForms.forms in
    let n = ident_spelling c.in_ok-name.name in
    let o = s.on_then (s.on_call (λ x p. async_behind hook p.0 x p.1) (async_splits hook)
    (c.in_ok-name.ensures.parses g.B.Bodies.is_faithful).on)
    (s.on_call (λ x p. of_by hook n p.0 x p.1) (of_splits hook n)
    (c.in_ok-is_of_alone.ensures.tells g.B.Bodies.is_faithful)) in
    refused c.from_residual-in_err-param.ensures.1
    (s.unheard_after (subst (λ v. On g.I.Tokens.model g.B.Bodies.is_faithful (async_arrow hook)
    (λ x ts. of_by hook n v x ts)
    c.args.p.now.input c.is_of_alone.new.input) c.if-branch.false o)
    (s.unheard_call (λ x p. param_rest hook n p.0 x p.1) (param_splits hook n) c.in_err-param.ensures.reads))
    c.in_err-param.ensures.grows

pub returns-in_err-refuse_arrow_line-clause-leaves : goal.returns-in_err-refuse_arrow_line-clause-leaves
returns-in_err-refuse_arrow_line-clause-leaves g c =
    let hook = g.B.BodyForms.forms in
    let n = ident_spelling c.in_ok-name.name in
    let t = pat_at c.parse_plain_pat.new.p.nodes c.in_ok-param.param in
    let o = s.on_then (s.on_call (λ x p. async_behind hook p.0 x p.1) (async_splits hook)
    (c.in_ok-name.ensures.parses g.B.Bodies.is_faithful).on)
    (s.on_call (λ x p. of_by hook n p.0 x p.1) (of_splits hook n)
    (c.in_ok-is_of_alone.ensures.tells g.B.Bodies.is_faithful)) in
    refused c.from_residual-in_err-refuse_arrow_line.ensures.1
    (s.unheard_after (s.on_then (subst (λ v. On g.I.Tokens.model g.B.Bodies.is_faithful (async_arrow hook)
    (λ x ts. of_by hook n v x ts) c.args.p.now.input c.is_of_alone.new.input) c.if-branch.false o)
    (s.on_call (λ x p. param_rest hook n p.0 x p.1) (param_splits hook n) c.in_ok-param.ensures.reads.on))
    (s.unheard_call (λ x l. arrow_rest hook n t x l.1) (λ x ts. refl)
    (c.in_err-refuse_arrow_line.ensures.continues g.B.Bodies.is_faithful)))
    c.in_ok-param.ensures.grows

pub returns-in_err-expect-clause-leaves : goal.returns-in_err-expect-clause-leaves
returns-in_err-expect-clause-leaves g c =
    let hook = g.B.BodyForms.forms in
    let n = ident_spelling c.in_ok-name.name in
    let t = pat_at c.parse_plain_pat.new.p.nodes c.in_ok-param.param in
    let o = s.on_then (s.on_call (λ x p. async_behind hook p.0 x p.1) (async_splits hook)
    (c.in_ok-name.ensures.parses g.B.Bodies.is_faithful).on)
    (s.on_call (λ x p. of_by hook n p.0 x p.1) (of_splits hook n)
    (c.in_ok-is_of_alone.ensures.tells g.B.Bodies.is_faithful)) in
    refused c.from_residual-in_err-expect.ensures.1
    (s.unheard_after (s.on_then (subst (λ v. On g.I.Tokens.model g.B.Bodies.is_faithful (async_arrow hook)
    (λ x ts. of_by hook n v x ts) c.args.p.now.input c.is_of_alone.new.input) c.if-branch.false o)
    (s.on_then (s.on_call (λ x p. param_rest hook n p.0 x p.1) (param_splits hook n) c.in_ok-param.ensures.reads.on)
    (s.on_call (λ x l. arrow_rest hook n t x l.1) (λ x ts. refl)
    (c.in_ok-refuse_arrow_line.ensures.continues g.B.Bodies.is_faithful))))
    (s.unheard_call (λ x q. arrow_behind hook n.at.lo true false (cons t nil) x q.1) (λ x ts. refl)
    (c.in_err-expect.ensures.expects g.B.Bodies.is_faithful)))
    c.in_ok-param.ensures.grows

pub returns-clause-leaves : goal.returns-clause-leaves
returns-clause-leaves g c =
    let hook = g.B.BodyForms.forms in
    let n = ident_spelling c.in_ok-name.name in
    let t = pat_at c.parse_plain_pat.new.p.nodes c.in_ok-param.param in
    let o = s.on_then (s.on_call (λ x p. async_behind hook p.0 x p.1) (async_splits hook)
    (c.in_ok-name.ensures.parses g.B.Bodies.is_faithful).on)
    (s.on_call (λ x p. of_by hook n p.0 x p.1) (of_splits hook n)
    (c.in_ok-is_of_alone.ensures.tells g.B.Bodies.is_faithful)) in
    one_leaves hook n.at.lo true _ c.one_param.result c.one_param.ensures
    (s.on_then (s.on_then (subst (λ v. On g.I.Tokens.model g.B.Bodies.is_faithful (async_arrow hook)
    (λ x ts. of_by hook n v x ts) c.args.p.now.input c.is_of_alone.new.input) c.if-branch.false o)
    (s.on_then (s.on_call (λ x p. param_rest hook n p.0 x p.1) (param_splits hook n) c.in_ok-param.ensures.reads.on)
    (s.on_call (λ x l. arrow_rest hook n t x l.1) (λ x ts. refl)
    (c.in_ok-refuse_arrow_line.ensures.continues g.B.Bodies.is_faithful))))
    (s.on_call (λ x q. arrow_behind hook n.at.lo true false (cons t nil) x q.1) (λ x ts. refl)
    (c.in_ok-expect.ensures.expects g.B.Bodies.is_faithful).on))
    c.in_ok-param.ensures.grows c.in_ok-param.ensures.from refl

pub returns-then-branch-clause-base : goal.returns-then-branch-clause-base
returns-then-branch-clause-base g c =
    base_before_of c.async_of.new.p.nodes g.met.I.Tokens.laws (ident_spelling c.in_ok-name.name) _
    c.async_of.new.p.input c.async_of.result c.requires (c.in_ok-name.ensures.parses g.B.Bodies.is_faithful)
    c.if-branch.true (c.in_ok-is_of_alone.ensures.tells g.B.Bodies.is_faithful) c.async_of.ensures.base

pub returns-clause-base : goal.returns-clause-base
returns-clause-base g c =
    if_arrow (λ v. HearsBase g.I.Tokens.model g.B.Bodies.is_faithful async_base c.parse_plain_pat.new.p.nodes v
    c.args.p.now.input c.expect.new.input) (λ h. tt) c.one_param.result
    (one_is_arrow _ _ _ _ c.one_param.result c.one_param.ensures)

pub returns-then-branch-clause-opens : goal.returns-then-branch-clause-opens
returns-then-branch-clause-opens g c =
    let hook = g.B.BodyForms.forms in
    let n = ident_spelling c.in_ok-name.name in
    let o = opens_later (opens_call (λ x p. async_behind hook p.0 x p.1) (async_splits hook)
    (c.in_ok-name.ensures.parses g.B.Bodies.is_faithful))
    (s.on_call (λ x p. of_by hook n p.0 x p.1) (of_splits hook n)
    (c.in_ok-is_of_alone.ensures.tells g.B.Bodies.is_faithful)) in
    opens_after_all hook (record c.args.p.now { input = c.is_of_alone.new.input }) c.async_of.result
    (subst (λ v. Opens g.I.Tokens.model g.B.Bodies.is_faithful (async_arrow hook) (λ x ts. of_by hook n v x ts)
    c.args.p.now.input c.is_of_alone.new.input) c.if-branch.true o) c.async_of.ensures.leaves

pub returns-clause-opens : goal.returns-clause-opens
returns-clause-opens g c =
    let hook = g.B.BodyForms.forms in
    let n = ident_spelling c.in_ok-name.name in
    let t = pat_at c.parse_plain_pat.new.p.nodes c.in_ok-param.param in
    let q = record c.parse_plain_pat.new.p { input = c.expect.new.input } in
    let o = opens_later (opens_call (λ x p. async_behind hook p.0 x p.1) (async_splits hook)
    (c.in_ok-name.ensures.parses g.B.Bodies.is_faithful))
    (s.on_call (λ x p. of_by hook n p.0 x p.1) (of_splits hook n)
    (c.in_ok-is_of_alone.ensures.tells g.B.Bodies.is_faithful)) in
    opens_after_all hook q {q = q} c.one_param.result
    (opens_later (opens_later (subst (λ v. Opens g.I.Tokens.model g.B.Bodies.is_faithful (async_arrow hook)
    (λ x ts. of_by hook n v x ts) c.args.p.now.input c.is_of_alone.new.input) c.if-branch.false o)
    (s.on_then (s.on_call (λ x p. param_rest hook n p.0 x p.1) (param_splits hook n) c.in_ok-param.ensures.reads.on)
    (s.on_call (λ x l. arrow_rest hook n t x l.1) (λ x ts. refl)
    (c.in_ok-refuse_arrow_line.ensures.continues g.B.Bodies.is_faithful))))
    (s.on_call (λ x q. arrow_behind hook n.at.lo true false (cons t nil) x q.1) (λ x ts. refl)
    (c.in_ok-expect.ensures.expects g.B.Bodies.is_faithful).on))
    (one_leaves hook n.at.lo true _ c.one_param.result c.one_param.ensures
    (s.on_here g.met.I.Tokens.laws _ (λ x ts. refl)) (grows-same _) c.in_ok-param.ensures.from refl)
