use Rattle.std.proofs.Common.{Ok, Some, true, refl, sym, ap, subst, ◌∙◌, arith}
use Rattle.swc_grammar.specs.{Tokens.is_rparen, Words.◌>>=◌}
use Rattle.swc_nodes.specs.{NodeParts.flat, NodeParts.param_parts, GrowingNodes.count}
use Rattle.swc_nodes.proofs.Lists.{apart-later}
use Rattle.swc_nodes.proofs.Standing.{grows-count, grows-same, grows-then}
use Rattle.swc_steps.specs.Params.{params_at}
use Rattle.swc_steps.specs.{Keys.expected, Parsing.shell_at}
use Rattle.swc_steps.proofs.Building.{apart-lower, grows-kept}
use Rattle.swc_steps.proofs.Making as m
use Rattle.swc_steps.proofs.Steps as s
use Rattle.swc_primary.specs.Methods.{accessor_ok, method_function_node, method_function_of, method_block_by, method_shell}
use Rattle.swc_primary.proofs.Functions as function
use Rattle.swc_primary.proofs.methods.close_method.Goals as goal

pub returns-in_err-check_params : goal.returns-in_err-check_params
returns-in_err-check_params g c = λ k held.
    m.refused_more c.from_residual.ensures.1 (s.unheard_memory c.in_err-check_params.ensures.checks) (grows-same _)

pub returns-in_err-expect : goal.returns-in_err-expect
returns-in_err-expect g c = λ k held.
    let hook = g.B.BodyForms.forms in
    let place = g.B.Block.Spanned.place in
    let kind = c.args.kind in
    let ps = params_at c.args.p.now.nodes c.args.params in
    let closed = s.on_checked {g = λ x ts. expected is_rparen x ts >>=
    (λ p. method_block_by hook place kind true c.args.start ps x p.1)}
    (accessor_ok kind ps) c.in_ok-check_params.ensures.checks
    (λ x ts h. function.close_well hook place kind c.args.start ps x ts h)
    (λ x ts h. function.close_ill hook place kind c.args.start ps x ts h) in
    m.refused_more c.from_residual-in_err-expect.ensures.1
    (s.unheard_after closed
    (s.unheard_call (λ x p. method_block_by hook place kind true c.args.start ps x p.1) (λ x ts. refl)
    (c.in_err-expect.ensures.expects g.B.Bodies.is_faithful)))
    (grows-same _)

pub returns-in_err-body : goal.returns-in_err-body
returns-in_err-body g c = λ k held.
    let hook = g.B.BodyForms.forms in
    let place = g.B.Block.Spanned.place in
    let kind = c.args.kind in
    let ps = params_at c.args.p.now.nodes c.args.params in
    let closed = s.on_checked {g = λ x ts. expected is_rparen x ts >>=
    (λ p. method_block_by hook place kind true c.args.start ps x p.1)}
    (accessor_ok kind ps) c.in_ok-check_params.ensures.checks
    (λ x ts h. function.close_well hook place kind c.args.start ps x ts h)
    (λ x ts h. function.close_ill hook place kind c.args.start ps x ts h) in
    let block = s.on_then closed
    (s.on_call (λ x p. method_block_by hook place kind true c.args.start ps x p.1) (λ x ts. refl)
    (c.in_ok-expect.ensures.expects g.B.Bodies.is_faithful).on) in
    m.refused_more c.from_residual-in_err-body.ensures.1
    (s.unheard_after block
    (s.unheard_call (λ x p. Some (method_function_node place kind c.args.start ps p.0, p.1))
    (λ x ts. function.block_is hook place kind c.is_async.result c.is_generator.result c.is_async.ensures
    c.is_generator.ensures c.args.start ps x ts)
    c.in_err-body.ensures.reads))
    (grows-kept c.parse_method_block.ensures.nodes)

pub returns-in_err-params : goal.returns-in_err-params
returns-in_err-params g c = λ k held.
    let ns = c.args.p.now.nodes in
    let later = s.leads_then c.in_ok-check_params.ensures.checks.leads
    (s.leads_then (c.in_ok-expect.ensures.expects g.B.Bodies.is_faithful).on.leads
    c.in_ok-body.ensures.reads.on.leads) in
    m.refused_more c.from_residual-in_err-params.ensures.1
    (s.unheard_memory (s.forgoes_later later c.in_err-params.ensures.tries))
    (grows-then (grows-kept c.parse_method_block.ensures.nodes) c.missing_param.ensures.grows)

pub returns-then-misses_param : goal.returns-then-misses_param
returns-then-misses_param g c = λ k held.
    let hook = g.B.BodyForms.forms in
    let place = g.B.Block.Spanned.place in
    let kind = c.args.kind in
    let ns = c.args.p.now.nodes in
    let ms = c.missing_param.new.p.nodes in
    let ps = params_at ns c.args.params in
    let ill = function.missed ns kind c.args.params.items (sym c.misses_param.ensures ∙ c.if-misses_param.true) in
    let kept = grows-kept c.parse_method_block.ensures.nodes in
    let params = c.in_ok-params.params in
    let later = s.leads_then (c.in_ok-expect.ensures.expects g.B.Bodies.is_faithful).on.leads
    (s.leads_then c.in_ok-body.ensures.reads.on.leads c.in_ok-params.ensures.tries) in
    m.on (Ok _)
    (function.on_noted (accessor_ok kind ps) ill c.in_ok-check_params.ensures.checks later
    (λ x ts. function.close_ill hook place kind c.args.start ps x ts ill))
    (grows-then kept c.missing_param.ensures.grows)
    (subst (λ f. method_shell kind k ms f) (sym c.function_of.ensures) (
      apart-lower {j = count c.parse_method_block.new.p.nodes} (flat param_parts params.items)
          (let a = function.first-under c.args.params.items held.0 in let b = grows-count kept in omega arith)
          c.in_ok-params.ensures.from,
      function.held kind params.items c.in_ok-params.ensures.some,
    ))

pub returns : goal.returns
returns g c = λ k held.
    let hook = g.B.BodyForms.forms in
    let place = g.B.Block.Spanned.place in
    let kind = c.args.kind in
    let ns = c.args.p.now.nodes in
    let ms = c.parse_method_block.new.p.nodes in
    let params = c.args.params in
    let ps = params_at ns params in
    let body = c.in_ok-body.body in
    let whole = method_function_of place kind c.args.start params body in
    let kept = grows-kept c.parse_method_block.ensures.nodes in
    let closed = s.on_checked {g = λ x ts. expected is_rparen x ts >>=
    (λ p. method_block_by hook place kind true c.args.start ps x p.1)}
    (accessor_ok kind ps) c.in_ok-check_params.ensures.checks
    (λ x ts h. function.close_well hook place kind c.args.start ps x ts h)
    (λ x ts h. function.close_ill hook place kind c.args.start ps x ts h) in
    let block = s.on_then closed
    (s.on_call (λ x p. method_block_by hook place kind true c.args.start ps x p.1) (λ x ts. refl)
    (c.in_ok-expect.ensures.expects g.B.Bodies.is_faithful).on) in
    let read = s.on_then block
    (s.on_call (λ x p. Some (method_function_node place kind c.args.start ps p.0, p.1))
    (λ x ts. function.block_is hook place kind c.is_async.result c.is_generator.result c.is_async.ensures
    c.is_generator.ensures c.args.start ps x ts)
    c.in_ok-body.ensures.reads.on) in
    let same = function.function-at ns kind c.args.start params body held.1
    ∙ ap (λ n. shell_at n whole) (sym c.parse_method_block.ensures.nodes)
    ∙ ap (λ f. shell_at ms f) (sym c.function_of-2.ensures) in
    m.on (Ok _) (s.on_answer same read) kept
    (subst (λ f. method_shell kind k ms f) (sym c.function_of-2.ensures)
    (apart-later kept held.0, sym c.misses_param.ensures ∙ c.if-misses_param.false))
