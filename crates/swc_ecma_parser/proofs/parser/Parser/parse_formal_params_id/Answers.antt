use Rattle.std.proofs.Common.{refl, sym}
use Rattle.swc_nodes.specs.{GrowingNodes.Apart, NodeParts.flat, NodeParts.param_parts}
use Rattle.swc_steps.proofs.Refused.{err_is}
use Rattle.swc_steps.specs.Params.{placed}
use Rattle.swc_ecma_parser.specs.Calls.{nodes_of, commas_of}
use Rattle.swc_ecma_parser.proofs.FormalParams.{derives-marked, meets-params, params-again, params-alone, params-apart, params-checked, params-kept, params-placed, placed-kept, promised-params}
use Rattle.swc_ecma_parser.proofs.{Finished.checked-holds, Moving.kept-parts}
use Rattle.swc_ecma_parser.proofs.parser.Parser.parse_formal_params_id.Goals as goal

pub returns-in_err-start : goal.returns-in_err-start
returns-in_err-start g c = rw (err_is c.from_residual.ensures.1) (params-again c.in_err-start.ensures.again refl)

pub returns : goal.returns
returns g c =
    let kept = c.keep_checked.ensures in
    let read = c.parse_formal_params-answer.ensures in
    let ms = c.parse_formal_params-answer.new.p.nodes in
    let ns = nodes_of c.keep_checked.new.self in
    let answer = kept.checked in
    let hook = g.B.BodyForms.forms in
    let reads =
    params-checked g.I.Tokens.model g.B.Bodies.is_faithful hook ms _ _ _ c.parse_formal_params-answer.result answer
    read.reads kept.checks in
    let alone =
    params-alone g.I.Tokens.model g.B.Bodies.is_faithful hook ms _ _ _ c.parse_formal_params-answer.result answer
    read.reads read.each kept.checks in
    let from = checked-holds g.I.Tokens.model _ _ _ (λ x. Apart c.in_ok-start.start ms (flat param_parts x.items))
    c.parse_formal_params-answer.result answer
    kept.checks (rw (c.in_ok-start.ensures.start) (params-apart ms _ c.parse_formal_params-answer.result read.from)) in
    promised-params kept.at ns (commas_of c.keep_checked.new.self)
    c.keep_checked.result c.keep_checked.result c.in_ok-start.ensures.runs refl
    refl kept.buffer refl refl kept.fails
    (meets-params g.I.Tokens.model g.B.Bodies.is_faithful hook g.met.B.Bodies.lawful _ _
    (derives-marked hook) _ ms _ _ _ _
    answer c.keep_checked.result reads alone
    (params-kept ms ns _ c.in_ok-start.start answer c.keep_checked.result kept.kept kept.nodes) kept.commas)
    (kept-parts (λ ps. flat param_parts ps.items) ns _ answer c.keep_checked.result read.grows
    (rw (sym c.in_ok-start.ensures.start) from) kept.kept
    (rw (sym c.in_ok-start.ensures.start) kept.nodes))
    (placed-kept ms ns _ c.in_ok-start.start answer c.keep_checked.result kept.kept kept.nodes
    (checked-holds g.I.Tokens.model _ _ _ (λ x. placed ms x.items) c.parse_formal_params-answer.result answer
    kept.checks (params-placed ms _ c.parse_formal_params-answer.result read.from)))
