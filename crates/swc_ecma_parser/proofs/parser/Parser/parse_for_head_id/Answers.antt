use Rattle.std.proofs.Common.{refl, sym}
use Rattle.swc_nodes.specs.{GrowingNodes.Apart, NodeParts.for_head_parts}
use Rattle.swc_steps.proofs.Refused.{err_is}
use Rattle.swc_ecma_parser.specs.{Calls.nodes_of, Calls.commas_of, ForHeads.for_head_at}
use Rattle.swc_ecma_parser.proofs.ForHeads.{head-again, head-checked, head-kept, head-marked, head-promised, head-recalled, head-told, promised-head}
use Rattle.swc_ecma_parser.proofs.{Finished.checked-holds, Moving.kept-parts}
use Rattle.swc_ecma_parser.proofs.parser.Parser.parse_for_head_id.Goals as goal

pub returns-in_err-start : goal.returns-in_err-start
returns-in_err-start g c = rw (err_is c.from_residual.ensures.1) (head-again c.in_err-start.ensures.again refl)

pub returns : goal.returns
returns g c =
    let kept = c.keep_checked.ensures in
    let read = c.parse_for_head-answer.ensures in
    let ms = c.parse_for_head-answer.new.p.nodes in
    let ns = nodes_of c.keep_checked.new.self in
    let answer = kept.checked in
    let hook = g.B.BodyForms.forms in
    let reads =
    head-checked g.I.Tokens.model g.B.Bodies.is_faithful hook c.args.is_await ms _ _ _ c.parse_for_head-answer.result
    answer read.produces.reads
    kept.checks in
    let which =
    head-told g.I.Tokens.model g.B.Bodies.is_faithful hook c.args.is_await ms _ _ _ c.parse_for_head-answer.result
    answer read.produces.reads
    kept.checks read.which in
    let from = checked-holds g.I.Tokens.model _ _ _ (λ x. Apart c.in_ok-start.start ms (for_head_parts x))
    c.parse_for_head-answer.result answer
    kept.checks (rw (c.in_ok-start.ensures.start) read.produces.from) in
    let laws = g.met.B.Bodies.lawful in
    let numbers = head-kept ms ns _ c.in_ok-start.start answer c.keep_checked.result kept.kept kept.nodes in
    let by = head-marked hook c.args.is_await in
    promised-head kept.at ns
    (commas_of c.keep_checked.new.self) c.keep_checked.result c.keep_checked.result c.in_ok-start.ensures.runs refl
    refl kept.buffer refl refl kept.fails
    (head-promised g.I.Tokens.model g.B.Bodies.is_faithful hook laws c.args.is_await _ _ by
    (for_head_at ns) ms _ _ answer c.keep_checked.result
    reads numbers which)
    (head-recalled g.I.Tokens.model g.B.Bodies.is_faithful hook laws c.args.is_await _ _ by
    (for_head_at ns) ms _ _ answer c.keep_checked.result
    reads numbers _ _ kept.commas)
    (kept-parts for_head_parts ns _ answer c.keep_checked.result read.produces.grows
    (rw (sym c.in_ok-start.ensures.start) from) kept.kept
    (rw (sym c.in_ok-start.ensures.start) kept.nodes))
