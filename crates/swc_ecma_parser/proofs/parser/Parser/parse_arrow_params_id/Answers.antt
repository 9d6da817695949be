use Rattle.std.proofs.Common.{refl, sym}
use Rattle.swc_nodes.specs.{GrowingNodes.Apart, Lists.pats_parts}
use Rattle.swc_steps.proofs.Refused.{err_is}
use Rattle.swc_steps.specs.Params.{pat_at}
use Rattle.swc_ecma_parser.specs.Calls.{buffer_of, nodes_of, commas_of, pats_tree}
use Rattle.swc_ecma_parser.specs.ArrowParams.{params_items}
use Rattle.swc_ecma_parser.proofs.ArrowPromise.{bound-kept, arrow-params-checked, kept-recalled, meets-kept}
use Rattle.swc_ecma_parser.proofs.{Calling.promised, Calling.promised-again, Finished.checked-holds, Moving.kept-parts}
use Rattle.swc_ecma_parser.proofs.parser.Parser.parse_arrow_params_id.Goals as goal

pub returns-in_err-start-clause-promised : goal.returns-in_err-start-clause-promised
returns-in_err-start-clause-promised g c =
    rw (err_is c.from_residual.ensures.1) (promised-again c.in_err-start.ensures.again refl)

pub returns-in_err-start-clause-binds : goal.returns-in_err-start-clause-binds
returns-in_err-start-clause-binds g c = λ runs. bound-kept g.I.Tokens.model g.B.BodyForms.forms
    (pats_tree (pat_at (nodes_of c.args.self.now))) (buffer_of c.args.self.now) c.from_residual.result
    (buffer_of c.args.self.now)
    ((returns-in_err-start-clause-promised g c).sound runs)

pub returns-clause-promised : goal.returns-clause-promised
returns-clause-promised g c =
    let kept = c.keep_checked.ensures in
    let read = c.parse_arrow_params-answer.ensures in
    let ms = c.parse_arrow_params-answer.new.p.nodes in
    let ns = nodes_of c.keep_checked.new.self in
    let answer = kept.checked in
    let reads =
    arrow-params-checked g.I.Tokens.model g.B.Bodies.is_faithful
    (params_items g.B.BodyForms.forms) ms _ _ _ c.parse_arrow_params-answer.result answer read.reads
    kept.checks in
    let from = checked-holds g.I.Tokens.model _ _ _ (λ x. Apart c.in_ok-start.start ms (pats_parts x))
    c.parse_arrow_params-answer.result answer kept.checks
    (rw (c.in_ok-start.ensures.start) read.from) in
    promised kept.at ns (commas_of c.keep_checked.new.self) c.keep_checked.result c.keep_checked.result
    c.in_ok-start.ensures.runs refl
    refl kept.buffer refl refl kept.fails
    (meets-kept g.I.Tokens.model g.B.Bodies.is_faithful g.B.BodyForms.forms g.met.B.Bodies.lawful ms ns
    c.in_ok-start.start _ _ answer c.keep_checked.result
    reads kept.kept kept.nodes)
    (kept-recalled g.I.Tokens.model g.B.Bodies.is_faithful g.B.BodyForms.forms g.met.B.Bodies.lawful ms ns
    c.in_ok-start.start _ _ answer c.keep_checked.result
    reads kept.kept kept.nodes _ _ kept.commas)
    (kept-parts pats_parts ns _ answer c.keep_checked.result read.grows
    (rw (sym c.in_ok-start.ensures.start) from) kept.kept (rw (sym c.in_ok-start.ensures.start) kept.nodes))

pub returns-clause-binds : goal.returns-clause-binds
returns-clause-binds g c = λ runs. bound-kept g.I.Tokens.model g.B.BodyForms.forms
    (pats_tree (pat_at (nodes_of c.keep_checked.new.self))) (buffer_of c.args.self.now) c.keep_checked.result
    (buffer_of c.keep_checked.new.self)
    ((returns-clause-promised g c).sound runs)
