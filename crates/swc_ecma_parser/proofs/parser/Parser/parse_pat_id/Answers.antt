use Rattle.std.proofs.Common.{refl}
use Rattle.swc_nodes.specs.GrowingNodes.{tree_at}
use Rattle.swc_steps.proofs.Refused.{err_is}
use Rattle.swc_steps.specs.Params.{pat_at}
use Rattle.swc_ecma_parser.specs.Calls.{buffer_of, nodes_of}
use Rattle.swc_ecma_parser.proofs.{Calling.promised-again, Left.pat-left, Patterns.bound-marked, Top.pat-stops, Wholes.promised-numbered}
use Rattle.swc_ecma_parser.proofs.parser.Parser.parse_pat_id.Goals as goal

pub returns-in_err-start-clause-promised : goal.returns-in_err-start-clause-promised
returns-in_err-start-clause-promised g c =
    rw (err_is c.from_residual.ensures.1) (promised-again c.in_err-start.ensures.again refl)

pub returns-in_err-start-clause-binds : goal.returns-in_err-start-clause-binds
returns-in_err-start-clause-binds g c = λ runs. bound-marked g.I.Tokens.model g.B.BodyForms.forms
    (pat_at (nodes_of c.args.self.now)) (buffer_of c.args.self.now) c.from_residual.result (buffer_of c.args.self.now)
    ((returns-in_err-start-clause-promised g c).sound runs)

pub returns-clause-promised : goal.returns-clause-promised
returns-clause-promised g c =
    promised-numbered g.met.B.Bodies.lawful pat-stops c.in_ok-start.ensures.runs c.in_ok-start.ensures.start
    c.parse_pat-answer.ensures
    c.keep_checked.ensures (λ p. refl) (pat-left (tree_at c.parse_pat-answer.new.p.nodes))

pub returns-clause-binds : goal.returns-clause-binds
returns-clause-binds g c = λ runs. bound-marked g.I.Tokens.model g.B.BodyForms.forms
    (pat_at (nodes_of c.keep_checked.new.self)) (buffer_of c.args.self.now) c.keep_checked.result
    (buffer_of c.keep_checked.new.self)
    ((returns-clause-promised g c).sound runs)
