use Rattle.std.proofs.Common.{refl}
use Rattle.swc_ast.specs.TreeOf.{pat_tree}
use Rattle.swc_nodes.specs.GrowingNodes.{tree_at}
use Rattle.swc_steps.proofs.Refused.{err_is}
use Rattle.swc_ecma_parser.specs.Calls.{buffer_of}
use Rattle.swc_ecma_parser.proofs.{Calling.promised-again, Left.pat-left, Patterns.bound-pat, Top.pat-stops, Wholes.promised-boxed}
use Rattle.swc_ecma_parser.proofs.parser.Parser.parse_pat.Goals as goal

pub returns-in_err-start-clause-promised : goal.returns-in_err-start-clause-promised
returns-in_err-start-clause-promised g c =
    rw (err_is c.from_residual.ensures.1) (promised-again c.in_err-start.ensures.again refl)

pub returns-in_err-start-clause-binds : goal.returns-in_err-start-clause-binds
returns-in_err-start-clause-binds g c = λ runs. bound-pat g.I.Tokens.model g.B.BodyForms.forms
    (pat_tree _ _ _ g.B.Fun.Spanned.place g.B.Class.Spanned.place g.B.Block.Spanned.place)
    (buffer_of c.args.self.now) c.from_residual.result (buffer_of c.args.self.now)
    ((returns-in_err-start-clause-promised g c).sound runs)

pub returns-clause-promised : goal.returns-clause-promised
returns-clause-promised g c =
    promised-boxed g.met.B.Bodies.lawful pat-stops c.in_ok-start.ensures.runs c.in_ok-start.ensures.start
    c.parse_pat-answer.ensures
    c.move_out_checked.ensures (λ p. refl) (λ p. refl) (pat-left (tree_at c.parse_pat-answer.new.p.nodes))

pub returns-clause-binds : goal.returns-clause-binds
returns-clause-binds g c = λ runs. bound-pat g.I.Tokens.model g.B.BodyForms.forms
    (pat_tree _ _ _ g.B.Fun.Spanned.place g.B.Class.Spanned.place g.B.Block.Spanned.place)
    (buffer_of c.args.self.now) c.move_out_checked.result (buffer_of c.move_out_checked.new.self)
    ((returns-clause-promised g c).sound runs)
