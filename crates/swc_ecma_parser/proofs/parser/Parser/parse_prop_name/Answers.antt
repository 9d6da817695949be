use Rattle.std.proofs.Common.{refl}
use Rattle.swc_nodes.specs.GrowingNodes.{tree_at, bare_at}
use Rattle.swc_nodes.proofs.{Unmarked.unmarked-key, Remembered.key-commas}
use Rattle.swc_steps.proofs.Refused.{err_is}
use Rattle.swc_steps.specs.Parsing.{tree_of}
use Rattle.swc_ecma_parser.proofs.{Calling.promised-again, Top.key-stops, Wholes.promised-piece}
use Rattle.swc_ecma_parser.proofs.parser.Parser.parse_prop_name.Goals as goal

pub returns-in_err-start : goal.returns-in_err-start
returns-in_err-start g c =
    rw (err_is c.from_residual.ensures.1) (record { promised = promised-again c.in_err-start.ensures.again refl })

pub returns : goal.returns
returns g c =
    let ns = c.parse_key-answer.new.p.nodes in
    record {
      promised = promised-piece g.met.B.Bodies.lawful key-stops c.in_ok-start.ensures.runs c.in_ok-start.ensures.start
          c.parse_key-answer.ensures c.hand_out.ensures
          (unmarked-key (tree_of ns) (λ e. bare_at ns e.0) (λ e. refl)) (key-commas (tree_at ns));
    }
