use Rattle.std.proofs.Common.{refl, sym, ◌∙◌}
use Rattle.swc_grammar.specs.{Symbols.Key, Clean.sym as at, Clean.run}
use Rattle.swc_nodes.specs.{GrowingNodes.tree_at, NodeParts.key_parts}
use Rattle.swc_nodes.proofs.Remembered.{key-commas}
use Rattle.swc_steps.proofs.Refused.{err_is}
use Rattle.swc_steps.specs.Parsing.{key_at}
use Rattle.swc_ecma_parser.specs.Calls.{nodes_of, commas_of}
use Rattle.swc_ecma_parser.proofs.Moving.{kept-moved, kept-parses, kept-parts, recalled}
use Rattle.swc_ecma_parser.proofs.{Calling.promised, Calling.promised-again, Top.key-stops, Top.meets-by-number}
use Rattle.swc_ecma_parser.proofs.parser.Parser.parse_prop_name_id.Goals as goal

pub returns-in_err-start : goal.returns-in_err-start
returns-in_err-start g c =
    rw (err_is c.from_residual.ensures.1) (record { promised = promised-again c.in_err-start.ensures.again refl })

pub returns : goal.returns
returns g c =
    let done = c.finish.ensures in
    let kept = c.keep-answer.ensures in
    let read = c.parse_key-answer.ensures in
    let ms = c.parse_key-answer.new.p.nodes in
    let ns = nodes_of c.keep-answer.new.self in
    let answer = c.parse_key-answer.result in
    record {
      promised = promised c.parse_key-answer.new.p.input ns
          (commas_of c.keep-answer.new.self) c.keep-answer.result c.finish.result c.in_ok-start.ensures.runs kept.runs
          done.answer (done.buffer ∙ kept.buffer) done.nodes done.commas done.fails
          (meets-by-number g.I.Tokens.model g.B.Bodies.is_faithful g.B.BodyForms.forms g.met.B.Bodies.lawful
          (key_at ns) key-stops _ c.keep-answer.result _
          (kept-parses g.I.Tokens.model g.B.Bodies.is_faithful
          (run g.B.BodyForms.forms (at Key)) key_at ms ns c.in_ok-start.start _ _ answer c.keep-answer.result
          read.reads kept.answer kept.nodes))
          (recalled g.I.Tokens.model g.B.Bodies.is_faithful g.B.BodyForms.forms g.met.B.Bodies.lawful Key (λ t. t) ms
          (key_at ms) (key_at ms) (key_at ns) key_parts
          _ _ answer c.keep-answer.result _ _ read.reads (λ k. refl) (λ k. key-commas (tree_at ms) k)
          (kept-moved key_at ms ns _ c.in_ok-start.start answer c.keep-answer.result kept.answer kept.nodes)
          kept.commas)
          (kept-parts key_parts ns _ answer c.keep-answer.result read.grows read.from kept.answer
          (rw (sym c.in_ok-start.ensures.start) kept.nodes));
    }
