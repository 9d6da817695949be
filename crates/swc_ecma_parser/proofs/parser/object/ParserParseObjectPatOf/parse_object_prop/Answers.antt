use Rattle.std.proofs.Common.{refl, sym}
use Rattle.swc_ast.specs.{TreeOf.pat_prop_tree, Trees.unmarked}
use Rattle.swc_grammar.specs.Reads.{Reads}
use Rattle.swc_nodes.specs.{GrowingNodes.tree_at, GrowingNodes.bare_at, NodeParts.pat_prop_parts, NodeTree.pat_prop_of, declared.node.PatPropNode.PatPropNode}
use Rattle.swc_nodes.proofs.{Remembered.pat-prop-commas, Unmarked.unmarked-pat-prop}
use Rattle.swc_steps.proofs.Refused.{err_is}
use Rattle.swc_patterns.specs.{Answers.pat_prop_at, Objects.pat_prop_item}
use Rattle.swc_ecma_parser.specs.{Calls.nodes_of, Calls.commas_of, Promise.PropOrRest}
use Rattle.swc_ecma_parser.proofs.Calling.{promised}
use Rattle.swc_ecma_parser.proofs.Moving.{moved-parses, cut-back, recalled-by}
use Rattle.swc_ecma_parser.proofs.Patterns.{either-sound, meets-pat-prop, rest-answered, pat-prop-again, promised-pat-prop}
use Rattle.swc_ecma_parser.proofs.parser.object.ParserParseObjectPatOf.parse_object_prop.Goals as goal

pub returns-in_err-start : goal.returns-in_err-start
returns-in_err-start g c = rw (err_is c.from_residual.ensures.1) (pat-prop-again c.in_err-start.ensures.again refl)

pub returns : goal.returns
returns g c =
    let model = g.I.Tokens.model in
    let sure = g.B.Bodies.is_faithful in
    let forms = g.B.BodyForms.forms in
    let laws = g.met.B.Bodies.lawful in
    let ns = c.parse_object_pat_prop-answer.new.p.nodes in
    let boxed = pat_prop_tree _ _ _ g.B.Fun.Spanned.place g.B.Class.Spanned.place g.B.Block.Spanned.place in
    let by_bare = pat_prop_of g.B.Fun.Spanned.place g.B.Class.Spanned.place g.B.Block.Spanned.place (bare_at ns) in
    let bares = λ (x : PatPropNode). unmarked-pat-prop g.B.Fun.Spanned.place g.B.Class.Spanned.place
    g.B.Block.Spanned.place (tree_at ns) x in
    let moved = c.hand_out.ensures in
    let read = c.parse_object_pat_prop-answer.ensures in
    let answer = c.parse_object_pat_prop-answer.result in
    let parsed = moved-parses model sure (pat_prop_item forms) ns pat_prop_at by_bare boxed _ _ answer c.hand_out.result
    read.reads bares moved.moved in
    promised-pat-prop c.parse_object_pat_prop-answer.new.p.input c.hand_out.result refl moved.buffer
    (promised c.parse_object_pat_prop-answer.new.p.input (nodes_of c.hand_out.new.self)
    (commas_of c.hand_out.new.self) c.hand_out.result c.hand_out.result c.in_ok-start.ensures.runs refl
    refl moved.buffer refl refl moved.fails
    (meets-pat-prop forms laws model sure boxed _ c.hand_out.result _ parsed)
    (recalled-by model sure (PropOrRest (Reads forms)) (pat_prop_item forms) (either-sound forms laws) unmarked ns
    (pat_prop_at ns) by_bare boxed pat_prop_parts
    _ _ answer c.hand_out.result _ _ read.reads bares
    (λ x. pat-prop-commas g.B.Fun.Spanned.place g.B.Class.Spanned.place g.B.Block.Spanned.place (tree_at ns) x)
    moved.moved moved.commas)
    (cut-back (nodes_of c.hand_out.new.self) read.grows (rw (sym c.in_ok-start.ensures.start) moved.nodes)))
    (rest-answered forms laws model sure boxed _ c.hand_out.result _ parsed)
