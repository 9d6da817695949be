use Rattle.std.proofs.Common.{◌++◌, true, map, ap, ◌∙◌}
use Rattle.std.proofs.lemmas.Result.{IfOk-weaker}
use Rattle.swc_nodes.specs.GrowingNodes.{tree_at}
use Rattle.swc_ecma_parser.specs.Dues.{due_of, part_dues, names_due}
use Rattle.swc_ecma_parser.proofs.Left.{begun-within, due-left}
use Rattle.swc_ecma_parser.proofs.verifier.find_covers_left.Goals as goal

pub find_due-requires : goal.find_due-requires
find_due-requires g c =
    let ps = g.T.Parts.parts c.args.item.now in
    let listed = c.in_ok-list_parts.ensures ∙ ap (λ ds. map due_of ds ++ part_dues ps) c.new-due.ensures.items in
    begun-within c.args.nodes.now ps _ listed c.requires

pub returns : goal.returns
returns g c =
    let at = tree_at c.args.nodes.now in
    let ps = g.T.Parts.parts c.args.item.now in
    let listed = c.in_ok-list_parts.ensures ∙ ap (λ ds. map due_of ds ++ part_dues ps) c.new-due.ensures.items in
    IfOk-weaker c.find_due.result _ _ (λ names e. e ∙ ap (names_due true at) listed ∙ due-left at ps) c.find_due.ensures
