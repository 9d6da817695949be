use Rattle.std.proofs.Common.{[], false, map, ap, ◌∙◌}
use Rattle.std.proofs.{lemmas.List.append-nil, lemmas.List.Elements.All-cons, lemmas.List.Elements.All-nil, lemmas.Result.IfOk-weaker}
use Rattle.swc_nodes.specs.GrowingNodes.{count, tree_at}
use Rattle.swc_ecma_parser.specs.CoverNames.{cover_names}
use Rattle.swc_ecma_parser.specs.Dues.{go, due_of, names_due, is_within}
use Rattle.swc_ecma_parser.proofs.verifier.find_cover_names.Goals as goal

pub find_due-requires : goal.find_due-requires
find_due-requires g c =
    let within = is_within (count c.args.nodes.now) in
    rw (c.in_ok-due.ensures.items) (All-cons within (go c.args.expr.0) [] c.requires.within (All-nil within))

pub returns : goal.returns
returns g c =
    let at = tree_at c.args.nodes.now in
    IfOk-weaker c.find_due.result _ _
    (λ names e. e ∙ ap (λ ds. names_due false at (map due_of ds)) c.in_ok-due.ensures.items ∙ append-nil
    (cover_names (at c.args.expr.0)))
    c.find_due.ensures
