use Rattle.std.proofs.Common.{ap}
use Rattle.swc_ast.specs.Tree.{nil, cons, node, spread, dots as dots_kind}
use Rattle.swc_steps.specs.Parsing.{tree_of}
use Rattle.swc_primary.proofs.object.spread_prop.Goals as goal

pub returns-clause-tree : goal.returns-clause-tree
returns-clause-tree g c =
    let parts = cons (node dots_kind c.args.dots nil) (cons (tree_of c.args.nodes.now c.args.expr) nil) in
    ap (λ v. node spread v parts) c.span_to-span.ensures
