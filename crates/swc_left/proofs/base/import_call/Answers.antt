use Rattle.std.proofs.Common.{true, ◌∙◌}
use Rattle.swc_ast.specs.Trees.{import_e}
use Rattle.swc_nodes.proofs.Standing.{grows-same}
use Rattle.swc_steps.specs.Parsing.{scope, tree_of, args_at}
use Rattle.swc_left.specs.{Bases.callee_node, Counted.counted_ok}
use Rattle.swc_left.proofs.Bases as base
use Rattle.swc_left.proofs.Counted.{counted_is}
use Rattle.swc_steps.proofs.Making as m
use Rattle.swc_steps.proofs.Steps as s
use Rattle.swc_left.proofs.base.import_call.Goals as goal

pub returns-in_err-check_import_args : goal.returns-in_err-check_import_args
returns-in_err-check_import_args g c = λ k apart.
    m.refused_more c.from_residual.ensures.1
    (s.unheard_memory c.in_err-check_import_args.ensures.checks) (grows-same _)

pub returns : goal.returns
returns g c = λ k apart.
    let x = scope g.I.Tokens.model c.args.p.now.input in
    let l = c.args.list in
    let e = import_e c.args.import.span c.args.import.phase in
    let es = args_at c.args.p.now.nodes l in
    let same = counted_is (tree_of c.args.p.now.nodes) x true l.trailing_comma l.end l.items.items in
    m.on_after {g = callee_node c.args.start e es} c.callee_call.result
    (s.on_checked_in (counted_ok x true l.items.items) c.in_ok-check_import_args.ensures.checks
    (λ ts h. base.import_well c.args.start e es x ts (same ∙ h))
    (λ ts h. base.import_ill c.args.start e es x ts (same ∙ h))) (grows-same _) (c.callee_call.ensures k apart)
