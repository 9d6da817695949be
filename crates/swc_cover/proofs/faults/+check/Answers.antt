use Rattle.std.proofs.Common.{◌+◌, ◌*◌, ◌<◌, sym, ◌∙◌, rules, arith}
use Rattle.swc_cover.proofs.Recording.{recorded-as, remains-more, remains-ends, remains-none, elems-below, elems-first, elems-none, array-verdict, props-below, props-first, props-none, object-verdict, assign-simple, assign-pattern}
use Rattle.swc_cover.proofs.{Appended.if_ok-as, Fitting.simple-below, Fitting.pattern-below}
use Rattle.swc_cover.specs.Checking.{way_of}
use Rattle.swc_cover.proofs.faults.+check.Goals as goal

pub check_elems-check_elem-requires : goal.check_elems-check_elem-requires
check_elems-check_elem-requires g t c κs within =
    let lt = c.loop-i-test.true in
    let l = c.len-len.ensures ∙ c.args.elems.now.ok.0 in
    let step = c.requires.each c.loop-i.i c.index.result.now (omega arith) c.index.ensures in
    let less = step.less in
    let from = step.from in
    search rules

pub check_elems-returns-then-is_some : goal.check_elems-returns-then-is_some
check_elems-returns-then-is_some g t c =
    let lt = c.loop-i-test.true in
    let l = c.len-len.ensures ∙ c.args.elems.now.ok.0 in
    remains-ends _ _
    (elems-first c.args.nodes.now (way_of c.args.way) c.args.elems.now.items c.args.trailing_comma c.loop-i.i
    c.len-len.result c.index.result.now (omega arith) l c.index.ensures)
    (sym c.is_some.ensures ∙ c.if-is_some.true) c.in_ok-refused.ensures c.loop-i.invariant

pub check_elems-loop-i-preserved : goal.check_elems-loop-i-preserved
check_elems-loop-i-preserved g t c =
    let lt = c.loop-i-test.true in
    let l = c.len-len.ensures ∙ c.args.elems.now.ok.0 in
    remains-more _ _
    (elems-first c.args.nodes.now (way_of c.args.way) c.args.elems.now.items c.args.trailing_comma c.loop-i.i
    c.len-len.result c.index.result.now (omega arith) l c.index.ensures)
    (sym c.is_some.ensures ∙ c.if-is_some.false) c.in_ok-refused.ensures c.loop-i.invariant

pub check_elems-returns : goal.check_elems-returns
check_elems-returns g t c =
    let end = c.loop-i-test.false in
    let l = c.len-len.ensures ∙ c.args.elems.now.ok.0 in
    remains-none
    (elems-none c.args.nodes.now (way_of c.args.way) c.args.elems.now.items c.args.trailing_comma c.loop-i.i
    (omega arith))
    c.loop-i.invariant

pub check_props-check_prop-requires : goal.check_props-check_prop-requires
check_props-check_prop-requires g t c κs within =
    let lt = c.loop-i-test.true in
    let l = c.len-len.ensures ∙ c.args.props.now.ok.0 in
    let step = c.requires.each c.loop-i.i c.index.result.now (omega arith) c.index.ensures in
    let less = step.less in
    let from = step.from in
    search rules

pub check_props-returns-then-is_some : goal.check_props-returns-then-is_some
check_props-returns-then-is_some g t c =
    let lt = c.loop-i-test.true in
    let l = c.len-len.ensures ∙ c.args.props.now.ok.0 in
    remains-ends _ _
    (props-first c.args.nodes.now (way_of c.args.way) c.args.props.now.items c.args.trailing_comma c.loop-i.i
    c.len-len.result c.index.result.now (omega arith) l c.index.ensures)
    (sym c.is_some.ensures ∙ c.if-is_some.true) c.in_ok-refused.ensures c.loop-i.invariant

pub check_props-loop-i-preserved : goal.check_props-loop-i-preserved
check_props-loop-i-preserved g t c =
    let lt = c.loop-i-test.true in
    let l = c.len-len.ensures ∙ c.args.props.now.ok.0 in
    remains-more _ _
    (props-first c.args.nodes.now (way_of c.args.way) c.args.props.now.items c.args.trailing_comma c.loop-i.i
    c.len-len.result c.index.result.now (omega arith) l c.index.ensures)
    (sym c.is_some.ensures ∙ c.if-is_some.false) c.in_ok-refused.ensures c.loop-i.invariant

pub check_props-returns : goal.check_props-returns
check_props-returns g t c =
    let end = c.loop-i-test.false in
    let l = c.len-len.ensures ∙ c.args.props.now.ok.0 in
    remains-none
    (props-none c.args.nodes.now (way_of c.args.way) c.args.props.now.items c.args.trailing_comma c.loop-i.i
    (omega arith))
    c.loop-i.invariant

pub check_expr-check_elems-requires : goal.check_expr-check_elems-requires
check_expr-check_elems-requires g t c κs within =
    let less : c.args.id.0 * 4 + 1 < c.args.id.0 * 4 + 2 = omega arith in
    let from = elems-below c.in-Array.span c.in-Array.elems c.in-Array.trailing_comma c.get.ensures c.requires.within
    c.in-Array.is in
    search rules

pub check_expr-check_props-requires : goal.check_expr-check_props-requires
check_expr-check_props-requires g t c κs within =
    let less : c.args.id.0 * 4 + 1 < c.args.id.0 * 4 + 2 = omega arith in
    let from = props-below c.in-Object.span c.in-Object.props c.in-Object.trailing_comma c.get.ensures
    c.requires.within c.in-Object.is in
    search rules

pub check_expr-returns-in-Array : goal.check_expr-returns-in-Array
check_expr-returns-in-Array g t c =
    if_ok-as _ _ c.check_elems.result
    (λ r h. recorded-as (array-verdict (way_of c.args.way) c.in-Array.span c.in-Array.elems c.in-Array.trailing_comma
    c.get.ensures c.requires.within c.in-Array.is) h)
    c.check_elems.ensures

pub check_expr-returns-in-Object : goal.check_expr-returns-in-Object
check_expr-returns-in-Object g t c =
    if_ok-as _ _ c.check_props.result
    (λ r h. recorded-as (object-verdict (way_of c.args.way) c.in-Object.span c.in-Object.props
    c.in-Object.trailing_comma c.get.ensures c.requires.within c.in-Object.is) h)
    c.check_props.ensures

pub check_expr-check_expr-requires : goal.check_expr-check_expr-requires
check_expr-check_expr-requires g t c κs within =
    let b = simple-below c.in-Assign.span c.in-Assign.op c.in-Assign.left c.in-Assign.right c.in-Simple.left
    c.get.ensures c.requires.within c.in-Assign.is c.in-Simple.is in
    let k = b.less in
    let less : c.in-Simple.left.0 * 4 + 2 < c.args.id.0 * 4 + 2 = omega arith in
    let from = b.from in
    search rules

pub check_expr-check_left-requires : goal.check_expr-check_left-requires
check_expr-check_left-requires g t c = (pattern-below c.in-Assign.span c.in-Assign.op c.in-Assign.left
    c.in-Assign.right c.in-Pat.left c.get.ensures c.requires.within c.in-Assign.is c.in-Pat.is).from

pub check_expr-returns-in-Simple : goal.check_expr-returns-in-Simple
check_expr-returns-in-Simple g t c =
    if_ok-as _ _ c.check_expr.result
    (λ u h. recorded-as (assign-simple (way_of c.args.way) c.in-Assign.span c.in-Assign.op c.in-Assign.left
    c.in-Assign.right c.in-Simple.left c.get.ensures c.requires.within c.in-Assign.is
    (sym c.is_plain.ensures ∙ c.if-not-is_plain.false) c.in-Simple.is) h)
    c.check_expr.ensures

pub check_expr-returns-in-Pat : goal.check_expr-returns-in-Pat
check_expr-returns-in-Pat g t c =
    if_ok-as _ _ c.check_left.result
    (λ r h. recorded-as (assign-pattern (way_of c.args.way) c.in-Assign.span c.in-Assign.op c.in-Assign.left
    c.in-Assign.right c.in-Pat.left c.get.ensures c.requires.within c.in-Assign.is
    (sym c.is_plain.ensures ∙ c.if-not-is_plain.false) c.in-Pat.is) h)
    c.check_left.ensures
