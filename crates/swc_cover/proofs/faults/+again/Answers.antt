use Rattle.std.proofs.Common.{◌++◌, ◌+◌, ◌*◌, ◌<◌, ap, sym, ◌∙◌, rules, arith}
use Rattle.swc_cover.proofs.Recording.{pat-elems-below, pat-props-below, pats-ended, pat-props-ended, again-is}
use Rattle.swc_cover.specs.Below.{part_size}
use Rattle.swc_cover.proofs.{Appended.if_ok-as, Fitting.assign-left-below, Fitting.rest-held-below}
use Rattle.swc_nodes.specs.declared.node.Node.TheVariants as n
use Rattle.swc_cover.proofs.faults.+again.Goals as goal

pub again_elems-again_elem-requires : goal.again_elems-again_elem-requires
again_elems-again_elem-requires g t c κs within =
    let lt = c.loop-i-test.true in
    let l = c.len-i-end.ensures ∙ c.args.elems.now.ok.0 in
    let step = c.requires.each c.loop-i.i c.index.result.now (omega arith) c.index.ensures in
    let less = step.less in
    let from = step.from in
    search rules

pub again_props-again_prop-requires : goal.again_props-again_prop-requires
again_props-again_prop-requires g t c κs within =
    let lt = c.loop-i-test.true in
    let l = c.len-i-end.ensures ∙ c.args.props.now.ok.0 in
    let step = c.requires.each c.loop-i.i c.index.result.now (omega arith) c.index.ensures in
    let less = step.less in
    let from = step.from in
    search rules

pub again_elems-returns : goal.again_elems-returns
again_elems-returns g t c =
    let end = c.loop-i-test.false in
    let l = c.len-i-end.ensures ∙ c.args.elems.now.ok.0 in
    pats-ended c.args.nodes.now c.args.elems.now.items c.loop-i.i c.loop-i.faults.items _ (omega arith)
    c.loop-i.invariant

pub again_props-returns : goal.again_props-returns
again_props-returns g t c =
    let end = c.loop-i-test.false in
    let l = c.len-i-end.ensures ∙ c.args.props.now.ok.0 in
    pat-props-ended c.args.nodes.now c.args.props.now.items c.loop-i.i c.loop-i.faults.items _ (omega arith)
    c.loop-i.invariant

pub record_again-again_elems-requires : goal.record_again-again_elems-requires
record_again-again_elems-requires g t c κs within =
    let less : c.args.id.0 * 4 + 1 < c.args.id.0 * 4 + 2 = omega arith in
    let from = pat-elems-below c.in-PatArray.span c.in-PatArray.elems c.get.ensures c.requires.within c.in-PatArray.is
    in
    search rules

pub record_again-again_props-requires : goal.record_again-again_props-requires
record_again-again_props-requires g t c κs within =
    let less : c.args.id.0 * 4 + 1 < c.args.id.0 * 4 + 2 = omega arith in
    let from = pat-props-below c.in-PatObject.span c.in-PatObject.props c.get.ensures c.requires.within
    c.in-PatObject.is in
    search rules

pub record_again-again_part-requires : goal.record_again-again_part-requires
record_again-again_part-requires g t c κs within =
    let b = assign-left-below c.in-PatAssign.span c.in-PatAssign.left c.in-PatAssign.right c.get.ensures
    c.requires.within c.in-PatAssign.is in
    let k = b.less in
    let less : part_size c.in-PatAssign.left < c.args.id.0 * 4 + 2 = omega arith in
    let from = b.from in
    search rules

pub record_again-record_again-requires : goal.record_again-record_again-requires
record_again-record_again-requires g t c κs within =
    let b = rest-held-below c.in-PatRest.span c.in-PatRest.dot3_token c.in-PatRest.arg c.get.ensures c.requires.within
    c.in-PatRest.is in
    let k = b.less in
    let less : c.in-PatRest.arg.0 * 4 + 2 < c.args.id.0 * 4 + 2 = omega arith in
    let from = b.from in
    search rules

pub record_again-returns-in-PatArray : goal.record_again-returns-in-PatArray
record_again-returns-in-PatArray g t c =
    if_ok-as _ _ c.again_elems.result
    (λ u h. h ∙ ap (λ v. c.args.faults.now.items ++ v) (sym (again-is
    (n.PatArray c.in-PatArray.span c.in-PatArray.elems) c.get.ensures c.requires.within c.in-PatArray.is)))
    c.again_elems.ensures

pub record_again-returns-in-PatObject : goal.record_again-returns-in-PatObject
record_again-returns-in-PatObject g t c =
    if_ok-as _ _ c.again_props.result
    (λ u h. h ∙ ap (λ v. c.args.faults.now.items ++ v) (sym (again-is
    (n.PatObject c.in-PatObject.span c.in-PatObject.props) c.get.ensures c.requires.within c.in-PatObject.is)))
    c.again_props.ensures

pub record_again-returns-in-PatAssign : goal.record_again-returns-in-PatAssign
record_again-returns-in-PatAssign g t c =
    if_ok-as _ _ c.again_part.result
    (λ u h. h ∙ ap (λ v. c.args.faults.now.items ++ v) (sym (again-is
    (n.PatAssign c.in-PatAssign.span c.in-PatAssign.left c.in-PatAssign.right) c.get.ensures c.requires.within
    c.in-PatAssign.is))) c.again_part.ensures

pub record_again-returns-in-PatRest : goal.record_again-returns-in-PatRest
record_again-returns-in-PatRest g t c =
    if_ok-as _ _ c.record_again.result
    (λ u h. h ∙ ap (λ v. c.args.faults.now.items ++ v) (sym (again-is
    (n.PatRest c.in-PatRest.span c.in-PatRest.dot3_token c.in-PatRest.arg) c.get.ensures c.requires.within
    c.in-PatRest.is))) c.record_again.ensures
