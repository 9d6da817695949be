use Rattle.std.proofs.Common.{◌++◌, ◌+◌, ◌*◌, ◌<◌, ap, sym, ◌∙◌, rules, arith}
use Rattle.swc_cover.proofs.Named.{named-pats-ended, named-props-ended, named-is}
use Rattle.swc_cover.specs.Below.{part_size}
use Rattle.swc_cover.proofs.{Appended.if_ok-as, Fitting.assign-left-below, Fitting.rest-held-below, Recording.pat-elems-below, Recording.pat-props-below}
use Rattle.swc_nodes.specs.declared.node.Node.TheVariants as n
use Rattle.swc_cover.proofs.param_names.+names.Goals as goal

pub add_elems_names-add_elem_names-requires : goal.add_elems_names-add_elem_names-requires
add_elems_names-add_elem_names-requires g t c κs within =
    let lt = c.loop-i-test.true in
    let l = c.len-i-end.ensures ∙ c.args.elems.now.ok.0 in
    let step = c.requires.each c.loop-i.i c.index.result.now (omega arith) c.index.ensures in
    let less = step.less in
    let from = step.from in
    search rules

pub add_props_names-add_prop_names-requires : goal.add_props_names-add_prop_names-requires
add_props_names-add_prop_names-requires g t c κs within =
    let lt = c.loop-i-test.true in
    let l = c.len-i-end.ensures ∙ c.args.props.now.ok.0 in
    let step = c.requires.each c.loop-i.i c.index.result.now (omega arith) c.index.ensures in
    let less = step.less in
    let from = step.from in
    search rules

pub add_elems_names-returns : goal.add_elems_names-returns
add_elems_names-returns g t c =
    let end = c.loop-i-test.false in
    let l = c.len-i-end.ensures ∙ c.args.elems.now.ok.0 in
    named-pats-ended c.args.nodes.now c.args.elems.now.items c.loop-i.i c.loop-i.spans.items _ (omega arith)
    c.loop-i.invariant

pub add_props_names-returns : goal.add_props_names-returns
add_props_names-returns g t c =
    let end = c.loop-i-test.false in
    let l = c.len-i-end.ensures ∙ c.args.props.now.ok.0 in
    named-props-ended c.args.nodes.now c.args.props.now.items c.loop-i.i c.loop-i.spans.items _ (omega arith)
    c.loop-i.invariant

pub add_names-add_elems_names-requires : goal.add_names-add_elems_names-requires
add_names-add_elems_names-requires g t c κs within =
    let less : c.args.id.0 * 4 + 1 < c.args.id.0 * 4 + 2 = omega arith in
    let from = pat-elems-below c.in-PatArray.span c.in-PatArray.elems c.get.ensures c.requires.within c.in-PatArray.is
    in
    search rules

pub add_names-add_props_names-requires : goal.add_names-add_props_names-requires
add_names-add_props_names-requires g t c κs within =
    let less : c.args.id.0 * 4 + 1 < c.args.id.0 * 4 + 2 = omega arith in
    let from = pat-props-below c.in-PatObject.span c.in-PatObject.props c.get.ensures c.requires.within
    c.in-PatObject.is in
    search rules

pub add_names-add_part_names-requires : goal.add_names-add_part_names-requires
add_names-add_part_names-requires g t c κs within =
    let b = assign-left-below c.in-PatAssign.span c.in-PatAssign.left c.in-PatAssign.right c.get.ensures
    c.requires.within c.in-PatAssign.is in
    let k = b.less in
    let less : part_size c.in-PatAssign.left < c.args.id.0 * 4 + 2 = omega arith in
    let from = b.from in
    search rules

pub add_names-add_names-requires : goal.add_names-add_names-requires
add_names-add_names-requires g t c κs within =
    let b = rest-held-below c.in-PatRest.span c.in-PatRest.dot3_token c.in-PatRest.arg c.get.ensures c.requires.within
    c.in-PatRest.is in
    let k = b.less in
    let less : c.in-PatRest.arg.0 * 4 + 2 < c.args.id.0 * 4 + 2 = omega arith in
    let from = b.from in
    search rules

pub add_names-returns-in-PatArray : goal.add_names-returns-in-PatArray
add_names-returns-in-PatArray g t c =
    if_ok-as _ _ c.add_elems_names.result
    (λ u h. h ∙ ap (λ v. c.args.spans.now.items ++ v) (sym (named-is
    (n.PatArray c.in-PatArray.span c.in-PatArray.elems) c.get.ensures c.requires.within c.in-PatArray.is)))
    c.add_elems_names.ensures

pub add_names-returns-in-PatObject : goal.add_names-returns-in-PatObject
add_names-returns-in-PatObject g t c =
    if_ok-as _ _ c.add_props_names.result
    (λ u h. h ∙ ap (λ v. c.args.spans.now.items ++ v) (sym (named-is
    (n.PatObject c.in-PatObject.span c.in-PatObject.props) c.get.ensures c.requires.within c.in-PatObject.is)))
    c.add_props_names.ensures

pub add_names-returns-in-PatAssign : goal.add_names-returns-in-PatAssign
add_names-returns-in-PatAssign g t c =
    if_ok-as _ _ c.add_part_names.result
    (λ u h. h ∙ ap (λ v. c.args.spans.now.items ++ v) (sym (named-is
    (n.PatAssign c.in-PatAssign.span c.in-PatAssign.left c.in-PatAssign.right) c.get.ensures c.requires.within
    c.in-PatAssign.is))) c.add_part_names.ensures

pub add_names-returns-in-PatRest : goal.add_names-returns-in-PatRest
add_names-returns-in-PatRest g t c =
    if_ok-as _ _ c.add_names.result
    (λ u h. h ∙ ap (λ v. c.args.spans.now.items ++ v) (sym (named-is
    (n.PatRest c.in-PatRest.span c.in-PatRest.dot3_token c.in-PatRest.arg) c.get.ensures c.requires.within
    c.in-PatRest.is))) c.add_names.ensures
