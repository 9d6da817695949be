use Rattle.std.proofs.Common.{◌∙◌, arith}
use Rattle.swc_cover.proofs.Named.{head-from, named-params-more, named-params-ended}
use Rattle.swc_cover.proofs.param_names.add_param_names.Goals as goal

pub add_names-requires : goal.add_names-requires
add_names-requires g c =
    let lt = c.loop-i-test.true in
    let l = c.len-i-end.ensures ∙ c.args.pats.now.ok.0 in
    head-from c.args.pats.now.items c.loop-i.i c.index.result.now c.requires (omega arith) c.index.ensures

pub loop-i-preserved : goal.loop-i-preserved
loop-i-preserved g c =
    let lt = c.loop-i-test.true in
    let l = c.len-i-end.ensures ∙ c.args.pats.now.ok.0 in
    named-params-more c.args.nodes.now c.args.pats.now.items c.loop-i.i c.index.result.now _ _ _ (omega arith)
    c.index.ensures c.in_ok-add_names.ensures c.loop-i.invariant

pub returns : goal.returns
returns g c =
    let end = c.loop-i-test.false in
    let l = c.len-i-end.ensures ∙ c.args.pats.now.ok.0 in
    named-params-ended c.args.nodes.now c.args.pats.now.items c.loop-i.i _ _ (omega arith) c.loop-i.invariant
