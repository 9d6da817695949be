use Rattle.std.proofs.Common.{sym, ◌∙◌, arith}
use Rattle.swc_cover.proofs.Recording.{remains-more, remains-ends, remains-none, item-from, items-first, items-none}
use Rattle.swc_cover.proofs.faults.find_item_faults.Goals as goal

pub check_item-requires : goal.check_item-requires
check_item-requires g c =
    let lt = c.loop-i-test.true in
    let l = c.len-len.ensures ∙ c.args.items.now.ok.0 in
    item-from c.args.items.now.items c.loop-i.i c.index.result.now c.requires (omega arith) c.index.ensures

pub returns-then-is_some : goal.returns-then-is_some
returns-then-is_some g c =
    let lt = c.loop-i-test.true in
    let l = c.len-len.ensures ∙ c.args.items.now.ok.0 in
    remains-ends _ _ (items-first c.args.nodes.now c.args.items.now.items c.args.trailing_comma c.loop-i.i
    c.len-len.result c.index.result.now (omega arith) l c.index.ensures)
    (sym c.is_some.ensures ∙ c.if-is_some.true) c.in_ok-refused.ensures c.loop-i.invariant

pub loop-i-preserved : goal.loop-i-preserved
loop-i-preserved g c =
    let lt = c.loop-i-test.true in
    let l = c.len-len.ensures ∙ c.args.items.now.ok.0 in
    remains-more _ _ (items-first c.args.nodes.now c.args.items.now.items c.args.trailing_comma c.loop-i.i
    c.len-len.result c.index.result.now (omega arith) l c.index.ensures)
    (sym c.is_some.ensures ∙ c.if-is_some.false) c.in_ok-refused.ensures c.loop-i.invariant

pub returns : goal.returns
returns g c =
    let end = c.loop-i-test.false in
    let l = c.len-len.ensures ∙ c.args.items.now.ok.0 in
    remains-none (items-none c.args.nodes.now c.args.items.now.items c.args.trailing_comma c.loop-i.i (omega arith))
    c.loop-i.invariant
