use Rattle.std.proofs.Common.{sym, ◌∙◌, arith}
use Rattle.std.proofs.lemmas.Bool.{eqb-true, eqb-false}
use Rattle.std.specs.Prelude.{vec_len}
use Rattle.swc_cover.proofs.Listed.{no-last, last-none, last-some}
use Rattle.swc_cover.proofs.items.last_item.Goals as goal

pub returns-then-is_empty : goal.returns-then-is_empty
returns-then-is_empty c =
    let e = eqb-true (vec_len c.args.items.now) 0 (sym c.is_empty.ensures ∙ c.if-is_empty.true) in
    let l = c.args.items.now.ok.0 in
    no-last c.args.items.now.items (omega arith)

pub returns-in-None : goal.returns-in-None
returns-in-None c =
    let e = eqb-false (vec_len c.args.items.now) 0 (sym c.is_empty.ensures ∙ c.if-is_empty.false) in
    let l = c.args.items.now.ok.0 in
    let n = c.len.ensures in
    last-none c.args.items.now.items c.index-item.result.now _ (omega arith) c.index-item.ensures c.in-None.is

pub returns-in-Some : goal.returns-in-Some
returns-in-Some c =
    let e = eqb-false (vec_len c.args.items.now) 0 (sym c.is_empty.ensures ∙ c.if-is_empty.false) in
    let l = c.args.items.now.ok.0 in
    let n = c.len.ensures in
    last-some c.args.items.now.items c.index-item.result.now _ c.in-Some.dots (omega arith) c.index-item.ensures
    c.in-Some.is
