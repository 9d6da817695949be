use Rattle.std.proofs.Common.{true, ◌||◌, refl, sym, ap, subst, ◌∙◌, arith}
use Rattle.swc_ast.specs.{Parts.item_trees, Trees.no_covers}
use Rattle.swc_input.specs.Calls.{Checks}
use Rattle.swc_steps.proofs.Refused.{err_is}
use Rattle.swc_steps.specs.Parsing.{tree_of}
use Rattle.swc_primary.proofs.ParenItems.{whole_item, item_from, item_checked, items_checked}
use Rattle.swc_steps.proofs.Steps.{check_passes, forgoes_later}
use Rattle.swc_primary.proofs.parens.check_item_covers.Goals as goal

pub returns-then-syntax-clause-checks : goal.returns-then-syntax-clause-checks
returns-then-syntax-clause-checks g c =
    check_passes _ g.met.I.Tokens.laws _
    (ap (λ v. v || no_covers (item_trees (tree_of c.args.nodes.now) c.args.items.now.items))
    (ap (λ v. v.pedantic) (sym c.syntax-syntax.ensures) ∙ c.if-syntax.true))

pub loop-item-init : goal.loop-item-init
loop-item-init g c = (check_passes true g.met.I.Tokens.laws _ refl, omega arith)

pub check_cover_names-requires : goal.check_cover_names-requires
check_cover_names-requires g c =
    item_from c.deref-item-items.result.now c.args.items.now.items c.loop-item.item-index _
    c.deref-item-items.ensures.value
    c.loop-item-test.true c.requires

pub returns-in_err-check_cover_names-clause-checks : goal.returns-in_err-check_cover_names-clause-checks
returns-in_err-check_cover_names-clause-checks g c =
    rw (err_is c.from_residual.ensures.1)
    (forgoes_later c.loop-item.invariant.0.leads c.in_err-check_cover_names.ensures.checks)

pub loop-item-preserved : goal.loop-item-preserved
loop-item-preserved g c = (
  item_checked (whole_item (tree_of c.args.nodes.now)) c.deref-item-items.result.now c.loop-item.item-index _
      c.loop-item-test.true c.loop-item.invariant.0 c.in_ok-check_cover_names.ensures.checks,
  let a = c.loop-item.invariant.1 in let b = c.in_ok-check_cover_names.ensures.falls in omega arith,
)

pub returns-clause-checks : goal.returns-clause-checks
returns-clause-checks g c =
    subst (λ v. Checks g.I.Tokens.model (v || no_covers (item_trees (tree_of c.args.nodes.now) c.args.items.now.items))
    c.args.input.now c.loop-item.input)
    (sym (ap (λ v. v.pedantic) (sym c.syntax-syntax.ensures) ∙ c.if-syntax.false))
    (items_checked (tree_of c.args.nodes.now) c.deref-item-items.result.now c.args.items.now.items
    c.loop-item.item-index
    c.deref-item-items.ensures.value (let h = c.loop-item-test.false in omega arith) c.loop-item.invariant.0)

pub returns-clause-falls : goal.returns-clause-falls
returns-clause-falls g c = c.loop-item.invariant.1
