use Rattle.std.proofs.Common.{not, refl, sym, ap, subst, ◌∙◌, arith}
use Rattle.swc_input.specs.Calls.{Refuses}
use Rattle.swc_steps.specs.Parsing.{tree_of}
use Rattle.swc_primary.proofs.ParenItems.{plain_item, item_from, pass-on, none_spread, one_spread}
use Rattle.swc_primary.proofs.parens.refuse_spread.Goals as goal

pub loop-item-init : goal.loop-item-init
loop-item-init g c = (refl, refl)

pub span-span-requires : goal.span-span-requires
span-span-requires g c =
    item_from c.deref-item-items.result.now c.args.items.now.items c.loop-item.item-index _
    c.deref-item-items.ensures.value
    c.loop-item-test.true c.requires

pub returns-then-is_some-clause-refuses : goal.returns-then-is_some-clause-refuses
returns-then-is_some-clause-refuses g c = (
  subst (λ b. Refuses g.I.Tokens.model b c.syntax_error.result c.syntax_error.new.self) c.loop-item.invariant.0
      (c.syntax_error.ensures.refuses (λ e. cc)),
  one_spread (tree_of c.args.nodes.now) c.deref-item-items.result.now c.args.items.now.items c.loop-item.item-index _
      c.deref-item-items.ensures.value c.loop-item-test.true (sym c.is_some.ensures ∙ c.if-is_some.true),
)

pub loop-item-preserved : goal.loop-item-preserved
loop-item-preserved g c = (
  c.loop-item.invariant.0,
  pass-on plain_item c.deref-item-items.result.now c.loop-item.item-index _ c.loop-item-test.true
      c.loop-item.invariant.1 (ap not (sym c.is_some.ensures ∙ c.if-is_some.false)),
)

pub returns-clause-passes : goal.returns-clause-passes
returns-clause-passes g c = (
  c.loop-item.invariant.0,
  none_spread (tree_of c.args.nodes.now) c.deref-item-items.result.now c.args.items.now.items c.loop-item.item-index
      c.deref-item-items.ensures.value (let h = c.loop-item-test.false in omega arith) c.loop-item.invariant.1,
)
