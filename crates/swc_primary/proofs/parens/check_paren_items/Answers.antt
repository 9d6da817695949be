use Rattle.std.proofs.Common.{sym, ◌∙◌, arith}
use Rattle.std.proofs.{lemmas.Bool.eqb-true, lemmas.Grind.common_steps}
use Rattle.swc_steps.proofs.Refused.{err_is}
use Rattle.swc_steps.specs.Parsing.{tree_of}
use Rattle.swc_primary.proofs.ParenItems.{paren_none, paren_checked, paren_refused}
use Rattle.swc_steps.proofs.Steps as s
use Rattle.swc_primary.proofs.parens.check_paren_items.Goals as goal

pub returns-in_err-check_item_covers-clause-refuses : goal.returns-in_err-check_item_covers-clause-refuses
returns-in_err-check_item_covers-clause-refuses g c =
    let h = c.in_err-check_item_covers.ensures.checks in
    rw (err_is c.from_residual.ensures.1) (s.forgoes_refuses h, λ n. absurd (n h.kind))

pub returns-then-is_empty-clause-refuses : goal.returns-then-is_empty-clause-refuses
returns-then-is_empty-clause-refuses g c = (
  s.refuses_later c.in_ok-check_item_covers.ensures.checks.leads (c.syntax_error.ensures.refuses (λ e. cc)),
  λ n. paren_none (tree_of c.args.nodes.now) _ c.args.list.now.trailing_comma c.args.list.now.end
      c.args.list.now.items.items
      (let e = eqb-true _ 0 (sym c.is_empty.ensures ∙ c.if-is_empty.true) in omega arith),
)

pub returns-in_err-check_last_comma-clause-refuses : goal.returns-in_err-check_last_comma-clause-refuses
returns-in_err-check_last_comma-clause-refuses g c =
    let h = s.forgoes_later c.in_ok-check_item_covers.ensures.checks.leads c.in_err-check_last_comma.ensures.checks in
    rw (err_is c.from_residual-in_err-check_last_comma.ensures.1) (s.forgoes_refuses h, λ n. absurd (n h.kind))

pub returns-clause-checks : goal.returns-clause-checks
returns-clause-checks g c =
    paren_checked (tree_of c.args.nodes.now) _ c.refuse_spread.result c.args.list.now.trailing_comma c.args.list.now.end
    c.args.list.now.items.items _ (grind (arith, common_steps, c.is_empty.ensures, c.if-is_empty.false))
    c.in_ok-check_item_covers.ensures.checks
    c.in_ok-check_last_comma.ensures.checks c.refuse_spread.ensures.passes

pub returns-clause-refuses : goal.returns-clause-refuses
returns-clause-refuses g c =
    paren_refused (tree_of c.args.nodes.now) _ c.refuse_spread.result c.args.list.now.trailing_comma c.args.list.now.end
    c.args.list.now.items.items _ c.in_ok-check_item_covers.ensures.checks c.in_ok-check_last_comma.ensures.checks
    c.refuse_spread.ensures.refuses
