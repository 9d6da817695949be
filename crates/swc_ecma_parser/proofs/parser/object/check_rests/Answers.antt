use Rattle.std.proofs.Common.{arith}
use Rattle.swc_ast.specs.TreeOf.{pat_prop_tree}
use Rattle.swc_steps.proofs.Refused.{err_is}
use Rattle.swc_patterns.proofs.PropRests.{seen_none, seen_more, seen_all}
use Rattle.swc_steps.proofs.Steps.{forgoes_later, unheard_memory}
use Rattle.swc_ecma_parser.proofs.RestsNoted.{noted-all, noted-more, noted-none}
use Rattle.swc_ecma_parser.proofs.parser.object.check_rests.Goals as goal

pub loop-prop-init : goal.loop-prop-init
loop-prop-init g c = (
  seen_none (pat_prop_tree _ _ _ g.F.Spanned.place g.C.Spanned.place g.K.Spanned.place) g.met.I.Tokens.laws _
      c.deref-prop-items.result.now,
  noted-none g.I.Tokens.model (pat_prop_tree _ _ _ g.F.Spanned.place g.C.Spanned.place g.K.Spanned.place) _
      c.deref-prop-items.result.now,
)

pub returns-in_err-check_earlier_rest-clause-checks : goal.returns-in_err-check_earlier_rest-clause-checks
returns-in_err-check_earlier_rest-clause-checks g c =
    rw (err_is c.from_residual.ensures.1) (λ sure. unheard_memory (forgoes_later c.loop-prop.invariant.0.checks.leads
    c.in_err-check_earlier_rest.ensures.checks))

pub returns-in_err-check_earlier_rest-clause-judges : goal.returns-in_err-check_earlier_rest-clause-judges
returns-in_err-check_earlier_rest-clause-judges g c =
    rw (err_is c.from_residual.ensures.1) (λ n. absurd (n c.in_err-check_earlier_rest.ensures.checks.kind))

pub loop-prop-preserved : goal.loop-prop-preserved
loop-prop-preserved g c = (
  seen_more (pat_prop_tree _ _ _ g.F.Spanned.place g.C.Spanned.place g.K.Spanned.place) c.deref-prop-items.result.now
      c.loop-prop.prop-index
      c.prop-item.result c.rest_of-last.result c.loop-prop-test.true c.prop-item.is c.loop-prop.invariant.0
      c.in_ok-check_earlier_rest.ensures.checks c.rest_of-last.ensures.rest c.rest_of-last.ensures.name,
  noted-more g.I.Tokens.model (pat_prop_tree _ _ _ g.F.Spanned.place g.C.Spanned.place g.K.Spanned.place)
      c.deref-prop-items.result.now c.loop-prop.prop-index
      c.prop-item.result c.loop-prop-test.true c.prop-item.is c.loop-prop.invariant.0.checks.leads
      c.loop-prop.invariant.1
      c.in_ok-check_earlier_rest.ensures.notes c.rest_of-last.ensures.is,
)

pub returns-clause-checks : goal.returns-clause-checks
returns-clause-checks g c =
    seen_all (pat_prop_tree _ _ _ g.F.Spanned.place g.C.Spanned.place g.K.Spanned.place) c.deref-prop-items.result.now
    c.args.props.now.items
    c.loop-prop.prop-index _ _ c.check_last_rest.result c.deref-prop-items.ensures.value
    (let h = c.loop-prop-test.false in omega arith)
    c.loop-prop.invariant.0 c.check_last_rest.ensures.checks

pub returns-clause-judges : goal.returns-clause-judges
returns-clause-judges g c =
    noted-all g.I.Tokens.model (pat_prop_tree _ _ _ g.F.Spanned.place g.C.Spanned.place g.K.Spanned.place)
    c.deref-prop-items.result.now c.args.props.now.items
    c.loop-prop.prop-index _ _ _ _ c.check_last_rest.result c.deref-prop-items.ensures.value
    (let h = c.loop-prop-test.false in omega arith)
    c.loop-prop.invariant.0.checks.leads c.loop-prop.invariant.1 c.check_last_rest.ensures.judges
