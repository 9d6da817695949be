use Rattle.std.proofs.Common.{arith}
use Rattle.swc_nodes.specs.NodeParts.{pat_prop_parts}
use Rattle.swc_steps.proofs.Refused.{err_is}
use Rattle.swc_steps.proofs.Steps as s
use Rattle.swc_patterns.specs.Answers.{pat_prop_at}
use Rattle.swc_patterns.proofs.PropRests.{item_apart, seen_none, seen_more, seen_all}
use Rattle.swc_patterns.proofs.object.check_rests.Goals as goal

pub loop-prop-init : goal.loop-prop-init
loop-prop-init g c =
    (seen_none (pat_prop_at c.args.nodes.now) g.met.I.Tokens.laws _ c.deref-prop-items.result.now, omega arith)

pub returns-in_err-check_earlier_rest-clause-checks : goal.returns-in_err-check_earlier_rest-clause-checks
returns-in_err-check_earlier_rest-clause-checks g c =
    λ sure. rw (err_is c.from_residual.ensures.1)
    (s.unheard_memory (s.forgoes_later c.loop-prop.invariant.0.checks.leads c.in_err-check_earlier_rest.ensures.checks))

pub rest_of-last-requires : goal.rest_of-last-requires
rest_of-last-requires g c =
    item_apart pat_prop_parts c.deref-prop-items.result.now c.args.list.now.items.items c.loop-prop.prop-index
    c.prop-item.result c.deref-prop-items.ensures.value c.loop-prop-test.true c.prop-item.is c.requires

pub loop-prop-preserved : goal.loop-prop-preserved
loop-prop-preserved g c = (
  seen_more (pat_prop_at c.args.nodes.now) c.deref-prop-items.result.now c.loop-prop.prop-index c.prop-item.result
      c.rest_of-last.result c.loop-prop-test.true c.prop-item.is c.loop-prop.invariant.0
      c.in_ok-check_earlier_rest.ensures.checks c.rest_of-last.ensures.rest c.rest_of-last.ensures.name,
  let a = c.loop-prop.invariant.1 in let b = c.in_ok-check_earlier_rest.ensures.falls in omega arith,
)

pub returns-clause-checks : goal.returns-clause-checks
returns-clause-checks g c =
    seen_all (pat_prop_at c.args.nodes.now) c.deref-prop-items.result.now c.args.list.now.items.items
    c.loop-prop.prop-index c.args.list.now.trailing_comma _ c.check_last_rest.result
    c.deref-prop-items.ensures.value (let h = c.loop-prop-test.false in omega arith) c.loop-prop.invariant.0
    c.check_last_rest.ensures.checks
