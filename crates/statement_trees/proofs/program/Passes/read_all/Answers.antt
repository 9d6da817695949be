use Rattle.std.proofs.Common.{◌≡◌, ◌<◌, ◌+◌, ◌++◌, ◌∷◌, [], length, ap, sym, subst, arith, ◌∙◌}
use Rattle.std.proofs.lemmas.List.Elements.{All-nil, Contains-append_right}
use Rattle.std.specs.List.{All, Contains}
use Rattle.swc_context.specs.declared.span.Span.{Span}
use Rattle.statement_trees.specs.Passes.{InOrder, places}
use Rattle.statement_trees.proofs.Passes.{moved, none_left, nothing, none_in_order, in_order, below_next}
use Rattle.statement_trees.proofs.program.Passes.read_all.Goals as goal

pub loop-next-init : goal.loop-next-init
loop-next-init c = record {
  none = c.requires.none;
  within = omega arith;
  order = subst InOrder (sym c.requires.first) none_in_order;
  before = subst (All (λ (place : Span). place.lo.0 < 0)) (sym c.requires.first)
      (All-nil (λ (place : Span). place.lo.0 < 0));
  left = λ place h. Contains-append_right c.args.self.now.bodies.items (places c.args.self.now.waiting.items) place h;
}

pub loop-next-preserved : goal.loop-next-preserved
loop-next-preserved c =
    let passed = c.in_ok-pass.ensures.passed in
    let place = c.place_of-place.result in
    let here : place ≡ c.in-Some.next.body.span = c.place_of-place.ensures in
    let start : c.from-start.result ≡ place.lo.0 = c.from-start.ensures in
    let pushed = rw c.in_ok-kept.ensures.kept at c.push-pushed.ensures.items in
    let read : c.loop-next.self.bodies.items ++ place ∷ [] ≡ c.pass.new.self.bodies.items =
    sym pushed ∙ sym (ap (λ v. v.items) c.in_ok-pass.ensures.read) in
    let popped = c.in-Some.ensures.items in
    record {
      none = passed.none;
      within = omega arith;
      order = subst InOrder read (in_order c.loop-next.self.bodies.items place c.loop-next.past
          c.loop-next.invariant.order c.loop-next.invariant.before (omega (arith, start)));
      before = subst (All (λ (p : Span). p.lo.0 < c.from-start.result + 1)) read
          (below_next c.loop-next.self.bodies.items place c.loop-next.past (c.from-start.result + 1)
          c.loop-next.invariant.before (omega arith) (omega (arith, start)));
      left = λ p h. subst (λ bs. Contains (bs ++ places c.pass.new.self.waiting.items) p) read
          (subst (λ ws. Contains ((c.loop-next.self.bodies.items ++ place ∷ []) ++ places ws) p) (sym passed.waits.1)
          (subst (λ q. Contains ((c.loop-next.self.bodies.items ++ q ∷ []) ++ places
          (c.pop.new.self.items ++ passed.waits.0)) p) (sym here)
          (moved c.loop-next.self.bodies.items c.pop.new.self.items passed.waits.0 c.in-Some.next p
          (subst (λ ws. Contains (c.loop-next.self.bodies.items ++ places ws) p) popped
          (c.loop-next.invariant.left p h)))));
    }

pub returns-clause-all : goal.returns-clause-all
returns-clause-all c =
    let before : c.loop-next.self.waiting.len ≡ 0 = omega (arith, c.in_default.ensures.cases.0) in
    let after : c.pop.new.self.len ≡ 0 = omega (arith, c.in_default.ensures.cases.1) in
    let none : length c.loop-next.self.waiting.items ≡ 0 = omega (arith, c.loop-next.self.waiting.ok.0, before) in
    let left : length c.pop.new.self.items ≡ 0 = omega (arith, c.pop.new.self.ok.0, after) in
    record {
      none = c.loop-next.invariant.none;
      over = nothing c.pop.new.self.items left;
      read = λ place h. none_left c.loop-next.self.bodies.items c.loop-next.self.waiting.items place
          (nothing c.loop-next.self.waiting.items none) (c.loop-next.invariant.left place h);
    }
