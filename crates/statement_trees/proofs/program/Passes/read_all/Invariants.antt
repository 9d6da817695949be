use Rattle.std.proofs.Common.{◌≡◌, ◌++◌, ◌≤◌, ◌<◌, ◌-◌, []}
use Rattle.std.specs.List.{All, Contains}
use Rattle.swc_context.specs.declared.span.Span.{Span}
use Rattle.statement_trees.specs.{Contexts.kept_bodies, Passes.places, Passes.InOrder}
use Rattle.statement_trees.proofs.program.Passes.read_all.Given as goal

-- each body begins after those before it
abbrev pub decreases-loop-next : goal.decreases-loop-next
decreases-loop-next l = 4294967296 - l.past

abbrev pub invariant-loop-next : goal.invariant-loop-next
invariant-loop-next l = record {
  none : kept_bodies l.self.reader ≡ [];
  within : l.past ≤ 4294967296;
  order : InOrder l.self.bodies.items;
  before : All (λ place. place.lo.0 < l.past) l.self.bodies.items;
  left : (place : Span) → Contains (places l.fn.self.waiting.items) place
      → Contains (l.self.bodies.items ++ places l.self.waiting.items) place;
}
