-- What passes leave: which bodies wait, and which were read.
use Rattle.std.specs.Prelude.{◌≡◌, ℕ, ◌<◌, ◌≤◌, ◌++◌, List, [], length, map, reverse}
use Rattle.std.specs.List.{AllPairs, Contains}
use Rattle.swc_bodies.specs.declared.deferred.Waiting.{Waiting}
use Rattle.swc_context.specs.declared.span.Span.{Span}
use Rattle.statement_trees.specs.{declared.program.Passes.Passes, Contexts.kept_bodies}

-- the place of a text: from its beginning to its end, as far as places reach
abbrev pub Spans : List ℕ → Span → Type 0
Spans text s = (s.lo.0 ≡ 0) × (length text ≤ 4294967295 → s.hi.0 ≡ length text)

-- places in the order in which they begin, no two at one
abbrev pub InOrder : List Span → Type 0
InOrder places = AllPairs (λ a b. a.lo.0 < b.lo.0) places

-- the places of bodies that wait
abbrev pub places : List Waiting → List Span
places bodies = map (λ w. w.body.span) bodies

-- the bodies that the hook had kept wait, the first one last
pub record Collected (s t : Passes) : Type 0 where
  pub none : kept_bodies t.reader ≡ []
  pub waits : t.waiting.items ≡ s.waiting.items ++ reverse (kept_bodies s.reader)

-- a pass left no body to the hook, and those that waited still wait, before those that it met
pub record Passed (s t : Passes) : Type 0 where
  pub none : kept_bodies t.reader ≡ []
  pub waits : (met : List Waiting) × (t.waiting.items ≡ s.waiting.items ++ met)

-- all bodies that waited were read, and none waits
pub record AllRead (s t : Passes) : Type 0 where
  pub none : kept_bodies t.reader ≡ []
  pub over : t.waiting.items ≡ []
  pub read : (place : Span) → Contains (places s.waiting.items) place → Contains t.bodies.items place
