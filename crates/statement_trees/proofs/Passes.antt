-- Lists of bodies that wait and of those that were read.
use Rattle.std.proofs.Common.{◌≡◌, ◌<◌, ◌≤◌, ◌++◌, ◌∷◌, ℕ, List, [], length, get_or, reverse, refl, subst, arith}
use Rattle.std.proofs.lemmas.List.{append_assoc, append-nil, map-append, reverse-append}
use Rattle.std.proofs.lemmas.List.Elements.{Contains-append_cases, Contains-append_left, Contains-append_right, Contains-push, Contains-push_cases, All-get_or, All-push, All-weaker}
use Rattle.std.proofs.lemmas.List.Quantifiers.{all_pairs_push}
use Rattle.std.specs.List.{All, Contains}
use mathlib.Core.Logic.{⊎_elim}
use Rattle.swc_bodies.specs.declared.deferred.Waiting.{Waiting}
use Rattle.swc_context.specs.declared.span.Span.{Span}
use Rattle.statement_trees.specs.Passes.{places, InOrder}

-- a body that waits is taken, and goes on the list
pub turned : (waits kept : List Waiting) (last : Waiting)
    → (waits ++ last ∷ []) ++ reverse kept ≡ waits ++ reverse (kept ++ last ∷ [])
turned waits kept last = rw (append_assoc, reverse-append) refl

module _ (read : List Span) (rest met : List Waiting) (next : Waiting) (place : Span) where
  waited : Contains (places (rest ++ next ∷ [])) place
      → Contains ((read ++ next.body.span ∷ []) ++ places (rest ++ met)) place
  waited h = ⊎_elim
      (λ k. Contains-append_right (read ++ next.body.span ∷ []) (places (rest ++ met)) place
      (rw (map-append {A = Waiting} {B = Span} (λ w. w.body.span))
      (Contains-append_left (places rest) (places met) place k)))
      (λ e. Contains-append_left (read ++ next.body.span ∷ []) (places (rest ++ met)) place
      (subst (Contains (read ++ next.body.span ∷ [])) e (Contains-push read next.body.span)))
      (Contains-push_cases (places rest) next.body.span place
      (rw (map-append {A = Waiting} {B = Span} (λ w. w.body.span)) at h))

  -- the body that waited last is read, and those that it met wait
  pub moved : Contains (read ++ places (rest ++ next ∷ [])) place
      → Contains ((read ++ next.body.span ∷ []) ++ places (rest ++ met)) place
  moved h = ⊎_elim
      (λ k. Contains-append_left (read ++ next.body.span ∷ []) (places (rest ++ met)) place
      (Contains-append_left read (next.body.span ∷ []) place k))
      waited
      (Contains-append_cases read (places (rest ++ next ∷ [])) place h)

pub nothing : {X : Type 0} (xs : List X) → length xs ≡ 0 → xs ≡ []
nothing [] e = refl
nothing (x ∷ xs) e = absurd cc

-- where none waits, all were read
pub none_left : (read : List Span) (rest : List Waiting) (place : Span) → rest ≡ []
    → Contains (read ++ places rest) place → Contains read place
none_left read [] place e h = subst (λ l. Contains l place) (append-nil read) h
none_left read (x ∷ xs) place e h = absurd cc

pub none_in_order : InOrder []
none_in_order = λ i j d a b. absurd (omega (arith, b))

-- a body that begins after those that were read is read
pub in_order : (read : List Span) (next : Span) (past : ℕ) → InOrder read → All (λ place. place.lo.0 < past) read
    → past ≤ next.lo.0
    → InOrder (read ++ next ∷ [])
in_order read next past order before late = all_pairs_push (λ a b. a.lo.0 < b.lo.0) read next order
    (λ k d h. let below : (get_or read k d).lo.0 < past = All-get_or (λ place. place.lo.0 < past) read k d h before in
    omega arith)

pub below_next : (read : List Span) (next : Span) (past after : ℕ) → All (λ place. place.lo.0 < past) read
    → past ≤ after → next.lo.0 < after
    → All (λ place. place.lo.0 < after) (read ++ next ∷ [])
below_next read next past after before late here = All-push (λ place. place.lo.0 < after) read next
    (All-weaker (λ place. place.lo.0 < past) (λ place. place.lo.0 < after) (λ place h. omega arith) read before) here
