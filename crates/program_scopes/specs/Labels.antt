-- The labels around a statement, function by function, the innermost first (ECMA-262, 8.3).
use Rattle.std.specs.Prelude.{◌≡◌, ℕ, Bool, List, if◌then◌else◌, is_some, option_map, Option, None, Some}
use Rattle.swc_context.specs.declared.span.Span.{Span}
use Rattle.program_scopes.specs.declared.labels.Label.{Label}
use Rattle.program_scopes.specs.declared.labels.Labels.{Labels}
use Rattle.program_scopes.specs.declared.labels.Target.{Target}
use Rattle.program_scopes.specs.declared.labels.Target.TheVariants.{Loop, OtherStatement, Nothing}
use Rattle.program_scopes.specs.Layers.{topmost, put, AreLayers}

-- these labels are around, of each function
abbrev pub AreAround : Labels → List (List (List ℕ × Label)) → Type 0
AreAround labels ls = AreLayers labels.labels ls

-- they change so
abbrev pub Changes : Labels → Labels → (List (List (List ℕ × Label)) → List (List (List ℕ × Label))) → Type 0
Changes old new f = (ls : List (List (List ℕ × Label))) → AreAround old ls → AreAround new (f ls)

-- this is so of them
abbrev pub Tells : {A : Type 0} → Labels → (List (List (List ℕ × Label)) → A) → A → Type 0
Tells all f x = (ls : List (List (List ℕ × Label))) → AreAround all ls → x ≡ f ls

-- where the label is that is around (ContainsDuplicateLabels)
abbrev pub place : List ℕ → List (List (List ℕ × Label)) → Option Span
place q ls = option_map (λ l. l.place) (topmost q ls)

-- a `break` may have the label (ContainsUndefinedBreakTarget)
abbrev pub breaks : List ℕ → List (List (List ℕ × Label)) → Bool
breaks q ls = is_some (topmost q ls)

abbrev pub target : Option Label → Target
target None = Nothing
target (Some l) = if l.is_loop then Loop else OtherStatement l.place

-- what a `continue` is to that has the label (ContainsUndefinedContinueTarget)
abbrev pub continues : List ℕ → List (List (List ℕ × Label)) → Target
continues q ls = target (topmost q ls)

-- the statement of a label begins
abbrev pub begun : List ℕ → Span → Bool → List (List (List ℕ × Label)) → List (List (List ℕ × Label))
begun q place is_loop ls = put q (record { place = place; is_loop = is_loop }) ls
