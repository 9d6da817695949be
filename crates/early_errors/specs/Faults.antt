-- Which faults are noted.
use Rattle.std.specs.Prelude.{◌≡◌, ℕ, Bool, List, [], ◌∷◌, ◌++◌, if◌then◌else◌, Option, Some, None}
use Rattle.swc_context.specs.declared.span.Span.{Span}
use Rattle.program_scopes.specs.declared.labels.Target.{Target}
use Rattle.program_scopes.specs.declared.labels.Target.TheVariants.{Loop, OtherStatement, Nothing}
use Rattle.early_errors.specs.declared.fault.EarlyError.{EarlyError}
use Rattle.early_errors.specs.declared.fault.EarlyErrorKind.{EarlyErrorKind}
use Rattle.early_errors.specs.declared.fault.EarlyErrorKind.TheVariants.{LabelUnknown, LabelOfNoLoop}
use Rattle.early_errors.specs.declared.walk.Walk.{Walk}

abbrev pub fault : EarlyErrorKind → Span → Option Span → List EarlyError
fault kind span first = record { kind = kind; span = span; first = first } ∷ []

-- a fault if something is there the second time
abbrev pub twice : EarlyErrorKind → Span → Option Span → List EarlyError
twice kind span None = []
twice kind span (Some first) = fault kind span (Some first)

-- a fault if something is not there
abbrev pub unless : Bool → EarlyErrorKind → Span → List EarlyError
unless b kind span = if b then [] else fault kind span None

-- what is wrong with the label of a `continue`
abbrev pub of_target : Target → Span → List EarlyError
of_target Loop span = []
of_target (OtherStatement first) span = fault LabelOfNoLoop span (Some first)
of_target Nothing span = fault LabelUnknown span None

-- these faults are noted, and nothing else that a walk knows is changed
pub record Notes (old new : Walk) (more : List EarlyError) : Type 0 where
  pub found : new.found.items ≡ old.found.items ++ more
  pub names : new.names ≡ old.names
  pub labels : new.labels ≡ old.labels
  pub private : new.private ≡ old.private
  pub exported : new.exported ≡ old.exported

-- nothing that a walk knows of names is changed
pub record Keeps (old new : Walk) : Type 0 where
  pub names : new.names ≡ old.names
  pub labels : new.labels ≡ old.labels
  pub private : new.private ≡ old.private
  pub exported : new.exported ≡ old.exported
