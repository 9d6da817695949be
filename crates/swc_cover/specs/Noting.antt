-- Which faults a check records in the buffer, in which order, and what it refuses.
use Rattle.std.specs.Prelude.{◌≡◌, ◌≢◌, true, false, if◌then◌else◌, List, [], ◌∷◌, map, Option, Some, None, Result, MatchResult}
use Rattle.swc_context.specs.{Spans.in_order, declared.context.Context.Context, declared.error.Error.Error, declared.error.SyntaxError.SyntaxError, declared.span.Span.Span}
use Rattle.swc_context.specs.declared.error.SyntaxError.TheVariants as kind
use Rattle.swc_input.specs.Buffer.{source, state_of, with_source}
use Rattle.swc_input.specs.Recordings.{Judges, NotesAll, RefusesAfter}
use Rattle.swc_input.specs.Source.{Model, Source, with_module_error}
use Rattle.swc_input.specs.declared.buffer.Buffer.{Buffer}
use Rattle.swc_ast.specs.Tree.{Trees}
use Rattle.swc_cover.specs.{Faults.Verdict, ReservedNames.all_reserved, declared.faults.Fault.Fault, declared.faults.FaultKind.FaultKind, declared.faults.FaultKind.FaultKind as fault}

-- as what a fault is recorded
abbrev pub kind_is : FaultKind → SyntaxError
kind_is fault.NotSimpleAssign = kind.NotSimpleAssign
kind_is fault.TS2406 = kind.TS2406
kind_is fault.InvalidPat = kind.InvalidPat
kind_is fault.NonLastRestParam = kind.NonLastRestParam
kind_is fault.CommaAfterRestElement = kind.CommaAfterRestElement
kind_is fault.TS1014 = kind.TS1014
kind_is fault.TS1048 = kind.TS1048
kind_is fault.DotsWithoutIdentifier = kind.DotsWithoutIdentifier

-- and with the ends of its place in order
abbrev pub error_of : Fault → Error
error_of f = record { span = in_order f.span; kind = kind_is f.kind }

abbrev pub errors_of : List Fault → List Error
errors_of fs = map error_of fs

-- the refusal of a property at the place, if there is one
abbrev pub no_pattern : Span → Error
no_pattern s = record { span = in_order s; kind = kind.InvalidPat }

abbrev pub refusal_of : Option Span → Option Error
refusal_of None = None
refusal_of (Some s) = Some (no_pattern s)

-- the faults of names that parameters bind in strict code and may not
abbrev pub name_error : Span → Error
name_error s = record { span = s; kind = kind.EvalAndArgumentsInStrict }

abbrev pub names_bound : {F C K : Type 0} → Context → Trees F C K → List Error
names_bound c ps = if c.strict then map name_error (all_reserved ps) else []

-- the state once the faults, which are some in modules alone, are recorded, or wait
abbrev pub with_module_errors : List Error → Source → Source
with_module_errors [] s = s
with_module_errors (e ∷ es) s = with_module_errors es (with_module_error e s)

module _ {S : Type 0} (model : Model S) where
  -- The faults were recorded, or wait outside modules, and no others; where errors are ignored nothing is done. Nothing
  -- is read.
  pub record NotesStrict (es : List Error) (b c : Buffer S) : Type 0 where
    pub heeded : (state_of model b).context.ignore_error ≡ false
        → state_of model c ≡ with_module_errors es (state_of model b)
    pub ignored : (state_of model b).context.ignore_error ≡ true → c ≡ b
    pub rest : c ≡ with_source (source c) b

  -- What the verdict has was recorded, in its order, or refused, or memory ran out.
  abbrev pub JudgesBy : {T : Type 0} → Verdict → Buffer S → Result T Error → Buffer S → Type 0
  JudgesBy v b r c = Judges model (errors_of v.faults) (refusal_of v.refused) b r c

  -- What the verdict has was recorded, and then the names were noted that may not be bound.
  pub record NotesParams (v : Verdict) (names : List Error) (b c : Buffer S) : Type 0 where
    pub none : refusal_of v.refused ≡ None
    pub noted : Buffer S
    pub notes : NotesAll model (errors_of v.faults) b noted
    pub strict : NotesStrict names noted c

  abbrev pub JudgesParams : {T : Type 0} → Verdict → List Error → Buffer S → Result T Error → Buffer S → Type 0
  JudgesParams v names b r c = MatchResult r (λ t. NotesParams v names b c)
      (λ e. e.kind ≢ kind.OutOfMemory → RefusesAfter model (errors_of v.faults) (refusal_of v.refused) b e c)
