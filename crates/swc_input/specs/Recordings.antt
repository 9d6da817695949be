-- Several faults that are recorded one after another, and a refusal after them.
use Rattle.std.specs.Prelude.{◌≡◌, ◌≢◌, true, false, List, [], ◌∷◌, Option, Some, None, Result, MatchResult}
use Rattle.swc_context.specs.{declared.error.Error.Error, declared.error.SyntaxError.SyntaxError as kind}
use Rattle.swc_input.specs.Recording.{is_silent, Recorded, Refused}
use Rattle.swc_input.specs.{declared.buffer.Buffer.Buffer, Source.Model, Buffer.source}

module _ {S : Type 0} (model : Model S) where
  -- The faults were recorded, one after another, and nothing else; each after the error of a current error token, which
  -- was consumed.
  abbrev pub RecordsAll : List Error → Buffer S → Buffer S → Type 0
  RecordsAll [] b c = c ≡ b
  RecordsAll (e ∷ es) b c = (d : Buffer S) × Recorded model b e d × RecordsAll es d c

  -- Where faults are recorded: these were, and no others. Elsewhere nothing was done.
  pub record NotesAll (es : List Error) (b c : Buffer S) : Type 0 where
    pub loud : is_silent (model.state (source b)) ≡ false → RecordsAll es b c
    pub silent : is_silent (model.state (source b)) ≡ true → c ≡ b

  -- The faults were recorded, and no others, and then the error was refused that there is to refuse.
  pub record RefusesAfter (es : List Error) (o : Option Error) (b : Buffer S) (e : Error) (c : Buffer S) : Type 0 where
    pub fault : Error
    pub is : o ≡ Some fault
    pub noted : Buffer S
    pub notes : NotesAll es b noted
    pub refused : Refused model noted (λ here. fault) e c

  -- The faults were recorded, and no others, and there is nothing to refuse; or it was refused then; or memory ran out.
  abbrev pub Judges : {T : Type 0} → List Error → Option Error → Buffer S → Result T Error → Buffer S → Type 0
  Judges es o b r c = MatchResult r (λ t. (o ≡ None) × NotesAll es b c)
      (λ e. e.kind ≢ kind.OutOfMemory → RefusesAfter es o b e c)
