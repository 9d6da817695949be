-- What the steps of the calls on names do.
use Rattle.std.specs.Prelude.{◌≡◌, ℕ, true, List, [], ◌∷◌, Result, MatchResult}
use Rattle.swc_context.specs.{declared.context.Context.Context, declared.error.Error.Error, declared.span.Span.Span, declared.word.Word.Word}
use Rattle.swc_context.specs.declared.error.SyntaxError.TheVariants as kind
use Rattle.swc_input.specs.{declared.buffer.Buffer.Buffer, declared.token.TokenAndSpan.TokenAndSpan, Source.Model, Buffer.Read}
use Rattle.swc_ident.specs.Verdicts.{Fault, now, in_modules, ident_verdict}
use Rattle.swc_ident.specs.{declared.words.Mark.Mark, declared.words.Mark.Mark as mark, Naming.Notes}

-- the faults of a word that is so marked
abbrev pub faults_of : Mark → List ℕ → List Fault
faults_of mark.Clean w = []
faults_of mark.Reserved w = now (kind.InvalidIdentInStrict w) ∷ []
faults_of mark.Strict w = in_modules (kind.InvalidIdentInStrict w) ∷ []
faults_of mark.Arguments w = now kind.ArgumentsInClassField ∷ []

-- the faults of a word where an identifier is wanted
abbrev pub word_faults : Context → Word → List Fault
word_faults c w = (ident_verdict true true c w).faults

module _ {S : Type 0} (model : Model S) where
  -- out of memory, whatever was consumed
  pub record Forgone (b : Buffer S) (e : Error) (c : Buffer S) : Type 0 where
    pub consumed : List TokenAndSpan
    pub read : Read model b consumed c
    pub kind : e.kind ≡ kind.OutOfMemory

  -- the faults were noted, or memory ran out
  abbrev pub Noting : {T : Type 0} → Span → List Fault → Buffer S → Result T Error → Buffer S → Type 0
  Noting at fs b r c = MatchResult r (λ u. Notes model at fs b c) (λ e. Forgone b e c)
