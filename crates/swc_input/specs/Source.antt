-- A source of tokens, as contracts see it.
use Rattle.std.specs.Prelude.{◌≡◌, ◌≢◌, ℕ, ◌+◌, ◌<◌, ◌≤◌, Bool, true, false, List, [], ◌∷◌, ◌++◌, Option, Some, None, All, MatchOption}
use Rattle.swc_context.specs.{declared.context.Context.Context, declared.context.EsVersion.EsVersion, declared.context.Syntax.Syntax, declared.error.Error.Error, declared.error.SyntaxError.TheVariants.OutOfMemory, declared.span.BytePos.BytePos}
use Rattle.swc_input.specs.{declared.token.TokenAndSpan.TokenAndSpan, Plain.plain}

-- one state of a source
pub record Source : Type 0 where
  pub context : Context
  pub syntax : Syntax
  pub target : EsVersion
  -- the faults that were recorded, and the faults of modules that wait for the context to become one
  pub errors : List Error
  pub waiting : List Error
  -- the source ran out of memory
  pub failed : Bool
  -- the end was given, so no token comes any more
  pub ended : Bool
  -- of a listed source: the tokens still to come
  pub known : Option (List TokenAndSpan)
  -- no more tokens than this are still to come
  pub bound : ℕ

-- of faults that were waiting, or of a new one, those that a context records, and those that it keeps waiting
abbrev pub recorded_in : Bool → List Error → List Error
recorded_in true es = es
recorded_in false es = []

abbrev pub waiting_in : Bool → List Error → List Error
waiting_in true es = []
waiting_in false es = es

-- the state once the context is c: in a module the faults that waited are recorded
abbrev pub with_context : Context → Source → Source
with_context c s = record s {
  context = c;
  errors = s.errors ++ recorded_in c.module s.waiting;
  waiting = waiting_in c.module s.waiting;
}

-- the state once the fault e is recorded
abbrev pub with_error : Error → Source → Source
with_error e s = record s { errors = s.errors ++ e ∷ [] }

-- the state once e, a fault in modules alone, is recorded, or waits
abbrev pub with_module_error : Error → Source → Source
with_module_error e s = record s {
  errors = s.errors ++ recorded_in s.context.module (e ∷ []);
  waiting = s.waiting ++ waiting_in s.context.module (e ∷ []);
}

-- the context c, a module's, where faults wait outside one
abbrev pub HeldBack : Context → Source → Type 0
HeldBack c s = (s.context.module ≡ false) × (c.module ≡ true) × (s.waiting ≢ [])

-- how many tokens more a hint may bring: the slash at which a regular expression begins may come once more; a hint that
-- none begins brings none
abbrev pub hint_brings : Option BytePos → ℕ
hint_brings None = 0
hint_brings (Some start) = 1

-- the hint was given, and nothing changed but how many tokens may come
abbrev pub Hinted : Option BytePos → Source → Source → Type 0
Hinted start s t = (b : ℕ) × (t ≡ record s { bound = b }) × (b ≤ s.bound + hint_brings start)

-- In a module no fault waits. A listed source gives all its tokens before its end; it fails only when it is out of
-- memory, and an end that it gives is no failure.
pub record IsLawful (s : Source) : Type 0 where
  pub none_waits : s.context.module ≡ true → s.waiting ≡ []
  pub over : (m : List TokenAndSpan) → s.known ≡ Some m → s.ended ≡ true → m ≡ []

abbrev pub IsFault : Error → Type 0
IsFault e = e.kind ≢ OutOfMemory

-- fs are the faults es and then more, of which none is out of memory
pub record Keeps (es fs : List Error) : Type 0 where
  pub more : List Error
  pub added : fs ≡ es ++ more
  pub faults : All IsFault more

-- what asking for a token leaves as it is, whether one came or not
pub record Keeping (s t : Source) : Type 0 where
  pub context : t.context ≡ s.context
  pub errors : Keeps s.errors t.errors
  pub waiting : Keeps s.waiting t.waiting
  -- a listed source records nothing by itself
  pub quiet : (m : List TokenAndSpan) → s.known ≡ Some m → (t.errors ≡ s.errors) × (t.waiting ≡ s.waiting)

-- between s and t one token was asked for, and given: by a source that hasn't failed, and doesn't
pub record GivesToken (s t : Source) : Type 0 where
  pub keeping : Keeping s t
  pub runs : (s.failed ≡ false) × (t.failed ≡ false)
  pub lower : t.bound < s.bound

-- between s and t one token was asked for, and none given: the end, unless the source has failed
pub record GivesEnd (s t : Source) : Type 0 where
  pub keeping : Keeping s t
  pub ended : t.failed ≡ false → t.ended ≡ true
  pub lower : t.bound ≤ s.bound

-- between s and t the tokens xs were given, by any calls
pub record Gave (s : Source) (xs : List TokenAndSpan) (t : Source) : Type 0 where
  pub syntax : t.syntax ≡ s.syntax
  pub target : t.target ≡ s.target
  -- after the end nothing comes
  pub ended : s.ended ≡ true → xs ≡ []
  pub stays : s.ended ≡ true → t.ended ≡ true
  -- a source that has failed gives nothing any more, and has failed from then on
  pub failed : s.failed ≡ true → (xs ≡ []) × (t.failed ≡ true)
  -- a listed source gives its list
  pub known : (m : List TokenAndSpan) → s.known ≡ Some m → (n : List TokenAndSpan) × (t.known ≡ Some n) × (m ≡ xs ++ n)
  pub unknown : s.known ≡ None → t.known ≡ None

-- a hint to a source: whether an expression may begin; where a regular expression begins, or that none does
pub data Hint : Type 0 where
  expression : Bool → Hint
  regexp : Option BytePos → Hint

abbrev pub given_one : Option TokenAndSpan → List TokenAndSpan
given_one None = []
given_one (Some t) = plain t ∷ []

-- What a source is to contracts: its states, and that calls led from one state to another and gave these tokens between
-- them.
pub record Model (S : Type 0) : Type 1 where
  pub state : S → Source
  pub gives : S → List TokenAndSpan → S → Type 0
  -- and that a hint led from one to another
  pub told : S → Hint → S → Type 0

-- the laws of a source
pub record Laws {S : Type 0} (model : Model S) : Type 0 where
  pub lawful : (s : S) → IsLawful (model.state s)
  -- where nothing was asked, nothing was given
  pub none : (s : S) → model.gives s [] s
  -- what calls gave one after another
  pub joins : (s t u : S) (xs ys : List TokenAndSpan) → model.gives s xs t → model.gives t ys u
      → model.gives s (xs ++ ys) u
  pub gave : (s t : S) (xs : List TokenAndSpan) → model.gives s xs t → Gave (model.state s) xs (model.state t)

-- between s and t no token was given, and the state is the same
pub record Unmoved {S : Type 0} (model : Model S) (s t : S) : Type 0 where
  pub gave : model.gives s [] t
  pub state : model.state t ≡ model.state s

-- a call of `next` that answered r
pub record Asked {S : Type 0} (model : Model S) (s : S) (r : Option TokenAndSpan) (t : S) : Type 0 where
  pub gave : model.gives s (given_one r) t
  pub token : MatchOption r (GivesEnd (model.state s) (model.state t)) (λ x. GivesToken (model.state s) (model.state t))
