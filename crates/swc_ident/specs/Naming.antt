-- What the calls on names do.
use Rattle.std.specs.Prelude.{◌≡◌, ℕ, true, false, List, [], ◌∷◌, Option, Some, None, MatchOption, MatchResult, Result}
use Rattle.either.specs.{declared.Either.Either, Either.MatchEither}
use Rattle.swc_ast.specs.{declared.ident.BindingIdent.BindingIdent, declared.ident.Ident.Ident, declared.ident.IdentName.IdentName, declared.ident.PrivateName.PrivateName, declared.ident.ModuleExportName.ModuleExportName, declared.ident.ModuleExportName.ModuleExportName as export, declared.lit.Str.Str}
use Rattle.swc_context.specs.{Spans.between, Spans.from_to, Words.word_text, declared.context.Context.Context, declared.error.Error.Error, declared.error.SyntaxError.SyntaxError, declared.error.Wanted.Wanted, declared.error.Wanted.Wanted as wanted, declared.span.BytePos.BytePos, declared.span.Span.Span, declared.word.Word.Word}
use Rattle.swc_context.specs.declared.error.SyntaxError.TheVariants as kind
use Rattle.swc_input.specs.Buffer.{Read, Looked, Bumped, context, current, last_position, previous, source, with_source}
use Rattle.swc_input.specs.Recording.{is_silent, is_fit, unfit, Recorded, Refused}
use Rattle.swc_input.specs.{declared.buffer.Buffer.Buffer, declared.token.Token.Token, declared.token.Token.Token as token, declared.token.TokenAndSpan.TokenAndSpan, Kinds.at_token, Kinds.is_hash, Source.Model, Source.with_module_error}
use Rattle.swc_ident.specs.Verdicts.{Fault, now, in_modules, Verdict, is_word, is_str, is_bindable, name_of_any, binding_verdict}

-- how a call judges a word
abbrev pub Judges : Type 0
Judges = Context → Word → Verdict

abbrev pub fault_at : Span → SyntaxError → Error
fault_at at k = record { span = at; kind = k }

-- the place of the current token, and at the end that of the token consumed last
abbrev pub place_here : {S : Type 0} → Buffer S → Span
place_here b = elim (current b) [ None ↦ previous b | Some t ↦ t.span ]

-- what an error says that is expected, or that is missed
abbrev pub expects : SyntaxError → Option Wanted
expects (kind.Expected what) = Some what
expects k = None

abbrev pub misses : SyntaxError → Option Wanted
misses (kind.Unexpected what) = Some what
misses k = None

module _ {S : Type 0} (model : Model S) where
  -- the faults were recorded, or set waiting, at the place and in their order; those that are silenced leave nothing
  pub data Notes (at : Span) : List Fault → Buffer S → Buffer S → Type 0 where
    none-noted : {b : Buffer S} → Notes at [] b b
    now-silent : {b c : Buffer S} {k : SyntaxError} {fs : List Fault} → is_silent (model.state (source b)) ≡ true
        → Notes at fs b c → Notes at (now k ∷ fs) b c
    now-recorded : {b c d : Buffer S} {k : SyntaxError} {fs : List Fault} → is_silent (model.state (source b)) ≡ false
        → Recorded model b (fault_at at k) c → Notes at fs c d → Notes at (now k ∷ fs) b d
    later-ignored : {b c : Buffer S} {k : SyntaxError} {fs : List Fault} → (context model b).ignore_error ≡ true
        → Notes at fs b c → Notes at (in_modules k ∷ fs) b c
    later-noted : {b c d : Buffer S} {k : SyntaxError} {fs : List Fault} → (context model b).ignore_error ≡ false
        → c ≡ with_source (source c) b →
        model.state (source c) ≡ with_module_error (fault_at at k) (model.state (source b)) → Read model b [] c
        → Notes at fs c d → Notes at (in_modules k ∷ fs) b d

  -- from b a token was looked at, and consumed; a word; a `#`; a string
  pub record Passed (b : Buffer S) (t : Token) (at : Span) (c : Buffer S) : Type 0 where
    pub here : Buffer S
    pub looked : Looked model b here
    pub took : Bumped model here t c
    pub place : at ≡ took.was.span

  abbrev pub Spoken : Buffer S → Word → Span → Buffer S → Type 0
  Spoken b w at c = Passed b (token.Word w) at c

  abbrev pub Hashed : Buffer S → Span → Buffer S → Type 0
  Hashed b at c = Passed b token.Hash at c

  abbrev pub Quoted : List ℕ → List ℕ → Span → Buffer S → Buffer S → Type 0
  Quoted value raw at b c = Passed b (token.Str value raw) at c

  -- a word was taken as a name: its text and its place are the answer's, and its faults were noted
  pub record Named (judge : Judges) (text : List ℕ) (at : Span) (b c : Buffer S) : Type 0 where
    pub name : Word
    pub spoken : Buffer S
    pub said : Spoken b name at spoken
    pub spelled : text ≡ word_text name
    pub accepts : (judge (context model b) name).refusal ≡ None
    pub noted : Notes at (judge (context model b) name).faults spoken c
    pub consumed : List TokenAndSpan
    pub read : Read model b consumed c

  -- Why no name was answered: out of memory; an error token, or the end; a token that is no word; or a word that isn't
  -- taken, which was consumed, and whose faults were noted.
  pub data Unnamed (judge : Judges) (b : Buffer S) (e : Error) (c : Buffer S) : Type 0 where
    no_memory : (xs : List TokenAndSpan) → Read model b xs c → e.kind ≡ kind.OutOfMemory → Unnamed judge b e c
    not_fit : (r : Refused model b (λ here. unfit (current here) (last_position here) kind.Eof) e c)
        → is_fit (current r.here) ≡ false → Unnamed judge b e c
    no_word : (r : Refused model b (λ here. fault_at (place_here here) kind.ExpectedIdent) e c)
        → is_fit (current r.here) ≡ true → at_token is_word (current r.here) ≡ false → Unnamed judge b e c
    refused_word : {w : Word} {k : SyntaxError} {at : Span} {spoken noted : Buffer S} → Spoken b w at spoken
        → (judge (context model b) w).refusal ≡ Some k →
        Notes at (judge (context model b) w).faults spoken noted → Refused model noted (λ here. fault_at at k) e c
        → Unnamed judge b e c

  -- Why a word that may be bound where it is isn't: memory ran out; or the table refuses the word, which was consumed,
  -- and whose faults were noted. So the end and an error token are never refused.
  pub data Unbindable (b : Buffer S) (e : Error) (c : Buffer S) : Type 0 where
    no_memory_to_bind : (xs : List TokenAndSpan) → Read model b xs c → e.kind ≡ kind.OutOfMemory → Unbindable b e c
    refused_binding : {w : Word} {k : SyntaxError} {at : Span} {spoken noted : Buffer S} → Spoken b w at spoken →
        is_bindable (context model b) (token.Word w) ≡ true → (binding_verdict (context model b) w).refusal ≡ Some k →
        Notes at (binding_verdict (context model b) w).faults spoken noted
        → Refused model noted (λ here. fault_at at k) e c → Unbindable b e c

  -- a name, or why there is none
  abbrev pub Names : {T : Type 0} → Judges → (T → List ℕ) → (T → Span) → Buffer S → Result T Error → Buffer S → Type 0
  Names judge text at b r c = MatchResult r (λ t. Named judge (text t) (at t) b c) (λ e. Unnamed judge b e c)

  -- where the next token begins; at the end, where the token consumed last ends
  abbrev pub next_begins : Buffer S → BytePos
  next_begins b = (elim (current b) [ None ↦ last_position b | Some t ↦ t.span.lo ])

  -- a private name: `#`, and a name that begins where it ends
  pub record Private (text : List ℕ) (at : Span) (b c : Buffer S) : Type 0 where
    pub hash : Span
    pub hashed : Buffer S
    pub sign : Hashed b hash hashed
    pub near : Buffer S
    pub looked : Looked model hashed near
    -- where none is current, none is left
    pub end : current near ≡ None → (model.state (source near)).ended ≡ true
    pub joined : next_begins near ≡ hash.hi
    pub word : Span
    pub name : Named name_of_any text word near c
    pub place : at ≡ from_to hash.lo word.hi

  -- why there is none: also a token that is no `#`, and a name that doesn't begin there
  pub data Unprivate (b : Buffer S) (e : Error) (c : Buffer S) : Type 0 where
    no_memory_either : (xs : List TokenAndSpan) → Read model b xs c → e.kind ≡ kind.OutOfMemory → Unprivate b e c
    no_hash : {k : SyntaxError} (r : Refused model b (λ here. unfit (current here) (last_position here) k) e c)
        → expects k ≡ Some wanted.Hash → at_token is_hash (current r.here) ≡ false → Unprivate b e c
    apart : {hash : Span} {hashed : Buffer S} → Hashed b hash hashed →
        (r : Refused model hashed (λ here. fault_at (between hash.lo hash.hi) kind.SpaceBetweenHashAndIdent) e c)
        → (next_begins r.here ≡ hash.hi → ⊥) → Unprivate b e c
    no_name : {hash : Span} {hashed near : Buffer S} → Hashed b hash hashed → Looked model hashed near
        → next_begins near ≡ hash.hi → Unnamed name_of_any near e c → Unprivate b e c

  abbrev pub PrivateNames : {T : Type 0} → (T → List ℕ) → (T → Span) → Buffer S → Result T Error → Buffer S → Type 0
  PrivateNames text at b r c = MatchResult r (λ t. Private (text t) (at t) b c) (λ e. Unprivate b e c)

  -- a private name at `#`, else a name: why there is neither
  pub record Neither (b : Buffer S) (e : Error) (c : Buffer S) : Type 0 where
    pub here : Buffer S
    pub looked : Looked model b here
    pub at_hash : at_token is_hash (current here) ≡ true → Unprivate here e c
    pub elsewhere : at_token is_hash (current here) ≡ false → Unnamed name_of_any here e c

  -- why there is neither a name nor a string
  pub data Unexported (b : Buffer S) (e : Error) (c : Buffer S) : Type 0 where
    no_memory_for_it : (xs : List TokenAndSpan) → Read model b xs c → e.kind ≡ kind.OutOfMemory → Unexported b e c
    no_string : {k : SyntaxError} (r : Refused model b (λ here. unfit (current here) (last_position here) k) e c)
        → misses k ≡ Some wanted.IdentOrStr →
        at_token is_word (current r.here) ≡ false → at_token is_str (current r.here) ≡ false → Unexported b e c

  -- a word that may be bound there is bound; before anything else nothing is consumed
  abbrev pub Unbound : Buffer S → Buffer S → Type 0
  Unbound b c = Looked model b c × (at_token (is_bindable (context model b)) (current c) ≡ false)

  pub record Bound (text : List ℕ) (at : Span) (b c : Buffer S) : Type 0 where
    pub named : Named binding_verdict text at b c
    pub may : is_bindable (context model b) (token.Word named.name) ≡ true

-- the name is a word, or a string
abbrev pub MatchExport : ModuleExportName → (Ident → Type 0) → (Str → Type 0) → Type 0
MatchExport (export.Ident i) P Q = P i
MatchExport (export.Str s) P Q = Q s

module _ {S : Type 0} (model : Model S) where
  -- what the calls answer, beside why there is none: an identifier, a name that is bound, a name of any word, a private
  -- name
  abbrev pub Identifies : Judges → Buffer S → Result Ident Error → Buffer S → Type 0
  Identifies judge b r c = Names model judge (λ i. i.sym) (λ i. i.span) b r c

  abbrev pub Binds : Judges → Buffer S → Result BindingIdent Error → Buffer S → Type 0
  Binds judge b r c = Names model judge (λ i. i.id.sym) (λ i. i.id.span) b r c

  abbrev pub Spells : Judges → Buffer S → Result IdentName Error → Buffer S → Type 0
  Spells judge b r c = Names model judge (λ i. i.sym) (λ i. i.span) b r c

  abbrev pub SpellsPrivate : Buffer S → Result PrivateName Error → Buffer S → Type 0
  SpellsPrivate b r c = PrivateNames model (λ p. p.name) (λ p. p.span) b r c

  -- a private name at `#`, else a name
  abbrev pub SpellsEither : Buffer S → Result (Either PrivateName IdentName) Error → Buffer S → Type 0
  SpellsEither b r c = MatchResult r
      (λ x. MatchEither x (λ p. Private model p.name p.span b c) (λ n. Named model name_of_any n.sym n.span b c))
      (λ e. Neither model b e c)

  -- a name, or a string
  abbrev pub Exports : Buffer S → Result ModuleExportName Error → Buffer S → Type 0
  Exports b r c = MatchResult r
      (λ x. MatchExport x (λ i. Named model name_of_any i.sym i.span b c) (λ s. Quoted model s.value s.raw s.span b c))
      (λ e. Unexported model b e c)

  -- a name that may be bound, or none
  abbrev pub BindsIfBindable : Buffer S → Result (Option BindingIdent) Error → Buffer S → Type 0
  BindsIfBindable b r c = MatchResult r
      (λ o. MatchOption o (Unbound model b c) (λ i. Bound model i.id.sym i.id.span b c))
      (λ e. Unbindable model b e c)
