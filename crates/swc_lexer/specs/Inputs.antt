-- A text as a source: a listed one, whose list is the tokens of the text, where no token has a fault of strict code.
use Rattle.std.specs.Prelude.{◌≡◌, ℕ, ◌+◌, ◌<◌, ◌≤◌, Bool, true, false, not, ◌&&◌, ◌||◌, if◌then◌else◌, List, [], ◌∷◌, ◌++◌, Option, Some, None, map, length}
use Rattle.std.specs.Option.{is_some}
use Rattle.std.proofs.lemmas.List.Elements.{All-cons, All-nil}
use Rattle.std.proofs.Common.{refl, ap, sym, ◌∙◌, append_assoc, arith, subst}
use Rattle.swc_context.specs.{declared.context.Context.Context, declared.context.EsVersion.EsVersion, declared.context.Syntax.Syntax, declared.context.TokenContexts.TokenContexts, declared.error.Error.Error, declared.error.SyntaxError.LegacyOctal, declared.error.SyntaxError.LegacyDecimal, declared.span.Span.Span}
use Rattle.swc_input.specs.{Laws.keeps_same, Plain.plain, declared.listed.TokensInput.TokensInput, declared.token.Token.Token, declared.token.TokenAndSpan.TokenAndSpan}
use Rattle.swc_input.specs.Listed.{first_nil, listed_state, listed_lawful, ListedGives}
use Rattle.swc_input.specs.Source.{Source, Model, Laws, Keeping, Keeps, IsFault, Gave, Asked, Unmoved, with_error, with_module_error, recorded_in, waiting_in}
use Rattle.swc_lexer.specs.{declared.input.SourceText.Ghosts, declared.input.TextInput.TextInput, declared.reader.End.End, declared.stack.Start.Start}
use Rattle.swc_lexer.specs.Legacy.{noted, fault, in_string_by, in_token, legacy_of, is_legacy_token, any_legacy}
use Rattle.swc_lexer.specs.Readings.{Reading, Gives, gave, stopped, bound, next_of, tokens_from, tokens_of, first, kind_in, reading_of}
use Rattle.swc_lexer.specs.Coming.{from_next, from_end, next_ended, bound_ended}
use Rattle.swc_input.specs.declared.token.Token.TheVariants as token

-- the token that couldn't be given, since there was no memory to record its fault
abbrev pub held_list : Option TokenAndSpan → List TokenAndSpan
held_list None = []
held_list (Some t) = t ∷ []

abbrev pub is_over : Bool → Option TokenAndSpan → Bool
is_over ended held = ended && not (is_some held)

-- the list of a source, which is listed where no token has such a fault: since it records the fault of one that has
abbrev pub known_if : Bool → List TokenAndSpan → Option (List TokenAndSpan)
known_if true ts = None
known_if false ts = Some ts

abbrev pub known_of : List TokenAndSpan → Option (List TokenAndSpan)
known_of ts = known_if (any_legacy ts) (map plain ts)

-- all tokens of a text, from a place on
abbrev pub all_of : End → ℕ → Start → List ℕ → Context → List TokenAndSpan
all_of e at s bs c = map plain (tokens_of e at s (kind_in c) bs)

-- a source that nothing was asked of
abbrev pub new_state : End → ℕ → Start → List ℕ → Context → Syntax → EsVersion → Source
new_state e at s bs c x v = record {
  context = c;
  syntax = x;
  target = v;
  errors = [];
  waiting = [];
  failed = false;
  ended = false;
  known = known_of (tokens_of e at s (kind_in c) bs);
  bound = bound bs (first bs at s (kind_in c));
}

-- of a text without numbers and escapes of old scripts it is listed
pub new_known : (e : End) (at : ℕ) (s : Start) (bs : List ℕ) (c : Context) (x : Syntax) (v : EsVersion)
    → any_legacy (tokens_of e at s (kind_in c) bs) ≡ false →
    (new_state e at s bs c x v).known ≡ Some (map plain (tokens_of e at s (kind_in c) bs))
new_known e at s bs c x v h = ap (λ b. known_if b (map plain (tokens_of e at s (kind_in c) bs))) h

-- ---- `next`

or_none : (b : Bool) (o : Option Error) → o ≡ None → b ≡ (b || is_some o)
or_none true o h = refl
or_none false o h = sym (ap is_some h)

or_some : (b : Bool) (o : Option Error) (e : Error) → o ≡ Some e → true ≡ (b || is_some o)
or_some true o e h = refl
or_some false o e h = sym (ap is_some h)

-- ---- the laws

pub known_some : (b : Bool) (l m : List TokenAndSpan) → known_if b l ≡ Some m → (b ≡ false) × (l ≡ m)
known_some true l m h = cc
known_some false l m h = (refl, (cc))

known_none : (b : Bool) (l : List TokenAndSpan) → known_if b l ≡ None → b ≡ true
known_none true l h = refl
known_none false l h = cc

not_over : (held : Option TokenAndSpan) (ended : Bool) → is_over ended held ≡ true → (ended ≡ true) × (held ≡ None)
not_over None true h = (refl, refl)
not_over None false h = cc
not_over (Some t) true h = cc
not_over (Some t) false h = cc

-- ---- what a fault of strict code changes

abbrev IsNoted : Option Error → Type 0
IsNoted None = Unit {0}
IsNoted (Some e) = IsFault e

number_noted : (a b : Bool) (s : Span)
    → IsNoted (if a then Some (fault s LegacyOctal) else if b then Some (fault s LegacyDecimal) else None)
number_noted true b s = λ h. cc
number_noted false true s = λ h. cc
number_noted false false s = tt

string_noted : (a b : Bool) (s : Span)
    → IsNoted (if a then Some (fault s (if b then LegacyDecimal else LegacyOctal)) else None)
string_noted true true s = λ h. cc
string_noted true false s = λ h. cc
string_noted false b s = tt

quote_noted : (s : Span) (q : Option ℕ) (raw : List ℕ) → IsNoted (in_string_by s q raw)
quote_noted s None raw = tt
quote_noted s (Some q) raw = string_noted _ _ _

token_noted : (s : Span) (t : Token) → IsNoted (in_token s t)
token_noted s (token.Num raw) = number_noted _ _ s
token_noted s (token.Str value raw) = quote_noted s _ raw
token_noted s t = tt

abbrev noted_by : Bool → Error → Source → Source
noted_by b e s = if b then with_error e s else with_module_error e s

keeps_one : (es : List Error) (e : Error) → IsFault e → Keeps es (es ++ e ∷ [])
keeps_one es e f = record { more = e ∷ []; added = refl; faults = All-cons IsFault e [] f (All-nil IsFault) }

keeps_none : (es : List Error) → Keeps es (es ++ [])
keeps_none es = record { more = []; added = refl; faults = All-nil IsFault }

keeps_recorded : (m : Bool) (es : List Error) (e : Error) → IsFault e → Keeps es (es ++ recorded_in m (e ∷ []))
keeps_recorded true es e f = keeps_one es e f
keeps_recorded false es e f = keeps_none es

keeps_waiting : (m : Bool) (es : List Error) (e : Error) → IsFault e → Keeps es (es ++ waiting_in m (e ∷ []))
keeps_waiting true es e f = keeps_none es
keeps_waiting false es e f = keeps_one es e f

errors_by : (b : Bool) (e : Error) (s : Source) → IsFault e → Keeps s.errors (noted_by b e s).errors
errors_by true e s f = keeps_one s.errors e f
errors_by false e s f = keeps_recorded s.context.module s.errors e f

waiting_by : (b : Bool) (e : Error) (s : Source) → IsFault e → Keeps s.waiting (noted_by b e s).waiting
waiting_by true e s f = keeps_same s.waiting s.waiting refl
waiting_by false e s f = keeps_waiting s.context.module s.waiting e f

-- what it leaves as it is
record Beside (s t : Source) : Type 0 where
  context : t.context ≡ s.context
  syntax : t.syntax ≡ s.syntax
  target : t.target ≡ s.target

beside_by : (b : Bool) (e : Error) (s : Source) → Beside s (noted_by b e s)
beside_by true e s = record { context = refl; syntax = refl; target = refl }
beside_by false e s = record { context = refl; syntax = refl; target = refl }

beside : (o : Option Error) (s : Source) → Beside s (noted o s)
beside None s = record { context = refl; syntax = refl; target = refl }
beside (Some e) s = beside_by s.context.strict e s

errors_kept : (o : Option Error) (s : Source) → IsNoted o → Keeps s.errors (noted o s).errors
errors_kept None s f = keeps_same s.errors s.errors refl
errors_kept (Some e) s f = errors_by s.context.strict e s f

waiting_kept : (o : Option Error) (s : Source) → IsNoted o → Keeps s.waiting (noted o s).waiting
waiting_kept None s f = keeps_same s.waiting s.waiting refl
waiting_kept (Some e) s f = waiting_by s.context.strict e s f

quiet_noted : (o : Option Error) (s : Source) → is_some o ≡ false
    → ((noted o s).errors ≡ s.errors) × ((noted o s).waiting ≡ s.waiting)
quiet_noted None s h = (refl, refl)
quiet_noted (Some e) s h = cc

-- ---- what a call of `next` gives

or_assoc : (a b c : Bool) → ((a || b) || c) ≡ (a || (b || c))
or_assoc true b c = refl
or_assoc false b c = refl

or_first : (a b : Bool) → (a || b) ≡ false → (a ≡ false) × (b ≡ false)
or_first true b h = cc
or_first false b h = (refl, h)

held_len : (o : Option TokenAndSpan) (p : Option TokenAndSpan) → o ≡ p → length (held_list o) ≡ length (held_list p)
held_len o p h = ap (λ x. length (held_list x)) h

none_some : {A B : Type 0} (x : A) → None ≡ Some x → B
none_some x h = let k : ⊥ = cc in absurd k

true_false : {B : Type 0} → true ≡ false → B
true_false h = let k : ⊥ = cc in absurd k

-- over a text, which has bytes
module _ {T : Type 0} {g : Ghosts T} where
  abbrev pub bytes_of : TextInput T g → List ℕ
  bytes_of s = g.bytes s.text

  abbrev pub reading : TextInput T g → Reading
  reading s = reading_of s.reader

  -- the tokens still to come
  abbrev pub to_come : TextInput T g → List TokenAndSpan
  to_come s = held_list s.held ++ tokens_from s.end (bytes_of s) (reading s)

  abbrev pub coming : TextInput T g → List TokenAndSpan
  coming s = map plain (to_come s)

  -- whether a token that was given, or is still to come, has a fault of strict code
  abbrev pub has_legacy : TextInput T g → Bool
  has_legacy s = s.legacy || any_legacy (to_come s)

  -- no more tokens than this are still to come
  abbrev pub left : TextInput T g → ℕ
  left s = length (held_list s.held) + bound (bytes_of s) (reading s)

  abbrev pub text_state : TextInput T g → Source
  text_state s =
      record (listed_state s.notes) {
        failed = s.failed;
        ended = is_over s.reader.ended s.held;
        known = known_if (has_legacy s) (coming s);
        bound = left s;
      }

  -- between two states the tokens xs were given, by some calls
  pub record TextGives (s : TextInput T g) (xs : List TokenAndSpan) (t : TextInput T g) : Type 0 where
    pub list : coming s ≡ xs ++ coming t
    pub legacy : has_legacy t ≡ has_legacy s
    pub stays : is_over s.reader.ended s.held ≡ true → is_over t.reader.ended t.held ≡ true
    pub failed : s.failed ≡ true → (xs ≡ []) × (t.failed ≡ true)
    pub syntax : t.notes.syntax ≡ s.notes.syntax
    pub target : t.notes.target ≡ s.notes.target

  abbrev pub notes_of : TextInput T g → Source
  notes_of s = listed_state s.notes

  -- what a call of `next` leaves as it is
  pub record SameText (s t : TextInput T g) : Type 0 where
    pub text : bytes_of t ≡ bytes_of s
    pub end : t.end ≡ s.end

  -- the token x was read, after others, with faults of strict code or not: it is given, and its fault is recorded; or
  -- this failed
  pub data Hands (legacy : Bool) (notes : Source) (x : TokenAndSpan) : Option TokenAndSpan → TextInput T g → Type 0 where
    handed : {t : TextInput T g} → t.failed ≡ false → t.held ≡ None → t.legacy ≡ (legacy || is_legacy_token x) →
        notes_of t ≡ noted (legacy_of x) notes → Hands legacy notes x (Some x) t
    lost : {t : TextInput T g} → t.failed ≡ true → t.held ≡ Some x → t.legacy ≡ legacy → notes_of t ≡ notes
        → Hands legacy notes x None t

  -- as it is, but for how far it read
  pub record Rests (s t : TextInput T g) : Type 0 where
    pub held : t.held ≡ s.held
    pub legacy : t.legacy ≡ s.legacy
    pub notes : notes_of t ≡ notes_of s

  -- It gave what the text gives next; or nothing more comes; or it failed, or had failed, and gave nothing.
  pub data Takes (s : TextInput T g) : Option TokenAndSpan → TextInput T g → Type 0 where
    gives : {r : Option TokenAndSpan} {t : TextInput T g} (x : TokenAndSpan) → s.held ≡ None → s.failed ≡ false →
        Gives s.end (bytes_of s) (reading s) (Some x) (reading t) → Hands s.legacy (notes_of s) x r t → Takes s r t
    stops : {t : TextInput T g} → s.failed ≡ false → s.held ≡ None → Gives s.end (bytes_of s) (reading s) None (reading t)
        → Rests s t → Takes s None t
    rests : {t : TextInput T g} → t.failed ≡ true → reading t ≡ reading s → Rests s t → Takes s None t

  -- a call of `next` that answered r
  pub record NextText (s : TextInput T g) (r : Option TokenAndSpan) (t : TextInput T g) : Type 0 where
    pub text : SameText s t
    pub token : Takes s r t

  pub hands_none : (l : Bool) (n : Source) (t : TextInput T g) (x : TokenAndSpan) → legacy_of x ≡ None → t.failed ≡ false
      → t.held ≡ None → t.legacy ≡ l →
      notes_of t ≡ n → Hands l n x (Some x) t
  hands_none l n t x none f held legacy notes = handed f held (legacy ∙ or_none l (legacy_of x) none)
      (notes ∙ ap (λ o. noted o n) (sym none))

  pub hands_some : (l : Bool) (n : Source) (t : TextInput T g) (x : TokenAndSpan) (e : Error) → legacy_of x ≡ Some e
      → t.failed ≡ false → t.held ≡ None →
      t.legacy ≡ true → notes_of t ≡ noted (Some e) n → Hands l n x (Some x) t
  hands_some l n t x e some f held legacy notes =
      handed f held (legacy ∙ or_some l (legacy_of x) e some) (notes ∙ ap (λ o. noted o n) (sym some))

  pub hands_lost : (l : Bool) (n : Source) (t : TextInput T g) (x : TokenAndSpan) → t.failed ≡ true → t.held ≡ Some x
      → t.legacy ≡ l → notes_of t ≡ n →
      Hands l n x None t
  hands_lost l n t x f held legacy notes = lost f held legacy notes

  pub next_handed : (s t : TextInput T g) (r : Option TokenAndSpan) (x : TokenAndSpan) (d : Reading) → s.failed ≡ false
      → s.held ≡ None →
      Gives s.end (bytes_of s) (reading s) (Some x) d → bytes_of t ≡ bytes_of s → t.end ≡ s.end → reading t ≡ d
      → Hands s.legacy (notes_of s) x r t → NextText s r t
  next_handed s t r x d f held g text end is hands = record {
    text = record { text = text; end = end };
    token = gives x held f (subst (λ z. Gives s.end (bytes_of s) (reading s) (Some x) z) (sym is) g) hands;
  }

  pub next_stopped : (s t : TextInput T g) → s.failed ≡ false → s.held ≡ None
      → Gives s.end (bytes_of s) (reading s) None (reading t) → bytes_of t ≡ bytes_of s →
      t.end ≡ s.end → t.held ≡ s.held → t.legacy ≡ s.legacy → notes_of t ≡ notes_of s → NextText s None t
  next_stopped s t f none g text end held legacy notes = record {
    text = record { text = text; end = end };
    token = stops f none g (record { held = held; legacy = legacy; notes = notes });
  }

  pub next_failed : (s t : TextInput T g) → t.failed ≡ true → reading t ≡ reading s → bytes_of t ≡ bytes_of s → t.end ≡ s.end
      → t.held ≡ s.held →
      t.legacy ≡ s.legacy → notes_of t ≡ notes_of s → NextText s None t
  next_failed s t f is text end held legacy notes = record {
    text = record { text = text; end = end };
    token = rests f is (record { held = held; legacy = legacy; notes = notes });
  }

  abbrev pub with_contexts : TextInput T g → TokenContexts → TextInput T g
  with_contexts s contexts = record s { notes = record s.notes { contexts = contexts } }

  abbrev pub text_model : Model (TextInput T g)
  text_model = record { state = text_state; gives = TextGives; told = λ s h t. t ≡ s }

  only_held : (s : TextInput T g) → s.held ≡ None → to_come s ≡ tokens_from s.end (bytes_of s) (reading s)
  only_held s h = ap (λ o. held_list o ++ tokens_from s.end (bytes_of s) (reading s)) h

  -- after the end nothing comes
  pub none_left : (s : TextInput T g) → is_over s.reader.ended s.held ≡ true → coming s ≡ []
  none_left s e =
      let o = not_over s.held s.reader.ended e in
      ap (map plain) (only_held s o.1 ∙ from_end s.end (bytes_of s) (reading s)
      (next_ended s.end (bytes_of s) (reading s) o.0))

  text_gave : (s t : TextInput T g) (xs : List TokenAndSpan) → TextGives s xs t → Gave (text_state s) xs (text_state t)
  text_gave s t xs a = record {
    syntax = a.syntax;
    target = a.target;
    ended = λ e. first_nil xs (coming t) (sym (none_left s e) ∙ a.list);
    stays = a.stays;
    failed = a.failed;
    known = λ m h. let k = known_some (has_legacy s) (coming s) m h in
        (coming t, ap (λ b. known_if b (coming t)) (a.legacy ∙ k.0), sym k.1 ∙ a.list);
    unknown = λ h. ap (λ b. known_if b (coming t)) (a.legacy ∙ known_none (has_legacy s) (coming s) h);
  }

  text_joins : (s t u : TextInput T g) (xs ys : List TokenAndSpan) → TextGives s xs t → TextGives t ys u
      → TextGives s (xs ++ ys) u
  text_joins s t u xs ys p q = record {
    list = p.list ∙ ap (λ l. xs ++ l) q.list ∙ sym (append_assoc xs ys (coming u));
    legacy = q.legacy ∙ p.legacy;
    stays = λ e. q.stays (p.stays e);
    failed = λ e. let a = p.failed e in let b = q.failed a.1 in (ap (λ l. l ++ ys) a.0 ∙ b.0, b.1);
    syntax = q.syntax ∙ p.syntax;
    target = q.target ∙ p.target;
  }

  pub untouched : (s : TextInput T g) → TextGives s [] s
  untouched s = record {
    list = refl;
    legacy = refl;
    stays = λ e. e;
    failed = λ e. (refl, e);
    syntax = refl;
    target = refl;
  }

  pub text_laws : Laws text_model
  text_laws = record {
    lawful = λ s. record {
      none_waits = (listed_lawful s.notes).none_waits;
      over = λ m h e. sym (known_some (has_legacy s) (coming s) m h).1 ∙ none_left s e;
    };
    none = untouched;
    joins = text_joins;
    gave = text_gave;
  }

  -- a call of what is kept beside the text
  pub notes_called : (s : TextInput T g) (l : TokensInput) → ListedGives s.notes [] l
      → TextGives s [] (record s { notes = l })
  notes_called s l g = record {
    list = refl;
    legacy = refl;
    stays = λ e. e;
    failed = λ e. (refl, e);
    syntax = g.syntax;
    target = g.target;
  }

  pub text_unmoved : (s : TextInput T g) (contexts : TokenContexts) → Unmoved text_model s (with_contexts s contexts)
  text_unmoved s contexts = record {
    gave = record { list = refl; legacy = refl; stays = λ e. e; failed = λ e. (refl, e); syntax = refl; target = refl };
    state = refl;
  }

  -- the tokens of a text after a call, by the reading that it left
  tokens_by : (s t : TextInput T g) → SameText s t → tokens_from t.end (bytes_of t) (reading t) ≡ tokens_from s.end
      (bytes_of s) (reading t)
  tokens_by s t same = ap (λ e. tokens_from e (bytes_of t) (reading t)) same.end ∙ ap
      (λ b. tokens_from s.end b (reading t)) same.text

  bound_by : (s t : TextInput T g) → SameText s t → bound (bytes_of t) (reading t) ≡ bound (bytes_of s) (reading t)
  bound_by s t same = ap (λ b. bound b (reading t)) same.text

  notes_keeping : (s t : TextInput T g) (o : Option Error) → IsNoted o → notes_of t ≡ noted o (notes_of s) →
      ((m : List TokenAndSpan) → known_if (has_legacy s) (coming s) ≡ Some m → is_some o ≡ false)
      → Keeping (text_state s) (text_state t)
  notes_keeping s t o f is none =
      let b = beside o (notes_of s) in
      record {
        context = ap (λ n. n.context) is ∙ b.context;
        errors = subst (λ n. Keeps s.notes.errors.items n.errors) (sym is) (errors_kept o (notes_of s) f);
        waiting = subst (λ n. Keeps s.notes.module_errors.items n.waiting) (sym is) (waiting_kept o (notes_of s) f);
        quiet = λ m h. let q = quiet_noted o (notes_of s) (none m h) in
            (ap (λ n. n.errors) is ∙ q.0, ap (λ n. n.waiting) is ∙ q.1);
      }

  -- the token x comes next, and then the tokens that come after the call
  module _ (s t : TextInput T g) (x : TokenAndSpan) (same : SameText s t) (none : s.held ≡ None) (runs : s.failed ≡ false)
      (next : next_of s.end (bytes_of s) (reading s) ≡ Some (x, reading t))
      (lower : bound (bytes_of s) (reading t) < bound (bytes_of s) (reading s)) where
    comes_next : to_come s ≡ x ∷ tokens_from t.end (bytes_of t) (reading t)
    comes_next =
        only_held s none ∙ from_next s.end (bytes_of s) (reading s) (reading t) x next lower ∙ ap (λ l. x ∷ l)
        (sym (tokens_by s t same))

    never_over : {A : Type 0} → is_over s.reader.ended s.held ≡ true → A
    never_over e =
        let o = not_over s.held s.reader.ended e in
        none_some (x, reading t) (sym (next_ended s.end (bytes_of s) (reading s) o.0) ∙ next)

    never_failed : {A : Type 0} → s.failed ≡ true → A
    never_failed e = true_false (sym e ∙ runs)

    less_left : (o : Option TokenAndSpan) → t.held ≡ o → left t < length (held_list o) + left s
    less_left o is =
        let a = held_len s.held None none in
        let b = held_len t.held o is in
        let c = bound_by s t same in omega (arith, a, b, c, lower)

    asked_handed : t.failed ≡ false → t.held ≡ None → t.legacy ≡ (s.legacy || is_legacy_token x)
        → notes_of t ≡ noted (legacy_of x) (notes_of s) →
        Asked text_model s (Some x) t
    asked_handed f held legacy notes =
        let now : to_come s ≡ x ∷ to_come t = comes_next ∙ ap (λ l. x ∷ l) (sym (only_held t held)) in
        let b = beside (legacy_of x) (notes_of s) in
        record {
          gave = record {
            list = ap (map plain) now;
            legacy = ap (λ c. c || any_legacy (to_come t)) legacy ∙ or_assoc s.legacy (is_legacy_token x)
                (any_legacy (to_come t))
                ∙ ap (λ l. s.legacy || any_legacy l) (sym now);
            stays = λ e. never_over e;
            failed = λ e. never_failed e;
            syntax = ap (λ n. n.syntax) notes ∙ b.syntax;
            target = ap (λ n. n.target) notes ∙ b.target;
          };
          token = record {
            keeping = notes_keeping s t (legacy_of x) (token_noted x.span x.token) notes
                (λ m h. let k = (known_some (has_legacy s) (coming s) m h).0 in
                let l = (or_first s.legacy (any_legacy (to_come s)) k).1 in
                (or_first (is_legacy_token x) (any_legacy (to_come t)) (ap any_legacy (sym now) ∙ l)).0);
            runs = (runs, f);
            lower = (let l = less_left None held in omega (arith, l));
          };
        }

    asked_lost : t.failed ≡ true → t.held ≡ Some x → t.legacy ≡ s.legacy → notes_of t ≡ notes_of s
        → Asked text_model s None t
    asked_lost f held legacy notes =
        let now : to_come s ≡ to_come t = comes_next ∙ ap (λ o. held_list o ++ tokens_from t.end (bytes_of t) (reading t))
        (sym held) in
        record {
          gave = record {
            list = ap (map plain) now;
            legacy = ap (λ c. c || any_legacy (to_come t)) legacy ∙ ap (λ l. s.legacy || any_legacy l) (sym now);
            stays = λ e. never_over e;
            failed = λ e. never_failed e;
            syntax = ap (λ n. n.syntax) notes;
            target = ap (λ n. n.target) notes;
          };
          token = record {
            keeping = notes_keeping s t None tt notes (λ m h. refl);
            ended = λ h. true_false (sym f ∙ h);
            lower = (let l = less_left (Some x) held in omega (arith, l));
          };
        }

    asked_hands : (r : Option TokenAndSpan) → Hands s.legacy (notes_of s) x r t → Asked text_model s r t
    asked_hands r (handed f held legacy notes) = asked_handed f held legacy notes
    asked_hands r (lost f held legacy notes) = asked_lost f held legacy notes

  -- nothing was read
  asked_none : (s t : TextInput T g) → Rests s t → to_come t ≡ to_come s
      → (is_over s.reader.ended s.held ≡ true → is_over t.reader.ended t.held ≡ true) →
      (s.failed ≡ true → t.failed ≡ true) → (t.failed ≡ false → is_over t.reader.ended t.held ≡ true) → left t ≤ left s
      → Asked text_model s None t
  asked_none s t rest same stays failed ended lower = record {
    gave = record {
      list = ap (map plain) (sym same);
      legacy = ap (λ c. c || any_legacy (to_come t)) rest.legacy ∙ ap (λ l. s.legacy || any_legacy l) same;
      stays = stays;
      failed = λ e. (refl, failed e);
      syntax = ap (λ n. n.syntax) rest.notes;
      target = ap (λ n. n.target) rest.notes;
    };
    token = record { keeping = notes_keeping s t None tt rest.notes (λ m h. refl); ended = ended; lower = lower };
  }

  over_none : (s : TextInput T g) → s.held ≡ None → s.reader.ended ≡ true → is_over s.reader.ended s.held ≡ true
  over_none s h e = ap (λ o. is_over s.reader.ended o) h ∙ ap (λ b. b && true) e

  asked_stops : (s t : TextInput T g) → SameText s t → s.failed ≡ false → s.held ≡ None
      → next_of s.end (bytes_of s) (reading s) ≡ None → (reading t).ended ≡ true →
      Rests s t → Asked text_model s None t
  asked_stops s t same runs none next over rest =
      let held : t.held ≡ None = rest.held ∙ none in
      let now = tokens_by s t same in
      let a = held_len s.held None none in
      let b = held_len t.held None held in
      let z = bound_ended (bytes_of t) (reading t) over in
      asked_none s t rest
      (only_held t held ∙ from_end t.end (bytes_of t) (reading t) (next_ended t.end (bytes_of t) (reading t) over)
      ∙ sym (only_held s none ∙ from_end s.end (bytes_of s) (reading s) next))
      (λ e. over_none t held over) (λ e. true_false (sym e ∙ runs)) (λ e. over_none t held over) (omega (arith, a, b, z))

  asked_rests : (s t : TextInput T g) → SameText s t → t.failed ≡ true → reading t ≡ reading s → Rests s t
      → Asked text_model s None t
  asked_rests s t same f is rest =
      let now = tokens_by s t same ∙ ap (λ r. tokens_from s.end (bytes_of s) r) is in
      let a = held_len t.held s.held rest.held in
      let b = bound_by s t same in
      let c = ap (bound (bytes_of s)) is in
      asked_none s t rest (ap (λ o. held_list o ++ tokens_from t.end (bytes_of t) (reading t)) rest.held ∙ ap
      (λ l. held_list s.held ++ l) now)
      (λ e. ap (λ o. is_over t.reader.ended o) rest.held ∙ ap (λ r. is_over r.ended s.held) is ∙ e)
      (λ e. f) (λ h. true_false (sym f ∙ h)) (omega (arith, a, b, c))

  pub text_asked : (s : TextInput T g) (r : Option TokenAndSpan) (t : TextInput T g) → NextText s r t → Asked text_model s r t
  text_asked s r t n = asked_by s r t n.text n.token
    where
      asked_by : (s : TextInput T g) (r : Option TokenAndSpan) (t : TextInput T g) → SameText s t → Takes s r t
          → Asked text_model s r t
      asked_by s r t same (gives x none runs (gave next lower) hands) =
          asked_hands s t x same none runs next lower r hands
      asked_by s None t same (stops f none (stopped next over) rest) = asked_stops s t same f none next over rest
      asked_by s None t same (rests f is rest) = asked_rests s t same f is rest
