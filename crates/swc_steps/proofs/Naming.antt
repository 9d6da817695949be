-- The calls on names: what they answer is what the clean readers of names read.
use Rattle.std.proofs.Common.{IsSome, ◌≡◌, ◌≢◌, ◌≤◌, ◌<◌, ℕ, Bool, true, false, ◌||◌, not, ◌&&◌, if◌then◌else◌, List, [], ◌∷◌, ◌++◌, Option, Some, None, Result, Ok, Err, OnOk, length, refl, sym, ap, subst, ◌∙◌, arith, length-append, codes}
use Rattle.swc_context.specs.{Reserved.strict_names, Texts.is_text, Texts.is_one_of, Words.word_text, declared.context.Context.Context, declared.error.Error.Error, declared.error.SyntaxError.SyntaxError, declared.span.Span.Span, declared.word.Keyword.Keyword as keyword, declared.word.Word.Word, declared.word.Word.Word as written, Contexts.view as deciding}
use Rattle.swc_context.specs.declared.error.SyntaxError.TheVariants as kind
use Rattle.swc_input.specs.Source.{Model, Laws, recorded_in}
use Rattle.swc_input.specs.Buffer.{Read, Lives, Looked, current, source, to_come, context}
use Rattle.swc_input.specs.Laws.{held_some, Looked-served, Read-same, Recorded-read}
use Rattle.swc_input.specs.Recording.{is_fit, is_silent, error_list, error_here, Recorded, Refused}
use Rattle.swc_input.specs.{declared.buffer.Buffer.Buffer, declared.token.Token.Token, declared.token.Token.Token as token, declared.token.TokenAndSpan.TokenAndSpan, Plain.plain_token, Kinds.at_token}
use Rattle.swc_grammar.specs.Names.{Spelling, spelling, spelled, may_name, may_refer}
use Rattle.swc_grammar.specs.Clean.{Out, first, no_error}
use Rattle.swc_grammar.specs.Words.{rest, one, word_by, word}
use Rattle.swc_grammar.specs.{Scope.Scope, Tokens.may_be_reference, Tokens.ref_ok}
use Rattle.swc_ident.specs.Naming.{Judges, fault_at, place_here, Notes, none-noted, now-silent, now-recorded, later-ignored, later-noted, Passed, Spoken, Named, Unnamed, no_memory, not_fit, no_word, refused_word, Names}
use Rattle.swc_ident.specs.Verdicts.{Fault, Verdict, now, in_modules, is_word, taken, taken_with, unless, name_of_any, ident_verdict, reference_verdict, binding_verdict, binding_faults, and_then}
use Rattle.swc_input.specs.Calls.{recorded, Leads, Here}
use Rattle.swc_steps.specs.Parsing.{seen, seen_of, scope, On, Heard, Unheard, Parses}
use Rattle.swc_input.proofs.Calls.{looked_again, refused, unfits}
use Rattle.swc_steps.proofs.Steps.{Reader, here, read_scope, parses_after, on_took, leads_then, refuses_later, on_seen, on_then, heard_after, heard_first, unheard_after, unheard_at, unheard_memory, unheard_unfit, lower, on_looked}
use Rattle.swc_steps.proofs.Words.{none_counts, is_taken, is_clean, reference-table}

-- a call never refuses a word as the parser's own failure, and looks at no flag that decides nothing
pub record Honest (judge : Judges) : Type 0 where
  pub refuses : (c : Context) (w : Word) (k : SyntaxError) → (judge c w).refusal ≡ Some k → k ≢ kind.ParserFailed
  pub viewed : (c : Context) (w : Word) → judge (deciding c) w ≡ judge c w

-- the clean reader of the words that a judge takes
abbrev pub word_of : Judges → Reader Spelling
word_of judge = word (λ c w. is_clean c (judge c w))

-- a word that was read
abbrev told : Judges → Word → Spelling → Reader Spelling
told judge w n x ts = if is_clean x.context (judge x.context w) then Some (n, ts) else None

or_false : (a b : Bool) → (a || b) ≡ false → a ≡ false
or_false true b h = cc
or_false false b h = refl

ignored : (a b : Bool) → a ≡ true → (a || b) ≡ true
ignored a b h = ap (λ v. v || b) h

passed : (b : Bool) (n : Spelling) (ts : List TokenAndSpan)
    → one (if b then Some n else None) ts ≡ (if b then Some (n, ts) else None)
passed true n ts = refl
passed false n ts = refl

at_some : (f : Token → Bool) (o : Option TokenAndSpan) → at_token f (seen_of o) ≡ true → o ≢ None
at_some f None h e = cc
at_some f (Some t) h e = cc

-- a token that is no word is read as none
none_spelled : (ok : Word → Bool) (t : Token) (s : Span) (us : List TokenAndSpan) → is_word t ≡ false
    → one (spelled ok (plain_token t) s) us ≡ None
none_spelled ok (token.Word w) s us h = cc
none_spelled ok t s us h = refl

none_seen : (ok : Context → Word → Bool) (c : Scope) (o : Option TokenAndSpan) (us : List TokenAndSpan)
    → at_token is_word o ≡ false → word_by ok c (seen_of o) us ≡ None
none_seen ok c None us h = refl
none_seen ok c (Some t) us h = none_spelled (ok c.context) t.token t.span us h

error_spelled : (ok : Word → Bool) (t : Token) (s : Span) (us : List TokenAndSpan) → no_error t ≡ false
    → one (spelled ok t s) us ≡ None
error_spelled ok (token.Error e) s us h = refl
error_spelled ok t s us h = cc

error_first : (ok : Context → Word → Bool) (c : Scope) (o : Option TokenAndSpan) (us : List TokenAndSpan)
    → at_token no_error o ≡ false → word_by ok c o us ≡ None
error_first ok c None us h = refl
error_first ok c (Some t) us h = error_spelled (ok c.context) t.token t.span us h

is_there : (o : Option TokenAndSpan) → o ≢ None → IsSome o
is_there None h = absurd (h refl)
is_there (Some t) h = refl

fit_some : (o : Option TokenAndSpan) → is_fit o ≡ true → o ≢ None
fit_some None h e = cc
fit_some (Some t) h e = cc

-- a word is read so
takes_word : (judge : Judges) (x : Scope) (w : Word) (t : Token) (s at : Span) (text : List ℕ) (ts : List TokenAndSpan)
    → token.Word w ≡ t → at ≡ s → text ≡ word_text w →
    one (spelled (λ v. is_clean x.context (judge x.context v)) (plain_token t) s) ts
    ≡ told judge w (spelling text at) x ts
takes_word judge x w t s at text ts e p q =
    ap (λ v. one (spelled (λ v. is_clean x.context (judge x.context v)) (plain_token v) s) ts) (sym e)
    ∙ ap (λ v. one (if is_clean x.context (judge x.context w) then Some v else None) ts)
    (ap (λ v. spelling v s) (sym q) ∙ ap (λ v. spelling text v) (sym p))
    ∙ passed (is_clean x.context (judge x.context w)) (spelling text at) ts

-- the context of the call is that of the fault
clean_is : (judge : Judges) → Honest judge → (x c : Context) (w : Word) → x ≡ c → (judge c w).refusal ≡ None
    → is_clean (deciding x) (judge (deciding x) w) ≡ none_counts x.module (judge c w).faults
clean_is judge honest x c w e h = ap (is_clean x) (honest.viewed x w) ∙ ap (λ v. is_clean v (judge v w)) e ∙ ap
    (λ o. is_taken o && none_counts c.module (judge c w).faults) h ∙ ap (λ v. none_counts v.module (judge c w).faults)
    (sym e)

unclean_is : (judge : Judges) → Honest judge → (x c : Context) (w : Word) (k : SyntaxError) → x ≡ c
    → (judge c w).refusal ≡ Some k → is_clean (deciding x) (judge (deciding x) w) ≡ false
unclean_is judge honest x c w k e h = ap (is_clean x) (honest.viewed x w) ∙ ap (λ v. is_clean v (judge v w)) e ∙ ap
    (λ o. is_taken o && none_counts c.module (judge c w).faults) h

pub goes : {A : Type 0} (b : Bool) (o : Out A) → b ≡ true → (if b then o else None) ≡ o
goes true o h = refl
goes false o h = cc

pub stops : {A : Type 0} (b : Bool) (o : Out A) → b ≡ false → (if b then o else None) ≡ None
stops true o h = cc
stops false o h = refl

pub honest-name : Honest name_of_any
honest-name = record { refuses = λ c w k h e. cc; viewed = λ c w. refl }

unless_kind : (b : Bool) (k : SyntaxError) → unless b ≡ Some k → k ≢ kind.ParserFailed
unless_kind true k h e = cc
unless_kind false k h e = cc

await_kind : (s r i : Bool) (k : SyntaxError)
    → (if s then Some kind.ExpectedIdent else (if r then Some kind.InvalidIdentInAsync else unless i)) ≡ Some k
    → k ≢ kind.ParserFailed
await_kind true r i k h e = cc
await_kind false true i k h e = cc
await_kind false false i k h e = unless_kind i k h e

name_kind : (e s a : Bool) (w : List ℕ) (k : SyntaxError) →
    (if e then taken_with (now (kind.InvalidIdentInStrict w)) else (if s then taken_with
    (in_modules (kind.InvalidIdentInStrict w)) else (if a then taken_with
    (now kind.ArgumentsInClassField) else taken))).refusal ≡ Some k → k ≢ kind.ParserFailed
name_kind true s a w k h e = cc
name_kind false true a w k h e = cc
name_kind false false true w k h e = cc
name_kind false false false w k h e = cc

ident_refuses : (y a : Bool) (c : Context) (w : Word) (k : SyntaxError) → (ident_verdict y a c w).refusal ≡ Some k
    → k ≢ kind.ParserFailed
ident_refuses y a c (written.Ident w) k h = name_kind (is_text w (codes "enum")) (is_one_of w strict_names)
    (c.in_class_field && is_text w (codes "arguments")) w k h
ident_refuses y a c (written.Keyword keyword.Let) k h = λ e. cc
ident_refuses y a c (written.Keyword keyword.Yield) k h = unless_kind y k h
ident_refuses y a c (written.Keyword keyword.Await) k h = await_kind c.in_static_block (c.module || c.in_async) a k h
ident_refuses y a c w k h = λ e. cc

pub honest-reference : Honest reference_verdict
honest-reference = record {
  refuses = λ c w. ident_refuses (not c.in_generator) (not c.in_async) c w;
  viewed =
      λ c w. refl;
}

bound_refusal : (v : Verdict) (o : Option SyntaxError) (fs : List Fault) → o ≡ v.refusal
    → (elim o as (λ p. Verdict) [ None ↦ and_then v fs | Some k ↦ v ]).refusal ≡ v.refusal
bound_refusal v None fs h = refl
bound_refusal v (Some k) fs h = refl

binding_refuses : (c : Context) (w : Word) (k : SyntaxError) → (binding_verdict c w).refusal ≡ Some k
    → k ≢ kind.ParserFailed
binding_refuses c w k h =
    let v = ident_verdict true true c w in
    ident_refuses true true c w k (sym (bound_refusal v v.refusal (binding_faults c (word_text w)) refl) ∙ h)

pub honest-binding : Honest binding_verdict
honest-binding = record { refuses = binding_refuses; viewed = λ c w. refl }

-- a word that may be a reference is read as one
ref_word : (x : Context) (t : Token) (s : Span) (ts : List TokenAndSpan) → may_be_reference x t ≡ true
    → one (spelled (may_refer x) t s) ts ≡ one (spelled (λ w. is_clean x (reference_verdict x w)) t s) ts
ref_word x (token.Word w) s ts h =
    ap (λ b. one (if b then Some (spelling (word_text w) s) else None) ts)
    (ap (λ b. b && ref_ok x w) h ∙ sym (reference-table x w h))
ref_word x t s ts h = cc

ref_at : (x : Scope) (o : Option TokenAndSpan) (ts : List TokenAndSpan) → at_token (may_be_reference x.context) o ≡ true
    → word_by may_refer x o ts ≡ word_by (λ c w. is_clean c (reference_verdict c w)) x o ts
ref_at x None ts h = cc
ref_at x (Some t) ts h = ref_word x.context t.token t.span ts h

pub ref_same : (x : Scope) (ts : List TokenAndSpan) → at_token (may_be_reference x.context) (first ts) ≡ true
    → word may_refer x ts ≡ word_of reference_verdict x ts
unfolding word
ref_same x ts h = ref_at x (first ts) (rest ts) h

module _ {S : Type 0} {model : Model S} where
  -- ---- looks, and faults

  -- a look at what is known changes nothing
  pub here_same : {b : Buffer S} → Laws model → current b ≢ None → Here model b b
  here_same {b} laws some = record {
    laws = laws;
    looked = record {
      look = record { read = Read-same laws b; previous = refl; quiet = λ m h. (refl, refl) };
      same = λ t h. refl;
      lives = λ s f. f;
      end = λ e. absurd (some e);
    };
    served = record { before = λ f. (f, held_some b (is_there b.cur some)) };
    end = λ e. absurd (some e);
  }

  pub here_at : {b c : Buffer S} → Laws model → Looked model b c → current c ≢ None → Here model b c
  here_at {c = c} laws l some = record {
    laws = laws;
    looked = l;
    served = Looked-served laws l (is_there c.cur some);
    end = λ e. absurd (some e);
  }

module _ {S : Type 0} {model : Model S} {sure : Bool} where
  -- a fault that waits changes nothing
  on_waiting : {A : Type 0} {f : Reader A} {b c : Buffer S} → Laws model → Read model b [] c → Lives model b c
      → recorded model c ≡ recorded model b → On model sure f f b c
  on_waiting {f = f} laws r lives same = record {
    leads = record { laws = laws; taken = []; read = r; lives = lives };
    clean = λ e s ys fut. ap (λ x. f x ys) (sym (read_scope laws r));
    faulty = λ y e lt ts k. absurd (omega (arith, lt, same));
  }

  -- where a fault was recorded, f reads nothing
  on_fault : {A : Type 0} {f g : Reader A} {b c : Buffer S} → Leads model b c → recorded model b < recorded model c
      → ((ts : List TokenAndSpan) → f (scope model b) ts ≡ None) → On model sure f g b c
  on_fault p more none = record {
    leads = p;
    clean = λ e s ys fut. absurd (omega (arith, s, more));
    faulty = λ y e lt ts k. none ts;
  }

  on_silent : {A : Type 0} {f g : Reader A} {b c : Buffer S} → Leads model b c
      → is_silent (model.state (source b)) ≡ true → On model sure f g b c
  on_silent p h = record { leads = p; clean = λ e. absurd cc; faulty = λ y e. absurd cc }

module _ {S : Type 0} {model : Model S} where
  -- faults are only added
  no_fewer : {b c : Buffer S} {xs : List TokenAndSpan} → Read model b xs c → recorded model b ≤ recorded model c
  no_fewer {b} {c} p = let h = p.errors in let all = ap length h.added in
      let sum = length-append (model.state b.iter).errors h.more in omega arith

  pub was_there : {b c : Buffer S} {t : Token} {at : Span} → (s : Passed model b t at c) → IsSome (current s.here)
  was_there s = subst IsSome (sym s.took.current) refl

  -- what is refused after a look is refused where it was looked
  pub refused_here : {b c : Buffer S} {f : Buffer S → Error} {e : Error} → Laws model → (r : Refused model b f e c)
      → Refused model r.here f e c
  refused_here laws r = record {
    here = r.here;
    looked = looked_again laws r.looked;
    read = r.read;
    lives = r.lives;
    same = r.same;
    answer = r.answer;
  }

  spoken_context : {b c : Buffer S} {w : Word} {at : Span} → Spoken model b w at c → context model c ≡ context model b
  spoken_context s = s.took.read.context ∙ s.looked.look.read.context

  recorded_leads : {b c : Buffer S} {e : Error} → Laws model → Recorded model b e c → Leads model b c
  recorded_leads {b} {c} {e} laws r = let x = Recorded-read laws b c e r in
      record { laws = laws; taken = x.0; read = x.1; lives = r.lives }

  more_errors : {b c : Buffer S} {e : Error} → Laws model → Recorded model b e c → recorded model b < recorded model c
  more_errors {b} {c} {e} laws r =
      let looked = no_fewer r.looked.look.read in
      let all = ap length r.errors in
      let one = length-append (model.state (source r.here)).errors
      (error_list (error_here (current r.here)) ++ e ∷ []) in
      let two = length-append (error_list (error_here (current r.here))) (e ∷ []) in
      omega arith

  notes_leads : {at : Span} {fs : List Fault} {b c : Buffer S} → Laws model → Notes model at fs b c → Leads model b c
  notes_leads {b = b} laws none-noted = here laws b
  notes_leads laws (now-silent h m) = notes_leads laws m
  notes_leads laws (now-recorded h r m) = leads_then (recorded_leads laws r) (notes_leads laws m)
  notes_leads laws (later-ignored h m) = notes_leads laws m
  notes_leads laws (later-noted h back s r m) = leads_then
      (record { laws = laws; taken = []; read = r; lives = λ f. ap (λ x. x.failed) (sym s) ∙ f }) (notes_leads laws m)

module _ {S : Type 0} {model : Model S} {sure : Bool} where
  -- The faults were noted: where none counts g goes on, and otherwise f reads nothing.
  pub on_notes : {A : Type 0} {f g : Reader A} {at : Span} {fs : List Fault} {b c : Buffer S} → Laws model
      → Notes model at fs b c →
      ((ts : List TokenAndSpan) → none_counts (context model b).module fs ≡ true
      → f (scope model b) ts ≡ g (scope model b) ts) →
      ((ts : List TokenAndSpan) → none_counts (context model b).module fs ≡ false → f (scope model b) ts ≡ None)
      → On model sure f g b c
  on_notes {b = b} laws none-noted same none = record {
    leads = record { laws = laws; taken = []; read = Read-same laws b; lives = λ f. f };
    clean = λ l s ys fut. same ys refl;
    faulty = λ y l lt ts k. absurd (omega (arith, lt));
  }
  on_notes laws (now-silent h m) same none = on_silent (notes_leads laws m) h
  on_notes laws (now-recorded h r m) same none =
      let p = notes_leads laws m in
      let more = more_errors laws r in
      let late = no_fewer p.read in
      on_fault (leads_then (recorded_leads laws r) p) (omega (arith, more, late)) (λ ts. none ts refl)
  on_notes laws (later-ignored h m) same none = on_silent (notes_leads laws m) (ignored _ _ h)
  on_notes {f = f} {g = g} {at = at} {b = b} {c = d} laws
      (later-noted {c = c} {k = k} {fs = gs} h back s r m) same none =
      let lives : Lives model b c = λ f. ap (λ x. x.failed) (sym s) ∙ f in
      let p : Leads model b c = record { laws = laws; taken = []; read = r; lives = lives } in
      let q = notes_leads laws m in
      let added = ap (λ x. length x.errors) s in
      let sum = length-append (model.state (source b)).errors
      (recorded_in (context model b).module (fault_at at k ∷ [])) in
      elim (context model b).module as (λ v. (context model b).module ≡ v → On model sure f g b d) [
        | true ↦ (λ e.
            let n = ap (λ v. length (recorded_in v (fault_at at k ∷ []))) e in
            let late = no_fewer q.read in
            on_fault (leads_then p q) (omega (arith, added, sum, n, late))
            (λ ts. none ts (ap (λ v. not v && none_counts v gs) e)))
        | false ↦ (λ e.
            let n = ap (λ v. length (recorded_in v (fault_at at k ∷ []))) e in
            let on : Scope → Type 0 = λ x. (ts : List TokenAndSpan) → none_counts x.context.module gs ≡ true
            → f x ts ≡ g x ts in
            let off : Scope → Type 0 = λ x. (ts : List TokenAndSpan) → none_counts x.context.module gs ≡ false
            → f x ts ≡ None in
            let counts_same : none_counts (context model b).module (in_modules k ∷ gs) ≡ none_counts
            (context model b).module gs = ap (λ v. not v && none_counts (context model b).module gs) e in
            on_then (on_waiting {f = f} laws r lives (omega (arith, added, sum, n)))
            (on_notes laws m (subst on (sym (read_scope laws r)) (λ ts h. same ts (counts_same ∙ h)))
            (subst off (sym (read_scope laws r)) (λ ts h. none ts (counts_same ∙ h)))))
      ] refl

  -- ---- words

  -- a word was read: its faults decide whether it is taken
  pub on_spoken : (judge : Judges) {b c : Buffer S} {w : Word} {at : Span} (text : List ℕ) → Laws model
      → Spoken model b w at c → text ≡ word_text w → On model sure (word_of judge) (told judge w (spelling text at)) b c
  unfolding word
  on_spoken judge {w = w} {at = at} text laws s same =
      on_then (on_looked {f = word_of judge} laws s.looked (was_there s))
      (on_took laws s.took (λ x ts. takes_word judge x w s.took.was.token s.took.was.span at text ts s.took.token
      s.place same))

  -- a name was read
  pub heard_name : (judge : Judges) → Honest judge → {text : List ℕ} {at : Span} {b c : Buffer S} → Laws model
      → Named model judge text at b c → Heard model sure (word_of judge) (spelling text at) b c
  unfolding word
  heard_name judge honest {text = text} {at = at} {b = b} laws n =
      let x = deciding (context model n.spoken) in
      let w = n.name in
      let s = n.said in
      let same : is_clean x (judge x w) ≡ none_counts x.module (judge (context model b) w).faults =
      clean_is judge honest (context model n.spoken) (context model b) w (spoken_context s) n.accepts in
      heard_after (on_looked {f = word_of judge} laws s.looked (was_there s))
      (heard_first laws s.took (λ x ts. takes_word judge x w s.took.was.token s.took.was.span at text ts s.took.token
      s.place n.spelled)
      (on_notes laws n.noted (λ ts h. goes (is_clean x (judge x w)) (Some (spelling text at, ts)) (same ∙ h))
      (λ ts h. stops (is_clean x (judge x w)) (Some (spelling text at, ts)) (same ∙ h))))

  -- no name was read
  pub unheard_name : (judge : Judges) → Honest judge → {b c : Buffer S} {e : Error} → Laws model
      → Unnamed model judge b e c → Unheard model sure (word_of judge) b e c
  unfolding word
  unheard_name judge honest laws (no_memory xs r k) = unheard_memory
      (record { spends = record { laws = laws; taken = xs; read = r }; kind = k })
  unheard_name judge honest {b} {c} {e} laws (not_fit r f) =
      let u = unfits laws (r, f) in
      unheard_unfit laws (λ x ts h. error_first (λ c w. is_clean c (judge c w)) x (first ts) (rest ts) h) u
  unheard_name judge honest {c = c} {e = e} laws (no_word r fits none) =
      unheard_at (here_at laws r.looked (fit_some (current r.here) fits))
      (λ x ts same h. ap (λ o. word_by (λ c w. is_clean c (judge c w)) x o (rest ts)) h ∙ none_seen
      (λ c w. is_clean c (judge c w)) x (current r.here) (rest ts) none)
      (refused laws (λ here. fault_at (place_here here) kind.ExpectedIdent) e (λ here k. cc) (refused_here laws r))
  unheard_name judge honest {b = b} {c = c} {e = e} laws
      (refused_word {w = w} {k = k} {at = at} {spoken = s0} s v n r) =
      let x = deciding (context model s0) in
      let same = unclean_is judge honest (context model s0) (context model b) w k (spoken_context s) v in
      unheard_after (on_spoken judge (word_text w) laws s refl)
      (record {
        refuses = refuses_later (notes_leads laws n) (refused laws (λ here. fault_at at k) e
            (λ here. honest.refuses (context model b) w k v) r);
        none = λ m y l ts known. stops (is_clean x (judge x w)) (Some (spelling (word_text w) at, ts)) same;
      })

module _ {S : Type 0} (model : Model S) (sure : Bool) where
  -- what a call on names answers, the clean reader of its words reads
  pub parses_name : {T : Type 0} (judge : Judges) → Honest judge
      → (text : T → List ℕ) (at : T → Span) (b c : Buffer S) (r : Result T Error) → Laws model
      → Names model judge text at b r c →
      Parses model sure (λ t. spelling (text t) (at t)) (word_of judge) b r c
  parses_name judge honest text at b c (Ok t) laws h = heard_name judge honest laws h
  parses_name judge honest text at b c (Err e) laws h = unheard_name judge honest laws h

  -- at a word that may be a reference
  pub parses_ref : {T : Type 0} (view : T → Spelling) (b c : Buffer S) (r : Result T Error) → Laws model
      → at_token (may_be_reference (context model b)) (seen b) ≡ true
      → Parses model sure view (word_of reference_verdict) b r c →
      Parses model sure view (word may_refer) b r c
  parses_ref view b c r laws h p =
      parses_after model sure view (word may_refer) {b = b} {c = b} c r
      (on_seen (here_same laws (at_some (may_be_reference (context model b)) (current b) h))
      (λ x ts same e. ref_same x ts (ap (λ v. at_token (may_be_reference v.context) (first ts)) same ∙ ap
      (at_token (may_be_reference (context model b))) e ∙ h))) p

  -- what is read leaves fewer tokens
  pub parses_lower : {T A : Type 0} (view : T → A) (f : Reader A) (b c : Buffer S) (r : Result T Error)
      → Parses model sure view f b r c → OnOk r (to_come model c < to_come model b)
  parses_lower view f b c (Ok t) h = lower (record { leads = h.on.leads; onward = h.onward })
  parses_lower view f b c (Err e) h = tt

module _ {S : Type 0} {model : Model S} {sure : Bool} {b c : Buffer S} (laws : Laws model) where
  -- a name that may be any word
  pub name_read : {text : List ℕ} {at : Span} → Named model name_of_any text at b c
      → Heard model sure (word may_name) (spelling text at) b c
  name_read h = heard_name name_of_any honest-name laws h

  pub name_unread : {e : Error} → Unnamed model name_of_any b e c → Unheard model sure (word may_name) b e c
  name_unread h = unheard_name name_of_any honest-name laws h

  -- an identifier reference, at a word that may be one
  pub ref_read : {text : List ℕ} {at : Span} → at_token (may_be_reference (context model b)) (seen b) ≡ true
      → Named model reference_verdict text at b c → Heard model sure (word may_refer) (spelling text at) b c
  ref_read may h = parses_ref model sure (λ x. x) b c (Ok _) laws may
      (heard_name reference_verdict honest-reference laws h)

  pub ref_unread : {e : Error} → at_token (may_be_reference (context model b)) (seen b) ≡ true
      → Unnamed model reference_verdict b e c → Unheard model sure (word may_refer) b e c
  ref_unread {e} may h = parses_ref model sure (λ x. x) b c (Err e) laws may
      (unheard_name reference_verdict honest-reference laws h)
