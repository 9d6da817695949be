-- What the calls on names answer, from their steps.
use Rattle.std.proofs.Common.{◌≡◌, ℕ, Bool, true, false, not, ◌&&◌, if◌then◌else◌, codes, List, [], ◌∷◌, Option, Some, None, Result, Ok, Err, MatchOption, IsSome, refl, sym, ap, subst, ◌∙◌}
use Rattle.swc_context.specs.{Reserved.strict_binding_words, Texts.is_text, Texts.is_one_of, Words.word_text, declared.context.Context.Context, declared.error.Error.Error, declared.error.SyntaxError.SyntaxError, declared.span.Span.Span, declared.word.Word.Word, declared.word.Keyword.Keyword as keyword}
use Rattle.swc_context.specs.declared.error.SyntaxError.TheVariants as kind
use Rattle.swc_context.specs.declared.word.Word.TheVariants as word
use Rattle.swc_input.specs.Buffer.{ReadSome, Looked, current, previous, context}
use Rattle.swc_input.specs.Recording.{error_here, error_in, is_some, is_fit, Refused}
use Rattle.swc_input.specs.{declared.buffer.Buffer.Buffer, declared.token.Token.Token, declared.token.Token.Token as token, declared.token.TokenAndSpan.TokenAndSpan, Source.Model, Source.Laws, Kinds.at_token}
use Rattle.swc_ident.specs.Naming.{Judges, fault_at, place_here, Notes, Spoken, Named, Unnamed, no_memory, not_fit, no_word, refused_word, Unbindable, no_memory_to_bind, refused_binding, Names, Unbound, Bound}
use Rattle.swc_ident.specs.Steps.{Forgone, word_faults}
use Rattle.swc_ident.specs.Verdicts.{Fault, now, in_modules, is_word, name_of_any, ident_verdict, binding_verdict, binding_faults, and_then, is_bindable}
use Rattle.swc_ident.proofs.Reading.{place_is, reads_then, looked_reads, refused_reads, met, noted_then, notes_read, passed_reads, passed_later}

-- what is included decides over refusals alone
pub same_faults : (y a : Bool) (c : Context) (w : Word) → word_faults c w ≡ (ident_verdict y a c w).faults
same_faults y a c (word.Ident w) = refl
same_faults y a c (word.Keyword keyword.Let) = refl
same_faults y a c (word.Keyword keyword.Yield) = refl
same_faults y a c (word.Keyword keyword.Await) = refl
same_faults y a c w = refl

third : {A : Type 0} (p q : Bool) (x y z : A) → p ≡ false → q ≡ false → (if p then x else (if q then y else z)) ≡ z
third false false x y z h i = refl
third true q x y z h i = cc
third p true x y z h i = cc

pub no_binding_faults : (x c : Context) (w : List ℕ) → x ≡ c → is_one_of w strict_binding_words ≡ false
    → (x.in_generator && is_text w (codes "yield")) ≡ false → binding_faults c w ≡ []
no_binding_faults x c w same h i =
    ap (λ v. binding_faults v w) (sym same)
    ∙ third (is_one_of w strict_binding_words) (x.in_generator && is_text w (codes "yield"))
    (in_modules kind.EvalAndArgumentsInStrict ∷ []) (now kind.ExpectedIdent ∷ []) [] h i

none_else : {A : Type 0} (o : Option SyntaxError) (x y : A) → o ≡ None → (elim o [ None ↦ x | Some k ↦ y ]) ≡ x
none_else None x y h = refl
none_else (Some k) x y h = cc

some_else : {A : Type 0} (o : Option SyntaxError) (k : SyntaxError) (x y : A) → o ≡ Some k
    → (elim o [ None ↦ x | Some k ↦ y ]) ≡ y
some_else None k x y h = cc
some_else (Some l) k x y h = refl

-- a word that is bound has further faults, and one that is refused has none
bound_verdict : (c : Context) (w : Word) → (ident_verdict true true c w).refusal ≡ None
    → binding_verdict c w ≡ and_then (ident_verdict true true c w) (binding_faults c (word_text w))
bound_verdict c w h = none_else (ident_verdict true true c w).refusal
    (and_then (ident_verdict true true c w) (binding_faults c (word_text w))) (ident_verdict true true c w) h

unbound_verdict : (c : Context) (w : Word) (k : SyntaxError) → (ident_verdict true true c w).refusal ≡ Some k
    → binding_verdict c w ≡ ident_verdict true true c w
unbound_verdict c w k h = some_else (ident_verdict true true c w).refusal k
    (and_then (ident_verdict true true c w) (binding_faults c (word_text w))) (ident_verdict true true c w) h

word_some : (f : Token → Bool) (o : Option TokenAndSpan) → at_token f o ≡ true → (t : TokenAndSpan) × (o ≡ Some t)
word_some f None h = cc
word_some f (Some t) h = (t, refl)

fit_token : (t : Token) → is_word t ≡ true → not (is_some (error_in t)) ≡ true
fit_token (token.Word w) h = refl
fit_token t h = cc

fit_word : (o : Option TokenAndSpan) → at_token is_word o ≡ true → is_fit o ≡ true
fit_word None h = cc
fit_word (Some t) h = fit_token t.token h

bindable_word : (c : Context) (o : Option TokenAndSpan) → at_token (is_bindable c) o ≡ true → at_token is_word o ≡ true
bindable_word c None h = cc
bindable_word c (Some t) h = word_of t.token h
  where
    word_of : (t : Token) → is_bindable c t ≡ true → is_word t ≡ true
    word_of (token.Word w) h = refl
    word_of t h = cc

module _ {S : Type 0} {model : Model S} where
  same_context : {b c : Buffer S} → Looked model b c → context model c ≡ context model b
  same_context l = l.look.read.context

  -- ---- what was consumed

  pub unnamed_reads : {judge : Judges} {b c : Buffer S} {e : Error} → Laws model → Unnamed model judge b e c
      → ReadSome model b c
  unnamed_reads laws (no_memory xs r k) = (xs, r)
  unnamed_reads laws (not_fit r f) = refused_reads laws r
  unnamed_reads laws (no_word r fits f) = refused_reads laws r
  unnamed_reads laws (refused_word s v n r) = reads_then laws (passed_reads laws s)
      (reads_then laws (notes_read laws n) (refused_reads laws r))

  pub named_reads : {judge : Judges} {text : List ℕ} {at : Span} {b c : Buffer S} → Named model judge text at b c
      → ReadSome model b c
  named_reads n = (n.consumed, n.read)

  -- ---- after a look

  pub named_later : {judge : Judges} {text : List ℕ} {at : Span} {b c d : Buffer S} → Laws model → Looked model b c
      → Named model judge text at c d → Named model judge text at b d
  named_later {judge = judge} {at = at} {d = d} laws l n =
      let x = reads_then laws (looked_reads l) (n.consumed, n.read) in
      let P : List Fault → Type 0 = λ fs. Notes model at fs n.spoken d in
      record {
        name = n.name;
        spoken = n.spoken;
        said = passed_later laws l n.said;
        spelled = n.spelled;
        accepts = ap (λ x. (judge x n.name).refusal) (sym (same_context l)) ∙ n.accepts;
        noted = subst P (ap (λ x. (judge x n.name).faults) (same_context l)) n.noted;
        consumed = x.0;
        read = x.1;
      }

  -- ---- by another table that says the same in this context

  unnamed_as : {p q : Judges} {b c : Buffer S} {e : Error}
      → ((w : Word) → p (context model b) w ≡ q (context model b) w) → Unnamed model p b e c → Unnamed model q b e c
  unnamed_as same (no_memory xs r k) = no_memory xs r k
  unnamed_as same (not_fit r f) = not_fit r f
  unnamed_as same (no_word r fits f) = no_word r fits f
  unnamed_as same (refused_word {w = w} {at = at} {spoken = s0} {noted = n0} s v n r) =
      let P : List Fault → Type 0 = λ fs. Notes model at fs s0 n0 in
      refused_word s (ap (λ x. x.refusal) (sym (same w)) ∙ v) (subst P (ap (λ x. x.faults) (same w)) n) r

  named_as : {p q : Judges} {text : List ℕ} {at : Span} {b c : Buffer S}
      → ((w : Word) → p (context model b) w ≡ q (context model b) w) → Named model p text at b c
      → Named model q text at b c
  named_as {at = at} {c = c} same n = let P : List Fault → Type 0 = λ fs. Notes model at fs n.spoken c in record {
    name = n.name;
    spoken = n.spoken;
    said = n.said;
    spelled = n.spelled;
    accepts = ap (λ x. x.refusal) (sym (same n.name)) ∙ n.accepts;
    noted = subst P (ap (λ x. x.faults) (same n.name)) n.noted;
    consumed = n.consumed;
    read = n.read;
  }

  -- what is refused of any word is refused by each table
  pub unnamed_any : {judge : Judges} {b c : Buffer S} {e : Error} → Unnamed model name_of_any b e c
      → Unnamed model judge b e c
  unnamed_any (no_memory xs r k) = no_memory xs r k
  unnamed_any (not_fit r f) = not_fit r f
  unnamed_any (no_word r fits f) = no_word r fits f
  unnamed_any (refused_word s v n r) = cc

  -- ---- words

  -- a token that is no word
  pub missed_word : {b c d : Buffer S} {e : Error} (o : Option TokenAndSpan) (at : Span) → current c ≡ o → IsSome o
      → error_here o ≡ None → Looked model b c → at_token is_word (current c) ≡ false →
      MatchOption (current c) (at ≡ previous c) (λ t. at ≡ t.span)
      → Refused model c (λ here. fault_at at kind.ExpectedIdent) e d → Unnamed model name_of_any b e d
  missed_word None at h some fits l none place r = absurd cc
  missed_word {c = c} (Some t) at h some fits l none place r =
      let x = met (λ here. fault_at (place_here here) kind.ExpectedIdent) t l h r
      (ap (λ p. fault_at p kind.ExpectedIdent) (place_is (current c) (previous c) at place)) in
      no_word x.0 (ap (λ b. is_fit (current b)) x.1 ∙ ap is_fit h ∙ ap (λ o. not (is_some o)) fits)
      (ap (λ b. at_token is_word (current b)) x.1 ∙ none)

  pub forgone_unnamed : {judge : Judges} {b c d : Buffer S} {e : Error} → Laws model → ReadSome model b c
      → Forgone model c e d → Unnamed model judge b e d
  forgone_unnamed laws p f = let x = reads_then laws p (f.consumed, f.read) in no_memory x.0 x.1 f.kind

  -- a word was consumed, and its faults noted: it is taken, or refused
  pub taken_word : {judge : Judges} {text : List ℕ} {at : Span} {w : Word} {fs : List Fault} {b c d : Buffer S}
      (ctx : Context) → Laws model → ctx ≡ context model b → Spoken model b w at c → text ≡ word_text w →
      (judge ctx w).refusal ≡ None → fs ≡ (judge ctx w).faults → Notes model at fs c d → Named model judge text at b d
  taken_word {judge = judge} {at = at} {w = w} {c = c} {d = d} ctx laws here s spelled takes same n =
      let P : List Fault → Type 0 = λ fs. Notes model at fs c d in
      let x = reads_then laws (passed_reads laws s) (notes_read laws n) in
      record {
        name = w;
        spoken = c;
        said = s;
        spelled = spelled;
        accepts = ap (λ x. (judge x w).refusal) (sym here) ∙ takes;
        noted = subst P (same ∙ ap (λ x. (judge x w).faults) here) n;
        consumed = x.0;
        read = x.1;
      }

  pub refused_name : {judge : Judges} {at : Span} {w : Word} {k : SyntaxError} {e : Error} {fs : List Fault}
      {b c d f : Buffer S} (ctx : Context) → ctx ≡ context model b → Spoken model b w at c →
      (judge ctx w).refusal ≡ Some k → fs ≡ (judge ctx w).faults → Notes model at fs c d
      → Refused model d (λ here. fault_at at k) e f → Unnamed model judge b e f
  refused_name {judge = judge} {at = at} {w = w} {c = c} {d = d} ctx here s refuses same n r =
      let P : List Fault → Type 0 = λ fs. Notes model at fs c d in
      refused_word s (ap (λ x. (judge x w).refusal) (sym here) ∙ refuses)
      (subst P (same ∙ ap (λ x. (judge x w).faults) here) n) r

  -- where a word is current, only running out of memory keeps a name from being read
  pub word_forgone : {b c : Buffer S} {e : Error} → at_token is_word (current b) ≡ true
      → Unnamed model name_of_any b e c → Forgone model b e c
  word_forgone h (no_memory xs r k) = record { consumed = xs; read = r; kind = k }
  word_forgone {b = b} h (not_fit r f) =
      let t = word_some is_word (current b) h in
      let same = ap (λ x. is_fit (current x)) (r.looked.same t.0 t.1) in
      let fits = fit_word (current b) h in absurd cc
  word_forgone {b = b} h (no_word r fits f) =
      let t = word_some is_word (current b) h in
      let same = ap (λ x. at_token is_word (current x)) (r.looked.same t.0 t.1) in absurd cc
  word_forgone h (refused_word s v n r) = absurd cc

  -- ---- names that are bound

  pub binding_unnamed : {b c : Buffer S} {e : Error} → Unnamed model (ident_verdict true true) b e c
      → Unnamed model binding_verdict b e c
  binding_unnamed (no_memory xs r k) = no_memory xs r k
  binding_unnamed (not_fit r f) = not_fit r f
  binding_unnamed (no_word r fits f) = no_word r fits f
  binding_unnamed {b = b} (refused_word {w = w} {k = k} {at = at} {spoken = s0} {noted = n0} s v n r) =
      let P : List Fault → Type 0 = λ fs. Notes model at fs s0 n0 in
      let same = unbound_verdict (context model b) w k v in
      refused_word s (ap (λ x. x.refusal) same ∙ v) (subst P (ap (λ x. x.faults) (sym same)) n) r

  pub binding_named : {text : List ℕ} {at : Span} {b c d : Buffer S} → Laws model
      → Named model (ident_verdict true true) text at b c → Notes model at (binding_faults (context model c) text) c d →
      Named model binding_verdict text at b d
  binding_named {text = text} {at = at} {b = b} {c = c} {d = d} laws n m =
      let P : List Fault → Type 0 = λ fs. Notes model at fs c d in
      let Q : List Fault → Type 0 = λ fs. Notes model at fs n.spoken d in
      let same = bound_verdict (context model b) n.name n.accepts in
      let x = reads_then laws (n.consumed, n.read) (notes_read laws m) in
      let told = subst P (ap (λ x. binding_faults x text) n.read.context ∙ ap
      (λ w. binding_faults (context model b) w) n.spelled) m in
      record {
        name = n.name;
        spoken = n.spoken;
        said = n.said;
        spelled = n.spelled;
        accepts = ap (λ x. x.refusal) same ∙ n.accepts;
        noted = subst Q (ap (λ x. x.faults) (sym same)) (noted_then n.noted told);
        consumed = x.0;
        read = x.1;
      }

  pub unbound : {b c : Buffer S} → Looked model b c → at_token (is_bindable (context model c)) (current c) ≡ false
      → Unbound model b c
  unbound {c = c} l none = (l, ap (λ x. at_token (is_bindable x) (current c)) (sym (same_context l)) ∙ none)

  -- a word that may be bound was current, and it was this one
  spoken_bindable : {w : Word} {at : Span} {b c d : Buffer S} → Looked model b c
      → at_token (is_bindable (context model c)) (current c) ≡ true →
      Spoken model c w at d → is_bindable (context model b) (token.Word w) ≡ true
  spoken_bindable {w = w} {c = c} l may s =
      let f = is_bindable (context model c) in
      let t = word_some f (current c) may in
      let here : at_token f (current s.here) ≡ true = ap (λ x. at_token f (current x)) (s.looked.same t.0 t.1) ∙ may in
      let was : f s.took.was.token ≡ true = ap (at_token f) (sym s.took.current) ∙ here in
      ap (λ x. is_bindable x (token.Word w)) (sym (same_context l)) ∙ ap f s.took.token ∙ was

  -- where a word that may be bound is current, only the table refuses it, or memory runs out
  pub unbindable_later : {b c d : Buffer S} {e : Error} → Laws model → Looked model b c
      → at_token (is_bindable (context model c)) (current c) ≡ true →
      Unnamed model binding_verdict c e d → Unbindable model b e d
  unbindable_later laws l may (no_memory xs r k) = let x = reads_then laws (looked_reads l) (xs, r) in
      no_memory_to_bind x.0 x.1 k
  unbindable_later {c = c} laws l may (not_fit r f) =
      let t = word_some (is_bindable (context model c)) (current c) may in
      let same = ap (λ x. is_fit (current x)) (r.looked.same t.0 t.1) in
      let fits = fit_word (current c) (bindable_word (context model c) (current c) may) in absurd cc
  unbindable_later {c = c} laws l may (no_word r fits f) =
      let t = word_some (is_bindable (context model c)) (current c) may in
      let same = ap (λ x. at_token is_word (current x)) (r.looked.same t.0 t.1) in
      let word = bindable_word (context model c) (current c) may in absurd cc
  unbindable_later laws l may (refused_word {w = w} {at = at} {spoken = s0} {noted = n0} s v n r) =
      let P : List Fault → Type 0 = λ fs. Notes model at fs s0 n0 in
      refused_binding (passed_later laws l s) (spoken_bindable l may s)
      (ap (λ x. (binding_verdict x w).refusal) (sym (same_context l)) ∙ v)
      (subst P (ap (λ x. (binding_verdict x w).faults) (same_context l)) n) r

  pub bound_later : {text : List ℕ} {at : Span} {b c d : Buffer S} → Laws model → Looked model b c
      → at_token (is_bindable (context model c)) (current c) ≡ true →
      Named model binding_verdict text at c d → Bound model text at b d
  unfolding named_later
  bound_later laws l may n = record { named = named_later laws l n; may = spoken_bindable l may n.said }

module _ {S : Type 0} (model : Model S) where
  pub names_read : {T : Type 0} (judge : Judges) (text : T → List ℕ) (at : T → Span) (b c : Buffer S)
      (r : Result T Error) → Laws model → Names model judge text at b r c → ReadSome model b c
  names_read judge text at b c (Ok t) laws h = named_reads h
  names_read judge text at b c (Err e) laws h = unnamed_reads laws h

  pub names_as : {T : Type 0} (p q : Judges) (text : T → List ℕ) (at : T → Span) (b c : Buffer S) (r : Result T Error)
      → ((w : Word) → p (context model b) w ≡ q (context model b) w) →
      Names model p text at b r c → Names model q text at b r c
  names_as p q text at b c (Ok t) same h = named_as same h
  names_as p q text at b c (Err e) same h = unnamed_as same h
