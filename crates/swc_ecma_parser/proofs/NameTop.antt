-- The clean readers of names are the grammar's, both ways.
use Rattle.std.proofs.Common.{◌≡◌, Bool, true, ◌&&◌, if◌then◌else◌, List, [], ◌∷◌, ◌++◌, Option, Some, None, refl, sym, ap, subst, ◌∙◌}
use Rattle.std.proofs.lemmas.List.{append_cancel_right}
use Rattle.swc_context.specs.{Words.word_text, declared.context.Context.Context, declared.span.Span.Span, declared.word.Word.Word}
use Rattle.swc_input.specs.{declared.token.Token.Token, declared.token.Token.Token as token, declared.token.TokenAndSpan.TokenAndSpan, Kinds.at_token}
use Rattle.swc_grammar.specs.Names.{Spelling, spelling, NameKind, Reference, Binding, Name, Private, ReadsName, reference, spelled, may_refer, may_bind}
use Rattle.swc_grammar.specs.Words.{rest, one, word_by, word, hash_word}
use Rattle.swc_grammar.specs.{Scope.Scope, Tokens.may_be_reference, Tokens.ref_ok, Clean.first}
use Rattle.swc_grammar.proofs.Cut.{cut-list, cut-of}
use Rattle.swc_grammar.proofs.Names.{reference-sound, reference-complete, binding-sound, binding-complete, name-sound, name-complete, private-sound, private-complete, cut-name}
use Rattle.swc_ident.specs.Verdicts.{reference_verdict, binding_verdict, name_of_any}
use Rattle.swc_ecma_parser.specs.Promise.{Anywhere, RefersIfFree}
use Rattle.swc_steps.proofs.Naming.{word_of}
use Rattle.swc_steps.proofs.Words.{is_clean, binding-table, reference-table}
use Rattle.swc_ecma_parser.proofs.Top.{IsSound, IsComplete}

-- a name needs nothing of what follows it
cut-append : {k : NameKind} {c : Scope} {n : Spelling} (own ys : List TokenAndSpan) → ReadsName k c (own ++ ys) ys n
    → ReadsName k c own [] n
cut-append {k} {c} {n} own ys d =
    let (xs, e, r) = cut-name (cut-of [] ys) d in
    subst (λ v. ReadsName k c v [] n) (sym (append_cancel_right own xs ys (cut-list e))) r

-- ---- bindings

same_spelled : (p q : Word → Bool) → ((w : Word) → p w ≡ q w) → (t : Token) (s : Span) (us : List TokenAndSpan)
    → one (spelled p t s) us ≡ one (spelled q t s) us
same_spelled p q same (token.Word w) s us = ap (λ b. one (if b then Some (spelling (word_text w) s) else None) us)
    (same w)
same_spelled p q same t s us = refl

same_by : (p q : Context → Word → Bool) → ((c : Context) (w : Word) → p c w ≡ q c w)
    → (c : Scope) (o : Option TokenAndSpan) (us : List TokenAndSpan) → word_by p c o us ≡ word_by q c o us
same_by p q same c None us = refl
same_by p q same c (Some t) us = same_spelled (p c.context) (q c.context) (same c.context) t.token t.span us

-- what is bound is what may be
bound : (c : Scope) (ts : List TokenAndSpan) → word_of binding_verdict c ts ≡ word may_bind c ts
unfolding word
bound c ts = same_by (λ c w. is_clean c (binding_verdict c w)) may_bind binding-table c (first ts) (rest ts)

pub binding-is_sound : IsSound (ReadsName Binding) (word_of binding_verdict)
binding-is_sound = record {
  sound = λ c ts ys t h. binding-sound (sym (bound c ts) ∙ h);
  cut =
      λ c own ys t d. cut-append own ys d;
}

pub binding-is_complete : IsComplete (ReadsName Binding) Anywhere (word_of binding_verdict)
binding-is_complete = record { complete = λ c ts ys t d e. bound c ts ∙ binding-complete d }

-- ---- references

free_spelled : (c : Context) (t : Token) (s : Span) (us : List TokenAndSpan) → may_be_reference c t ≡ true
    → one (spelled (λ w. is_clean c (reference_verdict c w)) t s) us ≡ one (spelled (may_refer c) t s) us
free_spelled c (token.Word w) s us h =
    ap (λ b. one (if b then Some (spelling (word_text w) s) else None) us)
    (reference-table c w h ∙ ap (λ b. b && ref_ok c w) (sym h))
free_spelled c t s us h = cc

free_by : (c : Scope) (o : Option TokenAndSpan) (us : List TokenAndSpan)
    → at_token (may_be_reference c.context) o ≡ true → word_by
    (λ c w. is_clean c (reference_verdict c w)) c o us ≡ word_by may_refer c o us
free_by c None us h = cc
free_by c (Some t) us h = free_spelled c.context t.token t.span us h

-- at a word that may be a reference, what is read is what may be
free : (c : Scope) (ts : List TokenAndSpan) → at_token (may_be_reference c.context) (first ts) ≡ true
    → word_of reference_verdict c ts ≡ word may_refer c ts
unfolding word
free c ts h = free_by c (first ts) (rest ts) h

first_free : {c : Scope} {xs ys : List TokenAndSpan} {n : Spelling} → ReadsName Reference c xs ys n
    → at_token (may_be_reference c.context) (first xs) ≡ true
first_free (reference h e) = h

cut-free : (c : Scope) (own ys : List TokenAndSpan) (n : Spelling) → RefersIfFree c (own ++ ys) ys n
    → RefersIfFree c own [] n
cut-free c [] ys n d = λ h. cc
cut-free c (x ∷ xs) ys n d = λ h. cut-append (x ∷ xs) ys (d h)

pub reference-is_sound : IsSound RefersIfFree (word_of reference_verdict)
reference-is_sound = record { sound = λ c ts ys t h. λ m. reference-sound (sym (free c ts m) ∙ h); cut = cut-free }

pub reference-is_complete : IsComplete (ReadsName Reference) Anywhere (word_of reference_verdict)
reference-is_complete = record { complete = λ c ts ys t d e. free c ts (first_free d) ∙ reference-complete d }

-- ---- names of any word, and private names

pub name-is_sound : IsSound (ReadsName Name) (word_of name_of_any)
name-is_sound = record { sound = λ c ts ys t h. name-sound h; cut = λ c own ys t d. cut-append own ys d }

pub name-is_complete : IsComplete (ReadsName Name) Anywhere (word_of name_of_any)
name-is_complete = record { complete = λ c ts ys t d e. name-complete d }

pub private-is_sound : IsSound (ReadsName Private) hash_word
private-is_sound = record { sound = λ c ts ys t h. private-sound h; cut = λ c own ys t d. cut-append own ys d }

pub private-is_complete : IsComplete (ReadsName Private) Anywhere hash_word
private-is_complete = record { complete = λ c ts ys t d e. private-complete d }
