-- The words that a call on names takes with no fault that counts are those that the grammar takes.
use Rattle.std.proofs.Common.{◌≡◌, ℕ, Bool, true, false, not, ◌&&◌, ◌||◌, if◌then◌else◌, codes, List, [], ◌∷◌, ◌++◌, Option, Some, None, refl, sym, ap, ◌∙◌}
use Rattle.std.specs.Cmp.Lexicographic.{same_text}
use Rattle.swc_context.specs.Reserved.{strict_reserved, strict_binding_words, strict_names}
use Rattle.swc_context.specs.{Texts.is_text, Texts.is_one_of, Words.word_text, declared.context.Context.Context, declared.error.SyntaxError.SyntaxError, declared.error.SyntaxError.SyntaxError as kind, declared.word.Keyword.Keyword as keyword, declared.word.Word.Word, declared.word.Word.Word as word}
use Rattle.swc_grammar.specs.{Names.may_bind, Tokens.is_reference, Tokens.ref_ok}
use Rattle.swc_ident.specs.Verdicts.{Fault, now, in_modules, Verdict, taken, taken_with, unless, ident_verdict, reference_verdict, binding_verdict, binding_faults}

-- whether a fault counts, as it is recorded: one of modules waits elsewhere
abbrev pub counts : Bool → Fault → Bool
counts m (now k) = true
counts m (in_modules k) = m

abbrev pub none_counts : Bool → List Fault → Bool
none_counts m [] = true
none_counts m (f ∷ fs) = not (counts m f) && none_counts m fs

abbrev pub is_taken : Option SyntaxError → Bool
is_taken None = true
is_taken (Some k) = false

abbrev pub clean_by : Bool → Verdict → Bool
clean_by m v = is_taken v.refusal && none_counts m v.faults

-- the word is taken, and with no fault that counts
abbrev pub is_clean : Context → Verdict → Bool
is_clean c v = clean_by c.module v

-- ---- texts

pub is_same : (w t : List ℕ) → is_text w t ≡ true → w ≡ t
is_same w t h = same_text w t (sym h)

-- none of the texts is t, so what is one of them is another
among : (w t : List ℕ) (texts : List (List ℕ)) → is_one_of t texts ≡ false → is_one_of w texts ≡ true
    → is_text w t ≡ false
among w t texts apart h = elim (is_text w t) as (λ b. is_text w t ≡ b → is_text w t ≡ false) [
  | true ↦ (λ e. let same = ap (λ v. is_one_of v texts) (is_same w t e) in
      let f : true ≡ false = sym h ∙ same ∙ apart in cc)
  | false ↦ (λ e. e)
] refl

-- ---- faults

both_none : (m : Bool) (fs gs : List Fault) → none_counts m (fs ++ gs) ≡ (none_counts m fs && none_counts m gs)
both_none m [] gs = refl
both_none m (now k ∷ fs) gs = refl
both_none true (in_modules k ∷ fs) gs = refl
both_none false (in_modules k ∷ fs) gs = both_none false fs gs

-- of a name: it is `enum`, a name that strict code reserves, and `arguments`, in a class field
name_clean : (m e s f a : Bool) (w : List ℕ) → (s ≡ true → a ≡ false) →
    clean_by m (if e then taken_with (now (kind.InvalidIdentInStrict w)) else (if s then taken_with
    (in_modules (kind.InvalidIdentInStrict w)) else (if f && a then taken_with
    (now kind.ArgumentsInClassField) else taken)))
    ≡ (not e && (not (m && s) && not (f && a)))
name_clean m true s f a w h = refl
name_clean m false true f true w h = let x = h refl in absurd cc
name_clean true false true f false w h = refl
name_clean false false true true false w h = refl
name_clean false false true false false w h = refl
name_clean true false false true true w h = refl
name_clean false false false true true w h = refl
name_clean true false false true false w h = refl
name_clean false false false true false w h = refl
name_clean true false false false a w h = refl
name_clean false false false false a w h = refl

-- of a binding: it is a name that strict code doesn't bind, and `yield`, in a generator
binding_clean : (m v g y : Bool) → (v ≡ true → y ≡ false) →
    none_counts m (if v then in_modules kind.EvalAndArgumentsInStrict
    ∷ [] else (if g && y then now kind.ExpectedIdent ∷ [] else [])) ≡ (not (m && v) && not (g && y))
binding_clean m true g true h = let x = h refl in absurd cc
binding_clean true true g false h = refl
binding_clean false true true false h = refl
binding_clean false true false false h = refl
binding_clean true false true true h = refl
binding_clean false false true true h = refl
binding_clean true false true false h = refl
binding_clean false false true false h = refl
binding_clean true false false y h = refl
binding_clean false false false y h = refl

-- the faults of a binding come where the word is taken
bound_clean : (m : Bool) (o r : Option SyntaxError) (fs gs : List Fault) → o ≡ r →
    clean_by m (elim o [
      | None ↦ record { faults = fs ++ gs; refusal = r }
      | Some k ↦ record {
        faults = fs;
        refusal =
            r;
      }
    ]) ≡ ((is_taken r && none_counts m fs) && none_counts m gs)
bound_clean m None None fs gs h = both_none m fs gs
bound_clean m None (Some k) fs gs h = cc
bound_clean m (Some k) None fs gs h = cc
bound_clean m (Some k) (Some l) fs gs h = refl

-- ---- references

strict_not_arguments : (w : List ℕ) → is_one_of w strict_names ≡ true → is_text w (codes "arguments") ≡ false
strict_not_arguments w h = among w (codes "arguments") strict_names refl h

bound_not_yield : (w : List ℕ) → is_one_of w strict_binding_words ≡ true → is_text w (codes "yield") ≡ false
bound_not_yield w h = among w (codes "yield") strict_binding_words refl h

ident_clean : (c : Context) (w : List ℕ) (y a : Bool) → is_clean c
    (ident_verdict y a c (word.Ident w)) ≡ (not (is_text w (codes "enum")) && ref_ok c (word.Ident w))
ident_clean c w y a = name_clean c.module (is_text w (codes "enum")) (is_one_of w strict_names) c.in_class_field
    (is_text w (codes "arguments")) w (strict_not_arguments w)

reference_await : (m s g f : Bool) (r : Bool) → not (r || s || g) ≡ true
    → (is_taken (if s then Some kind.ExpectedIdent else (if m || r then Some kind.InvalidIdentInAsync else unless
    (not r))) && true) ≡ (not (m && true) && not (f && false))
reference_await m s g f true h = cc
reference_await m true g f false h = cc
reference_await true false g true false h = refl
reference_await true false g false false h = refl
reference_await false false g true false h = refl
reference_await false false g false false h = refl

reference_yield : (m g s f : Bool) → not (g || s) ≡ true
    → (is_taken (unless (not g)) && (not m && true)) ≡ (not (m && true) && not (f && false))
reference_yield m true s f h = cc
reference_yield true false s f h = refl
reference_yield false false s true h = refl
reference_yield false false s false h = refl

reference_let : (m f : Bool) → (true && (not m && true)) ≡ (not (m && true) && not (f && false))
reference_let true f = refl
reference_let false true = refl
reference_let false false = refl

not_first : (a b r : Bool) → not (a || b) ≡ true → (not a && r) ≡ r
not_first true b r h = cc
not_first false b r h = refl

-- a word that is a reference is taken so where it has no early error
pub reference-table : (c : Context) (w : Word) → is_reference c w ≡ true
    → is_clean c (reference_verdict c w) ≡ ref_ok c w
reference-table c (word.Ident w) h = ident_clean c w (not c.in_generator) (not c.in_async) ∙ not_first
    (is_text w (codes "enum")) (c.strict && is_one_of w strict_reserved) (ref_ok c (word.Ident w)) h
reference-table c (word.Keyword keyword.Let) h = reference_let c.module c.in_class_field
reference-table c (word.Keyword keyword.Yield) h = reference_yield c.module c.in_generator c.strict c.in_class_field h
reference-table c (word.Keyword keyword.Await) h = reference_await c.module c.in_static_block c.strict c.in_class_field
    c.in_async h
reference-table c w h = cc

-- ---- bindings

apart : (e y r b : Bool) → ((not e && r) && (b && not y)) ≡ ((not e && not y) && (r && b))
apart true y r b = refl
apart false true false b = refl
apart false true true true = refl
apart false true true false = refl
apart false false false b = refl
apart false false true true = refl
apart false false true false = refl

of_bound : (c : Context) (w : Word) →
    is_clean c (binding_verdict c w) ≡ (is_clean c (ident_verdict true true c w) &&
    (not (c.module && is_one_of (word_text w) strict_binding_words) && not
    (c.in_generator && is_text (word_text w) (codes "yield"))))
of_bound c w =
    let v = ident_verdict true true c w in
    bound_clean c.module v.refusal v.refusal v.faults (binding_faults c (word_text w)) refl
    ∙ ap (λ b. is_clean c v && b) (binding_clean c.module (is_one_of (word_text w) strict_binding_words) c.in_generator
    (is_text (word_text w) (codes "yield")) (bound_not_yield (word_text w)))

binding_await : (m s r f g : Bool)
    → ((is_taken (if s then Some kind.ExpectedIdent else (if m || r then Some kind.InvalidIdentInAsync else None))
    && true) && (not (m && false) && not (g && false)))
    ≡ (not (r || s || m) && ((not (m && true) && not (f && false)) && not (m && false)))
binding_await m true true f g = refl
binding_await m true false f g = refl
binding_await true false true f g = refl
binding_await true false false f g = refl
binding_await false false true f g = refl
binding_await false false false true true = refl
binding_await false false false true false = refl
binding_await false false false false true = refl
binding_await false false false false false = refl

binding_yield : (m g f : Bool) → ((true && (not m && true)) && (not (m && false) && not (g && true))) ≡ (not g &&
    ((not (m && true) && not (f && false)) && not (m && false)))
binding_yield true true f = refl
binding_yield true false f = refl
binding_yield false true f = refl
binding_yield false false true = refl
binding_yield false false false = refl

binding_let : (m g f : Bool) → ((true && (not m && true)) && (not (m && false) && not (g && false))) ≡ (true &&
    ((not (m && true) && not (f && false)) && not (m && false)))
binding_let true g f = refl
binding_let false true true = refl
binding_let false true false = refl
binding_let false false true = refl
binding_let false false false = refl

-- a word is bound where it may be
pub binding-table : (c : Context) (w : Word) → is_clean c (binding_verdict c w) ≡ may_bind c w
binding-table c (word.Ident w) =
    of_bound c (word.Ident w)
    ∙ ap (λ b. b && (not (c.module && is_one_of w strict_binding_words) && not
    (c.in_generator && is_text w (codes "yield")))) (ident_clean c w true true)
    ∙ apart (is_text w (codes "enum")) (c.in_generator && is_text w (codes "yield")) (ref_ok c (word.Ident w))
    (not (c.module && is_one_of w strict_binding_words))
binding-table c (word.Keyword keyword.Let) = of_bound c
    (word.Keyword keyword.Let) ∙ binding_let c.module c.in_generator c.in_class_field
binding-table c (word.Keyword keyword.Yield) = of_bound c
    (word.Keyword keyword.Yield) ∙ binding_yield c.module c.in_generator c.in_class_field
binding-table c (word.Keyword keyword.Await) = of_bound c
    (word.Keyword keyword.Await) ∙ binding_await c.module c.in_static_block c.in_async c.in_class_field c.in_generator
binding-table c w = refl
