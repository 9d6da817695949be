-- A text in ASCII as a source: a listed one, whose list is the tokens that were found in the text.
use Rattle.std.specs.Prelude.{◌≡◌, ℕ, true, false, List, [], ◌∷◌, ◌++◌, Some, None, map, length, reverse, string_bytes}
use Rattle.std.proofs.Common.{refl, ap, sym, ◌∙◌, append_assoc, arith}
use Rattle.std.proofs.lemmas.List.{reverse-append}
use Rattle.swc_context.specs.declared.context.TokenContexts.{TokenContexts}
use Rattle.swc_input.specs.{Laws.keeps_same, Plain.plain, declared.listed.TokensInput.TokensInput, declared.token.TokenAndSpan.TokenAndSpan}
use Rattle.swc_input.specs.Listed.{is_nil, is_nil-nil, first_nil, second_nil, listed_state, listed_lawful, ListedGives}
use Rattle.swc_input.specs.Source.{Source, Model, Laws, Keeping, Gave, Asked, Unmoved}
use Rattle.swc_tokens.specs.{Found.all_made, Found.made, declared.found.Found.Found, declared.input.AsciiInput.AsciiInput}

abbrev pub bytes_of : AsciiInput → List ℕ
bytes_of s = string_bytes s.text

-- the tokens that weren't given yet, as they were found
abbrev pub rest_of : AsciiInput → List Found
rest_of s = reverse s.found.items

-- and as they are made
abbrev pub tokens_of : AsciiInput → List TokenAndSpan
tokens_of s = all_made (bytes_of s) (rest_of s)

abbrev pub coming_of : List ℕ → List Found → List TokenAndSpan
coming_of text fs = map plain (all_made text fs)

-- the tokens still to come
abbrev pub coming : AsciiInput → List TokenAndSpan
coming s = coming_of (bytes_of s) (rest_of s)

abbrev pub left : AsciiInput → ℕ
left s = length (rest_of s)

abbrev pub input_state : AsciiInput → Source
input_state s =
    record (listed_state s.notes) {
      failed = s.failed;
      ended = is_nil (coming s);
      known = Some (coming s);
      bound = left s;
    }

-- between two states the tokens xs were given, by some calls
pub record InputGives (s : AsciiInput) (xs : List TokenAndSpan) (t : AsciiInput) : Type 0 where
  pub list : coming s ≡ xs ++ coming t
  pub failed : s.failed ≡ true → (xs ≡ []) × (t.failed ≡ true)
  pub syntax : t.notes.syntax ≡ s.notes.syntax
  pub target : t.notes.target ≡ s.notes.target

abbrev pub with_contexts : AsciiInput → TokenContexts → AsciiInput
with_contexts s contexts = record s { notes = record s.notes { contexts = contexts } }

abbrev pub input_model : Model AsciiInput
input_model = record { state = input_state; gives = InputGives; told = λ s h t. t ≡ s }

pub untouched : (s : AsciiInput) → InputGives s [] s
untouched s = record { list = refl; failed = λ e. (refl, e); syntax = refl; target = refl }

input_joins : (s t u : AsciiInput) (xs ys : List TokenAndSpan) → InputGives s xs t → InputGives t ys u
    → InputGives s (xs ++ ys) u
input_joins s t u xs ys p q = record {
  list = p.list ∙ ap (λ l. xs ++ l) q.list ∙ sym (append_assoc xs ys (coming u));
  failed = λ e. let a = p.failed e in let b = q.failed a.1 in (ap (λ l. l ++ ys) a.0 ∙ b.0, b.1);
  syntax = q.syntax ∙ p.syntax;
  target = q.target ∙ p.target;
}

input_gave : (s t : AsciiInput) (xs : List TokenAndSpan) → InputGives s xs t
    → Gave (input_state s) xs (input_state t)
input_gave s t xs a = record {
  syntax = a.syntax;
  target = a.target;
  ended = λ e. first_nil xs (coming t) (sym (is_nil-nil (coming s) e) ∙ a.list);
  stays = λ e. ap is_nil (second_nil xs (coming t) (sym (is_nil-nil (coming s) e) ∙ a.list));
  failed = a.failed;
  known = λ m h. (coming t, refl, (let same : coming s ≡ m = cc in sym same ∙ a.list));
  unknown = λ h. cc;
}

pub input_laws : Laws input_model
input_laws = record {
  lawful = λ s. record {
    none_waits = (listed_lawful s.notes).none_waits;
    over = λ m h e. let same : coming s ≡ m = cc in sym same ∙ is_nil-nil (coming s) e;
  };
  none = untouched;
  joins = input_joins;
  gave = input_gave;
}

-- a call of what is kept beside the text
pub notes_called : (s : AsciiInput) (l : TokensInput) → ListedGives s.notes [] l
    → InputGives s [] (record s { notes = l })
notes_called s l g = record { list = refl; failed = λ e. (refl, e); syntax = g.syntax; target = g.target }

-- a lexer's stack of contexts is no part of the state
pub input_unmoved : (s : AsciiInput) (contexts : TokenContexts) → Unmoved input_model s (with_contexts s contexts)
input_unmoved s contexts = record { gave = untouched s; state = refl }

-- ---- `next`

-- what a call of `next` leaves as it is
abbrev pub Same : AsciiInput → AsciiInput → Type 0
Same s t = (bytes_of t ≡ bytes_of s) × (t.notes ≡ s.notes)

keeping : (s t : AsciiInput) → t.notes ≡ s.notes → Keeping (input_state s) (input_state t)
keeping s t same = record {
  context = ap (λ n. n.context) same;
  errors = keeps_same _ _ (ap (λ n. n.errors.items) same);
  waiting = keeps_same _ _ (ap (λ n. n.module_errors.items) same);
  quiet = λ m h. (ap (λ n. n.errors.items) same, ap (λ n. n.module_errors.items) same);
}

-- it gave the token that was found next
pub asked_given : (s t : AsciiInput) (f : Found) (x : TokenAndSpan) → s.failed ≡ false → t.failed ≡ s.failed
    → Same s t → s.found.items ≡ t.found.items ++ f ∷ [] → x ≡ made (bytes_of s) f → Asked input_model s (Some x) t
asked_given s t f x runs still same more is =
    let rest : rest_of s ≡ f ∷ rest_of t = rw more (reverse-append t.found.items (f ∷ [])) in
    record {
      gave = record {
        list = rw (same.0, is) (ap (coming_of (bytes_of s)) rest);
        failed = λ e. absurd (cc);
        syntax = ap (λ n. n.syntax) same.1;
        target = ap (λ n. n.target) same.1;
      };
      token = record {
        keeping = keeping s t same.1;
        runs = (runs, still ∙ runs);
        lower = (let n = ap length rest in omega (arith, n));
      };
    }

-- none was left
pub asked_over : (s : AsciiInput) → s.failed ≡ false → s.found.items ≡ [] → Asked input_model s None s
asked_over s runs none = record {
  gave = untouched s;
  token = record {
    keeping = keeping s s refl;
    ended = λ e. ap (λ fs. is_nil (coming_of (bytes_of s) (reverse fs))) none;
    lower = omega arith;
  };
}

-- it failed, or had failed
pub asked_failed : (s t : AsciiInput) → t.failed ≡ true → Same s t → t.found.items ≡ s.found.items
    → Asked input_model s None t
asked_failed s t lost same stays = record {
  gave = record {
    list = rw (same.0, stays) refl;
    failed = λ e. (refl, lost);
    syntax = ap (λ n. n.syntax) same.1;
    target = ap (λ n. n.target) same.1;
  };
  token = record {
    keeping = keeping s t same.1;
    ended = λ e. absurd (cc);
    lower = (let n = ap (λ fs. length (reverse fs)) stays in omega (arith, n));
  };
}
