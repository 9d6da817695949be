-- The source of a program. Nothing is promised of what it gives, but that nothing comes after its end, or after it has
-- failed.
use Rattle.std.specs.Prelude.{◌≡◌, ⊤, ℕ, ◌-◌, ◌<◌, ◌≤◌, false, true, List, [], ◌++◌, Option, Some, None, MatchOption, length}
use Rattle.std.proofs.Common.{refl, ap, ◌∙◌}
use Rattle.swc_context.specs.declared.context.TokenContexts.{TokenContexts}
use Rattle.swc_input.specs.{Laws.keeps_same, declared.listed.TokensInput.TokensInput, declared.token.TokenAndSpan.TokenAndSpan}
use Rattle.swc_input.specs.Listed.{listed_state, listed_lawful, ListedGives}
use Rattle.swc_input.specs.Source.{Source, Model, Laws, IsLawful, Keeping, Gave, Asked, Unmoved}
use Rattle.program_tokens.specs.declared.source.ProgramInput.{ProgramInput}

-- no more tokens than this are still to come
abbrev pub tokens_left : ProgramInput → ℕ
tokens_left s = length s.list.tokens.items - s.at

-- its list isn't promised
abbrev pub program_state : ProgramInput → Source
program_state s = record (listed_state s.notes) {
  failed = s.failed;
  ended = s.ended;
  known = None;
  bound =
      tokens_left s;
}

abbrev pub program_model : Model ProgramInput
program_model = record {
  state = program_state;
  gives = λ s xs t. Gave (program_state s) xs (program_state t);
  told =
      λ s h t. ⊤;
}

-- whether the source has ended or failed, and what is noted, is what it was
pub record StillOpen (s t : ProgramInput) : Type 0 where
  pub notes : t.notes ≡ s.notes
  pub ended : t.ended ≡ s.ended
  pub failed : t.failed ≡ s.failed

-- a call of `next` that answered r
pub record Answered (s : ProgramInput) (r : Option TokenAndSpan) (t : ProgramInput) : Type 0 where
  pub notes : t.notes ≡ s.notes
  pub fewer : MatchOption r (tokens_left t ≤ tokens_left s) (λ x. tokens_left t < tokens_left s)
  pub ended : s.ended ≡ true → t.ended ≡ true
  pub failed : s.failed ≡ true → t.failed ≡ true
  pub runs : MatchOption r (t.failed ≡ false → t.ended ≡ true)
      (λ x. (s.ended ≡ false) × (s.failed ≡ false) × (t.failed ≡ false))

lawful : (s : ProgramInput) → IsLawful (program_state s)
lawful s = record { none_waits = (listed_lawful s.notes).none_waits; over = λ m h e. cc }

-- nothing was given
pub stays : (s t : ProgramInput) → t.notes.syntax ≡ s.notes.syntax → t.notes.target ≡ s.notes.target → t.ended ≡ s.ended
    → t.failed ≡ s.failed
    → Gave (program_state s) [] (program_state t)
stays s t syntax target ended failed = record {
  syntax = syntax;
  target = target;
  ended = λ e. refl;
  stays = λ e. ended ∙ e;
  failed = λ f. (refl, failed ∙ f);
  known = λ m h. cc;
  unknown = λ h. refl;
}

none : (s : ProgramInput) → Gave (program_state s) [] (program_state s)
none s = stays s s refl refl refl refl

-- what one call gave and then another
then : (a b c : Source) (xs ys : List TokenAndSpan) → Gave a xs b → Gave b ys c → a.known ≡ None → Gave a (xs ++ ys) c
then a b c xs ys p q unknown = record {
  syntax = q.syntax ∙ p.syntax;
  target = q.target ∙ p.target;
  ended = λ e. ap (λ l. l ++ ys) (p.ended e) ∙ q.ended (p.stays e);
  stays = λ e. q.stays (p.stays e);
  failed = λ f. let g = p.failed f in let h = q.failed g.1 in (ap (λ l. l ++ ys) g.0 ∙ h.0, h.1);
  known = λ m h. cc;
  unknown = λ h. q.unknown (p.unknown h);
}

pub program_laws : Laws program_model
program_laws = record {
  lawful = lawful;
  none = none;
  joins = λ s t u xs ys p q. then (program_state s) (program_state t) (program_state u) xs ys p q refl;
  gave = λ s t xs p. p;
}

-- a call of what is kept beside the list
pub notes_called : (s : ProgramInput) (l : TokensInput) → ListedGives s.notes [] l
    → Gave (program_state s) [] (program_state (record s { notes = l }))
notes_called s l g = stays s (record s { notes = l }) g.syntax g.target refl refl

-- a lexer's stack of contexts is no part of the state
abbrev pub with_contexts : ProgramInput → TokenContexts → ProgramInput
with_contexts s contexts = record s { notes = record s.notes { contexts = contexts } }

pub program_unmoved : (s : ProgramInput) (contexts : TokenContexts) → Unmoved program_model s (with_contexts s contexts)
program_unmoved s contexts = record { gave = stays s (with_contexts s contexts) refl refl refl refl; state = refl }

keeping : (s t : ProgramInput) → t.notes ≡ s.notes → Keeping (program_state s) (program_state t)
keeping s t same = record {
  context = ap (λ n. n.context) same;
  errors = keeps_same _ _ (ap (λ n. n.errors.items) same);
  waiting = keeps_same _ _ (ap (λ n. n.module_errors.items) same);
  quiet = λ m h. cc;
}

pub program_asked : (s : ProgramInput) (r : Option TokenAndSpan) (t : ProgramInput) → Answered s r t
    → Asked program_model s r t
program_asked s (Some x) t n = record {
  gave = record {
    syntax = ap (λ m. m.syntax) n.notes;
    target = ap (λ m. m.target) n.notes;
    ended = λ e. let f : true ≡ false = cc in cc;
    stays = n.ended;
    failed = λ e. cc;
    known = λ m h. cc;
    unknown = λ h. refl;
  };
  token = record { keeping = keeping s t n.notes; runs = (n.runs.1, n.runs.2); lower = n.fewer };
}
program_asked s None t n = record {
  gave = record {
    syntax = ap (λ m. m.syntax) n.notes;
    target = ap (λ m. m.target) n.notes;
    ended = λ e. refl;
    stays = n.ended;
    failed = λ f. (refl, n.failed f);
    known = λ m h. cc;
    unknown = λ h. refl;
  };
  token = record { keeping = keeping s t n.notes; ended = n.runs; lower = n.fewer };
}
