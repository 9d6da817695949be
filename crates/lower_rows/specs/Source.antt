-- The source of the rows. Nothing is promised of what it gives, but that nothing comes after its end, or after it has
-- failed.
use Rattle.std.specs.Prelude.{◌≡◌, ⊤, ℕ, ◌+◌, ◌<◌, ◌≤◌, false, true, List, [], ◌++◌, Option, Some, None, MatchOption, length}
use Rattle.std.proofs.Common.{refl, ap, ◌∙◌}
use Rattle.swc_context.specs.declared.context.TokenContexts.{TokenContexts}
use Rattle.swc_input.specs.{Laws.keeps_same, declared.listed.TokensInput.TokensInput, declared.token.TokenAndSpan.TokenAndSpan}
use Rattle.swc_input.specs.Listed.{listed_state, listed_lawful, ListedGives}
use Rattle.swc_input.specs.Source.{Source, Model, Laws, IsLawful, Keeping, Gave, Asked, Unmoved}
use Rattle.lower_rows.specs.declared.source.TestInput.{TestInput}

abbrev pub hinted_tokens : Option TokenAndSpan → ℕ
hinted_tokens None = 0
hinted_tokens (Some t) = 1

-- no more tokens than this are still to come
abbrev pub tokens_left : TestInput → ℕ
tokens_left s = length s.list.rest.items + hinted_tokens s.hinted

-- its list isn't promised
abbrev pub test_state : TestInput → Source
test_state s = record (listed_state s.list) { failed = s.failed; ended = s.ended; known = None; bound = tokens_left s }

abbrev pub test_model : Model TestInput
test_model = record { state = test_state; gives = λ s xs t. Gave (test_state s) xs (test_state t); told = λ s h t. ⊤ }

-- what asking a list for tokens leaves as it is
pub record SameList (s t : TokensInput) : Type 0 where
  pub context : t.context ≡ s.context
  pub syntax : t.syntax ≡ s.syntax
  pub target : t.target ≡ s.target
  pub errors : t.errors.items ≡ s.errors.items
  pub waiting : t.module_errors.items ≡ s.module_errors.items

-- tokens of the list were dropped, and r is the one after them
pub record NextFrom (s : TokensInput) (r : Option TokenAndSpan) (t : TokensInput) : Type 0 where
  pub same : SameList s t
  pub fewer : MatchOption r (length t.rest.items ≤ length s.rest.items) (λ x. length t.rest.items < length s.rest.items)

-- the same of a source: fewer tokens are still to come
pub record NextGiven (s : TestInput) (r : Option TokenAndSpan) (t : TestInput) : Type 0 where
  pub same : SameList s.list t.list
  pub fewer : MatchOption r (tokens_left t ≤ tokens_left s) (λ x. tokens_left t < tokens_left s)

-- whether the source has ended or failed is what it was
pub record StillOpen (s t : TestInput) : Type 0 where
  pub ended : t.ended ≡ s.ended
  pub failed : t.failed ≡ s.failed

-- a call of `next` that answered r
pub record Answered (s : TestInput) (r : Option TokenAndSpan) (t : TestInput) : Type 0 where
  pub given : NextGiven s r t
  pub ended : s.ended ≡ true → t.ended ≡ true
  pub failed : s.failed ≡ true → t.failed ≡ true
  pub runs : MatchOption r (t.failed ≡ false → t.ended ≡ true)
      (λ x. (s.ended ≡ false) × (s.failed ≡ false) × (t.failed ≡ false))

lawful : (s : TestInput) → IsLawful (test_state s)
lawful s = record { none_waits = (listed_lawful s.list).none_waits; over = λ m h e. cc }

-- nothing was given, and the source is the same as it was
pub stays : (s t : TestInput) → t.list.syntax ≡ s.list.syntax → t.list.target ≡ s.list.target → StillOpen s t
    → Gave (test_state s) [] (test_state t)
stays s t syntax target same = record {
  syntax = syntax;
  target = target;
  ended = λ e. refl;
  stays = λ e. same.ended ∙ e;
  failed = λ f. (refl, same.failed ∙ f);
  known = λ m h. cc;
  unknown = λ h. refl;
}

none : (s : TestInput) → Gave (test_state s) [] (test_state s)
none s = stays s s refl refl (record { ended = refl; failed = refl })

-- what one call gave and then another
then : (a b c : Source) (xs ys : List TokenAndSpan) → Gave a xs b → Gave b ys c → a.known ≡ None → Gave a (xs ++ ys) c
then a b c xs ys p q unknown = record {
  syntax = q.syntax ∙ p.syntax;
  target = q.target ∙ p.target;
  ended = λ e. ap (λ l. l ++ ys) (p.ended e) ∙ q.ended (p.stays e);
  stays = λ e. q.stays (p.stays e);
  failed = λ f. let g = p.failed f in let h = q.failed g.1 in (ap (λ l. l ++ ys) g.0 ∙ h.0, h.1);
  known = λ m h. cc;
  unknown = λ h. q.unknown (p.unknown h);
}

pub test_laws : Laws test_model
test_laws = record {
  lawful = lawful;
  none = none;
  joins = λ s t u xs ys p q. then (test_state s) (test_state t) (test_state u) xs ys p q refl;
  gave = λ s t xs p. p;
}

-- a call of the list alone, which gave nothing
pub list_called : (s : TestInput) (l : TokensInput) → ListedGives s.list [] l
    → Gave (test_state s) [] (test_state (record s { list = l }))
list_called s l g = stays s (record s { list = l }) g.syntax g.target (record { ended = refl; failed = refl })

-- a lexer's stack of contexts is no part of the state
abbrev pub with_contexts : TestInput → TokenContexts → TestInput
with_contexts s contexts = record s { list = record s.list { contexts = contexts } }

pub test_unmoved : (s : TestInput) (contexts : TokenContexts) → Unmoved test_model s (with_contexts s contexts)
test_unmoved s contexts = record {
  gave = stays s (with_contexts s contexts) refl refl
      (record { ended = refl; failed = refl });
  state = refl;
}

keeping : (s t : TestInput) → SameList s.list t.list → Keeping (test_state s) (test_state t)
keeping s t same = record {
  context = same.context;
  errors = keeps_same _ _ same.errors;
  waiting = keeps_same _ _ same.waiting;
  quiet = λ m h. cc;
}

pub test_asked : (s : TestInput) (r : Option TokenAndSpan) (t : TestInput) → Answered s r t → Asked test_model s r t
test_asked s (Some x) t n = record {
  gave = record {
    syntax = n.given.same.syntax;
    target = n.given.same.target;
    ended = λ e. let f : true ≡ false = cc in cc;
    stays = n.ended;
    failed = λ e. cc;
    known = λ m h. cc;
    unknown = λ h. refl;
  };
  token = record { keeping = keeping s t n.given.same; runs = (n.runs.1, n.runs.2); lower = n.given.fewer };
}
test_asked s None t n = record {
  gave = record {
    syntax = n.given.same.syntax;
    target = n.given.same.target;
    ended = λ e. refl;
    stays = n.ended;
    failed = λ f. (refl, n.failed f);
    known = λ m h. cc;
    unknown = λ h. refl;
  };
  token = record { keeping = keeping s t n.given.same; ended = n.runs; lower = n.given.fewer };
}
