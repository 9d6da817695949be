-- `TokensInput` as a source.
use Rattle.std.specs.Prelude.{◌≡◌, Bool, true, false, List, [], ◌∷◌, ◌++◌, Option, Some, None, length, map, MatchOption}
use Rattle.std.proofs.Common.{refl, ap, sym, ◌∙◌, append_assoc, arith}
use Rattle.std.proofs.lemmas.List.{nil_from_length}
use Rattle.swc_context.specs.{declared.context.Context.Context, declared.context.EsVersion.EsVersion, declared.context.Syntax.Syntax, declared.context.TokenContexts.TokenContexts, declared.span.BytePos.BytePos}
use Rattle.swc_input.specs.Source.{Source, Model, Laws, IsLawful, Keeping, Gave, Asked, Unmoved}
use Rattle.swc_input.specs.{declared.token.TokenAndSpan.TokenAndSpan, declared.listed.TokensInput.TokensInput, Plain.plain, Laws.keeps_same}

abbrev pub is_nil : {A : Type 0} → List A → Bool
is_nil [] = true
is_nil (x ∷ xs) = false

-- the tokens still to come
abbrev pub coming : TokensInput → List TokenAndSpan
coming s = map plain s.rest.items

abbrev pub listed_state : TokensInput → Source
listed_state s = record {
  context = s.context;
  syntax = s.syntax;
  target = s.target;
  errors = s.errors.items;
  waiting = s.module_errors.items;
  failed = false;
  ended = is_nil (coming s);
  known = Some (coming s);
  bound = length s.rest.items;
}

-- a source that nothing was asked of
abbrev pub new_state : List TokenAndSpan → Context → Syntax → EsVersion → Source
new_state ts c x v = record {
  context = c;
  syntax = x;
  target = v;
  errors = [];
  waiting = [];
  failed = false;
  ended = is_nil (map plain ts);
  known = Some (map plain ts);
  bound = length ts;
}

-- where a source begins: at its first token, or at a place of its own
abbrev pub begins_at : TokensInput → BytePos
begins_at s = s.start

abbrev pub origin : BytePos
origin = record { 0 = 0 }

abbrev pub first_place : BytePos → List TokenAndSpan → BytePos
first_place start [] = start
first_place start (t ∷ ts) = t.span.lo

pub record ListedGives (s : TokensInput) (xs : List TokenAndSpan) (t : TokensInput) : Type 0 where
  pub list : coming s ≡ xs ++ coming t
  pub syntax : t.syntax ≡ s.syntax
  pub target : t.target ≡ s.target

-- a call of `next` that answered r: it takes the first token, and nothing else changes
pub record NextListed (s : TokensInput) (r : Option TokenAndSpan) (t : TokensInput) : Type 0 where
  pub first : MatchOption r ((s.rest.items ≡ []) × (t.rest.items ≡ [])) (λ x. s.rest.items ≡ x ∷ t.rest.items)
  pub context : t.context ≡ s.context
  pub syntax : t.syntax ≡ s.syntax
  pub target : t.target ≡ s.target
  pub errors : t.errors.items ≡ s.errors.items
  pub waiting : t.module_errors.items ≡ s.module_errors.items

pub is_nil-nil : {A : Type 0} (xs : List A) → is_nil xs ≡ true → xs ≡ []
is_nil-nil [] h = refl
is_nil-nil (x ∷ xs) h = cc

pub first_nil : {A : Type 0} (xs ys : List A) → [] ≡ xs ++ ys → xs ≡ []
first_nil [] ys h = refl
first_nil (x ∷ xs) ys h = cc

pub second_nil : {A : Type 0} (xs ys : List A) → [] ≡ xs ++ ys → ys ≡ []
second_nil [] ys h = sym h
second_nil (x ∷ xs) ys h = cc

keeping : (s t : TokensInput) (r : Option TokenAndSpan) → NextListed s r t → Keeping (listed_state s) (listed_state t)
keeping s t r n = record {
  context = n.context;
  errors = keeps_same _ _ n.errors;
  waiting = keeps_same _ _ n.waiting;
  quiet = λ m h. (n.errors, n.waiting);
}

abbrev pub with_contexts : TokensInput → TokenContexts → TokensInput
with_contexts s contexts = record s { contexts = contexts }

abbrev pub listed_model : Model TokensInput
listed_model = record { state = listed_state; gives = ListedGives; told = λ s h t. t ≡ s }

pub listed_lawful : (s : TokensInput) → IsLawful (listed_state s)
listed_lawful s = record {
  none_waits = λ h. let none = s.none_waits h in let long = s.module_errors.ok in
      nil_from_length s.module_errors.items (omega arith);
  over = λ m h e. let same : coming s ≡ m = cc in sym same ∙ is_nil-nil (coming s) e;
}

pub listed_none : (s : TokensInput) → ListedGives s [] s
listed_none s = record { list = refl; syntax = refl; target = refl }

pub listed_joins : (s t u : TokensInput) (xs ys : List TokenAndSpan) → ListedGives s xs t → ListedGives t ys u
    → ListedGives s (xs ++ ys) u
listed_joins s t u xs ys a b = record {
  list = a.list ∙ ap (λ l. xs ++ l) b.list ∙ sym (append_assoc xs ys (coming u));
  syntax = b.syntax ∙ a.syntax;
  target = b.target ∙ a.target;
}

pub listed_gave : (s t : TokensInput) (xs : List TokenAndSpan) → ListedGives s xs t
    → Gave (listed_state s) xs (listed_state t)
listed_gave s t xs a = record {
  syntax = a.syntax;
  target = a.target;
  ended = λ e. first_nil xs (coming t) (sym (is_nil-nil (coming s) e) ∙ a.list);
  stays = λ e. ap is_nil (second_nil xs (coming t) (sym (is_nil-nil (coming s) e) ∙ a.list));
  failed = λ h. cc;
  known = λ m h. (coming t, refl, (let same : coming s ≡ m = cc in sym same ∙ a.list));
  unknown = λ h. cc;
}

pub listed_laws : Laws listed_model
listed_laws = record { lawful = listed_lawful; none = listed_none; joins = listed_joins; gave = listed_gave }

-- a lexer's stack of contexts is no part of the state
pub listed_unmoved : (s : TokensInput) (contexts : TokenContexts) → Unmoved listed_model s (with_contexts s contexts)
listed_unmoved s contexts = record { gave = record { list = refl; syntax = refl; target = refl }; state = refl }

pub listed_asked : (s : TokensInput) (r : Option TokenAndSpan) (t : TokensInput) → NextListed s r t
    → Asked listed_model s r t
listed_asked s (Some x) t n = record {
  gave = record { list = ap (λ l. map plain l) n.first; syntax = n.syntax; target = n.target };
  token = record {
    keeping = keeping s t (Some x) n;
    runs = (refl, refl);
    lower = let long = ap length n.first in omega arith;
  };
}
listed_asked s None t n = record {
  gave = record { list = ap (λ l. map plain l) (n.first.0 ∙ sym n.first.1); syntax = n.syntax; target = n.target };
  token = record {
    keeping = keeping s t None n;
    ended = λ h. ap (λ l. is_nil (map plain l)) n.first.1;
    lower = let a = ap length n.first.0 in let b = ap length n.first.1 in omega arith;
  };
}
