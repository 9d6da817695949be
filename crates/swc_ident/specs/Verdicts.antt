-- What each word is where a name is wanted: with which faults it is taken, or why it is refused (ECMA-262, 12.7 and
-- 13.1.1).
use Rattle.std.specs.Prelude.{ℕ, Bool, true, false, not, ◌&&◌, ◌||◌, if◌then◌else◌, List, [], ◌∷◌, ◌++◌, Option, Some, None, codes}
use Rattle.swc_context.specs.Reserved.{is_reserved, strict_names, strict_binding_words}
use Rattle.swc_context.specs.{Texts.is_text, Texts.is_one_of, Words.word_text, declared.context.Context.Context, declared.error.SyntaxError.SyntaxError, declared.error.SyntaxError.SyntaxError as kind, declared.word.Keyword.Keyword as keyword, declared.word.Word.Word, declared.word.Word.Word as word}
use Rattle.swc_input.specs.declared.token.Token.{Token, Token as token}
pub use Rattle.swc_input.specs.Kinds.{is_word}

-- a fault with which a word is taken: one that is recorded at once, or one of modules, which waits elsewhere
pub data Fault : Type 0 where
  now : SyntaxError → Fault
  in_modules : SyntaxError → Fault

-- the faults that a word has, in their order, and then the kind by which it is refused; none: it is taken
pub record Verdict : Type 0 where
  pub faults : List Fault
  pub refusal : Option SyntaxError

abbrev pub taken : Verdict
taken = record { faults = []; refusal = None }

abbrev pub taken_with : Fault → Verdict
taken_with f = record { faults = f ∷ []; refusal = None }

abbrev pub refused : SyntaxError → Verdict
refused k = record { faults = []; refusal = Some k }

-- a word is taken where it is included
abbrev pub unless : Bool → Option SyntaxError
unless true = None
unless false = Some kind.ExpectedIdent

-- a word that is no keyword; `let` and `yield`, which strict code reserves too, are keywords, and have rows of their
-- own
abbrev pub verdict_of_name : Bool → List ℕ → Verdict
verdict_of_name in_class_field w =
    if is_text w (codes "enum") then taken_with (now (kind.InvalidIdentInStrict w)) else
    (if is_one_of w strict_names then taken_with (in_modules (kind.InvalidIdentInStrict w)) else
    (if in_class_field && is_text w (codes "arguments") then taken_with (now kind.ArgumentsInClassField) else taken))

abbrev pub name_verdict : Context → List ℕ → Verdict
name_verdict c w = verdict_of_name c.in_class_field w

-- `await` is no identifier in a static block, then none in a module and in async code, and else one where it is
-- included
abbrev pub await_refusal : Context → Bool → Option SyntaxError
await_refusal c included =
    if c.in_static_block then Some kind.ExpectedIdent else
    (if c.module || c.in_async then Some kind.InvalidIdentInAsync else unless included)

-- Identifier: by the word, the context, and whether `yield` and `await` are included
abbrev pub verdict_of : Bool → Option SyntaxError → Bool → Word → Verdict
verdict_of y of_await in_class_field (word.Ident w) = verdict_of_name in_class_field w
verdict_of y of_await in_class_field (word.Keyword keyword.Let) =
    taken_with (in_modules (kind.InvalidIdentInStrict (codes "let")))
verdict_of y of_await in_class_field (word.Keyword keyword.Yield) =
    record { faults = in_modules (kind.InvalidIdentInStrict (codes "yield")) ∷ []; refusal = unless y }
verdict_of y of_await in_class_field (word.Keyword keyword.Await) = record { faults = []; refusal = of_await }
verdict_of y of_await in_class_field w = refused kind.ExpectedIdent

abbrev pub ident_verdict : Bool → Bool → Context → Word → Verdict
ident_verdict y a c w = verdict_of y (await_refusal c a) c.in_class_field w

-- IdentifierReference and LabelIdentifier: `yield` is included outside generators, `await` outside async code
abbrev pub reference_verdict : Context → Word → Verdict
reference_verdict c w = ident_verdict (not c.in_generator) (not c.in_async) c w

-- BindingIdentifier: both are included; what strict code doesn't bind is a fault more, and so is `yield` in a generator
abbrev pub binding_faults : Context → List ℕ → List Fault
binding_faults c w =
    if is_one_of w strict_binding_words then in_modules kind.EvalAndArgumentsInStrict ∷ [] else
    (if c.in_generator && is_text w (codes "yield") then now kind.ExpectedIdent ∷ [] else [])

abbrev pub and_then : Verdict → List Fault → Verdict
and_then v fs = record v { faults = v.faults ++ fs }

-- the faults of a binding come where the word is taken
abbrev pub binding_verdict : Context → Word → Verdict
binding_verdict c w = elim (ident_verdict true true c w).refusal [
  | None ↦ and_then (ident_verdict true true c w)
      (binding_faults c (word_text w))
  | Some k ↦ ident_verdict true true c w
]

-- IdentifierName: any word
abbrev pub name_of_any : Context → Word → Verdict
name_of_any c w = taken

-- a word that may be bound where it is, which is what an optional binding asks
abbrev pub is_bindable : Context → Token → Bool
is_bindable c (token.Word w) = not (is_reserved c w)
is_bindable c t = false

abbrev pub is_str : Token → Bool
is_str (token.Str value raw) = true
is_str t = false
