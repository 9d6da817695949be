-- What the laws between lists in parentheses and parameters except, computed from tokens: each of these is read as one
-- of the two alone.
use Rattle.std.specs.Prelude.{◌≡◌, ℕ, ◌+◌, true, false, List, [], ◌∷◌, Some, None, codes}
use Rattle.std.proofs.Common.{refl}
use Rattle.swc_context.specs.{declared.span.Span.Span, declared.word.Keyword.Keyword as keyword, declared.word.Word.Word as word}
use Rattle.swc_input.specs.declared.token.TokenAndSpan.{TokenAndSpan}
use Rattle.swc_ast.specs.Patterns.{default_p}
use Rattle.swc_ast.specs.Tree.{Tree, nil, cons}
use Rattle.swc_ast.specs.Trees.{item_e, listed, items_of}
use Rattle.swc_bodies.specs.Readings.{Hook, LawfulHook}
use Rattle.swc_grammar.specs.Clean.{Out, sym, run}
use Rattle.swc_grammar.specs.{Scope.Scope, Scope.in_context, Symbols.Args, Symbols.Params, Tokens.with_in, Patterns.all_bind_names, Cover.as_params, Cover.arrow_params_ok, Reads.Reads}
use Rattle.swc_grammar.proofs.Texts.{script, module_code, generator, place, name_at, word_at, num_at, close_at, equals_at, ident, num}
use Rattle.swc_grammar.proofs.{Complete.complete, Sound.sound}
use Rattle.swc_laws.specs.Bound.{Spelled, is_kept_name, is_free_name}

abbrev static_block : Scope
static_block = in_context (λ c. record c { in_static_block = true }) script

abbrev strict_script : Scope
strict_script = in_context (λ c. record c { strict = true }) script

-- a module whose code isn't strict, which no parser is in
abbrev loose_module : Scope
loose_module = in_context (λ c. record c { «module» = true }) script

-- yield), where the word is a name
abbrev yield_name : List TokenAndSpan
yield_name = name_at (codes "yield") 0 5 ∷ close_at 5 6 ∷ []

-- await)
abbrev await_word : List TokenAndSpan
await_word = word_at (word.Keyword keyword.Await) 0 5 ∷ close_at 5 6 ∷ []

-- eval)
abbrev eval_name : List TokenAndSpan
eval_name = name_at (codes "eval") 0 4 ∷ close_at 4 5 ∷ []

-- implements)
abbrev implements_name : List TokenAndSpan
implements_name = name_at (codes "implements") 0 10 ∷ close_at 10 11 ∷ []

-- eval = 1)
abbrev eval_default : List TokenAndSpan
eval_default = name_at (codes "eval") 0 4 ∷ equals_at 5 6 ∷ num_at (codes "1") 7 8 ∷ close_at 8 9 ∷ []

-- one name, in parentheses and as a parameter
abbrev item_of : {F C K : Type 0} → List ℕ → ℕ → Tree F C K
item_of name hi = listed None (place hi (hi + 1)) (cons (item_e (ident name 0 hi)) nil)

abbrev params_of : {F C K : Type 0} → List ℕ → ℕ → Tree F C K
params_of name hi = listed None (place hi (hi + 1)) (cons (ident name 0 hi) nil)

module _ {F C K : Type 0} (hook : Hook F C K) where
  unfoldable args_answer : Scope → List TokenAndSpan → Out (Tree F C K)
  unfolding run
  args_answer c ts = run hook (sym (Args false)) (with_in c) ts

  unfoldable params_answer : Scope → List TokenAndSpan → Out (Tree F C K)
  unfolding run
  params_answer c ts = run hook (sym Params) c ts

  yield_name-args : args_answer generator yield_name ≡ Some (item_of (codes "yield") 5, [])
  unfolding args_answer
  yield_name-args = refl

  yield_name-params : params_answer generator yield_name ≡ None
  unfolding params_answer
  yield_name-params = refl

  await_word-args : args_answer static_block await_word ≡ Some (item_of (codes "await") 5, [])
  unfolding args_answer
  await_word-args = refl

  await_word-params : params_answer static_block await_word ≡ None
  unfolding params_answer
  await_word-params = refl

  eval_name-args : args_answer module_code eval_name ≡ Some (item_of (codes "eval") 4, [])
  unfolding args_answer
  eval_name-args = refl

  eval_name-params : params_answer module_code eval_name ≡ None
  unfolding params_answer
  eval_name-params = refl

  eval_name-loose-args : args_answer loose_module eval_name ≡ Some (item_of (codes "eval") 4, [])
  unfolding args_answer
  eval_name-loose-args = refl

  eval_name-loose-params : params_answer loose_module eval_name ≡ None
  unfolding params_answer
  eval_name-loose-params = refl

  implements_name-params : params_answer strict_script implements_name ≡ Some (params_of (codes "implements") 10, [])
  unfolding params_answer
  implements_name-params = refl

  implements_name-args : args_answer strict_script implements_name ≡ None
  unfolding args_answer
  implements_name-args = refl

  eval_default-params : params_answer strict_script eval_default ≡ Some (
    listed None (place 8 9) (cons (default_p (place 0 8) (ident (codes "eval") 0 4) (num (codes "1") 7 8)) nil),
    [],
  )
  unfolding params_answer
  eval_default-params = refl

  eval_default-args : args_answer strict_script eval_default ≡ None
  unfolding args_answer
  eval_default-args = refl

  refused-args : (c : Scope) {xs : List TokenAndSpan} {t : Tree F C K} → args_answer c xs ≡ None
      → Reads hook (Args false) (with_in c) xs [] t → ⊥
  unfolding args_answer
  refused-args c h d = let k = complete hook d tt in absurd cc

  refused-params : {c : Scope} {xs : List TokenAndSpan} {t : Tree F C K} → params_answer c xs ≡ None
      → Reads hook Params c xs [] t → ⊥
  unfolding params_answer
  refused-params h d = let k = complete hook d tt in absurd cc

  -- the cover law: a name that is spelled as a keyword, `await` in a static block, `eval` where an arrow function
  -- doesn't bind it, and where a module isn't strict
  yield_name-no-params : {t : Tree F C K} → Reads hook Params generator yield_name [] t → ⊥
  yield_name-no-params d = refused-params yield_name-params d

  await_word-no-params : {t : Tree F C K} → Reads hook Params static_block await_word [] t → ⊥
  await_word-no-params d = refused-params await_word-params d

  eval_name-no-params : {t : Tree F C K} → Reads hook Params module_code eval_name [] t → ⊥
  eval_name-no-params d = refused-params eval_name-params d

  eval_name-no-loose-params : {t : Tree F C K} → Reads hook Params loose_module eval_name [] t → ⊥
  eval_name-no-loose-params d = refused-params eval_name-loose-params d

  -- the converse: a name that strict code reserves, and `eval` that is written to there
  implements_name-no-args : {t : Tree F C K} → Reads hook (Args false) (with_in strict_script) implements_name [] t → ⊥
  implements_name-no-args d = refused-args strict_script implements_name-args d

  eval_default-no-args : {t : Tree F C K} → Reads hook (Args false) (with_in strict_script) eval_default [] t → ⊥
  eval_default-no-args d = refused-args strict_script eval_default-args d

  -- each of them is related to the patterns that it isn't read as, and meets all that the law asks for but one thing
  related : (name : List ℕ) (hi : ℕ)
      → as_params (item_of {F = F} {C = C} {K = K} name hi) ≡ Some (items_of (params_of name hi))
  related name hi = refl

  yield_name-asked :
      (arrow_params_ok generator.context (items_of (params_of {F = F} {C = C} {K = K} (codes "yield") 5)) ≡ true)
      × (all_bind_names (is_kept_name generator.context)
      (items_of (params_of {F = F} {C = C} {K = K} (codes "yield") 5)) ≡ true)
      × (Spelled yield_name → ⊥)
  yield_name-asked = (refl, refl, λ s. cc)

  await_word-asked :
      (arrow_params_ok static_block.context (items_of (params_of {F = F} {C = C} {K = K} (codes "await") 5)) ≡ true)
      × (all_bind_names (is_kept_name static_block.context)
      (items_of (params_of {F = F} {C = C} {K = K} (codes "await") 5)) ≡ false)
      × Spelled await_word
  await_word-asked = (refl, refl, (refl, (refl, tt)))

  eval_name-asked :
      (arrow_params_ok module_code.context (items_of (params_of {F = F} {C = C} {K = K} (codes "eval") 4)) ≡ false)
      × (arrow_params_ok loose_module.context (items_of (params_of {F = F} {C = C} {K = K} (codes "eval") 4)) ≡ true)
      × (all_bind_names (is_kept_name module_code.context)
      (items_of (params_of {F = F} {C = C} {K = K} (codes "eval") 4)) ≡ true)
      × Spelled eval_name
  eval_name-asked = (refl, refl, refl, (refl, (refl, tt)))

  free-asked : (is_free_name (codes "implements") ≡ false) × (is_free_name (codes "eval") ≡ false)
  free-asked = (refl, refl)

  -- what of that the grammar derives, over a lawful hook
  module _ {fun_at : F → Span} {class_at : C → Span} {block_at : K → Span}
      (lawful : LawfulHook fun_at class_at block_at hook) where
    yield_name-row : Reads hook (Args false) (with_in generator) yield_name [] (item_of (codes "yield") 5)
    unfolding args_answer
    yield_name-row =
        sound hook lawful (Args false) (with_in generator) yield_name (item_of (codes "yield") 5, []) yield_name-args

    await_word-row : Reads hook (Args false) (with_in static_block) await_word [] (item_of (codes "await") 5)
    unfolding args_answer
    await_word-row =
        sound hook lawful (Args false) (with_in static_block) await_word (item_of (codes "await") 5, []) await_word-args

    eval_name-row : Reads hook (Args false) (with_in module_code) eval_name [] (item_of (codes "eval") 4)
    unfolding args_answer
    eval_name-row =
        sound hook lawful (Args false) (with_in module_code) eval_name (item_of (codes "eval") 4, []) eval_name-args

    eval_name-loose-row : Reads hook (Args false) (with_in loose_module) eval_name [] (item_of (codes "eval") 4)
    unfolding args_answer
    eval_name-loose-row =
        sound hook lawful (Args false) (with_in loose_module) eval_name (item_of (codes "eval") 4, [])
        eval_name-loose-args

    implements_name-row : Reads hook Params strict_script implements_name [] (params_of (codes "implements") 10)
    unfolding params_answer
    implements_name-row =
        sound hook lawful Params strict_script implements_name (params_of (codes "implements") 10, [])
        implements_name-params

    eval_default-row : (t : Tree F C K) × Reads hook Params strict_script eval_default [] t
    unfolding params_answer
    eval_default-row = (_, sound hook lawful Params strict_script eval_default (_, []) eval_default-params)
