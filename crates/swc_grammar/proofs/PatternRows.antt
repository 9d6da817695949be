-- Patterns and parameters: worked rows.
use Rattle.std.specs.Prelude.{◌≡◌, ℕ, ◌+◌, List, [], ◌∷◌, Some, None, codes}
use Rattle.std.proofs.Common.{refl}
use Rattle.swc_context.specs.{declared.operator.BinaryOp.BinaryOp as binary, declared.span.Span.Span, declared.word.Keyword.Keyword as keyword, declared.word.Word.Word as word}
use Rattle.swc_input.specs.declared.token.TokenAndSpan.{TokenAndSpan}
use Rattle.swc_ast.specs.Patterns.{array_p, object_p, default_p, rest_p, name_p}
use Rattle.swc_ast.specs.Tree.{Tree, node, Trees, nil, cons, dots}
use Rattle.swc_ast.specs.Trees.{hole_e, listed, key_value_e, computed_e}
use Rattle.swc_bodies.specs.Readings.{Hook, LawfulHook}
use Rattle.swc_grammar.specs.Clean.{Out, sym, run}
use Rattle.swc_grammar.specs.{Scope.Scope, Symbols.Pat, Symbols.Params, Reads.Reads}
use Rattle.swc_grammar.proofs.Texts.{no_in, script, module_code, place, name_at, word_at, num_at, close_at, brace_at, unbrace_at, bracket_at, unbracket_at, comma_at, colon_at, dots_at, dot_at, equals_at, ident, num, bin, key}
use Rattle.swc_grammar.proofs.{Complete.complete, Sound.sound}

abbrev one : {F C K : Type 0} → Tree F C K → Trees F C K
one t = cons t nil

-- a rest, whose dots come first
abbrev rest_of : {F C K : Type 0} → ℕ → ℕ → Tree F C K → Tree F C K
rest_of lo hi p = rest_p (place lo hi) (node dots (place lo (lo + 3)) nil) p

-- [a, , [b] = 1, ...c]
abbrev array_of_all : List TokenAndSpan
array_of_all =
    bracket_at 0 1 ∷ name_at (codes "a") 1 2 ∷ comma_at 2 3 ∷ comma_at 4 5 ∷ bracket_at 6 7 ∷ name_at (codes "b") 7 8
    ∷ unbracket_at 8 9 ∷ equals_at 10 11 ∷ num_at (codes "1") 12 13 ∷ comma_at 13 14 ∷ dots_at 15 18
    ∷ name_at (codes "c") 18 19 ∷ unbracket_at 19 20 ∷ []

abbrev array_of_all_tree : {F C K : Type 0} → Tree F C K
array_of_all_tree = array_p (place 0 20) (cons (ident (codes "a") 1 2) (cons hole_e
    (cons (default_p (place 6 13) (array_p (place 6 9) (one (ident (codes "b") 7 8))) (num (codes "1") 12 13))
    (one (rest_of 15 19 (ident (codes "c") 18 19))))))

-- [a, , ]
abbrev holes_last : List TokenAndSpan
holes_last = bracket_at 0 1 ∷ name_at (codes "a") 1 2 ∷ comma_at 2 3 ∷ comma_at 4 5 ∷ unbracket_at 6 7 ∷ []

abbrev holes_last_tree : {F C K : Type 0} → Tree F C K
holes_last_tree = array_p (place 0 7) (one (ident (codes "a") 1 2))

-- {a, b = 1, c: {d}, [e]: f, ...g}
abbrev object_of_all : List TokenAndSpan
object_of_all =
    brace_at 0 1 ∷ name_at (codes "a") 1 2 ∷ comma_at 2 3 ∷ name_at (codes "b") 4 5 ∷ equals_at 6 7
    ∷ num_at (codes "1") 8 9 ∷ comma_at 9 10 ∷ name_at (codes "c") 11 12 ∷ colon_at 12 13 ∷ brace_at 14 15
    ∷ name_at (codes "d") 15 16 ∷ unbrace_at 16 17 ∷ comma_at 17 18 ∷ bracket_at 19 20
    ∷ name_at (codes "e") 20 21 ∷ unbracket_at 21 22 ∷ colon_at 22 23
    ∷ name_at (codes "f") 24 25 ∷ comma_at 25 26 ∷ dots_at 27 30 ∷ name_at (codes "g") 30 31 ∷ unbrace_at 31 32 ∷ []

abbrev object_of_all_tree : {F C K : Type 0} → Tree F C K
object_of_all_tree = object_p (place 0 32) (cons (name_p (place 1 2) (ident (codes "a") 1 2) hole_e)
    (cons (name_p (place 4 9) (ident (codes "b") 4 5) (num (codes "1") 8 9))
    (cons (key_value_e (place 11 17) (key (codes "c") 11 12)
    (object_p (place 14 17) (one (name_p (place 15 16) (ident (codes "d") 15 16) hole_e))))
    (cons (key_value_e (place 19 25) (computed_e (place 19 22) (ident (codes "e") 20 21)) (ident (codes "f") 24 25))
    (one (rest_of 27 31 (ident (codes "g") 30 31)))))))

-- a, b = c in d, ...[e])
abbrev parameters : List TokenAndSpan
parameters =
    name_at (codes "a") 0 1 ∷ comma_at 1 2 ∷ name_at (codes "b") 3 4 ∷ equals_at 5 6 ∷ name_at (codes "c") 7 8
    ∷ word_at (word.Keyword keyword.In) 9 11 ∷ name_at (codes "d") 12 13 ∷ comma_at 13 14 ∷ dots_at 15 18
    ∷ bracket_at 18 19 ∷ name_at (codes "e") 19 20 ∷ unbracket_at 20 21 ∷ close_at 21 22 ∷ []

abbrev parameters_tree : {F C K : Type 0} → Tree F C K
parameters_tree = listed None (place 21 22) (cons (ident (codes "a") 0 1)
    (cons (default_p (place 3 13) (ident (codes "b") 3 4)
    (bin 7 13 binary.In (ident (codes "c") 7 8) (ident (codes "d") 12 13)))
    (one (rest_of 15 21 (array_p (place 18 21) (one (ident (codes "e") 19 20)))))))

-- [...a,]
abbrev comma_behind_rest : List TokenAndSpan
comma_behind_rest = bracket_at 0 1 ∷ dots_at 1 4 ∷ name_at (codes "a") 4 5 ∷ comma_at 5 6 ∷ unbracket_at 6 7 ∷ []

-- [...a = b]
abbrev rest_with_default : List TokenAndSpan
rest_with_default =
    bracket_at 0 1 ∷ dots_at 1 4 ∷ name_at (codes "a") 4 5 ∷ equals_at 6 7 ∷ name_at (codes "b") 8 9
    ∷ unbracket_at 9 10 ∷ []

-- [a.b]
abbrev member_bound : List TokenAndSpan
member_bound = bracket_at 0 1 ∷ name_at (codes "a") 1 2 ∷ dot_at 2 3 ∷ name_at (codes "b") 3 4 ∷ unbracket_at 4 5 ∷ []

-- {...[a]}
abbrev rest_of_pattern : List TokenAndSpan
rest_of_pattern =
    brace_at 0 1 ∷ dots_at 1 4 ∷ bracket_at 4 5 ∷ name_at (codes "a") 5 6 ∷ unbracket_at 6 7 ∷ unbrace_at 7 8 ∷ []

-- {if}
abbrev keyword_alone : List TokenAndSpan
keyword_alone = brace_at 0 1 ∷ word_at (word.Keyword keyword.If) 1 3 ∷ unbrace_at 3 4 ∷ []

-- [eval]
abbrev eval_in_module : List TokenAndSpan
eval_in_module = bracket_at 0 1 ∷ name_at (codes "eval") 1 5 ∷ unbracket_at 5 6 ∷ []

-- , a)
abbrev comma_alone : List TokenAndSpan
comma_alone = comma_at 0 1 ∷ name_at (codes "a") 2 3 ∷ close_at 3 4 ∷ []

-- ...a,)
abbrev comma_behind_rest_parameter : List TokenAndSpan
comma_behind_rest_parameter = dots_at 0 3 ∷ name_at (codes "a") 3 4 ∷ comma_at 4 5 ∷ close_at 5 6 ∷ []

module _ {F C K : Type 0} (hook : Hook F C K) where
  unfoldable pattern_answer : Scope → List TokenAndSpan → Out (Tree F C K)
  unfolding run
  pattern_answer c ts = run hook (sym Pat) c ts

  unfoldable params_answer : Scope → List TokenAndSpan → Out (Tree F C K)
  unfolding run
  params_answer c ts = run hook (sym Params) c ts

  array_of_all-computed : pattern_answer script array_of_all ≡ Some (array_of_all_tree, [])
  unfolding pattern_answer
  array_of_all-computed = refl

  holes_last-computed : pattern_answer script holes_last ≡ Some (holes_last_tree, [])
  unfolding pattern_answer
  holes_last-computed = refl

  object_of_all-computed : pattern_answer script object_of_all ≡ Some (object_of_all_tree, [])
  unfolding pattern_answer
  object_of_all-computed = refl

  parameters-computed : params_answer no_in parameters ≡ Some (parameters_tree, [])
  unfolding params_answer
  parameters-computed = refl

  comma_behind_rest-computed : pattern_answer script comma_behind_rest ≡ None
  unfolding pattern_answer
  comma_behind_rest-computed = refl

  rest_with_default-computed : pattern_answer script rest_with_default ≡ None
  unfolding pattern_answer
  rest_with_default-computed = refl

  member_bound-computed : pattern_answer script member_bound ≡ None
  unfolding pattern_answer
  member_bound-computed = refl

  rest_of_pattern-computed : pattern_answer script rest_of_pattern ≡ None
  unfolding pattern_answer
  rest_of_pattern-computed = refl

  keyword_alone-computed : pattern_answer script keyword_alone ≡ None
  unfolding pattern_answer
  keyword_alone-computed = refl

  eval_in_module-computed : pattern_answer module_code eval_in_module ≡ None
  unfolding pattern_answer
  eval_in_module-computed = refl

  comma_alone-computed : params_answer script comma_alone ≡ None
  unfolding params_answer
  comma_alone-computed = refl

  comma_behind_rest_parameter-computed : params_answer script comma_behind_rest_parameter ≡ None
  unfolding params_answer
  comma_behind_rest_parameter-computed = refl

  -- the clean parser reads all that is derived, and these texts it doesn't
  refused-pattern : {c : Scope} {xs : List TokenAndSpan} {t : Tree F C K} → pattern_answer c xs ≡ None
      → Reads hook Pat c xs [] t → ⊥
  unfolding pattern_answer
  refused-pattern h d = let k = complete hook d tt in absurd cc

  refused-params : {c : Scope} {xs : List TokenAndSpan} {t : Tree F C K} → params_answer c xs ≡ None
      → Reads hook Params c xs [] t → ⊥
  unfolding params_answer
  refused-params h d = let k = complete hook d tt in absurd cc

  comma_behind_rest-refused : {t : Tree F C K} → Reads hook Pat script comma_behind_rest [] t → ⊥
  comma_behind_rest-refused d = refused-pattern comma_behind_rest-computed d

  rest_with_default-refused : {t : Tree F C K} → Reads hook Pat script rest_with_default [] t → ⊥
  rest_with_default-refused d = refused-pattern rest_with_default-computed d

  member_bound-refused : {t : Tree F C K} → Reads hook Pat script member_bound [] t → ⊥
  member_bound-refused d = refused-pattern member_bound-computed d

  rest_of_pattern-refused : {t : Tree F C K} → Reads hook Pat script rest_of_pattern [] t → ⊥
  rest_of_pattern-refused d = refused-pattern rest_of_pattern-computed d

  keyword_alone-refused : {t : Tree F C K} → Reads hook Pat script keyword_alone [] t → ⊥
  keyword_alone-refused d = refused-pattern keyword_alone-computed d

  eval_in_module-refused : {t : Tree F C K} → Reads hook Pat module_code eval_in_module [] t → ⊥
  eval_in_module-refused d = refused-pattern eval_in_module-computed d

  comma_alone-refused : {t : Tree F C K} → Reads hook Params script comma_alone [] t → ⊥
  comma_alone-refused d = refused-params comma_alone-computed d

  comma_behind_rest_parameter-refused : {t : Tree F C K} → Reads hook Params script comma_behind_rest_parameter [] t → ⊥
  comma_behind_rest_parameter-refused d = refused-params comma_behind_rest_parameter-computed d

  -- what of that the grammar derives, over a lawful hook
  module _ {fun_at : F → Span} {class_at : C → Span} {block_at : K → Span}
      (lawful : LawfulHook fun_at class_at block_at hook) where
    array_of_all-row : Reads hook Pat script array_of_all [] array_of_all_tree
    unfolding pattern_answer
    array_of_all-row = sound hook lawful Pat script array_of_all (array_of_all_tree, []) array_of_all-computed

    holes_last-row : Reads hook Pat script holes_last [] holes_last_tree
    unfolding pattern_answer
    holes_last-row = sound hook lawful Pat script holes_last (holes_last_tree, []) holes_last-computed

    object_of_all-row : Reads hook Pat script object_of_all [] object_of_all_tree
    unfolding pattern_answer
    object_of_all-row = sound hook lawful Pat script object_of_all (object_of_all_tree, []) object_of_all-computed

    parameters-row : Reads hook Params no_in parameters [] parameters_tree
    unfolding params_answer
    parameters-row = sound hook lawful Params no_in parameters (parameters_tree, []) parameters-computed
