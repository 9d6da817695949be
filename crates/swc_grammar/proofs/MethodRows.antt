-- Methods, getters and setters with their parameters: worked rows.
use Rattle.std.specs.Prelude.{◌≡◌, ℕ, Bool, true, false, List, [], ◌∷◌, Some, None, codes}
use Rattle.std.proofs.Common.{refl}
use Rattle.swc_context.specs.{Contexts.method_block, Contexts.method_params, declared.context.Context.Context, declared.operator.BinOpToken.BinOpToken as sign, declared.span.Span.Span, declared.word.Keyword.Keyword as keyword, declared.word.Word.Word as word}
use Rattle.swc_input.specs.declared.token.TokenAndSpan.{TokenAndSpan}
use Rattle.swc_ast.specs.Patterns.{array_p, default_p, rest_p}
use Rattle.swc_ast.specs.Tree.{Tree, node, Trees, nil, cons, setter, param, dots}
use Rattle.swc_ast.specs.Trees.{object_e, paren_e, method_e, function_e, block_e, meta_e, super_prop_e, name_e}
use Rattle.swc_ast.specs.declared.expr.MetaPropKind.{MetaPropKind as kind}
use Rattle.swc_bodies.specs.Readings.{Hook}
use Rattle.swc_grammar.specs.{Scope.Scope, Scope.in_context, Symbols.Expr, Reads.Reads}
use Rattle.swc_grammar.proofs.Texts.{script, generator, class_field, place, name_at, word_at, num_at, sign_at, open_at, close_at, brace_at, unbrace_at, bracket_at, unbracket_at, comma_at, dots_at, dot_at, equals_at, ident, num, key}
use Rattle.swc_grammar.proofs.{Blocks.braces, Blocks.braces-lawful, Complete.complete, Computed.answer, Sound.sound}

-- what the clean parser reads is derived, and what it doesn't isn't
module _ {F C : Type 0} where
  derived : {c : Scope} {xs : List TokenAndSpan} {e : Tree F C Span} → answer braces c xs ≡ Some (e, [])
      → Reads braces Expr c xs [] e
  unfolding answer
  derived {c = c} {xs = xs} {e = e} h = sound braces braces-lawful Expr c xs (e, []) h

module _ {F C K : Type 0} (hook : Hook F C K) where
  refused : {c : Scope} {xs : List TokenAndSpan} {e : Tree F C K} → answer hook c xs ≡ None
      → Reads hook Expr c xs [] e → ⊥
  unfolding answer
  refused h d = let k = complete hook d (refl, λ op h. cc) in absurd cc

abbrev param_of : {F C : Type 0} → Span → Tree F C Span → Tree F C Span
param_of s p = node param s (cons p nil)

abbrev one : {F C : Type 0} → Tree F C Span → Trees F C Span
one t = cons t nil

abbrev body : {F C : Type 0} → ℕ → ℕ → Tree F C Span
body lo hi = block_e (place lo hi) (place lo hi)

-- a setter, of its key, its parameter and its block
abbrev setter_of : {F C : Type 0} → Span → Tree F C Span → Tree F C Span → Tree F C Span → Tree F C Span
setter_of s k p b = node setter s (cons k (cons p (one b)))

-- ({a(b, [c]){}})
abbrev two_params : List TokenAndSpan
two_params =
    open_at 0 1 ∷ brace_at 1 2 ∷ name_at (codes "a") 2 3 ∷ open_at 3 4 ∷ name_at (codes "b") 4 5 ∷ comma_at 5 6
    ∷ bracket_at 7 8 ∷ name_at (codes "c") 8 9 ∷ unbracket_at 9 10 ∷ close_at 10 11 ∷ brace_at 11 12 ∷ unbrace_at 12 13
    ∷ unbrace_at 13 14 ∷ close_at 14 15 ∷ []

abbrev two_params_tree : {F C : Type 0} → Tree F C Span
two_params_tree = paren_e (place 0 15) (object_e None (place 1 14) (one (method_e (place 2 13) (key (codes "a") 2 3)
    (function_e (place 3 13) false false (body 11 13) (cons (param_of (place 4 5) (ident (codes "b") 4 5))
    (one (param_of (place 7 10) (array_p (place 7 10) (one (ident (codes "c") 8 9))))))))))

-- {async *a(b = new.target, ...c){}}
abbrev target_and_rest : List TokenAndSpan
target_and_rest =
    brace_at 0 1 ∷ name_at (codes "async") 1 6 ∷ sign_at sign.Mul 7 8 ∷ name_at (codes "a") 8 9 ∷ open_at 9 10
    ∷ name_at (codes "b") 10 11 ∷ equals_at 12 13 ∷ word_at (word.Keyword keyword.New) 14 17 ∷ dot_at 17 18
    ∷ name_at (codes "target") 18 24 ∷ comma_at 24 25 ∷ dots_at 26 29 ∷ name_at (codes "c") 29 30 ∷ close_at 30 31
    ∷ brace_at 31 32 ∷ unbrace_at 32 33 ∷ unbrace_at 33 34 ∷ []

abbrev target_and_rest_tree : {F C : Type 0} → Tree F C Span
target_and_rest_tree = object_e None (place 0 34) (one (method_e (place 1 33) (key (codes "a") 8 9)
    (function_e (place 9 33) true true (body 31 33)
    (cons (param_of (place 10 24)
    (default_p (place 10 24) (ident (codes "b") 10 11) (meta_e (place 14 24) kind.NewTarget)))
    (one (param_of (place 26 30) (rest_p (place 26 30) (node dots (place 26 29) nil) (ident (codes "c") 29 30))))))))

-- {a(b = super.c){}}
abbrev super_in_params : List TokenAndSpan
super_in_params =
    brace_at 0 1 ∷ name_at (codes "a") 1 2 ∷ open_at 2 3 ∷ name_at (codes "b") 3 4 ∷ equals_at 5 6
    ∷ word_at (word.Keyword keyword.Super) 7 12 ∷ dot_at 12 13 ∷ name_at (codes "c") 13 14 ∷ close_at 14 15
    ∷ brace_at 15 16 ∷ unbrace_at 16 17 ∷ unbrace_at 17 18 ∷ []

abbrev super_in_params_tree : {F C : Type 0} → Tree F C Span
super_in_params_tree = object_e None (place 0 18) (one (method_e (place 1 17) (key (codes "a") 1 2)
    (function_e (place 2 17) false false (body 15 17) (one (param_of (place 3 14)
    (default_p (place 3 14) (ident (codes "b") 3 4)
    (super_prop_e (place 7 14) (place 7 12) (name_e (place 13 14) (codes "c")))))))))

-- {a(b = arguments){}}
abbrev arguments_in_params : List TokenAndSpan
arguments_in_params =
    brace_at 0 1 ∷ name_at (codes "a") 1 2 ∷ open_at 2 3 ∷ name_at (codes "b") 3 4 ∷ equals_at 5 6
    ∷ name_at (codes "arguments") 7 16 ∷ close_at 16 17 ∷ brace_at 17 18 ∷ unbrace_at 18 19 ∷ unbrace_at 19 20 ∷ []

abbrev arguments_in_params_tree : {F C : Type 0} → Tree F C Span
arguments_in_params_tree = object_e None (place 0 20) (one (method_e (place 1 19) (key (codes "a") 1 2)
    (function_e (place 2 19) false false (body 17 19) (one (param_of (place 3 16)
    (default_p (place 3 16) (ident (codes "b") 3 4) (ident (codes "arguments") 7 16)))))))

-- {set a(b) {}}
abbrev setter_of_name : List TokenAndSpan
setter_of_name =
    brace_at 0 1 ∷ name_at (codes "set") 1 4 ∷ name_at (codes "a") 5 6 ∷ open_at 6 7 ∷ name_at (codes "b") 7 8
    ∷ close_at 8 9 ∷ brace_at 10 11 ∷ unbrace_at 11 12 ∷ unbrace_at 12 13 ∷ []

abbrev setter_of_name_tree : {F C : Type 0} → Tree F C Span
setter_of_name_tree =
    object_e None (place 0 13) (one (setter_of (place 1 12) (key (codes "a") 5 6) (ident (codes "b") 7 8) (body 10 12)))

-- {set a([b] = 1,) {}}
abbrev setter_of_pattern : List TokenAndSpan
setter_of_pattern =
    brace_at 0 1 ∷ name_at (codes "set") 1 4 ∷ name_at (codes "a") 5 6 ∷ open_at 6 7 ∷ bracket_at 7 8
    ∷ name_at (codes "b") 8 9 ∷ unbracket_at 9 10 ∷ equals_at 11 12 ∷ num_at (codes "1") 13 14 ∷ comma_at 14 15
    ∷ close_at 15 16 ∷ brace_at 17 18 ∷ unbrace_at 18 19 ∷ unbrace_at 19 20 ∷ []

abbrev setter_of_pattern_tree : {F C : Type 0} → Tree F C Span
setter_of_pattern_tree = object_e None (place 0 20) (one (setter_of (place 1 19) (key (codes "a") 5 6)
    (default_p (place 7 14) (array_p (place 7 10) (one (ident (codes "b") 8 9))) (num (codes "1") 13 14)) (body 17 19)))

-- {set(a){}, async set(){}}
abbrev methods_named_set : List TokenAndSpan
methods_named_set =
    brace_at 0 1 ∷ name_at (codes "set") 1 4 ∷ open_at 4 5 ∷ name_at (codes "a") 5 6 ∷ close_at 6 7 ∷ brace_at 7 8
    ∷ unbrace_at 8 9 ∷ comma_at 9 10 ∷ name_at (codes "async") 11 16 ∷ name_at (codes "set") 17 20 ∷ open_at 20 21
    ∷ close_at 21 22 ∷ brace_at 22 23 ∷ unbrace_at 23 24 ∷ unbrace_at 24 25 ∷ []

abbrev methods_named_set_tree : {F C : Type 0} → Tree F C Span
methods_named_set_tree = object_e None (place 0 25)
    (cons (method_e (place 1 9) (key (codes "set") 1 4)
    (function_e (place 4 9) false false (body 7 9) (one (param_of (place 5 6) (ident (codes "a") 5 6)))))
    (one (method_e (place 11 24) (key (codes "set") 17 20) (function_e (place 20 24) true false (body 22 24) nil))))

-- {set a(b, c) {}}
abbrev setter_of_two : List TokenAndSpan
setter_of_two =
    brace_at 0 1 ∷ name_at (codes "set") 1 4 ∷ name_at (codes "a") 5 6 ∷ open_at 6 7 ∷ name_at (codes "b") 7 8
    ∷ comma_at 8 9 ∷ name_at (codes "c") 10 11 ∷ close_at 11 12 ∷ brace_at 13 14 ∷ unbrace_at 14 15 ∷ unbrace_at 15 16
    ∷ []

-- {set a() {}}
abbrev setter_of_none : List TokenAndSpan
setter_of_none =
    brace_at 0 1 ∷ name_at (codes "set") 1 4 ∷ name_at (codes "a") 5 6 ∷ open_at 6 7 ∷ close_at 7 8 ∷ brace_at 9 10
    ∷ unbrace_at 10 11 ∷ unbrace_at 11 12 ∷ []

-- {set a(...b) {}}
abbrev setter_of_rest : List TokenAndSpan
setter_of_rest =
    brace_at 0 1 ∷ name_at (codes "set") 1 4 ∷ name_at (codes "a") 5 6 ∷ open_at 6 7 ∷ dots_at 7 10
    ∷ name_at (codes "b") 10 11 ∷ close_at 11 12 ∷ brace_at 13 14 ∷ unbrace_at 14 15 ∷ unbrace_at 15 16 ∷ []

-- {get a(b) {}}
abbrev getter_of_one : List TokenAndSpan
getter_of_one =
    brace_at 0 1 ∷ name_at (codes "get") 1 4 ∷ name_at (codes "a") 5 6 ∷ open_at 6 7 ∷ name_at (codes "b") 7 8
    ∷ close_at 8 9 ∷ brace_at 10 11 ∷ unbrace_at 11 12 ∷ unbrace_at 12 13 ∷ []

abbrev yield_at : ℕ → ℕ → TokenAndSpan
yield_at lo hi = word_at (word.Keyword keyword.Yield) lo hi

abbrev await_at : ℕ → ℕ → TokenAndSpan
await_at lo hi = word_at (word.Keyword keyword.Await) lo hi

-- {*a(yield) {}}, {*a(b = yield) {}} and {a(yield) {}}
abbrev yield_bound : List TokenAndSpan
yield_bound =
    brace_at 0 1 ∷ sign_at sign.Mul 1 2 ∷ name_at (codes "a") 2 3 ∷ open_at 3 4 ∷ yield_at 4 9 ∷ close_at 9 10
    ∷ brace_at 11 12 ∷ unbrace_at 12 13 ∷ unbrace_at 13 14 ∷ []

abbrev yield_in_params : List TokenAndSpan
yield_in_params =
    brace_at 0 1 ∷ sign_at sign.Mul 1 2 ∷ name_at (codes "a") 2 3 ∷ open_at 3 4 ∷ name_at (codes "b") 4 5
    ∷ equals_at 6 7 ∷ yield_at 8 13 ∷ close_at 13 14 ∷ brace_at 15 16 ∷ unbrace_at 16 17 ∷ unbrace_at 17 18 ∷ []

abbrev yield_of_method : List TokenAndSpan
yield_of_method =
    brace_at 0 1 ∷ name_at (codes "a") 1 2 ∷ open_at 2 3 ∷ yield_at 3 8 ∷ close_at 8 9 ∷ brace_at 10 11
    ∷ unbrace_at 11 12 ∷ unbrace_at 12 13 ∷ []

abbrev yield_of_method_tree : {F C : Type 0} → Tree F C Span
yield_of_method_tree = object_e None (place 0 13) (one (method_e (place 1 12) (key (codes "a") 1 2)
    (function_e (place 2 12) false false (body 10 12) (one (param_of (place 3 8) (ident (codes "yield") 3 8))))))

-- {async a(await) {}} and {async a(b = await c) {}}
abbrev await_bound : List TokenAndSpan
await_bound =
    brace_at 0 1 ∷ name_at (codes "async") 1 6 ∷ name_at (codes "a") 7 8 ∷ open_at 8 9 ∷ await_at 9 14 ∷ close_at 14 15
    ∷ brace_at 16 17 ∷ unbrace_at 17 18 ∷ unbrace_at 18 19 ∷ []

-- code of an async function
abbrev async_code : Scope
async_code =
    in_context (λ c. record c { in_async = true; in_function = true; inside_non_arrow_function_scope = true }) script

abbrev await_in_params : List TokenAndSpan
await_in_params =
    brace_at 0 1 ∷ name_at (codes "async") 1 6 ∷ name_at (codes "a") 7 8 ∷ open_at 8 9 ∷ name_at (codes "b") 9 10
    ∷ equals_at 11 12 ∷ await_at 13 18 ∷ name_at (codes "c") 19 20 ∷ close_at 20 21 ∷ brace_at 22 23 ∷ unbrace_at 23 24
    ∷ unbrace_at 24 25 ∷ []

-- the contexts: of the parameters, around which the place of the method stays as it was, and of the block
contexts-row : (a g : Bool) (c : Context)
    → ((method_params a g c).inside_non_arrow_function_scope ≡ c.inside_non_arrow_function_scope)
    × ((method_params a g c).in_parameters ≡ true) × ((method_params a g c).in_function ≡ false)
    × ((method_block a g c).inside_non_arrow_function_scope ≡ true)
    × ((method_block a g c).in_parameters ≡ false) × ((method_block a g c).in_function ≡ true)
contexts-row a g c = (refl, refl, refl, refl, refl, refl)

module _ {F C : Type 0} where
  two_params-computed : answer (braces {F = F} {C = C}) script two_params ≡ Some (two_params_tree, [])
  unfolding answer
  two_params-computed = refl

  target_and_rest-computed : answer (braces {F = F} {C = C}) script target_and_rest ≡ Some (target_and_rest_tree, [])
  unfolding answer
  target_and_rest-computed = refl

  super_in_params-computed : answer (braces {F = F} {C = C}) script super_in_params ≡ Some (super_in_params_tree, [])
  unfolding answer
  super_in_params-computed = refl

  -- in a class field
  arguments_in_params-computed : answer (braces {F = F} {C = C}) class_field arguments_in_params
      ≡ Some (arguments_in_params_tree, [])
  unfolding answer
  arguments_in_params-computed = refl

  setter_of_name-computed : answer (braces {F = F} {C = C}) script setter_of_name ≡ Some (setter_of_name_tree, [])
  unfolding answer
  setter_of_name-computed = refl

  setter_of_pattern-computed : answer (braces {F = F} {C = C}) script setter_of_pattern
      ≡ Some (setter_of_pattern_tree, [])
  unfolding answer
  setter_of_pattern-computed = refl

  methods_named_set-computed : answer (braces {F = F} {C = C}) script methods_named_set
      ≡ Some (methods_named_set_tree, [])
  unfolding answer
  methods_named_set-computed = refl

  -- in a generator, as the method is none
  yield_of_method-computed : answer (braces {F = F} {C = C}) generator yield_of_method ≡ Some (yield_of_method_tree, [])
  unfolding answer
  yield_of_method-computed = refl

  setter_of_two-computed : answer (braces {F = F} {C = C}) script setter_of_two ≡ None
  unfolding answer
  setter_of_two-computed = refl

  setter_of_none-computed : answer (braces {F = F} {C = C}) script setter_of_none ≡ None
  unfolding answer
  setter_of_none-computed = refl

  setter_of_rest-computed : answer (braces {F = F} {C = C}) script setter_of_rest ≡ None
  unfolding answer
  setter_of_rest-computed = refl

  getter_of_one-computed : answer (braces {F = F} {C = C}) script getter_of_one ≡ None
  unfolding answer
  getter_of_one-computed = refl

  -- what of that the grammar derives
  two_params-row : Reads (braces {F = F} {C = C}) Expr script two_params [] two_params_tree
  two_params-row = derived two_params-computed

  target_and_rest-row : Reads (braces {F = F} {C = C}) Expr script target_and_rest [] target_and_rest_tree
  target_and_rest-row = derived target_and_rest-computed

  super_in_params-row : Reads (braces {F = F} {C = C}) Expr script super_in_params [] super_in_params_tree
  super_in_params-row = derived super_in_params-computed

  arguments_in_params-row : Reads (braces {F = F} {C = C}) Expr class_field arguments_in_params []
      arguments_in_params_tree
  arguments_in_params-row = derived arguments_in_params-computed

  setter_of_name-row : Reads (braces {F = F} {C = C}) Expr script setter_of_name [] setter_of_name_tree
  setter_of_name-row = derived setter_of_name-computed

  setter_of_pattern-row : Reads (braces {F = F} {C = C}) Expr script setter_of_pattern [] setter_of_pattern_tree
  setter_of_pattern-row = derived setter_of_pattern-computed

  methods_named_set-row : Reads (braces {F = F} {C = C}) Expr script methods_named_set [] methods_named_set_tree
  methods_named_set-row = derived methods_named_set-computed

  yield_of_method-row : Reads (braces {F = F} {C = C}) Expr generator yield_of_method [] yield_of_method_tree
  yield_of_method-row = derived yield_of_method-computed

  setter_of_two-refused : {e : Tree F C Span} → Reads braces Expr script setter_of_two [] e → ⊥
  setter_of_two-refused d = refused braces setter_of_two-computed d

  setter_of_none-refused : {e : Tree F C Span} → Reads braces Expr script setter_of_none [] e → ⊥
  setter_of_none-refused d = refused braces setter_of_none-computed d

  setter_of_rest-refused : {e : Tree F C Span} → Reads braces Expr script setter_of_rest [] e → ⊥
  setter_of_rest-refused d = refused braces setter_of_rest-computed d

  getter_of_one-refused : {e : Tree F C Span} → Reads braces Expr script getter_of_one [] e → ⊥
  getter_of_one-refused d = refused braces getter_of_one-computed d

-- whatever the hook; where they are read, code of a generator or of an async function is around the last two methods
module _ {F C K : Type 0} (hook : Hook F C K) where
  yield_bound-computed : answer hook script yield_bound ≡ None
  unfolding answer
  yield_bound-computed = refl

  yield_in_params-computed : answer hook generator yield_in_params ≡ None
  unfolding answer
  yield_in_params-computed = refl

  await_bound-computed : answer hook script await_bound ≡ None
  unfolding answer
  await_bound-computed = refl

  await_in_params-computed : answer hook async_code await_in_params ≡ None
  unfolding answer
  await_in_params-computed = refl

  yield_bound-refused : {e : Tree F C K} → Reads hook Expr script yield_bound [] e → ⊥
  yield_bound-refused d = refused hook yield_bound-computed d

  yield_in_params-refused : {e : Tree F C K} → Reads hook Expr generator yield_in_params [] e → ⊥
  yield_in_params-refused d = refused hook yield_in_params-computed d

  await_bound-refused : {e : Tree F C K} → Reads hook Expr script await_bound [] e → ⊥
  await_bound-refused d = refused hook await_bound-computed d

  await_in_params-refused : {e : Tree F C K} → Reads hook Expr async_code await_in_params [] e → ⊥
  await_in_params-refused d = refused hook await_in_params-computed d
