-- `async`, as a name, before arrow functions and as what is called, computed from its tokens.
use Rattle.std.specs.Prelude.{◌≡◌, ℕ, Bool, List, ◌∷◌, Some, None, true, false, codes, []}
use Rattle.std.proofs.Common.{refl}
use Rattle.swc_context.specs.{declared.operator.BinOpToken.BinOpToken as sign, declared.span.Span.Span, declared.word.Keyword.Keyword as keyword, declared.word.Word.Word as word}
use Rattle.swc_input.specs.{declared.token.Token.Token as token, declared.token.TokenAndSpan.TokenAndSpan}
use Rattle.swc_ast.specs.Tree.{Tree, nil, cons}
use Rattle.swc_ast.specs.Trees.{arrow_e, await_e, call_e, item_e, member_e, name_e}
use Rattle.swc_ast.specs.Patterns.{array_p}
use Rattle.swc_bodies.specs.Readings.{Hook}
use Rattle.swc_grammar.specs.{Scope.Scope, Scope.in_context, Tokens.tk, Clean.run, Clean.sym, Reads.Reads, Symbols.Expr, Symbols.Unary}
use Rattle.swc_grammar.proofs.Texts.{script, module_code, generator, tok, word_at, name_at, num_at, open_at, close_at, brace_at, unbrace_at, sign_at, bracket_at, unbracket_at, dot_at, comma_at, equals_at, dots_at, ident, num, place}
use Rattle.swc_grammar.proofs.{Blocks.braces, Computed.answer, Refused.refused}

-- code of an async function
abbrev async_code : Scope
async_code =
    in_context (λ c. record c { in_async = true; in_function = true; inside_non_arrow_function_scope = true }) script

-- a module whose code isn't strict
abbrev loose_module : Scope
loose_module = in_context (λ c. record c { «module» = true }) script

abbrev to_at : ℕ → ℕ → TokenAndSpan
to_at lo hi = tok token.Arrow lo hi

abbrev a : ℕ → ℕ → TokenAndSpan
a lo hi = name_at (codes "a") lo hi

abbrev b : ℕ → ℕ → TokenAndSpan
b lo hi = name_at (codes "b") lo hi

abbrev x : ℕ → ℕ → TokenAndSpan
x lo hi = name_at (codes "x") lo hi

abbrev eval : ℕ → ℕ → TokenAndSpan
eval lo hi = name_at (codes "eval") lo hi

abbrev one : ℕ → ℕ → TokenAndSpan
one lo hi = num_at (codes "1") lo hi

abbrev await : ℕ → ℕ → TokenAndSpan
await lo hi = word_at (word.Keyword keyword.Await) lo hi

-- `async` at the start, and `{a = 1}`
abbrev async : TokenAndSpan
async = name_at (codes "async") 0 5

abbrev cover_at : ℕ → List TokenAndSpan → List TokenAndSpan
cover_at n ts = brace_at n n ∷ a n n ∷ equals_at n n ∷ one n n ∷ unbrace_at n n ∷ ts

module _ {F C K : Type 0} (hook : Hook F C K) where
  -- async.b
  member : answer hook script (async ∷ dot_at 5 6 ∷ b 6 7 ∷ [])
      ≡ Some (member_e (place 0 7) (ident (codes "async") 0 5) (name_e (place 6 7) (codes "b")), [])
  unfolding answer
  member = refl

  -- async in b; async instanceof b
  in_row : (t : Tree F C K) × (answer hook script (async ∷ word_at (word.Keyword keyword.In) 6 8 ∷ b 9 10 ∷ [])
      ≡ Some (t, []))
  unfolding answer
  in_row = (_, refl)

  instance_row : (t : Tree F C K) × (answer hook script
      (async ∷ word_at (word.Keyword keyword.InstanceOf) 6 16 ∷ b 17 18 ∷ []) ≡ Some (t, []))
  unfolding answer
  instance_row = (_, refl)

  -- async = 1
  write_row : (t : Tree F C K) × (answer hook script (async ∷ equals_at 6 7 ∷ one 8 9 ∷ []) ≡ Some (t, []))
  unfolding answer
  write_row = (_, refl)

  -- async => 1
  name_arrow : answer hook script (async ∷ to_at 6 8 ∷ one 9 10 ∷ [])
      ≡ Some (arrow_e (place 0 10) false (num (codes "1") 9 10) (cons (ident (codes "async") 0 5) nil), [])
  unfolding answer
  name_arrow = refl

  -- async x => await x
  async_arrow : answer hook script (async ∷ x 6 7 ∷ to_at 8 10 ∷ await 11 16 ∷ x 17 18 ∷ [])
      ≡ Some (
        arrow_e (place 0 18) true (await_e (place 11 18) (ident (codes "x") 17 18)) (cons (ident (codes "x") 6 7) nil),
        [],
      )
  unfolding answer
  async_arrow = refl

  -- async x, line break, => 1
  apart_arrow : (t : Tree F C K) × (answer hook script
      (async ∷ x 6 7 ∷ tk token.Arrow true (place 8 10) ∷ one 11 12 ∷ []) ≡ Some (t, []))
  unfolding answer
  apart_arrow = (_, refl)

  -- async, line break, x => 1: a name
  word_apart : answer hook script
      (async ∷ tk (token.Word (word.Ident (codes "x"))) true (place 6 7) ∷ to_at 8 10 ∷ one 11 12 ∷ [])
      ≡ Some (
        ident (codes "async") 0 5,
        tk (token.Word (word.Ident (codes "x"))) true (place 6 7) ∷ to_at 8 10 ∷ one 11 12 ∷ [],
      )
  unfolding answer
  word_apart = refl

  -- async x
  no_arrow : answer hook script (async ∷ x 6 7 ∷ []) ≡ None
  unfolding answer
  no_arrow = refl

  -- async await => 1, in a script; in async code and in a strict module `async` is a name, and the rest is left; in
  -- another module nothing is read
  await_script : (t : Tree F C K) × (answer hook script (async ∷ await 6 11 ∷ to_at 12 14 ∷ one 15 16 ∷ [])
      ≡ Some (t, []))
  unfolding answer
  await_script = (_, refl)

  await_async : answer hook async_code (async ∷ await 6 11 ∷ to_at 12 14 ∷ one 15 16 ∷ [])
      ≡ Some (ident (codes "async") 0 5, await 6 11 ∷ to_at 12 14 ∷ one 15 16 ∷ [])
  unfolding answer
  await_async = refl

  await_module : answer hook module_code (async ∷ await 6 11 ∷ to_at 12 14 ∷ one 15 16 ∷ [])
      ≡ Some (ident (codes "async") 0 5, await 6 11 ∷ to_at 12 14 ∷ one 15 16 ∷ [])
  unfolding answer
  await_module = refl

  await_loose : answer hook loose_module (async ∷ await 6 11 ∷ to_at 12 14 ∷ one 15 16 ∷ []) ≡ None
  unfolding answer
  await_loose = refl

  -- async yield => 1, in a generator: a name; async eval => 1, in a script and in a module
  yield_generator : answer hook generator
      (async ∷ word_at (word.Keyword keyword.Yield) 6 11 ∷ to_at 12 14 ∷ one 15 16 ∷ [])
      ≡ Some (ident (codes "async") 0 5, word_at (word.Keyword keyword.Yield) 6 11 ∷ to_at 12 14 ∷ one 15 16 ∷ [])
  unfolding answer
  yield_generator = refl

  eval_script : (t : Tree F C K) × (answer hook script (async ∷ eval 6 10 ∷ to_at 11 13 ∷ one 14 15 ∷ [])
      ≡ Some (t, []))
  unfolding answer
  eval_script = (_, refl)

  eval_module : answer hook module_code (async ∷ eval 6 10 ∷ to_at 11 13 ∷ one 14 15 ∷ []) ≡ None
  unfolding answer
  eval_module = refl

  -- async (a, [b]) => a
  params_arrow : answer hook script
      (async ∷ open_at 6 7 ∷ a 7 8 ∷ comma_at 8 9 ∷ bracket_at 10 11 ∷ b 11 12 ∷ unbracket_at 12 13 ∷ close_at 13 14
      ∷ to_at 15 17 ∷ a 18 19 ∷ [])
      ≡ Some (
        arrow_e (place 0 19) true (ident (codes "a") 18 19)
            (cons (ident (codes "a") 7 8) (cons (array_p (place 10 13) (cons (ident (codes "b") 11 12) nil)) nil)),
        [],
      )
  unfolding answer
  params_arrow = refl

  -- async ({a = 1}) => a, async (...a) => a, async () => await a
  cover_arrow : (t : Tree F C K) × (answer hook script
      (async ∷ open_at 6 7 ∷ cover_at 8 (close_at 14 15 ∷ to_at 16 18 ∷ a 19 20 ∷ [])) ≡ Some (t, []))
  unfolding answer
  cover_arrow = (_, refl)

  rest_arrow : (t : Tree F C K) × (answer hook script
      (async ∷ open_at 6 7 ∷ dots_at 7 10 ∷ a 10 11 ∷ close_at 11 12 ∷ to_at 13 15 ∷ a 16 17 ∷ []) ≡ Some (t, []))
  unfolding answer
  rest_arrow = (_, refl)

  no_params : (t : Tree F C K) × (answer hook script
      (async ∷ open_at 6 7 ∷ close_at 7 8 ∷ to_at 9 11 ∷ await 12 17 ∷ a 18 19 ∷ []) ≡ Some (t, []))
  unfolding answer
  no_params = (_, refl)

  -- async (await) => 1, in a script and in async code
  await_param : (t : Tree F C K) × (answer hook script
      (async ∷ open_at 6 7 ∷ await 7 12 ∷ close_at 12 13 ∷ to_at 14 16 ∷ one 17 18 ∷ []) ≡ Some (t, []))
  unfolding answer
  await_param = (_, refl)

  await_param_async : answer hook async_code
      (async ∷ open_at 6 7 ∷ await 7 12 ∷ close_at 12 13 ∷ to_at 14 16 ∷ one 17 18 ∷ []) ≡ None
  unfolding answer
  await_param_async = refl

  -- async (x = await a) => 1: as an argument, which is read before what is after the list is seen; so in a script, and
  -- in async code, but not in a function that isn't async
  await_default : (t : Tree F C K) × (answer hook script
      (async ∷ open_at 6 7 ∷ x 7 8 ∷ equals_at 9 10 ∷ await 11 16 ∷ a 17 18 ∷ close_at 18 19 ∷ to_at 20 22 ∷ one 23 24
      ∷ [])
      ≡ Some (t, []))
  unfolding answer
  await_default = (_, refl)

  await_default_async : (t : Tree F C K) × (answer hook async_code
      (async ∷ open_at 6 7 ∷ x 7 8 ∷ equals_at 9 10 ∷ await 11 16 ∷ a 17 18 ∷ close_at 18 19 ∷ to_at 20 22 ∷ one 23 24
      ∷ [])
      ≡ Some (t, []))
  unfolding answer
  await_default_async = (_, refl)

  await_default_generator : answer hook generator
      (async ∷ open_at 6 7 ∷ x 7 8 ∷ equals_at 9 10 ∷ await 11 16 ∷ a 17 18 ∷ close_at 18 19 ∷ to_at 20 22 ∷ one 23 24
      ∷ [])
      ≡ None
  unfolding answer
  await_default_generator = refl

  -- async (a), line break, => 1; async (a.b) => 1
  line_before_arrow : answer hook script
      (async ∷ open_at 6 7 ∷ a 7 8 ∷ close_at 8 9 ∷ tk token.Arrow true (place 10 12) ∷ one 13 14 ∷ []) ≡ None
  unfolding answer
  line_before_arrow = refl

  member_param : answer hook script
      (async ∷ open_at 6 7 ∷ a 7 8 ∷ dot_at 8 9 ∷ b 9 10 ∷ close_at 10 11 ∷ to_at 12 14 ∷ one 15 16 ∷ []) ≡ None
  unfolding answer
  member_param = refl

  -- async(a,)
  call_row : answer hook script (async ∷ open_at 5 6 ∷ a 6 7 ∷ comma_at 7 8 ∷ close_at 8 9 ∷ [])
      ≡ Some (call_e (place 0 9) (ident (codes "async") 0 5) (cons (item_e (ident (codes "a") 6 7)) nil), [])
  unfolding answer
  call_row = refl

  -- async(a).b + 1, async() ? a : b
  call_linked : (t : Tree F C K) × (answer hook script
      (async ∷ open_at 5 6 ∷ a 6 7 ∷ close_at 7 8 ∷ dot_at 8 9 ∷ b 9 10 ∷ sign_at sign.Add 11 12 ∷ one 13 14 ∷ [])
      ≡ Some (t, []))
  unfolding answer
  call_linked = (_, refl)

  call_tested : (t : Tree F C K) × (answer hook script
      (async ∷ open_at 5 6 ∷ close_at 6 7 ∷ tok token.QuestionMark 8 9 ∷ a 10 11 ∷ tok token.Colon 12 13 ∷ b 14 15 ∷ [])
      ≡ Some (t, []))
  unfolding answer
  call_tested = (_, refl)

  -- async({a = 1}), async(...{a = 1}), async({a = 1}).b
  cover_call : answer hook script (async ∷ open_at 5 6 ∷ cover_at 6 (close_at 13 14 ∷ [])) ≡ None
  unfolding answer
  cover_call = refl

  -- so nothing derives it whole, nor does a plain call; but where no assignment expression begins, as an operand, it is
  -- read
  cover_call-refused : {e : Tree F C K}
      → Reads hook Expr script (async ∷ open_at 5 6 ∷ cover_at 6 (close_at 13 14 ∷ [])) [] e → ⊥
  cover_call-refused d = refused hook cover_call d

  cover_operand : (t : Tree F C K) × (run hook (sym Unary) script
      (async ∷ open_at 5 6 ∷ cover_at 6 (close_at 13 14 ∷ []))
      ≡ Some (t, []))
  unfolding run
  cover_operand = (_, refl)

  spread_cover_call : answer hook script (async ∷ open_at 5 6 ∷ dots_at 6 9 ∷ cover_at 10 (close_at 16 17 ∷ [])) ≡ None
  unfolding answer
  spread_cover_call = refl

  cover_call_linked : answer hook script
      (async ∷ open_at 5 6 ∷ cover_at 6 (close_at 13 14 ∷ dot_at 14 15 ∷ b 15 16 ∷ [])) ≡ None
  unfolding answer
  cover_call_linked = refl

  -- where no assignment expression begins with it, it isn't looked at: 1 + async({a = 1}), new async({a = 1})
  cover_behind : (t : Tree F C K) × (answer hook script
      (one 0 1 ∷ sign_at sign.Add 2 3 ∷ name_at (codes "async") 4 9 ∷ open_at 9 10 ∷ cover_at 10 (close_at 17 18 ∷ []))
      ≡ Some (t, []))
  unfolding answer
  cover_behind = (_, refl)

  cover_new : (t : Tree F C K) × (answer hook script
      (word_at (word.Keyword keyword.New) 0 3 ∷ name_at (codes "async") 4 9 ∷ open_at 9 10
      ∷ cover_at 10 (close_at 17 18 ∷ []))
      ≡ Some (t, []))
  unfolding answer
  cover_new = (_, refl)

  -- nor after a line break, where it is a call of a name too: async, line break, ({a = 1})
  cover_apart : (t : Tree F C K) × (answer hook script
      (async ∷ tk token.LParen true (place 6 7) ∷ cover_at 7 (close_at 14 15 ∷ [])) ≡ Some (t, []))
  unfolding answer
  cover_apart = (_, refl)

  -- async, line break, (x); and `=>` after it is left
  call_apart : answer hook script (async ∷ tk token.LParen true (place 6 7) ∷ x 7 8 ∷ close_at 8 9 ∷ to_at 10 12
      ∷ one 13 14 ∷ [])
      ≡ Some (
        call_e (place 0 9) (ident (codes "async") 0 5) (cons (item_e (ident (codes "x") 7 8)) nil),
        to_at 10 12 ∷ one 13 14 ∷ [],
      )
  unfolding answer
  call_apart = refl

  -- a || async (b) => 1: no arrow function, so `=>` is left
  behind_sign : (t : Tree F C K) × (answer hook script
      (a 0 1 ∷ sign_at sign.LogicalOr 2 4 ∷ name_at (codes "async") 5 10 ∷ open_at 11 12 ∷ b 12 13 ∷ close_at 13 14
      ∷ to_at 15 17 ∷ one 18 19 ∷ []) ≡ Some (t, to_at 15 17 ∷ one 18 19 ∷ []))
  unfolding answer
  behind_sign = (_, refl)

  -- async, line break, function: a name
  function_apart : answer hook script (async ∷ tk (token.Word (word.Keyword keyword.Function)) true (place 6 14) ∷ [])
      ≡ Some (ident (codes "async") 0 5, tk (token.Word (word.Keyword keyword.Function)) true (place 6 14) ∷ [])
  unfolding answer
  function_apart = refl

-- in heads of `for`, that of a `for await` and another
abbrev head_of : Bool → Scope
head_of is_await =
    in_context (λ c. record c {
      include_in_expr = false;
      expr_ctx = record { for_loop_init = true; for_await_loop_init = is_await };
    }) script

abbrev of_at : ℕ → ℕ → TokenAndSpan
of_at lo hi = name_at (codes "of") lo hi

module _ {F C K : Type 0} (hook : Hook F C K) where
  -- async of x: a name, and an early error without `await`; elsewhere nothing
  of_await : answer hook (head_of true) (async ∷ of_at 6 8 ∷ x 9 10 ∷ [])
      ≡ Some (ident (codes "async") 0 5, of_at 6 8 ∷ x 9 10 ∷ [])
  unfolding answer
  of_await = refl

  of_plain : answer hook (head_of false) (async ∷ of_at 6 8 ∷ x 9 10 ∷ []) ≡ None
  unfolding answer
  of_plain = refl

  of_script : answer hook script (async ∷ of_at 6 8 ∷ x 9 10 ∷ []) ≡ None
  unfolding answer
  of_script = refl

  -- async of => 1, in both
  of_arrow_await : (t : Tree F C K) × (answer hook (head_of true) (async ∷ of_at 6 8 ∷ to_at 9 11 ∷ one 12 13 ∷ [])
      ≡ Some (t, []))
  unfolding answer
  of_arrow_await = (_, refl)

  of_arrow_plain : (t : Tree F C K) × (answer hook (head_of false) (async ∷ of_at 6 8 ∷ to_at 9 11 ∷ one 12 13 ∷ [])
      ≡ Some (t, []))
  unfolding answer
  of_arrow_plain = (_, refl)

  -- a of => 1: another name is read before it, too
  of_other : answer hook (head_of true) (a 0 1 ∷ of_at 2 4 ∷ to_at 5 7 ∷ one 8 9 ∷ [])
      ≡ Some (ident (codes "a") 0 1, of_at 2 4 ∷ to_at 5 7 ∷ one 8 9 ∷ [])
  unfolding answer
  of_other = refl

  -- async, line break, of x; async.b of x
  of_apart : answer hook (head_of false) (async ∷ tk (token.Word (word.Ident (codes "of"))) true (place 6 8) ∷ x 9 10
      ∷ [])
      ≡ Some (ident (codes "async") 0 5, tk (token.Word (word.Ident (codes "of"))) true (place 6 8) ∷ x 9 10 ∷ [])
  unfolding answer
  of_apart = refl

  of_member : (t : Tree F C K) × (answer hook (head_of false) (async ∷ dot_at 5 6 ∷ b 6 7 ∷ of_at 8 10 ∷ x 11 12 ∷ [])
      ≡ Some (t, of_at 8 10 ∷ x 11 12 ∷ []))
  unfolding answer
  of_member = (_, refl)

-- async x => {}, and `|| a` after it is left; async () => {}, after which `|| a` lets nothing be read
module _ {F C : Type 0} where
  block_body : (t : Tree F C Span) × (answer braces script
      (async ∷ x 6 7 ∷ to_at 8 10 ∷ brace_at 11 12 ∷ unbrace_at 12 13 ∷ sign_at sign.LogicalOr 14 16 ∷ a 17 18 ∷ [])
      ≡ Some (t, sign_at sign.LogicalOr 14 16 ∷ a 17 18 ∷ []))
  unfolding answer
  block_body = (_, refl)

  sign_behind : answer {F = F} {C = C} braces script
      (async ∷ open_at 6 7 ∷ close_at 7 8 ∷ to_at 9 11 ∷ brace_at 12 13 ∷ unbrace_at 13 14
      ∷ sign_at sign.LogicalOr 15 17 ∷ a 18 19 ∷ [])
      ≡ None
  unfolding answer
  sign_behind = refl
