-- Arrow functions and assignments to patterns, computed from their tokens: read whole, or not at all.
use Rattle.std.specs.Prelude.{◌≡◌, ℕ, ◌∷◌, Some, None, false, codes, [], true}
use Rattle.std.proofs.Common.{refl}
use Rattle.swc_context.specs.{declared.operator.AssignOp.AssignOp as assign, declared.word.Keyword.Keyword as keyword, declared.word.Word.Word as word, declared.operator.BinOpToken.BinOpToken as sign, declared.span.Span.Span}
use Rattle.swc_input.specs.{declared.token.Token.Token as token, declared.token.TokenAndSpan.TokenAndSpan}
use Rattle.swc_ast.specs.Tree.{Tree, nil, cons}
use Rattle.swc_ast.specs.Trees.{arrow_e, assign_e}
use Rattle.swc_ast.specs.Patterns.{array_p, object_p, name_p}
use Rattle.swc_bodies.specs.Readings.{Hook}
use Rattle.swc_grammar.proofs.Texts.{script, module_code, tok, word_at, name_at, num_at, open_at, close_at, brace_at, unbrace_at, sign_at, bracket_at, unbracket_at, dot_at, comma_at, equals_at, dots_at, ident, num, place}
use Rattle.swc_grammar.proofs.{Blocks.braces, Computed.answer}
use Rattle.swc_grammar.specs.{Tokens.tk, Scope.Scope, Scope.in_context}

-- code of a class's field
abbrev field_code : Scope
field_code = in_context (λ c. record c { in_class_field = true }) script

abbrev to_at : ℕ → ℕ → TokenAndSpan
to_at lo hi = tok token.Arrow lo hi

abbrev a : ℕ → ℕ → TokenAndSpan
a lo hi = name_at (codes "a") lo hi

abbrev b : ℕ → ℕ → TokenAndSpan
b lo hi = name_at (codes "b") lo hi

abbrev c : ℕ → ℕ → TokenAndSpan
c lo hi = name_at (codes "c") lo hi

abbrev d : ℕ → ℕ → TokenAndSpan
d lo hi = name_at (codes "d") lo hi

abbrev one : ℕ → ℕ → TokenAndSpan
one lo hi = num_at (codes "1") lo hi

abbrev eval : ℕ → ℕ → TokenAndSpan
eval lo hi = name_at (codes "eval") lo hi

module _ {F C K : Type 0} (hook : Hook F C K) where
  -- a => b
  name_arrow : answer hook script (a 0 1 ∷ to_at 2 4 ∷ b 5 6 ∷ [])
      ≡ Some (arrow_e (place 0 6) false (ident (codes "b") 5 6) (cons (ident (codes "a") 0 1) nil), [])
  unfolding answer
  name_arrow = refl

  -- (a, [b], {c = 1}) => d
  params_arrow : answer hook script
      (open_at 0 1 ∷ a 1 2 ∷ comma_at 2 3 ∷ bracket_at 4 5 ∷ b 5 6 ∷ unbracket_at 6 7 ∷ comma_at 7 8 ∷ brace_at 9 10
      ∷ c 10 11
      ∷ equals_at 12 13 ∷ one 14 15 ∷ unbrace_at 15 16 ∷ close_at 16 17 ∷ to_at 18 20 ∷ d 21 22 ∷ [])
      ≡ Some (
        arrow_e (place 0 22) false (ident (codes "d") 21 22)
            (cons (ident (codes "a") 1 2) (cons (array_p (place 4 7) (cons (ident (codes "b") 5 6) nil))
            (cons (object_p (place 9 16) (cons (name_p (place 10 15) (ident (codes "c") 10 11)
            (num (codes "1") 14 15)) nil)) nil))),
        [],
      )
  unfolding answer
  params_arrow = refl

  -- () => a, and in a script (await) => a and (eval) => a
  no_params : (t : Tree F C K) × (answer hook script (open_at 0 1 ∷ close_at 1 2 ∷ to_at 3 5 ∷ a 6 7 ∷ [])
      ≡ Some (t, []))
  unfolding answer
  no_params = (_, refl)

  await_param : (t : Tree F C K) × (answer hook script
      (open_at 0 1 ∷ word_at (word.Keyword keyword.Await) 1 6 ∷ close_at 6 7 ∷ to_at 8 10 ∷ a 11 12 ∷ [])
      ≡ Some (t, []))
  unfolding answer
  await_param = (_, refl)

  eval_param : (t : Tree F C K) × (answer hook script (open_at 0 1 ∷ eval 1 5 ∷ close_at 5 6 ∷ to_at 7 9 ∷ a 10 11 ∷ [])
      ≡ Some (t, []))
  unfolding answer
  eval_param = (_, refl)

  -- in a strict module nothing is read at eval => 1, nor in the code of a field at arguments => 1
  eval_alone : answer hook module_code (eval 0 4 ∷ to_at 5 7 ∷ one 8 9 ∷ []) ≡ None
  unfolding answer
  eval_alone = refl

  arguments_alone : answer hook field_code (name_at (codes "arguments") 0 9 ∷ to_at 10 12 ∷ one 13 14 ∷ []) ≡ None
  unfolding answer
  arguments_alone = refl

  -- after a list a `=>` on a line of its own lets nothing be read, nor does one after a list that is an operand
  list_and_line : answer hook script
      (open_at 0 1 ∷ a 1 2 ∷ close_at 2 3 ∷ tk token.Arrow true (place 4 6) ∷ b 7 8 ∷ []) ≡ None
  unfolding answer
  list_and_line = refl

  operand_and_arrow : answer hook script
      (one 0 1 ∷ sign_at sign.Add 2 3 ∷ open_at 4 5 ∷ a 5 6 ∷ close_at 6 7 ∷ to_at 8 10 ∷ b 11 12 ∷ []) ≡ None
  unfolding answer
  operand_and_arrow = refl

  -- after a name that is an operand it is left
  name_and_arrow : (t : Tree F C K)
      × (answer hook script (one 0 1 ∷ sign_at sign.Add 2 3 ∷ a 4 5 ∷ to_at 6 8 ∷ b 9 10 ∷ [])
      ≡ Some (t, to_at 6 8 ∷ b 9 10 ∷ []))
  unfolding answer
  name_and_arrow = (_, refl)

  -- in a strict module (eval) => a is refused, and so is (a.b) => c, ((a)) => b and ([a.b] = c) => 1
  eval_module : answer hook module_code (open_at 0 1 ∷ eval 1 5 ∷ close_at 5 6 ∷ to_at 7 9 ∷ a 10 11 ∷ []) ≡ None
  unfolding answer
  eval_module = refl

  member_param : answer hook script
      (open_at 0 1 ∷ a 1 2 ∷ dot_at 2 3 ∷ b 3 4 ∷ close_at 4 5 ∷ to_at 6 8 ∷ c 9 10 ∷ []) ≡ None
  unfolding answer
  member_param = refl

  paren_param : answer hook script
      (open_at 0 1 ∷ open_at 1 2 ∷ a 2 3 ∷ close_at 3 4 ∷ close_at 4 5 ∷ to_at 6 8 ∷ b 9 10 ∷ []) ≡ None
  unfolding answer
  paren_param = refl

  refined_param : answer hook script
      (open_at 0 1 ∷ bracket_at 1 2 ∷ a 2 3 ∷ dot_at 3 4 ∷ b 4 5 ∷ unbracket_at 5 6 ∷ equals_at 7 8 ∷ c 9 10
      ∷ close_at 10 11
      ∷ to_at 12 14 ∷ one 15 16 ∷ []) ≡ None
  unfolding answer
  refined_param = refl

  -- (...a,) => b is refused, (a,) => b isn't
  rest_comma : answer hook script
      (open_at 0 1 ∷ dots_at 1 4 ∷ a 4 5 ∷ comma_at 5 6 ∷ close_at 6 7 ∷ to_at 8 10 ∷ b 11 12 ∷ []) ≡ None
  unfolding answer
  rest_comma = refl

  last_comma : (t : Tree F C K) × (answer hook script
      (open_at 0 1 ∷ a 1 2 ∷ comma_at 2 3 ∷ close_at 3 4 ∷ to_at 5 7 ∷ b 8 9 ∷ []) ≡ Some (t, []))
  unfolding answer
  last_comma = (_, refl)

  -- [a,,] = b
  holes : answer hook script
      (bracket_at 0 1 ∷ a 1 2 ∷ comma_at 2 3 ∷ comma_at 3 4 ∷ unbracket_at 4 5 ∷ equals_at 6 7 ∷ b 8 9 ∷ [])
      ≡ Some (
        assign_e (place 0 9) assign.Assign (array_p (place 0 5) (cons (ident (codes "a") 1 2) nil))
            (ident (codes "b") 8 9),
        [],
      )
  unfolding answer
  holes = refl

  -- [...a,,] = b
  rest_holes : answer hook script
      (bracket_at 0 1 ∷ dots_at 1 4 ∷ a 4 5 ∷ comma_at 5 6 ∷ comma_at 6 7 ∷ unbracket_at 7 8 ∷ equals_at 9 10 ∷ b 11 12
      ∷ [])
      ≡ None
  unfolding answer
  rest_holes = refl

-- () => {}; after it `|| a` lets nothing be read, and `in a` is left
module _ {F C : Type 0} where
  block_body : (t : Tree F C Span) × (answer braces script
      (open_at 0 1 ∷ close_at 1 2 ∷ to_at 3 5 ∷ brace_at 6 7 ∷ unbrace_at 7 8 ∷ []) ≡ Some (t, []))
  unfolding answer
  block_body = (_, refl)

  sign_behind : answer {F = F} {C = C} braces script
      (open_at 0 1 ∷ close_at 1 2 ∷ to_at 3 5 ∷ brace_at 6 7 ∷ unbrace_at 7 8 ∷ sign_at sign.LogicalOr 9 11 ∷ a 12 13
      ∷ [])
      ≡ None
  unfolding answer
  sign_behind = refl

  in_behind : (t : Tree F C Span) × (answer braces script
      (open_at 0 1 ∷ close_at 1 2 ∷ to_at 3 5 ∷ brace_at 6 7 ∷ unbrace_at 7 8 ∷ word_at (word.Keyword keyword.In) 9 11
      ∷ a 12 13 ∷ [])
      ≡ Some (t, word_at (word.Keyword keyword.In) 9 11 ∷ a 12 13 ∷ []))
  unfolding answer
  in_behind = (_, refl)
