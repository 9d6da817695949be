-- Heads of `for`, computed from their tokens.
use Rattle.std.specs.Prelude.{◌≡◌, ℕ, List, [], ◌∷◌, Some, None, true, false, codes}
use Rattle.std.proofs.Common.{refl}
use Rattle.swc_context.specs.{declared.operator.AssignOp.AssignOp as write, declared.operator.BinOpToken.BinOpToken as sign, declared.operator.BinaryOp.BinaryOp as binary, declared.word.Keyword.Keyword as keyword, declared.word.Word.Word as word}
use Rattle.swc_input.specs.{declared.token.Token.Token as token, declared.token.TokenAndSpan.TokenAndSpan}
use Rattle.swc_ast.specs.Tree.{Tree, node, nil, cons, pat_expr}
use Rattle.swc_ast.specs.Patterns.{array_p, object_p, default_p, name_p}
use Rattle.swc_ast.specs.Trees.{arrow_e, assign_e, await_e, block_e, seq_e, yield_e}
use Rattle.swc_bodies.specs.Readings.{Hook}
use Rattle.swc_grammar.specs.ForHead.{ForHead, for_target, for_expr, ReadsHead, head-stop}
use Rattle.swc_grammar.specs.{ForHeadClean.for_head, Clean.run, Tokens.tk}
use Rattle.swc_grammar.proofs.Texts.{script, module_code, generator, tok, word_at, name_at, num_at, open_at, close_at, brace_at, unbrace_at, sign_at, bracket_at, unbracket_at, dot_at, comma_at, equals_at, dots_at, question_at, ident, num, place, bin, paren, member, key}
use Rattle.swc_grammar.proofs.{Blocks.braces, ForHeads.head-refused}

abbrev a : ℕ → ℕ → TokenAndSpan
a lo hi = name_at (codes "a") lo hi

abbrev b : ℕ → ℕ → TokenAndSpan
b lo hi = name_at (codes "b") lo hi

abbrev x : ℕ → ℕ → TokenAndSpan
x lo hi = name_at (codes "x") lo hi

abbrev i : ℕ → ℕ → TokenAndSpan
i lo hi = name_at (codes "i") lo hi

abbrev one : ℕ → ℕ → TokenAndSpan
one lo hi = num_at (codes "1") lo hi

abbrev semi : ℕ → ℕ → TokenAndSpan
semi lo hi = tok token.Semi lo hi

abbrev await : ℕ → ℕ → TokenAndSpan
await lo hi = word_at (word.Keyword keyword.Await) lo hi

-- `async` at the start; `of x` and `in x` after it or another word
abbrev async : TokenAndSpan
async = name_at (codes "async") 0 5

abbrev of : ℕ → List TokenAndSpan
of n = name_at (codes "of") n n ∷ x n n ∷ []

abbrev in_x : ℕ → List TokenAndSpan
in_x n = word_at (word.Keyword keyword.In) n n ∷ x n n ∷ []

module _ {F C K : Type 0} (hook : Hook F C K) where
  -- a.b of x
  member_of : for_head hook false script (a 0 1 ∷ dot_at 1 2 ∷ b 2 3 ∷ of 4)
      ≡ Some (
        for_target (node pat_expr (place 0 3) (cons (member 0 3 (ident (codes "a") 0 1) (key (codes "b") 2 3)) nil)),
        of 4,
      )
  unfolding run
  member_of = refl

  -- [a, b = 1] in x
  array_in : for_head hook false script
      (bracket_at 0 1 ∷ a 1 2 ∷ comma_at 2 3 ∷ b 4 5 ∷ equals_at 6 7 ∷ one 8 9 ∷ unbracket_at 9 10 ∷ in_x 11)
      ≡ Some (
        for_target
            (array_p (place 0 10)
            (cons (ident (codes "a") 1 2) (cons (default_p (place 4 9) (ident (codes "b") 4 5) (num (codes "1") 8 9))
            nil))),
        in_x 11,
      )
  unfolding run
  array_in = refl

  -- {a = 1} of x
  object_of : for_head hook false script
      (brace_at 0 1 ∷ a 1 2 ∷ equals_at 3 4 ∷ one 5 6 ∷ unbrace_at 6 7 ∷ of 8)
      ≡ Some (
        for_target (object_p (place 0 7) (cons (name_p (place 1 6) (ident (codes "a") 1 2) (num (codes "1") 5 6)) nil)),
        of 8,
      )
  unfolding run
  object_of = refl

  -- (a in b);
  paren_in : for_head hook false script
      (open_at 0 1 ∷ a 1 2 ∷ word_at (word.Keyword keyword.In) 3 5 ∷ b 6 7 ∷ close_at 7 8 ∷ semi 8 9 ∷ [])
      ≡ Some (
        for_expr (paren 0 8 (bin 1 7 binary.In (ident (codes "a") 1 2) (ident (codes "b") 6 7))),
        semi 8 9 ∷ [],
      )
  unfolding run
  paren_in = refl

  -- i = 0, b = 1;
  two_writes : for_head hook false script
      (i 0 1 ∷ equals_at 2 3 ∷ num_at (codes "0") 4 5 ∷ comma_at 5 6 ∷ b 7 8 ∷ equals_at 9 10 ∷ one 11 12
      ∷ semi 12 13 ∷ [])
      ≡ Some (
        for_expr (seq_e (place 0 12)
            (cons (assign_e (place 0 5) write.Assign (ident (codes "i") 0 1) (num (codes "0") 4 5))
            (cons (assign_e (place 7 12) write.Assign (ident (codes "b") 7 8) (num (codes "1") 11 12)) nil))),
        semi 12 13 ∷ [],
      )
  unfolding run
  two_writes = refl

  -- async of x: in the head of a `for await` alone
  async_of : for_head hook false script (async ∷ of 6) ≡ None
  unfolding run
  async_of = refl

  async_of-refused : {h : ForHead F C K} → ReadsHead hook false script (async ∷ of 6) (of 6) h → ⊥
  async_of-refused d = head-refused hook async_of (head-stop refl) d

  async_of_await : for_head hook true script (async ∷ of 6) ≡ Some (for_target (ident (codes "async") 0 5), of 6)
  unfolding run
  async_of_await = refl

  -- async in x: in both
  async_in : for_head hook false script (async ∷ in_x 6) ≡ Some (for_target (ident (codes "async") 0 5), in_x 6)
  unfolding run
  async_in = refl

  -- await of x;, in a script: `x` is left, which is no hard stop
  await_of : for_head hook false script (await 0 5 ∷ name_at (codes "of") 6 8 ∷ x 9 10 ∷ semi 10 11 ∷ [])
      ≡ Some (for_expr (await_e (place 0 8) (ident (codes "of") 6 8)), x 9 10 ∷ semi 10 11 ∷ [])
  unfolding run
  await_of = refl

  -- a + b of x
  sum_of : for_head hook false script (a 0 1 ∷ sign_at sign.Add 2 3 ∷ b 4 5 ∷ of 6) ≡ None
  unfolding run
  sum_of = refl

  sum_of-refused : {h : ForHead F C K}
      → ReadsHead hook false script (a 0 1 ∷ sign_at sign.Add 2 3 ∷ b 4 5 ∷ of 6) (of 6) h → ⊥
  sum_of-refused d = head-refused hook sum_of (head-stop refl) d

  -- nor are these written to: a, b of x; a = 1 of x; ([a]) of x; [...a,] of x; a() of x; a?.b of x
  two_of : for_head hook false script (a 0 1 ∷ comma_at 1 2 ∷ b 3 4 ∷ of 5) ≡ None
  unfolding run
  two_of = refl

  write_of : for_head hook false script (a 0 1 ∷ equals_at 2 3 ∷ one 4 5 ∷ of 6) ≡ None
  unfolding run
  write_of = refl

  group_of : for_head hook false script
      (open_at 0 1 ∷ bracket_at 1 2 ∷ a 2 3 ∷ unbracket_at 3 4 ∷ close_at 4 5 ∷ of 6) ≡ None
  unfolding run
  group_of = refl

  rest_of : for_head hook false script
      (bracket_at 0 1 ∷ dots_at 1 4 ∷ a 4 5 ∷ comma_at 5 6 ∷ unbracket_at 6 7 ∷ of 8) ≡ None
  unfolding run
  rest_of = refl

  call_of : for_head hook false script (a 0 1 ∷ open_at 1 2 ∷ close_at 2 3 ∷ of 4) ≡ None
  unfolding run
  call_of = refl

  chain_of : for_head hook false script (a 0 1 ∷ question_at 1 2 ∷ dot_at 2 3 ∷ b 3 4 ∷ of 5) ≡ None
  unfolding run
  chain_of = refl

  -- (a) of x; let of x; eval of x, in a script and in a module
  paren_of : for_head hook false script (open_at 0 1 ∷ a 1 2 ∷ close_at 2 3 ∷ of 4)
      ≡ Some (for_target (node pat_expr (place 0 3) (cons (paren 0 3 (ident (codes "a") 1 2)) nil)), of 4)
  unfolding run
  paren_of = refl

  let_of : for_head hook false script (word_at (word.Keyword keyword.Let) 0 3 ∷ of 4)
      ≡ Some (for_target (ident (codes "let") 0 3), of 4)
  unfolding run
  let_of = refl

  eval_of : for_head hook false script (name_at (codes "eval") 0 4 ∷ of 5)
      ≡ Some (for_target (ident (codes "eval") 0 4), of 5)
  unfolding run
  eval_of = refl

  eval_strict : for_head hook false module_code (name_at (codes "eval") 0 4 ∷ of 5) ≡ None
  unfolding run
  eval_strict = refl

  -- a, at the end: an expression, also where it is what was written to before `of`
  alone : for_head hook false script (a 0 1 ∷ []) ≡ Some (for_expr (ident (codes "a") 0 1), [])
  unfolding run
  alone = refl

  -- a, line break, of x: `of` on any line
  of_apart : for_head hook false script (a 0 1 ∷ tk (token.Word (word.Ident (codes "of"))) true
      (place 2 4) ∷ x 5 6 ∷ [])
      ≡ Some (
        for_target (ident (codes "a") 0 1),
        tk (token.Word (word.Ident (codes "of"))) true (place 2 4) ∷ x 5 6 ∷ [],
      )
  unfolding run
  of_apart = refl

  -- async, line break, of x: a name in both
  async_apart : for_head hook false script (async ∷ tk (token.Word (word.Ident (codes "of"))) true
      (place 6 8) ∷ x 9 10 ∷ [])
      ≡ Some (
        for_target (ident (codes "async") 0 5),
        tk (token.Word (word.Ident (codes "of"))) true (place 6 8) ∷ x 9 10 ∷ [],
      )
  unfolding run
  async_apart = refl

  -- await, line break, of x, in a script: a name
  await_apart : for_head hook false script
      (await 0 5 ∷ tk (token.Word (word.Ident (codes "of"))) true (place 6 8) ∷ x 9 10 ∷ [])
      ≡ Some (
        for_target (ident (codes "await") 0 5),
        tk (token.Word (word.Ident (codes "of"))) true (place 6 8) ∷ x 9 10 ∷ [],
      )
  unfolding run
  await_apart = refl

  -- yield of x, in a generator: an expression, after which `x` is left
  yield_of : for_head hook false generator
      (word_at (word.Keyword keyword.Yield) 0 5 ∷ name_at (codes "of") 6 8 ∷ x 9 10 ∷ [])
      ≡ Some (for_expr (yield_e (place 0 8) false (ident (codes "of") 6 8)), x 9 10 ∷ [])
  unfolding run
  yield_of = refl

  -- a[b in i] in x: in brackets `in` is an operator
  computed_in : (p : Tree F C K) × (for_head hook false script
      (a 0 1 ∷ bracket_at 1 2 ∷ b 2 3 ∷ word_at (word.Keyword keyword.In) 4 6 ∷ i 7 8 ∷ unbracket_at 8 9 ∷ in_x 10)
      ≡ Some (for_target p, in_x 10))
  unfolding run
  computed_in = (_, refl)

  -- let [a] of x: a member of the name `let`
  let_member : (p : Tree F C K) × (for_head hook false script
      (word_at (word.Keyword keyword.Let) 0 3 ∷ bracket_at 4 5 ∷ a 5 6 ∷ unbracket_at 6 7 ∷ of 8)
      ≡ Some (for_target (node pat_expr (place 0 7) (cons p nil)), of 8))
  unfolding run
  let_member = (_, refl)

-- async of => {};
module _ {F C : Type 0} where
  async_of_arrow : for_head {F = F} {C = C} braces false script
      (async ∷ name_at (codes "of") 6 8 ∷ tok token.Arrow 9 11 ∷ brace_at 12 13 ∷ unbrace_at 13 14 ∷ semi 14 15 ∷ [])
      ≡ Some (
        for_expr (arrow_e (place 0 14) true (block_e (place 12 14) (place 12 14)) (cons (ident (codes "of") 6 8) nil)),
        semi 14 15 ∷ [],
      )
  unfolding run
  async_of_arrow = refl
