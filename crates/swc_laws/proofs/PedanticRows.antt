-- Texts where the syntax is pedantic, computed.
use Rattle.std.specs.Prelude.{◌≡◌, true, false, List, [], ◌∷◌, Some, None, ℕ, codes}
use Rattle.std.proofs.Common.{refl}
use Rattle.swc_context.specs.{declared.operator.BinOpToken.BinOpToken as sign, declared.word.Keyword.Keyword as keyword, declared.word.Word.Word as word}
use Rattle.swc_input.specs.{declared.token.Token.Token as token, declared.token.TokenAndSpan.TokenAndSpan}
use Rattle.swc_bodies.specs.Readings.{Hook}
use Rattle.swc_ast.specs.{Pedantic.privates_ok, Pedantic.no_cover_left, Tree.Tree}
use Rattle.swc_grammar.specs.{Scope.Scope, Tokens.tk}
use Rattle.swc_grammar.proofs.Computed.{answer}
use Rattle.swc_grammar.proofs.Texts.{script, word_at, name_at, num_at, open_at, close_at, brace_at, unbrace_at, sign_at, bracket_at, unbracket_at, equals_at, comma_at, hash_at, dot_at, place}

abbrev pedantic_script : Scope
pedantic_script = record script { syntax = record script.syntax { pedantic = true } }

abbrev two_arguments : Scope
two_arguments = record script { syntax = record script.syntax { import_attributes = true; pedantic = true } }

abbrev a : ℕ → ℕ → TokenAndSpan
a lo hi = name_at (codes "a") lo hi

abbrev b : ℕ → ℕ → TokenAndSpan
b lo hi = name_at (codes "b") lo hi

abbrev in_b : ℕ → List TokenAndSpan
in_b n = word_at (word.Keyword keyword.In) n n ∷ b n n ∷ []

-- {a = 1}
abbrev cover : ℕ → List TokenAndSpan → List TokenAndSpan
cover n ts = brace_at n n ∷ a n n ∷ equals_at n n ∷ num_at (codes "1") n n ∷ unbrace_at n n ∷ ts

module _ {F C K : Type 0} (hook : Hook F C K) where
  -- `#a in b`
  in_row : (t : Tree F C K) × (answer hook pedantic_script (hash_at 0 1 ∷ a 1 2 ∷ in_b 3) ≡ Some (t, []))
      × (privates_ok false t ≡ true)
  unfolding answer
  in_row = (_, refl, refl)

  -- `a == #a in b`
  equal_row : (t : Tree F C K)
      × (answer hook pedantic_script (a 0 1 ∷ sign_at sign.EqEq 2 4 ∷ hash_at 5 6 ∷ a 6 7 ∷ in_b 8) ≡ Some (t, []))
      × (privates_ok false t ≡ true)
  unfolding answer
  equal_row = (_, refl, refl)

  -- `a.#b`
  link_row : (t : Tree F C K)
      × (answer hook pedantic_script (a 0 1 ∷ dot_at 1 2 ∷ hash_at 2 3 ∷ b 3 4 ∷ []) ≡ Some (t, []))
      × (privates_ok false t ≡ true)
  unfolding answer
  link_row = (_, refl, refl)

  -- `#a`, `# a in b`, `1 + #a in b`, `a < #a in b`: nothing
  alone_row : answer hook pedantic_script (hash_at 0 1 ∷ a 1 2 ∷ []) ≡ None
  unfolding answer
  alone_row = refl

  apart_row : answer hook pedantic_script (hash_at 0 1 ∷ a 2 3 ∷ in_b 4) ≡ None
  unfolding answer
  apart_row = refl

  sum_row : answer hook pedantic_script
      (num_at (codes "1") 0 1 ∷ sign_at sign.Add 2 3 ∷ hash_at 4 5 ∷ a 5 6 ∷ in_b 7) ≡ None
  unfolding answer
  sum_row = refl

  less_row : answer hook pedantic_script (a 0 1 ∷ sign_at sign.Lt 2 3 ∷ hash_at 4 5 ∷ a 5 6 ∷ in_b 7) ≡ None
  unfolding answer
  less_row = refl

  -- `#a` where the syntax isn't pedantic
  lenient_row : (t : Tree F C K) × (answer hook script (hash_at 0 1 ∷ a 1 2 ∷ []) ≡ Some (t, []))
      × (privates_ok false t ≡ false)
  unfolding answer
  lenient_row = (_, refl, refl)

  -- `import(a, b)`, and `import(a, b,)` where there may be two
  import_row : answer hook pedantic_script (word_at (word.Keyword keyword.Import) 0 6 ∷ open_at 6 7 ∷ a 7 8
      ∷ comma_at 8 9 ∷ b 10 11 ∷ close_at 11 12 ∷ []) ≡ None
  unfolding answer
  import_row = refl

  import_two_row : (t : Tree F C K) × (answer hook two_arguments (word_at (word.Keyword keyword.Import) 0 6
      ∷ open_at 6 7 ∷ a 7 8 ∷ comma_at 8 9 ∷ b 10 11 ∷ comma_at 11 12 ∷ close_at 12 13 ∷ []) ≡ Some (t, []))
  unfolding answer
  import_two_row = (_, refl)

  -- `async a`, a line break, and `=> a`
  arrow_row : answer hook pedantic_script
      (name_at (codes "async") 0 5 ∷ a 6 7 ∷ tk token.Arrow true (place 8 10) ∷ a 11 12 ∷ []) ≡ None
  unfolding answer
  arrow_row = refl

  -- `[{a = 1}]`, `({a = 1})` and `[{a = 1}] = b`
  cover_row : (t : Tree F C K)
      × (answer hook pedantic_script (bracket_at 0 1 ∷ cover 1 (unbracket_at 2 3 ∷ [])) ≡ Some (t, []))
      × (no_cover_left t ≡ false)
  unfolding answer
  cover_row = (_, refl, refl)

  paren_row : (t : Tree F C K)
      × (answer hook pedantic_script (open_at 0 1 ∷ cover 1 (close_at 2 3 ∷ [])) ≡ Some (t, []))
      × (no_cover_left t ≡ false)
  unfolding answer
  paren_row = (_, refl, refl)

  write_row : (t : Tree F C K)
      × (answer hook pedantic_script (bracket_at 0 1 ∷ cover 1 (unbracket_at 2 3 ∷ equals_at 4 5 ∷ b 6 7 ∷ []))
      ≡ Some (t, [])) × (no_cover_left t ≡ true)
  unfolding answer
  write_row = (_, refl, refl)
