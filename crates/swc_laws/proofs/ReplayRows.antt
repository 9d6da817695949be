-- Lists of tokens and what is kept of them, computed: those that replay, and why the law has each of its premises.
use Rattle.std.specs.Prelude.{◌≡◌, ℕ, true, false, List, [], ◌∷◌, Some, codes}
use Rattle.std.proofs.Common.{refl, ap}
use Rattle.swc_context.specs.{declared.operator.AssignOp.AssignOp as write, declared.operator.BinOpToken.BinOpToken as sign, declared.operator.BinaryOp.BinaryOp as binary, declared.word.Keyword.Keyword as keyword, declared.word.Word.Word as word}
use Rattle.swc_input.specs.{declared.token.Token.Token as token, declared.token.TokenAndSpan.TokenAndSpan, Kept.kept_of}
use Rattle.swc_ast.specs.Tree.{Tree, nil, cons}
use Rattle.swc_ast.specs.Trees.{regex_e, call_e, item_e, await_e, yield_e, hole_e, assign_e}
use Rattle.swc_bodies.specs.{Readings.Hook, Slashes.in_order, Slashes.are_wanted}
use Rattle.swc_grammar.specs.{Parts.repeated, Tokens.tk, Reads.Reads, Scope.Scope, Symbols.Expr}
use Rattle.swc_grammar.proofs.Texts.{script, generator, tok, word_at, name_at, open_at, close_at, sign_at, dot_at, backquote_at, text_at, unbrace_at, place, ident, bin, member, key}
use Rattle.swc_grammar.proofs.{Complete.complete, Computed.answer}

-- `/`, and the regular expression `/a/`
abbrev slash : ℕ → ℕ → TokenAndSpan
slash lo hi = sign_at sign.Div lo hi

abbrev regex : ℕ → ℕ → TokenAndSpan
regex lo hi = tok (token.Regex (codes "a") []) lo hi

-- the same, on a line of its own
abbrev regex_below : ℕ → ℕ → TokenAndSpan
regex_below lo hi = tk (token.Regex (codes "a") []) true (place lo hi)

abbrev expression : {F C K : Type 0} → ℕ → ℕ → Tree F C K
expression lo hi = regex_e (place lo hi) (codes "a") []

abbrev a : TokenAndSpan
a = name_at (codes "a") 0 1

-- /a/.test(b), with the slash first
abbrev test : List TokenAndSpan → List TokenAndSpan
test ts = regex 0 3 ∷ dot_at 3 4 ∷ name_at (codes "test") 4 8 ∷ open_at 8 9 ∷ name_at
    (codes "b") 9 10 ∷ close_at 10 11 ∷ ts

abbrev test_tree : {F C K : Type 0} → Tree F C K
test_tree = call_e (place 0 11) (member 0 8 (expression 0 3) (key (codes "test") 4 8))
    (cons (item_e (ident (codes "b") 9 10)) nil)

test-in_order : in_order (slash 0 1 ∷ test []) ≡ true
test-in_order = refl

test-wanted : are_wanted (slash 0 1 ∷ test []) ≡ true
test-wanted = refl

test-kept : kept_of (slash 0 1 ∷ test []) ≡ test []
test-kept = refl

-- a template with a text, which is empty, and one with a regular expression in it
text-kept : kept_of (backquote_at 0 1 ∷ text_at [] 1 1 ∷ tok token.DollarLBrace 1 3 ∷ [])
    ≡ backquote_at 0 1 ∷ text_at [] 1 1 ∷ tok token.DollarLBrace 1 3 ∷ []
text-kept = refl

abbrev template : List TokenAndSpan → List TokenAndSpan
template ts = backquote_at 0 1 ∷ text_at [] 1 1 ∷ tok token.DollarLBrace 1 3 ∷ ts

abbrev behind_regex : List TokenAndSpan
behind_regex = regex 3 6 ∷ unbrace_at 6 7 ∷ text_at [] 7 7 ∷ backquote_at 7 8 ∷ []

template-wanted : are_wanted (template (slash 3 4 ∷ behind_regex)) ≡ true
template-wanted = refl

template-kept : kept_of (template (slash 3 4 ∷ behind_regex)) ≡ template behind_regex
template-kept = refl

-- a / /a/, where the regular expression was found at the sign: in the order of the text, and kept without the sign
abbrev quotient : List TokenAndSpan
quotient = a ∷ slash 1 2 ∷ regex 1 4 ∷ []

quotient-in_order : in_order quotient ≡ true
quotient-in_order = refl

quotient-not-wanted : are_wanted quotient ≡ false
quotient-not-wanted = refl

quotient-kept : kept_of quotient ≡ a ∷ regex 1 4 ∷ []
quotient-kept = refl

-- a /= /a/ likewise
abbrev divided : List TokenAndSpan
divided = a ∷ tok (token.AssignOp write.DivAssign) 1 3 ∷ regex 1 5 ∷ []

divided-in_order : in_order divided ≡ true
divided-in_order = refl

divided-kept : kept_of divided ≡ a ∷ regex 1 5 ∷ []
divided-kept = refl

-- typeof /a/, and a.in / /a/: after the word an operand comes, and where it is a name an operator does
typeof-wanted : are_wanted (word_at (word.Keyword keyword.TypeOf) 0 6 ∷ slash 7 8 ∷ regex 7 10 ∷ []) ≡ true
typeof-wanted = refl

name-not-wanted : are_wanted
    (a ∷ dot_at 1 2 ∷ word_at (word.Keyword keyword.In) 2 4 ∷ slash 5 6 ∷ regex 5 8 ∷ []) ≡ false
name-not-wanted = refl

-- the words `await` and `yield`
abbrev await : TokenAndSpan
await = word_at (word.Keyword keyword.Await) 0 5

abbrev yield : TokenAndSpan
yield = word_at (word.Keyword keyword.Yield) 0 5

-- of a slash on the line of the word and a regular expression below it, only the latter is kept; these aren't in order
awaited-kept : kept_of (await ∷ slash 6 7 ∷ regex_below 6 9 ∷ []) ≡ await ∷ regex_below 6 9 ∷ []
awaited-kept = refl

awaited-not-in_order : in_order (await ∷ slash 6 7 ∷ regex_below 6 9 ∷ []) ≡ false
awaited-not-in_order = refl

-- a regular expression that ends before it begins; it isn't in the order of the text
backward-kept : kept_of (slash 5 6 ∷ regex 5 3 ∷ []) ≡ regex 5 3 ∷ []
backward-kept = refl

backward-not-in_order : in_order (slash 5 6 ∷ regex 5 3 ∷ []) ≡ false
backward-not-in_order = refl

module _ {F C K : Type 0} (hook : Hook F C K) where
  -- what replays
  test-read : answer hook script (slash 0 1 ∷ test []) ≡ Some (test_tree, [])
  unfolding answer repeated
  test-read = refl

  test-replayed : answer hook script (kept_of (slash 0 1 ∷ test [])) ≡ Some (test_tree, [])
  unfolding answer repeated
  test-replayed = refl

  template-read : answer hook script (template (slash 3 4 ∷ behind_regex))
      ≡ answer hook script (kept_of (template (slash 3 4 ∷ behind_regex)))
  unfolding answer repeated
  template-read = refl

  -- A sign at which a regular expression was found, read as an operator: what is kept isn't derived whole.
  quotient-read : answer hook script quotient ≡ Some (bin 0 4 binary.Div (ident (codes "a") 0 1) (expression 1 4), [])
  unfolding answer repeated
  quotient-read = refl

  quotient-lost : answer hook script (kept_of quotient) ≡ Some (ident (codes "a") 0 1, regex 1 4 ∷ [])
  unfolding answer repeated
  quotient-lost = refl

  divided-read : answer hook script divided
      ≡ Some (assign_e (place 0 5) write.DivAssign (ident (codes "a") 0 1) (expression 1 5), [])
  unfolding answer repeated
  divided-read = refl

  divided-lost : answer hook script (kept_of divided) ≡ Some (ident (codes "a") 0 1, regex 1 5 ∷ [])
  unfolding answer repeated
  divided-lost = refl

  -- Marks that differ: an operand is on the line of the slash, and none on that of the regular expression.
  awaited-read : answer hook script (await ∷ slash 6 7 ∷ regex_below 6 9 ∷ [])
      ≡ Some (await_e (place 0 9) (expression 6 9), [])
  unfolding answer repeated
  awaited-read = refl

  awaited-lost : answer hook script (await ∷ regex_below 6 9 ∷ [])
      ≡ Some (ident (codes "await") 0 5, regex_below 6 9 ∷ [])
  unfolding answer repeated
  awaited-lost = refl

  yielded-read : answer hook generator (yield ∷ slash 6 7 ∷ regex_below 6 9 ∷ [])
      ≡ Some (yield_e (place 0 9) false (expression 6 9), [])
  unfolding answer repeated
  yielded-read = refl

  yielded-lost : answer hook generator (yield ∷ regex_below 6 9 ∷ [])
      ≡ Some (yield_e (place 0 5) false hole_e, regex_below 6 9 ∷ [])
  unfolding answer repeated
  yielded-lost = refl

  -- A regular expression that ends before it begins is the same tree, though its tokens are in no order.
  backward-read : answer hook script (slash 5 6 ∷ regex 5 3 ∷ []) ≡ Some (expression 5 3, [])
  unfolding answer repeated
  backward-read = refl

  backward-replayed : answer hook script (regex 5 3 ∷ []) ≡ Some (expression 5 3, [])
  unfolding answer repeated
  backward-replayed = refl

  -- So the grammar derives nothing from what is kept where marks differ, or a slash was an operator.
  unread : {c : Scope} {t : TokenAndSpan} {xs ts : List TokenAndSpan} {e e' : Tree F C K}
      → answer hook c xs ≡ Some (e', t ∷ ts) → Reads hook Expr c xs [] e → ⊥
  unfolding answer
  unread {c = c} {t = t} {xs = xs} {ts = ts} {e = e} {e' = e'} h d =
      let k : answer hook c xs ≡ Some (e, []) = complete hook d (refl, λ op h. cc) in
      let x : Tree F C K × List TokenAndSpan = (e', t ∷ ts) in
      let y : Tree F C K × List TokenAndSpan = (e, []) in
      let same : x ≡ y = cc in
      let left : t ∷ ts ≡ [] = ap (λ v. v.1) same in
      absurd cc

  quotient-refused : {e : Tree F C K} → Reads hook Expr script (kept_of quotient) [] e → ⊥
  quotient-refused d = unread quotient-lost d

  divided-refused : {e : Tree F C K} → Reads hook Expr script (kept_of divided) [] e → ⊥
  divided-refused d = unread divided-lost d

  awaited-refused : {e : Tree F C K} → Reads hook Expr script (await ∷ regex_below 6 9 ∷ []) [] e → ⊥
  awaited-refused d = unread awaited-lost d

  yielded-refused : {e : Tree F C K} → Reads hook Expr generator (yield ∷ regex_below 6 9 ∷ []) [] e → ⊥
  yielded-refused d = unread yielded-lost d
