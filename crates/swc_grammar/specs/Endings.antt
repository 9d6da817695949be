-- How an expression ends: with which tokens it may go on (ECMA-262, 12.10, by which a semicolon may be left out before
-- a token with which it can't).
use Rattle.std.specs.Prelude.{Bool, true, false, not, ◌||◌, ◌&&◌}
use Rattle.swc_context.specs.{declared.word.Keyword.Keyword as keyword, declared.word.Word.Word as word}
use Rattle.swc_input.specs.{declared.token.Token.Token, declared.token.Token.Token as token, declared.token.TokenAndSpan.TokenAndSpan}
use Rattle.swc_ast.specs.Tree.{Tree, Trees, node, nil, cons, seq, assign, cond, bin, unary, await, update, yield, arrow, hole, block}
use Rattle.swc_ast.specs.Trees.{is_operation}
use Rattle.swc_grammar.specs.{Scope.Scope, Tokens.is_lparen, Tokens.is_lbracket, Tokens.is_backquote, Tokens.is_assign}

-- With `(`, `[`, a backquote and operators any expression goes on but one that ends in `++` or `--`, which goes on with
-- operators alone, and one that ends in the block of an arrow function or in `yield` alone, which goes on with nothing.
pub data Last : Type 0 where
  any : Last
  operators : Last
  nothing : Last

abbrev pub last_of_block : {F C K : Type 0} → Tree F C K → Last → Last
last_of_block (node (block v) s ts) l = nothing
last_of_block t l = l

abbrev mutual
  pub last_in : {F C K : Type 0} → Tree F C K → Last
  last_in (node (update op true) s ts) = last_in_all ts
  last_in (node (update op false) s ts) = operators
  last_in (node (yield d) s (cons (node hole s' us) ts)) = nothing
  last_in (node (yield d) s ts) = last_in_all ts
  last_in (node (arrow a) s (cons b ps)) = last_of_block b (last_in b)
  last_in (node (unary op) s ts) = last_in_all ts
  last_in (node await s ts) = last_in_all ts
  last_in (node (bin op) s ts) = last_in_all ts
  last_in (node (assign op) s ts) = last_in_all ts
  last_in (node cond s ts) = last_in_all ts
  last_in (node seq s ts) = last_in_all ts
  last_in t = any

  pub last_in_all : {F C K : Type 0} → Trees F C K → Last
  last_in_all nil = any
  last_in_all (cons t nil) = last_in t
  last_in_all (cons t (cons u us)) = last_in_all (cons u us)

-- Whether an operator that writes would be read after an expression: not after a binary or a prefix operation, `++` or
-- `--`, to which nothing is written.
abbrev pub writes_of_block : {F C K : Type 0} → Tree F C K → Bool → Bool
writes_of_block (node (block v) s ts) b = false
writes_of_block t b = b

abbrev mutual
  pub writes_in : {F C K : Type 0} → Tree F C K → Bool
  writes_in (node (yield d) s (cons (node hole s' us) ts)) = false
  writes_in (node (yield d) s ts) = writes_in_all ts
  writes_in (node (arrow a) s (cons b ps)) = writes_of_block b (writes_in b)
  writes_in (node (assign op) s ts) = writes_in_all ts
  writes_in (node cond s ts) = writes_in_all ts
  writes_in (node seq s ts) = writes_in_all ts
  writes_in t = not (is_operation t)

  pub writes_in_all : {F C K : Type 0} → Trees F C K → Bool
  writes_in_all nil = true
  writes_in_all (cons t nil) = writes_in t
  writes_in_all (cons t (cons u us)) = writes_in_all (cons u us)

abbrev pub is_link : Token → Bool
is_link t = is_lparen t || (is_lbracket t || is_backquote t)

-- What may begin a statement, or a member of a class, in some context, or go on with an expression: all that a
-- semicolon may be left out before, on another line.
abbrev pub begins_anew : Token → Bool
begins_anew (token.Word w) = true
begins_anew (token.Num raw) = true
begins_anew (token.BigInt raw) = true
begins_anew (token.Str value raw) = true
begins_anew (token.Regex exp flags) = true
begins_anew token.LBrace = true
begins_anew token.LParen = true
begins_anew token.LBracket = true
begins_anew token.BackQuote = true
begins_anew token.Hash = true
begins_anew token.At = true
begins_anew token.Bang = true
begins_anew token.Tilde = true
begins_anew token.PlusPlus = true
begins_anew token.MinusMinus = true
begins_anew (token.BinOp op) = true
begins_anew (token.AssignOp op) = true
begins_anew t = false

abbrev pub is_sign : Scope → Token → Bool
is_sign c (token.BinOp b) = true
is_sign c (token.Word (word.Keyword keyword.In)) = c.context.include_in_expr
is_sign c (token.Word (word.Keyword keyword.InstanceOf)) = true
is_sign c t = false

abbrev pub goes_on_after : Scope → Last → Token → Bool
goes_on_after c any t = is_link t || is_sign c t
goes_on_after c operators t = is_sign c t
goes_on_after c nothing t = false

abbrev pub goes_on : {F C K : Type 0} → Scope → Tree F C K → TokenAndSpan → Bool
goes_on c e t = goes_on_after c (last_in e) t.token || (is_assign t.token && writes_in e)
