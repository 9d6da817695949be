-- Heads of `for` (14.7.4, 14.7.5) that begin with no declaration: what is in them before `of`, before `in`, or before
-- the first `;`. Nothing of the grammar is made of heads, so they have no symbol.
use Rattle.std.specs.Prelude.{◌≡◌, Bool, true, false, ◌||◌, List, [], ◌∷◌, Some, IsTrue}
use Rattle.swc_context.specs.{declared.context.Context.Context, declared.word.Keyword.Keyword as keyword, declared.word.Word.Word as word}
use Rattle.swc_input.specs.{declared.token.Token.Token, declared.token.Token.Token as token, declared.token.TokenAndSpan.TokenAndSpan}
use Rattle.swc_ast.specs.{Tree.Tree, Trees.unmarked}
use Rattle.swc_bodies.specs.Readings.{Hook}
use Rattle.swc_grammar.specs.Scope.{Scope, in_context, inner}
use Rattle.swc_grammar.specs.Cover.{target, as_pat, is_assign}
use Rattle.swc_grammar.specs.{Rule.sees, Symbols.Expr, Symbols.Assign, Reads.Reads, Arrows.is_of, Tokens.is_rparen}

-- In the head of a `for await`, or of another `for`, `in` is no operator.
abbrev pub for_context : Bool → Context → Context
for_context is_await c = record c {
  include_in_expr = false;
  expr_ctx = record { for_loop_init = true; for_await_loop_init = is_await };
}

abbrev pub in_for : Bool → Scope → Scope
in_for is_await c = inner (in_context (for_context is_await) c)

-- the same by what the context says of `for await`
abbrev pub in_own_for : Scope → Scope
in_own_for c = in_for c.context.expr_ctx.for_await_loop_init c

-- the words between what each turn writes to and what the loop goes over
abbrev pub is_in : Token → Bool
is_in (token.Word (word.Keyword keyword.In)) = true
is_in t = false

abbrev pub is_each : TokenAndSpan → Bool
is_each t = is_of t.token || is_in t.token

-- What is written to before one of these words, as a pattern; before anything else an expression.
pub data ForHead (F C K : Type 0) : Type 0 where
  for_target : Tree F C K → ForHead F C K
  for_expr : Tree F C K → ForHead F C K

-- the tree of either
abbrev pub head_tree : {F C K : Type 0} → ForHead F C K → Tree F C K
head_tree (for_target p) = p
head_tree (for_expr e) = e

abbrev pub is_for_target : {F C K : Type 0} → ForHead F C K → Bool
is_for_target (for_target p) = true
is_for_target (for_expr e) = false

-- `ReadsHead hook is_await c xs ys h`: in the scope c, whatever its flags say of heads and of `in`, h is derived from
-- the tokens from xs on to before ys, and the first of ys decides which of the two it is. What is written to is a valid
-- simple target, or an array or object literal that is a pattern of these (13.15.5); it is no assignment.
pub data ReadsHead {F C K : Type 0} (hook : Hook F C K) (is_await : Bool) (c : Scope) (xs ys : List TokenAndSpan)
    : ForHead F C K → Type 0 where
  target-head : {e p : Tree F C K} → Reads hook Assign (in_for is_await c) xs ys e → is_assign e ≡ false
      → as_pat (target c.context.strict) e ≡ Some p → sees is_each ys ≡ true
      → ReadsHead hook is_await c xs ys (for_target p)
  expr-head : {e : Tree F C K} → Reads hook Expr (in_for is_await c) xs ys e → sees is_each ys ≡ false
      → ReadsHead hook is_await c xs ys (for_expr e)

-- the same, but for the marks of commas
abbrev pub unmarked_head : {F C K : Type 0} → ForHead F C K → ForHead F C K
unmarked_head (for_target p) = for_target (unmarked p)
unmarked_head (for_expr e) = for_expr (unmarked e)

pub record ReadsHeadUnmarked {F C K : Type 0} (hook : Hook F C K) (is_await : Bool) (c : Scope)
    (xs ys : List TokenAndSpan) (h : ForHead F C K) : Type 0 where
  pub marked : ForHead F C K
  pub read : ReadsHead hook is_await c xs ys marked
  pub same : unmarked_head marked ≡ h

-- Of what follows a head its first token decides, and nothing after that.
abbrev pub next : List TokenAndSpan → List TokenAndSpan
next [] = []
next (y ∷ ys) = y ∷ []

-- where the reading of a head may stop: at the end, or before one of these
abbrev pub is_semi : Token → Bool
is_semi token.Semi = true
is_semi t = false

abbrev pub is_head_stop : TokenAndSpan → Bool
is_head_stop t = is_each t || (is_semi t.token || is_rparen t.token)

pub data HeadStops : List TokenAndSpan → Type 0 where
  head-end : HeadStops []
  head-stop : {t : TokenAndSpan} {ts : List TokenAndSpan} → IsTrue (is_head_stop t) → HeadStops (t ∷ ts)
