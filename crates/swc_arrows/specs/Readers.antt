-- What the steps of the code read in arrow functions (15.3, 15.9), by the clean parser.
use Rattle.std.specs.Prelude.{◌≡◌, Bool, true, false, not, ◌&&◌, ◌||◌, if◌then◌else◌, List, [], Option, Some, None, is_some}
use Rattle.swc_context.specs.{Reserved.strict_binding_words, Spans.from_to, Texts.is_one_of, declared.context.Context.Context, declared.span.BytePos.BytePos, declared.span.Span.Span}
use Rattle.swc_input.specs.{declared.token.Token.Token, declared.token.Token.Token as token, declared.token.TokenAndSpan.TokenAndSpan, Kinds.at_token}
use Rattle.swc_ast.specs.Tree.{Tree, node, Trees, nil, cons, ident, span_of}
use Rattle.swc_ast.specs.Trees.{to, arrow_e, ident_e, block_e, call_e, link_e, items_of, comma_of, covers_ok}
use Rattle.swc_bodies.specs.Readings.{Hook, is_async as is_async_token, is_brace}
use Rattle.swc_grammar.specs.Arrows.{is_arrow, is_block, is_sign, is_of}
use Rattle.swc_grammar.specs.Clean.{Out, first, second, sym, run, links, updates, climb, assigns, parens, asyncs}
use Rattle.swc_grammar.specs.Names.{Spelling, spelling, may_refer, may_bind}
use Rattle.swc_grammar.specs.{Scope.Scope, Symbols.Assign, Symbols.Level, Symbols.ArrowBody, Tokens.is_lparen, Words.◌>>=◌, Words.word}
use Rattle.swc_cover.specs.{Clear.is_clear, Faults.params_verdict, ReservedNames.names_ok, Items.want_items}
use Rattle.swc_steps.specs.Args.{args_inside, paren_closed, paren_from, paren_of}
use Rattle.swc_steps.specs.{Keys.expected, Parsing.breaks_at, Parsing.by_hook}

-- an identifier, as it is spelled
abbrev pub spelling_of : {F C K : Type 0} → Tree F C K → Spelling
spelling_of (node (ident text) s ts) = spelling text s
spelling_of t = spelling [] (span_of t)

-- what is before a list at s: `async`, so spelled, from there on, or nothing
abbrev pub is_callee : {F C K : Type 0} → Span → Option (Tree F C K) → Type 0
is_callee s None = Unit {0}
is_callee s (Some e) = e ≡ ident_e s (spelling_of e).text

-- a name that may be bound where it is the one parameter: in a strict module neither `eval` nor `arguments`
abbrev pub name_ok : Context → Spelling → Bool
name_ok c n = not ((c.module && c.strict) && is_one_of n.text strict_binding_words)

-- the next token is on the line of the one before it
abbrev pub on_line : Scope → List TokenAndSpan → Out (Unit {0})
on_line c ts = if breaks_at (first ts) then None else Some (tt, ts)

-- where the syntax is pedantic, an `=>` that comes next is on the line of the name before it, which is a parameter
-- of an async arrow function by itself
abbrev pub breaks_arrow : Scope → List TokenAndSpan → Bool
breaks_arrow c ts = at_token is_arrow (first ts) && (c.syntax.pedantic && breaks_at (first ts))

abbrev pub arrow_on_line : Scope → List TokenAndSpan → Out (Unit {0})
arrow_on_line c ts = if breaks_arrow c ts then None else Some (tt, ts)

-- no binary operator comes next, where these are barred, but for `in` and `instanceof`
abbrev pub no_sign : Bool → Scope → List TokenAndSpan → Out (Unit {0})
no_sign bars c ts = if bars && at_token is_sign (first ts) then None else Some (tt, ts)

-- a statement may end here: at a line break, or before a token with which one ends
abbrev pub ends_statement : Token → Bool
ends_statement token.Semi = true
ends_statement token.RBrace = true
ends_statement t = false

abbrev pub statement_ends : Scope → List TokenAndSpan → Out (Unit {0})
statement_ends c ts = if breaks_at (first ts) || at_token ends_statement (first ts) then Some (tt, ts) else None

-- after `async`: the word `of`, which the head of a `for` doesn't take for a parameter where no `=>` is after it
abbrev pub is_of_alone : Context → List TokenAndSpan → Bool
is_of_alone c ts = c.expr_ctx.for_loop_init && (at_token is_of (first ts) && not (at_token is_arrow (second ts)))

abbrev pub of_alone : Scope → List TokenAndSpan → Out Bool
of_alone c ts = Some (is_of_alone c.context ts, ts)

module _ {F C K : Type 0} where
  -- after the body, which ends at a position: after parameters in parentheses and a block no binary operator comes
  abbrev pub arrow_end : BytePos → BytePos → Bool → Bool → Trees F C K → Tree F C K → List TokenAndSpan
      → Out (Tree F C K)
  arrow_end lo hi is_async in_parens ps b ts =
      if in_parens && (is_block b && at_token is_sign (first ts)) then None else
      Some (arrow_e (from_to lo hi) is_async b ps, ts)

  -- a call of `async`, after its arguments
  abbrev pub async_call : Tree F C K → Tree F C K → Scope → List TokenAndSpan → Out (Tree F C K)
  async_call e es c ts =
      if covers_ok c.syntax.pedantic es then Some (
        link_e false e (call_e (to (span_of e) (span_of es)) e (items_of es)),
        ts,
      ) else
      None

  -- whether items in parentheses are parameters, as the code checks it
  abbrev pub takes_params : Context → Tree F C K → Bool
  takes_params c es = is_clear (params_verdict (comma_of es) (items_of es)) && names_ok c (want_items (items_of es))

  -- the same list as what is in parentheses, or as arguments of `async`
  abbrev pub base_closed : BytePos → BytePos → Option (Tree F C K) → Span → Tree F C K → Scope → List TokenAndSpan
      → Out (Tree F C K)
  base_closed lo hi None s es c ts = paren_closed (paren_from lo hi c s es) ts
  base_closed lo hi (Some e) s es c ts = async_call e es c ts

  -- ---- operands, which links may follow, by themselves

  -- the same list, after which no `=>` comes
  unfoldable pub base_look : BytePos → BytePos → Option (Tree F C K) → Span → Tree F C K → Scope → List TokenAndSpan
      → Out (Tree F C K)
  base_look lo hi o s es c ts = if at_token is_arrow (first ts) then None else base_closed lo hi o s es c ts

  -- the same, where the first of its items begins, and the last one ends, where their places say
  abbrev pub base_plain : Option (Tree F C K) → Span → Tree F C K → Scope → List TokenAndSpan → Out (Tree F C K)
  base_plain None s es c ts = paren_closed (paren_of c s es) ts
  base_plain (Some e) s es c ts = if at_token is_arrow (first ts) then None else async_call e es c ts

  -- `async`, which is an identifier in the head of a `for await` alone, where `of` is by itself after it
  abbrev pub of_base : Spelling → Scope → List TokenAndSpan → Out (Tree F C K)
  of_base n c ts = if c.context.expr_ctx.for_await_loop_init then Some (ident_e n.at n.text, ts) else None

  abbrev pub before_of : Spelling → Scope → List TokenAndSpan → Out (Tree F C K)
  before_of n c ts = of_alone c ts >>= (λ p. if p.0 then of_base n c p.1 else None)

  abbrev pub async_alone : Scope → List TokenAndSpan → Out (Tree F C K)
  async_alone c ts = word may_refer c ts >>= (λ p. before_of p.0 c p.1)

  unfoldable pub async_base : Scope → List TokenAndSpan → Out (Tree F C K)
  async_base c ts = if at_token is_async_token (first ts) then async_alone c ts else None

  -- what a list in parentheses begins with: `async`, as an identifier, or nothing, and where that or the parenthesis is
  abbrev pub async_opening : Scope → List TokenAndSpan → Out (Option (Tree F C K) × Span)
  async_opening c ts = word may_refer c ts >>= (λ p. expected is_lparen c p.1
      >>= (λ q. Some ((Some (ident_e p.0.at p.0.text), p.0.at), q.1)))

  unfoldable pub list_opening : Bool → Scope → List TokenAndSpan → Out (Option (Tree F C K) × Span)
  list_opening false c ts = expected is_lparen c ts >>= (λ p. Some ((None, p.0), p.1))
  list_opening true c ts = if at_token is_async_token (first ts) then async_opening c ts else None

module _ {F C K : Type 0} (hook : Hook F C K) where
  -- such a list from there on, as an operand
  unfoldable pub listed_base : Bool → Scope → List TokenAndSpan → Out (Tree F C K)
  listed_base b c ts = list_opening b c ts >>= (λ p. args_inside hook false c p.1
      >>= (λ q. base_plain p.0.0 p.0.1 q.0 c q.1))

  -- after an operand, or what q reads: its links, `++` or `--`, and operators
  unfoldable pub operators_behind : (Scope → List TokenAndSpan → Out (Tree F C K)) → Scope → List TokenAndSpan
      → Out (Tree F C K)
  operators_behind q c ts = q c ts >>= (λ p. run hook (links true p.0) c p.1
      >>= (λ l. run hook (updates l.0) c l.1 >>= (λ u. run hook (climb u.0 0) c u.1)))

  -- ---- no arrow function

  -- what binary operators join, and what is after it
  unfoldable pub others : Scope → List TokenAndSpan → Out (Tree F C K)
  others c ts = run hook (sym (Level 1)) c ts >>= (λ p. run hook (assigns p.0) c p.1)

  -- after what an operand begins with: its links, `++` or `--`, operators, and what is after these
  unfoldable pub base_behind : Tree F C K → Scope → List TokenAndSpan → Out (Tree F C K)
  base_behind e c ts =
      run hook (links true e) c ts >>= (λ l. run hook (updates l.0) c l.1
      >>= (λ u. run hook (climb u.0 0) c u.1 >>= (λ k. run hook (assigns k.0) c k.1)))

  -- after a whole operand
  unfoldable pub operand_behind : Tree F C K → Scope → List TokenAndSpan → Out (Tree F C K)
  operand_behind e c ts = run hook (climb e 0) c ts >>= (λ k. run hook (assigns k.0) c k.1)

  -- ---- arrow functions

  -- after the `=>`
  unfoldable pub arrow_behind : BytePos → Bool → Bool → Trees F C K → Scope → List TokenAndSpan → Out (Tree F C K)
  arrow_behind lo is_async in_parens ps c ts =
      run hook (sym (ArrowBody is_async)) c ts
      >>= (λ p. arrow_end lo (span_of p.0).hi is_async in_parens ps p.0 p.1)

  -- a name, and `=>`
  abbrev pub name_behind : Spelling → Scope → List TokenAndSpan → Out (Tree F C K)
  name_behind n c ts =
      if name_ok c.context n then arrow_behind n.at.lo false false (cons (ident_e n.at n.text) nil) c ts else None

  unfoldable pub name_arrow : Scope → List TokenAndSpan → Out (Tree F C K)
  name_arrow c ts = word may_refer c ts >>= (λ p. expected is_arrow c p.1 >>= (λ q. name_behind p.0 c q.1))

  -- a block, which the hook reads, in the context of the body
  unfoldable pub block_inside : (K → Span) → Scope → List TokenAndSpan → Out (Tree F C K)
  block_inside place c ts = by_hook hook.block c ts >>= (λ p. Some (block_e (place p.0) p.0, p.1))

  -- the body of an arrow function, in its context
  abbrev pub body_by : (K → Span) → Scope → List TokenAndSpan → Out (Tree F C K)
  body_by place c ts = if at_token is_brace (first ts) then block_inside place c ts else run hook (sym Assign) c ts

  -- after `async`, so spelled: a name, and `=>`
  abbrev pub async_param : Spelling → Scope → List TokenAndSpan → Out (Tree F C K)
  async_param n c ts = word may_bind c ts >>= (λ p. arrow_on_line c p.1 >>= (λ l. expected is_arrow c l.1
      >>= (λ q. arrow_behind n.at.lo true false (cons (ident_e p.0.at p.0.text) nil) c q.1)))

  -- the same, where `of` is by itself: `async` is an identifier, in the head of a `for await` alone
  abbrev pub async_of : Spelling → Scope → List TokenAndSpan → Out (Tree F C K)
  async_of n c ts = if c.context.expr_ctx.for_await_loop_init then base_behind (ident_e n.at n.text) c ts else None

  unfoldable pub async_behind : Spelling → Scope → List TokenAndSpan → Out (Tree F C K)
  async_behind n c ts = if is_of_alone c.context ts then async_of n c ts else async_param n c ts

  unfoldable pub async_arrow : Scope → List TokenAndSpan → Out (Tree F C K)
  async_arrow c ts = word may_refer c ts >>= (λ p. async_behind p.0 c p.1)

  -- ---- lists in parentheses

  -- after such a list, which begins at s, with `async`, as an identifier, before it or not
  abbrev pub list_behind : Option (Tree F C K) → Span → Tree F C K → Scope → List TokenAndSpan → Out (Tree F C K)
  list_behind None s es c ts = run hook (parens s es) c ts
  list_behind (Some e) s es c ts = run hook (asyncs (spelling_of e) es) c ts

  -- after its parenthesis
  unfoldable pub list_rest : Option (Tree F C K) → Span → Scope → List TokenAndSpan → Out (Tree F C K)
  list_rest o s c ts = args_inside hook false c ts >>= (λ q. list_behind o s q.0 c q.1)

  -- The same as the code goes it, which refines the list at once where `=>` is after it. Where the list holds
  -- nothing that was refused, that is what is above; the first of its items begins, and the last one ends, at other
  -- positions than their places say, where it does.
  abbrev pub params_refined : Option (Tree F C K) → Span → Tree F C K → Scope → List TokenAndSpan → Out (Tree F C K)
  params_refined o s es c ts =
      if takes_params c.context es then arrow_behind s.lo (is_some o) true (want_items (items_of es)) c ts else None

  unfoldable pub params_closed : Option (Tree F C K) → Span → Tree F C K → Scope → List TokenAndSpan → Out (Tree F C K)
  params_closed o s es c ts = on_line c ts >>= (λ p. expected is_arrow c p.1 >>= (λ q. params_refined o s es c q.1))

  unfoldable pub list_closed : BytePos → BytePos → Option (Tree F C K) → Span → Tree F C K → Scope
      → List TokenAndSpan → Out (Tree F C K)
  list_closed lo hi o s es c ts =
      if at_token is_arrow (first ts) then params_closed o s es c ts else
      (base_closed lo hi o s es c ts >>= (λ p. base_behind p.0 c p.1))

  -- and from its parenthesis on, or from `async` on
  unfoldable pub list_head : Bool → Scope → List TokenAndSpan → Out (Tree F C K)
  list_head false c ts = expected is_lparen c ts >>= (λ p. list_rest None p.0 c p.1)
  list_head true c ts = word may_refer c ts >>= (λ p. expected is_lparen c p.1
      >>= (λ q. list_rest (Some (ident_e p.0.at p.0.text)) p.0.at c q.1))
