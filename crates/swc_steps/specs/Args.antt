-- What the steps of the code read in arguments (13.3.8) and in parentheses (13.2.9), by the clean parser.
use Rattle.std.specs.Prelude.{Bool, true, false, not, ◌&&◌, if◌then◌else◌, List, Option, Some, None}
use Rattle.swc_context.specs.{declared.span.BytePos.BytePos, declared.span.Span.Span}
use Rattle.swc_input.specs.{declared.token.TokenAndSpan.TokenAndSpan, Kinds.at_token, Kinds.is_hash}
use Rattle.swc_ast.specs.Tree.{Tree, span_of}
use Rattle.swc_ast.specs.Trees.{to, items_of, seq_of, held_exprs, paren_ok, paren_e}
use Rattle.swc_bodies.specs.Readings.{Hook}
use Rattle.swc_grammar.specs.Tokens.{with_in, is_rparen, import_comma_ok}
use Rattle.swc_grammar.specs.Clean.{Out, first, sym, run, no_arrow}
use Rattle.swc_grammar.specs.Names.{Spelling, spelling, may_name}
use Rattle.swc_grammar.specs.Words.{◌>>=◌, rest, begins_at, word}
use Rattle.swc_grammar.specs.{Parts.import_args_ok, Scope.Scope, Symbols.Args, Symbols.Item}
use Rattle.swc_steps.specs.Lists.{separated, with_comma}
use Rattle.swc_nodes.specs.Lists.{seq_between}

-- ---- names, and commas after arguments

-- a `#`, and a word that begins where it ends, with where that ends
abbrev pub hash_by : Scope → Option TokenAndSpan → List TokenAndSpan → Out (Spelling × BytePos)
hash_by c None us = None
hash_by c (Some t) us = if is_hash t.token && begins_at t.span (first us) then
    (word may_name c us >>= (λ r. Some ((spelling r.0.text (to t.span r.0.at), r.0.at.hi), r.1))) else None

unfoldable pub hash_name : Scope → List TokenAndSpan → Out (Spelling × BytePos)
hash_name c ts = hash_by c (first ts) (rest ts)

-- After a comma: it may be the last of a list, or it isn't. Those of `import` may have none.
abbrev pub last_by : Bool → Bool → List TokenAndSpan → Out (Unit {0})
last_by closes may_end ts = if closes && not may_end then None else Some (tt, ts)

unfoldable pub last_comma : Scope → List TokenAndSpan → Out (Unit {0})
last_comma c ts = last_by (at_token is_rparen (first ts)) (import_comma_ok c) ts

abbrev pub comma_behind : Bool → Option Span → Scope → List TokenAndSpan → Out (Option Span)
comma_behind true (Some s) c ts = last_comma c ts >>= (λ p. Some (Some s, p.1))
comma_behind i o c ts = Some (o, ts)

-- after an argument, of `import` or another: a comma, or nothing before the parenthesis that closes the list
unfoldable pub separated_args : Bool → Scope → List TokenAndSpan → Out (Option Span)
separated_args i c ts = separated is_rparen c ts >>= (λ p. comma_behind i p.0 c p.1)

-- no `=>` comes next, which would be read as that of an arrow function
unfoldable pub arrow_free : Scope → List TokenAndSpan → Out (Unit {0})
arrow_free c ts = if no_arrow ts then Some (tt, ts) else None

module _ {F C K : Type 0} where
  -- a list in parentheses (13.2.9), which begins at s: what is in them
  abbrev pub paren_of : Scope → Span → Tree F C K → List TokenAndSpan → Out (Tree F C K)
  paren_of c s es ts =
      if paren_ok c.syntax.pedantic es then
      Some (paren_e (to s (span_of es)) (seq_of (held_exprs (items_of es))), ts) else None

  -- the same, where the first of its expressions begins, and the last one ends, at other positions than their places
  -- say
  abbrev pub paren_from : BytePos → BytePos → Scope → Span → Tree F C K → List TokenAndSpan → Out (Tree F C K)
  paren_from lo hi c s es ts =
      if paren_ok c.syntax.pedantic es then
      Some (paren_e (to s (span_of es)) (seq_between lo hi (held_exprs (items_of es))), ts) else None

  -- arguments (13.3.8), of `import` or others, that are as many as there may be (13.3.10)
  abbrev pub counted : Bool → Tree F C K → Scope → List TokenAndSpan → Out (Tree F C K)
  counted i es c ts = if import_args_ok c i es then Some (es, ts) else None

  -- the same where no `=>` comes next
  abbrev pub paren_closed : (List TokenAndSpan → Out (Tree F C K)) → List TokenAndSpan → Out (Tree F C K)
  paren_closed reads ts = if no_arrow ts then reads ts else None

module _ {F C K : Type 0} (hook : Hook F C K) where
  -- ---- arguments (13.3.8)

  -- arguments, of `import` or others, among which `in` is an operator
  unfoldable pub args_inside : Bool → Scope → List TokenAndSpan → Out (Tree F C K)
  args_inside i c ts = run hook (sym (Args i)) (with_in c) ts

  -- one argument, and the comma after it, or before the parenthesis that closes the list
  abbrev pub arg_item : Bool → Scope → List TokenAndSpan → Out (Tree F C K × Option Span)
  arg_item i = with_comma (run hook (sym Item)) (separated_args i)

  -- ---- parentheses (13.2.9)

  -- after the parenthesis at s
  unfoldable pub paren_expr_tail : Span → Scope → List TokenAndSpan → Out (Tree F C K)
  paren_expr_tail s c ts = args_inside false c ts >>= (λ p. paren_closed (paren_of c s p.0) p.1)
