-- What the steps of the code read of `++`, `--` (13.4) and `await` (15.8), by the clean parser.
use Rattle.std.specs.Prelude.{true, not, ◌&&◌, if◌then◌else◌, List, Option, Some, None, codes}
use Rattle.swc_context.specs.{declared.operator.UpdateOp.UpdateOp, declared.span.Span.Span}
use Rattle.swc_input.specs.{declared.token.TokenAndSpan.TokenAndSpan, Kinds.at_token}
use Rattle.swc_ast.specs.Trees.{to, update_e, await_e, ident_e}
use Rattle.swc_ast.specs.{Targets.is_target, Tree.Tree, Tree.span_of}
use Rattle.swc_bodies.specs.Readings.{Hook}
use Rattle.swc_grammar.specs.Tokens.{update_of, is_star, await_ok, await_ident_ok}
use Rattle.swc_grammar.specs.Clean.{Out, first, sym, ends_await_at, run}
use Rattle.swc_grammar.specs.{Scope.Scope, Scope.inner, Symbols.Unary, Words.◌>>=◌, Words.rest}
use Rattle.swc_steps.specs.Parsing.{breaks_at}

-- `++` or `--`; and the same on the line of what is before it
abbrev pub update_at : Option TokenAndSpan → Option UpdateOp
update_at None = None
update_at (Some t) = update_of t.token

abbrev pub update_behind : Option TokenAndSpan → Option UpdateOp
update_behind o = if breaks_at o then None else update_at o

module _ {F C K : Type 0} where
  -- `++` or `--` and the operand e after it; it is at s
  unfoldable pub update_node : Span → UpdateOp → Scope → Tree F C K → List TokenAndSpan → Out (Tree F C K)
  update_node s op c e ts =
      if is_target c.context.strict e then Some (update_e (to s (span_of e)) op true e, ts) else None

  -- the identifier `await`, which is at s
  unfoldable pub await_ident : Span → Scope → List TokenAndSpan → Out (Tree F C K)
  await_ident s c ts = if await_ident_ok c.context then Some (ident_e s (codes "await"), ts) else None

module _ {F C K : Type 0} (hook : Hook F C K) where
  -- after `++` or `--` at s, and from that on
  unfoldable pub update_tail : Span → UpdateOp → Scope → List TokenAndSpan → Out (Tree F C K)
  update_tail s op c ts = run hook (sym Unary) (inner c) ts >>= (λ p. update_node s op c p.0 p.1)

  abbrev pub update_by : UpdateOp → Option TokenAndSpan → Scope → List TokenAndSpan → Out (Tree F C K)
  update_by op None c us = None
  update_by op (Some t) c us = update_tail t.span op c us

  unfoldable pub update_prefix : UpdateOp → Scope → List TokenAndSpan → Out (Tree F C K)
  update_prefix op c ts = update_by op (first ts) c (rest ts)

  -- after `await` at s: its operand; that, or none; and from the word on
  abbrev pub await_reads : Span → Scope → List TokenAndSpan → Out (Tree F C K)
  await_reads s c ts = run hook (sym Unary) (inner c) ts >>= (λ p. Some (await_e (to s (span_of p.0)) p.0, p.1))

  unfoldable pub await_operand : Span → Scope → List TokenAndSpan → Out (Tree F C K)
  await_operand s c ts = if await_ok c.context then await_reads s c ts else None

  abbrev pub await_go : Span → Scope → List TokenAndSpan → Out (Tree F C K)
  await_go s c ts =
      if not c.context.in_async && ends_await_at (first ts) then await_ident s c ts else await_operand s c ts

  unfoldable pub await_tail : Span → Scope → List TokenAndSpan → Out (Tree F C K)
  await_tail s c ts = if at_token is_star (first ts) then None else await_go s c ts

  abbrev pub await_by : Option TokenAndSpan → Scope → List TokenAndSpan → Out (Tree F C K)
  await_by None c us = None
  await_by (Some t) c us = await_tail t.span c us

  unfoldable pub await_expr : Scope → List TokenAndSpan → Out (Tree F C K)
  await_expr c ts = await_by (first ts) c (rest ts)
