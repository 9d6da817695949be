-- What `await` is (13.1 and 15.8), once it was consumed, by the clean parser.
use Rattle.std.specs.Prelude.{Bool, not, ◌&&◌, if◌then◌else◌, List, Some, None}
use Rattle.swc_context.specs.declared.span.Span.{Span}
use Rattle.swc_input.specs.{declared.token.TokenAndSpan.TokenAndSpan, Kinds.at_token}
use Rattle.swc_ast.specs.Tree.{Tree}
use Rattle.swc_bodies.specs.Readings.{Hook}
use Rattle.swc_grammar.specs.Clean.{Out, first, ends_await_at}
use Rattle.swc_grammar.specs.{Scope.Scope, Tokens.is_star}
use Rattle.swc_operators.specs.Updates.{await_ident, await_operand}

-- whether it is an identifier; no `*` is after it
abbrev pub await_is_name : Scope → List TokenAndSpan → Out Bool
await_is_name c ts = Some (not c.context.in_async && ends_await_at (first ts), ts)

abbrev pub await_names : Scope → List TokenAndSpan → Out Bool
await_names c ts = if at_token is_star (first ts) then None else await_is_name c ts

-- and what is read then after the word at s
abbrev pub await_by_name : {F C K : Type 0} → Hook F C K → Span → Bool → Scope → List TokenAndSpan → Out (Tree F C K)
await_by_name hook s b c ts = if b then await_ident s c ts else await_operand hook s c ts
