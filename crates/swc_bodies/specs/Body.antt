-- A body that is kept as tokens.
use Rattle.std.specs.Prelude.{List}
use Rattle.swc_context.specs.declared.span.Span.{Span}
use Rattle.swc_input.specs.declared.token.TokenAndSpan.{TokenAndSpan}

-- a body: its place, and the tokens that were kept of it, as contracts compare them
pub record Body : Type 0 where
  pub span : Span
  pub tokens : List TokenAndSpan
