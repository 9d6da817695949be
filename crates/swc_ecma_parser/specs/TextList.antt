-- The tokens of a text, or of a part of one, that is one expression or one pattern.
use Rattle.std.specs.Prelude.{◌≡◌, ◌+◌, ◌≤◌, ℕ, false, nat_le, if◌then◌else◌, List, length, drop, Result, MatchResult}
use Rattle.std.specs.Str.{IsCharBoundary}
use Rattle.swc_context.specs.{declared.context.Context.Context, declared.error.Error.Error, declared.span.Span.Span}
use Rattle.swc_input.specs.declared.token.TokenAndSpan.{TokenAndSpan}
use Rattle.swc_lexical.specs.Blanks.{blanks_len}
use Rattle.swc_lexer.specs.{Legacy.any_legacy, Readings.kind_in, Readings.tokens_of, declared.reader.End.TheVariants.Whole, declared.stack.Start.TheVariants.Operand}
use Rattle.swc_ecma_parser.specs.WholeList.{plain_list}

-- All tokens of the text from a byte on, by the lexical grammar, in code of the context: an operand begins there, and
-- the text's end ends it.
abbrev pub tokens_at : ℕ → Context → List ℕ → List TokenAndSpan
tokens_at at c bs = plain_list (tokens_of Whole at Operand (kind_in c) bs)

abbrev pub text_tokens : Context → List ℕ → List TokenAndSpan
text_tokens c bs = tokens_at 0 c bs

-- no token of the text from a byte on is a number or has an escape of old scripts, which strict code refuses
abbrev pub IsModernAt : ℕ → Context → List ℕ → Type 0
IsModernAt at c bs = any_legacy (tokens_of Whole at Operand (kind_in c) bs) ≡ false

abbrev pub IsModern : Context → List ℕ → Type 0
IsModern c bs = IsModernAt 0 c bs

-- what lies between two bytes is a part of the text, which no character straddles
pub record IsPart (bs : List ℕ) (at end : ℕ) : Type 0 where
  pub ordered : at ≤ end
  pub begins : IsCharBoundary bs at
  pub ends : IsCharBoundary bs end

-- where the first thing after a place begins, but for blanks and comments
abbrev pub next_place : List ℕ → ℕ → ℕ
next_place bs n = if nat_le n (length bs) then n + blanks_len (drop n bs) else n

-- where a reading stopped: before the first thing after what was read, or where the refusal lies
abbrev pub StopsAt : {N : Type 0} → List ℕ → (N → Span) → Result N Error → ℕ → Type 0
StopsAt bs span read n = MatchResult read (λ r. n ≡ next_place bs (span r).hi.0) (λ e. n ≡ e.span.lo.0)
