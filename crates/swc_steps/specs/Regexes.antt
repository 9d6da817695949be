-- What is read of regular expressions (ECMA-262, 12.9.5 and 13.2.7), and what the hints do by which a lexer reads them.
use Rattle.std.specs.Prelude.{◌≡◌, if◌then◌else◌, List, [], ◌∷◌, Option, Some, None}
use Rattle.swc_context.specs.declared.span.Span.{Span}
use Rattle.swc_input.specs.{declared.buffer.Buffer.Buffer, declared.token.Token.Token, declared.token.Token.Token as token, declared.token.TokenAndSpan.TokenAndSpan, Plain.plain, Source.Model, Buffer.Read, Buffer.Lives}
use Rattle.swc_ast.specs.{declared.lit.Lit.Lit as lit, declared.lit.Regex.Regex, Parts.lit_tree, Tree.Tree, Trees.to}
use Rattle.swc_grammar.specs.Words.{◌>>=◌, rest, one}
use Rattle.swc_grammar.specs.{Scope.Scope, Clean.Out, Clean.first, Parts.flags_ok, Tokens.is_slash}

-- the regular expression that a token is
abbrev pub regex_in : Token → Span → Option Regex
regex_in (token.Regex exp flags) s = Some (record { span = s; exp = exp; flags = flags })
regex_in t s = None

abbrev pub regex_first : Option TokenAndSpan → List TokenAndSpan → Out Regex
regex_first None us = None
regex_first (Some t) us = one (regex_in t.token t.span) us

unfoldable pub regex_alone : Scope → List TokenAndSpan → Out Regex
regex_alone c ts = regex_first (first ts) (rest ts)

-- after the slash at s: it spans both
abbrev pub from_slash : Span → Regex → Regex
from_slash s r = record r { span = to s r.span }

unfoldable pub regex_tail : Span → Scope → List TokenAndSpan → Out Regex
regex_tail s c ts = regex_alone c ts >>= (λ p. Some (from_slash s p.0, p.1))

abbrev pub regex_by : Option TokenAndSpan → Scope → List TokenAndSpan → Out Regex
regex_by None c ts = None
regex_by (Some t) c ts = if is_slash t.token then regex_tail t.span c (rest ts) else regex_alone c ts

-- a regular expression, whatever its flags: a slash and what the lexer gives after it, or a whole one
unfoldable pub regex_text : Scope → List TokenAndSpan → Out Regex
regex_text c ts = regex_by (first ts) c ts

module _ {F C K : Type 0} where
  -- the expression, where its flags are well
  unfoldable pub regex_made : Regex → List TokenAndSpan → Out (Tree F C K)
  regex_made r ts = if flags_ok r.flags then Some (lit_tree (lit.Regex r), ts) else None

  unfoldable pub regex_expr : Scope → List TokenAndSpan → Out (Tree F C K)
  regex_expr c ts = regex_text c ts >>= (λ p. regex_made p.0 p.1)

module _ {S : Type 0} (model : Model S) where
  -- The current token was consumed, and a hint was given: nothing was recorded, and no more tokens are to come. As many
  -- may be as before, since the hint may bring one.
  pub record SkipsSlash (b c : Buffer S) : Type 0 where
    pub was : TokenAndSpan
    pub current : b.cur ≡ Some was
    pub read : Read model b (plain was ∷ []) c
    pub errors : (model.state c.iter).errors ≡ (model.state b.iter).errors
    pub lives : Lives model b c
    pub place : c.prev_span ≡ was.span
