-- Rests in lists of patterns, and what may be read after them.
use Rattle.std.specs.Option.{is_some}
use Rattle.std.specs.Prelude.{Bool, true, false, List, Option, Some, None}
use Rattle.swc_context.specs.declared.span.Span.{Span}
use Rattle.swc_input.specs.{declared.token.Token.Token, declared.token.TokenAndSpan.TokenAndSpan}
use Rattle.swc_ast.specs.Tree.{Tree, node, nil, dots, span_of}
use Rattle.swc_ast.specs.{Patterns.rest_p, Trees.to}
use Rattle.swc_grammar.specs.{Scope.Scope, Clean.Out, Words.◌>>=◌}
use Rattle.swc_steps.specs.Lists.{separated}
use Rattle.swc_patterns.specs.declared.rest.SeenRest.{SeenRest, SeenRest as seen}

-- what may be read of a list: any item; after a rest only the sign that closes the list; and after a comma there
-- nothing
pub data Stage : Type 0 where
  going : Stage
  closing : Stage
  never : Stage

abbrev pub is_never : Stage → Bool
is_never never = true
is_never s = false

abbrev pub is_open : Stage → Bool
is_open going = true
is_open s = false

-- after a rest, with the comma after it or not
abbrev pub behind_rest : Option Span → Stage
behind_rest None = closing
behind_rest (Some s) = never

-- after an item that is no rest
abbrev pub behind_item : Stage → Stage
behind_item going = going
behind_item s = closing

abbrev pub stage_of : SeenRest → Stage
stage_of seen.No = going
stage_of (seen.Last rest comma) = behind_rest comma
stage_of (seen.Earlier rest) = closing

abbrev pub passed : SeenRest → SeenRest
passed seen.No = seen.No
passed (seen.Last rest comma) = seen.Earlier rest
passed (seen.Earlier rest) = seen.Earlier rest

-- the comma after a rest that was read last
abbrev pub comma_behind : SeenRest → Option Span
comma_behind (seen.Last rest comma) = comma
comma_behind s = None

abbrev pub has_comma : SeenRest → Bool
has_comma s = is_some (comma_behind s)

abbrev pub has_rest : SeenRest → Bool
has_rest seen.No = false
has_rest s = true

-- what is after an item, which is a rest or not, and what may be read after that
abbrev pub behind_by : Bool → Stage → Option Span → Stage
behind_by true s comma = behind_rest comma
behind_by false s comma = behind_item s

unfoldable pub separated_item : (Token → Bool) → Bool → Stage → Scope → List TokenAndSpan → Out Stage
separated_item closes is_rest s c ts = separated closes c ts >>= (λ p. Some (behind_by is_rest s p.0, p.1))

-- the pattern after the dots at s
abbrev pub rest_node : {F C K : Type 0} → Span → Tree F C K → Tree F C K
rest_node s p = rest_p (to s (span_of p)) (node dots s nil) p
