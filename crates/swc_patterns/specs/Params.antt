-- What the steps of the code read in formal parameters (15.1), by the clean parser.
use Rattle.std.specs.Option.{is_some}
use Rattle.std.specs.Prelude.{Bool, true, false, if◌then◌else◌, List, ◌∷◌, Option, Some, None}
use Rattle.swc_context.specs.declared.span.Span.{Span}
use Rattle.swc_input.specs.declared.token.TokenAndSpan.{TokenAndSpan}
use Rattle.swc_ast.specs.Tree.{Tree, Trees, nil, cons}
use Rattle.swc_ast.specs.Trees.{trees_append}
use Rattle.swc_bodies.specs.Readings.{Hook}
use Rattle.swc_grammar.specs.Symbols.{Pat, Element, Params}
use Rattle.swc_grammar.specs.Tokens.{is_rparen, is_dots, is_equals}
use Rattle.swc_grammar.specs.Clean.{Out, first, sym, run}
use Rattle.swc_grammar.specs.{Scope.Scope, Words.◌>>=◌}
use Rattle.swc_steps.specs.{Keys.ends_params, Lists.eaten, Lists.put_before}
use Rattle.swc_steps.specs.Params.{params_close}
use Rattle.swc_patterns.specs.Rests.{Stage, going, closing, never, separated_item, rest_node}
use Rattle.swc_patterns.specs.declared.params.NextParam.{NextParam, NextParam as next}

-- ---- what is before a parameter: the parenthesis that closes the list, which stays, or the end; or the dots of a
-- rest

abbrev pub params_end : Stage → List TokenAndSpan → Out NextParam
params_end never (t ∷ ts) = None
params_end s ts = Some (next.End, ts)

abbrev pub param_head : Stage → Scope → List TokenAndSpan → Out NextParam
param_head going c ts = eaten is_dots c ts >>= (λ p. Some (next.Item p.0, p.1))
param_head s c ts = None

unfoldable pub next_param : Stage → Scope → List TokenAndSpan → Out NextParam
next_param s c ts = if ends_params (first ts) then params_end s ts else param_head s c ts

abbrev pub goes_on : NextParam → Bool
goes_on (next.Item (Some s)) = true
goes_on n = false

module _ {F C K : Type 0} where
  -- after the pattern of a rest whose dots are at s: its node; an initialiser there is a fault
  abbrev pub rest_by : Span → Tree F C K → Option Span → List TokenAndSpan → Out (Tree F C K)
  rest_by s t None ts = Some (rest_node s t, ts)
  rest_by s t (Some e) ts = None

  unfoldable pub rest_end : Span → Tree F C K → Scope → List TokenAndSpan → Out (Tree F C K)
  rest_end s t c ts = eaten is_equals c ts >>= (λ p. rest_by s t p.0 p.1)

module _ {F C K : Type 0} (hook : Hook F C K) where
  -- a parameter, or a pattern after the dots at s
  abbrev pub param_read : Option Span → Scope → List TokenAndSpan → Out (Tree F C K)
  param_read None c ts = run hook (sym Element) c ts
  param_read (Some s) c ts = run hook (sym Pat) c ts >>= (λ p. rest_end s p.0 c p.1)

  -- after some parameters: those that are left, through the parenthesis that closes them
  abbrev pub params_by : Stage → Trees F C K → Scope → List TokenAndSpan → Out (Tree F C K)
  params_by going before c ts = run hook (sym Params) c ts >>= (λ p. Some (put_before before p.0, p.1))
  params_by closing before c ts = params_close before c ts
  params_by never before c ts = None

  unfoldable pub params_left : Stage → Trees F C K → Scope → List TokenAndSpan → Out (Tree F C K)
  params_left s before c ts = params_by s before c ts

  -- after a parameter, a rest or not, and after what is before one
  unfoldable pub behind_param : Bool → Stage → Trees F C K → Scope → List TokenAndSpan → Out (Tree F C K)
  behind_param is_rest s before c ts = separated_item is_rparen is_rest s c ts >>= (λ p. params_left p.0 before c p.1)

  abbrev pub params_with : NextParam → Stage → Trees F C K → Scope → List TokenAndSpan → Out (Tree F C K)
  params_with next.End st before c ts = params_close before c ts
  params_with (next.Item o) st before c ts =
      param_read o c ts >>= (λ p. behind_param (is_some o) st (trees_append before (cons p.0 nil)) c p.1)
