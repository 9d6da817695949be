-- What the loops of the code read: the rest of a list, where these of its parts were read before. So a turn of a loop is
-- an equation, as a step of frames is.
use Rattle.std.specs.Prelude.{Bool, true, false, List, [], ◌∷◌, Option, Some, None}
use Rattle.swc_context.specs.declared.span.Span.{Span}
use Rattle.swc_input.specs.declared.token.TokenAndSpan.{TokenAndSpan}
use Rattle.swc_ast.specs.Trees.{to}
use Rattle.swc_bodies.specs.Readings.{Hook}
use Rattle.swc_grammar.specs.{Scope.Scope, Clean.Out, Clean.and_then}
use Rattle.swc_grammar.specs.Rule.{gives, ◌>>=◌, ◌>>◌, symbol, ahead, must, body as other}
use Rattle.program_grammar.specs.Tree.{Code, code, part, Codes, nothing, more, none_s, list_s, place_of, codes_of, ended, ended_by, of_one, VariableKind, variables, expression, break, continue, return, throw, debugger, fun, class as class_form}
use Rattle.program_grammar.specs.Tokens.{goes_on}
use Rattle.program_grammar.specs.Symbols.{Symbol, End, Label, Returned, Declarators, DeclaratorsTail, expr, function, class}
use Rattle.program_grammar.specs.Frames.{Sides, joined}
use Rattle.program_grammar.specs.Clean.{run}

module _ {F C K : Type 0} where
  -- a list whose parts are all that it has: from the first to the last
  abbrev pub listed : Codes F C K → Code F C K
  listed nothing = none_s
  listed (more t ts) = list_s (ended_by (place_of t) ts) (more t ts)

  -- a declaration that began at s, of these declarators, and its end
  abbrev pub variables_s : VariableKind → Span → Code F C K → Code F C K → Code F C K
  variables_s k s ds z = code (variables k) (ended (to s (place_of ds)) z) (codes_of ds)

  -- ---- what is after the words of simple statements, which began at s
  abbrev pub break_side : Scope → Span → Sides F C K (Code F C K)
  break_side c s = do
    l ← symbol Label c
    z ← symbol End c
    gives (of_one break (ended (ended s l) z) l)

  abbrev pub continue_side : Scope → Span → Sides F C K (Code F C K)
  continue_side c s = do
    l ← symbol Label c
    z ← symbol End c
    gives (of_one continue (ended (ended s l) z) l)

  abbrev pub return_side : Scope → Span → Sides F C K (Code F C K)
  return_side c s = do
    must c.context.in_function
    e ← symbol Returned c
    z ← symbol End c
    gives (of_one return (ended (ended s e) z) e)

  abbrev pub throw_side : Scope → Span → Sides F C K (Code F C K)
  throw_side c s = do
    ahead (λ t. t.had_line_break)
    (e, s') ← other expr c
    ahead (goes_on c e)
    z ← symbol End c
    gives (of_one throw (ended (to s s') z) (part e))

  abbrev pub debugger_side : Scope → Span → Sides F C K (Code F C K)
  debugger_side c s = do
    z ← symbol End c
    gives (code debugger (ended s z) nothing)

  -- an expression and the end of its statement
  abbrev pub expression_side : Scope → Sides F C K (Code F C K)
  expression_side c = do
    (e, s) ← other expr c
    ahead (goes_on c e)
    z ← symbol End c
    gives (of_one expression (ended s z) (part e))

  -- a function and a class, which the hook reads
  abbrev pub function_side : Scope → Sides F C K (Code F C K)
  function_side c = do
    (f, s) ← other (function true) c
    gives (code (fun f) s nothing)

  abbrev pub class_side : Scope → Sides F C K (Code F C K)
  class_side c = do
    (v, s) ← other (class true) c
    gives (code (class_form v) s nothing)

module _ {F C K : Type 0} (hook : Hook F C K) where
  -- declarators, before the next one; and where one was read last, before a comma or none
  abbrev pub declarators_from : VariableKind → Codes F C K → Scope → List TokenAndSpan → Out (Code F C K)
  declarators_from k before c ts =
      and_then (run hook (Declarators k) c ts) (λ ds us. Some (listed (joined before (codes_of ds)), us))

  abbrev pub declarators_after : VariableKind → Codes F C K → Scope → List TokenAndSpan → Out (Code F C K)
  declarators_after k before c ts =
      and_then (run hook (DeclaratorsTail k) c ts) (λ ds us. Some (listed (joined before (codes_of ds)), us))

  -- a list that a brace closes, as the symbol reads the rest of it: names that are imported or exported, attributes,
  -- members of a class
  abbrev pub closed_from : Symbol → Codes F C K → Scope → List TokenAndSpan → Out (Code F C K)
  closed_from s before c ts =
      and_then (run hook s c ts) (λ ns us. Some (list_s (place_of ns) (joined before (codes_of ns)), us))
