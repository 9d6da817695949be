-- Which faults the rests among properties are (14.3.3), in which order.
use Rattle.std.specs.Prelude.{List, [], ◌∷◌, ◌++◌, if◌then◌else◌, Option, Some, None}
use Rattle.swc_context.specs.declared.error.SyntaxError.TheVariants.{CommaAfterRestElement, DotsWithoutIdentifier, NonLastRestParam}
use Rattle.swc_context.specs.{Spans.in_order, declared.error.Error.Error, declared.span.Span.Span}
use Rattle.swc_ast.specs.Patterns.{holds_ident}
use Rattle.swc_ast.specs.Tree.{Tree, node, Trees, nil, cons, rest}
use Rattle.swc_patterns.specs.declared.object.RestProp.{RestProp}

-- of a rest that another property follows
abbrev pub earlier_faults : Option RestProp → List Error
earlier_faults None = []
earlier_faults (Some r) = record { span = in_order r.span; kind = NonLastRestParam } ∷ []

-- of the comma after a rest
abbrev pub comma_faults : Option Span → List Error
comma_faults None = []
comma_faults (Some s) = record { span = s; kind = CommaAfterRestElement } ∷ []

-- of the last property, if it is a rest over a name; one over no name is refused
abbrev pub last_faults : Option RestProp → Option Span → List Error
last_faults None comma = []
last_faults (Some r) comma = if r.is_name then comma_faults comma else []

abbrev pub last_refused : Option RestProp → Option Error
last_refused None = None
last_refused (Some r) =
    if r.is_name then None else Some (record { span = in_order r.span; kind = DotsWithoutIdentifier })

module _ {F C K : Type 0} where
  -- the rest that a property is
  abbrev pub rest_at : Tree F C K → Option RestProp
  rest_at (node rest s ts) = Some (record { span = s; is_name = holds_ident (node rest s ts) })
  rest_at t = None

  abbrev pub last_rest : Trees F C K → Option RestProp
  last_rest nil = None
  last_rest (cons t nil) = rest_at t
  last_rest (cons t (cons u us)) = last_rest (cons u us)

  -- of those before the last property
  abbrev pub faults_before : Trees F C K → List Error
  faults_before nil = []
  faults_before (cons t nil) = []
  faults_before (cons t (cons u us)) = earlier_faults (rest_at t) ++ faults_before (cons u us)

  -- of all properties, with the comma after them, or none; and what is refused then
  abbrev pub rests_faults : Trees F C K → Option Span → List Error
  rests_faults ts comma = faults_before ts ++ last_faults (last_rest ts) comma

  abbrev pub rests_refused : Trees F C K → Option Error
  rests_refused ts = last_refused (last_rest ts)
