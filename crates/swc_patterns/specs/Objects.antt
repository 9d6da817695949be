-- What the steps of the code read in object patterns (14.3.3), by the clean parser.
use Rattle.std.specs.Prelude.{Bool, true, false, if◌then◌else◌, List, Option, Some, None}
use Rattle.swc_context.specs.{Reserved.is_reserved_word, Spans.from_to, declared.span.BytePos.BytePos, declared.span.Span.Span}
use Rattle.swc_input.specs.declared.token.TokenAndSpan.{TokenAndSpan}
use Rattle.swc_ast.specs.Patterns.{object_p, name_p, holds_ident}
use Rattle.swc_ast.specs.Tree.{Tree, node, Trees, nil, cons, rest, span_of}
use Rattle.swc_ast.specs.Trees.{to, ident_e, hole_e, key_value_e, listed, items_of, comma_of, trees_append}
use Rattle.swc_ast.specs.{declared.ident.BindingIdent.BindingIdent, declared.ident.IdentName.IdentName, declared.prop.PropName.PropName, declared.prop.PropName.PropName as name}
use Rattle.swc_bodies.specs.Readings.{Hook}
use Rattle.swc_grammar.specs.Symbols.{Pat, Element, PatProps, PatProp}
use Rattle.swc_grammar.specs.Tokens.{is_rbrace, is_dots, is_colon, is_equals}
use Rattle.swc_grammar.specs.Clean.{Out, sym, run}
use Rattle.swc_grammar.specs.{Names.Spelling, Scope.Scope, Words.◌>>=◌}
use Rattle.swc_nodes.specs.declared.node.ExprId.{ExprId}
use Rattle.swc_steps.specs.Lists.{eaten, separated, put_before}
use Rattle.swc_steps.specs.{Keys.expected, Readers.inside, Parsing.name_spelling, Parsing.binding_spelling}
use Rattle.swc_patterns.specs.Rests.{Stage, going, closing, never, is_never, behind_rest, rest_node}
use Rattle.swc_patterns.specs.{declared.object.AfterPatKey.AfterPatKey, declared.object.AfterPatKey.AfterPatKey as after, declared.object.RestProp.RestProp}

-- ---- after a key

-- a name as an identifier that is bound
abbrev pub bound : IdentName → BindingIdent
bound n = record { id = record { span = n.span; sym = n.sym } }

-- after a name: `=`, or nothing, where the name isn't reserved
abbrev pub name_by : IdentName → Option Span → Scope → List TokenAndSpan → Out AfterPatKey
name_by n (Some s) c ts = Some (after.Default (bound n), ts)
name_by n None c ts =
    if is_reserved_word c.context (name_spelling n).text then None else Some (after.Name (bound n), ts)

unfoldable pub after_name : IdentName → Scope → List TokenAndSpan → Out AfterPatKey
after_name n c ts = eaten is_equals c ts >>= (λ p. name_by n p.0 c p.1)

abbrev pub no_colon : PropName ExprId → Scope → List TokenAndSpan → Out AfterPatKey
no_colon (name.Ident n) c ts = after_name n c ts
no_colon k c ts = None

abbrev pub after_by : PropName ExprId → Option Span → Scope → List TokenAndSpan → Out AfterPatKey
after_by k (Some s) c ts = Some (after.Value k, ts)
after_by k None c ts = no_colon k c ts

unfoldable pub after_pat_key : PropName ExprId → Scope → List TokenAndSpan → Out AfterPatKey
after_pat_key k c ts = eaten is_colon c ts >>= (λ p. after_by k p.0 c p.1)

abbrev pub is_value : AfterPatKey → Bool
is_value (after.Value k) = true
is_value a = false

-- the key that is handed on, or the one that there was where none is
abbrev pub key_or : PropName ExprId → AfterPatKey → PropName ExprId
key_or k (after.Value n) = n
key_or k a = k

module _ {F C K : Type 0} where
  -- the property of a name, with an initialiser
  abbrev pub default_node : Spelling → Tree F C K → Tree F C K
  default_node n e = name_p (to n.at (span_of e)) (ident_e n.at n.text) e

  -- one of a name alone
  abbrev pub name_node : Spelling → Tree F C K
  name_node n = name_p n.at (ident_e n.at n.text) hole_e

module _ {F C K : Type 0} (hook : Hook F C K) where
  -- what is left of a property after its key, whose tree is k
  abbrev pub pat_prop_left : Tree F C K → AfterPatKey → Scope → List TokenAndSpan → Out (Tree F C K)
  pat_prop_left k (after.Value n) c ts =
      run hook (sym Element) c ts >>= (λ p. Some (key_value_e (to (span_of k) (span_of p.0)) k p.0, p.1))
  pat_prop_left k (after.Default n) c ts = inside hook c ts >>= (λ p. Some (default_node (binding_spelling n) p.0, p.1))
  pat_prop_left k (after.Name n) c ts = Some (name_node (binding_spelling n), ts)

  -- ---- a property, or a rest

  abbrev pub pat_prop_by : Option Span → Scope → List TokenAndSpan → Out (Tree F C K)
  pat_prop_by None c ts = run hook (sym PatProp) c ts
  pat_prop_by (Some s) c ts = run hook (sym Pat) c ts >>= (λ p. Some (rest_node s p.0, p.1))

  unfoldable pub pat_prop_item : Scope → List TokenAndSpan → Out (Tree F C K)
  pat_prop_item c ts = eaten is_dots c ts >>= (λ p. pat_prop_by p.0 c p.1)

-- ---- where rests may be among properties: last, over a name, with no comma after them

-- what is left where nothing is but the check
abbrev pub rests_checked : Stage → Scope → List TokenAndSpan → Out (Unit {0})
rests_checked s c ts = if is_never s then None else Some (tt, ts)

-- by the last of the properties, if it is a rest, and the comma after it
abbrev pub last_stage : Option RestProp → Option Span → Stage
last_stage None comma = going
last_stage (Some r) comma = if r.is_name then behind_rest comma else never

module _ {F C K : Type 0} where
  abbrev pub is_rest : Tree F C K → Bool
  is_rest (node rest s ts) = true
  is_rest t = false

  abbrev pub props_stage : Trees F C K → Option Span → Stage
  props_stage nil comma = going
  props_stage (cons t nil) comma =
      if is_rest t then (if holds_ident t then behind_rest comma else never) else going
  props_stage (cons t (cons u us)) comma = if is_rest t then never else props_stage (cons u us) comma

  -- after all properties and the brace that closes them: the check of the rests, and the list
  abbrev pub props_done : Tree F C K → Scope → List TokenAndSpan → Out (Tree F C K)
  props_done l c ts =
      if is_never (props_stage (items_of l) (comma_of l)) then None else Some (listed None (span_of l) (items_of l), ts)

  -- the object pattern of properties, which begins at lo
  abbrev pub object_pat_of : BytePos → Tree F C K → Tree F C K
  object_pat_of lo l = object_p (from_to lo (span_of l).hi) (items_of l)

  abbrev pub object_pat_from : BytePos → Tree F C K → Scope → List TokenAndSpan → Out (Tree F C K)
  object_pat_from lo l c ts = props_done l c ts >>= (λ p. Some (object_pat_of lo p.0, p.1))

module _ {F C K : Type 0} (hook : Hook F C K) where
  -- after some properties, and the comma after the last of them: those that are left, to where the list is closed
  abbrev pub props_by : Stage → Trees F C K → Scope → List TokenAndSpan → Out (Tree F C K)
  props_by going before c ts = run hook (sym PatProps) c ts >>= (λ p. Some (put_before before p.0, p.1))
  props_by closing before c ts = expected is_rbrace c ts >>= (λ p. Some (listed None p.0 before, p.1))
  props_by never before c ts = None

  unfoldable pub pat_props_left : Trees F C K → Option Span → Scope → List TokenAndSpan → Out (Tree F C K)
  pat_props_left before comma c ts = props_by (props_stage before comma) before c ts

  -- one property or rest, and the comma after it, or before the brace that closes the list
  unfoldable pub pat_prop_more : Trees F C K → Scope → List TokenAndSpan → Out (Tree F C K)
  pat_prop_more before c ts =
      pat_prop_item hook c ts
      >>= (λ p. separated is_rbrace c p.1 >>= (λ q. pat_props_left (trees_append before (cons p.0 nil)) q.0 c q.1))

  abbrev pub pat_props_with : Trees F C K → Option Span → Option Span → Scope → List TokenAndSpan → Out (Tree F C K)
  pat_props_with before comma (Some s) c ts = props_done (listed comma s before) c ts
  pat_props_with before comma None c ts = pat_prop_more before c ts
