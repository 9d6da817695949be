-- What the steps of the code read in patterns and array patterns (14.3.3), by the clean parser.
use Rattle.std.specs.Option.{is_some}
use Rattle.std.specs.Prelude.{Bool, true, false, if◌then◌else◌, List, [], ◌∷◌, ◌++◌, ◌-◌, Option, Some, None, length, slice_get}
use Rattle.swc_context.specs.{Spans.from_to, declared.span.BytePos.BytePos, declared.span.Span.Span}
use Rattle.swc_input.specs.{declared.token.TokenAndSpan.TokenAndSpan, Kinds.at_token}
use Rattle.swc_ast.specs.Patterns.{array_p, default_p, put_element}
use Rattle.swc_ast.specs.Tree.{Tree, Trees, nil, cons, span_of}
use Rattle.swc_ast.specs.Trees.{to, ident_e, hole_e, listed, items_of}
use Rattle.swc_bodies.specs.Readings.{Hook, is_brace}
use Rattle.swc_grammar.specs.Symbols.{Pat, Element, PatElements}
use Rattle.swc_grammar.specs.Tokens.{is_lbracket, is_rbracket, is_comma, is_dots}
use Rattle.swc_grammar.specs.Clean.{Out, first, sym, run}
use Rattle.swc_grammar.specs.{Scope.Scope, Names.may_bind, Words.◌>>=◌, Words.word}
use Rattle.swc_steps.specs.{Keys.expected, Lists.eaten, Readers.inside}
use Rattle.swc_patterns.specs.Rests.{Stage, going, closing, never, behind_item, separated_item, rest_node}
use Rattle.swc_patterns.specs.{declared.pat.NextElement.NextElement, declared.pat.NextElement.NextElement as next, declared.pat.PatKind.PatKind, declared.pat.PatKind.PatKind as kind}

-- what a pattern begins with
abbrev pub pat_kind : Option TokenAndSpan → PatKind
pat_kind t =
    if at_token is_lbracket t then kind.Array else (if at_token is_brace t then kind.Object else kind.Plain)

-- elements before others, with holes among them, of which those at the end leave nothing
abbrev pub put_elements : {F C K : Type 0} → List (Option (Tree F C K)) → Trees F C K → Trees F C K
put_elements [] us = us
put_elements (None ∷ xs) us = put_element true hole_e (put_elements xs us)
put_elements (Some t ∷ xs) us = cons t (put_elements xs us)

-- the same list without the holes at its end
abbrev pub put_elem : {X : Type 0} → Option X → List (Option X) → List (Option X)
put_elem None [] = []
put_elem x xs = x ∷ xs

abbrev pub without_holes : {X : Type 0} → List (Option X) → List (Option X)
without_holes [] = []
without_holes (x ∷ xs) = put_elem x (without_holes xs)

abbrev pub is_hole : {X : Type 0} → Option (Option X) → Bool
is_hole (Some None) = true
is_hole x = false

abbrev pub ends_in_hole : {X : Type 0} → List (Option X) → Bool
ends_in_hole xs = is_hole (slice_get xs (length xs - 1))

-- the array pattern of elements, whose bracket is at s
abbrev pub array_from : {F C K : Type 0} → Span → Tree F C K → Tree F C K
array_from s l = array_p (to s (span_of l)) (items_of l)

-- a pattern with its initialiser, which ends at hi
abbrev pub default_to : {F C K : Type 0} → Tree F C K → BytePos → Tree F C K → Tree F C K
default_to l hi e = default_p (from_to (span_of l).lo hi) l e

-- ---- what is before an element: the bracket that closes the list, a comma alone, or the dots of a rest

abbrev pub is_item : NextElement → Bool
is_item (next.Item o) = true
is_item n = false

abbrev pub ended : Stage → Scope → List TokenAndSpan → Out NextElement
ended never c ts = None
ended s c ts = expected is_rbracket c ts >>= (λ p. Some (next.End p.0, p.1))

abbrev pub head_by : Option Span → Scope → List TokenAndSpan → Out NextElement
head_by (Some s) c ts = Some (next.Hole, ts)
head_by None c ts = eaten is_dots c ts >>= (λ p. Some (next.Item p.0, p.1))

abbrev pub element_head : Stage → Scope → List TokenAndSpan → Out NextElement
element_head going c (t ∷ ts) = eaten is_comma c (t ∷ ts) >>= (λ p. head_by p.0 c p.1)
element_head s c ts = None

unfoldable pub next_element : Stage → Scope → List TokenAndSpan → Out NextElement
next_element s c ts = if at_token is_rbracket (first ts) then ended s c ts else element_head s c ts

module _ {F C K : Type 0} where
  -- a name that is bound
  unfoldable pub plain_pat : Scope → List TokenAndSpan → Out (Tree F C K)
  plain_pat c ts = word may_bind c ts >>= (λ p. Some (ident_e p.0.at p.0.text, p.1))

module _ {F C K : Type 0} (hook : Hook F C K) where
  -- after the bracket of an array pattern at s
  unfoldable pub array_pat_tail : Span → Scope → List TokenAndSpan → Out (Tree F C K)
  array_pat_tail s c ts = run hook (sym PatElements) c ts >>= (λ p. Some (array_from s p.0, p.1))

  -- after a pattern, and after the `=` there
  unfoldable pub default_value : Tree F C K → Scope → List TokenAndSpan → Out (Tree F C K)
  default_value l c ts = inside hook c ts >>= (λ p. Some (default_p (to (span_of l) (span_of p.0)) l p.0, p.1))

  abbrev pub default_by : Tree F C K → Option Span → Scope → List TokenAndSpan → Out (Tree F C K)
  default_by l None c ts = Some (l, ts)
  default_by l (Some s) c ts = default_value l c ts

  -- an element, or a pattern after the dots at s
  abbrev pub item_read : Option Span → Scope → List TokenAndSpan → Out (Tree F C K)
  item_read None c ts = run hook (sym Element) c ts
  item_read (Some s) c ts = run hook (sym Pat) c ts >>= (λ p. Some (rest_node s p.0, p.1))

  -- after some elements: those that are left, to where the list is closed
  abbrev pub elements_by : Stage → List (Option (Tree F C K)) → Scope → List TokenAndSpan → Out (Tree F C K)
  elements_by going before c ts =
      run hook (sym PatElements) c ts
      >>= (λ p. Some (listed None (span_of p.0) (put_elements before (items_of p.0)), p.1))
  elements_by closing before c ts =
      expected is_rbracket c ts >>= (λ p. Some (listed None p.0 (put_elements before nil), p.1))
  elements_by never before c ts = None

  unfoldable pub elements_left : Stage → List (Option (Tree F C K)) → Scope → List TokenAndSpan → Out (Tree F C K)
  elements_left s before c ts = elements_by s before c ts

  -- after an element, a rest or not, and after what is before one
  unfoldable pub behind_element : Bool → Stage → List (Option (Tree F C K)) → Scope → List TokenAndSpan
      → Out (Tree F C K)
  behind_element is_rest s before c ts =
      separated_item is_rbracket is_rest s c ts >>= (λ p. elements_left p.0 before c p.1)

  abbrev pub elements_with : NextElement → Stage → List (Option (Tree F C K)) → Scope → List TokenAndSpan
      → Out (Tree F C K)
  elements_with (next.End s) st before c ts = Some (listed None s (put_elements before nil), ts)
  elements_with next.Hole st before c ts = elements_left (behind_item st) (before ++ None ∷ []) c ts
  elements_with (next.Item o) st before c ts =
      item_read o c ts >>= (λ p. behind_element (is_some o) st (before ++ Some p.0 ∷ []) c p.1)
