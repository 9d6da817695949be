-- What is recorded where an expression becomes a pattern, in its order, and where that is refused.
use Rattle.std.specs.Prelude.{◌≡◌, Bool, true, false, not, if◌then◌else◌, List, [], ◌∷◌, ◌++◌, Option, Some, None}
use Rattle.swc_context.specs.{declared.operator.AssignOp.AssignOp as op, declared.span.Span.Span}
use Rattle.swc_ast.specs.Tree.{Kind, hole, item, spread, ident, str, boolean, null, num, big, regex, array_with, object_with, fun, class, assign, paren, member, super_prop, call, new, tpl, invalid, shorthand, key_value, cover, binding_prop, rest, default, Tree, node, Trees, nil, cons, span_of}
use Rattle.swc_ast.specs.{Targets.is_target, Trees.is_ident}
use Rattle.swc_grammar.specs.Cover.{is_assign, is_pattern}
use Rattle.swc_cover.specs.Fits as way
use Rattle.swc_cover.specs.declared.faults.OwnKind.TheVariants.{Held, Assignment, Other}
use Rattle.swc_cover.specs.{Fits.is_nil, declared.faults.Fault.Fault, declared.faults.FaultKind.FaultKind, declared.faults.FaultKind.FaultKind as fault, declared.faults.OwnKind.OwnKind}
use Rattle.swc_nodes.specs.Turning.{kind_of}

-- what is recorded, and the property at which it is refused: nothing is recorded after that
pub record Verdict : Type 0 where
  pub faults : List Fault
  pub refused : Option Span

abbrev pub clean : Verdict
clean = record { faults = []; refused = None }

abbrev pub recorded : List Fault → Verdict
recorded fs = record { faults = fs; refused = None }

abbrev pub one : FaultKind → Span → List Fault
one k s = record { kind = k; span = s } ∷ []

abbrev pub one_if : Bool → FaultKind → Span → List Fault
one_if b k s = if b then one k s else []

abbrev pub goes_on : List Fault → Option Span → Verdict → Verdict
goes_on fs None v = record { faults = fs ++ v.faults; refused = v.refused }
goes_on fs (Some s) v = record { faults = fs; refused = Some s }

-- one after another
abbrev pub also : Verdict → Verdict → Verdict
also u v = goes_on u.faults u.refused v

-- ---- a pattern that is left of a `=` already, as what binds

-- what an object's rest may hold: an identifier, or what was recorded before
abbrev pub may_rest : {F C K : Type 0} → Tree F C K → Bool
may_rest (node (ident w) s ts) = true
may_rest (node invalid s ts) = true
may_rest t = false

abbrev mutual
  pub again : {F C K : Type 0} → Tree F C K → List Fault
  again (node (ident w) s ts) = []
  again (node invalid s ts) = []
  again (node hole s ts) = []
  again (node (array_with None) s ts) = all_again ts
  again (node (object_with None) s ts) = props_again ts
  again (node default s (cons l (cons r nil))) = again l
  again (node rest s (cons d (cons p nil))) = again p
  again (node k s ts) = one fault.InvalidPat s

  pub all_again : {F C K : Type 0} → Trees F C K → List Fault
  all_again nil = []
  all_again (cons t ts) = again t ++ all_again ts

  pub prop_again : {F C K : Type 0} → Tree F C K → List Fault
  prop_again (node key_value s (cons k (cons v nil))) = again v
  prop_again (node binding_prop s ts) = []
  prop_again (node rest s (cons d (cons p nil))) = one_if (not (may_rest p)) fault.DotsWithoutIdentifier s
  prop_again (node k s ts) = one fault.InvalidPat s

  pub props_again : {F C K : Type 0} → Trees F C K → List Fault
  props_again nil = []
  props_again (cons t ts) = prop_again t ++ props_again ts

-- ---- an expression that becomes a pattern

abbrev pub dots_span : Span → Span → Span
dots_span d s = record { lo = d.lo; hi = s.hi }

abbrev pub comma_faults : Option Span → List Fault
comma_faults None = []
comma_faults (Some s) = one fault.CommaAfterRestElement s

-- of an array's spread, before what it holds is looked at: where it isn't the last, that isn't
abbrev pub spread_faults : {F C K : Type 0} → Bool → Option Span → Span → Tree F C K → List Fault
spread_faults true c d t = one_if (is_assign t) fault.TS1048 (dots_span d (span_of t)) ++ comma_faults c
spread_faults false c d t = one fault.NonLastRestParam (dots_span d (span_of t))

abbrev pub if_last : Bool → Verdict → Verdict
if_last true v = v
if_last false v = clean

-- of an object's spread, which holds its expression also where it isn't the last
abbrev pub rest_faults : Bool → Option Span → Span → List Fault
rest_faults true c s = comma_faults c
rest_faults false c s = one fault.NonLastRestParam s

abbrev pub plain_assignment : {F C K : Type 0} → Tree F C K → Bool
plain_assignment (node (assign op.Assign) s ts) = true
plain_assignment t = false

-- what an object's rest holds, by what was found of it as a pattern
abbrev pub held_verdict : {F C K : Type 0} → way.Way → Span → Tree F C K → Verdict → Verdict
held_verdict way.Binding s t v = recorded (one_if (not (is_ident t)) fault.DotsWithoutIdentifier s)
held_verdict (way.Target strict) s t v = also v (recorded (one_if (plain_assignment t) fault.TS1048 s))

-- what is recorded of an expression that is assigned to: that it cannot be, or one fault, or two
abbrev pub own_kind : {F C K : Type 0} → Kind F C K → OwnKind
own_kind (ident w) = Held
own_kind member = Held
own_kind super_prop = Held
own_kind call = Held
own_kind new = Held
own_kind (fun f) = Held
own_kind (class f) = Held
own_kind paren = Held
own_kind tpl = Held
own_kind (str v r) = Held
own_kind (boolean b) = Held
own_kind null = Held
own_kind (num r) = Held
own_kind (big r) = Held
own_kind (regex e f) = Held
own_kind (assign o) = Assignment
own_kind k = Other

abbrev pub kind_faults : {F C K : Type 0} → Bool → OwnKind → Tree F C K → List Fault
kind_faults strict Held t = one_if (not (is_target strict t)) fault.NotSimpleAssign (span_of t)
kind_faults strict Assignment t = one fault.InvalidPat (span_of t)
kind_faults strict Other t = one fault.InvalidPat (span_of t) ++ one fault.InvalidPat (span_of t)

abbrev pub own_faults : {F C K : Type 0} → way.Way → Tree F C K → List Fault
own_faults way.Binding t = one_if (not (is_ident t)) fault.InvalidPat (span_of t)
own_faults (way.Target strict) t = kind_faults strict (own_kind (kind_of t)) t

abbrev pub left_faults : {F C K : Type 0} → way.Way → Tree F C K → List Fault
left_faults way.Binding p = again p
left_faults (way.Target strict) p = []

abbrev mutual
  pub verdict : {F C K : Type 0} → way.Way → Tree F C K → Verdict
  verdict w (node invalid s ts) = clean
  verdict w (node (array_with c) s ts) = elems_verdict w c ts
  verdict w (node (object_with c) s ts) = props_verdict w c ts
  verdict w (node (assign op.Assign) s (cons l (cons r nil))) = if is_pattern l then recorded (left_faults w l) else
      verdict w l
  verdict w t = recorded (own_faults w t)

  pub elem_verdict : {F C K : Type 0} → way.Way → Bool → Option Span → Tree F C K → Verdict
  elem_verdict w ends c (node item s (cons t nil)) = verdict w t
  elem_verdict w ends c (node spread s (cons (node k d us) (cons t nil))) = goes_on (spread_faults ends c d t) None
      (if_last ends (verdict w t))
  elem_verdict w ends c (node hole s nil) = clean
  elem_verdict w ends c (node k s ts) = record { faults = []; refused = Some s }

  pub elems_verdict : {F C K : Type 0} → way.Way → Option Span → Trees F C K → Verdict
  elems_verdict w c nil = clean
  elems_verdict w c (cons e es) = also (elem_verdict w (is_nil es) c e) (elems_verdict w c es)

  pub prop_verdict : {F C K : Type 0} → way.Way → Bool → Option Span → Tree F C K → Verdict
  prop_verdict w ends c (node shorthand s (cons i nil)) = clean
  prop_verdict w ends c (node cover s (cons i (cons e nil))) = clean
  prop_verdict w ends c (node key_value s (cons k (cons v nil))) = verdict w v
  prop_verdict w ends c (node spread s (cons d (cons t nil))) = goes_on (rest_faults ends c s) None
      (held_verdict w s t (verdict w t))
  prop_verdict w ends c (node k s ts) = record { faults = []; refused = Some s }

  pub props_verdict : {F C K : Type 0} → way.Way → Option Span → Trees F C K → Verdict
  props_verdict w c nil = clean
  props_verdict w c (cons p ps) = also (prop_verdict w (is_nil ps) c p) (props_verdict w c ps)

-- ---- items in parentheses that become parameters

abbrev pub param_faults : {F C K : Type 0} → Bool → Option Span → Span → Tree F C K → List Fault
param_faults true c d t = spread_faults true c d t
param_faults false c d t = one fault.TS1014 (dots_span d (span_of t))

abbrev pub param_verdict : {F C K : Type 0} → Bool → Option Span → Tree F C K → Verdict
param_verdict ends c (node item s (cons t nil)) = verdict way.Binding t
param_verdict ends c (node spread s (cons (node k d us) (cons t nil))) = goes_on (param_faults ends c d t) None
    (if_last ends (verdict way.Binding t))
param_verdict ends c (node hole s nil) = clean
param_verdict ends c (node k s ts) = record { faults = []; refused = Some s }

abbrev pub params_verdict : {F C K : Type 0} → Option Span → Trees F C K → Verdict
params_verdict c nil = clean
params_verdict c (cons e es) = also (param_verdict (is_nil es) c e) (params_verdict c es)

-- ---- what was recorded

pub record Recorded (was : List Fault) (v : Verdict) (now : List Fault) (r : Option Span) : Type 0 where
  pub faults : now ≡ was ++ v.faults
  pub refused : r ≡ v.refused
