-- What a tree becomes that is to become a pattern, with `Invalid` where it is none: for every tree.
use Rattle.std.specs.Prelude.{Bool, true, false, ◌&&◌, ◌||◌, if◌then◌else◌}
use Rattle.swc_context.specs.{declared.operator.AssignOp.AssignOp, declared.operator.AssignOp.AssignOp as op, declared.span.Span.Span}
use Rattle.swc_ast.specs.Tree.{Kind, hole, item, spread, ident, str, boolean, null, num, big, regex, array, array_with, object, object_with, fun, class, assign, paren, member, super_prop, call, new, tpl, invalid, shorthand, key_value, cover, binding_prop, rest, default, pat_expr, Tree, node, Trees, nil, cons, span_of}
use Rattle.swc_ast.specs.{Parts.leaf, Parts.no_tree, Trees.is_ident}
use Rattle.swc_grammar.specs.Cover.{is_hole, is_pattern}

-- what a tree is to become: what it is; of an expression, a pattern that binds or that is assigned to; of a pattern
-- that was assigned to, one that binds; of an item or a property, one in which what it holds became that
pub data Role : Type 0 where
  Keep : Role
  Bind : Role
  Assign : Role
  Rebind : Role
  Inside : Role → Role

-- how a node becomes that
pub data Becomes : Type 0 where
  Same : Becomes
  Held : Becomes
  Ident : Becomes
  Array : Becomes
  Object : Becomes
  Objects : Becomes
  Default : Becomes
  Holder : Becomes
  Nothing : Becomes

abbrev pub by_op : AssignOp → Becomes
by_op op.Assign = Default
by_op o = Nothing

abbrev pub bound_as : {F C K : Type 0} → Kind F C K → Becomes
bound_as (ident w) = Ident
bound_as (array_with c) = Array
bound_as (object_with c) = Object
bound_as (assign o) = by_op o
bound_as k = Nothing

abbrev pub assigned_as : {F C K : Type 0} → Kind F C K → Becomes
assigned_as (ident w) = Ident
assigned_as (array_with c) = Array
assigned_as (object_with c) = Object
assigned_as (assign o) = by_op o
assigned_as member = Held
assigned_as super_prop = Held
assigned_as call = Held
assigned_as new = Held
assigned_as (fun f) = Held
assigned_as (class f) = Held
assigned_as paren = Held
assigned_as tpl = Held
assigned_as (str v r) = Held
assigned_as (boolean b) = Held
assigned_as null = Held
assigned_as (num r) = Held
assigned_as (big r) = Held
assigned_as (regex e f) = Held
assigned_as k = Nothing

abbrev pub rebound_as : {F C K : Type 0} → Kind F C K → Becomes
rebound_as (ident w) = Same
rebound_as hole = Same
rebound_as (array_with c) = Same
rebound_as (object_with c) = Objects
rebound_as rest = Same
rebound_as default = Same
rebound_as invalid = Same
rebound_as k = Nothing

abbrev pub inside_as : {F C K : Type 0} → Kind F C K → Becomes
inside_as item = Holder
inside_as spread = Holder
inside_as key_value = Holder
inside_as rest = Holder
inside_as k = Same

abbrev pub becomes_as : {F C K : Type 0} → Role → Kind F C K → Becomes
becomes_as (Inside r) k = inside_as k
becomes_as Keep k = Same
becomes_as Bind k = bound_as k
becomes_as Assign k = assigned_as k
becomes_as Rebind k = rebound_as k

abbrev pub all_holes : {F C K : Type 0} → Trees F C K → Bool
all_holes nil = true
all_holes (cons t ts) = is_hole t && all_holes ts

abbrev pub is_invalid : {F C K : Type 0} → Tree F C K → Bool
is_invalid (node invalid s ts) = true
is_invalid t = false

-- ---- at the node, whose parts became what they are to

-- a spread is a rest where it is the last, and else dropped; holes after all else are dropped
abbrev pub put_elem : {F C K : Type 0} → Tree F C K → Trees F C K → Trees F C K → Trees F C K
put_elem (node spread s (cons d (cons t us))) nil ps = cons (node rest (span_of t) (cons d (cons t nil))) nil
put_elem (node item s (cons t us)) more ps = cons t ps
put_elem (node hole s us) more ps = if all_holes more then nil else cons (node hole s us) ps
put_elem e more ps = ps

abbrev pub pat_elems : {F C K : Type 0} → Trees F C K → Trees F C K
pat_elems nil = nil
pat_elems (cons e es) = put_elem e es (pat_elems es)

-- what an object's rest may hold
abbrev pub rest_ok : {F C K : Type 0} → Role → Tree F C K → Bool
rest_ok Bind t = is_ident t
rest_ok Rebind t = is_ident t || is_invalid t
rest_ok r t = true

abbrev pub rest_of : {F C K : Type 0} → Role → Span → Tree F C K → Tree F C K → Tree F C K
rest_of r s d t = node rest s (cons d (cons (if rest_ok r t then t else leaf invalid s) nil))

abbrev pub put_prop : {F C K : Type 0} → Role → Tree F C K → Trees F C K → Trees F C K
put_prop r (node shorthand s (cons i us)) ps = cons (node binding_prop s (cons i (cons no_tree nil))) ps
put_prop r (node cover s (cons i (cons e us))) ps = cons (node binding_prop s (cons i (cons e nil))) ps
put_prop r (node key_value s us) ps = cons (node key_value s us) ps
put_prop r (node binding_prop s us) ps = cons (node binding_prop s us) ps
put_prop r (node spread s (cons d (cons t us))) ps = cons (rest_of r s d t) ps
put_prop r (node rest s (cons d (cons t us))) ps = cons (rest_of r s d t) ps
put_prop r e ps = ps

abbrev pub pat_props : {F C K : Type 0} → Role → Trees F C K → Trees F C K
pat_props r nil = nil
pat_props r (cons e es) = put_prop r e (pat_props r es)

abbrev pub shallow_as : {F C K : Type 0} → Becomes → Role → Tree F C K → Tree F C K
shallow_as Same r t = t
shallow_as Holder r t = t
shallow_as Held r t = node pat_expr (span_of t) (cons t nil)
shallow_as Ident r t = t
shallow_as Array r (node k s ts) = node array s (pat_elems ts)
shallow_as Object r (node k s ts) = node object s (pat_props r ts)
shallow_as Objects r (node k s ts) = node object s (pat_props r ts)
shallow_as Default r (node k s ts) = node default s ts
shallow_as Nothing r t = leaf invalid (span_of t)

-- ---- the whole tree

-- what an assignment's left becomes, which may be a pattern already
abbrev pub left_as : Role → Bool → Role
left_as Bind true = Rebind
left_as r true = Keep
left_as r false = r

-- What is held inside. What an object's rest holds that is to bind is looked at as it is.
abbrev pub held_as : {F C K : Type 0} → Kind F C K → Role → Role
held_as rest (Inside Rebind) = Keep
held_as k (Inside r) = r
held_as k r = Keep

abbrev pub last_as : {F C K : Type 0} → Role → Trees F C K → Role
last_as r nil = r
last_as r (cons t ts) = Keep

abbrev pub first_as : {F C K : Type 0} → Role → Trees F C K → Role
first_as r nil = Keep
first_as r (cons t ts) = r

-- what a part is to become, after which others are
abbrev pub again_as : {F C K : Type 0} → Kind F C K → Trees F C K → Role
again_as (array_with c) ts = Rebind
again_as default ts = first_as Rebind ts
again_as rest ts = last_as Rebind ts
again_as k ts = Keep

abbrev pub same_as : {F C K : Type 0} → Role → Kind F C K → Trees F C K → Role
same_as Rebind k ts = again_as k ts
same_as r k ts = Keep

abbrev pub part_as : {F C K : Type 0} → Becomes → Role → Kind F C K → Tree F C K → Trees F C K → Role
part_as Same r k t ts = same_as r k ts
part_as Array r k t ts = Inside r
part_as Object r k t ts = Inside r
part_as Objects r k t ts = Inside r
part_as Default r k t ts = first_as (left_as r (is_pattern t)) ts
part_as Holder r k t ts = last_as (held_as k r) ts
part_as b r k t ts = Keep

abbrev mutual
  pub want : {F C K : Type 0} → Role → Tree F C K → Tree F C K
  want r (node k s ts) = shallow_as (becomes_as r k) r (node k s (want_parts (becomes_as r k) r k ts))

  pub want_parts : {F C K : Type 0} → Becomes → Role → Kind F C K → Trees F C K → Trees F C K
  want_parts b r k nil = nil
  want_parts b r k (cons t ts) = cons (want (part_as b r k t ts) t) (want_parts b r k ts)
