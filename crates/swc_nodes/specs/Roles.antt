-- What becomes of a node that is to become a pattern, at the node alone: what it is then, by what is there, and what
-- its parts are to become. What the whole tree is to become is given to what is said here.
use Rattle.std.specs.Prelude.{Bool, true, false, ◌&&◌, List, [], ◌∷◌, ◌++◌, Option, Some, None, map}
use Rattle.swc_context.specs.declared.operator.AssignOp.{AssignOp}
use Rattle.swc_context.specs.declared.operator.AssignOp.TheVariants as op
use Rattle.swc_context.specs.declared.span.Span.{Span}
use Rattle.swc_ast.specs.declared.expr.ExprOrSpread.{ExprOrSpread}
use Rattle.swc_nodes.specs.NodeParts.{Part, View, Form, expr, pat, simple, pattern, view_ok}
use Rattle.swc_nodes.specs.NodeParts.{flat, if_some, key_parts, one_expr, expr_part, pat_part, slots}
use Rattle.swc_nodes.specs.Walking.{part_of}
use Rattle.swc_nodes.specs.declared.node.ExprId.{ExprId}
use Rattle.swc_nodes.specs.declared.node.Node.{Node}
use Rattle.swc_nodes.specs.declared.node.Node.TheVariants as n
use Rattle.swc_nodes.specs.declared.node.PatElem.{PatElem}
use Rattle.swc_nodes.specs.declared.node.PatElem.TheVariants as elem
use Rattle.swc_nodes.specs.declared.node.PatPart.{PatPart}
use Rattle.swc_nodes.specs.declared.node.PatPart.TheVariants as of_pat
use Rattle.swc_nodes.specs.declared.node.PatPropNode.{PatPropNode}
use Rattle.swc_nodes.specs.declared.node.PatPropNode.TheVariants as pat_prop
use Rattle.swc_nodes.specs.declared.node.PropNode.{PropNode}
use Rattle.swc_nodes.specs.declared.node.PropNode.TheVariants as prop
use Rattle.swc_nodes.specs.declared.role.Becomes.{Becomes}
use Rattle.swc_nodes.specs.declared.role.Becomes.TheVariants as to
use Rattle.swc_nodes.specs.declared.role.Duty.{Duty}
use Rattle.swc_nodes.specs.declared.role.Role.{Role}
use Rattle.swc_nodes.specs.declared.role.Role.TheVariants as role
use Rattle.swc_nodes.specs.declared.node.TargetNode.{TargetNode}
use Rattle.swc_nodes.specs.declared.node.TargetNode.TheVariants as target

-- ---- how what is at a node becomes that

abbrev pub by_op : AssignOp → Becomes
by_op op.Assign = to.Default
by_op o = to.Nothing

abbrev pub bound_as : {F C K : Type 0} → Node F C K → Becomes
bound_as (n.Ident i) = to.Ident
bound_as (n.Array s elems comma) = to.Array
bound_as (n.Object s props comma) = to.Object
bound_as (n.Assign s o l r) = by_op o
bound_as x = to.Nothing

abbrev pub assigned_as : {F C K : Type 0} → Node F C K → Becomes
assigned_as (n.Ident i) = to.Ident
assigned_as (n.Array s elems comma) = to.Array
assigned_as (n.Object s props comma) = to.Object
assigned_as (n.Assign s o l r) = by_op o
assigned_as (n.Member m) = to.Held
assigned_as (n.SuperProp p) = to.Held
assigned_as (n.Call s c xs) = to.Held
assigned_as (n.New s c xs) = to.Held
assigned_as (n.Fn f) = to.Held
assigned_as (n.Class c) = to.Held
assigned_as (n.Paren p) = to.Held
assigned_as (n.Tpl t) = to.Held
assigned_as (n.Str s) = to.Held
assigned_as (n.Bool b) = to.Held
assigned_as (n.Null l) = to.Held
assigned_as (n.Num l) = to.Held
assigned_as (n.BigInt l) = to.Held
assigned_as (n.Regex r) = to.Held
assigned_as x = to.Nothing

abbrev pub rebound_as : {F C K : Type 0} → Node F C K → Becomes
rebound_as (n.PatIdent b) = to.Same
rebound_as (n.PatInvalid i) = to.Same
rebound_as (n.PatArray s elems) = to.Again
rebound_as (n.PatObject s props) = to.Again
rebound_as (n.PatRest s d p) = to.Again
rebound_as (n.PatAssign s l r) = to.Again
rebound_as x = to.Nothing

abbrev pub rest_as : {F C K : Type 0} → Span → Node F C K → Becomes
rest_as s (n.Ident i) = to.Ident
rest_as s x = to.Instead s

abbrev pub again_as : {F C K : Type 0} → Span → Node F C K → Becomes
again_as s (n.PatIdent b) = to.Same
again_as s (n.PatInvalid i) = to.Same
again_as s x = to.Instead s

abbrev pub becomes_as : {F C K : Type 0} → Role → Node F C K → Becomes
becomes_as role.Keep x = to.Same
becomes_as role.Bind x = bound_as x
becomes_as role.Assign x = assigned_as x
becomes_as role.Rebind x = rebound_as x
becomes_as (role.BindRest s) x = rest_as s x
becomes_as (role.RebindRest s) x = again_as s x
becomes_as role.Nothing x = to.Nothing
becomes_as (role.NothingAt s) x = to.Instead s

-- ---- what a part is to become

pub record Due : Type 0 where
  pub part : Part
  pub role : Role

abbrev pub part_of_due : Due → Part
part_of_due q = q.part

abbrev pub due : Duty → Due
due d = record { part = part_of d.part; role = d.role }

abbrev pub keep : Part → Due
keep p = record { part = p; role = role.Keep }

abbrev pub expr_due : Role → ExprId → Due
expr_due r e = record { part = expr_part e; role = r }

abbrev pub rest_role : Role → Span → Role
rest_role role.Bind s = role.BindRest s
rest_role role.Rebind s = role.RebindRest s
rest_role r s = r

-- of an element, which is the last or not: a spread that isn't is dropped
abbrev pub item_dues : Role → Bool → Option Span → ExprId → List Due
item_dues r last None e = expr_due r e ∷ []
item_dues r true (Some d) e = expr_due r e ∷ []
item_dues r false (Some d) e = []

abbrev pub is_empty : {X : Type 0} → List X → Bool
is_empty [] = true
is_empty (x ∷ xs) = false

abbrev pub elem_dues : Role → List (Option (ExprOrSpread ExprId)) → List Due
elem_dues r [] = []
elem_dues r (None ∷ es) = elem_dues r es
elem_dues r (Some x ∷ es) = item_dues r (is_empty es) x.spread x.expr ++ elem_dues r es

abbrev pub prop_dues : {K : Type 0} → Role → PropNode K → List Due
prop_dues r (prop.Spread s) = expr_due (rest_role r s.span) s.expr ∷ []
prop_dues r (prop.KeyValue s k v) = map keep (key_parts k) ++ expr_due r v ∷ []
prop_dues r (prop.Assign p) = map keep (one_expr p.value)
prop_dues r p = []

-- a pattern that was refined, as the left of a `=`, isn't entered again, unless it is to bind
abbrev pub left_role : Role → Role
left_role role.Bind = role.Rebind
left_role r = role.Keep

abbrev pub left_due : Role → TargetNode → Due
left_due r (target.Simple e) = expr_due r e
left_due r (target.Pat p) = record { part = pat_part p; role = left_role r }

-- an expression that is assigned to binds nothing
abbrev pub expr_role : Role → Role
expr_role (role.RebindRest s) = role.NothingAt s
expr_role r = role.Nothing

abbrev pub part_dues : Role → PatPart → List Due
part_dues r (of_pat.Pat p) = record { part = pat_part p; role = r } ∷ []
part_dues r (of_pat.Expr e) = expr_due (expr_role r) e ∷ []

abbrev pub pat_elem_dues : Option PatElem → List Due
pat_elem_dues None = []
pat_elem_dues (Some (elem.Item p)) = part_dues role.Rebind p
pat_elem_dues (Some (elem.Rest s d p)) = part_dues role.Rebind p

abbrev pub pat_prop_dues : PatPropNode → List Due
pat_prop_dues (pat_prop.KeyValue s k v) = map keep (key_parts k) ++ part_dues role.Rebind v
pat_prop_dues (pat_prop.Assign s k v) = map keep (if_some one_expr v)
pat_prop_dues (pat_prop.Rest s d p) = part_dues (role.RebindRest s) p

abbrev pub again_dues : {F C K : Type 0} → Node F C K → List Due
again_dues (n.PatArray s elems) = flat pat_elem_dues elems.items
again_dues (n.PatObject s props) = flat pat_prop_dues props.items
again_dues (n.PatAssign s l r) = part_dues role.Rebind l ++ map keep (one_expr r)
again_dues (n.PatRest s d p) = record { part = pat_part p; role = role.Rebind } ∷ []
again_dues x = []

abbrev pub array_dues : {F C K : Type 0} → Role → Node F C K → List Due
array_dues r (n.Array s elems comma) = elem_dues r elems.items
array_dues r x = []

abbrev pub object_dues : {F C K : Type 0} → Role → Node F C K → List Due
object_dues r (n.Object s props comma) = flat (prop_dues r) props.items
object_dues r x = []

abbrev pub default_dues : {F C K : Type 0} → Role → Node F C K → List Due
default_dues r (n.Assign s o l e) = left_due r l ∷ keep (expr_part e) ∷ []
default_dues r x = []

abbrev pub dues_by : {F C K : Type 0} → Becomes → Role → Node F C K → List Due
dues_by to.Same r x = map keep (slots x)
dues_by to.Held r x = map keep (slots x)
dues_by to.Again r x = again_dues x
dues_by to.Array r x = array_dues r x
dues_by to.Object r x = object_dues r x
dues_by to.Default r x = default_dues r x
dues_by b r x = []

abbrev pub dues_of : {F C K : Type 0} → Role → Node F C K → List Due
dues_of r x = dues_by (becomes_as r x) r x

-- ---- which nodes may become that, which parts, and what a node is then

abbrev pub ready : Role → Form → Bool
ready role.Keep f = true
ready role.Bind f = view_ok expr f
ready role.Assign f = view_ok expr f
ready role.Rebind f = view_ok pat f
ready (role.BindRest s) f = view_ok expr f
ready (role.RebindRest s) f = view_ok pat f
ready role.Nothing f = view_ok expr f
ready (role.NothingAt s) f = view_ok expr f

abbrev pub suits : Role → View → Bool
suits role.Keep v = true
suits role.Rebind pat = true
suits role.Rebind pattern = true
suits role.Rebind v = false
suits (role.RebindRest s) pat = true
suits (role.RebindRest s) v = false
suits r expr = true
suits r simple = true
suits r v = false

abbrev pub suit : List Due → Bool
suit [] = true
suit (q ∷ qs) = suits q.role q.part.view && suit qs

-- what a part is that became what it is to, by how it did
abbrev pub held_view : Becomes → View
held_view to.Held = expr
held_view b = pat

abbrev pub new_view : Becomes → Role → View → View
new_view b role.Keep v = v
new_view b r v = held_view b

-- what is to become another
abbrev pub turns : Role → Bool
turns role.Keep = false
turns r = true
