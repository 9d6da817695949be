-- The node that another becomes, over the trees that the numbers of its parts stand for.
use Rattle.std.specs.Prelude.{ℕ, Bool, true, false, if◌then◌else◌, List, [], ◌∷◌, ◌++◌, Option, Some, None}
use Rattle.swc_context.specs.declared.span.Span.{Span}
use Rattle.swc_ast.specs.declared.expr.ExprOrSpread.{ExprOrSpread}
use Rattle.swc_nodes.specs.NodeParts.{Part, flat}
use Rattle.swc_nodes.specs.Roles.{Due, becomes_as, is_empty, new_view, rest_role}
use Rattle.swc_nodes.specs.declared.node.ExprId.{ExprId}
use Rattle.swc_nodes.specs.declared.node.Node.{Node}
use Rattle.swc_nodes.specs.declared.node.PatElem.{PatElem}
use Rattle.swc_nodes.specs.declared.node.PatElem.TheVariants as elem
use Rattle.swc_nodes.specs.declared.node.PatPart.{PatPart}
use Rattle.swc_nodes.specs.declared.node.PatPart.TheVariants as of_pat
use Rattle.swc_nodes.specs.declared.node.PatPropNode.{PatPropNode}
use Rattle.swc_nodes.specs.declared.node.PatPropNode.TheVariants as pat_prop
use Rattle.swc_nodes.specs.declared.node.PropNode.{PropNode}
use Rattle.swc_nodes.specs.declared.node.PropNode.TheVariants as prop
use Rattle.swc_nodes.specs.declared.node.TargetNode.{TargetNode}
use Rattle.swc_nodes.specs.declared.node.TargetNode.TheVariants as target
use Rattle.swc_nodes.specs.declared.role.Becomes.{Becomes}
use Rattle.swc_nodes.specs.declared.role.Becomes.TheVariants as to
use Rattle.swc_nodes.specs.declared.role.Role.{Role}

abbrev pub part_as : Becomes → ExprId → PatPart
part_as to.Held e = of_pat.Expr e
part_as b e = of_pat.Pat (record { 0 = e.0 })

abbrev pub all_none : {X : Type 0} → List (Option X) → Bool
all_none [] = true
all_none (None ∷ xs) = all_none xs
all_none (Some x ∷ xs) = false

abbrev pub one_or_none : {A : Type 0} → Option A → List A
one_or_none None = []
one_or_none (Some a) = a ∷ []

-- by the nodes that the numbers have
module _ {F C K : Type 0} (at : ℕ → Node F C K) where
  abbrev pub part_for : Role → ExprId → PatPart
  part_for r e = part_as (becomes_as r (at e.0)) e

  abbrev pub left_for : Role → TargetNode → PatPart
  left_for r (target.Simple e) = part_for r e
  left_for r (target.Pat p) = of_pat.Pat p

  abbrev pub prop_for : {K : Type 0} → Role → PropNode K → Option PatPropNode
  prop_for r (prop.Spread s) = Some (pat_prop.Rest s.span s.dot3_token (part_for (rest_role r s.span) s.expr))
  prop_for r (prop.Shorthand i) = Some (pat_prop.Assign i.span (record { id = i }) None)
  prop_for r (prop.KeyValue s k v) = Some (pat_prop.KeyValue s k (part_for r v))
  prop_for r (prop.Assign p) = Some (pat_prop.Assign p.span (record { id = p.key }) (Some p.value))
  prop_for r p = None

  abbrev pub props_for : {K : Type 0} → Role → List (PropNode K) → List PatPropNode
  props_for r ps = flat (λ p. one_or_none (prop_for r p)) ps

  -- a part that became what it is to
  abbrev pub turned : Due → Part
  turned q = record { at = q.part.at; view = new_view (becomes_as q.role (at q.part.at)) q.role q.part.view }

-- and where these lie
module _ {F C K : Type 0} (at : ℕ → Node F C K) (place : ℕ → Span) where
  abbrev pub item_for : Role → Bool → Option Span → ExprId → List (Option PatElem)
  item_for r last None e = Some (elem.Item (part_for at r e)) ∷ []
  item_for r true (Some d) e = Some (elem.Rest (place e.0) d (part_for at r e)) ∷ []
  item_for r false (Some d) e = []

  abbrev pub elems_for : Role → List (Option (ExprOrSpread ExprId)) → List (Option PatElem)
  elems_for r [] = []
  elems_for r (None ∷ es) = if all_none es then [] else None ∷ elems_for r es
  elems_for r (Some x ∷ es) = item_for r (is_empty es) x.spread x.expr ++ elems_for r es

-- a pattern that binds holds no expression
abbrev pub bare_part : PatPart → PatPart
bare_part (of_pat.Pat p) = of_pat.Pat p
bare_part (of_pat.Expr e) = of_pat.Pat (record { 0 = e.0 })

abbrev pub bare_elem : PatElem → PatElem
bare_elem (elem.Item p) = elem.Item (bare_part p)
bare_elem (elem.Rest s d p) = elem.Rest s d (bare_part p)

abbrev pub bare_some : Option PatElem → Option PatElem
bare_some None = None
bare_some (Some e) = Some (bare_elem e)

abbrev pub bare_prop : PatPropNode → PatPropNode
bare_prop (pat_prop.KeyValue s k v) = pat_prop.KeyValue s k (bare_part v)
bare_prop (pat_prop.Assign s k v) = pat_prop.Assign s k v
bare_prop (pat_prop.Rest s d p) = pat_prop.Rest s d (bare_part p)
