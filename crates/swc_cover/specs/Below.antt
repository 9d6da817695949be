-- The parts of what is looked at, which are among the nodes, before it.
use Rattle.std.specs.Prelude.{◌≡◌, ℕ, ◌+◌, ◌*◌, ◌<◌, List, Option, Some, None, get_or, length}
use Rattle.swc_ast.specs.{declared.expr.ExprOrSpread.ExprOrSpread, declared.spanned.Spanned.Ghosts}
use Rattle.swc_nodes.specs.{NodeParts.expr_part, NodeParts.pat_part, GrowingNodes.From, declared.node.ExprId.ExprId, declared.node.PatPropNode.PatPropNode, declared.node.PatPropNode.PatPropNode as pat_prop, declared.node.PropNode.PropNode, declared.node.PropNode.PropNode as prop, declared.nodes.Nodes.Nodes, declared.node.PatElem.PatElem, declared.node.PatElem.PatElem as elem, declared.node.PatPart.PatPart, declared.node.PatPart.PatPart as of_pat}

-- what an element or a property counts, by which a look at nodes ends: more than what it holds, and less than its node
abbrev pub elem_size : Option (ExprOrSpread ExprId) → ℕ
elem_size None = 0
elem_size (Some x) = x.expr.0 * 4 + 4

abbrev pub prop_size : {K : Type 0} → PropNode K → ℕ
prop_size (prop.KeyValue s k v) = v.0 * 4 + 4
prop_size (prop.Spread s) = s.expr.0 * 4 + 4
prop_size p = 0

abbrev pub part_size : PatPart → ℕ
part_size (of_pat.Pat p) = p.0 * 4 + 3
part_size (of_pat.Expr e) = e.0 * 4 + 3

abbrev pub pat_elem_size : Option PatElem → ℕ
pat_elem_size None = 0
pat_elem_size (Some (elem.Item p)) = part_size p + 1
pat_elem_size (Some (elem.Rest s d p)) = part_size p + 1

abbrev pub pat_prop_size : PatPropNode → ℕ
pat_prop_size (pat_prop.KeyValue s k v) = part_size v + 1
pat_prop_size (pat_prop.Rest s d p) = part_size p + 1
pat_prop_size p = 0

module _ {F C K : Type 0} {fg : Ghosts F} {cg : Ghosts C} {kg : Ghosts K} where
  -- what is held is among the nodes
  abbrev pub ElemFrom : Nodes F C K fg cg kg → Option (ExprOrSpread ExprId) → Type 0
  ElemFrom ns None = Unit {0}
  ElemFrom ns (Some x) = From 0 ns (expr_part x.expr)

  abbrev pub PropFrom : Nodes F C K fg cg kg → PropNode K → Type 0
  PropFrom ns (prop.KeyValue s k v) = From 0 ns (expr_part v)
  PropFrom ns (prop.Spread s) = From 0 ns (expr_part s.expr)
  PropFrom ns p = Unit {0}

  abbrev pub PatPartFrom : Nodes F C K fg cg kg → PatPart → Type 0
  PatPartFrom ns (of_pat.Pat p) = From 0 ns (pat_part p)
  PatPartFrom ns (of_pat.Expr e) = From 0 ns (expr_part e)

  abbrev pub PatElemFrom : Nodes F C K fg cg kg → Option PatElem → Type 0
  PatElemFrom ns None = Unit {0}
  PatElemFrom ns (Some (elem.Item p)) = PatPartFrom ns p
  PatElemFrom ns (Some (elem.Rest s d p)) = PatPartFrom ns p

  abbrev pub PatPropFrom : Nodes F C K fg cg kg → PatPropNode → Type 0
  PatPropFrom ns (pat_prop.KeyValue s k v) = PatPartFrom ns v
  PatPropFrom ns (pat_prop.Rest s d p) = PatPartFrom ns p
  PatPropFrom ns p = Unit {0}

  -- and before the node with the number i
  pub record ElemStep (ns : Nodes F C K fg cg kg) (i : ℕ) (o : Option (ExprOrSpread ExprId)) : Type 0 where
    pub less : elem_size o < i * 4 + 1
    pub from : ElemFrom ns o

  pub record PropStep (ns : Nodes F C K fg cg kg) (i : ℕ) (p : PropNode K) : Type 0 where
    pub less : prop_size p < i * 4 + 1
    pub from : PropFrom ns p

  pub record PatElemStep (ns : Nodes F C K fg cg kg) (i : ℕ) (o : Option PatElem) : Type 0 where
    pub less : pat_elem_size o < i * 4 + 1
    pub from : PatElemFrom ns o

  pub record PatPropStep (ns : Nodes F C K fg cg kg) (i : ℕ) (p : PatPropNode) : Type 0 where
    pub less : pat_prop_size p < i * 4 + 1
    pub from : PatPropFrom ns p

  -- the same of all in a list
  pub record ElemsBelow (ns : Nodes F C K fg cg kg) (i : ℕ) (xs : List (Option (ExprOrSpread ExprId))) : Type 0 where
    pub each : (j : ℕ) (o : Option (ExprOrSpread ExprId)) → j < length xs → o ≡ get_or xs j o → ElemStep ns i o

  pub record PropsBelow (ns : Nodes F C K fg cg kg) (i : ℕ) (xs : List (PropNode K)) : Type 0 where
    pub each : (j : ℕ) (p : PropNode K) → j < length xs → p ≡ get_or xs j p → PropStep ns i p

  pub record PatElemsBelow (ns : Nodes F C K fg cg kg) (i : ℕ) (xs : List (Option PatElem)) : Type 0 where
    pub each : (j : ℕ) (o : Option PatElem) → j < length xs → o ≡ get_or xs j o → PatElemStep ns i o

  pub record PatPropsBelow (ns : Nodes F C K fg cg kg) (i : ℕ) (xs : List PatPropNode) : Type 0 where
    pub each : (j : ℕ) (p : PatPropNode) → j < length xs → p ≡ get_or xs j p → PatPropStep ns i p
