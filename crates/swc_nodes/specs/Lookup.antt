-- What is found by a number among the nodes.
use Rattle.std.specs.Prelude.{◌≡◌, ℕ, ◌≤◌, List, Option, Some, None, length, slice_range}
use Rattle.swc_context.specs.Operators.{assign_text, binary_text, unary_text, update_text}
use Rattle.swc_context.specs.declared.span.Span.{Span}
use Rattle.swc_nodes.specs.{declared.node.ForHeadId.ForHeadId, declared.node.ForHeadId.ForHeadId as for_head, declared.node.Node.Node, declared.node.Node.Node as n}

-- the number of what the head of a `for` begins with
abbrev pub head_number : ForHeadId → ℕ
head_number (for_head.Target p) = p.0
head_number (for_head.Expr e) = e.0

-- how the operator of a node is written, if it has one
abbrev pub operator_of : {F C K : Type 0} → Node F C K → Option (List ℕ)
operator_of (n.Bin s op l r) = Some (binary_text op)
operator_of (n.Assign s op l r) = Some (assign_text op)
operator_of (n.Unary s op a) = Some (unary_text op)
operator_of (n.Update s op prefix a) = Some (update_text op)
operator_of x = None

-- the bytes of a text at a place
abbrev pub IsTextAt : List ℕ → Span → List ℕ → Type 0
IsTextAt text s part = (s.lo.0 ≤ s.hi.0) × (s.hi.0 ≤ length text) × (part ≡ slice_range text s.lo.0 s.hi.0)
