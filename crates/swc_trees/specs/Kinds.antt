-- Which nodes are taken out by which function.
use Rattle.std.specs.Prelude.{Bool, true, false, ◌||◌}
use Rattle.swc_nodes.specs.NodeParts.{Form, simple, pattern, view_ok}
use Rattle.swc_nodes.specs.{declared.node.Node.Node, declared.node.Node.Node as n}

-- a call, an arrow function, or an operand that was refused
abbrev pub is_call : {F C K : Type 0} → Node F C K → Bool
is_call (n.Call s c xs) = true
is_call (n.New s c xs) = true
is_call (n.TaggedTpl s t q) = true
is_call (n.Arrow s ps b a) = true
is_call (n.Invalid i) = true
is_call x = false

-- an operation with two operands or three, or one of those
abbrev pub is_choice : {F C K : Type 0} → Node F C K → Bool
is_choice (n.Bin s op l r) = true
is_choice (n.Assign s op l r) = true
is_choice (n.Cond s t c a) = true
is_choice x = is_call x

-- an operation with one operand, or one of those
abbrev pub is_operation : {F C K : Type 0} → Node F C K → Bool
is_operation (n.Unary s op a) = true
is_operation (n.Update s op prefix a) = true
is_operation (n.Await s a) = true
is_operation (n.Yield s a d) = true
is_operation x = is_choice x

-- a literal of parts, a sequence, a link or what is in parentheses, or one of those
abbrev pub is_compound : {F C K : Type 0} → Node F C K → Bool
is_compound (n.Array s elems comma) = true
is_compound (n.Object s props comma) = true
is_compound (n.Seq s es) = true
is_compound (n.Paren p) = true
is_compound (n.Member m) = true
is_compound (n.SuperProp p) = true
is_compound (n.OptChain c) = true
is_compound (n.Tpl t) = true
is_compound x = is_operation x

-- what may be left of an assignment operator
abbrev pub is_target : Form → Bool
is_target f = view_ok simple f || view_ok pattern f

abbrev pub is_chain : {F C K : Type 0} → Node F C K → Bool
is_chain (n.OptChain c) = true
is_chain x = false

abbrev pub is_invalid : {F C K : Type 0} → Node F C K → Bool
is_invalid (n.Invalid i) = true
is_invalid x = false

abbrev pub is_invalid_pat : {F C K : Type 0} → Node F C K → Bool
is_invalid_pat (n.PatInvalid i) = true
is_invalid_pat x = false
