-- The numbers of nodes, among pieces of text and among the parts of a node.
use Rattle.std.specs.Prelude.{◌≡◌, ℕ, Bool, true, false, List, [], ◌∷◌, ◌++◌, Result, OnOk, length, take, reverse}
use Rattle.swc_ast.specs.declared.expr.Tpl.{Tpl}
use Rattle.swc_nodes.specs.NodeParts.{Part, slots, one_expr, flat}
use Rattle.swc_nodes.specs.{declared.node.ExprId.ExprId, Weights.ats, declared.node.Node.Node, declared.node.Node.Node as n}
use Rattle.swc_print.specs.{declared.pieces.Pieces.Pieces, declared.pieces.Piece.Piece, declared.pieces.Piece.Piece as piece, declared.common.Begun.Begun, declared.common.Begun.Begun as begun}

abbrev pub numbers : List Piece → List ℕ
numbers [] = []
numbers (piece.Node i ∷ ps) = i ∷ numbers ps
numbers (piece.Next i ∷ ps) = i ∷ numbers ps
numbers (piece.Last i ∷ ps) = i ∷ numbers ps
numbers (piece.Bracketed o i ∷ ps) = i ∷ numbers ps
numbers (piece.Text t ∷ ps) = numbers ps
numbers (piece.Property o t ∷ ps) = numbers ps
numbers (piece.Count k ∷ ps) = numbers ps

-- A template shows as many expressions as it has texts.
abbrev pub tpl_shown : Tpl ExprId → List Part
tpl_shown t = flat one_expr (take (length t.quasis.items) t.exprs.items)

-- the parts of a node whose text is shown
abbrev pub shown : {F C K : Type 0} → Node F C K → List Part
shown (n.Tpl t) = tpl_shown t.value
shown (n.TaggedTpl s t q) = one_expr t ++ tpl_shown q.value
shown x = slots x

-- the kinds with two or three parts, and operators between them
abbrev pub is_infix : {F C K : Type 0} → Node F C K → Bool
is_infix (n.Bin s op l r) = true
is_infix (n.Assign s op l r) = true
is_infix (n.Cond s t c a) = true
is_infix x = false

-- the kinds with one to three parts, and names or words between them
abbrev pub is_operation : {F C K : Type 0} → Node F C K → Bool
is_operation (n.Unary s op a) = true
is_operation (n.Update s op prefix a) = true
is_operation (n.Paren p) = true
is_operation (n.Await s a) = true
is_operation (n.PatRest s d p) = true
is_operation (n.PatAssign s l r) = true
is_operation (n.PatExpr e) = true
is_operation x = is_infix x

-- The numbers of the parts, in their order, were laid after the pieces that wait.
abbrev pub Lays : {T E : Type 0} → List Part → Pieces → Result T E → Pieces → Type 0
Lays ps old r new = OnOk r (numbers new.waiting.items ≡ numbers old.waiting.items ++ ats ps)

-- A node was begun, whose parts have the numbers: the others are on the stack, below its first part; or it has none; or
-- nothing was done.
abbrev pub Begins : List ℕ → List Piece → Begun → List Piece → Type 0
Begins ns old (begun.Part i) new = numbers new ++ i ∷ [] ≡ numbers old ++ reverse ns
Begins ns old begun.Whole new = (ns ≡ []) × (numbers new ≡ numbers old)
Begins ns old begun.Nothing new = numbers new ≡ numbers old
