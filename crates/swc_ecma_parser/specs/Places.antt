-- Where operators are in a text.
use Rattle.std.specs.Prelude.{◌≡◌, ℕ, ◌+◌, true, false, List, drop, Some}
use Rattle.swc_context.specs.declared.span.Span.{Span}
use Rattle.swc_context.specs.Spans.{in_order}
use Rattle.swc_lexical.specs.Blanks.{blanks_len}
use Rattle.swc_ast.specs.Tree.{Tree, span_of}
use Rattle.swc_ast.specs.declared.spanned.Spanned.{Ghosts}
use Rattle.swc_nodes.specs.NodeParts.{target_part}
use Rattle.swc_nodes.specs.declared.node.Node.TheVariants as n
use Rattle.swc_nodes.specs.{GrowingNodes.Stood, GrowingNodes.tree_at, Lookup.IsTextAt, Lookup.operator_of, declared.node.Node.Node, declared.nodes.Nodes.Nodes}

-- Where it is looked for: after the left operand, or from the node's own place on.
abbrev pub operator_from : {F C K : Type 0} → (ℕ → Tree F C K) → Node F C K → ℕ
operator_from at (n.Bin s op l r) = (in_order (span_of (at l.0))).hi.0
operator_from at (n.Assign s op l r) = (in_order (span_of (at (target_part l).at))).hi.0
operator_from at (n.Update s op true a) = s.lo.0
operator_from at (n.Update s op false a) = (in_order (span_of (at a.0))).hi.0
operator_from at (n.Unary s op a) = s.lo.0
operator_from at x = 0

-- what comes first in the text from a position on, after blanks and comments, begins there
abbrev pub BehindBlanks : List ℕ → ℕ → Span → Type 0
BehindBlanks text from s = s.lo.0 ≡ from + blanks_len (drop from text)

-- at the place the text has the operator of the node that has the number
pub record IsOperatorAt {F C K : Type 0} {fg : Ghosts F} {cg : Ghosts C} {kg : Ghosts K} (ns : Nodes F C K fg cg kg)
    (id : ℕ)
    (text : List ℕ) (span : Span) : Type 0 where
  pub node : Node F C K
  pub stood : Stood ns id node
  pub operator : List ℕ
  pub is : operator_of node ≡ Some operator
  pub written : IsTextAt text span operator
  -- the first thing after its left operand, or in it
  pub first : BehindBlanks text (operator_from (tree_at ns) node) span
