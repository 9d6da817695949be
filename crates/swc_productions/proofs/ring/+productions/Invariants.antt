-- Each call is made with a level less of room, or on the way down to the place where one is taken: so at most 20 calls
-- are nested for each level of the bound, and 20 more.
use Rattle.std.proofs.Common.{◌≡◌, ◌+◌, ◌*◌, ◌≤◌, not, map, length}
use Rattle.std.specs.Prelude.{slice_index_or}
use Rattle.swc_input.specs.Buffer.{to_come}
use Rattle.swc_ast.specs.Parts.{item_trees, quasi_tree}
use Rattle.swc_ast.specs.Tree.{trees}
use Rattle.swc_grammar.specs.Symbols.{Args, Elements, Props, Parts}
use Rattle.swc_grammar.specs.Clean.{sym, links, run}
use Rattle.swc_nodes.specs.NodeParts.{expr_part, args_parts}
use Rattle.swc_nodes.specs.Lists.{elem_parts, elem_trees, props_parts, props_trees, exprs_parts, expr_trees}
use Rattle.swc_nodes.specs.declared.node.ExprId.{ExprId}
use Rattle.swc_nodes.specs.Pending.{all_pending, operand_parts, first_operand}
use Rattle.swc_nodes.specs.GrowingNodes.{tree_at, count, first_at, Apart, From, Grows}
use Rattle.swc_operators.specs.Assignments.{seqs_more}
use Rattle.swc_operators.specs.Pending.{pending_reads}
use Rattle.swc_steps.specs.Loops.{ItemsRead}
use Rattle.swc_input.specs.Calls.{Loud, recorded}
use Rattle.swc_steps.specs.Parsing.{On, scope, tree_of}
use Rattle.swc_left.specs.Templates.{parts_behind}
use Rattle.swc_productions.proofs.ring.+productions.Given as goal
use Rattle.swc_patterns.specs.Loops.{PatPropsRead}
use Rattle.swc_grammar.specs.Symbols.{PatElements, Params}
use Rattle.swc_nodes.specs.Lists.{pat_elem_parts}
use Rattle.swc_nodes.specs.NodeParts.{flat, param_parts}
use Rattle.swc_steps.specs.Params.{params_at, placed}
use Rattle.swc_patterns.specs.Answers.{if_there}
use Rattle.swc_patterns.specs.Arrays.{elements_left}
use Rattle.swc_patterns.specs.Params.{params_left}
use Rattle.swc_patterns.specs.ParamsRead.{AllReadAlone}
use Rattle.swc_patterns.specs.Rests.{stage_of}

abbrev pub decreases-parse_primary_expr : goal.decreases-parse_primary_expr
decreases-parse_primary_expr g l = l.room * 20 + 7

abbrev pub decreases-parse_base : goal.decreases-parse_base
decreases-parse_base g l = l.room * 20 + 8

abbrev pub decreases-parse_super : goal.decreases-parse_super
decreases-parse_super g l = l.room * 20 + 4

abbrev pub decreases-parse_lhs_expr : goal.decreases-parse_lhs_expr
decreases-parse_lhs_expr g l = l.room * 20 + 10

abbrev pub decreases-parse_member_expr : goal.decreases-parse_member_expr
decreases-parse_member_expr g l = l.room * 20 + 9

abbrev pub decreases-parse_subscripts : goal.decreases-parse_subscripts
decreases-parse_subscripts g l = l.room * 20 + 4

abbrev pub invariant-parse_subscripts-loop-head : goal.invariant-parse_subscripts-loop-head
invariant-parse_subscripts-loop-head g l =
    On g.I.Tokens.model g.B.Bodies.is_faithful
    (run g.B.BodyForms.forms (links (not l.fn.no_call) (tree_of l.fn.p.nodes l.fn.obj)))
    (run g.B.BodyForms.forms (links (not l.fn.no_call) (tree_of l.p.nodes l.obj)))
    l.fn.p.input l.p.input
    × (to_come g.I.Tokens.model l.p.input ≤ to_come g.I.Tokens.model l.fn.p.input)
    × Grows l.fn.p.nodes l.p.nodes
    × From (first_at l.fn.p.nodes l.fn.obj.0) l.p.nodes (expr_part l.obj)

abbrev pub decreases-parse_subscripts-loop-head : goal.decreases-parse_subscripts-loop-head
decreases-parse_subscripts-loop-head g l = to_come g.I.Tokens.model l.p.input

abbrev pub decreases-parse_args : goal.decreases-parse_args
decreases-parse_args g l = l.room * 20 + 2

abbrev pub invariant-parse_args-loop-items : goal.invariant-parse_args-loop-items
invariant-parse_args-loop-items g l =
    ItemsRead g.I.Tokens.model g.B.Bodies.is_faithful (run g.B.BodyForms.forms (sym (Args l.fn.is_dynamic_import)))
    (item_trees (tree_of l.p.nodes) l.items.items) (args_parts l.items) l.trailing_comma l.fn.p l.p

abbrev pub decreases-parse_args-loop-items : goal.decreases-parse_args-loop-items
decreases-parse_args-loop-items g l = to_come g.I.Tokens.model l.p.input

abbrev pub decreases-parse_operand : goal.decreases-parse_operand
decreases-parse_operand g l = l.room * 20 + 12

abbrev pub decreases-parse_unary_expr : goal.decreases-parse_unary_expr
decreases-parse_unary_expr g l = l.room * 20 + 11

abbrev pub decreases-parse_await_expr : goal.decreases-parse_await_expr
decreases-parse_await_expr g l = l.room * 20 + 0

abbrev pub decreases-parse_plain_operand : goal.decreases-parse_plain_operand
decreases-parse_plain_operand g l = l.room * 20 + 9

abbrev pub decreases-parse_plain_member : goal.decreases-parse_plain_member
decreases-parse_plain_member g l = l.room * 20 + 8

abbrev pub decreases-parse_operators : goal.decreases-parse_operators
decreases-parse_operators g l = l.room * 20 + 13

abbrev pub invariant-parse_operators-loop-pending : goal.invariant-parse_operators-loop-pending
invariant-parse_operators-loop-pending g l =
    On g.I.Tokens.model g.B.Bodies.is_faithful
    (pending_reads g.B.BodyForms.forms (tree_of l.fn.p.nodes) (all_pending l.fn.pending) l.fn.left)
    (pending_reads g.B.BodyForms.forms (tree_of l.p.nodes) (all_pending l.pending) l.left)
    l.fn.p.input l.p.input
    × (to_come g.I.Tokens.model l.p.input ≤ to_come g.I.Tokens.model l.fn.p.input)
    × Grows l.fn.p.nodes l.p.nodes
    × Apart (first_at l.fn.p.nodes (first_operand (all_pending l.fn.pending) l.fn.left).0) l.p.nodes
    (operand_parts (all_pending l.pending) l.left)

abbrev pub decreases-parse_operators-loop-pending : goal.decreases-parse_operators-loop-pending
decreases-parse_operators-loop-pending g l = to_come g.I.Tokens.model l.p.input * 2 + length (all_pending l.pending)

abbrev pub decreases-recover_operators : goal.decreases-recover_operators
decreases-recover_operators g l = l.room * 20 + 14

abbrev pub decreases-parse_bin_expr : goal.decreases-parse_bin_expr
decreases-parse_bin_expr g l = l.room * 20 + 15

abbrev pub decreases-parse_expr : goal.decreases-parse_expr
decreases-parse_expr g l = l.room * 20 + 1

abbrev pub invariant-parse_expr-loop-exprs : goal.invariant-parse_expr-loop-exprs
invariant-parse_expr-loop-exprs g l =
    On g.I.Tokens.model g.B.Bodies.is_faithful
    (seqs_more g.B.BodyForms.forms (expr_trees (tree_at l.initial.p.nodes) l.initial.exprs))
    (seqs_more g.B.BodyForms.forms (expr_trees (tree_at l.p.nodes) l.exprs))
    l.initial.p.input l.p.input
    × (to_come g.I.Tokens.model l.p.input ≤ to_come g.I.Tokens.model l.fn.p.input)
    × Grows l.initial.p.nodes l.p.nodes
    × Apart (count l.fn.p.nodes) l.p.nodes (exprs_parts l.exprs)
    × (1 ≤ length l.exprs.items)
    × ((d : ExprId) → slice_index_or l.exprs.items 0 d ≡ slice_index_or l.initial.exprs.items 0 d)

abbrev pub decreases-parse_expr-loop-exprs : goal.decreases-parse_expr-loop-exprs
decreases-parse_expr-loop-exprs g l = to_come g.I.Tokens.model l.p.input

abbrev pub decreases-parse_assignment_expr : goal.decreases-parse_assignment_expr
decreases-parse_assignment_expr g l = l.room * 20 + 0

abbrev pub decreases-parse_yield_expr : goal.decreases-parse_yield_expr
decreases-parse_yield_expr g l = l.room * 20 + 1

abbrev pub decreases-parse_arrow_or_assign : goal.decreases-parse_arrow_or_assign
decreases-parse_arrow_or_assign g l = l.room * 20 + 16

abbrev pub decreases-parse_arrow_or_operand : goal.decreases-parse_arrow_or_operand
decreases-parse_arrow_or_operand g l = l.room * 20 + 5

abbrev pub decreases-parse_arrow_or_base : goal.decreases-parse_arrow_or_base
decreases-parse_arrow_or_base g l = l.room * 20 + 4

abbrev pub decreases-parse_arrow_rest : goal.decreases-parse_arrow_rest
decreases-parse_arrow_rest g l = l.room * 20 + 3

abbrev pub decreases-parse_arrow_body : goal.decreases-parse_arrow_body
decreases-parse_arrow_body g l = l.room * 20 + 1

abbrev pub decreases-finish_assignment_expr : goal.decreases-finish_assignment_expr
decreases-finish_assignment_expr g l = l.room * 20 + 1

abbrev pub decreases-parse_expr_or_spread : goal.decreases-parse_expr_or_spread
decreases-parse_expr_or_spread g l = l.room * 20 + 1

abbrev pub decreases-parse_elements : goal.decreases-parse_elements
decreases-parse_elements g l = l.room * 20 + 2

abbrev pub invariant-parse_elements-loop-items : goal.invariant-parse_elements-loop-items
invariant-parse_elements-loop-items g l =
    ItemsRead g.I.Tokens.model g.B.Bodies.is_faithful (run g.B.BodyForms.forms (sym Elements))
    (elem_trees (tree_at l.p.nodes) l.items) (elem_parts l.items) l.trailing_comma l.fn.p l.p

abbrev pub decreases-parse_elements-loop-items : goal.decreases-parse_elements-loop-items
decreases-parse_elements-loop-items g l = to_come g.I.Tokens.model l.p.input

abbrev pub decreases-parse_prop_name : goal.decreases-parse_prop_name
decreases-parse_prop_name g l = l.room * 20 + 1

abbrev pub decreases-parse_object_prop : goal.decreases-parse_object_prop
decreases-parse_object_prop g l = l.room * 20 + 5

abbrev pub decreases-parse_method : goal.decreases-parse_method
decreases-parse_method g l = l.room * 20 + 3

abbrev pub decreases-parse_props : goal.decreases-parse_props
decreases-parse_props g l = l.room * 20 + 6

abbrev pub invariant-parse_props-loop-items : goal.invariant-parse_props-loop-items
invariant-parse_props-loop-items g l =
    ItemsRead g.I.Tokens.model g.B.Bodies.is_faithful (run g.B.BodyForms.forms (sym Props))
    (props_trees g.B.Fun.Spanned.place g.B.Class.Spanned.place g.B.Block.Spanned.place (tree_at l.p.nodes) l.items)
    (props_parts l.items) l.trailing_comma l.fn.p l.p

abbrev pub decreases-parse_props-loop-items : goal.decreases-parse_props-loop-items
decreases-parse_props-loop-items g l = to_come g.I.Tokens.model l.p.input

abbrev pub decreases-parse_tpl_elements : goal.decreases-parse_tpl_elements
decreases-parse_tpl_elements g l = l.room * 20 + 2

abbrev pub invariant-parse_tpl_elements-loop-exprs : goal.invariant-parse_tpl_elements-loop-exprs
invariant-parse_tpl_elements-loop-exprs g l =
    On g.I.Tokens.model g.B.Bodies.is_faithful
    (run g.B.BodyForms.forms (sym (Parts l.fn.is_tagged)))
    (parts_behind g.B.BodyForms.forms l.fn.is_tagged (trees (map quasi_tree l.quasis.items))
    (trees (map (tree_of l.p.nodes) l.exprs.items)))
    l.fn.p.input l.p.input
    × (to_come g.I.Tokens.model l.p.input ≤ to_come g.I.Tokens.model l.fn.p.input)
    × Grows l.fn.p.nodes l.p.nodes
    × Apart (count l.fn.p.nodes) l.p.nodes (exprs_parts l.exprs)

abbrev pub decreases-parse_tpl_elements-loop-exprs : goal.decreases-parse_tpl_elements-loop-exprs
decreases-parse_tpl_elements-loop-exprs g l = to_come g.I.Tokens.model l.p.input

abbrev pub decreases-parse_object_pat_prop : goal.decreases-parse_object_pat_prop
decreases-parse_object_pat_prop g l = l.room * 20 + 3

abbrev pub invariant-parse_pat_props-loop-items : goal.invariant-parse_pat_props-loop-items
invariant-parse_pat_props-loop-items g l =
    PatPropsRead g.I.Tokens.model g.B.Bodies.is_faithful g.B.BodyForms.forms l.items.items l.trailing_comma l.fn.p l.p

abbrev pub decreases-parse_pat_props-loop-items : goal.decreases-parse_pat_props-loop-items
decreases-parse_pat_props-loop-items g l = to_come g.I.Tokens.model l.p.input

abbrev pub decreases-parse_pat_props : goal.decreases-parse_pat_props
decreases-parse_pat_props g l = l.room * 20 + 4

abbrev pub decreases-parse_binding_element : goal.decreases-parse_binding_element
decreases-parse_binding_element g l = l.room * 20 + 1

abbrev pub decreases-parse_pat : goal.decreases-parse_pat
decreases-parse_pat g l = l.room * 20 + 0

abbrev pub decreases-parse_pat_elements : goal.decreases-parse_pat_elements
decreases-parse_pat_elements g l = l.room * 20 + 2

abbrev pub invariant-parse_pat_elements-loop-items : goal.invariant-parse_pat_elements-loop-items
invariant-parse_pat_elements-loop-items g l =
    On g.I.Tokens.model g.B.Bodies.is_faithful
    (run g.B.BodyForms.forms (sym PatElements))
    (elements_left g.B.BodyForms.forms (stage_of l.rest) (map (if_there l.p.nodes) l.items.items))
    l.fn.p.input l.p.input
    × (to_come g.I.Tokens.model l.p.input ≤ to_come g.I.Tokens.model l.fn.p.input)
    × Grows l.fn.p.nodes l.p.nodes
    × Apart (count l.fn.p.nodes) l.p.nodes (pat_elem_parts l.items)

abbrev pub decreases-parse_pat_elements-loop-items : goal.decreases-parse_pat_elements-loop-items
decreases-parse_pat_elements-loop-items g l = to_come g.I.Tokens.model l.p.input

abbrev pub decreases-parse_formal_params : goal.decreases-parse_formal_params
decreases-parse_formal_params g l = l.room * 20 + 2

abbrev pub invariant-parse_formal_params-loop-params : goal.invariant-parse_formal_params-loop-params
invariant-parse_formal_params-loop-params g l =
    On g.I.Tokens.model g.B.Bodies.is_faithful
    (run g.B.BodyForms.forms (sym Params))
    (params_left g.B.BodyForms.forms (stage_of l.rest) (params_at l.p.nodes l.params))
    l.fn.p.input l.p.input
    × (to_come g.I.Tokens.model l.p.input ≤ to_come g.I.Tokens.model l.fn.p.input)
    × Grows l.fn.p.nodes l.p.nodes
    × Apart (count l.fn.p.nodes) l.p.nodes (flat param_parts l.params.items)
    × placed l.p.nodes l.params.items
    × (Loud g.I.Tokens.model l.fn.p.input → recorded g.I.Tokens.model l.p.input ≡ recorded g.I.Tokens.model l.fn.p.input
    → AllReadAlone g.B.BodyForms.forms (scope g.I.Tokens.model l.fn.p.input) (params_at l.p.nodes l.params))

abbrev pub decreases-parse_formal_params-loop-params : goal.decreases-parse_formal_params-loop-params
decreases-parse_formal_params-loop-params g l = to_come g.I.Tokens.model l.p.input
