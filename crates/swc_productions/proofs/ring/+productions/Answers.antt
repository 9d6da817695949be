-- What the steps of each production, one after another, ensure.
use Rattle.std.proofs.Common.{rules, Ok, Err, map, length, length-append, ◌≤◌, [], ◌∷◌, ◌≢◌, ◌++◌, ◌&&◌, ◌||◌, true}
use Rattle.std.proofs.Common.{false, not, Some, refl, sym, ap, subst, ◌∙◌, arith}
use Rattle.std.specs.Prelude.{slice_index_or}
use Rattle.swc_context.specs.Contexts.{view as deciding}
use Rattle.swc_context.specs.Spans.{from_to}
use Rattle.swc_context.specs.declared.error.SyntaxError.TheVariants.{OutOfMemory}
use Rattle.swc_nodes.specs.NodeParts.{param_parts}
use Rattle.swc_ast.specs.Trees.{items_of}
use Rattle.swc_steps.specs.Params.{params_at, placed, pat_at}
use Rattle.swc_nodes.specs.GrowingNodes.{From}
use Rattle.swc_primary.proofs.Placed.{params-more as placed-more}
use Rattle.swc_input.specs.Plain.{plain}
use Rattle.swc_input.specs.Kinds.{at_token}
use Rattle.swc_input.specs.Buffer.{context}
use Rattle.swc_grammar.specs.Tokens.{with_in, is_lparen, is_lbracket}
use Rattle.swc_grammar.specs.Tokens.{is_comma, is_dots, is_colon, is_dot, is_new, is_backquote, is_super, is_import}
use Rattle.swc_grammar.specs.Tokens.{is_question, is_star, is_await, is_yield, await_ok, yield_ok}
use Rattle.swc_ast.specs.Tree.{nil, cons, node, trees, span_of, tpl as tpl_kind}
use Rattle.swc_ast.specs.Parts.{item_of as item_tree_of, item_tree, quasi_tree}
use Rattle.swc_nodes.specs.Lists.{elem_parts, props_parts, exprs_parts, expr_trees}
use Rattle.swc_nodes.specs.NumberedTrees.{chain}
use Rattle.swc_nodes.specs.NodeParts.{flat, item_parts, args_parts, key_parts, one_expr, expr_part}
use Rattle.swc_nodes.specs.GrowingNodes.{count, seat_at, tree_at, first_at, start_at, end_at, Apart}
use Rattle.swc_nodes.proofs.Edges.{start-later}
use Rattle.swc_nodes.proofs.Lists.{apart-none, elem-same, item-same, prop-same, exprs-more, exprs-apart-more}
use Rattle.swc_nodes.proofs.Lists.{trees-both, trees-more, apart-later, apart-more-one}
use Rattle.swc_nodes.proofs.Waiting.{operands-first, operands-joined, operands-last, operands-more, operands-top}
use Rattle.swc_nodes.specs.Pending.{all_pending, first_operand}
use Rattle.swc_nodes.specs.Rising.{waiting}
use Rattle.swc_grammar.specs.Symbols.{Assign, Level, Unary, Lhs, Primary, Template}
use Rattle.swc_ast.specs.Trees.{trees_append, begins_in_invalid, cover_e, ident_e, to, await_e, cond_e, assign_e}
use Rattle.swc_ast.specs.Trees.{yield_e, hole_e, seq_of}
use Rattle.swc_ast.specs.Trees.{import_e, parts_e, tpl_e}
use Rattle.swc_input.specs.Recording.{is_some}
use Rattle.swc_grammar.specs.Clean.{sym as at, run, first, links, updates, climb, assigns, prefix_at}
use Rattle.swc_grammar.specs.Clean.{goes_on_yield_at}
use Rattle.swc_grammar.specs.Words.{◌>>=◌}
use Rattle.swc_steps.specs.Parsing.{scope, seen, seen_of, behind, tree_of, ident_spelling, key_at}
use Rattle.swc_steps.specs.Args.{paren_expr_tail}
use Rattle.swc_operators.specs.Assignments.{seqs_more, cond_tail, cond_close}
use Rattle.swc_operators.specs.Assignments.{assign_at, assign_tail, yield_tail, yield_operand, yield_expr}
use Rattle.swc_steps.specs.Readers.{begun_if, unary_op_node, unary_op_tail, nothing, unary_op}
use Rattle.swc_operators.specs.Updates.{update_at, update_node, update_tail, await_reads, await_tail, await_ident}
use Rattle.swc_operators.specs.Updates.{await_operand, update_prefix, await_expr}
use Rattle.swc_left.specs.Bases.{import_node, plain_base, import_by}
use Rattle.swc_left.specs.Links.{computed_close, call_node, construct_by, construct_node, new_by}
use Rattle.swc_left.specs.Links.{new_lhs, new_node, new_tail, link_tail}
use Rattle.swc_left.specs.Templates.{tagged_node, tpl_expr_close, parts_behind, parts_by}
use Rattle.swc_steps.specs.Lists.{element_item}
use Rattle.swc_primary.specs.declared.object.PropHead.TheVariants as head
use Rattle.swc_nodes.proofs.Standing.{grows-count, grows-same, grows-then}
use Rattle.swc_nodes.proofs.Held.{apart-from, from-down, from-later, from_self, first_kept, if_from, tree-later}
use Rattle.swc_steps.proofs.Building.{apart-down, apart-lower, apart_behind, grows-kept, made_over}
use Rattle.swc_steps.proofs.Emitted.{fit_here}
use Rattle.swc_operators.specs.Operands.{is_plain, goes_on}
use Rattle.swc_operators.specs.Pending.{pending_reads}
use Rattle.swc_operators.proofs.Assignments as assign
use Rattle.swc_operators.proofs.InContext.{args_within, as_set, aside, assign_within, elements_within, expr_within}
use Rattle.swc_operators.proofs.Sequences.{behind_comma}
use Rattle.swc_operators.proofs.Operands as operand
use Rattle.swc_operators.proofs.PlainOperands as plain_operand
use Rattle.swc_operators.proofs.Pending as pending
use Rattle.swc_steps.proofs.Args as args
use Rattle.swc_left.proofs.Bases as base
use Rattle.swc_left.proofs.Chains as chain
use Rattle.swc_primary.proofs.Begins as begins
use Rattle.swc_steps.proofs.Endings as ending
use Rattle.swc_steps.proofs.Keys as key
use Rattle.swc_left.proofs.Links as link
use Rattle.swc_steps.proofs.Lists as list
use Rattle.swc_steps.proofs.Loops as loop
use Rattle.swc_primary.proofs.Properties as props
use Rattle.swc_steps.proofs.Rules as rule
use Rattle.swc_steps.proofs.Steps as s
use Rattle.swc_left.proofs.Templates as tpl
use Rattle.swc_operators.proofs.Updates as update
use Rattle.swc_steps.proofs.Making as m
use Rattle.swc_steps.specs.Readers.{private_operand}
use Rattle.swc_cover.proofs.Rewriting as rewriting
use Rattle.swc_operators.specs.Assignments.{assign_by, assign_made, target_at, target_number}
use Rattle.swc_cover.proofs.Kept.{kept-grows, kept-less, kept-then}
use Rattle.swc_cover.proofs.Kept as cover_kept
use Rattle.swc_productions.proofs.ArrowBegins as told
use Rattle.swc_arrows.proofs.BaseLaws as base_law
use Rattle.swc_arrows.specs.Readers.{async_arrow, list_behind, list_head}
use Rattle.swc_arrows.specs.Answers.{callee_at, callee_parts}
use Rattle.swc_arrows.proofs.HeadLaws as head_law
use Rattle.swc_arrows.specs.Answers.{body_at}
use Rattle.swc_bodies.specs.Readings.{is_brace}
use Rattle.swc_nodes.specs.GrowingNodes.{body_end}
use Rattle.swc_nodes.proofs.Lists.{apart-more, list-later, same_first}
use Rattle.swc_arrows.proofs.Dooms.{doomed_later, doomed_unheard, fails_later, opens_after, opens_call_read, opens_later}
use Rattle.swc_arrows.proofs.Begun as begun
use Rattle.swc_arrows.proofs.Closes.{closed_clean}
use Rattle.swc_arrows.specs.Readers.{arrow_end, block_inside, name_arrow, others}
use Rattle.swc_nodes.specs.Lists.{pat_trees}
use Rattle.swc_productions.proofs.ArrowOrAssign as way
use Rattle.swc_productions.proofs.Recovered as again
use Rattle.swc_productions.proofs.ArrowBodies as bodies
use Rattle.swc_productions.proofs.InnerCalls as inside
use Rattle.swc_productions.proofs.Methods as methods
use Rattle.swc_productions.proofs.PlainKinds.{plain_kind}
use Rattle.swc_grammar.specs.Scope.{inner}
use Rattle.swc_primary.specs.Methods.{method_end}
use Rattle.swc_primary.proofs.Functions as function
use Rattle.swc_primary.proofs.Keyed as method
use Rattle.swc_productions.proofs.ring.+productions.Goals as goal
use Rattle.swc_primary.specs.Openings.{array_from, object_from}
use Rattle.swc_primary.proofs.Openings as opening
use Rattle.swc_operators.specs.Prefixes.{await_by_name}
use Rattle.swc_operators.proofs.Prefixes as prefix
use Rattle.swc_patterns.proofs.PropNodes as pat_node
use Rattle.swc_patterns.proofs.PropReads as pat_prop
use Rattle.swc_patterns.proofs.ObjectLists as pat_props
use Rattle.swc_patterns.proofs.PartlyRead as partly
use Rattle.std.proofs.Common.{◌≡◌}
use Rattle.swc_ast.specs.Patterns.{default_p}
use Rattle.swc_grammar.specs.Tokens.{is_equals}
use Rattle.swc_nodes.specs.Lists.{pat_elem_parts, pat_props_parts}
use Rattle.swc_nodes.specs.NodeParts.{one_pat, pat_part}
use Rattle.swc_patterns.proofs.Lists.{holed-more, params-more}
use Rattle.swc_patterns.proofs.Rests.{passed_stage}
use Rattle.swc_patterns.specs.Answers.{pat_props_at, if_there, pat_itself}
use Rattle.swc_patterns.specs.Arrays.{default_by, pat_kind, array_from as array_pat_from, array_pat_tail, elements_left}
use Rattle.swc_patterns.specs.Arrays.{is_item, item_read}
use Rattle.swc_patterns.specs.Objects.{props_done}
use Rattle.swc_patterns.specs.Params.{params_left, param_read}
use Rattle.swc_patterns.specs.Rests.{going, stage_of}
use Rattle.swc_patterns.proofs.ElementTurns as elem_turn
use Rattle.swc_patterns.proofs.FormalParams as formal
use Rattle.swc_patterns.proofs.Leaving as leaving
use Rattle.swc_patterns.proofs.ParamsRead as alone
use Rattle.swc_patterns.specs.ParamsRead.{AllReadAlone}
use Rattle.swc_patterns.specs.declared.pat.NextElement.TheVariants as next_element
use Rattle.swc_patterns.specs.declared.params.NextParam.TheVariants as next_param
use Rattle.swc_patterns.proofs.ParamTurns as param_turn
use Rattle.swc_patterns.proofs.Arrays as pat_array
use Rattle.swc_patterns.proofs.Beginnings as pat_begins
use Rattle.swc_patterns.proofs.Initialisers as pat_init
use Rattle.swc_productions.proofs.ring.+productions.Goals.{parse_pat_elements-in-Some+in_ok-arg-in-Some+in_ok-pat-in-Some}
use Rattle.swc_productions.proofs.ring.+productions.Goals.{parse_pat_elements-in-None+in_ok-pat-in-None}
use Rattle.swc_productions.proofs.ring.+productions.Goals.{parse_arrow_rest-in-Ok}
use Rattle.swc_productions.proofs.ring.+productions.Goals.{parse_arrow_rest-in-Err}
use Rattle.swc_productions.proofs.ring.+productions.Goals.{parse_formal_params-in-Some+in_ok-arg-in-Some+in_ok-eat-in-Some+in-Some-2+in_ok-value-in-Some-2+in_ok-pat-in-Some-2}
use Rattle.swc_productions.proofs.ring.+productions.Goals.{parse_formal_params-in-Some+in_ok-arg-in-Some+in_ok-eat-in-Some+in-None-2+in_ok-pat-in-None-2}
use Rattle.swc_productions.proofs.ring.+productions.Goals.{parse_formal_params-in-None+in_ok-pat-in-None}
use Rattle.std.proofs.Common.{None}
use Rattle.swc_nodes.proofs.Lists.{apart-list-more}
use Rattle.swc_steps.specs.Parsing.{Produces}
use Rattle.swc_nodes.specs.NodeParts.{if_some}
use Rattle.swc_steps.specs.Lists.{eaten}

pub parse_primary_expr-returns-in_err-look : goal.parse_primary_expr-returns-in_err-look
parse_primary_expr-returns-in_err-look g t c =
    m.refused c.from_residual.ensures.1
    (s.unheard_memory c.in_err-look.ensures.looks) (grows-same _)

pub parse_primary_expr-returns-in_err-list-in-Paren : goal.parse_primary_expr-returns-in_err-list-in-Paren
parse_primary_expr-returns-in_err-list-in-Paren g t c =
    let inner = args_within g.B.BodyForms.forms false c.get_ctx.ensures c.items_context-ctx.ensures.decides
    c.replace_ctx-before.ensures.before c.replace_ctx-before.ensures.moves c.replace_ctx-before.ensures.context
    c.parse_args-read.ensures c.in_err-list-in-Paren.was c.replace_ctx.ensures.moves c.replace_ctx.ensures.context in
    let sign = opening.is_paren _ (sym c.primary_kind.ensures ∙ c.in-Paren.is) in
    let first = c.skip.ensures.took.1 in
    let start = c.cur_span-start.result in
    let place = s.place_was first c.cur_span-start.result c.cur_span-start.ensures in
    let begun = s.on_then (s.on_seen c.in_ok-look.ensures.looks
    (λ x ts same e. rule.paren_expr_picked _ x ts (ap (at_token is_lparen) e ∙ sign)))
    (s.on_took {g = paren_expr_tail g.B.BodyForms.forms start} g.met.I.Tokens.laws first
    (λ x ts. args.paren_expr_opens _ (plain first.was) x ts (rule.passes_plain is_lparen _ _ first.current sign) ∙ ap
    (λ v. paren_expr_tail g.B.BodyForms.forms v x ts) (sym place))) in
    m.refused c.from_residual-in_err-list-in-Paren.ensures.1
    (s.unheard_after begun
    (s.unheard_call _ (args.paren_expr_splits _ start) inner.reads)) inner.grows

pub parse_primary_expr-paren_items-requires : goal.parse_primary_expr-paren_items-requires
parse_primary_expr-paren_items-requires g t c =
    let inner = args_within g.B.BodyForms.forms false c.get_ctx.ensures c.items_context-ctx.ensures.decides
    c.replace_ctx-before.ensures.before c.replace_ctx-before.ensures.moves c.replace_ctx-before.ensures.context
    c.parse_args-read.ensures c.in_ok-list-in-Paren.was c.replace_ctx.ensures.moves c.replace_ctx.ensures.context in
    record { apart = apart-down (args_parts c.in_ok-list-in-Paren.list.items) inner.from }

pub parse_primary_expr-returns-in_ok-list-in-Paren : goal.parse_primary_expr-returns-in_ok-list-in-Paren
parse_primary_expr-returns-in_ok-list-in-Paren g t c =
    let inner = args_within g.B.BodyForms.forms false c.get_ctx.ensures c.items_context-ctx.ensures.decides
    c.replace_ctx-before.ensures.before c.replace_ctx-before.ensures.moves c.replace_ctx-before.ensures.context
    c.parse_args-read.ensures c.in_ok-list-in-Paren.was c.replace_ctx.ensures.moves c.replace_ctx.ensures.context in
    let sign = opening.is_paren _ (sym c.primary_kind.ensures ∙ c.in-Paren.is) in
    let first = c.skip.ensures.took.1 in
    let start = c.cur_span-start.result in
    let place = s.place_was first c.cur_span-start.result c.cur_span-start.ensures in
    let begun = s.on_then (s.on_seen c.in_ok-look.ensures.looks
    (λ x ts same e. rule.paren_expr_picked _ x ts (ap (at_token is_lparen) e ∙ sign)))
    (s.on_took {g = paren_expr_tail g.B.BodyForms.forms start} g.met.I.Tokens.laws first
    (λ x ts. args.paren_expr_opens _ (plain first.was) x ts (rule.passes_plain is_lparen _ _ first.current sign) ∙ ap
    (λ v. paren_expr_tail g.B.BodyForms.forms v x ts) (sym place))) in
    m.after {m = record c.args.p.now { input = c.skip.new.input }} c.paren_items.result begun (grows-same _)
    (m.call_read c.paren_items.result _ (args.paren_expr_splits _ start)
    inner.reads (λ x ts us h y ys.
    closed_clean _ g.met.B.Bodies.lawful start c.in_ok-list-in-Paren.list x ts us
    inner.from h y ys) inner.grows (λ x h. h)
    (c.paren_items.ensures (count c.args.p.now.nodes) inner.from))

pub parse_primary_expr-returns-in_err-elems-in-Array : goal.parse_primary_expr-returns-in_err-elems-in-Array
parse_primary_expr-returns-in_err-elems-in-Array g t c =
    let took = c.skip-in-Array.ensures.took.1 in
    let start = c.cur_span.result in
    let place = ap (λ v. v.lo) (sym (s.place_was took start c.cur_span.ensures)) in
    let begun = opening.array_begins g.B.Bodies.is_faithful g.B.BodyForms.forms c.in_ok-look.ensures.looks
    (sym c.primary_kind.ensures ∙ c.in-Array.is) took place in
    let inner = elements_within g.B.BodyForms.forms c.get_ctx-in-Array.ensures
    c.items_context-ctx-in-Array.ensures.decides c.replace_ctx-before-in-Array.ensures.before
    c.replace_ctx-before-in-Array.ensures.moves c.replace_ctx-before-in-Array.ensures.context
    c.parse_elements-read.ensures c.in_err-elems-in-Array.was c.replace_ctx-in-Array.ensures.moves
    c.replace_ctx-in-Array.ensures.context in
    m.refused c.from_residual-in_err-elems-in-Array.ensures.1
    (s.unheard_after begun
    (s.unheard_call (λ x p. Some (array_from start.lo p.0, p.1)) (λ x ts. refl) inner.reads))
    inner.grows

pub parse_primary_expr-array_lit-requires : goal.parse_primary_expr-array_lit-requires
parse_primary_expr-array_lit-requires g t c =
    let inner = elements_within g.B.BodyForms.forms c.get_ctx-in-Array.ensures
    c.items_context-ctx-in-Array.ensures.decides c.replace_ctx-before-in-Array.ensures.before
    c.replace_ctx-before-in-Array.ensures.moves c.replace_ctx-before-in-Array.ensures.context
    c.parse_elements-read.ensures c.in_ok-elems-in-Array.was c.replace_ctx-in-Array.ensures.moves
    c.replace_ctx-in-Array.ensures.context in
    record { apart = apart-down (elem_parts c.in_ok-elems-in-Array.elems.items) inner.from }

pub parse_primary_expr-returns-in_ok-elems-in-Array : goal.parse_primary_expr-returns-in_ok-elems-in-Array
parse_primary_expr-returns-in_ok-elems-in-Array g t c =
    let took = c.skip-in-Array.ensures.took.1 in
    let start = c.cur_span.result in
    let place = ap (λ v. v.lo) (sym (s.place_was took start c.cur_span.ensures)) in
    let begun = opening.array_begins g.B.Bodies.is_faithful g.B.BodyForms.forms c.in_ok-look.ensures.looks
    (sym c.primary_kind.ensures ∙ c.in-Array.is) took place in
    let inner = elements_within g.B.BodyForms.forms c.get_ctx-in-Array.ensures
    c.items_context-ctx-in-Array.ensures.decides c.replace_ctx-before-in-Array.ensures.before
    c.replace_ctx-before-in-Array.ensures.moves c.replace_ctx-before-in-Array.ensures.context
    c.parse_elements-read.ensures c.in_ok-elems-in-Array.was c.replace_ctx-in-Array.ensures.moves
    c.replace_ctx-in-Array.ensures.context in
    m.after {m = record c.args.p.now { input = c.skip-in-Array.new.input }} c.array_lit.result begun (grows-same _)
    (m.call c.array_lit.result (λ x p. Some (array_from start.lo p.0, p.1))
    (λ x ts. refl) inner.reads inner.grows (λ x h. h)
    (c.array_lit.ensures (count c.args.p.now.nodes) inner.from))

pub parse_primary_expr-returns-in_err-props-in-Object : goal.parse_primary_expr-returns-in_err-props-in-Object
parse_primary_expr-returns-in_err-props-in-Object g t c =
    let took = c.skip-in-Object.ensures.took.1 in
    let start = c.cur_span-in-Object.result in
    let place = ap (λ v. v.lo) (sym (s.place_was took start c.cur_span-in-Object.ensures)) in
    let begun = opening.object_begins g.B.Bodies.is_faithful g.B.BodyForms.forms c.in_ok-look.ensures.looks
    (sym c.primary_kind.ensures ∙ c.in-Object.is) took place in
    let inner = aside c.get_ctx-in-Object.ensures c.without_colon-ctx.ensures.decides
    c.replace_ctx-before-in-Object.ensures.before c.replace_ctx-before-in-Object.ensures.moves
    c.replace_ctx-before-in-Object.ensures.context c.parse_props-read.ensures c.in_err-props-in-Object.was
    c.replace_ctx-in-Object.ensures.moves c.replace_ctx-in-Object.ensures.context in
    m.refused c.from_residual-in_err-props-in-Object.ensures.1
    (s.unheard_after begun
    (s.unheard_call (λ x p. Some (object_from start.lo p.0, p.1)) (λ x ts. refl) inner.reads))
    inner.grows

pub parse_primary_expr-object_lit-requires : goal.parse_primary_expr-object_lit-requires
parse_primary_expr-object_lit-requires g t c =
    let inner = aside c.get_ctx-in-Object.ensures c.without_colon-ctx.ensures.decides
    c.replace_ctx-before-in-Object.ensures.before c.replace_ctx-before-in-Object.ensures.moves
    c.replace_ctx-before-in-Object.ensures.context c.parse_props-read.ensures c.in_ok-props-in-Object.was
    c.replace_ctx-in-Object.ensures.moves c.replace_ctx-in-Object.ensures.context in
    record { apart = apart-down (props_parts c.in_ok-props-in-Object.props.items) inner.from }

pub parse_primary_expr-returns-in_ok-props-in-Object : goal.parse_primary_expr-returns-in_ok-props-in-Object
parse_primary_expr-returns-in_ok-props-in-Object g t c =
    let took = c.skip-in-Object.ensures.took.1 in
    let start = c.cur_span-in-Object.result in
    let place = ap (λ v. v.lo) (sym (s.place_was took start c.cur_span-in-Object.ensures)) in
    let begun = opening.object_begins g.B.Bodies.is_faithful g.B.BodyForms.forms c.in_ok-look.ensures.looks
    (sym c.primary_kind.ensures ∙ c.in-Object.is) took place in
    let inner = aside c.get_ctx-in-Object.ensures c.without_colon-ctx.ensures.decides
    c.replace_ctx-before-in-Object.ensures.before c.replace_ctx-before-in-Object.ensures.moves
    c.replace_ctx-before-in-Object.ensures.context c.parse_props-read.ensures c.in_ok-props-in-Object.was
    c.replace_ctx-in-Object.ensures.moves c.replace_ctx-in-Object.ensures.context in
    m.after {m = record c.args.p.now { input = c.skip-in-Object.new.input }} c.object_lit.result begun (grows-same _)
    (m.call c.object_lit.result (λ x p. Some (object_from start.lo p.0, p.1))
    (λ x ts. refl) inner.reads inner.grows (λ x h. h)
    (c.object_lit.ensures (count c.args.p.now.nodes) inner.from))

pub parse_primary_expr-returns-in_err-start-in-Template : goal.parse_primary_expr-returns-in_err-start-in-Template
parse_primary_expr-returns-in_err-start-in-Template g t c =
    let picked = s.on_seen {g = run g.B.BodyForms.forms (at (Template false))} c.in_ok-look.ensures.looks
    (λ x ts same e. rule.template_picked _ x ts (s.no_head same)
    (ap (at_token is_backquote) e ∙ opening.is_template _ (sym c.primary_kind.ensures ∙ c.in-Template.is))) in
    m.refused c.from_residual-in_err-start-in-Template.ensures.1
    (s.unheard_after picked (s.unheard_call _ (tpl.template_splits _ false)
    (c.in_err-start-in-Template.ensures.expects g.B.Bodies.is_faithful))) (grows-same _)

pub parse_primary_expr-returns-in_err-parts-in-Template : goal.parse_primary_expr-returns-in_err-parts-in-Template
parse_primary_expr-returns-in_err-parts-in-Template g t c =
    let inner = aside c.get_ctx-in-Template.ensures c.without_colon-ctx-in-Template.ensures.decides
    c.replace_ctx-before-in-Template.ensures.before c.replace_ctx-before-in-Template.ensures.moves
    c.replace_ctx-before-in-Template.ensures.context c.parse_tpl_elements-read.ensures c.in_err-parts-in-Template.was
    c.replace_ctx-in-Template.ensures.moves c.replace_ctx-in-Template.ensures.context in
    let picked = s.on_seen {g = run g.B.BodyForms.forms (at (Template false))} c.in_ok-look.ensures.looks
    (λ x ts same e. rule.template_picked _ x ts (s.no_head same)
    (ap (at_token is_backquote) e ∙ opening.is_template _ (sym c.primary_kind.ensures ∙ c.in-Template.is))) in
    let start = c.in_ok-start-in-Template.start in
    m.refused c.from_residual-in_err-parts-in-Template.ensures.1
    (s.unheard_after (s.on_then picked (s.on_call _ (tpl.template_splits _ false)
    (c.in_ok-start-in-Template.ensures.expects g.B.Bodies.is_faithful).on))
    (s.unheard_call (λ x p. Some (tpl_e (to start (span_of p.0)) p.0, p.1))
    (λ x ts. refl) inner.reads)) inner.grows

pub parse_primary_expr-tpl-node-requires : goal.parse_primary_expr-tpl-node-requires
parse_primary_expr-tpl-node-requires g t c =
    let inner = aside c.get_ctx-in-Template.ensures c.without_colon-ctx-in-Template.ensures.decides
    c.replace_ctx-before-in-Template.ensures.before c.replace_ctx-before-in-Template.ensures.moves
    c.replace_ctx-before-in-Template.ensures.context c.parse_tpl_elements-read.ensures c.in_ok-parts-in-Template.was
    c.replace_ctx-in-Template.ensures.moves c.replace_ctx-in-Template.ensures.context in
    record { apart = apart-down (exprs_parts c.in_ok-parts-in-Template.parts.exprs) inner.from }

pub parse_primary_expr-returns-in_ok-parts-in-Template : goal.parse_primary_expr-returns-in_ok-parts-in-Template
parse_primary_expr-returns-in_ok-parts-in-Template g t c =
    let inner = aside c.get_ctx-in-Template.ensures c.without_colon-ctx-in-Template.ensures.decides
    c.replace_ctx-before-in-Template.ensures.before c.replace_ctx-before-in-Template.ensures.moves
    c.replace_ctx-before-in-Template.ensures.context c.parse_tpl_elements-read.ensures c.in_ok-parts-in-Template.was
    c.replace_ctx-in-Template.ensures.moves c.replace_ctx-in-Template.ensures.context in
    let picked = s.on_seen {g = run g.B.BodyForms.forms (at (Template false))} c.in_ok-look.ensures.looks
    (λ x ts same e. rule.template_picked _ x ts (s.no_head same)
    (ap (at_token is_backquote) e ∙ opening.is_template _ (sym c.primary_kind.ensures ∙ c.in-Template.is))) in
    let start = c.in_ok-start-in-Template.start in
    let parts = c.in_ok-parts-in-Template.parts in
    let now = c.parse_tpl_elements-read.new.p.nodes in
    m.node _ c.tpl-node.result c.made.result (omega arith)
    (made_over _ _ _ (exprs_parts parts.exprs) _ c.tpl-node.result c.tpl-node.ensures.made
    inner.from)
    c.made.ensures.ok c.made.ensures.refused inner.grows c.tpl-node.ensures.grows
    (s.heard_after picked
    (s.heard_answer (ap (λ v. node tpl_kind (to start parts.end) v)
    (sym (trees-both (map quasi_tree parts.quasis.items) (map (tree_of now) parts.exprs.items))))
    (s.heard_more _ (tpl.template_splits _ false) (c.in_ok-start-in-Template.ensures.expects g.B.Bodies.is_faithful)
    (s.on_call (λ x p. Some (tpl_e (to start (span_of p.0)) p.0, p.1))
    (λ x ts. refl) inner.reads.on))))

pub parse_primary_expr-parse_plain_primary-requires : goal.parse_primary_expr-parse_plain_primary-requires
parse_primary_expr-parse_plain_primary-requires g t c =
    record { looked = opening.looked c.in_ok-look.ensures.looks; plain = sym c.primary_kind.ensures ∙ c.in-Plain.is }

pub parse_primary_expr-returns-in-Plain : goal.parse_primary_expr-returns-in-Plain
parse_primary_expr-returns-in-Plain g t c = m.after c.parse_plain_primary.result
    (s.on_seen c.in_ok-look.ensures.looks (λ x ts same e. refl)) (grows-same _) c.parse_plain_primary.ensures

pub parse_elements-loop-items-init : goal.parse_elements-loop-items-init
parse_elements-loop-items-init g t c =
    loop.started (list.elements_list _) _ _ _ _ g.met.I.Tokens.laws c.new-items.ensures.items

pub parse_elements-loop-items-preserved-in_ok-add-in-Some-2 :
    goal.parse_elements-loop-items-preserved-in_ok-add-in-Some-2
parse_elements-loop-items-preserved-in_ok-add-in-Some-2 g t c =
    let inv = c.loop-items.invariant in
    let more = loop.goes_on (list.elements_list _) inv c.in-None.is (c.in_ok-end.ensures.eats _) in
    loop.added _ _ _ _ elem-same inv more
    (loop.hole (element_item g.B.BodyForms.forms) c.in-Some-2.is (c.in_ok-eat.ensures.eats _)) (grows-same _)
    (apart-none (omega arith)) c.in_ok-add-in-Some-2.ensures.added

pub parse_elements-loop-items-preserved : goal.parse_elements-loop-items-preserved
parse_elements-loop-items-preserved g t c =
    let inv = c.loop-items.invariant in
    let more = loop.goes_on (list.elements_list _) inv c.in-None.is (c.in_ok-end.ensures.eats _) in
    let filled = loop.filled _ _ more c.in-None-2.is (c.in_ok-eat.ensures.eats _) in
    let read = c.in_ok-item-in-None-2 in
    loop.added _ _ _ _ elem-same inv filled
    (loop.separated read.ensures.reads (c.in_ok-trailing_comma-in-None-2.ensures.separates _))
    c.parse_expr_or_spread.ensures.grows (apart-from (expr_part read.item.expr) read.ensures.from)
    c.in_ok-add-in-None-2.ensures.added

pub parse_elements-returns-in_err-end : goal.parse_elements-returns-in_err-end
parse_elements-returns-in_err-end g t c =
    let inv = c.loop-items.invariant in
    m.refused c.from_residual.ensures.1 (loop.end_refused (list.elements_list _) inv (c.in_err-end.ensures.eats _))
    inv.grows

pub parse_elements-returns-in-Some : goal.parse_elements-returns-in-Some
parse_elements-returns-in-Some g t c =
    let inv = c.loop-items.invariant in
    m.yes (Ok _) (loop.closed (list.elements_list _) inv c.in-Some.is (c.in_ok-end.ensures.eats _)) inv.grows inv.apart

pub parse_elements-returns-in_err-eat : goal.parse_elements-returns-in_err-eat
parse_elements-returns-in_err-eat g t c =
    let inv = c.loop-items.invariant in
    let more = loop.goes_on (list.elements_list _) inv c.in-None.is (c.in_ok-end.ensures.eats _) in
    m.refused c.from_residual-in_err-eat.ensures.1 (loop.comma_refused _ _ more (c.in_err-eat.ensures.eats _)) inv.grows

pub parse_elements-returns-in_err-add-in-Some-2 : goal.parse_elements-returns-in_err-add-in-Some-2
parse_elements-returns-in_err-add-in-Some-2 g t c =
    let inv = c.loop-items.invariant in
    let more = loop.goes_on (list.elements_list _) inv c.in-None.is (c.in_ok-end.ensures.eats _) in
    m.refused c.from_residual-in_err-add-in-Some-2.ensures.1
    (loop.unkept _ more
    (loop.hole (element_item g.B.BodyForms.forms) c.in-Some-2.is (c.in_ok-eat.ensures.eats g.B.Bodies.is_faithful))
    c.in_err-add-in-Some-2.ensures.refused) inv.grows

pub parse_elements-returns-in_err-item-in-None-2 : goal.parse_elements-returns-in_err-item-in-None-2
parse_elements-returns-in_err-item-in-None-2 g t c =
    let inv = c.loop-items.invariant in
    let more = loop.goes_on (list.elements_list _) inv c.in-None.is (c.in_ok-end.ensures.eats _) in
    let filled = loop.filled _ _ more c.in-None-2.is (c.in_ok-eat.ensures.eats _) in
    m.refused c.from_residual-in_err-item-in-None-2.ensures.1
    (loop.item_refused _ _ filled c.in_err-item-in-None-2.ensures.reads)
    (grows-then inv.grows c.parse_expr_or_spread.ensures.grows)

pub parse_elements-returns-in_err-add-in-None-2 : goal.parse_elements-returns-in_err-add-in-None-2
parse_elements-returns-in_err-add-in-None-2 g t c =
    let inv = c.loop-items.invariant in
    let more = loop.goes_on (list.elements_list _) inv c.in-None.is (c.in_ok-end.ensures.eats _) in
    let filled = loop.filled _ _ more c.in-None-2.is (c.in_ok-eat.ensures.eats _) in
    m.refused c.from_residual-in_err-add-in-None-2.ensures.1
    (loop.unkept _ filled c.in_ok-item-in-None-2.ensures.reads c.in_err-add-in-None-2.ensures.refused)
    (grows-then inv.grows c.parse_expr_or_spread.ensures.grows)

pub parse_elements-returns-in_err-trailing_comma-in-None-2 : goal.parse_elements-returns-in_err-trailing_comma-in-None-2
parse_elements-returns-in_err-trailing_comma-in-None-2 g t c =
    let inv = c.loop-items.invariant in
    let more = loop.goes_on (list.elements_list _) inv c.in-None.is (c.in_ok-end.ensures.eats _) in
    let filled = loop.filled _ _ more c.in-None-2.is (c.in_ok-eat.ensures.eats _) in
    m.refused c.from_residual-in_err-trailing_comma-in-None-2.ensures.1
    (loop.comma_behind_refused _ _ filled c.in_ok-item-in-None-2.ensures.reads
    (c.in_err-trailing_comma-in-None-2.ensures.separates _))
    (grows-then inv.grows c.parse_expr_or_spread.ensures.grows)

pub parse_expr_or_spread-returns-in_err-spread : goal.parse_expr_or_spread-returns-in_err-spread
parse_expr_or_spread-returns-in_err-spread g t c =
    m.refused c.from_residual.ensures.1
    (s.unheard_call _ (list.item_splits _) (c.in_err-spread.ensures.eats g.B.Bodies.is_faithful)) (grows-same _)

pub parse_expr_or_spread-returns-in-Ok : goal.parse_expr_or_spread-returns-in-Ok
parse_expr_or_spread-returns-in-Ok g t c =
    m.yes (Ok _)
    (s.heard_after (s.on_call _ (list.item_splits _) (s.eats_on g.B.Bodies.is_faithful is_dots c.in_ok-spread.spread _ _
    (c.in_ok-spread.ensures.eats g.B.Bodies.is_faithful)))
    (s.heard_call (λ x q. Some (item_tree_of c.in_ok-spread.spread q.0, q.1)) (λ x ts. refl)
    (λ x ts. refl) c.in-Ok.ensures.reads))
    c.parse_assignment_expr.ensures.grows c.in-Ok.ensures.from

pub parse_expr_or_spread-returns-in-Err : goal.parse_expr_or_spread-returns-in-Err
parse_expr_or_spread-returns-in-Err g t c =
    m.no (s.unheard_as c.label_spread.result c.label_spread.ensures.kind c.label_spread.ensures.memory
    (s.unheard_after (s.on_call _ (list.item_splits _)
    (s.eats_on g.B.Bodies.is_faithful is_dots c.in_ok-spread.spread _ _
    (c.in_ok-spread.ensures.eats g.B.Bodies.is_faithful)))
    (s.unheard_call (λ x q. Some (item_tree_of c.in_ok-spread.spread q.0, q.1)) (λ x ts. refl) c.in-Err.ensures.reads)))
    c.parse_assignment_expr.ensures.grows

pub parse_props-loop-items-init : goal.parse_props-loop-items-init
parse_props-loop-items-init g t c =
    loop.started (props.props_list _) _ _ c.args.p.now _ g.met.I.Tokens.laws c.new-items.ensures.items

pub parse_props-loop-items-preserved : goal.parse_props-loop-items-preserved
parse_props-loop-items-preserved g t c =
    let more = loop.goes_on (props.props_list _) c.loop-items.invariant c.in-None.is (c.in_ok-end.ensures.eats _) in
    loop.added _ _ _ _ (prop-same g.B.Fun.Spanned.place g.B.Class.Spanned.place g.B.Block.Spanned.place)
    c.loop-items.invariant more
    (loop.separated c.in_ok-prop.ensures.reads (c.in_ok-trailing_comma.ensures.separates _))
    c.parse_object_prop.ensures.grows c.in_ok-prop.ensures.from c.in_ok-add.ensures.added

pub parse_props-returns-in_err-end : goal.parse_props-returns-in_err-end
parse_props-returns-in_err-end g t c =
    m.refused c.from_residual.ensures.1
    (loop.end_refused (props.props_list _) c.loop-items.invariant (c.in_err-end.ensures.eats _))
    c.loop-items.invariant.grows

pub parse_props-returns-in-Some : goal.parse_props-returns-in-Some
parse_props-returns-in-Some g t c =
    m.yes (Ok _) (loop.closed (props.props_list _) c.loop-items.invariant c.in-Some.is (c.in_ok-end.ensures.eats _))
    c.loop-items.invariant.grows c.loop-items.invariant.apart

pub parse_props-returns-in_err-prop : goal.parse_props-returns-in_err-prop
parse_props-returns-in_err-prop g t c =
    let more = loop.goes_on (props.props_list _) c.loop-items.invariant c.in-None.is (c.in_ok-end.ensures.eats _) in
    m.refused c.from_residual-in_err-prop.ensures.1 (loop.item_refused _ _ more c.in_err-prop.ensures.reads)
    (grows-then c.loop-items.invariant.grows c.parse_object_prop.ensures.grows)

pub parse_props-returns-in_err-add : goal.parse_props-returns-in_err-add
parse_props-returns-in_err-add g t c =
    let more = loop.goes_on (props.props_list _) c.loop-items.invariant c.in-None.is (c.in_ok-end.ensures.eats _) in
    m.refused c.from_residual-in_err-add.ensures.1
    (loop.unkept _ more c.in_ok-prop.ensures.reads c.in_err-add.ensures.refused)
    (grows-then c.loop-items.invariant.grows c.parse_object_prop.ensures.grows)

pub parse_props-returns-in_err-trailing_comma : goal.parse_props-returns-in_err-trailing_comma
parse_props-returns-in_err-trailing_comma g t c =
    let more = loop.goes_on (props.props_list _) c.loop-items.invariant c.in-None.is (c.in_ok-end.ensures.eats _) in
    m.refused c.from_residual-in_err-trailing_comma.ensures.1
    (loop.comma_behind_refused _ _ more c.in_ok-prop.ensures.reads (c.in_err-trailing_comma.ensures.separates _))
    (grows-then c.loop-items.invariant.grows c.parse_object_prop.ensures.grows)

pub parse_object_prop-returns-in_err-name : goal.parse_object_prop-returns-in_err-name
parse_object_prop-returns-in_err-name g t c =
    m.refused c.from_residual.ensures.1
    c.in_err-name.ensures.reads (grows-same _)

pub parse_object_prop-returns-in-Shorthand : goal.parse_object_prop-returns-in-Shorthand
parse_object_prop-returns-in-Shorthand g t c =
    let left = begins.begun g.I.Tokens.model g.B.Bodies.is_faithful g.B.BodyForms.forms _ _
    (head.Shorthand c.in-Shorthand.name) c.in-Shorthand.is c.in_ok-name.ensures.reads in
    m.yes (Ok _) left (grows-same _) (apart-none (omega arith))

pub parse_object_prop-returns-in_err-expr-in-Spread : goal.parse_object_prop-returns-in_err-expr-in-Spread
parse_object_prop-returns-in_err-expr-in-Spread g t c =
    let inner = assign_within g.B.BodyForms.forms c.get_ctx.ensures c.include_in-ctx.ensures.decides
    c.replace_ctx-before.ensures.before c.replace_ctx-before.ensures.moves c.replace_ctx-before.ensures.context
    c.parse_assignment_expr-read.ensures c.in_err-expr-in-Spread.was c.replace_ctx.ensures.moves
    c.replace_ctx.ensures.context in
    let left = begins.begun g.I.Tokens.model g.B.Bodies.is_faithful g.B.BodyForms.forms _ _
    (head.Spread c.in-Spread.dots) c.in-Spread.is c.in_ok-name.ensures.reads in
    m.refused c.from_residual-in_err-expr-in-Spread.ensures.1
    (s.unheard_after left
    (s.unheard_call _ (props.spread_prop_splits _ c.in-Spread.dots) inner.reads))
    inner.grows

pub parse_object_prop-returns-in_ok-expr-in-Spread : goal.parse_object_prop-returns-in_ok-expr-in-Spread
parse_object_prop-returns-in_ok-expr-in-Spread g t c =
    let inner = assign_within g.B.BodyForms.forms c.get_ctx.ensures c.include_in-ctx.ensures.decides
    c.replace_ctx-before.ensures.before c.replace_ctx-before.ensures.moves c.replace_ctx-before.ensures.context
    c.parse_assignment_expr-read.ensures c.in_ok-expr-in-Spread.was c.replace_ctx.ensures.moves
    c.replace_ctx.ensures.context in
    let left = begins.begun g.I.Tokens.model g.B.Bodies.is_faithful g.B.BodyForms.forms _ _
    (head.Spread c.in-Spread.dots) c.in-Spread.is c.in_ok-name.ensures.reads in
    m.yes (Ok _)
    (s.heard_answer (sym c.spread_prop.ensures.tree) (s.heard_after left
    (s.heard_call _ (props.spread_prop_splits _ c.in-Spread.dots) (λ x ts. refl) inner.reads)))
    inner.grows
    (subst (λ ps. Apart (count c.args.p.now.nodes) c.parse_assignment_expr-read.new.p.nodes ps)
    (sym c.spread_prop.ensures.parts)
    (apart-from (expr_part c.in_ok-expr-in-Spread.expr) inner.from))

pub parse_object_prop-returns-in_err-value-in-Cover : goal.parse_object_prop-returns-in_err-value-in-Cover
parse_object_prop-returns-in_err-value-in-Cover g t c =
    let inner = assign_within g.B.BodyForms.forms c.get_ctx-in-Cover.ensures c.include_in-ctx-in-Cover.ensures.decides
    c.replace_ctx-before-in-Cover.ensures.before c.replace_ctx-before-in-Cover.ensures.moves
    c.replace_ctx-before-in-Cover.ensures.context c.parse_assignment_expr-read-in-Cover.ensures
    c.in_err-value-in-Cover.was c.replace_ctx-in-Cover.ensures.moves c.replace_ctx-in-Cover.ensures.context in
    let n = ident_spelling c.in-Cover.name in
    let left = begins.begun g.I.Tokens.model g.B.Bodies.is_faithful g.B.BodyForms.forms _ _
    (head.Cover c.in-Cover.name) c.in-Cover.is c.in_ok-name.ensures.reads in
    m.refused c.from_residual-in_err-value-in-Cover.ensures.1
    (s.unheard_after left
    (s.unheard_call _ (props.cover_tail_splits _ n) inner.reads)) inner.grows

pub parse_object_prop-returns-in_ok-value-in-Cover : goal.parse_object_prop-returns-in_ok-value-in-Cover
parse_object_prop-returns-in_ok-value-in-Cover g t c =
    let inner = assign_within g.B.BodyForms.forms c.get_ctx-in-Cover.ensures c.include_in-ctx-in-Cover.ensures.decides
    c.replace_ctx-before-in-Cover.ensures.before c.replace_ctx-before-in-Cover.ensures.moves
    c.replace_ctx-before-in-Cover.ensures.context c.parse_assignment_expr-read-in-Cover.ensures
    c.in_ok-value-in-Cover.was c.replace_ctx-in-Cover.ensures.moves c.replace_ctx-in-Cover.ensures.context in
    let n = ident_spelling c.in-Cover.name in
    let left = begins.begun g.I.Tokens.model g.B.Bodies.is_faithful g.B.BodyForms.forms _ _
    (head.Cover c.in-Cover.name) c.in-Cover.is c.in_ok-name.ensures.reads in
    let value = c.in_ok-value-in-Cover in
    let v = tree_of c.parse_assignment_expr-read-in-Cover.new.p.nodes value.value in
    m.yes (Ok _)
    (s.heard_answer (sym c.cover_prop.ensures.tree) (s.heard_after left
    (s.heard_call_read _ (props.cover_tail_splits _ n)
    (λ x ts us h y ys. ap (λ e. Some (cover_e (from_to n.at.lo e) (ident_e n.at n.text) v, ys))
    (sym (ending.ended _ g.met.B.Bodies.lawful value.value Assign (with_in x) ts us inner.from
    (sym (rule.inside_assign _ x ts) ∙ h))))
    inner.reads)))
    inner.grows
    (subst (λ ps. Apart (count c.args.p.now.nodes) c.parse_assignment_expr-read-in-Cover.new.p.nodes ps)
    (sym c.cover_prop.ensures.parts)
    (apart-from (expr_part c.in_ok-value-in-Cover.value) inner.from))

pub parse_object_prop-returns-in_err-key-in-Key : goal.parse_object_prop-returns-in_err-key-in-Key
parse_object_prop-returns-in_err-key-in-Key g t c =
    let keyed = aside c.get_ctx-in-Key.ensures c.prop_name_context-ctx.ensures.decides
    c.replace_ctx-before-in-Key.ensures.before c.replace_ctx-before-in-Key.ensures.moves
    c.replace_ctx-before-in-Key.ensures.context c.parse_prop_name-read.ensures c.in_err-key-in-Key.was
    c.replace_ctx-in-Key.ensures.moves c.replace_ctx-in-Key.ensures.context in
    let left = begins.begun g.I.Tokens.model g.B.Bodies.is_faithful g.B.BodyForms.forms _ _ head.Key c.in-Key.is
    c.in_ok-name.ensures.reads in
    m.refused c.from_residual-in_err-key-in-Key.ensures.1
    (s.unheard_after left (s.unheard_call _ (method.key_splits _) keyed.reads))
    keyed.grows

pub parse_object_prop-returns-in_err-key-in-Method : goal.parse_object_prop-returns-in_err-key-in-Method
parse_object_prop-returns-in_err-key-in-Method g t c =
    let keyed = aside c.get_ctx-in-Method.ensures c.prop_name_context-ctx-in-Method.ensures.decides
    c.replace_ctx-before-in-Method.ensures.before c.replace_ctx-before-in-Method.ensures.moves
    c.replace_ctx-before-in-Method.ensures.context c.parse_prop_name-read-in-Method.ensures c.in_err-key-in-Method.was
    c.replace_ctx-in-Method.ensures.moves c.replace_ctx-in-Method.ensures.context in
    let kind = c.in-Method.kind in
    let start = c.in-Method.start in
    let left = begins.begun g.I.Tokens.model g.B.Bodies.is_faithful g.B.BodyForms.forms _ _
    (head.Method c.in-Method.kind c.in-Method.start) c.in-Method.is c.in_ok-name.ensures.reads in
    m.refused c.from_residual-in_err-key-in-Method.ensures.1
    (s.unheard_after left (s.unheard_call _ (method.method_tail_splits _ kind start)
    keyed.reads)) keyed.grows

pub parse_object_prop-returns-in_err-function-in-Method : goal.parse_object_prop-returns-in_err-function-in-Method
parse_object_prop-returns-in_err-function-in-Method g t c =
    let keyed = aside c.get_ctx-in-Method.ensures c.prop_name_context-ctx-in-Method.ensures.decides
    c.replace_ctx-before-in-Method.ensures.before c.replace_ctx-before-in-Method.ensures.moves
    c.replace_ctx-before-in-Method.ensures.context c.parse_prop_name-read-in-Method.ensures c.in_ok-key-in-Method.was
    c.replace_ctx-in-Method.ensures.moves c.replace_ctx-in-Method.ensures.context in
    let inner = methods.method_within g.B.BodyForms.forms g.met.B.Bodies.lawful (Some c.in-Method.kind)
    c.get_ctx-in-Method-2.ensures c.method_params-ctx-in-Method.ensures c.replace_ctx-before-in-Method-2.ensures.before
    c.replace_ctx-before-in-Method-2.ensures.moves c.replace_ctx-before-in-Method-2.ensures.context
    c.parse_method-read-in-Method.ensures c.in_err-function-in-Method.was c.replace_ctx-in-Method-2.ensures.moves
    c.replace_ctx-in-Method-2.ensures.context in
    let kind = c.in-Method.kind in
    let start = c.in-Method.start in
    let key = key_at c.parse_prop_name-read-in-Method.new.p.nodes c.in_ok-key-in-Method.key in
    let left = begins.begun g.I.Tokens.model g.B.Bodies.is_faithful g.B.BodyForms.forms _ _
    (head.Method c.in-Method.kind c.in-Method.start) c.in-Method.is c.in_ok-name.ensures.reads in
    m.refused c.from_residual-in_err-function-in-Method.ensures.1
    (s.unheard_after (s.on_then left (s.on_call _ (method.method_tail_splits _ kind start)
    keyed.reads.on))
    (s.unheard_call _ (method.method_behind_splits _ (Some kind) start key) inner.reads))
    (grows-then keyed.grows inner.grows)

pub parse_object_prop-returns-in_ok-function-in-Method : goal.parse_object_prop-returns-in_ok-function-in-Method
parse_object_prop-returns-in_ok-function-in-Method g t c =
    let keyed = aside c.get_ctx-in-Method.ensures c.prop_name_context-ctx-in-Method.ensures.decides
    c.replace_ctx-before-in-Method.ensures.before c.replace_ctx-before-in-Method.ensures.moves
    c.replace_ctx-before-in-Method.ensures.context c.parse_prop_name-read-in-Method.ensures c.in_ok-key-in-Method.was
    c.replace_ctx-in-Method.ensures.moves c.replace_ctx-in-Method.ensures.context in
    let inner = methods.method_within g.B.BodyForms.forms g.met.B.Bodies.lawful (Some c.in-Method.kind)
    c.get_ctx-in-Method-2.ensures c.method_params-ctx-in-Method.ensures c.replace_ctx-before-in-Method-2.ensures.before
    c.replace_ctx-before-in-Method-2.ensures.moves c.replace_ctx-before-in-Method-2.ensures.context
    c.parse_method-read-in-Method.ensures c.in_ok-function-in-Method.was c.replace_ctx-in-Method-2.ensures.moves
    c.replace_ctx-in-Method-2.ensures.context in
    let kind = c.in-Method.kind in
    let start = c.in-Method.start in
    let name = c.in_ok-key-in-Method.key in
    let key = key_at c.parse_prop_name-read-in-Method.new.p.nodes name in
    let fun = c.in_ok-function-in-Method.function in
    let left = begins.begun g.I.Tokens.model g.B.Bodies.is_faithful g.B.BodyForms.forms _ _
    (head.Method c.in-Method.kind c.in-Method.start) c.in-Method.is c.in_ok-name.ensures.reads in
    m.yes (Ok _)
    (s.heard_after left
    (s.heard_answer (method.method_made (Some kind) start name fun c.method_of-in-Method.result
    c.method_of-in-Method.ensures inner.grows keyed.from inner.from.1)
    (s.heard_more _ (method.method_tail_splits _ kind start) keyed.reads
    (s.on_call _ (method.method_behind_splits _ (Some kind) start key) inner.reads.on))))
    (grows-then keyed.grows inner.grows)
    (method.method_apart (Some kind) start name fun c.method_of-in-Method.result c.method_of-in-Method.ensures
    inner.grows
    keyed.from inner.from.0)

pub parse_object_prop-returns-in_err-eat-in-Key : goal.parse_object_prop-returns-in_err-eat-in-Key
parse_object_prop-returns-in_err-eat-in-Key g t c =
    let keyed = aside c.get_ctx-in-Key.ensures c.prop_name_context-ctx.ensures.decides
    c.replace_ctx-before-in-Key.ensures.before c.replace_ctx-before-in-Key.ensures.moves
    c.replace_ctx-before-in-Key.ensures.context c.parse_prop_name-read.ensures c.in_ok-key-in-Key.was
    c.replace_ctx-in-Key.ensures.moves c.replace_ctx-in-Key.ensures.context in
    let key = key_at c.parse_prop_name-read.new.p.nodes c.in_ok-key-in-Key.key in
    let left = begins.begun g.I.Tokens.model g.B.Bodies.is_faithful g.B.BodyForms.forms _ _ head.Key c.in-Key.is
    c.in_ok-name.ensures.reads in
    let named = s.on_then left (s.on_call _ (method.key_splits _) keyed.reads.on) in
    m.refused c.from_residual-in_err-eat-in-Key.ensures.1
    (s.unheard_after named
    (s.unheard_call _ (method.behind_key_splits _ key)
    (s.unheard_call _ (method.after_splits _) (c.in_err-eat-in-Key.ensures.eats g.B.Bodies.is_faithful))))
    keyed.grows

pub parse_object_prop-returns-in_err-value-in-Some : goal.parse_object_prop-returns-in_err-value-in-Some
parse_object_prop-returns-in_err-value-in-Some g t c =
    let keyed = aside c.get_ctx-in-Key.ensures c.prop_name_context-ctx.ensures.decides
    c.replace_ctx-before-in-Key.ensures.before c.replace_ctx-before-in-Key.ensures.moves
    c.replace_ctx-before-in-Key.ensures.context c.parse_prop_name-read.ensures c.in_ok-key-in-Key.was
    c.replace_ctx-in-Key.ensures.moves c.replace_ctx-in-Key.ensures.context in
    let inner = assign_within g.B.BodyForms.forms c.get_ctx-in-Some.ensures c.include_in-ctx-in-Some.ensures.decides
    c.replace_ctx-before-in-Some.ensures.before c.replace_ctx-before-in-Some.ensures.moves
    c.replace_ctx-before-in-Some.ensures.context c.parse_assignment_expr-read-in-Some.ensures
    c.in_err-value-in-Some.was c.replace_ctx-in-Some.ensures.moves c.replace_ctx-in-Some.ensures.context in
    let key = key_at c.parse_prop_name-read.new.p.nodes c.in_ok-key-in-Key.key in
    let left = begins.begun g.I.Tokens.model g.B.Bodies.is_faithful g.B.BodyForms.forms _ _ head.Key c.in-Key.is
    c.in_ok-name.ensures.reads in
    let named = s.on_then left (s.on_call _ (method.key_splits _) keyed.reads.on) in
    let some = s.on_call _ (method.after_splits g.B.BodyForms.forms)
    (s.eats_some g.B.Bodies.is_faithful is_colon _ c.in-Some.field-0 _ _ c.in-Some.is
    (c.in_ok-eat-in-Key.ensures.eats g.B.Bodies.is_faithful)).on in
    m.refused c.from_residual-in_err-value-in-Some.ensures.1
    (s.unheard_after named
    (s.unheard_call _ (method.behind_key_splits _ key)
    (s.unheard_after some
    (s.unheard_call _ (method.after_colon_splits _) inner.reads))))
    (grows-then keyed.grows inner.grows)

pub parse_object_prop-returns-in_ok-value-in-Some : goal.parse_object_prop-returns-in_ok-value-in-Some
parse_object_prop-returns-in_ok-value-in-Some g t c =
    let keyed = aside c.get_ctx-in-Key.ensures c.prop_name_context-ctx.ensures.decides
    c.replace_ctx-before-in-Key.ensures.before c.replace_ctx-before-in-Key.ensures.moves
    c.replace_ctx-before-in-Key.ensures.context c.parse_prop_name-read.ensures c.in_ok-key-in-Key.was
    c.replace_ctx-in-Key.ensures.moves c.replace_ctx-in-Key.ensures.context in
    let inner = assign_within g.B.BodyForms.forms c.get_ctx-in-Some.ensures c.include_in-ctx-in-Some.ensures.decides
    c.replace_ctx-before-in-Some.ensures.before c.replace_ctx-before-in-Some.ensures.moves
    c.replace_ctx-before-in-Some.ensures.context c.parse_assignment_expr-read-in-Some.ensures c.in_ok-value-in-Some.was
    c.replace_ctx-in-Some.ensures.moves c.replace_ctx-in-Some.ensures.context in
    let key = key_at c.parse_prop_name-read.new.p.nodes c.in_ok-key-in-Key.key in
    let left = begins.begun g.I.Tokens.model g.B.Bodies.is_faithful g.B.BodyForms.forms _ _ head.Key c.in-Key.is
    c.in_ok-name.ensures.reads in
    let some = s.on_call _ (method.after_splits g.B.BodyForms.forms)
    (s.eats_some g.B.Bodies.is_faithful is_colon _ c.in-Some.field-0 _ _ c.in-Some.is
    (c.in_ok-eat-in-Key.ensures.eats g.B.Bodies.is_faithful)).on in
    let read = s.heard_after some (s.heard_call _ (method.after_colon_splits _) (λ x ts. refl) inner.reads) in
    let made = method.key_prop_made c.in_ok-key-in-Key.key c.in_ok-value-in-Some.value c.key_prop.result
    c.key_prop.ensures inner.grows keyed.from inner.from in
    m.yes (Ok _)
    (s.heard_answer made.0 (s.heard_after left
    (s.heard_more _ (method.key_splits _) keyed.reads
    (s.on_call _ (method.behind_key_splits _ key) read.on))))
    (grows-then keyed.grows inner.grows) made.1

pub parse_object_prop-returns-in_err-function-in-None : goal.parse_object_prop-returns-in_err-function-in-None
parse_object_prop-returns-in_err-function-in-None g t c =
    let keyed = aside c.get_ctx-in-Key.ensures c.prop_name_context-ctx.ensures.decides
    c.replace_ctx-before-in-Key.ensures.before c.replace_ctx-before-in-Key.ensures.moves
    c.replace_ctx-before-in-Key.ensures.context c.parse_prop_name-read.ensures c.in_ok-key-in-Key.was
    c.replace_ctx-in-Key.ensures.moves c.replace_ctx-in-Key.ensures.context in
    let inner = methods.method_within g.B.BodyForms.forms g.met.B.Bodies.lawful None c.get_ctx-in-None.ensures
    c.method_params-ctx.ensures c.replace_ctx-before-in-None.ensures.before c.replace_ctx-before-in-None.ensures.moves
    c.replace_ctx-before-in-None.ensures.context c.parse_method-read.ensures c.in_err-function-in-None.was
    c.replace_ctx-in-None.ensures.moves c.replace_ctx-in-None.ensures.context in
    let key = key_at c.parse_prop_name-read.new.p.nodes c.in_ok-key-in-Key.key in
    let left = begins.begun g.I.Tokens.model g.B.Bodies.is_faithful g.B.BodyForms.forms _ _ head.Key c.in-Key.is
    c.in_ok-name.ensures.reads in
    let named = s.on_then left (s.on_call _ (method.key_splits _) keyed.reads.on) in
    let none = s.on_call _ (method.after_splits g.B.BodyForms.forms)
    (s.eats_none g.B.Bodies.is_faithful is_colon _ _ _ c.in-None.is
    (c.in_ok-eat-in-Key.ensures.eats g.B.Bodies.is_faithful)) in
    let same = s.on_here g.met.I.Tokens.laws c.eat.new.input (function.plain_function g.B.BodyForms.forms) in
    m.refused c.from_residual-in_err-function-in-None.ensures.1
    (s.unheard_after named
    (s.unheard_call _ (method.behind_key_splits _ key)
    (s.unheard_after (s.on_then none same) inner.reads)))
    (grows-then keyed.grows inner.grows)

pub parse_object_prop-returns-in_ok-function-in-None : goal.parse_object_prop-returns-in_ok-function-in-None
parse_object_prop-returns-in_ok-function-in-None g t c =
    let keyed = aside c.get_ctx-in-Key.ensures c.prop_name_context-ctx.ensures.decides
    c.replace_ctx-before-in-Key.ensures.before c.replace_ctx-before-in-Key.ensures.moves
    c.replace_ctx-before-in-Key.ensures.context c.parse_prop_name-read.ensures c.in_ok-key-in-Key.was
    c.replace_ctx-in-Key.ensures.moves c.replace_ctx-in-Key.ensures.context in
    let inner = methods.method_within g.B.BodyForms.forms g.met.B.Bodies.lawful None c.get_ctx-in-None.ensures
    c.method_params-ctx.ensures c.replace_ctx-before-in-None.ensures.before c.replace_ctx-before-in-None.ensures.moves
    c.replace_ctx-before-in-None.ensures.context c.parse_method-read.ensures c.in_ok-function-in-None.was
    c.replace_ctx-in-None.ensures.moves c.replace_ctx-in-None.ensures.context in
    let name = c.in_ok-key-in-Key.key in
    let key = key_at c.parse_prop_name-read.new.p.nodes name in
    let fun = c.in_ok-function-in-None.function in
    let left = begins.begun g.I.Tokens.model g.B.Bodies.is_faithful g.B.BodyForms.forms _ _ head.Key c.in-Key.is
    c.in_ok-name.ensures.reads in
    let none = s.on_call _ (method.after_splits g.B.BodyForms.forms)
    (s.eats_none g.B.Bodies.is_faithful is_colon _ _ _ c.in-None.is
    (c.in_ok-eat-in-Key.ensures.eats g.B.Bodies.is_faithful)) in
    let same = s.on_here g.met.I.Tokens.laws c.eat.new.input (function.plain_function g.B.BodyForms.forms) in
    let read = s.heard_after (s.on_then none same) inner.reads in
    m.yes (Ok _)
    (s.heard_answer (method.plain_made c.span-start.result name fun c.method_of.result c.span-start.ensures
    c.method_of.ensures inner.grows keyed.from)
    (s.heard_after left
    (s.heard_more _ (method.key_splits _) keyed.reads
    (s.on_call _ (method.behind_key_splits _ key) read.on))))
    (grows-then keyed.grows inner.grows)
    (method.method_apart None c.span-start.result name fun c.method_of.result c.method_of.ensures inner.grows
    keyed.from inner.from.0)

pub parse_method-returns-in_err-start : goal.parse_method-returns-in_err-start
parse_method-returns-in_err-start g t c =
    let hook = g.B.BodyForms.forms in
    let place = g.B.Block.Spanned.place in
    let kind = c.args.kind in
    m.refused c.from_residual.ensures.1
    (s.unheard_call _ (function.inside_splits hook place kind)
    (c.in_err-start.ensures.expects g.B.Bodies.is_faithful)) (grows-same _)

pub parse_method-returns-in_err-params : goal.parse_method-returns-in_err-params
parse_method-returns-in_err-params g t c =
    let hook = g.B.BodyForms.forms in
    let place = g.B.Block.Spanned.place in
    let kind = c.args.kind in
    let start = c.in_ok-start.start in
    m.refused c.from_residual-in_err-params.ensures.1
    (s.unheard_after (s.on_call _ (function.inside_splits hook place kind)
    (c.in_ok-start.ensures.expects g.B.Bodies.is_faithful).on)
    (s.unheard_call _ (function.left_splits hook place kind start) c.in_err-params.ensures.reads))
    c.in_err-params.ensures.grows

pub parse_method-close_method-requires : goal.parse_method-close_method-requires
parse_method-close_method-requires g t c =
    record {
      params = (
        apart-down (flat param_parts c.in_ok-params.params.items) c.in_ok-params.ensures.from.0,
        c.in_ok-params.ensures.from.1,
      );
    }

pub parse_method-returns : goal.parse_method-returns
parse_method-returns g t c =
    let hook = g.B.BodyForms.forms in
    let place = g.B.Block.Spanned.place in
    let kind = c.args.kind in
    let start = c.in_ok-start.start in
    let ps = params_at c.parse_formal_params.new.p.nodes c.in_ok-params.params in
    let left = s.on_then
    (function.on_then_both (λ x p. method_end hook place kind start (items_of p.0) x p.1)
    (function.left_splits hook place kind start) c.in_ok-params.ensures.reads)
    (s.on_here g.met.I.Tokens.laws _ (function.close_is hook place kind start ps)) in
    m.call {m = record c.args.p.now { input = c.expect_or.new.input }} c.close_method.result
    _ (function.inside_splits hook place kind) (c.in_ok-start.ensures.expects g.B.Bodies.is_faithful) (grows-same _)
    (λ x h. h)
    (m.on_after {m = c.parse_formal_params.new.p} c.close_method.result left c.in_ok-params.ensures.grows
    (c.close_method.ensures (count c.args.p.now.nodes) c.in_ok-params.ensures.from))

pub parse_lhs_expr-returns-in_err-look : goal.parse_lhs_expr-returns-in_err-look
parse_lhs_expr-returns-in_err-look g t c =
    m.refused c.from_residual.ensures.1
    (s.unheard_memory c.in_err-look.ensures.looks) (grows-same _)

pub parse_lhs_expr-returns-in_err-base : goal.parse_lhs_expr-returns-in_err-base
parse_lhs_expr-returns-in_err-base g t c =
    m.refused c.from_residual-in_err-base.ensures.1
    (s.unheard_after (s.on_seen {g = λ x ts. plain_base _ true x ts >>=
    (λ p. run _ (links true p.0) x p.1)} c.in_ok-look.ensures.looks
    (λ x ts same e. link.lhs_splits _ true x ts (s.no_head same) (link.not_new (first ts)
    (ap (λ o. at_token is_super o || at_token is_import o) e ∙ sym c.is_super_or_import.ensures
    ∙ c.if-is_super_or_import.true))))
    (s.unheard_call (λ x p. run _ (links true p.0) x p.1) (λ x ts. refl) c.in_err-base.ensures.reads))
    c.parse_base.ensures.grows

pub parse_lhs_expr-returns-then-is_super_or_import : goal.parse_lhs_expr-returns-then-is_super_or_import
parse_lhs_expr-returns-then-is_super_or_import g t c =
    m.after {m = record c.args.p.now { input = c.look.new.input }} c.parse_subscripts.result
    (s.on_seen {g = λ x ts. plain_base _ true x ts >>=
    (λ p. run _ (links true p.0) x p.1)} c.in_ok-look.ensures.looks
    (λ x ts same e. link.lhs_splits _ true x ts (s.no_head same) (link.not_new (first ts)
    (ap (λ o. at_token is_super o || at_token is_import o) e ∙ sym c.is_super_or_import.ensures
    ∙ c.if-is_super_or_import.true)))) (grows-same _)
    (m.call c.parse_subscripts.result (λ x p. run _ (links true p.0) x p.1) (λ x ts. refl)
    c.in_ok-base.ensures.reads c.parse_base.ensures.grows
    (λ x. from-down c.in_ok-base.ensures.from.above) c.parse_subscripts.ensures)

pub parse_lhs_expr-returns-in_err-callee : goal.parse_lhs_expr-returns-in_err-callee
parse_lhs_expr-returns-in_err-callee g t c =
    let member = aside c.get_ctx.ensures c.member_context-ctx.ensures.decides c.replace_ctx-before.ensures.before
    c.replace_ctx-before.ensures.moves c.replace_ctx-before.ensures.context c.parse_member_expr-read.ensures
    c.in_err-callee.was c.replace_ctx.ensures.moves c.replace_ctx.ensures.context in
    m.refused c.from_residual-in_err-callee.ensures.1
    (s.unheard_after (s.on_seen {g = λ x ts. run _ (at (Lhs false)) x ts >>=
    (λ p. run _ (links true p.0) x p.1)} c.in_ok-look.ensures.looks
    (λ x ts same e. link.lhs_parts _ x ts (s.no_head same)
    (ap (λ o. at_token is_super o || at_token is_import o) e ∙ sym c.is_super_or_import.ensures
    ∙ c.if-is_super_or_import.false)))
    (s.unheard_call (λ x p. run _ (links true p.0) x p.1) (λ x ts. refl)
    member.reads))
    member.grows

pub parse_lhs_expr-parse_subscripts-requires-2 : goal.parse_lhs_expr-parse_subscripts-requires-2
parse_lhs_expr-parse_subscripts-requires-2 g t c =
    let falls = c.parse_member_expr-read.ensures.falls in
    let read = c.in_ok-callee.was in
    let from = from-down (omega arith) (m.held_is _ c.parse_member_expr-read.result c.in_ok-callee.callee read
    c.parse_member_expr-read.ensures.from) in
    λ κs outlives. (search rules, (search rules, (search rules, (search rules, (search rules, (search rules, from))))))

pub parse_lhs_expr-returns : goal.parse_lhs_expr-returns
parse_lhs_expr-returns g t c =
    let member = aside c.get_ctx.ensures c.member_context-ctx.ensures.decides c.replace_ctx-before.ensures.before
    c.replace_ctx-before.ensures.moves c.replace_ctx-before.ensures.context c.parse_member_expr-read.ensures
    c.in_ok-callee.was c.replace_ctx.ensures.moves c.replace_ctx.ensures.context in
    m.after {m = record c.args.p.now { input = c.look.new.input }} c.parse_subscripts-2.result
    (s.on_seen {g = λ x ts. run _ (at (Lhs false)) x ts >>=
    (λ p. run _ (links true p.0) x p.1)} c.in_ok-look.ensures.looks
    (λ x ts same e. link.lhs_parts _ x ts (s.no_head same)
    (ap (λ o. at_token is_super o || at_token is_import o) e ∙ sym c.is_super_or_import.ensures
    ∙ c.if-is_super_or_import.false))) (grows-same _)
    (m.call c.parse_subscripts-2.result (λ x p. run _ (links true p.0) x p.1) (λ x ts. refl)
    member.reads member.grows (λ x. from-down member.from.above) c.parse_subscripts-2.ensures)

pub parse_member_expr-returns-in_err-look : goal.parse_member_expr-returns-in_err-look
parse_member_expr-returns-in_err-look g t c =
    m.refused c.from_residual.ensures.1
    (s.unheard_memory c.in_err-look.ensures.looks) (grows-same _)

pub parse_member_expr-returns-in_err-base : goal.parse_member_expr-returns-in_err-base
parse_member_expr-returns-in_err-base g t c =
    let b = false in
    m.refused c.from_residual-in_err-base.ensures.1
    (s.unheard_after (s.on_seen {g = λ x ts. plain_base _ b x ts >>=
    (λ p. run _ (links b p.0) x p.1)} c.in_ok-look.ensures.looks
    (λ x ts same e. link.lhs_splits _ b x ts (s.no_head same)
    (ap (at_token is_new) e ∙ sym c.is_sign.ensures.value ∙ c.if-not-is_sign.true)))
    (s.unheard_call (λ x p. run _ (links b p.0) x p.1) (λ x ts. refl) c.in_err-base.ensures.reads))
    c.parse_base.ensures.grows

pub parse_member_expr-returns-then-not-is_sign : goal.parse_member_expr-returns-then-not-is_sign
parse_member_expr-returns-then-not-is_sign g t c =
    let b = false in
    m.after {m = record c.args.p.now { input = c.look.new.input }} c.parse_subscripts.result
    (s.on_seen {g = λ x ts. plain_base _ b x ts >>= (λ p. run _ (links b p.0) x p.1)} c.in_ok-look.ensures.looks
    (λ x ts same e. link.lhs_splits _ b x ts (s.no_head same)
    (ap (at_token is_new) e ∙ sym c.is_sign.ensures.value ∙ c.if-not-is_sign.true))) (grows-same _)
    (m.call c.parse_subscripts.result (λ x p. run _ (links b p.0) x p.1) (λ x ts. refl)
    c.in_ok-base.ensures.reads c.parse_base.ensures.grows
    (λ x. from-down c.in_ok-base.ensures.from.above) c.parse_subscripts.ensures)

pub parse_member_expr-returns-in_err-eat : goal.parse_member_expr-returns-in_err-eat
parse_member_expr-returns-in_err-eat g t c =
    let first = c.skip.ensures.took.1 in
    let b = false in
    let start = c.cur_span-start.result in
    let place = s.place_was first start c.cur_span-start.ensures in
    let seen = s.on_seen {f = run g.B.BodyForms.forms (at (Lhs b))}
    {g = new_lhs g.B.BodyForms.forms b} c.in_ok-look.ensures.looks
    (λ x ts same e. link.new_splits g.B.BodyForms.forms b x ts (s.no_head same)
    (ap (at_token is_new) e ∙ sym c.is_sign.ensures.value ∙ c.if-not-is_sign.false)) in
    let behind = s.on_then seen (s.on_took {f = new_lhs g.B.BodyForms.forms b}
    {g = new_tail g.B.BodyForms.forms b start} g.met.I.Tokens.laws first
    (λ x ts. link.new_opens g.B.BodyForms.forms b (plain first.was) x ts ∙ ap
    (λ v. new_tail g.B.BodyForms.forms b v x ts) (sym place))) in
    m.refused c.from_residual-in_err-eat.ensures.1
    (s.unheard_after behind
    (s.unheard_call (λ x q. new_by _ b start q.0 x q.1) (λ x ts. refl)
    (c.in_err-eat.ensures.eats g.B.Bodies.is_faithful))) (grows-same _)

pub parse_member_expr-returns-in_err-target-in-Some : goal.parse_member_expr-returns-in_err-target-in-Some
parse_member_expr-returns-in_err-target-in-Some g t c =
    let first = c.skip.ensures.took.1 in
    let b = false in
    let start = c.cur_span-start.result in
    let place = s.place_was first start c.cur_span-start.ensures in
    let seen = s.on_seen {f = run g.B.BodyForms.forms (at (Lhs b))}
    {g = new_lhs g.B.BodyForms.forms b} c.in_ok-look.ensures.looks
    (λ x ts same e. link.new_splits g.B.BodyForms.forms b x ts (s.no_head same)
    (ap (at_token is_new) e ∙ sym c.is_sign.ensures.value ∙ c.if-not-is_sign.false)) in
    let behind = s.on_then seen (s.on_took {f = new_lhs g.B.BodyForms.forms b}
    {g = new_tail g.B.BodyForms.forms b start} g.met.I.Tokens.laws first
    (λ x ts. link.new_opens g.B.BodyForms.forms b (plain first.was) x ts ∙ ap
    (λ v. new_tail g.B.BodyForms.forms b v x ts) (sym place))) in
    let some = s.eats_some g.B.Bodies.is_faithful is_dot _ c.in-Some.field-0 _ _ c.in-Some.is
    (c.in_ok-eat.ensures.eats g.B.Bodies.is_faithful) in
    m.refused c.from_residual-in_err-target-in-Some.ensures.1
    (s.unheard_after (s.on_then behind (s.on_call (λ x q. new_by _ b start q.0 x q.1) (λ x ts. refl) some.on))
    (s.unheard_call (λ x q. run _ (links b q.0) x q.1) (λ x ts. refl) c.in_err-target-in-Some.ensures.reads))
    c.parse_new_target.ensures.grows

pub parse_member_expr-returns-in-Some : goal.parse_member_expr-returns-in-Some
parse_member_expr-returns-in-Some g t c =
    let first = c.skip.ensures.took.1 in
    let b = false in
    let start = c.cur_span-start.result in
    let place = s.place_was first start c.cur_span-start.ensures in
    let seen = s.on_seen {f = run g.B.BodyForms.forms (at (Lhs b))}
    {g = new_lhs g.B.BodyForms.forms b} c.in_ok-look.ensures.looks
    (λ x ts same e. link.new_splits g.B.BodyForms.forms b x ts (s.no_head same)
    (ap (at_token is_new) e ∙ sym c.is_sign.ensures.value ∙ c.if-not-is_sign.false)) in
    let behind = s.on_then seen (s.on_took {f = new_lhs g.B.BodyForms.forms b}
    {g = new_tail g.B.BodyForms.forms b start} g.met.I.Tokens.laws first
    (λ x ts. link.new_opens g.B.BodyForms.forms b (plain first.was) x ts ∙ ap
    (λ v. new_tail g.B.BodyForms.forms b v x ts) (sym place))) in
    let some = s.eats_some g.B.Bodies.is_faithful is_dot _ c.in-Some.field-0 _ _ c.in-Some.is
    (c.in_ok-eat.ensures.eats g.B.Bodies.is_faithful) in
    m.after {m = record c.args.p.now { input = c.eat.new.input }} c.parse_subscripts-in-Some.result
    (s.on_then behind (s.on_call (λ x q. new_by _ b start q.0 x q.1) (λ x ts. refl) some.on)) (grows-same _)
    (m.call c.parse_subscripts-in-Some.result (λ x q. run _ (links b q.0) x q.1) (λ x ts. refl)
    c.in_ok-target-in-Some.ensures.reads c.parse_new_target.ensures.grows
    (λ x. from-down c.in_ok-target-in-Some.ensures.from.above) c.parse_subscripts-in-Some.ensures)

pub parse_member_expr-returns-in_err-less : goal.parse_member_expr-returns-in_err-less
parse_member_expr-returns-in_err-less g t c =
    m.refused c.from_residual-in_err-less.ensures.1
    (s.unheard_memory (s.forgoes_later (s.leads_then (s.here_leads c.in_ok-look.ensures.looks)
    (s.leads_then (s.took_leads g.met.I.Tokens.laws c.skip.ensures.took.1)
    (s.eats_none g.B.Bodies.is_faithful is_dot _ _ _ c.in-None.is
    (c.in_ok-eat.ensures.eats g.B.Bodies.is_faithful)).leads))
    (s.forgoes_here g.met.I.Tokens.laws _ _ _ c.in_err-less.ensures.refused))) (grows-same _)

pub parse_member_expr-returns-in_err-callee : goal.parse_member_expr-returns-in_err-callee
parse_member_expr-returns-in_err-callee g t c =
    let first = c.skip.ensures.took.1 in
    let b = false in
    let start = c.cur_span-start.result in
    let place = s.place_was first start c.cur_span-start.ensures in
    let seen = s.on_seen {f = run g.B.BodyForms.forms (at (Lhs b))}
    {g = new_lhs g.B.BodyForms.forms b} c.in_ok-look.ensures.looks
    (λ x ts same e. link.new_splits g.B.BodyForms.forms b x ts (s.no_head same)
    (ap (at_token is_new) e ∙ sym c.is_sign.ensures.value ∙ c.if-not-is_sign.false)) in
    let behind = s.on_then seen (s.on_took {f = new_lhs g.B.BodyForms.forms b}
    {g = new_tail g.B.BodyForms.forms b start} g.met.I.Tokens.laws first
    (λ x ts. link.new_opens g.B.BodyForms.forms b (plain first.was) x ts ∙ ap
    (λ v. new_tail g.B.BodyForms.forms b v x ts) (sym place))) in
    let none = s.eats_none g.B.Bodies.is_faithful is_dot _ _ _ c.in-None.is
    (c.in_ok-eat.ensures.eats g.B.Bodies.is_faithful) in
    let begun = s.on_then behind (s.on_call (λ x q. new_by g.B.BodyForms.forms b start q.0 x q.1)
    (λ x ts. refl) none) in
    m.refused c.from_residual-in_err-callee.ensures.1
    (s.unheard_after begun (s.unheard_call _ (link.construct_splits _ b start) c.in_err-callee.ensures.reads))
    c.parse_member_expr.ensures.grows

pub parse_member_expr-returns-in_err-refuse_opt_chain : goal.parse_member_expr-returns-in_err-refuse_opt_chain
parse_member_expr-returns-in_err-refuse_opt_chain g t c =
    let first = c.skip.ensures.took.1 in
    let b = false in
    let start = c.cur_span-start.result in
    let place = s.place_was first start c.cur_span-start.ensures in
    let seen = s.on_seen {f = run g.B.BodyForms.forms (at (Lhs b))}
    {g = new_lhs g.B.BodyForms.forms b} c.in_ok-look.ensures.looks
    (λ x ts same e. link.new_splits g.B.BodyForms.forms b x ts (s.no_head same)
    (ap (at_token is_new) e ∙ sym c.is_sign.ensures.value ∙ c.if-not-is_sign.false)) in
    let behind = s.on_then seen (s.on_took {f = new_lhs g.B.BodyForms.forms b}
    {g = new_tail g.B.BodyForms.forms b start} g.met.I.Tokens.laws first
    (λ x ts. link.new_opens g.B.BodyForms.forms b (plain first.was) x ts ∙ ap
    (λ v. new_tail g.B.BodyForms.forms b v x ts) (sym place))) in
    let none = s.eats_none g.B.Bodies.is_faithful is_dot _ _ _ c.in-None.is
    (c.in_ok-eat.ensures.eats g.B.Bodies.is_faithful) in
    let begun = s.on_then behind (s.on_call (λ x q. new_by g.B.BodyForms.forms b start q.0 x q.1)
    (λ x ts. refl) none) in
    m.refused c.from_residual-in_err-refuse_opt_chain.ensures.1
    (s.unheard_after begun (s.unheard_after (s.on_call _
    (link.construct_splits _ b start) c.in_ok-callee.ensures.reads.on)
    (s.unheard_none (λ x ts. link.construct_refused _ b start _ x ts c.in_err-refuse_opt_chain.ensures.refuses.1)
    c.in_err-refuse_opt_chain.ensures.refuses.0))) c.parse_member_expr.ensures.grows

pub parse_member_expr-returns-in_err-eat-2 : goal.parse_member_expr-returns-in_err-eat-2
parse_member_expr-returns-in_err-eat-2 g t c =
    let first = c.skip.ensures.took.1 in
    let b = false in
    let start = c.cur_span-start.result in
    let place = s.place_was first start c.cur_span-start.ensures in
    let seen = s.on_seen {f = run g.B.BodyForms.forms (at (Lhs b))}
    {g = new_lhs g.B.BodyForms.forms b} c.in_ok-look.ensures.looks
    (λ x ts same e. link.new_splits g.B.BodyForms.forms b x ts (s.no_head same)
    (ap (at_token is_new) e ∙ sym c.is_sign.ensures.value ∙ c.if-not-is_sign.false)) in
    let behind = s.on_then seen (s.on_took {f = new_lhs g.B.BodyForms.forms b}
    {g = new_tail g.B.BodyForms.forms b start} g.met.I.Tokens.laws first
    (λ x ts. link.new_opens g.B.BodyForms.forms b (plain first.was) x ts ∙ ap
    (λ v. new_tail g.B.BodyForms.forms b v x ts) (sym place))) in
    let none = s.eats_none g.B.Bodies.is_faithful is_dot _ _ _ c.in-None.is
    (c.in_ok-eat.ensures.eats g.B.Bodies.is_faithful) in
    let begun = s.on_then behind (s.on_call (λ x q. new_by g.B.BodyForms.forms b start q.0 x q.1)
    (λ x ts. refl) none) in
    let l = tree_of c.parse_member_expr.new.p.nodes c.in_ok-callee.callee in
    let named = s.on_call _ (link.construct_splits g.B.BodyForms.forms b start) c.in_ok-callee.ensures.reads.on in
    let passes = s.on_by (λ x ts. link.construct_passes g.B.BodyForms.forms b start l x ts
    c.in_ok-refuse_opt_chain.ensures.passes.1) (s.on_same
    {f = construct_node g.B.BodyForms.forms b start l} g.met.I.Tokens.laws
    c.in_ok-refuse_opt_chain.ensures.passes.0) in
    m.refused c.from_residual-in_err-eat-2.ensures.1
    (s.unheard_after begun (s.unheard_after named (s.unheard_after passes
    (s.unheard_call (λ x q. construct_by _ b start l q.0 x q.1) (λ x ts. refl)
    (c.in_err-eat-2.ensures.eats g.B.Bodies.is_faithful))))) c.parse_member_expr.ensures.grows

pub parse_member_expr-returns-in_err-list-in-Some-2 : goal.parse_member_expr-returns-in_err-list-in-Some-2
parse_member_expr-returns-in_err-list-in-Some-2 g t c =
    let inner = args_within g.B.BodyForms.forms false c.get_ctx.ensures c.items_context-ctx.ensures.decides
    c.replace_ctx-before.ensures.before c.replace_ctx-before.ensures.moves c.replace_ctx-before.ensures.context
    c.parse_args-read.ensures c.in_err-list-in-Some-2.was c.replace_ctx.ensures.moves c.replace_ctx.ensures.context in
    let first = c.skip.ensures.took.1 in
    let b = false in
    let start = c.cur_span-start.result in
    let place = s.place_was first start c.cur_span-start.ensures in
    let seen = s.on_seen {f = run g.B.BodyForms.forms (at (Lhs b))}
    {g = new_lhs g.B.BodyForms.forms b} c.in_ok-look.ensures.looks
    (λ x ts same e. link.new_splits g.B.BodyForms.forms b x ts (s.no_head same)
    (ap (at_token is_new) e ∙ sym c.is_sign.ensures.value ∙ c.if-not-is_sign.false)) in
    let behind = s.on_then seen (s.on_took {f = new_lhs g.B.BodyForms.forms b}
    {g = new_tail g.B.BodyForms.forms b start} g.met.I.Tokens.laws first
    (λ x ts. link.new_opens g.B.BodyForms.forms b (plain first.was) x ts ∙ ap
    (λ v. new_tail g.B.BodyForms.forms b v x ts) (sym place))) in
    let none = s.eats_none g.B.Bodies.is_faithful is_dot _ _ _ c.in-None.is
    (c.in_ok-eat.ensures.eats g.B.Bodies.is_faithful) in
    let begun = s.on_then behind (s.on_call (λ x q. new_by g.B.BodyForms.forms b start q.0 x q.1)
    (λ x ts. refl) none) in
    let l = tree_of c.parse_member_expr.new.p.nodes c.in_ok-callee.callee in
    let named = s.on_call _ (link.construct_splits g.B.BodyForms.forms b start) c.in_ok-callee.ensures.reads.on in
    let passes = s.on_by (λ x ts. link.construct_passes g.B.BodyForms.forms b start l x ts
    c.in_ok-refuse_opt_chain.ensures.passes.1) (s.on_same
    {f = construct_node g.B.BodyForms.forms b start l} g.met.I.Tokens.laws
    c.in_ok-refuse_opt_chain.ensures.passes.0) in
    let some = s.eats_some g.B.Bodies.is_faithful is_lparen _ c.in-Some-2.field-0 _ _ c.in-Some-2.is
    (c.in_ok-eat-2.ensures.eats g.B.Bodies.is_faithful) in
    let opened = s.on_then begun (s.on_then named (s.on_then passes
    (s.on_call (λ x q. construct_by g.B.BodyForms.forms b start l q.0 x q.1) (λ x ts. refl) some.on))) in
    m.refused c.from_residual-in_err-list-in-Some-2.ensures.1
    (s.unheard_after opened (s.unheard_call (λ x q. run _ (links b q.0) x q.1) (λ x ts. refl)
    (s.unheard_call _ (link.new_args_splits _ start l) inner.reads)))
    (grows-then c.parse_member_expr.ensures.grows inner.grows)

pub parse_member_expr-new_expr-requires : goal.parse_member_expr-new_expr-requires
parse_member_expr-new_expr-requires g t c =
    let inner = args_within g.B.BodyForms.forms false c.get_ctx.ensures c.items_context-ctx.ensures.decides
    c.replace_ctx-before.ensures.before c.replace_ctx-before.ensures.moves c.replace_ctx-before.ensures.context
    c.parse_args-read.ensures c.in_ok-list-in-Some-2.was c.replace_ctx.ensures.moves c.replace_ctx.ensures.context in
    apart-down (one_expr c.in_ok-callee.callee ++ args_parts c.in_ok-list-in-Some-2.list.items)
    (apart_behind inner.grows c.in_ok-callee.ensures.from inner.from)

pub parse_member_expr-returns-in_err-base-in-Some-2 : goal.parse_member_expr-returns-in_err-base-in-Some-2
parse_member_expr-returns-in_err-base-in-Some-2 g t c =
    let inner = args_within g.B.BodyForms.forms false c.get_ctx.ensures c.items_context-ctx.ensures.decides
    c.replace_ctx-before.ensures.before c.replace_ctx-before.ensures.moves c.replace_ctx-before.ensures.context
    c.parse_args-read.ensures c.in_ok-list-in-Some-2.was c.replace_ctx.ensures.moves c.replace_ctx.ensures.context in
    let first = c.skip.ensures.took.1 in
    let b = false in
    let start = c.cur_span-start.result in
    let place = s.place_was first start c.cur_span-start.ensures in
    let seen = s.on_seen {f = run g.B.BodyForms.forms (at (Lhs b))}
    {g = new_lhs g.B.BodyForms.forms b} c.in_ok-look.ensures.looks
    (λ x ts same e. link.new_splits g.B.BodyForms.forms b x ts (s.no_head same)
    (ap (at_token is_new) e ∙ sym c.is_sign.ensures.value ∙ c.if-not-is_sign.false)) in
    let behind = s.on_then seen (s.on_took {f = new_lhs g.B.BodyForms.forms b}
    {g = new_tail g.B.BodyForms.forms b start} g.met.I.Tokens.laws first
    (λ x ts. link.new_opens g.B.BodyForms.forms b (plain first.was) x ts ∙ ap
    (λ v. new_tail g.B.BodyForms.forms b v x ts) (sym place))) in
    let none = s.eats_none g.B.Bodies.is_faithful is_dot _ _ _ c.in-None.is
    (c.in_ok-eat.ensures.eats g.B.Bodies.is_faithful) in
    let begun = s.on_then behind (s.on_call (λ x q. new_by g.B.BodyForms.forms b start q.0 x q.1)
    (λ x ts. refl) none) in
    let l = tree_of c.parse_member_expr.new.p.nodes c.in_ok-callee.callee in
    let named = s.on_call _ (link.construct_splits g.B.BodyForms.forms b start) c.in_ok-callee.ensures.reads.on in
    let passes = s.on_by (λ x ts. link.construct_passes g.B.BodyForms.forms b start l x ts
    c.in_ok-refuse_opt_chain.ensures.passes.1) (s.on_same
    {f = construct_node g.B.BodyForms.forms b start l} g.met.I.Tokens.laws
    c.in_ok-refuse_opt_chain.ensures.passes.0) in
    let some = s.eats_some g.B.Bodies.is_faithful is_lparen _ c.in-Some-2.field-0 _ _ c.in-Some-2.is
    (c.in_ok-eat-2.ensures.eats g.B.Bodies.is_faithful) in
    let opened = s.on_then begun (s.on_then named (s.on_then passes
    (s.on_call (λ x q. construct_by g.B.BodyForms.forms b start l q.0 x q.1) (λ x ts. refl) some.on))) in
    let base = m.tail {p = record c.parse_member_expr.new.p { input = c.eat-2.new.input }} (Err _)
    (λ v x p. new_node start v p.0 x p.1)
    (link.new_args_splits g.B.BodyForms.forms start l) inner.reads inner.grows
    c.in_ok-callee.ensures.from c.in_err-base-in-Some-2.ensures in
    m.refused c.from_residual-in_err-base-in-Some-2.ensures.1
    (s.unheard_after opened (s.unheard_call (λ x q. run _ (links b q.0) x q.1) (λ x ts. refl) base.reads))
    (grows-then c.parse_member_expr.ensures.grows base.grows)

pub parse_member_expr-returns-in_ok-base-in-Some-2 : goal.parse_member_expr-returns-in_ok-base-in-Some-2
parse_member_expr-returns-in_ok-base-in-Some-2 g t c =
    let inner = args_within g.B.BodyForms.forms false c.get_ctx.ensures c.items_context-ctx.ensures.decides
    c.replace_ctx-before.ensures.before c.replace_ctx-before.ensures.moves c.replace_ctx-before.ensures.context
    c.parse_args-read.ensures c.in_ok-list-in-Some-2.was c.replace_ctx.ensures.moves c.replace_ctx.ensures.context in
    let first = c.skip.ensures.took.1 in
    let b = false in
    let start = c.cur_span-start.result in
    let place = s.place_was first start c.cur_span-start.ensures in
    let seen = s.on_seen {f = run g.B.BodyForms.forms (at (Lhs b))}
    {g = new_lhs g.B.BodyForms.forms b} c.in_ok-look.ensures.looks
    (λ x ts same e. link.new_splits g.B.BodyForms.forms b x ts (s.no_head same)
    (ap (at_token is_new) e ∙ sym c.is_sign.ensures.value ∙ c.if-not-is_sign.false)) in
    let behind = s.on_then seen (s.on_took {f = new_lhs g.B.BodyForms.forms b}
    {g = new_tail g.B.BodyForms.forms b start} g.met.I.Tokens.laws first
    (λ x ts. link.new_opens g.B.BodyForms.forms b (plain first.was) x ts ∙ ap
    (λ v. new_tail g.B.BodyForms.forms b v x ts) (sym place))) in
    let none = s.eats_none g.B.Bodies.is_faithful is_dot _ _ _ c.in-None.is
    (c.in_ok-eat.ensures.eats g.B.Bodies.is_faithful) in
    let begun = s.on_then behind (s.on_call (λ x q. new_by g.B.BodyForms.forms b start q.0 x q.1)
    (λ x ts. refl) none) in
    let l = tree_of c.parse_member_expr.new.p.nodes c.in_ok-callee.callee in
    let named = s.on_call _ (link.construct_splits g.B.BodyForms.forms b start) c.in_ok-callee.ensures.reads.on in
    let passes = s.on_by (λ x ts. link.construct_passes g.B.BodyForms.forms b start l x ts
    c.in_ok-refuse_opt_chain.ensures.passes.1) (s.on_same
    {f = construct_node g.B.BodyForms.forms b start l} g.met.I.Tokens.laws
    c.in_ok-refuse_opt_chain.ensures.passes.0) in
    let some = s.eats_some g.B.Bodies.is_faithful is_lparen _ c.in-Some-2.field-0 _ _ c.in-Some-2.is
    (c.in_ok-eat-2.ensures.eats g.B.Bodies.is_faithful) in
    let opened = s.on_then begun (s.on_then named (s.on_then passes
    (s.on_call (λ x q. construct_by g.B.BodyForms.forms b start l q.0 x q.1) (λ x ts. refl) some.on))) in
    let base = m.tail {p = record c.parse_member_expr.new.p { input = c.eat-2.new.input }}
    (Ok c.in_ok-base-in-Some-2.base) (λ v x p. new_node start v p.0 x p.1)
    (link.new_args_splits g.B.BodyForms.forms start l) inner.reads inner.grows
    c.in_ok-callee.ensures.from c.in_ok-base-in-Some-2.ensures in
    m.after {m = record c.parse_member_expr.new.p { input = c.eat-2.new.input }} c.parse_subscripts-in-Some-2.result
    opened c.parse_member_expr.ensures.grows
    (m.call {j = first_at c.new_expr.new.p.nodes c.in_ok-base-in-Some-2.base.0} c.parse_subscripts-in-Some-2.result
    (λ x q. run _ (links b q.0) x q.1) (λ x ts. refl)
    base.reads base.grows (λ x. from-down (let a = c.in_ok-callee.ensures.from.above in let d = base.from.above in
    omega arith)) c.parse_subscripts-in-Some-2.ensures)

pub parse_member_expr-returns-in-None-2 : goal.parse_member_expr-returns-in-None-2
parse_member_expr-returns-in-None-2 g t c =
    let first = c.skip.ensures.took.1 in
    let b = false in
    let start = c.cur_span-start.result in
    let place = s.place_was first start c.cur_span-start.ensures in
    let seen = s.on_seen {f = run g.B.BodyForms.forms (at (Lhs b))}
    {g = new_lhs g.B.BodyForms.forms b} c.in_ok-look.ensures.looks
    (λ x ts same e. link.new_splits g.B.BodyForms.forms b x ts (s.no_head same)
    (ap (at_token is_new) e ∙ sym c.is_sign.ensures.value ∙ c.if-not-is_sign.false)) in
    let behind = s.on_then seen (s.on_took {f = new_lhs g.B.BodyForms.forms b}
    {g = new_tail g.B.BodyForms.forms b start} g.met.I.Tokens.laws first
    (λ x ts. link.new_opens g.B.BodyForms.forms b (plain first.was) x ts ∙ ap
    (λ v. new_tail g.B.BodyForms.forms b v x ts) (sym place))) in
    let none = s.eats_none g.B.Bodies.is_faithful is_dot _ _ _ c.in-None.is
    (c.in_ok-eat.ensures.eats g.B.Bodies.is_faithful) in
    let begun = s.on_then behind (s.on_call (λ x q. new_by g.B.BodyForms.forms b start q.0 x q.1)
    (λ x ts. refl) none) in
    let l = tree_of c.parse_member_expr.new.p.nodes c.in_ok-callee.callee in
    let named = s.on_call _ (link.construct_splits g.B.BodyForms.forms b start) c.in_ok-callee.ensures.reads.on in
    let passes = s.on_by (λ x ts. link.construct_passes g.B.BodyForms.forms b start l x ts
    c.in_ok-refuse_opt_chain.ensures.passes.1) (s.on_same
    {f = construct_node g.B.BodyForms.forms b start l} g.met.I.Tokens.laws
    c.in_ok-refuse_opt_chain.ensures.passes.0) in
    let closed = s.eats_none g.B.Bodies.is_faithful is_lparen _ _ _ c.in-None-2.is
    (c.in_ok-eat-2.ensures.eats g.B.Bodies.is_faithful) in
    m.node _ c.bare_new_expr-node.result c.made.result (c.in_ok-callee.ensures.from.above)
    c.bare_new_expr-node.ensures.made c.made.ensures.ok c.made.ensures.refused c.parse_member_expr.ensures.grows
    c.bare_new_expr-node.ensures.grows
    (s.heard_after begun (s.heard_more _ (link.construct_splits _ b start) c.in_ok-callee.ensures.reads
    (s.on_then passes (s.on_call (λ x q. construct_by _ b start l q.0 x q.1) (λ x ts. refl) closed))))

pub parse_base-returns-in_err-start : goal.parse_base-returns-in_err-start
parse_base-returns-in_err-start g t c =
    let b = not c.args.no_call in
    m.refused c.from_residual.ensures.1
    (s.unheard_call _ (base.plain_splits _ b) (c.in_err-start.ensures.eats g.B.Bodies.is_faithful)) (grows-same _)

pub parse_base-returns-in-Some : goal.parse_base-returns-in-Some
parse_base-returns-in-Some g t c =
    let b = not c.args.no_call in
    let some = s.eats_some g.B.Bodies.is_faithful is_super _ c.in-Some.start _ _ c.in-Some.is
    (c.in_ok-start.ensures.eats g.B.Bodies.is_faithful) in
    m.after c.parse_super.result (s.on_call _ (base.plain_splits _ b) some.on) (grows-same _) c.parse_super.ensures

pub parse_base-returns-in_err-start-2 : goal.parse_base-returns-in_err-start-2
parse_base-returns-in_err-start-2 g t c =
    let b = not c.args.no_call in
    let none = s.eats_none g.B.Bodies.is_faithful is_super _ _ _ c.in-None.is
    (c.in_ok-start.ensures.eats g.B.Bodies.is_faithful) in
    m.refused c.from_residual-in_err-start-2.ensures.1
    (s.unheard_after (s.on_call _ (base.plain_splits _ b) none)
    (s.unheard_call (λ x q. import_by _ b q.0 x q.1) (λ x ts. refl)
    (c.in_err-start-2.ensures.eats g.B.Bodies.is_faithful))) (grows-same _)

pub parse_base-returns-in-None-2 : goal.parse_base-returns-in-None-2
parse_base-returns-in-None-2 g t c =
    let b = not c.args.no_call in
    let none = s.eats_none g.B.Bodies.is_faithful is_super _ _ _ c.in-None.is
    (c.in_ok-start.ensures.eats g.B.Bodies.is_faithful) in
    let no = s.eats_none g.B.Bodies.is_faithful is_import _ _ _ c.in-None-2.is
    (c.in_ok-start-2.ensures.eats g.B.Bodies.is_faithful) in
    m.after c.parse_primary_expr.result (s.on_then (s.on_call _ (base.plain_splits _ b) none)
    (s.on_call (λ x q. import_by _ b q.0 x q.1) (λ x ts. refl) no)) (grows-same _) c.parse_primary_expr.ensures

pub parse_base-returns-in_err-span : goal.parse_base-returns-in_err-span
parse_base-returns-in_err-span g t c =
    let b = not c.args.no_call in
    let start = c.in-Some-2.start in
    let none = s.eats_none g.B.Bodies.is_faithful is_super _ _ _ c.in-None.is
    (c.in_ok-start.ensures.eats g.B.Bodies.is_faithful) in
    let some = s.eats_some g.B.Bodies.is_faithful is_import _ start _ _ c.in-Some-2.is
    (c.in_ok-start-2.ensures.eats g.B.Bodies.is_faithful) in
    let begun = s.on_then (s.on_call _ (base.plain_splits g.B.BodyForms.forms b) none)
    (s.on_call (λ x q. import_by g.B.BodyForms.forms b q.0 x q.1) (λ x ts. refl) some.on) in
    m.refused c.from_residual-in_err-span.ensures.1
    (s.unheard_after begun (s.unheard_call _ (base.import_splits _ b start)
    (c.in_err-span.ensures.parses g.B.Bodies.is_faithful))) (grows-kept c.import_head.ensures.nodes)

pub parse_base-returns-in-Meta : goal.parse_base-returns-in-Meta
parse_base-returns-in-Meta g t c =
    let b = not c.args.no_call in
    let start = c.in-Some-2.start in
    let none = s.eats_none g.B.Bodies.is_faithful is_super _ _ _ c.in-None.is
    (c.in_ok-start.ensures.eats g.B.Bodies.is_faithful) in
    let some = s.eats_some g.B.Bodies.is_faithful is_import _ start _ _ c.in-Some-2.is
    (c.in_ok-start-2.ensures.eats g.B.Bodies.is_faithful) in
    let begun = s.on_then (s.on_call _ (base.plain_splits g.B.BodyForms.forms b) none)
    (s.on_call (λ x q. import_by g.B.BodyForms.forms b q.0 x q.1) (λ x ts. refl) some.on) in
    let kept = grows-kept c.import_head.ensures.nodes in
    m.after {m = record c.args.p.now { input = c.eat-2.new.input }} c.import_meta.result begun (grows-same _)
    (m.call c.import_meta.result _ (base.import_splits _ b start)
    (s.heard_answer c.in-Meta.is (c.in_ok-span.ensures.parses g.B.Bodies.is_faithful)) kept
    (λ x. from-down (grows-count kept)) c.import_meta.ensures)

pub parse_base-returns-in_err-list-in-Call : goal.parse_base-returns-in_err-list-in-Call
parse_base-returns-in_err-list-in-Call g t c =
    let inner = args_within g.B.BodyForms.forms true c.get_ctx.ensures c.items_context-ctx.ensures.decides
    c.replace_ctx-before.ensures.before c.replace_ctx-before.ensures.moves c.replace_ctx-before.ensures.context
    c.parse_args-read.ensures c.in_err-list-in-Call.was c.replace_ctx.ensures.moves c.replace_ctx.ensures.context in
    let b = not c.args.no_call in
    let start = c.in-Some-2.start in
    let i = c.in-Call.import in
    let none = s.eats_none g.B.Bodies.is_faithful is_super _ _ _ c.in-None.is
    (c.in_ok-start.ensures.eats g.B.Bodies.is_faithful) in
    let some = s.eats_some g.B.Bodies.is_faithful is_import _ start _ _ c.in-Some-2.is
    (c.in_ok-start-2.ensures.eats g.B.Bodies.is_faithful) in
    let begun = s.on_then (s.on_call _ (base.plain_splits g.B.BodyForms.forms b) none)
    (s.on_call (λ x q. import_by g.B.BodyForms.forms b q.0 x q.1) (λ x ts. refl) some.on) in
    m.refused c.from_residual-in_err-list-in-Call.ensures.1
    (s.unheard_after begun (s.unheard_after (s.on_call _ (base.import_splits _ b start)
    (s.heard_answer c.in-Call.is (c.in_ok-span.ensures.parses g.B.Bodies.is_faithful)).on)
    (s.unheard_call (λ x p. import_node start (import_e i.span i.phase) p.0 x p.1)
    (λ x ts. refl) inner.reads)))
    (grows-then (grows-kept c.import_head.ensures.nodes) inner.grows)

pub parse_base-import_call-requires : goal.parse_base-import_call-requires
parse_base-import_call-requires g t c =
    let inner = args_within g.B.BodyForms.forms true c.get_ctx.ensures c.items_context-ctx.ensures.decides
    c.replace_ctx-before.ensures.before c.replace_ctx-before.ensures.moves c.replace_ctx-before.ensures.context
    c.parse_args-read.ensures c.in_ok-list-in-Call.was c.replace_ctx.ensures.moves c.replace_ctx.ensures.context in
    apart-down (args_parts c.in_ok-list-in-Call.list.items) inner.from

pub parse_base-returns-in_ok-list-in-Call : goal.parse_base-returns-in_ok-list-in-Call
parse_base-returns-in_ok-list-in-Call g t c =
    let inner = args_within g.B.BodyForms.forms true c.get_ctx.ensures c.items_context-ctx.ensures.decides
    c.replace_ctx-before.ensures.before c.replace_ctx-before.ensures.moves c.replace_ctx-before.ensures.context
    c.parse_args-read.ensures c.in_ok-list-in-Call.was c.replace_ctx.ensures.moves c.replace_ctx.ensures.context in
    let b = not c.args.no_call in
    let start = c.in-Some-2.start in
    let i = c.in-Call.import in
    let none = s.eats_none g.B.Bodies.is_faithful is_super _ _ _ c.in-None.is
    (c.in_ok-start.ensures.eats g.B.Bodies.is_faithful) in
    let some = s.eats_some g.B.Bodies.is_faithful is_import _ start _ _ c.in-Some-2.is
    (c.in_ok-start-2.ensures.eats g.B.Bodies.is_faithful) in
    let begun = s.on_then (s.on_call _ (base.plain_splits g.B.BodyForms.forms b) none)
    (s.on_call (λ x q. import_by g.B.BodyForms.forms b q.0 x q.1) (λ x ts. refl) some.on) in
    let kept = grows-kept c.import_head.ensures.nodes in
    m.after {m = c.import_head.new.p} c.import_call.result
    (s.on_then begun (s.on_call _ (base.import_splits _ b start)
    (s.heard_answer c.in-Call.is (c.in_ok-span.ensures.parses g.B.Bodies.is_faithful)).on)) kept
    (m.call c.import_call.result (λ x p. import_node start (import_e i.span i.phase) p.0 x p.1) (λ x ts. refl)
    inner.reads inner.grows (λ x. from-down (grows-count kept))
    (c.import_call.ensures _ inner.from))

pub parse_super-returns-in_err-super_head : goal.parse_super-returns-in_err-super_head
parse_super-returns-in_err-super_head g t c =
    m.refused c.from_residual.ensures.1
    (s.unheard_call _ (base.super_splits _ (not c.args.no_call) c.args.start)
    (c.in_err-super_head.ensures.continues g.B.Bodies.is_faithful)) (grows-same _)

pub parse_super-returns-in-Name : goal.parse_super-returns-in-Name
parse_super-returns-in-Name g t c =
    m.after c.parse_super_name.result (s.on_call _ (base.super_splits _ (not c.args.no_call) c.args.start)
    (s.on_answer c.in-Name.is (c.in_ok-super_head.ensures.continues g.B.Bodies.is_faithful)))
    (grows-same _) c.parse_super_name.ensures

pub parse_super-returns-in_err-expr-in-Computed : goal.parse_super-returns-in_err-expr-in-Computed
parse_super-returns-in_err-expr-in-Computed g t c =
    let inner = expr_within g.B.BodyForms.forms c.get_ctx.ensures c.include_in-ctx.ensures.decides
    c.replace_ctx-before.ensures.before c.replace_ctx-before.ensures.moves c.replace_ctx-before.ensures.context
    c.parse_expr-read.ensures c.in_err-expr-in-Computed.was c.replace_ctx.ensures.moves c.replace_ctx.ensures.context in
    let q = c.in-Computed.bracket in
    m.refused c.from_residual-in_err-expr-in-Computed.ensures.1
    (s.unheard_after (s.on_call _ (base.super_splits _ (not c.args.no_call) c.args.start)
    (s.on_answer c.in-Computed.is (c.in_ok-super_head.ensures.continues g.B.Bodies.is_faithful)))
    (s.unheard_call _ (base.computed_splits _ c.args.start q) inner.reads)) inner.grows

pub parse_super-returns-in-Computed : goal.parse_super-returns-in-Computed
parse_super-returns-in-Computed g t c =
    let inner = expr_within g.B.BodyForms.forms c.get_ctx.ensures c.include_in-ctx.ensures.decides
    c.replace_ctx-before.ensures.before c.replace_ctx-before.ensures.moves c.replace_ctx-before.ensures.context
    c.parse_expr-read.ensures c.in_ok-expr-in-Computed.was c.replace_ctx.ensures.moves c.replace_ctx.ensures.context in
    let q = c.in-Computed.bracket in
    m.after {m = record c.args.p.now { input = c.super_head.new.input }} c.super_computed.result
    (s.on_call _ (base.super_splits _ (not c.args.no_call) c.args.start)
    (s.on_answer c.in-Computed.is (c.in_ok-super_head.ensures.continues g.B.Bodies.is_faithful))) (grows-same _)
    (m.call c.super_computed.result _ (base.computed_splits _ c.args.start q)
    inner.reads inner.grows (λ x. from-down inner.from.above)
    (m.weaker c.super_computed.result c.super_computed.ensures))

pub parse_super-returns-in_err-list-in-Call : goal.parse_super-returns-in_err-list-in-Call
parse_super-returns-in_err-list-in-Call g t c =
    let inner = args_within g.B.BodyForms.forms false c.get_ctx-in-Call.ensures c.items_context-ctx.ensures.decides
    c.replace_ctx-before-in-Call.ensures.before c.replace_ctx-before-in-Call.ensures.moves
    c.replace_ctx-before-in-Call.ensures.context c.parse_args-read.ensures c.in_err-list-in-Call.was
    c.replace_ctx-in-Call.ensures.moves c.replace_ctx-in-Call.ensures.context in
    m.refused c.from_residual-in_err-list-in-Call.ensures.1
    (s.unheard_after (s.on_call _ (base.super_splits _ (not c.args.no_call) c.args.start)
    (s.on_answer c.in-Call.is (c.in_ok-super_head.ensures.continues g.B.Bodies.is_faithful)))
    (s.unheard_call _ (base.args_splits _ c.args.start) inner.reads)) inner.grows

pub parse_super-callee_call-requires : goal.parse_super-callee_call-requires
parse_super-callee_call-requires g t c =
    let inner = args_within g.B.BodyForms.forms false c.get_ctx-in-Call.ensures c.items_context-ctx.ensures.decides
    c.replace_ctx-before-in-Call.ensures.before c.replace_ctx-before-in-Call.ensures.moves
    c.replace_ctx-before-in-Call.ensures.context c.parse_args-read.ensures c.in_ok-list-in-Call.was
    c.replace_ctx-in-Call.ensures.moves c.replace_ctx-in-Call.ensures.context in
    apart-down (args_parts c.in_ok-list-in-Call.list.items) inner.from

pub parse_super-returns-in-Call : goal.parse_super-returns-in-Call
parse_super-returns-in-Call g t c =
    let inner = args_within g.B.BodyForms.forms false c.get_ctx-in-Call.ensures c.items_context-ctx.ensures.decides
    c.replace_ctx-before-in-Call.ensures.before c.replace_ctx-before-in-Call.ensures.moves
    c.replace_ctx-before-in-Call.ensures.context c.parse_args-read.ensures c.in_ok-list-in-Call.was
    c.replace_ctx-in-Call.ensures.moves c.replace_ctx-in-Call.ensures.context in
    m.after {m = record c.args.p.now { input = c.super_head.new.input }} c.callee_call.result
    (s.on_call _ (base.super_splits _ (not c.args.no_call) c.args.start)
    (s.on_answer c.in-Call.is (c.in_ok-super_head.ensures.continues g.B.Bodies.is_faithful))) (grows-same _)
    (m.call c.callee_call.result _ (base.args_splits _ c.args.start)
    inner.reads inner.grows (λ x h. h)
    (c.callee_call.ensures _ inner.from))

-- neither a property nor a call: nothing is read
pub parse_super-returns-in_err-super_chain : goal.parse_super-returns-in_err-super_chain
parse_super-returns-in_err-super_chain g t c =
    let other = s.on_call _ (base.super_splits g.B.BodyForms.forms (not c.args.no_call) c.args.start)
    (s.on_answer c.in-Other.is (c.in_ok-super_head.ensures.continues g.B.Bodies.is_faithful)) in
    m.refused c.from_residual-in_err-super_chain.ensures.1
    (s.unheard_after other (s.unheard_none (λ x ts. refl) c.in_err-super_chain.ensures.acts)) (grows-same _)

pub parse_super-returns-in-Name-2 : goal.parse_super-returns-in-Name-2
parse_super-returns-in-Name-2 g t c =
    let other = s.on_call _ (base.super_splits g.B.BodyForms.forms (not c.args.no_call) c.args.start)
    (s.on_answer c.in-Other.is (c.in_ok-super_head.ensures.continues g.B.Bodies.is_faithful)) in
    m.after c.refuse_super_name.result (s.on_then other
    (s.on_none {g = nothing} (λ x ts. refl) (λ x ts. refl) c.in_ok-super_chain.ensures.acts))
    (grows-same _) c.refuse_super_name.ensures

pub parse_super-returns-in_err-read-in-Computed-2 : goal.parse_super-returns-in_err-read-in-Computed-2
parse_super-returns-in_err-read-in-Computed-2 g t c =
    let inner = expr_within g.B.BodyForms.forms c.get_ctx-in-Computed-2.ensures
    c.include_in-ctx-in-Computed-2.ensures.decides c.replace_ctx-before-in-Computed-2.ensures.before
    c.replace_ctx-before-in-Computed-2.ensures.moves c.replace_ctx-before-in-Computed-2.ensures.context
    c.parse_expr-read-in-Computed-2.ensures c.in_err-read-in-Computed-2.was c.replace_ctx-in-Computed-2.ensures.moves
    c.replace_ctx-in-Computed-2.ensures.context in
    let other = s.on_call _ (base.super_splits g.B.BodyForms.forms (not c.args.no_call) c.args.start)
    (s.on_answer c.in-Other.is (c.in_ok-super_head.ensures.continues g.B.Bodies.is_faithful)) in
    m.refused c.from_residual-in_err-read-in-Computed-2.ensures.1
    (s.unheard_after other (s.unheard_none (λ x ts. refl)
    (s.refuses_later c.in_ok-super_chain.ensures.acts inner.reads.refuses))) inner.grows

pub parse_super-returns-in_ok-read-in-Computed-2 : goal.parse_super-returns-in_ok-read-in-Computed-2
parse_super-returns-in_ok-read-in-Computed-2 g t c =
    let inner = expr_within g.B.BodyForms.forms c.get_ctx-in-Computed-2.ensures
    c.include_in-ctx-in-Computed-2.ensures.decides c.replace_ctx-before-in-Computed-2.ensures.before
    c.replace_ctx-before-in-Computed-2.ensures.moves c.replace_ctx-before-in-Computed-2.ensures.context
    c.parse_expr-read-in-Computed-2.ensures c.in_ok-read-in-Computed-2.was c.replace_ctx-in-Computed-2.ensures.moves
    c.replace_ctx-in-Computed-2.ensures.context in
    let other = s.on_call _ (base.super_splits g.B.BodyForms.forms (not c.args.no_call) c.args.start)
    (s.on_answer c.in-Other.is (c.in_ok-super_head.ensures.continues g.B.Bodies.is_faithful)) in
    m.no (s.unheard_after other (s.unheard_none (λ x ts. refl)
    (s.refuses_later (s.leads_then c.in_ok-super_chain.ensures.acts inner.reads.on.leads)
    c.refuse_super_brackets.ensures))) inner.grows

pub parse_super-returns-in_err-read-in-Call-2 : goal.parse_super-returns-in_err-read-in-Call-2
parse_super-returns-in_err-read-in-Call-2 g t c =
    let inner = args_within g.B.BodyForms.forms false c.get_ctx-in-Call-2.ensures
    c.items_context-ctx-in-Call-2.ensures.decides c.replace_ctx-before-in-Call-2.ensures.before
    c.replace_ctx-before-in-Call-2.ensures.moves c.replace_ctx-before-in-Call-2.ensures.context
    c.parse_args-read-in-Call-2.ensures c.in_err-read-in-Call-2.was c.replace_ctx-in-Call-2.ensures.moves
    c.replace_ctx-in-Call-2.ensures.context in
    let other = s.on_call _ (base.super_splits g.B.BodyForms.forms (not c.args.no_call) c.args.start)
    (s.on_answer c.in-Other.is (c.in_ok-super_head.ensures.continues g.B.Bodies.is_faithful)) in
    m.refused c.from_residual-in_err-read-in-Call-2.ensures.1
    (s.unheard_after other (s.unheard_none (λ x ts. refl)
    (s.refuses_later c.in_ok-super_chain.ensures.acts inner.reads.refuses)))
    inner.grows

pub parse_super-returns-in_ok-read-in-Call-2 : goal.parse_super-returns-in_ok-read-in-Call-2
parse_super-returns-in_ok-read-in-Call-2 g t c =
    let inner = args_within g.B.BodyForms.forms false c.get_ctx-in-Call-2.ensures
    c.items_context-ctx-in-Call-2.ensures.decides c.replace_ctx-before-in-Call-2.ensures.before
    c.replace_ctx-before-in-Call-2.ensures.moves c.replace_ctx-before-in-Call-2.ensures.context
    c.parse_args-read-in-Call-2.ensures c.in_ok-read-in-Call-2.was c.replace_ctx-in-Call-2.ensures.moves
    c.replace_ctx-in-Call-2.ensures.context in
    let other = s.on_call _ (base.super_splits g.B.BodyForms.forms (not c.args.no_call) c.args.start)
    (s.on_answer c.in-Other.is (c.in_ok-super_head.ensures.continues g.B.Bodies.is_faithful)) in
    m.no (s.unheard_after other (s.unheard_none (λ x ts. refl)
    (s.refuses_later (s.leads_then c.in_ok-super_chain.ensures.acts
    inner.reads.on.leads) c.refuse_super_args.ensures)))
    inner.grows

pub parse_subscripts-loop-head-init : goal.parse_subscripts-loop-head-init
parse_subscripts-loop-head-init g t c = (
  s.on_here g.met.I.Tokens.laws _ (λ x ts. refl),
  omega arith,
  grows-same _,
  from_self c.requires.from,
)

pub parse_subscripts-returns-in_err-head : goal.parse_subscripts-returns-in_err-head
parse_subscripts-returns-in_err-head g t c =
    let b = not c.args.no_call in
    let l = tree_of c.loop-head.p.nodes c.loop-head.obj in
    m.refused_more c.from_residual.ensures.1
    (s.unheard_after c.loop-head.invariant.0 (s.unheard_call _ (link.links_splits _ b l)
    (c.in_err-head.ensures.begins g.B.Bodies.is_faithful))) c.loop-head.invariant.2

pub parse_subscripts-returns-in-None : goal.parse_subscripts-returns-in-None
parse_subscripts-returns-in-None g t c =
    let b = not c.args.no_call in
    let l = tree_of c.loop-head.p.nodes c.loop-head.obj in
    m.on (Ok _)
    (s.on_then c.loop-head.invariant.0 (s.on_call _ (link.links_splits _ b l)
    (s.on_answer c.in-None.is (c.in_ok-head.ensures.begins g.B.Bodies.is_faithful))))
    c.loop-head.invariant.2 c.loop-head.invariant.3

pub parse_subscripts-returns-in_err-obj-in-Name : goal.parse_subscripts-returns-in_err-obj-in-Name
parse_subscripts-returns-in_err-obj-in-Name g t c =
    m.passed_more c.from_residual-in_err-obj-in-Name.ensures.1
    (chain.not_linked g.B.BodyForms.forms c.args.p.now c.loop-head.p _ c.loop-head.invariant c.in-Some.is
    (c.in_ok-head.ensures.begins g.B.Bodies.is_faithful)
    (m.after (Err _) (s.on_here {f = link_tail _ c.in-Some.head (tree_of c.loop-head.p.nodes c.loop-head.obj)}
    g.met.I.Tokens.laws _
    (λ x ts. link.tail_name _ c.in-Some.head c.in-Name.optional _ x ts c.in-Name.is))
    (grows-same _) c.in_err-obj-in-Name.ensures))

pub parse_subscripts-loop-head-preserved-in-Name : goal.parse_subscripts-loop-head-preserved-in-Name
parse_subscripts-loop-head-preserved-in-Name g t c =
    chain.linked g.B.BodyForms.forms c.args.p.now c.loop-head.p _ c.loop-head.invariant c.in-Some.is
    (c.in_ok-head.ensures.begins g.B.Bodies.is_faithful) c.in_ok-head.ensures.falls
    (m.after (Ok _) (s.on_here {f = link_tail _ c.in-Some.head (tree_of c.loop-head.p.nodes c.loop-head.obj)}
    g.met.I.Tokens.laws _
    (λ x ts. link.tail_name _ c.in-Some.head c.in-Name.optional _ x ts c.in-Name.is))
    (grows-same _) c.in_ok-obj-in-Name.ensures)

pub parse_subscripts-returns-in_err-expr-in-Computed : goal.parse_subscripts-returns-in_err-expr-in-Computed
parse_subscripts-returns-in_err-expr-in-Computed g t c =
    let inner = expr_within g.B.BodyForms.forms c.get_ctx.ensures c.include_in-ctx.ensures.decides
    c.replace_ctx-before.ensures.before c.replace_ctx-before.ensures.moves c.replace_ctx-before.ensures.context
    c.parse_expr-read.ensures c.in_err-expr-in-Computed.was c.replace_ctx.ensures.moves c.replace_ctx.ensures.context in
    let l = tree_of c.loop-head.p.nodes c.loop-head.obj in
    m.passed_more c.from_residual-in_err-expr-in-Computed.ensures.1
    (chain.not_linked g.B.BodyForms.forms c.args.p.now c.loop-head.p _ c.loop-head.invariant c.in-Some.is
    (c.in_ok-head.ensures.begins g.B.Bodies.is_faithful)
    (m.no (s.unheard_call (λ x p. computed_close c.in-Computed.optional c.in-Computed.start l p.0 x p.1)
    (λ x ts. link.tail_computed _ c.in-Some.head c.in-Computed.start c.in-Computed.optional l x ts c.in-Computed.is)
    inner.reads) inner.grows))

pub parse_subscripts-computed_member-requires : goal.parse_subscripts-computed_member-requires
parse_subscripts-computed_member-requires g t c =
    let inner = expr_within g.B.BodyForms.forms c.get_ctx.ensures c.include_in-ctx.ensures.decides
    c.replace_ctx-before.ensures.before c.replace_ctx-before.ensures.moves c.replace_ctx-before.ensures.context
    c.parse_expr-read.ensures c.in_ok-expr-in-Computed.was c.replace_ctx.ensures.moves c.replace_ctx.ensures.context in
    apart-down (one_expr c.loop-head.obj ++ one_expr c.in_ok-expr-in-Computed.expr)
    (apart_behind inner.grows c.loop-head.invariant.3 (apart-from (expr_part c.in_ok-expr-in-Computed.expr) inner.from))

pub parse_subscripts-returns-in_err-obj-in-Computed : goal.parse_subscripts-returns-in_err-obj-in-Computed
parse_subscripts-returns-in_err-obj-in-Computed g t c =
    let inner = expr_within g.B.BodyForms.forms c.get_ctx.ensures c.include_in-ctx.ensures.decides
    c.replace_ctx-before.ensures.before c.replace_ctx-before.ensures.moves c.replace_ctx-before.ensures.context
    c.parse_expr-read.ensures c.in_ok-expr-in-Computed.was c.replace_ctx.ensures.moves c.replace_ctx.ensures.context in
    m.passed_more c.from_residual-in_err-obj-in-Computed.ensures.1
    (chain.not_linked g.B.BodyForms.forms c.args.p.now c.loop-head.p _ c.loop-head.invariant c.in-Some.is
    (c.in_ok-head.ensures.begins g.B.Bodies.is_faithful)
    (m.tail (Err _) (λ v x p. computed_close c.in-Computed.optional c.in-Computed.start v p.0 x p.1)
    (λ x ts. link.tail_computed _ c.in-Some.head c.in-Computed.start c.in-Computed.optional _ x ts c.in-Computed.is)
    inner.reads inner.grows c.loop-head.invariant.3 (m.weaker (Err _) c.in_err-obj-in-Computed.ensures)))

pub parse_subscripts-loop-head-preserved-in-Computed : goal.parse_subscripts-loop-head-preserved-in-Computed
parse_subscripts-loop-head-preserved-in-Computed g t c =
    let inner = expr_within g.B.BodyForms.forms c.get_ctx.ensures c.include_in-ctx.ensures.decides
    c.replace_ctx-before.ensures.before c.replace_ctx-before.ensures.moves c.replace_ctx-before.ensures.context
    c.parse_expr-read.ensures c.in_ok-expr-in-Computed.was c.replace_ctx.ensures.moves c.replace_ctx.ensures.context in
    chain.linked g.B.BodyForms.forms c.args.p.now c.loop-head.p _ c.loop-head.invariant c.in-Some.is
    (c.in_ok-head.ensures.begins g.B.Bodies.is_faithful) c.in_ok-head.ensures.falls
    (m.tail (Ok _) (λ v x p. computed_close c.in-Computed.optional c.in-Computed.start v p.0 x p.1)
    (λ x ts. link.tail_computed _ c.in-Some.head c.in-Computed.start c.in-Computed.optional _ x ts c.in-Computed.is)
    inner.reads inner.grows c.loop-head.invariant.3 (m.weaker (Ok _) c.in_ok-obj-in-Computed.ensures))

pub parse_subscripts-returns-in_err-list-in-Call : goal.parse_subscripts-returns-in_err-list-in-Call
parse_subscripts-returns-in_err-list-in-Call g t c =
    let inner = args_within g.B.BodyForms.forms false c.get_ctx-in-Call.ensures c.items_context-ctx.ensures.decides
    c.replace_ctx-before-in-Call.ensures.before c.replace_ctx-before-in-Call.ensures.moves
    c.replace_ctx-before-in-Call.ensures.context c.parse_args-read.ensures c.in_err-list-in-Call.was
    c.replace_ctx-in-Call.ensures.moves c.replace_ctx-in-Call.ensures.context in
    let l = tree_of c.loop-head.p.nodes c.loop-head.obj in
    m.passed_more c.from_residual-in_err-list-in-Call.ensures.1
    (chain.not_linked g.B.BodyForms.forms c.args.p.now c.loop-head.p _ c.loop-head.invariant c.in-Some.is
    (c.in_ok-head.ensures.begins g.B.Bodies.is_faithful)
    (m.no (s.unheard_call (λ x p. call_node c.in-Call.optional l p.0 x p.1)
    (λ x ts. link.tail_call _ c.in-Some.head c.in-Call.optional l x ts c.in-Call.is)
    inner.reads) inner.grows))

pub parse_subscripts-call_expr-requires : goal.parse_subscripts-call_expr-requires
parse_subscripts-call_expr-requires g t c =
    let inner = args_within g.B.BodyForms.forms false c.get_ctx-in-Call.ensures c.items_context-ctx.ensures.decides
    c.replace_ctx-before-in-Call.ensures.before c.replace_ctx-before-in-Call.ensures.moves
    c.replace_ctx-before-in-Call.ensures.context c.parse_args-read.ensures c.in_ok-list-in-Call.was
    c.replace_ctx-in-Call.ensures.moves c.replace_ctx-in-Call.ensures.context in
    apart-down (one_expr c.loop-head.obj ++ args_parts c.in_ok-list-in-Call.list.items)
    (apart_behind inner.grows c.loop-head.invariant.3 inner.from)

pub parse_subscripts-returns-in_err-obj-in-Call : goal.parse_subscripts-returns-in_err-obj-in-Call
parse_subscripts-returns-in_err-obj-in-Call g t c =
    let inner = args_within g.B.BodyForms.forms false c.get_ctx-in-Call.ensures c.items_context-ctx.ensures.decides
    c.replace_ctx-before-in-Call.ensures.before c.replace_ctx-before-in-Call.ensures.moves
    c.replace_ctx-before-in-Call.ensures.context c.parse_args-read.ensures c.in_ok-list-in-Call.was
    c.replace_ctx-in-Call.ensures.moves c.replace_ctx-in-Call.ensures.context in
    m.passed_more c.from_residual-in_err-obj-in-Call.ensures.1
    (chain.not_linked g.B.BodyForms.forms c.args.p.now c.loop-head.p _ c.loop-head.invariant c.in-Some.is
    (c.in_ok-head.ensures.begins g.B.Bodies.is_faithful)
    (m.tail (Err _) (λ v x p. call_node c.in-Call.optional v p.0 x p.1)
    (λ x ts. link.tail_call _ c.in-Some.head c.in-Call.optional _ x ts c.in-Call.is)
    inner.reads inner.grows c.loop-head.invariant.3 c.in_err-obj-in-Call.ensures))

pub parse_subscripts-loop-head-preserved-in-Call : goal.parse_subscripts-loop-head-preserved-in-Call
parse_subscripts-loop-head-preserved-in-Call g t c =
    let inner = args_within g.B.BodyForms.forms false c.get_ctx-in-Call.ensures c.items_context-ctx.ensures.decides
    c.replace_ctx-before-in-Call.ensures.before c.replace_ctx-before-in-Call.ensures.moves
    c.replace_ctx-before-in-Call.ensures.context c.parse_args-read.ensures c.in_ok-list-in-Call.was
    c.replace_ctx-in-Call.ensures.moves c.replace_ctx-in-Call.ensures.context in
    chain.linked g.B.BodyForms.forms c.args.p.now c.loop-head.p _ c.loop-head.invariant c.in-Some.is
    (c.in_ok-head.ensures.begins g.B.Bodies.is_faithful) c.in_ok-head.ensures.falls
    (m.tail (Ok _) (λ v x p. call_node c.in-Call.optional v p.0 x p.1)
    (λ x ts. link.tail_call _ c.in-Some.head c.in-Call.optional _ x ts c.in-Call.is)
    inner.reads inner.grows c.loop-head.invariant.3 c.in_ok-obj-in-Call.ensures)

pub parse_subscripts-returns-in_err-parts-in-Template : goal.parse_subscripts-returns-in_err-parts-in-Template
parse_subscripts-returns-in_err-parts-in-Template g t c =
    let inner = aside c.get_ctx-in-Template.ensures c.without_colon-ctx.ensures.decides
    c.replace_ctx-before-in-Template.ensures.before c.replace_ctx-before-in-Template.ensures.moves
    c.replace_ctx-before-in-Template.ensures.context c.parse_tpl_elements-read.ensures c.in_err-parts-in-Template.was
    c.replace_ctx-in-Template.ensures.moves c.replace_ctx-in-Template.ensures.context in
    let l = tree_of c.loop-head.p.nodes c.loop-head.obj in
    m.passed_more c.from_residual-in_err-parts-in-Template.ensures.1
    (chain.not_linked g.B.BodyForms.forms c.args.p.now c.loop-head.p _ c.loop-head.invariant c.in-Some.is
    (c.in_ok-head.ensures.begins g.B.Bodies.is_faithful)
    (m.no (s.unheard_call (λ x p. tagged_node c.in-Template.start l p.0 x p.1)
    (λ x ts. link.tail_template _ c.in-Some.head c.in-Template.start l x ts c.in-Template.is)
    (s.unheard_inner inner.reads)) inner.grows))

pub parse_subscripts-tagged_tpl-requires : goal.parse_subscripts-tagged_tpl-requires
parse_subscripts-tagged_tpl-requires g t c =
    let inner = aside c.get_ctx-in-Template.ensures c.without_colon-ctx.ensures.decides
    c.replace_ctx-before-in-Template.ensures.before c.replace_ctx-before-in-Template.ensures.moves
    c.replace_ctx-before-in-Template.ensures.context c.parse_tpl_elements-read.ensures c.in_ok-parts-in-Template.was
    c.replace_ctx-in-Template.ensures.moves c.replace_ctx-in-Template.ensures.context in
    apart-down (one_expr c.loop-head.obj ++ exprs_parts c.in_ok-parts-in-Template.parts.exprs)
    (apart_behind inner.grows c.loop-head.invariant.3 inner.from)

pub parse_subscripts-returns-in_err-obj-in-Template : goal.parse_subscripts-returns-in_err-obj-in-Template
parse_subscripts-returns-in_err-obj-in-Template g t c =
    let inner = aside c.get_ctx-in-Template.ensures c.without_colon-ctx.ensures.decides
    c.replace_ctx-before-in-Template.ensures.before c.replace_ctx-before-in-Template.ensures.moves
    c.replace_ctx-before-in-Template.ensures.context c.parse_tpl_elements-read.ensures c.in_ok-parts-in-Template.was
    c.replace_ctx-in-Template.ensures.moves c.replace_ctx-in-Template.ensures.context in
    m.passed_more c.from_residual-in_err-obj-in-Template.ensures.1
    (chain.not_linked g.B.BodyForms.forms c.args.p.now c.loop-head.p _ c.loop-head.invariant c.in-Some.is
    (c.in_ok-head.ensures.begins g.B.Bodies.is_faithful)
    (m.tail (Err _) (λ v x p. tagged_node c.in-Template.start v p.0 x p.1)
    (λ x ts. link.tail_template _ c.in-Some.head c.in-Template.start _ x ts c.in-Template.is)
    (s.heard_inner inner.reads) inner.grows c.loop-head.invariant.3
    c.in_err-obj-in-Template.ensures))

pub parse_subscripts-loop-head-preserved : goal.parse_subscripts-loop-head-preserved
parse_subscripts-loop-head-preserved g t c =
    let inner = aside c.get_ctx-in-Template.ensures c.without_colon-ctx.ensures.decides
    c.replace_ctx-before-in-Template.ensures.before c.replace_ctx-before-in-Template.ensures.moves
    c.replace_ctx-before-in-Template.ensures.context c.parse_tpl_elements-read.ensures c.in_ok-parts-in-Template.was
    c.replace_ctx-in-Template.ensures.moves c.replace_ctx-in-Template.ensures.context in
    chain.linked g.B.BodyForms.forms c.args.p.now c.loop-head.p _ c.loop-head.invariant c.in-Some.is
    (c.in_ok-head.ensures.begins g.B.Bodies.is_faithful) c.in_ok-head.ensures.falls
    (m.tail (Ok _) (λ v x p. tagged_node c.in-Template.start v p.0 x p.1)
    (λ x ts. link.tail_template _ c.in-Some.head c.in-Template.start _ x ts c.in-Template.is)
    (s.heard_inner inner.reads) inner.grows c.loop-head.invariant.3
    c.in_ok-obj-in-Template.ensures)

pub parse_args-loop-items-init : goal.parse_args-loop-items-init
parse_args-loop-items-init g t c =
    loop.started (args.args_list _ c.args.is_dynamic_import) _ item_parts _ _ g.met.I.Tokens.laws
    c.new-items.ensures.items

pub parse_args-loop-items-preserved : goal.parse_args-loop-items-preserved
parse_args-loop-items-preserved g t c =
    let inv = c.loop-items.invariant in
    let more = loop.goes_on (args.args_list _ c.args.is_dynamic_import) inv c.in-None.is
    (c.in_ok-end.ensures.eats _) in
    loop.added item_parts (λ at x. item_tree (λ e. at e.0) x) _ _ item-same inv more
    (loop.separated c.in_ok-arg.ensures.reads (c.in_ok-trailing_comma.ensures.separates _))
    c.parse_expr_or_spread.ensures.grows (apart-from (expr_part c.in_ok-arg.arg.expr) c.in_ok-arg.ensures.from)
    c.in_ok-add.ensures.added

pub parse_args-returns-in_err-end : goal.parse_args-returns-in_err-end
parse_args-returns-in_err-end g t c =
    let inv = c.loop-items.invariant in
    m.refused c.from_residual.ensures.1 (loop.end_refused (args.args_list _ c.args.is_dynamic_import) inv
    (c.in_err-end.ensures.eats _)) inv.grows

pub parse_args-returns-in-Some : goal.parse_args-returns-in-Some
parse_args-returns-in-Some g t c =
    let inv = c.loop-items.invariant in
    m.yes (Ok _) (loop.closed (args.args_list _ c.args.is_dynamic_import) inv c.in-Some.is (c.in_ok-end.ensures.eats _))
    inv.grows inv.apart

pub parse_args-returns-in_err-arg : goal.parse_args-returns-in_err-arg
parse_args-returns-in_err-arg g t c =
    let inv = c.loop-items.invariant in
    let more = loop.goes_on (args.args_list _ c.args.is_dynamic_import) inv c.in-None.is
    (c.in_ok-end.ensures.eats _) in
    m.refused c.from_residual-in_err-arg.ensures.1 (loop.item_refused _ _ more c.in_err-arg.ensures.reads)
    (grows-then inv.grows c.parse_expr_or_spread.ensures.grows)

pub parse_args-returns-in_err-add : goal.parse_args-returns-in_err-add
parse_args-returns-in_err-add g t c =
    let inv = c.loop-items.invariant in
    let more = loop.goes_on (args.args_list _ c.args.is_dynamic_import) inv c.in-None.is
    (c.in_ok-end.ensures.eats _) in
    m.refused c.from_residual-in_err-add.ensures.1
    (loop.unkept _ more c.in_ok-arg.ensures.reads c.in_err-add.ensures.refused)
    (grows-then inv.grows c.parse_expr_or_spread.ensures.grows)

pub parse_args-returns-in_err-trailing_comma : goal.parse_args-returns-in_err-trailing_comma
parse_args-returns-in_err-trailing_comma g t c =
    let inv = c.loop-items.invariant in
    let more = loop.goes_on (args.args_list _ c.args.is_dynamic_import) inv c.in-None.is
    (c.in_ok-end.ensures.eats _) in
    m.refused c.from_residual-in_err-trailing_comma.ensures.1
    (loop.comma_behind_refused _ _ more c.in_ok-arg.ensures.reads (c.in_err-trailing_comma.ensures.separates _))
    (grows-then inv.grows c.parse_expr_or_spread.ensures.grows)

pub parse_operand-returns-in_err-look : goal.parse_operand-returns-in_err-look
parse_operand-returns-in_err-look g t c =
    m.refused c.from_residual.ensures.1
    (s.unheard_memory c.in_err-look.ensures.looks) (grows-same _)

pub parse_operand-returns-in_err-name : goal.parse_operand-returns-in_err-name
parse_operand-returns-in_err-name g t c =
    m.refused c.from_residual-in_err-name.ensures.1
    (s.unheard_after (s.on_seen {g = λ x ts. private_operand g.B.BodyForms.forms x ts >>=
    operand.behind g.B.BodyForms.forms x}
    c.in_ok-look.ensures.looks (λ x ts same e. operand.private_first _ c.args.is_free x ts (s.no_head same)
    (operand.told_here c.args.is_free true ts same e (sym c.begins_private.ensures.value ∙ c.if-begins_private.true))))
    (s.unheard_call (operand.behind _) (λ x ts. refl) c.in_err-name.ensures.reads))
    c.parse_private_operand.ensures.grows

pub parse_operand-parse_subscripts-requires : goal.parse_operand-parse_subscripts-requires
parse_operand-parse_subscripts-requires g t c =
    let falls = c.in_ok-name.ensures.falls in
    let from = from-down {k = 0} (omega arith) c.in_ok-name.ensures.from in
    λ κs outlives. (search rules, (search rules, (search rules, (search rules, (search rules, (search rules, from))))))

pub parse_operand-returns-in_err-callee : goal.parse_operand-returns-in_err-callee
parse_operand-returns-in_err-callee g t c =
    m.refused c.from_residual-in_err-callee.ensures.1
    (s.unheard_after (s.on_seen {g = λ x ts. private_operand g.B.BodyForms.forms x ts >>=
    operand.behind g.B.BodyForms.forms x}
    c.in_ok-look.ensures.looks (λ x ts same e. operand.private_first _ c.args.is_free x ts (s.no_head same)
    (operand.told_here c.args.is_free true ts same e (sym c.begins_private.ensures.value ∙ c.if-begins_private.true))))
    (s.unheard_after (s.on_call (operand.behind _) (λ x ts. refl) c.in_ok-name.ensures.reads.on)
    (s.unheard_call (operand.updated _) (λ x ts. refl) c.in_err-callee.ensures.reads)))
    (grows-then c.parse_private_operand.ensures.grows c.parse_subscripts.ensures.grows)

pub parse_operand-parse_update_postfix-requires : goal.parse_operand-parse_update_postfix-requires
parse_operand-parse_update_postfix-requires g t c = record {
  from = from-down (omega arith) c.in_ok-callee.ensures.from;
}

pub parse_operand-returns-then-begins_private : goal.parse_operand-returns-then-begins_private
parse_operand-returns-then-begins_private g t c =
    let r = c.parse_update_postfix.result in
    let a = c.in_ok-name.ensures.from.above in
    let b = c.in_ok-callee.ensures.from.above in
    m.after {m = record c.args.p.now { input = c.look.new.input }} r
    (s.on_seen {g = λ x ts. private_operand g.B.BodyForms.forms x ts >>= operand.behind g.B.BodyForms.forms x}
    c.in_ok-look.ensures.looks (λ x ts same e. operand.private_first _ c.args.is_free x ts (s.no_head same)
    (operand.told_here c.args.is_free true ts same e (sym c.begins_private.ensures.value ∙ c.if-begins_private.true))))
    (grows-same _)
    (m.call {m = c.parse_private_operand.new.p} r (operand.behind _) (λ x ts. refl) c.in_ok-name.ensures.reads
    c.parse_private_operand.ensures.grows (λ x. from-down (omega arith))
    (m.on_after r (s.on_call (operand.updated _) (λ x ts. refl) c.in_ok-callee.ensures.reads)
    c.parse_subscripts.ensures.grows c.parse_update_postfix.ensures))

pub parse_operand-returns : goal.parse_operand-returns
parse_operand-returns g t c =
    m.after {m = record c.args.p.now { input = c.look.new.input }} c.parse_unary_expr.result
    (s.on_seen {g = run g.B.BodyForms.forms (at Unary)} c.in_ok-look.ensures.looks
    (λ x ts same e. operand.unary_operand _ c.args.is_free x ts
    (operand.told_here c.args.is_free false ts same e (sym c.begins_private.ensures.value
    ∙ c.if-begins_private.false)))) (grows-same _)
    c.parse_unary_expr.ensures

pub parse_unary_expr-returns-in_err-look : goal.parse_unary_expr-returns-in_err-look
parse_unary_expr-returns-in_err-look g t c =
    m.refused c.from_residual.ensures.1
    (s.unheard_memory c.in_err-look.ensures.looks) (grows-same _)

pub parse_unary_expr-parse_plain_operand-requires : goal.parse_unary_expr-parse_plain_operand-requires
parse_unary_expr-parse_plain_operand-requires g t c =
    let looked = opening.looked c.in_ok-look.ensures.looks in
    let plain = sym c.begins_plain.ensures ∙ c.if-begins_plain.true in
    λ κs outlives. (
      search rules,
      (
        search rules,
        (
          search rules,
          (search rules, (search rules, (search rules, (looked, plain)))),
        ),
      ),
    )

pub parse_unary_expr-returns-then-begins_plain : goal.parse_unary_expr-returns-then-begins_plain
parse_unary_expr-returns-then-begins_plain g t c =
    m.after {m = record c.args.p.now { input = c.look.new.input }} c.parse_plain_operand.result
    (s.on_seen {g = run _ (at Unary)} c.in_ok-look.ensures.looks (λ x ts same e. refl)) (grows-same _)
    c.parse_plain_operand.ensures

pub parse_unary_expr-returns-in_err-less-in-Some : goal.parse_unary_expr-returns-in_err-less-in-Some
parse_unary_expr-returns-in_err-less-in-Some g t c =
    m.refused c.from_residual-in_err-less-in-Some.ensures.1
    (s.unheard_memory (s.forgoes_later (s.here_leads c.in_ok-look.ensures.looks)
    (s.forgoes_here g.met.I.Tokens.laws _ _ _ c.in_err-less-in-Some.ensures.refused))) (grows-same _)

pub parse_unary_expr-returns-in_err-arg-in-Some : goal.parse_unary_expr-returns-in_err-arg-in-Some
parse_unary_expr-returns-in_err-arg-in-Some g t c =
    let op = c.in-Some.op in
    let first = c.skip.ensures.took.1 in
    let q = (plain first.was).span in
    m.refused c.from_residual-in_err-arg-in-Some.ensures.1
    (s.unheard_after (s.on_seen {g = update_prefix _ op} c.in_ok-look.ensures.looks
    (λ x ts same e. update.update_picked _ op x ts
    (ap update_at e ∙ sym c.cur_update_op.ensures.value ∙ c.in-Some.is)))
    (s.unheard_after (s.on_took {g = update_tail _ q op} g.met.I.Tokens.laws first
    (update.update_opens _ op (plain first.was)))
    (s.unheard_call _ (update.update_splits _ q op) (s.unheard_inner c.in_err-arg-in-Some.ensures.reads))))
    c.parse_unary_expr.ensures.grows

pub parse_unary_expr-returns-in-Some : goal.parse_unary_expr-returns-in-Some
parse_unary_expr-returns-in-Some g t c =
    let op = c.in-Some.op in
    let first = c.skip.ensures.took.1 in
    let q = (plain first.was).span in
    let place = s.place_was first c.cur_span-start.result c.cur_span-start.ensures in
    let arg = tree_of c.parse_unary_expr.new.p.nodes c.in_ok-arg-in-Some.arg in
    m.after {m = record c.args.p.now { input = c.look.new.input }} c.update_prefix.result
    (s.on_seen {g = update_prefix _ op} c.in_ok-look.ensures.looks
    (λ x ts same e. update.update_picked _ op x ts
    (ap update_at e ∙ sym c.cur_update_op.ensures.value ∙ c.in-Some.is))) (grows-same _)
    (m.after {m = record c.args.p.now { input = c.skip.new.input }} c.update_prefix.result
    (s.on_took {g = update_tail _ q op} g.met.I.Tokens.laws first (update.update_opens _ op (plain first.was)))
    (grows-same _)
    (m.call {m = c.parse_unary_expr.new.p} c.update_prefix.result _ (update.update_splits _ q op)
    (s.heard_inner c.in_ok-arg-in-Some.ensures.reads) c.parse_unary_expr.ensures.grows
    (λ x. from-down c.in_ok-arg-in-Some.ensures.from.above)
    (m.on_after c.update_prefix.result (s.on_here g.met.I.Tokens.laws _
    (λ x ts. ap (λ v. update_node v op x arg ts) (sym place))) (grows-same _) c.update_prefix.ensures)))

pub parse_unary_expr-returns-in_err-less-in-Some-cur_prefix_op :
    goal.parse_unary_expr-returns-in_err-less-in-Some-cur_prefix_op
parse_unary_expr-returns-in_err-less-in-Some-cur_prefix_op g t c =
    m.refused c.from_residual-in_err-less-in-Some-cur_prefix_op.ensures.1
    (s.unheard_memory (s.forgoes_later (s.here_leads c.in_ok-look.ensures.looks)
    (s.forgoes_here g.met.I.Tokens.laws _ _ _ c.in_err-less-in-Some-cur_prefix_op.ensures.refused))) (grows-same _)

pub parse_unary_expr-returns-in_err-at-in-Some-cur_prefix_op :
    goal.parse_unary_expr-returns-in_err-at-in-Some-cur_prefix_op
parse_unary_expr-returns-in_err-at-in-Some-cur_prefix_op g t c =
    m.refused c.from_residual-in_err-at-in-Some-cur_prefix_op.ensures.1
    (s.unheard_memory (s.forgoes_later (s.leads_then (s.here_leads c.in_ok-look.ensures.looks)
    (s.took_leads g.met.I.Tokens.laws c.skip-in-Some-cur_prefix_op.ensures.took.1))
    c.in_err-at-in-Some-cur_prefix_op.ensures.looks)) (grows-same _)

pub parse_unary_expr-returns-in-Ok : goal.parse_unary_expr-returns-in-Ok
parse_unary_expr-returns-in-Ok g t c =
    let op = c.in-Some-cur_prefix_op.op in
    let first = c.skip-in-Some-cur_prefix_op.ensures.took.1 in
    let q = (plain first.was).span in
    let arg = tree_of c.parse_unary_expr-in-Some-cur_prefix_op.new.p.nodes c.in-Ok.arg in
    let place = s.place_was first c.cur_span-start-in-Some-cur_prefix_op.result
    c.cur_span-start-in-Some-cur_prefix_op.ensures in
    m.after {m = record c.args.p.now { input = c.look.new.input }} c.unary_expr.result
    (s.on_seen {g = unary_op _ op} c.in_ok-look.ensures.looks
    (λ x ts same e. rule.unary_op_picked _ op x ts
    (ap prefix_at e ∙ sym c.cur_prefix_op.ensures.value ∙ c.in-Some-cur_prefix_op.is))) (grows-same _)
    (m.after {m = record c.args.p.now { input = c.cur_pos.new.input }} c.unary_expr.result
    (s.on_then (s.on_took {g = unary_op_tail _ q op} g.met.I.Tokens.laws first
    (rule.unary_op_opens _ op (plain first.was)))
    (s.on_seen {g = unary_op_tail _ q op} c.in_ok-at-in-Some-cur_prefix_op.ensures.looks (λ x ts same e. refl)))
    (grows-same _)
    (m.call {m = c.parse_unary_expr-in-Some-cur_prefix_op.new.p} c.unary_expr.result _ (rule.unary_op_splits _ q op)
    (s.heard_inner c.in-Ok.ensures.reads) c.parse_unary_expr-in-Some-cur_prefix_op.ensures.grows
    (λ x. from-down c.in-Ok.ensures.from.above)
    (m.on_after c.unary_expr.result (s.on_here g.met.I.Tokens.laws _
    (λ x ts. ap (λ v. unary_op_node g.B.BodyForms.forms v op x arg ts) (sym place)))
    (grows-same _) c.unary_expr.ensures.reads)))

pub parse_unary_expr-returns-in-Err : goal.parse_unary_expr-returns-in-Err
parse_unary_expr-returns-in-Err g t c =
    let op = c.in-Some-cur_prefix_op.op in
    let first = c.skip-in-Some-cur_prefix_op.ensures.took.1 in
    let q = (plain first.was).span in
    let r = c.unary_expr_without_operand.result in
    let h = c.unary_expr_without_operand.ensures in
    let view = tree_of c.unary_expr_without_operand.new.p.nodes in
    m.after {m = record c.args.p.now { input = c.look.new.input }} r
    (s.on_seen {g = unary_op _ op} c.in_ok-look.ensures.looks
    (λ x ts same e. rule.unary_op_picked _ op x ts
    (ap prefix_at e ∙ sym c.cur_prefix_op.ensures.value ∙ c.in-Some-cur_prefix_op.is))) (grows-same _)
    (m.yes r
    (s.parses_first g.I.Tokens.model g.B.Bodies.is_faithful view _ {g = unary_op_tail _ q op} g.met.I.Tokens.laws first
    (rule.unary_op_opens _ op (plain first.was)) _ r
    (s.continues_after g.I.Tokens.model g.B.Bodies.is_faithful view _ _ r
    (s.on_seen {g = unary_op_tail _ q op} c.in_ok-at-in-Some-cur_prefix_op.ensures.looks (λ x ts same e. refl))
    (s.continues_recovered g.I.Tokens.model g.B.Bodies.is_faithful view _ _ r
    (s.unheard_call _ (rule.unary_op_splits _ q op) (s.unheard_inner c.in-Err.ensures.reads)) h.effect h.notes h.some)))
    (grows-then c.parse_unary_expr-in-Some-cur_prefix_op.ensures.grows h.grows)
    (if_from _ _ _ (λ x. x) r (grows-count c.parse_unary_expr-in-Some-cur_prefix_op.ensures.grows) h.from))

pub parse_unary_expr-returns-then-is_await : goal.parse_unary_expr-returns-then-is_await
parse_unary_expr-returns-then-is_await g t c =
    let first = c.skip-then-is_await.ensures.took.1 in
    let start = c.cur_span-start-then-is_await.result in
    let place = s.place_was first start c.cur_span-start-then-is_await.ensures in
    let r = c.parse_await_expr.result in
    let h = c.parse_await_expr.ensures in
    m.after {m = record c.args.p.now { input = c.look.new.input }} r
    (s.on_seen {g = await_expr _} c.in_ok-look.ensures.looks
    (λ x ts same e. update.await_picked _ x ts (ap
    (at_token is_await) e ∙ sym c.is_await.ensures.value ∙ c.if-is_await.true))) (grows-same _)
    (m.yes r
    (update.parses_first g.I.Tokens.model g.B.Bodies.is_faithful (tree_of c.parse_await_expr.new.p.nodes) _
    (await_tail g.B.BodyForms.forms start) _ r g.met.I.Tokens.laws first
    (λ x ts. update.await_opens _ (plain first.was) x ts ∙ ap (λ v. await_tail g.B.BodyForms.forms v x ts) (sym place))
    h.reads)
    h.grows h.from)

pub parse_unary_expr-returns-in_err-expr : goal.parse_unary_expr-returns-in_err-expr
parse_unary_expr-returns-in_err-expr g t c =
    m.refused c.from_residual-in_err-expr.ensures.1
    (s.unheard_after (s.on_seen {g = λ x ts. run _ (at (Lhs true)) x ts >>=
    (λ p. run _ (updates p.0) x p.1)} c.in_ok-look.ensures.looks
    (λ x ts same e. update.operand_splits _ x ts (s.no_head same)
    (update.no_update_first g.B.BodyForms.forms (first ts)
    (ap update_at e ∙ sym c.cur_update_op.ensures.value ∙ c.in-None.is))
    (ap (at_token is_await) e ∙ sym c.is_await.ensures.value ∙ c.if-is_await.false)
    (ap prefix_at e ∙ sym c.cur_prefix_op.ensures.value ∙ c.in-None-cur_prefix_op.is)))
    (s.unheard_call (λ x p. run _ (updates p.0) x p.1) (λ x ts. refl) c.in_err-expr.ensures.reads))
    c.parse_lhs_expr.ensures.grows

pub parse_unary_expr-returns : goal.parse_unary_expr-returns
parse_unary_expr-returns g t c =
    m.after {m = record c.args.p.now { input = c.look.new.input }} c.parse_update_postfix.result
    (s.on_seen {g = λ x ts. run _ (at (Lhs true)) x ts >>=
    (λ p. run _ (updates p.0) x p.1)} c.in_ok-look.ensures.looks
    (λ x ts same e. update.operand_splits _ x ts (s.no_head same)
    (update.no_update_first g.B.BodyForms.forms (first ts)
    (ap update_at e ∙ sym c.cur_update_op.ensures.value ∙ c.in-None.is))
    (ap (at_token is_await) e ∙ sym c.is_await.ensures.value ∙ c.if-is_await.false)
    (ap prefix_at e ∙ sym c.cur_prefix_op.ensures.value ∙ c.in-None-cur_prefix_op.is))) (grows-same _)
    (m.call c.parse_update_postfix.result (λ x p. run _ (updates p.0) x p.1) (λ x ts. refl)
    c.in_ok-expr.ensures.reads c.parse_lhs_expr.ensures.grows
    (λ x. from-down c.in_ok-expr.ensures.from.above) c.parse_update_postfix.ensures)

pub parse_await_expr-returns-in_err-is_await_name : goal.parse_await_expr-returns-in_err-is_await_name
parse_await_expr-returns-in_err-is_await_name g t c =
    m.refused_more c.from_residual.ensures.1
    (s.unheard_call _ (prefix.await_splits _ c.args.start)
    (c.in_err-is_await_name.ensures.names g.B.Bodies.is_faithful))
    (grows-same _)

pub parse_await_expr-returns-then-branch : goal.parse_await_expr-returns-then-branch
parse_await_expr-returns-then-branch g t c =
    let start = c.args.start in
    m.on_after {m = record c.args.p.now { input = c.is_await_name.new.input }} c.parse_await_ident.result
    (s.on_to {h = await_ident start} (s.on_call _ (prefix.await_splits g.B.BodyForms.forms start)
    (c.in_ok-is_await_name.ensures.names g.B.Bodies.is_faithful))
    (λ x ts. ap (λ b. await_by_name g.B.BodyForms.forms start b x ts) c.if-branch.true))
    (grows-same _) c.parse_await_ident.ensures

pub parse_await_expr-returns-in_err-check_await : goal.parse_await_expr-returns-in_err-check_await
parse_await_expr-returns-in_err-check_await g t c =
    m.refused_more c.from_residual-in_err-check_await.ensures.1
    (s.unheard_memory (s.forgoes_later (c.in_ok-is_await_name.ensures.names g.B.Bodies.is_faithful).leads
    c.in_err-check_await.ensures.checks)) (grows-same _)

pub parse_await_expr-returns-in_err-less : goal.parse_await_expr-returns-in_err-less
parse_await_expr-returns-in_err-less g t c =
    m.refused_more c.from_residual-in_err-less.ensures.1
    (s.unheard_memory (s.forgoes_later (s.leads_then (c.in_ok-is_await_name.ensures.names g.B.Bodies.is_faithful).leads
    c.in_ok-check_await.ensures.checks.leads)
    (s.forgoes_here g.met.I.Tokens.laws _ _ _ c.in_err-less.ensures.refused))) (grows-same _)

pub parse_await_expr-returns-in_err-arg : goal.parse_await_expr-returns-in_err-arg
parse_await_expr-returns-in_err-arg g t c =
    let start = c.args.start in
    let now = c.is_await_name.new.input in
    m.refused_more c.from_residual-in_err-arg.ensures.1
    (s.unheard_after (s.on_to {h = await_operand _ start} (s.on_call _ (prefix.await_splits g.B.BodyForms.forms start)
    (c.in_ok-is_await_name.ensures.names g.B.Bodies.is_faithful))
    (λ x ts. ap (λ b. await_by_name g.B.BodyForms.forms start b x ts) c.if-branch.false))
    (s.unheard_after (s.on_checked_in {g = await_reads _ start}
    (await_ok (context g.I.Tokens.model now)) c.in_ok-check_await.ensures.checks
    (λ ts h. update.await_well _ start (scope g.I.Tokens.model now) ts h)
    (λ ts h. update.await_ill _ start (scope g.I.Tokens.model now) ts h))
    (s.unheard_call (λ x p. Some (await_e (to start (span_of p.0)) p.0, p.1)) (λ x ts. refl)
    (s.unheard_inner c.in_err-arg.ensures.reads)))) c.parse_unary_expr.ensures.grows

pub parse_await_expr-returns : goal.parse_await_expr-returns
parse_await_expr-returns g t c =
    let start = c.args.start in
    let now = c.is_await_name.new.input in
    m.on_after {m = record c.args.p.now { input = now }} c.made.result
    (s.on_to {h = await_operand _ start} (s.on_call _ (prefix.await_splits g.B.BodyForms.forms start)
    (c.in_ok-is_await_name.ensures.names g.B.Bodies.is_faithful))
    (λ x ts. ap (λ b. await_by_name g.B.BodyForms.forms start b x ts) c.if-branch.false)) (grows-same _)
    (m.weaker c.made.result
    (m.node _ c.await_expr-node.result c.made.result c.in_ok-arg.ensures.from.above c.await_expr-node.ensures.made
    c.made.ensures.ok c.made.ensures.refused c.parse_unary_expr.ensures.grows
    c.await_expr-node.ensures.grows
    (s.heard_after (s.on_checked_in {g = await_reads _ start}
    (await_ok (context g.I.Tokens.model now)) c.in_ok-check_await.ensures.checks
    (λ ts h. update.await_well _ start (scope g.I.Tokens.model now) ts h)
    (λ ts h. update.await_ill _ start (scope g.I.Tokens.model now) ts h))
    (s.heard_call_read (λ x p. Some (await_e (to start (span_of p.0)) p.0, p.1)) (λ x ts. refl)
    (λ x ts us h y ys. ap (λ v. Some (
      await_e (from_to start.lo v) (tree_of c.parse_unary_expr.new.p.nodes c.in_ok-arg.arg),
      ys,
    ))
    (sym (ending.ended _ g.met.B.Bodies.lawful c.in_ok-arg.arg Unary (inner x) ts us c.in_ok-arg.ensures.from h)))
    (s.heard_inner c.in_ok-arg.ensures.reads)))))

pub parse_plain_operand-parse_plain_member-read-requires : goal.parse_plain_operand-parse_plain_member-read-requires
parse_plain_operand-parse_plain_member-read-requires g t c =
    let plain = ap (λ o. at_token is_plain (seen_of o)) c.replace_ctx-before.ensures.current ∙ c.requires.plain in
    let looked = s.here_now g.met.I.Tokens.laws c.replace_ctx-before.new.input (s.seen_some is_plain
    c.replace_ctx-before.new.input plain) in
    λ κs outlives. (
      search rules,
      (
        search rules,
        (
          search rules,
          (search rules, (search rules, (search rules, (looked, plain)))),
        ),
      ),
    )

pub parse_plain_operand-returns-in_err-callee : goal.parse_plain_operand-returns-in_err-callee
parse_plain_operand-returns-in_err-callee g t c =
    let member = aside c.get_ctx.ensures c.member_context-ctx.ensures.decides c.replace_ctx-before.ensures.before
    c.replace_ctx-before.ensures.moves c.replace_ctx-before.ensures.context c.parse_plain_member-read.ensures
    c.in_err-callee.was c.replace_ctx.ensures.moves c.replace_ctx.ensures.context in
    let begun = s.on_seen {g = λ x ts. run g.B.BodyForms.forms (at (Lhs false)) x ts >>=
    operand.behind g.B.BodyForms.forms x} c.requires.looked
    (λ x ts same e. plain_operand.plain_unary _ x ts (s.no_head same) (ap (at_token is_plain) e ∙ c.requires.plain)) in
    m.refused c.from_residual.ensures.1
    (s.unheard_after begun
    (s.unheard_call (operand.behind _) (λ x ts. refl)
    member.reads))
    member.grows

pub parse_plain_operand-returns-in_err-look : goal.parse_plain_operand-returns-in_err-look
parse_plain_operand-returns-in_err-look g t c =
    let member = aside c.get_ctx.ensures c.member_context-ctx.ensures.decides c.replace_ctx-before.ensures.before
    c.replace_ctx-before.ensures.moves c.replace_ctx-before.ensures.context c.parse_plain_member-read.ensures
    c.in_ok-callee.was c.replace_ctx.ensures.moves c.replace_ctx.ensures.context in
    m.refused c.from_residual-in_err-look.ensures.1
    (s.unheard_memory (s.forgoes_later member.reads.on.leads c.in_err-look.ensures.looks))
    member.grows

pub parse_plain_operand-returns-then-not-may_go_on : goal.parse_plain_operand-returns-then-not-may_go_on
parse_plain_operand-returns-then-not-may_go_on g t c =
    let member = aside c.get_ctx.ensures c.member_context-ctx.ensures.decides c.replace_ctx-before.ensures.before
    c.replace_ctx-before.ensures.moves c.replace_ctx-before.ensures.context c.parse_plain_member-read.ensures
    c.in_ok-callee.was c.replace_ctx.ensures.moves c.replace_ctx.ensures.context in
    let begun = s.on_seen {g = λ x ts. run g.B.BodyForms.forms (at (Lhs false)) x ts >>=
    operand.behind g.B.BodyForms.forms x} c.requires.looked
    (λ x ts same e. plain_operand.plain_unary _ x ts (s.no_head same) (ap (at_token is_plain) e ∙ c.requires.plain)) in
    let l = tree_of c.parse_plain_member-read.new.p.nodes c.in_ok-callee.callee in
    m.yes (Ok c.in_ok-callee.callee)
    (s.heard_after begun
    (s.heard_more (operand.behind _) (λ x ts. refl) member.reads
    (s.on_seen {g = s.give l} c.in_ok-look.ensures.looks
    (λ x ts same e. plain_operand.ends_here _ l x ts (ap
    (at_token goes_on) e ∙ sym c.may_go_on.ensures ∙ c.if-not-may_go_on.true)))))
    member.grows member.from

pub parse_plain_operand-parse_subscripts-requires : goal.parse_plain_operand-parse_subscripts-requires
parse_plain_operand-parse_subscripts-requires g t c =
    let falls = c.parse_plain_member-read.ensures.falls in
    let read = c.in_ok-callee.was in
    let from = from-down (omega arith) (m.held_is _ c.parse_plain_member-read.result c.in_ok-callee.callee read
    c.parse_plain_member-read.ensures.from) in
    λ κs outlives. (search rules, (search rules, (search rules, (search rules, (search rules, (search rules, from))))))

pub parse_plain_operand-returns-in_err-expr : goal.parse_plain_operand-returns-in_err-expr
parse_plain_operand-returns-in_err-expr g t c =
    let member = aside c.get_ctx.ensures c.member_context-ctx.ensures.decides c.replace_ctx-before.ensures.before
    c.replace_ctx-before.ensures.moves c.replace_ctx-before.ensures.context c.parse_plain_member-read.ensures
    c.in_ok-callee.was c.replace_ctx.ensures.moves c.replace_ctx.ensures.context in
    let begun = s.on_seen {g = λ x ts. run g.B.BodyForms.forms (at (Lhs false)) x ts >>=
    operand.behind g.B.BodyForms.forms x} c.requires.looked
    (λ x ts same e. plain_operand.plain_unary _ x ts (s.no_head same) (ap (at_token is_plain) e ∙ c.requires.plain)) in
    let l = tree_of c.parse_plain_member-read.new.p.nodes c.in_ok-callee.callee in
    let again = s.heard_then member.reads.on member.reads.onward (s.on_seen {f = s.give l} {g = s.give l}
    c.in_ok-look.ensures.looks
    (λ x ts same e. refl)) in
    m.refused c.from_residual-in_err-expr.ensures.1
    (s.unheard_after (s.on_then begun (s.on_call (operand.behind _) (λ x ts. refl) again.on))
    (s.unheard_call (operand.updated _) (λ x ts. refl) c.in_err-expr.ensures.reads))
    (grows-then member.grows c.parse_subscripts.ensures.grows)

pub parse_plain_operand-parse_update_postfix-requires : goal.parse_plain_operand-parse_update_postfix-requires
parse_plain_operand-parse_update_postfix-requires g t c =
    record { from = from-down (omega arith) c.in_ok-expr.ensures.from }

pub parse_plain_operand-returns : goal.parse_plain_operand-returns
parse_plain_operand-returns g t c =
    let member = aside c.get_ctx.ensures c.member_context-ctx.ensures.decides c.replace_ctx-before.ensures.before
    c.replace_ctx-before.ensures.moves c.replace_ctx-before.ensures.context c.parse_plain_member-read.ensures
    c.in_ok-callee.was c.replace_ctx.ensures.moves c.replace_ctx.ensures.context in
    let begun = s.on_seen {g = λ x ts. run g.B.BodyForms.forms (at (Lhs false)) x ts >>=
    operand.behind g.B.BodyForms.forms x} c.requires.looked
    (λ x ts same e. plain_operand.plain_unary _ x ts (s.no_head same) (ap (at_token is_plain) e ∙ c.requires.plain)) in
    let l = tree_of c.parse_plain_member-read.new.p.nodes c.in_ok-callee.callee in
    let again = s.heard_then member.reads.on member.reads.onward (s.on_seen {f = s.give l} {g = s.give l}
    c.in_ok-look.ensures.looks
    (λ x ts same e. refl)) in
    let r = c.parse_update_postfix.result in
    let a = member.from.above in
    let b = c.in_ok-expr.ensures.from.above in
    m.after {m = c.args.p.now} r begun (grows-same _)
    (m.call {m = record c.parse_plain_member-read.new.p { input = c.look.new.input }} r (operand.behind _)
    (λ x ts. refl) again
    member.grows (λ x. from-down (omega arith))
    (m.on_after r (s.on_call (operand.updated _) (λ x ts. refl) c.in_ok-expr.ensures.reads)
    c.parse_subscripts.ensures.grows c.parse_update_postfix.ensures))

pub parse_plain_member-parse_plain_primary-requires : goal.parse_plain_member-parse_plain_primary-requires
parse_plain_member-parse_plain_primary-requires g t c =
    record { looked = c.requires.looked; plain = plain_kind _ c.requires.plain }

pub parse_plain_member-returns-in_err-base : goal.parse_plain_member-returns-in_err-base
parse_plain_member-returns-in_err-base g t c =
    m.refused c.from_residual.ensures.1
    (s.unheard_after (s.on_seen {g = λ x ts. run _ (at Primary) x ts >>=
    (λ p. run _ (links false p.0) x p.1)} c.requires.looked
    (λ x ts same e. plain_operand.plain_member _ x ts (s.no_head same) (ap (at_token is_plain) e ∙ c.requires.plain)))
    (s.unheard_call (λ x p. run _ (links false p.0) x p.1) (λ x ts. refl) c.in_err-base.ensures.reads))
    c.parse_plain_primary.ensures.grows

pub parse_plain_member-returns : goal.parse_plain_member-returns
parse_plain_member-returns g t c =
    m.after {m = c.args.p.now} c.parse_subscripts.result
    (s.on_seen {g = λ x ts. run _ (at Primary) x ts >>= (λ p. run _ (links false p.0) x p.1)} c.requires.looked
    (λ x ts same e. plain_operand.plain_member _ x ts (s.no_head same) (ap (at_token is_plain) e ∙ c.requires.plain)))
    (grows-same _)
    (m.call c.parse_subscripts.result (λ x p. run _ (links false p.0) x p.1) (λ x ts. refl)
    c.in_ok-base.ensures.reads c.parse_plain_primary.ensures.grows
    (λ x. from-down c.in_ok-base.ensures.from.above) c.parse_subscripts.ensures)

pub parse_bin_expr-returns-in_err-first : goal.parse_bin_expr-returns-in_err-first
parse_bin_expr-returns-in_err-first g t c =
    m.refused c.from_residual.ensures.1
    (s.unheard_memory c.in_err-first.ensures.looks) (grows-same _)

pub parse_bin_expr-parse_operators-requires : goal.parse_bin_expr-parse_operators-requires
parse_bin_expr-parse_operators-requires g t c =
    let falls = c.in-Ok.ensures.falls in
    let one = apart-from (expr_part c.in-Ok.left) (from-down (omega arith) c.in-Ok.ensures.from) in
    let apart = pending.operands-as {k = 0} c.in-Ok.left (sym c.new-pending.ensures) one in
    λ κs outlives. (search rules, (search rules, (search rules, (search rules, (search rules, (search rules, apart))))))

pub parse_bin_expr-returns-in-Ok : goal.parse_bin_expr-returns-in-Ok
parse_bin_expr-returns-in-Ok g t c =
    let forms = g.B.BodyForms.forms in
    let ns = c.parse_operand.new.p.nodes in
    let ws = all_pending c.new-pending.result in
    let r = c.parse_operators.result in
    let above = c.in-Ok.ensures.from.above in
    let first = ap (λ e. first_at ns e.0) (pending.first_none c.in-Ok.left c.new-pending.ensures) in
    m.after {m = record c.args.p.now { input = c.cur_pos.new.input }} r
    (s.on_seen {g = run _ (at (Level 1))} c.in_ok-first.ensures.looks (λ x ts same e. refl)) (grows-same _)
    (m.call {m = c.parse_operand.new.p} {j = first_at ns (first_operand ws c.in-Ok.left).0} r
    (λ x p. run _ (climb p.0 0) (inner x) p.1) (λ x ts. rule.operand_splits _ 0 x ts (omega arith))
    c.in-Ok.ensures.reads c.parse_operand.ensures.grows (λ x. from-down (omega arith))
    (inside.goes_inner r (m.on_after r
    (s.on_here g.met.I.Tokens.laws _
    (λ x ts. pending.reads_none forms (tree_of ns) ws c.in-Ok.left x ts c.new-pending.ensures))
    (grows-same _) c.parse_operators.ensures)))

pub parse_bin_expr-recover_operators-requires : goal.parse_bin_expr-recover_operators-requires
parse_bin_expr-recover_operators-requires g t c =
    let spent = c.in-Err.ensures.reads.refuses.spends.read.lower in
    let kind = c.in-Err.ensures.reads.refuses.kind in
    λ κs outlives. (search rules, (search rules, (search rules, (search rules, (search rules, (search rules, kind))))))

pub parse_bin_expr-returns-in-Err : goal.parse_bin_expr-returns-in-Err
parse_bin_expr-returns-in-Err g t c =
    let u = pending.unheard_operand g.B.BodyForms.forms c.in_ok-first.ensures.looks c.in-Err.ensures.reads in
    let h = c.recover_operators.ensures in
    let r = c.recover_operators.result in
    let a = grows-count c.parse_operand.ensures.grows in
    m.yes r
    (s.parses_recovered g.I.Tokens.model g.B.Bodies.is_faithful (tree_of c.recover_operators.new.p.nodes)
    (run _ (at (Level 1))) _ r u h.effect h.notes h.some h.memory)
    (grows-then c.parse_operand.ensures.grows h.grows)
    (if_from _ (count c.args.p.now.nodes) (count c.parse_operand.new.p.nodes) (λ x. x) r (omega arith) h.from)

pub recover_operators-returns-in_err-left : goal.recover_operators-returns-in_err-left
recover_operators-returns-in_err-left g t c =
    let h = c.in_err-left.ensures.recovers in
    again.not_recovered_so _ c.from_residual.ensures.1 h.effect h.memory h.grows

pub recover_operators-take_operator-requires-clause-from : goal.recover_operators-take_operator-requires-clause-from
recover_operators-take_operator-requires-clause-from g t c = from-down (omega arith) c.in_ok-left.ensures.recovers.from

pub recover_operators-take_operator-requires-clause-tighter :
    goal.recover_operators-take_operator-requires-clause-tighter
recover_operators-take_operator-requires-clause-tighter g t c = pending.binds_any _ c.new-pending.ensures

pub recover_operators-returns-in_err-take_operator : goal.recover_operators-returns-in_err-take_operator
recover_operators-returns-in_err-take_operator g t c =
    let h = c.in_ok-left.ensures.recovers in
    again.not_recovered_so _ c.from_residual-in_err-take_operator.ensures.1
    (s.refuses_later h.effect (c.in_err-take_operator.ensures.reads g.B.Bodies.is_faithful).refuses) (λ n. h.some)
    (grows-then h.grows (grows-kept c.take_operator.ensures.nodes))

pub recover_operators-returns-in_err-right : goal.recover_operators-returns-in_err-right
recover_operators-returns-in_err-right g t c =
    let h = c.in_ok-left.ensures.recovers in
    let took = c.in_ok-take_operator.ensures.reads g.B.Bodies.is_faithful in
    again.not_recovered_so _ c.from_residual-in_err-right.ensures.1
    (s.refuses_later (s.leads_then h.effect took.on.leads) c.in_err-right.ensures.reads.refuses) (λ n. h.some)
    (grows-then h.grows (grows-then (grows-kept c.take_operator.ensures.nodes) c.parse_operand.ensures.grows))

pub recover_operators-parse_operators-requires : goal.recover_operators-parse_operators-requires
recover_operators-parse_operators-requires g t c =
    let left = c.in_ok-left.left in
    let kept = grows-kept c.take_operator.ensures.nodes in
    let from = from-later {k = 0} kept (from-down (omega arith) c.in_ok-left.ensures.recovers.from) in
    let two = apart-more-one {k = 0} c.parse_operand.ensures.grows (apart-from (expr_part left) from)
    c.in_ok-right.ensures.from in
    let apart = pending.operands-one {k = 0} left c.in_ok-right.right c.in_ok-left.op
    c.new-pending.ensures c.in_ok-take_operator.ensures.pushed two in
    let recovered = c.in_ok-left.ensures.recovers.falls in
    let took = c.in_ok-take_operator.ensures.falls in
    let read = c.in_ok-right.ensures.falls in
    λ κs outlives. (search rules, (search rules, (search rules, (search rules, (search rules, (search rules, apart))))))

pub recover_operators-returns : goal.recover_operators-returns
recover_operators-returns g t c =
    let h = c.in_ok-left.ensures.recovers in
    let took = c.in_ok-take_operator.ensures.reads g.B.Bodies.is_faithful in
    let more = s.leads_then took.on.leads c.in_ok-right.ensures.reads.on.leads in
    let r = c.parse_operators.result in
    let reads = c.parse_operators.ensures.reads in
    let ns = c.parse_operand.new.p.nodes in
    let vs = all_pending c.take_operator.new.pending in
    let view = tree_of c.parse_operators.new.p.nodes in
    let f = pending_reads g.B.BodyForms.forms (tree_of ns) vs c.in_ok-right.right in
    let kept = grows-then (grows-kept c.take_operator.ensures.nodes) c.parse_operand.ensures.grows in
    let above = (from-later kept h.from).above in
    let first = ap (λ e. first_at ns e.0) (pending.first_one c.in_ok-left.left c.in_ok-right.right
    c.in_ok-left.op c.new-pending.ensures c.in_ok-take_operator.ensures.pushed) in
    record {
      effect = s.consumes_then g.I.Tokens.model g.B.Bodies.is_faithful view f h.effect more
          (s.longer took.on.leads c.in_ok-right.ensures.reads.on.leads took.onward) _ r reads;
      notes = λ l. s.notes_then g.I.Tokens.model g.B.Bodies.is_faithful view f c.args.p.now.input
          (h.notes l) more _ r reads;
      some = s.on_ok r h.some;
      memory = s.if_err (λ e. e.kind ≢ OutOfMemory) r h.some;
      falls = s.falls_after g.I.Tokens.model c.parse_operators.new.p.input r (s.leads_then h.effect more)
          c.parse_operators.ensures.falls;
      grows = grows-then h.grows (grows-then kept c.parse_operators.ensures.grows);
      from = if_from _ (count c.args.p.now.nodes) (first_at ns (first_operand vs c.in_ok-right.right).0) (λ x. x) r
          (omega arith) c.parse_operators.ensures.from;
    }

pub parse_operators-loop-pending-init : goal.parse_operators-loop-pending-init
parse_operators-loop-pending-init g t c =
    (s.on_here g.met.I.Tokens.laws _ (λ x ts. refl), omega arith, grows-same _, operands-first _ _ c.requires)

pub parse_operators-returns-in_err-op : goal.parse_operators-returns-in_err-op
parse_operators-returns-in_err-op g t c =
    m.refused_more c.from_residual.ensures.1
    (s.unheard_after c.loop-pending.invariant.0 (s.unheard_memory c.in_err-op.ensures.looks))
    c.loop-pending.invariant.2

pub parse_operators-take_operator-requires-clause-from : goal.parse_operators-take_operator-requires-clause-from
parse_operators-take_operator-requires-clause-from g t c = operands-last _ _ c.loop-pending.invariant.3

pub parse_operators-take_operator-requires-clause-tighter : goal.parse_operators-take_operator-requires-clause-tighter
parse_operators-take_operator-requires-clause-tighter g t c =
    pending.binds_tighter g.I.Tokens.model c.next_operator.new.input
    (pending.above_is g.I.Tokens.model c.next_operator.new.input c.in-Some.is c.in_ok-op.ensures.value
    c.min_prec.ensures)

pub parse_operators-returns-in_err-take_operator-in-Some : goal.parse_operators-returns-in_err-take_operator-in-Some
parse_operators-returns-in_err-take_operator-in-Some g t c =
    m.refused_more c.from_residual-in_err-take_operator-in-Some.ensures.1
    (pending.unheard_taken g.B.BodyForms.forms (tree_of c.loop-pending.p.nodes) (all_pending c.loop-pending.pending)
    c.loop-pending.left c.in-Some.op c.loop-pending.invariant.0 c.in_ok-op.ensures.looks
    (pending.above_is g.I.Tokens.model c.next_operator.new.input c.in-Some.is c.in_ok-op.ensures.value
    c.min_prec.ensures)
    (c.in_err-take_operator-in-Some.ensures.reads g.B.Bodies.is_faithful))
    (grows-then c.loop-pending.invariant.2 (grows-kept c.take_operator.ensures.nodes))

pub parse_operators-returns-in_err-left-in-Some : goal.parse_operators-returns-in_err-left-in-Some
parse_operators-returns-in_err-left-in-Some g t c =
    let tree = tree_of c.loop-pending.p.nodes in
    let ws = all_pending c.loop-pending.pending in
    m.refused_more c.from_residual-in_err-left-in-Some.ensures.1
    (pending.unheard_read g.B.BodyForms.forms tree ws (all_pending c.take_operator.new.pending) c.loop-pending.left
    c.in-Some.op
    c.private_may_follow-is_free.ensures c.in_ok-take_operator-in-Some.ensures.pushed
    (pending.on_taken g.B.BodyForms.forms tree ws c.loop-pending.left c.in-Some.op c.loop-pending.invariant.0
    c.in_ok-op.ensures.looks
    (pending.above_is g.I.Tokens.model c.next_operator.new.input c.in-Some.is c.in_ok-op.ensures.value
    c.min_prec.ensures)
    (c.in_ok-take_operator-in-Some.ensures.reads g.B.Bodies.is_faithful))
    c.in_err-left-in-Some.ensures.reads)
    (grows-then c.loop-pending.invariant.2
    (grows-then (grows-kept c.take_operator.ensures.nodes) c.parse_operand.ensures.grows))

pub parse_operators-loop-pending-preserved-in-Some : goal.parse_operators-loop-pending-preserved-in-Some
parse_operators-loop-pending-preserved-in-Some g t c =
    let ns = c.loop-pending.p.nodes in
    let ws = all_pending c.loop-pending.pending in
    let e = c.loop-pending.left in
    let r = c.in_ok-left-in-Some.left in
    let kept = grows-kept c.take_operator.ensures.nodes in
    let grown = grows-then kept c.parse_operand.ensures.grows in (
      pending.on_read g.B.BodyForms.forms ws (all_pending c.take_operator.new.pending) e r c.in-Some.op
          c.private_may_follow-is_free.ensures c.in_ok-take_operator-in-Some.ensures.pushed
          (pending.on_taken g.B.BodyForms.forms (tree_of ns) ws e c.in-Some.op c.loop-pending.invariant.0
          c.in_ok-op.ensures.looks
          (pending.above_is g.I.Tokens.model c.next_operator.new.input c.in-Some.is c.in_ok-op.ensures.value
          c.min_prec.ensures)
          (c.in_ok-take_operator-in-Some.ensures.reads g.B.Bodies.is_faithful))
          c.in_ok-left-in-Some.ensures.reads grown c.loop-pending.invariant.3,
      let a = c.loop-pending.invariant.1 in let b = c.in_ok-op.ensures.falls in
          let d = c.in_ok-take_operator-in-Some.ensures.falls in let f = c.in_ok-left-in-Some.ensures.falls in
          omega arith,
      grows-then c.loop-pending.invariant.2 grown,
      pending.operands-as r (sym c.in_ok-take_operator-in-Some.ensures.pushed)
          (operands-more ws (waiting e c.in-Some.op) r c.parse_operand.ensures.grows
          (apart-later kept c.loop-pending.invariant.3) c.in_ok-left-in-Some.ensures.from),
    )

pub parse_operators-check_nullish_left-requires : goal.parse_operators-check_nullish_left-requires
parse_operators-check_nullish_left-requires g t c = operands-last _ _ c.loop-pending.invariant.3

pub parse_operators-returns-in_err-check_nullish_left-in-None
    : goal.parse_operators-returns-in_err-check_nullish_left-in-None
parse_operators-returns-in_err-check_nullish_left-in-None g t c =
    m.refused_more c.from_residual-in_err-check_nullish_left-in-None.ensures.1
    (s.unheard_after c.loop-pending.invariant.0 (s.unheard_memory
    (s.forgoes_later (s.here_leads c.in_ok-op.ensures.looks) c.in_err-check_nullish_left-in-None.ensures.checks)))
    c.loop-pending.invariant.2

pub parse_operators-join_operands-requires-clause-left : goal.parse_operators-join_operands-requires-clause-left
parse_operators-join_operands-requires-clause-left g t c =
    (operands-top _ c.in-Some-pop.operator c.loop-pending.left
    (pending.operands-as c.loop-pending.left c.in-Some-pop.ensures c.loop-pending.invariant.3)).0

pub parse_operators-join_operands-requires-clause-right : goal.parse_operators-join_operands-requires-clause-right
parse_operators-join_operands-requires-clause-right g t c =
    (operands-top _ c.in-Some-pop.operator c.loop-pending.left
    (pending.operands-as c.loop-pending.left c.in-Some-pop.ensures c.loop-pending.invariant.3)).1

pub parse_operators-returns-in_err-left-in-Some-pop : goal.parse_operators-returns-in_err-left-in-Some-pop
parse_operators-returns-in_err-left-in-Some-pop g t c =
    let tree = tree_of c.loop-pending.p.nodes in
    let ws = all_pending c.loop-pending.pending in
    m.refused_more c.from_residual-in_err-left-in-Some-pop.ensures.1
    (pending.unheard_join g.B.BodyForms.forms tree ws (all_pending c.pop.new.self) c.in-Some-pop.operator
    c.loop-pending.left c.in-Some-pop.ensures
    (pending.on_left g.B.BodyForms.forms tree ws c.loop-pending.left c.loop-pending.invariant.0 c.in_ok-op.ensures.looks
    (pending.above_is g.I.Tokens.model c.next_operator.new.input c.in-None.is c.in_ok-op.ensures.value
    c.min_prec.ensures)
    c.in_ok-check_nullish_left-in-None.ensures.checks)
    c.in_err-left-in-Some-pop.ensures.reads)
    (grows-then c.loop-pending.invariant.2 c.join_operands.ensures.grows)

pub parse_operators-loop-pending-preserved : goal.parse_operators-loop-pending-preserved
parse_operators-loop-pending-preserved g t c =
    let tree = tree_of c.loop-pending.p.nodes in
    let ws = all_pending c.loop-pending.pending in
    let vs = all_pending c.pop.new.self in
    let e = c.loop-pending.left in
    let n = c.in_ok-left-in-Some-pop.left in (
      pending.on_join g.B.BodyForms.forms ws vs c.in-Some-pop.operator e n c.in-Some-pop.ensures
          (pending.on_left g.B.BodyForms.forms tree ws e c.loop-pending.invariant.0 c.in_ok-op.ensures.looks
          (pending.above_is g.I.Tokens.model c.next_operator.new.input c.in-None.is c.in_ok-op.ensures.value
          c.min_prec.ensures)
          c.in_ok-check_nullish_left-in-None.ensures.checks)
          c.in_ok-left-in-Some-pop.ensures.reads c.join_operands.ensures.grows c.loop-pending.invariant.3,
      let a = c.loop-pending.invariant.1 in let b = c.in_ok-op.ensures.falls in
          let d = c.in_ok-check_nullish_left-in-None.ensures.falls in let f = c.in_ok-left-in-Some-pop.ensures.falls in
          omega arith,
      grows-then c.loop-pending.invariant.2 c.join_operands.ensures.grows,
      operands-joined vs c.in-Some-pop.operator e n c.join_operands.ensures.grows
          (pending.operands-as e c.in-Some-pop.ensures c.loop-pending.invariant.3)
          c.in_ok-left-in-Some-pop.ensures.from,
    )

pub parse_operators-returns-in-None-pop : goal.parse_operators-returns-in-None-pop
parse_operators-returns-in-None-pop g t c =
    let tree = tree_of c.loop-pending.p.nodes in
    let ws = all_pending c.loop-pending.pending in
    m.on (Ok _)
    (pending.on_all g.B.BodyForms.forms tree ws c.loop-pending.left c.in-None-pop.ensures.0
    (pending.on_left g.B.BodyForms.forms tree ws c.loop-pending.left c.loop-pending.invariant.0 c.in_ok-op.ensures.looks
    (pending.above_is g.I.Tokens.model c.next_operator.new.input c.in-None.is c.in_ok-op.ensures.value
    c.min_prec.ensures)
    c.in_ok-check_nullish_left-in-None.ensures.checks))
    c.loop-pending.invariant.2
    (pending.operand-alone c.loop-pending.left c.in-None-pop.ensures.0 c.loop-pending.invariant.3)

pub parse_expr-returns-in_err-first : goal.parse_expr-returns-in_err-first
parse_expr-returns-in_err-first g t c =
    m.refused c.from_residual.ensures.1
    (s.unheard_call _ (assign.expr_splits _) c.in_err-first.ensures.reads) c.parse_assignment_expr.ensures.grows

pub parse_expr-returns-in_err-eat : goal.parse_expr-returns-in_err-eat
parse_expr-returns-in_err-eat g t c =
    let e = tree_of c.parse_assignment_expr.new.p.nodes c.in_ok-first.first in
    m.refused c.from_residual-in_err-eat.ensures.1
    (s.unheard_after (s.on_call _ (assign.expr_splits _) c.in_ok-first.ensures.reads.on)
    (s.unheard_call _ (assign.seqs_splits _ (cons e nil)) (c.in_err-eat.ensures.eats g.B.Bodies.is_faithful)))
    c.parse_assignment_expr.ensures.grows

pub parse_expr-returns-in-None : goal.parse_expr-returns-in-None
parse_expr-returns-in-None g t c =
    let e = tree_of c.parse_assignment_expr.new.p.nodes c.in_ok-first.first in
    let none = s.eats_none g.B.Bodies.is_faithful is_comma _ _ _ c.in-None.is
    (c.in_ok-eat.ensures.eats g.B.Bodies.is_faithful) in
    m.yes (Ok _)
    (s.heard_more _ (assign.expr_splits _) c.in_ok-first.ensures.reads
    (s.on_call _ (assign.seqs_splits _ (cons e nil)) none))
    c.parse_assignment_expr.ensures.grows c.in_ok-first.ensures.from

pub parse_expr-returns-in_err-add : goal.parse_expr-returns-in_err-add
parse_expr-returns-in_err-add g t c =
    let some = s.eats_some g.B.Bodies.is_faithful is_comma _ c.in-Some.field-0 _ _ c.in-Some.is
    (c.in_ok-eat.ensures.eats g.B.Bodies.is_faithful) in
    m.refused c.from_residual-in_err-add.ensures.1
    (s.unheard_memory (s.forgoes_later (s.leads_then c.in_ok-first.ensures.reads.on.leads some.on.leads)
    (s.forgoes_here g.met.I.Tokens.laws _ _ _ c.in_err-add.ensures.refused))) c.parse_assignment_expr.ensures.grows

pub parse_expr-loop-exprs-init : goal.parse_expr-loop-exprs-init
parse_expr-loop-exprs-init g t c =
    let now = c.parse_assignment_expr.new.p.nodes in
    let first = c.in_ok-first.first in
    let one = c.in_ok-add.ensures.added ∙ ap (λ v. v ++ first ∷ []) c.new-exprs.ensures.items in (
      s.on_here g.met.I.Tokens.laws _ (λ x ts. refl),
      let a = c.in_ok-first.ensures.falls in let b = c.in_ok-eat.ensures.falls in omega arith,
      grows-same _,
      record {
        chained = ap (λ v. chain (seat_at now) (count c.args.p.now.nodes) (flat one_expr v) (count now)) one
            ∙ (apart-from (expr_part first) c.in_ok-first.ensures.from).chained;
      },
      subst (λ v. 1 ≤ length v) (sym one) (omega arith),
      λ d. refl,
    )

pub parse_expr-returns-in_err-expr : goal.parse_expr-returns-in_err-expr
parse_expr-returns-in_err-expr g t c =
    let old = c.parse_assignment_expr.new.p.nodes in let first = c.in_ok-first.first in
    let one = c.in_ok-add.ensures.added ∙ ap (λ v. v ++ first ∷ []) c.new-exprs.ensures.items in
    let on = s.on_by (λ x ts. ap (λ v. seqs_more g.B.BodyForms.forms (trees (map (λ e. tree_at old e.0) v)) x ts)
    (sym one)) c.loop-exprs.invariant.0 in
    let comma = s.eats_some g.B.Bodies.is_faithful is_comma _ c.in-Some.field-0 _ _ c.in-Some.is
    (c.in_ok-eat.ensures.eats g.B.Bodies.is_faithful) in
    let es = expr_trees (tree_at c.loop-exprs.p.nodes) c.loop-exprs.exprs in
    m.passed c.from_residual-in_err-expr.ensures.1
    (behind_comma g.B.BodyForms.forms g.met.B.Bodies.lawful {a = c.parse_assignment_expr.new.p} first
    (Err _) c.in_ok-first.ensures.reads c.parse_assignment_expr.ensures.grows comma
    (m.no (s.unheard_call (λ x p. Some (
      begun_if (begins_in_invalid (tree_of old first)) (start_at old first.0) p.0,
      p.1,
    )) (λ x ts. refl) (s.unheard_after on (s.unheard_call _
    (assign.seqs_more_splits _ es) c.in_err-expr.ensures.reads)))
    (grows-then c.loop-exprs.invariant.2 c.parse_assignment_expr-in-loop-exprs.ensures.grows)))

pub parse_expr-returns-in_err-add-2 : goal.parse_expr-returns-in_err-add-2
parse_expr-returns-in_err-add-2 g t c =
    let comma = s.eats_some g.B.Bodies.is_faithful is_comma _ c.in-Some.field-0 _ _ c.in-Some.is
    (c.in_ok-eat.ensures.eats g.B.Bodies.is_faithful) in
    m.refused c.from_residual-in_err-add-2.ensures.1
    (s.unheard_memory (s.forgoes_later (s.leads_then (s.leads_then c.in_ok-first.ensures.reads.on.leads comma.on.leads)
    (s.leads_then c.loop-exprs.invariant.0.leads c.in_ok-expr.ensures.reads.on.leads))
    (s.forgoes_here g.met.I.Tokens.laws _ _ _ c.in_err-add-2.ensures.refused)))
    (grows-then c.parse_assignment_expr.ensures.grows (grows-then c.loop-exprs.invariant.2
    c.parse_assignment_expr-in-loop-exprs.ensures.grows))

pub parse_expr-returns-in_err-eat-2 : goal.parse_expr-returns-in_err-eat-2
parse_expr-returns-in_err-eat-2 g t c =
    let old = c.parse_assignment_expr.new.p.nodes in let first = c.in_ok-first.first in
    let one = c.in_ok-add.ensures.added ∙ ap (λ v. v ++ first ∷ []) c.new-exprs.ensures.items in
    let on = s.on_by (λ x ts. ap (λ v. seqs_more g.B.BodyForms.forms (trees (map (λ e. tree_at old e.0) v)) x ts)
    (sym one)) c.loop-exprs.invariant.0 in
    let comma = s.eats_some g.B.Bodies.is_faithful is_comma _ c.in-Some.field-0 _ _ c.in-Some.is
    (c.in_ok-eat.ensures.eats g.B.Bodies.is_faithful) in
    let es = expr_trees (tree_at c.loop-exprs.p.nodes) c.loop-exprs.exprs in
    let more = trees_append es (cons (tree_of c.parse_assignment_expr-in-loop-exprs.new.p.nodes c.in_ok-expr.expr)
    nil) in
    m.passed c.from_residual-in_err-eat-2.ensures.1
    (behind_comma g.B.BodyForms.forms g.met.B.Bodies.lawful {a = c.parse_assignment_expr.new.p} first
    (Err _) c.in_ok-first.ensures.reads c.parse_assignment_expr.ensures.grows comma
    (m.no (s.unheard_call (λ x p. Some (
      begun_if (begins_in_invalid (tree_of old first)) (start_at old first.0) p.0,
      p.1,
    )) (λ x ts. refl) (s.unheard_after on (s.unheard_after
    (s.on_call _ (assign.seqs_more_splits _ es) c.in_ok-expr.ensures.reads.on)
    (s.unheard_call _ (assign.seqs_splits _ more) (c.in_err-eat-2.ensures.eats g.B.Bodies.is_faithful)))))
    (grows-then c.loop-exprs.invariant.2 c.parse_assignment_expr-in-loop-exprs.ensures.grows)))

pub parse_expr-loop-exprs-preserved : goal.parse_expr-loop-exprs-preserved
parse_expr-loop-exprs-preserved g t c =
    let es = expr_trees (tree_at c.loop-exprs.p.nodes) c.loop-exprs.exprs in
    let nodes = c.parse_assignment_expr-in-loop-exprs.new.p.nodes in
    let more = trees_append es (cons (tree_of nodes c.in_ok-expr.expr) nil) in
    let grows = c.parse_assignment_expr-in-loop-exprs.ensures.grows in
    let some = s.eats_some g.B.Bodies.is_faithful is_comma _ c.in-Some-2.field-0 _ _ c.in-Some-2.is
    (c.in_ok-eat-2.ensures.eats g.B.Bodies.is_faithful) in
    let added = ap (λ v. trees (map (λ e. tree_at nodes e.0) v)) c.in_ok-add-2.ensures.added
    ∙ exprs-more c.loop-exprs.exprs.items c.in_ok-expr.expr grows c.loop-exprs.invariant.3 in
    let parts = exprs-apart-more c.loop-exprs.exprs.items c.in_ok-expr.expr grows c.loop-exprs.invariant.3
    c.in_ok-expr.ensures.from in (
      s.on_then c.loop-exprs.invariant.0
          (s.on_then (s.on_call _ (assign.seqs_more_splits _ es) c.in_ok-expr.ensures.reads.on)
          (s.on_to (s.on_call _ (assign.seqs_splits _ more) some.on)
          (λ x ts. ap (λ v. seqs_more g.B.BodyForms.forms v x ts) (sym added)))),
      let a = c.loop-exprs.invariant.1 in let b = c.in_ok-expr.ensures.falls in let d = c.in_ok-eat-2.ensures.falls in
          omega arith,
      grows-then c.loop-exprs.invariant.2 grows,
      record {
        chained = ap (λ v. chain (seat_at nodes) (count c.args.p.now.nodes) (flat one_expr v) (count nodes))
            c.in_ok-add-2.ensures.added ∙ parts.chained;
      },
      subst (λ v. 1 ≤ length v) (sym c.in_ok-add-2.ensures.added)
          (let h = length-append c.loop-exprs.exprs.items (c.in_ok-expr.expr ∷ []) in omega arith),
      λ d. ap (λ v. slice_index_or v 0 d) c.in_ok-add-2.ensures.added
          ∙ ending.head-more c.loop-exprs.exprs.items c.in_ok-expr.expr d c.loop-exprs.invariant.4
          ∙ c.loop-exprs.invariant.5 d,
    )

pub parse_expr-returns-in-None-2 : goal.parse_expr-returns-in-None-2
parse_expr-returns-in-None-2 g t c =
    let old = c.parse_assignment_expr.new.p.nodes in let first = c.in_ok-first.first in
    let one = c.in_ok-add.ensures.added ∙ ap (λ v. v ++ first ∷ []) c.new-exprs.ensures.items in
    let on = s.on_by (λ x ts. ap (λ v. seqs_more g.B.BodyForms.forms (trees (map (λ e. tree_at old e.0) v)) x ts)
    (sym one)) c.loop-exprs.invariant.0 in
    let comma = s.eats_some g.B.Bodies.is_faithful is_comma _ c.in-Some.field-0 _ _ c.in-Some.is
    (c.in_ok-eat.ensures.eats g.B.Bodies.is_faithful) in
    let head = c.loop-exprs.invariant.5 first ∙ ap (λ v. slice_index_or v 0 first) one in
    let before = c.loop-exprs.exprs.items in let xs = c.add-in-loop-exprs.new.list.items in
    let es = expr_trees (tree_at c.loop-exprs.p.nodes) c.loop-exprs.exprs in
    let nodes = c.parse_assignment_expr-in-loop-exprs.new.p.nodes in
    let k = count c.args.p.now.nodes in
    let held = from-down {k = 0} (omega arith) c.in_ok-first.ensures.from in
    let more = trees_append es (cons (tree_of nodes c.in_ok-expr.expr) nil) in
    let grows = c.parse_assignment_expr-in-loop-exprs.ensures.grows in
    let none = s.eats_none g.B.Bodies.is_faithful is_comma _ _ _ c.in-None-2.is
    (c.in_ok-eat-2.ensures.eats g.B.Bodies.is_faithful) in
    let added = ap (λ v. trees (map (λ e. tree_at nodes e.0) v)) c.in_ok-add-2.ensures.added
    ∙ exprs-more c.loop-exprs.exprs.items c.in_ok-expr.expr grows c.loop-exprs.invariant.3 in
    let parts = exprs-apart-more c.loop-exprs.exprs.items c.in_ok-expr.expr grows c.loop-exprs.invariant.3
    c.in_ok-expr.ensures.from in
    let apart : Apart k nodes (exprs_parts c.add-in-loop-exprs.new.list) =
    record {
      chained = ap (λ v. chain (seat_at nodes) k (flat one_expr v) (count nodes)) c.in_ok-add-2.ensures.added
          ∙ parts.chained;
    } in
    let same : k ≤ k = omega arith in
    behind_comma g.B.BodyForms.forms g.met.B.Bodies.lawful
    {a = c.parse_assignment_expr.new.p} first c.made.result c.in_ok-first.ensures.reads
    c.parse_assignment_expr.ensures.grows comma
    (m.node {j = k} _ c.seq_expr-node.result c.made.result same
    (made_over _ _ k (exprs_parts c.add-in-loop-exprs.new.list) _ c.seq_expr-node.result
    c.seq_expr-node.ensures.made apart)
    c.made.ensures.ok c.made.ensures.refused (grows-then c.loop-exprs.invariant.2 grows) c.seq_expr-node.ensures.grows
    (s.heard_answer (ending.seq-begun old nodes first c.in_ok-expr.expr before xs
    (grows-then c.loop-exprs.invariant.2 grows) held c.loop-exprs.invariant.4 head c.in_ok-add-2.ensures.added)
    (s.heard_as (begun_if (begins_in_invalid (tree_of old first)) (start_at old first.0)) (λ x ts. refl)
    (s.heard_after on (s.heard_more_read _ (assign.seqs_more_splits _ es) c.in_ok-expr.ensures.reads
    (s.on_call _ (assign.seqs_splits _ more) none)
    (λ x ts us h. ap seq_of (sym added) ∙ ending.seq-read old nodes first c.in_ok-expr.expr before xs
    (grows-then c.loop-exprs.invariant.2 grows) held c.loop-exprs.invariant.4 head c.in_ok-add-2.ensures.added
    (ending.ended _ g.met.B.Bodies.lawful c.in_ok-expr.expr Assign x ts us c.in_ok-expr.ensures.from h)))))))

pub parse_expr-seq_expr-node-requires-clause-apart : goal.parse_expr-seq_expr-node-requires-clause-apart
parse_expr-seq_expr-node-requires-clause-apart g t c =
    let nodes = c.parse_assignment_expr-in-loop-exprs.new.p.nodes in
    let k = count c.args.p.now.nodes in
    let parts = exprs-apart-more c.loop-exprs.exprs.items c.in_ok-expr.expr
    c.parse_assignment_expr-in-loop-exprs.ensures.grows c.loop-exprs.invariant.3 c.in_ok-expr.ensures.from in
    let apart : Apart k nodes (exprs_parts c.add-in-loop-exprs.new.list) =
    record {
      chained = ap (λ v. chain (seat_at nodes) k (flat one_expr v) (count nodes)) c.in_ok-add-2.ensures.added
          ∙ parts.chained;
    } in
    apart-down (exprs_parts c.add-in-loop-exprs.new.list) apart

pub parse_assignment_expr-returns-in_err-require_cur : goal.parse_assignment_expr-returns-in_err-require_cur
parse_assignment_expr-returns-in_err-require_cur g t c =
    m.refused c.from_residual.ensures.1
    (s.unheard_unfit g.met.I.Tokens.laws (λ x ts h. rule.assign_bad _ x ts h) c.in_err-require_cur.ensures.fits)
    (grows-same _)

pub parse_assignment_expr-returns-in_err-less : goal.parse_assignment_expr-returns-in_err-less
parse_assignment_expr-returns-in_err-less g t c =
    m.refused c.from_residual-in_err-less.ensures.1
    (s.unheard_memory (s.forgoes_later (s.here_leads c.in_ok-require_cur.ensures.fits)
    (s.forgoes_here g.met.I.Tokens.laws _ _ _ c.in_err-less.ensures.refused))) (grows-same _)

pub parse_assignment_expr-parse_yield_expr-requires : goal.parse_assignment_expr-parse_yield_expr-requires
parse_assignment_expr-parse_yield_expr-requires g t c =
    let less = c.in_ok-less.ensures.less in
    let some = c.is_yield_operator.ensures.some c.if-is_yield_operator.true in
    λ κs outlives. (search rules, (search rules, (search rules, (search rules, (search rules, (search rules, some))))))

pub parse_assignment_expr-returns-then-is_yield_operator : goal.parse_assignment_expr-returns-then-is_yield_operator
parse_assignment_expr-returns-then-is_yield_operator g t c =
    m.after {m = record c.args.p.now { input = c.require_cur.new.self; too_deep = c.deeper.new.too_deep }}
    c.parse_yield_expr.result
    (s.on_seen {g = yield_expr g.B.BodyForms.forms} c.in_ok-require_cur.ensures.fits
    (λ x ts same e. assign.yield_picked _ x ts
    (ap (λ v. at_token is_yield v && x.context.in_generator) e ∙ ap
    (λ v. at_token is_yield (seen c.require_cur.new.self) && v.context.in_generator) same
    ∙ sym c.is_yield_operator.ensures.value ∙ c.if-is_yield_operator.true)))
    (grows-same _) c.parse_yield_expr.ensures

pub parse_assignment_expr-parse_arrow_or_assign-requires : goal.parse_assignment_expr-parse_arrow_or_assign-requires
parse_assignment_expr-parse_arrow_or_assign-requires g t c =
    let less = c.in_ok-less.ensures.less in
    λ κs outlives. (
      search rules,
      (
        search rules,
        (
          search rules,
          (
            search rules,
            (
              search rules,
              (
                search rules,
                (
                  opening.looked c.in_ok-require_cur.ensures.fits,
                  (
                    fit_here _ c.in_ok-require_cur.ensures.found.1 c.in_ok-require_cur.ensures.found.2,
                    sym c.is_yield_operator.ensures.value ∙ c.if-is_yield_operator.false,
                  ),
                ),
              ),
            ),
          ),
        ),
      ),
    )

pub parse_assignment_expr-returns : goal.parse_assignment_expr-returns
parse_assignment_expr-returns g t c =
    m.after {m = record c.args.p.now { input = c.require_cur.new.self; too_deep = c.deeper.new.too_deep }}
    c.parse_arrow_or_assign.result
    (s.on_seen {g = run _ (at Assign)} c.in_ok-require_cur.ensures.fits (λ x ts same e. refl))
    (grows-same _) c.parse_arrow_or_assign.ensures

pub parse_yield_expr-returns-in_err-refuse_yield_param : goal.parse_yield_expr-returns-in_err-refuse_yield_param
parse_yield_expr-returns-in_err-refuse_yield_param g t c =
    let first = c.skip.ensures.took.1 in
    let h = c.in_err-refuse_yield_param.ensures.refuses in
    m.refused c.from_residual.ensures.1
    (s.unheard_after (s.on_took {g = yield_tail _ (plain first.was).span} g.met.I.Tokens.laws first
    (assign.yield_opens _ (plain first.was)))
    (record {
      refuses = h.0;
      none = λ n sure loud ts k.
          assign.yield_ill _ (plain first.was).span (scope g.I.Tokens.model c.skip.new.input) ts h.1;
    })) (grows-same _)

pub parse_yield_expr-returns-in_err-goes_on_yield : goal.parse_yield_expr-returns-in_err-goes_on_yield
parse_yield_expr-returns-in_err-goes_on_yield g t c =
    m.refused c.from_residual-in_err-goes_on_yield.ensures.1
    (s.unheard_memory (s.forgoes_later (s.leads_then (s.took_leads g.met.I.Tokens.laws c.skip.ensures.took.1)
    (s.same_leads g.met.I.Tokens.laws c.in_ok-refuse_yield_param.ensures.passes.0))
    c.in_err-goes_on_yield.ensures.looks)) (grows-same _)

pub parse_yield_expr-returns-then-not-branch : goal.parse_yield_expr-returns-then-not-branch
parse_yield_expr-returns-then-not-branch g t c =
    let first = c.skip.ensures.took.1 in
    let start = c.cur_span-start.result in
    let place = s.place_was first c.cur_span-start.result c.cur_span-start.ensures in
    let same_at = s.leads_then (s.same_leads g.met.I.Tokens.laws c.in_ok-refuse_yield_param.ensures.passes.0)
    (s.here_leads c.in_ok-goes_on_yield.ensures.looks) in
    m.node _ c.yield_alone-node.result c.made.result (omega arith) c.yield_alone-node.ensures.made c.made.ensures.ok
    c.made.ensures.refused (grows-same _) c.yield_alone-node.ensures.grows
    (s.heard_first g.met.I.Tokens.laws first (λ x ts. assign.yield_opens _ (plain first.was) x ts ∙ ap
    (λ v. yield_tail g.B.BodyForms.forms v x ts) (sym place))
    (s.on_then (s.on_same {f = yield_tail _ start} g.met.I.Tokens.laws c.in_ok-refuse_yield_param.ensures.passes.0)
    (s.on_seen {g = s.give (yield_e start false hole_e)} c.in_ok-goes_on_yield.ensures.looks (λ x ts same e.
    assign.yield_well _ start x ts (ap (λ v. yield_ok v.context)
    (same ∙ s.read_scope g.met.I.Tokens.laws same_at.read) ∙ c.in_ok-refuse_yield_param.ensures.passes.1)
    ∙ assign.yield_stays _ start x ts (ap goes_on_yield_at e ∙ sym c.in_ok-goes_on_yield.ensures.value
    ∙ c.if-not-branch.true)))))

pub parse_yield_expr-returns-in_err-star : goal.parse_yield_expr-returns-in_err-star
parse_yield_expr-returns-in_err-star g t c =
    let first = c.skip.ensures.took.1 in
    let start = c.cur_span-start.result in
    let place = s.place_was first c.cur_span-start.result c.cur_span-start.ensures in
    let same_at = s.leads_then (s.same_leads g.met.I.Tokens.laws c.in_ok-refuse_yield_param.ensures.passes.0)
    (s.here_leads c.in_ok-goes_on_yield.ensures.looks) in
    m.refused c.from_residual-in_err-star.ensures.1
    (s.unheard_after
    (s.on_then (s.on_took {g = yield_tail _ start} g.met.I.Tokens.laws first
    (λ x ts. assign.yield_opens _ (plain first.was) x ts ∙ ap (λ v. yield_tail g.B.BodyForms.forms v x ts)
    (sym place)))
    (s.on_then (s.on_same {f = yield_tail _ start} g.met.I.Tokens.laws c.in_ok-refuse_yield_param.ensures.passes.0)
    (s.on_seen {g = yield_operand _ start} c.in_ok-goes_on_yield.ensures.looks (λ x ts same e.
    assign.yield_well _ start x ts (ap (λ v. yield_ok v.context)
    (same ∙ s.read_scope g.met.I.Tokens.laws same_at.read) ∙ c.in_ok-refuse_yield_param.ensures.passes.1)
    ∙ assign.yield_goes _ start x ts (ap goes_on_yield_at e ∙ sym c.in_ok-goes_on_yield.ensures.value
    ∙ c.if-not-branch.false)))))
    (s.unheard_call _ (assign.yield_operand_splits _ start) (c.in_err-star.ensures.eats g.B.Bodies.is_faithful)))
    (grows-same _)

pub parse_yield_expr-returns-in-Ok : goal.parse_yield_expr-returns-in-Ok
parse_yield_expr-returns-in-Ok g t c =
    let first = c.skip.ensures.took.1 in
    let start = c.cur_span-start.result in
    let place = s.place_was first c.cur_span-start.result c.cur_span-start.ensures in
    let same_at = s.leads_then (s.same_leads g.met.I.Tokens.laws c.in_ok-refuse_yield_param.ensures.passes.0)
    (s.here_leads c.in_ok-goes_on_yield.ensures.looks) in
    let star = c.in_ok-star.star in
    let e = tree_of c.parse_assignment_expr.new.p.nodes c.in-Ok.arg in
    let end = end_at c.parse_assignment_expr.new.p.nodes c.in-Ok.arg.0 in
    let given = ap (λ b. yield_e (from_to start.lo end) b e) (sym (assign.given_some star) ∙ sym c.is_some.ensures) in
    m.after {m = record c.args.p.now { input = c.goes_on_yield.new.input }} c.made-in-Ok.result
    (s.on_then (s.on_took {g = yield_tail _ start} g.met.I.Tokens.laws first
    (λ x ts. assign.yield_opens _ (plain first.was) x ts ∙ ap (λ v. yield_tail g.B.BodyForms.forms v x ts)
    (sym place)))
    (s.on_then (s.on_same {f = yield_tail _ start} g.met.I.Tokens.laws c.in_ok-refuse_yield_param.ensures.passes.0)
    (s.on_seen {g = yield_operand _ start} c.in_ok-goes_on_yield.ensures.looks (λ x ts same e.
    assign.yield_well _ start x ts (ap (λ v. yield_ok v.context)
    (same ∙ s.read_scope g.met.I.Tokens.laws same_at.read) ∙ c.in_ok-refuse_yield_param.ensures.passes.1)
    ∙ assign.yield_goes _ start x ts (ap goes_on_yield_at e ∙ sym c.in_ok-goes_on_yield.ensures.value
    ∙ c.if-not-branch.false)))))
    (grows-same _)
    (m.node _ c.yield_expr-node.result c.made-in-Ok.result c.in-Ok.ensures.from.above c.yield_expr-node.ensures.made
    c.made-in-Ok.ensures.ok c.made-in-Ok.ensures.refused c.parse_assignment_expr.ensures.grows
    c.yield_expr-node.ensures.grows
    (s.heard_answer given (s.heard_after (s.on_call _ (assign.yield_operand_splits _ start)
    (s.eats_on g.B.Bodies.is_faithful is_star star _ _ (c.in_ok-star.ensures.eats g.B.Bodies.is_faithful)))
    (s.heard_call_read (λ x q. Some (yield_e (to start (span_of q.0)) (is_some star) q.0, q.1)) (λ x ts. refl)
    (λ x ts us h y ys. ap (λ v. Some (yield_e (from_to start.lo v) (is_some star) e, ys))
    (sym (ending.ended _ g.met.B.Bodies.lawful c.in-Ok.arg Assign x ts us c.in-Ok.ensures.from h)))
    c.in-Ok.ensures.reads))))

pub parse_yield_expr-returns-in-Err : goal.parse_yield_expr-returns-in-Err
parse_yield_expr-returns-in-Err g t c =
    let first = c.skip.ensures.took.1 in
    let start = c.cur_span-start.result in
    let place = s.place_was first c.cur_span-start.result c.cur_span-start.ensures in
    let same_at = s.leads_then (s.same_leads g.met.I.Tokens.laws c.in_ok-refuse_yield_param.ensures.passes.0)
    (s.here_leads c.in_ok-goes_on_yield.ensures.looks) in
    let star = c.in_ok-star.star in
    m.after {m = record c.args.p.now { input = c.goes_on_yield.new.input }} (Err _)
    (s.on_then (s.on_took {g = yield_tail _ start} g.met.I.Tokens.laws first
    (λ x ts. assign.yield_opens _ (plain first.was) x ts ∙ ap (λ v. yield_tail g.B.BodyForms.forms v x ts)
    (sym place)))
    (s.on_then (s.on_same {f = yield_tail _ start} g.met.I.Tokens.laws c.in_ok-refuse_yield_param.ensures.passes.0)
    (s.on_seen {g = yield_operand _ start} c.in_ok-goes_on_yield.ensures.looks (λ x ts same e.
    assign.yield_well _ start x ts (ap (λ v. yield_ok v.context)
    (same ∙ s.read_scope g.met.I.Tokens.laws same_at.read) ∙ c.in_ok-refuse_yield_param.ensures.passes.1)
    ∙ assign.yield_goes _ start x ts (ap goes_on_yield_at e ∙ sym c.in_ok-goes_on_yield.ensures.value
    ∙ c.if-not-branch.false)))))
    (grows-same _)
    (m.no (s.unheard_as c.label_yield.result c.label_yield.ensures.kind c.label_yield.ensures.memory
    (s.unheard_after (s.on_call _ (assign.yield_operand_splits _ start)
    (s.eats_on g.B.Bodies.is_faithful is_star star _ _ (c.in_ok-star.ensures.eats g.B.Bodies.is_faithful)))
    (s.unheard_call (λ x q. Some (yield_e (to start (span_of q.0)) (is_some star) q.0, q.1))
    (λ x ts. refl) c.in-Err.ensures.reads)))
    c.parse_assignment_expr.ensures.grows)

pub parse_arrow_or_assign-parse_operators-requires : goal.parse_arrow_or_assign-parse_operators-requires
parse_arrow_or_assign-parse_operators-requires g t c =
    let falls = (way.operated g.B.BodyForms.forms c.in-Base.is c.in-Ok.ensures).falls in
    let one = apart-from (expr_part c.in-Base.operand)
    (from-down (omega arith) (way.operated g.B.BodyForms.forms c.in-Base.is c.in-Ok.ensures).from) in
    let apart = pending.operands-as {k = 0} c.in-Base.operand (sym c.new-pending.ensures) one in
    λ κs outlives. (search rules, (search rules, (search rules, (search rules, (search rules, (search rules, apart))))))

pub parse_arrow_or_assign-returns-in_err-left-in-Base : goal.parse_arrow_or_assign-returns-in_err-left-in-Base
parse_arrow_or_assign-returns-in_err-left-in-Base g t c =
    let forms = g.B.BodyForms.forms in
    let ns = c.parse_arrow_or_operand.new.p.nodes in
    let o = s.on_here g.met.I.Tokens.laws _ (λ x ts.
    pending.reads_none forms (tree_of ns) (all_pending c.new-pending.result) c.in-Base.operand x ts
    c.new-pending.ensures) in
    m.refused c.from_residual-in_err-left-in-Base.ensures.1
    (s.unheard_after (way.operated g.B.BodyForms.forms c.in-Base.is c.in-Ok.ensures).reads.opens.on
    (s.unheard_call (way.climbed forms) (way.operand_climbs forms (tree_of ns c.in-Base.operand))
    (s.unheard_after o c.in_err-left-in-Base.ensures.reads)))
    (grows-then c.in-Ok.ensures.grows c.in_err-left-in-Base.ensures.grows)

pub parse_arrow_or_assign-returns-in_ok-left-in-Base : goal.parse_arrow_or_assign-returns-in_ok-left-in-Base
parse_arrow_or_assign-returns-in_ok-left-in-Base g t c =
    let forms = g.B.BodyForms.forms in
    let ns = c.parse_arrow_or_operand.new.p.nodes in
    let ms = c.parse_operators.new.p.nodes in
    let left = c.in_ok-left-in-Base.left in
    let o = s.on_here g.met.I.Tokens.laws _ (λ x ts.
    pending.reads_none forms (tree_of ns) (all_pending c.new-pending.result) c.in-Base.operand x ts
    c.new-pending.ensures) in
    let from = c.in_ok-left-in-Base.ensures.from in
    let first = ap (λ e. first_at ns e.0) (pending.first_none c.in-Base.operand c.new-pending.ensures) in
    let low : count c.args.p.now.nodes ≤ first_at ms left.0 =
    let a = (way.operated g.B.BodyForms.forms c.in-Base.is c.in-Ok.ensures).from.above in let b = from.above in
    omega arith in
    way.finished {j = first_at ms left.0} {m = c.parse_operators.new.p} c.finish_assignment_expr-in-Base.result
    (way.operators_left forms (way.operated g.B.BodyForms.forms c.in-Base.is c.in-Ok.ensures).reads
    (s.on_then o c.in_ok-left-in-Base.ensures.reads)
    (λ v y ys. way.left_from forms left from v y ys))
    (grows-then c.in-Ok.ensures.grows c.in_ok-left-in-Base.ensures.grows)
    low (λ x. from-down low)
    c.finish_assignment_expr-in-Base.ensures

pub parse_arrow_or_assign-parse_operators-requires-in-Operand :
    goal.parse_arrow_or_assign-parse_operators-requires-in-Operand
parse_arrow_or_assign-parse_operators-requires-in-Operand g t c =
    let falls = (way.operated g.B.BodyForms.forms c.in-Operand.is c.in-Ok.ensures).falls in
    let one = apart-from (expr_part c.in-Operand.arrow)
    (from-down (omega arith) (way.operated g.B.BodyForms.forms c.in-Operand.is c.in-Ok.ensures).from) in
    let apart = pending.operands-as {k = 0} c.in-Operand.arrow (sym c.new-pending.ensures) one in
    λ κs outlives. (search rules, (search rules, (search rules, (search rules, (search rules, (search rules, apart))))))

pub parse_arrow_or_assign-recover_operators-requires-in-Err-parse_operators :
    goal.parse_arrow_or_assign-recover_operators-requires-in-Err-parse_operators
parse_arrow_or_assign-recover_operators-requires-in-Err-parse_operators g t c =
    let kind = c.in-Err-parse_operators.ensures.reads.refuses.kind in
    λ κs outlives. (search rules, (search rules, (search rules, (search rules, (search rules, (search rules, kind))))))

pub parse_arrow_or_assign-returns-in_err-left-in-Err-parse_operators :
    goal.parse_arrow_or_assign-returns-in_err-left-in-Err-parse_operators
parse_arrow_or_assign-returns-in_err-left-in-Err-parse_operators g t c =
    let h = c.in_err-left-in-Err-parse_operators.ensures in
    let u = doomed_unheard (way.operated g.B.BodyForms.forms c.in-Operand.is c.in-Ok.ensures).reads.doomed
    c.in-Err-parse_operators.ensures.reads.refuses in
    m.refused c.from_residual-in_err-left-in-Err-parse_operators.ensures.1
    (s.unheard_doomed u h.memory h.effect)
    (grows-then c.in-Ok.ensures.grows (grows-then c.in-Err-parse_operators.ensures.grows h.grows))

pub parse_arrow_or_assign-returns-in-Err-parse_operators : goal.parse_arrow_or_assign-returns-in-Err-parse_operators
parse_arrow_or_assign-returns-in-Err-parse_operators g t c =
    let h = c.in_ok-left-in-Err-parse_operators.ensures in
    let u = doomed_unheard (way.operated g.B.BodyForms.forms c.in-Operand.is c.in-Ok.ensures).reads.doomed
    c.in-Err-parse_operators.ensures.reads.refuses in
    let grows = grows-then c.in-Ok.ensures.grows c.in-Err-parse_operators.ensures.grows in
    let a = grows-count grows in
    let b = h.from.above in
    way.failed {m = c.recover_operators-in-Err-parse_operators.new.p}
    c.finish_assignment_expr-in-Err-parse_operators.result
    (again.fails_recovered u h.some h.effect h.notes)
    (grows-then grows h.grows)
    (omega arith) (λ x. from-down (omega arith))
    c.finish_assignment_expr-in-Err-parse_operators.ensures

pub parse_arrow_or_assign-returns-in_err-check_operators_end-in-Operand :
    goal.parse_arrow_or_assign-returns-in_err-check_operators_end-in-Operand
parse_arrow_or_assign-returns-in_err-check_operators_end-in-Operand g t c =
    m.refused c.from_residual-in_err-check_operators_end-in-Operand.ensures.1
    (doomed_unheard (doomed_later (way.operated g.B.BodyForms.forms c.in-Operand.is c.in-Ok.ensures).reads.doomed
    c.in-Ok-parse_operators.ensures.reads.leads)
    (s.forgoes_refuses c.in_err-check_operators_end-in-Operand.ensures.tries))
    (grows-then c.in-Ok.ensures.grows c.in-Ok-parse_operators.ensures.grows)

pub parse_arrow_or_assign-returns-in_err-check_nullish_left-in-Operand :
    goal.parse_arrow_or_assign-returns-in_err-check_nullish_left-in-Operand
parse_arrow_or_assign-returns-in_err-check_nullish_left-in-Operand g t c =
    m.refused c.from_residual-in_err-check_nullish_left-in-Operand.ensures.1
    (doomed_unheard (doomed_later (doomed_later (way.operated g.B.BodyForms.forms c.in-Operand.is
    c.in-Ok.ensures).reads.doomed c.in-Ok-parse_operators.ensures.reads.leads)
    c.in_ok-check_operators_end-in-Operand.ensures.tries)
    (s.forgoes_refuses c.in_err-check_nullish_left-in-Operand.ensures.checks))
    (grows-then c.in-Ok.ensures.grows c.in-Ok-parse_operators.ensures.grows)

pub parse_arrow_or_assign-returns-in_ok-check_nullish_left-in-Operand :
    goal.parse_arrow_or_assign-returns-in_ok-check_nullish_left-in-Operand
parse_arrow_or_assign-returns-in_ok-check_nullish_left-in-Operand g t c =
    let from = c.in-Ok-parse_operators.ensures.from in
    let first = ap (λ e. first_at c.parse_arrow_or_operand.new.p.nodes e.0)
    (pending.first_none c.in-Operand.arrow c.new-pending.ensures) in
    let low : count c.args.p.now.nodes ≤ first_at c.parse_operators-in-Operand.new.p.nodes
    c.in-Ok-parse_operators.left.0 =
    let a = (way.operated g.B.BodyForms.forms c.in-Operand.is c.in-Ok.ensures).from.above in let b = from.above in
    omega arith in
    way.failed {j = first_at c.parse_operators-in-Operand.new.p.nodes c.in-Ok-parse_operators.left.0}
    {m = record c.parse_operators-in-Operand.new.p { input = c.check_nullish_left.new.input }}
    c.finish_assignment_expr-in-Operand.result
    (fails_later (fails_later (fails_later (way.operated g.B.BodyForms.forms c.in-Operand.is c.in-Ok.ensures).reads
    c.in-Ok-parse_operators.ensures.reads.leads)
    c.in_ok-check_operators_end-in-Operand.ensures.tries) c.in_ok-check_nullish_left-in-Operand.ensures.checks.leads)
    (grows-then c.in-Ok.ensures.grows c.in-Ok-parse_operators.ensures.grows)
    low (λ x. from-down low)
    c.finish_assignment_expr-in-Operand.ensures

pub parse_arrow_or_assign-returns-in_err-left-in-Other : goal.parse_arrow_or_assign-returns-in_err-left-in-Other
parse_arrow_or_assign-returns-in_err-left-in-Other g t c =
    let forms = g.B.BodyForms.forms in
    m.refused c.from_residual-in_err-left-in-Other.ensures.1
    (s.unheard_after (way.operated g.B.BodyForms.forms c.in-Other.is c.in-Ok.ensures).reads
    (s.unheard_call (λ x p. run forms (assigns p.0) x p.1)
    (begun.others_splits forms) c.in_err-left-in-Other.ensures.reads))
    (grows-then c.in-Ok.ensures.grows c.in_err-left-in-Other.ensures.grows)

pub parse_arrow_or_assign-returns-in_ok-left-in-Other : goal.parse_arrow_or_assign-returns-in_ok-left-in-Other
parse_arrow_or_assign-returns-in_ok-left-in-Other g t c =
    let forms = g.B.BodyForms.forms in
    let ns = c.parse_bin_expr.new.p.nodes in
    let left = c.in_ok-left-in-Other.left in
    let from = c.in_ok-left-in-Other.ensures.from in
    let low : count c.args.p.now.nodes ≤ first_at ns left.0 =
    let a = grows-count c.in-Ok.ensures.grows in let b = from.above in omega arith in
    way.finished {j = first_at ns left.0} {m = c.parse_bin_expr.new.p} c.finish_assignment_expr-in-Other.result
    (opens_after (way.operated g.B.BodyForms.forms c.in-Other.is c.in-Ok.ensures).reads
    (opens_call_read (λ x p. run forms (assigns p.0) x p.1) (begun.others_splits forms)
    c.in_ok-left-in-Other.ensures.reads (λ x ts us h y ys.
    way.left_from forms left from (ending.read-valid forms g.met.B.Bodies.lawful (Level 1) x ts us (tree_of ns left) h)
    y ys)))
    (grows-then c.in-Ok.ensures.grows c.in_ok-left-in-Other.ensures.grows)
    low (λ x. from-down low)
    c.finish_assignment_expr-in-Other.ensures

pub parse_arrow_or_assign-recover_operators-requires : goal.parse_arrow_or_assign-recover_operators-requires
parse_arrow_or_assign-recover_operators-requires g t c =
    let spent = c.in-Err.ensures.reads.refuses.spends.read.lower in
    let kind = c.in-Err.ensures.reads.refuses.kind in
    λ κs outlives. (search rules, (search rules, (search rules, (search rules, (search rules, (search rules, kind))))))

pub parse_arrow_or_assign-returns-in_err-left-in-Err : goal.parse_arrow_or_assign-returns-in_err-left-in-Err
parse_arrow_or_assign-returns-in_err-left-in-Err g t c =
    let h = c.in_err-left-in-Err.ensures in
    m.refused c.from_residual.ensures.1
    (s.unheard_doomed c.in-Err.ensures.reads h.memory h.effect)
    (grows-then c.parse_arrow_or_operand.ensures.grows h.grows)

pub parse_arrow_or_assign-returns-in-Err : goal.parse_arrow_or_assign-returns-in-Err
parse_arrow_or_assign-returns-in-Err g t c =
    let h = c.in_ok-left-in-Err.ensures in
    let a = grows-count c.parse_arrow_or_operand.ensures.grows in
    let b = h.from.above in
    way.failed {m = c.recover_operators.new.p} c.finish_assignment_expr.result
    (again.fails_recovered c.in-Err.ensures.reads h.some h.effect h.notes)
    (grows-then c.parse_arrow_or_operand.ensures.grows h.grows)
    (omega arith) (λ x. from-down (omega arith))
    c.finish_assignment_expr.ensures

pub parse_arrow_or_operand-parse_subscripts-requires : goal.parse_arrow_or_operand-parse_subscripts-requires
parse_arrow_or_operand-parse_subscripts-requires g t c =
    let falls = (way.answered g.B.BodyForms.forms c.in-Base.is c.in_ok-other.ensures).falls in
    let from = from-down {k = 0} (omega arith) (way.answered g.B.BodyForms.forms c.in-Base.is
    c.in_ok-other.ensures).from in
    λ κs outlives. (search rules, (search rules, (search rules, (search rules, (search rules, (search rules, from))))))

pub parse_arrow_or_operand-returns-in_err-callee-in-Base : goal.parse_arrow_or_operand-returns-in_err-callee-in-Base
parse_arrow_or_operand-returns-in_err-callee-in-Base g t c =
    let forms = g.B.BodyForms.forms in
    let e = tree_of c.parse_arrow_or_base.new.p.nodes c.in-Base.base in
    way.operand_refused forms _ c.from_residual-in_err-callee-in-Base.ensures.1
    (s.unheard_after (way.answered g.B.BodyForms.forms c.in-Base.is c.in_ok-other.ensures).reads.opens.on
    (s.unheard_call (way.linked forms) (way.base_links forms e) c.in_err-callee-in-Base.ensures.reads))
    (grows-then (way.answered g.B.BodyForms.forms c.in-Base.is c.in_ok-other.ensures).grows
    c.in_err-callee-in-Base.ensures.grows)

pub parse_arrow_or_operand-parse_update_postfix-requires : goal.parse_arrow_or_operand-parse_update_postfix-requires
parse_arrow_or_operand-parse_update_postfix-requires g t c =
    record { from = from-down (omega arith) c.in_ok-callee-in-Base.ensures.from }

pub parse_arrow_or_operand-returns-in_err-operand-in-Base : goal.parse_arrow_or_operand-returns-in_err-operand-in-Base
parse_arrow_or_operand-returns-in_err-operand-in-Base g t c =
    let forms = g.B.BodyForms.forms in
    let e = tree_of c.parse_arrow_or_base.new.p.nodes c.in-Base.base in
    way.operand_refused forms _ c.from_residual-in_err-operand-in-Base.ensures.1
    (s.unheard_after (s.on_then (way.answered g.B.BodyForms.forms c.in-Base.is c.in_ok-other.ensures).reads.opens.on
    (s.on_call (way.linked forms) (way.base_links forms e) c.in_ok-callee-in-Base.ensures.reads))
    (s.unheard_call (way.updated forms) (λ x ts. refl) c.in_err-operand-in-Base.ensures.reads))
    (grows-then (way.answered g.B.BodyForms.forms c.in-Base.is c.in_ok-other.ensures).grows
    (grows-then c.in_ok-callee-in-Base.ensures.grows c.in_err-operand-in-Base.ensures.grows))

pub parse_arrow_or_operand-returns-in_ok-operand-in-Base : goal.parse_arrow_or_operand-returns-in_ok-operand-in-Base
parse_arrow_or_operand-returns-in_ok-operand-in-Base g t c =
    let forms = g.B.BodyForms.forms in
    let a = (way.answered g.B.BodyForms.forms c.in-Base.is c.in_ok-other.ensures).from.above in
    let b = c.in_ok-callee-in-Base.ensures.from.above in
    way.operand_read forms c.in_ok-operand-in-Base.operand
    (way.operanded forms g.met.B.Bodies.lawful (way.answered g.B.BodyForms.forms c.in-Base.is
    c.in_ok-other.ensures).reads
    c.in_ok-callee-in-Base.ensures.reads c.in_ok-operand-in-Base.ensures.reads)
    (grows-then (way.answered g.B.BodyForms.forms c.in-Base.is c.in_ok-other.ensures).grows
    (grows-then c.in_ok-callee-in-Base.ensures.grows c.in_ok-operand-in-Base.ensures.grows))
    (from-down (omega arith) c.in_ok-operand-in-Base.ensures.from)

pub parse_arrow_or_base-returns-in_err-start_kind : goal.parse_arrow_or_base-returns-in_err-start_kind
parse_arrow_or_base-returns-in_err-start_kind g t c =
    begun.may_refused g.B.BodyForms.forms _ c.from_residual.ensures.1
    (s.unheard_memory c.in_err-start_kind.ensures.tells) (grows-same _)

pub parse_arrow_or_base-returns-in-Other : goal.parse_arrow_or_base-returns-in-Other
parse_arrow_or_base-returns-in-Other g t c =
    let forms = g.B.BodyForms.forms in
    begun.may_other forms (told.head_told forms (others forms) c.requires.looked
    (told.told_by c.in-Other.is c.in_ok-start_kind.ensures.tells)
    c.requires.fit c.requires.no_yield (λ x ts begins is. head_law.assign_others forms x ts begins is)) (grows-same _)

pub parse_arrow_or_base-returns-in_err-head-in-Name : goal.parse_arrow_or_base-returns-in_err-head-in-Name
parse_arrow_or_base-returns-in_err-head-in-Name g t c =
    let forms = g.B.BodyForms.forms in
    begun.may_refused forms _ c.from_residual-in_err-head-in-Name.ensures.1
    (s.unheard_after (told.head_told forms (name_arrow forms) c.requires.looked
    (told.told_by c.in-Name.is c.in_ok-start_kind.ensures.tells)
    c.requires.fit c.requires.no_yield (λ x ts begins is. head_law.assign_name forms x ts begins is))
    c.in_err-head-in-Name.ensures.leaves.reads) c.in_err-head-in-Name.ensures.leaves.grows

pub parse_arrow_or_base-parse_arrow_rest-requires : goal.parse_arrow_or_base-parse_arrow_rest-requires
parse_arrow_or_base-parse_arrow_rest-requires g t c =
    let falls = c.in_ok-start_kind.ensures.falls in
    let less = c.in_ok-head-in-Name.ensures.less in
    let apart = told.head_apart c.parse_arrow_name.new.p.nodes c.in_ok-head-in-Name.field-0 (count c.args.p.now.nodes) 0
    (omega arith) c.in-Arrow.is c.in_ok-head-in-Name.ensures.leaves.from in
    λ κs outlives. (search rules, (search rules, (search rules, (search rules, (search rules, (search rules, apart))))))

pub parse_arrow_or_base-returns-in-Arrow : goal.parse_arrow_or_base-returns-in-Arrow
parse_arrow_or_base-returns-in-Arrow g t c =
    let forms = g.B.BodyForms.forms in
    let leaves = c.in_ok-head-in-Name.ensures.leaves in
    begun.may_arrow forms {m = c.parse_arrow_name.new.p} c.parse_arrow_rest.result
    (s.on_then (told.head_told forms (name_arrow forms) c.requires.looked
    (told.told_by c.in-Name.is c.in_ok-start_kind.ensures.tells)
    c.requires.fit c.requires.no_yield (λ x ts begins is. head_law.assign_name forms x ts begins is))
    (told.head_behind c.parse_arrow_name.new.p.nodes c.in_ok-head-in-Name.field-0 forms c.in-Arrow.is leaves.reads))
    leaves.grows (omega arith) (c.parse_arrow_rest.ensures.reads (count c.args.p.now.nodes)
    (told.head_apart c.parse_arrow_name.new.p.nodes c.in_ok-head-in-Name.field-0 (count c.args.p.now.nodes)
    (count c.args.p.now.nodes) (omega arith) c.in-Arrow.is leaves.from))

pub parse_arrow_or_base-returns-in_err-head-in-AsyncName : goal.parse_arrow_or_base-returns-in_err-head-in-AsyncName
parse_arrow_or_base-returns-in_err-head-in-AsyncName g t c =
    let forms = g.B.BodyForms.forms in
    begun.may_refused forms _ c.from_residual-in_err-head-in-AsyncName.ensures.1
    (s.unheard_after (told.head_told forms (async_arrow forms) c.requires.looked
    (told.told_by c.in-AsyncName.is c.in_ok-start_kind.ensures.tells)
    c.requires.fit c.requires.no_yield (λ x ts begins is. head_law.assign_async_name forms x ts begins is))
    c.in_err-head-in-AsyncName.ensures.leaves.reads) c.in_err-head-in-AsyncName.ensures.leaves.grows

pub parse_arrow_or_base-parse_arrow_rest-requires-in-Arrow-2 :
    goal.parse_arrow_or_base-parse_arrow_rest-requires-in-Arrow-2
parse_arrow_or_base-parse_arrow_rest-requires-in-Arrow-2 g t c =
    let falls = c.in_ok-start_kind.ensures.falls in
    let less = c.in_ok-head-in-AsyncName.ensures.less in
    let apart = told.head_apart c.parse_async_name.new.p.nodes c.in_ok-head-in-AsyncName.field-0
    (count c.args.p.now.nodes) 0 (omega arith) c.in-Arrow-2.is c.in_ok-head-in-AsyncName.ensures.leaves.from in
    λ κs outlives. (search rules, (search rules, (search rules, (search rules, (search rules, (search rules, apart))))))

pub parse_arrow_or_base-returns-in-Arrow-2 : goal.parse_arrow_or_base-returns-in-Arrow-2
parse_arrow_or_base-returns-in-Arrow-2 g t c =
    let forms = g.B.BodyForms.forms in
    let leaves = c.in_ok-head-in-AsyncName.ensures.leaves in
    begun.may_arrow forms {m = c.parse_async_name.new.p} c.parse_arrow_rest-in-Arrow-2.result
    (s.on_then (told.head_told forms (async_arrow forms) c.requires.looked
    (told.told_by c.in-AsyncName.is c.in_ok-start_kind.ensures.tells)
    c.requires.fit c.requires.no_yield (λ x ts begins is. head_law.assign_async_name forms x ts begins is))
    (told.head_behind c.parse_async_name.new.p.nodes c.in_ok-head-in-AsyncName.field-0 forms c.in-Arrow-2.is
    leaves.reads))
    leaves.grows (omega arith) (c.parse_arrow_rest-in-Arrow-2.ensures.reads (count c.args.p.now.nodes)
    (told.head_apart c.parse_async_name.new.p.nodes c.in_ok-head-in-AsyncName.field-0 (count c.args.p.now.nodes)
    (count c.args.p.now.nodes) (omega arith) c.in-Arrow-2.is leaves.from))

pub parse_arrow_or_base-returns-in-Base-2 : goal.parse_arrow_or_base-returns-in-Base-2
parse_arrow_or_base-returns-in-Base-2 g t c =
    let forms = g.B.BodyForms.forms in
    let async = c.in_ok-head-in-AsyncName.ensures in
    let tells = told.told_by c.in-AsyncName.is c.in_ok-start_kind.ensures.tells in
    begun.may_base forms c.in-Base-2.base (record {
      opens = opens_after (told.head_told forms (async_arrow forms) c.requires.looked tells
          c.requires.fit c.requires.no_yield (λ x ts begins is. head_law.assign_async_name forms x ts begins is))
          (told.base_opens c.parse_async_name.new.p.nodes c.in_ok-head-in-AsyncName.field-0 forms c.in-Base-2.is
          async.opens);
      heard = base_law.operand_told forms c.requires.looked tells
          (base_law.async_heard forms g.met.B.Bodies.lawful
          (told.base_hears c.parse_async_name.new.p.nodes c.in_ok-head-in-AsyncName.field-0 c.in-Base-2.is async.base));
    }) async.leaves.grows (told.base_from c.parse_async_name.new.p.nodes c.in_ok-head-in-AsyncName.field-0
    (count c.args.p.now.nodes) c.in-Base-2.is async.leaves.from)

pub parse_arrow_or_base-returns-in_err-start-in-List : goal.parse_arrow_or_base-returns-in_err-start-in-List
parse_arrow_or_base-returns-in_err-start-in-List g t c =
    let forms = g.B.BodyForms.forms in
    begun.may_refused forms _ c.from_residual-in_err-start-in-List.ensures.1
    (s.unheard_after (told.head_told forms (list_head forms c.in-List.is_async) c.requires.looked
    (told.told_by c.in-List.is c.in_ok-start_kind.ensures.tells)
    c.requires.fit c.requires.no_yield (λ x ts begins is.
    head_law.assign_listed forms x c.in-List.is_async ts begins is))
    c.in_err-start-in-List.ensures.leaves.reads) c.in_err-start-in-List.ensures.leaves.grows

pub parse_arrow_or_base-returns-in_err-list-in-List : goal.parse_arrow_or_base-returns-in_err-list-in-List
parse_arrow_or_base-returns-in_err-list-in-List g t c =
    let inner = args_within g.B.BodyForms.forms false c.get_ctx.ensures c.items_context-ctx.ensures.decides
    c.replace_ctx-before.ensures.before c.replace_ctx-before.ensures.moves c.replace_ctx-before.ensures.context
    c.parse_args-read.ensures c.in_err-list-in-List.was c.replace_ctx.ensures.moves c.replace_ctx.ensures.context in
    let forms = g.B.BodyForms.forms in
    let leaves = c.in_ok-start-in-List.ensures.leaves in
    let start = c.in_ok-start-in-List.start in
    let callee = callee_at c.open_list.new.p.nodes start.callee in
    begun.may_refused forms _ c.from_residual-in_err-list-in-List.ensures.1
    (s.unheard_after (s.on_then (told.head_told forms (list_head forms c.in-List.is_async) c.requires.looked
    (told.told_by c.in-List.is c.in_ok-start_kind.ensures.tells)
    c.requires.fit c.requires.no_yield (λ x ts begins is.
    head_law.assign_listed forms x c.in-List.is_async ts begins is)) leaves.reads)
    (s.unheard_call (λ x q. list_behind forms callee start.at q.0 x q.1) (begun.list_splits forms callee start.at)
    inner.reads)) (grows-then leaves.grows inner.grows)

pub parse_arrow_or_base-close_list-requires : goal.parse_arrow_or_base-close_list-requires
parse_arrow_or_base-close_list-requires g t c =
    let inner = args_within g.B.BodyForms.forms false c.get_ctx.ensures c.items_context-ctx.ensures.decides
    c.replace_ctx-before.ensures.before c.replace_ctx-before.ensures.moves c.replace_ctx-before.ensures.context
    c.parse_args-read.ensures c.in_ok-list-in-List.was c.replace_ctx.ensures.moves c.replace_ctx.ensures.context in
    apart-more inner.grows
    (apart-down (callee_parts c.in_ok-start-in-List.start.callee) c.in_ok-start-in-List.ensures.leaves.from)
    inner.from

pub parse_arrow_or_base-returns-in_err-head-in-List : goal.parse_arrow_or_base-returns-in_err-head-in-List
parse_arrow_or_base-returns-in_err-head-in-List g t c =
    let forms = g.B.BodyForms.forms in
    let opened = c.in_ok-start-in-List.ensures in
    let start = c.in_ok-start-in-List.start in
    let list = args_within g.B.BodyForms.forms false c.get_ctx.ensures c.items_context-ctx.ensures.decides
    c.replace_ctx-before.ensures.before c.replace_ctx-before.ensures.moves c.replace_ctx-before.ensures.context
    c.parse_args-read.ensures c.in_ok-list-in-List.was c.replace_ctx.ensures.moves c.replace_ctx.ensures.context in
    let told_list = told.head_told forms (list_head forms c.in-List.is_async) c.requires.looked
    (told.told_by c.in-List.is c.in_ok-start_kind.ensures.tells) c.requires.fit c.requires.no_yield
    (λ x ts begins is. head_law.assign_listed forms x c.in-List.is_async ts begins is) in
    let a = grows-count opened.leaves.grows in
    let b = grows-count list.grows in
    let w = c.in_err-head-in-List.ensures.rewrites (count c.args.p.now.nodes) (omega arith)
    (apart-more list.grows opened.leaves.from list.from) in
    begun.may_refused forms _ c.from_residual-in_err-head-in-List.ensures.1
    (s.unheard_after (told.list_opened forms g.met.B.Bodies.lawful start c.in_ok-list-in-List.list
    (s.on_then told_list opened.leaves.reads) opened.callee opened.leaves.from list.grows list.from list.reads).on
    w.reads)
    (cover_kept.grows-kept (grows-then opened.leaves.grows list.grows) (omega arith) w.kept)

pub parse_arrow_or_base-parse_arrow_rest-requires-in-Arrow-3 :
    goal.parse_arrow_or_base-parse_arrow_rest-requires-in-Arrow-3
parse_arrow_or_base-parse_arrow_rest-requires-in-Arrow-3 g t c =
    let opened = c.in_ok-start-in-List.ensures in
    let list = args_within g.B.BodyForms.forms false c.get_ctx.ensures c.items_context-ctx.ensures.decides
    c.replace_ctx-before.ensures.before c.replace_ctx-before.ensures.moves c.replace_ctx-before.ensures.context
    c.parse_args-read.ensures c.in_ok-list-in-List.was c.replace_ctx.ensures.moves c.replace_ctx.ensures.context in
    let a = grows-count opened.leaves.grows in
    let b = grows-count list.grows in
    let w = c.in_ok-head-in-List.ensures.rewrites (count c.args.p.now.nodes) (omega arith)
    (apart-more list.grows opened.leaves.from list.from) in
    let falls = c.in_ok-start_kind.ensures.falls in
    let less = opened.less in
    let read = list.falls in
    let closed = w.falls in
    let apart = told.head_apart c.close_list.new.p.nodes c.in_ok-head-in-List.field-0 (count c.args.p.now.nodes) 0
    (omega arith) c.in-Arrow-3.is w.from in
    λ κs outlives. (search rules, (search rules, (search rules, (search rules, (search rules, (search rules, apart))))))

pub parse_arrow_or_base-returns-in-Arrow-3 : goal.parse_arrow_or_base-returns-in-Arrow-3
parse_arrow_or_base-returns-in-Arrow-3 g t c =
    let forms = g.B.BodyForms.forms in
    let opened = c.in_ok-start-in-List.ensures in
    let start = c.in_ok-start-in-List.start in
    let list = args_within g.B.BodyForms.forms false c.get_ctx.ensures c.items_context-ctx.ensures.decides
    c.replace_ctx-before.ensures.before c.replace_ctx-before.ensures.moves c.replace_ctx-before.ensures.context
    c.parse_args-read.ensures c.in_ok-list-in-List.was c.replace_ctx.ensures.moves c.replace_ctx.ensures.context in
    let told_list = told.head_told forms (list_head forms c.in-List.is_async) c.requires.looked
    (told.told_by c.in-List.is c.in_ok-start_kind.ensures.tells) c.requires.fit c.requires.no_yield
    (λ x ts begins is. head_law.assign_listed forms x c.in-List.is_async ts begins is) in
    let a = grows-count opened.leaves.grows in
    let b = grows-count list.grows in
    let w = c.in_ok-head-in-List.ensures.rewrites (count c.args.p.now.nodes) (omega arith)
    (apart-more list.grows opened.leaves.from list.from) in
    begun.may_arrow forms {m = c.close_list.new.p} c.parse_arrow_rest-in-Arrow-3.result
    (s.on_then (told.list_opened forms g.met.B.Bodies.lawful start c.in_ok-list-in-List.list
    (s.on_then told_list opened.leaves.reads) opened.callee opened.leaves.from list.grows list.from list.reads).on
    (told.head_behind c.close_list.new.p.nodes c.in_ok-head-in-List.field-0 forms c.in-Arrow-3.is w.reads))
    (cover_kept.grows-kept (grows-then opened.leaves.grows list.grows) (omega arith) w.kept) (omega arith)
    (c.parse_arrow_rest-in-Arrow-3.ensures.reads (count c.args.p.now.nodes)
    (told.head_apart c.close_list.new.p.nodes c.in_ok-head-in-List.field-0 (count c.args.p.now.nodes)
    (count c.args.p.now.nodes) (omega arith) c.in-Arrow-3.is w.from))

pub parse_arrow_or_base-returns-in-Base-3 : goal.parse_arrow_or_base-returns-in-Base-3
parse_arrow_or_base-returns-in-Base-3 g t c =
    let forms = g.B.BodyForms.forms in
    let opened = c.in_ok-start-in-List.ensures in
    let start = c.in_ok-start-in-List.start in
    let list = args_within g.B.BodyForms.forms false c.get_ctx.ensures c.items_context-ctx.ensures.decides
    c.replace_ctx-before.ensures.before c.replace_ctx-before.ensures.moves c.replace_ctx-before.ensures.context
    c.parse_args-read.ensures c.in_ok-list-in-List.was c.replace_ctx.ensures.moves c.replace_ctx.ensures.context in
    let tells = told.told_by c.in-List.is c.in_ok-start_kind.ensures.tells in
    let told_list = told.head_told forms (list_head forms c.in-List.is_async) c.requires.looked tells c.requires.fit
    c.requires.no_yield (λ x ts begins is. head_law.assign_listed forms x c.in-List.is_async ts begins is) in
    let a = grows-count opened.leaves.grows in
    let b = grows-count list.grows in
    let w = c.in_ok-head-in-List.ensures.rewrites (count c.args.p.now.nodes) (omega arith)
    (apart-more list.grows opened.leaves.from list.from) in
    begun.may_base forms c.in-Base-3.base (record {
      opens = opens_later (told.list_opened forms g.met.B.Bodies.lawful start c.in_ok-list-in-List.list
          (s.on_then told_list opened.leaves.reads) opened.callee opened.leaves.from list.grows list.from list.reads)
          (told.base_on c.close_list.new.p.nodes c.in_ok-head-in-List.field-0 forms c.in-Base-3.is w.reads);
      heard = base_law.operand_told forms c.requires.looked tells
          (told.list_operand forms g.met.B.Bodies.lawful c.in-List.is_async start c.in_ok-list-in-List.list
          opened.leaves.from list.grows list.from opened.opens list.reads
          (told.base_is c.close_list.new.p.nodes c.in_ok-head-in-List.field-0 c.in-Base-3.is
          c.in_ok-head-in-List.ensures.base));
    }) (cover_kept.grows-kept (grows-then opened.leaves.grows list.grows) (omega arith) w.kept)
    (told.base_from c.close_list.new.p.nodes c.in_ok-head-in-List.field-0
    (count c.args.p.now.nodes) c.in-Base-3.is w.from)

pub parse_arrow_rest-arrow_function-arrow-requires : goal.parse_arrow_rest-arrow_function-arrow-requires
parse_arrow_rest-arrow_function-arrow-requires g t c =
    let h = c.args.head in
    let read = bodies.body_within g.B.BodyForms.forms g.met.B.Bodies.lawful h.is_async c.get_ctx.ensures
    c.arrow_body-ctx.ensures c.replace_ctx-before.ensures.before c.replace_ctx-before.ensures.moves
    c.replace_ctx-before.ensures.context c.parse_arrow_body-read.ensures c.in-Ok.is c.replace_ctx.ensures.moves
    c.replace_ctx.ensures.context in
    apart-more read.grows c.requires read.from

pub parse_arrow_rest-returns-clause-reads : goal.parse_arrow_rest-returns-clause-reads
parse_arrow_rest-returns-clause-reads g t c =
    let forms = g.B.BodyForms.forms in
    let h = c.args.head in
    let ns = c.parse_arrow_body-read.new.p.nodes in
    let ps = pat_trees (tree_at c.args.p.now.nodes) h.params in
    let splits = begun.arrow_splits forms h.start h.is_async h.in_parens ps in
    λ k apart. elim c.match-body.branch [
      | parse_arrow_rest-in-Ok w ↦ rw (w.p-is, w.arrow-is) (
          let read = bodies.body_within g.B.BodyForms.forms g.met.B.Bodies.lawful h.is_async c.get_ctx.ensures
          c.arrow_body-ctx.ensures c.replace_ctx-before.ensures.before c.replace_ctx-before.ensures.moves
          c.replace_ctx-before.ensures.context c.parse_arrow_body-read.ensures w.in-Ok.is c.replace_ctx.ensures.moves
          c.replace_ctx.ensures.context in
          let b = w.in-Ok.body in
          bodies.found_before c.args.p.now.found_module_item
          (begun.arrow_read {m = record c.parse_arrow_body-read.new.p { input = c.replace_ctx.new.input }}
          w.arrow_function-arrow.result
          (opens_call_read {g = λ x ts. arrow_end h.start (body_end ns b) h.is_async h.in_parens
          (pat_trees (tree_at ns) h.params) (body_at ns b) ts}
          (λ x p. arrow_end h.start (span_of p.0).hi h.is_async h.in_parens ps p.0 p.1) splits read.reads (λ x ts us f y
          ys.
          begun.end_same forms g.met.B.Bodies.lawful h.start h.is_async h.in_parens ps b read.from x ts us f ys
          ∙ ap (λ v. arrow_end h.start (body_end ns b) h.is_async h.in_parens v (body_at ns b) ys)
          (sym (list-later one_pat (λ at x. at x.0) (λ at by x f. same_first f) h.params.items read.grows apart))))
          read.grows (omega arith) (w.arrow_function-arrow.ensures k (apart-more read.grows apart read.from))))
      | parse_arrow_rest-in-Err w ↦ rw (w.p-is, w.arrow-is) (
          let read = bodies.body_within g.B.BodyForms.forms g.met.B.Bodies.lawful h.is_async c.get_ctx.ensures
          c.arrow_body-ctx.ensures c.replace_ctx-before.ensures.before c.replace_ctx-before.ensures.moves
          c.replace_ctx-before.ensures.context c.parse_arrow_body-read.ensures w.in-Err.is c.replace_ctx.ensures.moves
          c.replace_ctx.ensures.context in
          bodies.found_before c.args.p.now.found_module_item
          (begun.rest_refused {q = record c.parse_arrow_body-read.new.p { input = c.replace_ctx.new.input }}
          (s.unheard_call
          (λ x p. arrow_end h.start (span_of p.0).hi h.is_async h.in_parens ps p.0 p.1) splits read.reads) read.grows))
    ]

pub parse_arrow_body-returns-in_err-begins_block : goal.parse_arrow_body-returns-in_err-begins_block
parse_arrow_body-returns-in_err-begins_block g t c =
    m.refused c.from_residual.ensures.1 (s.unheard_memory c.in_err-begins_block.ensures.looks) (grows-same _)

pub parse_arrow_body-returns-then-branch : goal.parse_arrow_body-returns-then-branch
parse_arrow_body-returns-then-branch g t c =
    let forms = g.B.BodyForms.forms in
    m.after {m = record c.args.p.now { input = c.begins_block.new.input }} c.parse_block_body.result
    (s.on_seen {g = block_inside forms g.B.Block.Spanned.place} c.in_ok-begins_block.ensures.looks
    (λ x ts same e. bodies.block_read forms g.B.Block.Spanned.place x ts
    (ap (at_token is_brace) e ∙ sym c.in_ok-begins_block.ensures.value ∙ c.if-branch.true)))
    (grows-same _) c.parse_block_body.ensures

pub parse_arrow_body-returns-in_err-expr : goal.parse_arrow_body-returns-in_err-expr
parse_arrow_body-returns-in_err-expr g t c =
    let forms = g.B.BodyForms.forms in
    m.refused c.from_residual-in_err-expr.ensures.1
    (s.unheard_after (s.on_seen {g = run forms (at Assign)} c.in_ok-begins_block.ensures.looks
    (λ x ts same e. bodies.expr_read forms g.B.Block.Spanned.place x ts
    (ap (at_token is_brace) e ∙ sym c.in_ok-begins_block.ensures.value ∙ c.if-branch.false)))
    c.in_err-expr.ensures.reads) c.in_err-expr.ensures.grows

pub parse_arrow_body-returns : goal.parse_arrow_body-returns
parse_arrow_body-returns g t c =
    let forms = g.B.BodyForms.forms in
    m.yes (Ok _) (s.heard_after (s.on_seen {g = run forms (at Assign)} c.in_ok-begins_block.ensures.looks
    (λ x ts same e. bodies.expr_read forms g.B.Block.Spanned.place x ts
    (ap (at_token is_brace) e ∙ sym c.in_ok-begins_block.ensures.value ∙ c.if-branch.false)))
    c.in_ok-expr.ensures.reads) c.in_ok-expr.ensures.grows
    (apart-from (expr_part c.in_ok-expr.expr) c.in_ok-expr.ensures.from)

pub finish_assignment_expr-returns-in_err-look : goal.finish_assignment_expr-returns-in_err-look
finish_assignment_expr-returns-in_err-look g t c =
    rewriting.refused c.from_residual.ensures.1
    (s.unheard_memory c.in_err-look.ensures.looks) (let w = c.requires.from.within in let f = c.requires.from.first in
    omega arith) (grows-same _)

pub finish_assignment_expr-returns-in_err-cons : goal.finish_assignment_expr-returns-in_err-cons
finish_assignment_expr-returns-in_err-cons g t c =
    let l = tree_of c.args.p.now.nodes c.args.left in
    let lo = start_at c.args.p.now.nodes c.args.left.0 in
    let middle = assign_within g.B.BodyForms.forms c.get_ctx.ensures (ap deciding c.cond_middle-ctx.ensures)
    c.replace_ctx-before.ensures.before c.replace_ctx-before.ensures.moves c.replace_ctx-before.ensures.context
    c.parse_assignment_expr-read.ensures c.in_err-cons.was c.replace_ctx.ensures.moves c.replace_ctx.ensures.context in
    rewriting.refused c.from_residual-in_err-cons.ensures.1
    (s.unheard_after (s.on_seen {g = behind (cond_tail _ lo l)} c.in_ok-look.ensures.looks
    (λ x ts same e. assign.from_question _ lo l x ts
    (ap (at_token is_question) e ∙ sym c.is_sign.ensures.value ∙ c.if-is_sign.true)))
    (s.unheard_after (s.on_took {g = cond_tail _ lo l} g.met.I.Tokens.laws c.skip.ensures.took.1 (λ x ts. refl))
    (s.unheard_call _ (assign.cond_tail_splits _ lo l)
    middle.reads)))
    (let w = c.requires.from.within in let f = c.requires.from.first in
    omega arith) middle.grows

pub finish_assignment_expr-returns-in_err-expect : goal.finish_assignment_expr-returns-in_err-expect
finish_assignment_expr-returns-in_err-expect g t c =
    let l = tree_of c.args.p.now.nodes c.args.left in
    let lo = start_at c.args.p.now.nodes c.args.left.0 in
    let e = tree_of c.parse_assignment_expr-read.new.p.nodes c.in_ok-cons.cons in
    let middle = assign_within g.B.BodyForms.forms c.get_ctx.ensures (ap deciding c.cond_middle-ctx.ensures)
    c.replace_ctx-before.ensures.before c.replace_ctx-before.ensures.moves c.replace_ctx-before.ensures.context
    c.parse_assignment_expr-read.ensures c.in_ok-cons.was c.replace_ctx.ensures.moves c.replace_ctx.ensures.context in
    rewriting.refused c.from_residual-in_err-expect.ensures.1
    (s.unheard_after (s.on_seen {g = behind (cond_tail _ lo l)} c.in_ok-look.ensures.looks
    (λ x ts same e. assign.from_question _ lo l x ts
    (ap (at_token is_question) e ∙ sym c.is_sign.ensures.value ∙ c.if-is_sign.true)))
    (s.unheard_after (s.on_then (s.on_took {g = cond_tail _ lo l} g.met.I.Tokens.laws c.skip.ensures.took.1
    (λ x ts. refl))
    (s.on_call _ (assign.cond_tail_splits _ lo l) middle.reads.on))
    (s.unheard_call (λ x q. cond_close _ lo l e x q.1) (λ x ts. refl)
    (c.in_err-expect.ensures.expects g.B.Bodies.is_faithful)))) (let w = c.requires.from.within in
    let f = c.requires.from.first in omega arith) middle.grows

pub finish_assignment_expr-returns-in_err-alt : goal.finish_assignment_expr-returns-in_err-alt
finish_assignment_expr-returns-in_err-alt g t c =
    let l = tree_of c.args.p.now.nodes c.args.left in
    let lo = start_at c.args.p.now.nodes c.args.left.0 in
    let e = tree_of c.parse_assignment_expr-read.new.p.nodes c.in_ok-cons.cons in
    let middle = assign_within g.B.BodyForms.forms c.get_ctx.ensures (ap deciding c.cond_middle-ctx.ensures)
    c.replace_ctx-before.ensures.before c.replace_ctx-before.ensures.moves c.replace_ctx-before.ensures.context
    c.parse_assignment_expr-read.ensures c.in_ok-cons.was c.replace_ctx.ensures.moves c.replace_ctx.ensures.context in
    let last = aside c.get_ctx-then-is_sign.ensures (ap deciding c.cond_last-ctx.ensures)
    c.replace_ctx-before-then-is_sign.ensures.before c.replace_ctx-before-then-is_sign.ensures.moves
    c.replace_ctx-before-then-is_sign.ensures.context c.parse_assignment_expr-read-then-is_sign.ensures
    c.in_err-alt.was c.replace_ctx-then-is_sign.ensures.moves c.replace_ctx-then-is_sign.ensures.context in
    rewriting.refused c.from_residual-in_err-alt.ensures.1
    (s.unheard_after (s.on_seen {g = behind (cond_tail _ lo l)} c.in_ok-look.ensures.looks
    (λ x ts same e. assign.from_question _ lo l x ts
    (ap (at_token is_question) e ∙ sym c.is_sign.ensures.value ∙ c.if-is_sign.true)))
    (s.unheard_after (s.on_then (s.on_then (s.on_took {g = cond_tail _ lo l} g.met.I.Tokens.laws c.skip.ensures.took.1
    (λ x ts. refl))
    (s.on_call _ (assign.cond_tail_splits _ lo l) middle.reads.on))
    (s.on_call (λ x q. cond_close _ lo l e x q.1) (λ x ts. refl)
    (c.in_ok-expect.ensures.expects g.B.Bodies.is_faithful).on))
    (s.unheard_call (λ x q. Some (cond_e (from_to lo (span_of q.0).hi) l e q.0, q.1)) (λ x ts. refl)
    last.reads)))
    (let w = c.requires.from.within in let f = c.requires.from.first in
    omega arith) (grows-then middle.grows
    last.grows)

pub finish_assignment_expr-cond_expr-node-requires-clause-test :
    goal.finish_assignment_expr-cond_expr-node-requires-clause-test
finish_assignment_expr-cond_expr-node-requires-clause-test g t c =
    from-later (grows-then c.parse_assignment_expr-read.ensures.grows
    c.parse_assignment_expr-read-then-is_sign.ensures.grows)
    c.requires.from

pub finish_assignment_expr-cond_expr-node-requires-clause-then :
    goal.finish_assignment_expr-cond_expr-node-requires-clause-then
finish_assignment_expr-cond_expr-node-requires-clause-then g t c =
    from-down (let h = c.requires.from.within in omega arith) (from-later
    c.parse_assignment_expr-read-then-is_sign.ensures.grows
    (m.held_is _ c.parse_assignment_expr-read.result c.in_ok-cons.cons c.in_ok-cons.was
    c.parse_assignment_expr-read.ensures.from))

pub finish_assignment_expr-cond_expr-node-requires-clause-other :
    goal.finish_assignment_expr-cond_expr-node-requires-clause-other
finish_assignment_expr-cond_expr-node-requires-clause-other g t c =
    let cons_from = m.held_is _ c.parse_assignment_expr-read.result c.in_ok-cons.cons c.in_ok-cons.was
    c.parse_assignment_expr-read.ensures.from in
    from-down (let h = cons_from.within in omega arith)
    (m.held_is _ c.parse_assignment_expr-read-then-is_sign.result c.in_ok-alt.alt c.in_ok-alt.was
    c.parse_assignment_expr-read-then-is_sign.ensures.from)

pub finish_assignment_expr-returns-then-is_sign : goal.finish_assignment_expr-returns-then-is_sign
finish_assignment_expr-returns-then-is_sign g t c =
    let l = tree_of c.args.p.now.nodes c.args.left in
    let lo = start_at c.args.p.now.nodes c.args.left.0 in
    let e = tree_of c.parse_assignment_expr-read.new.p.nodes c.in_ok-cons.cons in
    let ns = c.parse_assignment_expr-read-then-is_sign.new.p.nodes in
    let a = tree_of ns c.in_ok-alt.alt in
    let middle = assign_within g.B.BodyForms.forms c.get_ctx.ensures (ap deciding c.cond_middle-ctx.ensures)
    c.replace_ctx-before.ensures.before c.replace_ctx-before.ensures.moves c.replace_ctx-before.ensures.context
    c.parse_assignment_expr-read.ensures c.in_ok-cons.was c.replace_ctx.ensures.moves c.replace_ctx.ensures.context in
    let last = aside c.get_ctx-then-is_sign.ensures (ap deciding c.cond_last-ctx.ensures)
    c.replace_ctx-before-then-is_sign.ensures.before c.replace_ctx-before-then-is_sign.ensures.moves
    c.replace_ctx-before-then-is_sign.ensures.context c.parse_assignment_expr-read-then-is_sign.ensures c.in_ok-alt.was
    c.replace_ctx-then-is_sign.ensures.moves c.replace_ctx-then-is_sign.ensures.context in
    let grows = grows-then middle.grows last.grows in
    let place = from_to (start_at ns c.args.left.0) (span_of a).hi in
    let whole = ap (λ v. cond_e (from_to v (span_of a).hi) l e a) (sym (start-later grows c.requires.from))
    ∙ ap (λ v. cond_e place v e a) (sym (tree-later grows c.requires.from))
    ∙ ap (λ v. cond_e place (tree_of ns c.args.left) v a)
    (sym (tree-later last.grows
    middle.from)) in
    rewriting.goes_on c.made.result (let w = c.requires.from.within in let f = c.requires.from.first in omega arith)
    (m.on_after {m = record c.args.p.now { input = c.look.new.input }} c.made.result
    (s.on_seen {g = behind (cond_tail _ lo l)} c.in_ok-look.ensures.looks
    (λ x ts same e. assign.from_question _ lo l x ts
    (ap (at_token is_question) e ∙ sym c.is_sign.ensures.value ∙ c.if-is_sign.true))) (grows-same _)
    (m.weaker c.made.result
    (m.node _ c.cond_expr-node.result c.made.result (first_kept grows c.requires.from) c.cond_expr-node.ensures.made
    c.made.ensures.ok c.made.ensures.refused grows c.cond_expr-node.ensures.grows
    (s.heard_answer whole (s.heard_first g.met.I.Tokens.laws c.skip.ensures.took.1 (λ x ts. refl)
    (s.on_then (s.on_call _ (assign.cond_tail_splits _ lo l) middle.reads.on)
    (s.on_then (s.on_call (λ x q. cond_close _ lo l e x q.1) (λ x ts. refl)
    (c.in_ok-expect.ensures.expects g.B.Bodies.is_faithful).on)
    (s.on_call (λ x q. Some (cond_e (from_to lo (span_of q.0).hi) l e q.0, q.1)) (λ x ts. refl) last.reads.on))))))))

pub finish_assignment_expr-returns-in-None : goal.finish_assignment_expr-returns-in-None
finish_assignment_expr-returns-in-None g t c =
    let l = tree_of c.args.p.now.nodes c.args.left in
    let lo = start_at c.args.p.now.nodes c.args.left.0 in
    rewriting.goes_on (Ok _) (let w = c.requires.from.within in let f = c.requires.from.first in omega arith)
    (m.on (Ok _) (s.on_seen c.in_ok-look.ensures.looks (λ x ts same e.
    assign.from_none _ lo l x ts
    (ap (at_token is_question) e ∙ sym c.is_sign.ensures.value ∙ c.if-is_sign.false)
    (ap (λ v. assign_at v l) e ∙ sym c.cur_assign_op.ensures.value ∙ c.in-None.is))) (grows-same _)
    (from_self c.requires.from))

pub finish_assignment_expr-assign_target-requires-clause-fit :
    goal.finish_assignment_expr-assign_target-requires-clause-fit
finish_assignment_expr-assign_target-requires-clause-fit g t c =
    way.writes_fits _ _ (sym c.cur_assign_op.ensures.value ∙ c.in-Some.is)

pub finish_assignment_expr-returns-in_err-target : goal.finish_assignment_expr-returns-in_err-target
finish_assignment_expr-returns-in_err-target g t c =
    let l = tree_of c.args.p.now.nodes c.args.left in
    let lo = start_at c.args.p.now.nodes c.args.left.0 in
    let op = c.in-Some.op in
    let w = c.in_err-target.ensures.rewrites in
    rewriting.passed c.from_residual-in_err-target.ensures.1 (rewriting.no
    (s.unheard_after (s.on_seen {g = assign_by _ op l} c.in_ok-look.ensures.looks (λ x ts same e.
    assign.from_operator _ lo op l x ts (ap (at_token is_question) e ∙ sym c.is_sign.ensures.value ∙ c.if-is_sign.false)
    (ap (λ v. assign_at v l) e ∙ sym c.cur_assign_op.ensures.value ∙ c.in-Some.is))) w.reads) w.kept)

pub finish_assignment_expr-returns-in_err-right : goal.finish_assignment_expr-returns-in_err-right
finish_assignment_expr-returns-in_err-right g t c =
    let l = tree_of c.args.p.now.nodes c.args.left in
    let lo = start_at c.args.p.now.nodes c.args.left.0 in
    let op = c.in-Some.op in
    let tt = target_at c.assign_target.new.p.nodes c.in_ok-target.target in
    let w = c.in_ok-target.ensures.rewrites in
    let le : first_at c.args.p.now.nodes c.args.left.0 ≤ count c.assign_target.new.p.nodes =
    way.target_low c.in_ok-target.target w.from in
    rewriting.passed c.from_residual-in_err-right.ensures.1 (rewriting.no
    (s.unheard_after (s.on_then (s.on_seen {g = assign_by _ op l} c.in_ok-look.ensures.looks (λ x ts same e.
    assign.from_operator _ lo op l x ts (ap (at_token is_question) e ∙ sym c.is_sign.ensures.value ∙ c.if-is_sign.false)
    (ap (λ v. assign_at v l) e ∙ sym c.cur_assign_op.ensures.value ∙ c.in-Some.is))) w.reads)
    (s.unheard_after (s.on_took {g = assign_tail _ op tt} g.met.I.Tokens.laws c.skip-2.ensures.took.1 (λ x ts. refl))
    (s.unheard_call _ (assign.assign_tail_splits _ op tt) c.in_err-right.ensures.reads)))
    (kept-then w.kept (kept-less le (kept-grows c.parse_assignment_expr.ensures.grows))))

pub finish_assignment_expr-assign_node-requires-clause-left :
    goal.finish_assignment_expr-assign_node-requires-clause-left
finish_assignment_expr-assign_node-requires-clause-left g t c =
    from-down (omega arith) (from-later c.parse_assignment_expr.ensures.grows c.in_ok-target.ensures.rewrites.from)

pub finish_assignment_expr-assign_node-requires-clause-right :
    goal.finish_assignment_expr-assign_node-requires-clause-right
finish_assignment_expr-assign_node-requires-clause-right g t c =
    from-down (let d = way.target_within c.in_ok-target.target c.in_ok-target.ensures.rewrites.from in
    omega arith) c.in_ok-right.ensures.from

pub finish_assignment_expr-assign_node-requires-clause-plain :
    goal.finish_assignment_expr-assign_node-requires-clause-plain
finish_assignment_expr-assign_node-requires-clause-plain g t c = c.in_ok-target.ensures.plain

pub finish_assignment_expr-returns : goal.finish_assignment_expr-returns
finish_assignment_expr-returns g t c =
    let l = tree_of c.args.p.now.nodes c.args.left in
    let lo = start_at c.args.p.now.nodes c.args.left.0 in
    let op = c.in-Some.op in
    let ns = c.parse_assignment_expr.new.p.nodes in
    let tt = target_at c.assign_target.new.p.nodes c.in_ok-target.target in
    let w = c.in_ok-target.ensures.rewrites in
    let grows = c.parse_assignment_expr.ensures.grows in
    let later = from-later grows w.from in
    let r = tree_of ns c.in_ok-right.right in
    let hi = end_at ns c.in_ok-right.right.0 in
    let le : first_at c.args.p.now.nodes c.args.left.0 ≤ count c.assign_target.new.p.nodes =
    way.target_low c.in_ok-target.target w.from in
    let low : first_at ns (target_number c.in_ok-target.target) ≤ count ns =
    way.target_low_of c.in_ok-target.target later in
    rewriting.after {m = c.parse_assignment_expr.new.p} c.assign_node.result
    (s.on_then (s.on_seen {g = assign_by _ op l} c.in_ok-look.ensures.looks (λ x ts same e.
    assign.from_operator _ lo op l x ts (ap (at_token is_question) e ∙ sym c.is_sign.ensures.value ∙ c.if-is_sign.false)
    (ap (λ v. assign_at v l) e ∙ sym c.cur_assign_op.ensures.value ∙ c.in-Some.is)))
    (s.on_then w.reads
    (s.on_then (s.on_took {g = assign_tail _ op tt} g.met.I.Tokens.laws c.skip-2.ensures.took.1 (λ x ts. refl))
    (s.on_call_read {g = assign_made op (target_at ns c.in_ok-target.target) hi r} _ (assign.assign_tail_splits _ op tt)
    c.in_ok-right.ensures.reads.on (λ x ts us h y ys.
    ap (λ v. Some (assign_e (from_to (span_of tt).lo v) op tt r, ys))
    (sym (ending.ended _ g.met.B.Bodies.lawful c.in_ok-right.right Assign x ts us c.in_ok-right.ensures.from h))
    ∙ ap (λ v. assign_made op v hi r y ys) (sym (way.target_later c.in_ok-target.target grows w.from)))))))
    (kept-then w.kept (kept-less le (kept-grows grows)))
    (way.lowered c.assign_node.result (way.target_above c.in_ok-target.target later)
    (rewriting.goes_on c.assign_node.result low c.assign_node.ensures))

pub parse_prop_name-returns-in_err-start : goal.parse_prop_name-returns-in_err-start
parse_prop_name-returns-in_err-start g t c =
    m.refused c.from_residual.ensures.1
    (s.unheard_call _ (key.key_splits _) (c.in_err-start.ensures.eats g.B.Bodies.is_faithful)) (grows-same _)

pub parse_prop_name-returns-in_err-expr-in-Some : goal.parse_prop_name-returns-in_err-expr-in-Some
parse_prop_name-returns-in_err-expr-in-Some g t c =
    let inner = assign_within g.B.BodyForms.forms c.get_ctx.ensures c.include_in-ctx.ensures.decides
    c.replace_ctx-before.ensures.before c.replace_ctx-before.ensures.moves c.replace_ctx-before.ensures.context
    c.parse_assignment_expr-read.ensures c.in_err-expr-in-Some.was c.replace_ctx.ensures.moves
    c.replace_ctx.ensures.context in
    let some = s.on_call _ (key.key_splits g.B.BodyForms.forms)
    (s.eats_some g.B.Bodies.is_faithful is_lbracket _ c.in-Some.start _ _ c.in-Some.is
    (c.in_ok-start.ensures.eats g.B.Bodies.is_faithful)).on in
    m.refused c.from_residual-in_err-expr-in-Some.ensures.1
    (s.unheard_after some (s.unheard_call _ (key.computed_key_splits _ c.in-Some.start) inner.reads)) inner.grows

pub parse_prop_name-returns-in_ok-expr-in-Some : goal.parse_prop_name-returns-in_ok-expr-in-Some
parse_prop_name-returns-in_ok-expr-in-Some g t c =
    let inner = assign_within g.B.BodyForms.forms c.get_ctx.ensures c.include_in-ctx.ensures.decides
    c.replace_ctx-before.ensures.before c.replace_ctx-before.ensures.moves c.replace_ctx-before.ensures.context
    c.parse_assignment_expr-read.ensures c.in_ok-expr-in-Some.was c.replace_ctx.ensures.moves
    c.replace_ctx.ensures.context in
    let some = s.on_call _ (key.key_splits g.B.BodyForms.forms)
    (s.eats_some g.B.Bodies.is_faithful is_lbracket _ c.in-Some.start _ _ c.in-Some.is
    (c.in_ok-start.ensures.eats g.B.Bodies.is_faithful)).on in
    m.after_held c.computed_prop_name.result
    (s.on_then some (s.on_call _ (key.computed_key_splits _ c.in-Some.start) inner.reads.on))
    inner.grows (λ x. apart-lower (key_parts x) inner.from.above) c.computed_prop_name.ensures

pub parse_prop_name-returns-in-None : goal.parse_prop_name-returns-in-None
parse_prop_name-returns-in-None g t c =
    m.after c.parse_plain_prop_name.result
    (s.on_call _ (key.key_splits _)
    (s.eats_none g.B.Bodies.is_faithful is_lbracket _ _ _ c.in-None.is
    (c.in_ok-start.ensures.eats g.B.Bodies.is_faithful)))
    (grows-same _) (key.plain_key_produces c.parse_plain_prop_name.result
    (c.parse_plain_prop_name.ensures.parses g.B.Bodies.is_faithful) c.parse_plain_prop_name.ensures.parts)

pub parse_tpl_elements-loop-exprs-init : goal.parse_tpl_elements-loop-exprs-init
parse_tpl_elements-loop-exprs-init g t c = (
  s.on_here g.met.I.Tokens.laws c.args.p.now.input
      (λ x ts. tpl.parts_first _ c.args.is_tagged x ts
      ∙ ap (λ v. parts_behind g.B.BodyForms.forms c.args.is_tagged (trees (map quasi_tree v)) nil x ts)
      (sym c.new-quasis.ensures.items)
      ∙ ap (λ v. parts_behind g.B.BodyForms.forms c.args.is_tagged (trees (map quasi_tree c.new-quasis.result.items))
      (trees (map (tree_of c.args.p.now.nodes) v)) x ts) (sym c.new-exprs.ensures.items)),
  omega arith,
  grows-same _,
  record {
    chained = ap (λ v. chain (seat_at c.args.p.now.nodes) (count c.args.p.now.nodes) (flat one_expr v)
        (count c.args.p.now.nodes)) c.new-exprs.ensures.items
        ∙ (apart-none {ns = c.args.p.now.nodes} {k = count c.args.p.now.nodes} (omega arith)).chained;
  },
)

pub parse_tpl_elements-loop-exprs-preserved : goal.parse_tpl_elements-loop-exprs-preserved
parse_tpl_elements-loop-exprs-preserved g t c =
    let inner = expr_within g.B.BodyForms.forms c.get_ctx.ensures c.include_in-ctx.ensures.decides
    c.replace_ctx-before.ensures.before c.replace_ctx-before.ensures.moves c.replace_ctx-before.ensures.context
    c.parse_expr-read.ensures c.in_ok-expr.was c.replace_ctx.ensures.moves c.replace_ctx.ensures.context in
    let texts = trees (map quasi_tree c.loop-exprs.quasis.items) in
    let exprs = trees (map (tree_of c.loop-exprs.p.nodes) c.loop-exprs.exprs.items) in
    let now = trees_append texts (cons (quasi_tree c.in_ok-quasi.quasi) nil) in
    let element = s.on_call _ (tpl.behind_splits g.B.BodyForms.forms c.args.is_tagged texts exprs)
    (c.in_ok-quasi.ensures.parses g.B.Bodies.is_faithful).on in
    let opened = s.on_call (λ x p. parts_by g.B.BodyForms.forms c.args.is_tagged now exprs p.0 x p.1) (λ x ts. refl)
    (s.on_answer c.in-None.is (c.in_ok-end.ensures.ends g.B.Bodies.is_faithful).on) in
    let added = ap (λ v. trees (map quasi_tree v)) c.in_ok-add.ensures.added
    ∙ trees-more quasi_tree c.loop-exprs.quasis.items c.in_ok-quasi.quasi in
    let grows = inner.grows in
    let nodes = c.parse_expr-read.new.p.nodes in
    let more = ap (λ v. trees (map (tree_of nodes) v)) c.in_ok-add-2.ensures.added
    ∙ exprs-more c.loop-exprs.exprs.items c.in_ok-expr.expr grows c.loop-exprs.invariant.3 in
    let parts = exprs-apart-more c.loop-exprs.exprs.items c.in_ok-expr.expr grows c.loop-exprs.invariant.3 inner.from
    in (
      s.on_then c.loop-exprs.invariant.0 (s.on_then element (s.on_then opened
          (s.on_to (s.on_call (λ x p. parts_behind g.B.BodyForms.forms c.args.is_tagged now
          (trees_append exprs (cons p.0 nil)) x p.1) (λ x ts. refl)
          (s.on_then (s.on_call (λ x p. tpl_expr_close g.B.BodyForms.forms p.0 x p.1) (λ x ts. refl) inner.reads.on)
          (s.on_call (λ x q. Some (tree_of nodes c.in_ok-expr.expr, q.1)) (λ x ts. refl)
          (c.in_ok-expect.ensures.expects g.B.Bodies.is_faithful).on)))
          (tpl.behind_same g.B.BodyForms.forms c.args.is_tagged (sym added) (sym more))))),
      let a = c.loop-exprs.invariant.1 in let b = c.in_ok-quasi.ensures.falls in let d = c.in_ok-end.ensures.falls in
          let e = inner.falls in let f = c.in_ok-expect.ensures.falls in omega arith,
      grows-then c.loop-exprs.invariant.2 grows,
      record {
        chained = ap (λ v. chain (seat_at nodes) (count c.args.p.now.nodes) (flat one_expr v) (count nodes))
            c.in_ok-add-2.ensures.added ∙ parts.chained;
      },
    )

pub parse_tpl_elements-returns-in_err-quasi : goal.parse_tpl_elements-returns-in_err-quasi
parse_tpl_elements-returns-in_err-quasi g t c =
    let texts = trees (map quasi_tree c.loop-exprs.quasis.items) in
    let exprs = trees (map (tree_of c.loop-exprs.p.nodes) c.loop-exprs.exprs.items) in
    m.refused c.from_residual.ensures.1
    (s.unheard_after c.loop-exprs.invariant.0
    (s.unheard_call _ (tpl.behind_splits g.B.BodyForms.forms c.args.is_tagged texts exprs)
    (c.in_err-quasi.ensures.parses g.B.Bodies.is_faithful)))
    c.loop-exprs.invariant.2

pub parse_tpl_elements-returns-in_err-add : goal.parse_tpl_elements-returns-in_err-add
parse_tpl_elements-returns-in_err-add g t c =
    m.refused c.from_residual-in_err-add.ensures.1
    (s.unheard_memory (s.forgoes_later (s.leads_then c.loop-exprs.invariant.0.leads
    (c.in_ok-quasi.ensures.parses g.B.Bodies.is_faithful).on.leads)
    (s.forgoes_here g.met.I.Tokens.laws _ _ _ c.in_err-add.ensures.refused)))
    c.loop-exprs.invariant.2

pub parse_tpl_elements-returns-in_err-end : goal.parse_tpl_elements-returns-in_err-end
parse_tpl_elements-returns-in_err-end g t c =
    let texts = trees (map quasi_tree c.loop-exprs.quasis.items) in
    let exprs = trees (map (tree_of c.loop-exprs.p.nodes) c.loop-exprs.exprs.items) in
    let now = trees_append texts (cons (quasi_tree c.in_ok-quasi.quasi) nil) in
    let element = s.on_call _ (tpl.behind_splits g.B.BodyForms.forms c.args.is_tagged texts exprs)
    (c.in_ok-quasi.ensures.parses g.B.Bodies.is_faithful).on in
    m.refused c.from_residual-in_err-end.ensures.1
    (s.unheard_after c.loop-exprs.invariant.0
    (s.unheard_after element (s.unheard_call (λ x p.
    parts_by g.B.BodyForms.forms c.args.is_tagged now exprs p.0 x p.1) (λ x ts. refl)
    (c.in_err-end.ensures.ends g.B.Bodies.is_faithful))))
    c.loop-exprs.invariant.2

pub parse_tpl_elements-returns-in-Some : goal.parse_tpl_elements-returns-in-Some
parse_tpl_elements-returns-in-Some g t c =
    let texts = trees (map quasi_tree c.loop-exprs.quasis.items) in
    let exprs = trees (map (tree_of c.loop-exprs.p.nodes) c.loop-exprs.exprs.items) in
    let now = trees_append texts (cons (quasi_tree c.in_ok-quasi.quasi) nil) in
    let element = s.on_call _ (tpl.behind_splits g.B.BodyForms.forms c.args.is_tagged texts exprs)
    (c.in_ok-quasi.ensures.parses g.B.Bodies.is_faithful).on in
    let added = ap (λ v. trees (map quasi_tree v)) c.in_ok-add.ensures.added
    ∙ trees-more quasi_tree c.loop-exprs.quasis.items c.in_ok-quasi.quasi in
    let some = s.heard_answer c.in-Some.is (c.in_ok-end.ensures.ends g.B.Bodies.is_faithful) in
    let whole = ap (λ v. parts_e c.in-Some.end v exprs) (sym added) in
    m.yes (Ok _)
    (s.heard_answer whole (s.heard_after c.loop-exprs.invariant.0
    (s.heard_after element (s.heard_call (λ x p. parts_by g.B.BodyForms.forms c.args.is_tagged now exprs p.0 x p.1)
    (λ x ts. refl) (λ x ts. refl) some))))
    c.loop-exprs.invariant.2 c.loop-exprs.invariant.3

pub parse_tpl_elements-returns-in_err-expr : goal.parse_tpl_elements-returns-in_err-expr
parse_tpl_elements-returns-in_err-expr g t c =
    let inner = expr_within g.B.BodyForms.forms c.get_ctx.ensures c.include_in-ctx.ensures.decides
    c.replace_ctx-before.ensures.before c.replace_ctx-before.ensures.moves c.replace_ctx-before.ensures.context
    c.parse_expr-read.ensures c.in_err-expr.was c.replace_ctx.ensures.moves c.replace_ctx.ensures.context in
    let texts = trees (map quasi_tree c.loop-exprs.quasis.items) in
    let exprs = trees (map (tree_of c.loop-exprs.p.nodes) c.loop-exprs.exprs.items) in
    let now = trees_append texts (cons (quasi_tree c.in_ok-quasi.quasi) nil) in
    let element = s.on_call _ (tpl.behind_splits g.B.BodyForms.forms c.args.is_tagged texts exprs)
    (c.in_ok-quasi.ensures.parses g.B.Bodies.is_faithful).on in
    let opened = s.on_call (λ x p. parts_by g.B.BodyForms.forms c.args.is_tagged now exprs p.0 x p.1) (λ x ts. refl)
    (s.on_answer c.in-None.is (c.in_ok-end.ensures.ends g.B.Bodies.is_faithful).on) in
    m.refused c.from_residual-in_err-expr.ensures.1
    (s.unheard_after c.loop-exprs.invariant.0 (s.unheard_after element (s.unheard_after opened
    (s.unheard_call (λ x p. parts_behind g.B.BodyForms.forms c.args.is_tagged now
    (trees_append exprs (cons p.0 nil)) x p.1) (λ x ts. refl)
    (s.unheard_call (λ x p. tpl_expr_close g.B.BodyForms.forms p.0 x p.1) (λ x ts. refl) inner.reads)))))
    (grows-then c.loop-exprs.invariant.2 inner.grows)

pub parse_tpl_elements-returns-in_err-expect : goal.parse_tpl_elements-returns-in_err-expect
parse_tpl_elements-returns-in_err-expect g t c =
    let inner = expr_within g.B.BodyForms.forms c.get_ctx.ensures c.include_in-ctx.ensures.decides
    c.replace_ctx-before.ensures.before c.replace_ctx-before.ensures.moves c.replace_ctx-before.ensures.context
    c.parse_expr-read.ensures c.in_ok-expr.was c.replace_ctx.ensures.moves c.replace_ctx.ensures.context in
    let texts = trees (map quasi_tree c.loop-exprs.quasis.items) in
    let exprs = trees (map (tree_of c.loop-exprs.p.nodes) c.loop-exprs.exprs.items) in
    let now = trees_append texts (cons (quasi_tree c.in_ok-quasi.quasi) nil) in
    let element = s.on_call _ (tpl.behind_splits g.B.BodyForms.forms c.args.is_tagged texts exprs)
    (c.in_ok-quasi.ensures.parses g.B.Bodies.is_faithful).on in
    let opened = s.on_call (λ x p. parts_by g.B.BodyForms.forms c.args.is_tagged now exprs p.0 x p.1) (λ x ts. refl)
    (s.on_answer c.in-None.is (c.in_ok-end.ensures.ends g.B.Bodies.is_faithful).on) in
    let e = tree_of c.parse_expr-read.new.p.nodes c.in_ok-expr.expr in
    m.refused c.from_residual-in_err-expect.ensures.1
    (s.unheard_after c.loop-exprs.invariant.0 (s.unheard_after element (s.unheard_after opened
    (s.unheard_call (λ x p. parts_behind g.B.BodyForms.forms c.args.is_tagged now
    (trees_append exprs (cons p.0 nil)) x p.1) (λ x ts. refl)
    (s.unheard_after (s.on_call (λ x p. tpl_expr_close g.B.BodyForms.forms p.0 x p.1) (λ x ts. refl) inner.reads.on)
    (s.unheard_call (λ x q. Some (e, q.1)) (λ x ts. refl) (c.in_err-expect.ensures.expects g.B.Bodies.is_faithful)))))))
    (grows-then c.loop-exprs.invariant.2 inner.grows)

pub parse_tpl_elements-returns-in_err-add-2 : goal.parse_tpl_elements-returns-in_err-add-2
parse_tpl_elements-returns-in_err-add-2 g t c =
    let inner = expr_within g.B.BodyForms.forms c.get_ctx.ensures c.include_in-ctx.ensures.decides
    c.replace_ctx-before.ensures.before c.replace_ctx-before.ensures.moves c.replace_ctx-before.ensures.context
    c.parse_expr-read.ensures c.in_ok-expr.was c.replace_ctx.ensures.moves c.replace_ctx.ensures.context in
    m.refused c.from_residual-in_err-add-2.ensures.1
    (s.unheard_memory (s.forgoes_later (s.leads_then c.loop-exprs.invariant.0.leads
    (s.leads_then (c.in_ok-quasi.ensures.parses g.B.Bodies.is_faithful).on.leads
    (s.leads_then (c.in_ok-end.ensures.ends g.B.Bodies.is_faithful).on.leads
    (s.leads_then inner.reads.on.leads (c.in_ok-expect.ensures.expects g.B.Bodies.is_faithful).on.leads))))
    (s.forgoes_here g.met.I.Tokens.laws _ _ _ c.in_err-add-2.ensures.refused)))
    (grows-then c.loop-exprs.invariant.2 inner.grows)

pub parse_object_pat_prop-returns-in_err-dots : goal.parse_object_pat_prop-returns-in_err-dots
parse_object_pat_prop-returns-in_err-dots g t c =
    m.refused c.from_residual.ensures.1 (pat_prop.dots_refused _ (c.in_err-dots.ensures.eats _)) (grows-same _)

pub parse_object_pat_prop-returns-in_err-arg-in-Some : goal.parse_object_pat_prop-returns-in_err-arg-in-Some
parse_object_pat_prop-returns-in_err-arg-in-Some g t c =
    m.refused c.from_residual-in_err-arg-in-Some.ensures.1
    (pat_prop.rest_refused _ c.in-Some.is (c.in_ok-dots.ensures.eats _) c.in_err-arg-in-Some.ensures.reads)
    c.parse_pat.ensures.grows

pub parse_object_pat_prop-returns-in-Some : goal.parse_object_pat_prop-returns-in-Some
parse_object_pat_prop-returns-in-Some g t c =
    m.yes (Ok _)
    (s.heard_answer (sym c.rest_pat_prop.ensures.tree)
    (pat_prop.rest_read _ c.in-Some.is (c.in_ok-dots.ensures.eats _) c.in_ok-arg-in-Some.ensures.reads))
    c.parse_pat.ensures.grows
    (pat_node.rest_made c.rest_pat_prop.result c.in_ok-arg-in-Some.arg c.rest_pat_prop.ensures.parts
    c.in_ok-arg-in-Some.ensures.from)

pub parse_object_pat_prop-returns-in_err-key : goal.parse_object_pat_prop-returns-in_err-key
parse_object_pat_prop-returns-in_err-key g t c =
    let keyed = aside c.get_ctx.ensures c.prop_name_context-ctx.ensures.decides c.replace_ctx-before.ensures.before
    c.replace_ctx-before.ensures.moves c.replace_ctx-before.ensures.context c.parse_prop_name-read.ensures
    c.in_err-key.was c.replace_ctx.ensures.moves c.replace_ctx.ensures.context in
    m.refused c.from_residual-in_err-key.ensures.1
    (pat_prop.key_refused _ c.in-None.is (c.in_ok-dots.ensures.eats _) keyed.reads)
    keyed.grows

pub parse_object_pat_prop-returns-in_err-key-2 : goal.parse_object_pat_prop-returns-in_err-key-2
parse_object_pat_prop-returns-in_err-key-2 g t c =
    let keyed = aside c.get_ctx.ensures c.prop_name_context-ctx.ensures.decides c.replace_ctx-before.ensures.before
    c.replace_ctx-before.ensures.moves c.replace_ctx-before.ensures.context c.parse_prop_name-read.ensures
    c.in_ok-key.was c.replace_ctx.ensures.moves c.replace_ctx.ensures.context in
    let named = pat_prop.key_read _ c.in-None.is (c.in_ok-dots.ensures.eats _) keyed.reads in
    m.refused c.from_residual-in_err-key-2.ensures.1
    (pat_prop.behind_refused _ (tree_of c.parse_prop_name-read.new.p.nodes) c.in_ok-key.key named
    (c.in_err-key-2.ensures.after _))
    keyed.grows

pub parse_object_pat_prop-returns-in_err-value-in-Value : goal.parse_object_pat_prop-returns-in_err-value-in-Value
parse_object_pat_prop-returns-in_err-value-in-Value g t c =
    let keyed = aside c.get_ctx.ensures c.prop_name_context-ctx.ensures.decides c.replace_ctx-before.ensures.before
    c.replace_ctx-before.ensures.moves c.replace_ctx-before.ensures.context c.parse_prop_name-read.ensures
    c.in_ok-key.was c.replace_ctx.ensures.moves c.replace_ctx.ensures.context in
    let named = pat_prop.key_read _ c.in-None.is (c.in_ok-dots.ensures.eats _) keyed.reads in
    m.refused c.from_residual-in_err-value-in-Value.ensures.1
    (pat_prop.value_refused _ (tree_of c.parse_prop_name-read.new.p.nodes) c.in_ok-key.key named c.in-Value.key
    c.in-Value.is
    (c.in_ok-key-2.ensures.after _) c.in_err-value-in-Value.ensures.reads)
    (grows-then keyed.grows c.parse_binding_element.ensures.grows)

pub parse_object_pat_prop-returns-in_ok-value-in-Value : goal.parse_object_pat_prop-returns-in_ok-value-in-Value
parse_object_pat_prop-returns-in_ok-value-in-Value g t c =
    let keyed = aside c.get_ctx.ensures c.prop_name_context-ctx.ensures.decides c.replace_ctx-before.ensures.before
    c.replace_ctx-before.ensures.moves c.replace_ctx-before.ensures.context c.parse_prop_name-read.ensures
    c.in_ok-key.was c.replace_ctx.ensures.moves c.replace_ctx.ensures.context in
    let key = c.in_ok-key.key in
    let named = pat_prop.key_read _ c.in-None.is (c.in_ok-dots.ensures.eats _) keyed.reads in
    let made = pat_node.value_made key c.in-Value.key c.in_ok-value-in-Value.value c.key_pat_prop.result
    (pat_node.same_key _ key c.in-Value.key c.in-Value.is c.in_ok-key-2.ensures.kept)
    c.key_pat_prop.ensures.tree c.key_pat_prop.ensures.parts c.parse_binding_element.ensures.grows
    keyed.from c.in_ok-value-in-Value.ensures.from in
    m.yes (Ok _)
    (s.heard_answer made.0
    (pat_prop.value_read _ (tree_of c.parse_prop_name-read.new.p.nodes) key named c.in-Value.key c.in-Value.is
    (c.in_ok-key-2.ensures.after _) c.in_ok-value-in-Value.ensures.reads))
    (grows-then keyed.grows c.parse_binding_element.ensures.grows) made.1

pub parse_object_pat_prop-returns-in_err-value-in-Default : goal.parse_object_pat_prop-returns-in_err-value-in-Default
parse_object_pat_prop-returns-in_err-value-in-Default g t c =
    let keyed = aside c.get_ctx.ensures c.prop_name_context-ctx.ensures.decides c.replace_ctx-before.ensures.before
    c.replace_ctx-before.ensures.moves c.replace_ctx-before.ensures.context c.parse_prop_name-read.ensures
    c.in_ok-key.was c.replace_ctx.ensures.moves c.replace_ctx.ensures.context in
    let inner = assign_within g.B.BodyForms.forms c.get_ctx-in-Default.ensures c.include_in-ctx.ensures.decides
    c.replace_ctx-before-in-Default.ensures.before c.replace_ctx-before-in-Default.ensures.moves
    c.replace_ctx-before-in-Default.ensures.context
    c.parse_assignment_expr-read.ensures c.in_err-value-in-Default.was c.replace_ctx-in-Default.ensures.moves
    c.replace_ctx-in-Default.ensures.context in
    let named = pat_prop.key_read _ c.in-None.is (c.in_ok-dots.ensures.eats _) keyed.reads in
    m.refused c.from_residual-in_err-value-in-Default.ensures.1
    (pat_prop.default_refused _ (tree_of c.parse_prop_name-read.new.p.nodes) c.in_ok-key.key named c.in-Default.name
    c.in-Default.is (c.in_ok-key-2.ensures.after _) inner.reads)
    (grows-then keyed.grows inner.grows)

pub parse_object_pat_prop-returns-in_ok-value-in-Default : goal.parse_object_pat_prop-returns-in_ok-value-in-Default
parse_object_pat_prop-returns-in_ok-value-in-Default g t c =
    let keyed = aside c.get_ctx.ensures c.prop_name_context-ctx.ensures.decides c.replace_ctx-before.ensures.before
    c.replace_ctx-before.ensures.moves c.replace_ctx-before.ensures.context c.parse_prop_name-read.ensures
    c.in_ok-key.was c.replace_ctx.ensures.moves c.replace_ctx.ensures.context in
    let value = c.in_ok-value-in-Default.value in
    let inner = assign_within g.B.BodyForms.forms c.get_ctx-in-Default.ensures c.include_in-ctx.ensures.decides
    c.replace_ctx-before-in-Default.ensures.before c.replace_ctx-before-in-Default.ensures.moves
    c.replace_ctx-before-in-Default.ensures.context
    c.parse_assignment_expr-read.ensures c.in_ok-value-in-Default.was c.replace_ctx-in-Default.ensures.moves
    c.replace_ctx-in-Default.ensures.context in
    let ns = c.parse_prop_name-read.new.p.nodes in
    let named = pat_prop.key_read _ c.in-None.is (c.in_ok-dots.ensures.eats _) keyed.reads in
    let equals = pat_prop.behind_read _ (tree_of ns) c.in_ok-key.key named _ c.in-Default.is
    (c.in_ok-key-2.ensures.after _) in
    m.yes (Ok _)
    (pat_node.default_read _ g.met.B.Bodies.lawful (key_at ns c.in_ok-key.key) c.in-Default.name value
    c.default_pat_prop.result equals inner c.default_pat_prop.ensures.tree)
    (grows-then keyed.grows inner.grows)
    (pat_node.default_apart c.default_pat_prop.result value c.default_pat_prop.ensures.parts
    keyed.grows inner.from)

pub parse_object_pat_prop-returns-in-Name : goal.parse_object_pat_prop-returns-in-Name
parse_object_pat_prop-returns-in-Name g t c =
    let keyed = aside c.get_ctx.ensures c.prop_name_context-ctx.ensures.decides c.replace_ctx-before.ensures.before
    c.replace_ctx-before.ensures.moves c.replace_ctx-before.ensures.context c.parse_prop_name-read.ensures
    c.in_ok-key.was c.replace_ctx.ensures.moves c.replace_ctx.ensures.context in
    let ns = c.parse_prop_name-read.new.p.nodes in
    m.yes (Ok _)
    (s.heard_answer (pat_node.name_made ns c.in-Name.name c.name_pat_prop.result c.name_pat_prop.ensures)
    (pat_prop.name_read _ (tree_of ns) c.in_ok-key.key c.in-Name.name c.in-None.is (c.in_ok-dots.ensures.eats _)
    keyed.reads c.in-Name.is (c.in_ok-key-2.ensures.after _)))
    keyed.grows
    (pat_node.name_apart c.in-Name.name c.name_pat_prop.result c.name_pat_prop.ensures keyed.grows)

pub parse_pat_props-loop-items-init : goal.parse_pat_props-loop-items-init
parse_pat_props-loop-items-init g t c = pat_props.started _ c.args.p.now _ g.met.I.Tokens.laws c.new-items.ensures.items

pub parse_pat_props-loop-items-preserved : goal.parse_pat_props-loop-items-preserved
parse_pat_props-loop-items-preserved g t c =
    let more = pat_props.goes_on _ c.loop-items.invariant c.in-None.is (c.in_ok-end.ensures.eats _) in
    pat_props.added _ c.loop-items.invariant _ _ more c.in_ok-prop.ensures.reads
    (c.in_ok-trailing_comma.ensures.separates _)
    c.parse_object_pat_prop.ensures.grows c.in_ok-prop.ensures.from c.in_ok-add.ensures.added

pub parse_pat_props-returns-in_err-end : goal.parse_pat_props-returns-in_err-end
parse_pat_props-returns-in_err-end g t c =
    partly.refused c.from_residual.ensures.1
    (pat_props.end_refused _ c.loop-items.invariant (c.in_err-end.ensures.eats _)) c.loop-items.invariant.grows

pub parse_pat_props-returns-in-Some : goal.parse_pat_props-returns-in-Some
parse_pat_props-returns-in-Some g t c =
    partly.left _ (pat_props.closed _ c.loop-items.invariant c.in-Some.is (c.in_ok-end.ensures.eats _))
    c.loop-items.invariant.grows c.loop-items.invariant.apart

pub parse_pat_props-returns-in_err-prop : goal.parse_pat_props-returns-in_err-prop
parse_pat_props-returns-in_err-prop g t c =
    let more = pat_props.goes_on _ c.loop-items.invariant c.in-None.is (c.in_ok-end.ensures.eats _) in
    partly.refused c.from_residual-in_err-prop.ensures.1 (pat_props.prop_refused _ _ more c.in_err-prop.ensures.reads)
    (grows-then c.loop-items.invariant.grows c.parse_object_pat_prop.ensures.grows)

pub parse_pat_props-returns-in_err-add : goal.parse_pat_props-returns-in_err-add
parse_pat_props-returns-in_err-add g t c =
    let more = pat_props.goes_on _ c.loop-items.invariant c.in-None.is (c.in_ok-end.ensures.eats _) in
    partly.refused c.from_residual-in_err-add.ensures.1
    (pat_props.unkept _ _ more _ c.in_ok-prop.ensures.reads c.in_err-add.ensures.refused)
    (grows-then c.loop-items.invariant.grows c.parse_object_pat_prop.ensures.grows)

pub parse_pat_props-returns-in_err-trailing_comma : goal.parse_pat_props-returns-in_err-trailing_comma
parse_pat_props-returns-in_err-trailing_comma g t c =
    let more = pat_props.goes_on _ c.loop-items.invariant c.in-None.is (c.in_ok-end.ensures.eats _) in
    partly.refused c.from_residual-in_err-trailing_comma.ensures.1
    (pat_props.comma_refused _ _ more c.in_ok-prop.ensures.reads (c.in_err-trailing_comma.ensures.separates _))
    (grows-then c.loop-items.invariant.grows c.parse_object_pat_prop.ensures.grows)

pub parse_binding_element-returns-in_err-left : goal.parse_binding_element-returns-in_err-left
parse_binding_element-returns-in_err-left g t c =
    m.refused c.from_residual.ensures.1
    (s.unheard_call (λ x p. eaten is_equals x p.1 >>= (λ q. default_by g.B.BodyForms.forms p.0 q.0 x q.1))
    (λ x ts. pat_array.element_splits _ x ts) c.in_err-left.ensures.reads)
    c.parse_pat.ensures.grows

pub parse_binding_element-returns-in_err-eat : goal.parse_binding_element-returns-in_err-eat
parse_binding_element-returns-in_err-eat g t c =
    let left = pat_at c.parse_pat.new.p.nodes c.in_ok-left.left in
    m.refused c.from_residual-in_err-eat.ensures.1
    (s.unheard_after (s.on_call (λ x p. eaten is_equals x p.1 >>= (λ q. default_by g.B.BodyForms.forms p.0 q.0 x q.1))
    (λ x ts. pat_array.element_splits _ x ts) c.in_ok-left.ensures.reads.on)
    (s.unheard_call (λ x q. default_by _ left q.0 x q.1) (λ x ts. refl)
    (c.in_err-eat.ensures.eats g.B.Bodies.is_faithful)))
    c.parse_pat.ensures.grows

pub parse_binding_element-returns-in_err-value-in-Some : goal.parse_binding_element-returns-in_err-value-in-Some
parse_binding_element-returns-in_err-value-in-Some g t c =
    let inner = assign_within g.B.BodyForms.forms c.get_ctx.ensures c.include_in-ctx.ensures.decides
    c.replace_ctx-before.ensures.before c.replace_ctx-before.ensures.moves c.replace_ctx-before.ensures.context
    c.parse_assignment_expr-read.ensures c.in_err-value-in-Some.was c.replace_ctx.ensures.moves
    c.replace_ctx.ensures.context in
    let left = pat_at c.parse_pat.new.p.nodes c.in_ok-left.left in
    let some = s.eats_some g.B.Bodies.is_faithful is_equals _ c.in-Some.field-0 _ _ c.in-Some.is
    (c.in_ok-eat.ensures.eats g.B.Bodies.is_faithful) in
    m.refused c.from_residual-in_err-value-in-Some.ensures.1
    (s.unheard_after (s.on_then (s.on_call (λ x p. eaten is_equals x p.1 >>=
    (λ q. default_by g.B.BodyForms.forms p.0 q.0 x q.1))
    (λ x ts. pat_array.element_splits _ x ts) c.in_ok-left.ensures.reads.on)
    (s.on_call (λ x q. default_by g.B.BodyForms.forms left q.0 x q.1) (λ x ts. refl) some.on))
    (s.unheard_call (λ x p. Some (default_p (to (span_of left) (span_of p.0)) left p.0, p.1))
    (λ x ts. pat_init.default_value_splits _ left x ts) inner.reads))
    (grows-then c.parse_pat.ensures.grows inner.grows)

pub parse_binding_element-default_pat-requires-clause-left : goal.parse_binding_element-default_pat-requires-clause-left
parse_binding_element-default_pat-requires-clause-left g t c =
    from-down (omega arith) (from-later c.parse_assignment_expr-read.ensures.grows c.in_ok-left.ensures.from)

pub parse_binding_element-returns-in_ok-value-in-Some : goal.parse_binding_element-returns-in_ok-value-in-Some
parse_binding_element-returns-in_ok-value-in-Some g t c =
    let inner = assign_within g.B.BodyForms.forms c.get_ctx.ensures c.include_in-ctx.ensures.decides
    c.replace_ctx-before.ensures.before c.replace_ctx-before.ensures.moves c.replace_ctx-before.ensures.context
    c.parse_assignment_expr-read.ensures c.in_ok-value-in-Some.was c.replace_ctx.ensures.moves
    c.replace_ctx.ensures.context in
    let left = pat_at c.parse_pat.new.p.nodes c.in_ok-left.left in
    let some = s.eats_some g.B.Bodies.is_faithful is_equals _ c.in-Some.field-0 _ _ c.in-Some.is
    (c.in_ok-eat.ensures.eats g.B.Bodies.is_faithful) in
    m.call {m = c.parse_pat.new.p} c.default_pat.result
    (λ x p. eaten is_equals x p.1 >>= (λ q. default_by g.B.BodyForms.forms p.0 q.0 x q.1))
    (λ x ts. pat_array.element_splits _ x ts)
    c.in_ok-left.ensures.reads c.parse_pat.ensures.grows (λ x h. h)
    (m.on_after {m = record c.parse_pat.new.p { input = c.eat.new.input }} c.default_pat.result
    (s.on_call (λ x q. default_by g.B.BodyForms.forms left q.0 x q.1) (λ x ts. refl) some.on) (grows-same _)
    (pat_init.default_read _ g.met.B.Bodies.lawful c.in_ok-left.left c.in_ok-value-in-Some.value c.default_pat.result
    c.in_ok-left.ensures.from inner c.default_pat.ensures))

pub parse_binding_element-returns-in-None : goal.parse_binding_element-returns-in-None
parse_binding_element-returns-in-None g t c =
    let left = pat_at c.parse_pat.new.p.nodes c.in_ok-left.left in
    let none = s.eats_none g.B.Bodies.is_faithful is_equals _ _ _ c.in-None.is
    (c.in_ok-eat.ensures.eats g.B.Bodies.is_faithful) in
    m.yes (Ok _)
    (s.heard_more (λ x p. eaten is_equals x p.1 >>= (λ q. default_by g.B.BodyForms.forms p.0 q.0 x q.1))
    (λ x ts. pat_array.element_splits _ x ts) c.in_ok-left.ensures.reads
    (s.on_call (λ x q. default_by g.B.BodyForms.forms left q.0 x q.1) (λ x ts. refl) none))
    c.parse_pat.ensures.grows c.in_ok-left.ensures.from

pub parse_pat-returns-in_err-look : goal.parse_pat-returns-in_err-look
parse_pat-returns-in_err-look g t c =
    m.refused c.from_residual.ensures.1 (s.unheard_memory c.in_err-look.ensures.looks) (grows-same _)

pub parse_pat-returns-in_err-less-in-Array : goal.parse_pat-returns-in_err-less-in-Array
parse_pat-returns-in_err-less-in-Array g t c =
    m.refused c.from_residual-in_err-less-in-Array.ensures.1
    (s.unheard_memory (s.forgoes_later (s.here_leads c.in_ok-look.ensures.looks)
    (s.forgoes_here g.met.I.Tokens.laws _ _ _ c.in_err-less-in-Array.ensures.refused))) (grows-same _)

pub parse_pat-returns-in_err-elems-in-Array : goal.parse_pat-returns-in_err-elems-in-Array
parse_pat-returns-in_err-elems-in-Array g t c =
    let sign = pat_begins.is_array _ (sym c.pat_kind.ensures ∙ c.in-Array.is) in
    let first = c.skip.ensures.took.1 in
    let start = c.cur_span-start.result in
    let place = s.place_was first c.cur_span-start.result c.cur_span-start.ensures in
    m.refused c.from_residual-in_err-elems-in-Array.ensures.1
    (s.unheard_after (s.on_then (s.on_seen c.in_ok-look.ensures.looks
    (λ x ts same e. pat_array.pat_array_picked _ x ts (ap (at_token is_lbracket) e ∙ sign)))
    (s.on_took {g = array_pat_tail g.B.BodyForms.forms start} g.met.I.Tokens.laws first
    (λ x ts. pat_array.pat_array_opens _ (plain first.was) x ts
    (rule.passes_plain is_lbracket _ _ first.current sign) ∙ ap (λ v. array_pat_tail g.B.BodyForms.forms v x ts)
    (sym place))))
    (s.unheard_call (λ x p. Some (array_pat_from start p.0, p.1))
    (λ x ts. pat_array.array_pat_splits _ start x ts) c.in_err-elems-in-Array.ensures.reads))
    c.parse_pat_elements.ensures.grows

pub parse_pat-array_pat-requires : goal.parse_pat-array_pat-requires
parse_pat-array_pat-requires g t c =
    record {
      apart = apart-down (pat_elem_parts c.in_ok-elems-in-Array.elems.items) c.in_ok-elems-in-Array.ensures.from;
    }

pub parse_pat-returns-in_ok-elems-in-Array : goal.parse_pat-returns-in_ok-elems-in-Array
parse_pat-returns-in_ok-elems-in-Array g t c =
    let sign = pat_begins.is_array _ (sym c.pat_kind.ensures ∙ c.in-Array.is) in
    let first = c.skip.ensures.took.1 in
    let start = c.cur_span-start.result in
    let place = s.place_was first c.cur_span-start.result c.cur_span-start.ensures in
    let begun = s.on_then (s.on_seen c.in_ok-look.ensures.looks
    (λ x ts same e. pat_array.pat_array_picked _ x ts (ap (at_token is_lbracket) e ∙ sign)))
    (s.on_took {g = array_pat_tail g.B.BodyForms.forms start} g.met.I.Tokens.laws first
    (λ x ts. pat_array.pat_array_opens _ (plain first.was) x ts
    (rule.passes_plain is_lbracket _ _ first.current sign) ∙ ap (λ v. array_pat_tail g.B.BodyForms.forms v x ts)
    (sym place))) in
    m.after {m = record c.args.p.now { input = c.skip.new.input }} c.array_pat.result begun (grows-same _)
    (m.call c.array_pat.result (λ x p. Some (array_pat_from start p.0, p.1))
    (λ x ts. pat_array.array_pat_splits _ start x ts)
    c.in_ok-elems-in-Array.ensures.reads c.parse_pat_elements.ensures.grows (λ x h. h)
    (c.array_pat.ensures (count c.args.p.now.nodes) c.in_ok-elems-in-Array.ensures.from))

pub parse_pat-returns-in_err-less-in-Object : goal.parse_pat-returns-in_err-less-in-Object
parse_pat-returns-in_err-less-in-Object g t c =
    m.refused c.from_residual-in_err-less-in-Object.ensures.1
    (s.unheard_memory (s.forgoes_later (s.here_leads c.in_ok-look.ensures.looks)
    (s.forgoes_here g.met.I.Tokens.laws _ _ _ c.in_err-less-in-Object.ensures.refused))) (grows-same _)

pub parse_pat-returns-in_err-props-in-Object : goal.parse_pat-returns-in_err-props-in-Object
parse_pat-returns-in_err-props-in-Object g t c =
    m.refused c.from_residual-in_err-props-in-Object.ensures.1
    (pat_begins.object_refused g.B.BodyForms.forms c.in_ok-look.ensures.looks
    (sym c.pat_kind.ensures ∙ c.in-Object.is) c.skip-in-Object.ensures.took.1
    (leaving.unheard_aside c.replace_ctx-before.ensures.moves (as_set g.I.Tokens.model
    c.skip-in-Object.new.input c.replace_ctx-before.new.input (λ x. x) c.get_ctx.ensures
    c.without_colon-ctx.ensures.decides c.replace_ctx-before.ensures.context)
    (leaving.leaves_err (λ l. props_done (pat_props_at c.parse_pat_props-read.new.p.nodes l))
    c.parse_pat_props-read.result _ c.in_err-props-in-Object.was c.parse_pat_props-read.ensures.reads)
    c.replace_ctx.ensures.moves (c.replace_ctx.ensures.context ∙ c.replace_ctx-before.ensures.before)))
    c.parse_pat_props-read.ensures.grows

pub parse_pat-object_pat-requires : goal.parse_pat-object_pat-requires
parse_pat-object_pat-requires g t c =
    record {
      apart = apart-down (pat_props_parts c.in_ok-props-in-Object.props.items)
          (m.held_is _ c.parse_pat_props-read.result c.in_ok-props-in-Object.props c.in_ok-props-in-Object.was
          c.parse_pat_props-read.ensures.from);
    }

pub parse_pat-returns-in_ok-props-in-Object : goal.parse_pat-returns-in_ok-props-in-Object
parse_pat-returns-in_ok-props-in-Object g t c =
    let ns = c.parse_pat_props-read.new.p.nodes in
    let list = c.in_ok-props-in-Object.props in
    let took = c.skip-in-Object.ensures.took.1 in
    let start = c.cur_span.result in
    let place = ap (λ v. v.lo) (sym (s.place_was took start c.cur_span.ensures)) in
    let apart = m.held_is _ c.parse_pat_props-read.result list c.in_ok-props-in-Object.was
    c.parse_pat_props-read.ensures.from in
    let made = c.object_pat.ensures (count c.args.p.now.nodes) apart in
    m.yes c.object_pat.result
    (pat_begins.object_reads g.B.BodyForms.forms (pat_at c.object_pat.new.p.nodes)
    (pat_props_at ns list) c.object_pat.result c.object_pat.new.p.input c.in_ok-look.ensures.looks
    (sym c.pat_kind.ensures ∙ c.in-Object.is) took place
    (s.on_aside c.replace_ctx-before.ensures.moves (as_set g.I.Tokens.model
    c.skip-in-Object.new.input c.replace_ctx-before.new.input (λ x. x) c.get_ctx.ensures
    c.without_colon-ctx.ensures.decides c.replace_ctx-before.ensures.context)
    (leaving.leaves_ok (λ l. props_done (pat_props_at ns l)) c.parse_pat_props-read.result list
    c.in_ok-props-in-Object.was c.parse_pat_props-read.ensures.reads)
    c.replace_ctx.ensures.moves (c.replace_ctx.ensures.context ∙ c.replace_ctx-before.ensures.before)) made.reads)
    (grows-then c.parse_pat_props-read.ensures.grows made.grows) made.from

pub parse_pat-returns-in-Plain : goal.parse_pat-returns-in-Plain
parse_pat-returns-in-Plain g t c =
    m.after c.parse_plain_pat.result
    (s.on_seen c.in_ok-look.ensures.looks (λ x ts same e.
    pat_array.pat_plain _ x ts (ap pat_kind e ∙ sym c.pat_kind.ensures ∙ c.in-Plain.is)))
    (grows-same _) c.parse_plain_pat.ensures

pub parse_pat_elements-loop-items-init : goal.parse_pat_elements-loop-items-init
parse_pat_elements-loop-items-init g t c = (
  s.on_here g.met.I.Tokens.laws _ (λ x ts. pat_array.elements_first _ x ts ∙ ap
      (λ v. elements_left g.B.BodyForms.forms going (map (if_there c.args.p.now.nodes) v) x ts)
      (sym c.new-items.ensures.items)),
  omega arith,
  grows-same _,
  record {
    chained = ap (λ v. chain (seat_at c.args.p.now.nodes) (count c.args.p.now.nodes) (flat (if_some one_pat) v)
        (count c.args.p.now.nodes)) c.new-items.ensures.items
        ∙ (apart-none {ns = c.args.p.now.nodes} {k = count c.args.p.now.nodes} (omega arith)).chained;
  },
)

pub parse_pat_elements-returns-in_err-end : goal.parse_pat_elements-returns-in_err-end
parse_pat_elements-returns-in_err-end g t c =
    let stage = stage_of c.loop-items.rest in
    let before = map (if_there c.loop-items.p.nodes) c.loop-items.items.items in
    m.refused c.from_residual.ensures.1
    (elem_turn.not_turned g.B.BodyForms.forms stage before c.loop-items.invariant.0
    (c.in_err-end.ensures.next g.B.Bodies.is_faithful)) c.loop-items.invariant.2

pub parse_pat_elements-returns-in-End : goal.parse_pat_elements-returns-in-End
parse_pat_elements-returns-in-End g t c =
    let stage = stage_of c.loop-items.rest in
    let before = map (if_there c.loop-items.p.nodes) c.loop-items.items.items in
    m.yes (Ok _)
    (elem_turn.ended g.B.BodyForms.forms stage before c.loop-items.invariant.0 c.in-End.end c.in-End.is
    (c.in_ok-end.ensures.ate (ap is_item c.in-End.is) g.B.Bodies.is_faithful))
    c.loop-items.invariant.2 c.loop-items.invariant.3

pub parse_pat_elements-returns-in_err-add-in-Hole : goal.parse_pat_elements-returns-in_err-add-in-Hole
parse_pat_elements-returns-in_err-add-in-Hole g t c =
    let stage = stage_of c.loop-items.rest in
    let before = map (if_there c.loop-items.p.nodes) c.loop-items.items.items in
    let read = elem_turn.holed g.B.BodyForms.forms stage before c.loop-items.invariant.0 c.in-Hole.is
    (c.in_ok-end.ensures.next g.B.Bodies.is_faithful) in
    m.refused c.from_residual-in_err-add-in-Hole.ensures.1
    (s.unheard_memory (s.forgoes_later read.leads (s.forgoes_here g.met.I.Tokens.laws _ _ _
    c.in_err-add-in-Hole.ensures.refused))) c.loop-items.invariant.2

pub parse_pat_elements-loop-items-smaller-in-Hole : goal.parse_pat_elements-loop-items-smaller-in-Hole
parse_pat_elements-loop-items-smaller-in-Hole g t c =
    (c.in_ok-end.ensures.ate (ap is_item c.in-Hole.is) g.B.Bodies.is_faithful).onward.less

pub parse_pat_elements-loop-items-preserved-in-Hole : goal.parse_pat_elements-loop-items-preserved-in-Hole
parse_pat_elements-loop-items-preserved-in-Hole g t c =
    let stage = stage_of c.loop-items.rest in
    let before = map (if_there c.loop-items.p.nodes) c.loop-items.items.items in
    let ns = c.loop-items.p.nodes in
    let read = elem_turn.holed g.B.BodyForms.forms stage before c.loop-items.invariant.0 c.in-Hole.is
    (c.in_ok-end.ensures.next g.B.Bodies.is_faithful) in
    let rest = ap stage_of c.passed-rest.ensures ∙ passed_stage c.loop-items.rest in
    let more = ap (map (if_there ns)) c.in_ok-add-in-Hole.ensures.added ∙ holed-more c.loop-items.items.items None
    (grows-same ns) c.loop-items.invariant.3 in
    let parts = apart-list-more (if_some one_pat) c.loop-items.items.items None (grows-same ns) c.loop-items.invariant.3
    (apart-none (omega arith)) in (
      s.on_to read (λ x ts. ap (λ v. elements_left g.B.BodyForms.forms v (before ++ None ∷ []) x ts) (sym rest) ∙ ap
          (λ v. elements_left g.B.BodyForms.forms (stage_of c.passed-rest.result) v x ts) (sym more)),
      let a = c.loop-items.invariant.1 in let b = c.in_ok-end.ensures.falls in omega arith,
      c.loop-items.invariant.2,
      record {
        chained = ap (λ v. chain (seat_at ns) (count c.args.p.now.nodes) (flat (if_some one_pat) v) (count ns))
            c.in_ok-add-in-Hole.ensures.added ∙ parts.chained;
      },
    )

pub parse_pat_elements-returns-in_err-arg-in-Some : goal.parse_pat_elements-returns-in_err-arg-in-Some
parse_pat_elements-returns-in_err-arg-in-Some g t c =
    let stage = stage_of c.loop-items.rest in
    let before = map (if_there c.loop-items.p.nodes) c.loop-items.items.items in
    let turned = elem_turn.turned g.B.BodyForms.forms stage before c.loop-items.invariant.0
    (next_element.Item (Some c.in-Some.dots)) (c.in-Item.is ∙ ap (λ o. next_element.Item o) c.in-Some.is)
    (c.in_ok-end.ensures.next g.B.Bodies.is_faithful) in
    m.refused c.from_residual-in_err-arg-in-Some.ensures.1
    (elem_turn.no_item g.B.BodyForms.forms stage before (Some c.in-Some.dots) turned
    (elem_turn.no_rest g.B.BodyForms.forms c.in-Some.dots c.in_err-arg-in-Some.ensures.reads))
    (grows-then c.loop-items.invariant.2 c.parse_pat.ensures.grows)

pub parse_pat_elements-returns-in_err-pat-in-Some : goal.parse_pat_elements-returns-in_err-pat-in-Some
parse_pat_elements-returns-in_err-pat-in-Some g t c =
    let stage = stage_of c.loop-items.rest in
    let before = map (if_there c.loop-items.p.nodes) c.loop-items.items.items in
    let turned = elem_turn.turned g.B.BodyForms.forms stage before c.loop-items.invariant.0
    (next_element.Item (Some c.in-Some.dots)) (c.in-Item.is ∙ ap (λ o. next_element.Item o) c.in-Some.is)
    (c.in_ok-end.ensures.next g.B.Bodies.is_faithful) in
    m.refused c.from_residual-in_err-pat-in-Some.ensures.1
    (elem_turn.no_item g.B.BodyForms.forms stage before (Some c.in-Some.dots) turned
    (s.unheard_after (elem_turn.rest_begun g.B.BodyForms.forms c.in-Some.dots c.in_ok-arg-in-Some.ensures.reads.on)
    c.in_err-pat-in-Some.ensures.reads))
    (grows-then c.loop-items.invariant.2 (grows-then c.parse_pat.ensures.grows c.rest_pat.ensures.grows))

pub parse_pat_elements-returns-in_err-pat-in-None : goal.parse_pat_elements-returns-in_err-pat-in-None
parse_pat_elements-returns-in_err-pat-in-None g t c =
    let stage = stage_of c.loop-items.rest in
    let before = map (if_there c.loop-items.p.nodes) c.loop-items.items.items in
    let turned = elem_turn.turned g.B.BodyForms.forms stage before c.loop-items.invariant.0 (next_element.Item None)
    (c.in-Item.is ∙ ap (λ o. next_element.Item o) c.in-None.is) (c.in_ok-end.ensures.next g.B.Bodies.is_faithful) in
    m.refused c.from_residual-in_err-pat-in-None.ensures.1
    (elem_turn.no_item g.B.BodyForms.forms stage before None turned c.in_err-pat-in-None.ensures.reads)
    (grows-then c.loop-items.invariant.2 c.parse_binding_element.ensures.grows)

pub parse_pat_elements-returns-in_err-add-in-Item : goal.parse_pat_elements-returns-in_err-add-in-Item
parse_pat_elements-returns-in_err-add-in-Item g t c =
    let stage = stage_of c.loop-items.rest in
    let before = map (if_there c.loop-items.p.nodes) c.loop-items.items.items in
    let dots = c.match-dots.dots in
    let same : c.match-dots.dots ≡ c.in-Item.dots =
    elim c.match-dots.branch [
      | parse_pat_elements-in-Some+in_ok-arg-in-Some+in_ok-pat-in-Some w ↦ w.dots-is ∙ sym w.in-Some.is
      | parse_pat_elements-in-None+in_ok-pat-in-None w ↦ w.dots-is
    ] in
    let turned = elem_turn.turned g.B.BodyForms.forms stage before c.loop-items.invariant.0 (next_element.Item dots)
    (c.in-Item.is ∙ ap (λ o. next_element.Item o) (sym same)) (c.in_ok-end.ensures.next g.B.Bodies.is_faithful) in
    let from = record c.loop-items.p { input = c.next_element.new.input } in
    let item : Produces g.I.Tokens.model g.B.Bodies.is_faithful pat_itself pat_at (item_read g.B.BodyForms.forms dots)
    (count c.loop-items.p.nodes) from (Ok c.match-dots.pat) c.match-dots.p =
    elim c.match-dots.branch [
      | parse_pat_elements-in-Some+in_ok-arg-in-Some+in_ok-pat-in-Some w ↦ rw (w.p-is, w.pat-is, w.dots-is)
          (elem_turn.rest_item g.B.BodyForms.forms w.in-Some.dots w.parse_pat.new.p w.in_ok-arg-in-Some.arg
          (Ok _) w.in_ok-arg-in-Some.ensures.reads w.parse_pat.ensures.grows w.in_ok-arg-in-Some.ensures.from
          (record {
            reads = w.in_ok-pat-in-Some.ensures.reads;
            falls = w.in_ok-pat-in-Some.ensures.falls;
            grows = w.rest_pat.ensures.grows;
            from = w.in_ok-pat-in-Some.ensures.from;
          }))
      | parse_pat_elements-in-None+in_ok-pat-in-None w ↦ rw (w.p-is, w.pat-is, w.dots-is ∙ w.in-None.is)
          (m.yes (Ok _) w.in_ok-pat-in-None.ensures.reads w.parse_binding_element.ensures.grows
          w.in_ok-pat-in-None.ensures.from)
    ] in
    let read = elem_turn.item g.B.BodyForms.forms stage before dots turned item.reads.on in
    m.refused c.from_residual-in_err-add-in-Item.ensures.1
    (s.unheard_memory (s.forgoes_later read.leads (s.forgoes_here g.met.I.Tokens.laws _ _ _
    c.in_err-add-in-Item.ensures.refused)))
    (grows-then c.loop-items.invariant.2 item.grows)

pub parse_pat_elements-returns-in_err-rest-in-Item : goal.parse_pat_elements-returns-in_err-rest-in-Item
parse_pat_elements-returns-in_err-rest-in-Item g t c =
    let stage = stage_of c.loop-items.rest in
    let before = map (if_there c.loop-items.p.nodes) c.loop-items.items.items in
    let dots = c.match-dots.dots in
    let same : c.match-dots.dots ≡ c.in-Item.dots =
    elim c.match-dots.branch [
      | parse_pat_elements-in-Some+in_ok-arg-in-Some+in_ok-pat-in-Some w ↦ w.dots-is ∙ sym w.in-Some.is
      | parse_pat_elements-in-None+in_ok-pat-in-None w ↦ w.dots-is
    ] in
    let turned = elem_turn.turned g.B.BodyForms.forms stage before c.loop-items.invariant.0 (next_element.Item dots)
    (c.in-Item.is ∙ ap (λ o. next_element.Item o) (sym same)) (c.in_ok-end.ensures.next g.B.Bodies.is_faithful) in
    let from = record c.loop-items.p { input = c.next_element.new.input } in
    let item : Produces g.I.Tokens.model g.B.Bodies.is_faithful pat_itself pat_at (item_read g.B.BodyForms.forms dots)
    (count c.loop-items.p.nodes) from (Ok c.match-dots.pat) c.match-dots.p =
    elim c.match-dots.branch [
      | parse_pat_elements-in-Some+in_ok-arg-in-Some+in_ok-pat-in-Some w ↦ rw (w.p-is, w.pat-is, w.dots-is)
          (elem_turn.rest_item g.B.BodyForms.forms w.in-Some.dots w.parse_pat.new.p w.in_ok-arg-in-Some.arg
          (Ok _) w.in_ok-arg-in-Some.ensures.reads w.parse_pat.ensures.grows w.in_ok-arg-in-Some.ensures.from
          (record {
            reads = w.in_ok-pat-in-Some.ensures.reads;
            falls = w.in_ok-pat-in-Some.ensures.falls;
            grows = w.rest_pat.ensures.grows;
            from = w.in_ok-pat-in-Some.ensures.from;
          }))
      | parse_pat_elements-in-None+in_ok-pat-in-None w ↦ rw (w.p-is, w.pat-is, w.dots-is ∙ w.in-None.is)
          (m.yes (Ok _) w.in_ok-pat-in-None.ensures.reads w.parse_binding_element.ensures.grows
          w.in_ok-pat-in-None.ensures.from)
    ] in
    let read = elem_turn.item g.B.BodyForms.forms stage before dots turned item.reads.on in
    m.refused c.from_residual-in_err-rest-in-Item.ensures.1
    (elem_turn.not_separated g.B.BodyForms.forms (is_some dots) stage
    (before ++ Some (pat_at c.match-dots.p.nodes c.match-dots.pat) ∷ []) read
    (c.in_err-rest-in-Item.ensures.separates g.B.Bodies.is_faithful))
    (grows-then c.loop-items.invariant.2 item.grows)

pub parse_pat_elements-loop-items-preserved : goal.parse_pat_elements-loop-items-preserved
parse_pat_elements-loop-items-preserved g t c =
    let stage = stage_of c.loop-items.rest in
    let before = map (if_there c.loop-items.p.nodes) c.loop-items.items.items in
    let dots = c.match-dots.dots in
    let same : c.match-dots.dots ≡ c.in-Item.dots =
    elim c.match-dots.branch [
      | parse_pat_elements-in-Some+in_ok-arg-in-Some+in_ok-pat-in-Some w ↦ w.dots-is ∙ sym w.in-Some.is
      | parse_pat_elements-in-None+in_ok-pat-in-None w ↦ w.dots-is
    ] in
    let turned = elem_turn.turned g.B.BodyForms.forms stage before c.loop-items.invariant.0 (next_element.Item dots)
    (c.in-Item.is ∙ ap (λ o. next_element.Item o) (sym same)) (c.in_ok-end.ensures.next g.B.Bodies.is_faithful) in
    let from = record c.loop-items.p { input = c.next_element.new.input } in
    let item : Produces g.I.Tokens.model g.B.Bodies.is_faithful pat_itself pat_at (item_read g.B.BodyForms.forms dots)
    (count c.loop-items.p.nodes) from (Ok c.match-dots.pat) c.match-dots.p =
    elim c.match-dots.branch [
      | parse_pat_elements-in-Some+in_ok-arg-in-Some+in_ok-pat-in-Some w ↦ rw (w.p-is, w.pat-is, w.dots-is)
          (elem_turn.rest_item g.B.BodyForms.forms w.in-Some.dots w.parse_pat.new.p w.in_ok-arg-in-Some.arg
          (Ok _) w.in_ok-arg-in-Some.ensures.reads w.parse_pat.ensures.grows w.in_ok-arg-in-Some.ensures.from
          (record {
            reads = w.in_ok-pat-in-Some.ensures.reads;
            falls = w.in_ok-pat-in-Some.ensures.falls;
            grows = w.rest_pat.ensures.grows;
            from = w.in_ok-pat-in-Some.ensures.from;
          }))
      | parse_pat_elements-in-None+in_ok-pat-in-None w ↦ rw (w.p-is, w.pat-is, w.dots-is ∙ w.in-None.is)
          (m.yes (Ok _) w.in_ok-pat-in-None.ensures.reads w.parse_binding_element.ensures.grows
          w.in_ok-pat-in-None.ensures.from)
    ] in
    let ns = c.match-dots.p.nodes in
    let pat = c.match-dots.pat in
    let read = elem_turn.item g.B.BodyForms.forms stage before dots turned item.reads.on in
    let more = ap (map (if_there ns)) c.in_ok-add-in-Item.ensures.added ∙ holed-more c.loop-items.items.items
    (Some pat) item.grows c.loop-items.invariant.3 in
    let parts = apart-list-more (if_some one_pat) c.loop-items.items.items
    (Some pat) item.grows c.loop-items.invariant.3 (apart-from (pat_part pat) item.from) in (
      s.on_to (elem_turn.separated g.B.BodyForms.forms (is_some dots) stage (before ++ Some (pat_at ns pat) ∷ []) read
          (c.in_ok-rest-in-Item.ensures.separates g.B.Bodies.is_faithful))
          (λ x ts. ap (λ v. elements_left g.B.BodyForms.forms (stage_of c.in_ok-rest-in-Item.rest) v x ts) (sym more)),
      let a = c.loop-items.invariant.1 in let b = c.in_ok-end.ensures.falls in let d = item.falls in
          let e = c.in_ok-rest-in-Item.ensures.falls in omega arith,
      grows-then c.loop-items.invariant.2 item.grows,
      record {
        chained = ap (λ v. chain (seat_at ns) (count c.args.p.now.nodes) (flat (if_some one_pat) v) (count ns))
            c.in_ok-add-in-Item.ensures.added ∙ parts.chained;
      },
    )

pub parse_formal_params-loop-params-init : goal.parse_formal_params-loop-params-init
parse_formal_params-loop-params-init g t c = (
  s.on_here g.met.I.Tokens.laws _ (λ x ts. formal.params_first _ x ts ∙ ap
      (λ v. params_left g.B.BodyForms.forms going (trees (map (λ p. pat_at c.args.p.now.nodes p.pat) v)) x ts)
      (sym c.new-params.ensures.items)),
  omega arith,
  grows-same _,
  record {
    chained = ap (λ v. chain (seat_at c.args.p.now.nodes) (count c.args.p.now.nodes) (flat param_parts v)
        (count c.args.p.now.nodes)) c.new-params.ensures.items
        ∙ (apart-none {ns = c.args.p.now.nodes} {k = count c.args.p.now.nodes} (omega arith)).chained;
  },
  subst (λ v. placed c.args.p.now.nodes v) (sym c.new-params.ensures.items) tt,
  λ l n. subst (λ v. AllReadAlone g.B.BodyForms.forms (scope g.I.Tokens.model c.args.p.now.input)
      (trees (map (λ p. pat_at c.args.p.now.nodes p.pat) v))) (sym c.new-params.ensures.items) tt,
)

pub parse_formal_params-returns-in_err-next_param : goal.parse_formal_params-returns-in_err-next_param
parse_formal_params-returns-in_err-next_param g t c =
    let stage = stage_of c.loop-params.rest in
    let before = params_at c.loop-params.p.nodes c.loop-params.params in
    alone.no_params c.from_residual.result c.from_residual.ensures.1
    (param_turn.not_turned g.B.BodyForms.forms stage before c.loop-params.invariant.0
    (c.in_err-next_param.ensures.next g.B.Bodies.is_faithful)) c.loop-params.invariant.2

pub parse_formal_params-returns-in-End : goal.parse_formal_params-returns-in-End
parse_formal_params-returns-in-End g t c =
    let stage = stage_of c.loop-params.rest in
    let before = params_at c.loop-params.p.nodes c.loop-params.params in
    let looked = c.in_ok-next_param.ensures.next g.B.Bodies.is_faithful in
    alone.params_left_open c.loop-params.params
    (param_turn.ended g.B.BodyForms.forms stage before c.loop-params.invariant.0 c.in-End.is looked)
    (alone.alone_later g.I.Tokens.model g.B.BodyForms.forms before c.loop-params.invariant.0.leads looked.leads
    c.loop-params.invariant.5)
    c.loop-params.invariant.2 (c.loop-params.invariant.3, c.loop-params.invariant.4)

pub parse_formal_params-returns-in_err-arg-in-Some : goal.parse_formal_params-returns-in_err-arg-in-Some
parse_formal_params-returns-in_err-arg-in-Some g t c =
    let stage = stage_of c.loop-params.rest in
    let before = params_at c.loop-params.p.nodes c.loop-params.params in
    let turned = param_turn.turned g.B.BodyForms.forms stage before c.loop-params.invariant.0
    (next_param.Item (Some c.in-Some.dots)) (c.in-Item.is ∙ ap (λ o. next_param.Item o) c.in-Some.is)
    (c.in_ok-next_param.ensures.next g.B.Bodies.is_faithful) in
    alone.no_params c.from_residual-in_err-arg-in-Some.result c.from_residual-in_err-arg-in-Some.ensures.1
    (param_turn.no_item g.B.BodyForms.forms stage before (Some c.in-Some.dots) turned
    (param_turn.no_rest g.B.BodyForms.forms c.in-Some.dots c.in_err-arg-in-Some.ensures.reads))
    (grows-then c.loop-params.invariant.2 c.parse_pat.ensures.grows)

pub parse_formal_params-returns-in_err-eat-in-Some : goal.parse_formal_params-returns-in_err-eat-in-Some
parse_formal_params-returns-in_err-eat-in-Some g t c =
    let stage = stage_of c.loop-params.rest in
    let before = params_at c.loop-params.p.nodes c.loop-params.params in
    let turned = param_turn.turned g.B.BodyForms.forms stage before c.loop-params.invariant.0
    (next_param.Item (Some c.in-Some.dots)) (c.in-Item.is ∙ ap (λ o. next_param.Item o) c.in-Some.is)
    (c.in_ok-next_param.ensures.next g.B.Bodies.is_faithful) in
    alone.no_params c.from_residual-in_err-eat-in-Some.result c.from_residual-in_err-eat-in-Some.ensures.1
    (param_turn.no_item g.B.BodyForms.forms stage before (Some c.in-Some.dots) turned
    (s.unheard_after (param_turn.rest_begun g.B.BodyForms.forms c.in-Some.dots c.in_ok-arg-in-Some.ensures.reads.on)
    (param_turn.rest_unlooked c.in-Some.dots (pat_at c.parse_pat.new.p.nodes c.in_ok-arg-in-Some.arg)
    (c.in_err-eat-in-Some.ensures.eats g.B.Bodies.is_faithful))))
    (grows-then c.loop-params.invariant.2 c.parse_pat.ensures.grows)

pub parse_formal_params-returns-in_err-value-in-Some-2 : goal.parse_formal_params-returns-in_err-value-in-Some-2
parse_formal_params-returns-in_err-value-in-Some-2 g t c =
    let stage = stage_of c.loop-params.rest in
    let before = params_at c.loop-params.p.nodes c.loop-params.params in
    let turned = param_turn.turned g.B.BodyForms.forms stage before c.loop-params.invariant.0
    (next_param.Item (Some c.in-Some.dots)) (c.in-Item.is ∙ ap (λ o. next_param.Item o) c.in-Some.is)
    (c.in_ok-next_param.ensures.next g.B.Bodies.is_faithful) in
    alone.no_params c.from_residual-in_err-value-in-Some-2.result c.from_residual-in_err-value-in-Some-2.ensures.1
    (param_turn.no_item g.B.BodyForms.forms stage before (Some c.in-Some.dots) turned
    (s.unheard_after (param_turn.rest_begun g.B.BodyForms.forms c.in-Some.dots c.in_ok-arg-in-Some.ensures.reads.on)
    (s.unheard_after (param_turn.rest_ill c.in-Some.dots (pat_at c.parse_pat.new.p.nodes c.in_ok-arg-in-Some.arg)
    (s.eats_some g.B.Bodies.is_faithful is_equals _ c.in-Some-2.field-0 _ _ c.in-Some-2.is
    (c.in_ok-eat-in-Some.ensures.eats g.B.Bodies.is_faithful)).on)
    (s.unheard_none (λ x ts. refl) c.in_err-value-in-Some-2.ensures.reads.refuses))))
    (grows-then c.loop-params.invariant.2 (grows-then c.parse_pat.ensures.grows c.parse_assignment_expr.ensures.grows))

pub parse_formal_params-rest_default-requires-clause-left : goal.parse_formal_params-rest_default-requires-clause-left
parse_formal_params-rest_default-requires-clause-left g t c =
    from-down (omega arith) (from-later c.parse_assignment_expr.ensures.grows c.in_ok-arg-in-Some.ensures.from)

pub parse_formal_params-returns-in_err-pat-in-Some-2 : goal.parse_formal_params-returns-in_err-pat-in-Some-2
parse_formal_params-returns-in_err-pat-in-Some-2 g t c =
    let stage = stage_of c.loop-params.rest in
    let before = params_at c.loop-params.p.nodes c.loop-params.params in
    let turned = param_turn.turned g.B.BodyForms.forms stage before c.loop-params.invariant.0
    (next_param.Item (Some c.in-Some.dots)) (c.in-Item.is ∙ ap (λ o. next_param.Item o) c.in-Some.is)
    (c.in_ok-next_param.ensures.next g.B.Bodies.is_faithful) in
    alone.no_params c.from_residual-in_err-pat-in-Some-2.result c.from_residual-in_err-pat-in-Some-2.ensures.1
    (param_turn.no_item g.B.BodyForms.forms stage before (Some c.in-Some.dots) turned
    (s.unheard_after (param_turn.rest_begun g.B.BodyForms.forms c.in-Some.dots c.in_ok-arg-in-Some.ensures.reads.on)
    (s.unheard_after (param_turn.rest_faulty c.in-Some.dots (pat_at c.parse_pat.new.p.nodes c.in_ok-arg-in-Some.arg)
    (s.eats_some g.B.Bodies.is_faithful is_equals _ c.in-Some-2.field-0 _ _ c.in-Some-2.is
    (c.in_ok-eat-in-Some.ensures.eats g.B.Bodies.is_faithful)).on c.in_ok-value-in-Some-2.ensures.reads.on.leads)
    c.in_err-pat-in-Some-2.ensures.reads)))
    (grows-then c.loop-params.invariant.2 (grows-then c.parse_pat.ensures.grows
    (grows-then c.parse_assignment_expr.ensures.grows c.rest_default.ensures.grows)))

pub parse_formal_params-returns-in_err-pat-in-None-2 : goal.parse_formal_params-returns-in_err-pat-in-None-2
parse_formal_params-returns-in_err-pat-in-None-2 g t c =
    let stage = stage_of c.loop-params.rest in
    let before = params_at c.loop-params.p.nodes c.loop-params.params in
    let turned = param_turn.turned g.B.BodyForms.forms stage before c.loop-params.invariant.0
    (next_param.Item (Some c.in-Some.dots)) (c.in-Item.is ∙ ap (λ o. next_param.Item o) c.in-Some.is)
    (c.in_ok-next_param.ensures.next g.B.Bodies.is_faithful) in
    let none = s.eats_none g.B.Bodies.is_faithful is_equals _ _ _ c.in-None-2.is
    (c.in_ok-eat-in-Some.ensures.eats g.B.Bodies.is_faithful) in
    alone.no_params c.from_residual-in_err-pat-in-None-2.result c.from_residual-in_err-pat-in-None-2.ensures.1
    (param_turn.no_item g.B.BodyForms.forms stage before (Some c.in-Some.dots) turned
    (s.unheard_after (param_turn.rest_begun g.B.BodyForms.forms c.in-Some.dots c.in_ok-arg-in-Some.ensures.reads.on)
    (s.unheard_after (param_turn.rest_bare c.in-Some.dots (pat_at c.parse_pat.new.p.nodes c.in_ok-arg-in-Some.arg) none)
    c.in_err-pat-in-None-2.ensures.reads)))
    (grows-then c.loop-params.invariant.2 (grows-then c.parse_pat.ensures.grows c.rest_pat.ensures.grows))

pub parse_formal_params-returns-in_err-pat-in-None : goal.parse_formal_params-returns-in_err-pat-in-None
parse_formal_params-returns-in_err-pat-in-None g t c =
    let stage = stage_of c.loop-params.rest in
    let before = params_at c.loop-params.p.nodes c.loop-params.params in
    let turned = param_turn.turned g.B.BodyForms.forms stage before c.loop-params.invariant.0 (next_param.Item None)
    (c.in-Item.is ∙ ap (λ o. next_param.Item o) c.in-None.is)
    (c.in_ok-next_param.ensures.next g.B.Bodies.is_faithful) in
    alone.no_params c.from_residual-in_err-pat-in-None.result c.from_residual-in_err-pat-in-None.ensures.1
    (param_turn.no_item g.B.BodyForms.forms stage before None turned c.in_err-pat-in-None.ensures.reads)
    (grows-then c.loop-params.invariant.2 c.parse_binding_element.ensures.grows)

pub parse_formal_params-returns-in_err-add-in-Item : goal.parse_formal_params-returns-in_err-add-in-Item
parse_formal_params-returns-in_err-add-in-Item g t c =
    let stage = stage_of c.loop-params.rest in
    let before = params_at c.loop-params.p.nodes c.loop-params.params in
    let dots = c.match-dots.dots in
    let same : c.match-dots.dots ≡ c.in-Item.dots =
    elim c.match-dots.branch [
      | parse_formal_params-in-Some+in_ok-arg-in-Some+in_ok-eat-in-Some+in-Some-2+in_ok-value-in-Some-2+in_ok-pat-in-Some-2 w ↦ w.dots-is ∙ sym w.in-Some.is
      | parse_formal_params-in-Some+in_ok-arg-in-Some+in_ok-eat-in-Some+in-None-2+in_ok-pat-in-None-2 w ↦ w.dots-is
          ∙ sym w.in-Some.is
      | parse_formal_params-in-None+in_ok-pat-in-None w ↦ w.dots-is
    ] in
    let turned = param_turn.turned g.B.BodyForms.forms stage before c.loop-params.invariant.0 (next_param.Item dots)
    (c.in-Item.is ∙ ap (λ o. next_param.Item o) (sym same))
    (c.in_ok-next_param.ensures.next g.B.Bodies.is_faithful) in
    let from = record c.loop-params.p { input = c.next_param.new.input } in
    let item : Produces g.I.Tokens.model g.B.Bodies.is_faithful pat_itself pat_at (param_read g.B.BodyForms.forms dots)
    (count c.loop-params.p.nodes) from (Ok c.match-dots.pat) c.match-dots.p =
    elim c.match-dots.branch [
      | parse_formal_params-in-Some+in_ok-arg-in-Some+in_ok-eat-in-Some+in-Some-2+in_ok-value-in-Some-2+in_ok-pat-in-Some-2 w ↦
          let arg = w.in_ok-arg-in-Some.arg in
          let t = pat_at w.parse_pat.new.p.nodes arg in
          rw (w.p-is, w.pat-is, w.dots-is)
          (param_turn.rest_param g.B.BodyForms.forms w.in-Some.dots
          {n = w.parse_assignment_expr.new.p} w.parse_pat.new.p arg
          (Ok _) w.in_ok-arg-in-Some.ensures.reads w.parse_pat.ensures.grows w.in_ok-arg-in-Some.ensures.from
          (param_turn.rest_faulty w.in-Some.dots t (s.eats_some g.B.Bodies.is_faithful is_equals _ w.in-Some-2.field-0 _
          _ w.in-Some-2.is (w.in_ok-eat-in-Some.ensures.eats g.B.Bodies.is_faithful)).on
          w.in_ok-value-in-Some-2.ensures.reads.on.leads)
          w.parse_assignment_expr.ensures.grows (record {
            reads = w.in_ok-pat-in-Some-2.ensures.reads;
            falls = w.in_ok-pat-in-Some-2.ensures.falls;
            grows = w.rest_default.ensures.grows;
            from = w.in_ok-pat-in-Some-2.ensures.from;
          }))
      | parse_formal_params-in-Some+in_ok-arg-in-Some+in_ok-eat-in-Some+in-None-2+in_ok-pat-in-None-2 w ↦
          let arg = w.in_ok-arg-in-Some.arg in
          let t = pat_at w.parse_pat.new.p.nodes arg in
          let none = s.eats_none g.B.Bodies.is_faithful is_equals _ _ _ w.in-None-2.is
          (w.in_ok-eat-in-Some.ensures.eats g.B.Bodies.is_faithful) in
          rw (w.p-is, w.pat-is, w.dots-is)
          (param_turn.rest_param g.B.BodyForms.forms w.in-Some.dots
          {n = record w.parse_pat.new.p { input = w.eat.new.input }} w.parse_pat.new.p arg
          (Ok _) w.in_ok-arg-in-Some.ensures.reads w.parse_pat.ensures.grows w.in_ok-arg-in-Some.ensures.from
          (param_turn.rest_bare w.in-Some.dots t none) (grows-same _)
          (record {
            reads = w.in_ok-pat-in-None-2.ensures.reads;
            falls = w.in_ok-pat-in-None-2.ensures.falls;
            grows = w.rest_pat.ensures.grows;
            from = w.in_ok-pat-in-None-2.ensures.from;
          }))
      | parse_formal_params-in-None+in_ok-pat-in-None w ↦ rw (w.p-is, w.pat-is, w.dots-is ∙ w.in-None.is)
          (m.yes (Ok _) w.in_ok-pat-in-None.ensures.reads w.parse_binding_element.ensures.grows
          w.in_ok-pat-in-None.ensures.from)
    ] in
    let read = param_turn.item g.B.BodyForms.forms stage before dots turned item.reads.on in
    alone.no_params c.from_residual-in_err-add-in-Item.result c.from_residual-in_err-add-in-Item.ensures.1
    (s.unheard_memory (s.forgoes_later read.leads (s.forgoes_here g.met.I.Tokens.laws _ _ _
    c.in_err-add-in-Item.ensures.refused)))
    (grows-then c.loop-params.invariant.2 item.grows)

pub parse_formal_params-returns-in_err-rest-in-Item : goal.parse_formal_params-returns-in_err-rest-in-Item
parse_formal_params-returns-in_err-rest-in-Item g t c =
    let stage = stage_of c.loop-params.rest in
    let before = params_at c.loop-params.p.nodes c.loop-params.params in
    let dots = c.match-dots.dots in
    let same : c.match-dots.dots ≡ c.in-Item.dots =
    elim c.match-dots.branch [
      | parse_formal_params-in-Some+in_ok-arg-in-Some+in_ok-eat-in-Some+in-Some-2+in_ok-value-in-Some-2+in_ok-pat-in-Some-2 w ↦ w.dots-is ∙ sym w.in-Some.is
      | parse_formal_params-in-Some+in_ok-arg-in-Some+in_ok-eat-in-Some+in-None-2+in_ok-pat-in-None-2 w ↦ w.dots-is
          ∙ sym w.in-Some.is
      | parse_formal_params-in-None+in_ok-pat-in-None w ↦ w.dots-is
    ] in
    let turned = param_turn.turned g.B.BodyForms.forms stage before c.loop-params.invariant.0 (next_param.Item dots)
    (c.in-Item.is ∙ ap (λ o. next_param.Item o) (sym same))
    (c.in_ok-next_param.ensures.next g.B.Bodies.is_faithful) in
    let from = record c.loop-params.p { input = c.next_param.new.input } in
    let item : Produces g.I.Tokens.model g.B.Bodies.is_faithful pat_itself pat_at (param_read g.B.BodyForms.forms dots)
    (count c.loop-params.p.nodes) from (Ok c.match-dots.pat) c.match-dots.p =
    elim c.match-dots.branch [
      | parse_formal_params-in-Some+in_ok-arg-in-Some+in_ok-eat-in-Some+in-Some-2+in_ok-value-in-Some-2+in_ok-pat-in-Some-2 w ↦
          let arg = w.in_ok-arg-in-Some.arg in
          let t = pat_at w.parse_pat.new.p.nodes arg in
          rw (w.p-is, w.pat-is, w.dots-is)
          (param_turn.rest_param g.B.BodyForms.forms w.in-Some.dots
          {n = w.parse_assignment_expr.new.p} w.parse_pat.new.p arg
          (Ok _) w.in_ok-arg-in-Some.ensures.reads w.parse_pat.ensures.grows w.in_ok-arg-in-Some.ensures.from
          (param_turn.rest_faulty w.in-Some.dots t (s.eats_some g.B.Bodies.is_faithful is_equals _ w.in-Some-2.field-0 _
          _ w.in-Some-2.is (w.in_ok-eat-in-Some.ensures.eats g.B.Bodies.is_faithful)).on
          w.in_ok-value-in-Some-2.ensures.reads.on.leads)
          w.parse_assignment_expr.ensures.grows (record {
            reads = w.in_ok-pat-in-Some-2.ensures.reads;
            falls = w.in_ok-pat-in-Some-2.ensures.falls;
            grows = w.rest_default.ensures.grows;
            from = w.in_ok-pat-in-Some-2.ensures.from;
          }))
      | parse_formal_params-in-Some+in_ok-arg-in-Some+in_ok-eat-in-Some+in-None-2+in_ok-pat-in-None-2 w ↦
          let arg = w.in_ok-arg-in-Some.arg in
          let t = pat_at w.parse_pat.new.p.nodes arg in
          let none = s.eats_none g.B.Bodies.is_faithful is_equals _ _ _ w.in-None-2.is
          (w.in_ok-eat-in-Some.ensures.eats g.B.Bodies.is_faithful) in
          rw (w.p-is, w.pat-is, w.dots-is)
          (param_turn.rest_param g.B.BodyForms.forms w.in-Some.dots
          {n = record w.parse_pat.new.p { input = w.eat.new.input }} w.parse_pat.new.p arg
          (Ok _) w.in_ok-arg-in-Some.ensures.reads w.parse_pat.ensures.grows w.in_ok-arg-in-Some.ensures.from
          (param_turn.rest_bare w.in-Some.dots t none) (grows-same _)
          (record {
            reads = w.in_ok-pat-in-None-2.ensures.reads;
            falls = w.in_ok-pat-in-None-2.ensures.falls;
            grows = w.rest_pat.ensures.grows;
            from = w.in_ok-pat-in-None-2.ensures.from;
          }))
      | parse_formal_params-in-None+in_ok-pat-in-None w ↦ rw (w.p-is, w.pat-is, w.dots-is ∙ w.in-None.is)
          (m.yes (Ok _) w.in_ok-pat-in-None.ensures.reads w.parse_binding_element.ensures.grows
          w.in_ok-pat-in-None.ensures.from)
    ] in
    let read = param_turn.item g.B.BodyForms.forms stage before dots turned item.reads.on in
    alone.no_params c.from_residual-in_err-rest-in-Item.result c.from_residual-in_err-rest-in-Item.ensures.1
    (param_turn.not_separated g.B.BodyForms.forms (is_some dots) stage
    (trees_append before (cons (pat_at c.match-dots.p.nodes c.match-dots.pat) nil)) read
    (c.in_err-rest-in-Item.ensures.separates g.B.Bodies.is_faithful))
    (grows-then c.loop-params.invariant.2 item.grows)

pub parse_formal_params-loop-params-preserved : goal.parse_formal_params-loop-params-preserved
parse_formal_params-loop-params-preserved g t c =
    let stage = stage_of c.loop-params.rest in
    let before = params_at c.loop-params.p.nodes c.loop-params.params in
    let dots = c.match-dots.dots in
    let same : c.match-dots.dots ≡ c.in-Item.dots =
    elim c.match-dots.branch [
      | parse_formal_params-in-Some+in_ok-arg-in-Some+in_ok-eat-in-Some+in-Some-2+in_ok-value-in-Some-2+in_ok-pat-in-Some-2 w ↦ w.dots-is ∙ sym w.in-Some.is
      | parse_formal_params-in-Some+in_ok-arg-in-Some+in_ok-eat-in-Some+in-None-2+in_ok-pat-in-None-2 w ↦ w.dots-is
          ∙ sym w.in-Some.is
      | parse_formal_params-in-None+in_ok-pat-in-None w ↦ w.dots-is
    ] in
    let turned = param_turn.turned g.B.BodyForms.forms stage before c.loop-params.invariant.0 (next_param.Item dots)
    (c.in-Item.is ∙ ap (λ o. next_param.Item o) (sym same))
    (c.in_ok-next_param.ensures.next g.B.Bodies.is_faithful) in
    let from = record c.loop-params.p { input = c.next_param.new.input } in
    let item : Produces g.I.Tokens.model g.B.Bodies.is_faithful pat_itself pat_at (param_read g.B.BodyForms.forms dots)
    (count c.loop-params.p.nodes) from (Ok c.match-dots.pat) c.match-dots.p =
    elim c.match-dots.branch [
      | parse_formal_params-in-Some+in_ok-arg-in-Some+in_ok-eat-in-Some+in-Some-2+in_ok-value-in-Some-2+in_ok-pat-in-Some-2 w ↦
          let arg = w.in_ok-arg-in-Some.arg in
          let t = pat_at w.parse_pat.new.p.nodes arg in
          rw (w.p-is, w.pat-is, w.dots-is)
          (param_turn.rest_param g.B.BodyForms.forms w.in-Some.dots
          {n = w.parse_assignment_expr.new.p} w.parse_pat.new.p arg
          (Ok _) w.in_ok-arg-in-Some.ensures.reads w.parse_pat.ensures.grows w.in_ok-arg-in-Some.ensures.from
          (param_turn.rest_faulty w.in-Some.dots t (s.eats_some g.B.Bodies.is_faithful is_equals _ w.in-Some-2.field-0 _
          _ w.in-Some-2.is (w.in_ok-eat-in-Some.ensures.eats g.B.Bodies.is_faithful)).on
          w.in_ok-value-in-Some-2.ensures.reads.on.leads)
          w.parse_assignment_expr.ensures.grows (record {
            reads = w.in_ok-pat-in-Some-2.ensures.reads;
            falls = w.in_ok-pat-in-Some-2.ensures.falls;
            grows = w.rest_default.ensures.grows;
            from = w.in_ok-pat-in-Some-2.ensures.from;
          }))
      | parse_formal_params-in-Some+in_ok-arg-in-Some+in_ok-eat-in-Some+in-None-2+in_ok-pat-in-None-2 w ↦
          let arg = w.in_ok-arg-in-Some.arg in
          let t = pat_at w.parse_pat.new.p.nodes arg in
          let none = s.eats_none g.B.Bodies.is_faithful is_equals _ _ _ w.in-None-2.is
          (w.in_ok-eat-in-Some.ensures.eats g.B.Bodies.is_faithful) in
          rw (w.p-is, w.pat-is, w.dots-is)
          (param_turn.rest_param g.B.BodyForms.forms w.in-Some.dots
          {n = record w.parse_pat.new.p { input = w.eat.new.input }} w.parse_pat.new.p arg
          (Ok _) w.in_ok-arg-in-Some.ensures.reads w.parse_pat.ensures.grows w.in_ok-arg-in-Some.ensures.from
          (param_turn.rest_bare w.in-Some.dots t none) (grows-same _)
          (record {
            reads = w.in_ok-pat-in-None-2.ensures.reads;
            falls = w.in_ok-pat-in-None-2.ensures.falls;
            grows = w.rest_pat.ensures.grows;
            from = w.in_ok-pat-in-None-2.ensures.from;
          }))
      | parse_formal_params-in-None+in_ok-pat-in-None w ↦ rw (w.p-is, w.pat-is, w.dots-is ∙ w.in-None.is)
          (m.yes (Ok _) w.in_ok-pat-in-None.ensures.reads w.parse_binding_element.ensures.grows
          w.in_ok-pat-in-None.ensures.from)
    ] in
    let ns = c.match-dots.p.nodes in
    let pat = c.match-dots.pat in
    let param = c.param_of-param.result in
    let read = param_turn.item g.B.BodyForms.forms stage before dots turned item.reads.on in
    let more = ap (λ v. trees (map (λ p. pat_at ns p.pat) v)) c.in_ok-add-in-Item.ensures.added
    ∙ params-more c.loop-params.params.items param item.grows c.loop-params.invariant.3
    ∙ ap (λ v. trees_append before (cons (pat_at ns v) nil)) c.param_of-param.ensures.pat in
    let last = subst (λ v. From (count c.loop-params.p.nodes) ns (pat_part v))
    (sym c.param_of-param.ensures.pat) item.from in
    let parts = placed-more c.loop-params.params.items param item.grows
    (c.loop-params.invariant.3, c.loop-params.invariant.4) last
    (c.param_of-param.ensures.span ∙ ap (λ v. span_of (pat_at ns v)) (sym c.param_of-param.ensures.pat)) in (
      s.on_to (param_turn.separated g.B.BodyForms.forms (is_some dots) stage
          (trees_append before (cons (pat_at ns pat) nil)) read
          (c.in_ok-rest-in-Item.ensures.separates g.B.Bodies.is_faithful))
          (λ x ts. ap (λ v. params_left g.B.BodyForms.forms (stage_of c.in_ok-rest-in-Item.rest) v x ts) (sym more)),
      let a = c.loop-params.invariant.1 in let b = c.in_ok-next_param.ensures.falls in let d = item.falls in
          let e = c.in_ok-rest-in-Item.ensures.falls in omega arith,
      grows-then c.loop-params.invariant.2 item.grows,
      record {
        chained = ap (λ v. chain (seat_at ns) (count c.args.p.now.nodes) (flat param_parts v) (count ns))
            c.in_ok-add-in-Item.ensures.added ∙ parts.0.chained;
      },
      subst (λ v. placed ns v) (sym c.in_ok-add-in-Item.ensures.added) parts.1,
      λ l n. subst (λ v. AllReadAlone g.B.BodyForms.forms (scope g.I.Tokens.model c.args.p.now.input) v) (sym more)
          (alone.alone_more g.I.Tokens.model g.B.BodyForms.forms before
          (pat_at ns pat) dots c.loop-params.invariant.0.leads
          (c.in_ok-next_param.ensures.next g.B.Bodies.is_faithful).leads item.reads.on
          (c.in_ok-rest-in-Item.ensures.separates g.B.Bodies.is_faithful).leads c.loop-params.invariant.5 l n),
    )
