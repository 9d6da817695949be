-- What the steps of the code read in assignment expressions and in sequences (13.14 to 13.16, 15.5), by the clean
-- parser.
use Rattle.std.specs.Prelude.{ℕ, Bool, true, false, ◌&&◌, if◌then◌else◌, List, Option, Some, None}
use Rattle.swc_context.specs.{declared.operator.AssignOp.AssignOp, declared.operator.AssignOp.AssignOp as write, Spans.from_to, declared.span.BytePos.BytePos, declared.span.Span.Span}
use Rattle.swc_input.specs.{declared.token.TokenAndSpan.TokenAndSpan, Recording.is_some, Kinds.at_token}
use Rattle.swc_ast.specs.Tree.{Tree, Trees, nil, cons, span_of}
use Rattle.swc_ast.specs.Trees.{to, trees_append, cond_e, assign_e, yield_e, hole_e, seq_of, is_operation}
use Rattle.swc_ast.specs.{Targets.is_target, declared.spanned.Spanned.Ghosts}
use Rattle.swc_bodies.specs.Readings.{Hook}
use Rattle.swc_grammar.specs.Cover.{as_literal, is_pattern, is_plain_assign}
use Rattle.swc_grammar.specs.Tokens.{assign_of, is_colon, is_question, is_star, yield_ok}
use Rattle.swc_grammar.specs.Clean.{Out, first, sym, seqs, goes_on_yield_at, run}
use Rattle.swc_grammar.specs.{Scope.Scope, Symbols.Assign, Words.◌>>=◌, Words.rest}
use Rattle.swc_cover.specs.{Clear.is_clear, PatTypes.verdict_as, PatTypes.want_as, declared.pat_type.PatType.TheVariants.AssignPat}
use Rattle.swc_nodes.specs.{GrowingNodes.tree_at, GrowingNodes.From, NodeParts.target_part, declared.node.TargetNode.TargetNode, declared.node.TargetNode.TargetNode as target, declared.nodes.Nodes.Nodes}
use Rattle.swc_steps.specs.{Keys.expected, Lists.eaten, Readers.begun_if, Readers.inside}

-- whether the operator makes a pattern of what is before it
abbrev pub refines : {F C K : Type 0} → AssignOp → Tree F C K → Bool
refines op l = is_plain_assign op && is_pattern l

-- the operator that a token is, where it writes to what is before it: no operation is written to
abbrev pub assign_at : {F C K : Type 0} → Option TokenAndSpan → Tree F C K → Option AssignOp
assign_at None l = None
assign_at (Some t) l = if is_operation l then None else assign_of t.token

module _ {F C K : Type 0} (hook : Hook F C K) where
  -- ---- sequences (13.16)

  -- after some expressions and a comma, and after some expressions, where a comma was taken or not
  unfoldable pub seqs_more : Trees F C K → Scope → List TokenAndSpan → Out (Tree F C K)
  seqs_more es c ts = run hook (sym Assign) c ts >>= (λ p. run hook (seqs (trees_append es (cons p.0 nil))) c p.1)

  abbrev pub seqs_by : Trees F C K → Option Span → Scope → List TokenAndSpan → Out (Tree F C K)
  seqs_by es (Some s) c ts = seqs_more es c ts
  seqs_by es None c ts = Some (seq_of es, ts)

  -- the same of a sequence that begins at a position, where that is told
  abbrev pub seqs_from : Bool → BytePos → Trees F C K → Scope → List TokenAndSpan → Out (Tree F C K)
  seqs_from b lo es c ts = seqs_more es c ts >>= (λ p. Some (begun_if b lo p.0, p.1))

  abbrev pub seqs_from_by : Bool → BytePos → Trees F C K → Option Span → Scope → List TokenAndSpan → Out (Tree F C K)
  seqs_from_by b lo es o c ts = seqs_by es o c ts >>= (λ p. Some (begun_if b lo p.0, p.1))

  -- ---- conditionals (13.14)

  -- that begin at a position: of what t tests, after its middle e and the `:`; after its middle; and after the `?`
  abbrev pub cond_close : BytePos → Tree F C K → Tree F C K → Scope → List TokenAndSpan → Out (Tree F C K)
  cond_close lo t e c ts =
      run hook (sym Assign) c ts >>= (λ q. Some (cond_e (from_to lo (span_of q.0).hi) t e q.0, q.1))

  abbrev pub cond_colon : BytePos → Tree F C K → Tree F C K → Scope → List TokenAndSpan → Out (Tree F C K)
  cond_colon lo t e c ts = expected is_colon c ts >>= (λ q. cond_close lo t e c q.1)

  unfoldable pub cond_tail : BytePos → Tree F C K → Scope → List TokenAndSpan → Out (Tree F C K)
  cond_tail lo t c ts = inside hook c ts >>= (λ p. cond_colon lo t p.0 c p.1)

  -- ---- assignments (13.15)

  -- to l, after the operator, and from that on
  unfoldable pub assign_tail : AssignOp → Tree F C K → Scope → List TokenAndSpan → Out (Tree F C K)
  assign_tail op l c ts =
      run hook (sym Assign) c ts >>= (λ p. Some (assign_e (to (span_of l) (span_of p.0)) op l p.0, p.1))

  unfoldable pub assign_expr : AssignOp → Tree F C K → Scope → List TokenAndSpan → Out (Tree F C K)
  assign_expr op l c ts = if is_target c.context.strict l then assign_tail op l c (rest ts) else None

  -- to what the literal after the operator `=` is as a pattern, or to nothing, from the operator on
  abbrev pub pattern_by : Option (Tree F C K) → Scope → List TokenAndSpan → Out (Tree F C K)
  pattern_by None c us = None
  pattern_by (Some t) c us = assign_tail write.Assign t c us

  unfoldable pub assign_pattern : Tree F C K → Scope → List TokenAndSpan → Out (Tree F C K)
  assign_pattern l c ts = pattern_by (as_literal c.context.strict l) c (rest ts)

  -- the same as the code does it, which finds what is wrong of the literal, and makes a pattern of it anyway
  unfoldable pub assign_refined : Tree F C K → Scope → List TokenAndSpan → Out (Tree F C K)
  assign_refined l c ts =
      if is_clear (verdict_as c.context.strict AssignPat l) then
      assign_tail write.Assign (want_as AssignPat l) c (rest ts) else None

  -- from the operator on, to l or to a pattern of it
  abbrev pub assign_by : AssignOp → Tree F C K → Scope → List TokenAndSpan → Out (Tree F C K)
  assign_by op l c ts = if refines op l then assign_refined l c ts else assign_expr op l c ts

  -- after what binary operators join: such an operator, or none
  abbrev pub assigned_by : Option AssignOp → Tree F C K → Scope → List TokenAndSpan → Out (Tree F C K)
  assigned_by None l c ts = Some (l, ts)
  assigned_by (Some op) l c ts = assign_by op l c ts

  -- the same, where a conditional begins at the position
  unfoldable pub assigns_from : BytePos → Tree F C K → Scope → List TokenAndSpan → Out (Tree F C K)
  assigns_from lo l c ts =
      if at_token is_question (first ts) then cond_tail lo l c (rest ts) else
      assigned_by (assign_at (first ts) l) l c ts

  -- ---- `yield` (15.5)

  -- its operand, after the `*` or none, where `yield` is at s; from the `*` on; after the word; and from that on
  abbrev pub yield_arg : Span → Option Span → Scope → List TokenAndSpan → Out (Tree F C K)
  yield_arg s o c ts = run hook (sym Assign) c ts >>= (λ q. Some (yield_e (to s (span_of q.0)) (is_some o) q.0, q.1))

  unfoldable pub yield_operand : Span → Scope → List TokenAndSpan → Out (Tree F C K)
  yield_operand s c ts = eaten is_star c ts >>= (λ p. yield_arg s p.0 c p.1)

  abbrev pub yield_go : Span → Scope → List TokenAndSpan → Out (Tree F C K)
  yield_go s c ts =
      if goes_on_yield_at (first ts) then yield_operand s c ts else Some (yield_e s false hole_e, ts)

  unfoldable pub yield_tail : Span → Scope → List TokenAndSpan → Out (Tree F C K)
  yield_tail s c ts = if yield_ok c.context then yield_go s c ts else None

  abbrev pub yield_by : Option TokenAndSpan → Scope → List TokenAndSpan → Out (Tree F C K)
  yield_by None c us = None
  yield_by (Some t) c us = yield_tail t.span c us

  unfoldable pub yield_expr : Scope → List TokenAndSpan → Out (Tree F C K)
  yield_expr c ts = yield_by (first ts) c (rest ts)

-- ---- what is written to

-- its number, and whether it may come before the operator: a pattern comes before `=` alone
abbrev pub target_number : TargetNode → ℕ
target_number (target.Simple e) = e.0
target_number (target.Pat p) = p.0

abbrev pub fits_op : AssignOp → TargetNode → Bool
fits_op op (target.Simple e) = true
fits_op op (target.Pat p) = is_plain_assign op

module _ {F C K : Type 0} {fg : Ghosts F} {cg : Ghosts C} {kg : Ghosts K} where
  abbrev pub target_from : ℕ → Nodes F C K fg cg kg → TargetNode → Type 0
  target_from k ns t = From k ns (target_part t)

  abbrev pub target_at : Nodes F C K fg cg kg → TargetNode → Tree F C K
  target_at ns t = tree_at ns (target_number t)

module _ {F C K : Type 0} where
  -- to l, by the operator, of what was read and ends at a position
  abbrev pub assign_made : AssignOp → Tree F C K → BytePos → Tree F C K → Scope → List TokenAndSpan → Out (Tree F C K)
  assign_made op l hi r c ts = Some (assign_e (from_to (span_of l).lo hi) op l r, ts)
