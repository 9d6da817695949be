-- What the calls promise that make patterns of finished expressions (ECMA-262, 13.15.5 and 15.3).
use Rattle.std.specs.Prelude.{◌≡◌, ℕ, Bool, true, false, if◌then◌else◌, List, [], map, Option, Some, None, Result, Err, IfOk, MatchOption, MatchResult}
use Rattle.std.specs.{declared.alloc.Global.Global, declared.boxed.Box.Box, declared.vec.Vec.Vec, Option.is_some}
use Rattle.swc_context.specs.{declared.context.Context.Context, declared.error.Error.Error, declared.error.SyntaxError.TheVariants.OutOfMemory, declared.span.Span.Span}
use Rattle.swc_input.specs.Buffer.{Read, context, previous}
use Rattle.swc_input.specs.{Source.Model, declared.buffer.Buffer.Buffer}
use Rattle.swc_ast.specs.Tree.{Tree, Trees, trees}
use Rattle.swc_ast.specs.Trees.{is_valid, are_valid, unmarked, all_unmarked}
use Rattle.swc_ast.specs.{Parts.item_trees, TreeOf.pat_tree, declared.expr.Expr.Expr, declared.expr.ExprOrSpread.ExprOrSpread, declared.pat.Pat.Pat, declared.spanned.Spanned.Ghosts}
use Rattle.swc_grammar.specs.Cover.{binding, as_elements, arrow_params_ok}
use Rattle.swc_nodes.specs.Marking.{Marker, marked_by, all_marked_by}
use Rattle.swc_nodes.specs.GrowingNodes.{first_at, tree_at, Apart, SameNodes}
use Rattle.swc_nodes.specs.{Commas.comma_at, NodeParts.Part, declared.node.ExprId.ExprId, declared.node.PatId.PatId, declared.nodes.Nodes.Nodes}
use Rattle.swc_cover.specs.Noting.{names_bound, JudgesBy, JudgesParams}
use Rattle.swc_cover.specs.PatTypes.{pattern_as, verdict_as, want_as}
use Rattle.swc_cover.specs.{Faults.Verdict, Faults.params_verdict, Items.want_items, Moving.KeptTo, Refining.ChecksWhole, Refining.Unfitting, declared.pat_type.PatType.PatType}
use Rattle.swc_steps.specs.Params.{pat_at}
use Rattle.swc_input.specs.Calls.{Loud}
use Rattle.swc_steps.specs.Parsing.{Acts}
use Rattle.swc_ecma_parser.specs.Calls.{buffer_of, nodes_of, commas_of, has_failed, bound_of, met_bound, parser_failed, tree_by, wants_memory}
use Rattle.swc_ecma_parser.specs.{Promise.Unmarred, declared.parser.Parser.Parser}

-- What a call promises that makes patterns of expressions, from the parser p to q, where it answers r. By the grammar
-- the expressions are `pattern`, if they are patterns of the kind that is asked for; `becomes` is what is made of them
-- in any case, with `Invalid` where a fault is recorded. Both have the marks of commas, which `strip` takes away.
-- `Records` says which faults are recorded, in their order, and what is refused; `Keeps` which nodes stay.
pub record PromisedRefinement {S H T A F C K : Type 0} {fg : Ghosts F} {cg : Ghosts C} {kg : Ghosts K}
    (model : Model S) (valid : Bool) (pattern : Option A) (becomes : A) (strip : A → A) (view : T → A)
    (Records : Buffer S → Result T Error → Buffer S → Type 0)
    (Keeps : Nodes F C K fg cg kg → Nodes F C K fg cg kg → Type 0)
    (p : Parser S H F C K fg cg kg) (r : Result T Error) (q : Parser S H F C K fg cg kg) : Type 0 where
  -- A parser that ran out of memory does nothing, and refuses as `ParserFailed` at the token consumed last.
  pub again : has_failed p ≡ true → (q ≡ p) × (r ≡ Err (parser_failed (previous (buffer_of p))))
  -- Any other acts: what was consumed isn't lost; the context is what it was, no recorded fault was taken out, and no
  -- out of memory recorded.
  pub acts : has_failed p ≡ false → Acts model (buffer_of p) r (buffer_of q)
  -- Where the expressions hold no `Invalid`, and faults are recorded: what is answered with no fault recorded is the
  -- pattern that they are.
  pub sound : has_failed p ≡ false → valid ≡ true → Loud model (buffer_of p)
      → IfOk r (λ x. Unmarred model (buffer_of p) (buffer_of q) → MatchOption pattern ⊥ (λ m. view x ≡ strip m))
  -- Where they are a pattern, it is answered, with nothing consumed and no fault recorded; or it is out of
  -- memory.
  pub complete : has_failed p ≡ false → (m : A) → pattern ≡ Some m → MatchResult r
      (λ x. (view x ≡ strip m) × Read model (buffer_of p) [] (buffer_of q) × Unmarred model (buffer_of p) (buffer_of q))
      (λ e. e.kind ≡ OutOfMemory)
  -- the faults that are recorded, and no others, and what is refused
  pub records : has_failed p ≡ false → Records (buffer_of p) r (buffer_of q)
  -- what is answered in any case
  pub tree : IfOk r (λ x. view x ≡ strip becomes)
  -- what is remembered of commas stays: it isn't forgotten by use
  pub commas : commas_of q ≡ commas_of p
  -- the nodes that stay
  pub nodes : Keeps (nodes_of p) (nodes_of q)
  -- it has failed from now on where it refuses when out of memory, and only there
  pub fails : has_failed p ≡ false → has_failed q ≡ wants_memory r
  -- the bound on nesting stays; and it was met only where the call refuses when out of memory
  pub bound : bound_of q ≡ bound_of p
  pub shallow : has_failed p ≡ false → wants_memory r ≡ false → met_bound q ≡ false

-- the parameters that items in parentheses are, where a comma is after them or none, and they bind what they may
-- in the context
abbrev pub params_among : {F C K : Type 0} → Context → Option (Trees F C K) → Option (Trees F C K)
params_among c None = None
params_among c (Some ps) = if arrow_params_ok c ps then Some ps else None

abbrev pub params_as : {F C K : Type 0} → Context → Option Span → Trees F C K → Option (Trees F C K)
params_as c comma ts = params_among c (as_elements binding comma ts)

-- the items of a list in boxes, where the hook's values lie at the places given
abbrev pub boxed_items : {F C K : Type 0} → (F → Span) → (C → Span) → (K → Span)
    → List (ExprOrSpread (Box (Expr F C K) Global)) → Trees F C K
boxed_items fun class block xs = item_trees (tree_by fun class block) xs

module _ {S H F C K : Type 0} {fg : Ghosts F} {cg : Ghosts C} {kg : Ghosts K} where
  -- the commas that a parser remembers, by where a literal begins
  abbrev pub marks_of : Parser S H F C K fg cg kg → Marker
  marks_of p = comma_at (commas_of p)

  -- an expression in a box, and items in parentheses, with the marks of the commas that are remembered at their
  -- literals
  abbrev pub marked_expr : Parser S H F C K fg cg kg → Box (Expr F C K) Global → Tree F C K
  marked_expr p e = marked_by (marks_of p) (tree_by fg.place cg.place kg.place e)

  abbrev pub marked_items : Parser S H F C K fg cg kg → List (ExprOrSpread (Box (Expr F C K) Global)) → Trees F C K
  marked_items p xs = all_marked_by (marks_of p) (boxed_items fg.place cg.place kg.place xs)

  -- the pattern in strict code or not, as the parser's context says
  abbrev pub pattern_of : Model S → PatType → Box (Expr F C K) Global → Parser S H F C K fg cg kg → Option (Tree F C K)
  pattern_of model pat_type e p = pattern_as (context model (buffer_of p)).strict pat_type (marked_expr p e)

  abbrev pub params_of : Model S → List (ExprOrSpread (Box (Expr F C K) Global)) → Option Span
      → Parser S H F C K fg cg kg → Option (Trees F C K)
  params_of model xs comma p = params_as (context model (buffer_of p)) comma (marked_items p xs)

  -- what is wrong of it, and of items in parentheses the names that they bind in strict code and may not
  abbrev pub verdict_of : Model S → PatType → Box (Expr F C K) Global → Parser S H F C K fg cg kg → Verdict
  verdict_of model pat_type e p = verdict_as (context model (buffer_of p)).strict pat_type (marked_expr p e)

  abbrev pub names_of : Model S → List (ExprOrSpread (Box (Expr F C K) Global)) → Parser S H F C K fg cg kg → List Error
  names_of model xs p = names_bound (context model (buffer_of p)) (want_items (marked_items p xs))

  -- an expression becomes a pattern of the kind
  abbrev pub RefinesExpr : Model S → PatType → Box (Expr F C K) Global → Parser S H F C K fg cg kg
      → Result (Pat F C K) Error → Parser S H F C K fg cg kg → Type 0
  RefinesExpr model pat_type e p r q =
      PromisedRefinement model (is_valid (tree_by fg.place cg.place kg.place e)) (pattern_of model pat_type e p)
      (want_as pat_type (marked_expr p e)) unmarked (pat_tree F C K fg.place cg.place kg.place)
      (JudgesBy model (verdict_of model pat_type e p)) SameNodes p r q

  -- items in parentheses, with a comma after the last or none, become parameters
  abbrev pub RefinesItems : Model S → List (ExprOrSpread (Box (Expr F C K) Global)) → Option Span
      → Parser S H F C K fg cg kg → Result (Vec (Pat F C K) Global) Error → Parser S H F C K fg cg kg → Type 0
  RefinesItems model xs comma p r q =
      PromisedRefinement model (are_valid (boxed_items fg.place cg.place kg.place xs)) (params_of model xs comma p)
      (want_items (marked_items p xs)) all_unmarked
      (λ v. trees (map (pat_tree F C K fg.place cg.place kg.place) v.items))
      (JudgesParams model (params_verdict comma (marked_items p xs)) (names_of model xs p)) SameNodes p r q

  -- An expression by its number becomes a pattern of the kind. Nodes below all that is reached from it stay.
  abbrev pub RefinesNumber : Model S → PatType → ExprId → Parser S H F C K fg cg kg → Result PatId Error
      → Parser S H F C K fg cg kg → Type 0
  RefinesNumber model pat_type id p r q =
      PromisedRefinement model (is_valid (tree_at (nodes_of p) id.0))
      (pattern_as (context model (buffer_of p)).strict pat_type (tree_at (nodes_of p) id.0))
      (want_as pat_type (tree_at (nodes_of p) id.0)) (λ t. t) (pat_at (nodes_of q))
      (JudgesBy model (verdict_as (context model (buffer_of p)).strict pat_type (tree_at (nodes_of p) id.0)))
      (KeptTo (first_at (nodes_of p) id.0)) p r q

-- ---- among the nodes, before the answer is moved out of them

module _ {S H A X F C K : Type 0} {fg : Ghosts F} {cg : Ghosts C} {kg : Ghosts K} (model : Model S) (valid : Bool)
    (pattern : Option A) (becomes : A) (of : Nodes F C K fg cg kg → X → A) (parts : X → List Part) (from : ℕ) where
  -- Expressions whose nodes are from a number on were checked and made patterns of: nodes below it stay, and those from
  -- it on are for what they become.
  pub record Recast (p : Parser S H F C K fg cg kg) (x : X) (q : Parser S H F C K fg cg kg) : Type 0 where
    pub checks : ChecksWhole model valid (is_some pattern) (buffer_of p) (buffer_of q)
    pub kept : KeptTo from (nodes_of p) (nodes_of q)
    pub apart : Apart from (nodes_of q) (parts x)
    pub stands : of (nodes_of q) x ≡ becomes
    pub is : (m : A) → pattern ≡ Some m → m ≡ becomes

  pub record Unrecast (p : Parser S H F C K fg cg kg) (e : Error) (q : Parser S H F C K fg cg kg) : Type 0 where
    pub refuses : Unfitting model (is_some pattern) (buffer_of p) e (buffer_of q)
    pub kept : KeptTo from (nodes_of p) (nodes_of q)

  abbrev pub Recasts : Parser S H F C K fg cg kg → Result X Error → Parser S H F C K fg cg kg → Type 0
  Recasts p r q = MatchResult r (λ x. Recast p x q) (λ e. Unrecast p e q)
