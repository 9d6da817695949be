-- Heads of `for` that begin with no declaration (ECMA-262, 14.7.4 and 14.7.5): as they are read, among the nodes and in
-- boxes, and what the calls promise of them.
use Rattle.std.specs.Prelude.{◌≡◌, ◌≢◌, ◌||◌, ℕ, Bool, true, false, List, ◌++◌, Result, Err, IfOk, MatchResult}
use Rattle.std.specs.{declared.alloc.Global.Global, declared.boxed.Box.Box}
use Rattle.swc_context.specs.{declared.context.Context.Context, declared.error.Error.Error, declared.error.SyntaxError.TheVariants.OutOfMemory, declared.span.Span.Span}
use Rattle.swc_input.specs.Buffer.{Read, Future, Known, previous}
use Rattle.swc_input.specs.{declared.buffer.Buffer.Buffer, declared.token.Token.Token, declared.token.TokenAndSpan.TokenAndSpan, Source.Model, Kinds.at_token}
use Rattle.swc_ast.specs.Tree.{Tree, node, nil, cons, args, pat_expr, no_span}
use Rattle.swc_ast.specs.Trees.{is_grouped, is_valid, unmarked}
use Rattle.swc_ast.specs.{Pedantic.privates_ok, TreeOf.boxed_tree, TreeOf.pat_tree, declared.expr.Expr.Expr as ExprOf, declared.for_head.ForHead.ForHead as HeadOf, declared.for_head.ForHead.ForHead as boxed, declared.spanned.Spanned.Ghosts}
use Rattle.swc_bodies.specs.Readings.{Hook}
use Rattle.swc_grammar.specs.Clean.{Out, sym, run}
use Rattle.swc_grammar.specs.ForHead.{ForHead, for_target, for_expr, for_context, in_for, in_own_for, is_for_target, is_in, ReadsHead, ReadsHeadUnmarked, HeadStops, head_tree, next, unmarked_head}
use Rattle.swc_grammar.specs.{Arrows.is_of, Reads.Reads, Reads.ReadsUnmarked, Scope.Scope, Symbols.Symbol, Symbols.Expr}
use Rattle.swc_nodes.specs.GrowingNodes.{tree_at, Apart, SameNodes}
use Rattle.swc_nodes.specs.{Commas.commas_in, Commas.Recalls, NodeParts.for_head_parts, declared.commas.TrailingCommas.TrailingCommas, declared.node.ForHeadId.ForHeadId, declared.node.ForHeadId.ForHeadId as number, declared.nodes.Nodes.Nodes}
use Rattle.swc_input.specs.Calls.{Loud}
use Rattle.swc_steps.specs.Parsing.{scope, seen, Consumes}
use Rattle.swc_ecma_parser.specs.Calls.{buffer_of, nodes_of, commas_of, tree_by, has_failed, bound_of, met_bound, wants_memory, parser_failed}
use Rattle.swc_ecma_parser.specs.Promise.{Answer, AddsParts, Complete, Derivation, Finished, Promised, Unmarred, covers_done}
use Rattle.swc_ecma_parser.specs.declared.parser.Parser.{Parser}

-- the words that come after what is written to
abbrev pub is_each_word : Token → Bool
is_each_word t = is_of t || is_in t

-- the context in a head by what it is before it, which says whether the head is one of `for await`
abbrev pub own_for_context : Context → Context
own_for_context c = for_context c.expr_ctx.for_await_loop_init c

-- ---- readings

module _ {F C K : Type 0} (hook : Hook F C K) where
  -- the expression in a head
  abbrev pub head_expr : Bool → Scope → List TokenAndSpan → Out (Tree F C K)
  head_expr is_await c ts = run hook (sym Expr) (in_for is_await c) ts

  abbrev pub own_head_expr : Scope → List TokenAndSpan → Out (Tree F C K)
  own_head_expr c ts = run hook (sym Expr) (in_own_for c) ts

-- ---- heads by number, and in boxes

module _ {F C K : Type 0} where
  abbrev pub head_by : (ℕ → Tree F C K) → ForHeadId → ForHead F C K
  head_by at (number.Target p) = for_target (at p.0)
  head_by at (number.Expr e) = for_expr (at e.0)

  abbrev pub boxed_head : (F → Span) → (C → Span) → (K → Span) → HeadOf F C K → ForHead F C K
  boxed_head fun class block (boxed.Target p) = for_target (pat_tree F C K fun class block p.value)
  boxed_head fun class block (boxed.Expr e) = for_expr (boxed_tree F C K fun class block e)

  -- Is no cover name left in a head, if the syntax is pedantic?
  abbrev pub head_done : Scope → ForHead F C K → Bool
  head_done c h = covers_done c (head_tree h)

  -- a head as one tree, whose kind says which of the two it is
  abbrev pub coded : ForHead F C K → Tree F C K
  coded (for_target p) = node pat_expr no_span (cons p nil)
  coded (for_expr e) = node args no_span (cons e nil)

abbrev pub is_target_id : ForHeadId → Bool
is_target_id (number.Target p) = true
is_target_id (number.Expr e) = false

module _ {F C K : Type 0} {fg : Ghosts F} {cg : Ghosts C} {kg : Ghosts K} where
  -- what a head holds of numbers, and what it stands for among the nodes
  abbrev pub for_head_of : ℕ → Nodes F C K fg cg kg → ForHeadId → Type 0
  for_head_of k ns h = Apart k ns (for_head_parts h)

  abbrev pub for_head_at : Nodes F C K fg cg kg → ForHeadId → ForHead F C K
  for_head_at ns h = head_by (tree_at ns) h

-- ---- the promise

-- What a head begins with, as an expression in boxes: derived where `in` is no operator, and `async` before `of` is, in
-- the head of a `for await`, an identifier.
abbrev pub ReadsPrefix : {F C K : Type 0} → Hook F C K → Symbol → Derivation (Tree F C K)
ReadsPrefix hook s = Finished covers_done (λ c xs ys t. ReadsUnmarked hook s (in_own_for c) xs ys t)

abbrev pub prefix_in_boxes : {F C K : Type 0} {fg : Ghosts F} {cg : Ghosts C} {kg : Ghosts K}
    → Answer (Box (ExprOf F C K) Global) F C K fg cg kg
prefix_in_boxes {fg = fg} {cg = cg} {kg = kg} = record {
  tree = λ ns e. tree_by fg.place cg.place kg.place e;
  derives = ReadsPrefix;
  marked = λ hook s c xs ys t. Reads hook s (in_own_for c) xs ys t;
  strip = unmarked;
  leaves = λ ns r ms. SameNodes ns ms;
}

-- What a call promises that reads such an expression, from the parser p to q, where it answers r: as any other
-- expression is promised, and over a listed source, with a faithful hook, also one that is derived up to `of` or `in`
-- is answered.
pub record PromisedPrefix {S H F C K : Type 0} {fg : Ghosts F} {cg : Ghosts C} {kg : Ghosts K} (model : Model S)
    (sure : Bool) (hook : Hook F C K)
    (p : Parser S H F C K fg cg kg) (r : Result (Box (ExprOf F C K) Global) Error)
    (q : Parser S H F C K fg cg kg) : Type 0 where
  pub promised : Promised model sure hook prefix_in_boxes Expr p r q
  pub words : has_failed p ≡ false → sure ≡ true
      → Complete model (ReadsPrefix hook Expr) (tree_by fg.place cg.place kg.place) HeadStops (buffer_of p) r
      (buffer_of q)

module _ {S F C K : Type 0} (model : Model S) (derives : Derivation (ForHead F C K)) where
  -- Between b and c tokens were consumed from which the head is derived: with whatever may follow, and with the next
  -- token of that alone, by which it is told which of the two it is.
  pub record DerivesHead (h : ForHead F C K) (b c : Buffer S) : Type 0 where
    pub consumed : List TokenAndSpan
    pub read : Read model b consumed c
    pub front : (ys : List TokenAndSpan) → Future model c ys → derives (scope model b) (consumed ++ ys) ys h
    pub alone : (ys : List TokenAndSpan) → Future model c ys → derives (scope model b) (consumed ++ next ys) (next ys) h

-- How a call answers a head: which head an answer stands for, by the nodes that the parser then has; what derives such
-- heads, finished; what is left in them of a head with its marks of commas; and what becomes of the nodes.
pub record HeadAnswer (T F C K : Type 0) (fg : Ghosts F) (cg : Ghosts C) (kg : Ghosts K) : Type 1 where
  pub head : Nodes F C K fg cg kg → T → ForHead F C K
  pub derives : Hook F C K → Bool → Derivation (ForHead F C K)
  pub strip : ForHead F C K → ForHead F C K
  pub leaves : Nodes F C K fg cg kg → Result T Error → Nodes F C K fg cg kg → Type 0

abbrev pub head_in_boxes : {F C K : Type 0} {fg : Ghosts F} {cg : Ghosts C} {kg : Ghosts K}
    → HeadAnswer (HeadOf F C K) F C K fg cg kg
head_in_boxes {fg = fg} {cg = cg} {kg = kg} = record {
  head = λ ns h. boxed_head fg.place cg.place kg.place h;
  derives = λ hook is_await. Finished head_done (ReadsHeadUnmarked hook is_await);
  strip = λ h. unmarked_head h;
  leaves = λ ns r ms. SameNodes ns ms;
}

abbrev pub head_by_number : {F C K : Type 0} {fg : Ghosts F} {cg : Ghosts C} {kg : Ghosts K}
    → HeadAnswer ForHeadId F C K fg cg kg
head_by_number = record {
  head = λ ns h. for_head_at ns h;
  derives = λ hook is_await. Finished head_done (ReadsHead hook is_await);
  strip = λ h. h;
  leaves = AddsParts for_head_parts;
}

module _ {S F C K : Type 0} (model : Model S) (hook : Hook F C K) (is_await : Bool)
    (strip : ForHead F C K → ForHead F C K) where
  -- Between b and c the commas of literals were remembered, one after another, and no other: of those of a head that
  -- has its marks, of which `strip` leaves h. Where faults are recorded at all, and none was, it is derived from the
  -- tokens consumed.
  pub record RemembersHead (h : ForHead F C K) (b c : Buffer S) (old new : TrailingCommas) : Type 0 where
    pub marked : ForHead F C K
    pub same : strip marked ≡ h
    pub derived : Loud model b → Unmarred model b c → DerivesHead model (ReadsHead hook is_await) marked b c
    pub recalls : Recalls (commas_in (head_tree marked)) old new

-- What is promised of the reading of a head of a `for`, or of a `for await`, from b to c, where it answers r. The token
-- after the head stays.
pub record HeadPromise {S T F C K : Type 0} (model : Model S) (sure : Bool) (derives : Derivation (ForHead F C K))
    (view : T → ForHead F C K)
    (b : Buffer S) (r : Result T Error) (c : Buffer S) : Type 0 where
  -- One token at least was consumed, or it refuses, and what was consumed isn't lost; the context is what it was, no
  -- recorded fault was taken out, and no `OutOfMemory` recorded.
  pub reads : Consumes model b r c
  -- It is a target where `of` or `in` comes next, and an expression elsewhere: faults or not, but where the syntax is
  -- pedantic if no fault was recorded.
  pub which : IfOk r (λ h. ((scope model b).syntax.pedantic ≡ true → Unmarred model b c)
      → is_for_target (view h) ≡ at_token is_each_word (seen c))
  -- What is answered with no fault recorded is derived from the tokens consumed, by the token that follows.
  pub sound : Loud model b → IfOk r (λ h. Unmarred model b c → DerivesHead model derives (view h) b c)
  -- Over a listed source, with a faithful hook: what is derived from the tokens to come, up to the end, `of`, `in`, `;`
  -- or `)`, is answered, with no fault recorded, and what follows it is left; or the answer is out of memory.
  pub complete : sure ≡ true → Complete model derives view HeadStops b r c
  -- No other head is derived up to such a token, nor up to another one of these than what was answered.
  pub one_head : sure ≡ true → Loud model b → (ts ys : List TokenAndSpan) (h : ForHead F C K) → Known model b ts
      → derives (scope model b) ts ys h → HeadStops ys → IfOk r (λ x. (h ≡ view x) × Known model c ys)
  -- In what was answered with no fault recorded operators group as their levels say, it holds no `Invalid`, and private
  -- names are where they may if the syntax is pedantic.
  pub grouped : Loud model b → IfOk r (λ h. Unmarred model b c → is_grouped (head_tree (view h)) ≡ true)
  pub valid : Loud model b → IfOk r (λ h. Unmarred model b c → is_valid (head_tree (view h)) ≡ true)
  pub privates : Loud model b → (scope model b).syntax.pedantic ≡ true
      → IfOk r (λ h. Unmarred model b c → privates_ok false (head_tree (view h)) ≡ true)

-- What a call promises that reads a head, from the parser p to q, where it answers r.
pub record PromisedHead {S H T F C K : Type 0} {fg : Ghosts F} {cg : Ghosts C} {kg : Ghosts K} (model : Model S)
    (sure : Bool) (hook : Hook F C K)
    (answer : HeadAnswer T F C K fg cg kg) (is_await : Bool) (p : Parser S H F C K fg cg kg) (r : Result T Error)
    (q : Parser S H F C K fg cg kg) : Type 0 where
  -- A parser that ran out of memory does nothing, and refuses as `ParserFailed` at the token consumed last.
  pub again : has_failed p ≡ true → (q ≡ p) × (r ≡ Err (parser_failed (previous (buffer_of p))))
  -- any other reads the head
  pub promise : has_failed p ≡ false
      → HeadPromise model sure (answer.derives hook is_await) (answer.head (nodes_of q)) (buffer_of p) r (buffer_of q)
  -- The commas of the answer's literals were remembered; what is refused but when out of memory leaves what there was.
  pub commas : MatchResult r
      (λ h. RemembersHead model hook is_await answer.strip (answer.head (nodes_of q) h) (buffer_of p) (buffer_of q)
      (commas_of p) (commas_of q))
      (λ e. e.kind ≢ OutOfMemory → commas_of q ≡ commas_of p)
  -- what becomes of the nodes
  pub nodes : answer.leaves (nodes_of p) r (nodes_of q)
  -- it has failed from now on where it refuses when out of memory, and only there
  pub fails : has_failed p ≡ false → has_failed q ≡ wants_memory r
  -- the bound on nesting stays; and it was met only where the call refuses when out of memory
  pub bound : bound_of q ≡ bound_of p
  pub shallow : has_failed p ≡ false → wants_memory r ≡ false → met_bound q ≡ false
