-- What the call promises that looks for names with values left over in a finished expression (ECMA-262, 13.2.5.1).
use Rattle.std.specs.Prelude.{◌≡◌, true, false, List, Result, Err, IfOk, OnOk, MatchResult}
use Rattle.std.specs.{declared.alloc.Global.Global, declared.boxed.Box.Box}
use Rattle.swc_context.specs.declared.error.Error.{Error}
use Rattle.swc_input.specs.Buffer.{Known, current, previous, state_of}
use Rattle.swc_input.specs.{Recording.is_fit, Recording.is_silent, Source.Model, declared.buffer.Buffer.Buffer, declared.token.TokenAndSpan.TokenAndSpan, Recordings.RecordsAll}
use Rattle.swc_ast.specs.{Tree.Tree, declared.expr.Expr.Expr, declared.spanned.Spanned.Ghosts}
use Rattle.swc_nodes.specs.GrowingNodes.{count, Made, SameNodes}
use Rattle.swc_nodes.specs.{NodeParts.expr_part, declared.node.ExprId.ExprId}
use Rattle.swc_ecma_parser.specs.{CoverNames.cover_names, declared.parser.Parser.Parser}
use Rattle.swc_ecma_parser.specs.Faults.{cover_faults, begins_fit, Appends}
use Rattle.swc_input.specs.Calls.{Forgoes, Leads, Loud, Tries}
use Rattle.swc_ecma_parser.specs.Calls.{buffer_of, nodes_of, commas_of, has_failed, bound_of, met_bound, parser_failed, tree_by, wants_memory}

-- What is promised of a call that is given the tree of an expression, from the parser p to q, where it answers r.
pub record PromisedVerification {S H T F C K : Type 0} {fg : Ghosts F} {cg : Ghosts C} {kg : Ghosts K}
    (model : Model S) (given : Tree F C K) (view : T → Tree F C K)
    (p : Parser S H F C K fg cg kg) (r : Result T Error) (q : Parser S H F C K fg cg kg) : Type 0 where
  -- A parser that ran out of memory does nothing, and refuses as `ParserFailed` at the token consumed last.
  pub again : has_failed p ≡ true → (q ≡ p) × (r ≡ Err (parser_failed (previous (buffer_of p))))
  -- Any other refuses only when out of memory: what was consumed isn't lost; the context is what it was, no recorded
  -- fault was taken out, and no `OutOfMemory` recorded.
  pub acts : has_failed p ≡ false → Tries model (buffer_of p) r (buffer_of q)
  -- what is answered is what was given, with all its places
  pub tree : IfOk r (λ x. view x ≡ given)
  -- Where faults are recorded: those of the names that are left over, in their order, and no others; but for the errors
  -- of error tokens that are current, which are consumed.
  pub records : has_failed p ≡ false → Loud model (buffer_of p)
      → OnOk r (RecordsAll model (cover_faults (cover_names given)) (buffer_of p) (buffer_of q))
  -- Where a token is current that holds no error, and where the first one to come of a listed source holds none, or
  -- none is to come: those faults alone, and nothing is consumed.
  pub current : has_failed p ≡ false → Loud model (buffer_of p) → is_fit (current (buffer_of p)) ≡ true
      → OnOk r (Appends model (cover_faults (cover_names given)) (buffer_of p) (buffer_of q))
  pub listed : has_failed p ≡ false → Loud model (buffer_of p) → (ts : List TokenAndSpan) → Known model (buffer_of p) ts
      → begins_fit ts ≡ true → OnOk r (Appends model (cover_faults (cover_names given)) (buffer_of p) (buffer_of q))
  -- where faults aren't recorded, nothing is done
  pub silent : has_failed p ≡ false → is_silent (state_of model (buffer_of p)) ≡ true
      → OnOk r (buffer_of q ≡ buffer_of p)
  -- what is remembered of commas stays
  pub commas : commas_of q ≡ commas_of p
  -- the nodes are what they were
  pub nodes : SameNodes (nodes_of p) (nodes_of q)
  -- it has failed from now on where it refuses when out of memory, and only there
  pub fails : has_failed p ≡ false → has_failed q ≡ wants_memory r
  -- the bound on nesting stays; and it was met only where the call refuses when out of memory
  pub bound : bound_of q ≡ bound_of p
  pub shallow : has_failed p ≡ false → wants_memory r ≡ false → met_bound q ≡ false

module _ {S H F C K : Type 0} {fg : Ghosts F} {cg : Ghosts C} {kg : Ghosts K} where
  -- the names that are left over in an expression in a box are recorded, and the expression answered
  abbrev pub VerifiesExpr : Model S → Box (Expr F C K) Global → Parser S H F C K fg cg kg
      → Result (Box (Expr F C K) Global) Error → Parser S H F C K fg cg kg → Type 0
  VerifiesExpr model e p r q =
      PromisedVerification model (tree_by fg.place cg.place kg.place e) (tree_by fg.place cg.place kg.place) p r q

-- ---- among the nodes, before the answer is moved out of them

module _ {S : Type 0} (model : Model S) (es : List Error) where
  -- from b to c the faults were recorded, where any are
  pub record RecordsFaults (b c : Buffer S) : Type 0 where
    pub leads : Leads model b c
    pub records : Loud model b → RecordsAll model es b c
    pub current : Loud model b → is_fit (current b) ≡ true → Appends model es b c
    pub listed : Loud model b → (ts : List TokenAndSpan) → Known model b ts → begins_fit ts ≡ true
        → Appends model es b c
    pub silent : is_silent (state_of model b) ≡ true → c ≡ b

  -- the same, or memory ran out
  abbrev pub TriesFaults : {T : Type 0} → Buffer S → Result T Error → Buffer S → Type 0
  TriesFaults b r c = MatchResult r (λ x. RecordsFaults b c) (λ e. Forgoes model b e c)

module _ {S H F C K : Type 0} {fg : Ghosts F} {cg : Ghosts C} {kg : Ghosts K} (model : Model S) (t : Tree F C K) where
  -- An expression was put after all nodes, and the names left over in it were recorded; or memory ran out.
  abbrev pub LooksThrough : Parser S H F C K fg cg kg → Result ExprId Error → Parser S H F C K fg cg kg → Type 0
  LooksThrough p r q =
      TriesFaults model (cover_faults (cover_names t)) (buffer_of p) r (buffer_of q)
      × IfOk r (λ id. Made (count (nodes_of p)) (nodes_of q) (expr_part id) t)
