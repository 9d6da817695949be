-- An expression that was read while its tokens were kept, and what is kept of them read again: the law of replay, in
-- its own words.
use Rattle.std.specs.Prelude.{◌≡◌, Bool, true, false, List, [], Result, Ok, IfOk, MatchResult}
use Rattle.std.specs.{declared.alloc.Global.Global, declared.boxed.Box.Box}
use Rattle.swc_context.specs.{Contexts.view, declared.context.Context.Context, declared.context.Syntax.Syntax, declared.error.Error.Error, declared.error.SyntaxError.TheVariants.OutOfMemory}
use Rattle.swc_input.specs.Buffer.{fresh, last_position, source, state_of, with_source}
use Rattle.swc_input.specs.Capturing.{capturing_model, tokens_kept, within}
use Rattle.swc_input.specs.{Kept.kept_of, Kept.one_by_one, Listed.listed_model, Source.Model, Source.Source, declared.capturing.Capturing.Capturing, declared.listed.TokensInput.TokensInput, declared.token.TokenAndSpan.TokenAndSpan}
use Rattle.swc_ast.specs.{Tree.Tree, declared.expr.Expr.Expr as ExprOf, declared.spanned.Spanned.Ghosts}
use Rattle.swc_bodies.specs.Readings.{Hook}
use Rattle.swc_bodies.specs.Slashes.{EndsBodies, are_wanted, in_order}
use Rattle.swc_grammar.specs.{Reads.Reads, Reads.ReadsUnmarked, Scope.Scope, Symbols.Expr}
use Rattle.swc_laws.specs.Replay.{Joined}
use Rattle.swc_steps.specs.Parsing.{scope_of}
use Rattle.swc_ecma_parser.specs.BothWays.{Fresh, Left, faults}
use Rattle.swc_ecma_parser.specs.Calls.{Called, SeesEnd, buffer_of, has_failed, tree_by, with_buffer}
use Rattle.swc_ecma_parser.specs.Promise.{Finished, Promised, covers_done, in_boxes}
use Rattle.swc_ecma_parser.specs.{WholeList.IsHeeded, WholeList.plain_list, declared.parser.Parser.Parser}

-- the scope in which what a source gives is read
abbrev pub scope_at : Source → Scope
scope_at s = scope_of (view s.context) s.syntax

-- the tree of a boxed expression
abbrev pub boxed : {F C K : Type 0} → Ghosts F → Ghosts C → Ghosts K → Box (ExprOf F C K) Global → Tree F C K
boxed fg cg kg e = tree_by fg.place cg.place kg.place e

module _ {H F C K : Type 0} {fg : Ghosts F} {cg : Ghosts C} {kg : Ghosts K} where
  -- The tree t was read again, with no fault recorded and no token left, or memory ran out.
  abbrev pub ReadAgain : Tree F C K → Result (Box (ExprOf F C K) Global) Error
      → Parser TokensInput H F C K fg cg kg → Type 0
  ReadAgain t again q =
      MatchResult again (λ e. (boxed fg cg kg e ≡ t) × Left q [] × (faults q ≡ [])) (λ e. e.kind ≡ OutOfMemory)

module _ {S H F C K : Type 0} {fg : Ghosts F} {cg : Ghosts C} {kg : Ghosts K} (model : Model S) where
  -- A new parser read an expression from the source s, of which nothing was kept yet, and looked for the end after it;
  -- p is the parser after both.
  pub record ReadsKeeping (sure : Bool) (hook : Hook F C K) (s : S) (read : Result (Box (ExprOf F C K) Global) Error)
      (at_end : Result Bool Error) (p : Parser (Capturing S) H F C K fg cg kg) : Type 0 where
    pub start : Parser (Capturing S) H F C K fg cg kg
    pub behind : Parser (Capturing S) H F C K fg cg kg
    pub runs : has_failed start ≡ false
    pub input : Capturing S
    pub new : buffer_of start ≡ fresh input (last_position (buffer_of start))
    pub over : within input ≡ s
    pub none_kept : tokens_kept input ≡ []
    pub call : Promised (capturing_model model) sure hook in_boxes Expr start read behind
    pub look : Called (SeesEnd (capturing_model model)) behind at_end p

  -- From p to q the tokens that its source kept were handed out, with the source's context and syntax, and it keeps
  -- none of them. The source within it stays, and so does all else of the parser.
  pub record HandsOut (tokens : List TokenAndSpan) (c : Context) (x : Syntax)
      (p q : Parser (Capturing S) H F C K fg cg kg)
      : Type 0 where
    pub taken : tokens ≡ tokens_kept (source (buffer_of p))
    pub context : c ≡ (model.state (within (source (buffer_of p)))).context
    pub syntax : x ≡ (model.state (within (source (buffer_of p)))).syntax
    pub none_left : tokens_kept (source (buffer_of q)) ≡ []
    pub stays : within (source (buffer_of q)) ≡ within (source (buffer_of p))
    pub same : q ≡ with_buffer (with_source (source (buffer_of q)) (buffer_of p)) p

module _ {H F C K : Type 0} {fg : Ghosts F} {cg : Ghosts C} {kg : Ghosts K} where
  -- A new parser read an expression from the tokens ts.
  abbrev pub ReadsKept : Bool → Hook F C K → Context → Syntax → List TokenAndSpan
      → Result (Box (ExprOf F C K) Global) Error → Parser TokensInput H F C K fg cg kg → Type 0
  ReadsKept sure hook c x ts read q = Fresh (λ a b. Promised listed_model sure hook in_boxes Expr a read b) c x ts q

-- An expression was read from the source s while its tokens were kept, and these were handed out: p is the parser after
-- both. A new parser read them again, in the source's context and syntax, and is q after that. Whether the hook is
-- faithful is said of each source.
pub record ReadsTwice {S H F C K : Type 0} {fg : Ghosts F} {cg : Ghosts C} {kg : Ghosts K} (model : Model S)
    (sure_first sure_again : Bool) (hook : Hook F C K) (s : S) (first : Result (Box (ExprOf F C K) Global) Error)
    (at_end : Result Bool Error) (p : Parser (Capturing S) H F C K fg cg kg)
    (again : Result (Box (ExprOf F C K) Global) Error) (q : Parser TokensInput H F C K fg cg kg) : Type 0 where
  pub keeping : Parser (Capturing S) H F C K fg cg kg
  pub tokens : List TokenAndSpan
  pub context : Context
  pub syntax : Syntax
  pub reads : ReadsKeeping model sure_first hook s first at_end keeping
  pub hands_out : HandsOut model tokens context syntax keeping p
  pub reads_again : ReadsKept sure_again hook context syntax (plain_list tokens) again q

module _ {S H F C K : Type 0} {fg : Ghosts F} {cg : Ghosts C} {kg : Ghosts K} (model : Model S) (sure : Bool)
    (hook : Hook F C K) (s : S) where
  -- An expression with the tree t was read cleanly of all that the source s gives: p is the parser that read it. What
  -- is kept of that was read again, by a parser that is q after it.
  pub record Replayed (t : Tree F C K) (p : Parser (Capturing S) H F C K fg cg kg)
      (again : Result (Box (ExprOf F C K) Global) Error) (q : Parser TokensInput H F C K fg cg kg) : Type 0 where
    -- the tokens that the source gave, up to its end
    pub consumed : List TokenAndSpan
    pub gave : model.gives s consumed (within (source (buffer_of p)))
    pub ended : (model.state (within (source (buffer_of p)))).ended ≡ true
    -- The grammar derives the tree from them, and it is finished.
    pub derived : Finished covers_done (ReadsUnmarked hook Expr) (scope_at (model.state s)) consumed [] t
    -- What is kept of them is what was read again, by a new parser in the same context.
    pub kept : ReadsKept sure hook (model.state s).context (model.state s).syntax (kept_of consumed) again q
    -- The same tree was read again, with a faithful hook, where each token begins where the one before it ends, or
    -- after: then all are kept.
    pub all_kept : sure ≡ true → one_by_one consumed → ReadAgain t again q
    -- So it was where they are in the order of the text, and a derivation of all of them takes no slash by itself at
    -- which a regular expression was found,
    pub joined : sure ≡ true → in_order consumed ≡ true → {m : Tree F C K}
        → (d : Reads hook Expr (scope_at (model.state s)) consumed [] m) → Joined d → ReadAgain t again q
    -- or the tokens themselves show that: an operand is wanted wherever such a slash is. What the hook reads has to
    -- end with a token with which expressions end.
    pub wanted : sure ≡ true → in_order consumed ≡ true → EndsBodies hook → are_wanted consumed ≡ true
        → ReadAgain t again q

  -- What is read cleanly of all tokens up to the end, while they are kept, is read again of what is kept of them.
  -- Faults have to be recorded at all.
  abbrev pub ReplayLaw : Result (Box (ExprOf F C K) Global) Error → Result Bool Error
      → Parser (Capturing S) H F C K fg cg kg → Result (Box (ExprOf F C K) Global) Error
      → Parser TokensInput H F C K fg cg kg → Type 0
  ReplayLaw first at_end p again q =
      IsHeeded (model.state s).context (model.state s).syntax → IfOk first (λ e. at_end ≡ Ok true
      → (state_of (capturing_model model) (buffer_of p)).errors ≡ (model.state s).errors
      → Replayed (boxed fg cg kg e) p again q)
