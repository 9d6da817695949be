-- A list in parentheses, read as the parameters of an arrow function by way of expressions (ECMA-262, 15.3), and after
-- its parenthesis as formal parameters (15.1): the law of the cover grammar and its converse, in their own words.
use Rattle.std.specs.Prelude.{◌≡◌, Bool, true, false, List, [], ◌∷◌, map, Result, IfOk, MatchResult}
use Rattle.std.specs.{declared.alloc.Global.Global, declared.vec.Vec.Vec}
use Rattle.swc_context.specs.{Contexts.view, declared.context.Context.Context, declared.context.Syntax.Syntax, declared.error.Error.Error, declared.error.SyntaxError.TheVariants.OutOfMemory}
use Rattle.swc_input.specs.{Buffer.Known, Buffer.source, Kinds.at_token, Listed.listed_model, Listed.listed_state, declared.listed.TokensInput.TokensInput, declared.token.TokenAndSpan.TokenAndSpan}
use Rattle.swc_ast.specs.Tree.{Trees, erase_all, trees}
use Rattle.swc_ast.specs.{TreeOf.pat_tree, declared.function.Param.Param, declared.pat.Pat.Pat, declared.spanned.Spanned.Ghosts}
use Rattle.swc_bodies.specs.Readings.{Hook}
use Rattle.swc_grammar.specs.{Clean.first, Patterns.all_bind_names, Symbols.ArrowParams, Tokens.is_lparen, Tokens.is_rparen}
use Rattle.swc_laws.specs.Bound.{Spelled, is_free_name, is_kept_name}
use Rattle.swc_input.specs.Calls.{Loud}
use Rattle.swc_steps.specs.Parsing.{scope, scope_of}
use Rattle.swc_ecma_parser.specs.Promise.{Promised, PromisedParams, arrow_params_in_boxes, params_in_boxes, pats_of}
use Rattle.swc_ecma_parser.specs.{Calls.buffer_of, Calls.has_failed, WholeList.IsHeeded, declared.parser.Parser.Parser}

module _ {F C K : Type 0} where
  -- patterns in boxes, and those of parameters
  abbrev pub patterns : Ghosts F → Ghosts C → Ghosts K → Vec (Pat F C K) Global → Trees F C K
  patterns fg cg kg v = trees (map (pat_tree F C K fg.place cg.place kg.place) v.items)

  abbrev pub param_patterns : Ghosts F → Ghosts C → Ghosts K → Vec (Param (Pat F C K)) Global → Trees F C K
  param_patterns fg cg kg w = pats_of fg.place cg.place kg.place w

  -- the same patterns, but for places
  abbrev pub Same : Ghosts F → Ghosts C → Ghosts K → Vec (Pat F C K) Global → Vec (Param (Pat F C K)) Global → Type 0
  Same fg cg kg v w = erase_all (patterns fg cg kg v) ≡ erase_all (param_patterns fg cg kg w)

module _ {H F C K : Type 0} {fg : Ghosts F} {cg : Ghosts C} {kg : Ghosts K} where
  -- the tokens to come
  abbrev pub Left : Parser TokensInput H F C K fg cg kg → List TokenAndSpan → Type 0
  Left p ys = Known listed_model (buffer_of p) ys

  -- the faults that were recorded
  abbrev pub faults : Parser TokensInput H F C K fg cg kg → List Error
  faults p = (listed_state (source (buffer_of p))).errors

  -- A new parser over the tokens ts, in the context c and by the syntax x, made the call P, and is q after it.
  pub record Fresh (P : Parser TokensInput H F C K fg cg kg → Parser TokensInput H F C K fg cg kg → Type 0)
      (c : Context) (x : Syntax) (ts : List TokenAndSpan) (q : Parser TokensInput H F C K fg cg kg) : Type 0 where
    pub start : Parser TokensInput H F C K fg cg kg
    pub runs : has_failed start ≡ false
    pub left : Left start ts
    pub clean : faults start ≡ []
    pub loud : IsHeeded c x → Loud listed_model (buffer_of start)
    pub stands : scope listed_model (buffer_of start) ≡ scope_of (view c) x
    pub call : P start q

  -- A new parser read the tokens ts as the parameters of an arrow function, and as formal parameters.
  abbrev pub ReadsArrow : Bool → Hook F C K → Context → Syntax → List TokenAndSpan
      → Result (Vec (Pat F C K) Global) Error → Parser TokensInput H F C K fg cg kg → Type 0
  ReadsArrow sure hook c x ts read q =
      Fresh (λ a b. Promised listed_model sure hook arrow_params_in_boxes ArrowParams a read b) c x ts q

  abbrev pub ReadsFormal : Bool → Hook F C K → Context → Syntax → List TokenAndSpan
      → Result (Vec (Param (Pat F C K)) Global) Error → Parser TokensInput H F C K fg cg kg → Type 0
  ReadsFormal sure hook c x ts read q =
      Fresh (λ a b. PromisedParams listed_model sure hook params_in_boxes a read b) c x ts q

  -- a `)` comes next, and after it the tokens ys
  pub record StandsBefore (q : Parser TokensInput H F C K fg cg kg) (ys : List TokenAndSpan) : Type 0 where
    pub close : TokenAndSpan
    pub is : is_rparen close.token ≡ true
    pub left : Left q (close ∷ ys)

  -- What is read cleanly as the parameters of an arrow function is read cleanly as formal parameters, which are the
  -- same patterns, up to the same place, or memory ran out.
  abbrev pub CoverLaw : Bool → Context → Syntax → List TokenAndSpan
      → Result (Vec (Pat F C K) Global) Error → Parser TokensInput H F C K fg cg kg
      → Result (Vec (Param (Pat F C K)) Global) Error → Parser TokensInput H F C K fg cg kg → Type 0
  CoverLaw sure c x ts arrow p formal q =
      IsHeeded c x → sure ≡ true → (c.module ≡ true → c.strict ≡ true) → Spelled ts
      → IfOk arrow (λ v. faults p ≡ [] → all_bind_names (is_kept_name c) (patterns fg cg kg v) ≡ true
      → (ys : List TokenAndSpan) → Left p ys
      → MatchResult formal (λ w. Same fg cg kg v w × StandsBefore q ys × (faults q ≡ [])) (λ e. e.kind ≡ OutOfMemory))

  -- What is read cleanly as formal parameters, up to a `)` and after a `(`, and binds free names, is read cleanly as
  -- the parameters of an arrow function, which are the same patterns, or memory ran out.
  abbrev pub ConverseLaw : Bool → Context → Syntax → List TokenAndSpan
      → Result (Vec (Pat F C K) Global) Error → Parser TokensInput H F C K fg cg kg
      → Result (Vec (Param (Pat F C K)) Global) Error → Parser TokensInput H F C K fg cg kg → Type 0
  ConverseLaw sure c x ts arrow p formal q =
      IsHeeded c x → sure ≡ true → at_token is_lparen (first ts) ≡ true
      → IfOk formal (λ w. faults q ≡ [] → all_bind_names is_free_name (param_patterns fg cg kg w) ≡ true
      → (ys : List TokenAndSpan) → StandsBefore q ys
      → MatchResult arrow (λ v. Same fg cg kg v w × Left p ys × (faults p ≡ [])) (λ e. e.kind ≡ OutOfMemory))
