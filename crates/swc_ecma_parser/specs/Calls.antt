-- What the calls of a parser do.
use Rattle.std.specs.Prelude.{◌≡◌, ◌||◌, ℕ, List, map, Bool, true, false, None, IsSome, Option, Result, Ok, Err, IfOk, IfErr, OnOk, MatchResult}
use Rattle.std.specs.{declared.alloc.Global.Global, declared.boxed.Box.Box, declared.vec.Vec.Vec}
use Rattle.swc_context.specs.{declared.error.Error.Error, declared.error.SyntaxError.TheVariants.ParserFailed, declared.span.BytePos.BytePos, declared.span.Span.Span}
use Rattle.swc_input.specs.Buffer.{ReadSome, Looked, current, last_position, previous, state_of}
use Rattle.swc_input.specs.{declared.buffer.Buffer.Buffer, Source.Model, Recording.no_memory, Recordings.Judges}
use Rattle.swc_ast.specs.Tree.{Tree, object, node, trees, args, no_span}
use Rattle.swc_ast.specs.TreeOf.{boxed_tree, pat_tree, pat_prop_tree, prop_or_spread_tree}
use Rattle.swc_ast.specs.{Parts.param_tree, declared.expr.Expr.Expr, declared.function.Param.Param, declared.pat.ObjectPatProp.ObjectPatProp, declared.pat.Pat.Pat, declared.prop.PropOrSpread.PropOrSpread, declared.spanned.Spanned.Ghosts}
use Rattle.swc_nodes.specs.Commas.{Remembers, Recalls, part_commas}
use Rattle.swc_nodes.specs.{NodeParts.Part, declared.commas.TrailingCommas.TrailingCommas, declared.nodes.Nodes.Nodes, GrowingNodes.tree_at, GrowingNodes.bare_at}
use Rattle.swc_patterns.specs.{Objects.rests_checked, Objects.props_stage, RestFaults.rests_faults, RestFaults.rests_refused}
use Rattle.swc_input.specs.Calls.{Looks}
use Rattle.swc_steps.specs.Parsing.{is_memory, ContinuesAlone}
use Rattle.swc_ecma_parser.specs.declared.parser.Parser.{Parser}

-- the buffer that a parser reads from
abbrev pub buffer_of : {S H F C K : Type 0} {fg : Ghosts F} {cg : Ghosts C} {kg : Ghosts K} → Parser S H F C K fg cg kg
    → Buffer S
buffer_of p = p.productions.input

abbrev pub with_buffer : {S H F C K : Type 0} {fg : Ghosts F} {cg : Ghosts C} {kg : Ghosts K} → Buffer S
    → Parser S H F C K fg cg kg → Parser S H F C K fg cg kg
with_buffer b p = record p { productions = record p.productions { input = b } }

-- its hook
abbrev pub hook_of : {S H F C K : Type 0} {fg : Ghosts F} {cg : Ghosts C} {kg : Ghosts K}
    → Parser S H F C K fg cg kg → H
hook_of p = p.productions.bodies

abbrev pub with_hook : {S H F C K : Type 0} {fg : Ghosts F} {cg : Ghosts C} {kg : Ghosts K} → H
    → Parser S H F C K fg cg kg → Parser S H F C K fg cg kg
with_hook h p = record p { productions = record p.productions { bodies = h } }

-- the nodes of what was read by number
abbrev pub nodes_of : {S H F C K : Type 0} {fg : Ghosts F} {cg : Ghosts C} {kg : Ghosts K} → Parser S H F C K fg cg kg
    → Nodes F C K fg cg kg
nodes_of p = p.productions.nodes

abbrev pub with_nodes : {S H F C K : Type 0} {fg : Ghosts F} {cg : Ghosts C} {kg : Ghosts K} → Nodes F C K fg cg kg
    → Parser S H F C K fg cg kg → Parser S H F C K fg cg kg
with_nodes ns p = record p { productions = record p.productions { nodes = ns } }

-- where commas are after the last parts of literals, as far as it is remembered
abbrev pub commas_of : {S H F C K : Type 0} {fg : Ghosts F} {cg : Ghosts C} {kg : Ghosts K} → Parser S H F C K fg cg kg
    → TrailingCommas
commas_of p = p.commas

-- whether `import` and a `.` were read
abbrev pub found_import : {S H F C K : Type 0} {fg : Ghosts F} {cg : Ghosts C} {kg : Ghosts K}
    → Parser S H F C K fg cg kg → Bool
found_import p = p.productions.found_module_item

-- the tree that a boxed expression stands for, where the hook's values lie at the places given
abbrev pub tree_by : {F C K : Type 0} → (F → Span) → (C → Span) → (K → Span) → Box (Expr F C K) Global → Tree F C K
tree_by {F} {C} {K} fun class block e = boxed_tree F C K fun class block e

-- parameters, each the node of its pattern
abbrev pub params_tree : {F C K X : Type 0} → (X → Tree F C K) → Vec (Param X) Global → Tree F C K
params_tree at ps = node args no_span (trees (map (param_tree at) ps.items))

-- patterns one after another
abbrev pub pats_tree : {F C K X : Type 0} → (X → Tree F C K) → Vec X Global → Tree F C K
pats_tree at ps = node args no_span (trees (map at ps.items))

-- a call ran out of memory
abbrev pub has_failed : {S H F C K : Type 0} {fg : Ghosts F} {cg : Ghosts C} {kg : Ghosts K}
    → Parser S H F C K fg cg kg → Bool
has_failed p = p.failed

-- how many levels may be nested in what a call reads
abbrev pub bound_of : {S H F C K : Type 0} {fg : Ghosts F} {cg : Ghosts C} {kg : Ghosts K}
    → Parser S H F C K fg cg kg → ℕ
bound_of p = p.room

-- a call was refused because what it read is nested more deeply
abbrev pub met_bound : {S H F C K : Type 0} {fg : Ghosts F} {cg : Ghosts C} {kg : Ghosts K}
    → Parser S H F C K fg cg kg → Bool
met_bound p = p.productions.too_deep

-- whether it has failed, and its bound: what the steps of a call leave as they are
abbrev pub standing : {S H F C K : Type 0} {fg : Ghosts F} {cg : Ghosts C} {kg : Ghosts K}
    → Parser S H F C K fg cg kg → Bool × ℕ
standing p = (has_failed p, bound_of p)

-- with another bound
abbrev pub with_bound : {S H F C K : Type 0} {fg : Ghosts F} {cg : Ghosts C} {kg : Ghosts K} → ℕ
    → Parser S H F C K fg cg kg → Parser S H F C K fg cg kg
with_bound n p = record p { room = n }

-- the answer is out of memory
abbrev pub wants_memory : {T : Type 0} → Result T Error → Bool
wants_memory (Ok t) = false
wants_memory (Err e) = is_memory e.kind

-- How a call ends that answers a: the parser has failed if it had before, or is out of memory, and keeps its bound. Where
-- it isn't out of memory, nothing was nested too deeply.
pub record Ends {S H F C K T : Type 0} {fg : Ghosts F} {cg : Ghosts C} {kg : Ghosts K} (was : Bool × ℕ)
    (a : Result T Error) (q : Parser S H F C K fg cg kg) : Type 0 where
  pub failed : has_failed q ≡ (was.0 || wants_memory a)
  pub bound : bound_of q ≡ was.1
  pub shallow : wants_memory a ≡ false → met_bound q ≡ false

-- the refusal of a parser that has failed
abbrev pub parser_failed : Span → Error
parser_failed at = record { span = at; kind = ParserFailed }

module _ {S H F C K T : Type 0} {fg : Ghosts F} {cg : Ghosts C} {kg : Ghosts K} where
  -- What a call does that makes no node, from the parser p to q, where it answers r. A parser that ran out of memory
  -- does nothing, and refuses as `ParserFailed` at the token consumed last (`again`). Of any other Effect says what is
  -- done to the buffer, and it has failed from now on where it refuses when out of memory, and only there (`fails`).
  -- What is remembered of commas stays.
  pub record Called (Effect : Buffer S → Result T Error → Buffer S → Type 0) (p : Parser S H F C K fg cg kg)
      (r : Result T Error) (q : Parser S H F C K fg cg kg) : Type 0 where
    pub again : has_failed p ≡ true → (q ≡ p) × (r ≡ Err (parser_failed (previous (buffer_of p))))
    pub effect : has_failed p ≡ false → Effect (buffer_of p) r (buffer_of q)
    pub nodes : nodes_of q ≡ nodes_of p
    pub commas : commas_of q ≡ commas_of p
    pub fails : has_failed p ≡ false → has_failed q ≡ wants_memory r
    -- the bound on nesting stays; and it was met only where the call refuses when out of memory
    pub bound : bound_of q ≡ bound_of p
    pub shallow : has_failed p ≡ false → wants_memory r ≡ false → met_bound q ≡ false

module _ {S H F C K X T : Type 0} {fg : Ghosts F} {cg : Ghosts C} {kg : Ghosts K} where
  -- the answer in boxes: what the numbers stand for among the nodes, without the marks of commas, or memory ran out
  abbrev pub MovesOut : ((ℕ → Tree F C K) → X → Tree F C K) → (T → Tree F C K) → Parser S H F C K fg cg kg
      → Result X Error → Result T Error → Type 0
  MovesOut by view p answer r = MatchResult answer
      (λ x. MatchResult r (λ t. view t ≡ by (bare_at (nodes_of p)) x)
      (λ e. e ≡ no_memory (last_position (buffer_of p))))
      (λ e. r ≡ Err e)

  -- the commas of the literals of what was moved out were remembered; after the answer's refusal none is
  abbrev pub RemembersParts : (X → List Part) → Parser S H F C K fg cg kg → Result X Error → Result T Error
      → Parser S H F C K fg cg kg → Type 0
  RemembersParts parts p answer r q = MatchResult answer
      (λ x. OnOk r (Recalls (part_commas (tree_at (nodes_of p)) (parts x)) (commas_of p) (commas_of q)))
      (λ e. commas_of q ≡ commas_of p)

-- the answer stays, or memory ran out
abbrev pub Kept : {X : Type 0} → BytePos → Result X Error → Result X Error → Type 0
Kept at answer r = MatchResult answer (λ x. MatchResult r (λ y. y ≡ x) (λ e. e ≡ no_memory at)) (λ e. r ≡ Err e)

module _ {S : Type 0} (model : Model S) where
  -- whether none is left: a look, which consumes nothing, and is refused only where the source has failed
  pub record SeesEnd (b : Buffer S) (r : Result Bool Error) (c : Buffer S) : Type 0 where
    pub looks : Looks model b r c
    pub end : IfOk r (λ v. v ≡ true → (current c ≡ None) × ((state_of model c).ended ≡ true))
    pub token : IfOk r (λ v. v ≡ false → IsSome (current c))
    pub refused : IfErr r (λ e. (e ≡ no_memory (last_position c)) × Looked model b c
        × ((state_of model c).failed ≡ true))

  -- a call of swc_ident on a name
  pub record ReadsAName {T : Type 0} (Names : Buffer S → Result T Error → Buffer S → Type 0) (b : Buffer S)
      (r : Result T Error) (c : Buffer S) : Type 0 where
    pub names : Names b r c
    pub read : ReadSome model b c

module _ {S F C K : Type 0} (fun_at : F → Span) (class_at : C → Span) (block_at : K → Span) where
  -- an object literal is made of properties, or memory ran out; nothing is read or recorded
  abbrev pub MakesObject : Span → List (PropOrSpread F C K) → Buffer S → Result (Box (Expr F C K) Global) Error
      → Buffer S → Type 0
  MakesObject span props b r c = (c ≡ b) × MatchResult r
      (λ e. tree_by fun_at class_at block_at e ≡ node object span
      (trees (map (prop_or_spread_tree F C K fun_at class_at block_at) props)))
      (λ e. e ≡ no_memory (last_position b))

module _ {S H F C K : Type 0} {fg : Ghosts F} {cg : Ghosts C} {kg : Ghosts K} where
  -- What a call does that makes an object literal of properties, as `Called` has it of those that remember no comma; on
  -- Ok the comma after the last is remembered at the literal's start.
  pub record Makes (span : Span) (props : List (PropOrSpread F C K)) (comma : Option Span)
      (p : Parser S H F C K fg cg kg) (r : Result (Box (Expr F C K) Global) Error)
      (q : Parser S H F C K fg cg kg) : Type 0 where
    pub again : has_failed p ≡ true → (q ≡ p) × (r ≡ Err (parser_failed (previous (buffer_of p))))
    pub makes : has_failed p ≡ false → MakesObject fg.place cg.place kg.place span props (buffer_of p) r (buffer_of q)
    pub nodes : nodes_of q ≡ nodes_of p
    pub fails : has_failed p ≡ false → has_failed q ≡ wants_memory r
    -- the bound on nesting stays; and it was met only where the call refuses when out of memory
    pub bound : bound_of q ≡ bound_of p
    pub shallow : has_failed p ≡ false → wants_memory r ≡ false → met_bound q ≡ false
    pub remembers : OnOk r (Remembers span.lo.0 comma (commas_of p) (commas_of q))

module _ {S F C K : Type 0} (model : Model S) (fun_at : F → Span) (class_at : C → Span) (block_at : K → Span) where
  -- An object pattern is made of properties. Rests among them are checked first (`notes`): their faults are recorded,
  -- in their order, and no others, and then a last one over no identifier is refused. So nothing is where the last
  -- property alone is one, over an identifier, and no comma comes after it (`checks`).
  pub record MakesPattern (span : Span) (props : List (ObjectPatProp F C K)) (comma : Option Span) (b : Buffer S)
      (r : Result (Pat F C K) Error) (c : Buffer S) : Type 0 where
    pub checks : ContinuesAlone model (λ _. tt) (rests_checked
        (props_stage (trees (map (pat_prop_tree F C K fun_at class_at block_at) props)) comma)) b r c
    pub notes : Judges model (rests_faults (trees (map (pat_prop_tree F C K fun_at class_at block_at) props)) comma)
        (rests_refused (trees (map (pat_prop_tree F C K fun_at class_at block_at) props))) b r c
    pub makes : IfOk r (λ p. pat_tree F C K fun_at class_at block_at p ≡ node object span
        (trees (map (pat_prop_tree F C K fun_at class_at block_at) props)))

module _ {S H F C K : Type 0} {fg : Ghosts F} {cg : Ghosts C} {kg : Ghosts K} where
  -- What a call does that makes an object pattern of properties: on Ok no comma is remembered at its start any more.
  pub record Patterns (model : Model S) (span : Span) (props : List (ObjectPatProp F C K)) (comma : Option Span)
      (p : Parser S H F C K fg cg kg) (r : Result (Pat F C K) Error) (q : Parser S H F C K fg cg kg) : Type 0 where
    pub again : has_failed p ≡ true → (q ≡ p) × (r ≡ Err (parser_failed (previous (buffer_of p))))
    pub makes : has_failed p ≡ false → MakesPattern model fg.place cg.place kg.place span props comma (buffer_of p) r
        (buffer_of q)
    pub nodes : nodes_of q ≡ nodes_of p
    pub fails : has_failed p ≡ false → has_failed q ≡ wants_memory r
    -- the bound on nesting stays; and it was met only where the call refuses when out of memory
    pub bound : bound_of q ≡ bound_of p
    pub shallow : has_failed p ≡ false → wants_memory r ≡ false → met_bound q ≡ false
    pub remembers : OnOk r (Remembers span.lo.0 None (commas_of p) (commas_of q))
