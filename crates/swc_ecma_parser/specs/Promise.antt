-- What the calls of a parser promise, by the written grammar alone. What is derived at a buffer is derived in its
-- scope: by the context without the four flags that decide nothing (`view`), and the syntax. The context itself, with
-- all its flags, is after each call what it was before.
use Rattle.std.specs.Prelude.{◌≡◌, ◌≢◌, Bool, true, false, not, ◌||◌, ◌&&◌, List, [], ◌∷◌, ◌++◌, map, Option, Some, None, Result, Err, IfOk, OnOk, ◌<◌, MatchResult}
use Rattle.std.specs.{declared.alloc.Global.Global, declared.boxed.Box.Box, declared.vec.Vec.Vec}
use Rattle.swc_context.specs.{declared.error.Error.Error, declared.error.SyntaxError.TheVariants.OutOfMemory, declared.span.Span.Span}
use Rattle.swc_input.specs.Buffer.{Read, ReadSome, Future, Known, previous, to_come}
use Rattle.swc_input.specs.{declared.buffer.Buffer.Buffer, declared.token.TokenAndSpan.TokenAndSpan, Source.Model, Kinds.at_token}
use Rattle.swc_ast.specs.Parts.{lit_tree, prop_name_tree, args_tree, tpl_tree}
use Rattle.swc_ast.specs.Pedantic.{all_privates_ok, no_cover_left, none_left, privates_ok}
use Rattle.swc_ast.specs.Tree.{Tree, Trees, node, args, args_with, no_span, span_of, trees}
use Rattle.swc_ast.specs.TreeOf.{pat_tree, pat_prop_tree, prop_or_spread_tree}
use Rattle.swc_ast.specs.Trees.{is_grouped, are_grouped, is_valid, are_valid, items_of, comma_of, listed, unmarked, all_unmarked}
use Rattle.swc_ast.specs.{declared.expr.Expr.Expr as ExprOf, declared.expr.ExprOrSpread.ExprOrSpread, declared.expr.Tpl.Tpl, declared.function.Param.Param, declared.lit.Lit.Lit, declared.pat.ObjectPatProp.ObjectPatProp, declared.pat.Pat.Pat as PatOf, declared.prop.PropName.PropName, declared.prop.PropOrSpread.PropOrSpread, declared.spanned.Spanned.Ghosts}
use Rattle.swc_bodies.specs.Readings.{Hook, Reading}
use Rattle.swc_grammar.specs.Scope.{Scope}
use Rattle.swc_grammar.specs.Clean.{first, no_link, no_arrow}
use Rattle.swc_grammar.specs.Patterns.{any, binds_names, all_bind_names, prop_binds_names}
use Rattle.swc_grammar.specs.Symbols.{Symbol, Expr, Exprs, Assign, Level, Unary, Lhs, Left, Base, Arguments, Args, ArgsTail, Primary, Literal, Template, Parts, Elements, ElementsTail, Item, Props, PropsTail, Prop, Key, AfterKey, Shell, Pat, Element, Rest, PatElements, PatElementsTail, PatProps, PatPropsTail, PatProp, Params, ParamsTail, ArrowParams, ArrowBody}
use Rattle.swc_grammar.specs.Reads.{Reads, ReadsUnmarked, Stops}
use Rattle.swc_grammar.specs.Names.{Spelling, NameKind, Reference, ReadsName}
use Rattle.swc_grammar.specs.Tokens.{ends_prop, is_rparen, may_be_reference}
use Rattle.swc_nodes.specs.Commas.{commas_in, commas_of_all, Recalls}
use Rattle.swc_nodes.specs.NodeParts.{Part, expr_part, pat_part, key_parts, param_parts, flat}
use Rattle.swc_nodes.specs.GrowingNodes.{count, Apart, From, Grows, SameNodes}
use Rattle.swc_nodes.specs.{Lists.pats_parts, declared.commas.TrailingCommas.TrailingCommas, declared.node.ExprId.ExprId, declared.node.PatId.PatId, declared.nodes.Nodes.Nodes}
use Rattle.swc_steps.specs.Params.{pat_at, params_at}
use Rattle.swc_input.specs.Calls.{Loud}
use Rattle.swc_steps.specs.Parsing.{scope, Acts, Consumes, key_at, tree_of}
use Rattle.swc_ecma_parser.specs.Calls.{buffer_of, nodes_of, commas_of, tree_by, pats_tree, has_failed, bound_of, met_bound, wants_memory, parser_failed}
use Rattle.swc_ecma_parser.specs.declared.parser.Parser.{Parser}

-- a derivation of A: in the scope, from the tokens from the first list on to before the second
abbrev pub Derivation : Type 0 → Type 1
Derivation A = Scope → List TokenAndSpan → List TokenAndSpan → A → Type 0

-- Is no cover name left in a tree, nor among the items of a list, if the syntax is pedantic (ECMA-262, 13.2.5.1)?
abbrev pub covers_done : {F C K : Type 0} → Scope → Tree F C K → Bool
covers_done c t = not c.syntax.pedantic || no_cover_left t

abbrev pub items_done : {F C K : Type 0} → Scope → Tree F C K → Bool
items_done c t = not c.syntax.pedantic || none_left (items_of t)

-- what is derived, and has no cover name left where there may be none, as `done` has it
pub record Finished {A : Type 0} (done : Scope → A → Bool) (derives : Derivation A) (c : Scope)
    (xs ys : List TokenAndSpan) (t : A)
    : Type 0 where
  pub read : derives c xs ys t
  pub covers : done c t ≡ true

-- where a reading may stop anywhere
abbrev pub Anywhere : List TokenAndSpan → Type 0
Anywhere ys = Unit {0}

-- Where a reading of the symbol may stop, so that `Promised` has it answered: of a key, of arguments, of a template, of
-- a pattern, of a rest and of an arrow function's parameters anywhere, of a property before `,` and `}`, of a left-hand
-- side before what is no link of it and no `=>`, of the others at the end and before what can't go on with them. Of the
-- other symbols nothing is promised by it.
abbrev pub EndsAt : Symbol → List TokenAndSpan → Type 0
EndsAt Key ys = Unit {0}
EndsAt (Arguments i) ys = Unit {0}
EndsAt (Template is_tagged) ys = Unit {0}
EndsAt Pat ys = Unit {0}
EndsAt Rest ys = Unit {0}
EndsAt ArrowParams ys = Unit {0}
EndsAt Prop ys = at_token ends_prop (first ys) ≡ true
EndsAt Expr ys = Stops Expr ys
EndsAt Assign ys = Stops Assign ys
EndsAt (Level n) ys = Stops (Level n) ys
EndsAt Unary ys = Stops Unary ys
EndsAt Element ys = Stops Element ys
EndsAt PatProp ys = Stops PatProp ys
EndsAt Exprs ys = ⊥
EndsAt (Lhs b) ys = (no_link true ys && no_arrow ys) ≡ true
EndsAt (Left b) ys = ⊥
EndsAt (Base b) ys = ⊥
EndsAt (Args i) ys = ⊥
EndsAt (ArgsTail i) ys = ⊥
EndsAt Primary ys = ⊥
EndsAt Literal ys = ⊥
EndsAt (Parts is_tagged) ys = ⊥
EndsAt Elements ys = ⊥
EndsAt ElementsTail ys = ⊥
EndsAt Item ys = ⊥
EndsAt Props ys = ⊥
EndsAt PropsTail ys = ⊥
EndsAt AfterKey ys = ⊥
EndsAt (Shell is_async is_generator) ys = ⊥
EndsAt PatElements ys = ⊥
EndsAt PatElementsTail ys = ⊥
EndsAt PatProps ys = ⊥
EndsAt PatPropsTail ys = ⊥
EndsAt Params ys = ⊥
EndsAt ParamsTail ys = ⊥
EndsAt (ArrowBody is_async) ys = ⊥

-- An identifier reference, where a word comes first that isn't reserved, or `let`. The other words are taken too, with
-- faults that wait where the code is no module's.
abbrev pub RefersIfFree : Derivation Spelling
RefersIfFree c xs ys n = at_token (may_be_reference c.context) (first xs) ≡ true → ReadsName Reference c xs ys n

module _ {S : Type 0} (model : Model S) where
  -- no fault was recorded between b and c
  abbrev pub Unmarred : Buffer S → Buffer S → Type 0
  Unmarred b c = (model.state c.iter).errors ≡ (model.state b.iter).errors

module _ {S T A : Type 0} (model : Model S) (derives : Derivation A) (view : T → A) where
  -- between b and c tokens were consumed from which t is derived: with whatever may follow, and as a list of their own
  pub record Derives (t : A) (b c : Buffer S) : Type 0 where
    pub consumed : List TokenAndSpan
    pub read : Read model b consumed c
    pub front : (ys : List TokenAndSpan) → Future model c ys → derives (scope model b) (consumed ++ ys) ys t
    pub whole : derives (scope model b) consumed [] t

  -- What is answered with no fault recorded is derived from the tokens consumed. Faults have to be recorded at all.
  abbrev pub Sound : Buffer S → Result T Error → Buffer S → Type 0
  Sound b r c = Loud model b → IfOk r (λ x. Unmarred model b c → Derives (view x) b c)

  -- Over a listed source: what is derived from the tokens to come, up to where a reading may stop, is answered, with no
  -- fault recorded, and what follows it is left; or the answer is out of memory.
  abbrev pub Complete : (List TokenAndSpan → Type 0) → Buffer S → Result T Error → Buffer S → Type 0
  Complete stops b r c = Loud model b → (ts ys : List TokenAndSpan) (t : A) → Known model b ts
      → derives (scope model b) ts ys t
      → stops ys → MatchResult r (λ x. (view x ≡ t) × Known model c ys × Unmarred model b c) (λ e. e.kind ≡ OutOfMemory)

  -- Between b and c tokens were consumed from which nothing is derived but t: as a list of their own, if a reading may
  -- stop at its end, and with what may follow them, if a reading may stop before that.
  pub record DerivesOnly (stops : List TokenAndSpan → Type 0) (t : A) (b c : Buffer S) : Type 0 where
    pub consumed : List TokenAndSpan
    pub read : Read model b consumed c
    pub alone : stops [] → (u : A) → derives (scope model b) consumed [] u → u ≡ t
    pub before : (ys : List TokenAndSpan) → Future model c ys → stops ys → (u : A)
        → derives (scope model b) (consumed ++ ys) ys u → u ≡ t

  -- Where no fault was recorded, nothing is derived from the tokens consumed but the answer.
  abbrev pub OneTree : (List TokenAndSpan → Type 0) → Buffer S → Result T Error → Buffer S → Type 0
  OneTree stops b r c = Loud model b → IfOk r (λ x. Unmarred model b c → DerivesOnly stops (view x) b c)

module _ {S F C K T : Type 0} (model : Model S) (view : T → Tree F C K) where
  -- In a tree answered with no fault recorded operators group as their levels say, and none of `??` is directly over or
  -- under one of `||` or `&&`.
  abbrev pub Grouped : Buffer S → Result T Error → Buffer S → Type 0
  Grouped b r c = Loud model b → IfOk r (λ x. Unmarred model b c → is_grouped (view x) ≡ true)

  -- A tree answered with no fault recorded holds no `Invalid`.
  abbrev pub Valid : Buffer S → Result T Error → Buffer S → Type 0
  Valid b r c = Loud model b → IfOk r (λ x. Unmarred model b c → is_valid (view x) ≡ true)

  -- Where the syntax is pedantic, in a tree answered with no fault recorded `#` and a name are on the left of `in`
  -- alone (ECMA-262, 13.10.1), or name a link.
  abbrev pub PrivatesPlaced : Buffer S → Result T Error → Buffer S → Type 0
  PrivatesPlaced b r c = Loud model b → (scope model b).syntax.pedantic ≡ true
      → IfOk r (λ x. Unmarred model b c → privates_ok false (view x) ≡ true)

  -- A pattern answered with no fault recorded binds names alone: initialisers and keys apart it holds no expression,
  -- and rests in object patterns hold a name.
  abbrev pub Bound : Buffer S → Result T Error → Buffer S → Type 0
  Bound b r c = Loud model b → IfOk r (λ x. Unmarred model b c → binds_names any (view x) ≡ true)

  -- So do the patterns of a list.
  abbrev pub BoundItems : Buffer S → Result T Error → Buffer S → Type 0
  BoundItems b r c = Loud model b → IfOk r (λ x. Unmarred model b c → all_bind_names any (items_of (view x)) ≡ true)

  -- So does a property of an object pattern, and a rest among these.
  abbrev pub BoundAsProp : Buffer S → Result T Error → Buffer S → Type 0
  BoundAsProp b r c = Loud model b
      → IfOk r (λ x. Unmarred model b c → (prop_binds_names any (view x) || binds_names any (view x)) ≡ true)

-- a property of an object pattern, or a rest among these
pub data PropOrRest {F C K : Type 0} (reads : Symbol → Derivation (Tree F C K)) (c : Scope) (xs ys : List TokenAndSpan)
    (t : Tree F C K) : Type 0 where
  as-prop : reads PatProp c xs ys t → PropOrRest reads c xs ys t
  as-rest : reads Rest c xs ys t → PropOrRest reads c xs ys t

-- How a call answers trees: which tree an answer stands for, by the nodes that the parser then has; what derives such
-- trees, which are finished if the call answers a whole, and trees with their marks of commas, finished or not; what is
-- left in them of a tree with its marks; and what becomes of the nodes.
pub record Answer (T F C K : Type 0) (fg : Ghosts F) (cg : Ghosts C) (kg : Ghosts K) : Type 1 where
  pub tree : Nodes F C K fg cg kg → T → Tree F C K
  pub derives : Hook F C K → Symbol → Derivation (Tree F C K)
  pub marked : Hook F C K → Symbol → Derivation (Tree F C K)
  pub strip : Tree F C K → Tree F C K
  pub leaves : Nodes F C K fg cg kg → Result T Error → Nodes F C K fg cg kg → Type 0

-- in boxes, which have no marks of commas: the nodes are what they were; of a whole, and of a piece
abbrev pub boxed : {T F C K : Type 0} {fg : Ghosts F} {cg : Ghosts C} {kg : Ghosts K} → (T → Tree F C K)
    → Answer T F C K fg cg kg
boxed tree = record {
  tree = λ ns x. tree x;
  derives = λ hook s. Finished covers_done (ReadsUnmarked hook s);
  marked = λ hook s. Reads hook s;
  strip = unmarked;
  leaves = λ ns r ms. SameNodes ns ms;
}

abbrev pub piece_boxed : {T F C K : Type 0} {fg : Ghosts F} {cg : Ghosts C} {kg : Ghosts K} → (T → Tree F C K)
    → Answer T F C K fg cg kg
piece_boxed tree = record {
  tree = λ ns x. tree x;
  derives = λ hook s. ReadsUnmarked hook s;
  marked = λ hook s. Reads hook s;
  strip = unmarked;
  leaves = λ ns r ms. SameNodes ns ms;
}

-- an expression, and a pattern
abbrev pub in_boxes : {F C K : Type 0} {fg : Ghosts F} {cg : Ghosts C} {kg : Ghosts K}
    → Answer (Box (ExprOf F C K) Global) F C K fg cg kg
in_boxes {fg = fg} {cg = cg} {kg = kg} = boxed (tree_by fg.place cg.place kg.place)

abbrev pub pat_in_boxes : {F C K : Type 0} {fg : Ghosts F} {cg : Ghosts C} {kg : Ghosts K}
    → Answer (PatOf F C K) F C K fg cg kg
pat_in_boxes {F} {C} {K} {fg = fg} {cg = cg} {kg = kg} = boxed (pat_tree F C K fg.place cg.place kg.place)

-- a key, a property of an object literal, a template, and a property of an object pattern or a rest among these
abbrev pub key_in_boxes : {F C K : Type 0} {fg : Ghosts F} {cg : Ghosts C} {kg : Ghosts K}
    → Answer (PropName (Box (ExprOf F C K) Global)) F C K fg cg kg
key_in_boxes {fg = fg} {cg = cg} {kg = kg} = piece_boxed (prop_name_tree (tree_by fg.place cg.place kg.place))

abbrev pub prop_in_boxes : {F C K : Type 0} {fg : Ghosts F} {cg : Ghosts C} {kg : Ghosts K}
    → Answer (PropOrSpread F C K) F C K fg cg kg
prop_in_boxes {F} {C} {K} {fg = fg} {cg = cg} {kg = kg} =
    piece_boxed (prop_or_spread_tree F C K fg.place cg.place kg.place)

abbrev pub tpl_in_boxes : {F C K : Type 0} {fg : Ghosts F} {cg : Ghosts C} {kg : Ghosts K}
    → Answer (Tpl (Box (ExprOf F C K) Global)) F C K fg cg kg
tpl_in_boxes {fg = fg} {cg = cg} {kg = kg} = piece_boxed (tpl_tree (tree_by fg.place cg.place kg.place))

abbrev pub pat_prop_in_boxes : {F C K : Type 0} {fg : Ghosts F} {cg : Ghosts C} {kg : Ghosts K}
    → Answer (ObjectPatProp F C K) F C K fg cg kg
pat_prop_in_boxes {F} {C} {K} {fg = fg} {cg = cg} {kg = kg} = record {
  tree = λ ns x. pat_prop_tree F C K fg.place cg.place kg.place x;
  derives = λ hook s. PropOrRest (ReadsUnmarked hook);
  marked = λ hook s. PropOrRest (Reads hook);
  strip = unmarked;
  leaves = λ ns r ms. SameNodes ns ms;
}

-- a list of items, without the token that closes it: its items alone, and with the place of a comma after the last one,
-- or none
abbrev pub only_items : {F C K : Type 0} → Tree F C K → Tree F C K
only_items t = node args no_span (items_of (unmarked t))

abbrev pub items_and_comma : {F C K : Type 0} → Tree F C K → Tree F C K
items_and_comma t = node (args_with (comma_of t)) no_span (items_of (unmarked t))

-- its items alone, with their marks of commas
abbrev pub keep_items : {F C K : Type 0} → Tree F C K → Tree F C K
keep_items t = node args no_span (items_of t)

-- what is derived, as `strip` leaves it
pub record ReadsAs {F C K : Type 0} (strip : Tree F C K → Tree F C K) (hook : Hook F C K) (s : Symbol) (c : Scope)
    (xs ys : List TokenAndSpan) (t : Tree F C K) : Type 0 where
  pub marked : Tree F C K
  pub read : Reads hook s c xs ys marked
  pub same : strip marked ≡ t

-- a list of items in boxes, and a comma, as the tree of both
abbrev pub list_tree : {F C K : Type 0} → (F → Span) → (C → Span) → (K → Span)
    → Vec (ExprOrSpread (Box (ExprOf F C K) Global)) Global × Option Span → Tree F C K
list_tree fun class block p = node (args_with p.1) no_span (items_of (args_tree (tree_by fun class block) p.0))

-- arguments in boxes
abbrev pub args_in_boxes : {F C K : Type 0} {fg : Ghosts F} {cg : Ghosts C} {kg : Ghosts K}
    → Answer (Vec (ExprOrSpread (Box (ExprOf F C K) Global)) Global) F C K fg cg kg
args_in_boxes {fg = fg} {cg = cg} {kg = kg} = record {
  tree = λ ns xs. args_tree (tree_by fg.place cg.place kg.place) xs;
  derives = λ hook s. Finished covers_done (ReadsAs only_items hook s);
  marked = λ hook s. Reads hook s;
  strip = only_items;
  leaves = λ ns r ms. SameNodes ns ms;
}

-- a list in boxes, with the comma after the last item
abbrev pub list_in_boxes : {F C K : Type 0} {fg : Ghosts F} {cg : Ghosts C} {kg : Ghosts K}
    → Answer (Vec (ExprOrSpread (Box (ExprOf F C K) Global)) Global × Option Span) F C K fg cg kg
list_in_boxes {fg = fg} {cg = cg} {kg = kg} = record {
  tree = λ ns p. list_tree fg.place cg.place kg.place p;
  derives = λ hook s. ReadsAs items_and_comma hook s;
  marked = λ hook s. Reads hook s;
  strip = items_and_comma;
  leaves = λ ns r ms. SameNodes ns ms;
}

-- the parameters of an arrow function in boxes, without the place of the list
abbrev pub arrow_params_in_boxes : {F C K : Type 0} {fg : Ghosts F} {cg : Ghosts C} {kg : Ghosts K}
    → Answer (Vec (PatOf F C K) Global) F C K fg cg kg
arrow_params_in_boxes {F} {C} {K} {fg = fg} {cg = cg} {kg = kg} = record {
  tree = λ ns ps. pats_tree (pat_tree F C K fg.place cg.place kg.place) ps;
  derives = λ hook s. Finished covers_done (ReadsAs only_items hook s);
  marked = λ hook s. ReadsAs keep_items hook s;
  strip = unmarked;
  leaves = λ ns r ms. SameNodes ns ms;
}

-- By the number of a new node, which has the marks: nodes were appended alone, or after a refusal none. Of what has the
-- number, which tree it stands for and which part it is.
abbrev pub numbered : {N F C K : Type 0} {fg : Ghosts F} {cg : Ghosts C} {kg : Ghosts K}
    → (Nodes F C K fg cg kg → N → Tree F C K) → (N → Part) → Answer N F C K fg cg kg
numbered tree part = record {
  tree = λ ns id. tree ns id;
  derives = λ hook s. Finished covers_done (Reads hook s);
  marked = λ hook s. Reads hook s;
  strip = λ t. t;
  leaves = λ ns r ms. MatchResult r (λ id. Grows ns ms × From (count ns) ms (part id)) (λ e. SameNodes ns ms);
}

-- of an expression, and of a pattern
abbrev pub by_number : {F C K : Type 0} {fg : Ghosts F} {cg : Ghosts C} {kg : Ghosts K} → Answer ExprId F C K fg cg kg
by_number = numbered tree_of expr_part

abbrev pub pat_by_number : {F C K : Type 0} {fg : Ghosts F} {cg : Ghosts C} {kg : Ghosts K}
    → Answer PatId F C K fg cg kg
pat_by_number = numbered pat_at pat_part

-- Nodes were appended alone, in which the parts of the answer lie apart, or after a refusal none.
abbrev pub AddsParts : {N F C K : Type 0} {fg : Ghosts F} {cg : Ghosts C} {kg : Ghosts K} → (N → List Part)
    → Nodes F C K fg cg kg → Result N Error → Nodes F C K fg cg kg → Type 0
AddsParts parts ns r ms = MatchResult r (λ x. Grows ns ms × Apart (count ns) ms (parts x)) (λ e. SameNodes ns ms)

-- a key by the numbers in it, and the parameters of an arrow function by theirs, without the place of the list
abbrev pub key_by_number : {F C K : Type 0} {fg : Ghosts F} {cg : Ghosts C} {kg : Ghosts K}
    → Answer (PropName ExprId) F C K fg cg kg
key_by_number = record {
  tree = λ ns k. key_at ns k;
  derives = λ hook s. Reads hook s;
  marked = λ hook s. Reads hook s;
  strip = λ t. t;
  leaves = AddsParts key_parts;
}

abbrev pub arrow_params_by_number : {F C K : Type 0} {fg : Ghosts F} {cg : Ghosts C} {kg : Ghosts K}
    → Answer (Vec PatId Global) F C K fg cg kg
arrow_params_by_number = record {
  tree = λ ns ps. pats_tree (pat_at ns) ps;
  derives = λ hook s. Finished covers_done (ReadsAs keep_items hook s);
  marked = λ hook s. ReadsAs keep_items hook s;
  strip = λ t. t;
  leaves = AddsParts pats_parts;
}

module _ {S F C K : Type 0} (model : Model S) (derives : Derivation (Tree F C K))
    (strip : Tree F C K → Tree F C K) where
  -- Between b and c the commas of literals were remembered, one after another, and no other: of those of a tree that
  -- has its marks, of which `strip` leaves t. Where faults are recorded at all, and none was, it is derived from the
  -- tokens consumed.
  pub record RemembersAll (t : Tree F C K) (b c : Buffer S) (old new : TrailingCommas) : Type 0 where
    pub marked : Tree F C K
    pub same : strip marked ≡ t
    pub derived : Loud model b → Unmarred model b c → Derives model derives (λ (m : Tree F C K). m) marked b c
    pub recalls : Recalls (commas_in marked) old new

-- What a call promises that reads the symbol s, from the parser p to q, where it answers r.
pub record Promised {S H T F C K : Type 0} {fg : Ghosts F} {cg : Ghosts C} {kg : Ghosts K} (model : Model S)
    (sure : Bool)
    (hook : Hook F C K) (answer : Answer T F C K fg cg kg) (s : Symbol) (p : Parser S H F C K fg cg kg)
    (r : Result T Error)
    (q : Parser S H F C K fg cg kg) : Type 0 where
  -- A parser that ran out of memory does nothing, and refuses as `ParserFailed` at the token consumed last.
  pub again : has_failed p ≡ true → (q ≡ p) × (r ≡ Err (parser_failed (previous (buffer_of p))))
  -- Any other reads: one token at least was consumed, or it refuses, and what was consumed isn't lost; the context is
  -- what it was, no recorded fault was taken out, and no `OutOfMemory` recorded.
  pub reads : has_failed p ≡ false → Consumes model (buffer_of p) r (buffer_of q)
  -- What is answered is what the grammar derives, and finished if the answer is a whole; and where the hook is
  -- faithful, what is derived so is answered.
  pub sound : has_failed p ≡ false → Sound model (answer.derives hook s) (answer.tree (nodes_of q)) (buffer_of p) r
      (buffer_of q)
  pub complete : has_failed p ≡ false → sure ≡ true
      → Complete model (answer.derives hook s) (answer.tree (nodes_of q)) (EndsAt s) (buffer_of p) r (buffer_of q)
  pub one_tree : has_failed p ≡ false
      → OneTree model (answer.derives hook s) (answer.tree (nodes_of q)) (EndsAt s) (buffer_of p) r (buffer_of q)
  pub grouped : has_failed p ≡ false → Grouped model (answer.tree (nodes_of q)) (buffer_of p) r (buffer_of q)
  pub valid : has_failed p ≡ false → Valid model (answer.tree (nodes_of q)) (buffer_of p) r (buffer_of q)
  pub privates : has_failed p ≡ false → PrivatesPlaced model (answer.tree (nodes_of q)) (buffer_of p) r (buffer_of q)
  -- The commas of the answer's literals were remembered; what is refused but when out of memory leaves what there was.
  pub commas : MatchResult r
      (λ x. RemembersAll model (answer.marked hook s) answer.strip (answer.tree (nodes_of q) x)
      (buffer_of p) (buffer_of q) (commas_of p) (commas_of q))
      (λ e. e.kind ≢ OutOfMemory → commas_of q ≡ commas_of p)
  -- what becomes of the nodes
  pub nodes : answer.leaves (nodes_of p) r (nodes_of q)
  -- it has failed from now on where it refuses when out of memory, and only there
  pub fails : has_failed p ≡ false → has_failed q ≡ wants_memory r
  -- the bound on nesting stays; and it was met only where the call refuses when out of memory
  pub bound : bound_of q ≡ bound_of p
  pub shallow : has_failed p ≡ false → wants_memory r ≡ false → met_bound q ≡ false

-- What a call on a name does and promises, from b to c: by the calls of swc_ident, and that what is answered is what
-- the grammar derives, and the other way.
pub record PromisedName {S T : Type 0} (model : Model S) (Names : Buffer S → Result T Error → Buffer S → Type 0)
    (derives : Derivation Spelling) (kind : NameKind) (view : T → Spelling) (b : Buffer S) (r : Result T Error)
    (c : Buffer S) : Type 0 where
  pub names : Names b r c
  pub read : ReadSome model b c
  pub sound : Sound model derives view b r c
  pub complete : Complete model (ReadsName kind) view Anywhere b r c

-- What a call on a literal does and promises, from b to c, whatever the hook reads.
pub record PromisedLit {S F C K : Type 0} (model : Model S) (hook : Hook F C K) (b : Buffer S) (r : Result Lit Error)
    (c : Buffer S) : Type 0 where
  pub reads : Consumes model b r c
  -- what is answered is derived from the tokens consumed, also where faults aren't recorded, or where some were
  pub sound : IfOk r (λ l. Derives model (Reads hook Literal) lit_tree (lit_tree l) b c)
  -- what is derived is answered, with no fault recorded, whatever follows
  pub complete : Complete model (Reads hook Literal) lit_tree Anywhere b r c

-- What a call promises that reads a property of an object pattern, or a rest among these.
pub record PromisedPatProp {S H F C K : Type 0} {fg : Ghosts F} {cg : Ghosts C} {kg : Ghosts K} (model : Model S)
    (sure : Bool)
    (hook : Hook F C K) (p : Parser S H F C K fg cg kg) (r : Result (ObjectPatProp F C K) Error)
    (q : Parser S H F C K fg cg kg) : Type 0 where
  -- one of both is answered, and a property that is derived
  pub promised : Promised model sure hook pat_prop_in_boxes PatProp p r q
  -- and so is a rest that is derived, whatever follows
  pub rest : has_failed p ≡ false → sure ≡ true
      → Complete model (ReadsUnmarked hook Rest) (pat_prop_tree F C K fg.place cg.place kg.place) Anywhere
      (buffer_of p) r (buffer_of q)
  pub binds : has_failed p ≡ false → BoundAsProp model (pat_prop_tree F C K fg.place cg.place kg.place) (buffer_of p) r
      (buffer_of q)

-- the patterns of parameters, in their order: in boxes, and by number
abbrev pub pats_of : {F C K : Type 0} → (F → Span) → (C → Span) → (K → Span) → Vec (Param (PatOf F C K)) Global
    → Trees F C K
pats_of {F} {C} {K} fun class block ps = trees (map (λ p. pat_tree F C K fun class block p.pat) ps.items)

-- each parameter lies where its pattern does
abbrev pub each_placed : {F C K X : Type 0} → (X → Tree F C K) → List (Param X) → Type 0
each_placed at [] = Unit {0}
each_placed at (p ∷ ps) = (p.span ≡ span_of (at p.pat)) × each_placed at ps

-- How a call answers parameters: which patterns an answer stands for, by the nodes that the parser then has, and that
-- the parameters lie where these do; what derives them, finished; what is left in them of patterns with their marks of
-- commas; and what becomes of the nodes.
pub record ParamsAnswer (T F C K : Type 0) (fg : Ghosts F) (cg : Ghosts C) (kg : Ghosts K) : Type 1 where
  pub pats : Nodes F C K fg cg kg → T → Trees F C K
  pub placed : Nodes F C K fg cg kg → T → Type 0
  pub derives : Hook F C K → Symbol → Derivation (Tree F C K)
  pub strip : Trees F C K → Trees F C K
  pub leaves : Nodes F C K fg cg kg → Result T Error → Nodes F C K fg cg kg → Type 0

abbrev pub params_in_boxes : {F C K : Type 0} {fg : Ghosts F} {cg : Ghosts C} {kg : Ghosts K}
    → ParamsAnswer (Vec (Param (PatOf F C K)) Global) F C K fg cg kg
params_in_boxes {F} {C} {K} {fg = fg} {cg = cg} {kg = kg} = record {
  pats = λ ns ps. pats_of fg.place cg.place kg.place ps;
  placed = λ ns ps. each_placed (pat_tree F C K fg.place cg.place kg.place) ps.items;
  derives = λ hook s. Finished items_done (ReadsUnmarked hook s);
  strip = λ ts. all_unmarked ts;
  leaves = λ ns r ms. SameNodes ns ms;
}

abbrev pub params_by_number : {F C K : Type 0} {fg : Ghosts F} {cg : Ghosts C} {kg : Ghosts K}
    → ParamsAnswer (Vec (Param PatId) Global) F C K fg cg kg
params_by_number = record {
  pats = λ ns ps. params_at ns ps;
  placed = λ ns ps. each_placed (λ p. pat_at ns p) ps.items;
  derives = λ hook s. Finished items_done (Reads hook s);
  strip = λ ts. ts;
  leaves = AddsParts (λ ps. flat param_parts ps.items);
}

module _ {S F C K : Type 0} (model : Model S) (derives : Derivation (Tree F C K)) where
  -- Between b and c tokens were consumed from which, and a `)` that comes next, the parameters are derived that are
  -- these patterns: with whatever may follow, and as a list of their own.
  pub record DerivesParams (pats : Trees F C K) (b c : Buffer S) : Type 0 where
    pub consumed : List TokenAndSpan
    pub read : Read model b consumed c
    pub front : (t : TokenAndSpan) (ys : List TokenAndSpan) → Future model c (t ∷ ys) → is_rparen t.token ≡ true
        → derives (scope model b) (consumed ++ t ∷ ys) ys (listed None t.span pats)
    pub whole : (t : TokenAndSpan) (ys : List TokenAndSpan) → Future model c (t ∷ ys) → is_rparen t.token ≡ true
        → derives (scope model b) (consumed ++ t ∷ []) [] (listed None t.span pats)

module _ {S F C K : Type 0} (model : Model S) (derives : Derivation (Tree F C K)) where
  -- From these tokens, and a `)` that may come next, nothing else is derived.
  pub record DerivesOnlyParams (pats : Trees F C K) (b c : Buffer S) : Type 0 where
    pub consumed : List TokenAndSpan
    pub read : Read model b consumed c
    pub only : (t : TokenAndSpan) (ys : List TokenAndSpan) → Future model c (t ∷ ys) → is_rparen t.token ≡ true
        → (u : Tree F C K) → derives (scope model b) (consumed ++ t ∷ []) [] u → u ≡ listed None t.span pats

module _ {S F C K : Type 0} (model : Model S) (hook : Hook F C K) (strip : Trees F C K → Trees F C K) where
  -- Between b and c the commas of literals were remembered, as `RemembersAll` has it: of those of patterns that have
  -- their marks.
  pub record RemembersParams (pats : Trees F C K) (b c : Buffer S) (old new : TrailingCommas) : Type 0 where
    pub marked : Trees F C K
    pub same : strip marked ≡ pats
    pub derived : Loud model b → Unmarred model b c → DerivesParams model (Reads hook Params) marked b c
    pub recalls : Recalls (commas_of_all marked) old new

module _ {S F C K : Type 0} (model : Model S) where
  -- A `)` comes next, and the tokens ys after it; t is the list of these patterns that it closes.
  pub record ClosedBy (pats : Trees F C K) (t : Tree F C K) (c : Buffer S) (ys : List TokenAndSpan) : Type 0 where
    pub close : TokenAndSpan
    pub is : is_rparen close.token ≡ true
    pub known : Known model c (close ∷ ys)
    pub list : t ≡ listed None close.span pats

-- What a call on parameters promises, from the parser p to q, where it answers r. The `)` that closes them stays;
-- without it nothing is derived, and what is answered is promised to be patterns alone.
pub record PromisedParams {S H T F C K : Type 0} {fg : Ghosts F} {cg : Ghosts C} {kg : Ghosts K} (model : Model S)
    (sure : Bool)
    (hook : Hook F C K) (answer : ParamsAnswer T F C K fg cg kg) (p : Parser S H F C K fg cg kg) (r : Result T Error)
    (q : Parser S H F C K fg cg kg) : Type 0 where
  -- A parser that ran out of memory does nothing, and refuses as `ParserFailed` at the token consumed last.
  pub again : has_failed p ≡ true → (q ≡ p) × (r ≡ Err (parser_failed (previous (buffer_of p))))
  -- Any other acts: what was consumed isn't lost; the context is what it was, no recorded fault was taken out, and no
  -- out of memory recorded.
  pub acts : has_failed p ≡ false → Acts model (buffer_of p) r (buffer_of q)
  -- What is answered with no fault recorded is derived from the tokens consumed and a `)` after them.
  pub sound : has_failed p ≡ false → Loud model (buffer_of p) → IfOk r (λ v. Unmarred model (buffer_of p) (buffer_of q)
      → DerivesParams model (answer.derives hook Params) (answer.pats (nodes_of q) v) (buffer_of p) (buffer_of q))
  -- Over a listed source, with a faithful hook: what is derived from the tokens to come, with the `)` that closes it,
  -- is answered, with no fault recorded, and the `)` and what follows it is left; or the answer is out of memory.
  pub complete : has_failed p ≡ false → sure ≡ true → Loud model (buffer_of p)
      → (ts ys : List TokenAndSpan) (t : Tree F C K) → Known model (buffer_of p) ts
      → answer.derives hook Params (scope model (buffer_of p)) ts ys t → MatchResult r
      (λ v. ClosedBy model (answer.pats (nodes_of q) v) t (buffer_of q) ys × Unmarred model (buffer_of p) (buffer_of q))
      (λ e. e.kind ≡ OutOfMemory)
  -- Where no fault was recorded, nothing else is derived from the tokens consumed and a `)` after them.
  pub one_tree : has_failed p ≡ false → Loud model (buffer_of p)
      → IfOk r (λ v. Unmarred model (buffer_of p) (buffer_of q)
      → DerivesOnlyParams model (answer.derives hook Params) (answer.pats (nodes_of q) v) (buffer_of p) (buffer_of q))
  -- Whether a `)` comes next or not: in the patterns answered with no fault recorded operators group as their levels
  -- say, they hold no `Invalid`, private names are where they may be if the syntax is pedantic, and the patterns bind
  -- names alone.
  pub grouped : has_failed p ≡ false → Loud model (buffer_of p)
      → IfOk r (λ v. Unmarred model (buffer_of p) (buffer_of q) → are_grouped (answer.pats (nodes_of q) v) ≡ true)
  pub valid : has_failed p ≡ false → Loud model (buffer_of p)
      → IfOk r (λ v. Unmarred model (buffer_of p) (buffer_of q) → are_valid (answer.pats (nodes_of q) v) ≡ true)
  pub privates : has_failed p ≡ false → Loud model (buffer_of p) → (scope model (buffer_of p)).syntax.pedantic ≡ true
      → IfOk r (λ v. Unmarred model (buffer_of p) (buffer_of q)
      → all_privates_ok false false (answer.pats (nodes_of q) v) ≡ true)
  pub binds : has_failed p ≡ false → Loud model (buffer_of p) → IfOk r (λ v. Unmarred model (buffer_of p) (buffer_of q)
      → all_bind_names any (answer.pats (nodes_of q) v) ≡ true)
  -- Each parameter lies where its pattern does, faults or not.
  pub spans : IfOk r (λ v. answer.placed (nodes_of q) v)
  -- The commas of literals in initialisers and keys were remembered; what is refused but when out of memory leaves what
  -- there was.
  pub commas : MatchResult r
      (λ v. RemembersParams model hook answer.strip (answer.pats (nodes_of q) v) (buffer_of p) (buffer_of q)
      (commas_of p) (commas_of q))
      (λ e. e.kind ≢ OutOfMemory → commas_of q ≡ commas_of p)
  -- what becomes of the nodes
  pub nodes : answer.leaves (nodes_of p) r (nodes_of q)
  -- it has failed from now on where it refuses when out of memory, and only there
  pub fails : has_failed p ≡ false → has_failed q ≡ wants_memory r
  -- the bound on nesting stays; and it was met only where the call refuses when out of memory
  pub bound : bound_of q ≡ bound_of p
  pub shallow : has_failed p ≡ false → wants_memory r ≡ false → met_bound q ≡ false

-- what a hook reads where a statement is, of the context alone
abbrev pub ReadsBody : {V : Type 0} → Reading V → Derivation V
ReadsBody reads c xs ys v = reads c.context xs ≡ Some (v, ys)

-- What a call does and promises by which the hook reads a function, a class or a block where a statement is, from b to
-- c, where it answers r. A source that failed is out of memory.
pub record HookReads {S V : Type 0} (model : Model S) (sure : Bool) (reads : Reading V) (b : Buffer S)
    (r : Result V Error)
    (c : Buffer S) : Type 0 where
  pub consumes : Consumes model b r c
  -- What is answered with no fault recorded is what the hook reads of the tokens consumed, whatever follows.
  pub sound : Sound model (ReadsBody reads) (λ (v : V). v) b r c
  -- Over a listed source, with a faithful hook: what it reads of the tokens to come is answered; or the answer is out
  -- of memory.
  pub complete : sure ≡ true → Complete model (ReadsBody reads) (λ (v : V). v) Anywhere b r c
  -- fewer tokens are to come
  pub less : OnOk r (to_come model c < to_come model b)
