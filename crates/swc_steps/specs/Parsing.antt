-- What parsing calls do to the buffer, and which clean reading each answers.
use Rattle.std.specs.Prelude.{◌≡◌, ◌≢◌, ℕ, ◌≤◌, ◌<◌, Bool, true, false, List, [], ◌∷◌, ◌++◌, Option, Some, None, Result, MatchResult, MatchOption, OnOk, IfOk, IfErr, length, ◌&&◌}
use Rattle.swc_context.specs.{declared.context.Context.Context, declared.context.Syntax.Syntax, declared.error.Error.Error, declared.error.SyntaxError.SyntaxError, declared.error.SyntaxError.TheVariants.OutOfMemory, declared.operator.BinaryOp.BinaryOp, declared.span.BytePos.BytePos, declared.span.Span.Span, declared.word.Keyword.Keyword as keyword, declared.word.Word.Word, declared.word.Word.Word as word, Contexts.view as deciding}
use Rattle.swc_input.specs.Buffer.{Took, Read, Lives, Still, Future, Known, context, to_come}
use Rattle.swc_input.specs.Calls.{Forgoes, Leads, Loud, Refuses, recorded}
use Rattle.swc_input.specs.{declared.buffer.Buffer.Buffer, declared.token.Token.Token, declared.token.TokenAndSpan.TokenAndSpan, Plain.plain, Source.Model, Source.Laws, Kinds.at_token}
use Rattle.swc_input.specs.declared.token.Token.TheVariants as token
use Rattle.swc_ast.specs.Parts.{lit_tree, item_tree, item_trees, prop_name_tree, member_prop_tree, function_tree}
use Rattle.swc_ast.specs.{declared.ident.BindingIdent.BindingIdent, declared.ident.Ident.Ident, declared.ident.IdentName.IdentName, declared.ident.PrivateName.PrivateName, declared.lit.Lit.Lit, Tree.Tree, Trees.listed, declared.expr.ExprOrSpread.ExprOrSpread, declared.expr.MemberProp.MemberProp, declared.function.Function.Function, declared.prop.PropName.PropName, declared.spanned.Spanned.Ghosts}
use Rattle.swc_grammar.specs.Clean.{Out, first}
use Rattle.swc_grammar.specs.{Scope.Scope, Parts.lit_of, Words.rest, Names.Spelling, Names.spelling, Tokens.is_strict_word}
use Rattle.swc_bodies.specs.Readings.{Reading, is_async, is_function_here}
use Rattle.swc_nodes.specs.Lists.{elem_parts, elem_trees, props_parts, props_trees}
use Rattle.swc_nodes.specs.NodeParts.{expr_part, flat, args_parts, key_parts, member_parts, param_parts, prop_parts}
use Rattle.swc_nodes.specs.GrowingNodes.{tree_at, count, From, Apart, Grows}
use Rattle.swc_nodes.specs.{declared.node.ExprId.ExprId, declared.node.PatId.PatId, declared.node.PropNode.PropNode, declared.nodes.Nodes.Nodes, NodeTree.prop_of as prop_tree}
use Rattle.swc_steps.specs.{Lists.eaten, declared.tokens.Listed.Listed, declared.productions.Productions.Productions}

-- out of memory
abbrev pub is_memory : SyntaxError → Bool
is_memory OutOfMemory = true
is_memory k = false

-- a word of strict code, in a module or not: `await` is one in modules alone
abbrev pub is_strict_in : Bool → Word → Bool
is_strict_in is_module (word.Keyword keyword.Await) = is_module
is_strict_in is_module w = is_strict_word w

abbrev pub is_strict : Bool → Token → Bool
is_strict is_module (token.Word w) = is_strict_in is_module w
is_strict is_module t = false

-- `async`, and after it, on the same line, `function`
abbrev pub begins_async : List TokenAndSpan → Bool
begins_async ts = at_token is_async (first ts) && is_function_here (rest ts)

-- how identifiers and names are spelled
abbrev pub ident_spelling : Ident → Spelling
ident_spelling i = spelling i.sym i.span

abbrev pub name_spelling : IdentName → Spelling
name_spelling n = spelling n.sym n.span

abbrev pub private_spelling : PrivateName → Spelling
private_spelling n = spelling n.name n.span

abbrev pub binding_spelling : BindingIdent → Spelling
binding_spelling b = spelling b.id.sym b.id.span

-- whether a line break is before a token, or none is left
abbrev pub breaks_at : Option TokenAndSpan → Bool
breaks_at None = true
breaks_at (Some t) = t.had_line_break

-- what f reads after the first token
abbrev pub behind : {A : Type 0} → (Scope → List TokenAndSpan → Out A) → Scope → List TokenAndSpan → Out A
behind f c ts = f c (rest ts)

-- the current token, as contracts compare it
abbrev pub seen_of : Option TokenAndSpan → Option TokenAndSpan
seen_of None = None
seen_of (Some t) = Some (plain t)

abbrev pub seen : {S : Type 0} → Buffer S → Option TokenAndSpan
seen b = seen_of b.cur

-- where code is, by its context and the syntax: no assignment expression is known to begin there, since the code
-- looks at the tokens with which one begins before it reads on
abbrev pub scope_of : Context → Syntax → Scope
scope_of c x = record { context = c; syntax = x; head = false }

-- what a hook reads, of the context alone
abbrev pub by_hook : {V : Type 0} → Reading V → Scope → List TokenAndSpan → Out V
by_hook reads c ts = reads c.context ts

module _ {S : Type 0} (model : Model S) where
  -- where code is at a buffer: by its context, without the flags that decide nothing, and the syntax
  abbrev pub scope : Buffer S → Scope
  scope b = scope_of (deciding (context model b)) (model.state b.iter).syntax

module _ {S : Type 0} (model : Model S) where
  -- from b to c the tokens xs were consumed, one at least, and fewer are to come
  pub record Onward (b : Buffer S) (xs : List TokenAndSpan) (c : Buffer S) : Type 0 where
    pub some : 1 ≤ length xs
    pub less : to_come model c < to_come model b

  -- the same, where one token at least was consumed, so that fewer are to come
  pub record Advances (b c : Buffer S) : Type 0 where
    pub leads : Leads model b c
    pub onward : Onward b leads.taken c

  -- the context was set to another of the same kind of text: nothing was consumed, and no fault recorded or set waiting
  pub record Moves (b c : Buffer S) : Type 0 where
    pub laws : Laws model
    pub took : Took model b [] c
    pub errors : (model.state c.iter).errors ≡ (model.state b.iter).errors
    pub waiting : (model.state c.iter).waiting ≡ (model.state b.iter).waiting
    pub lives : Lives model b c
    pub stays : to_come model c ≡ to_come model b

  -- a call that reads a symbol, which has a token at least
  abbrev pub Consumes : {T : Type 0} → Buffer S → Result T Error → Buffer S → Type 0
  Consumes b r c = MatchResult r (λ t. Advances b c) (λ e. Refuses model b e c)

  -- a call that may consume nothing
  abbrev pub Acts : {T : Type 0} → Buffer S → Result T Error → Buffer S → Type 0
  Acts b r c = MatchResult r (λ t. Leads model b c) (λ e. Refuses model b e c)

  -- From b to c nothing was consumed, and it is told what the test gives of the tokens to come, which begin with what
  -- is seen.
  pub record Told {V : Type 0} (test : List TokenAndSpan → V) (answer : V) (b c : Buffer S) : Type 0 where
    pub laws : Laws model
    pub still : Still model b c
    pub current : c.cur ≡ b.cur
    pub lives : Lives model b c
    pub told : (ts : List TokenAndSpan) → Future model c ts → first ts ≡ seen c → test ts ≡ answer

  -- such a look ahead, which is refused only when out of memory
  abbrev pub Tells : {V : Type 0} → (List TokenAndSpan → V) → Buffer S → Result V Error → Buffer S → Type 0
  Tells test b r c = MatchResult r (λ v. Told test v b c) (λ e. Forgoes model b e c)

-- whether the hook is faithful, so that completeness may be claimed
module _ {S : Type 0} (model : Model S) (sure : Bool) where
  -- From b to c: what f reads at b is what g reads at c, where no fault was recorded; where one was, the source is
  -- listed and the hook is faithful, f reads nothing.
  pub record On {A : Type 0} (f g : Scope → List TokenAndSpan → Out A) (b c : Buffer S) : Type 0 where
    pub leads : Leads model b c
    pub clean : Loud model b → recorded model c ≡ recorded model b → (ys : List TokenAndSpan) → Future model c ys
        → f (scope model b) (leads.taken ++ ys) ≡ g (scope model c) ys
    pub faulty : sure ≡ true → Loud model b → recorded model b < recorded model c → (ts : List TokenAndSpan)
        → Known model b ts → f (scope model b) ts ≡ None

  -- t is what f reads, from one token at least, and fewer are to come
  pub record Heard {A : Type 0} (f : Scope → List TokenAndSpan → Out A) (t : A) (b c : Buffer S) : Type 0 where
    pub on : On f (λ x ts. Some (t, ts)) b c
    pub onward : Onward model b on.leads.taken c

  -- a refusal where f reads nothing, except when out of memory
  pub record Unheard {A : Type 0} (f : Scope → List TokenAndSpan → Out A) (b : Buffer S) (e : Error)
      (c : Buffer S) : Type 0 where
    pub refuses : Refuses model b e c
    pub none : e.kind ≢ OutOfMemory → sure ≡ true → Loud model b → (ts : List TokenAndSpan) → Known model b ts
        → f (scope model b) ts ≡ None

  -- a call that reads what f reads
  abbrev pub Parses : {T A : Type 0} → (T → A) → (Scope → List TokenAndSpan → Out A) → Buffer S → Result T Error
      → Buffer S → Type 0
  Parses view f b r c = MatchResult r (λ t. Heard f (view t) b c) (λ e. Unheard f b e c)

  -- the same, where nothing may be consumed
  abbrev pub Continues : {T A : Type 0} → (T → A) → (Scope → List TokenAndSpan → Out A) → Buffer S → Result T Error
      → Buffer S → Type 0
  Continues view f b r c = MatchResult r (λ t. On f (λ x ts. Some (view t, ts)) b c) (λ e. Unheard f b e c)

module _ {S : Type 0} (model : Model S) where
  -- a call that reads what f reads, and calls no hook
  abbrev pub ParsesAlone : {T A : Type 0} → (T → A) → (Scope → List TokenAndSpan → Out A) → Buffer S → Result T Error
      → Buffer S → Type 0
  ParsesAlone view f b r c = (sure : Bool) → Parses model sure view f b r c

  -- the same, where nothing may be consumed
  abbrev pub ContinuesAlone : {T A : Type 0} → (T → A) → (Scope → List TokenAndSpan → Out A) → Buffer S → Result T Error
      → Buffer S → Type 0
  ContinuesAlone view f b r c = (sure : Bool) → Continues model sure view f b r c

  -- a sign was consumed, and its place is answered, where it comes first; or nothing was
  abbrev pub Eats : (Token → Bool) → Buffer S → Result (Option Span) Error → Buffer S → Type 0
  Eats f b r c = (sure : Bool) → MatchResult r
      (λ o. MatchOption o (On model sure (eaten f) (λ x ts. Some (None, ts)) b c)
      (λ s. Heard model sure (eaten f) (Some s) b c))
      (λ e. Unheard model sure (eaten f) b e c)

  -- one token was consumed, which is the literal
  pub record TookLiteral {F C K : Type 0} (t : Tree F C K) (b c : Buffer S) : Type 0 where
    pub token : TokenAndSpan
    pub read : Read model b (token ∷ []) c
    pub literal : lit_of token.token token.span ≡ Some t

-- What an answer holds: a node has each number in it, and nothing is reached from these below the number k. Of the
-- number of a node, and of that with the operator after it.
module _ {F C K : Type 0} {fg : Ghosts F} {cg : Ghosts C} {kg : Ghosts K} where
  abbrev pub itself : ℕ → Nodes F C K fg cg kg → ExprId → Type 0
  itself k ns id = From k ns (expr_part id)

  abbrev pub operand_of : ℕ → Nodes F C K fg cg kg → ExprId × BinaryOp → Type 0
  operand_of k ns r = From k ns (expr_part r.0)

  -- of an item of a list, of an element of an array, with the place of the comma after it, and of all its elements
  abbrev pub item_of : ℕ → Nodes F C K fg cg kg → ExprOrSpread ExprId → Type 0
  item_of k ns x = From k ns (expr_part x.expr)

  abbrev pub elems_of : ℕ → Nodes F C K fg cg kg → Listed (Option (ExprOrSpread ExprId)) → Type 0
  elems_of k ns l = Apart k ns (elem_parts l.items)

  abbrev pub args_of : ℕ → Nodes F C K fg cg kg → Listed (ExprOrSpread ExprId) → Type 0
  args_of k ns l = Apart k ns (args_parts l.items)

  abbrev pub member_name_of : ℕ → Nodes F C K fg cg kg → MemberProp ExprId × BytePos → Type 0
  member_name_of k ns p = Apart k ns (member_parts p.0)

  -- of a key, of a method's function, of a property, with the place of the comma after it or not, and of all
  -- properties of an object literal
  abbrev pub key_of : ℕ → Nodes F C K fg cg kg → PropName ExprId → Type 0
  key_of k ns x = Apart k ns (key_parts x)

  abbrev pub shell_of : ℕ → Nodes F C K fg cg kg → Function PatId K → Type 0
  shell_of k ns f = Apart k ns (flat param_parts f.params.items)

  abbrev pub prop_of : ℕ → Nodes F C K fg cg kg → PropNode K → Type 0
  prop_of k ns x = Apart k ns (prop_parts x)

  abbrev pub props_of : ℕ → Nodes F C K fg cg kg → Listed (PropNode K) → Type 0
  props_of k ns l = Apart k ns (props_parts l.items)

module _ {F C K : Type 0} {fg : Ghosts F} {cg : Ghosts C} {kg : Ghosts K} where
  -- the tree of an expression, and of a literal, among nodes
  abbrev pub tree_of : Nodes F C K fg cg kg → ExprId → Tree F C K
  tree_of ns id = tree_at ns id.0

  abbrev pub item_at : Nodes F C K fg cg kg → ExprOrSpread ExprId → Tree F C K
  item_at ns x = item_tree (tree_of ns) x

  abbrev pub elems_at : Nodes F C K fg cg kg → Listed (Option (ExprOrSpread ExprId)) → Tree F C K
  elems_at ns l = listed l.trailing_comma l.end (elem_trees (tree_at ns) l.items)

  abbrev pub args_at : Nodes F C K fg cg kg → Listed (ExprOrSpread ExprId) → Tree F C K
  args_at ns l = listed l.trailing_comma l.end (item_trees (tree_of ns) l.items.items)

  abbrev pub member_name_at : Nodes F C K fg cg kg → MemberProp ExprId × BytePos → Tree F C K × BytePos
  member_name_at ns p = (member_prop_tree (tree_of ns) p.0, p.1)

  abbrev pub key_at : Nodes F C K fg cg kg → PropName ExprId → Tree F C K
  key_at ns x = prop_name_tree (tree_of ns) x

  abbrev pub shell_at : Nodes F C K fg cg kg → Function PatId K → Tree F C K
  shell_at ns f = function_tree kg.place (λ p. tree_at ns p.0) f

  abbrev pub prop_at : Nodes F C K fg cg kg → PropNode K → Tree F C K
  prop_at ns x = prop_tree fg.place cg.place kg.place (tree_at ns) x

  abbrev pub props_at : Nodes F C K fg cg kg → Listed (PropNode K) → Tree F C K
  props_at ns l = listed l.trailing_comma l.end (props_trees fg.place cg.place kg.place (tree_at ns) l.items)

  abbrev pub lit_in : Nodes F C K fg cg kg → Lit → Tree F C K
  lit_in ns l = lit_tree l

module _ {S H F C K : Type 0} {fg : Ghosts F} {cg : Ghosts C} {kg : Ghosts K} (model : Model S) (sure : Bool)
    {T A : Type 0} (held : ℕ → Nodes F C K fg cg kg → T → Type 0) (view : Nodes F C K fg cg kg → T → A)
    (f : Scope → List TokenAndSpan → Out A) where
  -- What a production does from p to q: it reads what f reads, from one token at least; nodes were appended alone, and
  -- the answer holds numbers from k on.
  pub record Produces (k : ℕ) (p : Productions S H F C K fg cg kg) (r : Result T Error)
      (q : Productions S H F C K fg cg kg) : Type 0 where
    pub reads : Parses model sure (view q.nodes) f p.input r q.input
    pub falls : OnOk r (to_come model q.input < to_come model p.input)
    pub grows : Grows p.nodes q.nodes
    pub from : IfOk r (λ t. held k q.nodes t)

  -- the same, where nothing may be consumed
  pub record GoesOn (k : ℕ) (p : Productions S H F C K fg cg kg) (r : Result T Error)
      (q : Productions S H F C K fg cg kg) : Type 0 where
    pub reads : Continues model sure (view q.nodes) f p.input r q.input
    pub falls : OnOk r (to_come model q.input ≤ to_come model p.input)
    pub grows : Grows p.nodes q.nodes
    pub from : IfOk r (λ t. held k q.nodes t)

module _ {S H F C K : Type 0} {fg : Ghosts F} {cg : Ghosts C} {kg : Ghosts K} (model : Model S) {T : Type 0}
    (held : ℕ → Nodes F C K fg cg kg → T → Type 0) where
  -- What is done from p to q in place of an operand that was refused, by the kind: a fault is recorded; nodes were
  -- appended alone, and the answer holds numbers of new ones. Effect says how tokens are consumed, and what is refused.
  pub record Recovers (Effect : Buffer S → Result T Error → Buffer S → Type 0) (kind : SyntaxError)
      (p : Productions S H F C K fg cg kg) (r : Result T Error) (q : Productions S H F C K fg cg kg) : Type 0 where
    pub effect : Effect p.input r q.input
    pub notes : Loud model p.input → OnOk r (recorded model p.input < recorded model q.input)
    -- out of memory is not recovered from
    pub some : OnOk r (kind ≢ OutOfMemory)
    pub memory : IfErr r (λ e. e.kind ≢ OutOfMemory → kind ≢ OutOfMemory)
    pub falls : OnOk r (to_come model q.input ≤ to_come model p.input)
    pub grows : Grows p.nodes q.nodes
    pub from : IfOk r (λ t. held (count p.nodes) q.nodes t)
