-- What answers hold of numbers where an assignment expression may be an arrow function (15.3, 15.9), and what is left
-- to read after them.
use Rattle.std.specs.Prelude.{◌≡◌, ◌<◌, ◌≤◌, ℕ, Bool, true, false, List, [], ◌∷◌, Option, Some, None, Result, MatchResult, OnOk, IfOk}
use Rattle.swc_context.specs.{declared.span.BytePos.BytePos, declared.span.Span.Span, declared.error.Error.Error}
use Rattle.swc_input.specs.{declared.buffer.Buffer.Buffer, declared.token.TokenAndSpan.TokenAndSpan, Kinds.at_token, Source.Model, Buffer.Known, Buffer.to_come, Recording.no_memory}
use Rattle.swc_ast.specs.{Parts.body_tree, Tree.Tree, Trees.is_valid, declared.expr.BlockStmtOrExpr.BlockStmtOrExpr, declared.expr.BlockStmtOrExpr.BlockStmtOrExpr as body, declared.spanned.Spanned.Ghosts}
use Rattle.swc_bodies.specs.Readings.{Hook}
use Rattle.swc_grammar.specs.Clean.{Out, first, run, climb}
use Rattle.swc_grammar.specs.{Reads.Reads, Scope.Scope, Symbols.Left, Tokens.is_await}
use Rattle.swc_nodes.specs.GrowingNodes.{tree_at, Apart, From, Grows}
use Rattle.swc_nodes.specs.NodeParts.{Part, body_parts, expr_part, one_expr}
use Rattle.swc_nodes.specs.{Lists.pats_parts, Lists.pat_trees, declared.node.ExprId.ExprId, declared.node.PatId.PatId, declared.nodes.Nodes.Nodes}
use Rattle.swc_input.specs.Calls.{recorded, Loud, Leads}
use Rattle.swc_steps.specs.Parsing.{scope, Onward, On, Heard, Unheard}
use Rattle.swc_steps.specs.declared.productions.Productions.{Productions}
use Rattle.swc_arrows.specs.Readers.{others, base_behind, arrow_behind, list_rest, no_sign, operand_behind}
use Rattle.swc_arrows.specs.{declared.bodies.ArrowOrBase.ArrowOrBase, declared.bodies.ArrowOrBase.ArrowOrBase as arrow_or, declared.lists.ListStart.ListStart, declared.names.ArrowHead.ArrowHead, declared.names.Beginning.Beginning, declared.names.Beginning.Beginning as begins}

-- whether a body is a block
abbrev pub has_block : {K : Type 0} → BlockStmtOrExpr ExprId K → Bool
has_block (body.BlockStmt k) = true
has_block (body.Expr e) = false

-- what is before a list in parentheses: the identifier `async`, or nothing
abbrev pub callee_parts : Option ExprId → List Part
callee_parts None = []
callee_parts (Some e) = one_expr e

-- what the grammar derives as an operand, from a token on that is no `await`
pub record Operand {F C K : Type 0} (hook : Hook F C K) (x : Scope) (ts us : List TokenAndSpan) (e : Tree F C K)
    : Type 0 where
  pub derived : Reads hook (Left true) x ts us e
  pub calm : at_token is_await (first ts) ≡ false

module _ {F C K : Type 0} {fg : Ghosts F} {cg : Ghosts C} {kg : Ghosts K} where
  -- of the body of an arrow function
  abbrev pub body_of : ℕ → Nodes F C K fg cg kg → BlockStmtOrExpr ExprId K → Type 0
  body_of k ns b = Apart k ns (body_parts b)

  abbrev pub body_at : Nodes F C K fg cg kg → BlockStmtOrExpr ExprId K → Tree F C K
  body_at ns b = body_tree kg.place (λ e. tree_at ns e.0) b

  -- of what it begins with, up to its `=>`; or of an operand
  abbrev pub beginning_of : ℕ → Nodes F C K fg cg kg → Beginning → Type 0
  beginning_of k ns (begins.Arrow h) = Apart k ns (pats_parts h.params)
  beginning_of k ns (begins.Base e) = From k ns (expr_part e)

  abbrev pub beginning_behind : Hook F C K → Nodes F C K fg cg kg → Beginning → Scope → List TokenAndSpan
      → Out (Tree F C K)
  beginning_behind hook ns (begins.Arrow h) = arrow_behind hook h.start h.is_async h.in_parens (pat_trees
      (tree_at ns) h.params)
  beginning_behind hook ns (begins.Base e) = base_behind hook (tree_at ns e.0)

  -- of what is before such a list
  abbrev pub callee_at : Nodes F C K fg cg kg → Option ExprId → Option (Tree F C K)
  callee_at ns None = None
  callee_at ns (Some e) = Some (tree_at ns e.0)

  abbrev pub list_start_of : ℕ → Nodes F C K fg cg kg → ListStart → Type 0
  list_start_of k ns s = Apart k ns (callee_parts s.callee)

  abbrev pub list_start_behind : Hook F C K → Nodes F C K fg cg kg → ListStart → Scope → List TokenAndSpan
      → Out (Tree F C K)
  list_start_behind hook ns s = list_rest hook (callee_at ns s.callee) s.at

  abbrev pub list_start_at : Nodes F C K fg cg kg → ListStart → Option (Tree F C K) × Span
  list_start_at ns s = (callee_at ns s.callee, s.at)

  -- of a whole arrow function, or an operand, or none
  abbrev pub arrow_or_base_of : ℕ → Nodes F C K fg cg kg → ArrowOrBase → Type 0
  arrow_or_base_of k ns (arrow_or.Arrow e) = From k ns (expr_part e)
  arrow_or_base_of k ns (arrow_or.Base e) = From k ns (expr_part e)
  arrow_or_base_of k ns (arrow_or.Operand e) = From k ns (expr_part e)
  arrow_or_base_of k ns arrow_or.Other = Unit {0}

-- the beginning of an arrow function, and no operand
abbrev pub IsArrow : Beginning → Type 0
IsArrow (begins.Arrow h) = Unit {0}
IsArrow (begins.Base e) = ⊥

-- the beginning of an arrow function with one parameter, or out of memory
abbrev pub OneParam : BytePos → Bool → PatId → BytePos → Result Beginning Error → Type 0
OneParam start is_async param at r = MatchResult r
    (λ b. (h : ArrowHead) × (b ≡ begins.Arrow h) × (h.start ≡ start)
    × (h.is_async ≡ is_async) × (h.in_parens ≡ false) × (h.params.items ≡ param ∷ [])) (λ e. e ≡ no_memory at)

module _ {S F C K : Type 0} {fg : Ghosts F} {cg : Ghosts C} {kg : Ghosts K} (model : Model S) (sure : Bool)
    (f : Scope → List TokenAndSpan → Out (Tree F C K)) where
  -- Where an operand was read, and no beginning of an arrow function: it is what f reads; and the same, of a token at
  -- least.
  abbrev pub IsBase : Nodes F C K fg cg kg → Beginning → Buffer S → Buffer S → Type 0
  IsBase ns (begins.Arrow h) b c = Unit {0}
  IsBase ns (begins.Base e) b c = On model sure f (λ x ts. Some (tree_at ns e.0, ts)) b c

  abbrev pub HearsBase : Nodes F C K fg cg kg → Beginning → Buffer S → Buffer S → Type 0
  HearsBase ns (begins.Arrow h) b c = Unit {0}
  HearsBase ns (begins.Base e) b c = Heard model sure f (tree_at ns e.0) b c

module _ {S F C K : Type 0} (model : Model S) (sure : Bool) (hook : Hook F C K) where
  -- Where e was read as an operand, which links may follow: by a reader of it, which reads only what the grammar
  -- derives, from a token on that is no `await`.
  pub record HearsOperand (e : Tree F C K) (b c : Buffer S) : Type 0 where
    pub reader : Scope → List TokenAndSpan → Out (Tree F C K)
    pub heard : Heard model sure reader e b c
    pub operand : (x : Scope) (ts us : List TokenAndSpan) (t : Tree F C K) → x.head ≡ false → reader x ts ≡ Some (t, us)
        → Operand hook x ts us t

module _ {S : Type 0} (model : Model S) (sure : Bool) where
  -- From b to c a fault was recorded, and f reads nothing.
  pub record Doomed {A : Type 0} (f : Scope → List TokenAndSpan → Out A) (b c : Buffer S) : Type 0 where
    pub leads : Leads model b c
    pub notes : Loud model b → recorded model b < recorded model c
    pub none : sure ≡ true → Loud model b → (ts : List TokenAndSpan) → Known model b ts → f (scope model b) ts ≡ None

  -- the same, where one token at least was consumed
  pub record Fails {A : Type 0} (f : Scope → List TokenAndSpan → Out A) (b c : Buffer S) : Type 0 where
    pub doomed : Doomed f b c
    pub onward : Onward model b doomed.leads.taken c

  -- from b to c one token at least was consumed, and from there on reading f is reading g
  pub record Opens {A : Type 0} (f g : Scope → List TokenAndSpan → Out A) (b c : Buffer S) : Type 0 where
    pub on : On model sure f g b c
    pub onward : Onward model b on.leads.taken c

  -- where a binary operator is barred after an arrow function: one was recorded, or there is none
  abbrev pub SignChecked : Bool → Bool → Buffer S → Buffer S → Type 0
  SignChecked bars true b c = Doomed (no_sign bars) b c
  SignChecked bars false b c = On model sure (no_sign bars) (λ x ts. Some (tt, ts)) b c

-- From b to c what an operand begins with was read: what is left of what f reads; and that the grammar derives it.
pub record Based {S F C K : Type 0} (model : Model S) (sure : Bool) (hook : Hook F C K)
    (f : Scope → List TokenAndSpan → Out (Tree F C K)) (e : Tree F C K) (b c : Buffer S) : Type 0 where
  pub opens : Opens model sure f (base_behind hook e) b c
  pub heard : HearsOperand model sure hook e b c

-- The same of a whole operand, by a reader of it: operators after it join what holds nothing that was refused.
pub record Operanded {S F C K : Type 0} (model : Model S) (sure : Bool) (hook : Hook F C K)
    (f : Scope → List TokenAndSpan → Out (Tree F C K)) (e : Tree F C K) (b c : Buffer S) : Type 0 where
  pub opens : Opens model sure f (operand_behind hook e) b c
  pub reader : Scope → List TokenAndSpan → Out (Tree F C K)
  pub heard : On model sure reader (λ x ts. Some (e, ts)) b c
  pub valid : (x : Scope) (ts us vs : List TokenAndSpan) (t k : Tree F C K) → x.head ≡ false
      → reader x ts ≡ Some (t, us) → run hook (climb t 0) x us ≡ Some (k, vs) → is_valid k ≡ true

module _ {S F C K : Type 0} {fg : Ghosts F} {cg : Ghosts C} {kg : Ghosts K} (model : Model S) (sure : Bool)
    (hook : Hook F C K)
    (f : Scope → List TokenAndSpan → Out (Tree F C K)) where
  -- Where what f reads may be an arrow function: what it is, and what is left to read.
  abbrev pub Begun : Nodes F C K fg cg kg → ArrowOrBase → Buffer S → Buffer S → Type 0
  Begun ns (arrow_or.Arrow e) b c = Heard model sure f (tree_at ns e.0) b c
  Begun ns (arrow_or.Base e) b c = Based model sure hook f (tree_at ns e.0) b c
  Begun ns (arrow_or.Operand e) b c = Fails model sure f b c
  Begun ns arrow_or.Other b c = On model sure f (others hook) b c

  -- the same, where it may be a whole operand
  abbrev pub Operated : Nodes F C K fg cg kg → ArrowOrBase → Buffer S → Buffer S → Type 0
  Operated ns (arrow_or.Base e) b c = Operanded model sure hook f (tree_at ns e.0) b c
  Operated ns a b c = Begun ns a b c

module _ {S F C K : Type 0} {fg : Ghosts F} {cg : Ghosts C} {kg : Ghosts K} (model : Model S) (sure : Bool)
    (f : Scope → List TokenAndSpan → Out (Tree F C K)) where
  -- After the `=>` of an arrow function: it was read, or operators follow it, which was recorded.
  abbrev pub Arrowed : Nodes F C K fg cg kg → ArrowOrBase → Buffer S → Buffer S → Type 0
  Arrowed ns (arrow_or.Arrow e) b c = Heard model sure f (tree_at ns e.0) b c
  Arrowed ns (arrow_or.Base e) b c = ⊥
  Arrowed ns (arrow_or.Operand e) b c = Fails model sure f b c
  Arrowed ns arrow_or.Other b c = ⊥

  -- After the body of an arrow function: it is whole, or operators follow it, which was recorded.
  abbrev pub Ended : Nodes F C K fg cg kg → ArrowOrBase → Buffer S → Buffer S → Type 0
  Ended ns (arrow_or.Arrow e) b c = On model sure f (λ x ts. Some (tree_at ns e.0, ts)) b c
  Ended ns (arrow_or.Base e) b c = ⊥
  Ended ns (arrow_or.Operand e) b c = Doomed model sure f b c
  Ended ns arrow_or.Other b c = ⊥

module _ {S H F C K : Type 0} {fg : Ghosts F} {cg : Ghosts C} {kg : Ghosts K} (model : Model S) (sure : Bool)
    (hook : Hook F C K)
    (f : Scope → List TokenAndSpan → Out (Tree F C K)) where
  -- What is done from p to q where what f reads may be an arrow function: nodes were appended alone, and the answer
  -- holds numbers from k on.
  pub record MayBeArrow (k : ℕ) (p : Productions S H F C K fg cg kg) (r : Result ArrowOrBase Error)
      (q : Productions S H F C K fg cg kg) : Type 0 where
    pub reads : MatchResult r (λ a. Begun model sure hook f q.nodes a p.input q.input)
        (λ e. Unheard model sure f p.input e q.input)
    pub falls : OnOk r (to_come model q.input ≤ to_come model p.input)
    pub grows : Grows p.nodes q.nodes
    pub from : IfOk r (λ a. arrow_or_base_of k q.nodes a)

  -- the same, up to where the operand ends
  pub record MayBeOperand (k : ℕ) (p : Productions S H F C K fg cg kg) (r : Result ArrowOrBase Error)
      (q : Productions S H F C K fg cg kg) : Type 0 where
    pub reads : MatchResult r (λ a. Operated model sure hook f q.nodes a p.input q.input)
        (λ e. Unheard model sure f p.input e q.input)
    pub falls : OnOk r (to_come model q.input ≤ to_come model p.input)
    pub grows : Grows p.nodes q.nodes
    pub from : IfOk r (λ a. arrow_or_base_of k q.nodes a)

module _ {S H F C K : Type 0} {fg : Ghosts F} {cg : Ghosts C} {kg : Ghosts K} (model : Model S) (sure : Bool)
    (f : Scope → List TokenAndSpan → Out (Tree F C K)) where
  -- the same, after the `=>` of an arrow function
  pub record ReadsArrow (k : ℕ) (p : Productions S H F C K fg cg kg) (r : Result ArrowOrBase Error)
      (q : Productions S H F C K fg cg kg) : Type 0 where
    pub reads : MatchResult r (λ a. Arrowed model sure f q.nodes a p.input q.input)
        (λ e. Unheard model sure f p.input e q.input)
    pub falls : OnOk r (to_come model q.input ≤ to_come model p.input)
    pub grows : Grows p.nodes q.nodes
    pub from : IfOk r (λ a. arrow_or_base_of k q.nodes a)

  -- the same, after the body
  pub record EndsArrow (k : ℕ) (p : Productions S H F C K fg cg kg) (r : Result ArrowOrBase Error)
      (q : Productions S H F C K fg cg kg) : Type 0 where
    pub reads : MatchResult r (λ a. Ended model sure f q.nodes a p.input q.input)
        (λ e. Unheard model sure f p.input e q.input)
    pub falls : OnOk r (to_come model q.input ≤ to_come model p.input)
    pub grows : Grows p.nodes q.nodes
    pub from : IfOk r (λ a. arrow_or_base_of k q.nodes a)
