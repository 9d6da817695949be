-- Trees that were taken out, and what is made of them: the part of a node, or the node, that they are parts of.
use Rattle.std.specs.Prelude.{◌≡◌, ℕ, List, ◌++◌, Result, IfOk, map}
use Rattle.std.specs.{declared.alloc.AllocError.AllocError, declared.alloc.Global.Global, declared.boxed.Box.Box}
use Rattle.swc_context.specs.declared.span.Span.{Span}
use Rattle.swc_ast.specs.TreeOf.{expr_tree, boxed_tree, pat_tree, prop_tree, target_tree}
use Rattle.swc_ast.specs.{Tree.Tree, declared.expr.Expr.Expr, declared.prop.Prop.Prop}
use Rattle.swc_nodes.specs.NodeParts.{View, Part, expr, pat, simple, pattern, prop_parts, slots}
use Rattle.swc_nodes.specs.{NodeTree.node_tree, NodeTree.expr_of, NodeTree.prop_of, declared.node.ExprId.ExprId, declared.node.Node.Node, declared.node.PropNode.PropNode}
use Rattle.swc_trees.specs.declared.built.Built.{Built, Built as built}

-- what a tree is
pub data Kind : Type 0 where
  an_expr : Kind
  a_pat : Kind
  a_target : Kind

abbrev pub kind_of : View → Kind
kind_of expr = an_expr
kind_of pat = a_pat
kind_of simple = a_target
kind_of pattern = a_target

abbrev pub part_kind : Part → Kind
part_kind p = kind_of p.view

abbrev pub built_kind : {F C K : Type 0} → Built F C K → Kind
built_kind (built.Expr e) = an_expr
built_kind (built.Pat p) = a_pat
built_kind (built.Target t) = a_target

-- the last trees of a list are what the parts are, in their order
pub record Offers {F C K : Type 0} (ps : List Part) (bs : List (Built F C K)) : Type 0 where
  pub front : List Kind
  pub ends : map built_kind bs ≡ front ++ map part_kind ps

-- the hook's types, and where their values are
module _ {F C K : Type 0} (fun_at : F → Span) (class_at : C → Span) (block_at : K → Span) where
  abbrev pub built_tree : Built F C K → Tree F C K
  built_tree (built.Expr e) = boxed_tree F C K fun_at class_at block_at e
  built_tree (built.Pat p) = pat_tree F C K fun_at class_at block_at p
  built_tree (built.Target t) = target_tree F C K fun_at class_at block_at t

  -- the trees stand for what is given for the parts
  abbrev pub Stand : (ℕ → Tree F C K) → List Part → List (Built F C K) → Type 0
  Stand at ps bs = map built_tree bs ≡ map (λ p. at p.at) ps

  -- the trees are what the parts are, and stand for what is given for them
  abbrev pub AreFor : (ℕ → Tree F C K) → List Part → List (Built F C K) → Type 0
  AreFor at ps bs = (map built_kind bs ≡ map part_kind ps) × Stand at ps bs

  -- The last trees of a list, one for each part, were taken from it. What is made of them is what `same` says, where
  -- they stand for the parts.
  pub record Assembled (ps : List Part) (same : (ℕ → Tree F C K) → Type 0) (old : List (Built F C K))
      (new : List (Built F C K)) : Type 0 where
    pub own : List (Built F C K)
    pub split : old ≡ new ++ own
    pub kinds : map built_kind own ≡ map part_kind ps
    pub moved : (at : ℕ → Tree F C K) → Stand at ps own → same at

  -- the same, by the trees that boxes stand for, and that are given for numbers
  abbrev pub Assembles : List Part → ((Box (Expr F C K) Global → Tree F C K) → (ExprId → Tree F C K) → Type 0)
      → List (Built F C K) → List (Built F C K) → Type 0
  Assembles ps same old new = Assembled ps (λ at. same (boxed_tree F C K fun_at class_at block_at)
      (expr_of fun_at class_at block_at at)) old new

  -- the same, or memory ran out
  abbrev pub AssemblesIf : {Y : Type 0} → List Part → ((Box (Expr F C K) Global → Tree F C K) → (ExprId → Tree F C K)
      → Y → Type 0) → List (Built F C K) → Result Y AllocError → List (Built F C K) → Type 0
  AssemblesIf ps same old r new = IfOk r (λ y. Assembled ps
      (λ at. same (boxed_tree F C K fun_at class_at block_at) (expr_of fun_at class_at block_at at) y) old new)

  -- the same of an expression, which takes the place of a node
  abbrev pub AssemblesExpr : Node F C K → List (Built F C K) → Result (Expr F C K) AllocError → List (Built F C K)
      → Type 0
  AssemblesExpr node old r new = IfOk r (λ y. Assembled (slots node)
      (λ at. expr_tree F C K fun_at class_at block_at y ≡ node_tree fun_at class_at block_at at node) old new)

  -- the same of a property
  abbrev pub AssemblesProp : PropNode K → List (Built F C K) → Prop F C K → List (Built F C K) → Type 0
  AssemblesProp prop old y new = Assembled (prop_parts prop)
      (λ at. prop_tree F C K fun_at class_at block_at y ≡ prop_of fun_at class_at block_at at prop) old new
