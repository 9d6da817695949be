-- What moving trees out of the nodes, and into them, does.
use Rattle.std.specs.Prelude.{◌≡◌, ℕ, true, List, [], ◌∷◌, Result, IfOk}
use Rattle.std.specs.{declared.alloc.AllocError.AllocError, declared.alloc.Global.Global, declared.boxed.Box.Box}
use Rattle.swc_context.specs.declared.span.Span.{Span}
use Rattle.swc_ast.specs.TreeOf.{boxed_tree, pat_tree, pat_prop_tree, prop_or_spread_tree}
use Rattle.swc_ast.specs.{Tree.Tree, declared.spanned.Spanned.Ghosts, declared.expr.Expr.Expr, declared.for_head.ForHead.ForHead, declared.for_head.ForHead.ForHead as boxed_head, declared.pat.ObjectPatProp.ObjectPatProp, declared.pat.Pat.Pat, declared.prop.PropOrSpread.PropOrSpread}
use Rattle.swc_nodes.specs.NodeTree.{marked_tree, prop_of, pat_prop_of}
use Rattle.swc_nodes.specs.NodeParts.{Part, View, form, view_ok}
use Rattle.swc_nodes.specs.GrowingNodes.{count, seat_at, tree_at, bare_at, Apart, Grows, Left}
use Rattle.swc_nodes.specs.{NumberedTrees.floor, declared.node.ForHeadId.ForHeadId, declared.node.ForHeadId.ForHeadId as head, declared.node.Node.Node, declared.node.PatPropNode.PatPropNode, declared.node.PropNode.PropNode, declared.nodes.Nodes.Nodes}

-- what is given for each part is what it has there
abbrev pub AreGiven : {F C K : Type 0} → (ℕ → Tree F C K) → (ℕ → Tree F C K) → List Part → Type 0
AreGiven at of [] = Unit {0}
AreGiven at of (p ∷ ps) = (at p.at ≡ of p.at) × AreGiven at of ps

module _ {F C K : Type 0} (fun_at : F → Span) (class_at : C → Span) (block_at : K → Span) where
  -- a node that is what the part is to be, and stands for the tree where its parts stand for what is given
  pub record IsNode (v : View) (tree : Tree F C K) (at : ℕ → Tree F C K) (x : Node F C K) : Type 0 where
    pub stands : marked_tree fun_at class_at block_at at x ≡ tree
    pub view : view_ok v (form x) ≡ true

module _ {F C K : Type 0} {fg : Ghosts F} {cg : Ghosts C} {kg : Ghosts K} where
  -- what is given for each part is what it stands for among the nodes; and that without the marks of commas, as trees
  -- in boxes are
  abbrev pub Agrees : (ℕ → Tree F C K) → Nodes F C K fg cg kg → List Part → Type 0
  Agrees at ns ps = AreGiven at (tree_at ns) ps

  abbrev pub AgreesBare : (ℕ → Tree F C K) → Nodes F C K fg cg kg → List Part → Type 0
  AgreesBare at ns ps = AreGiven at (bare_at ns) ps

  -- Parts were taken out, the last first, and none with a number below the smallest that is reached from them. What is
  -- answered is what `same` says, where the parts stand for what they stood for, without the marks of commas.
  pub record TakesOut {Y : Type 0} (ps : List Part) (same : (ℕ → Tree F C K) → Y → Type 0) (ns : Nodes F C K fg cg kg)
      (r : Result Y AllocError) (ms : Nodes F C K fg cg kg) : Type 0 where
    pub left : Left (floor (seat_at ns) (count ns) ps) ns ms
    pub moved : IfOk r (λ y. (at : ℕ → Tree F C K) → AgreesBare at ns ps → same at y)

  -- The parts of what is answered lie apart, from the number k on, and it is what `same` says, where its parts stand
  -- for what they stand for.
  pub record Put {Y : Type 0} (parts : Y → List Part) (same : (ℕ → Tree F C K) → Y → Type 0) (k : ℕ)
      (ms : Nodes F C K fg cg kg) (y : Y) : Type 0 where
    pub apart : Apart k ms (parts y)
    pub moved : (at : ℕ → Tree F C K) → Agrees at ms (parts y) → same at y

  -- Parts were put in, in their order, after all nodes that there were.
  pub record PutsIn {Y : Type 0} (parts : Y → List Part) (same : (ℕ → Tree F C K) → Y → Type 0)
      (ns : Nodes F C K fg cg kg) (r : Result Y AllocError) (ms : Nodes F C K fg cg kg) : Type 0 where
    pub grows : Grows ns ms
    pub put : IfOk r (Put parts same (count ns) ms)

  -- the trees of boxes, and of what is in them, where the hook's values lie as these nodes have it
  abbrev pub boxed_in : Nodes F C K fg cg kg → Box (Expr F C K) Global → Tree F C K
  boxed_in ns = boxed_tree F C K fg.place cg.place kg.place

  abbrev pub pat_in : Nodes F C K fg cg kg → Pat F C K → Tree F C K
  pat_in ns = pat_tree F C K fg.place cg.place kg.place

  abbrev pub prop_or_spread_in : Nodes F C K fg cg kg → PropOrSpread F C K → Tree F C K
  prop_or_spread_in ns = prop_or_spread_tree F C K fg.place cg.place kg.place

  abbrev pub pat_prop_in : Nodes F C K fg cg kg → ObjectPatProp F C K → Tree F C K
  pat_prop_in ns = pat_prop_tree F C K fg.place cg.place kg.place

  -- what the head of a `for` begins with is of the same sort in boxes, and the tree that the number stands for, without
  -- the marks of commas
  abbrev pub IsHead : Nodes F C K fg cg kg → ForHeadId → ForHead F C K → Type 0
  IsHead ns (head.Target p) (boxed_head.Target b) = pat_in ns b.value ≡ bare_at ns p.0
  IsHead ns (head.Expr e) (boxed_head.Expr b) = boxed_in ns b ≡ bare_at ns e.0
  IsHead ns h b = ⊥

  abbrev pub prop_node_as : Nodes F C K fg cg kg → (ℕ → Tree F C K) → PropNode K → Tree F C K
  prop_node_as ns = prop_of fg.place cg.place kg.place

  abbrev pub pat_prop_node_as : Nodes F C K fg cg kg → (ℕ → Tree F C K) → PatPropNode → Tree F C K
  pat_prop_node_as ns = pat_prop_of fg.place cg.place kg.place
