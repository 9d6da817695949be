-- Trees whose parts were moved out of them, onto the end of a list: what holds the parts has their places in the list
-- as numbers.
use Rattle.std.specs.Prelude.{◌≡◌, ℕ, suc, List, [], ◌∷◌, ◌++◌, length, Result, IfOk}
use Rattle.std.specs.{declared.alloc.AllocError.AllocError, declared.alloc.Global.Global, declared.boxed.Box.Box}
use Rattle.swc_context.specs.declared.span.Span.{Span}
use Rattle.swc_ast.specs.TreeOf.{expr_tree, boxed_tree, pat_tree, pat_prop_tree, prop_tree, prop_or_spread_tree, target_tree}
use Rattle.swc_ast.specs.{Tree.Tree, declared.expr.AssignTarget.AssignTarget, declared.expr.AssignTarget.TheFolds.fold-AssignTarget, declared.expr.Expr.Expr, declared.pat.ObjectPatProp.ObjectPatProp, declared.pat.Pat.Pat, declared.prop.Prop.Prop, declared.prop.PropOrSpread.PropOrSpread}
use Rattle.swc_ast.specs.declared.expr.AssignTarget.TheOpen as o
use Rattle.swc_nodes.specs.NodeTree.{expr_of, pat_of, prop_of, pat_prop_of}
use Rattle.swc_nodes.specs.NodeParts.{Part, View, expr, pat, simple, pattern, slots, prop_parts, pat_prop_parts}
use Rattle.swc_nodes.specs.{declared.node.ExprId.ExprId, declared.node.Node.Node, declared.node.PatId.PatId, declared.node.PatPropNode.PatPropNode, declared.node.PropNode.PropNode}
use Rattle.swc_trees.specs.{Building.built_tree, Moving.IsNode, declared.built.Built.Built, declared.built.Built.Built as built}

-- what the node of a tree is to be
module _ (F C K : Type 0) where
  abbrev target_step : o.AssignTarget-F F C K View View View View View View → View
  target_step (o.Simple s) = simple
  target_step (o.AssignTarget::Array s elems) = pattern
  target_step (o.AssignTarget::Object s props) = pattern

  abbrev pub view_of : AssignTarget F C K → View
  view_of = fold-AssignTarget F C K View View View View View View target_step (λ e. expr) (λ p. pat) (λ p. pat)
      (λ p. expr) (λ p. expr)

abbrev pub target_view : {F C K : Type 0} → AssignTarget F C K → View
target_view {F} {C} {K} t = view_of F C K t

abbrev pub built_view : {F C K : Type 0} → Built F C K → View
built_view (built.Expr e) = expr
built_view (built.Pat p) = pat
built_view (built.Target t) = target_view t

-- what is to be such a node, by its number
abbrev pub part : View → ℕ → Part
part v i = record { at = i; view = v }

-- the parts that trees are, by their numbers
abbrev pub numbered : List View → List ℕ → List Part
numbered [] is = []
numbered (v ∷ vs) [] = []
numbered (v ∷ vs) (i ∷ is) = part v i ∷ numbered vs is

-- the same by their places in a list, from the place k on
abbrev pub places : {F C K : Type 0} → ℕ → List (Built F C K) → List Part
places k [] = []
places k (b ∷ bs) = part (built_view b) k ∷ places (suc k) bs

-- the hook's types, and where their values are
module _ {F C K : Type 0} (fun_at : F → Span) (class_at : C → Span) (block_at : K → Span) where
  -- what is given for the places from k on is what the trees stand for
  abbrev pub AreAt : (ℕ → Tree F C K) → ℕ → List (Built F C K) → Type 0
  AreAt at k [] = Unit {0}
  AreAt at k (b ∷ bs) = (at k ≡ built_tree fun_at class_at block_at b) × AreAt at (suc k) bs

  -- Trees were moved to the end of a list. What is left holds their places, and is what `same` says, where they stand
  -- for the trees.
  pub record Split {Y : Type 0} (parts : Y → List Part) (same : (ℕ → Tree F C K) → Y → Type 0)
      (old : List (Built F C K)) (y : Y) (new : List (Built F C K)) : Type 0 where
    pub own : List (Built F C K)
    pub added : new ≡ old ++ own
    pub placed : parts y ≡ places (length old) own
    pub moved : (at : ℕ → Tree F C K) → AreAt at (length old) own → same at y

  -- the same, or memory ran out
  pub record SplitsTo {Y : Type 0} (parts : Y → List Part) (same : (ℕ → Tree F C K) → Y → Type 0)
      (old : List (Built F C K)) (r : Result Y AllocError) (new : List (Built F C K)) : Type 0 where
    pub split : IfOk r (λ y. Split parts same old y new)

-- the trees of what boxed trees are made of
pub record Wholes (F C K : Type 0) : Type 0 where
  pub boxed : Box (Expr F C K) Global → Tree F C K
  pub expr : Expr F C K → Tree F C K
  pub pat : Pat F C K → Tree F C K
  pub target : AssignTarget F C K → Tree F C K
  pub prop : Prop F C K → Tree F C K
  pub prop_or_spread : PropOrSpread F C K → Tree F C K
  pub pat_prop : ObjectPatProp F C K → Tree F C K

-- what numbers stand for
pub record Numbers (F C K : Type 0) : Type 0 where
  pub expr : ExprId → Tree F C K
  pub pat : PatId → Tree F C K

module _ {F C K : Type 0} (fun_at : F → Span) (class_at : C → Span) (block_at : K → Span) where
  abbrev pub wholes : Wholes F C K
  wholes = record {
    boxed = boxed_tree F C K fun_at class_at block_at;
    expr = expr_tree F C K fun_at class_at block_at;
    pat = pat_tree F C K fun_at class_at block_at;
    target = target_tree F C K fun_at class_at block_at;
    prop = prop_tree F C K fun_at class_at block_at;
    prop_or_spread = prop_or_spread_tree F C K fun_at class_at block_at;
    pat_prop = pat_prop_tree F C K fun_at class_at block_at;
  }

  abbrev pub numbers : (ℕ → Tree F C K) → Numbers F C K
  numbers at = record { expr = expr_of fun_at class_at block_at at; pat = pat_of fun_at class_at block_at at }

  -- the same, by the trees of what boxed trees are made of, and what numbers stand for
  abbrev pub Splits : {Y : Type 0} → (Y → List Part) → (Wholes F C K → Numbers F C K → Y → Type 0) → List (Built F C K)
      → Result Y AllocError → List (Built F C K) → Type 0
  Splits parts same old r new = SplitsTo fun_at class_at block_at parts (λ at. same wholes (numbers at)) old r new

  -- of a node for a tree, of a property, and of one of a pattern
  abbrev pub SplitsNode : View → (Wholes F C K → Tree F C K) → List (Built F C K) → Result (Node F C K) AllocError
      → List (Built F C K) → Type 0
  SplitsNode v tree old r new = SplitsTo fun_at class_at block_at slots
      (IsNode fun_at class_at block_at v (tree wholes)) old r new

  abbrev pub SplitsProp : (Wholes F C K → Tree F C K) → List (Built F C K) → Result (PropNode K) AllocError
      → List (Built F C K) → Type 0
  SplitsProp tree old r new = SplitsTo fun_at class_at block_at prop_parts
      (λ at y. prop_of fun_at class_at block_at at y ≡ tree wholes) old r new

  abbrev pub SplitsPatProp : (Wholes F C K → Tree F C K) → List (Built F C K) → Result PatPropNode AllocError
      → List (Built F C K) → Type 0
  SplitsPatProp tree old r new = SplitsTo fun_at class_at block_at pat_prop_parts
      (λ at y. pat_prop_of fun_at class_at block_at at y ≡ tree wholes) old r new
