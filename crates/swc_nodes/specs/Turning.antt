-- What parts became that were to become patterns, each node where it is.
use Rattle.std.specs.Prelude.{◌≡◌, ℕ, ◌≤◌, ◌<◌, Bool, true, false, if◌then◌else◌, List, [], ◌∷◌, Option, get_or, length, map, take}
use Rattle.std.specs.{declared.alloc.Global.Global, declared.vec.Vec.Vec}
use Rattle.swc_context.specs.declared.span.Span.{Span}
use Rattle.swc_ast.specs.{Parts.no_tree, declared.spanned.Spanned.Ghosts}
use Rattle.swc_ast.specs.Tree.{Kind, Tree, node, no_span, span_of}
use Rattle.swc_nodes.specs.GrowingNodes.{count, tree_at, Apart}
use Rattle.swc_nodes.specs.NodeParts.{Part, expr, form, slots, view_ok}
use Rattle.swc_nodes.specs.Recasting.{bare_part, bare_some, bare_prop, elems_for, left_for, props_for, turned}
use Rattle.swc_nodes.specs.Roles.{Due, becomes_as, dues_of, part_of_due, ready}
use Rattle.swc_nodes.specs.{NodeTree.marked_tree, declared.node.Node.Node, declared.node.Node.Node as n, declared.node.PatElem.PatElem, declared.node.PatPropNode.PatPropNode, declared.nodes.Nodes.Nodes, declared.role.Becomes.Becomes, declared.role.Becomes.Becomes as to, declared.role.Role.Role, declared.role.Role.Role as role}

-- a node without parts, and the node of a number
abbrev pub no_node : {F C K : Type 0} → Node F C K
no_node = n.PatInvalid (record { span = no_span })

abbrev pub node_at : {F C K : Type 0} → List (Node F C K) → ℕ → Node F C K
node_at xs i = get_or xs i no_node

-- what is kept is what it was, and so is an expression that is assigned to as it is
abbrev pub stays_as : Becomes → Role → Bool
stays_as to.Held r = true
stays_as b role.Keep = true
stays_as b r = false

abbrev pub became : {F C K : Type 0} → (Role → Tree F C K → Tree F C K) → Becomes → Role → Tree F C K → Tree F C K
became S b r t = if stays_as b r then t else S r t

abbrev pub kind_of : {F C K : Type 0} → Tree F C K → Kind F C K
kind_of (node k s ts) = k

-- the parts of a node are among the nodes, and are what they are to be
abbrev pub PartsIn : {F C K : Type 0} → List (Node F C K) → List Part → Type 0
PartsIn xs [] = Unit {0}
PartsIn xs (p ∷ ps) = ((p.at < length xs) × (view_ok p.view (form (node_at xs p.at)) ≡ true)) × PartsIn xs ps

-- what becomes another node
abbrev pub is_made : Becomes → Bool
is_made to.Same = false
is_made to.Again = false
is_made to.Held = false
is_made b = true

-- ---- the node that another becomes

pub record IsArray {F C K : Type 0} (s : Span) (es : List (Option PatElem)) (y : Node F C K) : Type 0 where
  pub elems : Vec (Option PatElem) Global
  pub is : y ≡ n.PatArray s elems
  pub items : elems.items ≡ es

pub record IsObject {F C K : Type 0} (s : Span) (ps : List PatPropNode) (y : Node F C K) : Type 0 where
  pub props : Vec PatPropNode Global
  pub is : y ≡ n.PatObject s props
  pub items : props.items ≡ ps

-- what lies where its node says, or where the expression lies that it is
abbrev pub is_placed : {F C K : Type 0} → Node F C K → Bool
is_placed (n.PatExpr e) = true
is_placed x = view_ok expr (form x)

-- a pattern that is to bind
abbrev pub IsAgain : {F C K : Type 0} → Node F C K → Node F C K → Type 0
IsAgain (n.PatArray s elems) y = IsArray s (map bare_some elems.items) y
IsAgain (n.PatObject s props) y = IsObject s (map bare_prop props.items) y
IsAgain (n.PatAssign s l r) y = y ≡ n.PatAssign s (bare_part l) r
IsAgain x y = y ≡ x

-- by the nodes that the numbers of its parts have, and where these lie
module _ {F C K : Type 0} (at : ℕ → Node F C K) (place : ℕ → Span) (own : Node F C K → Span) where
  abbrev pub IsRecast : Becomes → Role → Node F C K → Node F C K → Type 0
  IsRecast to.Ident r (n.Ident i) y = y ≡ n.PatIdent (record { id = i })
  IsRecast to.Array r (n.Array s elems comma) y = IsArray s (elems_for at place r elems.items) y
  IsRecast to.Object r (n.Object s props comma) y = IsObject s (props_for at r props.items) y
  IsRecast to.Default r (n.Assign s o l e) y = y ≡ n.PatAssign s (left_for at r l) e
  IsRecast to.Again r x y = IsAgain x y
  IsRecast to.Nothing r x y = y ≡ n.PatInvalid (record { span = own x })
  IsRecast (to.Instead s) r x y = y ≡ n.PatInvalid (record { span = s })
  IsRecast b r x y = y ≡ x

-- ---- what a tree becomes, by what those of its parts became

module _ {F C K : Type 0} (fun_at : F → Span) (class_at : C → Span) (block_at : K → Span) where
  -- where a node lies, and the kind of its tree
  abbrev pub own_place : (ℕ → Tree F C K) → Node F C K → Span
  own_place old x = span_of (marked_tree fun_at class_at block_at old x)

  -- The node that another becomes, among nodes. Where an expression lies goes by its node alone, and a pattern that is
  -- an expression lies where that does.
  abbrev pub bare_tree : List (Node F C K) → ℕ → Tree F C K
  bare_tree xs i = marked_tree fun_at class_at block_at (λ j. no_tree) (node_at xs i)

  abbrev pub place_in : List (Node F C K) → ℕ → Span
  place_in xs i = span_of (bare_tree xs i)

  abbrev pub RecastIn : List (Node F C K) → Becomes → Role → Node F C K → Node F C K → Type 0
  RecastIn xs = IsRecast (node_at xs) (place_in xs) (own_place (bare_tree xs))

  -- the trees that are given for parts are of the kinds of their nodes, which are what the parts are to be
  abbrev pub OfKind : (ℕ → Node F C K) → (ℕ → Tree F C K) → List Part → Type 0
  OfKind at old [] = Unit {0}
  OfKind at old (p ∷ ps) =
      ((kind_of (old p.at) ≡ kind_of (marked_tree fun_at class_at block_at (λ i. no_tree) (at p.at)))
      × (view_ok p.view (form (at p.at)) ≡ true)) × OfKind at old ps

  abbrev pub Became : (Role → Tree F C K → Tree F C K) → (ℕ → Node F C K) → (ℕ → Tree F C K) → (ℕ → Tree F C K) →
      List Due → Type 0
  Became S at old now [] = Unit {0}
  Became S at old now (q ∷ qs) =
      (now q.part.at ≡ became S (becomes_as q.role (at q.part.at)) q.role (old q.part.at)) × Became S at old now qs

  -- a function that says what each tree becomes, by its role: at each node, whose parts became what they are to
  pub record Law (S : Role → Tree F C K → Tree F C K) : Type 0 where
    pub law : (at : ℕ → Node F C K) (old now : ℕ → Tree F C K) (r : Role) (x y : Node F C K) →
        ready r (form x) ≡ true → OfKind at old (slots x) →
        IsRecast at (λ i. span_of (old i)) (own_place old) (becomes_as r x) r x y →
        Became S at old now (dues_of r x) →
        marked_tree fun_at class_at block_at now y
        ≡ became S (becomes_as r x) r (marked_tree fun_at class_at block_at old x)

-- ---- among nodes

module _ {F C K : Type 0} {fg : Ghosts F} {cg : Ghosts C} {kg : Ghosts K} where
  -- the nodes with numbers below k stay
  pub record KeptBelow (k : ℕ) (ns ms : Nodes F C K fg cg kg) : Type 0 where
    pub kept : take k ms.nodes.items ≡ take k ns.nodes.items
    pub above : k ≤ count ms

  -- parts became what they are to: they lie apart from the number k on, with the views that they have then
  pub record Turned (S : Role → Tree F C K → Tree F C K) (k : ℕ) (ns : Nodes F C K fg cg kg) (qs : List Due)
      (ms : Nodes F C K fg cg kg) : Type 0 where
    pub apart : Apart k ms (map (turned (node_at ns.nodes.items)) qs)
    pub stands : Became fg.place cg.place kg.place S (node_at ns.nodes.items) (tree_at ns) (tree_at ms) qs

  -- the same for all that trees may be to become
  abbrev pub AllTurned : ℕ → Nodes F C K fg cg kg → List Due → Nodes F C K fg cg kg → Type 0
  AllTurned k ns qs ms = (S : Role → Tree F C K → Tree F C K) → Law fg.place cg.place kg.place S → Turned S k ns qs ms

  -- the parts lie apart from the number k on, as they are
  abbrev pub DuesApart : ℕ → Nodes F C K fg cg kg → List Due → Type 0
  DuesApart k ns qs = Apart k ns (map part_of_due qs)
