-- The cover names of a node's tree are those that are found by what is due of it.
use Rattle.std.proofs.Common.{◌≡◌, ℕ, ◌<◌, Bool, true, false, if◌then◌else◌, List, [], ◌∷◌, ◌++◌, Option, Some, None, map, refl, sym, ap, ◌∙◌, append_assoc}
use Rattle.std.proofs.lemmas.List.{append-nil}
use Rattle.std.specs.{declared.alloc.Global.Global, declared.vec.Vec.Vec}
use Rattle.swc_context.specs.declared.span.Span.{Span}
use Rattle.swc_ast.specs.Parts.{or_hole, prop_name_tree, member_prop_tree, super_part_tree, item_of, item_tree, item_trees, args_tree, base_tree, callee_tree, quasi_tree, tpl_tree, param_tree, function_tree, body_tree}
use Rattle.swc_ast.specs.{Tree.Tree, Tree.trees, declared.expr.BlockStmtOrExpr.BlockStmtOrExpr, declared.expr.BlockStmtOrExpr.BlockStmtOrExpr as body, declared.expr.Callee.Callee, declared.expr.Callee.Callee as callee, declared.expr.ExprOrSpread.ExprOrSpread, declared.expr.MemberProp.MemberProp, declared.expr.MemberProp.MemberProp as member_prop, declared.expr.OptChainBase.OptChainBase, declared.expr.OptChainBase.OptChainBase as base, declared.expr.SuperProp.SuperProp, declared.expr.SuperProp.SuperProp as super_part, declared.expr.Tpl.Tpl, declared.expr.TplElement.TplElement, declared.function.Function.Function, declared.prop.PropName.PropName, declared.prop.PropName.PropName as prop_name, declared.spanned.Spanned.Ghosts}
use Rattle.swc_nodes.specs.NodeTree.{target_of, prop_of, pat_prop_of, marked_tree, part_tree, pat_elem_of}
use Rattle.swc_nodes.specs.NodeParts.{Part, slots, flat, if_some, one_expr, one_pat, item_parts, args_parts, key_parts, member_parts, super_parts, callee_parts, base_parts, param_parts, prop_parts, pat_prop_parts, target_part, body_parts, part_parts, pat_elem_part}
use Rattle.swc_nodes.specs.GrowingNodes.{count, seat_before, tree_at, Stood}
use Rattle.swc_nodes.specs.{declared.node.ExprId.ExprId, declared.node.PatId.PatId, declared.node.Node.Node, declared.node.Node.Node as n, declared.node.PatPropNode.PatPropNode, declared.node.PatPropNode.PatPropNode as pat_prop, declared.node.PropNode.PropNode, declared.node.PropNode.PropNode as prop, declared.node.TargetNode.TargetNode, declared.node.TargetNode.TargetNode as target, declared.nodes.Nodes.Nodes, declared.node.PatElem.PatElem, declared.node.PatElem.PatElem as elem, declared.node.PatPart.PatPart, declared.node.PatPart.PatPart as of_pat}
use Rattle.swc_nodes.proofs.Lists.{SameTrees, same_first, same_rest, same-front, same-back, stood-trees}
use Rattle.swc_ecma_parser.specs.CoverNames.{covers_by, covers_by_of_all}
use Rattle.swc_ecma_parser.specs.Dues.{Task, part_dues, prop_dues, node_dues, names_of, names_due}

module _ {F C K : Type 0} (b : Bool) (at : ℕ → Tree F C K) where
  pub names-append : (ts us : List Task) → names_due b at (ts ++ us) ≡ names_due b at ts ++ names_due b at us
  names-append [] us = refl
  names-append (t ∷ ts) us =
      ap (λ v. names_of b at t ++ v) (names-append ts us) ∙ sym
      (append_assoc (names_of b at t) (names_due b at ts) (names_due b at us))

  abbrev names_by : List Part → List Span
  names_by ps = names_due b at (part_dues ps)

  part_append : (ps qs : List Part) → names_by (ps ++ qs) ≡ names_by ps ++ names_by qs
  part_append [] qs = refl
  part_append (p ∷ ps) qs =
      ap (λ v. covers_by b (at p.at) ++ v) (part_append ps qs)
      ∙ sym (append_assoc (covers_by b (at p.at)) (names_by ps) (names_by qs))

  -- two parts of a tree, one after another
  both : (ps qs : List Part) (x y : List Span) → x ≡ names_by ps → y ≡ names_by qs → x ++ y ≡ names_by (ps ++ qs)
  both ps qs x y d e = ap (λ v. v ++ y) d ∙ ap (λ v. names_by ps ++ v) e ∙ sym (part_append ps qs)

  -- lists of parts
  pub listed : {X : Type 0} (f : X → Tree F C K) (parts : X → List Part)
      → ((x : X) → covers_by b (f x) ≡ names_by (parts x))
      → (xs : List X) → covers_by_of_all b (trees (map f xs)) ≡ names_by (flat parts xs)
  listed f parts same [] = refl
  listed f parts same (x ∷ xs) = both (parts x) (flat parts xs) _ _ (same x) (listed f parts same xs)

  texts : {X : Type 0} (f : X → Tree F C K) (parts : X → List Part) → ((x : X) → covers_by b (f x) ≡ names_by (parts x))
      → (qs : List TplElement) (xs : List X)
      → covers_by_of_all b (trees (map quasi_tree qs ++ map f xs)) ≡ names_by (flat parts xs)
  texts f parts same [] xs = listed f parts same xs
  texts f parts same (q ∷ qs) xs = texts f parts same qs xs

  module _ {X : Type 0} (f : X → Tree F C K) (parts : X → List Part)
      (same : (x : X) → covers_by b (f x) ≡ names_by (parts x)) where
    if_there : (o : Option X) → covers_by b (or_hole f o) ≡ names_by (if_some parts o)
    if_there None = refl
    if_there (Some x) = same x

    item_same : (o : Option Span) (x : X) → covers_by b (item_of o (f x)) ≡ names_by (parts x)
    item_same None x = append-nil (covers_by b (f x)) ∙ same x
    item_same (Some s) x = append-nil (covers_by b (f x)) ∙ same x

  abbrev expr : ExprId → Tree F C K
  expr e = at e.0

  abbrev pat : PatId → Tree F C K
  pat p = at p.0

  pub expr_same : (e : ExprId) → covers_by b (expr e) ≡ names_by (one_expr e)
  expr_same e = sym (append-nil (covers_by b (at e.0)))

  pub pat_same : (p : PatId) → covers_by b (pat p) ≡ names_by (one_pat p)
  pat_same p = sym (append-nil (covers_by b (at p.0)))

  an_item : (x : ExprOrSpread ExprId) → covers_by b (item_tree expr x) ≡ names_by (item_parts x)
  an_item x = item_same expr one_expr expr_same x.spread x.expr

  items : (xs : List (ExprOrSpread ExprId)) → covers_by_of_all b (item_trees expr xs) ≡ names_by (flat item_parts xs)
  items = listed (item_tree expr) item_parts an_item

  pub args_names : (xs : Vec (ExprOrSpread ExprId) Global) → covers_by b (args_tree expr xs) ≡ names_by (args_parts xs)
  args_names xs = items xs.items

  pub key_names : (k : PropName ExprId) → covers_by b (prop_name_tree expr k) ≡ names_by (key_parts k)
  key_names (prop_name.Computed c) = refl
  key_names (prop_name.Ident i) = refl
  key_names (prop_name.Str s) = refl
  key_names (prop_name.Num l) = refl
  key_names (prop_name.BigInt l) = refl

  member_names : (p : MemberProp ExprId) → covers_by b (member_prop_tree expr p) ≡ names_by (member_parts p)
  member_names (member_prop.Computed c) = refl
  member_names (member_prop.Ident i) = refl
  member_names (member_prop.PrivateName p) = refl

  super_names : (p : SuperProp ExprId) → covers_by b (super_part_tree expr p) ≡ names_by (super_parts p)
  super_names (super_part.Computed c) = refl
  super_names (super_part.Ident i) = refl

  callee_names : (c : Callee ExprId) → covers_by b (callee_tree expr c) ≡ names_by (callee_parts c)
  callee_names (callee.Expr e) = expr_same e
  callee_names (callee.Super s) = refl
  callee_names (callee.Import i) = refl

  base_names : (x : OptChainBase ExprId) → covers_by b (base_tree expr x) ≡ names_by (base_parts x)
  base_names (base.Member m) = ap (λ v. covers_by b (expr m.obj) ++ v) (append-nil _ ∙ member_names m.prop)
  base_names (base.Call c) = ap (λ v. covers_by b (expr c.callee) ++ v) (items c.args.items)

  pub tpl_names : (t : Tpl ExprId) → covers_by b (tpl_tree expr t) ≡ names_by (flat one_expr t.exprs.items)
  tpl_names t = texts expr one_expr expr_same t.quasis.items t.exprs.items

  args_if : (o : Option (Vec (ExprOrSpread ExprId) Global))
      → covers_by b (or_hole (args_tree expr) o) ≡ names_by (if_some args_parts o)
  args_if = if_there (args_tree expr) args_parts args_names

  body_names : (block_at : K → Span) (x : BlockStmtOrExpr ExprId K)
      → covers_by b (body_tree block_at expr x) ≡ names_by (body_parts x)
  body_names block_at (body.BlockStmt k) = refl
  body_names block_at (body.Expr e) = expr_same e

  -- an arrow function is gone into, or it is not
  entered : (c : Bool) (ss : List Span) (ps : List Part) → ss ≡ names_by ps
      → (if c then ss else []) ≡ names_due b at (if c then part_dues ps else [])
  entered true ss ps e = e
  entered false ss ps e = refl

  function_names : (block_at : K → Span) (x : Function PatId K)
      → covers_by b (function_tree block_at pat x) ≡ names_by (flat param_parts x.params.items)
  function_names block_at x = listed (param_tree pat) param_parts (λ p. refl) x.params.items

module _ {F C K : Type 0} (fun_at : F → Span) (class_at : C → Span) (block_at : K → Span) (b : Bool)
    (at : ℕ → Tree F C K) where
  target_names : (t : TargetNode) → covers_by b (target_of fun_at class_at block_at at t) ≡ covers_by b
      (at (target_part t).at)
  target_names (target.Simple e) = refl
  target_names (target.Pat p) = refl

  pub prop_names : (p : PropNode K) → covers_by b (prop_of fun_at class_at block_at at p) ≡ names_due b at (prop_dues p)
  prop_names (prop.Spread s) = refl
  prop_names (prop.Shorthand i) = refl
  prop_names (prop.KeyValue s k v) = both b at (key_parts k) (one_expr v) _ _ (key_names b at k) refl
  prop_names (prop.Assign p) = refl
  prop_names (prop.Method k f) =
      both b at (key_parts k) (flat param_parts f.params.items) _ _ (key_names b at k)
      (append-nil _ ∙ function_names b at block_at f)
  prop_names (prop.Getter s k body) = append-nil _ ∙ key_names b at k
  prop_names (prop.Setter s k p body) = both b at (key_parts k) (one_pat p) _ _ (key_names b at k) refl

  props_names : (ps : List (PropNode K))
      → covers_by_of_all b (trees (map (prop_of fun_at class_at block_at at) ps)) ≡ names_due b at (flat prop_dues ps)
  props_names [] = refl
  props_names (p ∷ ps) =
      ap (λ v. v ++ covers_by_of_all b (trees (map (prop_of fun_at class_at block_at at) ps))) (prop_names p)
      ∙ ap (λ v. names_due b at (prop_dues p) ++ v) (props_names ps)
      ∙ sym (names-append b at (prop_dues p) (flat prop_dues ps))

  part_names : (p : PatPart) → covers_by b (part_tree at p) ≡ names_by b at (part_parts p)
  part_names (of_pat.Pat p) = pat_same b at p
  part_names (of_pat.Expr e) = refl

  elem_names : (p : PatElem) → covers_by b (pat_elem_of at p) ≡ names_by b at (pat_elem_part p)
  elem_names (elem.Item p) = part_names p
  elem_names (elem.Rest s d p) = append-nil _ ∙ part_names p

  pub pat_prop_names : (p : PatPropNode) → covers_by b (pat_prop_of fun_at class_at block_at at p) ≡ names_by b at
      (pat_prop_parts p)
  pat_prop_names (pat_prop.KeyValue s k v) =
      both b at (key_parts k) (part_parts v) _ _ (key_names b at k) (append-nil _ ∙ part_names v)
  pat_prop_names (pat_prop.Assign s k v) = append-nil _ ∙ if_there b at (λ (e : ExprId). at e.0) one_expr
      (expr_same b at) v
  pat_prop_names (pat_prop.Rest s d p) = append-nil _ ∙ part_names p

  node_names : (x : Node F C K) → covers_by b (marked_tree fun_at class_at block_at at x) ≡ names_due b at
      (node_dues b x)
  node_names (n.Array s elems comma) =
      listed b at (or_hole (item_tree (λ (e : ExprId). at e.0))) (if_some item_parts)
      (if_there b at (item_tree (λ (e : ExprId). at e.0)) item_parts (an_item b at)) elems.items
  node_names (n.Object s props comma) = props_names props.items
  node_names (n.Assign s op l r) = ap (λ v. v ++ (covers_by b (at r.0) ++ [])) (target_names l)
  node_names (n.Seq s es) = listed b at (λ (e : ExprId). at e.0) one_expr (expr_same b at) es.items
  node_names (n.Member m) = ap (λ v. covers_by b (at m.obj.0) ++ v) (append-nil _ ∙ member_names b at m.prop)
  node_names (n.SuperProp p) = append-nil _ ∙ super_names b at p.prop
  node_names (n.Call s c xs) = both b at (callee_parts c) (args_parts xs) _ _ (callee_names b at c)
      (items b at xs.items)
  node_names (n.New s c xs) = ap (λ v. covers_by b (at c.0) ++ v) (append-nil _ ∙ args_if b at xs)
  node_names (n.OptChain c) = append-nil _ ∙ base_names b at c.base.value
  node_names (n.Tpl t) = tpl_names b at t.value
  node_names (n.TaggedTpl s t q) = ap (λ v. covers_by b (at t.0) ++ v) (append-nil _ ∙ tpl_names b at q.value)
  node_names (n.Yield s a d) = append-nil _ ∙ if_there b at (λ (e : ExprId). at e.0) one_expr (expr_same b at) a
  node_names (n.PatArray s elems) =
      listed b at (or_hole (pat_elem_of at)) (if_some pat_elem_part)
      (if_there b at (pat_elem_of at) pat_elem_part elem_names) elems.items
  node_names (n.PatObject s props) = listed b at (pat_prop_of fun_at class_at block_at at) pat_prop_parts pat_prop_names
      props.items
  node_names (n.PatAssign s l r) = both b at (part_parts l) (one_expr r) _ _ (part_names l) refl
  node_names (n.Arrow s ps body a) =
      entered b at b _ _ (both b at (flat one_pat ps.items) (body_parts body.value) _ _
      (listed b at (λ (p : PatId). at p.0) one_pat (pat_same b at) ps.items) (body_names b at block_at body.value))
  node_names x = refl

-- ---- the node of a number

module _ {F C K : Type 0} (b : Bool) (at by : ℕ → Tree F C K) where
  parts_same : (ps : List Part) → SameTrees at by ps → names_due b at (part_dues ps) ≡ names_due b by (part_dues ps)
  parts_same [] h = refl
  parts_same (p ∷ ps) h =
      ap (λ t. covers_by b t ++ names_due b at (part_dues ps)) (same_first h)
      ∙ ap (λ v. covers_by b (by p.at) ++ v) (parts_same ps (same_rest h))

  entered_same : (c : Bool) (ps : List Part) → SameTrees at by ps
      → names_due b at (if c then part_dues ps else []) ≡ names_due b by (if c then part_dues ps else [])
  entered_same true ps h = parts_same ps h
  entered_same false ps h = refl

  prop_same : (p : PropNode K) → SameTrees at by (prop_parts p)
      → names_due b at (prop_dues p) ≡ names_due b by (prop_dues p)
  prop_same (prop.Assign p) h = refl
  prop_same p h = parts_same (prop_parts p) h

  props_same : (ps : List (PropNode K)) → SameTrees at by (flat prop_parts ps)
      → names_due b at (flat prop_dues ps) ≡ names_due b by (flat prop_dues ps)
  props_same [] h = refl
  props_same (p ∷ ps) h =
      names-append b at (prop_dues p) (flat prop_dues ps)
      ∙ ap (λ v. v ++ names_due b at (flat prop_dues ps))
      (prop_same p (same-front at by (prop_parts p) (flat prop_parts ps) h))
      ∙ ap (λ v. names_due b by (prop_dues p) ++ v) (props_same ps
      (same-back at by (prop_parts p) (flat prop_parts ps) h))
      ∙ sym (names-append b by (prop_dues p) (flat prop_dues ps))

  node_same : (x : Node F C K) → SameTrees at by (slots x)
      → names_due b at (node_dues b x) ≡ names_due b by (node_dues b x)
  node_same (n.Object s props comma) h = props_same props.items h
  node_same (n.Arrow s ps body a) h = entered_same b _ h
  node_same x h = parts_same (slots x) h

module _ {F C K : Type 0} {fg : Ghosts F} {cg : Ghosts C} {kg : Ghosts K} (b : Bool) where
  pub stood-names : {ns : Nodes F C K fg cg kg} {i : ℕ} {x : Node F C K} → Stood ns i x → i < count ns
      → covers_by b (tree_at ns i) ≡ names_due b (tree_at ns) (node_dues b x)
  stood-names {ns} {i} {x} s lt =
      ap (λ t. covers_by b t.tree) s.stands ∙ node_names fg.place cg.place kg.place b (λ j. (seat_before i ns j).tree) x
      ∙ node_same b (λ j. (seat_before i ns j).tree) (tree_at ns) x (stood-trees s lt)
