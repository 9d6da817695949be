-- The properties of an object literal that are `name = e`, by its node and by its tree.
use Rattle.std.proofs.Common.{◌≡◌, ℕ, ◌<◌, true, false, Bool, not, ◌&&◌, ◌||◌, List, [], ◌∷◌, map, Option, refl, ap, ◌∙◌}
use Rattle.std.specs.{declared.alloc.Global.Global, declared.vec.Vec.Vec}
use Rattle.swc_context.specs.declared.span.Span.{Span}
use Rattle.swc_ast.specs.Tree.{object_with, Tree, node, trees}
use Rattle.swc_ast.specs.Trees.{is_cover, no_cover, no_cover_in}
use Rattle.swc_ast.specs.declared.spanned.Spanned.{Ghosts}
use Rattle.swc_nodes.specs.Lists.{is_cover_prop, has_cover, IsObject}
use Rattle.swc_nodes.specs.GrowingNodes.{count, seat_before, tree_at, Stood}
use Rattle.swc_nodes.specs.{NodeTree.prop_of, NodeParts.prop_parts, declared.node.Node.Node as n, declared.node.PropNode.PropNode, declared.node.PropNode.PropNode as prop, declared.nodes.Nodes.Nodes}
use Rattle.swc_nodes.proofs.Lists.{list-same, prop-same, stood-trees}

neither : (a b : Bool) → (not a && not b) ≡ not (a || b)
neither true b = refl
neither false b = refl

module _ {F C K : Type 0} (fun_at : F → Span) (class_at : C → Span) (block_at : K → Span) (at : ℕ → Tree F C K) where
  cover-is : (p : PropNode K) → is_cover (prop_of fun_at class_at block_at at p) ≡ is_cover_prop p
  cover-is (prop.Spread s) = refl
  cover-is (prop.Shorthand i) = refl
  cover-is (prop.KeyValue s k v) = refl
  cover-is (prop.Assign p) = refl
  cover-is (prop.Method k f) = refl
  cover-is (prop.Getter s k b) = refl
  cover-is (prop.Setter s k p b) = refl

  covers : (ps : List (PropNode K)) → no_cover (trees (map (prop_of fun_at class_at block_at at) ps)) ≡ not
      (has_cover ps)
  covers [] = refl
  covers (p ∷ ps) =
      ap (λ v. not v && no_cover (trees (map (prop_of fun_at class_at block_at at) ps))) (cover-is p)
      ∙ ap (λ v. not (is_cover_prop p) && v) (covers ps) ∙ neither (is_cover_prop p) (has_cover ps)

module _ {F C K : Type 0} {fg : Ghosts F} {cg : Ghosts C} {kg : Ghosts K} where
  pub object-covers : {ns : Nodes F C K fg cg kg} {i : ℕ} (s : Span) (props : Vec (PropNode K) Global)
      (comma : Option Span) → Stood ns i (n.Object s props comma)
      → no_cover_in (tree_at ns i) ≡ not (has_cover props.items)
  object-covers {ns} {i} s props comma t =
      ap (λ v. no_cover_in v.tree) t.stands
      ∙ covers fg.place cg.place kg.place (λ j. (seat_before i ns j).tree) props.items

  pub object-is : {ns : Nodes F C K fg cg kg} {i : ℕ} (s : Span) (props : Vec (PropNode K) Global)
      (comma : Option Span) → Stood ns i (n.Object s props comma) → i < count ns → IsObject ns i props
  object-is {ns} {i} s props comma t lt =
      let was = λ (j : ℕ). (seat_before i ns j).tree in
      let same = list-same was (tree_at ns) prop_parts (prop_of fg.place cg.place kg.place was)
      (prop_of fg.place cg.place kg.place (tree_at ns))
      (prop-same fg.place cg.place kg.place was (tree_at ns)) props.items (stood-trees t lt) in
      record { span = s; comma = comma; stands = ap (λ v. v.tree) t.stands ∙ ap (node (object_with comma) s) same }
