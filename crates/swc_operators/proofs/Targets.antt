-- What an operator writes to, among the nodes.
use Rattle.std.proofs.Common.{◌≡◌, ℕ, true, refl, sym, ap, ◌∙◌, arith}
use Rattle.std.proofs.lemmas.List.{get_or_default}
use Rattle.std.specs.Prelude.{slice_index_or}
use Rattle.swc_context.specs.declared.span.Span.{Span}
use Rattle.swc_ast.specs.Tree.{Tree, node, array_with, object_with, no_span}
use Rattle.swc_ast.specs.declared.spanned.Spanned.{Ghosts}
use Rattle.swc_grammar.specs.Cover.{is_pattern}
use Rattle.swc_cover.specs.{PatTypes.want_as, declared.pat_type.PatType.TheVariants.AssignPat}
use Rattle.swc_cover.proofs.Fitting.{stood-tree}
use Rattle.swc_nodes.specs.GrowingNodes.{tree_at, first_at, From}
use Rattle.swc_nodes.specs.NodeParts.{pat_part, target_part, view_ok, form, pat, pattern}
use Rattle.swc_nodes.specs.{NodeTree.marked_tree, declared.node.Node.Node, declared.node.Node.Node as n, declared.node.ExprId.ExprId, declared.node.PatId.PatId, declared.node.TargetNode.TargetNode as target, declared.nodes.Nodes.Nodes}
use Rattle.swc_nodes.proofs.Standing.{get_stood}

module _ {F C K : Type 0} where
  abbrev spare : Node F C K
  spare = n.PatInvalid (record { span = no_span })

  -- a literal becomes a pattern of its kind
  pub want_pattern : (l : Tree F C K) → is_pattern l ≡ true → is_pattern (want_as AssignPat l) ≡ true
  want_pattern (node (array_with comma) s ts) h = refl
  want_pattern (node (object_with comma) s ts) h = refl
  want_pattern l h = absurd cc

module _ {F C K : Type 0} (fun_at : F → Span) (class_at : C → Span) (block_at : K → Span) (at : ℕ → Tree F C K) where
  form_pattern : (x : Node F C K) → view_ok pat (form x) ≡ true
      → is_pattern (marked_tree fun_at class_at block_at at x) ≡ true → view_ok pattern (form x) ≡ true
  form_pattern (n.PatArray s elems) h k = refl
  form_pattern (n.PatObject s props) h k = refl
  form_pattern x h k = cc

module _ {F C K : Type 0} {fg : Ghosts F} {cg : Ghosts C} {kg : Ghosts K} where
  -- an array or object pattern may come before `=`
  pub pattern_target : {ns : Nodes F C K fg cg kg} {k : ℕ} (p : PatId) → From k ns (pat_part p)
      → is_pattern (tree_at ns p.0) ≡ true → From k ns (target_part (target.Pat p))
  pattern_target {ns} p f h =
      let x = slice_index_or ns.nodes.items p.0 spare in
      let t = get_stood ns p.0 x f.within (get_or_default ns.nodes.items p.0 spare x f.within) in
      record {
        within = f.within;
        above = f.above;
        first = f.first;
        view = ap (λ s. view_ok pattern s.form) t.stands
            ∙ form_pattern fg.place cg.place kg.place (tree_at ns) x
            (ap (λ s. view_ok pat s.form) (sym t.stands) ∙ f.view)
            (ap is_pattern (sym (stood-tree t f.within)) ∙ h);
      }

  -- what may be written to as it is: nothing below all that is reached from it is reached
  pub simple_target : {ns : Nodes F C K fg cg kg} (e : ExprId) → From 0 ns (target_part (target.Simple e))
      → From (first_at ns e.0) ns (target_part (target.Simple e))
  simple_target {ns} e f = record { within = f.within; above = omega arith; first = f.first; view = f.view }
