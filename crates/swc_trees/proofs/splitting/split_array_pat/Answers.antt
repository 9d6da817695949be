use Rattle.std.proofs.Common.{map, refl, ap, ◌∙◌}
use Rattle.swc_ast.specs.Parts.{or_hole}
use Rattle.swc_ast.specs.Tree.{node, array, trees}
use Rattle.swc_nodes.proofs.PatternParts.{elems-parts, elems-trees}
use Rattle.swc_nodes.specs.NodeParts.{flat, if_some, pat_elem_part}
use Rattle.swc_nodes.specs.NodeTree.{pat_elem_of}
use Rattle.swc_trees.proofs.Splits.{split-one}
use Rattle.swc_trees.proofs.splitting.split_array_pat.Goals as goal

pub returns : goal.returns
returns g c =
    split-one c.in_ok-pats.ensures
    (ap (flat (if_some pat_elem_part)) c.in_ok-elems.ensures ∙ elems-parts c.in_ok-pats.pats.items)
    (λ at e. record {
      stands = ap (λ v. node array c.args.span (trees v))
          (ap (map (or_hole (pat_elem_of at))) c.in_ok-elems.ensures ∙ elems-trees at c.in_ok-pats.pats.items ∙ e);
      view = refl;
    })
