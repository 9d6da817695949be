use Rattle.std.proofs.Common.{sym, ◌∙◌}
use Rattle.swc_cover.proofs.Typed.{ident-wanted, looked-wanted, typed-made}
use Rattle.swc_cover.proofs.{Appended.if_ok-as, patterns.refine_pat.Goals.else-stands_whole-via-then-stands_whole+else-not-is_ident, patterns.refine_pat.Goals.else-stands_whole-via-else-stands_whole}
use Rattle.swc_nodes.specs.GrowingNodes.{tree_at}
use Rattle.swc_cover.proofs.patterns.refine_pat.Goals as goal

pub returns-clause-made : goal.returns-clause-made
returns-clause-made g c =
    let t = tree_at c.args.nodes.now c.args.id.0 in
    elim c.else-stands_whole.branch [
      | else-stands_whole-via-then-stands_whole+else-not-is_ident w ↦
          if_ok-as _ _ c.refine.result (λ p m. typed-made c.args.pat_type t c.role.ensures
          (ident-wanted c.args.pat_type t (sym w.is_ident.ensures ∙ w.if-not-is_ident.false)) m)
          c.refine.ensures.made
      | else-stands_whole-via-else-stands_whole w ↦
          if_ok-as _ _ c.refine.result (λ p m. typed-made c.args.pat_type t c.role.ensures
          (looked-wanted c.args.pat_type t (sym c.stands_whole.ensures ∙ w.if-stands_whole.false)) m)
          c.refine.ensures.made
    ]
