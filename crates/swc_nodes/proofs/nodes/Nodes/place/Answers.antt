use Rattle.std.proofs.Common.{◌≡◌, Bool, true, false, not, refl, sym, ◌∙◌}
use Rattle.swc_nodes.specs.NodeParts.{expr, pat}
use Rattle.swc_nodes.proofs.Held.{stood-from, pat_not_expr}
use Rattle.swc_nodes.proofs.nodes.Nodes.place.Goals as goal

not_false : (b : Bool) → not b ≡ false → b ≡ true
not_false true h = refl
not_false false h = cc

pub pat_span-requires : goal.pat_span-requires
pat_span-requires g c = stood-from pat c.get.ensures c.requires
    (pat_not_expr _ ∙ sym c.is_pattern.ensures ∙ c.if-is_pattern.true)

pub span-requires : goal.span-requires
span-requires g c = stood-from expr c.get.ensures c.requires
    (not_false _ (sym c.is_pattern.ensures ∙ c.if-is_pattern.false))
