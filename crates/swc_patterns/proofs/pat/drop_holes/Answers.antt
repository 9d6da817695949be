use Rattle.std.proofs.Common.{◌-◌, length, take, sym, ap, ◌∙◌}
use Rattle.swc_patterns.specs.Arrays.{ends_in_hole, without_holes}
use Rattle.swc_patterns.proofs.Holes.{hole_none, hole_taken}
use Rattle.swc_patterns.proofs.pat.drop_holes.Goals as goal

pub loop-elems-preserved : goal.loop-elems-preserved
loop-elems-preserved c =
    ap without_holes (c.pop.ensures.rest
    ∙ ap (λ n. take (n - 1) c.loop-elems.elems.items) (sym c.deref.ensures.len ∙ ap length c.deref.ensures.value))
    ∙ hole_taken c.loop-elems.elems.items
    (ap ends_in_hole (sym c.deref.ensures.value) ∙ sym c.ends_in_hole.ensures ∙ c.loop-elems-test.true)
    ∙ c.loop-elems.invariant

pub returns : goal.returns
returns c =
    sym (hole_none c.loop-elems.elems.items
    (ap ends_in_hole (sym c.deref.ensures.value) ∙ sym c.ends_in_hole.ensures ∙ c.loop-elems-test.false))
    ∙ c.loop-elems.invariant
