use Rattle.std.proofs.Common.{ap, ◌∙◌, length}
use Rattle.swc_nodes.specs.Commas.{comma_at}
use Rattle.swc_nodes.specs.Marking.{marked_node}
use Rattle.swc_nodes.proofs.Marked.{marked_firsts, marked_ordered, marks, same-length}
use Rattle.swc_nodes.proofs.SettledNodes.{settled-firsts}
use Rattle.swc_nodes.proofs.nodes.Nodes.mark_from.Goals as goal

pub invariant_of-self : goal.invariant_of-self
invariant_of-self g c =
    let ns = c.args.self.now in
    let m = comma_at c.args.commas.now in
    let e = c.mark_all.ensures in
    record {
      in_order = marked_ordered m c.args.from ns _ e;
      in_ranges = settled-firsts g.F.Spanned.place g.C.Spanned.place g.K.Spanned.place ns.nodes.items _ ns.settled.items
          (ap length e ∙ same-length (marked_node m) c.args.from ns.nodes.items)
          (marked_firsts g.F.Spanned.place g.C.Spanned.place g.K.Spanned.place m c.args.from ns.nodes.items _ e
          ns.in_order)
          ns.in_ranges;
    }

pub returns : goal.returns
returns g c = marks (comma_at c.args.commas.now) c.args.from c.args.self.now _ c.mark_all.ensures
