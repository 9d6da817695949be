use Rattle.swc_trees.proofs.Assembled.{if-boxed}
use Rattle.swc_trees.proofs.items.boxed_pat.Goals as goal

pub returns : goal.returns
returns g c = if-boxed _ _ c.boxed.result c.boxed.ensures c.pop_pat.ensures
