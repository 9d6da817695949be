use Rattle.std.proofs.Common.{◌≡◌, ◌++◌, ◌∷◌, [], length, ap, ◌∙◌, arith}
use Rattle.swc_nodes.proofs.Standing.{grows-same}
use Rattle.swc_trees.proofs.Puts.{puts-refused, puts-count, puts-one}
use Rattle.swc_trees.proofs.putting.put_whole.Goals as goal

pub returns-in_err-push : goal.returns-in_err-push
returns-in_err-push g c = puts-refused _ c.from_residual.ensures.0 (grows-same c.args.nodes.now)

pub returns-in_err-ids : goal.returns-in_err-ids
returns-in_err-ids g c = puts-refused _ c.from_residual-in_err-ids.ensures.0 c.put_all.ensures.grows

pub index-requires : goal.index-requires
index-requires g c =
    let one : length c.push.new.self.items ≡ 1 =
    ap length (c.in_ok-push.ensures.items ∙ ap (λ v. v ++ c.args.tree ∷ []) c.new-trees.ensures.items) in
    let many = puts-count c.push.new.self.items c.in_ok-ids.ensures in
    let counted = c.in_ok-ids.ids.ok.0 in
    omega arith

pub returns : goal.returns
returns g c =
    puts-one c.args.tree _ (c.in_ok-push.ensures.items ∙ ap (λ v. v ++ c.args.tree ∷ []) c.new-trees.ensures.items)
    c.index.ensures c.in_ok-ids.ensures
