use Rattle.std.proofs.Common.{ap, ◌∙◌}
use Rattle.swc_ast.specs.Tree.{dots, rest, node, nil, cons}
use Rattle.swc_ast.specs.Parts.{leaf}
use Rattle.swc_trees.proofs.Assembled.{made-one}
use Rattle.swc_trees.proofs.Leaves.{rest_pat_tree}
use Rattle.swc_trees.proofs.items.PatElemItem.assemble.Goals as goal

pub returns-in_ok-arg-in-Rest : goal.returns-in_ok-arg-in-Rest
returns-in_ok-arg-in-Rest g c =
    rw c.in-Rest.is (made-one c.in_ok-arg-in-Rest.ensures
    (λ at e. rest_pat_tree _ _ _ g.F.Spanned.place g.C.Spanned.place g.K.Spanned.place
    (record { span = c.in-Rest.span; dot3_token = c.in-Rest.dot3_token; arg = c.in_ok-arg-in-Rest.arg })
    ∙ ap (λ v. node rest c.in-Rest.span (cons (leaf dots c.in-Rest.dot3_token) (cons v nil))) e))
