use Rattle.lower_rows.proofs.trees.put_exprs.Given as goal

abbrev pub decreases-loop-expr : goal.decreases-loop-expr
decreases-loop-expr l = goal.left-loop-expr l
