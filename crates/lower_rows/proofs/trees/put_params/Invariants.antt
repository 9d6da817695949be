use Rattle.lower_rows.proofs.trees.put_params.Given as goal

abbrev pub decreases-loop-pat : goal.decreases-loop-pat
decreases-loop-pat l = goal.left-loop-pat l
