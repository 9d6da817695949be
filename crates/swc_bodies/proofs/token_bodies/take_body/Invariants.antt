use Rattle.swc_input.specs.Buffer.{to_come}
use Rattle.swc_bodies.proofs.Steps.{SoFar}
use Rattle.swc_bodies.proofs.token_bodies.take_body.Given as goal

abbrev pub invariant-loop-place : goal.invariant-loop-place
invariant-loop-place g l = SoFar g.I.Tokens.model l.fn.input l.fn.first l.from l.input l.place l.kept.items

-- each token that is taken is one less to come
abbrev pub decreases-loop-place : goal.decreases-loop-place
decreases-loop-place g l = to_come g.I.Tokens.model l.input
