use Rattle.std.proofs.Common.{sym, subst, arith, ap}
use Rattle.swc_input.specs.Buffer.{to_come}
use Rattle.swc_steps.proofs.Refused.{err_is}
use Rattle.swc_steps.specs.Parsing.{tree_of, Heard}
use Rattle.swc_steps.proofs.Steps as s
use Rattle.swc_operators.specs.Pending.{operator_taken}
use Rattle.swc_operators.proofs.Pending.{taken_well, taken_ill}
use Rattle.swc_operators.proofs.ops.take_operator.Goals as goal

pub returns-in_err-refuse_unary_in_exp-clause-reads : goal.returns-in_err-refuse_unary_in_exp-clause-reads
returns-in_err-refuse_unary_in_exp-clause-reads g c =
    let refuses = c.in_err-refuse_unary_in_exp.ensures.refuses in rw (err_is c.from_residual.ensures.1)
    (λ sure. s.unheard_none (λ x ts. taken_ill c.args.op (tree_of c.args.p.now.nodes c.args.left) x ts refuses.1)
    (s.refuses_later (s.took_leads g.met.I.Tokens.laws c.skip.ensures.took.1) refuses.0))

pub returns-in-Ok-clause-reads : goal.returns-in-Ok-clause-reads
returns-in-Ok-clause-reads g c =
    let passes = c.in_ok-refuse_unary_in_exp.ensures.passes in
    let l = tree_of c.args.p.now.nodes c.args.left in
    λ sure. subst (λ b. Heard g.I.Tokens.model sure (operator_taken c.args.op l) tt c.args.p.now.input b) (sym passes.0)
    (s.heard_took g.met.I.Tokens.laws c.skip.ensures.took.1 (λ x ts. taken_well c.args.op l x _ ts passes.1))

pub returns-in-Ok-clause-falls : goal.returns-in-Ok-clause-falls
returns-in-Ok-clause-falls g c =
    let e = ap (to_come g.I.Tokens.model) c.in_ok-refuse_unary_in_exp.ensures.passes.0 in
    let less = c.skip.ensures.took.1.less in omega arith

pub returns-in-Err-clause-reads : goal.returns-in-Err-clause-reads
returns-in-Err-clause-reads g c =
    let laws = g.met.I.Tokens.laws in
    let same = c.in_ok-refuse_unary_in_exp.ensures.passes.0 in
    λ sure. s.unheard_memory
    (s.forgoes_later (s.leads_then (s.took_leads laws c.skip.ensures.took.1) (s.same_leads laws same))
    (s.forgoes_here laws _ _ _ c.out_of_memory.ensures))
