use Rattle.std.proofs.Common.{false, refl}
use Rattle.swc_nodes.specs.GrowingNodes.{first_at}
use Rattle.swc_nodes.proofs.{Held.from-down, Standing.grows-same, Standing.grows-then}
use Rattle.swc_steps.specs.Readers.{nothing}
use Rattle.swc_steps.proofs.Making as m
use Rattle.swc_steps.proofs.Steps as s
use Rattle.swc_steps.specs.Params.{pat_at}
use Rattle.swc_patterns.proofs.PatNodes.{pat_made}
use Rattle.swc_patterns.proofs.params.rest_default.Goals as goal

pub returns-in_err-emit_err : goal.returns-in_err-emit_err
returns-in_err-emit_err g c =
    m.refused_more c.from_residual.ensures.1 (s.unheard_memory c.in_err-emit_err.ensures.tries) (grows-same _)

pub returns-in_err-pat : goal.returns-in_err-pat
returns-in_err-pat g c =
    m.refused_more c.from_residual-in_err-pat.ensures.1
    (s.unheard_memory (s.forgoes_later c.in_ok-emit_err.ensures.tries
    (s.forgoes_here g.met.I.Tokens.laws _ _ _ c.in_err-pat.ensures.refused)))
    c.default_pat-node.ensures.grows

pub returns : goal.returns
returns g c =
    let made = pat_made _ (first_at c.args.p.now.nodes c.args.arg.0) _ c.default_pat-node.result c.in_ok-pat.pat
    c.default_pat-node.ensures.made c.in_ok-pat.ensures.ok in
    let rest = c.rest_pat.ensures in
    m.on c.rest_pat.result
    (s.continues_after g.I.Tokens.model g.B.Bodies.is_faithful (pat_at c.rest_pat.new.p.nodes) nothing
    c.rest_pat.new.p.input c.rest_pat.result
    (s.on_checked false (record {
      leads = c.in_ok-emit_err.ensures.tries;
      passes = λ w. cc;
      notes = λ n l. c.in_ok-emit_err.ensures.notes l;
    }) (λ x ts w. cc) (λ x ts w. refl)) rest.reads)
    (grows-then c.default_pat-node.ensures.grows rest.grows)
    (m.if_held (λ x h. from-down made.from.above h) c.rest_pat.result rest.from)
