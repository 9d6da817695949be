use Rattle.swc_steps.proofs.Hearing as hearing
use Rattle.swc_primary.proofs.primary.function_here.Goals as goal

pub returns-clause-reads : goal.returns-clause-reads
returns-clause-reads g c =
    hearing.hook_parses g.I.Tokens.model g.met.I.Tokens.laws _ g.met.B.Bodies.lawful.fun.viewed g.B.Bodies.is_faithful _
    c.fun-answer.result c.answered.result
    c.fun-answer.ensures.hooked c.fun-answer.ensures.faithful c.answered.ensures.runs c.answered.ensures.fails
