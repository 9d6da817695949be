use Rattle.std.proofs.Common.{◌∙◌, ap, refl, length, drop, ◌-◌, arith}
use Rattle.std.specs.Prelude.{if◌then◌else◌}
use Rattle.program_scopes.proofs.Opened.{ends, stays}
use Rattle.program_scopes.proofs.names.Names.end.Goals as goal

pub returns-in-Some : goal.returns-in-Some
returns-in-Some c = λ ss are.
    let names = c.args.self.now in
    ends names _ ss c.in-Some.mark are c.in-Some.ensures.items refl c.truncate.ensures
    (c.truncate-in-Some.ensures ∙ ap (λ n. drop (length names.vars - n) names.vars)
    (c.by_kind-vars.ensures ∙ ap (λ n. if names.scope.is_function then names.scope.vars else n) c.len.ensures))

pub returns-in-None : goal.returns-in-None
returns-in-None c = λ ss are.
    let len = c.args.self.now.around.ok.0 in
    stays c.args.self.now _ ss are (omega (arith, len, c.in-None.ensures.cases.0)) c.in-None.ensures.items refl refl refl
