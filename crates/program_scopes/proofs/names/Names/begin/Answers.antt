use Rattle.std.proofs.Common.{◌∙◌, ap, refl, length}
use Rattle.std.specs.Prelude.{if◌then◌else◌}
use Rattle.program_scopes.proofs.Founds.{ap2}
use Rattle.program_scopes.proofs.Opened.{began, marked}
use Rattle.program_scopes.proofs.names.Names.begin.Goals as goal

pub returns : goal.returns
returns c = λ ss are.
    let names = c.args.self.now in let f = c.args.is_function in
    began names _ f ss are refl refl
    (ap2 (λ b v. marked f b v c.by_kind-function.result) c.len-in_blocks.ensures c.len.ensures
    ∙ ap (marked f (length names.in_blocks) (length names.vars))
    (c.by_kind-function.ensures ∙ ap (λ b. if f then b else names.scope.function) c.len-in_blocks.ensures))
    c.in_ok-push.ensures.items
