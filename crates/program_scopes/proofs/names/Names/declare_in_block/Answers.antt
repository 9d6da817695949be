use Rattle.std.proofs.Common.{◌∙◌, ap, sym, refl, ◌∷◌}
use Rattle.std.specs.Option.{option_or}
use Rattle.program_scopes.specs.Stacks.{since}
use Rattle.program_scopes.specs.Scopes.{var_beside}
use Rattle.program_scopes.specs.Names.{excluding, kept_after}
use Rattle.program_scopes.proofs.Founds.{ap2}
use Rattle.program_scopes.proofs.Opened.{against-block, against-parameter, has-block-name}
use Rattle.program_scopes.proofs.names.Names.declare_in_block.Goals as goal

pub returns-clause-against : goal.returns-clause-against
returns-clause-against c = λ ss are.
    let names = c.args.self.now in let q = c.args.name.now in
    c.or-first.ensures
    ∙ ap2 option_or (c.excluding.ensures ∙ ap (excluding c.args.kind) (c.since-last.ensures ∙ ap (since names.scope.in_blocks) c.find-found.ensures))
    (c.var_beside.ensures ss are ∙ ap (var_beside c.args.kind) (sym (against-parameter names q ss are)))
    ∙ against-block names c.args.kind q ss are

pub returns-clause-declared : goal.returns-clause-declared
returns-clause-declared c = λ ss are.
    let names = c.args.self.now in let q = c.args.name.now in
    has-block-name names _ c.args.kind q c.args.place ss are
    (c.in_ok-push.ensures ∙ ap (λ e. (q, e) ∷ names.in_blocks)
    (c.kept.ensures
    ∙ ap2 (kept_after c.args.place c.args.kind)
    (c.since-last.ensures ∙ ap (since names.scope.in_blocks) c.find-found.ensures)
    (c.since-innermost.ensures ∙ ap (since names.scope.function) c.find-found.ensures)))
    refl refl refl
