use Rattle.std.proofs.Common.{sym, ap, ◌∙◌}
use Rattle.std.specs.Prelude.{is_some, ◌||◌}
use Rattle.program_scopes.specs.Stacks.{found}
use Rattle.program_scopes.proofs.Opened.{has-name}
use Rattle.program_scopes.proofs.names.Names.has.Goals as goal

pub returns-then-is_some : goal.returns-then-is_some
returns-then-is_some c = λ ss are.
    let names = c.args.self.now in let q = c.args.name.now in
    let is = c.is_some.ensures ∙ ap is_some c.find.ensures in
    c.if-is_some.true ∙ ap (λ a. a || is_some (found q names.vars)) (sym (sym is ∙ c.if-is_some.true)) ∙ has-name names q ss are

pub returns-else-is_some : goal.returns-else-is_some
returns-else-is_some c = λ ss are.
    let names = c.args.self.now in let q = c.args.name.now in
    let is = c.is_some.ensures ∙ ap is_some c.find.ensures in
    c.is_some-else-is_some.ensures ∙ ap is_some c.find-else-is_some.ensures
    ∙ ap (λ a. a || is_some (found q names.vars)) (sym (sym is ∙ c.if-is_some.false)) ∙ has-name names q ss are
