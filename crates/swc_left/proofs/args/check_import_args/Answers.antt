use Rattle.std.proofs.Common.{sym, ◌∙◌}
use Rattle.swc_steps.specs.Parsing.{scope}
use Rattle.swc_left.specs.Counted.{counted_ok}
use Rattle.swc_steps.proofs.Steps.{check_passes}
use Rattle.swc_left.proofs.args.check_import_args.Goals as goal

pub returns-then-import_args_allowed-clause-checks : goal.returns-then-import_args_allowed-clause-checks
returns-then-import_args_allowed-clause-checks g c =
    check_passes (counted_ok (scope g.I.Tokens.model c.args.input.now) c.args.is_dynamic_import
    c.args.list.now.items.items) g.met.I.Tokens.laws _
    (sym c.import_args_allowed.ensures ∙ c.if-import_args_allowed.true)
