use Rattle.std.proofs.Common.{rules, refl}
use Rattle.swc_tokens.specs.Inputs.{asked_given}
use Rattle.swc_tokens.proofs.input.AsciiInputTokens.fill.Goals as goal

pub returns-in-Ok : goal.returns-in-Ok
returns-in-Ok c =
    rw (c.in-Ok.ensures.made)
    (asked_given c.args.self.now _ c.in-Some.found.now _ (search rules) refl (refl, refl) (search rules) (search rules))
