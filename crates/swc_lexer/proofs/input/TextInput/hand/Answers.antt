use Rattle.std.proofs.Common.{refl, sym}
use Rattle.swc_lexer.specs.Inputs.{hands_some}
use Rattle.swc_lexer.proofs.input.TextInput.hand.Goals as goal

pub returns-in-Ok-clause-hands : goal.returns-in-Ok-clause-hands
returns-in-Ok-clause-hands g c =
    hands_some _ _ _ _ c.in-Some.fault (sym c.in-Some.ensures) c.requires
    (c.args.self.now.none_held c.requires) refl c.in-Ok.ensures.noted
