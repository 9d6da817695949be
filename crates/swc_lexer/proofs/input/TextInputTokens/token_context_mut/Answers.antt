use Rattle.std.proofs.Common.{refl}
use Rattle.swc_lexer.proofs.SameInputs.{same_input}
use Rattle.swc_lexer.proofs.input.TextInputTokens.token_context_mut.Goals as goal

pub returns : goal.returns
returns g c = ((refl, λ w. same_input _ _ _), record { lent = tt })
