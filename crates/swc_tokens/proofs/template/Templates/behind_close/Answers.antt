use Rattle.std.proofs.Common.{◌≡◌, length, arith}
use Rattle.swc_tokens.proofs.Nesting.{Turns_close_outside, Turns_close_substitution, Turns_close_brace}
use Rattle.swc_tokens.proofs.template.Templates.behind_close.Goals as goal

-- a `${` was open
pub returns-in-Some-Substitution : goal.returns-in-Some-Substitution
returns-in-Some-Substitution c =
    Turns_close_substitution _ _ (rw c.in-Some-Substitution.field-0-is at c.in-Some-Substitution.ensures.items)

-- a `{` was open
pub returns-in-Some-Brace : goal.returns-in-Some-Brace
returns-in-Some-Brace c = Turns_close_brace _ _ (rw c.in-Some-Brace.field-0-is at c.in-Some-Brace.ensures.items)

-- nothing was open
pub returns-in-None : goal.returns-in-None
returns-in-None c =
    let none : length c.args.self.now.brackets.items ≡ 0 =
    omega (arith, c.args.self.now.brackets.ok.0, c.in-None.ensures.cases.0) in
    Turns_close_outside _ _ c.in-None.ensures.items none
