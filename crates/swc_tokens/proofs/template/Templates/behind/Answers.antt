use Rattle.std.proofs.Common.{◌<◌, length}
use Rattle.swc_tokens.proofs.Nesting.{Turns_text, Turns_backquote, Turns_substitution, Turns_brace, Turns_brace_outside, Turns_other}
use Rattle.swc_tokens.proofs.template.Templates.behind.Goals as goal

pub returns-in-Text-clause-turns : goal.returns-in-Text-clause-turns
returns-in-Text-clause-turns c = rw c.in-Text.is (Turns_text _ _ (rw c.in-Text.is at c.requires))

pub returns-in-Backquote-clause-turns : goal.returns-in-Backquote-clause-turns
returns-in-Backquote-clause-turns c =
    rw (c.in-Backquote.is, c.behind_backquote.ensures) (Turns_backquote _ _ (rw c.in-Backquote.is at c.requires))

pub returns-in_ok-enter-in-Substitution-clause-turns : goal.returns-in_ok-enter-in-Substitution-clause-turns
returns-in_ok-enter-in-Substitution-clause-turns c =
    rw (c.in-Substitution.is, c.in_ok-enter-in-Substitution.ensures.entered)
    (Turns_substitution _ _ (rw c.in-Substitution.is at c.requires))

pub returns-in_ok-enter-in-OpenBrace-clause-turns : goal.returns-in_ok-enter-in-OpenBrace-clause-turns
returns-in_ok-enter-in-OpenBrace-clause-turns c =
    rw (c.in-OpenBrace.is, c.in_ok-enter-in-OpenBrace.ensures.entered)
    (Turns_brace _ _ (rw c.in-OpenBrace.is at c.requires) (c.is_open.ensures.0 c.if-is_open.true))

pub returns-in-OpenBrace-2-clause-turns : goal.returns-in-OpenBrace-2-clause-turns
returns-in-OpenBrace-2-clause-turns c =
    let none : ¬ (0 < length c.args.self.now.brackets.items) = λ some. let yes = c.is_open.ensures.1 some in cc in
    rw c.in-OpenBrace-2.is (Turns_brace_outside _ _ (rw c.in-OpenBrace-2.is at c.requires) none)

pub returns-in-Other-clause-turns : goal.returns-in-Other-clause-turns
returns-in-Other-clause-turns c = rw c.in-Other.is (Turns_other _ _ (rw c.in-Other.is at c.requires))
