use Rattle.std.proofs.Common.{◌≡◌, ℕ, Some, List, slice_get, inl, inr, arith}
use Rattle.std.proofs.lemmas.Option.{slice_get_within}
use Rattle.swc_tokens.specs.{Blanks.StandAt, Found.token_of, Spelling.EndsText}
use Rattle.swc_tokens.proofs.Spelling.{Spells_backquote, Spells_substitution}
use Rattle.swc_tokens.proofs.reader.Reader.read_delimiter.Goals as goal

closing : (text : List ℕ) (at : ℕ) → EndsText text at → ¬ StandAt text at 36 123 → slice_get text at ≡ Some 96
closing text at (inl opens) none = absurd (none opens)
closing text at (inr there) none = there

-- both bytes are taken
pub returns-then-is_next-clause-spells : goal.returns-then-is_next-clause-spells
unfolding token_of
returns-then-is_next-clause-spells c = Spells_substitution _ _ (c.is_next.ensures.0 c.if-is_next.true)

-- a backquote is there
pub invariant_of-self-2-clause-within : goal.invariant_of-self-2-clause-within
invariant_of-self-2-clause-within c =
    let none : ¬ StandAt c.args.self.now.text.now c.args.self.now.at 36 123 = λ is. let yes =
    c.is_next.ensures.1 is in cc in
    let inside = slice_get_within c.args.self.now.text.now c.args.self.now.at 96 (closing _ _ c.requires none) in
    omega (arith, inside)

-- it is taken
pub returns-clause-spells : goal.returns-clause-spells
unfolding token_of
returns-clause-spells c =
    let none : ¬ StandAt c.args.self.now.text.now c.args.self.now.at 36 123 = λ is. let yes =
    c.is_next.ensures.1 is in cc in
    Spells_backquote _ _ (closing _ _ c.requires none)
