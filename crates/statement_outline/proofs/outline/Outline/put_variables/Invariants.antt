use denote.Shadow.{shadow}
use denote.Text.{Utf8}
use Rattle.statement_outline.proofs.outline.Outline.put_variables.Given as goal

abbrev pub invariant-loop-declarator : goal.invariant-loop-declarator
invariant-loop-declarator l = shadow (Utf8 l.sign)
