use denote.Shadow.{shadow}
use denote.Text.{Utf8}
use Rattle.statement_outline.proofs.outline.Outline.end_line.Given as goal

abbrev pub invariant-loop-body : goal.invariant-loop-body
invariant-loop-body l = shadow (Utf8 l.sign)
