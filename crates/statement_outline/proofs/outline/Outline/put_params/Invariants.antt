use denote.Shadow.{shadow}
use denote.Text.{Utf8}
use Rattle.statement_outline.proofs.outline.Outline.put_params.Given as goal

abbrev pub invariant-loop-param : goal.invariant-loop-param
invariant-loop-param l = shadow (Utf8 l.sign)
