-- That a hook passes over a body changes nothing but how many tokens are still to come.
use Rattle.std.specs.Prelude.{◌≡◌, ◌≤◌}
use Rattle.swc_input.specs.{declared.buffer.Buffer.Buffer, Buffer.with_source, Buffer.source}
use Rattle.program_tokens.specs.{Source.StillOpen, Source.tokens_left, declared.source.ProgramInput.ProgramInput}

-- the source of b passed over a body, and gave nothing
pub record PassesOver (b c : Buffer ProgramInput) : Type 0 where
  pub rest : c ≡ with_source (source c) b
  pub still : StillOpen (source b) (source c)
  pub lower : tokens_left (source c) ≤ tokens_left (source b)
