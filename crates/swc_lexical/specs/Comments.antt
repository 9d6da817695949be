-- Comments (ECMA-262, 12.4).
use Rattle.std.specs.Prelude.{ℕ, ◌+◌, not, ◌&&◌, if◌then◌else◌, nat_lt, List, Option, Some, None, length}
use Rattle.swc_lexical.specs.{Runs.is_at, Runs.run, Chars.plain_len}

-- how many bytes come before a line terminator, or before the end: `//` and they are a comment
abbrev pub line_len : List ℕ → ℕ
line_len bs = run plain_len bs

-- a byte that no `*/` begins with
abbrev pub in_block : List ℕ → ℕ
in_block bs = if nat_lt 0 (length bs) && not (is_at bs 0 42 && is_at bs 1 47) then 1 else 0

-- after `/*`: how many bytes a block comment takes with its `*/`, which is there
abbrev pub block_len : List ℕ → Option ℕ
block_len bs = let len = run in_block bs in if is_at bs (len + 1) 47 then Some (len + 2) else None
