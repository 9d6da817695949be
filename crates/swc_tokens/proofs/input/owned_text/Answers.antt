use Rattle.std.proofs.Common.{rules}
use Rattle.std.proofs.lemmas.Str.{IsUtf8-from_ascii}
use Rattle.swc_tokens.proofs.input.owned_text.Goals as goal

pub unreachable-requires : goal.unreachable-requires
unreachable-requires c =
    let text = IsUtf8-from_ascii _ c.requires in
    let fine = c.from_utf8.ensures.succeeds text in search rules
