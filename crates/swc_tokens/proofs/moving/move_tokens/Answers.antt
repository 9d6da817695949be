use Rattle.std.proofs.{Common.rules, lemmas.List.Edits.map_over_more}
use Rattle.swc_tokens.specs.Moved.{moved_token}
use Rattle.swc_tokens.proofs.moving.move_tokens.Goals as goal

-- this one too
pub loop-token-preserved : goal.loop-token-preserved
loop-token-preserved c = search (rules, map_over_more (moved_token c.args.by))
