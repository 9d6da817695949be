use Rattle.std.proofs.Common.{ap, ◌∙◌, Some}
use Rattle.std.specs.Option.{option_flatten}
use Rattle.std.specs.Str.{bytes_eq}
use Rattle.std.specs.HashMap.{get_by}
use Rattle.std.proofs.lemmas.Map.Text.{hash_map_updates_str}
use Rattle.program_scopes.proofs.Stacks.{flat-if}
use Rattle.program_scopes.proofs.name_stack.note.Goals as goal

pub returns-in-Ok-clause-noted : goal.returns-in-Ok-clause-noted
returns-in-Ok-clause-noted c = λ q.
    ap option_flatten (hash_map_updates_str c.args.name.now c.args.last.now c.insert.new.self (Some c.args.place) c.in-Ok.ensures.updates q) ∙ flat-if (bytes_eq c.args.name.now q) c.args.place (get_by (λ k. bytes_eq q k.now) c.args.last.now)
