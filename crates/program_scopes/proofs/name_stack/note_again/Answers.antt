use Rattle.std.proofs.Common.{rules, ap, ◌∙◌, Some}
use Rattle.std.specs.Option.{option_flatten}
use Rattle.std.specs.Str.{bytes_eq}
use Rattle.std.specs.HashMap.{get_by}
use Rattle.std.proofs.lemmas.Map.Text.{hash_map_updates_str}
use Rattle.program_scopes.proofs.Stacks.{flat-if}
use Rattle.program_scopes.proofs.name_stack.note_again.Goals as goal

pub returns-in-Some : goal.returns-in-Some
returns-in-Some c = λ known q.
    ap option_flatten (hash_map_updates_str c.args.name.now c.args.last.now (c.get_mut.follows.lender c.args.place) (Some c.args.place) ((c.get_mut.follows.holds c.args.place).3 (search rules)) q) ∙ flat-if (bytes_eq c.args.name.now q) c.args.place (get_by (λ k. bytes_eq q k.now) c.args.last.now)
