use Rattle.std.proofs.Common.{ap, reverse}
use Rattle.std.specs.Option.{option_flatten}
use Rattle.std.specs.Str.{bytes_eq}
use Rattle.std.specs.Map.{lookup}
use Rattle.program_scopes.specs.Linked.{place_in}
use Rattle.program_scopes.proofs.Stacks.{is-empty}
use Rattle.program_scopes.proofs.name_stack.NameStack.new.Goals as goal

pub invariant_of-result : goal.invariant_of-result
invariant_of-result g c =
    is-empty (reverse c.new.result.items) (place_in c.new-2.result) (ap reverse c.new.ensures.items) (λ q. ap (λ es. option_flatten (lookup (λ k. bytes_eq q k.now) es)) c.new-2.ensures.empty)
