-- How the steps of a production follow one another.
pub mod Booleans
pub mod Calls
pub mod Consumed
pub mod Contexts
pub mod Faults
pub mod Inner
pub mod Looks
pub mod Refusals
pub mod Results
pub mod Tokens
pub use Rattle.swc_steps.proofs.Steps.Booleans.{not_true, not_false, on_ok, if_err, memory_is, memory_not, and_true, and_false, both_left, both_right, not_and}
pub use Rattle.swc_steps.proofs.Steps.Consumed.{Reader, give, read_scope, here, leads_then, spent, served_later, took_leads, leads_refused, onward_then, onward_later, onward_one, longer, refuses_later, forgoes_later, forgoes_refuses, forgoes_here, forgoes_on, less, lower, more_recorded, loud_after, same_leads, place_was, last_was, acts_later, tries_node, acts_after, notes_after, falls_after, consumes_falls}
pub use Rattle.swc_steps.proofs.Steps.Looks.{seen_some, here_now, looks, at_was, unfit_seen, literal_took, here_leads, here_refused, told_leads}
pub use Rattle.swc_steps.proofs.Steps.Tokens.{on_here, on_by, on_seen, on_told, on_took, on_then, on_looked, on_same, heard_after, heard_then, on_to, heard_took, heard_first, on_none, on_answer, heard_answer}
pub use Rattle.swc_steps.proofs.Steps.Calls.{on_call, unheard_call, heard_call, heard_more, heard_as, on_call_read, heard_call_read, heard_more_read, on_within_call}
pub use Rattle.swc_steps.proofs.Steps.Refusals.{on_doomed, unheard_doomed, unheard_after, unheard_looked, unheard_none, unheard_at, unheard_told, unheard_memory, unheard_as, unheard_unfit, continues_recovered, parses_recovered}
pub use Rattle.swc_steps.proofs.Steps.Faults.{on_checked_in, on_checked, on_nothing, heard_nothing, heard_noted, heard_unless, check_passes, checks_both, checks_and, notes_then, check_notes, check_later}
pub use Rattle.swc_steps.proofs.Steps.Results.{parses_after, continues_after, parses_then, parses_first, consumes_of, consumes_then, continues_of, node_parses, node_continues, parses_call, parses_call_read, tries_then, eats_acts, eats_none, eats_some, eats_on}
pub use Rattle.swc_steps.proofs.Steps.Contexts.{moved, within, on_within, on_aside, parses_within, parses_aside}
pub use Rattle.swc_steps.proofs.Steps.Inner.{inner_of, no_head, inner_is, on_inner, on_from_inner, heard_inner, unheard_inner, parses_inner, continues_inner}
