use Rattle.program_scopes.proofs.ByTree.{names-by-tree}
use Rattle.program_scopes.proofs.names.names_by_tree.Goals as goal

pub returns : goal.returns
returns c = record { law = names-by-tree }
