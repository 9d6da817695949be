-- How names are declared (ECMA-262, 8.2, B.3.3 and B.3.4).
use Rattle.std.specs.Prelude.{ℕ, Bool, not, ◌&&◌, ◌||◌, List, if◌then◌else◌}
use Rattle.swc_context.specs.declared.span.Span.{Span}
use Rattle.program_scopes.specs.declared.names.Lexical.{Lexical}
use Rattle.program_scopes.specs.declared.names.Lexical.TheVariants.{Plain, SloppyFunction, CatchName as ACatchName}
use Rattle.program_scopes.specs.Scopes.{Scope, is_in_no_block, is_of_program, in_block, as_var}
use Rattle.early_errors.specs.declared.task.Binder.{Binder}
use Rattle.early_errors.specs.declared.task.Binder.TheVariants.{Var, Let, CatchName, CatchPattern, UniqueParameter, Parameter}

-- a name of a pattern
abbrev pub bound : Binder → List ℕ → Span → List Scope → List Scope
bound Var q place ss = as_var q place ss
bound Let q place ss = in_block q Plain place ss
bound CatchName q place ss = in_block q ACatchName place ss
bound CatchPattern q place ss = in_block q Plain place ss
bound UniqueParameter q place ss = as_var q place ss
bound Parameter q place ss = as_var q place ss

-- in a block, there may be two plain functions of one name in sloppy code
abbrev pub kind_of_function : Bool → Lexical
kind_of_function is_sloppy = if is_sloppy then SloppyFunction else Plain

-- a function that is declared: as `var` does where it is in no block, but in a module itself
abbrev pub function_bound : Bool → Bool → List ℕ → Span → List Scope → List Scope
function_bound is_module is_sloppy q place ss =
    if is_in_no_block ss && not (is_module && is_of_program ss) then as_var q place ss else in_block q (kind_of_function is_sloppy) place ss
