-- The scopes that are open at a place of a program, the innermost first, and what they declare before it
-- (ECMA-262, 8.2).
use Rattle.std.specs.Prelude.{ℕ, Bool, true, false, List, [], ◌∷◌, ◌++◌, if◌then◌else◌, ◌&&◌, ◌||◌, Option, Some, None}
use Rattle.std.specs.Option.{option_or}
use Rattle.std.specs.List.{list_any}
use Rattle.std.specs.Str.{bytes_eq}
use Rattle.program_scopes.specs.Layers.{last}
use Rattle.swc_context.specs.declared.span.Span.{Span}
use Rattle.program_scopes.specs.declared.names.Lexical.{Lexical}
use Rattle.program_scopes.specs.declared.names.Lexical.TheVariants.{Plain, SloppyFunction, CatchName}

-- a name that a block declares
pub record Declared : Type 0 where
  pub name : List ℕ
  pub kind : Lexical
  pub place : Span

-- A scope: whether it is that of a function or of the program; the names that it declares itself
-- (LexicallyDeclaredNames); and those that are declared in it, or in blocks in it, as `var` does (VarDeclaredNames).
-- The last one is first.
pub record Scope : Type 0 where
  pub is_function : Bool
  pub lexical : List Declared
  pub vars : List (List ℕ × Span)

-- there must not be both in one block
abbrev pub excludes : Lexical → Lexical → Bool
excludes SloppyFunction SloppyFunction = false
excludes SloppyFunction Plain = true
excludes SloppyFunction CatchName = true
excludes Plain k = true
excludes CatchName k = true

-- `var` must not be in a block of such a name
abbrev pub blocks_var : Lexical → Bool
blocks_var Plain = true
blocks_var SloppyFunction = true
blocks_var CatchName = false

-- the last of a block's names beside which there must be none of that kind
unfoldable pub excluding : Lexical → List ℕ → List Declared → Option Span
excluding kind q [] = None
excluding kind q (d ∷ ds) = if bytes_eq q d.name && excludes kind d.kind then Some d.place else excluding kind q ds

-- the last of a block's names in which there must be no `var`
unfoldable pub blocking : List ℕ → List Declared → Option Span
blocking q [] = None
blocking q (d ∷ ds) = if bytes_eq q d.name && blocks_var d.kind then Some d.place else blocking q ds

-- the `var` of a name, if there must not be one beside a declaration of that kind
abbrev pub var_beside : Lexical → Option Span → Option Span
var_beside kind var = if blocks_var kind then var else None

-- what a name is against that the innermost scope declares: another one of that scope, or a `var` in it
abbrev pub against_in_block : Lexical → List ℕ → List Scope → Option Span
against_in_block kind q [] = None
against_in_block kind q (s ∷ ss) = option_or (excluding kind q s.lexical) (var_beside kind (last q s.vars))

-- what a `var` is against: a name of a scope around it, up to that of its function
unfoldable pub against_var : List ℕ → List Scope → Option Span
against_var q [] = None
against_var q (s ∷ ss) = option_or (blocking q s.lexical) (if s.is_function then None else against_var q ss)

-- what a parameter has its name from, too
abbrev pub against_parameter : List ℕ → List Scope → Option Span
against_parameter q [] = None
against_parameter q (s ∷ ss) = last q s.vars

-- some open scope declares the name
abbrev pub is_declared : List ℕ → List Scope → Bool
is_declared q ss = list_any (λ s. list_any (λ d. bytes_eq q d.name) s.lexical) ss || list_any (λ s. list_any (λ d. bytes_eq q d.0) s.vars) ss

abbrev pub is_in_no_block : List Scope → Bool
is_in_no_block [] = false
is_in_no_block (s ∷ ss) = s.is_function

abbrev pub is_of_program : List Scope → Bool
is_of_program [] = false
is_of_program (s ∷ []) = true
is_of_program (s ∷ t ∷ ss) = false

abbrev pub nothing : Bool → Scope
nothing is_function = record { is_function = is_function; lexical = []; vars = [] }

-- a scope begins
abbrev pub begun : Bool → List Scope → List Scope
begun is_function ss = nothing is_function ∷ ss

-- the innermost scope declares a name
abbrev pub in_block : List ℕ → Lexical → Span → List Scope → List Scope
in_block q kind place [] = []
in_block q kind place (s ∷ ss) = record {
  is_function = s.is_function;
  lexical = record { name = q; kind = kind; place = place } ∷ s.lexical;
  vars = s.vars;
} ∷ ss

-- a name is declared as `var` does
abbrev pub as_var : List ℕ → Span → List Scope → List Scope
as_var q place [] = []
as_var q place (s ∷ ss) = record { is_function = s.is_function; lexical = s.lexical; vars = (q, place) ∷ s.vars } ∷ ss

-- a scope ends that is not the program's: what is declared in a block as `var` does is so in the scope around it
abbrev pub ended : List Scope → List Scope
ended [] = []
ended (s ∷ []) = s ∷ []
ended (s ∷ t ∷ ss) =
    if s.is_function then t ∷ ss
    else record { is_function = t.is_function; lexical = t.lexical; vars = s.vars ++ t.vars } ∷ ss
