-- How `Names` holds the scopes that are open.
use Rattle.std.specs.Prelude.{◌≡◌, ℕ, Bool, List, [], ◌∷◌, ◌++◌, length, reverse, if◌then◌else◌, option_map, Option, None, Some}
use Rattle.std.specs.Option.{option_or, option_and_then}
use Rattle.swc_context.specs.declared.span.Span.{Span}
use Rattle.program_scopes.specs.declared.names.Lexical.{Lexical}
use Rattle.program_scopes.specs.declared.names.Lexical.TheVariants.{Plain, SloppyFunction, CatchName}
use Rattle.program_scopes.specs.declared.names.InBlock.{InBlock}
use Rattle.program_scopes.specs.declared.names.Mark.{Mark}
use Rattle.program_scopes.specs.declared.names.Names.{Names}
use Rattle.program_scopes.specs.Scopes.{Scope, Declared, blocking, against_var}
use Rattle.program_scopes.specs.Scopes as scopes

-- of a block's last declaration of a name: that beside which there must be none of the kind
abbrev pub excluding : Lexical → Option InBlock → Option Span
excluding SloppyFunction last = option_and_then (λ e. e.plain) last
excluding Plain last = option_map (λ e. e.place) last
excluding CatchName last = option_map (λ e. e.place) last

-- of a function's innermost declaration of a name: that in whose block there must be no `var`
abbrev pub blocks : Option InBlock → Option Span
blocks innermost = option_and_then (λ e. e.blocks) innermost

-- what is kept of a name, by the last one of its block before it and the innermost one of its function
abbrev pub kept_after : Span → Lexical → Option InBlock → Option InBlock → InBlock
kept_after place Plain last innermost = record { place = place; plain = Some place; blocks = Some place }
kept_after place SloppyFunction last innermost = record { place = place; plain = excluding SloppyFunction last; blocks = Some place }
kept_after place CatchName last innermost = record { place = place; plain = Some place; blocks = blocks innermost }

-- what is kept of the first of these names of a block, within such scopes
abbrev pub kept : Bool → List Scope → Declared → List Declared → InBlock
kept is_function around d ds = record {
  place = d.place;
  plain = scopes.excluding SloppyFunction d.name (d ∷ ds);
  blocks = option_or (blocking d.name (d ∷ ds)) (if is_function then None else against_var d.name around);
}

-- what is kept of a block's names
unfoldable pub kept_in : Bool → List Scope → List Declared → List (List ℕ × InBlock)
kept_in is_function around [] = []
kept_in is_function around (d ∷ ds) = (d.name, kept is_function around d ds) ∷ kept_in is_function around ds

-- what is kept of the names of all blocks
unfoldable pub kept_of : List Scope → List (List ℕ × InBlock)
kept_of [] = []
kept_of (s ∷ ss) = kept_in s.is_function ss s.lexical ++ kept_of ss

unfoldable pub vars_of : List Scope → List (List ℕ × Span)
vars_of [] = []
vars_of (s ∷ ss) = s.vars ++ vars_of ss

-- how many names blocks declare outside of the innermost function
unfoldable pub before_function : List Scope → ℕ
before_function [] = 0
before_function (s ∷ ss) = if s.is_function then length (kept_of ss) else before_function ss

abbrev pub mark_of : Scope → List Scope → Mark
mark_of s ss = record {
  is_function = s.is_function;
  in_blocks = length (kept_of ss);
  vars = length (vars_of ss);
  function = before_function (s ∷ ss);
}

unfoldable pub marks_of : List Scope → List Mark
marks_of [] = []
marks_of (s ∷ ss) = mark_of s ss ∷ marks_of ss

-- these are the scopes that are open
pub record AreOpen (names : Names) (ss : List Scope) : Type 0 where
  pub in_blocks : names.in_blocks ≡ kept_of ss
  pub vars : names.vars ≡ vars_of ss
  pub marks : names.scope ∷ reverse names.around.items ≡ marks_of ss

-- the scopes that are open change so
abbrev pub Changes : Names → Names → (List Scope → List Scope) → Type 0
Changes old new f = (ss : List Scope) → AreOpen old ss → AreOpen new (f ss)

-- this is so of the scopes that are open
abbrev pub Tells : {A : Type 0} → Names → (List Scope → A) → A → Type 0
Tells names f x = (ss : List Scope) → AreOpen names ss → x ≡ f ss
