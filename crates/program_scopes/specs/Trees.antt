-- The scopes of a program as a tree, and the rules of ECMA-262 for the names that they declare (14.2.1, 14.12.1, 14.15.1,
-- 15.2.1, 16.1.1 and 16.2.1, with B.3.3 and B.3.4).
use Rattle.std.specs.Prelude.{◌≡◌, ℕ, true, false, ◌&&◌, List, [], ◌∷◌, ◌++◌, None}
use Rattle.std.specs.Str.{bytes_eq}
use Rattle.swc_context.specs.declared.span.Span.{Span}
use Rattle.program_scopes.specs.Scopes.{Scope, Declared, excludes, blocks_var, against_in_block, against_var, begun, ended, in_block, as_var}

-- what a scope declares, in the order of the text
pub data Tree : Type 0 where
  nothing : Tree
  lexical : Declared → Tree → Tree
  var : List ℕ → Span → Tree → Tree
  -- a scope in it, of a block or of a function, and what comes after that
  block : Tree → Tree → Tree
  function : Tree → Tree → Tree

-- LexicallyDeclaredNames (8.2.4)
unfoldable pub lexically_declared : Tree → List Declared
lexically_declared nothing = []
lexically_declared (lexical d t) = d ∷ lexically_declared t
lexically_declared (var q p t) = lexically_declared t
lexically_declared (block b t) = lexically_declared t
lexically_declared (function f t) = lexically_declared t

-- VarDeclaredNames (8.2.6)
unfoldable pub var_declared : Tree → List (List ℕ)
var_declared nothing = []
var_declared (lexical d t) = var_declared t
var_declared (var q p t) = q ∷ var_declared t
var_declared (block b t) = var_declared b ++ var_declared t
var_declared (function f t) = var_declared t

abbrev pub AllOf : {A : Type 0} → (A → Type 0) → List A → Type 0
AllOf P [] = Unit {0}
AllOf P (x ∷ xs) = P x × AllOf P xs

-- both may be in one scope
abbrev pub AreCompatible : Declared → Declared → Type 0
AreCompatible d e = (bytes_eq d.name e.name && excludes d.kind e.kind) ≡ false

abbrev pub AllowsVar : Declared → List ℕ → Type 0
AllowsVar d q = (bytes_eq q d.name && blocks_var d.kind) ≡ false

-- the LexicallyDeclaredNames of a scope have no duplicates
unfoldable pub AreDistinct : List Declared → Type 0
AreDistinct [] = Unit {0}
AreDistinct (d ∷ ds) = AllOf (AreCompatible d) ds × AreDistinct ds

-- none of them is one of its VarDeclaredNames
abbrev pub AreApart : List Declared → List (List ℕ) → Type 0
AreApart ds qs = AllOf (λ d. AllOf (AllowsVar d) qs) ds

-- the rules hold of each scope within
unfoldable pub AllWithin : Tree → Type 0
AllWithin nothing = Unit {0}
AllWithin (lexical d t) = AllWithin t
AllWithin (var q p t) = AllWithin t
AllWithin (block b t) = (AreDistinct (lexically_declared b) × (AreApart (lexically_declared b) (var_declared b) × AllWithin b)) × AllWithin t
AllWithin (function f t) = (AreDistinct (lexically_declared f) × (AreApart (lexically_declared f) (var_declared f) × AllWithin f)) × AllWithin t

-- the rules hold of a scope and of each within
abbrev pub MeetsRules : Tree → Type 0
MeetsRules t = AreDistinct (lexically_declared t) × (AreApart (lexically_declared t) (var_declared t) × AllWithin t)

-- the scopes that are open after the calls for a tree
unfoldable pub after : Tree → List Scope → List Scope
after nothing ss = ss
after (lexical d t) ss = after t (in_block d.name d.kind d.place ss)
after (var q p t) ss = after t (as_var q p ss)
after (block b t) ss = after t (ended (after b (begun false ss)))
after (function f t) ss = after t (ended (after f (begun true ss)))

-- no call for a tree answers anything
unfoldable pub Passes : Tree → List Scope → Type 0
Passes nothing ss = Unit {0}
Passes (lexical d t) ss = (against_in_block d.kind d.name ss ≡ None) × Passes t (in_block d.name d.kind d.place ss)
Passes (var q p t) ss = (against_var q ss ≡ None) × Passes t (as_var q p ss)
Passes (block b t) ss = Passes b (begun false ss) × Passes t (ended (after b (begun false ss)))
Passes (function f t) ss = Passes f (begun true ss) × Passes t (ended (after f (begun true ss)))
