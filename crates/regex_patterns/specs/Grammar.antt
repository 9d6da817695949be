-- The grammar of patterns over their pieces (ECMA-262, 22.2.1 and B.1.2): `Derives m s xs ys t` says that the symbol s
-- derives the tree t from the pieces from xs on to before ys.
use Rattle.std.specs.Prelude.{◌≡◌, Bool, true, false, not, List, ◌∷◌}
use Rattle.regex_patterns.specs.declared.mode.Mode.{Mode}
use Rattle.regex_patterns.specs.declared.piece.Group.{Group}
use Rattle.regex_patterns.specs.declared.piece.Group.TheVariants.{Capture, Named, Plain, Lookahead, Lookbehind}
use Rattle.regex_patterns.specs.declared.piece.Piece.{Piece}
use Rattle.regex_patterns.specs.declared.piece.Piece.TheVariants.{Open, Close, Bar, Assertion, Quantifier, Atom, Number, Name}
use Rattle.regex_patterns.specs.declared.piece.Placed.{Placed}

-- whether a quantifier may be after a group: not after a lookbehind; after a lookahead in old scripts alone
abbrev pub repeats : Mode → Group → Bool
repeats m Capture = true
repeats m Named = true
repeats m Plain = true
repeats m Lookahead = not m.unicode
repeats m Lookbehind = false

-- an atom that is one piece
abbrev pub is_atom : Piece → Bool
is_atom (Open g) = false
is_atom Close = false
is_atom Bar = false
is_atom Assertion = false
is_atom Quantifier = false
is_atom Atom = true
is_atom (Number n) = true
is_atom Name = true

pub data Symbol : Type 0 where
  Disjunction : Symbol
  Alternative : Symbol
  Term : Symbol
  -- what a quantifier may be after
  Repeatable : Symbol

-- a pattern: an alternative without terms, or of a term and those after it; two alternatives; a term of one piece; a
-- group, by the piece that opens it; a term with a quantifier
pub data Tree : Type 0 where
  nothing : Tree
  also : Tree → Tree → Tree
  either : Tree → Tree → Tree
  leaf : Placed → Tree
  group : Placed → Tree → Tree
  repeated : Tree → Tree

pub data Derives (m : Mode) : Symbol → List Placed → List Placed → Tree → Type 0 where
  one : {xs ys : List Placed} {t : Tree} → Derives m Alternative xs ys t → Derives m Disjunction xs ys t
  more : {xs ys zs : List Placed} {x : Placed} {t u : Tree} → Derives m Alternative xs (x ∷ ys) t → x.piece ≡ Bar
      → Derives m Disjunction ys zs u → Derives m Disjunction xs zs (either t u)
  no-term : {xs : List Placed} → Derives m Alternative xs xs nothing
  terms : {xs ys zs : List Placed} {t u : Tree} → Derives m Term xs ys t → Derives m Alternative ys zs u
      → Derives m Alternative xs zs (also t u)
  assertion : {xs : List Placed} {x : Placed} → x.piece ≡ Assertion → Derives m Term (x ∷ xs) xs (leaf x)
  look : {xs ys : List Placed} {x y : Placed} {g : Group} {t : Tree} → x.piece ≡ Open g → repeats m g ≡ false
      → Derives m Disjunction xs (y ∷ ys) t → y.piece ≡ Close → Derives m Term (x ∷ xs) ys (group x t)
  plain : {xs ys : List Placed} {t : Tree} → Derives m Repeatable xs ys t → Derives m Term xs ys t
  quantified : {xs ys : List Placed} {q : Placed} {t : Tree} → Derives m Repeatable xs (q ∷ ys) t
      → q.piece ≡ Quantifier → Derives m Term xs ys (repeated t)
  atom : {xs : List Placed} {x : Placed} → is_atom x.piece ≡ true → Derives m Repeatable (x ∷ xs) xs (leaf x)
  grouped : {xs ys : List Placed} {x y : Placed} {g : Group} {t : Tree} → x.piece ≡ Open g → repeats m g ≡ true
      → Derives m Disjunction xs (y ∷ ys) t → y.piece ≡ Close → Derives m Repeatable (x ∷ xs) ys (group x t)
