-- The walk over what is open takes exactly the lists of pieces that the grammar derives.
use Rattle.std.proofs.Common.{◌≡◌, ℕ, ◌+◌, ◌<◌, ◌≤◌, Bool, true, false, List, [], ◌∷◌, length, drop, refl, sym, ap, ◌∙◌}
use Rattle.std.specs.Prelude.{slice_index_or}
use Rattle.std.proofs.lemmas.List.{at_drop_more, at_drop_all}
use Rattle.regex_patterns.specs.declared.mode.Mode.{Mode}
use Rattle.regex_patterns.specs.declared.piece.Group.{Group}
use Rattle.regex_patterns.specs.declared.piece.Piece.{Piece}
use Rattle.regex_patterns.specs.declared.piece.Piece.TheVariants.{Open, Close, Bar, Assertion, Quantifier, Atom, Number, Name}
use Rattle.regex_patterns.specs.declared.piece.Placed.{Placed}
use Rattle.regex_patterns.specs.Grammar.{repeats, is_atom, Symbol, Disjunction, Alternative, Term, Repeatable, Tree, Derives, one, more, no-term, terms, assertion, look, plain, quantified, atom, grouped}
use Rattle.regex_patterns.specs.Groups.{accepts, step, is_nothing}

module _ (m : Mode) where
  at_piece : (o : List Bool) (l : Bool) (x : Placed) (xs : List Placed) (p : Piece) → x.piece ≡ p
      → accepts m o l (x ∷ xs) ≡ step m o l p (λ o l. accepts m o l xs)
  unfolding accepts
  at_piece o l x xs p is = ap (λ q. step m o l q (λ o l. accepts m o l xs)) is

  -- one step
  module _ (o : List Bool) (l : Bool) (ps : List Placed) (i : ℕ) (d : Placed) where
    pub steps_on : (o' : List Bool) (l' : Bool) → i < length ps
        → ((f : List Bool → Bool → Bool) → step m o l (slice_index_or ps i d).piece f ≡ f o' l')
        → accepts m o' l' (drop (i + 1) ps) ≡ accepts m o l (drop i ps)
    unfolding accepts
    steps_on o' l' lt steps =
        sym (at_drop_more (accepts m o l) ps i d lt ∙ steps (λ o l. accepts m o l (drop (i + 1) ps)))

    pub steps_off : i < length ps → ((f : List Bool → Bool → Bool) → step m o l (slice_index_or ps i d).piece f ≡ false)
        → accepts m o l (drop i ps) ≡ false
    unfolding accepts
    steps_off lt steps = at_drop_more (accepts m o l) ps i d lt ∙ steps (λ o l. accepts m o l (drop (i + 1) ps))

  module _ (o : List Bool) (l : Bool) (ps : List Placed) (i : ℕ) where
    pub steps_over : length ps ≤ i → accepts m o l (drop i ps) ≡ is_nothing o
    unfolding accepts
    steps_over le = at_drop_all (accepts m o l) ps i le

  -- What is derived is passed: as much is open after it as before.
  abbrev Passes : Symbol → List Placed → List Placed → Type 0
  Passes Disjunction xs ys = (o : List Bool) (l : Bool) → (k : Bool) × (accepts m o l xs ≡ accepts m o k ys)
  Passes Alternative xs ys = (o : List Bool) (l : Bool) → (k : Bool) × (accepts m o l xs ≡ accepts m o k ys)
  Passes Term xs ys = (o : List Bool) (l : Bool) → (k : Bool) × (accepts m o l xs ≡ accepts m o k ys)
  Passes Repeatable xs ys = (o : List Bool) (l : Bool) → accepts m o l xs ≡ accepts m o true ys

  atom_passes : (p : Piece) → is_atom p ≡ true → (o : List Bool) (l : Bool) (f : List Bool → Bool → Bool) → step m o l p f ≡ f o true
  atom_passes (Open g) is o l f = let bad : ⊥ = cc in absurd bad
  atom_passes Close is o l f = let bad : ⊥ = cc in absurd bad
  atom_passes Bar is o l f = let bad : ⊥ = cc in absurd bad
  atom_passes Assertion is o l f = let bad : ⊥ = cc in absurd bad
  atom_passes Quantifier is o l f = let bad : ⊥ = cc in absurd bad
  atom_passes Atom is o l f = refl
  atom_passes (Number n) is o l f = refl
  atom_passes Name is o l f = refl

  -- a group, once what is in it is passed
  group_passes : (x y : Placed) (g : Group) (xs ys : List Placed) → x.piece ≡ Open g → y.piece ≡ Close
      → ((o : List Bool) (l : Bool) → (k : Bool) × (accepts m o l xs ≡ accepts m o k (y ∷ ys)))
      → (o : List Bool) (l : Bool) → accepts m o l (x ∷ xs) ≡ accepts m o (repeats m g) ys
  group_passes x y g xs ys opens closes within o l =
      let w = within (repeats m g ∷ o) false in
      at_piece o l x xs (Open g) opens ∙ w.1 ∙ at_piece (repeats m g ∷ o) w.0 y ys Close closes

  passes : {s : Symbol} {xs ys : List Placed} {t : Tree} → Derives m s xs ys t → Passes s xs ys
  passes (one d) = passes d
  passes (more {ys = ys} {x = x} d bar e) = λ o l.
      let a = passes d o l in let b = passes e o false in
      (b.0, a.1 ∙ at_piece o a.0 x ys Bar bar ∙ b.1)
  passes no-term = λ o l. (l, refl)
  passes (terms d e) = λ o l. let a = passes d o l in let b = passes e o a.0 in (b.0, a.1 ∙ b.1)
  passes (assertion {xs = xs} {x = x} is) = λ o l. (false, at_piece o l x xs Assertion is)
  passes (look {xs = xs} {ys = ys} {x = x} {y = y} {g = g} opens never d closes) = λ o l.
      (repeats m g, group_passes x y g xs ys opens closes (passes d) o l)
  passes (plain d) = λ o l. (true, passes d o l)
  passes (quantified {ys = ys} {q = q} d is) = λ o l. (false, passes d o l ∙ at_piece o true q ys Quantifier is)
  passes (atom {xs = xs} {x = x} is) = λ o l.
      at_piece o l x xs x.piece refl ∙ atom_passes x.piece is o l (λ o l. accepts m o l xs)
  passes (grouped {xs = xs} {ys = ys} {x = x} {y = y} {g = g} opens may d closes) = λ o l.
      group_passes x y g xs ys opens closes (passes d) o l ∙ ap (λ r. accepts m o r ys) may

  pub complete : {ps : List Placed} {t : Tree} → Derives m Disjunction ps [] t → accepts m [] false ps ≡ true
  unfolding accepts
  complete d = let p = passes d [] false in p.1

  -- What is to come where a quantifier may be next or not: alternatives, after a quantifier or none.
  data Rest : Bool → List Placed → List Placed → Type 0 where
    alone : {l : Bool} {xs ys : List Placed} {t : Tree} → Derives m Disjunction xs ys t → Rest l xs ys
    after : {q : Placed} {xs ys : List Placed} {t : Tree} → q.piece ≡ Quantifier → Derives m Disjunction xs ys t → Rest true (q ∷ xs) ys

  -- the same of all that is open
  abbrev Meets : List Bool → Bool → List Placed → Type 0
  Meets [] l xs = Rest l xs []
  Meets (r ∷ o) l xs = (y : Placed) × ((ys : List Placed) × ((Rest l xs (y ∷ ys)) × ((y.piece ≡ Close) × Meets o r ys)))

  onto : (o : List Bool) (k l : Bool) (xs ys : List Placed) → ((zs : List Placed) → Rest k xs zs → Rest l ys zs) → Meets o k xs → Meets o l ys
  onto [] k l xs ys f r = f [] r
  onto (b ∷ o) k l xs ys f w = (w.0, (w.1.0, (f (w.0 ∷ w.1.0) w.1.1.0, w.1.1.1)))

  prepend : {l : Bool} {xs ys zs : List Placed} {t u : Tree} → Derives m Term xs ys t → Derives m Disjunction ys zs u → Rest l xs zs
  prepend d (one e) = alone (one (terms d e))
  prepend d (more e bar f) = alone (more (terms d e) bar f)

  -- after a term that a quantifier may follow, and after another one
  term_true : {l : Bool} {xs ys zs : List Placed} {t : Tree} → Derives m Repeatable xs ys t → Rest true ys zs → Rest l xs zs
  term_true d (alone e) = prepend (plain d) e
  term_true d (after is e) = prepend (quantified d is) e

  term_false : {l : Bool} {xs ys zs : List Placed} {t : Tree} → Derives m Term xs ys t → Rest false ys zs → Rest l xs zs
  term_false d (alone e) = prepend d e

  bar_false : {l : Bool} {x : Placed} {xs zs : List Placed} → x.piece ≡ Bar → Rest false xs zs → Rest l (x ∷ xs) zs
  bar_false is (alone e) = alone (more no-term is e)

  quantifier_false : {q : Placed} {xs zs : List Placed} → q.piece ≡ Quantifier → Rest false xs zs → Rest true (q ∷ xs) zs
  quantifier_false is (alone e) = after is e

  group_rest : {l : Bool} {x y : Placed} {g : Group} {xs ys zs : List Placed} → x.piece ≡ Open g → y.piece ≡ Close
      → Rest false xs (y ∷ ys) → (r : Bool) → repeats m g ≡ r → Rest r ys zs → Rest l (x ∷ xs) zs
  group_rest opens closes (alone d) true may rest = term_true (grouped opens may d closes) rest
  group_rest opens closes (alone d) false never rest = term_false (look opens never d closes) rest

  by_piece : (p : Piece) (o : List Bool) (l : Bool) (x : Placed) (xs : List Placed) → x.piece ≡ p
      → ((o : List Bool) (l : Bool) → accepts m o l xs ≡ true → Meets o l xs)
      → step m o l p (λ o l. accepts m o l xs) ≡ true → Meets o l (x ∷ xs)
  by_piece (Open g) o l x xs is go h =
      let w = go (repeats m g ∷ o) false h in
      onto o (repeats m g) l w.1.0 (x ∷ xs) (λ zs rest. group_rest is w.1.1.1.0 w.1.1.0 (repeats m g) refl rest) w.1.1.1.1
  by_piece Close [] l x xs is go h = let bad : ⊥ = cc in absurd bad
  by_piece Close (r ∷ o) l x xs is go h = (x, (xs, (alone (one no-term), (is, go o r h))))
  by_piece Bar o l x xs is go h = onto o false l xs (x ∷ xs) (λ zs rest. bar_false is rest) (go o false h)
  by_piece Assertion o l x xs is go h = onto o false l xs (x ∷ xs) (λ zs rest. term_false (assertion is) rest) (go o false h)
  by_piece Quantifier o true x xs is go h = onto o false true xs (x ∷ xs) (λ zs rest. quantifier_false is rest) (go o false h)
  by_piece Quantifier o false x xs is go h = let bad : ⊥ = cc in absurd bad
  by_piece Atom o l x xs is go h = onto o true l xs (x ∷ xs) (λ zs rest. term_true (atom (ap is_atom is)) rest) (go o true h)
  by_piece (Number n) o l x xs is go h = onto o true l xs (x ∷ xs) (λ zs rest. term_true (atom (ap is_atom is)) rest) (go o true h)
  by_piece Name o l x xs is go h = onto o true l xs (x ∷ xs) (λ zs rest. term_true (atom (ap is_atom is)) rest) (go o true h)

  sound : (o : List Bool) (l : Bool) (xs : List Placed) → accepts m o l xs ≡ true → Meets o l xs
  unfolding accepts
  sound [] l [] h = alone (one no-term)
  sound (r ∷ o) l [] h = let bad : ⊥ = cc in absurd bad
  sound o l (x ∷ xs) h = by_piece x.piece o l x xs refl (λ o l. sound o l xs) h

  derived_of : {ps : List Placed} → Rest false ps [] → (t : Tree) × Derives m Disjunction ps [] t
  derived_of (alone {t = t} d) = (t, d)

  pub derived : (ps : List Placed) → accepts m [] false ps ≡ true → (t : Tree) × Derives m Disjunction ps [] t
  derived ps h = derived_of (sound [] false ps h)
