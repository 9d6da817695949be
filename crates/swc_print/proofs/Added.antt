-- The numbers among pieces that are put together.
use Rattle.std.proofs.Common.{◌≡◌, ℕ, zero, suc, ◌+◌, ◌<◌, List, [], ◌∷◌, ◌++◌, length, take, get_or, reverse, Result, Ok, Err, OnOk, refl, sym, ap, ◌∙◌, append_assoc, add-one}
use Rattle.std.proofs.{lemmas.List.append-nil, lemmas.List.reverse-append, lemmas.Option.slice_get_read}
use Rattle.std.specs.Prelude.{slice_get}
use Rattle.swc_nodes.specs.NodeParts.{Part, flat, if_some}
use Rattle.swc_nodes.specs.Weights.{ats}
use Rattle.swc_nodes.proofs.Weighed.{ats-append}
use Rattle.swc_print.specs.{Numbers.numbers, declared.pieces.Piece.Piece, declared.pieces.Piece.Piece as piece}

pub numbers-append : (xs ys : List Piece) → numbers (xs ++ ys) ≡ numbers xs ++ numbers ys
numbers-append [] ys = refl
numbers-append (piece.Text t ∷ xs) ys = numbers-append xs ys
numbers-append (piece.Count k ∷ xs) ys = numbers-append xs ys
numbers-append (piece.Node i ∷ xs) ys = ap (λ v. i ∷ v) (numbers-append xs ys)
numbers-append (piece.Next i ∷ xs) ys = ap (λ v. i ∷ v) (numbers-append xs ys)
numbers-append (piece.Last i ∷ xs) ys = ap (λ v. i ∷ v) (numbers-append xs ys)
numbers-append (piece.Bracketed o i ∷ xs) ys = ap (λ v. i ∷ v) (numbers-append xs ys)
numbers-append (piece.Property o t ∷ xs) ys = numbers-append xs ys

pub piece_more : (old new : List Piece) (p : Piece) → new ≡ old ++ p ∷ []
    → numbers new ≡ numbers old ++ numbers (p ∷ [])
piece_more old new p e = ap numbers e ∙ numbers-append old (p ∷ [])

pub text_more : (old new : List Piece) (p : Piece) → numbers (p ∷ []) ≡ [] → new ≡ old ++ p ∷ []
    → numbers new ≡ numbers old
text_more old new p none e = piece_more old new p e ∙ ap (λ v. numbers old ++ v) none ∙ append-nil (numbers old)

-- some parts, and then more of them
pub both : (a b c : List ℕ) (ps qs : List Part) → b ≡ a ++ ats ps → c ≡ b ++ ats qs → c ≡ a ++ ats (ps ++ qs)
both a b c ps qs e f = f ∙ ap (λ v. v ++ ats qs) e ∙ append_assoc a (ats ps) (ats qs) ∙ ap (λ v. a ++ v)
    (sym (ats-append ps qs))

-- the parts of one item more
flat_more : {X : Type 0} (f : X → List Part) (xs : List X) (i : ℕ)
    → flat f (take (suc i) xs) ≡ flat f (take i xs) ++ if_some f (slice_get xs i)
flat_more f [] zero = refl
flat_more f [] (suc i) = refl
flat_more f (x ∷ xs) zero = append-nil (f x)
flat_more f (x ∷ xs) (suc i) = ap (λ v. f x ++ v) (flat_more f xs i) ∙ sym
    (append_assoc (f x) (flat f (take i xs)) (if_some f (slice_get xs i)))

pub one_more : {X : Type 0} (f : X → List Part) (xs ys : List X) (i : ℕ) (a b c : List ℕ) → ys ≡ xs
    → b ≡ a ++ ats (flat f (take i xs)) → c ≡ b ++ ats (if_some f (slice_get ys i))
    → c ≡ a ++ ats (flat f (take (i + 1) xs))
one_more f xs ys i a b c same e h =
    both a b c (flat f (take i xs)) (if_some f (slice_get xs i)) e
    (h ∙ ap (λ v. b ++ ats (if_some f (slice_get v i))) same)
    ∙ ap (λ v. a ++ ats v) (sym (flat_more f xs i)) ∙ ap (λ v. a ++ ats (flat f (take v xs))) (sym (add-one i))

pub item_more : {X : Type 0} (f : X → List Part) (xs : List X) (i : ℕ) (x : X) (a b c : List ℕ) → i < length xs
    → x ≡ get_or xs i x → b ≡ a ++ ats (flat f (take i xs)) → c ≡ b ++ ats (f x)
    → c ≡ a ++ ats (flat f (take (i + 1) xs))
item_more f xs i x a b c lt at e h = one_more f xs xs i a b c refl e
    (h ∙ ap (λ v. b ++ ats (if_some f v)) (sym (slice_get_read xs (length xs) i x refl lt at)))

-- what is done with a list in one call, and then in a second
pub both_ok : {A B : Type 0} (r : Result A B) (a b c : List ℕ) (ps qs : List Part) → b ≡ a ++ ats ps
    → OnOk r (c ≡ b ++ ats qs) → OnOk r (c ≡ a ++ ats (ps ++ qs))
both_ok (Ok x) a b c ps qs e f = both a b c ps qs e f
both_ok (Err x) a b c ps qs e f = tt

-- ---- the stack

-- the numbers on the stack once all the pieces are moved onto it
abbrev pub all_moved : List Piece → List Piece → List ℕ
all_moved stack pieces = numbers stack ++ reverse (numbers pieces)

reverse_one : (p : Piece) → reverse (numbers (p ∷ [])) ≡ numbers (p ∷ [])
reverse_one (piece.Text t) = refl
reverse_one (piece.Count k) = refl
reverse_one (piece.Node i) = refl
reverse_one (piece.Next i) = refl
reverse_one (piece.Last i) = refl
reverse_one (piece.Bracketed o i) = refl
reverse_one (piece.Property o t) = refl

-- the last of the pieces is moved
pub one_moved : (stack pieces more left : List Piece) (p : Piece) (whole : List ℕ) → pieces ≡ left ++ p ∷ []
    → more ≡ stack ++ p ∷ [] → all_moved stack pieces ≡ whole → all_moved more left ≡ whole
one_moved stack pieces more left p whole e f h =
    let turned : reverse (numbers pieces) ≡ numbers (p ∷ []) ++ reverse (numbers left) =
    ap reverse (piece_more left pieces p e) ∙ reverse-append (numbers left) (numbers (p ∷ [])) ∙ ap
    (λ v. v ++ reverse (numbers left)) (reverse_one p) in
    ap (λ v. v ++ reverse (numbers left)) (piece_more stack more p f) ∙ append_assoc (numbers stack) (numbers (p ∷ []))
    (reverse (numbers left)) ∙ sym (ap (λ v. numbers stack ++ v) turned) ∙ h

-- none is left to move
pub none_left : (stack pieces : List Piece) (whole : List ℕ) → pieces ≡ [] → all_moved stack pieces ≡ whole
    → numbers stack ≡ whole
none_left stack pieces whole none h = sym (append-nil (numbers stack)) ∙ ap (λ v. numbers stack ++ reverse (numbers v))
    (sym none) ∙ h

-- a piece was taken from the top
pub text_taken : (old new : List Piece) (p : Piece) (whole : List ℕ) → old ≡ new ++ p ∷ [] → numbers (p ∷ []) ≡ []
    → numbers old ≡ whole → numbers new ≡ whole
text_taken old new p whole e none h = sym (append-nil (numbers new)) ∙ ap (λ v. numbers new ++ v) (sym none) ∙ sym
    (ap numbers e ∙ numbers-append new (p ∷ [])) ∙ h

pub node_taken : (old new : List Piece) (p : Piece) (i : ℕ) (whole : List ℕ) → old ≡ new ++ p ∷ []
    → numbers (p ∷ []) ≡ i ∷ [] → numbers old ≡ whole → whole ≡ numbers new ++ i ∷ []
node_taken old new p i whole e one h = sym h ∙ ap numbers e ∙ numbers-append new (p ∷ []) ∙ ap
    (λ v. numbers new ++ v) one

-- and a piece of text was put in its place
pub last_taken : (old left new : List Piece) (p q : Piece) (i : ℕ) (whole : List ℕ) → old ≡ left ++ p ∷ []
    → numbers (p ∷ []) ≡ i ∷ [] → new ≡ left ++ q ∷ [] → numbers (q ∷ []) ≡ [] → numbers old ≡ whole
    → whole ≡ numbers new ++ i ∷ []
last_taken old left new p q i whole e one f none h =
    let same : numbers new ≡ numbers left = piece_more left new q f ∙ ap (λ v. numbers left ++ v) none ∙ append-nil
    (numbers left) in
    node_taken old left p i whole e one h ∙ ap (λ v. v ++ i ∷ []) (sym same)

-- ---- a node that is begun

-- its first part, and a piece with the others
pub part_first : (old new : List Piece) (p : Piece) (i : ℕ) → new ≡ old ++ p ∷ []
    → numbers new ++ i ∷ [] ≡ numbers old ++ reverse (i ∷ numbers (p ∷ []))
part_first old new p i e =
    let turned : reverse (i ∷ numbers (p ∷ [])) ≡ numbers (p ∷ []) ++ i ∷ [] =
    reverse-append (i ∷ []) (numbers (p ∷ [])) ∙ ap (λ v. v ++ i ∷ []) (reverse_one p) in
    ap (λ v. v ++ i ∷ []) (piece_more old new p e) ∙ append_assoc (numbers old) (numbers (p ∷ [])) (i ∷ [])
    ∙ ap (λ v. numbers old ++ v) (sym turned)

-- and a third part
pub third_part : (old mid new : List Piece) (i j k : ℕ) → mid ≡ old ++ piece.Last k ∷ [] → new ≡ mid ++ piece.Next j ∷ []
    → numbers new ++ i ∷ [] ≡ numbers old ++ reverse (i ∷ j ∷ k ∷ [])
third_part old mid new i j k e f =
    part_first mid new (piece.Next j) i f ∙ ap (λ v. v ++ j ∷ i ∷ []) (piece_more old mid (piece.Last k) e)
    ∙ append_assoc (numbers old) (k ∷ []) (j ∷ i ∷ [])

-- the next one, where it has none
pub next_below : (old mid new ns found : List ℕ) → ns ≡ [] → mid ≡ old → mid ≡ new ++ found
    → new ++ found ≡ old ++ reverse ns
next_below old mid new ns found none same h = sym h ∙ same ∙ sym (append-nil old) ∙ ap (λ v. old ++ reverse v)
    (sym none)

-- and where its parts were moved
pub next_moved : (old mid moved new waited laid ns found : List ℕ) → mid ≡ old → waited ≡ [] → laid ≡ waited ++ ns
    → moved ≡ mid ++ reverse laid → moved ≡ new ++ found → new ++ found ≡ old ++ reverse ns
next_moved old mid moved new waited laid ns found same none put more h = sym h ∙ more ∙ ap (λ v. v ++ reverse laid) same
    ∙ ap (λ v. old ++ reverse v) (put ∙ ap (λ v. v ++ ns) none)
