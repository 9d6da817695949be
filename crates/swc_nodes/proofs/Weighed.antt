-- What is left of a walk becomes less as a node is taken apart.
use Rattle.std.proofs.Common.{◌≡◌, ℕ, suc, ◌+◌, ◌<◌, ◌≤◌, true, List, [], ◌∷◌, ◌++◌, Some, refl, sym, ap, ◌∙◌, arith}
use Rattle.std.proofs.lemmas.List.Elements.{All-nil, All-cons, All-append, All-same, All-pop}
use Rattle.std.proofs.lemmas.List.Sums.{sum_by-cons, sum_by-append, sum_by_push}
use Rattle.std.specs.List.{All, sum_by}
use Rattle.swc_ast.specs.declared.spanned.Spanned.{Ghosts}
use Rattle.swc_nodes.specs.NumberedTrees.{Seat, floor, fits, chain}
use Rattle.swc_nodes.specs.GrowingNodes.{count, seat_at, seat_before, first_at, Apart, Stood}
use Rattle.swc_nodes.specs.Weights.{ats, weight, left_over, AreNumbers}
use Rattle.swc_nodes.specs.{NodeParts.Part, NodeParts.slots, declared.node.Node.Node, declared.nodes.Nodes.Nodes}
use Rattle.swc_nodes.proofs.Chains.{both_true, fitting, chain-bound}
use Rattle.swc_nodes.proofs.{Standing.before-same, Held.stood-parts}

pub ats-append : (ps qs : List Part) → ats (ps ++ qs) ≡ ats ps ++ ats qs
ats-append [] qs = refl
ats-append (p ∷ ps) qs = ap (λ v. p.at ∷ v) (ats-append ps qs)

ats_taken : (a b : List Part) (p : Part) → a ≡ b ++ p ∷ [] → ats a ≡ ats b ++ p.at ∷ []
ats_taken a b p e = ap ats e ∙ ats-append b (p ∷ [])

module _ {F C K : Type 0} where
  chain_weight : (at : ℕ → Seat F C K) (lo : ℕ) (ps : List Part) (hi : ℕ) → chain at lo ps hi ≡ true
      → sum_by (weight at) (ats ps) + lo ≤ hi
  chain_weight at lo [] hi h = let w = chain-bound at lo [] hi h in omega arith
  chain_weight at lo (p ∷ ps) hi h =
      let b = both_true h in let f = fitting at lo p b.0 in
      let above = f.above in let first = f.first in
      let rest = chain_weight at (suc p.at) ps hi b.1 in
      let e = sum_by-cons (weight at) p.at (ats ps) in
      omega arith

  floor_weight : (at : ℕ → Seat F C K) (lo : ℕ) (ps : List Part) (hi : ℕ) → chain at lo ps hi ≡ true
      → sum_by (weight at) (ats ps) + floor at hi ps ≤ hi
  floor_weight at lo [] hi h = omega arith
  floor_weight at lo (p ∷ ps) hi h =
      let b = both_true h in let f = fitting at lo p b.0 in
      let first = f.first in
      let rest = chain_weight at (suc p.at) ps hi b.1 in
      let e = sum_by-cons (weight at) p.at (ats ps) in
      omega arith

  chain_below : (at : ℕ → Seat F C K) (lo : ℕ) (ps : List Part) (hi more : ℕ) → hi ≤ more → chain at lo ps hi ≡ true
      → All (λ k. k < more) (ats ps)
  chain_below at lo [] hi more le h = All-nil (λ k. k < more)
  chain_below at lo (p ∷ ps) hi more le h =
      let b : (fits at lo p ≡ true) × (chain at (suc p.at) ps hi ≡ true) = both_true h in
      let w = chain-bound at (suc p.at) ps hi b.1 in
      let here : p.at < more = omega arith in
      All-cons (λ k. k < more) p.at (ats ps) here (chain_below at (suc p.at) ps hi more le b.1)

  front_below : (at : ℕ → Seat F C K) (lo : ℕ) (ps qs : List Part) (hi more : ℕ) → hi ≤ more
      → chain at lo (ps ++ qs) hi ≡ true → All (λ k. k < more) (ats ps)
  front_below at lo [] qs hi more le h = All-nil (λ k. k < more)
  front_below at lo (p ∷ ps) qs hi more le h =
      let b : (fits at lo p ≡ true) × (chain at (suc p.at) (ps ++ qs) hi ≡ true) = both_true h in
      let w = chain-bound at (suc p.at) (ps ++ qs) hi b.1 in
      let here : p.at < more = omega arith in
      All-cons (λ k. k < more) p.at (ats ps) here (front_below at (suc p.at) ps qs hi more le b.1)

  pub floor_same : (at by : ℕ → Seat F C K) (lo : ℕ) (ps : List Part) (hi : ℕ) → ((i : ℕ) → i < hi → at i ≡ by i)
      → chain by lo ps hi ≡ true → floor at hi ps ≡ floor by hi ps
  floor_same at by lo [] hi same h = refl
  floor_same at by lo (p ∷ ps) hi same h =
      let b : (fits by lo p ≡ true) × (chain by (suc p.at) ps hi ≡ true) = both_true h in
      let w = chain-bound by (suc p.at) ps hi b.1 in
      ap (λ s. s.first) (same p.at (omega arith))

module _ {F C K : Type 0} {fg : Ghosts F} {cg : Ghosts C} {kg : Ghosts K} where
  -- the parts of a node have numbers, below its own, and all that is reached from them is less
  pub parts_lighter : (ns : Nodes F C K fg cg kg) (i : ℕ) (x : Node F C K) → Stood ns i x → i < count ns
      → left_over ns (ats (slots x)) < weight (seat_at ns) i
  parts_lighter ns i x s lt =
      let c = stood-parts s lt in
      let e : first_at ns i ≡ floor (seat_before i ns) i (slots x) = ap (λ t. t.first) s.stands in
      let f = floor_same (seat_before i ns) (seat_at ns) 0 (slots x) i (λ j l. before-same i ns j l (omega arith)) c in
      let w = floor_weight (seat_at ns) 0 (slots x) i c in
      omega arith

  pub parts_below : (ns : Nodes F C K fg cg kg) (i : ℕ) (x : Node F C K) → Stood ns i x → i < count ns
      → All (λ k. k < i) (ats (slots x))
  parts_below ns i x s lt = chain_below (seat_at ns) 0 (slots x) i i (let le : i ≤ i = omega arith in
      le) (stood-parts s lt)

  pub parts_numbers : (ns : Nodes F C K fg cg kg) (i : ℕ) (x : Node F C K) → Stood ns i x → i < count ns
      → AreNumbers ns (ats (slots x))
  parts_numbers ns i x s lt = chain_below (seat_at ns) 0 (slots x) i (count ns) (let le : i ≤ count ns = omega arith in
      le) (stood-parts s lt)

  pub apart_numbers : (ns : Nodes F C K fg cg kg) (k : ℕ) (ps : List Part) → Apart k ns ps → AreNumbers ns (ats ps)
  apart_numbers ns k ps a = chain_below (seat_at ns) k ps (count ns) (count ns)
      (let le : count ns ≤ count ns = omega arith in le) a.chained

  -- of the parts of a node, the first ones
  front_numbers : (ns : Nodes F C K fg cg kg) (i : ℕ) (x : Node F C K) (qs more : List Part) → slots x ≡ qs ++ more
      → Stood ns i x
      → i < count ns → AreNumbers ns (ats qs)
  front_numbers ns i x qs more e s lt =
      front_below (seat_at ns) 0 qs more i (count ns) (let le : i ≤ count ns = omega arith in le)
      (sym (ap (λ v. chain (seat_at ns) 0 v i) e) ∙ stood-parts s lt)

  front_lighter : (ns : Nodes F C K fg cg kg) (i : ℕ) (x : Node F C K) (qs more : List Part) → slots x ≡ qs ++ more
      → Stood ns i x
      → i < count ns → left_over ns (ats qs) < weight (seat_at ns) i
  front_lighter ns i x qs more e s lt =
      let all = parts_lighter ns i x s lt in
      let both : left_over ns (ats (slots x)) ≡ left_over ns (ats qs) + left_over ns (ats more) =
      ap (λ v. left_over ns (ats v)) e ∙ ap (left_over ns) (ats-append qs more) ∙ sum_by-append (weight (seat_at ns))
      (ats qs) (ats more) in
      omega arith

  -- ---- one turn: the last part is taken from the parts a, and the first of its own parts are put after what is left
  -- of them

  pub last_below : (ns : Nodes F C K fg cg kg) (a b : List Part) (p : Part) → AreNumbers ns (ats a) → a ≡ b ++ p ∷ []
      → p.at < count ns
  last_below ns a b p all e = (All-pop (λ k. k < count ns) (ats a) (ats b) (Some p.at) (ats_taken a b p e) all).1

  pub turn_numbers : (ns : Nodes F C K fg cg kg) (a b r : List Part) (p : Part) (x : Node F C K) (qs more : List Part)
      → slots x ≡ qs ++ more
      → AreNumbers ns (ats a) → a ≡ b ++ p ∷ [] → Stood ns p.at x → r ≡ b ++ qs → AreNumbers ns (ats r)
  turn_numbers ns a b r p x qs more front all e s put =
      let P : ℕ → Type 0 = λ k. k < count ns in
      let top = All-pop P (ats a) (ats b) (Some p.at) (ats_taken a b p e) all in
      All-same P (ats r) (ats b ++ ats qs) (ap ats put ∙ ats-append b qs)
      (All-append P (ats b) (ats qs) top.0 (front_numbers ns p.at x qs more front s top.1))

  pub turn_less : (ns : Nodes F C K fg cg kg) (a b r : List Part) (p : Part) (x : Node F C K) (qs more : List Part)
      → slots x ≡ qs ++ more
      → AreNumbers ns (ats a) → a ≡ b ++ p ∷ [] → Stood ns p.at x → r ≡ b ++ qs
      → left_over ns (ats r) < left_over ns (ats a)
  turn_less ns a b r p x qs more front all e s put =
      let w = weight (seat_at ns) in
      let new : left_over ns (ats r) ≡ left_over ns (ats b) + left_over ns (ats qs) =
      ap (left_over ns) (ap ats put ∙ ats-append b qs) ∙ sum_by-append w (ats b) (ats qs) in
      let old : left_over ns (ats a) ≡ left_over ns (ats b) + w p.at =
      ap (left_over ns) (ats_taken a b p e) ∙ sum_by_push w (ats b) p.at in
      let less = front_lighter ns p.at x qs more front s (last_below ns a b p all e) in
      omega arith
