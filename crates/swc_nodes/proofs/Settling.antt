-- Nodes from which nothing below a number is reached have the same seats over whatever is below it.
use Rattle.std.proofs.Common.{◌≡◌, ℕ, suc, ◌≤◌, true, List, [], ◌∷◌, ◌++◌, length, refl, sym, ap, ◌∙◌}
use Rattle.std.proofs.Common.{arith, length-append}
use Rattle.std.proofs.lemmas.Bool.{le-leb}
use Rattle.swc_context.specs.declared.span.Span.{Span}
use Rattle.swc_nodes.specs.NodeTree.{marked_tree}
use Rattle.swc_nodes.specs.NodeParts.{Part, slots, form, view_ok}
use Rattle.swc_nodes.specs.NumberedTrees.{Seat, chain, floor, found, no_seat, ordered, seat, seats_after}
use Rattle.swc_nodes.specs.NumberedTrees.{start_refused, end_refused}
use Rattle.swc_nodes.specs.declared.node.Node.{Node}
use Rattle.swc_nodes.specs.declared.node.Node.TheVariants as n
use Rattle.swc_nodes.proofs.Along.{Same, node-along}
use Rattle.swc_nodes.proofs.Chains.{both_true, true_both, Fitting, fitting, fits-of, chain-cons}
use Rattle.swc_nodes.proofs.Marked.{more}

same-length : {X : Type 0} (xs ys : List X) (x y : X) → length xs ≡ length ys
    → length (xs ++ x ∷ []) ≡ length (ys ++ y ∷ [])
same-length xs ys x y l = let a = length-append xs (x ∷ []) in let b = length-append ys (y ∷ []) in omega arith

-- the seats of parts are the same
abbrev pub SameSeats : {F C K : Type 0} → (ℕ → Seat F C K) → (ℕ → Seat F C K) → List Part → Type 0
SameSeats at by [] = Unit {0}
SameSeats at by (p ∷ ps) = (at p.at ≡ by p.at) × SameSeats at by ps

module _ {F C K : Type 0} (at by : ℕ → Seat F C K) where
  seats-trees : (ps : List Part) → SameSeats at by ps → Same (λ i. (at i).tree) (λ i. (by i).tree) ps
  seats-trees [] h = tt
  seats-trees (p ∷ ps) h = (ap (λ s. s.tree) h.0, seats-trees ps h.1)

  floor-along : (ps : List Part) (hi : ℕ) → SameSeats at by ps → floor at hi ps ≡ floor by hi ps
  floor-along [] hi h = refl
  floor-along (p ∷ ps) hi h = ap (λ s. s.first) h.0

  pub chain-along : (lo : ℕ) (ps : List Part) (hi : ℕ) → SameSeats at by ps → chain at lo ps hi ≡ true →
      chain by lo ps hi ≡ true
  chain-along lo [] hi h c = c
  chain-along lo (p ∷ ps) hi h c =
      let b = both_true c in
      let f = fitting at lo p b.0 in
      let a = f.above in
      let v = f.first in
      let first : (at p.at).first ≡ (by p.at).first = ap (λ s. s.first) h.0 in
      let fit : Fitting by lo p = record {
        above = omega arith;
        first = omega arith;
        view = ap (λ s. view_ok p.view s.form) (sym h.0) ∙ f.view;
      } in
      chain-cons by lo p ps hi fit (chain-along (suc p.at) ps hi h.1 b.1)

  start-along : (x : Node F C K) → SameSeats at by (slots x) → start_refused at x ≡ start_refused by x
  start-along (n.Bin s op l r) h = ap (λ v. v.refused_start) h.0
  start-along x h = refl

  end-along : (x : Node F C K) → SameSeats at by (slots x) → end_refused at x ≡ end_refused by x
  end-along (n.Unary s op a) h = ap (λ v. v.refused_end) h.0
  end-along (n.Update s op true a) h = ap (λ v. v.refused_end) h.0
  end-along (n.Bin s op l r) h = ap (λ v. v.refused_end) h.1.0
  end-along (n.Cond s t c a) h = ap (λ v. v.refused_end) h.1.1.0
  end-along x h = refl

  pub seat-along : (fun_at : F → Span) (class_at : C → Span) (block_at : K → Span) (i : ℕ) (x : Node F C K) →
      SameSeats at by (slots x) → seat fun_at class_at block_at at i x ≡ seat fun_at class_at block_at by i x
  seat-along fun_at class_at block_at i x h =
      let f = floor-along (slots x) i h in
      let t = node-along (λ j. (at j).tree) (λ j. (by j).tree) fun_at class_at block_at x (seats-trees (slots x) h) in
      let l = start-along x h in
      let r = end-along x h in
      ap (λ v. record {
        first = v;
        form = form x;
        tree = marked_tree fun_at class_at block_at (λ j. (at j).tree) x;
        refused_start = start_refused at x;
        refused_end = end_refused at x;
      }) f
      ∙ ap (λ v. record {
        first = floor by i (slots x);
        form = form x;
        tree = v;
        refused_start = start_refused at x;
        refused_end = end_refused at x;
      }) t
      ∙ ap (λ v. record {
        first = floor by i (slots x);
        form = form x;
        tree = marked_tree fun_at class_at block_at (λ j. (by j).tree) x;
        refused_start = v;
        refused_end = end_refused at x;
      }) l
      ∙ ap (λ v. record {
        first = floor by i (slots x);
        form = form x;
        tree = marked_tree fun_at class_at block_at (λ j. (by j).tree) x;
        refused_start = start_refused by x;
        refused_end = v;
      }) r

  -- parts from which nothing below k is reached, where all seats from k on are the same
  pub chain-seats : (k lo : ℕ) (ps : List Part) (hi : ℕ) → ((i : ℕ) → k ≤ i → at i ≡ by i) → k ≤ lo →
      chain at lo ps hi ≡ true → SameSeats at by ps
  chain-seats k lo [] hi same le c = tt
  chain-seats k lo (p ∷ ps) hi same le c =
      let b = both_true c in
      let f = fitting at lo p b.0 in
      let a = f.above in
      let v = f.first in
      (same p.at (omega arith), chain-seats k (suc p.at) ps hi same (omega arith) b.1)

module _ {F C K : Type 0} where
  pub chain-raise : (at : ℕ → Seat F C K) (lo : ℕ) (ps : List Part) (hi : ℕ) → chain at 0 ps hi ≡ true →
      lo ≤ floor at hi ps → chain at lo ps hi ≡ true
  chain-raise at lo [] hi h le = le-leb lo hi le
  chain-raise at lo (p ∷ ps) hi h le =
      let b = both_true h in let f = fitting at 0 p b.0 in
      true_both (fits-of at lo p (record { above = le; first = f.first; view = f.view })) b.1

module _ {F C K : Type 0} (fun_at : F → Span) (class_at : C → Span) (block_at : K → Span) where
  abbrev seat_of : (ℕ → Seat F C K) → ℕ → Node F C K → Seat F C K
  seat_of = seat fun_at class_at block_at

  -- from no node with a number from that of the first on is anything below k reached
  abbrev pub Above : ℕ → List (Seat F C K) → List (Node F C K) → Type 0
  Above k ss [] = Unit {0}
  Above k ss (x ∷ xs) =
      (k ≤ floor (found ss) (length ss) (slots x)) × Above k (ss ++ seat_of (found ss) (length ss) x ∷ []) xs

  pub record Over (k : ℕ) (ss us : List (Seat F C K)) (xs : List (Node F C K)) : Type 0 where
    pub order : ordered fun_at class_at block_at us xs ≡ true
    pub same : (i : ℕ) → k ≤ i →
        found (seats_after fun_at class_at block_at ss xs) i ≡ found (seats_after fun_at class_at block_at us xs) i

  pub over : (k : ℕ) (ss us : List (Seat F C K)) (xs : List (Node F C K)) → length us ≡ length ss →
      ((i : ℕ) → k ≤ i → found ss i ≡ found us i) → ordered fun_at class_at block_at ss xs ≡ true → Above k ss xs →
      Over k ss us xs
  over k ss us [] l same h a = record { order = refl; same = same }
  over k ss us (x ∷ xs) l same h a =
      let b = both_true h in
      let raised = chain-raise (found ss) k (slots x) (length ss) b.0 a.0 in
      let parts = chain-seats (found ss) (found us) k k (slots x) (length ss) same (omega arith) raised in
      let now = chain-along (found ss) (found us) 0 (slots x) (length ss) parts b.0 in
      let here : seat_of (found ss) (length ss) x ≡ seat_of (found us) (length us) x =
      seat-along (found ss) (found us) fun_at class_at block_at (length ss) x parts
      ∙ ap (λ m. seat_of (found us) m x) (sym l) in
      let longer : length (us ++ seat_of (found us) (length us) x ∷ []) ≡ length
      (ss ++ seat_of (found ss) (length ss) x ∷ []) =
      same-length us ss (seat_of (found us) (length us) x) (seat_of (found ss) (length ss) x) l in
      let next = over k (ss ++ seat_of (found ss) (length ss) x ∷ [])
      (us ++ seat_of (found us) (length us) x ∷ []) xs longer
      (more (λ i s t. k ≤ i → s ≡ t) ss us (seat_of (found ss) (length ss) x)
      (seat_of (found us) (length us) x) no_seat l
      (λ i lt. same i) (λ le. here) (λ i lt le. refl)) b.1 a.1 in
      record {
        order = true_both (ap (chain (found us) 0 (slots x)) l ∙ now) next.order;
        same = next.same;
      }
