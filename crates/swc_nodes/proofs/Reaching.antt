-- Going down from parts to all that is reached from them, a node before its parts.
use Rattle.std.proofs.Common.{◌≡◌, ℕ, suc, ◌+◌, ◌<◌, ◌≤◌, ◌⊎◌, inl, inr, true, List, [], ◌∷◌, ◌++◌, length, map, reverse, refl, sym, ap, subst, ◌∙◌, arith}
use Rattle.std.proofs.lemmas.List.{get_or_default, get_or-map, length-map, reverse-append}
use Rattle.std.proofs.lemmas.List.Elements.{All-contains, Contains-append_left, Contains-append_right, All-contains_itself, All-weaker, Contains-append_cases, Contains-push_cases}
use Rattle.std.proofs.{lemmas.List.Kept.AllPairs-cons, lemmas.List.Sums.sum_by-append, lemmas.List.Sums.sum_by_push, lemmas.Bool.cases_lt}
use Rattle.std.specs.Prelude.{slice_index_or, vec_len, Contains, AllPairs}
use Rattle.std.specs.{declared.alloc.Global.Global, declared.vec.Vec.Vec, List.All}
use Rattle.swc_ast.specs.declared.spanned.Spanned.{Ghosts}
use Rattle.swc_nodes.specs.NumberedTrees.{Seat, floor, chain}
use Rattle.swc_nodes.specs.GrowingNodes.{count, seat_at, seat_before, parts_at, first_at, Apart, Stood}
use Rattle.swc_nodes.specs.Reached.{Reaches, HasReached, NumbersRise, PartsFirst, itself, part}
use Rattle.swc_nodes.specs.Weights.{ats, weight, left_over}
use Rattle.swc_nodes.specs.{NodeParts.Part, NodeParts.slots, Walking.part_of, declared.apart.PartId.PartId, declared.node.Node.Node, declared.nodes.Nodes.Nodes}
use Rattle.swc_nodes.proofs.Chains.{both_true, fitting, floor-under}
use Rattle.swc_nodes.proofs.Held.{stood-parts}
use Rattle.swc_nodes.proofs.Standing.{before-same, get_stood, no_seat-past}
use Rattle.swc_nodes.proofs.Weighed.{ats-append, floor_same, parts_below, parts_lighter, parts_numbers}

module _ {A : Type 0} where
  here : (x : A) (xs : List A) → Contains (x ∷ xs) x
  here x xs = (0, omega arith, refl)

  later : (x y : A) (xs : List A) → Contains xs y → Contains (x ∷ xs) y
  later x y xs h = Contains-append_right (x ∷ []) xs y h

  in_none : (y : A) → Contains [] y → ⊥
  in_none y h = let lt = h.1 in omega arith

  first_or_later : (x y : A) (xs : List A) → Contains (x ∷ xs) y → (x ≡ y) ⊎ Contains xs y
  first_or_later x y xs h = elim (Contains-append_cases (x ∷ []) xs y h) [
    | inl one ↦ elim (Contains-push_cases [] x y one) [ inl none ↦ absurd (in_none y none) | inr e ↦ inl e ]
    | inr more ↦ inr more
  ]

  some_at : (xs : List A) (i : ℕ) → i < length xs → (x : A) × (x ≡ slice_index_or xs i x)
  some_at [] i lt = absurd (let no : ⊥ = omega arith in no)
  some_at (x ∷ xs) i lt = (slice_index_or (x ∷ xs) i x, get_or_default (x ∷ xs) i x (slice_index_or (x ∷ xs) i x) lt)

  no_split : (before behind : List A) (p : A) → [] ≡ before ++ p ∷ behind → ⊥
  no_split [] behind p e = cc
  no_split (x ∷ before) behind p e = cc

  split_at : (p : A) (list : List A) → Contains list p
      → (before : List A) × (behind : List A) × (list ≡ before ++ p ∷ behind)
  split_at p [] h = absurd (in_none p h)
  split_at p (x ∷ list) h = elim (first_or_later x p list h) [
    | inl e ↦ ([], list, ap (λ v. v ∷ list) e)
    | inr i ↦ let s = split_at p list i in (x ∷ s.0, s.1, ap (λ v. x ∷ v) s.2)
  ]

-- the last of those that were taken is the first of them the other way round
pub taken_first : (old new : List PartId) (p : PartId) → new ≡ old ++ p ∷ []
    → map part_of (reverse new) ≡ part_of p ∷ map part_of (reverse old)
taken_first old new p e = ap (λ v. map part_of (reverse v)) e ∙ ap (map part_of) (reverse-append old (p ∷ []))

-- ---- numbers of parts

number_in : (ps : List Part) (p : Part) → Contains ps p → Contains (ats ps) p.at
number_in [] p h = absurd (in_none p h)
number_in (x ∷ ps) p h = elim (first_or_later x p ps h) [
  | inl e ↦ subst (λ v. Contains (x.at ∷ ats ps) v.at) e (here x.at (ats ps))
  | inr more ↦ later x.at p.at (ats ps) (number_in ps p more)
]

each_in : {A : Type 0} (P : A → Type 0) (xs : List A) → ((x : A) → Contains xs x → P x) → All P xs
each_in P xs h = All-weaker (Contains xs) P h xs (All-contains_itself xs)

module _ {F C K : Type 0} (at : ℕ → Seat F C K) where
  -- all that is reached from each of the parts lies after the part before it, from the number lo on
  abbrev pub Spread : ℕ → List Part → Type 0
  Spread lo [] = Unit {0}
  Spread lo (p ∷ ps) = (lo ≤ (at p.at).first) × ((at p.at).first ≤ p.at) × Spread (suc p.at) ps

  spread_chain : (lo : ℕ) (ps : List Part) (hi : ℕ) → chain at lo ps hi ≡ true → Spread lo ps
  spread_chain lo [] hi h = tt
  spread_chain lo (p ∷ ps) hi h =
      let b = both_true h in let f = fitting at lo p b.0 in (f.above, f.first, spread_chain (suc p.at) ps hi b.1)

  spread_from : (lo from : ℕ) (ps : List Part) (hi : ℕ) → from ≤ floor at hi ps → Spread lo ps → Spread from ps
  spread_from lo from [] hi le s = tt
  spread_from lo from (p ∷ ps) hi le s = (le, s.1, s.2)

  spread_front : (lo : ℕ) (ps : List Part) (p : Part) → Spread lo (ps ++ p ∷ []) → Spread lo ps
  spread_front lo [] p s = tt
  spread_front lo (x ∷ ps) p s = (s.0, s.1, spread_front (suc x.at) ps p s.2)

  spread_last : (lo : ℕ) (ps : List Part) (p : Part) → Spread lo (ps ++ p ∷ [])
      → (lo ≤ (at p.at).first) × ((at p.at).first ≤ p.at)
  spread_last lo [] p s = (s.0, s.1)
  spread_last lo (x ∷ ps) p s =
      let more = spread_last (suc x.at) ps p s.2 in
      let a = s.0 in let b = s.1 in let c = more.0 in
      (omega arith, more.1)

  spread_below : (lo : ℕ) (ps : List Part) (p q : Part) → Spread lo (ps ++ p ∷ []) → Contains ps q → q.at < p.at
  spread_below lo [] p q s h = absurd (in_none q h)
  spread_below lo (x ∷ ps) p q s h = elim (first_or_later x q ps h) [
    | inl e ↦ let l = spread_last (suc x.at) ps p s.2 in
        let a = l.0 in let b = l.1 in let same : x.at ≡ q.at = ap (λ v. v.at) e in omega arith
    | inr more ↦ spread_below (suc x.at) ps p q s.2 more
  ]

  -- the last part is taken, and others put in its place, which lie where what is reached from it did
  spread_put : (lo : ℕ) (ps qs : List Part) (p : Part) → Spread lo (ps ++ p ∷ [])
      → ((from : ℕ) → from ≤ (at p.at).first → Spread from qs) → Spread lo (ps ++ qs)
  spread_put lo [] qs p s h = h lo s.0
  spread_put lo (x ∷ ps) qs p s h = (s.0, s.1, spread_put (suc x.at) ps qs p s.2 h)

module _ {F C K : Type 0} {fg : Ghosts F} {cg : Ghosts C} {kg : Ghosts K} where
  -- ---- the node of a number

  node_of : (ns : Nodes F C K fg cg kg) (i : ℕ) → i < count ns → (x : Node F C K) × Stood ns i x
  node_of ns i lt = let s = some_at ns.nodes.items i lt in (s.0, get_stood ns i s.0 lt s.1)

  stood_floor : (ns : Nodes F C K fg cg kg) (i : ℕ) (x : Node F C K) → Stood ns i x → i < count ns
      → first_at ns i ≡ floor (seat_at ns) i (slots x)
  stood_floor ns i x s lt =
      ap (λ t. t.first) s.stands
      ∙ sym (floor_same (seat_at ns) (seat_before i ns) 0 (slots x) i (λ j l. sym (before-same i ns j l (omega arith)))
      s.chained)

  first_under : (ns : Nodes F C K fg cg kg) (i : ℕ) → first_at ns i ≤ i
  first_under ns i = elim (cases_lt i (count ns)) [
    | inl lt ↦ let n = node_of ns i lt in
        let e = stood_floor ns i n.0 n.1 lt in
        let u = floor-under (seat_at ns) 0 (slots n.0) i (stood-parts n.1 lt) in omega arith
    | inr le ↦ let e = ap (λ t. t.first) (no_seat-past ns i le) in omega arith
  ]

  part_number : (ns : Nodes F C K fg cg kg) (i : ℕ) (q : Part) → i < count ns → Contains (parts_at ns i) q
      → q.at < count ns
  part_number ns i q lt h =
      let n = node_of ns i lt in
      All-contains (λ k. k < count ns) (ats (slots n.0)) q.at (parts_numbers ns i n.0 n.1 lt)
      (number_in (slots n.0) q (subst (λ v. Contains v q) n.1.parts h))

  reached_number : (ns : Nodes F C K fg cg kg) (ps : List Part) (q : Part) → Reaches ns ps q → q.at < count ns
  reached_number ns ps q (itself h lt) = lt
  reached_number ns ps q (part {p} r h) = part_number ns p.at q (reached_number ns ps p r) h

  -- ---- how far the walk is

  -- The parts due lie apart, before all that were found; and of these each lies before those found before it.
  pub record Falls (ns : Nodes F C K fg cg kg) (due found : List Part) : Type 0 where
    pub spread : Spread (seat_at ns) 0 due
    pub below : (p q : Part) → Contains due p → Contains found q → p.at < q.at
    pub rising : AllPairs (λ p q. p.at < q.at) found

  -- Of the parts ps these are due, and those were found, the last one first.
  pub record Going (ns : Nodes F C K fg cg kg) (ps due found : List Part) : Type 0 where
    pub given : (p : Part) → Contains ps p → p.at < count ns → Contains due p ⊎ Contains found p
    pub closed : (before behind : List Part) (p q : Part) → found ≡ before ++ p ∷ behind
        → Contains (parts_at ns p.at) q → Contains due q ⊎ Contains before q
    pub still : (p : Part) → Contains due p → p.at < count ns → Reaches ns ps p
    pub only : (p : Part) → Contains found p → Reaches ns ps p
    pub falls : Spread (seat_at ns) 0 ps → Falls ns due found

  pub going_first : (ns : Nodes F C K fg cg kg) (ps due : List Part) → due ≡ ps → Going ns ps due []
  going_first ns ps due e = record {
    given = λ p h lt. inl (subst (λ v. Contains v p) (sym e) h);
    closed = λ before behind p q s h. absurd (no_split before behind p s);
    still = λ p h lt. itself (subst (λ v. Contains v p) e h) lt;
    only = λ p h. absurd (in_none p h);
    falls = λ s. record {
      spread = subst (Spread (seat_at ns) 0) (sym e) s;
      below = λ p q h i. absurd (in_none q i);
      rising = λ i j d lt l. absurd (let no : ⊥ = omega arith in no);
    };
  }

  -- ---- a turn: the last part is taken from the parts a that are due

  module _ {ns : Nodes F C K fg cg kg} {ps a found : List Part} (b : List Part) (p : Part) (taken : a ≡ b ++ p ∷ [])
      (g : Going ns ps a found) where
    was : (q : Part) → Contains a q → Contains b q ⊎ (p ≡ q)
    was q h = Contains-push_cases b p q (subst (λ v. Contains v q) taken h)

    stays : (q : Part) → Contains b q → Contains a q
    stays q h = subst (λ v. Contains v q) (sym taken) (Contains-append_left b (p ∷ []) q h)

    last : Contains a p
    last = subst (λ v. Contains v p) (sym taken) (Contains-append_right b (p ∷ []) p (here p []))

    past : count ns ≤ p.at → (q : Part) → p ≡ q → q.at < count ns → ⊥
    past le q e lt = let same = ap (λ v. v.at) e in omega arith

    number_of : (before behind : List Part) (x q : Part) → found ≡ before ++ x ∷ behind → Contains (parts_at ns x.at) q
        → q.at < count ns
    number_of before behind x q s h =
        let in_found = subst (λ v. Contains v x) (sym s)
        (Contains-append_right before (x ∷ behind) x (here x behind)) in
        part_number ns x.at q (reached_number ns ps x (g.only x in_found)) h

    -- it has no node
    pub going_past : count ns ≤ p.at → Going ns ps b found
    going_past le = record {
      given = λ q h lt. elim (g.given q h lt) [
        | inl i ↦ elim (was q i) [ inl j ↦ inl j | inr e ↦ absurd (past le q e lt) ]
        | inr i ↦ inr i
      ];
      closed = λ before behind x q s h. elim (g.closed before behind x q s h) [
        | inl i ↦ elim (was q i) [ inl j ↦ inl j | inr e ↦ absurd (past le q e (number_of before behind x q s h)) ]
        | inr i ↦ inr i
      ];
      still = λ q h lt. g.still q (stays q h) lt;
      only = g.only;
      falls = λ s. let f = g.falls s in record {
        spread = spread_front (seat_at ns) 0 b p (subst (Spread (seat_at ns) 0) taken f.spread);
        below = λ x q h i. f.below x q (stays x h) i;
        rising = f.rising;
      };
    }

    pub past_less : left_over ns (ats b) < left_over ns (ats a)
    past_less =
        let w = weight (seat_at ns) in
        let e : left_over ns (ats a) ≡ left_over ns (ats b) + w p.at =
        ap (left_over ns) (ap ats taken ∙ ats-append b (p ∷ [])) ∙ sum_by_push w (ats b) p.at in
        let u = first_under ns p.at in omega arith

    -- it has one, whose parts are put after what is left
    module _ {x : Node F C K} {r : List Part} (stood : Stood ns p.at x) (lt : p.at < count ns)
        (put : r ≡ b ++ slots x) where
      put_left : (q : Part) → Contains b q → Contains r q
      put_left q h = subst (λ v. Contains v q) (sym put) (Contains-append_left b (slots x) q h)

      put_right : (q : Part) → Contains (slots x) q → Contains r q
      put_right q h = subst (λ v. Contains v q) (sym put) (Contains-append_right b (slots x) q h)

      from_either : (q : Part) → Contains r q → Contains b q ⊎ Contains (slots x) q
      from_either q h = Contains-append_cases b (slots x) q (subst (λ v. Contains v q) put h)

      closed_on : (before behind : List Part) (y q : Part) → p ∷ found ≡ before ++ y ∷ behind
          → Contains (parts_at ns y.at) q → Contains r q ⊎ Contains before q
      closed_on [] behind y q s h =
          let e : p ≡ y = cc in
          inl (put_right q (subst (λ v. Contains v q) (ap (λ v. parts_at ns v.at) (sym e) ∙ stood.parts) h))
      closed_on (z ∷ before) behind y q s h =
          let first : p ≡ z = cc in
          let rest : found ≡ before ++ y ∷ behind = cc in
          elim (g.closed before behind y q rest h) [
            | inl i ↦ elim (was q i) [
              | inl j ↦ inl (put_left q j)
              | inr e ↦ inr (subst (Contains (z ∷ before)) (sym first ∙ e) (here z before))
            ]
            | inr i ↦ inr (later z q before i)
          ]

      under : (y : Part) → Spread (seat_at ns) 0 (b ++ p ∷ []) → Contains r y → y.at < p.at
      under y s h = elim (from_either y h) [
        | inl i ↦ spread_below (seat_at ns) 0 b p y s i
        | inr i ↦ All-contains (λ k. k < p.at) (ats (slots x)) y.at (parts_below ns p.at x stood lt)
            (number_in (slots x) y i)
      ]

      below_on : Falls ns a found → (y q : Part) → Contains r y → Contains (p ∷ found) q → y.at < q.at
      below_on f y q h i =
          let u = under y (subst (Spread (seat_at ns) 0) taken f.spread) h in
          elim (first_or_later p q found i) [
            | inl e ↦ let same = ap (λ v. v.at) e in omega arith
            | inr j ↦ let more = f.below p q last j in omega arith
          ]

      falls_on : Falls ns a found → Falls ns r (p ∷ found)
      falls_on f = record {
        spread = subst (Spread (seat_at ns) 0) (sym put)
            (spread_put (seat_at ns) 0 b (slots x) p (subst (Spread (seat_at ns) 0) taken f.spread)
            (λ from le. spread_from (seat_at ns) 0 from (slots x) p.at
            (let e = stood_floor ns p.at x stood lt in omega arith)
            (spread_chain (seat_at ns) 0 (slots x) p.at (stood-parts stood lt))));
        below = below_on f;
        rising = AllPairs-cons (λ q r. q.at < r.at) p found
            (each_in (λ q. p.at < q.at) found (λ q i. f.below p q last i)) f.rising;
      }

      pub going_on : Going ns ps r (p ∷ found)
      going_on = record {
        given = λ q h n. elim (g.given q h n) [
          | inl i ↦ elim (was q i) [
            | inl j ↦ inl (put_left q j)
            | inr e ↦ inr (subst (Contains (p ∷ found)) e (here p found))
          ]
          | inr i ↦ inr (later p q found i)
        ];
        closed = closed_on;
        still = λ q h n. elim (from_either q h) [
          | inl j ↦ g.still q (stays q j) n
          | inr j ↦ part (g.still p last lt) (subst (λ v. Contains v q) (sym stood.parts) j)
        ];
        only = λ q h. elim (first_or_later p q found h) [
          | inl e ↦ subst (Reaches ns ps) e (g.still p last lt)
          | inr i ↦ g.only q i
        ];
        falls = λ s. falls_on (g.falls s);
      }

      pub on_less : left_over ns (ats r) < left_over ns (ats a)
      on_less =
          let w = weight (seat_at ns) in
          let new : left_over ns (ats r) ≡ left_over ns (ats b) + left_over ns (ats (slots x)) =
          ap (left_over ns) (ap ats put ∙ ats-append b (slots x)) ∙ sum_by-append w (ats b) (ats (slots x)) in
          let old : left_over ns (ats a) ≡ left_over ns (ats b) + w p.at =
          ap (left_over ns) (ap ats taken ∙ ats-append b (p ∷ [])) ∙ sum_by_push w (ats b) p.at in
          let less = parts_lighter ns p.at x stood lt in
          omega arith

  -- ---- the end: nothing is due

  spread_one : (ns : Nodes F C K fg cg kg) (ps : List Part) → length ps ≤ 1 → Spread (seat_at ns) 0 ps
  spread_one ns [] le = tt
  spread_one ns (p ∷ []) le = (omega arith, first_under ns p.at, tt)
  spread_one ns (p ∷ q ∷ ps) le = absurd (let no : ⊥ = omega arith in no)

  going_empty : (ns : Nodes F C K fg cg kg) (ps : List Part) (due : List PartId) (found : List Part) → length due ≡ 0
      → Going ns ps (map part_of due) found → Going ns ps [] found
  going_empty ns ps [] found e g = g
  going_empty ns ps (d ∷ due) found e g = absurd (let no : ⊥ = omega arith in no)

  pub going_done : {ns : Nodes F C K fg cg kg} {ps : List Part} (due : Vec PartId Global) (found list : List PartId)
      → vec_len due ≡ 0 → list ≡ reverse found → Going ns ps (map part_of due.items) (map part_of (reverse found))
      → Going ns ps [] (map part_of list)
  going_done {ns} {ps} due found list none e g =
      let o = due.ok.0 in
      subst (λ v. Going ns ps [] (map part_of v)) (sym e)
      (going_empty ns ps due.items (map part_of (reverse found)) (omega arith) g)

  module _ {ns : Nodes F C K fg cg kg} {ps found : List Part} (g : Going ns ps [] found) where
    pub parts-first : PartsFirst ns found
    parts-first before behind p q s h = elim (g.closed before behind p q s h) [
      | inl i ↦ absurd (in_none q i)
      | inr
          i ↦ i
    ]

    complete : (q : Part) → Reaches ns ps q → Contains found q
    complete q (itself h lt) = elim (g.given q h lt) [ inl i ↦ absurd (in_none q i) | inr i ↦ i ]
    complete q (part {p} r h) =
        let s = split_at p found (complete p r) in
        subst (λ v. Contains v q) (sym s.2)
        (Contains-append_left s.0 (p ∷ s.1) q (parts-first s.0 s.1 p q s.2 h))

    pub has-reached : HasReached ns ps found
    has-reached q = (g.only q, complete q)

    numbers : All (λ p. p.at < count ns) found
    numbers = each_in (λ p. p.at < count ns) found (λ p i. reached_number ns ps p (g.only p i))

    rising : Spread (seat_at ns) 0 ps → AllPairs (λ p q. p.at < q.at) found
    rising s = (g.falls s).rising

  module _ {ns : Nodes F C K fg cg kg} {ps : List Part} (list : List PartId)
      (g : Going ns ps [] (map part_of list)) where
    pub found-numbers : All (λ p. (part_of p).at < count ns) list
    found-numbers k d lt =
        subst (λ p. p.at < count ns) (get_or-map part_of list k d (part_of d) lt)
        (numbers g k (part_of d) (let l = length-map list part_of in omega arith))

    rise : Spread (seat_at ns) 0 ps → NumbersRise list
    rise s i j d lt l =
        let n = length-map list part_of in
        let a = get_or-map part_of list i d (part_of d) (omega arith) in
        let b = get_or-map part_of list j d (part_of d) l in
        let h = rising g s i j (part_of d) lt (omega arith) in
        subst (λ p. (part_of (slice_index_or list i d)).at < p.at) b
        (subst (λ p. p.at < (slice_index_or (map part_of list) j (part_of d)).at) a h)

    pub rising-apart : Apart 0 ns ps → NumbersRise list
    rising-apart a = rise (spread_chain (seat_at ns) 0 ps (count ns) a.chained)

    pub rising-one : length ps ≤ 1 → NumbersRise list
    rising-one le = rise (spread_one ns ps le)
