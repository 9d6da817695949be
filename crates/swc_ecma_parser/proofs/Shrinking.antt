-- What is left of a walk becomes less as a node is taken apart, and its names stay those that are to be found.
use Rattle.std.proofs.Common.{◌≡◌, ℕ, suc, ◌+◌, ◌<◌, ◌≤◌, Bool, true, false, if◌then◌else◌, List, [], ◌∷◌, ◌++◌, Some, map, reverse, refl, sym, ap, ◌∙◌, append_assoc, arith}
use Rattle.std.proofs.lemmas.List.{append-nil, map-append, reverse-append}
use Rattle.std.proofs.lemmas.List.Elements.{All-nil, All-cons, All-append, All-same, All-pop}
use Rattle.std.proofs.lemmas.List.Sums.{sum_by-cons, sum_by-append, sum_by_push}
use Rattle.std.specs.List.{All, sum_by}
use Rattle.swc_context.specs.declared.span.Span.{Span}
use Rattle.swc_ast.specs.{Tree.Tree, declared.spanned.Spanned.Ghosts}
use Rattle.swc_nodes.specs.NumberedTrees.{Seat, floor, fits, chain}
use Rattle.swc_nodes.specs.NodeParts.{Part, slots, flat, one_pat, body_parts, prop_parts, expr_part}
use Rattle.swc_nodes.specs.GrowingNodes.{count, seat_at, tree_at, Stood}
use Rattle.swc_nodes.specs.{Weights.ats, Weights.weight, declared.node.Node.Node, declared.node.Node.Node as n, declared.node.PropNode.PropNode, declared.node.PropNode.PropNode as prop, declared.nodes.Nodes.Nodes}
use Rattle.swc_nodes.proofs.Chains.{both_true, fitting, chain-bound, chain-first, chain-second, floor-under}
use Rattle.swc_nodes.proofs.{Held.stood-parts, Weighed.ats-append, Weighed.parts_lighter}
use Rattle.swc_ecma_parser.specs.Dues.{Task, go, note, due_of, part_dues, prop_dues, node_dues, names_due, steps_of, is_within, steps_left, AreWithin}
use Rattle.swc_ecma_parser.specs.{CoverNames.covers_by, declared.verifier.Due.Due}
use Rattle.swc_ecma_parser.proofs.Names.{names-append, stood-names}

module _ {F C K : Type 0} (at : ℕ → Seat F C K) where
  abbrev steps : List Task → ℕ
  steps ts = sum_by (steps_of at) ts

  abbrev parts_steps : List Part → ℕ
  parts_steps ps = sum_by (weight at) (ats ps)

  -- ---- what is due of parts that lie apart takes no more steps than they have

  part_steps : (ps : List Part) → steps (part_dues ps) ≡ parts_steps ps
  part_steps [] = refl
  part_steps (p ∷ ps) =
      sum_by-cons (steps_of at) (go p.at) (part_dues ps) ∙ ap (λ v. weight at p.at + v) (part_steps ps)
      ∙ sym (sum_by-cons (weight at) p.at (ats ps))

  part_most : (ps : List Part) → steps (part_dues ps) ≤ parts_steps ps
  part_most ps = let e = part_steps ps in omega arith

  entered_most : (c : Bool) (ps : List Part) → steps (if c then part_dues ps else []) ≤ parts_steps ps
  entered_most true ps = part_most ps
  entered_most false ps = omega arith

  prop_most : (p : PropNode K) (lo hi : ℕ) → chain at lo (prop_parts p) hi ≡ true
      → steps (prop_dues p) ≤ parts_steps (prop_parts p)
  prop_most (prop.Assign p) lo hi h =
      let first = (fitting at lo (expr_part p.value) (both_true h).0).first in
      let one = sum_by-cons (steps_of at) (note p.span) [] in
      let other = sum_by-cons (weight at) p.value.0 [] in
      omega arith
  prop_most p lo hi h = part_most (prop_parts p)

  props_most : (ps : List (PropNode K)) (lo hi : ℕ) → chain at lo (flat prop_parts ps) hi ≡ true
      → steps (flat prop_dues ps) ≤ parts_steps (flat prop_parts ps)
  props_most [] lo hi h = omega arith
  props_most (p ∷ ps) lo hi h =
      let qs = flat prop_parts ps in
      let here = prop_most p lo (floor at hi qs) (chain-first at lo (prop_parts p) qs hi h) in
      let rest = props_most ps 0 hi (chain-second at lo (prop_parts p) qs hi h) in
      let left = sum_by-append (steps_of at) (prop_dues p) (flat prop_dues ps) in
      let right : parts_steps (prop_parts p ++ qs) ≡ parts_steps (prop_parts p) + parts_steps qs =
      ap (sum_by (weight at)) (ats-append (prop_parts p) qs) ∙ sum_by-append (weight at) (ats (prop_parts p))
      (ats qs) in
      omega arith

  node_most : (b : Bool) (x : Node F C K) (hi : ℕ) → chain at 0 (slots x) hi ≡ true
      → steps (node_dues b x) ≤ parts_steps (slots x)
  node_most b (n.Object s props comma) hi h = props_most props.items 0 hi h
  node_most b (n.Arrow s ps body a) hi h = entered_most b (flat one_pat ps.items ++ body_parts body.value)
  node_most b x hi h = part_most (slots x)

  -- ---- and goes through nodes that there are

  pub part_within : (ps : List Part) (lo hi more : ℕ) → hi ≤ more → chain at lo ps hi ≡ true
      → All (is_within more) (part_dues ps)
  part_within [] lo hi more le h = All-nil (is_within more)
  part_within (p ∷ ps) lo hi more le h =
      let b : (fits at lo p ≡ true) × (chain at (suc p.at) ps hi ≡ true) = both_true h in
      let w = chain-bound at (suc p.at) ps hi b.1 in
      let here : p.at < more = omega arith in
      All-cons (is_within more) (go p.at) (part_dues ps) here (part_within ps (suc p.at) hi more le b.1)

  entered_within : (c : Bool) (ps : List Part) (lo hi more : ℕ) → hi ≤ more → chain at lo ps hi ≡ true
      → All (is_within more) (if c then part_dues ps else [])
  entered_within true ps lo hi more le h = part_within ps lo hi more le h
  entered_within false ps lo hi more le h = All-nil (is_within more)

  pub prop_within : (p : PropNode K) (lo hi more : ℕ) → hi ≤ more → chain at lo (prop_parts p) hi ≡ true
      → All (is_within more) (prop_dues p)
  prop_within (prop.Assign p) lo hi more le h = All-cons (is_within more) (note p.span) [] tt (All-nil (is_within more))
  prop_within p lo hi more le h = part_within (prop_parts p) lo hi more le h

  props_within : (ps : List (PropNode K)) (lo hi more : ℕ) → hi ≤ more → chain at lo (flat prop_parts ps) hi ≡ true
      → All (is_within more) (flat prop_dues ps)
  props_within [] lo hi more le h = All-nil (is_within more)
  props_within (p ∷ ps) lo hi more le h =
      let qs = flat prop_parts ps in
      let second = chain-second at lo (prop_parts p) qs hi h in
      let under = floor-under at 0 qs hi second in
      let low : floor at hi qs ≤ more = omega arith in
      All-append (is_within more) (prop_dues p) (flat prop_dues ps)
      (prop_within p lo (floor at hi qs) more low (chain-first at lo (prop_parts p) qs hi h))
      (props_within ps 0 hi more le second)

  node_within : (b : Bool) (x : Node F C K) (hi more : ℕ) → hi ≤ more → chain at 0 (slots x) hi ≡ true
      → All (is_within more) (node_dues b x)
  node_within b (n.Object s props comma) hi more le h = props_within props.items 0 hi more le h
  node_within b (n.Arrow s ps body a) hi more le h = entered_within b
      (flat one_pat ps.items ++ body_parts body.value) 0 hi more le h
  node_within b x hi more le h = part_within (slots x) 0 hi more le h

-- what is due last is taken
pub taken : (a b : List Due) (x : Due) → a ≡ b ++ x ∷ [] → map due_of a ≡ map due_of b ++ due_of x ∷ []
taken a b x e = ap (map due_of) e ∙ map-append due_of b (x ∷ [])

-- at the start nothing is found, and at the end nothing is due
module _ {F C K : Type 0} (in_arrows : Bool) (at : ℕ → Tree F C K) where
  abbrev named : List Due → List Span
  named ds = names_due in_arrows at (map due_of ds)

  pub none-found : (ds : List Due) {found : List Span} → found ≡ [] → named ds ++ reverse found ≡ named ds
  none-found ds e = ap (λ v. named ds ++ reverse v) e ∙ append-nil (named ds)

  pub found-all : {ds : List Due} (found : List Span) {names all : List Span} → ds ≡ [] → names ≡ reverse found
      → named ds ++ reverse found ≡ all → names ≡ all
  found-all found d e rest = e ∙ sym (ap (λ v. named v ++ reverse found) d) ∙ rest

module _ {F C K : Type 0} {fg : Ghosts F} {cg : Ghosts C} {kg : Ghosts K} (ns : Nodes F C K fg cg kg) (in_arrows : Bool)
    (a b : List Task) where
  abbrev P : Task → Type 0
  P = is_within (count ns)

  abbrev by : List Task → List Span
  by = names_due in_arrows (tree_at ns)

  -- ---- a name was the last

  module _ (s : Span) (taken : a ≡ b ++ note s ∷ []) where
    pub noted-within : AreWithin ns a → AreWithin ns b
    noted-within all = (All-pop P a b (Some (note s)) taken all).0

    pub noted-names : (found more all : List Span) → more ≡ found ++ s ∷ [] → by a ++ reverse found ≡ all
        → by b ++ reverse more ≡ all
    noted-names found more all e rest =
        ap (λ v. by b ++ reverse v) e ∙ ap (λ v. by b ++ v) (reverse-append found (s ∷ []))
        ∙ sym (append_assoc (by b) (s ∷ []) (reverse found))
        ∙ sym (ap (λ v. v ++ reverse found) (ap by taken ∙ names-append in_arrows (tree_at ns) b (note s ∷ []))) ∙ rest

  -- ---- a part was the last, and what is due of its node is put in its place

  module _ (i : ℕ) (taken : a ≡ b ++ go i ∷ []) (all : AreWithin ns a) where
    pub last-below : i < count ns
    last-below = (All-pop P a b (Some (go i)) taken all).1

    module _ (x : Node F C K) (r : List Task) (stood : Stood ns i x) (put : r ≡ b ++ node_dues in_arrows x) where
      pub gone-within : AreWithin ns r
      gone-within =
          let below = last-below in
          All-same P r (b ++ node_dues in_arrows x) put
          (All-append P b (node_dues in_arrows x) (All-pop P a b (Some (go i)) taken all).0
          (node_within (seat_at ns) in_arrows x i (count ns) (omega arith) (stood-parts stood below)))

      pub gone-less : steps_left ns r < steps_left ns a
      gone-less =
          let w = steps_of (seat_at ns) in
          let below = last-below in
          let new : steps_left ns r ≡ steps_left ns b + steps_left ns (node_dues in_arrows x) =
          ap (steps_left ns) put ∙ sum_by-append w b (node_dues in_arrows x) in
          let old : steps_left ns a ≡ steps_left ns b + weight (seat_at ns) i =
          ap (steps_left ns) taken ∙ sum_by_push w b (go i) in
          let most = node_most (seat_at ns) in_arrows x i (stood-parts stood below) in
          let less = parts_lighter ns i x stood below in
          omega arith

      pub gone-names : (found all : List Span) → by a ++ reverse found ≡ all → by r ++ reverse found ≡ all
      gone-names found all rest =
          ap (λ v. v ++ reverse found)
          (ap by put ∙ names-append in_arrows (tree_at ns) b (node_dues in_arrows x)
          ∙ ap (λ v. by b ++ v) (sym (stood-names in_arrows stood last-below))
          ∙ ap (λ v. by b ++ v) (sym (append-nil (covers_by in_arrows (tree_at ns i))))
          ∙ sym (ap by taken ∙ names-append in_arrows (tree_at ns) b (go i ∷ [])))
          ∙ rest
