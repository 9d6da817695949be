-- What is left to print becomes less as a node is taken apart.
use Rattle.std.proofs.Common.{◌≡◌, ℕ, ◌+◌, ◌<◌, List, [], ◌∷◌, ◌++◌, length, take, drop, reverse, Some, refl, sym, ap, ◌∙◌, arith, append_assoc}
use Rattle.std.proofs.lemmas.List.Elements.{All-append, All-take, All-same, All-pop}
use Rattle.std.proofs.lemmas.List.Sums.{sum_by-append, sum_by_push}
use Rattle.std.proofs.lemmas.List.Sorted.{sum_by-IsPermutation, All-permutation, IsPermutation-reverse}
use Rattle.std.proofs.lemmas.List.{append-nil, take-append-drop, take_at}
use Rattle.swc_ast.specs.{declared.spanned.Spanned.Ghosts, declared.expr.Tpl.Tpl}
use Rattle.swc_nodes.specs.NodeParts.{Part, slots, flat, one_expr, expr_part}
use Rattle.swc_nodes.specs.GrowingNodes.{count, seat_at, Stood}
use Rattle.swc_nodes.specs.Weights.{ats, weight, left_over, AreNumbers}
use Rattle.swc_nodes.specs.{declared.node.Node.Node, declared.node.ExprId.ExprId, declared.nodes.Nodes.Nodes}
use Rattle.swc_nodes.specs.declared.node.Node.TheVariants as n
use Rattle.swc_nodes.proofs.Weighed.{ats-append, parts_lighter, parts_numbers}
use Rattle.swc_print.specs.Numbers.{shown, tpl_shown}

flat-append : {X : Type 0} (f : X → List Part) (xs ys : List X) → flat f (xs ++ ys) ≡ flat f xs ++ flat f ys
flat-append f [] ys = refl
flat-append f (x ∷ xs) ys = ap (λ v. f x ++ v) (flat-append f xs ys) ∙ sym (append_assoc (f x) (flat f xs) (flat f ys))

shown_some : (t : Tpl ExprId) → flat one_expr t.exprs.items ≡ tpl_shown t ++ flat one_expr
    (drop (length t.quasis.items) t.exprs.items)
shown_some t =
    let n = length t.quasis.items in let es = t.exprs.items in
    ap (flat one_expr) (sym (take-append-drop n es)) ∙ flat-append one_expr (take n es) (drop n es)

module _ {F C K : Type 0} where
  -- the parts that are shown come first among the parts
  pub shown_first : (x : Node F C K) → (rest : List Part) × (slots x ≡ shown x ++ rest)
  shown_first (n.Tpl t) = (
    flat one_expr (drop (length t.value.quasis.items) t.value.exprs.items),
    shown_some t.value,
  )
  shown_first (n.TaggedTpl s t q) = (
    flat one_expr (drop (length q.value.quasis.items) q.value.exprs.items),
    ap (λ v. expr_part t ∷ v) (shown_some q.value),
  )
  shown_first x = ([], sym (append-nil (slots x)))

  turned : (b p q r : List ℕ) (x : Node F C K) → p ≡ [] → q ≡ p ++ ats (shown x) → r ≡ b ++ reverse q
      → r ≡ b ++ reverse (ats (shown x))
  turned b p q r x none put moved = moved ∙ ap (λ v. b ++ reverse v) (put ∙ ap (λ v. v ++ ats (shown x)) none)

module _ {F C K : Type 0} {fg : Ghosts F} {cg : Ghosts C} {kg : Ghosts K} where
  pub shown_lighter : (ns : Nodes F C K fg cg kg) (i : ℕ) (x : Node F C K) → Stood ns i x → i < count ns
      → left_over ns (ats (shown x)) < weight (seat_at ns) i
  shown_lighter ns i x s lt =
      let w = parts_lighter ns i x s lt in
      let p = shown_first x in
      let e : left_over ns (ats (slots x)) ≡ left_over ns (ats (shown x) ++ ats p.0) =
      ap (left_over ns) (ap ats p.1 ∙ ats-append (shown x) p.0) in
      let f = sum_by-append (weight (seat_at ns)) (ats (shown x)) (ats p.0) in
      omega arith

  pub shown_numbers : (ns : Nodes F C K fg cg kg) (i : ℕ) (x : Node F C K) → Stood ns i x → i < count ns
      → AreNumbers ns (ats (shown x))
  shown_numbers ns i x s lt =
      let p = shown_first x in
      let n = length (ats (shown x)) in
      let all = parts_numbers ns i x s lt in
      let e : take n (ats (slots x)) ≡ ats (shown x) =
      ap (take n) (ap ats p.1 ∙ ats-append (shown x) p.0) ∙ take_at (ats (shown x)) (ats p.0) n refl in
      All-same (λ k. k < count ns) (ats (shown x)) (take n (ats (slots x))) (sym e)
      (All-take (λ k. k < count ns) n (ats (slots x)) all)

  -- ---- one turn: the number i is taken from the stack a, and what is shown of its node is put onto what is left of it

  pub top_below : (ns : Nodes F C K fg cg kg) (a b : List ℕ) (i : ℕ) → AreNumbers ns a → a ≡ b ++ i ∷ [] → i < count ns
  top_below ns a b i all e = (All-pop (λ k. k < count ns) a b (Some i) e all).1

  pub turn_numbers : (ns : Nodes F C K fg cg kg) (a b p q r : List ℕ) (i : ℕ) (x : Node F C K) → AreNumbers ns a
      → a ≡ b ++ i ∷ [] → Stood ns i x → p ≡ [] → q ≡ p ++ ats (shown x) → r ≡ b ++ reverse q → AreNumbers ns r
  turn_numbers ns a b p q r i x all e s none put moved =
      let P : ℕ → Type 0 = λ k. k < count ns in
      let top = All-pop P a b (Some i) e all in
      All-same P r (b ++ reverse (ats (shown x))) (turned b p q r x none put moved)
      (All-append P b (reverse (ats (shown x))) top.0 (All-permutation P (ats (shown x)) (reverse (ats (shown x)))
      (IsPermutation-reverse (ats (shown x))) (shown_numbers ns i x s top.1)))

  pub turn_less : (ns : Nodes F C K fg cg kg) (a b p q r : List ℕ) (i : ℕ) (x : Node F C K) → AreNumbers ns a
      → a ≡ b ++ i ∷ [] → Stood ns i x → p ≡ [] → q ≡ p ++ ats (shown x) → r ≡ b ++ reverse q
      → left_over ns r < left_over ns a
  turn_less ns a b p q r i x all e s none put moved =
      let w = weight (seat_at ns) in
      let new : left_over ns r ≡ left_over ns b + left_over ns (reverse (ats (shown x))) =
      ap (left_over ns) (turned b p q r x none put moved) ∙ sum_by-append w b (reverse (ats (shown x))) in
      let same : left_over ns (reverse (ats (shown x))) ≡ left_over ns (ats (shown x)) =
      sum_by-IsPermutation w (ats (shown x)) (reverse (ats (shown x))) (IsPermutation-reverse (ats (shown x))) in
      let old : left_over ns a ≡ left_over ns b + w i = ap (left_over ns) e ∙ sum_by_push w b i in
      let less = shown_lighter ns i x s (top_below ns a b i all e) in
      omega arith
