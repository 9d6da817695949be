-- Trees take the place of the numbers from the last part on: what is left of the list is enough for the parts before
-- it.
use Rattle.std.proofs.Common.{◌≡◌, ℕ, ◌+◌, ◌<◌, List, [], ◌∷◌, ◌++◌, map, reverse, length, Option, Some, None, Result, Ok, Err, IfOk, IsOkAnd, IsSome, MatchOption, refl, sym, ap, subst, ◌∙◌, arith, append_assoc}
use Rattle.std.proofs.lemmas.List.{append-nil, append_cancel_right, length-append, length-map, map-append, reverse-append}
use Rattle.std.specs.{Option.option_to_list, declared.alloc.AllocError.AllocError, declared.alloc.Global.Global, declared.boxed.Box.Box}
use Rattle.swc_context.specs.declared.span.Span.{Span}
use Rattle.swc_ast.specs.Tree.{Tree}
use Rattle.swc_nodes.specs.NodeParts.{Part, slots, flat, target_part}
use Rattle.swc_nodes.specs.{NodeTree.node_tree, declared.node.Node.Node, declared.node.TargetNode.TargetNode, declared.node.TargetNode.TargetNode as target}
use Rattle.swc_trees.specs.Building.{Kind, a_target, part_kind, built_kind, built_tree, Offers, Assembled}
use Rattle.swc_trees.specs.declared.built.Built.{Built}
use Rattle.swc_trees.proofs.Agreed.{flat-append}

-- ---- lists

pub split-even : {A : Type 0} (xs ys us vs : List A) → length xs ≡ length us → xs ++ ys ≡ us ++ vs
    → (xs ≡ us) × (ys ≡ vs)
split-even [] ys [] vs l e = (refl, e)
split-even [] ys (u ∷ us) vs l e = cc
split-even (x ∷ xs) ys [] vs l e = cc
split-even (x ∷ xs) ys (u ∷ us) vs l e =
    let h : x ≡ u = cc in
    let t : xs ++ ys ≡ us ++ vs = cc in
    let n : length xs ≡ length us = omega arith in
    let r = split-even xs ys us vs n t in
    (ap (λ v. v ∷ xs) h ∙ ap (λ v. u ∷ v) r.0, r.1)

pub kinds-long : {F C K : Type 0} (ps : List Part) (bs : List (Built F C K)) → map built_kind bs ≡ map part_kind ps
    → length bs ≡ length ps
kinds-long ps bs e = sym (length-map bs built_kind) ∙ ap length e ∙ length-map ps part_kind

-- what is said of a value is said of it in its box
pub if-boxed : {Y : Type 0} (P : Y → Type 0) (r : Result Y AllocError) (b : Result (Box Y Global) AllocError)
    → IfOk b (λ v. r ≡ Ok v.value) → IfOk r P → IfOk b (λ v. P v.value)
if-boxed P r (Ok v) e a = subst (λ w. IfOk w P) e a
if-boxed P r (Err v) e a = tt

pub ok-of : {Y : Type 0} (P : Y → Type 0) (r : Result Y AllocError) (y : Y) → r ≡ Ok y → IfOk r P → P y
ok-of P r y e a = subst (λ w. IfOk w P) e a

pub ok-is : {Y : Type 0} (x y : Y) (r : Result Y AllocError) → r ≡ Ok x → r ≡ Ok y → x ≡ y
ok-is x y r d e = cc

pub was-some : {T : Type 0} (P : Type 0) (Q : T → Type 0) (r : Option T) → MatchOption r (P → ⊥) Q → P → IsSome r
was-some P Q None m p = absurd (m p)
was-some P Q (Some x) m p = refl

-- ---- what is offered

-- the kind of a tree that was taken, if one was
abbrev pub KindIs : {F C K : Type 0} → Option (Built F C K) → Kind → Type 0
KindIs None k = Unit {0}
KindIs (Some b) k = built_kind b ≡ k

pub target-kind : (t : TargetNode) → part_kind (target_part t) ≡ a_target
target-kind (target.Simple e) = refl
target-kind (target.Pat p) = refl

module _ {F C K : Type 0} where
  pub offers-along : {Y : Type 0} {bs : List (Built F C K)} (parts : Y → List Part) {x y : Y} → y ≡ x
      → Offers (parts x) bs → Offers (parts y) bs
  offers-along {bs = bs} parts e o = subst (λ v. Offers (parts v) bs) (sym e) o

  pub offers-is : {bs : List (Built F C K)} {x y : Node F C K} → x ≡ y → Offers (slots x) bs → Offers (slots y) bs
  offers-is {bs = bs} e o = subst (λ v. Offers (slots v) bs) e o

  second-ends : {bs : List (Built F C K)} (ps qs : List Part) (o : Offers (ps ++ qs) bs)
      → map built_kind bs ≡ (o.front ++ map part_kind ps) ++ map part_kind qs
  second-ends ps qs o = o.ends ∙ ap (λ v. o.front ++ v) (map-append part_kind ps qs) ∙ sym
      (append_assoc o.front (map part_kind ps) (map part_kind qs))

  pub offers-second : {bs : List (Built F C K)} (ps qs : List Part) → Offers (ps ++ qs) bs → Offers qs bs
  offers-second ps qs o = record { front = o.front ++ map part_kind ps; ends = second-ends ps qs o }

  offers-before : {old mid : List (Built F C K)} (ps qs : List Part) (own : List (Built F C K)) → Offers (ps ++ qs) old
      → old ≡ mid ++ own → map built_kind own ≡ map part_kind qs → Offers ps mid
  offers-before {old} {mid} ps qs own o e k =
      let w : map built_kind mid ++ map part_kind qs ≡ (o.front ++ map part_kind ps) ++ map part_kind qs =
      ap (λ v. map built_kind mid ++ v) (sym k) ∙ sym (map-append built_kind mid own) ∙ sym
      (ap (map built_kind) e) ∙ second-ends ps qs o in
      record {
        front = o.front;
        ends = append_cancel_right (map built_kind mid) (o.front ++ map part_kind ps)
            (map part_kind qs) w;
      }

  pub some-left : {bs : List (Built F C K)} (p : Part) → Offers (p ∷ []) bs → 0 < length bs
  some-left {bs} p o =
      let e : length bs ≡ length o.front + 1 = sym (length-map bs built_kind) ∙ ap length o.ends ∙ length-append o.front
      (part_kind p ∷ []) in
      omega arith

  pub popped-kind : {old : List (Built F C K)} (p : Part) (new : List (Built F C K)) (r : Option (Built F C K))
      → Offers (p ∷ []) old → old ≡ new ++ option_to_list r → KindIs r (part_kind p)
  popped-kind p new None o e = tt
  popped-kind p new (Some b) o e =
      let w : map built_kind new ++ built_kind b ∷ [] ≡ o.front ++ part_kind p ∷ [] =
      sym (map-append built_kind new (b ∷ [])) ∙ sym (ap (map built_kind) e) ∙ o.ends in
      let n : length (map built_kind new) + 1 ≡ length o.front + 1 =
      sym (length-append (map built_kind new) (built_kind b ∷ [])) ∙ ap length w ∙ length-append o.front
      (part_kind p ∷ []) in
      let r = (split-even (map built_kind new) (built_kind b ∷ []) o.front (part_kind p ∷ []) (omega arith) w).1 in
      cc

  pub popped-is : {old : List (Built F C K)} (p : Part) (new : List (Built F C K)) {b : Built F C K}
      (r : Option (Built F C K)) → Offers (p ∷ []) old → old ≡ new ++ option_to_list r → r ≡ Some b
      → built_kind b ≡ part_kind p
  popped-is p new r o e s = subst (λ v. KindIs v (part_kind p)) s (popped-kind p new r o e)

-- ---- what is made of the trees

module _ {F C K : Type 0} (fun_at : F → Span) (class_at : C → Span) (block_at : K → Span) where
  -- what is left of a list, and that all after it was put together
  pub record Making {I X : Type 0} (parts : I → List Part) (of : (ℕ → Tree F C K) → I → Tree F C K)
      (tree : X → Tree F C K) (all rest : List I) (old : List (Built F C K)) (made : List X)
      (now : List (Built F C K)) : Type 0 where
    pub done : List I
    pub split : all ≡ rest ++ done
    pub out : Assembled fun_at class_at block_at (flat parts done)
        (λ at. map tree (reverse made) ≡ map (of at) done) old now

module _ {F C K : Type 0} {fun_at : F → Span} {class_at : C → Span} {block_at : K → Span} where
  pub offers-first : {old mid : List (Built F C K)} {same : (ℕ → Tree F C K) → Type 0} (ps qs : List Part)
      → Offers (ps ++ qs) old → Assembled fun_at class_at block_at qs same old mid → Offers ps mid
  offers-first ps qs o a = offers-before ps qs a.own o a.split a.kinds

  pub offers-middle : {old mid : List (Built F C K)} {same : (ℕ → Tree F C K) → Type 0} (os ps qs : List Part)
      → Offers (os ++ (ps ++ qs)) old → Assembled fun_at class_at block_at qs same old mid → Offers ps mid
  offers-middle os ps qs o a = offers-first ps qs (offers-second os (ps ++ qs) o) a

  pub made-none : {bs : List (Built F C K)} {same : (ℕ → Tree F C K) → Type 0} → ((at : ℕ → Tree F C K) → same at)
      → Assembled fun_at class_at block_at [] same bs bs
  made-none {bs} f = record { own = []; split = sym (append-nil bs); kinds = refl; moved = λ at h. f at }

  pub made-one : {old new : List (Built F C K)} {same then : (ℕ → Tree F C K) → Type 0} {ps : List Part}
      → Assembled fun_at class_at block_at ps same old new → ((at : ℕ → Tree F C K) → same at → then at)
      → Assembled fun_at class_at block_at ps then old new
  made-one a f = record { own = a.own; split = a.split; kinds = a.kinds; moved = λ at h. f at (a.moved at h) }

  pub made-two : {old mid new : List (Built F C K)} {first second then : (ℕ → Tree F C K) → Type 0}
      (ps qs : List Part) →
      Assembled fun_at class_at block_at qs second old mid → Assembled fun_at class_at block_at ps first mid new
      → ((at : ℕ → Tree F C K) → first at → second at → then at)
      → Assembled fun_at class_at block_at (ps ++ qs) then old new
  made-two {old} {mid} {new} ps qs b a f = record {
    own = a.own ++ b.own;
    split = b.split ∙ ap (λ v. v ++ b.own) a.split ∙ append_assoc new a.own b.own;
    kinds = map-append built_kind a.own b.own ∙ ap (λ v. v ++ map built_kind b.own) a.kinds ∙ ap
        (λ v. map part_kind ps ++ v) b.kinds ∙ sym (map-append part_kind ps qs);
    moved = λ at h.
        let tree = built_tree fun_at class_at block_at in
        let of : Part → Tree F C K = λ p. at p.at in
        let w : map tree a.own ++ map tree b.own ≡ map of ps ++ map of qs =
        sym (map-append tree a.own b.own) ∙ h ∙ map-append of ps qs in
        let n : length (map tree a.own) ≡ length (map of ps) =
        length-map a.own tree ∙ kinds-long ps a.own a.kinds ∙ sym (length-map ps of) in
        let s = split-even (map tree a.own) (map tree b.own) (map of ps) (map of qs) n w in
        f at (a.moved at s.0) (b.moved at s.1);
  }

  pub offers-last : {old mid new : List (Built F C K)} {second third : (ℕ → Tree F C K) → Type 0} (os ps qs : List Part)
      → Offers (os ++ (ps ++ qs)) old → Assembled fun_at class_at block_at qs third old mid
      → Assembled fun_at class_at block_at ps second mid new → Offers os new
  offers-last os ps qs o c b = offers-first os (ps ++ qs) o (made-two {then = λ at. Unit {0}} ps qs c b (λ at i j. tt))

  pub made-three : {old mid new end : List (Built F C K)} {first second third then : (ℕ → Tree F C K) → Type 0}
      (os ps qs : List Part) →
      Assembled fun_at class_at block_at qs third old mid → Assembled fun_at class_at block_at ps second mid new
      → Assembled fun_at class_at block_at os first new end
      → ((at : ℕ → Tree F C K) → first at → second at → third at → then at)
      → Assembled fun_at class_at block_at (os ++ (ps ++ qs)) then old end
  made-three {second = second} {third = third} os ps qs c b a f =
      made-two os (ps ++ qs) (made-two {then = λ at. second at × third at} ps qs c b (λ at i j. (i, j))) a
      (λ at i j. f at i j.0 j.1)

  pub made-is : {old new : List (Built F C K)} {x y : Node F C K} (t : Tree F C K) → x ≡ y →
      Assembled fun_at class_at block_at (slots y) (λ at. t ≡ node_tree fun_at class_at block_at at y) old new
      → Assembled fun_at class_at block_at (slots x) (λ at. t ≡ node_tree fun_at class_at block_at at x) old new
  made-is {old} {new} t e a = subst (λ v. Assembled fun_at class_at block_at (slots v)
      (λ at. t ≡ node_tree fun_at class_at block_at at v) old new) (sym e) a

  -- ---- lists, the last item first

  module _ {I X : Type 0} (parts : I → List Part) (of : (ℕ → Tree F C K) → I → Tree F C K) (tree : X → Tree F C K) where
    pub making-starts : {old : List (Built F C K)} {made : List X} (all : List I) → made ≡ []
        → Making fun_at class_at block_at parts of tree all all old made old
    making-starts all e = record {
      done = [];
      split = sym (append-nil all);
      out =
          made-none (λ at. ap (λ w. map tree (reverse w)) e);
    }

    making-offers : {old now : List (Built F C K)} {made : List X} {all rest : List I} (less : List I) (i : I)
        → rest ≡ less ++ i ∷ [] → Offers (flat parts all) old
        → (m : Making fun_at class_at block_at parts of tree all rest old made now)
        → Offers (parts i ++ flat parts m.done) old
    making-offers {old = old} {all = all} less i e o m =
        let w : all ≡ less ++ i ∷ m.done = m.split ∙ ap (λ v. v ++ m.done) e ∙ append_assoc less (i ∷ []) m.done in
        let f : flat parts all ≡ flat parts less ++ (parts i ++ flat parts m.done) =
        ap (flat parts) w ∙ flat-append parts less (i ∷ m.done) in
        offers-second (flat parts less) (parts i ++ flat parts m.done) (subst (λ v. Offers v old) f o)

    pub next-offers : {old now : List (Built F C K)} {made : List X} {all rest : List I} (less : List I) (i : I)
        → rest ≡ less ++ i ∷ [] → Offers (flat parts all) old
        → Making fun_at class_at block_at parts of tree all rest old made now → Offers (parts i) now
    next-offers less i e o m = offers-first (parts i) (flat parts m.done) (making-offers less i e o m) m.out

    pub making-more : {old now then : List (Built F C K)} {made more : List X} {all rest : List I} {x : X}
        (less : List I) (i : I) → rest ≡ less ++ i ∷ [] → more ≡ made ++ x ∷ [] →
        Making fun_at class_at block_at parts of tree all rest old made now
        → Assembled fun_at class_at block_at (parts i)
        (λ at. tree x ≡ of at i) now then → Making fun_at class_at block_at parts of tree all less old more then
    making-more {made = made} {x = x} less i e p m u = record {
      done = i ∷ m.done;
      split = m.split ∙ ap (λ v. v ++ m.done) e ∙ append_assoc less (i ∷ []) m.done;
      out = made-two (parts i) (flat parts m.done) m.out u
          (λ at e f. ap (λ w. map tree (reverse w)) p ∙ ap (map tree) (reverse-append made (x ∷ [])) ∙ ap
          (λ w. w ∷ map tree (reverse made)) e ∙ ap (λ w. of at i ∷ w) f);
    }

-- what a result holds, in something that has the same tree
module _ {F C K : Type 0} (fun_at : F → Span) (class_at : C → Span) (block_at : K → Span) where
  pub made-wrapped : {X Y : Type 0} (old new : List (Built F C K)) (ps : List Part) (tree : X → Tree F C K)
      (whole : Y → Tree F C K) (of : (ℕ → Tree F C K) → Tree F C K) (r : Result X AllocError) (q : Result Y AllocError)
      → IfOk q (λ y. IsOkAnd r (λ x. whole y ≡ tree x))
      → IfOk r (λ x. Assembled fun_at class_at block_at ps (λ at. tree x ≡ of at) old new)
      → IfOk q (λ y. Assembled fun_at class_at block_at ps (λ at. whole y ≡ of at) old new)
  made-wrapped old new ps tree whole of (Ok x) (Ok y) e a = made-one a (λ at h. e ∙ h)
  made-wrapped old new ps tree whole of (Err f) (Ok y) e a = absurd e
  made-wrapped old new ps tree whole of r (Err f) e a = tt
