-- Trees are moved onto the end of a list from the first on: the place of each stays as those after it are moved.
use Rattle.std.proofs.Common.{◌≡◌, ℕ, suc, ◌+◌, ◌<◌, ◌≤◌, ◌≢◌, List, [], ◌∷◌, ◌++◌, map, take, length, get_or, true, Result, Ok, Err, Option, refl, sym, ap, subst, ◌∙◌, arith, append_assoc, rules}
use Rattle.std.proofs.lemmas.List.{append-nil, map-append, length-append, take_more, take_all, get_or-set_other, length-set}
use Rattle.std.proofs.Math.ListN.{set}
use Rattle.std.specs.{declared.alloc.AllocError.AllocError, declared.alloc.Global.Global, declared.boxed.Box.Box, declared.vec.Vec.Vec}
use Rattle.swc_context.specs.declared.span.Span.{Span}
use Rattle.swc_ast.specs.{Tree.Tree, declared.expr.AssignTarget.TheFolds.the_lemmas, declared.expr.Expr.Expr, declared.expr.SimpleAssignTarget.SimpleAssignTarget, declared.pat.ObjectPatProp.ObjectPatProp, declared.pat.Pat.Pat}
use Rattle.swc_ast.specs.declared.expr.AssignTarget.TheVariants as target
use Rattle.swc_nodes.specs.NodeParts.{Part, View, Form, target_expr, other_expr, target_pat, other_pat, pat, simple, pattern, form, view_ok, flat}
use Rattle.swc_nodes.specs.declared.node.Node.{Node}
use Rattle.swc_trees.specs.Splitting.{part, target_view, built_view, places, AreAt, SplitsTo}
use Rattle.swc_trees.specs.{Moving.IsNode, declared.built.Built.Built}
use Rattle.swc_trees.proofs.Agreed.{flat-append}

pub flat-more : {X Y : Type 0} (f : X → List Y) (xs : List X) (x : X) → flat f (xs ++ x ∷ []) ≡ flat f xs ++ f x
flat-more f xs x = flat-append f xs (x ∷ []) ∙ ap (λ v. flat f xs ++ v) (append-nil (f x))

pub map-more : {X Y : Type 0} (f : X → Y) (xs : List X) (i : ℕ) (d : X) → i < length xs
    → map f (take (i + 1) xs) ≡ map f (take i xs) ++ f (get_or xs i d) ∷ []
map-more f xs i d h = ap (map f) (take_more xs i d h) ∙ map-append f (take i xs) (get_or xs i d ∷ [])

-- an array or object pattern is a pattern
pattern-pat : (f : Form) → view_ok pattern f ≡ true → view_ok pat f ≡ true
pattern-pat target_expr h = cc
pattern-pat other_expr h = cc
pattern-pat target_pat h = refl
pattern-pat other_pat h = cc

-- what the node of a target is to be
module _ {F C K : Type 0} where
  pub simple-view : (t : SimpleAssignTarget (Box (Expr F C K) Global))
      → target_view {F = F} {C = C} {K = K} (target.Simple t) ≡ simple
  simple-view t = search (rules, the_lemmas)

  pub array-view : (s : Span) (elems : Vec (Option (Pat F C K)) Global)
      → target_view {F = F} {C = C} {K = K} (target.Array s elems) ≡ pattern
  array-view s elems = search (rules, the_lemmas)

  pub object-view : (s : Span) (props : Vec (ObjectPatProp F C K) Global)
      → target_view {F = F} {C = C} {K = K} (target.Object s props) ≡ pattern
  object-view s props = search (rules, the_lemmas)

-- the places of trees and of those after them
pub places-append : {F C K : Type 0} (k : ℕ) (bs cs : List (Built F C K))
    → places k (bs ++ cs) ≡ places k bs ++ places (k + length bs) cs
places-append k [] cs = ap (λ v. places v cs) (omega arith)
places-append k (b ∷ bs) cs =
    let e : suc k + length bs ≡ k + suc (length bs) = omega arith in
    ap (λ v. part (built_view b) k ∷ v) (places-append (suc k) bs cs ∙ ap (λ v. places (suc k) bs ++ places v cs) e)

module _ {F C K : Type 0} (fun_at : F → Span) (class_at : C → Span) (block_at : K → Span) where
  are-first : (at : ℕ → Tree F C K) (k : ℕ) (bs cs : List (Built F C K))
      → AreAt fun_at class_at block_at at k (bs ++ cs) → AreAt fun_at class_at block_at at k bs
  are-first at k [] cs a = tt
  are-first at k (b ∷ bs) cs a = (a.0, are-first at (suc k) bs cs a.1)

  are-second : (at : ℕ → Tree F C K) (k j : ℕ) (bs cs : List (Built F C K)) → j ≡ k + length bs
      → AreAt fun_at class_at block_at at k (bs ++ cs) → AreAt fun_at class_at block_at at j cs
  are-second at k j [] cs e a = subst (λ v. AreAt fun_at class_at block_at at v cs) (omega arith) a
  are-second at k j (b ∷ bs) cs e a = are-second at (suc k) j bs cs (omega arith) a.1

module _ {F C K : Type 0} {fun_at : F → Span} {class_at : C → Span} {block_at : K → Span} where
  pub split-none : {Y : Type 0} {parts : Y → List Part} {same : (ℕ → Tree F C K) → Y → Type 0}
      {old : List (Built F C K)} {y : Y} → parts y ≡ [] → ((at : ℕ → Tree F C K) → same at y)
      → SplitsTo fun_at class_at block_at parts same old (Ok y) old
  split-none {old = old} e f = record {
    split = record {
      own = [];
      added = sym (append-nil old);
      placed = e;
      moved =
          λ at a. f at;
    };
  }

  pub split-one : {Y Z : Type 0} {ps : Y → List Part} {parts : Z → List Part} {same : (ℕ → Tree F C K) → Y → Type 0}
      {then : (ℕ → Tree F C K) → Z → Type 0} {old new : List (Built F C K)} {y : Y} {z : Z} →
      SplitsTo fun_at class_at block_at ps same old (Ok y) new → parts z ≡ ps y
      → ((at : ℕ → Tree F C K) → same at y → then at z)
      → SplitsTo fun_at class_at block_at parts then old (Ok z) new
  split-one p e f = record {
    split = record {
      own = p.split.own;
      added = p.split.added;
      placed = e ∙ p.split.placed;
      moved = λ at a. f at (p.split.moved at a);
    };
  }

  pub split-two : {X Y Z : Type 0} {ps : X → List Part} {qs : Y → List Part} {parts : Z → List Part}
      {first : (ℕ → Tree F C K) → X → Type 0} {second : (ℕ → Tree F C K) → Y → Type 0}
      {then : (ℕ → Tree F C K) → Z → Type 0} {old mid new : List (Built F C K)} {x : X} {y : Y} {z : Z} →
      SplitsTo fun_at class_at block_at ps first old (Ok x) mid
      → SplitsTo fun_at class_at block_at qs second mid (Ok y) new → parts z ≡ ps x ++ qs y
      → ((at : ℕ → Tree F C K) → first at x → second at y → then at z)
      → SplitsTo fun_at class_at block_at parts then old (Ok z) new
  split-two {qs = qs} {old = old} {mid = mid} {y = y} p q e f =
      let l : length mid ≡ length old + length p.split.own = ap length p.split.added ∙ length-append old p.split.own in
      record {
        split = record {
          own = p.split.own ++ q.split.own;
          added = q.split.added ∙ ap (λ v. v ++ q.split.own) p.split.added ∙ append_assoc old p.split.own q.split.own;
          placed = e ∙ ap (λ v. v ++ qs y) p.split.placed ∙ ap (λ v. places (length old) p.split.own ++ v)
              (q.split.placed ∙ ap (λ v. places v q.split.own) l) ∙ sym
              (places-append (length old) p.split.own q.split.own);
          moved = λ at a. f at (p.split.moved at (are-first fun_at class_at block_at at
              (length old) p.split.own q.split.own a))
              (q.split.moved at (are-second fun_at class_at block_at at (length old)
              (length mid) p.split.own q.split.own l a));
        };
      }

  pub split-three : {W X Y Z : Type 0} {os : W → List Part} {ps : X → List Part} {qs : Y → List Part}
      {parts : Z → List Part} {first : (ℕ → Tree F C K) → W → Type 0} {second : (ℕ → Tree F C K) → X → Type 0}
      {third : (ℕ → Tree F C K) → Y → Type 0} {then : (ℕ → Tree F C K) → Z → Type 0}
      {old mid late new : List (Built F C K)} {w : W} {x : X} {y : Y} {z : Z} →
      SplitsTo fun_at class_at block_at os first old (Ok w) mid
      → SplitsTo fun_at class_at block_at ps second mid (Ok x) late
      → SplitsTo fun_at class_at block_at qs third late (Ok y) new → parts z ≡ os w ++ (ps x ++ qs y)
      → ((at : ℕ → Tree F C K) → first at w → second at x → third at y → then at z)
      → SplitsTo fun_at class_at block_at parts then old (Ok z) new
  split-three {X} {Y} {ps = ps} {qs = qs} {second = second} {third = third} {mid = mid} {new = new} {x = x}
      {y = y} o p q e f =
      let more : SplitsTo fun_at class_at block_at {Y = X × Y} (λ v. ps v.0 ++ qs v.1)
      (λ at v. second at v.0 × third at v.1) mid (Ok (x, y)) new = split-two p q refl (λ at i j. (i, j)) in
      split-two o more e (λ at i j. f at i j.0 j.1)

  -- the same, where it is answered as a value
  pub split-is : {Y : Type 0} {parts : Y → List Part} {same : (ℕ → Tree F C K) → Y → Type 0}
      {old new : List (Built F C K)} {r : Result Y AllocError} {y : Y}
      → SplitsTo fun_at class_at block_at parts same old r new → r ≡ Ok y
      → SplitsTo fun_at class_at block_at parts same old (Ok y) new
  split-is {parts = parts} {same = same} {old = old} {new = new} p e =
      subst (λ v. SplitsTo fun_at class_at block_at parts same old v new) e p

  -- the same, of another tree that is equal
  pub split-eq : {Y : Type 0} {parts : Y → List Part} {of : (ℕ → Tree F C K) → Y → Tree F C K}
      {old new : List (Built F C K)} {r : Result Y AllocError} {s t : Tree F C K}
      → SplitsTo fun_at class_at block_at parts (λ at y. of at y ≡ s) old r new → s ≡ t
      → SplitsTo fun_at class_at block_at parts (λ at y. of at y ≡ t) old r new
  split-eq {parts = parts} {of = of} {old = old} {new = new} {r = r} p e =
      subst (λ w. SplitsTo fun_at class_at block_at parts (λ at y. of at y ≡ w) old r new) e p

  pub split-tree : {parts : Node F C K → List Part} {old new : List (Built F C K)} {r : Result (Node F C K) AllocError}
      {v : View} {s t : Tree F C K} → SplitsTo fun_at class_at block_at parts
      (IsNode fun_at class_at block_at v s) old r new → s ≡ t
      → SplitsTo fun_at class_at block_at parts (IsNode fun_at class_at block_at v t) old r new
  split-tree {parts = parts} {old = old} {new = new} {r = r} {v = v} p e =
      subst (λ w. SplitsTo fun_at class_at block_at parts (IsNode fun_at class_at block_at v w) old r new) e p

  -- the same of what is to be another node, which is equal too
  pub split-view : {parts : Node F C K → List Part} {old new : List (Built F C K)} {r : Result (Node F C K) AllocError}
      {u v : View} {s t : Tree F C K} → SplitsTo fun_at class_at block_at parts
      (IsNode fun_at class_at block_at u s) old r new → u ≡ v → s ≡ t
      → SplitsTo fun_at class_at block_at parts (IsNode fun_at class_at block_at v t) old r new
  split-view {parts = parts} {old = old} {new = new} {r = r} {s = s} p d e =
      split-tree (subst (λ w. SplitsTo fun_at class_at block_at parts
      (IsNode fun_at class_at block_at w s) old r new) d p) e

  -- an array or object pattern is a pattern
  pub split-pattern : {parts : Node F C K → List Part} {old new : List (Built F C K)}
      {r : Result (Node F C K) AllocError} {t : Tree F C K}
      → SplitsTo fun_at class_at block_at parts (IsNode fun_at class_at block_at pattern t) old r new
      → SplitsTo fun_at class_at block_at parts (IsNode fun_at class_at block_at pat t) old r new
  split-pattern {r = Ok x} p = split-one p refl (λ at n.
      record { stands = n.stands; view = pattern-pat (form x) n.view })
  split-pattern {r = Err x} p = record { split = tt }

-- ---- lists, the first item first

module _ {F C K I X : Type 0} (fun_at : F → Span) (class_at : C → Span) (block_at : K → Span) (parts : I → List Part)
    (of : (ℕ → Tree F C K) → I → Tree F C K) (tree : X → Tree F C K) where
  -- The first items of a list were split, and those from the number i on are left.
  pub record Splitting (all left : List X) (i : ℕ) (old : List (Built F C K)) (done : List I)
      (now : List (Built F C K)) : Type 0 where
    pub splits : SplitsTo fun_at class_at block_at {Y = List I} (flat parts)
        (λ at ys. map (of at) ys ≡ map tree (take i all)) old (Ok done) now
    pub same_length : length left ≡ length all
    pub unvisited : (k : ℕ) (d : X) → i ≤ k → get_or left k d ≡ get_or all k d

  pub splitting-starts : {old : List (Built F C K)} {done : List I} (all left : List X) → left ≡ all → done ≡ []
      → Splitting all left 0 old done old
  splitting-starts all left e f = record {
    splits = split-none (ap (flat parts) f) (λ at. ap (map (of at)) f);
    same_length = ap length e;
    unvisited = λ k d h. ap (λ v. get_or v k d) e;
  }

  pub splitting-more : {old now new : List (Built F C K)} {done more : List I} {all left : List X} {i : ℕ} {y : I}
      (x z : X) → i < length left → Splitting all left i old done now →
      SplitsTo fun_at class_at block_at parts (λ at v. of at v ≡ tree (get_or left i x)) now (Ok y) new
      → more ≡ done ++ y ∷ [] → Splitting all (set left i z) (i + 1) old more new
  splitting-more {done = done} {all = all} {left = left} {i = i} {y = y} x z h p q f =
      let l = p.same_length in
      let lt : i < length all = omega arith in
      record {
        splits = split-two p.splits q (ap (flat parts) f ∙ flat-more parts done y)
            (λ at a b. ap (map (of at)) f ∙ map-append (of at) done (y ∷ []) ∙ ap (λ v. v ++ of at y ∷ []) a ∙ ap
            (λ v. map tree (take i all) ++ v ∷ []) (b ∙ ap tree (p.unvisited i x (omega arith))) ∙ sym
            (map-more tree all i x lt));
        same_length = length-set left i z ∙ l;
        unvisited = λ k d g. let ne : k ≢ i = omega arith in
            get_or-set_other left i k z d ne ∙ p.unvisited k d (omega arith);
      }

  pub splitting-ends : {old now : List (Built F C K)} {all left : List X} {i : ℕ} (v : Vec I Global) → length left ≤ i
      → Splitting all left i old v.items now →
      SplitsTo fun_at class_at block_at (λ y. flat parts y.items) (λ at y. map (of at) y.items ≡ map tree all) old
      (Ok v) now
  splitting-ends {all = all} {i = i} v h p = let l = p.same_length in
      split-one p.splits refl (λ at a. a ∙ ap (map tree) (take_all i all (omega arith)))
