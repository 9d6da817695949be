-- What is renumbered: what holds one thing or two that were, and the items of a list, the first first.
use Rattle.std.proofs.Common.{◌≡◌, ℕ, suc, ◌+◌, ◌-◌, false, ◌<◌, ◌≤◌, ◌≢◌, List, [], ◌∷◌, ◌++◌, map, length, get_or, refl, sym, ap, subst, ◌∙◌, arith, below_more}
use Rattle.std.proofs.lemmas.List.{map-append, get_or_default, get_or-set_other, get_or-set_same, length-set, with_items_is}
use Rattle.std.proofs.{lemmas.Bool.le-ltb, Math.ListN.set}
use Rattle.std.specs.{Prelude.if◌then◌else◌, Prelude.nat_lt, Vec.with_items, declared.alloc.Global.Global, declared.vec.Vec.Vec}
use Rattle.swc_ast.specs.Tree.{Tree, args, node, no_span, Trees, trees}
use Rattle.swc_ast.specs.Trees.{trees_append}
use Rattle.swc_nodes.specs.Renumbering.{given, with_given, Renumbered}
use Rattle.swc_nodes.specs.{declared.renumbering.Numbers.Numbers, NodeParts.Part, NodeParts.flat}
use Rattle.swc_nodes.proofs.Lists.{trees-both}

-- ---- the trees of lists

pub args-same : {F C K : Type 0} {ts us : Trees F C K} → node args no_span ts ≡ node args no_span us → ts ≡ us
args-same e = cc

pub trees-after : {F C K : Type 0} (ts us vs : List (Tree F C K)) → trees us ≡ trees vs
    → trees (ts ++ us) ≡ trees (ts ++ vs)
trees-after ts us vs e = trees-both ts us ∙ ap (trees_append (trees ts)) e ∙ sym (trees-both ts vs)

-- ---- numbers from 0 on are the list itself

pub given-all : (ids : Numbers) (k : ℕ) → ids.from ≡ 0 → given ids k ≡ get_or ids.ids.items k k
given-all ids k e =
    let none : nat_lt k ids.from ≡ false = ap (nat_lt k) e ∙ le-ltb k 0 (omega arith) in
    let same : k - ids.from ≡ k = omega (arith, e) in
    ap (λ b. if b then k else get_or ids.ids.items (k - ids.from) k) none ∙ ap (λ j. get_or ids.ids.items j k) same

-- ---- what holds one thing that was renumbered, or two

module _ {F C K : Type 0} {ids : Numbers} where
  pub renumbered-one : {X Y : Type 0} {parts : X → List Part} {of : (ℕ → Tree F C K) → X → Tree F C K}
      {all : Y → List Part} {tree : (ℕ → Tree F C K) → Y → Tree F C K} {a b : X} {x y : Y} →
      Renumbered parts of ids a b → all x ≡ parts a → all y ≡ parts b →
      ((at by : ℕ → Tree F C K) → of at b ≡ of by a → tree at y ≡ tree by x) → Renumbered all tree ids x y
  renumbered-one r d e f = record {
    placed = e ∙ r.placed ∙ ap (map (with_given ids)) (sym d);
    stands = λ at. f at (λ k. at (given ids k)) (r.stands at);
  }

  pub renumbered-two : {W X Y : Type 0}
      {first : W → List Part} {of : (ℕ → Tree F C K) → W → Tree F C K}
      {second : X → List Part} {next : (ℕ → Tree F C K) → X → Tree F C K}
      {all : Y → List Part} {tree : (ℕ → Tree F C K) → Y → Tree F C K} {u v : W} {a b : X} {x y : Y} →
      Renumbered first of ids u v → Renumbered second next ids a b →
      all x ≡ first u ++ second a → all y ≡ first v ++ second b →
      ((at by : ℕ → Tree F C K) → of at v ≡ of by u → next at b ≡ next by a → tree at y ≡ tree by x) →
      Renumbered all tree ids x y
  renumbered-two {first = first} {second = second} {u = u} {a = a} {b = b} q r d e f = record {
    placed =
        e ∙ ap (λ ps. ps ++ second b) q.placed ∙ ap (λ ps. map (with_given ids) (first u) ++ ps) r.placed
        ∙ sym (map-append (with_given ids) (first u) (second a)) ∙ ap (map (with_given ids)) (sym d);
    stands = λ at. f at (λ k. at (given ids k)) (q.stands at) (r.stands at);
  }

-- ---- lists

module _ {F C K X : Type 0} (parts : X → List Part) (of : (ℕ → Tree F C K) → X → Tree F C K) (ids : Numbers) where
  -- The items before the number i have the numbers at their places, and those from there on are what they were.
  pub record Renumbering (old new : List X) (i : ℕ) : Type 0 where
    pub same_length : length new ≡ length old
    pub visited : (k : ℕ) (d : X) → k < i → k < length old → Renumbered parts of ids (get_or old k d) (get_or new k d)
    pub unvisited : (k : ℕ) (d : X) → i ≤ k → get_or new k d ≡ get_or old k d

  renumbered-is : {a b x y : X} → a ≡ x → b ≡ y → Renumbered parts of ids a b → Renumbered parts of ids x y
  renumbered-is {a} {b} {x} {y} d e r =
      let first = subst (λ v. Renumbered parts of ids v b) d r in
      subst (λ v. Renumbered parts of ids x v) e first

  pub renumbering-starts : (old new : List X) → new ≡ old → Renumbering old new 0
  renumbering-starts old new e = record {
    same_length = ap length e;
    visited = λ k d h g. absurd (omega arith);
    unvisited = λ k d h. ap (λ v. get_or v k d) e;
  }

  -- the item with the number i is renumbered
  pub renumbering-more : {old new : List X} {i : ℕ} (x y : X) → i < length new → Renumbering old new i →
      Renumbered parts of ids (get_or new i x) y → Renumbering old (set new i y) (i + 1)
  renumbering-more {old} {new} {i} x y h r s = record {
    same_length = length-set new i y ∙ r.same_length;
    visited = λ k d lt g.
        below_more (λ j. j < length old → Renumbered parts of ids (get_or old j d) (get_or (set new i y) j d)) i
        (λ j below within. let ne : j ≢ i = omega arith in
        renumbered-is refl (sym (get_or-set_other new i j y d ne)) (r.visited j d below within))
        (λ within. let was = r.unvisited i x (omega arith) ∙ get_or_default old i x d within in
        renumbered-is was (sym (get_or-set_same new i y d h)) s) k lt g;
    unvisited = λ k d g.
        let ne : k ≢ i = omega arith in get_or-set_other new i k y d ne ∙ r.unvisited k d (omega arith);
  }

  -- Each item of a list has the numbers at its places.
  abbrev Each : List X → List X → Type 0
  Each old new = (k : ℕ) (d : X) → k < length old → Renumbered parts of ids (get_or old k d) (get_or new k d)

  each-rest : (x y : X) (xs ys : List X) → Each (x ∷ xs) (y ∷ ys) → Each xs ys
  each-rest x y xs ys e k d h = e (suc k) d (omega arith)

  each-placed : (old new : List X) → length new ≡ length old → Each old new →
      flat parts new ≡ map (with_given ids) (flat parts old)
  each-placed [] [] l e = refl
  each-placed [] (y ∷ ys) l e = absurd (omega arith)
  each-placed (x ∷ xs) [] l e = absurd (omega arith)
  each-placed (x ∷ xs) (y ∷ ys) l e =
      let first = e 0 x (omega arith) in
      ap (λ v. v ++ flat parts ys) first.placed
      ∙ ap (λ v. map (with_given ids) (parts x) ++ v) (each-placed xs ys (omega arith) (each-rest x y xs ys e))
      ∙ sym (map-append (with_given ids) (parts x) (flat parts xs))

  each-stands : (at : ℕ → Tree F C K) (old new : List X) → length new ≡ length old → Each old new →
      map (of at) new ≡ map (of (λ k. at (given ids k))) old
  each-stands at [] [] l e = refl
  each-stands at [] (y ∷ ys) l e = absurd (omega arith)
  each-stands at (x ∷ xs) [] l e = absurd (omega arith)
  each-stands at (x ∷ xs) (y ∷ ys) l e =
      let first = e 0 x (omega arith) in
      ap (λ t. t ∷ map (of at) ys) (first.stands at)
      ∙ ap (λ ts. of (λ k. at (given ids k)) x ∷ ts) (each-stands at xs ys (omega arith) (each-rest x y xs ys e))

  pub renumbering-ends : (old : Vec X Global) (new : List X) {i : ℕ} → length new ≤ i → Renumbering old.items new i →
      Renumbered (λ xs. flat parts xs.items) (λ at xs. node args no_span (trees (map (of at) xs.items))) ids
      old (with_items old new)
  renumbering-ends old new {i} h r =
      let l = r.same_length in
      let n = old.ok.0 in
      let is = with_items_is old new (omega arith) in
      let each : Each old.items new = λ k d g. r.visited k d (omega arith) g in
      record {
        placed = ap (flat parts) is ∙ each-placed old.items new l each;
        stands = λ at. ap (λ ts. node args no_span (trees ts))
            (ap (map (of at)) is ∙ each-stands at old.items new l each);
      }
