-- Trees that were moved to a list, and put in: what holds their places in the list gets the numbers of those that were
-- put in.
use Rattle.std.proofs.Common.{◌≡◌, ℕ, suc, ◌+◌, ◌<◌, ◌≤◌, true, List, [], ◌∷◌, ◌++◌, map, length, get_or, Result, Ok, Err, IfOk, refl, sym, ap, subst, ◌∙◌, arith, append_assoc}
use Rattle.std.proofs.lemmas.List.{map-append, length-append, length-map}
use Rattle.std.proofs.Math.Seq.{get_or-append_seam}
use Rattle.std.specs.{Result.IsErr, declared.alloc.AllocError.AllocError, declared.alloc.Global.Global, declared.boxed.Box.Box, declared.vec.Vec.Vec}
use Rattle.swc_context.specs.declared.span.Span.{Span}
use Rattle.swc_ast.specs.Parts.{no_tree, item_tree, args_tree}
use Rattle.swc_ast.specs.Tree.{Tree, args, node, no_span, trees}
use Rattle.swc_ast.specs.{declared.expr.Expr.Expr, declared.expr.ExprOrSpread.ExprOrSpread, declared.spanned.Spanned.Ghosts}
use Rattle.swc_nodes.specs.Renumbering.{given, with_given, Renumbered}
use Rattle.swc_nodes.specs.NodeParts.{Part, View, slots, args_parts}
use Rattle.swc_nodes.specs.GrowingNodes.{count, seat_at, tree_at, Apart, Grows, Made}
use Rattle.swc_nodes.specs.{NumberedTrees.chain, declared.node.ExprId.ExprId, declared.node.Node.Node, declared.nodes.Nodes.Nodes, declared.renumbering.Numbers.Numbers}
use Rattle.swc_nodes.proofs.{Chains.both_true, Chains.chain-bound, Held.from-apart, Renumbered.given-all, Standing.seat-later}
use Rattle.swc_trees.proofs.{Agreed.agrees-self, Splits.split-one, Lighter.weights, Lighter.parts-lighter, Weights.weight, Weights.weight_of}
use Rattle.swc_trees.specs.Moving.{Agrees, IsNode, PutsIn, boxed_in}
use Rattle.swc_trees.specs.Splitting.{part, built_view, places, numbered, AreAt, SplitsTo}
use Rattle.swc_trees.specs.{Building.built_tree, declared.built.Built.Built}

-- numbers from 0 on, as the list has them: the one at its place
given-here : (ids : Numbers) (pre : List ℕ) (i : ℕ) (is : List ℕ) → ids.from ≡ 0 → ids.ids.items ≡ pre ++ i ∷ is →
    given ids (length pre) ≡ i
given-here ids pre i is e h =
    let k = length pre in
    given-all ids k e ∙ ap (λ v. get_or v k k) h ∙ get_or-append_seam pre i is k

-- a list of one number
only-one : (is : List ℕ) (i : ℕ) → length is ≡ 1 → i ≡ get_or is 0 i → is ≡ i ∷ []
only-one [] i e h = absurd (omega arith)
only-one (j ∷ []) i e h = ap (λ v. v ∷ []) (sym h)
only-one (j ∷ k ∷ is) i e h = absurd (omega arith)

-- numbers of the trees of two lists
pub numbered-append : (vs ws : List View) (is js : List ℕ) → length is ≡ length vs
    → numbered (vs ++ ws) (is ++ js) ≡ numbered vs is ++ numbered ws js
numbered-append [] ws [] js e = refl
numbered-append [] ws (i ∷ is) js e = absurd (omega arith)
numbered-append (v ∷ vs) ws [] js e = absurd (omega arith)
numbered-append (v ∷ vs) ws (i ∷ is) js e = ap (λ w. part v i ∷ w) (numbered-append vs ws is js (omega arith))

-- places, with the numbers at them
pub places-given : {F C K : Type 0} (ids : Numbers) (bs : List (Built F C K)) (pre is : List ℕ)
    → length is ≡ length bs →
    ids.from ≡ 0 → ids.ids.items ≡ pre ++ is →
    map (with_given ids) (places (length pre) bs) ≡ numbered (map built_view bs) is
places-given ids [] pre [] e f h = refl
places-given ids [] pre (i ∷ is) e f h = absurd (omega arith)
places-given ids (b ∷ bs) pre [] e f h = absurd (omega arith)
places-given ids (b ∷ bs) pre (i ∷ is) e f h =
    let l : length (pre ++ i ∷ []) ≡ suc (length pre) = length-append pre (i ∷ []) ∙ omega arith in
    let a : (pre ++ i ∷ []) ++ is ≡ pre ++ i ∷ is = append_assoc pre (i ∷ []) is in
    let view = built_view b in
    let more = places-given ids bs (pre ++ i ∷ []) is (omega arith) f (h ∙ sym a) in
    ap (λ v. part view v ∷ map (with_given ids) (places (suc (length pre)) bs)) (given-here ids pre i is f h)
    ∙ ap (λ v. part view i ∷ v) (ap (λ v. map (with_given ids) (places v bs)) (sym l) ∙ more)

module _ {F C K : Type 0} (fun_at : F → Span) (class_at : C → Span) (block_at : K → Span) where
  abbrev tree : Built F C K → Tree F C K
  tree = built_tree fun_at class_at block_at

  -- what is given for numbers is what their trees stand for, and so for the places of those
  pub are-given : (at : ℕ → Tree F C K) (ids : Numbers) (bs : List (Built F C K)) (pre is : List ℕ) → ids.from ≡ 0 →
      ids.ids.items ≡ pre ++ is → map at is ≡ map tree bs →
      AreAt fun_at class_at block_at (λ k. at (given ids k)) (length pre) bs
  are-given at ids [] pre is e h f = tt
  are-given at ids (b ∷ bs) pre [] e h f = cc
  are-given at ids (b ∷ bs) pre (i ∷ is) e h f =
      let d : at i ≡ tree b = cc in
      let more : map at is ≡ map tree bs = cc in
      let l : length (pre ++ i ∷ []) ≡ suc (length pre) = length-append pre (i ∷ []) ∙ omega arith in
      let a : (pre ++ i ∷ []) ++ is ≡ pre ++ i ∷ is = append_assoc pre (i ∷ []) is in
      let own : ℕ → Tree F C K = λ k. at (given ids k) in
      let behind = are-given at ids bs (pre ++ i ∷ []) is e (h ∙ sym a) more in
      (ap at (given-here ids pre i is e h) ∙ d, subst (λ v. AreAt fun_at class_at block_at own v bs) l behind)

  -- what trees stand for, by their places
  abbrev at_place : List (Built F C K) → ℕ → Tree F C K
  at_place bs k = get_or (map tree bs) k no_tree

  are-at-place : (pre bs : List (Built F C K)) → AreAt fun_at class_at block_at (at_place (pre ++ bs)) (length pre) bs
  are-at-place pre [] = tt
  are-at-place pre (b ∷ bs) =
      let l : length (pre ++ b ∷ []) ≡ suc (length pre) = length-append pre (b ∷ []) ∙ omega arith in
      let a : (pre ++ b ∷ []) ++ bs ≡ pre ++ b ∷ bs = append_assoc pre (b ∷ []) bs in
      let m : map tree (pre ++ b ∷ bs) ≡ map tree pre ++ tree b ∷ map tree bs = map-append tree pre (b ∷ bs) in (
        ap (λ v. get_or v (length pre) no_tree) m ∙ ap (λ v. get_or (map tree pre ++ tree b ∷ map tree bs) v no_tree)
            (sym (length-map pre tree)) ∙ get_or-append_seam (map tree pre) (tree b) (map tree bs) no_tree,
        subst (λ v. AreAt fun_at class_at block_at (at_place (pre ++ b ∷ bs)) v bs) l
            (subst (λ v. AreAt fun_at class_at block_at (at_place v) (length (pre ++ b ∷ [])) bs) a
            (are-at-place (pre ++ b ∷ []) bs)),
      )

  weights-places : (at : ℕ → Tree F C K) (k : ℕ) (bs : List (Built F C K)) → AreAt fun_at class_at block_at at k bs
      → weights at (places k bs) ≡ weight_of tree bs
  weights-places at k [] a = refl
  weights-places at k (b ∷ bs) a = let w = weights-places at (suc k) bs a.1 in let e = ap weight a.0 in omega arith

  weight-append : (bs cs : List (Built F C K)) → weight_of tree (bs ++ cs) ≡ weight_of tree bs + weight_of tree cs
  weight-append [] cs = omega arith
  weight-append (b ∷ bs) cs = let w = weight-append bs cs in omega arith

  -- the trees that were moved out of the last one of a list, to the end of the others, weigh less than it
  pub split-lighter : {v : View} {old new all : List (Built F C K)} {x : Node F C K} (b : Built F C K)
      → all ≡ old ++ b ∷ [] →
      SplitsTo fun_at class_at block_at slots (IsNode fun_at class_at block_at v (tree b)) old (Ok x) new →
      weight_of tree new < weight_of tree all
  split-lighter {old = old} {new = new} {all = all} {x = x} b e q =
      let p = q.split in
      let at : ℕ → Tree F C K = at_place (old ++ p.own) in
      let h : AreAt fun_at class_at block_at at (length old) p.own = are-at-place old p.own in
      let m = p.moved at h in
      let w = weights-places at (length old) p.own h in
      let a = parts-lighter fun_at class_at block_at at x in
      let s = ap (weights at) p.placed in
      let c = ap weight m.stands in
      let n = ap (weight_of tree) p.added ∙ weight-append old p.own in
      let l = ap (weight_of tree) e ∙ weight-append old (b ∷ []) in
      omega arith

module _ {F C K : Type 0} {fg : Ghosts F} {cg : Ghosts C} {kg : Ghosts K} where
  -- ---- what parts stand for

  -- what parts stand for among more nodes, they stood for before
  pub agrees-before : (at : ℕ → Tree F C K) (ms ns : Nodes F C K fg cg kg) (lo : ℕ) (ps : List Part) → Grows ms ns
      → chain (seat_at ms) lo ps (count ms) ≡ true → Agrees at ns ps → Agrees at ms ps
  agrees-before at ms ns lo [] g h a = tt
  agrees-before at ms ns lo (p ∷ ps) g h a =
      let b = both_true h in
      let w : suc p.at ≤ count ms = chain-bound (seat_at ms) (suc p.at) ps (count ms) b.1 in
      let e : seat_at ns p.at ≡ seat_at ms p.at = seat-later p.at g (omega arith) in
      (a.0 ∙ ap (λ s. s.tree) e, agrees-before at ms ns (suc p.at) ps g b.1 a.1)

  -- ---- what is answered

  pub puts-refused : {Y : Type 0} {parts : Y → List Part} {same : (ℕ → Tree F C K) → Y → Type 0}
      {ns ms : Nodes F C K fg cg kg} (w : Result Y AllocError) → IsErr w → Grows ns ms → PutsIn parts same ns w ms
  puts-refused (Ok y) e g = cc
  puts-refused (Err y) e g = record { grows = g; put = tt }

  -- what one part stands for
  pub puts-made : {Y : Type 0} {ns ms : Nodes F C K fg cg kg} {r : Result Y AllocError} {t : Tree F C K}
      (part : Y → Part) → PutsIn (λ y. part y ∷ []) (λ at y. at (part y).at ≡ t) ns r ms
      → IfOk r (λ y. Made (count ns) ms (part y) t)
  puts-made {ms = ms} {r = Ok y} part p = record {
    from = from-apart (part y) [] p.put.apart;
    stands =
        p.put.moved (tree_at ms) (refl, tt);
  }
  puts-made {r = Err y} part p = tt

  -- as many numbers as trees; and one number of one tree
  pub puts-count : {ns ms : Nodes F C K fg cg kg} {v : Vec ℕ Global} (bs : List (Built F C K)) →
      PutsIn (λ y. numbered (map built_view bs) y.items)
      (λ at y. map at y.items ≡ map (built_tree fg.place cg.place kg.place) bs) ns (Ok v) ms →
      length v.items ≡ length bs
  puts-count {ms = ms} {v = v} bs p =
      let stand = p.put.moved (tree_at ms) (agrees-self (tree_at ms) (numbered (map built_view bs) v.items)) in
      sym (length-map v.items (tree_at ms)) ∙ ap length stand ∙ length-map bs (built_tree fg.place cg.place kg.place)

  pub puts-one : {ns ms : Nodes F C K fg cg kg} {bs : List (Built F C K)} {v : Vec ℕ Global} (b : Built F C K) (i : ℕ) →
      bs ≡ b ∷ [] → i ≡ get_or v.items 0 i → PutsIn (λ y. numbered (map built_view bs) y.items)
      (λ at y. map at y.items ≡ map (built_tree fg.place cg.place kg.place) bs) ns (Ok v) ms →
      PutsIn (λ j. numbered (built_view b ∷ []) (j ∷ [])) (λ at j. at j ≡ built_tree fg.place cg.place kg.place b) ns
      (Ok i) ms
  puts-one {ns = ns} {ms = ms} {bs = bs} {v = v} b i e h p =
      let is : v.items ≡ i ∷ [] = only-one v.items i (puts-count bs p ∙ ap length e) h in
      let tree = built_tree fg.place cg.place kg.place in
      let parts : numbered (map built_view bs) v.items ≡ numbered (built_view b ∷ []) (i ∷ []) =
      ap (λ w. numbered (map built_view w) v.items) e ∙ ap (numbered (built_view b ∷ [])) is in
      record {
        grows = p.grows;
        put = record {
          apart = subst (λ w. Apart (count ns) ms w) parts p.put.apart;
          moved = λ at a.
              let m = p.put.moved at (subst (λ w. Agrees at ms w) (sym parts) a) in
              let one : at i ∷ [] ≡ tree b ∷ [] = sym (ap (map at) is) ∙ m ∙ ap (map tree) e in
              cc;
        };
      }

  -- what holds the places of trees, with the numbers of those
  pub puts-renumbered : {Y : Type 0} {parts : Y → List Part} {of : (ℕ → Tree F C K) → Y → Tree F C K}
      {same : (ℕ → Tree F C K) → Y → Type 0} {ns ms : Nodes F C K fg cg kg} {old new : List (Built F C K)} {x z : Y}
      (ids : Numbers) → old ≡ [] → ids.from ≡ 0 → SplitsTo fg.place cg.place kg.place parts same old (Ok x) new →
      PutsIn (λ y. numbered (map built_view new) y.items)
      (λ at y. map at y.items ≡ map (built_tree fg.place cg.place kg.place) new) ns (Ok ids.ids) ms →
      Renumbered parts of ids x z → ((at : ℕ → Tree F C K) → same (λ k. at (given ids k)) x → same at z) →
      PutsIn parts same ns (Ok z) ms
  puts-renumbered {parts = parts} {same = same} {ns = ns} {ms = ms} {old = old} {new = new} {x = x}
      {z = z} ids e from splits q r f =
      let p = splits.split in
      let is = ids.ids.items in
      let tree = built_tree fg.place cg.place kg.place in
      let l : length old ≡ 0 = ap length e in
      let n : new ≡ p.own = p.added ∙ ap (λ w. w ++ p.own) e in
      let s : parts x ≡ places 0 p.own = p.placed ∙ ap (λ w. places w p.own) l in
      let stand : map (tree_at ms) is ≡ map tree new =
      q.put.moved (tree_at ms) (agrees-self (tree_at ms) (numbered (map built_view new) is)) in
      let many : length is ≡ length p.own =
      sym (length-map is (tree_at ms)) ∙ ap length stand ∙ length-map new tree ∙ ap length n in
      let placed : parts z ≡ numbered (map built_view new) is =
      r.placed ∙ ap (map (with_given ids)) s ∙ places-given ids p.own [] is many from refl
      ∙ ap (λ w. numbered (map built_view w) is) (sym n) in
      record {
        grows = q.grows;
        put = record {
          apart = subst (λ w. Apart (count ns) ms w) (sym placed) q.put.apart;
          moved = λ at a.
              let g = q.put.moved at (subst (λ w. Agrees at ms w) placed a) in
              let own : ℕ → Tree F C K = λ k. at (given ids k) in
              let h : AreAt fg.place cg.place kg.place own 0 p.own =
              are-given fg.place cg.place kg.place at ids p.own [] is from refl (g ∙ ap (map tree) n) in
              f at (p.moved own (subst (λ w. AreAt fg.place cg.place kg.place own w p.own) (sym l) h));
        };
      }

  -- items of a list, of which the trees were moved to the end of another
  pub puts-items : {ns ms : Nodes F C K fg cg kg} {old new : List (Built F C K)}
      {x z : Vec (ExprOrSpread ExprId) Global}
      (items : Vec (ExprOrSpread (Box (Expr F C K) Global)) Global) (ids : Numbers) → old ≡ [] → ids.from ≡ 0 →
      SplitsTo fg.place cg.place kg.place args_parts
      (λ at y. map (item_tree (λ e. at e.0)) y.items ≡ map (item_tree (boxed_in ns)) items.items) old (Ok x) new →
      PutsIn (λ y. numbered (map built_view new) y.items)
      (λ at y. map at y.items ≡ map (built_tree fg.place cg.place kg.place) new) ns (Ok ids.ids) ms →
      Renumbered {F = F} {C = C} {K = K} args_parts (λ at. args_tree (λ e. at e.0)) ids x z →
      PutsIn args_parts (λ at y. args_tree (λ e. at e.0) y ≡ args_tree (boxed_in ns) items) ns (Ok z) ms
  puts-items items ids e from splits q r =
      let listed = split-one splits refl (λ at m. ap (λ ts. node args no_span (trees ts)) m) in
      puts-renumbered ids e from listed q r (λ at m. r.stands at ∙ m)
