-- Trees become nodes, each before those of its parts; and these are put in, the last made first.
use Rattle.std.proofs.Common.{◌≡◌, ℕ, ◌+◌, true, List, [], ◌∷◌, ◌++◌, map, take, drop, length, reverse, Ok, refl, sym, ap, subst, ◌∙◌, arith}
use Rattle.std.proofs.lemmas.Bool.{le-leb}
use Rattle.std.proofs.lemmas.List.{map-append, length-append, length-map, length-take-le, length-drop, reverse-append, take-append-drop, take-map, drop-map, take_at, drop_at}
use Rattle.std.specs.{declared.alloc.Global.Global, declared.vec.Vec.Vec}
use Rattle.swc_context.specs.declared.span.Span.{Span}
use Rattle.swc_ast.specs.{Tree.Tree, declared.spanned.Spanned.Ghosts}
use Rattle.swc_nodes.specs.Renumbering.{given, with_given, Renumbered}
use Rattle.swc_nodes.specs.NodeParts.{View, slots, form, view_ok}
use Rattle.swc_nodes.specs.GrowingNodes.{count, seat_at, tree_at, Apart, Grows, Added}
use Rattle.swc_nodes.specs.{NodeTree.marked_tree, NumberedTrees.floor, NumberedTrees.chain, declared.node.Node.Node, declared.nodes.Nodes.Nodes, declared.renumbering.Numbers.Numbers}
use Rattle.swc_nodes.proofs.Chains.{chain-first, chain-second, chain-both, chain-same, chain-up, floor-under}
use Rattle.swc_nodes.proofs.Held.{added-made, apart-from}
use Rattle.swc_nodes.proofs.Standing.{grows-same, grows-then, seat-later}
use Rattle.swc_trees.proofs.Agreed.{agrees-self}
use Rattle.swc_trees.proofs.Puts.{numbered-append, places-given, are-given, agrees-before}
use Rattle.swc_trees.specs.Moving.{AreGiven, IsNode, PutsIn}
use Rattle.swc_trees.specs.Splitting.{part, built_view, places, numbered, AreAt, SplitsTo}
use Rattle.swc_trees.specs.{Building.built_tree, Shells.Closes, Shells.Reads, declared.built.Built.Built, declared.putting.Shell.Shell}

-- ---- the nodes are made

reverse-last : {X : Type 0} {ys : List X} (xs : List X) (x : X) → ys ≡ xs ++ x ∷ [] → reverse ys ≡ x ∷ reverse xs
reverse-last xs x e = ap reverse e ∙ reverse-append xs (x ∷ [])

module _ {F C K : Type 0} (fun_at : F → Span) (class_at : C → Span) (block_at : K → Span) where
  pub reads-starts : {xs : List (Shell F C K)} (all : List (Built F C K)) → xs ≡ [] →
      Reads fun_at class_at block_at (reverse xs) all all
  reads-starts all e = subst (λ v. Reads fun_at class_at block_at (reverse v) all all) (sym e) refl

  -- the last tree becomes a node, and its parts take its place
  pub reads-more : {ys : List (Shell F C K)} {due left next : List (Built F C K)} (all : List (Built F C K))
      (xs : List (Shell F C K)) (b : Built F C K) (x : Shell F C K) → due ≡ left ++ b ∷ [] → x.from ≡ length left →
      SplitsTo fun_at class_at block_at slots
      (IsNode fun_at class_at block_at (built_view b) (built_tree fun_at class_at block_at b)) left (Ok x.node) next →
      ys ≡ xs ++ x ∷ [] → Reads fun_at class_at block_at (reverse xs) due all →
      Reads fun_at class_at block_at (reverse ys) next all
  reads-more {left = left} {next = next} all xs b x e k q f r =
      subst (λ v. Reads fun_at class_at block_at v next all) (sym (reverse-last xs x f)) (record {
        front = left;
        tree = b;
        from = k;
        split = q.split;
        rest_of = subst (λ v. Reads fun_at class_at block_at (reverse xs) v all) e r;
      })

-- ---- the nodes are put in

-- numbers of trees, where what is given for them is the same
numbers-agree : {F C K : Type 0} (at of : ℕ → Tree F C K) (vs : List View) (is : List ℕ) → length is ≡ length vs →
    AreGiven at of (numbered vs is) → map at is ≡ map of is
numbers-agree at of [] [] e a = refl
numbers-agree at of [] (i ∷ is) e a = absurd (omega arith)
numbers-agree at of (v ∷ vs) [] e a = refl
numbers-agree at of (v ∷ vs) (i ∷ is) e a =
    ap (λ t. t ∷ map at is) a.0 ∙ ap (λ ts. of i ∷ ts) (numbers-agree at of vs is (omega arith) a.1)

module _ {F C K : Type 0} {fg : Ghosts F} {cg : Ghosts C} {kg : Ghosts K} where
  -- the tree of what is boxed, where the hook's values lie as these nodes have it
  abbrev built_in : Nodes F C K fg cg kg → Built F C K → Tree F C K
  built_in ns = built_tree fg.place cg.place kg.place

  -- The numbers are those of trees that were put in, as the nodes that are left have it.
  pub record Filling (all : List (Built F C K)) (xs : List (Shell F C K)) (ns : Nodes F C K fg cg kg) (ids : List ℕ)
      (ms : Nodes F C K fg cg kg) : Type 0 where
    pub done : List (Built F C K)
    pub reads : Reads fg.place cg.place kg.place (reverse xs) done all
    pub grows : Grows ns ms
    pub apart : Apart (count ns) ms (numbered (map built_view done) ids)
    pub stand : map (tree_at ms) ids ≡ map (built_in ns) done

  pub filling-starts : {all : List (Built F C K)} {xs : List (Shell F C K)} {ids : List ℕ} (ns : Nodes F C K fg cg kg) →
      ids ≡ [] → Reads fg.place cg.place kg.place (reverse xs) [] all → Filling all xs ns ids ns
  filling-starts ns e r = record {
    done = [];
    reads = r;
    grows = grows-same ns;
    apart = record { chained = le-leb (count ns) (count ns) (omega arith) };
    stand = ap (map (tree_at ns)) e;
  }

  -- A node whose parts were put in, and the numbers of the trees before those.
  pub record Filled (all : List (Built F C K)) (xs : List (Shell F C K)) (ns : Nodes F C K fg cg kg) (kept : List ℕ)
      (ms : Nodes F C K fg cg kg) (z : Node F C K) : Type 0 where
    pub front : List (Built F C K)
    pub last : Built F C K
    pub reads : Reads fg.place cg.place kg.place (reverse xs) (front ++ last ∷ []) all
    pub grows : Grows ns ms
    pub before : chain (seat_at ms) (count ns) (numbered (map built_view front) kept)
        (floor (seat_at ms) (count ms) (slots z)) ≡ true
    pub stand : map (tree_at ms) kept ≡ map (built_in ns) front
    pub apart : Apart 0 ms (slots z)
    pub is_node : IsNode fg.place cg.place kg.place (built_view last) (built_in ns last) (tree_at ms) z

  pub filling-node : {all : List (Built F C K)} {xs left : List (Shell F C K)} {ns ms : Nodes F C K fg cg kg}
      {z : Node F C K}
      (ids : Numbers) (x : Shell F C K) → ids.from ≡ 0 → xs ≡ left ++ x ∷ [] → Filling all xs ns ids.ids.items ms →
      Renumbered slots (marked_tree fg.place cg.place kg.place) ids x.node z → form z ≡ form x.node →
      Filled all left ns (take x.from ids.ids.items) ms z
  filling-node {all} {xs} {left} {ns} {ms} {z} ids x from e f r g =
      let c : Closes fg.place cg.place kg.place x f.done
      (λ next. Reads fg.place cg.place kg.place (reverse left) next all) =
      subst (λ v. Reads fg.place cg.place kg.place v f.done all) (reverse-last left x e) f.reads in
      let s = c.split in
      let at : ℕ → Tree F C K = tree_at ms in
      let js = ids.ids.items in
      let pre = take x.from js in
      let is = drop x.from js in
      let whole : js ≡ pre ++ is = sym (take-append-drop x.from js) in
      let many : length js ≡ length f.done = sym (length-map js at) ∙ ap length f.stand ∙ length-map f.done
      (built_in ns) in
      let total : length f.done ≡ length c.front + length s.own = ap length s.added ∙ length-append c.front s.own in
      let k = c.from in
      let before : length pre ≡ length c.front = length-take-le x.from js (omega arith) ∙ k in
      let behind : length is ≡ length s.own = length-drop x.from js ∙ omega arith in
      let both : map at js ≡ map (built_in ns) c.front ++ map (built_in ns) s.own =
      f.stand ∙ ap (map (built_in ns)) s.added ∙ map-append (built_in ns) c.front s.own in
      let first : length (map (built_in ns) c.front) ≡ x.from = length-map c.front (built_in ns) ∙ sym k in
      let stand : map at pre ≡ map (built_in ns) c.front =
      sym (take-map at x.from js) ∙ ap (take x.from) both ∙ take_at (map (built_in ns) c.front)
      (map (built_in ns) s.own) x.from first in
      let own : map at is ≡ map (built_in ns) s.own =
      sym (drop-map at x.from js) ∙ ap (drop x.from) both ∙ drop_at (map (built_in ns) c.front)
      (map (built_in ns) s.own) x.from first in
      let fronts = map built_view c.front in
      let owns = map built_view s.own in
      let ps = numbered fronts pre in
      let parts : numbered (map built_view f.done) js ≡ ps ++ numbered owns is =
      ap (λ v. numbered (map built_view v) js) s.added ∙ ap (λ v. numbered v js) (map-append built_view c.front s.own)
      ∙ ap (numbered (fronts ++ owns)) whole
      ∙ numbered-append fronts owns pre is (before ∙ sym (length-map c.front built_view)) in
      let placed : slots z ≡ numbered owns is =
      r.placed ∙ ap (map (with_given ids)) (s.placed ∙ ap (λ v. places v s.own) (sym before))
      ∙ places-given ids s.own pre is behind from whole in
      let chained : chain (seat_at ms) (count ns) (ps ++ slots z) (count ms) ≡ true =
      ap (λ v. chain (seat_at ms) (count ns) v (count ms)) (ap (λ v. ps ++ v) placed ∙ sym parts) ∙ f.apart.chained in
      let by : ℕ → Tree F C K = λ i. at (given ids i) in
      let are : AreAt fg.place cg.place kg.place by (length c.front) s.own =
      subst (λ v. AreAt fg.place cg.place kg.place by v s.own) before
      (are-given fg.place cg.place kg.place at ids s.own pre is from whole own) in
      let m = s.moved by are in
      record {
        front = c.front;
        last = c.tree;
        reads = c.rest_of;
        grows = f.grows;
        before = chain-first (seat_at ms) (count ns) ps (slots z) (count ms) chained;
        stand = stand;
        apart = record { chained = chain-second (seat_at ms) (count ns) ps (slots z) (count ms) chained };
        is_node = record { stands = r.stands at ∙ m.stands; view = ap (view_ok (built_view c.tree)) g ∙ m.view };
      }

  -- the node is put in, after those
  pub filling-more : {all : List (Built F C K)} {left : List (Shell F C K)} {ns ms : Nodes F C K fg cg kg}
      {kept cut : List ℕ} {z : Node F C K} (ks : Nodes F C K fg cg kg) (more : List ℕ) (i : ℕ) →
      Filled all left ns kept ms z → Grows ms ks → Added ms ks i z → cut ≡ kept → more ≡ cut ++ i ∷ []
      → Filling all left ns more ks
  filling-more {all} {left} {ns} {ms} {kept} {cut} {z} ks more i f g d same pushed =
      let e : more ≡ kept ++ i ∷ [] = pushed ∙ ap (λ v. v ++ i ∷ []) same in
      let view = built_view f.last in
      let views = map built_view f.front in
      let m = added-made view z f.is_node.view f.apart d in
      let ps = numbered views kept in
      let low = floor (seat_at ms) (count ms) (slots z) in
      let under = floor-under (seat_at ms) 0 (slots z) (count ms) f.apart.chained in
      let many : length kept ≡ length views =
      sym (length-map kept (tree_at ms)) ∙ ap length f.stand ∙ length-map f.front (built_in ns) ∙ sym
      (length-map f.front built_view) in
      let first : chain (seat_at ks) (count ns) ps low ≡ true =
      chain-same (seat_at ms) (seat_at ks) (count ns) ps low (λ j lt. sym (seat-later j g (omega arith))) f.before in
      let last : Apart low ks (part view i ∷ []) = apart-from (part view i) m.from in
      let parts : numbered (map built_view (f.front ++ f.last ∷ [])) more ≡ ps ++ part view i ∷ [] =
      ap (numbered (map built_view (f.front ++ f.last ∷ []))) e
      ∙ ap (λ v. numbered v (kept ++ i ∷ [])) (map-append built_view f.front (f.last ∷ []))
      ∙ numbered-append views (view ∷ []) kept (i ∷ []) many in
      let all_of : chain (seat_at ms) (count ns) ps (count ms) ≡ true =
      chain-up (seat_at ms) (count ns) ps low (count ms) under f.before in
      let stays : map (tree_at ks) kept ≡ map (tree_at ms) kept =
      numbers-agree (tree_at ks) (tree_at ms) views kept many
      (agrees-before (tree_at ks) ms ks (count ns) ps g all_of (agrees-self (tree_at ks) ps)) in
      let stands : tree_at ks i ≡ built_in ns f.last = m.stands ∙ f.is_node.stands in
      record {
        done = f.front ++ f.last ∷ [];
        reads = f.reads;
        grows = grows-then f.grows g;
        apart = record {
          chained =
              ap (λ v. chain (seat_at ks) (count ns) v (count ks)) parts
              ∙ chain-both (seat_at ks) (count ns) low ps (part view i ∷ []) (count ks) first last.chained;
        };
        stand =
            ap (map (tree_at ks)) e ∙ map-append (tree_at ks) kept (i ∷ [])
            ∙ ap (λ v. v ++ tree_at ks i ∷ []) (stays ∙ f.stand) ∙ ap (λ v. map (built_in ns) f.front ++ v ∷ []) stands
            ∙ sym (map-append (built_in ns) f.front (f.last ∷ []));
      }

  pub filling-ends : {all : List (Built F C K)} {xs : List (Shell F C K)} {ns ms : Nodes F C K fg cg kg}
      (v : Vec ℕ Global) →
      xs ≡ [] → Filling all xs ns v.items ms →
      PutsIn (λ y. numbered (map built_view all) y.items) (λ at y. map at y.items ≡ map (built_in ns) all) ns (Ok v) ms
  filling-ends {all} {xs} {ns} {ms} v e f =
      let all_done : f.done ≡ all = subst (λ w. Reads fg.place cg.place kg.place (reverse w) f.done all) e f.reads in
      let stand : map (tree_at ms) v.items ≡ map (built_in ns) all = f.stand ∙ ap (map (built_in ns)) all_done in
      let many : length v.items ≡ length (map built_view all) =
      sym (length-map v.items (tree_at ms)) ∙ ap length stand ∙ length-map all (built_in ns) ∙ sym
      (length-map all built_view) in
      record {
        grows = f.grows;
        put = record {
          apart = subst (λ w. Apart (count ns) ms (numbered (map built_view w) v.items)) all_done f.apart;
          moved = λ at a. numbers-agree at (tree_at ms) (map built_view all) v.items many a ∙ stand;
        };
      }
