-- A node's tree is put together from those of its parts, which were taken out.
use Rattle.std.proofs.Common.{◌≡◌, ℕ, ◌+◌, List, [], ◌∷◌, map, length, Result, Ok, Err, IfOk, sym, ap, subst, ◌∙◌, arith}
use Rattle.std.proofs.lemmas.List.{length-append}
use Rattle.std.specs.{declared.alloc.AllocError.AllocError, declared.alloc.Global.Global, declared.vec.Vec.Vec}
use Rattle.swc_context.specs.declared.span.Span.{Span}
use Rattle.swc_ast.specs.{Tree.Tree, declared.spanned.Spanned.Ghosts}
use Rattle.swc_nodes.specs.GrowingNodes.{count, seat_at, bare_at, Apart, Left}
use Rattle.swc_nodes.specs.{NumberedTrees.floor, NodeParts.Part, declared.nodes.Nodes.Nodes}
use Rattle.swc_nodes.proofs.{Chains.floor-under, Standing.grows-same}
use Rattle.swc_trees.specs.Building.{part_kind, built_kind, AreFor, Stand, Offers, Assembled}
use Rattle.swc_trees.specs.{Moving.TakesOut, declared.built.Built.Built}
use Rattle.swc_trees.proofs.{Assembled.kinds-long, Agreed.agrees-self}

pub if_ok-as : {Y E : Type 0} (P Q : Y → Type 0) (r : Result Y E) → ((y : Y) → P y → Q y) → IfOk r P → IfOk r Q
if_ok-as P Q (Ok y) f h = f y h
if_ok-as P Q (Err e) f h = h

-- ---- all trees of a list are taken from it

module _ {F C K : Type 0} {fun_at : F → Span} {class_at : C → Span} {block_at : K → Span} where
  pub all-made : {same : (ℕ → Tree F C K) → Type 0} (ps : List Part) (bs new : List (Built F C K))
      → map built_kind bs ≡ map part_kind ps → Assembled fun_at class_at block_at ps same bs new →
      (at : ℕ → Tree F C K) → Stand fun_at class_at block_at at ps bs → same at
  all-made ps bs [] k a at h = a.moved at (subst (λ v. Stand fun_at class_at block_at at ps v) a.split h)
  all-made ps bs (n ∷ new) k a at h =
      let own = kinds-long ps a.own a.kinds in
      let all = kinds-long ps bs k in
      let e : length bs ≡ length (n ∷ new) + length a.own = ap length a.split ∙ length-append (n ∷ new) a.own in
      absurd (omega arith)

-- ---- a piece of a node is put together from the trees of its parts, which were taken out

module _ {F C K : Type 0} {fg : Ghosts F} {cg : Ghosts C} {kg : Ghosts K} where
  pub left-none : {ns : Nodes F C K fg cg kg} (ps : List Part) → Apart 0 ns ps
      → Left (floor (seat_at ns) (count ns) ps) ns ns
  left-none {ns} ps a =
      let u = floor-under (seat_at ns) 0 ps (count ns) a.chained in
      record { grows = grows-same ns; above = u }

  pub left-piece : {ns ms : Nodes F C K fg cg kg} {ps qs : List Part} → ps ≡ qs
      → Left (floor (seat_at ns) (count ns) ps) ns ms → Left (floor (seat_at ns) (count ns) qs) ns ms
  left-piece {ns} {ms} e l = subst (λ v. Left (floor (seat_at ns) (count ns) v) ns ms) e l

  pub piece-apart : {ns : Nodes F C K fg cg kg} {ps : List Part} (qs : List Part) → ps ≡ qs → Apart 0 ns qs
      → Apart 0 ns ps
  piece-apart {ns} qs e a = subst (λ v. Apart 0 ns v) (sym e) a

  pub piece-offered : {ns ms : Nodes F C K fg cg kg} {ps : List Part} {bs : Vec (Built F C K) Global} (qs : List Part)
      → ps ≡ qs → TakesOut ps (λ at v. AreFor fg.place cg.place kg.place at ps v.items) ns (Ok bs) ms
      → Offers qs bs.items
  piece-offered {ns} {ps = ps} qs e t = record {
    front = [];
    ends =
        (t.moved (bare_at ns) (agrees-self (bare_at ns) ps)).0 ∙ ap (map part_kind) e;
  }

  pub piece-made : {Y : Type 0} {ns ms : Nodes F C K fg cg kg} {ps : List Part} {bs : Vec (Built F C K) Global}
      (same : (ℕ → Tree F C K) → Y → Type 0) (qs : List Part) (new : List (Built F C K)) (r : Result Y AllocError)
      → ps ≡ qs →
      TakesOut ps (λ at v. AreFor fg.place cg.place kg.place at ps v.items) ns (Ok bs) ms
      → IfOk r (λ y. Assembled fg.place cg.place kg.place qs (λ at. same at y) bs.items new)
      → IfOk r (λ y. same (bare_at ns) y)
  piece-made {Y} {ns} {ps = ps} {bs = bs} same qs new r e t h =
      let are = t.moved (bare_at ns) (agrees-self (bare_at ns) ps) in
      let kinds : map built_kind bs.items ≡ map part_kind qs = are.0 ∙ ap (map part_kind) e in
      let of : List Part → List (Tree F C K) = λ vs. map (λ v. bare_at ns v.at) vs in
      let stand : Stand fg.place cg.place kg.place (bare_at ns) qs bs.items = are.1 ∙ ap of e in
      if_ok-as (λ y. Assembled fg.place cg.place kg.place qs (λ at. same at y) bs.items new)
      (λ y. same (bare_at ns) y) r
      (λ y a. all-made {same = λ at. same at y} qs bs.items new kinds a (bare_at ns) stand) h
