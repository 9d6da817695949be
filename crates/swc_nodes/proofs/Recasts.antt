-- Steps of the loops that go over the parts of a node that is to become another.
use Rattle.std.proofs.Common.{◌≡◌, ℕ, zero, suc, ◌+◌, ◌<◌, ◌≤◌, ◌≢◌, true, false, List, [], ◌∷◌, ◌++◌, drop, get_or, length, map, take, Option, Some, None}
use Rattle.std.proofs.Common.{refl, sym, ap, subst, ◌∙◌, arith, append_assoc, length-append, length-drop}
use Rattle.std.specs.Prelude.{if◌then◌else◌, eqb, is_some, set, Bool}
use Rattle.std.proofs.lemmas.Bool.{eqb-false, eqb-true}
use Rattle.std.proofs.lemmas.List.{append-nil, at_drop_more, drop_all, drop_more, get_or_at, length-map, length-take, length-take-le, map_more, set_at}
use Rattle.std.specs.{declared.alloc.Global.Global, declared.vec.Vec.Vec}
use Rattle.swc_context.specs.declared.span.Span.{Span}
use Rattle.swc_ast.specs.declared.expr.ExprOrSpread.{ExprOrSpread}
use Rattle.swc_nodes.specs.NodeParts.{Part, flat}
use Rattle.swc_nodes.specs.Recasting.{all_none, bare_prop, bare_some, elems_for, item_for}
use Rattle.swc_nodes.specs.Roles.{elem_dues, is_empty, item_dues, Due}
use Rattle.swc_nodes.specs.Turning.{IsAgain, PartsIn}
use Rattle.swc_nodes.specs.declared.node.ExprId.{ExprId}
use Rattle.swc_nodes.specs.declared.node.Node.{Node}
use Rattle.swc_nodes.specs.declared.node.Node.{Node as n}
use Rattle.swc_nodes.specs.declared.node.PatElem.{PatElem}
use Rattle.swc_nodes.specs.declared.node.PatPropNode.{PatPropNode}
use Rattle.swc_nodes.specs.declared.role.Role.{Role}

-- ---- a list whose items become others, each with what is due of it

module _ {X : Type 0} (f : X → X) (g : X → List Due) where
  -- the items before the number i became others, and those from there on are what they were
  pub record Rebinding (xs : List X) (before : List Due) (new : List X) (now : List Due) (i : ℕ) : Type 0 where
    pub items : new ≡ map f (take i xs) ++ drop i xs
    pub dues : now ++ flat g (drop i xs) ≡ before ++ flat g xs

  rebinding-length : {xs new : List X} {before now : List Due} {i : ℕ} → Rebinding xs before new now i →
      length new ≡ length (take i xs) + length (drop i xs)
  rebinding-length {xs} {i = i} r =
      ap length r.items ∙ length-append (map f (take i xs)) (drop i xs)
      ∙ ap (λ v. v + length (drop i xs)) (length-map (take i xs) f)

  -- the item x with the number i becomes y
  pub rebinding-more : {xs new : List X} {before now later : List Due} {i : ℕ} (x y d : X) → i < length new →
      Rebinding xs before new now i → x ≡ get_or new i d → y ≡ f x → later ≡ now ++ g x →
      Rebinding xs before (set new i y) later (i + 1)
  rebinding-more {xs} {new} {before} {now} {later} {i} x y d h r read becomes puts =
      let long = rebinding-length r in
      let lt : i < length xs = omega (arith, length-take i xs, length-drop i xs) in
      let front = map f (take i xs) in
      let rest = drop (i + 1) xs in
      let was = get_or xs i x in
      let size : length front ≡ i = length-map (take i xs) f ∙ length-take-le i xs (omega arith) in
      let split : new ≡ front ++ was ∷ rest = r.items ∙ ap (λ v. front ++ v) (drop_more xs i x lt) in
      let same : x ≡ was = read ∙ ap (λ v. get_or v i d) split ∙ get_or_at front was rest d i size in
      record {
        items =
            ap (λ v. set v i y) split ∙ set_at front was rest y i size
            ∙ ap (λ v. front ++ v ∷ rest) (becomes ∙ ap f same)
            ∙ sym (ap (λ v. v ++ rest) (map_more f xs i x lt) ∙ append_assoc front (f was ∷ []) rest);
        dues =
            ap (λ v. v ++ flat g rest) puts ∙ append_assoc now (g x) (flat g rest)
            ∙ ap (λ v. now ++ v) (ap (λ v. g v ++ flat g rest) same ∙ sym (at_drop_more (flat g) xs i x lt)) ∙ r.dues;
      }

-- ---- the holes at the end

pub some-before : {X : Type 0} (xs : List (Option X)) (i k : ℕ) (d : Option X) → i ≤ k → k < length xs →
    is_some (get_or xs k d) ≡ true → all_none (drop i xs) ≡ false
some-before [] i k d le lt h = absurd (omega arith)
some-before (Some y ∷ xs) zero k d le lt h = refl
some-before (None ∷ xs) zero zero d le lt h = absurd cc
some-before (None ∷ xs) zero (suc k) d le lt h = some-before xs 0 k d (omega arith) (omega arith) h
some-before (y ∷ xs) (suc i) zero d le lt h = absurd (omega arith)
some-before (y ∷ xs) (suc i) (suc k) d le lt h = some-before xs i k d (omega arith) (omega arith) h

-- whether an element is the last one
last-empty : {X : Type 0} (last : Bool) (xs : List (Option X)) (i : ℕ) → i ≤ length xs → last ≡ eqb i (length xs) →
    last ≡ is_empty (drop i xs)
last-empty true xs i le e =
    let same : i ≡ length xs = eqb-true i (length xs) (sym e) in sym (ap is_empty (drop_all i xs (omega arith)))
last-empty false xs i le e =
    let other : i ≢ length xs = eqb-false i (length xs) (sym e) in
    sym (ap is_empty (drop_more xs i None (omega arith)))

-- what was read of a list, as it is
pub read-as : {X : Type 0} (xs : List X) (i : ℕ) {x y : X} → x ≡ get_or xs i x → x ≡ y → y ≡ get_or xs i y
read-as xs i h e = subst (λ v. v ≡ get_or xs i v) e h

-- ---- the elements of an array

module _ {F C K : Type 0} (at : ℕ → Node F C K) (place : ℕ → Span) (r : Role) where
  none-elems : (es : List (Option (ExprOrSpread ExprId))) → all_none es ≡ true → elems_for at place r es ≡ []
  none-elems [] h = refl
  none-elems (None ∷ es) h = rw h refl
  none-elems (Some x ∷ es) h = cc

  none-dues : (es : List (Option (ExprOrSpread ExprId))) → all_none es ≡ true → elem_dues r es ≡ []
  none-dues [] h = refl
  none-dues (None ∷ es) h = none-dues es h
  none-dues (Some x ∷ es) h = cc

  -- the elements before the number i became those of a pattern
  pub record ElemsMade (es : List (Option (ExprOrSpread ExprId))) (before : List Due) (pats : List (Option PatElem))
      (now : List Due) (i : ℕ) : Type 0 where
    pub items : pats ++ elems_for at place r (drop i es) ≡ elems_for at place r es
    pub dues : now ++ elem_dues r (drop i es) ≡ before ++ elem_dues r es

  pub hole-made : (es : List (Option (ExprOrSpread ExprId))) (i : ℕ) {before now later : List Due}
      {pats more : List (Option PatElem)} → i < length es → get_or es i None ≡ None →
      all_none (drop i es) ≡ false → more ≡ pats ++ None ∷ [] → later ≡ now → ElemsMade es before pats now i →
      ElemsMade es before more later (i + 1)
  hole-made es i {before} {now} {later} {pats} {more} lt none some puts owes m =
      let rest = drop (i + 1) es in
      let split : drop i es ≡ None ∷ rest = drop_more es i None lt ∙ ap (λ v. v ∷ rest) none in
      let filled : all_none rest ≡ false = sym (ap all_none split) ∙ some in
      let made : elems_for at place r (drop i es) ≡ None ∷ elems_for at place r rest =
      ap (elems_for at place r) split ∙ ap (λ b. if b then [] else None ∷ elems_for at place r rest) filled in
      record {
        items = ap (λ v. v ++ elems_for at place r rest) puts
            ∙ append_assoc pats (None ∷ []) (elems_for at place r rest) ∙ ap (λ v. pats ++ v) (sym made) ∙ m.items;
        dues = ap (λ v. v ++ elem_dues r rest) owes ∙ sym (ap (λ v. now ++ elem_dues r v) split) ∙ m.dues;
      }

  pub item-made : (es : List (Option (ExprOrSpread ExprId))) (i : ℕ) (x : ExprOrSpread ExprId) (last : Bool)
      {before now later : List Due} {pats more : List (Option PatElem)} → i < length es →
      get_or es i None ≡ Some x → last ≡ eqb (i + 1) (length es) →
      more ≡ pats ++ item_for at place r last x.spread x.expr → later ≡ now ++ item_dues r last x.spread x.expr →
      ElemsMade es before pats now i → ElemsMade es before more later (i + 1)
  item-made es i x last {before} {now} {later} {pats} {more} lt here ends puts owes m =
      let rest = drop (i + 1) es in
      let split : drop i es ≡ Some x ∷ rest = drop_more es i None lt ∙ ap (λ v. v ∷ rest) here in
      let same : last ≡ is_empty rest = last-empty last es (i + 1) (omega arith) ends in
      let own = item_for at place r last x.spread x.expr in
      let owed = item_dues r last x.spread x.expr in
      record {
        items = ap (λ v. v ++ elems_for at place r rest) puts ∙ append_assoc pats own (elems_for at place r rest)
            ∙ ap (λ b. pats ++ (item_for at place r b x.spread x.expr ++ elems_for at place r rest)) same
            ∙ ap (λ v. pats ++ elems_for at place r v) (sym split) ∙ m.items;
        dues = ap (λ v. v ++ elem_dues r rest) owes ∙ append_assoc now owed (elem_dues r rest)
            ∙ ap (λ b. now ++ (item_dues r b x.spread x.expr ++ elem_dues r rest)) same
            ∙ ap (λ v. now ++ elem_dues r v) (sym split) ∙ m.dues;
      }

  pub record AllMade (es : List (Option (ExprOrSpread ExprId))) (before : List Due) (pats : List (Option PatElem))
      (now : List Due) : Type 0 where
    pub items : pats ≡ elems_for at place r es
    pub dues : now ≡ before ++ elem_dues r es

  pub elems-made : (es : List (Option (ExprOrSpread ExprId))) (i k : ℕ) {before now : List Due}
      {pats : List (Option PatElem)} → all_none (drop k es) ≡ true → i ≡ k → ElemsMade es before pats now i →
      AllMade es before pats now
  elems-made es i k {before} {now} {pats} left same m =
      let none : all_none (drop i es) ≡ true = ap (λ j. all_none (drop j es)) same ∙ left in
      record {
        items = sym (ap (λ v. pats ++ v) (none-elems (drop i es) none) ∙ append-nil pats) ∙ m.items;
        dues = sym (ap (λ v. now ++ v) (none-dues (drop i es) none) ∙ append-nil now) ∙ m.dues;
      }

-- ---- parts that are among nodes

module _ {F C K : Type 0} (xs : List (Node F C K)) where
  parts-in-first : (ps qs : List Part) → PartsIn xs (ps ++ qs) → PartsIn xs ps
  parts-in-first [] qs h = tt
  parts-in-first (p ∷ ps) qs h = (h.0, parts-in-first ps qs h.1)

  parts-in-rest : (ps qs : List Part) → PartsIn xs (ps ++ qs) → PartsIn xs qs
  parts-in-rest [] qs h = h
  parts-in-rest (p ∷ ps) qs h = parts-in-rest ps qs h.1

  pub parts-in-at : {X : Type 0} (f : X → List Part) (ys : List X) (i : ℕ) (y : X) → i < length ys → y ≡ get_or ys i y →
      PartsIn xs (flat f ys) → PartsIn xs (f y)
  parts-in-at f [] i y lt r h = absurd (omega arith)
  parts-in-at f (x ∷ ys) zero y lt r h = subst (λ v. PartsIn xs (f v)) (sym r) (parts-in-first (f x) (flat f ys) h)
  parts-in-at f (x ∷ ys) (suc i) y lt r h = parts-in-at f ys i y (omega arith) r (parts-in-rest (f x) (flat f ys) h)

-- ---- a pattern that is to bind

module _ {F C K : Type 0} where
  pub again-array : {x y : Node F C K} (s : Span) (old new : Vec (Option PatElem) Global) → x ≡ n.PatArray s old →
      y ≡ n.PatArray s new → new.items ≡ map bare_some old.items → IsAgain x y
  again-array {x} {y} s old new e f h = subst (λ v. IsAgain v y) (sym e) (record { elems = new; is = f; items = h })

  pub again-object : {x y : Node F C K} (s : Span) (old new : Vec PatPropNode Global) → x ≡ n.PatObject s old →
      y ≡ n.PatObject s new → new.items ≡ map bare_prop old.items → IsAgain x y
  again-object {x} {y} s old new e f h = subst (λ v. IsAgain v y) (sym e) (record { props = new; is = f; items = h })
