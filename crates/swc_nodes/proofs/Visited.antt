-- How a walk goes on, from the last visit to the first.
use Rattle.std.proofs.Common.{◌≡◌, ℕ, suc, ◌<◌, ◌≤◌, List, [], ◌∷◌, ◌++◌, length, map, reverse, refl, sym, ap, subst, ◌∙◌, arith}
use Rattle.std.proofs.lemmas.List.{append-nil, length-map, reverse-append, length-append}
use Rattle.std.proofs.lemmas.List.Elements.{Contains-append_left, Contains-append_right}
use Rattle.std.specs.{Prelude.vec_len, Prelude.Contains, declared.alloc.Global.Global, declared.vec.Vec.Vec}
use Rattle.swc_ast.specs.declared.spanned.Spanned.{Ghosts}
use Rattle.swc_nodes.specs.Visits.{Walked, over, enters, leaves, Due, Goes, IsReady, opened, opening, entering, leaving, left_in, parts_under, Turns, past, left}
use Rattle.swc_nodes.specs.{GrowingNodes.parts_at, NodeParts.Part, NodeParts.slots, Walking.part_of, declared.apart.PartId.PartId, Weights.ats, Weights.left_over, declared.nodes.Nodes.Nodes, declared.walk.Open.Open, declared.walk.Visit.Visit}
use Rattle.swc_nodes.proofs.Reaching.{Going, going_on, going_past, on_less, past_less}

module _ {A : Type 0} where
  last_in : (xs : List A) (x : A) → Contains (xs ++ x ∷ []) x
  last_in xs x = Contains-append_right xs (x ∷ []) x (0, omega arith, refl)

  pub last_first : (old new : List A) (x : A) → new ≡ old ++ x ∷ [] → reverse new ≡ x ∷ reverse old
  last_first old new x e = ap (λ v. reverse v) e ∙ reverse-append old (x ∷ [])

  none_more : (before more : List A) → length (before ++ more) ≤ length before → more ≡ []
  none_more before [] le = refl
  none_more before (x ∷ more) le = let l = length-append before (x ∷ more) in absurd (let no : ⊥ = omega arith in no)

  -- the last item of two lists, one after the other, is that of the second
  pub record Last (b before more : List A) (x : A) : Type 0 where
    pub rest : List A
    pub more_is : more ≡ rest ++ x ∷ []
    pub whole : b ≡ before ++ rest

  last_of : (before more b : List A) (x : A) → b ++ x ∷ [] ≡ before ++ more → length before ≤ length b
      → Last b before more x
  last_of [] more b x e le = record { rest = b; more_is = sym e; whole = refl }
  last_of (y ∷ before) more [] x e le = absurd (let no : ⊥ = omega arith in no)
  last_of (y ∷ before) more (z ∷ b) x e le =
      let head : z ≡ y = cc in
      let tail : b ++ x ∷ [] ≡ before ++ more = cc in
      let l = last_of before more b x tail (omega arith) in
      record { rest = l.rest; more_is = l.more_is; whole = ap (λ v. v ∷ b) head ∙ ap (λ v. y ∷ v) l.whole }

  pub empty : (xs : List A) → length xs ≡ 0 → xs ≡ []
  empty [] e = refl
  empty (x ∷ xs) e = absurd (let no : ⊥ = omega arith in no)

module _ (at : ℕ → List Part) (ps : List Part) where
  -- the last part that is due is taken
  pub due_last : (os : List Open) (b : List Part) (p : Part) → IsReady (suc (length b)) os → Due at ps os (b ++ p ∷ [])
      → Contains (parts_under at ps (map (λ o. o.part) os)) p × Due at ps os b
  due_last [] b p ready d = (d p (last_in b p), λ q i. d q (Contains-append_left b (p ∷ []) q i))
  due_last (o ∷ os) b p ready d =
      let counted = d.counted in
      let l = last_of d.before d.more b p d.split (omega arith) in (
        d.under p (subst (λ v. Contains v p) (sym l.more_is) (last_in l.rest p)),
        record {
          before = d.before;
          more = l.rest;
          split = l.whole;
          counted = counted;
          under = λ q i. d.under q (subst (λ v. Contains v q) (sym l.more_is)
              (Contains-append_left l.rest (p ∷ []) q i));
          outer = d.outer;
        },
      )

  due_first : (o : Open) (os : List Open) (due : List Part) → length due ≤ o.rest → Due at ps (o ∷ os) due
      → Due at ps os due
  due_first o os due le d =
      let counted = d.counted in
      let none : d.more ≡ [] = none_more d.before d.more
      (subst (λ v. length v ≤ length d.before) d.split (omega arith)) in
      subst (λ v. Due at ps os v) (sym (d.split ∙ ap (λ v. d.before ++ v) none ∙ append-nil d.before)) d.outer

  pub goes_first : (due : List Part) → due ≡ ps → Goes at ps due [] []
  goes_first due e = record { walked = over; under = λ p i. subst (λ v. Contains v p) e i }

  -- the innermost node is entered
  pub goes_enter : (due : List Part) (vs us : List Visit) (os ws : List Open) (o : Open) → os ≡ ws ++ o ∷ []
      → us ≡ vs ++ entering o.part (opened ws) ∷ []
      → length due ≤ o.rest → Goes at ps due vs os → Goes at ps due us ws
  goes_enter due vs us os ws o e f le g =
      let r = last_first ws os o e in
      let w : Walked at ps (reverse vs) (o.part ∷ opened ws) =
      subst (λ v. Walked at ps (reverse vs) (map (λ x. x.part) v)) r g.walked in
      record {
        walked = subst (λ v. Walked at ps v (opened ws)) (sym (last_first vs us (entering o.part (opened ws)) f))
            (enters w);
        under = due_first o (reverse ws) due le (subst (λ v. Due at ps v due) r g.under);
      }

  -- the last part that is due is left out, or left: then its own parts are due
  pub goes_past : (a b : List Part) (p : Part) (vs : List Visit) (os : List Open) → a ≡ b ++ p ∷ []
      → IsReady (length a) (reverse os) → Goes at ps a vs os
      → Goes at ps b vs os
  goes_past a b p vs os e ready g =
      let n : length a ≡ suc (length b) = let l = length-append b (p ∷ []) in ap length e ∙ omega arith in
      let d = due_last (reverse os) b p (subst (λ v. IsReady v (reverse os)) n ready)
      (subst (λ v. Due at ps (reverse os) v) e g.under) in
      record { walked = g.walked; under = d.1 }

  pub goes_leave : (a b c more : List Part) (id : PartId) (rest : ℕ) (vs us : List Visit) (os ws : List Open)
      → a ≡ b ++ part_of id ∷ [] → c ≡ b ++ more
      → at (part_of id).at ≡ more → rest ≡ length b → us ≡ vs ++ leaving id (opened os) ∷ []
      → ws ≡ os ++ opening id rest ∷ []
      → IsReady (length a) (reverse os) → Goes at ps a vs os → Goes at ps c us ws
  goes_leave a b c more id rest vs us os ws e put parts counted f h ready g =
      let p = part_of id in
      let n : length a ≡ suc (length b) = let l = length-append b (p ∷ []) in ap length e ∙ omega arith in
      let d = due_last (reverse os) b p (subst (λ v. IsReady v (reverse os)) n ready)
      (subst (λ v. Due at ps (reverse os) v) e g.under) in
      let r = last_first os ws (opening id rest) h in
      let w : Walked at ps (reverse us) (id ∷ opened os) =
      subst (λ v. Walked at ps v (id ∷ opened os)) (sym (last_first vs us (leaving id (opened os)) f))
      (leaves d.0 g.walked) in
      let due : Due at ps (opening id rest ∷ reverse os) c = record {
        before = b;
        more = more;
        split = put;
        counted = counted;
        under = λ q i. subst (λ v. Contains v q) (sym parts) i;
        outer = d.1;
      } in
      record {
        walked = subst (λ v. Walked at ps (reverse us) (map (λ x. x.part) v)) (sym r) w;
        under = subst (λ v. Due at ps v c) (sym r) due;
      }

  pub goes_done : (due : List Part) (vs : List Visit) (os : List Open) → IsReady 0 (reverse os) → Goes at ps due vs os
      → Walked at ps (reverse vs) []
  goes_done due vs os ready g = done (reverse os) ready g.walked
    where
      done : (ws : List Open) → IsReady 0 ws → Walked at ps (reverse vs) (map (λ x. x.part) ws)
          → Walked at ps (reverse vs) []
      done [] r w = w
      done (o ∷ ws) r w = absurd (let no : ⊥ = omega arith in no)

-- what a visit leaves
pub left_after : (vs us : List Visit) (p : PartId) (around : List PartId) → us ≡ vs ++ leaving p around ∷ []
    → left_in (reverse us) ≡ p ∷ left_in (reverse vs)
left_after vs us p around e = ap (λ v. left_in v) (last_first vs us (leaving p around) e)

pub entered_after : (vs us : List Visit) (p : PartId) (around : List PartId) → us ≡ vs ++ entering p around ∷ []
    → left_in (reverse us) ≡ left_in (reverse vs)
entered_after vs us p around e = ap (λ v. left_in v) (last_first vs us (entering p around) e)

-- ---- a turn of the walk

module _ {F C K : Type 0} {fg : Ghosts F} {cg : Ghosts C} {kg : Ghosts K} (ns : Nodes F C K fg cg kg)
    (ps : List Part) where
  -- where the walk is
  pub record Walks (due : List PartId) (around : List Open) (visits : List Visit) : Type 0 where
    pub going : Going ns ps (map part_of due) (map part_of (left_in (reverse visits)))
    pub goes : Goes (parts_at ns) ps (map part_of due) visits around

  pub walks_first : (due : List PartId) → map part_of due ≡ ps → Going ns ps (map part_of due) [] → Walks due [] []
  walks_first due e g = record { going = g; goes = goes_first (parts_at ns) ps (map part_of due) e }

  -- the last part that is due is taken, and a turn made of it
  pub turned : (a b c : List PartId) (id : PartId) (os ws : List Open) (vs us : List Visit)
      → map part_of a ≡ map part_of b ++ part_of id ∷ []
      → IsReady (length a) (reverse os) → Walks a os vs → Turns ns id b os vs c ws us → Walks c ws us
  turned a b c id os ws vs us taken ready w (past le) = record {
    going = going_past (map part_of b) (part_of id) taken w.going le;
    goes = goes_past (parts_at ns) ps (map part_of a) (map part_of b) (part_of id) vs os taken
        (subst (λ v. IsReady v (reverse os)) (sym (length-map a part_of)) ready) w.goes;
  }
  turned a b c id os ws vs us taken ready w (left {x} {rest} lt stood same put f h) = record {
    going = subst (λ v. Going ns ps (map part_of c) v)
        (sym (ap (λ v. map part_of v) (left_after vs us id (opened os) h)))
        (going_on (map part_of b) (part_of id) taken w.going stood lt put);
    goes = goes_leave (parts_at ns) ps (map part_of a) (map part_of b) (map part_of c)
        (slots x) id rest vs us os ws taken put stood.parts
        (same ∙ sym (length-map b part_of)) h f (subst (λ v. IsReady v (reverse os)) (sym (length-map a part_of)) ready)
        w.goes;
  }

  pub turned_less : (a b c : List PartId) (id : PartId) (os ws : List Open) (vs us : List Visit)
      → map part_of a ≡ map part_of b ++ part_of id ∷ []
      → Walks a os vs → Turns ns id b os vs c ws us → left_over ns (ats (map part_of c)) < left_over ns
      (ats (map part_of a))
  turned_less a b c id os ws vs us taken w (past le) = past_less (map part_of b) (part_of id) taken w.going
  turned_less a b c id os ws vs us taken w (left {x} {rest} lt stood same put f h) =
      on_less (map part_of b) (part_of id) taken w.going stood lt put

  pub entered : (due : List PartId) (os ws : List Open) (vs us : List Visit) (n : ℕ) → n ≡ length due
      → ((at : ℕ → List Part) (qs ds : List Part) → length ds ≡ n → Goes at qs ds vs os → Goes at qs ds us ws)
      → left_in (reverse us) ≡ left_in (reverse vs) → Walks due os vs → Walks due ws us
  entered due os ws vs us n same goes kept w = record {
    going = subst (λ v. Going ns ps (map part_of due) (map part_of v)) (sym kept) w.going;
    goes = goes (parts_at ns) ps (map part_of due) (length-map due part_of ∙ sym same) w.goes;
  }

  -- the end: nothing is due, and so nothing is around
  going_none : (due : List PartId) (found : List Part) → length due ≡ 0 → Going ns ps (map part_of due) found
      → Going ns ps [] found
  going_none [] found e g = g
  going_none (d ∷ due) found e g = absurd (let no : ⊥ = omega arith in no)

  pub all_left : (due : Vec PartId Global) (os : List Open) (vs list : List Visit) → vec_len due ≡ 0 → list ≡ reverse vs
      → Walks due.items os vs
      → Going ns ps [] (map part_of (left_in list))
  all_left due os vs list none e w =
      let o = due.ok.0 in
      subst (λ v. Going ns ps [] (map part_of (left_in v))) (sym e) (going_none due.items _ (omega arith) w.going)

  pub all_walked : (due : Vec PartId Global) (os : List Open) (vs list : List Visit) → vec_len due ≡ 0
      → list ≡ reverse vs
      → IsReady (length due.items) (reverse os) → Walks due.items os vs → Walked (parts_at ns) ps list []
  all_walked due os vs list none e ready w =
      let o = due.ok.0 in
      let z : length due.items ≡ 0 = omega arith in
      subst (λ v. Walked (parts_at ns) ps v []) (sym e)
      (goes_done (parts_at ns) ps (map part_of due.items) vs os (subst (λ v. IsReady v (reverse os)) z ready) w.goes)
