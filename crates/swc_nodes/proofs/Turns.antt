-- What the loops of turning.rt hold, by the duties that they go through.
use Rattle.std.proofs.Common.{◌≡◌, ℕ, suc, ◌+◌, ◌-◌, ◌<◌, ◌≤◌, ◌⊎◌, inl, inr, true, Option, Some, None, List, [], ◌∷◌, ◌++◌, Bor, map, length, take, reverse, option_copied, slice_get, refl, sym, ap, subst, ◌∙◌, arith, length-append}
use Rattle.std.proofs.lemmas.List.{map-append, nil_from_length, reverse-append, take_all, take_more}
use Rattle.std.proofs.lemmas.Option.{get_or_from_slice_get, slice_get-get_or, slice_get_within}
use Rattle.swc_context.specs.declared.span.Span.{Span}
use Rattle.swc_nodes.specs.NodeParts.{form, slots}
use Rattle.swc_nodes.specs.NumberedTrees.{Seat}
use Rattle.swc_nodes.specs.Onward.{cleared, up_to, AllDone, AllKept, AllReady, RootCut, RootDone, RootReady, Stays, TurnedOne}
use Rattle.swc_nodes.specs.Roles.{Due, due, ready}
use Rattle.swc_nodes.specs.Settled.{seat_in, DroppedFrom, Ranges}
use Rattle.swc_nodes.specs.Turning.{node_at, PartsIn}
use Rattle.swc_nodes.specs.{declared.node.Node.Node, declared.role.Duty.Duty, declared.turning.Settled.Settled}
use Rattle.swc_nodes.proofs.Going.{Going, going-cut, going-done, going-first, going-next, going-stays, now-parts, now-ready, now-within, ranges-up, root-cut}
use Rattle.swc_nodes.proofs.Going as one
use Rattle.swc_nodes.proofs.Onward.{ranges-both, ranges-bound}
use Rattle.swc_nodes.proofs.Rounds.{AllGoing, all-cut, all-done, all-first, all-kept, all-next, all-ranges, all-ready, all-stopped}
use Rattle.swc_nodes.proofs.Rounds as rounds

-- ---- the last of a list, as it was read

last-is : {A : Type 0} (xs : List A) (x : A) → slice_get xs (length xs - 1) ≡ Some x →
    xs ≡ take (length xs - 1) xs ++ x ∷ []
last-is xs x e =
    let lt = slice_get_within xs (length xs - 1) x e in
    sym (take_all ((length xs - 1) + 1) xs (omega arith)) ∙ take_more xs (length xs - 1) x lt
    ∙ ap (λ v. take (length xs - 1) xs ++ v ∷ []) (get_or_from_slice_get xs (length xs - 1) x x e)

pub last-read : {A : Type 0} (xs us : List A) (r : Option (Bor A)) (p : Bor A) → us ≡ xs →
    option_copied r ≡ slice_get us (length us - 1) → r ≡ Some p → slice_get xs (length xs - 1) ≡ Some p.now
last-read xs us r p e s i = sym (subst (λ v. option_copied r ≡ slice_get v (length v - 1)) e s) ∙ ap option_copied i

none-there : {A : Type 0} (xs : List A) → slice_get xs (length xs - 1) ≡ None → xs ≡ []
none-there [] e = refl
none-there (x ∷ xs) e =
    let h = slice_get-get_or (x ∷ xs) (length (x ∷ xs) - 1) x (omega arith) in
    cc

pub none-read : {A : Type 0} (xs us : List A) (r : Option (Bor A)) → us ≡ xs →
    option_copied r ≡ slice_get us (length us - 1) → r ≡ None → xs ≡ []
none-read xs us r e s i =
    none-there xs (sym (subst (λ v. option_copied r ≡ slice_get v (length v - 1)) e s) ∙ ap option_copied i)

pub some-there : {A : Type 0} (xs : List A) (x : A) → slice_get xs (length xs - 1) ≡ Some x → 0 < length xs
some-there xs x e = let lt = slice_get_within xs (length xs - 1) x e in omega arith

pub less : {A : Type 0} (xs ys : List A) (y : A) → xs ≡ ys ++ y ∷ [] → length ys < length xs
less xs ys y e =
    let l = length-append ys (y ∷ []) in
    let m = ap length e in
    omega arith

dropped-all : (n : ℕ) (cs : List Settled) → DroppedFrom n cs []
dropped-all n cs = record {
  more = cs;
  dropped = refl;
  below = λ bs b e.
      let l = length-append bs (b ∷ []) in
      let m = ap length e in
      omega arith;
}

module _ {F C K : Type 0} (at by : ℕ → Seat F C K) where
  -- a bound of ranges holds wherever they are
  ranges-under : (lo : ℕ) (bs : List Settled) (hi n : ℕ) → Ranges at lo bs hi → Ranges by lo bs n → Ranges at lo bs n
  ranges-under lo [] hi n h k = k
  ranges-under lo (b ∷ bs) hi n h k = (h.0, h.1, ranges-under (suc b.last) bs hi n h.2 k.2)

module _ {F C K : Type 0} (fun_at : F → Span) (class_at : C → Span) (block_at : K → Span) where
  -- ---- one root

  module _ (ns : List (Node F C K)) (root : Due) where
    abbrev going : ℕ → List (Node F C K) → List Due → List Settled → Type 0
    going = Going fun_at class_at block_at ns root

    pub started : (first : ℕ) (qs : List Due) (cs : List Settled) → first ≡ suc root.part.at → qs ≡ root ∷ [] →
        RootReady fun_at class_at block_at ns root cs → Going fun_at class_at block_at ns root first ns qs cs
    started first qs cs l e r =
        subst (λ v. going v ns qs cs) (sym l)
        (subst (λ v. going (suc root.part.at) ns v cs) (sym e) (going-first fun_at class_at block_at ns root cs r))

    pub unheld : (number : ℕ) (cs es : List Settled) (ks : List (Node F C K)) → number ≡ root.part.at →
        RootReady fun_at class_at block_at ns root cs → ks ≡ take number ns → DroppedFrom number cs es →
        RootCut fun_at class_at block_at ns root ks es
    unheld number cs es ks e r t d =
        root-cut fun_at class_at block_at ns root cs es ks r (t ∙ ap (λ v. take v ns) e)
        (subst (λ v. DroppedFrom v cs es) e d)

    pub ended : (first : ℕ) (ys : List (Node F C K)) (ds : List Duty) (cs es : List Settled) → length ds ≡ 0 →
        Going fun_at class_at block_at ns root first ys (map due ds) cs → DroppedFrom first cs es →
        RootDone fun_at class_at block_at ns root first ys es
    ended first ys ds cs es n w d =
        going-done fun_at class_at block_at ns root first ys cs es
        (subst (λ v. going first ys (map due v) cs) (nil_from_length ds n) w) d

    module _ (first : ℕ) (ys : List (Node F C K)) (ds rest : List Duty) (d : Duty) (cs : List Settled) (number : ℕ)
        (w : Going fun_at class_at block_at ns root first ys (map due ds) cs) (t : ds ≡ rest ++ d ∷ [])
        (e : number ≡ (due d).part.at) where
      taken : Going fun_at class_at block_at ns root first ys (map due rest ++ due d ∷ []) cs
      taken = subst (λ v. going first ys v cs) (ap (map due) t ∙ map-append due rest (d ∷ [])) w

      pub one-order : number + 1 ≤ first
      one-order =
          let b = one.below fun_at class_at block_at ns root first ys (map due rest) (due d) cs taken in
          omega arith

      pub one-long : first ≤ length ys
      one-long = one.longer fun_at class_at block_at ns root first ys (map due rest) (due d) cs taken

      pub one-below : number + 1 ≤ length ys
      one-below = let o = one-order in let l = one-long in omega arith

      module _ (zs : List (Node F C K)) (z : zs ≡ cleared (number + 1) (first - (number + 1)) ys) where
        is-now : zs ≡ cleared ((due d).part.at + 1) (first - ((due d).part.at + 1)) ys
        is-now = z ∙ ap (λ v. cleared (v + 1) (first - (v + 1)) ys) e

        pub one-within : number < length zs
        one-within =
            let b = now-within fun_at class_at block_at ns root first ys (map due rest) (due d) cs taken in
            let l = ap length is-now in
            omega arith

        pub one-ready : ready d.role (form (node_at zs number)) ≡ true
        one-ready =
            ap (λ v. ready d.role (form (node_at zs v))) e
            ∙ ap (λ v. ready d.role (form (node_at v (due d).part.at))) is-now
            ∙ now-ready fun_at class_at block_at ns root first ys (map due rest) (due d) cs taken

        pub one-parts : PartsIn (take number zs) (slots (node_at zs number))
        one-parts =
            subst (λ v. PartsIn (take v zs) (slots (node_at zs v))) (sym e)
            (subst (λ v. PartsIn (take (due d).part.at v) (slots (node_at v (due d).part.at))) (sym is-now)
            (now-parts fun_at class_at block_at ns root first ys (map due rest) (due d) cs taken))

        pub one-done : (us : List (Node F C K)) (more : List Duty) (es : List Settled) (reached : ℕ) →
            DroppedFrom (number + 1) cs es →
            ((reached ≡ number) × TurnedOne fun_at class_at block_at zs us number d.role (map due rest) (map due more))
            ⊎ Stays fun_at class_at block_at zs us number d.role (map due rest) (map due more) es reached →
            (Going fun_at class_at block_at ns root reached us (map due more) es) × (reached < first)
        one-done us more es reached g (inl p) =
            let b = one-order in
            let l = p.0 in
            let qs = map due rest in
            let bs = map due more in
            let t1 = subst (λ v. TurnedOne fun_at class_at block_at zs us v d.role qs bs) e p.1 in
            let t2 = subst (λ v. TurnedOne fun_at class_at block_at v us (due d).part.at d.role qs bs) is-now t1 in
            let g1 = subst (λ v. DroppedFrom (v + 1) cs es) e g in
            let k = going-next fun_at class_at block_at ns root first ys qs (due d) cs taken us bs es t2 g1 in
            (subst (λ v. going v us bs es) (sym (p.0 ∙ e)) k, omega arith)
        one-done us more es reached g (inr s) =
            let b = one-order in
            let qs = map due rest in
            let bs = map due more in
            let s1 = subst (λ v. Stays fun_at class_at block_at zs us v d.role qs bs es reached) e s in
            let s2 = subst (λ v. Stays fun_at class_at block_at v us (due d).part.at d.role qs bs es reached)
            is-now s1 in
            let g1 = subst (λ v. DroppedFrom (v + 1) cs es) e g in
            let k = going-stays fun_at class_at block_at ns root first ys qs (due d) cs taken us bs es reached s2 g1 in
            let l = k.1 in
            (k.0, omega arith)

        pub one-cut : (us ks : List (Node F C K)) (es fs : List Settled) → take number us ≡ take number zs →
            DroppedFrom (number + 1) cs es → ks ≡ take number us → DroppedFrom number es fs →
            RootCut fun_at class_at block_at ns root ks fs
        one-cut us ks es fs k g r h =
            going-cut fun_at class_at block_at ns root first ys (map due rest) (due d) cs taken us ks es fs
            (subst (λ v. take v us ≡ take v zs) e k ∙ ap (take (due d).part.at) is-now)
            (subst (λ v. DroppedFrom (v + 1) cs es) e g) (subst (λ v. ks ≡ take v us) e r)
            (subst (λ v. DroppedFrom v es fs) e h)

  -- ---- all roots

  module _ (ns : List (Node F C K)) where
    pub all-started : (ds : List Duty) (d : Duty) (number : ℕ) (ys : List (Node F C K)) (bs cs : List Settled) →
        slice_get ds (length ds - 1) ≡ Some d → number ≡ (due d).part.at → ys ≡ take (number + 1) ns → bs ≡ [] →
        AllReady fun_at class_at block_at ns (map due ds) cs →
        AllGoing fun_at class_at block_at ns (map due ds) (number + 1) ys (map due ds) bs cs
    all-started ds d number ys bs cs s e t b r =
        let front = take (length ds - 1) ds in
        let l : number + 1 ≡ suc (due d).part.at = omega arith in
        subst (λ v. AllGoing fun_at class_at block_at ns (map due ds) (number + 1) ys (map due ds) v cs) (sym b)
        (all-first fun_at class_at block_at ns (map due ds) (map due front) (due d) ys (number + 1) cs
        (ap (map due) (last-is ds d s) ∙ map-append due front (d ∷ [])) l t r)

  module _ (ns : List (Node F C K)) (all : List Due) where
    abbrev all_going : ℕ → List (Node F C K) → List Due → List Settled → List Settled → Type 0
    all_going = AllGoing fun_at class_at block_at ns all

    abbrev at_of : ℕ → Seat F C K
    at_of = seat_in fun_at class_at block_at ns

    module _ (end : ℕ) (ys : List (Node F C K)) (ds rest : List Duty) (d : Duty) (bs cs : List Settled) (number : ℕ)
        (w : AllGoing fun_at class_at block_at ns all end ys (map due ds) bs cs) (t : ds ≡ rest ++ d ∷ [])
        (e : number ≡ (due d).part.at) where
      last-taken : AllGoing fun_at class_at block_at ns all end ys (map due rest ++ due d ∷ []) bs cs
      last-taken = subst (λ v. all_going end ys v bs cs) (ap (map due) t ∙ map-append due rest (d ∷ [])) w

      pub root-order : number + 1 ≤ end
      root-order =
          let b = rounds.below fun_at class_at block_at ns all end ys (map due rest) (due d) bs cs [] last-taken
          (dropped-all ((due d).part.at + 1) cs) in
          omega arith

      pub root-long : end ≤ length ys
      root-long =
          rounds.longer fun_at class_at block_at ns all end ys (map due rest) (due d) bs cs [] last-taken
          (dropped-all ((due d).part.at + 1) cs)

      pub root-below : number + 1 ≤ length ys
      root-below = let o = root-order in let l = root-long in omega arith

      module _ (es : List Settled) (g : DroppedFrom (number + 1) cs es) (zs : List (Node F C K))
          (z : zs ≡ cleared (number + 1) (end - (number + 1)) ys) where
        gone : DroppedFrom ((due d).part.at + 1) cs es
        gone = subst (λ v. DroppedFrom (v + 1) cs es) e g

        is-cleared : zs ≡ cleared ((due d).part.at + 1) (end - ((due d).part.at + 1)) ys
        is-cleared = z ∙ ap (λ v. cleared (v + 1) (end - (v + 1)) ys) e

        pub root-ready : RootReady fun_at class_at block_at zs (due d) es
        root-ready =
            subst (λ v. RootReady fun_at class_at block_at v (due d) es) (sym is-cleared)
            (all-ready fun_at class_at block_at ns all end ys (map due rest) (due d) bs cs es last-taken gone)

        pub root-next : (first : ℕ) (us : List (Node F C K)) (fs rs : List Settled) →
            RootDone fun_at class_at block_at zs (due d) first us fs →
            rs ≡ bs ++ record { first = first; last = number } ∷ [] →
            AllGoing fun_at class_at block_at ns all first us (map due rest) rs fs
        root-next first us fs rs r k =
            let same : rs ≡ bs ++ record { first = first; last = (due d).part.at } ∷ [] =
            subst (λ v. rs ≡ bs ++ record { first = first; last = v } ∷ []) e k in
            subst (λ v. all_going first us (map due rest) v fs) (sym same)
            (all-next fun_at class_at block_at ns all end ys (map due rest) (due d) bs cs es last-taken gone first us fs
            (subst (λ v. RootDone fun_at class_at block_at v (due d) first us fs) is-cleared r))

        pub root-ranges : (first : ℕ) (us : List (Node F C K)) (fs : List Settled) →
            RootDone fun_at class_at block_at zs (due d) first us fs →
            Ranges (seat_in fun_at class_at block_at ns) 0 fs first
        root-ranges first us fs r =
            ranges-under at_of (seat_in fun_at class_at block_at (up_to (due d) zs)) 0 fs (length ns) first
            (root-next first us fs (bs ++ record { first = first; last = number } ∷ []) r refl).ranges r.ranges

        pub root-stopped : (ks : List (Node F C K)) (fs : List Settled) →
            RootCut fun_at class_at block_at zs (due d) ks fs → AllKept fun_at class_at block_at ns all ks fs
        root-stopped ks fs r =
            all-cut fun_at class_at block_at ns all end ys (map due rest) (due d) bs cs es last-taken gone ks fs
            (subst (λ v. RootCut fun_at class_at block_at v (due d) ks fs) is-cleared r)

        pub root-unheld : (first : ℕ) (us ks : List (Node F C K)) (fs : List Settled) →
            RootDone fun_at class_at block_at zs (due d) first us fs → ks ≡ take first us →
            AllKept fun_at class_at block_at ns all ks fs
        root-unheld first us ks fs r k =
            all-stopped fun_at class_at block_at ns all end ys (map due rest) (due d) bs cs es last-taken gone first us
            ks fs (subst (λ v. RootDone fun_at class_at block_at v (due d) first us fs) is-cleared r) k

  -- ---- what was turned becomes what is settled

  pub record Put (ys : List (Node F C K)) (cs bs : List Settled) : Type 0 where
    pub mid : ℕ
    pub before : Ranges (seat_in fun_at class_at block_at ys) 0 cs mid
    pub after : Ranges (seat_in fun_at class_at block_at ys) mid (reverse bs) (length ys)

  pub put-next : (ys : List (Node F C K)) (cs bs rest ds : List Settled) (b : Settled) → bs ≡ rest ++ b ∷ [] →
      ds ≡ cs ++ b ∷ [] → Put ys cs bs → Put ys ds rest
  put-next ys cs bs rest ds b e t p =
      let at = seat_in fun_at class_at block_at ys in
      let h : Ranges at p.mid (b ∷ reverse rest) (length ys) =
      subst (λ v. Ranges at p.mid v (length ys)) (ap reverse e ∙ reverse-append rest (b ∷ [])) p.after in
      let own : Ranges at p.mid (b ∷ []) (suc b.last) = (h.0, h.1, omega arith) in
      record {
        mid = suc b.last;
        before = subst (λ v. Ranges at 0 v (suc b.last)) (sym t)
            (ranges-both at 0 p.mid cs (b ∷ []) (suc b.last) p.before own);
        after = h.2;
      }

  put-ranges : (ys : List (Node F C K)) (cs bs : List Settled) → Put ys cs bs →
      Ranges (seat_in fun_at class_at block_at ys) 0 cs (length ys)
  put-ranges ys cs bs p =
      let at = seat_in fun_at class_at block_at ys in
      ranges-up at 0 cs p.mid (length ys) (ranges-bound at p.mid (reverse bs) (length ys) p.after) p.before

  module _ (ns : List (Node F C K)) (all : List Due) (end : ℕ) (ys : List (Node F C K)) (ds was : List Duty)
      (bs cs : List Settled) (w : AllGoing fun_at class_at block_at ns all end ys (map due ds) bs cs)
      (n : length ds ≡ 0) (some : 0 < length was)
      (h : (ds ≡ was) ⊎ Ranges (seat_in fun_at class_at block_at ns) 0 cs end) where
    none-left : AllGoing fun_at class_at block_at ns all end ys [] bs cs
    none-left = subst (λ v. AllGoing fun_at class_at block_at ns all end ys (map due v) bs cs) (nil_from_length ds n) w

    held-ranges : (ds ≡ was) ⊎ Ranges (seat_in fun_at class_at block_at ns) 0 cs end →
        Ranges (seat_in fun_at class_at block_at ns) 0 cs end
    held-ranges (inl e) =
        let l = ap length e in
        absurd (omega arith)
    held-ranges (inr r) = r

    pub put-first : Put ys cs bs
    put-first =
        let r = all-ranges fun_at class_at block_at ns all end ys bs cs none-left (held-ranges h) in
        record { mid = end; before = r.0; after = r.1 }

    pub put-kept : (es rs : List Settled) → Put ys es rs → AllKept fun_at class_at block_at ns all ys es
    put-kept es rs p =
        all-kept fun_at class_at block_at ns all end ys bs cs none-left (held-ranges h) es (put-ranges ys es rs p)

    pub put-done : AllDone fun_at class_at block_at ns all ys
    put-done = all-done fun_at class_at block_at ns all end ys bs cs none-left (held-ranges h)
