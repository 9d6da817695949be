-- Settled patterns stay so, as nodes are appended and dropped.
use Rattle.std.proofs.Common.{◌≡◌, ℕ, suc, ◌+◌, ◌<◌, ◌≤◌, List, [], ◌∷◌, ◌++◌, length, take, drop, Result, Ok, Err, sym, ap, subst, ◌∙◌, arith, length-append, ⊎_elim}
use Rattle.std.proofs.lemmas.Bool.{cases_lt}
use Rattle.std.proofs.lemmas.List.{length-take-le, take-append-drop, take_all, take_at}
use Rattle.std.specs.{Prelude.if◌then◌else◌, Prelude.slice_index_or, List.remove, Result.is_ok}
use Rattle.swc_context.specs.declared.span.Span.{Span}
use Rattle.swc_nodes.specs.NumberedTrees.{Seat}
use Rattle.swc_nodes.specs.Settled.{seat_in, DroppedFrom, Ranges, SettledIn}
use Rattle.swc_nodes.specs.{declared.node.Node.Node, declared.turning.Settled.Settled}
use Rattle.swc_nodes.proofs.Going.{ranges-dropped, ranges-front, ranges-up}
use Rattle.swc_nodes.proofs.Onward.{ranges-same, seat-front}
use Rattle.swc_nodes.proofs.Standing.{popped}

module _ {F C K : Type 0} where
  -- where the same is reached from each number
  ranges-firsts : (at by : ℕ → Seat F C K) (lo : ℕ) (bs : List Settled) (hi : ℕ) →
      ((i : ℕ) → (by i).first ≡ (at i).first) → Ranges at lo bs hi → Ranges by lo bs hi
  ranges-firsts at by lo [] hi same h = h
  ranges-firsts at by lo (b ∷ bs) hi same h =
      let s = h.1 in (
        h.0,
        record {
          order = s.order;
          first = same b.last ∙ s.first;
          above = λ i l u. let a = s.above i l u in let e = same i in omega arith;
        },
        ranges-firsts at by (suc b.last) bs hi same h.2,
      )

module _ {F C K : Type 0} (fun_at : F → Span) (class_at : C → Span) (block_at : K → Span) where
  abbrev at_of : List (Node F C K) → ℕ → Seat F C K
  at_of = seat_in fun_at class_at block_at

  abbrev settled : List (Node F C K) → List Settled → Type 0
  settled = SettledIn fun_at class_at block_at

  settled-more : (xs ms : List (Node F C K)) (bs : List Settled) → settled xs bs → settled (xs ++ ms) bs
  settled-more xs ms bs h =
      let l = length-append xs ms in
      record {
        ranges = ranges-up (at_of (xs ++ ms)) 0 bs (length xs) (length (xs ++ ms)) (omega arith)
            (ranges-same (at_of xs) (at_of (xs ++ ms)) 0 bs (length xs)
            (λ i lt. seat-front fun_at class_at block_at xs ms i lt) h.ranges);
      }

  pub settled-pushed : {A B : Type 0} (r : Result A B) (xs ys : List (Node F C K)) (x : Node F C K)
      (bs : List Settled) →
      ys ≡ (if is_ok r then xs ++ x ∷ [] else xs) → settled xs bs → settled ys bs
  settled-pushed (Ok a) xs ys x bs e h = subst (λ v. settled v bs) (sym e) (settled-more xs (x ∷ []) bs h)
  settled-pushed (Err a) xs ys x bs e h = subst (λ v. settled v bs) (sym e) h

  few : (xs : List (Node F C K)) (n : ℕ) (bs cs : List Settled) → n ≤ length xs → settled xs bs → DroppedFrom n bs cs →
      settled (take n xs) cs
  few xs n bs cs le h d =
      let l : n ≡ length (take n xs) = sym (length-take-le n xs le) in
      record {
        ranges = subst (λ v. Ranges (at_of (take n xs)) 0 cs v) l
            (ranges-same (at_of xs) (at_of (take n xs)) 0 cs n
            (λ i lt. ap (λ v. at_of v i) (sym (take-append-drop n xs))
            ∙ sym (seat-front fun_at class_at block_at (take n xs) (drop n xs) i (omega arith)))
            (ranges-dropped (at_of xs) n 0 bs cs (length xs) (omega arith) h.ranges d));
      }

  pub settled-cut : (xs ys : List (Node F C K)) (n : ℕ) (bs cs : List Settled) → ys ≡ take n xs → settled xs bs →
      DroppedFrom n bs cs → settled ys cs
  settled-cut xs ys n bs cs e h d = subst (λ v. settled v cs) (sym e) (⊎_elim
      (λ lt. few xs n bs cs (omega arith) h d)
      (λ ge. subst (λ v. settled v cs) (sym (take_all n xs ge))
      (record {
        ranges = ranges-front (at_of xs) 0 cs d.more (length xs)
            (subst (λ v. Ranges (at_of xs) 0 v (length xs)) d.dropped h.ranges);
      }))
      (cases_lt n (length xs)))

  pub settled-firsts : (xs ys : List (Node F C K)) (bs : List Settled) → length ys ≡ length xs →
      ((i : ℕ) → (at_of ys i).first ≡ (at_of xs i).first) → settled xs bs → settled ys bs
  settled-firsts xs ys bs l same h = record {
    ranges = subst (λ v. Ranges (at_of ys) 0 bs v) (sym l)
        (ranges-firsts (at_of xs) (at_of ys) 0 bs (length xs) same h.ranges);
  }

  pub settled-popped : (xs ms ns : List (Node F C K)) (i : ℕ) (x : Node F C K) (bs cs : List Settled) → i < length xs →
      ms ≡ take (i + 1) xs → x ≡ slice_index_or ms i x → ns ≡ remove ms i → settled xs bs → DroppedFrom i bs cs →
      settled ns cs
  settled-popped xs ms ns i x bs cs lt em ex en h d =
      let p = popped xs ms ns i x lt em ex en in
      let e : take i xs ≡ ns = ap (take i) p.0 ∙ take_at ns (x ∷ drop (i + 1) xs) i p.1 in
      settled-cut xs ns i bs cs (sym e) h d
