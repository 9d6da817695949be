-- Frames of a stack, and how code keeps them.
use Rattle.std.proofs.Common.{◌≡◌, ℕ, zero, suc, ◌+◌, ◌-◌, ◌<◌, ◌≤◌, Bool, true, false, List, [], ◌∷◌, ◌++◌, length, take, Option, Some, None, get_or, refl, sym, ap, ◌∙◌, arith}
use Rattle.std.specs.Prelude.{not, reverse}
use Rattle.std.proofs.lemmas.List.{take_more, reverse-append, take_all}
use Rattle.swc_lexer.specs.{declared.mark.Mark.Mark, declared.place.Before.Before, declared.place.Break.Break, declared.place.Entry.Entry, declared.place.Frame.Frame, declared.place.Kind.Kind, declared.place.Move.Move, declared.place.Open.Open, declared.place.Place.Place}
use Rattle.swc_lexer.specs.declared.place.Break.TheVariants.{Nothing, Changes, Closes}
use Rattle.swc_lexer.specs.Places.{after, at_break, closes, enters, is_brace, is_passed}
use Rattle.swc_lexer.specs.Stacks.{State, below, break_if, broken, broken_by, closed, counted_as, counting_as, entered, entered_by, is_chars, moved, moved_by, passed, with_frames, with_text, closed_from, has_brace, inner, innermost, outer, opened, shut, depth_after, kept, state_at, top_of, with_kind}

-- the innermost of some of the outermost frames
pub inner_at : (fs : List Frame) (n : ℕ) (f : Frame) → 0 < n → n ≤ length fs → f ≡ get_or fs (n - 1) f
    → inner fs n ≡ f ∷ inner fs (n - 1)
inner_at fs n f some h is =
    let e : n - 1 + 1 ≡ n = omega arith in
    let t : take (n - 1 + 1) fs ≡ take (n - 1) fs ++ f ∷ [] =
    take_more fs (n - 1) f (omega arith) ∙ ap (λ x. take (n - 1) fs ++ x ∷ []) (sym is) in
    ap (λ k. inner fs k) (sym e) ∙ ap reverse t ∙ reverse-append (take (n - 1) fs) (f ∷ [])

inner_some : (fs : List Frame) (n : ℕ) (f : Frame) → 0 < n → n ≤ length fs
    → inner fs n ≡ get_or fs (n - 1) f ∷ inner fs (n - 1)
inner_some fs n f some h =
    let e : n - 1 + 1 ≡ n = omega arith in
    let t : take (n - 1 + 1) fs ≡ take (n - 1) fs ++ get_or fs (n - 1) f ∷ [] = take_more fs (n - 1) f (omega arith) in
    ap (λ k. inner fs k) (sym e) ∙ ap reverse t ∙ reverse-append (take (n - 1) fs) (get_or fs (n - 1) f ∷ [])

pub innermost_is : (fs : List Frame) (n : ℕ) (d : Frame) → 0 < n → n ≤ length fs
    → Some (get_or fs (n - 1) d) ≡ innermost (inner fs n)
innermost_is fs n d some h = sym (ap innermost (inner_some fs n d some h))

-- where a frame was found, it is the innermost
pub inner_found : (fs : List Frame) (n : ℕ) (f : Frame) (o : Option Frame) → o ≡ innermost (inner fs n) → o ≡ Some f
    → 0 < n → n ≤ length fs →
    inner fs n ≡ f ∷ inner fs (n - 1)
inner_found fs n f o is found some h =
    let e = inner_some fs n f some h in
    let g : Some (get_or fs (n - 1) f) ≡ Some f = sym (ap innermost e) ∙ sym is ∙ found in
    let same : get_or fs (n - 1) f ≡ f = cc in
    e ∙ ap (λ x. x ∷ inner fs (n - 1)) same

empty : (fs : List Frame) → innermost fs ≡ None → fs ≡ []
empty [] h = refl
empty (f ∷ fs) h = cc

pub inner_lacks : (fs : List Frame) (n : ℕ) (o : Option Frame) → o ≡ innermost (inner fs n) → o ≡ None → inner fs n ≡ []
inner_lacks fs n o is none = empty (inner fs n) (sym is ∙ none)

pub inner_all : (fs : List Frame) → inner fs (length fs) ≡ reverse fs
inner_all fs = ap reverse (take_all (length fs) fs (omega arith))

pub inner_none : (fs : List Frame) (n : ℕ) → n ≡ 0 → inner fs n ≡ []
inner_none fs n h = rw h refl

-- the innermost closes, or it doesn't
pub closed_more : (m : Mark) (k : Kind) (f : Frame) (fs : List Frame) → closes m f.what ≡ true
    → closed_from m k (f ∷ fs) ≡ closed_from m f.outer fs
unfolding closed_from
closed_more m k f fs h = rw h refl

pub closed_end : (m : Mark) (k : Kind) (f : Frame) (fs : List Frame) → closes m f.what ≡ false
    → closed_from m k (f ∷ fs) ≡ (k, f ∷ fs)
unfolding closed_from
closed_end m k f fs h = rw h refl

pub closed_none : (m : Mark) (k : Kind) → closed_from m k [] ≡ (k, [])
unfolding closed_from
closed_none m k = refl

pub below_more : (f : Frame) (fs : List Frame) → is_passed f.what ≡ true → below (f ∷ fs) ≡ below fs
unfolding below
below_more f fs h = rw h refl

pub below_end : (f : Frame) (fs : List Frame) → is_passed f.what ≡ false → below (f ∷ fs) ≡ Some f.what
unfolding below
below_end f fs h = rw h refl

pub below_none : below [] ≡ None
unfolding below
below_none = refl

pub brace_more : (f : Frame) (fs : List Frame) → is_brace f.what ≡ false → has_brace (f ∷ fs) ≡ has_brace fs
unfolding has_brace
brace_more f fs h = rw h refl

pub brace_end : (f : Frame) (fs : List Frame) → is_brace f.what ≡ true → has_brace (f ∷ fs) ≡ true
unfolding has_brace
brace_end f fs h = rw h refl

pub brace_none : has_brace [] ≡ false
unfolding has_brace
brace_none = refl

not_true : (b k : Bool) → k ≡ not b → k ≡ true → b ≡ false
not_true true k h e = cc
not_true false k h e = refl

not_false : (b k : Bool) → k ≡ not b → k ≡ false → b ≡ true
not_false true k h e = refl
not_false false k h e = cc

-- ---- loops over frames, from the innermost on

-- so far frames were closed
pub record ClosedTo (m : Mark) (fs : List Frame) (n : ℕ) (p : Place) (d : ℕ) (k : Kind) : Type 0 where
  pub within : d ≤ length fs
  pub same : closed_from m k (inner fs d) ≡ closed_from m p.kind (inner fs n)

pub ClosedTo_begin : (m : Mark) (fs : List Frame) (n : ℕ) (p : Place) → n ≤ length fs → ClosedTo m fs n p n p.kind
ClosedTo_begin m fs n p h = record { within = h; same = refl }

pub ClosedTo_more : (m : Mark) (fs : List Frame) (n : ℕ) (p : Place) (d : ℕ) (k : Kind) (f : Frame) (o : Option Frame)
    (kept : Bool) → ClosedTo m fs n p d k →
    0 < d → o ≡ innermost (inner fs d) → o ≡ Some f → kept ≡ not (closes m f.what) → kept ≡ false
    → ClosedTo m fs n p (d - 1) f.outer
ClosedTo_more m fs n p d k f o kept i some is found test miss =
    let w = i.within in
    let e = inner_found fs d f o is found some w in
    record {
      within = omega (arith, w);
      same = sym (ap (closed_from m k) e ∙ closed_more m k f (inner fs (d - 1))
          (not_false (closes m f.what) kept test miss)) ∙ i.same;
    }

over : (m : Mark) (fs : List Frame) (n : ℕ) (p : Place) (d : ℕ) (k : Kind) → ClosedTo m fs n p d k
    → closed_from m k (inner fs d) ≡ (k, inner fs d) →
    state_at fs d (record p { kind = k }) ≡ closed m (state_at fs n p)
over m fs n p d k i e = ap (with_kind p) (sym e ∙ i.same)

pub ClosedTo_end : (m : Mark) (fs : List Frame) (n : ℕ) (p : Place) (d : ℕ) (k : Kind) (f : Frame) (o : Option Frame)
    (kept : Bool) → ClosedTo m fs n p d k →
    0 < d → o ≡ innermost (inner fs d) → o ≡ Some f → kept ≡ not (closes m f.what) → kept ≡ true →
    state_at fs d (record p { kind = k }) ≡ closed m (state_at fs n p)
ClosedTo_end m fs n p d k f o kept i some is found test hit =
    let e = inner_found fs d f o is found some i.within in
    over m fs n p d k i
    (ap (closed_from m k) e ∙ closed_end m k f (inner fs (d - 1)) (not_true (closes m f.what) kept test hit) ∙ ap
    (λ l. (k, l)) (sym e))

pub ClosedTo_none : (m : Mark) (fs : List Frame) (n : ℕ) (p : Place) (d : ℕ) (k : Kind) (o : Option Frame)
    → ClosedTo m fs n p d k →
    o ≡ innermost (inner fs d) → o ≡ None → state_at fs d (record p { kind = k }) ≡ closed m (state_at fs n p)
ClosedTo_none m fs n p d k o i is none =
    let e = inner_lacks fs d o is none in
    over m fs n p d k i (ap (closed_from m k) e ∙ closed_none m k ∙ ap (λ l. (k, l)) (sym e))

pub ClosedTo_over : (m : Mark) (fs : List Frame) (n : ℕ) (p : Place) (d : ℕ) (k : Kind) → ClosedTo m fs n p d k
    → d ≤ 0 →
    state_at fs d (record p { kind = k }) ≡ closed m (state_at fs n p)
ClosedTo_over m fs n p d k i z =
    let e = inner_none fs d (omega (arith, z)) in
    over m fs n p d k i (ap (closed_from m k) e ∙ closed_none m k ∙ ap (λ l. (k, l)) (sym e))

-- so far frames were passed by
pub record PassedTo (fs : List Frame) (d : ℕ) : Type 0 where
  pub within : d ≤ length fs
  pub same : below (inner fs d) ≡ below (reverse fs)

pub PassedTo_begin : (fs : List Frame) (n : ℕ) → n ≡ length fs → PassedTo fs n
PassedTo_begin fs n h = record { within = omega (arith, h); same = ap below (ap (inner fs) h ∙ inner_all fs) }

pub PassedTo_more : (fs : List Frame) (d : ℕ) (f : Frame) (o : Option Frame) (found : Bool) → PassedTo fs d → 0 < d
    → o ≡ innermost (inner fs d) → o ≡ Some f →
    found ≡ not (is_passed f.what) → found ≡ false → PassedTo fs (d - 1)
PassedTo_more fs d f o found i some is has test miss =
    let w = i.within in
    let e = inner_found fs d f o is has some w in
    record {
      within = omega (arith, w);
      same = sym (ap below e ∙ below_more f (inner fs (d - 1)) (not_false (is_passed f.what) found test miss)) ∙ i.same;
    }

pub PassedTo_end : (fs : List Frame) (d : ℕ) (f : Frame) (o : Option Frame) (found : Bool) → PassedTo fs d → 0 < d
    → o ≡ innermost (inner fs d) → o ≡ Some f →
    found ≡ not (is_passed f.what) → found ≡ true → Some f.what ≡ below (reverse fs)
PassedTo_end fs d f o found i some is has test hit =
    let e = inner_found fs d f o is has some i.within in
    sym (ap below e ∙ below_end f (inner fs (d - 1)) (not_true (is_passed f.what) found test hit)) ∙ i.same

pub PassedTo_none : (fs : List Frame) (d : ℕ) (o : Option Frame) → PassedTo fs d → o ≡ innermost (inner fs d) → o ≡ None
    → None ≡ below (reverse fs)
PassedTo_none fs d o i is none = sym (ap below (inner_lacks fs d o is none) ∙ below_none) ∙ i.same

pub PassedTo_over : (fs : List Frame) (d : ℕ) → PassedTo fs d → d ≤ 0 → None ≡ below (reverse fs)
PassedTo_over fs d i z = sym (ap below (inner_none fs d (omega (arith, z))) ∙ below_none) ∙ i.same

-- so far no brace was found
pub record BracelessTo (fs : List Frame) (d : ℕ) : Type 0 where
  pub within : d ≤ length fs
  pub same : has_brace (inner fs d) ≡ has_brace (reverse fs)

pub BracelessTo_begin : (fs : List Frame) (n : ℕ) → n ≡ length fs → BracelessTo fs n
BracelessTo_begin fs n h = record { within = omega (arith, h); same = ap has_brace (ap (inner fs) h ∙ inner_all fs) }

pub BracelessTo_more : (fs : List Frame) (d : ℕ) (f : Frame) (o : Option Frame) (found : Bool) → BracelessTo fs d
    → 0 < d → o ≡ innermost (inner fs d) → o ≡ Some f →
    found ≡ is_brace f.what → found ≡ false → BracelessTo fs (d - 1)
BracelessTo_more fs d f o found i some is has test miss =
    let w = i.within in
    let e = inner_found fs d f o is has some w in
    record {
      within = omega (arith, w);
      same = sym (ap has_brace e ∙ brace_more f (inner fs (d - 1)) (sym test ∙ miss)) ∙ i.same;
    }

pub BracelessTo_end : (fs : List Frame) (d : ℕ) (f : Frame) (o : Option Frame) (found : Bool) → BracelessTo fs d → 0 < d
    → o ≡ innermost (inner fs d) → o ≡ Some f →
    found ≡ is_brace f.what → found ≡ true → true ≡ has_brace (reverse fs)
BracelessTo_end fs d f o found i some is has test hit =
    let e = inner_found fs d f o is has some i.within in
    sym (ap has_brace e ∙ brace_end f (inner fs (d - 1)) (sym test ∙ hit)) ∙ i.same

pub BracelessTo_none : (fs : List Frame) (d : ℕ) (o : Option Frame) → BracelessTo fs d → o ≡ innermost (inner fs d)
    → o ≡ None → false ≡ has_brace (reverse fs)
BracelessTo_none fs d o i is none = sym (ap has_brace (inner_lacks fs d o is none) ∙ brace_none) ∙ i.same

pub BracelessTo_over : (fs : List Frame) (d : ℕ) → BracelessTo fs d → d ≤ 0 → false ≡ has_brace (reverse fs)
BracelessTo_over fs d i z = sym (ap has_brace (inner_none fs d (omega (arith, z))) ∙ brace_none) ∙ i.same

-- what is left once the innermost is closed, which an entry may have opened
pub shut_is : (c : Bool) (o : Option Frame) (fs : List Frame) (n : ℕ) → n ≤ length fs →
    opened (kept c o) (inner fs (depth_after c o n)) ≡ shut c (opened o (inner fs n))
shut_is true None fs n h = less fs n h
  where
    less : (fs : List Frame) (n : ℕ) → n ≤ length fs → inner fs (n - 1) ≡ outer (inner fs n)
    less fs zero h = refl
    less [] (suc n) h = absurd (omega (arith, h))
    less (f ∷ fs) (suc n) h =
        let e : suc n - 1 ≡ n = omega arith in
        let p : n + 1 ≡ suc n = omega arith in
        let t : inner (f ∷ fs) (n + 1) ≡ get_or (f ∷ fs) n f ∷ inner (f ∷ fs) n =
        ap reverse (take_more (f ∷ fs) n f (omega (arith, h))) ∙ reverse-append (take n (f ∷ fs))
        (get_or (f ∷ fs) n f ∷ []) in
        ap (inner (f ∷ fs)) e ∙ sym (ap outer t) ∙ ap (λ k. outer (inner (f ∷ fs) k)) p
shut_is true (Some f) fs n h = refl
shut_is false None fs n h = refl
shut_is false (Some f) fs n h = refl

pub top_is : (o : Option Frame) (fs : List Frame) → top_of o (innermost fs) ≡ innermost (opened o fs)
top_is None fs = refl
top_is (Some f) fs = refl

pub pushed_is : (os ns : List Frame) (f : Frame) → ns ≡ os ++ f ∷ [] → reverse ns ≡ f ∷ reverse os
pushed_is os ns f h = ap reverse h ∙ reverse-append os (f ∷ [])

-- ---- a line break

broken_is : (fs : List Frame) (m : Mark) (p : Place) (top : Option Frame) (under : Option Open) (b : Break)
    → top ≡ innermost (reverse fs) →
    under ≡ below (reverse fs) → b ≡ at_break p.before top under m
    → broken_by b (with_frames p (reverse fs)) ≡ broken m (with_frames p (reverse fs))
broken_is fs m p top under b t u is =
    ap (λ x. broken_by x (with_frames p (reverse fs))) is
    ∙ ap (λ x. broken_by (at_break p.before x under m) (with_frames p (reverse fs))) t
    ∙ ap (λ x. broken_by (at_break p.before (innermost (reverse fs)) x m) (with_frames p (reverse fs))) u

pub broken_not : (fs : List Frame) (m : Mark) (p q : Place) (n : ℕ) (top : Option Frame) (under : Option Open)
    (b : Break) → top ≡ innermost (reverse fs) →
    under ≡ below (reverse fs) → b ≡ at_break p.before top under m → b ≡ Nothing
    → state_at fs n q ≡ with_frames p (reverse fs) →
    state_at fs n q ≡ broken m (with_frames p (reverse fs))
broken_not fs m p q n top under b t u is case all =
    all ∙ ap (λ x. broken_by x (with_frames p (reverse fs))) (sym case) ∙ broken_is fs m p top under b t u is

pub broken_changed : (fs : List Frame) (m : Mark) (p q r : Place) (n k : ℕ) (top : Option Frame) (under : Option Open)
    (b : Break) (before : Before) →
    top ≡ innermost (reverse fs) → under ≡ below (reverse fs) → b ≡ at_break p.before top under m → b ≡ Changes before →
    state_at fs n q ≡ with_frames p (reverse fs) → k ≡ n → r ≡ counting_as before q
    → state_at fs k r ≡ broken m (with_frames p (reverse fs))
broken_changed fs m p q r n k top under b before t u is case all depth place =
    ap (λ x. state_at fs x r) depth ∙ ap (state_at fs n) place ∙ ap (counted_as before) all
    ∙ ap (λ x. broken_by x (with_frames p (reverse fs))) (sym case) ∙ broken_is fs m p top under b t u is

pub broken_closed : (fs : List Frame) (m e : Mark) (p q r v : Place) (n k j : ℕ) (top : Option Frame)
    (under : Option Open) (b : Break) (before : Before) →
    top ≡ innermost (reverse fs) → under ≡ below (reverse fs) → b ≡ at_break p.before top under m
    → b ≡ Closes e before →
    state_at fs n q ≡ with_frames p (reverse fs) → state_at fs k r ≡ closed e (state_at fs n q) → j ≡ k
    → v ≡ counting_as before r →
    state_at fs j v ≡ broken m (with_frames p (reverse fs))
broken_closed fs m e p q r v n k j top under b before t u is case all part depth place =
    ap (λ x. state_at fs x v) depth ∙ ap (state_at fs k) place ∙ ap (counted_as before) (part ∙ ap (closed e) all)
    ∙ ap (λ x. broken_by x (with_frames p (reverse fs))) (sym case) ∙ broken_is fs m p top under b t u is

-- ---- a token

pub changed_is : (fs : List Frame) (s : State) (m : Mark) (adjoins breaks has : Bool) (sd pd depth : ℕ) (sp pp : Place)
    (top tops first : Option Frame) (entry : Entry) (step : Move) →
    state_at fs sd sp ≡ break_if breaks m s → state_at fs pd pp ≡ closed m (state_at fs sd sp) → pd ≤ length fs
    → top ≡ innermost (inner fs pd) →
    entry ≡ enters pp top m → tops ≡ top_of entry.opens top → step ≡ after entry.place tops m adjoins breaks
    → depth ≡ depth_after step.closes entry.opens pd →
    first ≡ kept step.closes entry.opens → has ≡ is_chars m →
    with_frames (with_text has step.place) (opened step.opens (opened first (inner fs depth))) ≡ passed m adjoins
    breaks s
changed_is fs s m adjoins breaks has sd pd depth sp pp top tops first entry step start part le at enter under stepped
    dep keep chars =
    let c : state_at fs pd pp ≡ closed m (break_if breaks m s) = part ∙ ap (closed m) start in
    let ent : entered m (state_at fs pd pp) ≡ entered_by entry (inner fs pd) =
    ap (λ t. entered_by (enters pp t m) (inner fs pd)) (sym at) ∙ ap (λ e. entered_by e (inner fs pd)) (sym enter) in
    let inn : innermost (opened entry.opens (inner fs pd)) ≡ tops =
    sym (top_is entry.opens (inner fs pd)) ∙ ap (top_of entry.opens) (sym at) ∙ sym under in
    let mov : moved m adjoins breaks (entered_by entry (inner fs pd)) ≡ moved_by (is_chars m) step
    (opened entry.opens (inner fs pd)) =
    ap (λ t. moved_by (is_chars m) (after entry.place t m adjoins breaks) (opened entry.opens (inner fs pd))) inn
    ∙ ap (λ x. moved_by (is_chars m) x (opened entry.opens (inner fs pd))) (sym stepped) in
    let fr : opened step.opens (opened first (inner fs depth)) ≡ opened step.opens
    (shut step.closes (opened entry.opens (inner fs pd))) =
    ap (λ d. opened step.opens (opened first (inner fs d))) dep
    ∙ ap (λ f. opened step.opens (opened f (inner fs (depth_after step.closes entry.opens pd)))) keep
    ∙ ap (opened step.opens) (shut_is step.closes entry.opens fs pd le) in
    ap (λ h. with_frames (with_text h step.place) (opened step.opens (opened first (inner fs depth)))) chars
    ∙ ap (with_frames (with_text (is_chars m) step.place)) fr ∙ sym mov ∙ ap (moved m adjoins breaks) (sym ent)
    ∙ ap (λ x. moved m adjoins breaks (entered m x)) c
