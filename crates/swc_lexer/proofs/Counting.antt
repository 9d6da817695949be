-- Lines and columns.
use Rattle.std.proofs.Common.{◌≡◌, ℕ, zero, suc, ◌+◌, ◌-◌, ◌*◌, ◌<◌, ◌≤◌, Bool, true, false, List, [], ◌∷◌, ◌++◌, length, length-append, refl, sym, ap, ◌∙◌, subst, arith}
use Rattle.std.specs.Prelude.{if◌then◌else◌, nat_lt, slice_index_or}
use Rattle.std.proofs.{lemmas.Bool.Decides.nat_tests, lemmas.List.get_or_append_left, lemmas.List.get_or_push}
use Rattle.swc_lexer.specs.{declared.lines.Point.Point, Coming.is_lt}
use Rattle.swc_lexer.specs.Lines.{count, line_start, ends_line, begins_char, is_long, one_if, point_of, step, AreMarks, MarkedTo}

if_suc : (b : Bool) (n : ℕ) → (if b then suc n else n) ≡ n + one_if b
if_suc true n = omega arith
if_suc false n = omega arith

count_suc : (p : ℕ → Bool) (n : ℕ) → count p (suc n) ≡ count p n + one_if (p n)
unfolding count
count_suc p n = if_suc (p n) (count p n)

count_most : (p : ℕ → Bool) (n : ℕ) → count p n ≤ n
unfolding count
count_most p zero = omega arith
count_most p (suc n) = if_most (p n) (count p n) n (count_most p n)
  where
    if_most : (b : Bool) (k n : ℕ) → k ≤ n → (if b then suc k else k) ≤ suc n
    if_most true k n h = omega (arith, h)
    if_most false k n h = omega (arith, h)

count_more : (p : ℕ → Bool) (m k : ℕ) → count p m ≤ count p (m + k)
count_more p m zero = let e : m + 0 ≡ m = omega arith in let f = ap (count p) e in omega (arith, f)
count_more p m (suc k) =
    let e : m + suc k ≡ suc (m + k) = omega arith in
    let f = ap (count p) e in
    let g = count_suc p (m + k) in
    let h = count_more p m k in omega (arith, f, g, h)

pub count_monotone : (p : ℕ → Bool) (m n : ℕ) → m ≤ n → count p m ≤ count p n
count_monotone p m n h = let e : m + (n - m) ≡ n = omega (arith, h) in let f = ap (count p) e in
    let g = count_more p m (n - m) in omega (arith, f, g)

start_suc : (bs : List ℕ) (n : ℕ) → line_start bs (suc n) ≡ (if ends_line bs n then n + 1 else line_start bs n)
unfolding line_start
start_suc bs n = ap (λ k. if ends_line bs n then k else line_start bs n) (omega arith)

pub start_most : (bs : List ℕ) (n : ℕ) → line_start bs n ≤ n
unfolding line_start
start_most bs zero = omega arith
start_most bs (suc n) = if_most (ends_line bs n) (line_start bs n) n (start_most bs n)
  where
    if_most : (b : Bool) (k n : ℕ) → k ≤ n → (if b then suc n else k) ≤ suc n
    if_most true k n h = omega (arith, h)
    if_most false k n h = omega (arith, h)

-- one byte later
pub point_more : (bs : List ℕ) (n : ℕ) (p q : Point) → p ≡ point_of bs n → q ≡ step p bs n → q ≡ point_of bs (n + 1)
point_more bs n p q is next =
    let one : n + 1 ≡ suc n = omega arith in
    let l = count_suc (ends_line bs) n in
    let c = count_suc (begins_char bs) n in
    let d = count_suc (is_long bs) n in
    let s = start_suc bs n in
    let u : count (begins_char bs) (suc n) + count (is_long bs) (suc n)
    ≡ count (begins_char bs) n + count (is_long bs) n + one_if (begins_char bs n) + one_if (is_long bs n) =
    omega (arith, c, d) in
    next ∙ ap (λ x. step x bs n) is
    ∙ ap (λ x. record {
      lines = x;
      start = (if ends_line bs n then n + 1 else line_start bs n);
      units =
          count (begins_char bs) n + count (is_long bs) n + one_if (begins_char bs n) + one_if (is_long bs n);
    }) (sym l)
    ∙ ap (λ x. record {
      lines = count (ends_line bs) (suc n);
      start = x;
      units =
          count (begins_char bs) n + count (is_long bs) n + one_if (begins_char bs n) + one_if (is_long bs n);
    }) (sym s)
    ∙ ap (λ x. record { lines = count (ends_line bs) (suc n); start = line_start bs (suc n); units = x }) (sym u)
    ∙ ap (point_of bs) (sym one)

pub lines_most : (bs : List ℕ) (n : ℕ) (p : Point) → p ≡ point_of bs n → p.lines ≤ n
lines_most bs n p is = let e = ap (λ x. x.lines) is in let c = count_most (ends_line bs) n in omega (arith, e, c)

pub units_most : (bs : List ℕ) (n : ℕ) (p : Point) → p ≡ point_of bs n → p.units ≤ 2 * n
units_most bs n p is =
    let e = ap (λ x. x.units) is in let c = count_most (begins_char bs) n in let d = count_most (is_long bs) n in
    omega (arith, e, c, d)

-- ---- marks

not_lt : (a b : ℕ) → nat_lt a b ≡ false → b ≤ a
not_lt a b h = grind (arith, nat_tests)

origin_is : (bs : List ℕ) (p : Point) → p ≡ record { lines = 0; start = 0; units = 0 } → p ≡ point_of bs 0
unfolding count line_start
origin_is bs p h = h

pub MarkedTo_begin : (bs : List ℕ) (ms : List Point) (p : Point) → ms ≡ []
    → p ≡ record { lines = 0; start = 0; units = 0 } → MarkedTo bs ms 0 p
MarkedTo_begin bs ms p none is =
    let n = ap length none in
    record {
      within = omega arith;
      is = origin_is bs p is;
      place = omega (arith, n);
      each =
          λ k h d. absurd (omega (arith, h, n));
    }

marked_more : (bs : List ℕ) (ms : List Point) (x : Point) (k : ℕ) (d : Point) → x ≡ point_of bs (256 * length ms) →
    ((k : ℕ) → k < length ms → (d : Point) → slice_index_or ms k d ≡ point_of bs (256 * k))
    → k < length (ms ++ x ∷ []) →
    slice_index_or (ms ++ x ∷ []) k d ≡ point_of bs (256 * k)
marked_more bs ms x k d is each h = by_order (nat_lt k (length ms)) refl
  where
    by_order : (b : Bool) → nat_lt k (length ms) ≡ b → slice_index_or (ms ++ x ∷ []) k d ≡ point_of bs (256 * k)
    by_order true e = let lt = is_lt k (length ms) e in get_or_append_left ms (x ∷ []) d k lt ∙ each k lt d
    by_order false e =
        let le = not_lt k (length ms) e in
        let n = length-append ms (x ∷ []) in
        let same : length ms ≡ k = omega (arith, le, h, n) in
        get_or_push ms x d k same ∙ is ∙ ap (λ j. point_of bs (256 * j)) same

pub MarkedTo_more : (bs : List ℕ) (ms now : List Point) (at : ℕ) (p q : Point) → MarkedTo bs ms at p
    → now ≡ ms ++ p ∷ [] → 256 ≤ length bs - at →
    q ≡ point_of bs (at + 256) → MarkedTo bs now (at + 256) q
MarkedTo_more bs ms now at p q i added some is =
    let w = i.within in
    let pl = i.place in
    let n = length-append ms (p ∷ []) in
    let l = ap length added in
    let here : p ≡ point_of bs (256 * length ms) = i.is ∙ ap (point_of bs) i.place in
    record {
      within = omega (arith, w, some);
      is = is;
      place = omega (arith, pl, n, l);
      each = λ k h d. ap (λ m. slice_index_or m k d) added
          ∙ marked_more bs ms p k d here i.each (subst (λ m. k < length m) added h);
    }

pub MarkedTo_over : (bs : List ℕ) (ms now : List Point) (at : ℕ) (p : Point) → MarkedTo bs ms at p → now ≡ ms ++ p ∷ []
    → length bs - at < 256 → AreMarks bs now
MarkedTo_over bs ms now at p i added few =
    let w = i.within in
    let pl = i.place in
    let n = length-append ms (p ∷ []) in
    let l = ap length added in
    let here : p ≡ point_of bs (256 * length ms) = i.is ∙ ap (point_of bs) i.place in
    record {
      len = omega (arith, w, pl, n, l, few);
      each = λ k h d. ap (λ m. slice_index_or m k d) added
          ∙ marked_more bs ms p k d here i.each (subst (λ m. k < length m) added h);
    }
