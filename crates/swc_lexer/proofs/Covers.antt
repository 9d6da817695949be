-- The tokens of a text without a fault cover it.
use Rattle.std.proofs.Common.{◌≡◌, ℕ, zero, suc, ◌+◌, ◌<◌, ◌≤◌, Bool, true, false, List, [], ◌∷◌, length, drop, Option, Some, None, refl, sym, ap, ◌∙◌, arith, subst}
use Rattle.std.specs.Prelude.{nat_lt, nat_eq, if◌then◌else◌, ◌&&◌, ◌||◌, not, slice_get, slice_range, All}
use Rattle.std.proofs.{lemmas.Bool.Decides.nat_tests, lemmas.List.Elements.All-head, lemmas.List.Elements.All-tail}
use Rattle.swc_input.specs.{declared.token.Token.Token, declared.token.TokenAndSpan.TokenAndSpan}
use Rattle.swc_lexical.specs.{declared.lexeme.Kind.Kind, declared.scan.Goal.Goal, declared.scan.Piece.Piece, Blanks.blanks_len, Lexemes.lexeme, Runs.is_at}
use Rattle.swc_lexical.specs.Scans.{piece_at, piece_of, text_of, gapes}
use Rattle.swc_lexer.specs.{declared.place.Kind.Kind as Function, declared.reader.End.End, declared.reader.End.TheVariants.Whole, declared.reader.End.TheVariants.BeforeBrace, declared.reader.Here.Here, declared.stack.Start.Start, Coming.from_next, Coming.from_end, Places.is_dot, Places.is_asking, Reads.is_error, Reads.IsClean, Stacks.State, Stacks.has_brace, Tokens.token_of}
use Rattle.swc_lexer.specs.Covers.{is_end, Follows, Covers}
use Rattle.swc_lexer.specs.Readings.{Reading, bound, ended, read, given_of, given_fault, given_long, fault_of_kind, one_of, placed, edge_of, is_edge, is_over, is_over_in_code, piece_here, piece_or_fault, goal_here, what_comes, next_by, next_in, next_of, tokens_from, tokens_of, first, begin, moves}
use Rattle.swc_lexer.proofs.Readings.{comes, lower_read, lower_fault, bound_runs, weights}
use Rattle.swc_lexical.specs.declared.lexeme.Kind.TheVariants as lexical
use Rattle.swc_lexical.specs.declared.scan.Goal.TheVariants as goal
use Rattle.swc_lexical.specs.Templates as templates
use Rattle.swc_lexer.specs.declared.reader.Here.TheVariants as here_

some_is : {A : Type 0} (x y : A) → Some x ≡ Some y → x ≡ y
some_is x y h = cc

-- ---- what is known of a piece

record Placed (g : Goal) (bs : List ℕ) (p : Piece) : Type 0 where
  goal : p.goal ≡ g
  gap : (at : ℕ) → (nat_eq (at + p.blanks) at || nat_eq (at + p.blanks) (at + blanks_len bs)) ≡ true

none_before : (at n m : ℕ) → n ≡ 0 → (nat_eq (at + n) at || nat_eq (at + n) (at + m)) ≡ true
none_before at n m h = grind (arith, nat_tests)

all_before : (at n m : ℕ) → n ≡ m → (nat_eq (at + n) at || nat_eq (at + n) (at + m)) ≡ true
all_before at n m h = grind (arith, nat_tests)

code_piece : (g : Goal) (n : ℕ) (o : Option (Kind × ℕ)) (p : Piece) → piece_of g n o ≡ Some p
    → (p.goal ≡ g) × (p.blanks ≡ n)
code_piece g n None p h = cc
code_piece g n (Some r) p h =
    let e : record { goal = g; blanks = n; kind = r.0; len = r.1 } ≡ p = some_is _ _ h in
    (sym (ap (λ x. x.goal) e), sym (ap (λ x. x.blanks) e))

text_piece : (o : Option ℕ) (p : Piece) → text_of o ≡ Some p → (p.goal ≡ goal.Text) × (p.blanks ≡ 0)
text_piece None p h = cc
text_piece (Some n) p h =
    let e : record { goal = goal.Text; blanks = 0; kind = lexical.Text; len = n } ≡ p = some_is _ _ h in
    (sym (ap (λ x. x.goal) e), sym (ap (λ x. x.blanks) e))

end_piece : (b : Bool) (n : ℕ) (p : Piece)
    → (if b then Some (record { goal = goal.Delimiter; blanks = 0; kind = lexical.Sign; len = n }) else None) ≡ Some p →
    (p.goal ≡ goal.Delimiter) × (p.blanks ≡ 0)
end_piece false n p h = cc
end_piece true n p h =
    let e : record { goal = goal.Delimiter; blanks = 0; kind = lexical.Sign; len = n } ≡ p = some_is _ _ h in
    (sym (ap (λ x. x.goal) e), sym (ap (λ x. x.blanks) e))

placed_at : (g : Goal) (bs : List ℕ) (p : Piece) → piece_at g bs ≡ Some p → Placed g bs p
placed_at goal.Div bs p h =
    let c = code_piece goal.Div (blanks_len bs) (lexeme false (drop (blanks_len bs) bs)) p h in
    record { goal = c.0; gap = λ at. all_before at p.blanks (blanks_len bs) c.1 }
placed_at goal.RegExp bs p h =
    let c = code_piece goal.RegExp (blanks_len bs) (lexeme true (drop (blanks_len bs) bs)) p h in
    record { goal = c.0; gap = λ at. all_before at p.blanks (blanks_len bs) c.1 }
placed_at goal.Text bs p h =
    let c = text_piece (templates.text_len bs) p h in
    record { goal = c.0; gap = λ at. none_before at p.blanks (blanks_len bs) c.1 }
placed_at goal.Delimiter bs p h =
    let c = end_piece (templates.is_end bs) (if is_at bs 0 96 then 1 else 2) p h in
    record { goal = c.0; gap = λ at. none_before at p.blanks (blanks_len bs) c.1 }

-- ---- a token that is no fault

edge_within : (bs : List ℕ) (at : ℕ) (o : Option ℕ) → o ≡ slice_get bs at → edge_of bs at o ≡ true → at ≤ length bs
edge_within bs at None e h = grind (arith, nat_tests)
edge_within bs at (Some b) e h = read_within bs at b (sym e)
  where
    read_within : (bs : List ℕ) (at b : ℕ) → slice_get bs at ≡ Some b → at ≤ length bs
    read_within [] at b h = cc
    read_within (x ∷ bs) zero b h = omega arith
    read_within (x ∷ bs) (suc at) b h = let m = read_within bs at b h in omega (arith, m)

record Spans (bs : List ℕ) (at : ℕ) (p : Piece) (x : TokenAndSpan) : Type 0 where
  lo : x.span.lo.0 ≡ at + p.blanks
  hi : x.span.hi.0 ≡ at + p.blanks + p.len
  within : at + p.blanks + p.len ≤ length bs

abbrev lo_or : Option TokenAndSpan → ℕ
lo_or None = 0
lo_or (Some x) = x.span.lo.0

abbrev hi_or : Option TokenAndSpan → ℕ
hi_or None = 0
hi_or (Some x) = x.span.hi.0

spans_placed : (bs : List ℕ) (at : ℕ) (p : Piece) (o : Option Token) (x : TokenAndSpan) → placed at p bs o ≡ Some x →
    (x.span.lo.0 ≡ at + p.blanks) × (x.span.hi.0 ≡ at + p.blanks + p.len)
spans_placed bs at p None x h = cc
spans_placed bs at p (Some t) x h = (sym (ap lo_or h), sym (ap hi_or h))

and_true : (a b : Bool) → (a && b) ≡ true → b ≡ true
and_true true b h = h
and_true false b h = cc

if_edges : (b : Bool) (o : Option TokenAndSpan) (x : TokenAndSpan) → (if b then o else None) ≡ Some x
    → (b ≡ true) × (o ≡ Some x)
if_edges true o x h = (refl, h)
if_edges false o x h = cc

spans_one : (bs : List ℕ) (named : Bool) (at : ℕ) (p : Piece) (x : TokenAndSpan) → one_of named at p bs ≡ Some x
    → Spans bs at p x
spans_one bs named at p x h =
    let e = if_edges (is_edge bs (at + p.blanks) && is_edge bs (at + p.blanks + p.len))
    (placed at p bs (token_of named p.kind (at + p.blanks) (slice_range bs (at + p.blanks) (at + p.blanks + p.len)))) x
    h in
    let s = spans_placed bs at p (token_of named p.kind (at + p.blanks)
    (slice_range bs (at + p.blanks) (at + p.blanks + p.len))) x e.1 in
    let w = and_true (is_edge bs (at + p.blanks)) (is_edge bs (at + p.blanks + p.len)) e.0 in
    record {
      lo = s.0;
      hi = s.1;
      within = edge_within bs (at + p.blanks + p.len)
          (slice_get bs (at + p.blanks + p.len)) refl w;
    }

record Clean (bs : List ℕ) (r : Reading) (x : TokenAndSpan) (t : Reading) : Type 0 where
  follows : Follows bs r.at x.span
  at : t.at ≡ x.span.hi.0
  runs : t.ended ≡ false

record Stepped (bs : List ℕ) (r : Reading) (x : TokenAndSpan) (t : Reading) : Type 0 where
  lower : bound bs t < bound bs r
  clean : IsClean x → Clean bs r x t

kind_faulty : (k : Kind) (at n : ℕ) (bs : List ℕ) → is_error (fault_of_kind k at n bs).token ≡ true
kind_faulty lexical.Word at n bs = refl
kind_faulty k at n bs = refl

-- a fault is the last token, and none that is clean
by_fault : (bs : List ℕ) (r : Reading) (y x : TokenAndSpan) (t : Reading) → r.ended ≡ false → is_error y.token ≡ true →
    ◌≡◌ {A = TokenAndSpan × Reading} (y, ended r) (x, t) → Stepped bs r x t
by_fault bs r y x t runs faulty is = record {
  lower = subst (λ z. bound bs z < bound bs r) (ap (λ g. g.1) is) (lower_fault bs r runs);
  clean = λ c. let k : false ≡ true = sym c ∙ ap (λ g. is_error g.0.token) (sym is) ∙ faulty in cc;
}

by_piece : (e : End) (bs : List ℕ) (r : Reading) (p : Piece) (o : Option TokenAndSpan) (x : TokenAndSpan) (t : Reading)
    → r.ended ≡ false →
    what_comes e r.state (drop r.at bs) ≡ here_.Piece p → one_of (is_dot r.state.place) r.at p bs ≡ o
    → given_of bs r p o ≡ (x, t) → Stepped bs r x t
by_piece e bs r p None x t runs comes_ is given =
    by_fault bs r (fault_of_kind p.kind (r.at + p.blanks) p.len bs) x t runs
    (kind_faulty p.kind (r.at + p.blanks) p.len bs) given
by_piece e bs r p (Some y) x t runs comes_ is given =
    let same : y ≡ x = ap (λ g. g.0) given in
    let after : read p y r ≡ t = ap (λ g. g.1) given in
    let c = comes e r.state (drop r.at bs) p comes_ in
    let q = placed_at (goal_here r.state (drop r.at bs)) (drop r.at bs) p c.0 in
    let s = spans_one bs (is_dot r.state.place) r.at p y is in
    let lo : x.span.lo.0 ≡ r.at + p.blanks = ap (λ z. z.span.lo.0) (sym same) ∙ s.lo in
    let hi : x.span.hi.0 ≡ r.at + p.blanks + p.len = ap (λ z. z.span.hi.0) (sym same) ∙ s.hi in
    let w = s.within in
    record {
      lower = subst (λ z. bound bs z < bound bs r) after (lower_read e bs r p runs comes_ q.goal w y is);
      clean = λ clean. record {
        follows = record {
          gap = ap (λ n. nat_eq n r.at || nat_eq n (r.at + blanks_len (drop r.at bs))) lo ∙ q.gap r.at;
          order = omega (arith, lo, hi);
          within = omega (arith, hi, w);
        };
        at = ap (λ z. z.at) (sym after) ∙ sym hi;
        runs = ap (λ z. z.ended) (sym after) ∙ runs;
      };
    }

by_here : (e : End) (bs : List ℕ) (r : Reading) (w : Here) (x : TokenAndSpan) (t : Reading) → r.ended ≡ false
    → what_comes e r.state (drop r.at bs) ≡ w →
    next_by bs r w ≡ Some (x, t) → Stepped bs r x t
by_here e bs r here_.Over x t runs is next = cc
by_here e bs r here_.Fault x t runs is next = by_fault bs r (given_fault bs r).0 x t runs refl (some_is _ _ next)
by_here e bs r (here_.Piece p) x t runs is next =
    by_piece e bs r p (one_of (is_dot r.state.place) r.at p bs) x t runs is refl (some_is _ _ next)

by_length : (e : End) (bs : List ℕ) (r : Reading) (b : Bool) (x : TokenAndSpan) (t : Reading) → r.ended ≡ false →
    (if b then Some (given_long bs r) else next_by bs r (what_comes e r.state (drop r.at bs))) ≡ Some (x, t)
    → Stepped bs r x t
by_length e bs r true x t runs next = by_fault bs r (given_long bs r).0 x t runs refl (some_is _ _ next)
by_length e bs r false x t runs next = by_here e bs r (what_comes e r.state (drop r.at bs)) x t runs refl next

stepped : (e : End) (bs : List ℕ) (r : Reading) (x : TokenAndSpan) (t : Reading) → r.ended ≡ false
    → next_of e bs r ≡ Some (x, t) → Stepped bs r x t
stepped e bs r x t runs next =
    by_length e bs r (nat_lt 4294967295 (length bs)) x t runs
    (sym (ap (λ b. if b then None else next_in e bs r) runs) ∙ next)

-- ---- the end

first_or : (a b c : Bool) → (a || b && c) ≡ true → (a || b) ≡ true
first_or true b c h = refl
first_or false true c h = refl
first_or false false c h = cc

over_end : (e : End) (s : State) (bs : List ℕ) → is_over_in_code e s bs ≡ true → is_end e bs ≡ true
over_end Whole s bs h = h
over_end BeforeBrace s bs h = first_or (nat_eq (blanks_len bs) (length bs)) (is_at bs (blanks_len bs) 125)
    (not (has_brace s.frames)) h

over_at : (e : End) (s : State) (g : Goal) (bs : List ℕ) → is_over e s g bs ≡ true → is_end e bs ≡ true
over_at e s goal.Text bs h = cc
over_at e s goal.Delimiter bs h = cc
over_at e s goal.Div bs h = over_end e s bs h
over_at e s goal.RegExp bs h = over_end e s bs h

if_over : (b : Bool) (w : Here) → (w ≡ here_.Over → ⊥) → (if b then here_.Over else w) ≡ here_.Over → b ≡ true
if_over true w never h = refl
if_over false w never h = absurd (never h)

if_piece : (b : Bool) (p : Piece) → (if b then here_.Piece p else here_.Fault) ≡ here_.Over → ⊥
if_piece true p h = cc
if_piece false p h = cc

never_over : (asks : Bool) (bs : List ℕ) (o : Option Piece) → piece_or_fault asks bs o ≡ here_.Over → ⊥
never_over asks bs None h = cc
never_over asks bs (Some p) h = if_piece (moves p && not (gapes asks p bs)) p h

ends_here : (e : End) (bs : List ℕ) (r : Reading) (w : Here) → what_comes e r.state (drop r.at bs) ≡ w
    → next_by bs r w ≡ None → is_end e (drop r.at bs) ≡ true
ends_here e bs r here_.Over is next =
    over_at e r.state (goal_here r.state (drop r.at bs)) (drop r.at bs)
    (if_over (is_over e r.state (goal_here r.state (drop r.at bs)) (drop r.at bs))
    (piece_here (goal_here r.state (drop r.at bs)) (is_asking r.state.place) (drop r.at bs))
    (never_over (is_asking r.state.place) (drop r.at bs)
    (piece_at (goal_here r.state (drop r.at bs)) (drop r.at bs))) is)
ends_here e bs r here_.Fault is next = cc
ends_here e bs r (here_.Piece p) is next = cc

ends_by : (e : End) (bs : List ℕ) (r : Reading) (b : Bool) →
    (if b then Some (given_long bs r) else next_by bs r (what_comes e r.state (drop r.at bs))) ≡ None
    → is_end e (drop r.at bs) ≡ true
ends_by e bs r true next = cc
ends_by e bs r false next = ends_here e bs r (what_comes e r.state (drop r.at bs)) refl next

ends : (e : End) (bs : List ℕ) (r : Reading) → r.ended ≡ false → next_of e bs r ≡ None → is_end e (drop r.at bs) ≡ true
ends e bs r runs next = ends_by e bs r (nat_lt 4294967295 (length bs))
    (sym (ap (λ b. if b then None else next_in e bs r) runs) ∙ next)

-- ---- all tokens

covers_by : (n : ℕ) (e : End) (bs : List ℕ) (r : Reading) → bound bs r ≤ n → r.ended ≡ false
    → (o : Option (TokenAndSpan × Reading)) → next_of e bs r ≡ o →
    All IsClean (tokens_from e bs r) → Covers e bs r.at (tokens_from e bs r)
covers_by n e bs r most runs None next clean = subst (λ l. Covers e bs r.at l) (sym (from_end e bs r next))
    (ends e bs r runs next)
covers_by zero e bs r most runs (Some x) next clean =
    let b = bound_runs bs r runs in let w = (weights r.state).0 in absurd (omega (arith, most, b, w))
covers_by (suc n) e bs r most runs (Some x) next clean =
    let s = stepped e bs r x.0 x.1 runs next in
    let l = s.lower in
    let one = from_next e bs r x.1 x.0 next l in
    let all = subst (λ l. All IsClean l) one clean in
    let c = s.clean (All-head IsClean x.0 (tokens_from e bs x.1) all) in
    let rest = covers_by n e bs x.1 (omega (arith, most, l)) c.runs (next_of e bs x.1) refl
    (All-tail IsClean x.0 (tokens_from e bs x.1) all) in
    subst (λ l. Covers e bs r.at l) (sym one) (c.follows, subst (λ a. Covers e bs a (tokens_from e bs x.1)) c.at rest)

-- the tokens of a text, none of which is a fault
pub covers_of : (e : End) (bs : List ℕ) (at : ℕ) (s : Start) (k : Function) → All IsClean (tokens_of e at s k bs)
    → Covers e bs (begin bs at) (tokens_of e at s k bs)
covers_of e bs at s k clean =
    let r : Reading = first bs at s k in covers_by (bound bs r) e bs r (omega arith) refl (next_of e bs r) refl clean
