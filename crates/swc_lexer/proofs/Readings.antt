-- What comes next in a text.
use Rattle.std.proofs.Common.{◌≡◌, ℕ, ◌+◌, ◌-◌, ◌*◌, ◌<◌, ◌≤◌, Bool, true, false, List, length, take, drop, Option, Some, None, refl, sym, ap, ◌∙◌, arith, length-drop, subst}
use Rattle.std.specs.Prelude.{nat_lt, if◌then◌else◌, ◌&&◌, ◌||◌, not, slice_range, Result, Ok, Err, IfOk}
use Rattle.std.proofs.Math.Seq.{take-length}
use Rattle.swc_input.specs.declared.token.TokenAndSpan.{TokenAndSpan}
use Rattle.swc_lexical.specs.{declared.lexeme.Kind.Kind, declared.scan.Goal.Goal, declared.scan.Piece.Piece, Blanks.blanks_len, Blanks.has_break, Templates.text_len}
use Rattle.swc_lexical.specs.Scans.{piece_at, text_of, gapes}
use Rattle.swc_lexer.specs.Coming.{lt_true, lt_false, is_lt, next_ended}
use Rattle.swc_lexer.specs.{declared.reader.End.End, declared.reader.Here.Here, Marks.mark_of, Tokens.token_of}
use Rattle.swc_lexer.specs.Places.{is_template, is_asking, wants_regexp, is_dot}
use Rattle.swc_lexer.specs.Stacks.{State, innermost, is_chars}
use Rattle.swc_lexer.specs.Readings.{Reading, Gives, gave, stopped, bound, weight, is_text, read, moves, ended, given, given_of, AreGiven, given_fault, given_long, one_of, placed, piece_here, piece_or_fault, is_over, goal_here, what_comes, next_by, next_in, next_of, is_edge}
use Rattle.swc_lexical.specs.declared.lexeme.Kind.TheVariants as lexical
use Rattle.swc_lexical.specs.declared.scan.Goal.TheVariants as goal
use Rattle.swc_lexer.specs.declared.reader.Here.TheVariants as here_
use Rattle.swc_lexer.specs.Stacks as stacks

-- the rest of a text, as code cuts it
pub cut_is : (bs : List ℕ) (at : ℕ) → take (length bs - at) (drop at bs) ≡ drop at bs
cut_is bs at = ap (λ n. take n (drop at bs)) (sym (length-drop at bs)) ∙ take-length (drop at bs)

-- ---- what the next token is

next_runs : (e : End) (bs : List ℕ) (r : Reading) → r.ended ≡ false → next_of e bs r ≡ next_in e bs r
next_runs e bs r h = ap (λ b. if b then None else next_in e bs r) h

next_long : (e : End) (bs : List ℕ) (r : Reading) → r.ended ≡ false → 4294967295 < length bs
    → next_of e bs r ≡ Some (given_long bs r)
next_long e bs r h l =
    next_runs e bs r h
    ∙ ap (λ b. if b then Some (given_long bs r) else next_by bs r (what_comes e r.state (drop r.at bs)))
    (lt_true 4294967295 (length bs) l)

next_is : (e : End) (bs : List ℕ) (r : Reading) (w : Here) → r.ended ≡ false → length bs ≤ 4294967295
    → what_comes e r.state (drop r.at bs) ≡ w →
    next_of e bs r ≡ next_by bs r w
next_is e bs r w h l c =
    next_runs e bs r h
    ∙ ap (λ b. if b then Some (given_long bs r) else next_by bs r (what_comes e r.state (drop r.at bs)))
    (lt_false 4294967295 (length bs) l)
    ∙ ap (next_by bs r) c

-- ---- each token leaves less

abbrev weight_if : Bool → Bool → ℕ
weight_if t h = if t && not h then 2 else 1

weight_between : (t h : Bool) → (1 ≤ weight_if t h) × (weight_if t h ≤ 2)
weight_between true true = (omega arith, omega arith)
weight_between true false = (omega arith, omega arith)
weight_between false h = (omega arith, omega arith)

pub weights : (s : State) → (1 ≤ weight s) × (weight s ≤ 2)
weights s = weight_between (is_template (innermost s.frames)) s.place.has_text

weight_with_text : (t h : Bool) → h ≡ true → weight_if t h ≡ 1
weight_with_text true true e = refl
weight_with_text true false e = cc
weight_with_text false h e = refl

weight_by_goal : (t h w : Bool)
    → (if t then (if h then goal.Delimiter else goal.Text) else (if w then goal.RegExp else goal.Div)) ≡ goal.Text →
    weight_if t h ≡ 2
weight_by_goal true true w e = cc
weight_by_goal true false w e = refl
weight_by_goal false h true e = cc
weight_by_goal false h false e = cc

weight_at_text : (s : State) (breaks : Bool) → stacks.goal s breaks ≡ goal.Text → weight s ≡ 2
weight_at_text s breaks e = weight_by_goal (is_template (innermost s.frames)) s.place.has_text
    (wants_regexp s.place.before breaks) e

pub bound_runs : (bs : List ℕ) (r : Reading) → r.ended ≡ false → bound bs r ≡ 2 * (length bs - r.at) + weight r.state
bound_runs bs r h = ap (λ b. if b then 0 else (2 * (length bs - r.at) + weight r.state)) h

pub lower_fault : (bs : List ℕ) (r : Reading) → r.ended ≡ false → bound bs (ended r) < bound bs r
lower_fault bs r h =
    let z : bound bs (ended r) ≡ 0 = refl in let b = bound_runs bs r h in let w = weights r.state in
    omega (arith, z, b, w.0)

-- what is known of a piece that comes next
over_else : (b : Bool) (h : Here) (p : Piece) → (if b then here_.Over else h) ≡ here_.Piece p → h ≡ here_.Piece p
over_else true h p e = cc
over_else false h p e = e

if_piece : (b : Bool) (q p : Piece) → (if b then here_.Piece q else here_.Fault) ≡ here_.Piece p → (b ≡ true) × (q ≡ p)
if_piece true q p e = (refl, (cc))
if_piece false q p e = cc

and_left : (a b : Bool) → (a && b) ≡ true → a ≡ true
and_left true b h = refl
and_left false b h = cc

or_fault : (asks : Bool) (bs : List ℕ) (o : Option Piece) (p : Piece) → piece_or_fault asks bs o ≡ here_.Piece p
    → (o ≡ Some p) × (moves p ≡ true)
or_fault asks bs None p e = cc
or_fault asks bs (Some q) p e =
    let f = if_piece (moves q && not (gapes asks q bs)) q p e in
    (ap Some f.1, ap moves (sym f.1) ∙ and_left (moves q) (not (gapes asks q bs)) f.0)

pub comes : (e : End) (s : State) (bs : List ℕ) (p : Piece) → what_comes e s bs ≡ here_.Piece p
    → (piece_at (goal_here s bs) bs ≡ Some p) × (moves p ≡ true)
comes e s bs p h =
    or_fault (is_asking s.place) bs (piece_at (goal_here s bs) bs) p
    (over_else (is_over e s (goal_here s bs) bs) (piece_here (goal_here s bs) (is_asking s.place) bs) p h)

abbrev kind_or : Option Piece → Kind
kind_or None = lexical.Text
kind_or (Some p) = p.kind

text_kind : (o : Option ℕ) (p : Piece) → text_of o ≡ Some p → p.kind ≡ lexical.Text
text_kind None p h = cc
text_kind (Some n) p h = ap kind_or (sym h)

kind_at_text : (g : Goal) (bs : List ℕ) (p : Piece) → piece_at g bs ≡ Some p → g ≡ goal.Text → p.kind ≡ lexical.Text
kind_at_text g bs p h e = text_kind (text_len bs) p (subst (λ x. piece_at x bs ≡ Some p) e h)

abbrev chars_or : Option TokenAndSpan → Bool
chars_or None = true
chars_or (Some t) = is_chars (mark_of t.token)

-- the text of a template is one
chars_if : (b named : Bool) (at lo : ℕ) (p : Piece) (bs part : List ℕ) (k : Kind) (t : TokenAndSpan)
    → k ≡ lexical.Text →
    (if b then placed at p bs (token_of named k lo part) else None) ≡ Some t → is_chars (mark_of t.token) ≡ true
chars_if false named at lo p bs part k t e h = cc
chars_if true named at lo p bs part k t e h = ap chars_or
    (sym (subst (λ x. placed at p bs (token_of named x lo part) ≡ Some t) e h))

chars_of : (named : Bool) (at : ℕ) (p : Piece) (bs : List ℕ) (t : TokenAndSpan) → p.kind ≡ lexical.Text
    → one_of named at p bs ≡ Some t → is_chars (mark_of t.token) ≡ true
chars_of named at p bs t e h =
    chars_if (is_edge bs (at + p.blanks) && is_edge bs (at + p.blanks + p.len)) named at (at + p.blanks) p bs
    (slice_range bs (at + p.blanks) (at + p.blanks + p.len)) p.kind t e h

or_right : (a b : Bool) → (a || b) ≡ true → a ≡ false → b ≡ true
or_right true b h e = cc
or_right false b h e = h

goal_text : (g : Goal) → is_text g ≡ true → g ≡ goal.Text
goal_text goal.Text h = refl
goal_text goal.Div h = cc
goal_text goal.RegExp h = cc
goal_text goal.Delimiter h = cc

-- a token that takes a byte at least, and the text of a template
lower_some : (bs : List ℕ) (r : Reading) (p : Piece) (t : TokenAndSpan) → r.ended ≡ false
    → r.at + p.blanks + p.len ≤ length bs → 0 < p.len →
    bound bs (read p t r) < bound bs r
lower_some bs r p t h le some =
    let b = bound_runs bs r h in
    let a : bound bs (read p t r) ≡ 2 * (length bs - (r.at + p.blanks + p.len)) + weight (read p t r).state =
    bound_runs bs (read p t r) h in
    let w = weights r.state in
    let v = weights (read p t r).state in
    omega (arith, a, b, w.0, v.1, le, some)

lower_text : (bs : List ℕ) (r : Reading) (p : Piece) (t : TokenAndSpan) → r.ended ≡ false → weight r.state ≡ 2
    → weight (read p t r).state ≡ 1 →
    bound bs (read p t r) < bound bs r
lower_text bs r p t h before after =
    let b = bound_runs bs r h in
    let a : bound bs (read p t r) ≡ 2 * (length bs - (r.at + p.blanks + p.len)) + weight (read p t r).state =
    bound_runs bs (read p t r) h in
    omega (arith, a, b, before, after)

module _ (e : End) (bs : List ℕ) (r : Reading) (p : Piece) (runs : r.ended ≡ false)
    (next : what_comes e r.state (drop r.at bs) ≡ here_.Piece p)
    (same : p.goal ≡ goal_here r.state (drop r.at bs)) (within : r.at + p.blanks + p.len ≤ length bs) where
  pub lower_read : (t : TokenAndSpan) → one_of (is_dot r.state.place) r.at p bs ≡ Some t
      → bound bs (read p t r) < bound bs r
  lower_read t h = elim (nat_lt 0 p.len) as (λ b. nat_lt 0 p.len ≡ b → bound bs (read p t r) < bound bs r) [
    | true ↦ (λ l. lower_some bs r p t runs within (is_lt 0 p.len l))
    | false ↦ (λ l.
        let c = comes e r.state (drop r.at bs) p next in
        let g : goal_here r.state (drop r.at bs) ≡ goal.Text =
        sym same ∙ goal_text p.goal (or_right (nat_lt 0 p.len) (is_text p.goal) c.1 l) in
        let k : p.kind ≡ lexical.Text = kind_at_text (goal_here r.state (drop r.at bs)) (drop r.at bs) p c.0 g in
        let has : is_chars (mark_of t.token) ≡ true = chars_of (is_dot r.state.place) r.at p bs t k h in
        lower_text bs r p t runs (weight_at_text r.state (has_break (drop r.at bs) (blanks_len (drop r.at bs))) g)
        (weight_with_text (is_template (innermost (read p t r).state.frames)) (is_chars (mark_of t.token)) has))
  ] refl

  lower_given : bound bs (given bs r p).1 < bound bs r
  lower_given = elim (one_of (is_dot r.state.place) r.at p bs) as
      (λ o. one_of (is_dot r.state.place) r.at p bs ≡ o → bound bs (given_of bs r p o).1 < bound bs r) [
        | None ↦ (λ h. lower_fault bs r runs)
        | Some t ↦ (λ h. lower_read t h)
      ] refl

  pub gives_piece : (t : Reading) (x : TokenAndSpan) → length bs ≤ 4294967295 → (x, t) ≡ given bs r p
      → Gives e bs r (Some x) t
  gives_piece t x small is =
      gave (next_is e bs r (here_.Piece p) runs small next ∙ ap Some (sym is))
      (subst (λ g. bound bs g.1 < bound bs r) (sym is) lower_given)

-- the same, of what code compares and answers
module _ (e : End) (bytes rest bs : List ℕ) (r : Reading) (p : Piece) (w : Here) (runs : r.ended ≡ false)
    (text : bytes ≡ bs) (cut : rest ≡ drop r.at bytes)
    (comes : w ≡ what_comes e r.state rest) (is : w ≡ here_.Piece p) (same : p.goal ≡ goal_here r.state rest)
    (within : p.blanks + p.len ≤ length rest)
    (le : r.at ≤ length bs) (small : length bs ≤ 4294967295) where
  gives_read : (t : Reading) (x : TokenAndSpan) → (x, t) ≡ given bs r p → Gives e bs r (Some x) t
  gives_read t x gives =
      let f : rest ≡ drop r.at bs = cut ∙ ap (drop r.at) text in
      let n = ap length f in
      let l = length-drop r.at bs in
      gives_piece e bs r p runs (ap (what_comes e r.state) (sym f) ∙ sym comes ∙ is) (same ∙ ap (goal_here r.state) f)
      (omega (arith, within, n, l, le)) t x small gives

  pub gives_ok : {E : Type 0} (a : Result (Option TokenAndSpan) E) (t : Reading)
      → IfOk a (λ o. AreGiven o t (given bs r p)) → IfOk a (λ o. Gives e bs r o t)
  gives_ok (Err x) t h = tt
  gives_ok (Ok o) t h =
      subst (λ q. Gives e bs r q t) (sym h.0) (gives_read t (given bs r p).0 (ap (λ u. ((given bs r p).0, u)) h.1))

pub gives_fault : (e : End) (bs : List ℕ) (r t : Reading) (x : TokenAndSpan) → r.ended ≡ false
    → length bs ≤ 4294967295 →
    what_comes e r.state (drop r.at bs) ≡ here_.Fault → (x, t) ≡ given_fault bs r → Gives e bs r (Some x) t
gives_fault e bs r t x runs small next is =
    gave (next_is e bs r here_.Fault runs small next ∙ ap Some (sym is))
    (subst (λ g. bound bs g.1 < bound bs r) (sym is) (lower_fault bs r runs))

pub gives_long : (e : End) (bs : List ℕ) (r t : Reading) (x : TokenAndSpan) → r.ended ≡ false → 4294967295 < length bs
    → (x, t) ≡ given_long bs r →
    Gives e bs r (Some x) t
gives_long e bs r t x runs long is =
    gave (next_long e bs r runs long ∙ ap Some (sym is))
    (subst (λ g. bound bs g.1 < bound bs r) (sym is) (lower_fault bs r runs))

pub gives_over : (e : End) (bs : List ℕ) (r t : Reading) → r.ended ≡ false → length bs ≤ 4294967295
    → what_comes e r.state (drop r.at bs) ≡ here_.Over →
    t.ended ≡ true → Gives e bs r None t
gives_over e bs r t runs small next over = stopped (next_is e bs r here_.Over runs small next) over

pub gives_none : (e : End) (bs : List ℕ) (r : Reading) → r.ended ≡ true → Gives e bs r None r
gives_none e bs r h = stopped (next_ended e bs r h) h
