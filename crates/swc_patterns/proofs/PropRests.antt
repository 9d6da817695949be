-- Rests among the properties of an object pattern, as they are looked at one after another.
use Rattle.std.proofs.Common.{◌≡◌, ℕ, zero, suc, ◌+◌, ◌<◌, ◌≤◌, Bool, true, false, not, ◌&&◌, if◌then◌else◌, List, [], ◌∷◌, Option, Some, None, Result, Ok, Err, IfOk, IfSome, OnOk, length, take, map, get_or, refl, sym, ap, subst, ◌∙◌, add-one, arith}
use Rattle.std.proofs.lemmas.Option.{slice_get-get_or}
use Rattle.std.specs.{Option.is_some, Prelude.slice_get, declared.alloc.AllocError.AllocError}
use Rattle.swc_context.specs.{Spans.in_order, declared.error.Error.Error, declared.error.SyntaxError.TheVariants.CommaAfterRestElement, declared.error.SyntaxError.TheVariants.DotsWithoutIdentifier, declared.span.Span.Span}
use Rattle.swc_input.specs.Recordings.{Judges, NotesAll, RefusesAfter}
use Rattle.swc_input.specs.{declared.buffer.Buffer.Buffer, declared.token.TokenAndSpan.TokenAndSpan, Recording.Refused, Source.Model, Source.Laws}
use Rattle.swc_ast.specs.Tree.{Tree, Trees, nil, cons, trees}
use Rattle.swc_ast.specs.{Patterns.holds_ident, Trees.trees_append, declared.spanned.Spanned.Ghosts}
use Rattle.swc_grammar.specs.Scope.{Scope}
use Rattle.swc_nodes.specs.NodeParts.{Part, flat, pat_part}
use Rattle.swc_nodes.specs.GrowingNodes.{count, seat_at, Apart, Made}
use Rattle.swc_nodes.specs.{declared.node.PatId.PatId, declared.nodes.Nodes.Nodes}
use Rattle.swc_nodes.proofs.Chains.{chain-first, chain-second, chain-up, floor-under}
use Rattle.swc_input.specs.Calls.{Checked, Checks}
use Rattle.swc_steps.specs.Parsing.{ContinuesAlone}
use Rattle.swc_steps.proofs.Emitted.{notes-none}
use Rattle.swc_steps.proofs.Steps.{not_false, not_true, check_passes, checks_and, on_checked, continues_after, unheard_memory}
use Rattle.swc_patterns.specs.Objects.{is_rest, props_stage, last_stage, rests_checked}
use Rattle.swc_patterns.specs.Rests.{Stage, closing, never}
use Rattle.swc_patterns.specs.{RestFaults.last_faults, RestFaults.last_refused, declared.object.RestProp.RestProp}
use Rattle.swc_patterns.proofs.Objects.{stage_with, stage_more}

-- each of items that lie apart
module _ {X F C K : Type 0} {fg : Ghosts F} {cg : Ghosts C} {kg : Ghosts K} (parts : X → List Part) where
  nth_apart : {ns : Nodes F C K fg cg kg} (xs : List X) (j : ℕ) (x : X) → slice_get xs j ≡ Some x
      → Apart 0 ns (flat parts xs) → Apart 0 ns (parts x)
  nth_apart [] j x e a = cc
  nth_apart {ns} (y ∷ ys) zero x e a =
      let same : y ≡ x = cc in
      let at = seat_at ns in
      let front = chain-first at 0 (parts y) (flat parts ys) (count ns) a.chained in
      let back = chain-second at 0 (parts y) (flat parts ys) (count ns) a.chained in
      subst (λ v. Apart 0 ns (parts v)) same (record {
        chained = chain-up at 0 (parts y) _ (count ns) (floor-under at 0 (flat parts ys) (count ns) back) front;
      })
  nth_apart {ns} (y ∷ ys) (suc j) x e a =
      nth_apart ys j x e (record {
        chained = chain-second (seat_at ns) 0 (parts y) (flat parts ys) (count ns) a.chained;
      })

  pub item_apart : {ns : Nodes F C K fg cg kg} (xs ys : List X) (j : ℕ) (x : X) → xs ≡ ys → j < length xs
      → x ≡ get_or xs j x → Apart 0 ns (flat parts ys) → Apart 0 ns (parts x)
  item_apart {ns} xs ys j x same lt at a =
      subst (λ v. Apart 0 ns (parts v)) (sym at) (nth_apart xs j (get_or xs j x) (slice_get-get_or xs j x lt)
      (subst (λ v. Apart 0 ns (flat parts v)) (sym same) a))

module _ {X F C K : Type 0} (tree : X → Tree F C K) where
  take_suc : (xs : List X) (i : ℕ) (x : X) → slice_get xs i ≡ Some x
      → trees (map tree (take (suc i) xs)) ≡ trees_append (trees (map tree (take i xs))) (cons (tree x) nil)
  take_suc [] i x e = cc
  take_suc (y ∷ ys) zero x e = let same : y ≡ x = cc in ap (λ v. cons (tree v) nil) same
  take_suc (y ∷ ys) (suc i) x e = ap (cons (tree y)) (take_suc ys i x e)

  take_more : (xs : List X) (i : ℕ) (x : X) → i < length xs → x ≡ get_or xs i x
      → trees (map tree (take (i + 1) xs)) ≡ trees_append (trees (map tree (take i xs))) (cons (tree x) nil)
  take_more xs i x lt at =
      ap (λ v. trees (map tree (take v xs))) (add-one i) ∙ take_suc xs i (get_or xs i x) (slice_get-get_or xs i x lt)
      ∙ ap (λ v. trees_append (trees (map tree (take i xs))) (cons (tree v) nil)) (sym at)

  take_all : (xs : List X) (i : ℕ) → length xs ≤ i → trees (map tree (take i xs)) ≡ trees (map tree xs)
  take_all [] zero h = refl
  take_all [] (suc i) h = refl
  take_all (x ∷ xs) zero h = absurd (omega (arith, h))
  take_all (x ∷ xs) (suc i) h = ap (cons (tree x)) (take_all xs i (omega (arith, h)))

-- the stage after the last of properties, where none before it is a rest
abbrev stage_if : Bool → Stage → Stage
stage_if well s = if well then s else never

-- From b to c all rests of the properties but the last one were checked; `last` is that, if it is a rest.
pub record RestsSeen {S F C K : Type 0} (model : Model S) (ts : Trees F C K) (last : Option RestProp) (b c : Buffer S)
    : Type 0 where
  pub well : Bool
  pub checks : Checks model well b c
  pub stage : (comma : Option Span) → props_stage ts comma ≡ stage_if well (last_stage last comma)

with_last : (well : Bool) (last : Option RestProp) (s : Stage)
    → stage_with (stage_if well (last_stage last None)) s ≡ stage_if (well && not (is_some last)) s
with_last true None s = refl
with_last true (Some r) s = by_name r.is_name
  where
    by_name : (i : Bool) → stage_with (if i then closing else never) s ≡ never
    by_name true = refl
    by_name false = refl
with_last false last s = refl

-- the last rest is as it has to be: over a name, with no comma after it
pub last_checked : (o : Option RestProp) (r : RestProp) (comma : Option Span) (x : Scope) (ts : List TokenAndSpan)
    → o ≡ Some r → not r.is_name ≡ false → comma ≡ None → rests_checked (last_stage o comma) x ts ≡ Some (tt {0}, ts)
last_checked o r comma x ts e h n = rw (e, not_false r.is_name h, n) refl

pub unnamed : (o : Option RestProp) (r : RestProp) (comma : Option Span) (x : Scope) (ts : List TokenAndSpan)
    → o ≡ Some r
    → not r.is_name ≡ true → rests_checked (last_stage o comma) x ts ≡ None
unnamed o r comma x ts e h = rw (e, not_true r.is_name h) refl

module _ {S : Type 0} (model : Model S) where
  -- over no name
  pub last_dotted : (b c : Buffer S) (o : Option RestProp) (r : RestProp) (comma : Option Span) {e : Error} {at : Span}
      → o ≡ Some r → not r.is_name ≡ true → at ≡ in_order r.span
      → Refused model b (λ here. record { span = at; kind = DotsWithoutIdentifier }) e c
      → RefusesAfter model (last_faults o comma) (last_refused o) b e c
  last_dotted b c o r comma {e} {at} is h place refused = record {
    fault = record { span = at; kind = DotsWithoutIdentifier };
    is = rw (is, not_true r.is_name h, place) refl;
    noted = b;
    notes = rw (is, not_true r.is_name h) (notes-none model b);
    refused = refused;
  }

  -- over a name, with no comma after it
  pub last_named : (b : Buffer S) (o : Option RestProp) (r : RestProp) (comma : Option Span) → o ≡ Some r
      → not r.is_name ≡ false → comma ≡ None → (last_refused o ≡ None) × NotesAll model (last_faults o comma) b b
  last_named b o r comma is h none = rw (is, not_false r.is_name h, none) (refl, notes-none model b)

  -- or with one
  comma_ill : (o : Option RestProp) (r : RestProp) (comma : Option Span) {s : Span} → o ≡ Some r → not r.is_name ≡ false
      → comma ≡ Some s → (x : Scope) (ts : List TokenAndSpan) → rests_checked (last_stage o comma) x ts ≡ None
  comma_ill o r comma is h there x ts = rw (is, not_false r.is_name h, there) refl

  pub comma_checked : (b c : Buffer S) (o : Option RestProp) (r : RestProp) (comma : Option Span) {s : Span}
      (q : Result (Unit {0}) Error) → o ≡ Some r → not r.is_name ≡ false → comma ≡ Some s → Checked model false b q c
      → ContinuesAlone model (λ u. u) (rests_checked (last_stage o comma)) b q c
  comma_checked b c o r comma (Ok t) is h there k = λ sure.
      on_checked false k (λ x ts w. cc) (λ x ts w. comma_ill o r comma is h there x ts)
  comma_checked b c o r comma (Err e) is h there k = λ sure. unheard_memory k

  pub comma_judged : (b c : Buffer S) (o : Option RestProp) (r : RestProp) (comma : Option Span) {s : Span}
      (q : Result (Unit {0}) Error) → o ≡ Some r → not r.is_name ≡ false → comma ≡ Some s
      → OnOk q (NotesAll model (record { span = s; kind = CommaAfterRestElement } ∷ []) b c)
      → Checked model false b q c → Judges model (last_faults o comma) (last_refused o) b q c
  comma_judged b c o r comma (Ok t) is h there notes k = rw (is, not_false r.is_name h, there) (refl, notes)
  comma_judged b c o r comma (Err e) is h there notes k = λ n. absurd (n k.kind)

last_is : {F C K : Type 0} (t : Tree F C K) (new : Option RestProp) → is_some new ≡ is_rest t
    → IfSome new (λ r. r.is_name ≡ holds_ident t) → (comma : Option Span)
    → props_stage (cons t nil) comma ≡ last_stage new comma
last_is t None e h comma = rw (sym e) refl
last_is t (Some r) e h comma = rw (sym e, sym h) refl

module _ {S X F C K : Type 0} {model : Model S} (tree : X → Tree F C K) where
  pub seen_none : (laws : Laws model) (b : Buffer S) (xs : List X)
      → RestsSeen model (trees (map tree (take 0 xs))) None b b
  seen_none laws b xs = record { well = true; checks = check_passes true laws b refl; stage = λ comma. refl }

  pub seen_more : (xs : List X) (i : ℕ) (x : X) {last : Option RestProp} {b c e : Buffer S} (new : Option RestProp)
      → i < length xs → x ≡ get_or xs i x → RestsSeen model (trees (map tree (take i xs))) last b c
      → Checks model (not (is_some last)) c e → is_some new ≡ is_rest (tree x)
      → IfSome new (λ r. r.is_name ≡ holds_ident (tree x))
      → RestsSeen model (trees (map tree (take (i + 1) xs))) new b e
  seen_more xs i x {last} new lt at s k r n = record {
    well = s.well && not (is_some last);
    checks = checks_and s.well (not (is_some last)) s.checks k;
    stage = λ comma.
        ap (λ v. props_stage v comma) (take_more tree xs i x lt at)
        ∙ stage_more (trees (map tree (take i xs))) None (tree x) comma
        ∙ ap (λ v. stage_with v (props_stage (cons (tree x) nil) comma)) (s.stage None)
        ∙ with_last s.well last (props_stage (cons (tree x) nil) comma)
        ∙ ap (stage_if (s.well && not (is_some last))) (last_is (tree x) new r n comma);
  }

  -- once the last one was checked too
  pub seen_all : (xs ys : List X) (i : ℕ) {last : Option RestProp} {b c : Buffer S} (comma : Option Span)
      (e : Buffer S) (r : Result (Unit {0}) Error) → xs ≡ ys → length xs ≤ i
      → RestsSeen model (trees (map tree (take i xs))) last b c
      → ContinuesAlone model (λ u. u) (rests_checked (last_stage last comma)) c r e
      → ContinuesAlone model (λ u. u) (rests_checked (props_stage (trees (map tree ys)) comma)) b r e
  seen_all xs ys i {last} {b} {c} comma e r same le s h = λ sure.
      let whole = ap (λ v. trees (map tree v)) (sym same) ∙ sym (take_all tree xs i le) in
      let is = ap (λ v. props_stage v comma) whole ∙ s.stage comma in
      continues_after model sure (λ u. u) (rests_checked (props_stage (trees (map tree ys)) comma)) e r
      (on_checked s.well s.checks
      (λ x ts w. ap (λ v. rests_checked v x ts) (is ∙ ap (λ v. stage_if v (last_stage last comma)) w))
      (λ x ts w. ap (λ v. rests_checked v x ts) (is ∙ ap (λ v. stage_if v (last_stage last comma)) w)))
      (h sure)

-- a node over parts that lie apart from the number j on
pub pat_made_over : {F C K : Type 0} {fg : Ghosts F} {cg : Ghosts C} {kg : Ghosts K} (ns ms : Nodes F C K fg cg kg)
    (j : ℕ) (ps : List Part) (t : Tree F C K) (q : Result PatId AllocError)
    → IfOk q (λ id. (k : ℕ) → Apart k ns ps → Made k ms (pat_part id) t) → Apart j ns ps
    → IfOk q (λ id. Made j ms (pat_part id) t)
pat_made_over ns ms j ps t (Ok x) f a = f j a
pat_made_over ns ms j ps t (Err e) f a = tt
