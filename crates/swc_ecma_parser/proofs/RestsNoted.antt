-- Which faults the rests among the properties of an object pattern are, as these are looked at one after another.
use Rattle.std.proofs.Common.{◌≡◌, ℕ, ◌+◌, ◌<◌, ◌≤◌, List, [], ◌∷◌, ◌++◌, Option, None, Result, Ok, Err, length, take, map, get_or, refl, sym, ap, subst, ◌∙◌}
use Rattle.std.proofs.lemmas.List.{append_assoc, map-append, take_all, take_more}
use Rattle.swc_context.specs.{declared.error.Error.Error, declared.span.Span.Span}
use Rattle.swc_input.specs.{Recordings.Judges, Recordings.NotesAll, Source.Model, declared.buffer.Buffer.Buffer}
use Rattle.swc_ast.specs.Tree.{Tree, Trees, trees}
use Rattle.swc_steps.proofs.Emitted.{notes-none, notes-then}
use Rattle.swc_input.specs.Calls.{Leads}
use Rattle.swc_patterns.specs.RestFaults.{earlier_faults, faults_before, last_faults, last_refused, last_rest, rest_at, rests_faults, rests_refused}
use Rattle.swc_patterns.specs.declared.object.RestProp.{RestProp}

-- one more property
module _ {F C K : Type 0} where
  last-more : (ts : List (Tree F C K)) (u : Tree F C K) → last_rest (trees (ts ++ u ∷ [])) ≡ rest_at u
  last-more [] u = refl
  last-more (t ∷ []) u = refl
  last-more (t ∷ (v ∷ vs)) u = last-more (v ∷ vs) u

  before-more : (ts : List (Tree F C K)) (u : Tree F C K)
      → faults_before (trees (ts ++ u ∷ [])) ≡ faults_before (trees ts) ++ earlier_faults (last_rest (trees ts))
  before-more [] u = refl
  before-more (t ∷ []) u = last-alone (earlier_faults (rest_at t))
    where
      last-alone : (es : List Error) → es ++ [] ≡ es
      last-alone [] = refl
      last-alone (e ∷ es) = ap (λ v. e ∷ v) (last-alone es)
  before-more (t ∷ (v ∷ vs)) u =
      ap (λ es. earlier_faults (rest_at t) ++ es) (before-more (v ∷ vs) u)
      ∙ sym (append_assoc (earlier_faults (rest_at t)) (faults_before (trees (v ∷ vs)))
      (earlier_faults (last_rest (trees (v ∷ vs)))))

-- From b to c the faults of all rests but the last property were recorded; `last` is that, if it is a rest.
pub record RestsNoted {S F C K : Type 0} (model : Model S) (ts : Trees F C K) (last : Option RestProp) (b c : Buffer S)
    : Type 0 where
  pub notes : NotesAll model (faults_before ts) b c
  pub is : last ≡ last_rest ts

module _ {S X F C K : Type 0} (model : Model S) (tree : X → Tree F C K) where
  pub noted-none : (b : Buffer S) (xs : List X) → RestsNoted model (trees (map tree (take 0 xs))) None b b
  noted-none b xs = record { notes = notes-none model b; is = refl }

  pub noted-more : (xs : List X) (i : ℕ) (x : X) {last new : Option RestProp} {b c d : Buffer S} → i < length xs
      → x ≡ get_or xs i x → Leads model b c → RestsNoted model (trees (map tree (take i xs))) last b c
      → NotesAll model (earlier_faults last) c d → new ≡ rest_at (tree x)
      → RestsNoted model (trees (map tree (take (i + 1) xs))) new b d
  noted-more xs i x {last} {new} {b} {c} {d} lt at leads s k is =
      let ts = map tree (take i xs) in
      let more : map tree (take (i + 1) xs) ≡ ts ++ tree x ∷ [] =
      ap (map tree) (take_more xs i x lt) ∙ map-append tree (take i xs) (get_or xs i x ∷ [])
      ∙ ap (λ v. ts ++ tree v ∷ []) (sym at) in
      let whole = before-more ts (tree x) ∙ ap (λ o. faults_before (trees ts) ++ earlier_faults o) (sym s.is) in
      record {
        notes = subst (λ es. NotesAll model es b d) (sym (ap (λ v. faults_before (trees v)) more ∙ whole))
            (notes-then model leads s.notes k);
        is = is ∙ sym (ap (λ v. last_rest (trees v)) more ∙ last-more ts (tree x));
      }

  later-noted : {T : Type 0} (es fs : List Error) (o : Option Error) (b c d : Buffer S) (r : Result T Error)
      → Leads model b c
      → NotesAll model es b c → Judges model fs o c r d → Judges model (es ++ fs) o b r d
  later-noted es fs o b c d (Ok t) leads h k = (k.0, notes-then model leads h k.1)
  later-noted es fs o b c d (Err e) leads h k = λ n.
      let w = k n in
      record {
        fault = w.fault;
        is = w.is;
        noted = w.noted;
        notes = notes-then model leads h w.notes;
        refused =
            w.refused;
      }

  -- once the last one was checked too
  pub noted-all : {T : Type 0} (xs ys : List X) (i : ℕ) {last : Option RestProp} (b c d : Buffer S)
      (comma : Option Span)
      (r : Result T Error) → xs ≡ ys → length xs ≤ i → Leads model b c
      → RestsNoted model (trees (map tree (take i xs))) last b c
      → Judges model (last_faults last comma) (last_refused last) c r d
      → Judges model (rests_faults (trees (map tree ys)) comma) (rests_refused (trees (map tree ys))) b r d
  noted-all xs ys i {last} b c d comma r same le leads s h =
      let all : take i xs ≡ ys = take_all i xs le ∙ same in
      let whole = trees (map tree (take i xs)) in
      let ended : Judges model (rests_faults whole comma) (rests_refused whole) b r d =
      later-noted (faults_before whole) (last_faults (last_rest whole) comma)
      (rests_refused whole) b c d r leads s.notes
      (subst (λ o. Judges model (last_faults o comma) (last_refused o) c r d) s.is h) in
      subst (λ v. Judges model (rests_faults (trees (map tree v)) comma) (rests_refused (trees (map tree v))) b r d)
      all ended
