-- What is kept of the tokens that a source gave.
use Rattle.std.proofs.Common.{◌≡◌, ◌-◌, ℕ, suc, false, List, [], ◌∷◌, ◌++◌, length, map, refl, sym, ap, subst, ◌∙◌, arith, append_assoc}
use Rattle.std.proofs.{lemmas.Bool.le-ltb, lemmas.List.append-nil}
use Rattle.std.specs.List.{slice_get}
use Rattle.swc_input.specs.Buffer.{Took, source, held}
use Rattle.swc_input.specs.Kept.{is_late, kept_on, kept_of, one_by_one}
use Rattle.swc_input.specs.{declared.buffer.Buffer.Buffer, declared.capturing.Capturing.Capturing, declared.token.Token.Token, declared.token.TokenAndSpan.TokenAndSpan, Capturing.capturing_model, Capturing.tokens_kept, Plain.plain, Source.Model}
use Rattle.swc_input.proofs.Kept.{all_kept}

last-ends : (ts : List TokenAndSpan) (x : TokenAndSpan) (xs : List TokenAndSpan) → one_by_one (ts ++ x ∷ xs)
    → is_late x.span.lo (slice_get ts (length ts - 1)) ≡ false
last-ends [] x xs o = refl
last-ends (t ∷ []) x xs o = le-ltb x.span.lo.0 t.span.hi.0 o.0
last-ends (t ∷ u ∷ us) x xs o =
    let e : length (t ∷ u ∷ us) - 1 ≡ suc (length (u ∷ us) - 1) = omega arith in
    ap (λ n. is_late x.span.lo (slice_get (t ∷ u ∷ us) n)) e ∙ last-ends (u ∷ us) x xs o.1

-- where each token begins where the one before it ends, or after, all are kept
pub kept-one-by-one : (ts xs : List TokenAndSpan) → one_by_one (ts ++ xs) → kept_on ts xs ≡ ts ++ xs
kept-one-by-one ts [] o = sym (append-nil ts)
kept-one-by-one ts (x ∷ xs) o =
    let same = append_assoc ts (x ∷ []) xs in
    ap (λ l. kept_on l xs) (all_kept ts x (last-ends ts x xs o)) ∙ kept-one-by-one (ts ++ x ∷ []) xs
    (subst one_by_one (sym same) o) ∙ same

abbrev token : Token → ℕ → ℕ → TokenAndSpan
token t from to = record {
  token = t;
  had_line_break = false;
  span =
      record { lo = record { 0 = from }; hi = record { 0 = to } };
}

-- an empty token stays: the text between a backquote and `${`
empty-stays : (a b c : Token) → kept_of (token a 0 1 ∷ token b 1 1 ∷ token c 1 3 ∷ []) ≡ token a 0 1 ∷ token b 1 1
    ∷ token c 1 3 ∷ []
empty-stays a b c = refl

-- a slash goes, where a regular expression begins at it
slash-goes : (a b : Token) → kept_of (token a 0 1 ∷ token b 0 3 ∷ []) ≡ token b 0 3 ∷ []
slash-goes a b = refl

-- Of all that a new buffer, over a source of which nothing was kept yet, took from it, that is kept by the rule: what
-- was consumed, and then what is held. The source within gave the same, and after it the token that was lost, if one
-- was.
pub captured : {S : Type 0} (model : Model S) (b c : Buffer (Capturing S)) (xs : List TokenAndSpan) → held b ≡ []
    → tokens_kept (source b) ≡ [] →
    Took (capturing_model model) b xs c → map plain (tokens_kept (source c)) ≡ kept_of (xs ++ held c)
captured model b c xs none new took =
    let given : took.given ≡ xs ++ held c = ap (λ l. l ++ took.given) (sym none) ∙ took.balance in
    took.gave.kept ∙ ap (λ l. kept_on (map plain l) took.given) new ∙ ap kept_of given
