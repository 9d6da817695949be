-- Looking for a keyword.
use Rattle.std.proofs.Common.{◌≡◌, ℕ, zero, suc, ◌+◌, ◌<◌, ◌≤◌, true, false, if◌then◌else◌, nat_eq, List, [], ◌∷◌, length, drop, Option, Some, None, refl, sym, ap, ◌∙◌, arith, length-drop, slice_get, ⊎_elim}
use Rattle.std.proofs.lemmas.Bool.Decides.{eqb_tells}
use Rattle.swc_context.specs.Words.{keyword_text, keywords, keyword_among, keyword_of}
use Rattle.swc_context.specs.{Texts.is_text, declared.word.Keyword.Keyword, declared.word.Keyword.Keyword as keyword}
use Rattle.std.specs.{Prelude.◌==◌, Cmp.Lexicographic.unequal}

-- the text is looked for among the keywords that are left
pub record AmongTo (w : List ℕ) (ks : List Keyword) (at : ℕ) : Type 0 where
  pub within : at ≤ length ks
  pub left : keyword_among w (drop at ks) ≡ keyword_among w ks

pub among_begin : (w : List ℕ) (ks : List Keyword) → AmongTo w ks 0
among_begin w ks = record { within = omega arith; left = refl }

-- those of a length
abbrev pub of_length : ℕ → List Keyword → List Keyword
of_length n [] = []
of_length n (k ∷ ks) = if nat_eq n (length (keyword_text k)) then k ∷ of_length n ks else of_length n ks

skip : (w : List ℕ) (ks : List Keyword) (at : ℕ) (k : Keyword) → slice_get ks at ≡ Some k
    → false ≡ is_text w (keyword_text k) → keyword_among w (drop (suc at) ks) ≡ keyword_among w (drop at ks)
skip w [] zero k h f = cc
skip w [] (suc at) k h f = cc
skip w (x ∷ ks) zero k h f = let e : x ≡ k = cc in rw (e, ← f) refl
skip w (x ∷ ks) (suc at) k h f = skip w ks at k h f

hit : (w : List ℕ) (ks : List Keyword) (at : ℕ) (k : Keyword) → slice_get ks at ≡ Some k
    → true ≡ is_text w (keyword_text k) → Some k ≡ keyword_among w (drop at ks)
hit w [] zero k h f = cc
hit w [] (suc at) k h f = cc
hit w (x ∷ ks) zero k h f = let e : x ≡ k = cc in rw (e, ← f) refl
hit w (x ∷ ks) (suc at) k h f = hit w ks at k h f

over : (w : List ℕ) (ks : List Keyword) → length ks ≡ 0 → None ≡ keyword_among w ks
over w [] h = refl
over w (k ∷ ks) h = absurd (omega (arith, h))

pub among_hit : (w : List ℕ) (ks : List Keyword) (at : ℕ) (k : Keyword) (t : List ℕ) → AmongTo w ks at
    → slice_get ks at ≡ Some k → t ≡ keyword_text k → true ≡ is_text w t → Some k ≡ keyword_among w ks
among_hit w ks at k t i h e f = hit w ks at k h (f ∙ ap (is_text w) e) ∙ i.left

pub among_over : (w : List ℕ) (ks : List Keyword) (at : ℕ) → AmongTo w ks at → length ks ≤ at
    → None ≡ keyword_among w ks
among_over w ks at i h = over w (drop at ks) (let l = length-drop at ks in omega (arith, l, h)) ∙ i.left

pub among_next : (w : List ℕ) (ks : List Keyword) (at : ℕ) (k : Keyword) (t : List ℕ) → AmongTo w ks at → at < length ks
    → slice_get ks at ≡ Some k → t ≡ keyword_text k → false ≡ is_text w t → AmongTo w ks (at + 1)
among_next w ks at k t i m h e f = record {
  within = omega (arith, m);
  left = (let n : at + 1 ≡ suc at = omega arith in ap (λ j. keyword_among w (drop j ks)) n ∙ skip w ks at k h
      (f ∙ ap (is_text w) e) ∙ i.left);
}

-- a keyword of another length isn't found
by_length : (w : List ℕ) (ks : List Keyword) → keyword_among w ks ≡ keyword_among w (of_length (length w) ks)
by_length w [] = refl
by_length w (k ∷ ks) =
    ⊎_elim (λ t. rw t.0 (ap (λ r. if is_text w (keyword_text k) then Some k else r) (by_length w ks)))
    (λ f. let u : is_text w (keyword_text k) ≡ false = unequal ◌==◌ w (keyword_text k) f.1 in
    rw (f.0, u) (by_length w ks))
    (eqb_tells (length w) (length (keyword_text k)))

found : (w : List ℕ) (n : ℕ) (r : Option Keyword) → length w ≡ n → r ≡ keyword_among w (of_length n keywords)
    → r ≡ keyword_of w
found w n r is e = e ∙ sym (by_length w keywords ∙ ap (λ m. keyword_among w (of_length m keywords)) is)

pub found_2 : (w : List ℕ) (r : Option Keyword) → length w ≡ 2
    → r ≡ keyword_among w (keyword.Do ∷ keyword.If ∷ keyword.In ∷ []) → r ≡ keyword_of w
found_2 w r is e = found w 2 r is e

pub found_3 : (w : List ℕ) (r : Option Keyword) → length w ≡ 3
    → r ≡ keyword_among w (keyword.For ∷ keyword.Let ∷ keyword.New ∷ keyword.Try ∷ keyword.Var ∷ []) → r ≡ keyword_of w
found_3 w r is e = found w 3 r is e

pub found_4 : (w : List ℕ) (r : Option Keyword) → length w ≡ 4
    → r ≡ keyword_among w (keyword.Case ∷ keyword.Else ∷ keyword.This ∷ keyword.Void ∷ keyword.With ∷ [])
    → r ≡ keyword_of w
found_4 w r is e = found w 4 r is e

pub found_5 : (w : List ℕ) (r : Option Keyword) → length w ≡ 5
    → r ≡ keyword_among w (keyword.Await ∷ keyword.Break ∷ keyword.Catch ∷ keyword.Class ∷ keyword.Const ∷ keyword.Super
    ∷ keyword.Throw ∷ keyword.While ∷ keyword.Yield ∷ []) → r ≡ keyword_of w
found_5 w r is e = found w 5 r is e

pub found_6 : (w : List ℕ) (r : Option Keyword) → length w ≡ 6
    → r ≡ keyword_among w (keyword.Delete ∷ keyword.Export ∷ keyword.Import ∷ keyword.Return ∷ keyword.Switch
    ∷ keyword.TypeOf ∷ []) → r ≡ keyword_of w
found_6 w r is e = found w 6 r is e

pub found_7 : (w : List ℕ) (r : Option Keyword) → length w ≡ 7
    → r ≡ keyword_among w (keyword.Default_ ∷ keyword.Extends ∷ keyword.Finally ∷ []) → r ≡ keyword_of w
found_7 w r is e = found w 7 r is e

pub found_8 : (w : List ℕ) (r : Option Keyword) → length w ≡ 8
    → r ≡ keyword_among w (keyword.Continue ∷ keyword.Debugger ∷ keyword.Function ∷ []) → r ≡ keyword_of w
found_8 w r is e = found w 8 r is e

pub found_10 : (w : List ℕ) (r : Option Keyword) → length w ≡ 10 → r ≡ keyword_among w (keyword.InstanceOf ∷ [])
    → r ≡ keyword_of w
found_10 w r is e = found w 10 r is e

pub none_0 : (w : List ℕ) → length w ≡ 0 → None ≡ keyword_of w
none_0 w is = found w 0 None is refl

pub none_1 : (w : List ℕ) → length w ≡ 1 → None ≡ keyword_of w
none_1 w is = found w 1 None is refl

pub none_9 : (w : List ℕ) → length w ≡ 9 → None ≡ keyword_of w
none_9 w is = found w 9 None is refl
