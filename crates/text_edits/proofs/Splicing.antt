-- What one edit adds, and the rest of the text.
use Rattle.std.proofs.Common.{◌≡◌, ℕ, ◌+◌, ◌-◌, ◌<◌, ◌≤◌, suc, length, List, [], ◌∷◌, ◌++◌, take, drop, refl, sym, ap, ◌∙◌, subst, arith, ◌⊎◌, inl, inr}
use Rattle.std.proofs.lemmas.List.{append_assoc, drop_all, take_all, length-drop}
use Rattle.std.proofs.Math.Seq.{drop-cons}
use Rattle.std.proofs.Math.ListN.{get_or}
use Rattle.std.specs.List.{slice_range}
use Rattle.std.specs.String.{string_bytes}
use Rattle.text_edits.specs.declared.edit.Edit.{Edit}
use Rattle.std.specs.List.{Contains}
use Rattle.text_edits.specs.declared.edit.BadEdit.{BadEdit}
use Rattle.text_edits.specs.declared.edit.BadEdit.TheVariants.{Outside, Overlaps, WithinCharacter, OutOfMemory}
use Rattle.text_edits.specs.Edits.{spliced, Wrong, WrongAt}

pub spliced-cons : (text : List ℕ) (at : ℕ) (e : Edit) (es : List Edit)
    → spliced text at (e ∷ es) ≡ take (e.start - at) (drop at text) ++ (string_bytes e.text ++ spliced text e.end es)
unfolding spliced
spliced-cons text at e es = refl

pub spliced-nil : (text : List ℕ) (at : ℕ) → spliced text at [] ≡ drop at text
unfolding spliced
spliced-nil text at = refl

-- with one more edit made, the same text comes
pub splice-on : (text out new : List ℕ) (at n : ℕ) (es : List Edit) (e : Edit) → n < length es → e ≡ get_or es n e
    → new ≡ out ++ take (e.start - at) (drop at text) ++ string_bytes e.text
    → new ++ spliced text e.end (drop (n + 1) es) ≡ out ++ spliced text at (drop n es)
splice-on text out new at n es e lt is put =
    let K = take (e.start - at) (drop at text) in let W = string_bytes e.text in let S = spliced text e.end (drop (n + 1) es) in
    let one : suc n ≡ n + 1 = omega arith in
    let split : drop n es ≡ e ∷ drop (n + 1) es = drop-cons es n e lt ∙ ap (λ x. x ∷ drop (suc n) es) (sym is) ∙ ap (λ m. e ∷ drop m es) one in
    ap (λ x. x ++ S) put ∙ append_assoc (out ++ K) W S ∙ append_assoc out K (W ++ S)
    ∙ ap (λ x. out ++ x) (sym (spliced-cons text at e (drop (n + 1) es))) ∙ ap (λ x. out ++ spliced text at x) (sym split)

-- with all edits made, the rest of the text is left
pub splice-end : (text out rest : List ℕ) (at n : ℕ) (es : List Edit) → length es ≤ n → rest ≡ drop at text
    → out ++ rest ≡ out ++ spliced text at (drop n es)
splice-end text out rest at n es le is =
    ap (λ x. out ++ x) (is ∙ sym (spliced-nil text at) ∙ ap (spliced text at) (sym (drop_all n es le)))

-- a part up to the end is the rest
pub slice-rest : (text rest : List ℕ) (at : ℕ) → rest ≡ slice_range text at (length text) → rest ≡ drop at text
slice-rest text rest at is =
    let le : length (drop at text) ≤ length text - at = subst (λ m. m ≤ length text - at) (sym (length-drop at text)) (omega arith) in
    is ∙ take_all (length text - at) (drop at text) le

-- what is wrong with one edit is wrong with the list
pub wrong-of : (text : List ℕ) (es : List Edit) (at : ℕ) (e : Edit) (fault : BadEdit) → Contains es e
    → (at ≡ 0) ⊎ ((a : Edit) × (Contains es a × (at ≡ a.end))) → WrongAt text at e fault → Wrong text es fault
wrong-of text es at e (Outside n) has from w = (e, (has, w))
wrong-of text es at e (Overlaps n) has (inl none) w = absurd (omega (arith, none, w))
wrong-of text es at e (Overlaps n) has (inr before) w = (before.0, (e, (before.1.0, (has, subst (λ m. e.start < m) before.1.1 w))))
wrong-of text es at e (WithinCharacter n) has from w = tt
wrong-of text es at e OutOfMemory has from w = tt
