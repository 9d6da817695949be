-- Which tokens are kept.
use Rattle.std.proofs.Common.{◌≡◌, ℕ, ◌-◌, ◌≤◌, suc, Bool, true, false, List, [], ◌∷◌, ◌++◌, Option, Some, None, length, map, refl, sym, ap, ◌∙◌, arith}
use Rattle.std.proofs.lemmas.List.{append-nil, map-append, length-append}
use Rattle.std.specs.{List.slice_get, Option.option_to_list}
use Rattle.swc_context.specs.declared.span.BytePos.{BytePos}
use Rattle.swc_input.specs.Kept.{ends_behind, is_late, in_front, cleared, kept}
use Rattle.swc_input.specs.{declared.token.TokenAndSpan.TokenAndSpan, Plain.plain}

in_front-some : (late : Bool) (t u : TokenAndSpan) (us : List TokenAndSpan) → in_front late t (u ∷ us) ≡ t ∷ u ∷ us
in_front-some true t u us = refl
in_front-some false t u us = refl

-- where the last token isn't late, all stay
pub all-stay : (at : BytePos) (ts : List TokenAndSpan) → is_late at (slice_get ts (length ts - 1)) ≡ false
    → cleared at ts ≡ ts
all-stay at [] h = refl
all-stay at (t ∷ []) h = ap (λ l. in_front l t []) h
all-stay at (t ∷ u ∷ us) h =
    let e : length (t ∷ u ∷ us) - 1 ≡ suc (length (u ∷ us) - 1) = omega arith in
    let k : is_late at (slice_get (u ∷ us) (length (u ∷ us) - 1)) ≡ false =
    sym (ap (λ n. is_late at (slice_get (t ∷ u ∷ us) n)) e) ∙ h in
    ap (in_front (ends_behind at t) t) (all-stay at (u ∷ us) k) ∙ in_front-some (ends_behind at t) t u us

-- and so they all stay where one is added that begins where the last one ends, or after
pub all_kept : (ts : List TokenAndSpan) (t : TokenAndSpan) → is_late t.span.lo (slice_get ts (length ts - 1)) ≡ false
    → kept ts t ≡ ts ++ t ∷ []
all_kept ts t h = ap (λ l. l ++ t ∷ []) (all-stay t.span.lo ts h)

-- a late token at the end makes no difference
late-goes : (at : BytePos) (ts : List TokenAndSpan) (t : TokenAndSpan) → ends_behind at t ≡ true
    → cleared at (ts ++ t ∷ []) ≡ cleared at ts
late-goes at [] t h = ap (λ l. in_front l t []) h
late-goes at (x ∷ ts) t h = ap (in_front (ends_behind at x) x) (late-goes at ts t h)

last-is : (ts : List TokenAndSpan) (t : TokenAndSpan) → slice_get (ts ++ t ∷ []) (length (ts ++ t ∷ []) - 1) ≡ Some t
last-is [] t = refl
last-is (x ∷ []) t = refl
last-is (x ∷ u ∷ us) t =
    let e : length (x ∷ u ∷ us ++ t ∷ []) - 1 ≡ suc (length (u ∷ us ++ t ∷ []) - 1) = omega arith in
    ap (slice_get (x ∷ u ∷ us ++ t ∷ [])) e ∙ last-is (u ∷ us) t

-- where the last token is late, it goes first
pub last-goes : (at : BytePos) (ts us : List TokenAndSpan) (r : Option TokenAndSpan) → ts ≡ us ++ option_to_list r →
    is_late at (slice_get ts (length ts - 1)) ≡ true → cleared at us ≡ cleared at ts
last-goes at ts us None same late = ap (cleared at) (sym (same ∙ append-nil us))
last-goes at ts us (Some t) same late =
    let behind : ends_behind at t ≡ true =
    sym (ap (is_late at) (last-is us t)) ∙ sym (ap (λ l. is_late at (slice_get l (length l - 1))) same) ∙ late in
    sym (late-goes at us t behind) ∙ sym (ap (cleared at) same)

plain-in_front : (late : Bool) (t : TokenAndSpan) (ts : List TokenAndSpan)
    → map plain (in_front late t ts) ≡ in_front late (plain t) (map plain ts)
plain-in_front true t [] = refl
plain-in_front true t (u ∷ us) = refl
plain-in_front false t [] = refl
plain-in_front false t (u ∷ us) = refl

plain-cleared : (at : BytePos) (ts : List TokenAndSpan) → map plain (cleared at ts) ≡ cleared at (map plain ts)
plain-cleared at [] = refl
plain-cleared at (t ∷ ts) = plain-in_front (ends_behind at t) t (cleared at ts) ∙ ap
    (in_front (ends_behind at t) (plain t)) (plain-cleared at ts)

-- which tokens are kept doesn't depend on where boxes lie
pub plain-kept : (ts : List TokenAndSpan) (t : TokenAndSpan) → map plain (kept ts t) ≡ kept (map plain ts) (plain t)
plain-kept ts t = map-append plain (cleared t.span.lo ts) (t ∷ []) ∙ ap (λ l. l ++ plain t ∷ [])
    (plain-cleared t.span.lo ts)

-- on the way from ts to what is cleared of it us are left, in the same room
pub record Clearing (at : BytePos) (ts : List TokenAndSpan) (size : ℕ) (us : List TokenAndSpan)
    (left : ℕ) : Type 0 where
  pub same : cleared at us ≡ cleared at ts
  pub room : left ≡ size
  pub fewer : length us ≤ length ts

-- where the last token is late, it goes
pub clears-last : (at : BytePos) (ts : List TokenAndSpan) (size : ℕ) (us vs : List TokenAndSpan) (left rest : ℕ)
    (r : Option TokenAndSpan) →
    Clearing at ts size us left → us ≡ vs ++ option_to_list r → is_late at (slice_get us (length us - 1)) ≡ true
    → rest ≡ left → Clearing at ts size vs rest
clears-last at ts size us vs left rest r c same late room = record {
  same = last-goes at us vs r same late ∙ c.same;
  room = room ∙ c.room;
  fewer = let a = ap length same in let b = length-append vs (option_to_list r) in let f = c.fewer in omega arith;
}

-- a copy is kept as the token itself
pub copy_kept : (ts us : List TokenAndSpan) (t copy : TokenAndSpan) → us ≡ kept ts copy → plain copy ≡ plain t
    → map plain us ≡ kept (map plain ts) (plain t)
copy_kept ts us t copy is same = ap (map plain) is ∙ plain-kept ts copy ∙ ap (kept (map plain ts)) same
