-- What is kept of tokens in the order of the text: all but the slashes at which regular expressions were found.
use Rattle.std.proofs.Common.{◌≡◌, ◌≤◌, Bool, true, false, ◌||◌, List, [], ◌∷◌, ◌++◌, refl, sym, ap, ◌∙◌, arith}
use Rattle.std.proofs.{lemmas.Bool.leb-true, lemmas.Bool.ltb-true, lemmas.List.append_assoc}
use Rattle.std.specs.Prelude.{nat_le, nat_lt}
use Rattle.swc_context.specs.declared.span.BytePos.{BytePos}
use Rattle.swc_input.specs.declared.token.TokenAndSpan.{TokenAndSpan}
use Rattle.swc_input.specs.Kept.{ends_behind, in_front, cleared, kept_on, kept_of}
use Rattle.swc_bodies.specs.Replaying.{both, pair, stays, left-out, kept-pair}
use Rattle.swc_bodies.specs.Slashes.{is_pair, without_slashes, goes_on, in_order}

front-some : (late : Bool) (t : TokenAndSpan) (ts : List TokenAndSpan) (u : TokenAndSpan)
    → in_front late t (ts ++ u ∷ []) ≡ t ∷ ts ++ u ∷ []
front-some true t [] u = refl
front-some true t (x ∷ ts) u = refl
front-some false t [] u = refl
front-some false t (x ∷ ts) u = refl

early-stays : (at : BytePos) (ts : List TokenAndSpan) (t : TokenAndSpan) → ends_behind at t ≡ false
    → cleared at (ts ++ t ∷ []) ≡ ts ++ t ∷ []
early-stays at [] t h = ap (λ l. in_front l t []) h
early-stays at (x ∷ ts) t h =
    ap (in_front (ends_behind at x) x) (early-stays at ts t h) ∙ front-some (ends_behind at x) x ts t

not-late : (at : BytePos) (t : TokenAndSpan) → nat_le t.span.hi.0 at.0 ≡ true → ends_behind at t ≡ false
not-late at t h = let e = leb-true t.span.hi.0 at.0 h in ltb-no at.0 t.span.hi.0 (omega arith)
  where
    ltb-no : (n m : _) → m ≤ n → nat_lt n m ≡ false
    ltb-no n m le = elim (nat_lt n m) as (λ b. nat_lt n m ≡ b → nat_lt n m ≡ false) [
      | true ↦ (λ e. let lt = ltb-true n m e in absurd (omega arith))
      | false ↦ (λ e. e)
    ] refl

second : (a b : Bool) → (a || b) ≡ true → a ≡ false → b ≡ true
second true b h e = cc
second false b h e = h

either : (a b : Bool) → b ≡ true → (a || b) ≡ true
either true b h = refl
either false b h = h

-- tokens in the order of the text, after tokens of which none is dropped for the first of them
kept-all : (ks : List TokenAndSpan) (t : TokenAndSpan) (ts : List TokenAndSpan) → in_order (t ∷ ts) ≡ true
    → cleared t.span.lo ks ≡ ks → kept_on ks (t ∷ ts) ≡ ks ++ without_slashes (t ∷ ts)
kept-all ks t [] h k = ap (λ l. l ++ t ∷ []) k
kept-all ks t (u ∷ us) h k = elim (is_pair t u)
    as (λ b. is_pair t u ≡ b → kept_on ks (t ∷ u ∷ us) ≡ ks ++ without_slashes (t ∷ u ∷ us)) [
      | true ↦ (λ e.
          let p = pair t u e in
          ap (λ l. kept_on l us) (kept-pair ks t u e)
          ∙ kept-all ks u us (both (goes_on t (u ∷ us)) (in_order (u ∷ us)) h).1
          (ap (λ v. cleared v ks) (sym p.start) ∙ k)
          ∙ ap (λ l. ks ++ l) (sym (left-out t (u ∷ us) e)))
      | false ↦ (λ e.
          let (g, r) = both (goes_on t (u ∷ us)) (in_order (u ∷ us)) h in
          let early = not-late u.span.lo t (second (is_pair t u) (nat_le t.span.hi.0 u.span.lo.0) g e) in
          ap (λ l. kept_on (l ++ t ∷ []) (u ∷ us)) k
          ∙ kept-all (ks ++ t ∷ []) u us r (early-stays u.span.lo ks t early)
          ∙ append_assoc ks (t ∷ []) (without_slashes (u ∷ us))
          ∙ ap (λ l. ks ++ l) (sym (stays t (u ∷ us) e)))
    ] refl

-- the law of what is kept
pub kept-is : (ts : List TokenAndSpan) → in_order ts ≡ true → kept_of ts ≡ without_slashes ts
kept-is [] h = refl
kept-is (t ∷ ts) h = kept-all [] t ts h refl
