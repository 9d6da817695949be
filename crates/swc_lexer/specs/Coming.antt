-- The tokens to come of a text: how one call goes on.
use Rattle.std.specs.Prelude.{◌≡◌, ℕ, zero, suc, ◌+◌, ◌-◌, ◌*◌, ◌<◌, ◌≤◌, true, false, List, [], ◌∷◌, Option, Some, None, length, nat_lt, if◌then◌else◌}
use Rattle.std.proofs.Common.{refl, sym, ap, ◌∙◌, arith}
use Rattle.std.proofs.lemmas.Bool.Decides.{nat_tests}
use Rattle.swc_input.specs.declared.token.TokenAndSpan.{TokenAndSpan}
use Rattle.swc_lexer.specs.declared.reader.End.{End}
use Rattle.swc_lexer.specs.Readings.{Reading, bound, more, next_in, next_of, tokens_in, tokens_from, weight}

pub lt_true : (a b : ℕ) → a < b → nat_lt a b ≡ true
lt_true a b h = grind (arith, nat_tests)

pub lt_false : (a b : ℕ) → b ≤ a → nat_lt a b ≡ false
lt_false a b h = grind (arith, nat_tests)

pub is_lt : (a b : ℕ) → nat_lt a b ≡ true → a < b
is_lt a b h = grind (arith, nat_tests)

-- those after a token matter only where it took some of the text
more_same : (bs : List ℕ) (b : ℕ) (f g : Reading → List TokenAndSpan) → ((x : Reading) → bound bs x < b → f x ≡ g x) →
    (o : Option (TokenAndSpan × Reading)) → more bs b f o ≡ more bs b g o
more_same bs b f g h None = refl
more_same bs b f g h (Some x) =
    elim (nat_lt (bound bs x.1) b) as
    (λ t. nat_lt (bound bs x.1) b ≡ t → (if t then x.0 ∷ f x.1 else []) ≡ (if t then x.0 ∷ g x.1 else [])) [
      | true ↦ (λ e. ap (λ l. x.0 ∷ l) (h x.1 (is_lt (bound bs x.1) b e)))
      | false ↦ (λ e. refl)
    ] refl

more_none : (bs : List ℕ) (b : ℕ) (f : Reading → List TokenAndSpan) → b ≡ 0 → (o : Option (TokenAndSpan × Reading))
    → more bs b f o ≡ []
more_none bs b f h None = refl
more_none bs b f h (Some x) = ap (λ t. if t then x.0 ∷ f x.1 else []) (lt_false (bound bs x.1) b (omega (arith, h)))

more_some : (bs : List ℕ) (b : ℕ) (f : Reading → List TokenAndSpan) (x : TokenAndSpan) (t : Reading) → bound bs t < b
    → more bs b f (Some (x, t)) ≡ x ∷ f t
more_some bs b f x t h = ap (λ c. if c then x ∷ f t else []) (lt_true (bound bs t) b h)

-- as many as are enough
enough : (n m : ℕ) (e : End) (bs : List ℕ) (r : Reading) → bound bs r ≤ n → bound bs r ≤ m
    → tokens_in n e bs r ≡ tokens_in m e bs r
unfolding tokens_in
enough zero zero e bs r h k = refl
enough zero (suc m) e bs r h k = sym (more_none bs (bound bs r) (λ x. tokens_in m e bs x) (omega (arith, h))
    (next_of e bs r))
enough (suc n) zero e bs r h k = more_none bs (bound bs r) (λ x. tokens_in n e bs x) (omega (arith, k)) (next_of e bs r)
enough (suc n) (suc m) e bs r h k =
    more_same bs (bound bs r) (λ x. tokens_in n e bs x) (λ x. tokens_in m e bs x)
    (λ x l. enough n m e bs x (omega (arith, h, l)) (omega (arith, k, l))) (next_of e bs r)

one_step : (n : ℕ) (e : End) (bs : List ℕ) (r t : Reading) (x : TokenAndSpan) → next_of e bs r ≡ Some (x, t)
    → bound bs t < bound bs r →
    tokens_in (suc n) e bs r ≡ x ∷ tokens_in n e bs t
unfolding tokens_in
one_step n e bs r t x h l =
    ap (λ o. more bs (bound bs r) (λ y. tokens_in n e bs y) o) h ∙ more_some bs (bound bs r)
    (λ y. tokens_in n e bs y) x t l

no_step : (n : ℕ) (e : End) (bs : List ℕ) (r : Reading) → next_of e bs r ≡ None → tokens_in n e bs r ≡ []
unfolding tokens_in
no_step zero e bs r h = refl
no_step (suc n) e bs r h = ap (λ o. more bs (bound bs r) (λ y. tokens_in n e bs y) o) h

-- a token, and then those after it
pub from_next : (e : End) (bs : List ℕ) (r t : Reading) (x : TokenAndSpan) → next_of e bs r ≡ Some (x, t)
    → bound bs t < bound bs r →
    tokens_from e bs r ≡ x ∷ tokens_from e bs t
from_next e bs r t x h l =
    let p : suc (bound bs r - 1) ≡ bound bs r = omega (arith, l) in
    ap (λ k. tokens_in k e bs r) (sym p) ∙ one_step (bound bs r - 1) e bs r t x h l
    ∙ ap (λ ts. x ∷ ts) (enough (bound bs r - 1) (bound bs t) e bs t (omega (arith, l)) (omega arith))

-- at the end there is none
pub from_end : (e : End) (bs : List ℕ) (r : Reading) → next_of e bs r ≡ None → tokens_from e bs r ≡ []
from_end e bs r h = no_step (bound bs r) e bs r h

pub next_ended : (e : End) (bs : List ℕ) (r : Reading) → r.ended ≡ true → next_of e bs r ≡ None
next_ended e bs r h = ap (λ b. if b then None else next_in e bs r) h

pub bound_ended : (bs : List ℕ) (r : Reading) → r.ended ≡ true → bound bs r ≡ 0
bound_ended bs r h = ap (λ b. if b then 0 else (2 * (length bs - r.at) + weight r.state)) h
