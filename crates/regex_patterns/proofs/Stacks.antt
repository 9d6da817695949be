-- What is open, the innermost first, as the code has it the other way round.
use Rattle.std.proofs.Common.{◌≡◌, ℕ, Bool, true, false, List, [], ◌∷◌, ◌++◌, ◌+◌, length, reverse, Option, Some, None, refl, sym, ap, ◌∙◌, arith}
use Rattle.std.specs.{Prelude.MatchOption, Prelude.vec_len, declared.alloc.Global.Global, declared.vec.Vec.Vec}
use Rattle.std.specs.Option.{option_to_list}
use Rattle.std.proofs.lemmas.List.{reverse-append, nil_from_length, length-reverse}
use Rattle.regex_patterns.specs.declared.sets.Set.{Set}
use Rattle.regex_patterns.specs.Sets.{innermost, outer}
use Rattle.regex_patterns.specs.Groups.{is_nothing}

pub pushed : {A : Type 0} (old new : List A) (x : A) → new ≡ old ++ x ∷ [] → reverse new ≡ x ∷ reverse old
pushed old new x is = ap reverse is ∙ reverse-append old (x ∷ [])

pub emptied : {A : Type 0} (old : List A) → length old ≡ 0 → reverse old ≡ []
emptied old none = ap reverse (nil_from_length old none)

pub popped : (old new : List Set) (r : Option Set) (m n : ℕ) → length old ≡ m → length new ≡ n → old ≡ new ++ option_to_list r
    → MatchOption r ((m ≡ 0) × (n ≡ 0)) (λ s. n + 1 ≡ m)
    → (innermost (reverse old) ≡ r) × (outer (reverse old) ≡ reverse new)
popped old new None m n lo ln is empty =
    (ap innermost (emptied old (lo ∙ empty.0)), ap outer (emptied old (lo ∙ empty.0)) ∙ sym (emptied new (ln ∙ empty.1)))
popped old new (Some s) m n lo ln is one = (ap innermost (pushed new old s is), ap outer (pushed new old s is))

pub after_pop : (old new : Vec Set Global) (r : Option Set) → old.items ≡ new.items ++ option_to_list r
    → MatchOption r ((vec_len old ≡ 0) × (vec_len new ≡ 0)) (λ s. vec_len new + 1 ≡ vec_len old)
    → (innermost (reverse old.items) ≡ r) × (outer (reverse old.items) ≡ reverse new.items)
after_pop old new r is cases =
    let a = old.ok.0 in let b = new.ok.0 in
    popped old.items new.items r (vec_len old) (vec_len new) (omega arith) (omega arith) is cases

pub all_closed : (open' : Vec Bool Global) → vec_len open' ≡ 0 → is_nothing (reverse open'.items) ≡ true
all_closed open' none = let a = open'.ok.0 in ap is_nothing (emptied open'.items (omega arith))

is_some_open : (o : List Bool) → (length o ≡ 0 → ⊥) → is_nothing o ≡ false
is_some_open [] some = absurd (some refl)
is_some_open (r ∷ o) some = refl

pub still_open : (open' : Vec Bool Global) → (vec_len open' ≡ 0 → ⊥) → is_nothing (reverse open'.items) ≡ false
still_open open' some =
    let a = open'.ok.0 in let b = length-reverse open'.items in
    is_some_open (reverse open'.items) (λ e. some (omega (arith, a, b, e)))
