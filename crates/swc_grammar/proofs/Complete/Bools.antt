-- Booleans, as tests of tokens join them.
use Rattle.std.specs.Prelude.{◌≡◌, Bool, true, false, not, ◌||◌, ◌&&◌, if◌then◌else◌}
use Rattle.std.proofs.Common.{refl}
use Rattle.swc_grammar.proofs.Answers.{both}

pub and-false : (a : Bool) → (a && false) ≡ false
and-false true = refl
and-false false = refl

pub either-more : (a b d e : Bool) → (d ≡ true → e ≡ true) → (a || (b && d)) ≡ true → (a || (b && e)) ≡ true
either-more true b d e f h = refl
either-more false b d e f h = let (x, y) = both b d h in rw (x, f y) refl

pub or-right : (a b : Bool) → b ≡ true → (a || b) ≡ true
or-right true b h = refl
or-right false b h = h

pub if-on : {A : Type 0} (b : Bool) (x y : A) → b ≡ true → (if b then x else y) ≡ x
if-on true x y h = refl
if-on false x y h = absurd cc

pub if-off : {A : Type 0} (b : Bool) (x y : A) → b ≡ false → (if b then x else y) ≡ y
if-off true x y h = absurd cc
if-off false x y h = refl

pub not-on : (b : Bool) → b ≡ false → not b ≡ true
not-on true h = absurd cc
not-on false h = refl

pub not-off : (b : Bool) → b ≡ true → not b ≡ false
not-off true h = refl
not-off false h = absurd cc

pub is-false : (b : Bool) → not b ≡ true → b ≡ false
is-false true h = absurd cc
is-false false h = refl

pub neither : (a b : Bool) → (a || b) ≡ false → (a ≡ false) × (b ≡ false)
neither true b h = absurd cc
neither false b h = (refl, h)

pub is-true : (b : Bool) → not b ≡ false → b ≡ true
is-true true h = refl
is-true false h = absurd cc
