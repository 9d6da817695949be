-- What a test, or the kind of an error, says.
use Rattle.std.proofs.Common.{◌≡◌, ◌≢◌, Bool, true, false, ◌&&◌, not, Result, Ok, Err, OnOk, IfErr, refl, sym, ap, ◌∙◌}
use Rattle.swc_context.specs.{declared.error.Error.Error, declared.error.SyntaxError.SyntaxError, declared.error.SyntaxError.TheVariants.OutOfMemory}
use Rattle.swc_steps.specs.Parsing.{is_memory}

pub not_true : (b : Bool) → not b ≡ true → b ≡ false
not_true true h = cc
not_true false h = refl

pub not_false : (b : Bool) → not b ≡ false → b ≡ true
not_false true h = refl
not_false false h = cc

pub on_ok : {T : Type 0} {P : Type 0} (r : Result T Error) → P → OnOk r P
on_ok (Ok x) p = p
on_ok (Err e) p = tt

pub if_err : {T : Type 0} {P : Type 0} (Q : Error → Type 0) (r : Result T Error) → P → IfErr r (λ e. Q e → P)
if_err Q (Ok x) p = tt
if_err Q (Err e) p = λ q. p

pub memory_is : (k : SyntaxError) → is_memory k ≡ true → k ≡ OutOfMemory
memory_is OutOfMemory h = refl
memory_is k h = cc

pub memory_not : (k : SyntaxError) → is_memory k ≡ false → k ≢ OutOfMemory
memory_not k h e = let f : true ≡ false = ap is_memory (sym e) ∙ h in cc

pub and_true : (m : Bool) → (m && true) ≡ m
and_true true = refl
and_true false = refl

pub and_false : (m : Bool) → (m && false) ≡ false
and_false true = refl
and_false false = refl

pub both_left : (a b : Bool) → (a && b) ≡ true → a ≡ true
both_left true b h = refl
both_left false b h = cc

pub both_right : (a b : Bool) → (a && b) ≡ true → b ≡ true
both_right true b h = h
both_right false b h = cc

pub not_and : (m b : Bool) → b ≡ false → not (m && b) ≡ true
not_and true b h = rw h refl
not_and false b h = refl
