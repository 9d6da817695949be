-- All tokens of a text, or its first fault.
use Rattle.std.specs.Prelude.{◌≡◌, ℕ, ◌+◌, min, Bool, true, false, List, ◌∷◌, ◌++◌, Result, Ok, Err, All, IsFalse}
use Rattle.std.specs.{declared.alloc.Global.Global, declared.vec.Vec.Vec}
use Rattle.swc_context.specs.{declared.error.Error.Error, declared.error.SyntaxError.OutOfMemory, declared.error.SyntaxError.InvalidUtf8}
use Rattle.swc_input.specs.{declared.token.Token.Token, declared.token.TokenAndSpan.TokenAndSpan}
use Rattle.swc_input.specs.declared.token.Token.TheVariants as token

abbrev pub out_of_memory : Error
out_of_memory = record { span = record { lo = record { 0 = 0 }; hi = record { 0 = 0 } }; kind = OutOfMemory }

-- the fault of bytes that are no UTF-8, the first of which is there
abbrev pub bad_utf8 : ℕ → Error
bad_utf8 at =
    let lo = min at 4294967294 in record {
      span = record { lo = record { 0 = lo }; hi = record { 0 = lo + 1 } };
      kind =
          InvalidUtf8;
    }

abbrev pub is_error : Token → Bool
is_error (token.Error e) = true
is_error t = false

abbrev pub IsClean : TokenAndSpan → Type 0
IsClean t = IsFalse (is_error t.token)

abbrev pub IsError : Error → TokenAndSpan → Type 0
IsError e t = t.token ≡ token.Error e

-- the fault is the first among the tokens
pub record IsFirst (e : Error) (all : List TokenAndSpan) : Type 0 where
  pub before : List TokenAndSpan
  pub fault : TokenAndSpan
  pub after : List TokenAndSpan
  pub split : all ≡ before ++ fault ∷ after
  pub clean : All IsClean before
  pub is : IsError e fault

-- these are all tokens, none of which is a fault; or the first fault
abbrev pub Reads : Result (Vec TokenAndSpan Global) Error → List TokenAndSpan → Type 0
Reads (Ok v) all = (v.items ≡ all) × All IsClean v.items
Reads (Err e) all = IsFirst e all

-- these are all tokens; or the first fault, or out of memory
pub data Answers : Result (Vec TokenAndSpan Global) Error → List TokenAndSpan → Type 0 where
  read : {r : Result (Vec TokenAndSpan Global) Error} {all : List TokenAndSpan} → Reads r all → Answers r all
  refused : {all : List TokenAndSpan} → Answers (Err out_of_memory) all
