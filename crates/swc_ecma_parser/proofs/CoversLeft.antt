-- From what is recorded of the cover names that are left in an item to what a look through the item does.
use Rattle.std.proofs.Common.{◌≡◌, ◌≤◌, ◌<◌, Bool, true, false, List, [], ◌∷◌, ◌++◌, Result, Ok, Err, IsOk, IfErr, OnOk, length, refl, sym, ap, subst, ◌∙◌, arith, length-append}
use Rattle.swc_context.specs.{declared.error.Error.Error, declared.span.Span.Span}
use Rattle.swc_input.specs.Buffer.{Lives, Read, ReadSome, current, last_position, state_of}
use Rattle.swc_input.specs.Recording.{error_here, error_list, is_silent, no_memory, Recorded}
use Rattle.swc_input.specs.Source.{Keeps, Laws, Model}
use Rattle.swc_input.specs.{declared.buffer.Buffer.Buffer, declared.token.TokenAndSpan.TokenAndSpan, Recordings.RecordsAll}
use Rattle.swc_ecma_parser.specs.Faults.{cover_faults}
use Rattle.swc_input.specs.Calls.{recorded}
use Rattle.swc_steps.proofs.Steps.{check_passes}
use Rattle.swc_ecma_parser.specs.Finishing.{no_places, ChecksCovers, ChecksItem}

no_fewer : {es fs : List Error} → Keeps es fs → length es ≤ length fs
no_fewer {es} {fs} h = let a = ap length h.added in let l = length-append es h.more in omega arith

module _ {S : Type 0} {model : Model S} (laws : Laws model) where
  one_more : {b c : Buffer S} {e : Error} → Recorded model b e c → recorded model b < recorded model c
  one_more {b} {c} {e} r =
      let before = no_fewer r.looked.look.read.errors in
      let all = ap length r.errors in
      let one = length-append (state_of model r.here).errors (error_list (error_here (current r.here)) ++ e ∷ []) in
      let two = length-append (error_list (error_here (current r.here))) (e ∷ []) in
      omega arith

  not_fewer : (es : List Error) (b c : Buffer S) → RecordsAll model es b c → recorded model b ≤ recorded model c
  not_fewer [] b c h = let e = ap (λ v. recorded model v) h in omega arith
  not_fewer (e ∷ es) b c (d, r, more) =
      let first = one_more r in
      let others = not_fewer es d c more in
      omega arith

  pub unchecked : {well : Bool} (b : Buffer S) → well ≡ true → ChecksCovers model well b b
  unchecked {well} b h = record { checks = check_passes well laws b h; still = λ w. refl; silent = λ s. refl }

  module _ (b c : Buffer S) where
    none_found : (silent : Bool) → is_silent (state_of model b) ≡ silent → (is_silent (state_of model b) ≡ true → c ≡ b)
        → (is_silent (state_of model b) ≡ false → c ≡ b) → c ≡ b
    none_found true e h k = h e
    none_found false e h k = k e

    some_found : (s : Span) (ss : List Span) → RecordsAll model (cover_faults (s ∷ ss)) b c
        → recorded model b < recorded model c
    some_found s ss (d, r, more) =
        let first = one_more r in
        let others = not_fewer (cover_faults ss) d c more in
        omega arith

    all_told : (names : List Span) (well : Bool) → well ≡ no_places names
        → (is_silent (state_of model b) ≡ true → c ≡ b)
        → (is_silent (state_of model b) ≡ false → RecordsAll model (cover_faults names) b c)
        → ReadSome model b c → Lives model b c → ChecksCovers model well b c
    all_told [] well e silent records read lives =
        let same = none_found (is_silent (state_of model b)) refl silent records in
        subst (λ v. ChecksCovers model well b v) (sym same) (unchecked b e)
    all_told (s ∷ ss) well e silent records read lives = record {
      checks = record {
        leads = record { laws = laws; taken = read.0; read = read.1; lives = lives };
        passes = λ w. let n : true ≡ false = sym w ∙ e in cc;
        notes = λ w loud. some_found s ss (records loud);
      };
      still = λ w. let n : true ≡ false = sym w ∙ e in cc;
      silent = silent;
    }

  pub covers-checked : (names : List Span) (well : Bool) (b c : Buffer S) (r : Result (Unit {0}) Error)
      → well ≡ no_places names
      → (is_silent (state_of model b) ≡ true → IsOk r × (c ≡ b))
      → (is_silent (state_of model b) ≡ false → OnOk r (RecordsAll model (cover_faults names) b c))
      → IfErr r (λ e. (xs : List TokenAndSpan) × Read model b xs c × (e ≡ no_memory (last_position c)))
      → ReadSome model b c → OnOk r (Lives model b c) → ChecksItem model well b r c
  covers-checked names well b c (Ok u) e silent records refused read lives =
      all_told b c names well e (λ s. (silent s).1) records read lives
  covers-checked names well b c (Err x) e silent records refused read lives = record {
    spends = record { laws = laws; taken = refused.0; read = refused.1 };
    kind = ap (λ v. v.kind) refused.2;
  }
