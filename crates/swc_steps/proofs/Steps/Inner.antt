-- The scope of a buffer never says that an assignment expression begins there: so a reader reads the same with that
-- flag cleared.
use Rattle.std.proofs.Common.{◌≡◌, Bool, false, Result, Ok, Err, refl, ap}
use Rattle.swc_context.specs.{declared.context.Context.Context, declared.context.Syntax.Syntax, declared.error.Error.Error}
use Rattle.swc_input.specs.{declared.buffer.Buffer.Buffer, Source.Model}
use Rattle.swc_grammar.specs.Scope.{Scope, inner}
use Rattle.swc_steps.specs.Parsing.{scope_of, On, Heard, Unheard, Parses, Continues}
use Rattle.swc_steps.proofs.Steps.Consumed.{Reader}

abbrev pub inner_of : {A : Type 0} → Reader A → Reader A
inner_of f x ts = f (inner x) ts

-- the scope of a buffer
pub no_head : {x : Scope} {c : Context} {y : Syntax} → x ≡ scope_of c y → x.head ≡ false
no_head same = ap (λ v. v.head) same

-- such a scope is what it is without the flag
pub inner_is : (x : Scope) → x.head ≡ false → inner x ≡ x
inner_is x h = rw h refl

module _ {S : Type 0} {model : Model S} {sure : Bool} {A : Type 0} {f : Reader A} where
  unfoldable pub on_inner : {g : Reader A} {b c : Buffer S} → On model sure f g b c → On model sure (inner_of f) g b c
  on_inner o = record { leads = o.leads; clean = o.clean; faulty = o.faulty }

  pub on_from_inner : {g : Reader A} {b c : Buffer S} → On model sure f (inner_of g) b c → On model sure f g b c
  on_from_inner o = record { leads = o.leads; clean = o.clean; faulty = o.faulty }

  pub heard_inner : {t : A} {b c : Buffer S} → Heard model sure f t b c → Heard model sure (inner_of f) t b c
  unfolding on_inner
  heard_inner h = record { on = on_inner h.on; onward = h.onward }

  pub unheard_inner : {e : Error} {b c : Buffer S} → Unheard model sure f b e c → Unheard model sure (inner_of f) b e c
  unheard_inner u = record { refuses = u.refuses; none = u.none }

module _ {S : Type 0} (model : Model S) (sure : Bool) {T A : Type 0} (view : T → A) (f : Reader A) where
  pub parses_inner : (b c : Buffer S) (r : Result T Error) → Parses model sure view f b r c
      → Parses model sure view (inner_of f) b r c
  parses_inner b c (Ok x) h = heard_inner h
  parses_inner b c (Err e) u = unheard_inner u

  pub continues_inner : (b c : Buffer S) (r : Result T Error) → Continues model sure view f b r c
      → Continues model sure view (inner_of f) b r c
  continues_inner b c (Ok x) o = on_inner o
  continues_inner b c (Err e) u = unheard_inner u
