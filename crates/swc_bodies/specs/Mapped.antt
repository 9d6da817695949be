-- Hooks whose values are functions of another hook's values. Such a hook reads what the other reads, and its laws
-- follow.
use Rattle.std.proofs.Common.{◌≡◌, Bool, List, Option, Some, None, refl, sym, ap, ◌∙◌}
use Rattle.swc_context.specs.{declared.context.Context.Context, declared.span.Span.Span}
use Rattle.swc_input.specs.declared.token.TokenAndSpan.{TokenAndSpan}
use Rattle.swc_bodies.specs.Readings.{Reading, Hook, ReadsOwn, IsReading, LawfulHook, begins_function, begins, is_class, is_brace}
use Rattle.swc_bodies.specs.Slashes.{without_slashes, Replays, ReplayHook}

module _ {V W : Type 0} (f : V → W) where
  -- what was read, as the function of it
  abbrev pub mapped : Option (V × List TokenAndSpan) → Option (W × List TokenAndSpan)
  mapped None = None
  mapped (Some (v, rest)) = Some (f v, rest)

  abbrev pub mapped_reading : Reading V → Reading W
  mapped_reading reads c ts = mapped (reads c ts)

  -- the value whose function was read
  pub record Found (o : Option (V × List TokenAndSpan)) (w : W) (rest : List TokenAndSpan) : Type 0 where
    pub value : V
    pub is : o ≡ Some (value, rest)
    pub same : f value ≡ w

  abbrev value_or : W → Option (W × List TokenAndSpan) → W
  value_or w None = w
  value_or w (Some r) = r.0

  abbrev rest_or : List TokenAndSpan → Option (W × List TokenAndSpan) → List TokenAndSpan
  rest_or ts None = ts
  rest_or ts (Some r) = r.1

  pub found : (o : Option (V × List TokenAndSpan)) (w : W) (rest : List TokenAndSpan) → mapped o ≡ Some (w, rest)
      → Found o w rest
  found None w rest h = cc
  found (Some (v, ts)) w rest h = record {
    value = v;
    is = ap (λ l. Some (v, l)) (ap (rest_or ts) h);
    same = ap (value_or (f v)) h;
  }

  module _ (place : W → Span) (starts : List TokenAndSpan → Bool) (reads : Reading V) where
    own : IsReading (λ v. place (f v)) starts reads → (c : Context) (ts : List TokenAndSpan) (w : W)
        (rest : List TokenAndSpan) →
        mapped_reading reads c ts ≡ Some (w, rest) → ReadsOwn place starts (mapped_reading reads) c ts w rest
    own laws c ts w rest h =
        let x = found (reads c ts) w rest h in
        let o = laws.owns c ts x.value rest x.is in
        record {
          own = o.own;
          list = o.list;
          begins = o.begins;
          alone = λ other. rw (o.alone other, x.same) refl;
          span = sym (ap place x.same) ∙ o.span;
        }

    pub mapped_is_reading : IsReading (λ v. place (f v)) starts reads → IsReading place starts (mapped_reading reads)
    mapped_is_reading laws = record { owns = own laws; viewed = λ c ts. ap mapped (laws.viewed c ts) }

  pub mapped_replays : (reads : Reading V) → Replays reads → Replays (mapped_reading reads)
  mapped_replays reads replays c ts w rest h =
      let x = found (reads c ts) w rest h in
      ap mapped (replays c ts x.value rest x.is) ∙ ap (λ v. Some (v, without_slashes rest)) x.same

module _ {F C K G D L : Type 0} (fun : F → G) (class : C → D) (block : K → L) where
  -- functions, classes and blocks, each as the function of what the other hook reads
  abbrev pub mapped_forms : Hook F C K → Hook G D L
  mapped_forms forms = record {
    fun = mapped_reading fun forms.fun;
    class = mapped_reading class forms.class;
    block = mapped_reading block forms.block;
  }

  -- Lawful where the other is, if its values lie where those lie that they are made of.
  pub mapped_forms_read : (fun_place : G → Span) (class_place : D → Span) (block_place : L → Span)
      (forms : Hook F C K) →
      LawfulHook (λ v. fun_place (fun v)) (λ v. class_place (class v)) (λ v. block_place (block v)) forms →
      LawfulHook fun_place class_place block_place (mapped_forms forms)
  mapped_forms_read fun_place class_place block_place forms laws = record {
    fun = mapped_is_reading fun fun_place begins_function forms.fun laws.fun;
    class = mapped_is_reading class class_place (begins is_class) forms.class laws.class;
    block = mapped_is_reading block block_place (begins is_brace) forms.block laws.block;
  }

  pub mapped_forms_replay : (forms : Hook F C K) → ReplayHook forms → ReplayHook (mapped_forms forms)
  mapped_forms_replay forms replays = record {
    fun = mapped_replays fun forms.fun replays.fun;
    class = mapped_replays class forms.class replays.class;
    block = mapped_replays block forms.block replays.block;
  }
