-- What is read as a body is read as its count.
use Rattle.std.proofs.Common.{Result, Ok, Err, ap, ◌∙◌}
use Rattle.swc_context.specs.declared.error.Error.{Error}
use Rattle.swc_input.specs.{declared.buffer.Buffer.Buffer, Buffer.state_of, Source.Model}
use Rattle.swc_bodies.specs.{Body.Body, Mapped.mapped, Mapped.mapped_reading, Mapped.found}
use Rattle.swc_bodies.specs.Readings.{Reading, Hooked, Faithful}
use Rattle.show.specs.Counts.{counted, counted_answer}

module _ {S : Type 0} (model : Model S) (reads : Reading Body) (b c : Buffer S) where
  pub counted_hooked : (r : Result Body Error) → Hooked model reads b r c
      → Hooked model (mapped_reading counted reads) b (counted_answer r) c
  counted_hooked (Ok body) h = record {
    taken = h.taken;
    some = h.some;
    read = h.read;
    less = h.less;
    clean = λ loud same rest future. ap (mapped counted) (h.clean loud same rest future);
    refused = h.refused;
  }
  counted_hooked (Err e) h = record {
    taken = h.taken;
    some = h.some;
    read = h.read;
    less = h.less;
    clean = λ loud same. tt;
    refused = h.refused;
  }

  pub counted_faithful : (r : Result Body Error) → Faithful model reads b r c
      → Faithful model (mapped_reading counted reads) b (counted_answer r) c
  counted_faithful (Ok body) faithful = λ loud ts w rest known read.
      let f = found counted (reads (state_of model b).context ts) w rest read in
      let x = faithful loud ts f.value rest known f.is in
      (ap counted x.0 ∙ f.same, x.1, x.2)
  counted_faithful (Err e) faithful = λ loud ts w rest known read.
      let f = found counted (reads (state_of model b).context ts) w rest read in
      faithful loud ts f.value rest known f.is
