-- A body that is read after it was passed over is read from before that too.
use Rattle.std.proofs.Common.{◌≡◌, List, [], ◌++◌, Result, length, sym, ap, ◌∙◌, subst, arith}
use Rattle.std.specs.Prelude.{IfOk, Some}
use Rattle.swc_bodies.specs.Readings.{Hooked, Reading, Loud}
use Rattle.swc_context.specs.declared.error.Error.{Error}
use Rattle.swc_input.specs.{declared.buffer.Buffer.Buffer, declared.token.TokenAndSpan.TokenAndSpan, Listed.listed_state, Recording.is_silent, Source.Keeps}
use Rattle.swc_input.specs.Buffer.{Read, Took, Future, source, held}
use Rattle.program_tokens.specs.{declared.source.ProgramInput.ProgramInput, Passing.PassesOver}
use Rattle.program_tokens.specs.Source.{program_model, program_laws, stays}

module _ (b d c : Buffer ProgramInput) (p : PassesOver b d) where
  took : (xs : List TokenAndSpan) → Took program_model d xs c → Took program_model b xs c
  took xs t = record {
    given = t.given;
    gave = program_laws.joins (source b) (source d) (source c) [] t.given
        (stays (source b) (source d) (ap (λ n. n.syntax) p.still.notes)
        (ap (λ n. n.target) p.still.notes) p.still.ended p.still.failed) t.gave;
    balance = ap (λ e. held e ++ t.given) (sym p.rest) ∙ t.balance;
  }

  read : (xs : List TokenAndSpan) → Read program_model d xs c → Read program_model b xs c
  read xs r = record {
    took = took xs r.took;
    context = r.context ∙ ap (λ n. n.context) p.still.notes;
    errors = subst (λ es. Keeps es (program_model.state (source c)).errors)
        (ap (λ n. n.errors.items) p.still.notes) r.errors;
    waiting = subst (λ es. Keeps es (program_model.state (source c)).waiting)
        (ap (λ n. n.module_errors.items) p.still.notes) r.waiting;
    lower = let same = ap (λ e. length (held e)) p.rest in omega (arith, r.lower, p.lower, same);
  }

  pub passed_over : {V : Type 0} (reads : Reading V) (r : Result V Error) → Hooked program_model reads d r c
      → Hooked program_model reads b r c
  passed_over reads r h = record {
    taken = h.taken;
    some = h.some;
    read = read h.taken h.read;
    less = let same = ap (λ e. length (held e)) p.rest in omega (arith, h.less, p.lower, same);
    clean = λ loud same.
        let is_loud : Loud program_model d = ap (λ n. is_silent (listed_state n)) p.still.notes ∙ loud in
        subst (λ n. IfOk r (λ v. (rest : List TokenAndSpan) → Future program_model c rest
        → reads n.context (h.taken ++ rest) ≡ Some (v, rest)))
        p.still.notes (h.clean is_loud (same ∙ sym (ap (λ n. n.errors.items) p.still.notes)));
    refused = h.refused;
  }
