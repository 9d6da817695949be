use Rattle.std.proofs.Common.{false, refl, ap}
use Rattle.swc_steps.proofs.Emitted.{emit-noted, notes-none}
use Rattle.swc_steps.proofs.Steps as s
use Rattle.swc_steps.specs.Parsing.{scope}
use Rattle.swc_patterns.specs.Objects.{last_stage, rests_checked}
use Rattle.swc_patterns.proofs.PropRests.{comma_checked, comma_judged, last_checked, last_dotted, last_named, unnamed}
use Rattle.swc_patterns.proofs.object.check_last_rest.Goals as goal

pub returns-in_default-clause-checks : goal.returns-in_default-clause-checks
returns-in_default-clause-checks g c = λ sure.
    s.on_here g.met.I.Tokens.laws _
    (λ x ts. ap (λ o. rests_checked (last_stage o c.args.comma) x ts) c.in_default.is)

pub returns-in_default-clause-judges : goal.returns-in_default-clause-judges
returns-in_default-clause-judges g c = rw (c.in_default.is) (refl, notes-none g.I.Tokens.model _)

pub returns-then-not-rest-clause-checks : goal.returns-then-not-rest-clause-checks
returns-then-not-rest-clause-checks g c = λ sure. record {
  refuses = c.syntax_error.ensures.refuses (λ e. cc);
  none = λ n y l ts k. unnamed c.args.rest c.in-Some.rest c.args.comma
      (scope g.I.Tokens.model c.args.input.now) ts c.in-Some.is c.if-not-rest.true;
}

pub returns-then-not-rest-clause-judges : goal.returns-then-not-rest-clause-judges
returns-then-not-rest-clause-judges g c = λ n.
    last_dotted g.I.Tokens.model _ _ c.args.rest c.in-Some.rest c.args.comma c.in-Some.is c.if-not-rest.true
    c.in_order.ensures
    c.syntax_error.ensures.refused

pub returns-in-Some-comma-clause-checks : goal.returns-in-Some-comma-clause-checks
returns-in-Some-comma-clause-checks g c =
    comma_checked g.I.Tokens.model _ _ c.args.rest c.in-Some.rest c.args.comma c.emit_err.result c.in-Some.is
    c.if-not-rest.false c.in-Some-comma.is
    (s.check_notes g.I.Tokens.model false _ _ c.emit_err.result refl c.emit_err.ensures.tries c.emit_err.ensures.notes)

pub returns-in-Some-comma-clause-judges : goal.returns-in-Some-comma-clause-judges
returns-in-Some-comma-clause-judges g c =
    let done = c.emit_err.ensures in
    comma_judged g.I.Tokens.model _ _ c.args.rest c.in-Some.rest c.args.comma c.emit_err.result c.in-Some.is
    c.if-not-rest.false c.in-Some-comma.is
    (emit-noted g.I.Tokens.model _ _ _ c.emit_err.result done.silent done.recorded)
    (s.check_notes g.I.Tokens.model false _ _ c.emit_err.result refl c.emit_err.ensures.tries c.emit_err.ensures.notes)

pub returns-in-None-clause-checks : goal.returns-in-None-clause-checks
returns-in-None-clause-checks g c = λ sure.
    s.on_here g.met.I.Tokens.laws _
    (λ x ts. last_checked c.args.rest c.in-Some.rest c.args.comma x ts c.in-Some.is c.if-not-rest.false c.in-None.is)

pub returns-in-None-clause-judges : goal.returns-in-None-clause-judges
returns-in-None-clause-judges g c =
    last_named g.I.Tokens.model _ c.args.rest c.in-Some.rest c.args.comma c.in-Some.is c.if-not-rest.false c.in-None.is
