use Rattle.std.proofs.Common.{not, sym, ap}
use Rattle.swc_context.specs.Reserved.{is_reserved_word}
use Rattle.swc_input.specs.Buffer.{context}
use Rattle.swc_grammar.specs.Tokens.{is_equals}
use Rattle.swc_steps.proofs.Refused.{err_is}
use Rattle.swc_steps.specs.Parsing.{scope}
use Rattle.swc_steps.proofs.Steps as s
use Rattle.swc_patterns.specs.declared.object.AfterPatKey.TheVariants as after
use Rattle.swc_patterns.proofs.Objects.{after_name_splits, name_well, name_ill}
use Rattle.swc_patterns.proofs.object.after_name.Goals as goal

pub returns-in_err-eat-clause-after : goal.returns-in_err-eat-clause-after
returns-in_err-eat-clause-after g c =
    λ sure. rw (err_is c.from_residual.ensures.1)
    (s.unheard_call _ (after_name_splits c.args.name) (c.in_err-eat.ensures.eats sure))

pub returns-in-Some-clause-after : goal.returns-in-Some-clause-after
returns-in-Some-clause-after g c = λ sure.
    s.on_answer (ap (λ v. after.Default v) (sym c.bound.ensures))
    (s.on_call _ (after_name_splits c.args.name)
    (s.eats_some sure is_equals _ _ _ _ c.in-Some.is (c.in_ok-eat.ensures.eats sure)).on)

pub returns-in_err-check_name-in-None-clause-after : goal.returns-in_err-check_name-in-None-clause-after
returns-in_err-check_name-in-None-clause-after g c =
    λ sure. rw (err_is c.from_residual-in_err-check_name-in-None.ensures.1)
    (s.unheard_after (s.on_call _ (after_name_splits c.args.name)
    (s.eats_none sure is_equals _ _ _ c.in-None.is (c.in_ok-eat.ensures.eats sure)))
    (s.unheard_memory c.in_err-check_name-in-None.ensures.checks))

pub returns-in_ok-check_name-in-None-clause-after : goal.returns-in_ok-check_name-in-None-clause-after
returns-in_ok-check_name-in-None-clause-after g c = λ sure.
    s.on_answer (ap (λ v. after.Name v) (sym c.bound-in-None.ensures))
    (s.on_then (s.on_call _ (after_name_splits c.args.name)
    (s.eats_none sure is_equals _ _ _ c.in-None.is (c.in_ok-eat.ensures.eats sure)))
    (s.on_checked_in (not (is_reserved_word (context g.I.Tokens.model c.eat.new.input) c.args.name.sym))
    c.in_ok-check_name-in-None.ensures.checks
    (λ ts h. name_well c.args.name (scope g.I.Tokens.model c.eat.new.input) ts h)
    (λ ts h. name_ill c.args.name (scope g.I.Tokens.model c.eat.new.input) ts h)))
