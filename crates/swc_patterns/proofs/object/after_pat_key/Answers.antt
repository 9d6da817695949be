use Rattle.swc_grammar.specs.Tokens.{is_colon}
use Rattle.swc_steps.proofs.Refused.{err_is}
use Rattle.swc_steps.proofs.Steps as s
use Rattle.swc_patterns.proofs.Objects.{after_pat_key_splits, bare_keeps, no_colon_name, no_colon_other}
use Rattle.swc_patterns.proofs.object.after_pat_key.Goals as goal

pub returns-in_err-eat-clause-after : goal.returns-in_err-eat-clause-after
returns-in_err-eat-clause-after g c =
    λ sure. rw (err_is c.from_residual.ensures.1)
    (s.unheard_call _ (after_pat_key_splits c.args.key) (c.in_err-eat.ensures.eats sure))

pub returns-in-Some-clause-after : goal.returns-in-Some-clause-after
returns-in-Some-clause-after g c = λ sure.
    s.on_call _ (after_pat_key_splits c.args.key)
    (s.eats_some sure is_colon _ _ _ _ c.in-Some.is (c.in_ok-eat.ensures.eats sure)).on

pub returns-in-Ident-clause-after : goal.returns-in-Ident-clause-after
returns-in-Ident-clause-after g c = λ sure.
    s.continues_after g.I.Tokens.model sure (λ a. a) _ _ c.after_name.result
    (s.on_to (s.on_call _ (after_pat_key_splits c.args.key)
    (s.eats_none sure is_colon _ _ _ c.in-None.is (c.in_ok-eat.ensures.eats sure)))
    (no_colon_name c.args.key c.in-Ident.name c.in-Ident.is))
    (c.after_name.ensures.after sure)

pub returns-in-Ident-clause-kept : goal.returns-in-Ident-clause-kept
returns-in-Ident-clause-kept g c = bare_keeps c.args.key c.after_name.result c.after_name.ensures.bare

pub returns : goal.returns
returns g c = record {
  after = λ sure.
      s.unheard_after (s.on_call _ (after_pat_key_splits c.args.key)
      (s.eats_none sure is_colon _ _ _ c.in-None.is (c.in_ok-eat.ensures.eats sure)))
      (s.unheard_none (λ x ts. no_colon_other c.args.key c.in_default.not-Ident x ts) (c.unexpected.ensures.refuses
      (λ e. cc)));
  kept = tt;
  falls = tt;
}
