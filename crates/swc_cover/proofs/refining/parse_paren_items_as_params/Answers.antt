use Rattle.std.proofs.Common.{sym, ap, ◌∙◌}
use Rattle.swc_input.specs.Buffer.{context}
use Rattle.swc_steps.proofs.Refused.{err_is}
use Rattle.swc_cover.proofs.{Checked.forgoes-after, Clear.params-then, Kept.apart-any, Kept.parts-kept, FaultsNoted.judged-params, Refines.items-refined, Refines.items-unfit}
use Rattle.swc_cover.specs.{Noting.names_bound, Refining.pats_at}
use Rattle.swc_nodes.specs.NodeParts.{flat, item_parts}
use Rattle.swc_cover.proofs.refining.parse_paren_items_as_params.Goals as goal

pub returns-in_err-check_items-clause-unrefined : goal.returns-in_err-check_items-clause-unrefined
returns-in_err-check_items-clause-unrefined g c =
    rw (err_is c.from_residual.ensures.1) (record {
      refuses = items-unfit c.args.trailing_comma c.args.items.now.items c.requires
          c.in_err-check_items.ensures.refuses;
      kept = parts-kept (flat item_parts c.args.items.now.items) c.requires;
    })

pub check_param_names-requires : goal.check_param_names-requires
check_param_names-requires g c = apart-any c.in-Ok.ensures.made.apart

pub returns-in_err-check_param_names-in-Ok-clause-unrefined :
    goal.returns-in_err-check_param_names-in-Ok-clause-unrefined
returns-in_err-check_param_names-in-Ok-clause-unrefined g c =
    rw (err_is c.from_residual-in_err-check_param_names-in-Ok.ensures.1) (record {
      refuses = forgoes-after c.in_ok-check_items.ensures.checks c.in_err-check_param_names-in-Ok.ensures.checks;
      kept = c.in-Ok.ensures.kept;
    })

pub returns-in_ok-check_param_names-in-Ok-clause-refined : goal.returns-in_ok-check_param_names-in-Ok-clause-refined
returns-in_ok-check_param_names-in-Ok-clause-refined g c =
    items-refined c.args.trailing_comma c.args.items.now.items c.in-Ok.pats.items c.requires
    c.in_ok-check_items.ensures.checks
    c.in_ok-check_param_names-in-Ok.ensures.checks c.in-Ok.ensures.kept c.in-Ok.ensures.made

pub returns-in_err-check_items-clause-unclear : goal.returns-in_err-check_items-clause-unclear
returns-in_err-check_items-clause-unclear g c =
    rw (err_is c.from_residual.ensures.1) c.in_err-check_items.ensures.unclear

pub returns-in_err-check_param_names-in-Ok-clause-unclear : goal.returns-in_err-check_param_names-in-Ok-clause-unclear
returns-in_err-check_param_names-in-Ok-clause-unclear g c =
    let r = c.from_residual-in_err-check_param_names-in-Ok in
    rw (err_is r.ensures.1) (λ n. absurd (n c.in_err-check_param_names-in-Ok.ensures.checks.kind))

pub returns-in_ok-check_param_names-in-Ok-clause-exact : goal.returns-in_ok-check_param_names-in-Ok-clause-exact
returns-in_ok-check_param_names-in-Ok-clause-exact g c =
    params-then (pats_at c.refine_items.new.nodes c.in-Ok.pats.items) c.in_ok-check_items.ensures.exact
    c.in_ok-check_param_names-in-Ok.ensures.checks

pub returns-in_err-check_items-clause-judges : goal.returns-in_err-check_items-clause-judges
returns-in_err-check_items-clause-judges g c = rw (err_is c.from_residual.ensures.1) c.in_err-check_items.ensures.judges

pub returns-in_err-check_param_names-in-Ok-clause-judges : goal.returns-in_err-check_param_names-in-Ok-clause-judges
returns-in_err-check_param_names-in-Ok-clause-judges g c =
    let r = c.from_residual-in_err-check_param_names-in-Ok in
    rw (err_is r.ensures.1) (λ n. absurd (n c.in_err-check_param_names-in-Ok.ensures.checks.kind))

pub returns-in_ok-check_param_names-in-Ok-clause-judges : goal.returns-in_ok-check_param_names-in-Ok-clause-judges
returns-in_ok-check_param_names-in-Ok-clause-judges g c =
    let checked = c.in_ok-check_items.ensures in
    let same = ap (λ k. names_bound k (pats_at c.refine_items.new.nodes c.in-Ok.pats.items))
    checked.checks.leads.read.context
    ∙ ap (λ ps. names_bound (context g.I.Tokens.model c.args.p.now.input) ps) c.in-Ok.ensures.made.stands in
    judged-params g.I.Tokens.model checked.judges
    (rw (sym same) c.in_ok-check_param_names-in-Ok.ensures.notes)

pub returns-in-Err-clause-judges : goal.returns-in-Err-clause-judges
returns-in-Err-clause-judges g c = λ n. absurd (n (ap (λ e. e.kind) c.out_of_memory.ensures))
