use Rattle.std.proofs.Common.{ap}
use Rattle.swc_input.specs.Buffer.{context, last_position}
use Rattle.swc_cover.proofs.Checked.{on-ok-as, if_err-as, from-none, found-whole, found-unfit, unfit-memory}
use Rattle.swc_cover.proofs.{Clear.found-clear, Clear.found-unclear, Typed.quiet-as, Typed.fits-quietly, FaultsNoted.found-judged}
use Rattle.swc_cover.specs.PatTypes.{verdict_as}
use Rattle.swc_nodes.specs.GrowingNodes.{tree_at}
use Rattle.swc_cover.proofs.noting.check_pat.Goals as goal

pub returns-in-Ok-clause-checks : goal.returns-in-Ok-clause-checks
returns-in-Ok-clause-checks g c =
    let t = tree_at c.args.nodes.now c.args.id.0 in
    let strict = (context g.I.Tokens.model c.args.input.now).strict in
    let x = from-none c.new-faults.ensures.items (ap (λ k. verdict_as k.strict c.args.pat_type t)
    c.get_ctx-strict.ensures) c.in-Ok.ensures in
    on-ok-as c.record_found.result (found-whole x (quiet-as strict c.args.pat_type t)
    (fits-quietly strict c.args.pat_type t)) c.record_found.ensures.checks

pub returns-in-Ok-clause-refuses : goal.returns-in-Ok-clause-refuses
returns-in-Ok-clause-refuses g c =
    let t = tree_at c.args.nodes.now c.args.id.0 in
    let strict = (context g.I.Tokens.model c.args.input.now).strict in
    let x = from-none c.new-faults.ensures.items (ap (λ k. verdict_as k.strict c.args.pat_type t)
    c.get_ctx-strict.ensures) c.in-Ok.ensures in
    if_err-as c.record_found.result (λ e h. found-unfit x (quiet-as strict c.args.pat_type t) h)
    c.record_found.ensures.refuses

pub returns-clause-refuses : goal.returns-clause-refuses
returns-clause-refuses g c =
    unfit-memory g.met.I.Tokens.laws c.args.input.now (last_position c.args.input.now) c.out_of_memory.result
    c.out_of_memory.ensures

pub returns-in-Ok-clause-exact : goal.returns-in-Ok-clause-exact
returns-in-Ok-clause-exact g c =
    let t = tree_at c.args.nodes.now c.args.id.0 in
    let x = from-none c.new-faults.ensures.items (ap (λ k. verdict_as k.strict c.args.pat_type t)
    c.get_ctx-strict.ensures) c.in-Ok.ensures in
    on-ok-as c.record_found.result (found-clear x) c.record_found.ensures.checks

pub returns-in-Ok-clause-unclear : goal.returns-in-Ok-clause-unclear
returns-in-Ok-clause-unclear g c =
    let t = tree_at c.args.nodes.now c.args.id.0 in
    let x = from-none c.new-faults.ensures.items (ap (λ k. verdict_as k.strict c.args.pat_type t)
    c.get_ctx-strict.ensures) c.in-Ok.ensures in
    if_err-as c.record_found.result (λ e h. λ n. found-unclear x (h.1 n)) c.record_found.ensures.refuses

pub returns-clause-unclear : goal.returns-clause-unclear
returns-clause-unclear g c = λ n. absurd (n (ap (λ e. e.kind) c.out_of_memory.ensures))

pub returns-in-Ok-clause-judges : goal.returns-in-Ok-clause-judges
returns-in-Ok-clause-judges g c =
    let t = tree_at c.args.nodes.now c.args.id.0 in
    let x = from-none c.new-faults.ensures.items (ap (λ k. verdict_as k.strict c.args.pat_type t)
    c.get_ctx-strict.ensures) c.in-Ok.ensures in
    found-judged g.I.Tokens.model _ _ c.record_found.result x c.record_found.ensures.judges

pub returns-clause-judges : goal.returns-clause-judges
returns-clause-judges g c = λ n. absurd (n (ap (λ e. e.kind) c.out_of_memory.ensures))
