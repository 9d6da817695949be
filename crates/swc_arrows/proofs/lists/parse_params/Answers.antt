use Rattle.std.proofs.Common.{◌&&◌, true, sym, ap, subst, ◌∙◌}
use Rattle.std.specs.Prelude.{is_some}
use Rattle.swc_input.specs.{Buffer.context, Kinds.at_token}
use Rattle.swc_ast.specs.Trees.{items_of, comma_of}
use Rattle.swc_grammar.specs.{Arrows.is_arrow, Words.◌>>=◌}
use Rattle.swc_nodes.specs.NodeParts.{args_parts, flat, one_pat}
use Rattle.swc_nodes.proofs.{ArrowNodes.apart-back, Standing.grows-same}
use Rattle.swc_cover.specs.{Clear.is_clear, Faults.params_verdict, ReservedNames.names_ok, Items.want_items}
use Rattle.swc_cover.proofs.Kept.{kept-less}
use Rattle.swc_steps.specs.Keys.{expected}
use Rattle.swc_input.specs.Calls.{Checks}
use Rattle.swc_steps.specs.Parsing.{scope, seen_of, args_at, On}
use Rattle.swc_steps.proofs.{Building.apart-lower, Naming.goes, Naming.stops, Rules.passes_plain}
use Rattle.swc_steps.proofs.Steps as s
use Rattle.swc_arrows.specs.Readers.{arrow_behind, params_closed, params_refined, takes_params}
use Rattle.swc_arrows.specs.{Answers.callee_at, Answers.callee_parts, declared.names.Beginning.Beginning as begins}
use Rattle.swc_arrows.proofs.ListReads.{appended, arrow_takes, floor_up, params_splits, is_given, list_is, list_refused}
use Rattle.swc_arrows.proofs.lists.parse_params.Goals as goal

pub returns-in_err-refuse_line_break-clause-rewrites : goal.returns-in_err-refuse_line_break-clause-rewrites
returns-in_err-refuse_line_break-clause-rewrites g c = λ k le apart.
    let now = c.args.p.now.nodes in
    let hook = g.B.BodyForms.forms in
    let o = callee_at now c.args.start.callee in
    let es = args_at now c.args.list in
    list_refused hook c.from_residual.result c.from_residual.ensures.1
    (s.unheard_call (λ x p. expected is_arrow x p.1 >>= (λ q. params_refined hook o c.args.start.at es x q.1))
    (params_splits hook o c.args.start.at es) (c.in_err-refuse_line_break.ensures.continues g.B.Bodies.is_faithful))
    (appended le (grows-same _))

pub parse_paren_items_as_params-requires : goal.parse_paren_items_as_params-requires
parse_paren_items_as_params-requires g c =
    apart-back (callee_parts c.args.start.callee) (args_parts c.args.list.items) c.requires.apart

pub returns-in_err-params-clause-rewrites : goal.returns-in_err-params-clause-rewrites
returns-in_err-params-clause-rewrites g c = λ k le apart.
    let now = c.args.p.now.nodes in
    let hook = g.B.BodyForms.forms in
    let o = callee_at now c.args.start.callee in
    let es = args_at now c.args.list in
    let at = c.skip.new.input in
    let x = scope g.I.Tokens.model at in
    let h = c.skip.ensures.took.1 in
    let arrow = passes_plain is_arrow c.refuse_line_break.new.input.cur h.was h.current
    (ap (λ v. at_token is_arrow (seen_of v)) (c.in_ok-refuse_line_break.ensures.current c.requires.arrow)
    ∙ c.requires.arrow) in
    let u = c.in_err-params.ensures in
    list_refused hook c.from_residual-in_err-params.result c.from_residual-in_err-params.ensures.1
    (s.unheard_after (s.on_then
    (s.on_call (λ x p. expected is_arrow x p.1 >>= (λ q. params_refined hook o c.args.start.at es x q.1))
    (params_splits hook o c.args.start.at es) (c.in_ok-refuse_line_break.ensures.continues g.B.Bodies.is_faithful))
    (s.on_took {g = params_refined hook o c.args.start.at es} g.met.I.Tokens.laws h
    (λ x ts. arrow_takes hook o c.args.start.at es x _ ts arrow)))
    (record {
      refuses = u.unrefined.refuses.refuses;
      none = λ n y l ts z. stops (takes_params x.context es) _
          (ap (λ b. b && names_ok x.context (want_items (items_of es))) (u.unclear n));
    }))
    (kept-less (floor_up (callee_parts c.args.start.callee) (args_parts c.args.list.items) apart) u.unrefined.kept)

pub returns-clause-rewrites : goal.returns-clause-rewrites
returns-clause-rewrites g c = λ k le apart.
    let now = c.args.p.now.nodes in
    let hook = g.B.BodyForms.forms in
    let o = callee_at now c.args.start.callee in
    let es = args_at now c.args.list in
    let at = c.skip.new.input in
    let x = scope g.I.Tokens.model at in
    let h = c.skip.ensures.took.1 in
    let new = c.parse_paren_items_as_params.new.p in
    let arrow = passes_plain is_arrow c.refuse_line_break.new.input.cur h.was h.current
    (ap (λ v. at_token is_arrow (seen_of v)) (c.in_ok-refuse_line_break.ensures.current c.requires.arrow)
    ∙ c.requires.arrow) in
    let r = c.in_ok-params.ensures in
    let well = takes_params x.context es in
    let checks = subst (λ v. Checks g.I.Tokens.model (is_clear (params_verdict (comma_of es) (items_of es))
    && names_ok (context g.I.Tokens.model at) v) at new.input) r.refined.made.stands r.exact in
    let then = arrow_behind hook c.args.start.at.lo (is_some o) true (want_items (items_of es)) in
    let whole = s.on_then
    (s.on_call (λ x p. expected is_arrow x p.1 >>= (λ q. params_refined hook o c.args.start.at es x q.1))
    (params_splits hook o c.args.start.at es) (c.in_ok-refuse_line_break.ensures.continues g.B.Bodies.is_faithful))
    (s.on_then (s.on_took {g = params_refined hook o c.args.start.at es} g.met.I.Tokens.laws h
    (λ x ts. arrow_takes hook o c.args.start.at es x _ ts arrow))
    (s.on_checked_in {f = params_refined hook o c.args.start.at es} {g = then} well checks
    (λ ts z. goes well (then x ts) z) (λ ts z. stops well (then x ts) z))) in
    let same = ap (λ v. arrow_behind hook c.args.start.at.lo v true (want_items (items_of es)))
    (is_given now c.args.start.callee ∙ sym c.is_some.ensures)
    ∙ ap (arrow_behind hook c.args.start.at.lo c.is_some.result true) (sym r.refined.made.stands) in
    let floor = floor_up (callee_parts c.args.start.callee) (args_parts c.args.list.items) apart in
    list_is hook (begins.Arrow record {
      start = c.args.start.at.lo;
      is_async = c.is_some.result;
      in_parens = true;
      params = c.in_ok-params.params;
    })
    (subst (λ v. On g.I.Tokens.model g.B.Bodies.is_faithful
    (params_closed hook o c.args.start.at es) v c.args.p.now.input new.input)
    same whole)
    (kept-less floor r.refined.kept) (apart-lower (flat one_pat c.in_ok-params.params.items) floor r.refined.made.apart)
