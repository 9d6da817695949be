use Rattle.std.proofs.Common.{false, refl}
use Rattle.swc_input.specs.Buffer.{context}
use Rattle.swc_ast.specs.{Tree.nil, Tree.cons, Trees.ident_e}
use Rattle.swc_nodes.specs.GrowingNodes.{count}
use Rattle.swc_nodes.proofs.Standing.{grows-same}
use Rattle.swc_patterns.proofs.{PartlyRead.refused, PatNodes.pat_made}
use Rattle.swc_steps.specs.Parsing.{scope, ident_spelling}
use Rattle.swc_steps.proofs.Naming.{goes, stops}
use Rattle.swc_steps.proofs.Steps as s
use Rattle.swc_arrows.specs.Readers.{arrow_behind, name_behind, name_ok}
use Rattle.swc_arrows.proofs.Bases.{one_is_arrow}
use Rattle.swc_arrows.proofs.NameReads.{name_splits, name_rest, one_leaves}
use Rattle.swc_arrows.proofs.names.parse_arrow_name.Goals as goal

pub returns-in_err-ident-clause-leaves : goal.returns-in_err-ident-clause-leaves
returns-in_err-ident-clause-leaves g c =
    let hook = g.B.BodyForms.forms in
    refused c.from_residual.ensures.1
    (s.unheard_call (λ x p. name_rest hook p.0 x p.1) (name_splits hook)
    (c.in_err-ident.ensures.parses g.B.Bodies.is_faithful)) (grows-same _)

pub returns-in_err-expect-clause-leaves : goal.returns-in_err-expect-clause-leaves
returns-in_err-expect-clause-leaves g c =
    let hook = g.B.BodyForms.forms in
    let n = ident_spelling c.in_ok-ident.ident in
    refused c.from_residual-in_err-expect.ensures.1
    (s.unheard_after (s.on_call (λ x p. name_rest hook p.0 x p.1) (name_splits hook)
    (c.in_ok-ident.ensures.parses g.B.Bodies.is_faithful).on)
    (s.unheard_call (λ x q. name_behind hook n x q.1) (λ x ts. refl)
    (c.in_err-expect.ensures.expects g.B.Bodies.is_faithful))) (grows-same _)

pub returns-in_err-check_arrow_name-clause-leaves : goal.returns-in_err-check_arrow_name-clause-leaves
returns-in_err-check_arrow_name-clause-leaves g c =
    refused c.from_residual-in_err-check_arrow_name.ensures.1
    (s.unheard_memory (s.forgoes_later (c.in_ok-ident.ensures.parses g.B.Bodies.is_faithful).on.leads
    (s.forgoes_later (c.in_ok-expect.ensures.expects g.B.Bodies.is_faithful).on.leads
    c.in_err-check_arrow_name.ensures.checks))) (grows-same _)

pub returns-in_err-param-clause-leaves : goal.returns-in_err-param-clause-leaves
returns-in_err-param-clause-leaves g c =
    refused c.from_residual-in_err-param.ensures.1
    (s.unheard_memory (s.forgoes_later (c.in_ok-ident.ensures.parses g.B.Bodies.is_faithful).on.leads
    (s.forgoes_later (c.in_ok-expect.ensures.expects g.B.Bodies.is_faithful).on.leads
    (s.forgoes_later c.in_ok-check_arrow_name.ensures.checks.leads
    (s.forgoes_here g.met.I.Tokens.laws _ _ _ c.in_err-param.ensures.refused))))) c.ident_pat-node.ensures.grows

pub returns-clause-leaves : goal.returns-clause-leaves
returns-clause-leaves g c =
    let hook = g.B.BodyForms.forms in
    let n = ident_spelling c.in_ok-ident.ident in
    let t = ident_e n.at n.text in
    let b = c.expect.new.input in
    let well = name_ok (context g.I.Tokens.model b) n in
    let then = arrow_behind hook n.at.lo false false (cons t nil) in
    let made = pat_made c.ident_pat-node.new.self
    (count c.args.p.now.nodes) t c.ident_pat-node.result c.in_ok-param.param
    c.ident_pat-node.ensures.made c.in_ok-param.ensures.ok in
    one_leaves hook n.at.lo false _ c.one_param.result c.one_param.ensures
    (s.on_then (s.on_call (λ x p. name_rest hook p.0 x p.1) (name_splits hook)
    (c.in_ok-ident.ensures.parses g.B.Bodies.is_faithful).on)
    (s.on_then (s.on_call (λ x q. name_behind hook n x q.1) (λ x ts. refl)
    (c.in_ok-expect.ensures.expects g.B.Bodies.is_faithful).on)
    (s.on_checked_in {f = name_behind hook n} {g = then} well c.in_ok-check_arrow_name.ensures.checks
    (λ ts h. goes well (then (scope g.I.Tokens.model b) ts) h) (λ ts h. stops well
    (then (scope g.I.Tokens.model b) ts) h))))
    c.ident_pat-node.ensures.grows made.from made.stands

pub returns-clause-arrow : goal.returns-clause-arrow
returns-clause-arrow g c = one_is_arrow _ _ _ _ c.one_param.result c.one_param.ensures
