use Rattle.std.proofs.Common.{sym, ap, arith}
use Rattle.swc_input.specs.Buffer.{context}
use Rattle.swc_ast.specs.Trees.{ident_e}
use Rattle.swc_grammar.specs.Tokens.{await_ident_ok}
use Rattle.swc_nodes.proofs.Standing.{grows-same}
use Rattle.swc_steps.specs.Parsing.{scope}
use Rattle.swc_steps.proofs.Making as m
use Rattle.swc_steps.proofs.Steps as s
use Rattle.swc_operators.proofs.Updates as update
use Rattle.swc_operators.proofs.ops.parse_await_ident.Goals as goal

pub returns-in_err-check_await_ident : goal.returns-in_err-check_await_ident
returns-in_err-check_await_ident g c =
    m.refused_more c.from_residual.ensures.1
    (s.unheard_memory c.in_err-check_await_ident.ensures.checks) (grows-same _)

pub returns-in_err-sym : goal.returns-in_err-sym
returns-in_err-sym g c =
    m.refused_more c.from_residual-in_err-sym.ensures.1
    (s.unheard_memory (s.forgoes_later c.in_ok-check_await_ident.ensures.checks.leads
    (s.forgoes_here g.met.I.Tokens.laws _ _ _ c.in_err-sym.ensures.refused))) (grows-same _)

pub returns : goal.returns
returns g c =
    let x = scope g.I.Tokens.model c.args.p.now.input in
    m.node_on _ c.ident_expr-node.result c.made.result (omega arith) c.ident_expr-node.ensures.made c.made.ensures.ok
    c.made.ensures.refused (grows-same _) c.ident_expr-node.ensures.grows
    (s.on_answer (ap (ident_e c.args.start) (sym c.in_ok-sym.ensures.text))
    (s.on_checked_in (await_ident_ok (context g.I.Tokens.model c.args.p.now.input))
    c.in_ok-check_await_ident.ensures.checks
    (λ ts h. update.ident_well c.args.start x ts h) (λ ts h. update.ident_ill c.args.start x ts h)))
