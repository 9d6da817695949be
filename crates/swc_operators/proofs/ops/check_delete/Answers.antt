use Rattle.swc_input.specs.Buffer.{context}
use Rattle.swc_ast.specs.Trees.{delete_ok}
use Rattle.swc_steps.specs.Parsing.{tree_of}
use Rattle.std.proofs.Common.{◌∙◌, sym}
use Rattle.swc_steps.proofs.Steps.{and_true, not_and, check_passes}
use Rattle.swc_operators.proofs.ops.check_delete.Goals as goal

pub returns-then-is_ident_deleted-clause-checks : goal.returns-then-is_ident_deleted-clause-checks
returns-then-is_ident_deleted-clause-checks g c = rw (
  sym c.is_ident_deleted.ensures ∙ c.if-is_ident_deleted.true,
  and_true (context g.I.Tokens.model c.args.input.now).module,
) c.emit_strict_mode_err.ensures.checks

pub returns-clause-checks : goal.returns-clause-checks
returns-clause-checks g c =
    check_passes (delete_ok (context g.I.Tokens.model c.args.input.now) c.args.op (tree_of c.args.nodes.now c.args.arg))
    g.met.I.Tokens.laws _
    (not_and (context g.I.Tokens.model c.args.input.now).module _
    (sym c.is_ident_deleted.ensures ∙ c.if-is_ident_deleted.false))
