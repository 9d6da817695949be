use Rattle.std.proofs.Common.{ap, ◌∙◌}
use Rattle.swc_input.specs.Buffer.{last_position}
use Rattle.swc_grammar.specs.{Reads.at-end, Symbols.Expr}
use Rattle.swc_nodes.specs.NodeParts.{expr_part}
use Rattle.swc_steps.specs.Parsing.{tree_of}
use Rattle.swc_ecma_parser.specs.Calls.{bound_of, buffer_of, has_failed, met_bound, nodes_of}
use Rattle.swc_ecma_parser.proofs.WholeList.{given-whole, headline, tries-bound, tries-shallow}
use Rattle.swc_ecma_parser.proofs.whole.read_whole_expr.Goals as goal

pub returns-clause-headline : goal.returns-clause-headline
returns-clause-headline g c = λ ts lists heeded.
    rw (
      c.into_nodes-nodes.ensures ∙ ap (λ p. nodes_of p) c.take_errors-recorded.ensures.rest,
      c.take_errors-recorded.ensures.taken,
    )
    (headline g.met.I.Tokens.laws tree_of expr_part Expr at-end c.new_from-parser.result c.args.source
    (last_position (buffer_of c.new_from-parser.result)) ts lists
    c.new_from-parser.ensures.fresh c.new_from-parser.ensures.runs c.limit_nesting.ensures heeded
    c.try_whole_expr-read.ensures.tries)

pub returns-clause-front : goal.returns-clause-front
returns-clause-front g c = λ heeded.
    rw (
      c.into_nodes-nodes.ensures ∙ ap (λ p. nodes_of p) c.take_errors-recorded.ensures.rest,
      c.take_errors-recorded.ensures.taken,
    )
    (given-whole g.met.I.Tokens.laws tree_of expr_part Expr at-end c.new_from-parser.result c.args.source
    (last_position (buffer_of c.new_from-parser.result))
    c.new_from-parser.ensures.fresh c.new_from-parser.ensures.runs c.limit_nesting.ensures heeded
    c.try_whole_expr-read.ensures.tries)

pub returns-clause-deep : goal.returns-clause-deep
returns-clause-deep g c = λ enough. c.is_too_deep-too_deep.ensures.shallow
    (ap (λ p. met_bound p) c.take_errors-recorded.ensures.rest
    ∙ tries-shallow c.try_whole_expr-read.ensures.tries
    (ap (λ p. has_failed p) c.limit_nesting.ensures ∙ c.new_from-parser.ensures.runs) enough)

pub returns-clause-unbounded : goal.returns-clause-unbounded
returns-clause-unbounded g c = λ none. c.is_too_deep-too_deep.ensures.never
    (ap (λ p. bound_of p) c.take_errors-recorded.ensures.rest
    ∙ tries-bound c.try_whole_expr-read.ensures.tries ∙ ap (λ p. bound_of p) c.limit_nesting.ensures ∙ none)
