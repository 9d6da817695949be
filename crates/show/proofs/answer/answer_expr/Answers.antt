use Rattle.swc_grammar.specs.Symbols.{Expr}
use Rattle.swc_steps.specs.Parsing.{tree_of}
use Rattle.swc_ecma_parser.specs.WholeList.{plain_list}
use Rattle.swc_tokens.specs.Inputs.{input_state, tokens_of}
use Rattle.show.proofs.Judging.{judged_by}
use Rattle.show.proofs.answer.answer_expr.Goals as goal

pub returns : goal.returns
returns c = λ lists heeded.
    let state = input_state c.args.source in
    let ts = tokens_of c.args.source in
    judged_by Expr tree_of state.context state.syntax ts
    c.read_whole_expr-read.result.nodes c.read_whole_expr-read.result.recorded.items heeded
    (c.read_whole_expr-read.ensures.headline (plain_list ts) lists) c.show_expr-shown.ensures
