use Rattle.std.proofs.Common.{refl}
use Rattle.swc_grammar.specs.Symbols.{Pat}
use Rattle.swc_steps.specs.Params.{pat_at}
use Rattle.swc_input.specs.Listed.{listed_laws, listed_state, new_state}
use Rattle.swc_ecma_parser.proofs.WholeList.{front-new, headline-in}
use Rattle.swc_ecma_parser.proofs.whole.parse_whole_pat.Goals as goal

pub returns-clause-headline : goal.returns-clause-headline
returns-clause-headline g c = headline-in (listed_state c.new-source.result)
    (new_state c.args.tokens.items c.args.ctx c.args.syntax c.args.target) c.new-source.ensures.state
    (record { known = refl; clean = refl }) c.read_whole_pat.ensures.headline

pub returns-clause-front : goal.returns-clause-front
returns-clause-front g c = front-new g.B.BodyForms.forms Pat c.new-source.result pat_at
    c.read_whole_pat.result.read c.read_whole_pat.result.nodes c.read_whole_pat.result.recorded.items listed_laws _
    (new_state c.args.tokens.items c.args.ctx c.args.syntax c.args.target) c.new-source.ensures.state
    (record { known = refl; clean = refl }) c.read_whole_pat.ensures.front
