use Rattle.swc_ecma_parser.proofs.ReplayLaw.{replay-law}
use Rattle.swc_ecma_parser.proofs.replaying.read_again.Goals as goal

pub returns-clause-twice : goal.returns-clause-twice
returns-clause-twice g c = record {
  keeping = _;
  tokens = _;
  context = _;
  syntax = _;
  reads = c.read_keeping-first.ensures;
  hands_out = c.hand_out-tokens.ensures;
  reads_again = c.read_kept-again.ensures;
}

pub returns-clause-replay : goal.returns-clause-replay
returns-clause-replay g c =
    let hook = g.met.B.ReplayBodies in
    replay-law g.met.I.Tokens.laws hook.lawful hook.replays c.args.source _ _ _ _ _ _
    c.read_keeping-first.ensures c.hand_out-tokens.ensures c.read_kept-again.ensures
