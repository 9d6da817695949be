use Rattle.std.proofs.Common.{◌++◌, ◌∷◌, [], ap, ◌∙◌}
use Rattle.std.proofs.lemmas.List.Elements.{All-push}
use Rattle.swc_lexer.specs.{Readings.reading_of, Readings.tokens_from, Reads.IsClean}
use Rattle.swc_lexer.proofs.Sums.{ReadTo_more, ReadTo_over, none_of, sum_at}
use Rattle.swc_lexer.proofs.read.read_all.Goals as goal

pub loop-tokens-preserved : goal.loop-tokens-preserved
loop-tokens-preserved c = (
  ReadTo_more _ _ _ _ _ _ _ _ _ _ c.in-Some.found c.loop-tokens.invariant.0 c.in_ok-found.ensures.given
      c.in_ok-found.ensures.within c.in-Some.is
      (c.in_ok-push-in-Ok.ensures.items ∙ ap (λ z. c.loop-tokens.tokens.items ++ z ∷ []) c.in-Ok.ensures.token.0),
  (let clean = All-push IsClean c.loop-tokens.tokens.items c.in-Ok.token c.loop-tokens.invariant.1
      c.in-Ok.ensures.token.1 in
      rw c.in_ok-push-in-Ok.ensures.items clean),
)

pub returns-in-Err : goal.returns-in-Err
returns-in-Err c = record {
  before = c.loop-tokens.tokens.items;
  fault = c.in-Some.found;
  after = tokens_from c.args.end c.args.text.now (reading_of c.next.new.self);
  split = sum_at _ _ _ _ _ _ _ _ c.loop-tokens.invariant.0.sum c.in_ok-found.ensures.given c.in-Some.is;
  clean = c.loop-tokens.invariant.1;
  is = c.in-Err.ensures.fault;
}

pub returns : goal.returns
returns c = (
  ReadTo_over _ _ _ _ _ _ _ _ c.loop-tokens.invariant.0 c.in_ok-found.ensures.given
      (none_of _ c.in_default.not-Some),
  c.loop-tokens.invariant.1,
)
