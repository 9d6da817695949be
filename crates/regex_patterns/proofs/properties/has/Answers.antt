use Rattle.std.proofs.Common.{sym, ap, ◌∙◌, ◌+◌, drop}
use Rattle.regex_patterns.specs.Properties.{has_from}
use Rattle.regex_patterns.proofs.Words.{byte_on, word_found, word_on, word_over}
use Rattle.regex_patterns.proofs.properties.has.Goals as goal
use Rattle.regex_patterns.proofs.properties.has.Goals.{then-list-at-ne32, else-list-at-ne32+else-is_whole}

pub returns-then-is_whole : goal.returns-then-is_whole
returns-then-is_whole c =
    sym (word_found c.args.word.now c.as_bytes-list.result.now c.loop-at.at c.loop-at.found c.loop-at-test.true
    c.if-list-at-ne32.false (sym c.if-is_whole.ensures))
    ∙ c.loop-at.invariant

pub loop-at-preserved : goal.loop-at-preserved
loop-at-preserved c = elim c.if-list-at-ne32.branch [
  | then-list-at-ne32 w ↦ ap (λ f. has_from c.args.word.now f (drop (c.loop-at.at + 1) c.as_bytes-list.result.now)) (w.found-is ∙ w.and_byte-found.ensures.value)
      ∙ sym (byte_on c.args.word.now c.as_bytes-list.result.now c.loop-at.at c.loop-at.found c.loop-at-test.true w.if-list-at-ne32.true)
      ∙ c.loop-at.invariant
  | else-list-at-ne32+else-is_whole w ↦ ap (λ f. has_from c.args.word.now f (drop (c.loop-at.at + 1) c.as_bytes-list.result.now)) w.found-is
      ∙ sym (word_on c.args.word.now c.as_bytes-list.result.now c.loop-at.at c.loop-at.found c.loop-at-test.true w.if-list-at-ne32.false
      (sym w.if-is_whole.ensures))
      ∙ c.loop-at.invariant
]

pub returns : goal.returns
returns c =
    c.is_whole-2.ensures
    ∙ sym (word_over c.args.word.now c.as_bytes-list.result.now c.loop-at.at c.loop-at.found c.loop-at-test.false)
    ∙ c.loop-at.invariant
