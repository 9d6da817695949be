use Rattle.std.proofs.Common.{◌≡◌}
use Rattle.swc_tokens.specs.{Found.all_made, declared.template.Next.TheVariants.Delimiter, Nesting.Nests, Spelling.EndsText, Order.end_of, Reading.AreRead, Reading.left}
use Rattle.swc_tokens.proofs.find_all.Given as goal

-- the text stays, and the tokens are in what is read of it, which ends with the last; they nest, and where a delimiter
-- is read next, there is one
abbrev pub invariant-loop-tokens : goal.invariant-loop-tokens
invariant-loop-tokens l = record {
  text : l.reader.text.now ≡ l.text;
  read : AreRead l.text (all_made l.text l.tokens.items) l.reader.at;
  end : l.reader.at ≡ end_of 0 (all_made l.text l.tokens.items);
  nests : Nests (all_made l.text l.tokens.items) l.templates.brackets.items l.templates.next;
  delimits : l.templates.next ≡ Delimiter → EndsText l.text l.reader.at;
}

abbrev pub decreases-loop-tokens : goal.decreases-loop-tokens
decreases-loop-tokens l = left l.text l.reader.at l.templates.next
