use Rattle.std.proofs.Common.{◌<◌, ◌∙◌, length, refl, sym, ap}
use Rattle.std.proofs.lemmas.List.{length-map, map_push}
use Rattle.swc_tokens.specs.{Found.made, Order.end_of, Nesting.nothing}
use Rattle.swc_tokens.proofs.Marks.{end_of-push}
use Rattle.swc_tokens.proofs.Nesting.{AreNested_end, delimiter_behind, delimiter_there, Nests_push, part_made}
use Rattle.swc_tokens.proofs.Reading.{AreRead_nil, AreRead_push, AreRead_end, last-there, last-given, left_less}
use Rattle.swc_tokens.proofs.find_all.Goals as goal

-- the token that was read is after the others
pub loop-tokens-preserved : goal.loop-tokens-preserved
loop-tokens-preserved c =
    let so_far = c.loop-tokens.invariant in
    let next = rw (c.in-Some.is, so_far.text) at c.in_ok-found.ensures.next in
    let fine = rw (c.in-Some.is, so_far.text) at c.in_ok-found.ensures.no_error in
    let first = rw c.in-Some.is at c.in_ok-found.ensures.first in
    let marks = rw (c.in-Some.is, so_far.text) at c.in_ok-found.ensures.marks in
    let turns = rw (
      c.part.ensures,
      ← part_made c.args.text.now c.in-Some.found.span.lo.0 c.in-Some.found.span.hi.0
          c.in-Some.found.shape,
    ) at c.in_ok-pass.ensures.turns in
    let added = map_push (made c.args.text.now) c.loop-tokens.tokens.items c.in-Some.found in record {
      text = ap (λ t. t.now) c.read_next.ensures.text ∙ so_far.text;
      read = rw (c.in_ok-push.ensures.added, added)
          (AreRead_push _ _ _ _ _ _ so_far.read next fine
          (λ b. rw length-map (last-there _ _ _ c.deref.ensures.value c.last.ensures.value (first b)))
          (λ n. marks (last-given _ _ _ c.deref.ensures.value c.last.ensures.value (rw length-map at n)))
          so_far.end);
      end = rw (c.in_ok-push.ensures.added, added, end_of-push) (sym next.ends);
      nests = rw (c.in_ok-push.ensures.added, added) (Nests_push _ _ _ _ _ _ so_far.nests turns);
      delimits = λ is. rw next.ends at (delimiter_there _ _ _ _ _ _ _ _ turns next.spells is);
    }

-- less is left after the token
pub loop-tokens-smaller : goal.loop-tokens-smaller
loop-tokens-smaller c =
    let so_far = c.loop-tokens.invariant in
    let next = rw (c.in-Some.is, so_far.text) at c.in_ok-found.ensures.next in
    let within = rw (c.read_next.ensures.text, so_far.text) at c.read_next.new.self.within in
    let turns = rw (
      c.part.ensures,
      ← part_made c.args.text.now c.in-Some.found.span.lo.0 c.in-Some.found.span.hi.0
          c.in-Some.found.shape,
    ) at c.in_ok-pass.ensures.turns in
    left_less _ _ _ _ _ _ next within (delimiter_behind _ _ _ _ _ turns)

-- nothing is open where the text ends; what is read is in the text, and blanks alone are left
pub returns-clause-tokens : goal.returns-clause-tokens
returns-clause-tokens c =
    let none : ¬ (0 < length c.loop-tokens.templates.brackets.items) = λ some. let yes =
    c.is_open.ensures.1 some in cc in
    let last = rw c.in_default.is at c.in_ok-found.ensures.closed in
    let whole = rw c.loop-tokens.invariant.text at c.loop-tokens.reader.within in
    let rest = rw (c.in_default.is, c.loop-tokens.invariant.text) at c.in_ok-found.ensures.rest in
    record {
      ascii = c.requires.ascii;
      read = AreRead_end _ _ _ c.loop-tokens.invariant.read whole rest;
      nested = AreNested_end _ _ _ c.loop-tokens.invariant.nests none last;
    }

-- what was found is such as is read next
pub pass-requires : goal.pass-requires
pass-requires c =
    let next = rw c.in-Some.is at c.in_ok-found.ensures.next in
    rw (
      c.part.ensures,
      ← part_made c.loop-tokens.reader.text.now c.in-Some.found.span.lo.0 c.in-Some.found.span.hi.0
          c.in-Some.found.shape,
    ) next.fitting

-- before the first token nothing is read
pub loop-tokens-init : goal.loop-tokens-init
unfolding end_of
loop-tokens-init c = record {
  text = ap (λ t. t.now) c.new-reader.ensures.text;
  read = rw (c.new-reader.ensures.at, c.new-tokens.ensures.items) (AreRead_nil _);
  end = rw (c.new-reader.ensures.at, c.new-tokens.ensures.items) refl;
  nests = rw (c.new-templates.ensures.empty, c.new-templates.ensures.next, c.new-tokens.ensures.items) nothing;
  delimits = λ is. absurd (cc);
}
