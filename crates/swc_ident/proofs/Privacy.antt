-- What the calls on private names answer, from their steps.
use Rattle.std.proofs.Common.{◌≡◌, ℕ, List, [], Option, Some, None, MatchOption, sym, ap, ◌∙◌}
use Rattle.swc_context.specs.{Spans.between, declared.error.Error.Error, declared.error.SyntaxError.SyntaxError as kind, declared.span.BytePos.BytePos, declared.span.Span.Span}
use Rattle.swc_context.proofs.Spans.{same_position}
use Rattle.swc_input.specs.Buffer.{ReadSome, Looked, current, last_position}
use Rattle.swc_input.specs.{declared.buffer.Buffer.Buffer, declared.token.TokenAndSpan.TokenAndSpan, Source.Model, Source.Laws, Laws.Read-same, Recording.Refused, Kinds.at_token, Kinds.is_hash}
use Rattle.swc_input.specs.Recording as rec
use Rattle.swc_ident.specs.Naming.{fault_at, Hashed, next_begins, Private, Unprivate, no_memory, no_memory_either, no_hash, apart, no_name, Neither}
use Rattle.swc_ident.proofs.Reading.{reads_then, looked_reads, refused_reads, met, passed_reads, passed_later}
use Rattle.swc_ident.proofs.Finding.{unnamed_reads}

pub next_is : (o : Option TokenAndSpan) (p next : BytePos) → MatchOption o (next ≡ p) (λ t. next ≡ t.span.lo)
    → next ≡ elim o [ None ↦ p | Some t ↦ t.span.lo ]
next_is None p next h = h
next_is (Some t) p next h = h

-- what begins where a `#` ends
pub joins_hash : {S : Type 0} (b : Buffer S) (hash : Span) (next : BytePos)
    → MatchOption (current b) (next ≡ last_position b) (λ t. next ≡ t.span.lo) → next.0 ≡ hash.hi.0 →
    (elim (current b) [ None ↦ last_position b | Some t ↦ t.span.lo ]) ≡ hash.hi
joins_hash b hash next h e = sym (next_is (current b) (last_position b) next h) ∙ same_position next hash.hi e

module _ {S : Type 0} {model : Model S} where
  -- out of memory after the `#`
  pub private_forgone : {b c d : Buffer S} {e : Error} {at : Span} {last : BytePos} → Laws model → Hashed model b at c
      → Looked model c d → e ≡ rec.no_memory last → Unprivate model b e d
  private_forgone laws s l h = let x = reads_then laws (passed_reads laws s) (looked_reads l) in
      no_memory_either x.0 x.1 (ap (λ x. x.kind) h)

  pub private_reads : {text : List ℕ} {at : Span} {b c : Buffer S} → Laws model → Private model text at b c
      → ReadSome model b c
  private_reads laws p = reads_then laws (passed_reads laws p.sign)
      (reads_then laws (looked_reads p.looked) (p.name.consumed, p.name.read))

  pub unprivate_reads : {b c : Buffer S} {e : Error} → Laws model → Unprivate model b e c → ReadSome model b c
  unprivate_reads laws (no_memory_either xs r k) = (xs, r)
  unprivate_reads laws (no_hash r x f) = refused_reads laws r
  unprivate_reads laws (apart s r f) = reads_then laws (passed_reads laws s) (refused_reads laws r)
  unprivate_reads laws (no_name s l j u) = reads_then laws (passed_reads laws s)
      (reads_then laws (looked_reads l) (unnamed_reads laws u))

  pub private_later : {text : List ℕ} {at : Span} {b c d : Buffer S} → Laws model → Looked model b c
      → Private model text at c d → Private model text at b d
  private_later laws l p = record {
    hash = p.hash;
    hashed = p.hashed;
    sign = passed_later laws l p.sign;
    near = p.near;
    looked = p.looked;
    end = p.end;
    joined = p.joined;
    word = p.word;
    name = p.name;
    place = p.place;
  }

  -- where the next token doesn't begin where the `#` ends, that is refused
  pub apart_from : {b c d f : Buffer S} {e : Error} {hash : Span} (o : Option TokenAndSpan) (next : BytePos) (at : Span)
      → current d ≡ o → Hashed model b hash c → Looked model c d →
      MatchOption (current d) (next ≡ last_position d) (λ t. next ≡ t.span.lo) → (next.0 ≡ hash.hi.0 → ⊥)
      → at ≡ between hash.lo hash.hi →
      Refused model d (λ here. fault_at at kind.SpaceBetweenHashAndIdent) e f → Unprivate model b e f
  apart_from {d = d} {hash = hash} None next at h s l place away same r =
      let next_here = next_is (current d) (last_position d) next place in
      let ends : next_begins model d ≡ last_position d =
      ap (λ o. elim o [ None ↦ last_position d | Some t ↦ t.span.lo ]) h in
      let last : last_position d ≡ hash.hi = ap (λ p. p.hi) l.look.previous ∙ ap (λ x. x.prev_span.hi) s.took.now ∙ ap
      (λ p. p.hi) (sym s.place) in
      absurd (away (ap (λ p. p.0) (next_here ∙ ends ∙ last)))
  apart_from {d = d} {hash = hash} (Some t) next at h s l place away same r =
      let x = met (λ here. fault_at (between hash.lo hash.hi) kind.SpaceBetweenHashAndIdent) t l h r
      (ap (λ p. fault_at p kind.SpaceBetweenHashAndIdent) same) in
      apart s x.0 (λ j. away (ap (λ p. p.0) (next_is (current d) (last_position d) next place ∙ ap
      (λ b. next_begins model b) (sym x.1) ∙ j)))

  -- ---- a private name, or a name

  pub neither_memory : {b c : Buffer S} {e : Error} {at : BytePos} → Laws model → Looked model b c → current c ≡ None
      → e ≡ rec.no_memory at → Neither model b e c
  neither_memory {c = c} laws l h e = record {
    here = c;
    looked = l;
    at_hash = λ t. let n = ap (at_token is_hash) h in absurd cc;
    elsewhere = λ f. no_memory [] (Read-same laws c) (ap (λ x. x.kind) e);
  }
