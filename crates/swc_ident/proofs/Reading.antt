-- What steps read, one after another: looks, words, and the faults that are noted.
use Rattle.std.proofs.Common.{◌≡◌, Bool, true, false, List, [], ◌∷◌, ◌++◌, Option, Some, None, Result, Ok, Err, MatchOption, OnOk, IsOk, IfErr, refl, sym, ap, subst, ◌∙◌}
use Rattle.swc_context.specs.{declared.error.Error.Error, declared.error.SyntaxError.SyntaxError, declared.span.BytePos.BytePos, declared.span.Span.Span, declared.word.Word.Word}
use Rattle.swc_input.specs.Source.{Model, Laws, with_module_error}
use Rattle.swc_input.specs.Buffer.{Read, ReadSome, Lives, Looked, current, last_position, source, with_source}
use Rattle.swc_input.specs.Laws.{Looked-lives, Read-then, Read-late, Read-same, Recorded-read, Refused-read}
use Rattle.swc_input.specs.Recording.{is_silent, error_token, refusal, Recorded, Refused, Seen}
use Rattle.swc_input.specs.{declared.buffer.Buffer.Buffer, declared.token.Token.Token, declared.token.TokenAndSpan.TokenAndSpan, Plain.plain}
use Rattle.swc_input.specs.Recording as rec
use Rattle.swc_input.proofs.Ends.{past_end}
use Rattle.swc_ident.specs.Naming.{fault_at, Notes, none-noted, now-silent, now-recorded, later-ignored, later-noted, Passed, Spoken}
use Rattle.swc_ident.specs.Steps.{Forgone, Noting}
use Rattle.swc_ident.specs.Verdicts.{Fault, now, in_modules}

pub place_is : (o : Option TokenAndSpan) (p at : Span) → MatchOption o (at ≡ p) (λ t. at ≡ t.span)
    → at ≡ elim o [ None ↦ p | Some t ↦ t.span ]
place_is None p at h = h
place_is (Some t) p at h = h

module _ {S : Type 0} {model : Model S} where
  pub reads_then : {b c d : Buffer S} → Laws model → ReadSome model b c → ReadSome model c d → ReadSome model b d
  reads_then {b} {c} {d} laws p q = (p.0 ++ q.0, Read-then laws b c d p.0 q.0 p.1 q.1)

  pub reads_none : Laws model → (b : Buffer S) → ReadSome model b b
  reads_none laws b = ([], Read-same laws b)

  -- ---- looks

  pub looked_reads : {b c : Buffer S} → Looked model b c → ReadSome model b c
  looked_reads l = ([], l.look.read)

  pub looked_then : {b c d : Buffer S} → Laws model → Looked model b c → Looked model c d → Looked model b d
  looked_then {b} {c} {d} laws p q = record {
    look = record {
      read = Read-late laws b c d [] p.look.read q.look.read;
      previous = q.look.previous ∙ p.look.previous;
      quiet = λ m h.
          let k = (laws.gave b.iter c.iter p.look.read.took.given p.look.read.took.gave).known m h in
          let x = p.look.quiet m h in
          let y = q.look.quiet k.0 k.1 in
          (y.0 ∙ x.0, y.1 ∙ x.1);
    };
    same = λ t h. let e = p.same t h in q.same t (ap current e ∙ h) ∙ e;
    lives = Looked-lives laws p q;
    end = q.end;
  }

  -- where a look told the end from a failed source, a second look finds the same
  pub same_seen : {b c d : Buffer S} (v : Bool) → Laws model → Seen model b v c → Looked model c d
      → current d ≡ current c
  same_seen true laws s l = let t = s.token refl in ap current (l.same t.0 t.1)
  same_seen false laws s l = let e = s.end refl in past_end laws l e.0 e.1 e.3 ∙ sym e.0

  -- and where it finds no token, none is left
  pub end_seen : {b c d : Buffer S} (v : Bool) → Laws model → Seen model b v c → Looked model c d → current d ≡ None
      → (model.state (source d)).ended ≡ true
  end_seen true laws s l h = let t = s.token refl in let same = ap current (l.same t.0 t.1) in absurd cc
  end_seen {c = c} {d = d} false laws s l h = let took = l.look.read.took in
      (laws.gave c.iter d.iter took.given took.gave).stays (s.end refl).3

  pub refused_reads : {b c : Buffer S} {f : Buffer S → Error} {e : Error} → Laws model → Refused model b f e c
      → ReadSome model b c
  refused_reads {b} {c} {f} {e} laws r = Refused-read laws b c f e r

  -- what is refused at a current token that was looked at
  pub met : {b c d : Buffer S} {f : Buffer S → Error} {e : Error} (g : Buffer S → Error) (t : TokenAndSpan)
      → Looked model b c → current c ≡ Some t →
      Refused model c f e d → f c ≡ g c → (x : Refused model b g e d) × (x.here ≡ c)
  met {b} {c} {d} {f} {e} g t l some r same =
      let here = r.looked.same t some in
      let P : Buffer S → Type 0 = λ v. Read model v (error_token (current v)) d in
      let Q : Buffer S → Type 0 = λ v. e ≡ refusal (current v) (model.state (source v)).failed (last_position v)
      (f v) in (
        record {
          here = c;
          looked = l;
          read = subst P here r.read;
          lives = let L : Buffer S → Type 0 = λ v. Lives model v d in subst L here r.lives;
          same = r.same ∙ ap source here;
          answer = subst Q here r.answer ∙ ap (λ x. refusal (current c) (model.state (source c)).failed
              (last_position c) x) same;
        },
        refl,
      )

  -- what is refused at what was seen
  pub passed_over : {b c d : Buffer S} {f : Buffer S → Error} {e : Error} (v : Bool) → Laws model → Seen model b v c
      → Refused model c f e d →
      (x : Refused model b f e d) × (current x.here ≡ current c)
  passed_over v laws s r = (
    record {
      here = r.here;
      looked = looked_then laws s.looked r.looked;
      read = r.read;
      lives =
          r.lives;
      same = r.same;
      answer = r.answer;
    },
    same_seen v laws s r.looked,
  )

  -- ---- out of memory

  pub forgone_here : {b : Buffer S} {e : Error} {at : BytePos} → Laws model → e ≡ rec.no_memory at → Forgone model b e b
  forgone_here {b} laws h = record { consumed = []; read = Read-same laws b; kind = ap (λ x. x.kind) h }

  pub forgone_later : {b c d : Buffer S} {e : Error} → Laws model → ReadSome model b c → Forgone model c e d
      → Forgone model b e d
  forgone_later laws p f = let r = reads_then laws p (f.consumed, f.read) in
      record { consumed = r.0; read = r.1; kind = f.kind }

  -- ---- faults

  pub noted_then : {at : Span} {fs gs : List Fault} {b c d : Buffer S} → Notes model at fs b c → Notes model at gs c d
      → Notes model at (fs ++ gs) b d
  noted_then none-noted n = n
  noted_then (now-silent h m) n = now-silent h (noted_then m n)
  noted_then (now-recorded h r m) n = now-recorded h r (noted_then m n)
  noted_then (later-ignored h m) n = later-ignored h (noted_then m n)
  noted_then (later-noted h rest s r m) n = later-noted h rest s r (noted_then m n)

  pub notes_read : {at : Span} {fs : List Fault} {b c : Buffer S} → Laws model → Notes model at fs b c
      → ReadSome model b c
  notes_read {b = b} laws none-noted = reads_none laws b
  notes_read laws (now-silent h m) = notes_read laws m
  notes_read laws (now-recorded h r m) = reads_then laws (Recorded-read laws _ _ _ r) (notes_read laws m)
  notes_read laws (later-ignored h m) = notes_read laws m
  notes_read laws (later-noted h rest s r m) = reads_then laws ([], r) (notes_read laws m)

  pub none_to_note : {at : Span} {fs : List Fault} {b : Buffer S} → fs ≡ [] → Notes model at fs b b
  none_to_note {at = at} {b = b} h = let P : List Fault → Type 0 = λ l. Notes model at l b b in
      subst P (sym h) none-noted

  -- ---- a token that was consumed

  pub place_told : {b c : Buffer S} {w : Word} {at told : Span} → told ≡ at → Spoken model b w at c
      → Spoken model b w told c
  place_told h s = record { here = s.here; looked = s.looked; took = s.took; place = h ∙ s.place }

  pub passed_reads : {b c : Buffer S} {t : Token} {at : Span} → Laws model → Passed model b t at c → ReadSome model b c
  passed_reads laws s = reads_then laws (looked_reads s.looked) (plain s.took.was ∷ [], s.took.read)

  pub passed_later : {b c d : Buffer S} {t : Token} {at : Span} → Laws model → Looked model b c → Passed model c t at d
      → Passed model b t at d
  passed_later laws l s = record { here = s.here; looked = looked_then laws l s.looked; took = s.took; place = s.place }

module _ {S : Type 0} (model : Model S) where
  -- what the calls that record ensure
  pub noted_now : {T : Type 0} (at : Span) (k : SyntaxError) (b c : Buffer S) (r : Result T Error)
      → (is_silent (model.state (source b)) ≡ true → IsOk r × (c ≡ b)) →
      (is_silent (model.state (source b)) ≡ false → OnOk r (Recorded model b (fault_at at k) c)) →
      IfErr r (λ e. (xs : List TokenAndSpan) × Read model b xs c × (e ≡ rec.no_memory (last_position c)))
      → Noting model at (now k ∷ []) b r c
  noted_now at k b c (Ok u) silent recorded refused = elim
      (is_silent (model.state (source b))) as (λ v. is_silent (model.state (source b)) ≡ v
      → Notes model at (now k ∷ []) b c) [
        | true ↦ (λ h. let P : Buffer S → Type 0 = λ x. Notes model at (now k ∷ []) b x in
            subst P (sym (silent h).1) (now-silent h none-noted))
        | false ↦ (λ h. now-recorded h (recorded h) none-noted)
      ] refl
  noted_now at k b c (Err e) silent recorded refused =
      record { consumed = refused.0; read = refused.1; kind = ap (λ x. x.kind) refused.2 }

  pub noted_in_modules : {T : Type 0} (at : Span) (k : SyntaxError) (b c : Buffer S) (r : Result T Error)
      → Read model b [] c → c ≡ with_source (source c) b →
      ((model.state (source b)).context.ignore_error ≡ true → IsOk r × (c ≡ b)) →
      ((model.state (source b)).context.ignore_error ≡ false
      → OnOk r (model.state (source c) ≡ with_module_error (fault_at at k) (model.state (source b)))) →
      IfErr r (λ e. (e ≡ rec.no_memory (last_position b)) × (model.state (source c) ≡ model.state (source b)))
      → Noting model at (in_modules k ∷ []) b r c
  noted_in_modules at k b c (Ok u) read rest silent recorded refused =
      elim (model.state (source b)).context.ignore_error as (λ v. (model.state (source b)).context.ignore_error ≡ v
      → Notes model at (in_modules k ∷ []) b c) [
        | true ↦ (λ h. let P : Buffer S → Type 0 = λ x. Notes model at (in_modules k ∷ []) b x in
            subst P (sym (silent h).1) (later-ignored h none-noted))
        | false ↦ (λ h. later-noted h rest (recorded h) read none-noted)
      ] refl
  noted_in_modules at k b c (Err e) read rest silent recorded refused =
      record { consumed = []; read = read; kind = ap (λ x. x.kind) refused.0 }
