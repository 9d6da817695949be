-- Private names: what the call answers, and where it ends, is what the clean reader of a `#` and a name reads.
use Rattle.std.proofs.Common.{◌≡◌, ◌≢◌, ℕ, Bool, true, false, if◌then◌else◌, List, [], Option, Some, None, refl, sym, ap, ◌∙◌}
use Rattle.std.proofs.lemmas.Bool.{eq-eqb, ne_eqb}
use Rattle.swc_context.specs.{Spans.between, declared.error.Error.Error, declared.error.SyntaxError.SyntaxError, declared.error.Wanted.Wanted, declared.span.BytePos.BytePos, declared.span.Span.Span}
use Rattle.swc_context.specs.declared.error.SyntaxError.TheVariants as kind
use Rattle.swc_context.proofs.Spans.{same_position}
use Rattle.swc_input.specs.{declared.buffer.Buffer.Buffer, declared.token.Token.Token, declared.token.TokenAndSpan.TokenAndSpan, Plain.plain_token, Source.Model, Source.Laws, Buffer.current, Buffer.last_position, Recording.Refused, Recording.unfit, Kinds.at_token, Kinds.is_hash}
use Rattle.swc_input.specs.declared.token.Token.TheVariants as token
use Rattle.swc_input.proofs.{Ends.past_end, Refusals.unfit-kind}
use Rattle.swc_ast.specs.Trees.{to}
use Rattle.swc_grammar.specs.Names.{Spelling, spelling, may_name}
use Rattle.swc_grammar.specs.Words.{◌>>=◌, rest, begins_at, word}
use Rattle.swc_grammar.specs.{Scope.Scope, Clean.Out, Clean.first}
use Rattle.swc_ident.specs.Naming.{fault_at, Hashed, Private, Unprivate, no_memory_either, no_hash, apart, no_name, expects, Named, Notes, none-noted}
use Rattle.swc_ident.specs.Verdicts.{name_of_any}
use Rattle.swc_steps.specs.Args.{hash_by, hash_name}
use Rattle.swc_input.specs.Calls.{Refuses, Here}
use Rattle.swc_steps.specs.Parsing.{seen, seen_of, On, Heard, Unheard}
use Rattle.swc_input.proofs.Calls.{refused}
use Rattle.swc_steps.proofs.Steps.{Reader, here_refused, on_seen, on_took, on_then, on_call, last_was, heard_after, heard_first, heard_answer, unheard_after, unheard_at, unheard_looked, unheard_memory, on_looked}
use Rattle.swc_steps.proofs.Naming.{goes, stops, here_at, honest-name, heard_name, refused_here, unheard_name, was_there}

-- a name, after the `#` at s
abbrev named : Span → Spelling × List TokenAndSpan → Out (Spelling × BytePos)
named s r = Some ((spelling r.0.text (to s r.0.at), r.0.at.hi), r.1)

abbrev name_behind : Span → Reader (Spelling × BytePos)
name_behind s c us = word may_name c us >>= named s

abbrev behind_hash : Span → Reader (Spelling × BytePos)
behind_hash s c us = if begins_at s (first us) then name_behind s c us else None

-- after a `#` that was consumed
hash_goes : (s : Span) (x : Scope) (t : Token) (b : Bool) (p : Span) (ts : List TokenAndSpan) → token.Hash ≡ t → s ≡ p
    → hash_by x (Some (record { token = plain_token t; had_line_break = b; span = p })) ts ≡ behind_hash s x ts
hash_goes s x t b p ts e q =
    ap (λ v. hash_by x (Some (record { token = plain_token v; had_line_break = b; span = p })) ts) (sym e) ∙ ap
    (λ v. behind_hash v x ts) (sym q)

none_hashed : (x : Scope) (t : Token) (b : Bool) (p : Span) (ts : List TokenAndSpan) → is_hash t ≡ false
    → hash_by x (Some (record { token = plain_token t; had_line_break = b; span = p })) ts ≡ None
none_hashed x token.Hash b p ts h = cc
none_hashed x t b p ts h = refl

none_seen : (x : Scope) (o : Option TokenAndSpan) (ts : List TokenAndSpan) → at_token is_hash o ≡ false
    → hash_by x (seen_of o) ts ≡ None
none_seen x None ts h = refl
none_seen x (Some t) ts h = none_hashed x t.token t.had_line_break t.span ts h

-- where the next token begins, and whether that is where the `#` ends
joins : (s : Span) (o : Option TokenAndSpan) (last : BytePos) → o ≢ None
    → (elim o as (λ v. BytePos) [ None ↦ last | Some t ↦ t.span.lo ]) ≡ s.hi → begins_at s (seen_of o) ≡ true
joins s None last some h = absurd (some refl)
joins s (Some t) last some h = eq-eqb s.hi.0 t.span.lo.0 (ap (λ p. p.0) (sym h))

is_apart : (s : Span) (o : Option TokenAndSpan) (last : BytePos)
    → ((elim o as (λ v. BytePos) [ None ↦ last | Some t ↦ t.span.lo ]) ≡ s.hi → ⊥) → begins_at s (seen_of o) ≡ false
is_apart s None last away = refl
is_apart s (Some t) last away = ne_eqb s.hi.0 t.span.lo.0 (λ e. away (same_position t.span.lo s.hi (sym e)))

nothing : {A : Type 0} (b : Bool) (o : Out A) → o ≡ None → (if b then o else None) ≡ None
nothing true o h = h
nothing false o h = refl

expected_kind : (k : SyntaxError) (what : Wanted) → expects k ≡ Some what → k ≢ kind.ParserFailed
expected_kind (kind.Expected t) what h e = cc
expected_kind k what h e = cc

module _ {S : Type 0} {model : Model S} where
  -- a name that any word is has no faults, so it ends where the token consumed last does
  none_noted : {at : Span} {b c : Buffer S} → Notes model at [] b c → c ≡ b
  none_noted none-noted = refl

  name_end : {text : List ℕ} {at : Span} {b c : Buffer S} → Named model name_of_any text at b c
      → at.hi ≡ last_position c
  name_end n =
      ap (λ s. s.hi) (n.said.place ∙ sym (last_was n.said.took)) ∙ ap (λ v. last_position v) (sym (none_noted n.noted))

module _ {S : Type 0} {model : Model S} {sure : Bool} where
  -- f reads nothing where the refusal was made
  unheard_refused : {A : Type 0} {f : Reader A} {b c : Buffer S} {e : Error} (g : Buffer S → Error) → Laws model
      → (r : Refused model b g e c) → ((here : Buffer S) → (g here).kind ≢ kind.ParserFailed) →
      ((x : Scope) (ts : List TokenAndSpan) → first ts ≡ seen r.here → f x ts ≡ None) → Unheard model sure f b e c
  unheard_refused {f = f} {b = b} {c = c} {e = e} g laws r own step = record {
    refuses = refused laws g e own r;
    none = λ n y l ts k.
        let late : Refuses model r.here e c = refused laws g e own (refused_here laws r) in
        let u : Unheard model sure f b e c = unheard_at (here_refused r.looked late n)
        (λ x vs same h. step x vs h) late in
        u.none n y l ts k;
  }

  on_hashed : {b c : Buffer S} {at : Span} → Laws model → Hashed model b at c
      → On model sure hash_name (behind_hash at) b c
  unfolding hash_name
  on_hashed {at = at} laws s =
      on_then (on_looked {f = hash_name} laws s.looked (was_there s))
      (on_took laws s.took (λ x ts. hash_goes at x s.took.was.token s.took.was.had_line_break s.took.was.span ts
      s.took.token s.place))

  -- a private name was read
  pub heard_private : {text : List ℕ} {at : Span} {b c : Buffer S} → Laws model → Private model text at b c
      → Heard model sure hash_name (spelling text at, last_position c) b c
  unfolding hash_name
  heard_private {text} {at} {b} {c} laws p =
      let s = p.sign in
      let spoken = p.name.said in
      let some : current p.near ≢ None = λ e. let none = past_end laws spoken.looked e (p.looked.end e).0 (p.end e) in
      let found = spoken.took.current in cc in
      let here : Here model p.hashed p.near = here_at laws p.looked some in
      let joined = joins p.hash (current p.near) (last_position p.near) some p.joined in
      heard_answer (ap (λ v. (spelling text v, p.word.hi)) (sym p.place) ∙ ap (λ v. (spelling text at, v))
      (name_end p.name))
      (heard_after (on_looked {f = hash_name} laws s.looked (was_there s))
      (heard_first laws s.took (λ x ts. hash_goes p.hash x s.took.was.token s.took.was.had_line_break s.took.was.span ts
      s.took.token s.place)
      (on_then (on_seen {g = name_behind p.hash} here (λ x ts same h.
      goes (begins_at p.hash (first ts)) (name_behind p.hash x ts) (ap (begins_at p.hash) h ∙ joined)))
      (on_call (λ x r. named p.hash r) (λ x ts. refl) (heard_name name_of_any honest-name laws p.name).on))))

  -- none was read
  pub unheard_private : {b c : Buffer S} {e : Error} → Laws model → Unprivate model b e c
      → Unheard model sure hash_name b e c
  unfolding hash_name
  unheard_private laws (no_memory_either xs r k) = unheard_memory
      (record { spends = record { laws = laws; taken = xs; read = r }; kind = k })
  unheard_private laws (no_hash {k = k} r x none) =
      unheard_refused (λ here. unfit (current here) (last_position here) k) laws r
      (λ here. unfit-kind (current here) (last_position here) k kind.ParserFailed (λ h. cc) (expected_kind k _ x))
      (λ x ts h. ap (λ o. hash_by x o (rest ts)) h ∙ none_seen x (current r.here) (rest ts) none)
  unheard_private laws (apart {hash = hash} s r away) =
      unheard_after (on_hashed laws s)
      (unheard_refused (λ here. fault_at (between hash.lo hash.hi) kind.SpaceBetweenHashAndIdent) laws r (λ here h. cc)
      (λ x ts h. stops (begins_at hash (first ts)) (name_behind hash x ts)
      (ap (begins_at hash) h ∙ is_apart hash (current r.here) (last_position r.here) away)))
  unheard_private {c = c} {e = e} laws (no_name {hash = hash} {near = near} s l j n) =
      let u = unheard_name name_of_any honest-name laws n in
      let v : Unheard model sure (behind_hash hash) near e c = record {
        refuses = u.refuses;
        none = λ m y loud ts k. nothing (begins_at hash (first ts)) (name_behind hash _ ts)
            (ap (λ o. o >>= named hash) (u.none m y loud ts k));
      } in
      unheard_after (on_hashed laws s) (unheard_looked laws l v)
