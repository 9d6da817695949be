-- A look at the current token, or after it, and what follows of the tokens to come.
use Rattle.std.proofs.Common.{◌≡◌, ◌≢◌, Bool, true, false, not, List, [], ◌∷◌, Option, Some, None, Result, Ok, Err, IfOk, IfErr, IsSome, refl, sym, ap, subst, ◌∙◌}
use Rattle.std.proofs.lemmas.Bool.{false_from_ne_true}
use Rattle.swc_context.specs.declared.error.SyntaxError.TheVariants.{OutOfMemory}
use Rattle.swc_context.specs.{declared.error.Error.Error, declared.span.Span.Span}
use Rattle.swc_input.specs.Buffer.{Served, Looked, Bumped, Future, Known, source, current, last_position}
use Rattle.swc_input.specs.Laws.{held_some, Looked-served, Looked-some, Read-late, Known-Future, Future-current, Future-end}
use Rattle.swc_input.specs.Recording.{Seen, error_in, is_some, is_fit, no_memory}
use Rattle.swc_input.specs.{declared.buffer.Buffer.Buffer, declared.token.Token.Token, declared.token.TokenAndSpan.TokenAndSpan, Plain.plain, Plain.plain_token, Source.Model, Source.Laws, Kinds.at_token}
use Rattle.swc_input.specs.declared.token.Token.TheVariants as token
use Rattle.swc_grammar.specs.{Parts.lit_of, Clean.first, Clean.no_error}
use Rattle.swc_ast.specs.Tree.{Tree}
use Rattle.swc_input.specs.Calls.{Leads, Refuses, Here, Looks}
use Rattle.swc_steps.specs.Parsing.{seen, seen_of, TookLiteral, Told}
use Rattle.swc_steps.proofs.Steps.Consumed.{here, leads_then, served_lives}

seen_in : (f : Token → Bool) (o : Option TokenAndSpan) → at_token f (seen_of o) ≡ true → IsSome o
seen_in f None h = cc
seen_in f (Some t) h = refl

pub seen_some : {S : Type 0} (f : Token → Bool) (b : Buffer S) → at_token f (seen b) ≡ true → IsSome (current b)
seen_some f b h = seen_in f b.cur h

none_some : {A : Type 0} (o : Option A) → o ≡ None → IsSome o → ⊥
none_some None e h = cc
none_some (Some a) e h = cc

unfit_token : (t : Token) → not (is_some (error_in t)) ≡ false → no_error (plain_token t) ≡ false
unfit_token (token.Error e) h = refl
unfit_token t h = cc

pub unfit_seen : (o : Option TokenAndSpan) → is_fit o ≡ false → at_token no_error (seen_of o) ≡ false
unfit_seen None h = refl
unfit_seen (Some t) h = unfit_token t.token h

module _ {S : Type 0} {model : Model S} where
  -- after a look, what is served
  pub looked_later : {b c d : Buffer S} → Laws model → Looked model b c → Served model c d → Served model b d
  looked_later laws l s = record {
    before = λ f. let h = s.before f in
        (Looked-served laws l (Looked-some laws l h.1)).before h.0;
  }

  -- a refusal other than out of memory is made where the source runs, or a token is current
  pub here_refused : {b h c : Buffer S} {e : Error} → Looked model b h → Refuses model h e c → e.kind ≢ OutOfMemory
      → Here model b h
  here_refused {h = h} {c = c} l r n =
      let laws = r.spends.laws in
      let took = r.spends.read.took in
      let holds : (model.state h.iter).failed ≡ true → IsSome h.cur =
      λ f. Looked-some laws l ((r.served n).before ((laws.gave h.iter c.iter took.given took.gave).failed f).1).1 in
      record {
        laws = laws;
        looked = l;
        served = record { before = λ f. (Looked-served laws l (holds f)).before f };
        end = λ e. (l.end e).1 (false_from_ne_true (model.state h.iter).failed (λ f. none_some h.cur e (holds f)));
      }

  -- the list to come begins with what was seen
  pub begins : {b c : Buffer S} (o : Option TokenAndSpan) → c.cur ≡ o → Here model b c → (ys : List TokenAndSpan)
      → Future model c ys → first ys ≡ seen_of o
  begins {c = c} None e h ys f = ap first (Future-end model c ys e (h.looked.end e).0 (h.end e) f)
  begins {c = c} (Some t) e h ys f = ap first (Future-current model c t ys e f).1

  -- a current token, without a look
  pub here_now : (laws : Laws model) (b : Buffer S) → IsSome (current b) → Here model b b
  unfolding here
  here_now laws b some = record {
    laws = laws;
    looked = record {
      look = record { read = (here laws b).read; previous = refl; quiet = λ m k. (refl, refl) };
      same = λ t e. refl;
      lives = λ s f. f;
      end = λ e. absurd (none_some b.cur e some);
    };
    served = record { before = λ f. (f, held_some b some) };
    end = λ e. absurd (none_some b.cur e some);
  }

  -- the list to come begins with the current token
  pub known_first : (laws : Laws model) (b : Buffer S) → IsSome (current b) → (ts : List TokenAndSpan)
      → Known model b ts → first ts ≡ seen b
  known_first laws b some ts k = begins b.cur refl (here_now laws b some) ts (Known-Future laws b ts k)

  -- a look, which tells the end from a source that has failed
  pub looks : (laws : Laws model) (b c : Buffer S) (r : Result Bool Error) → Looked model b c
      → IfOk r (λ v. Seen model b v c) →
      IfErr r (λ e. (e ≡ no_memory (last_position c)) × Looked model b c × (current c ≡ None)
      × ((model.state (source c)).failed ≡ true)) → Looks model b r c
  looks laws b c (Ok true) l p q = record {
    laws = laws;
    looked = l;
    served = Looked-served laws l (let t = p.token refl in subst IsSome (sym t.1) refl);
    end = λ e. let t = p.token refl in absurd (none_some c.cur e (subst IsSome (sym t.1) refl));
  }
  looks laws b c (Ok false) l p q = record {
    laws = laws;
    looked = l;
    served = record { before = λ f. absurd (let e : true ≡ false = sym f ∙ (p.end refl).2 in cc) };
    end = λ e. (p.end refl).3;
  }
  looks laws b c (Err e) l p q = record {
    spends = record { laws = laws; taken = []; read = l.look.read };
    kind =
        ap (λ x. x.kind) q.0;
  }

  -- what is said of a token that was consumed, and of its place
  pub at_was : {X : Type 0} (f : Token → Span → Option X) (x : X) {b c : Buffer S} {t : Token} (h : Bumped model b t c)
      (at : Span) → at ≡ c.prev_span → f (plain_token t) at ≡ Some x → f (plain_token h.was.token) h.was.span ≡ Some x
  at_was f x {t = t} h at p q =
      let place : at ≡ h.was.span = p ∙ ap (λ z. z.prev_span) h.now in
      ap (λ v. f (plain_token v) h.was.span) (sym h.token) ∙ ap (λ v. f (plain_token t) v) (sym place) ∙ q

  -- a look, and then the token of a literal
  pub literal_took : {F C K : Type 0} {t : Tree F C K} {b c d : Buffer S} {k : Token} → Here model b c
      → (h : Bumped model c k d) → lit_of (plain h.was).token (plain h.was).span ≡ Some t → TookLiteral model t b d
  literal_took {b = b} {c = c} {d = d} l h e = record {
    token = plain h.was;
    read =
        Read-late l.laws b c d (plain h.was ∷ []) l.looked.look.read h.read;
    literal = e;
  }

  pub here_leads : {b c : Buffer S} → Here model b c → Leads model b c
  here_leads h = record { laws = h.laws; taken = []; read = h.looked.look.read; lives = served_lives h.served }

  -- the same, and a look ahead
  pub told_leads : {V : Type 0} {test : List TokenAndSpan → V} {v : V} {b c d : Buffer S} → Here model b c
      → Told model test v c d → Leads model b d
  told_leads h t = leads_then (here_leads h) (record {
    laws = t.laws;
    taken = [];
    read = t.still.read;
    lives =
        t.lives;
  })
