-- The token after the current one: whether it is `function`, on the same line.
use Rattle.std.proofs.Common.{◌≡◌, Bool, true, false, not, ◌&&◌, List, [], ◌∷◌, ◌++◌, Option, Some, None, IsSome, MatchOption, refl, sym, ap, subst, ◌∙◌}
use Rattle.swc_input.specs.Source.{Model, Laws, given_one}
use Rattle.swc_input.specs.Buffer.{Still, Peeked, Future, current, held}
use Rattle.swc_input.specs.Laws.{Read-same, Read-then, Future-before, Known-after}
use Rattle.swc_input.specs.{declared.buffer.Buffer.Buffer, declared.token.Token.Token, declared.token.Token.Token as token, declared.token.TokenAndSpan.TokenAndSpan, Plain.plain, Plain.plain_token}
use Rattle.swc_bodies.specs.Readings.{is_function, is_function_here}
use Rattle.swc_grammar.specs.{Clean.first, Words.rest}
use Rattle.swc_steps.specs.Parsing.{seen_of, Told}

plain_function : (t : Token) → is_function (plain_token t) ≡ is_function t
plain_function (token.Template raw cooked) = refl
plain_function (token.Error e) = refl
plain_function t = refl

-- a token that is `function` with no line break before it
abbrev here_of : Option TokenAndSpan → Bool
here_of None = false
here_of (Some t) = is_function t.token && not t.had_line_break

here_first : (ts : List TokenAndSpan) → is_function_here ts ≡ here_of (first ts)
here_first [] = refl
here_first (t ∷ ts) = refl

here_plain : (t : TokenAndSpan) (f : Bool) → is_function t.token ≡ f
    → here_of (seen_of (Some t)) ≡ (f && not t.had_line_break)
here_plain t f e = ap (λ v. v && not t.had_line_break) (plain_function t.token ∙ e)

-- the tokens to come, after the first
behind_first : (p q : Option TokenAndSpan) (more ts : List TokenAndSpan) → IsSome p
    → ts ≡ (given_one p ++ given_one q) ++ more → (q ≡ None → more ≡ []) → first (rest ts) ≡ seen_of q
behind_first None q more ts s e n = cc
behind_first (Some t) None more ts s e n = ap (λ v. first (rest v)) e ∙ ap first (n refl)
behind_first (Some t) (Some u) more ts s e n = ap (λ v. first (rest v)) e

-- a token that is held stays
kept_next : (p p' q' : Option TokenAndSpan) (u : TokenAndSpan) (given : List TokenAndSpan) → p' ≡ p → IsSome p
    → (given_one p ++ given_one (Some u)) ++ given ≡ given_one p' ++ given_one q'
    → (w : TokenAndSpan) × (q' ≡ Some w) × (plain w ≡ plain u)
kept_next None p' q' u given e s h = cc
kept_next (Some t) None q' u given e s h = cc
kept_next (Some t) (Some t') None u given e s h = cc
kept_next (Some t) (Some t') (Some w) u given e s h = (w, refl, cc)

break_of : (o : Option TokenAndSpan) (w : TokenAndSpan) (r : Bool) → o ≡ Some w
    → MatchOption o (r ≡ true) (λ t. r ≡ t.had_line_break) → r ≡ w.had_line_break
break_of None w r e m = cc
break_of (Some t) w r e m = let same : t ≡ w = cc in m ∙ ap (λ v. v.had_line_break) same

some_none : {A P : Type 0} {o : Option A} {a : A} → o ≡ Some a → o ≡ None → P
some_none e n = absurd cc

pub is_some_none : {A P : Type 0} {o : Option A} → IsSome o → o ≡ None → P
is_some_none s n = absurd cc

-- what `peek_function` answers
answer_some : (o : Option TokenAndSpan) (a : Option Bool) (r : Bool) → a ≡ Some r
    → MatchOption o (a ≡ None) (λ t. a ≡ Some (is_function t.token))
    → (u : TokenAndSpan) × (o ≡ Some u) × (is_function u.token ≡ r)
answer_some None a r e m = cc
answer_some (Some t) a r e m = (t, refl, cc)

module _ {S : Type 0} {model : Model S} (laws : Laws model) where
  pub peeked_first : {b c : Buffer S} → Peeked model b c → IsSome (current b)
      → (c.next ≡ None → (model.state c.iter).failed ≡ false) → (ts : List TokenAndSpan) → Future model c ts
      → first (rest ts) ≡ seen_of c.next
  peeked_first {b} {c} p some runs ts f =
      behind_first c.cur c.next f.more ts (subst IsSome (sym p.current) some) f.begins
      (λ n. f.over (p.end n (runs n)))

  still_then : {b c d : Buffer S} → Still model b c → Still model c d → Still model b d
  still_then {b} {c} {d} p q = record {
    read = Read-then laws b c d [] [] p.read q.read;
    previous = q.previous ∙ p.previous;
    quiet = λ m k.
        let w = Known-after laws b c [] (held b ++ m) p.read.took (record { more = m; begins = refl; known = k }) in
        let first_quiet = p.quiet m k in
        let then_quiet = q.quiet w.1.more w.1.known in
        (then_quiet.0 ∙ first_quiet.0, then_quiet.1 ∙ first_quiet.1);
  }

  -- `function` is there, and r tells of a line break before it
  function_behind : {b c d : Buffer S} → Peeked model b c → Peeked model c d → IsSome (current b) → (u : TokenAndSpan)
      → c.next ≡ Some u → is_function u.token ≡ true → (r : Bool)
      → MatchOption d.next (r ≡ true) (λ t. r ≡ t.had_line_break)
      → Told model (λ ts. is_function_here (rest ts)) (not r) b d
  function_behind {b} {c} {d} p q some u e f r break =
      let k = kept_next c.cur d.cur d.next u q.look.read.took.given q.current (subst IsSome (sym p.current) some)
      (ap (λ o. (given_one c.cur ++ given_one o) ++ q.look.read.took.given) (sym e) ∙ q.look.read.took.balance) in
      let same : u.had_line_break ≡ r = ap (λ v. v.had_line_break) (sym k.2) ∙ sym (break_of d.next k.0 r k.1 break) in
      record {
        laws = laws;
        still = still_then p.look q.look;
        current = q.current ∙ p.current;
        lives = λ f. p.lives (subst IsSome (sym e) refl) (q.lives (subst IsSome (sym k.1) refl) f);
        told = λ ts fut at.
            here_first (rest ts)
            ∙ ap here_of (peeked_first p some (λ none. some_none e none) ts
            (Future-before laws c d [] ts q.look.read.took fut) ∙ ap seen_of e)
            ∙ here_plain u true f ∙ ap not same;
      }

  -- by what `peek_function` answers
  pub tells_function : {b c d : Buffer S} {a : Option Bool} → a ≡ Some true → Peeked model b c → Peeked model c d
      → IsSome (current b) → MatchOption c.next (a ≡ None) (λ t. a ≡ Some (is_function t.token)) → (r : Bool)
      → MatchOption d.next (r ≡ true) (λ t. r ≡ t.had_line_break)
      → Told model (λ ts. is_function_here (rest ts)) (not r) b d
  tells_function {c = c} {a = a} e p q some m r break =
      let k = answer_some c.next a true e m in function_behind p q some k.0 k.1 k.2 r break

-- what a look after the current token answers, by a test of the token there
pub behind_some : {V : Type 0} (f : Option TokenAndSpan → V)
    → ((t : TokenAndSpan) → f (Some (plain t)) ≡ f (Some t)) → (o : Option TokenAndSpan) (a : Option V) (v : V)
    → a ≡ Some v → MatchOption o (a ≡ None) (λ t. a ≡ Some (f (Some t))) → (IsSome o) × (f (seen_of o) ≡ v)
behind_some f same None a v e m = cc
behind_some f same (Some t) a v e m = (refl, same t ∙ cc)

pub behind_none : {V : Type 0} (f : Option TokenAndSpan → V) (o : Option TokenAndSpan) (a : Option V) → a ≡ None
    → MatchOption o (a ≡ None) (λ t. a ≡ Some (f (Some t))) → o ≡ None
behind_none f None a e m = refl
behind_none f (Some t) a e m = cc

true_false : {P : Type 0} → true ≡ false → P
true_false e = absurd cc

module _ {S : Type 0} {model : Model S} (laws : Laws model) where
  -- told by the current token
  pub told_here : {V : Type 0} {test : List TokenAndSpan → V} (b : Buffer S) (v : V)
      → ((ts : List TokenAndSpan) → first ts ≡ seen_of b.cur → test ts ≡ v) → Told model test v b b
  told_here b v h = record {
    laws = laws;
    still = record { read = Read-same laws b; previous = refl; quiet = λ m k. (refl, refl) };
    current = refl;
    lives = λ f. f;
    told = λ ts fut here. h ts here;
  }

  -- by the one after it, or that there is none
  pub told_behind : {V : Type 0} (f : Option TokenAndSpan → V) {b c : Buffer S} (v : V) → Peeked model b c
      → IsSome (current b) → IsSome c.next → f (seen_of c.next) ≡ v → Told model (λ ts. f (first (rest ts))) v b c
  told_behind f v p some next e = record {
    laws = laws;
    still = p.look;
    current = p.current;
    lives = p.lives next;
    told = λ ts fut here. ap f (peeked_first laws p some (λ none. is_some_none next none) ts fut) ∙ e;
  }
