-- What is told of the token after the current one, on its line.
use Rattle.std.proofs.Common.{◌≡◌, Bool, true, if◌then◌else◌, List, [], ◌∷◌, ◌++◌, Option, Some, None, IsSome, MatchOption, refl, sym, ap, subst, ◌∙◌}
use Rattle.swc_context.specs.declared.context.Context.{Context}
use Rattle.swc_input.specs.Source.{Model, Laws, given_one}
use Rattle.swc_input.specs.Buffer.{Peeked, current, held}
use Rattle.swc_input.specs.{declared.buffer.Buffer.Buffer, declared.token.Token.Token, declared.token.Token.Token as token, declared.token.TokenAndSpan.TokenAndSpan, Plain.plain, Plain.plain_token, Laws.Read-then, Laws.Known-after}
use Rattle.swc_grammar.specs.{Clean.first, Clean.second, Words.rest}
use Rattle.swc_steps.specs.Parsing.{seen, seen_of, Told}
use Rattle.swc_steps.proofs.Ahead.{told_here, told_behind}
use Rattle.swc_arrows.specs.Starts.{first_kind, next_token, next_kind, head_by, start_kind}
use Rattle.swc_arrows.specs.{declared.starts.FirstKind.FirstKind, declared.starts.NextKind.NextKind, declared.starts.NextKind.NextKind as next_is, declared.starts.StartKind.StartKind}

pub second_rest : (ts : List TokenAndSpan) → second ts ≡ first (rest ts)
second_rest [] = refl
second_rest (t ∷ ts) = refl

-- a second look finds the same token
same_next : (p p' q' q : Option TokenAndSpan) (given : List TokenAndSpan) → p' ≡ p → IsSome p → IsSome q
    → (given_one p ++ given_one q) ++ given ≡ given_one p' ++ given_one q' → seen_of q' ≡ seen_of q
same_next None p' q' q given e s z h = cc
same_next (Some t) p' q' None given e s z h = cc
same_next (Some t) None q' (Some u) given e s z h = cc
same_next (Some t) (Some t') None (Some u) given e s z h = cc
same_next (Some t) (Some t') (Some w) (Some u) given e s z h = cc

seen_there : (o q : Option TokenAndSpan) → seen_of o ≡ seen_of q → IsSome q → IsSome o
seen_there None None e s = s
seen_there None (Some t) e s = cc
seen_there (Some t) q e s = refl

module _ {S : Type 0} {model : Model S} (laws : Laws model) where
  pub peeked_again : {b c d : Buffer S} → Peeked model b c → Peeked model c d → IsSome (current b) → IsSome c.next
      → Peeked model b d × (seen_of d.next ≡ seen_of c.next)
  peeked_again {b} {c} {d} p q some next = (
    record {
      look = record {
        read = Read-then laws b c d [] [] p.look.read q.look.read;
        previous = q.look.previous ∙ p.look.previous;
        quiet = λ m k.
            let w = Known-after laws b c [] (held b ++ m) p.look.read.took
            (record { more = m; begins = refl; known = k }) in
            let h = p.look.quiet m k in
            let j = q.look.quiet w.1.more w.1.known in
            (j.0 ∙ h.0, j.1 ∙ h.1);
      };
      current = q.current ∙ p.current;
      lives = λ n f. p.lives next (q.lives n f);
      end = q.end;
    },
    same_next c.cur d.cur d.next c.next q.look.read.took.given q.current (subst IsSome (sym p.current) some) next
        q.look.read.took.balance,
  )

  pub told_as : {V : Type 0} {f g : List TokenAndSpan → V} {v : V} {b c : Buffer S}
      → ((ts : List TokenAndSpan) → g ts ≡ f ts) → Told model f v b c → Told model g v b c
  told_as e t = record {
    laws = t.laws;
    still = t.still;
    current = t.current;
    lives = t.lives;
    told = λ ts fut at. e ts ∙ t.told ts fut at;
  }

plain_next : (c : Context) (t : Token) → next_token c (plain_token t) ≡ next_token c t
plain_next c (token.Template raw cooked) = refl
plain_next c (token.Error e) = refl
plain_next c t = refl

-- what is peeked at, and whether a line break is before it
kind_seen : (c : Context) (o q : Option TokenAndSpan) (a : Option NextKind) (k : NextKind) (r : Bool) → a ≡ Some k
    → MatchOption o (a ≡ None) (λ t. a ≡ Some (next_token c t.token)) → seen_of q ≡ seen_of o
    → MatchOption q (r ≡ true) (λ t. r ≡ t.had_line_break) → next_kind c (seen_of q) ≡ (if r then next_is.Other else k)
kind_seen c None q a k r e m s n = cc
kind_seen c (Some u) None a k r e m s n = cc
kind_seen c (Some u) (Some w) a k r e m s n =
    let same : plain w ≡ plain u = cc in
    let is : next_token c u.token ≡ k = cc in
    ap (λ b. if b then next_is.Other else next_token c (plain w).token) (sym n)
    ∙ ap (λ v. if r then next_is.Other else next_token c v.token) same
    ∙ ap (λ v. if r then next_is.Other else v) (plain_next c u.token ∙ is)

some_there : (c : Context) (o : Option TokenAndSpan) (a : Option NextKind) (k : NextKind) → a ≡ Some k
    → MatchOption o (a ≡ None) (λ t. a ≡ Some (next_token c t.token)) → IsSome o
some_there c None a k e m = cc
some_there c (Some u) a k e m = refl

module _ {S : Type 0} {model : Model S} (laws : Laws model) where
  pub told_next : (x : Context) {b c d : Buffer S} {a : Option NextKind} {k : NextKind} (r : Bool) → a ≡ Some k
      → Peeked model b c → Peeked model c d → IsSome (current b)
      → MatchOption c.next (a ≡ None) (λ t. a ≡ Some (next_token x t.token))
      → MatchOption d.next (r ≡ true) (λ t. r ≡ t.had_line_break)
      → Told model (λ ts. next_kind x (second ts)) (if r then next_is.Other else k) b d
  told_next x {b} {c} {d} {a} {k} r e p q some m n =
      let next = some_there x c.next a k e m in
      let (both, same) = peeked_again laws p q some next in
      told_as laws (λ ts. ap (next_kind x) (second_rest ts))
      (told_behind laws (next_kind x) (if r then next_is.Other else k) both some (seen_there d.next c.next same next)
      (kind_seen x c.next d.next a k r e m same n))

  -- ---- both tokens

  pub told_head : (x : Context) {b d : Buffer S} (f : FirstKind) (k : NextKind) (h : StartKind)
      → f ≡ first_kind x (seen b) → h ≡ head_by f k → Told model (λ ts. next_kind x (second ts)) k b d
      → Told model (start_kind x) h b d
  told_head x {b} {d} f k h e i t = record {
    laws = t.laws;
    still = t.still;
    current = t.current;
    lives = t.lives;
    told = λ ts fut at.
        ap (λ v. head_by v (next_kind x (second ts)))
        (ap (first_kind x) (at ∙ ap seen_of t.current) ∙ sym e)
        ∙ ap (head_by f) (t.told ts fut at) ∙ sym i;
  }

  -- by the first alone
  pub told_first : (x : Context) (b : Buffer S) (f : FirstKind) (h : StartKind) → f ≡ first_kind x (seen b)
      → ((k : NextKind) → head_by f k ≡ h) → Told model (start_kind x) h b b
  told_first x b f h e i =
      told_here laws b h (λ ts at.
      ap (λ v. head_by v (next_kind x (second ts))) (ap (first_kind x) at ∙ sym e) ∙ i (next_kind x (second ts)))
