-- The induction on readings, once for all that is claimed of them: a side followed, with what is claimed of each part
-- that it reads. One clause per production says that the claim holds of its symbol where it holds of the parts.
use Rattle.std.specs.Prelude.{◌≡◌, Bool, true, false, List, ◌∷◌, Option, Some, None}
use Rattle.std.proofs.Common.{refl, sym, subst}
use Rattle.swc_context.specs.declared.span.Span.{Span}
use Rattle.swc_input.specs.declared.token.TokenAndSpan.{TokenAndSpan}
use Rattle.swc_ast.specs.Tree.{Tree}
use Rattle.swc_bodies.specs.Readings.{whole_span, Hook}
use Rattle.swc_grammar.specs.Rule.{Rule, gives, never, take, check, peek, peek_two, read, hear, sees, sees_two, given, ◌>>=◌}
use Rattle.swc_grammar.specs.Symbols.{Symbol, Answer, Body, Value, Side}
use Rattle.swc_grammar.specs.Reads.{Hears, Reads, by, Follows, gave, took, held, calm, calm-two, part, heard}
use Rattle.swc_grammar.specs.{Scope.Scope, Grammar.Production}
use Rattle.swc_grammar.proofs.Firsts.{given-held}

module _ {F C K : Type 0} {hook : Hook F C K} {s : Symbol} where
  pub follows-given : {A : Type 0} {xs ys : List TokenAndSpan} {t : Answer F C K s} (o : Option A)
      (k : A → Side F C K s)
      (x : A) → o ≡ Some x → Follows hook s (k x) xs ys t → Follows hook s (given o >>= k) xs ys t
  follows-given {xs = xs} {ys = ys} {t = t} o k x e d = subst (λ v. Follows hook s (given v >>= k) xs ys t) (sym e) d

module _ {F C K : Type 0} (hook : Hook F C K)
    (P : (s : Symbol) → Scope → List TokenAndSpan → List TokenAndSpan → Answer F C K s → Type 0) where
  pub data Ran : (s : Symbol) → Side F C K s → List TokenAndSpan → List TokenAndSpan → Answer F C K s → Type 0 where
    ran-gave : {s : Symbol} {t : Answer F C K s} {ys : List TokenAndSpan} → Ran s (gives t) ys ys t
    ran-took : {s : Symbol} {f : TokenAndSpan → Side F C K s} {a : TokenAndSpan} {xs ys : List TokenAndSpan}
        {t : Answer F C K s} → Ran s (f a) xs ys t → Ran s (take f) (a ∷ xs) ys t
    ran-held : {s : Symbol} {b : Bool} {r : Side F C K s} {xs ys : List TokenAndSpan} {t : Answer F C K s}
        → b ≡ true → Ran s r xs ys t → Ran s (check b r) xs ys t
    ran-calm : {s : Symbol} {p : TokenAndSpan → Bool} {r : Side F C K s} {xs ys : List TokenAndSpan}
        {t : Answer F C K s} → sees p xs ≡ false → Ran s r xs ys t → Ran s (peek p r) xs ys t
    ran-calm-two : {s : Symbol} {p : TokenAndSpan → TokenAndSpan → Bool} {r : Side F C K s} {xs ys : List TokenAndSpan}
        {t : Answer F C K s} → sees_two p xs ≡ false → Ran s r xs ys t → Ran s (peek_two p r) xs ys t
    ran-part : {s s' : Symbol} {c : Scope} {f : Answer F C K s' → Side F C K s} {e : Answer F C K s'}
        {xs ms ys : List TokenAndSpan}
        {t : Answer F C K s} → Reads hook s' c xs ms e → P s' c xs ms e → Ran s (f e) ms ys t
        → Ran s (read s' c f) xs ys t
    ran-heard : {s : Symbol} {b : Body} {c : Scope} {f : Value F C K b → Span → Side F C K s} {v : Value F C K b}
        {xs ms ys : List TokenAndSpan} {t : Answer F C K s}
        → (h : Hears hook b c xs v ms) → Ran s (f v (whole_span h.own)) ms ys t → Ran s (hear b c f) xs ys t

  pub forget : {s : Symbol} {r : Side F C K s} {xs ys : List TokenAndSpan} {t : Answer F C K s} → Ran s r xs ys t
      → Follows hook s r xs ys t
  forget ran-gave = gave
  forget (ran-took d) = took (forget d)
  forget (ran-held h d) = held h (forget d)
  forget (ran-calm h d) = calm h (forget d)
  forget (ran-calm-two h d) = calm-two h (forget d)
  forget (ran-part e k d) = part e (forget d)
  forget (ran-heard h d) = heard h (forget d)

  pub given-ran : {s : Symbol} {A : Type 0} {xs ys : List TokenAndSpan} {t : Answer F C K s}
      (o : Option A) (k : A → Side F C K s)
      → Ran s (given o >>= k) xs ys t → (x : A) × (o ≡ Some x) × Ran s (k x) xs ys t
  given-ran None k d = let (x, h, e) = given-held None k (forget d) in absurd cc
  given-ran (Some x) k d = (x, refl, d)

  module _ (step : (s : Symbol) (c : Scope) (r : Side F C K s) (xs ys : List TokenAndSpan) (t : Answer F C K s)
      → Production s c r → Ran s r xs ys t → P s c xs ys t) where
    mutual
      pub every : {s : Symbol} {c : Scope} {xs ys : List TokenAndSpan} {t : Answer F C K s}
          → Reads hook s c xs ys t → P s c xs ys t
      every (by p d) = step _ _ _ _ _ _ p (every-side d)

      every-side : {s : Symbol} {r : Side F C K s} {xs ys : List TokenAndSpan} {t : Answer F C K s}
          → Follows hook s r xs ys t → Ran s r xs ys t
      every-side gave = ran-gave
      every-side (took d) = ran-took (every-side d)
      every-side (held h d) = ran-held h (every-side d)
      every-side (calm h d) = ran-calm h (every-side d)
      every-side (calm-two h d) = ran-calm-two h (every-side d)
      every-side (part e d) = ran-part e (every e) (every-side d)
      every-side (heard h d) = ran-heard h (every-side d)

-- what each tree that a side gives is like
module _ {F C K : Type 0} (Q : Tree F C K → Type 0) where
  abbrev pub Gives : Rule Symbol (Answer F C K) Body (Value F C K) (Tree F C K) → Type 0
  Gives (gives a) = Q a
  Gives never = Unit {0}
  Gives (take f) = (a : TokenAndSpan) → Gives (f a)
  Gives (check b r) = Gives r
  Gives (peek p r) = Gives r
  Gives (peek_two p r) = Gives r
  Gives (read s c f) = (e : Tree F C K) → Gives (f e)
  Gives (hear b c f) = (v : Value F C K b) (s : Span) → Gives (f v s)

  pub gives-given : {A : Type 0} (o : Option A) (k : A → Rule Symbol (Answer F C K) Body (Value F C K) (Tree F C K))
      → ((x : A) → o ≡ Some x → Gives (k x)) → Gives (given o >>= k)
  gives-given None k f = tt
  gives-given (Some x) k f = f x refl

  pub gives-side : {hook : Hook F C K} {s : Symbol} {r : Side F C K s} {xs ys : List TokenAndSpan} {t : Answer F C K s}
      → Follows hook s r xs ys t → Gives r → Q t
  gives-side gave k = k
  gives-side (took {a = a} d) k = gives-side d (k a)
  gives-side (held b d) k = gives-side d k
  gives-side (calm b d) k = gives-side d k
  gives-side (calm-two b d) k = gives-side d k
  gives-side (part {e = t} e d) k = gives-side d (k t)
  gives-side (heard {v = v} h d) k = gives-side d (k v _)
