-- What is claimed of each symbol, and right-hand sides: one that was followed is run to its end.
use Rattle.std.specs.Prelude.{◌≡◌, ℕ, zero, suc, ◌≤◌, min, Bool, true, false, List, [], ◌∷◌, ◌++◌, Option, Some, None}
use Rattle.std.proofs.Common.{refl, sym as sym_path, ap, subst, ◌∙◌, arith}
use Rattle.std.proofs.lemmas.Bool.{le-leb}
use Rattle.swc_context.specs.{Operators.precedence_of, declared.operator.BinaryOp.BinaryOp, declared.span.Span.Span}
use Rattle.swc_input.specs.{declared.token.Token.Token, declared.token.TokenAndSpan.TokenAndSpan, Kinds.at_token}
use Rattle.swc_ast.specs.{Tree.Tree, Trees.items_of, Trees.left_ok}
use Rattle.swc_bodies.specs.Readings.{Hook}
use Rattle.swc_grammar.specs.Rule.{Rule, gives, never, take, check, peek, read, hear, sees, given, ◌>>=◌, peek_two, sees_two}
use Rattle.swc_grammar.specs.Symbols.{Symbol, Expr, Exprs, Assign, Level, Lhs, Left, Answer, Body, Value, begins_body, Side}
use Rattle.swc_grammar.specs.Reads.{Reads, Follows, gave, took, held, calm, part, heard, calm-two}
use Rattle.swc_grammar.specs.Clean.{Out, and_then, first, Call, sym, links, climb, plan, rank_of, rank, allowed, exec, operator_at, seqs, ends_unary, Bound, Stop, Choice, pick, chosen, turn, turned, step, run, no_arrow}
use Rattle.swc_grammar.specs.{Scope.Scope, Scope.inner, Grammar.Production, Firsts.starts}
use Rattle.swc_grammar.proofs.Firsts.{Under, under-held, begins}
use Rattle.swc_grammar.proofs.Induct.{Ran as RanOf, forget as forget-of, given-ran as given-of, ran-calm-two, ran-gave, ran-took, ran-held, ran-calm, ran-part, ran-heard}
use Rattle.swc_grammar.proofs.{Bodies.hears-run, Good.Good, Good.good, Knot.knot, Levels.bound-above}

-- Of a left-hand side the claim is that links are read on from there, and of expressions with commas between them that
-- commas are. Of a level it holds for climbing on from any precedence below it: so what a level above read needs no
-- second climbing. And no link follows, since the last operand would take it, and no `**`, since the right operand of
-- one before would.
abbrev pub Claim : {F C K : Type 0} (hook : Hook F C K) (s : Symbol)
    → Scope → List TokenAndSpan → List TokenAndSpan → Answer F C K s → Type 0
Claim hook (Level zero) c xs ys t = Unit {0}
Claim hook (Level (suc n)) c xs ys t = n ≤ 10 → ends_unary ys ≡ true → Bound c (min (suc n) 10) ys
    → (m : ℕ) → m ≤ n → run hook (sym (Level (suc m))) c xs ≡ run hook (climb t m) (inner c) ys
Claim hook Exprs c xs ys t = Stop Assign c ys → run hook (sym Expr) c xs ≡ run hook (seqs (items_of t)) c ys
Claim hook (Left b) c xs ys t = no_arrow ys ≡ true → run hook (sym (Lhs b)) c xs ≡ run hook (links b t) (inner c) ys
Claim hook s c xs ys t = Stop s c ys → run hook (sym s) c xs ≡ Some (t, ys)

pub starting : (Q : List TokenAndSpan → Type 0) (P : Token → Bool) (xs : List TokenAndSpan) → at_token P (first xs)
    ≡ true → ((a : TokenAndSpan) (us : List TokenAndSpan) → P a.token ≡ true → Q (a ∷ us)) → Q xs
starting Q P [] h f = absurd cc
starting Q P (a ∷ us) h f = f a us h

then-some : {A : Type 0} (o : Out A) → and_then o (λ e us. Some (e, us)) ≡ o
then-some None = refl
then-some (Some p) = refl

module _ {F C K : Type 0} where
  -- what is before a side is followed by tokens of which Q holds
  abbrev Before : {A : Type 0} → (List TokenAndSpan → Type 0) → List TokenAndSpan
      → Rule Symbol (Answer F C K) Body (Value F C K) A → Type 0
  Before Q ys (gives a) = Q ys
  Before Q ys never = Unit {0}
  Before Q ys (take f) = (a : TokenAndSpan) (us : List TokenAndSpan) → Under (Q (a ∷ us)) (f a)
  Before Q ys (check b r) = b ≡ true → Before Q ys r
  Before Q ys (peek p r) = Before (λ xs. sees p xs ≡ false → Q xs) ys r
  Before Q ys (peek_two p r) = Before (λ xs. sees_two p xs ≡ false → Q xs) ys r
  Before Q ys (read s c f) = (a : TokenAndSpan) (us : List TokenAndSpan) → starts s c a.token ≡ true → Q (a ∷ us)
  Before Q ys (hear b c f) = (own us : List TokenAndSpan) → begins_body b own ≡ true → Q (own ++ us)

  -- a side may be run: its parts stop before what follows them, and a call that comes first is of a lower rank
  abbrev pub Ready : {A : Type 0} → Option ℕ → List TokenAndSpan → Rule Symbol (Answer F C K) Body (Value F C K) A
      → Type 0
  Ready g ys (gives a) = Unit {0}
  Ready g ys never = Unit {0}
  Ready g ys (take f) = (a : TokenAndSpan) → Ready None ys (f a)
  Ready g ys (check b r) = b ≡ true → Ready g ys r
  Ready g ys (peek p r) = Ready g ys r
  Ready g ys (peek_two p r) = Ready g ys r
  Ready g ys (read s c f) =
      (allowed g (rank_of s) ≡ true) × ((e : Answer F C K s) → Before (Stop s c) ys (f e) × Ready g ys (f e))
  Ready g ys (hear b c f) = (v : Value F C K b) (s : Span) → Ready None ys (f v s)

  pub ready-given : {A D : Type 0} (g : Option ℕ) (ys : List TokenAndSpan) (o : Option A)
      (k : A → Rule Symbol (Answer F C K) Body (Value F C K) D)
      → ((x : A) → o ≡ Some x → Ready g ys (k x)) → Ready g ys (given o >>= k)
  ready-given g ys None k f = tt
  ready-given g ys (Some x) k f = f x refl

  pub before-given : {A D : Type 0} (Q : List TokenAndSpan → Type 0) (ys : List TokenAndSpan) (o : Option A)
      (k : A → Rule Symbol (Answer F C K) Body (Value F C K) D)
      → ((x : A) → o ≡ Some x → Before Q ys (k x)) → Before Q ys (given o >>= k)
  before-given Q ys None k f = tt
  before-given Q ys (Some x) k f = f x refl

  before-held : {hook : Hook F C K} {s : Symbol} {r : Side F C K s} {xs ys : List TokenAndSpan} {t : Answer F C K s}
      (Q : List TokenAndSpan → Type 0) → Follows hook s r xs ys t → Before Q ys r → Q xs
  before-held Q gave b = b
  before-held Q (took {a = a} {xs = xs} d) b = under-held d (b a xs)
  before-held Q (held h d) b = before-held Q d (b h)
  before-held Q (calm {p = p} h d) b = before-held (λ us. sees p us ≡ false → Q us) d b h
  before-held Q (calm-two {p = p} h d) b = before-held (λ us. sees_two p us ≡ false → Q us) d b h
  before-held Q (part {s' = s'} {c = c} {xs = xs} e d) b = starting Q (starts s' c) xs (begins e) b
  before-held Q (heard {ms = ms} h d) b = subst Q (sym_path h.list) (b h.own ms h.begins)

module _ {F C K : Type 0} (hook : Hook F C K) where
  -- a call that comes last
  pub last : (g : Option ℕ) (k : Call F C K) (c : Scope) (ts : List TokenAndSpan) → allowed g (rank k) ≡ true
      → exec hook (run hook) g (read k c (λ v. gives v)) ts ≡ run hook k c ts
  last g k c ts h = rw h (then-some (run hook k c ts))

  -- climbing
  turn-ends : (o : Option BinaryOp) (l : Tree F C K) (m : ℕ) (c : Scope) (ts : List TokenAndSpan) → left_ok l ≡ true
      → ((op : BinaryOp) → o ≡ Some op → precedence_of op ≤ m)
      → exec hook (run hook) (Some 1) (turn o l m c >>= (λ q. turned q.0 q.1 c)) ts ≡ Some (l, ts)
  turn-ends None l m c ts w b = rw w refl
  turn-ends (Some op) l m c ts w b = rw (le-leb (precedence_of op) m (b op refl), w) refl

  pub climb-ends : (t : Tree F C K) (m : ℕ) (c : Scope) (ts : List TokenAndSpan) → left_ok t ≡ true → Bound c m ts
      → run hook (climb t m) c ts ≡ Some (t, ts)
  climb-ends t m c ts w b = knot hook (climb t m) c ts ∙ turn-ends (operator_at c.context (first ts)) t m c ts w b

  -- a choice
  pub picks-as : (s : Symbol) (c : Scope) (xs : List TokenAndSpan) (x y : Choice F C K s c)
      {o : Out (Answer F C K s)} → step (sym s) c xs ≡ chosen x → x ≡ y
      → exec hook (run hook) (Some (rank_of s)) (chosen y) xs ≡ o → run hook (sym s) c xs ≡ o
  picks-as s c xs x y e h d =
      knot hook (sym s) c xs ∙ ap (λ v. exec hook (run hook) (Some (rank_of s)) v xs) e
      ∙ ap (λ v. exec hook (run hook) (Some (rank_of s)) (chosen v) xs) h ∙ d

  pub picks : (s : Symbol) (c : Scope) (xs : List TokenAndSpan) {r : Side F C K s} (p : Production s c r)
      (x : Choice F C K s c)
      {o : Out (Answer F C K s)} → step (sym s) c xs ≡ chosen x → x ≡ pick p
      → exec hook (run hook) (Some (rank_of s)) (plan r) xs ≡ o → run hook (sym s) c xs ≡ o
  picks s c xs p x e h d = picks-as s c xs x (pick p) e h d

  -- the claim, where the reading stops
  pub settle : (s : Symbol) (c : Scope) (xs ys : List TokenAndSpan) (t : Answer F C K s) → Good F C K s t
      → Claim hook s c xs ys t → Stop s c ys → run hook (sym s) c xs ≡ Some (t, ys)
  settle (Level zero) c xs ys t g h stop = absurd stop
  settle (Level (suc n)) c xs ys t g h (le, end, b) =
      h le end (bound-above c n (min (suc n) 10) ys (omega arith) b) n (omega arith)
      ∙ climb-ends t n (inner c) ys g.left b
  settle Exprs c xs ys t g h stop = absurd stop
  settle (Left b) c xs ys t g h stop = absurd stop
  settle s c xs ys t g h stop = h stop

  -- what is followed after a token
  pub gave-all : {s : Symbol} {u t : Answer F C K s} {xs ys : List TokenAndSpan}
      → Follows hook s (gives u) xs ys t → xs ≡ ys
  gave-all gave = refl

  pub checked-gave : {s : Symbol} {b : Bool} {u t : Answer F C K s} {xs ys : List TokenAndSpan}
      → Follows hook s (check b (gives u)) xs ys t → xs ≡ ys
  checked-gave (held h d) = gave-all d

  pub next-passes : (p : Token → Bool) {s : Symbol} {r : TokenAndSpan → Side F C K s} {xs ys : List TokenAndSpan}
      {t : Answer F C K s} → Follows hook s (take (λ a. check (p a.token) (r a))) xs ys t → at_token p (first xs) ≡ true
  next-passes p (took (held h d)) = h

  pub checked-next : (p : Token → Bool) {s : Symbol} {b : Bool} {r : TokenAndSpan → Side F C K s}
      {xs ys : List TokenAndSpan} {t : Answer F C K s}
      → Follows hook s (check b (take (λ a. check (p a.token) (r a)))) xs ys t → at_token p (first xs) ≡ true
  checked-next p (held h d) = next-passes p d

  -- a side followed, with the claim of each part
  abbrev pub Ran : (s : Symbol) → Side F C K s → List TokenAndSpan → List TokenAndSpan → Answer F C K s → Type 0
  Ran s r xs ys t = RanOf hook (Claim hook) s r xs ys t

  pub forget : {s : Symbol} {r : Side F C K s} {xs ys : List TokenAndSpan} {t : Answer F C K s} → Ran s r xs ys t
      → Follows hook s r xs ys t
  forget d = forget-of hook (Claim hook) d

  pub given-ran : {s : Symbol} {A : Type 0} {xs ys : List TokenAndSpan} {t : Answer F C K s}
      (o : Option A) (k : A → Side F C K s)
      → Ran s (given o >>= k) xs ys t → (x : A) × (o ≡ Some x) × Ran s (k x) xs ys t
  given-ran o k d = given-of hook (Claim hook) o k d

  pub must-ran : {s : Symbol} {b : Bool} {r : Side F C K s} {xs ys : List TokenAndSpan} {t : Answer F C K s}
      → Ran s (check b r) xs ys t → (b ≡ true) × Ran s r xs ys t
  must-ran (ran-held h d) = (h, d)

  pub part-ran : {s s' : Symbol} {c : Scope} {f : Answer F C K s' → Side F C K s} {xs ys : List TokenAndSpan}
      {t : Answer F C K s} → Ran s (read s' c f) xs ys t
      → (e : Answer F C K s') × (ms : List TokenAndSpan) × Reads hook s' c xs ms e × Claim hook s' c xs ms e
      × Ran s (f e) ms ys t
  part-ran (ran-part {e = e} {ms = ms} d k r) = (e, ms, d, k, r)

  pub gave-ran : {s : Symbol} {u t : Answer F C K s} {xs ys : List TokenAndSpan}
      (P : Answer F C K s → List TokenAndSpan → Type 0) → Ran s (gives u) xs ys t → P u xs → P t ys
  gave-ran P ran-gave h = h

  -- a side is run to where it ends
  pub side-reads : {s : Symbol} {r : Side F C K s} {xs ys : List TokenAndSpan} {t : Answer F C K s} (g : Option ℕ)
      → Ran s r xs ys t → Ready g ys r → exec hook (run hook) g (plan r) xs ≡ Some (t, ys)
  side-reads g ran-gave q = refl
  side-reads g (ran-took {a = a} d) q = side-reads None d (q a)
  side-reads g (ran-held h d) q = rw h (side-reads g d (q h))
  side-reads g (ran-calm h d) q = rw h (side-reads g d q)
  side-reads g (ran-calm-two h d) q = rw h (side-reads g d q)
  side-reads g (ran-part {s' = s'} {c = c} {e = e} {xs = xs} {ms = ms} l k d) q =
      rw (q.0, settle s' c xs ms e (good l) k (before-held (Stop s' c) (forget d) (q.1 e).0)) (side-reads g d (q.1 e).1)
  side-reads g (ran-heard {f = f} {v = v} h d) q =
      hears-run h (λ v at us. exec hook (run hook) None (plan (f v at)) us) ∙ side-reads None d (q v _)
