-- What trees are like by the symbol that derives them, as far as it says how they end: a left-hand side is no
-- operation, and what binary operators join is made by none of what an assignment expression is made by.
use Rattle.std.specs.Prelude.{◌≡◌, Bool, true, false, not, ◌||◌, if◌then◌else◌, List, Option, Some, None}
use Rattle.std.proofs.Common.{refl, subst}
use Rattle.swc_context.specs.declared.span.Span.{Span}
use Rattle.swc_input.specs.{declared.token.Token.Token, declared.token.Token.Token as token, declared.token.TokenAndSpan.TokenAndSpan}
use Rattle.swc_context.specs.declared.word.Word.{Word as word}
use Rattle.swc_ast.specs.Tree.{Tree, node, span_of, seq, assign, cond, bin, unary, await, update, yield, arrow, hole, block}
use Rattle.swc_ast.specs.Trees.{to, items_of, member_e, call_e, name_e, private_e, computed_e, is_operation, at_place, is_chain, link_e, chain_e, yield_e}
use Rattle.swc_bodies.specs.Readings.{Hook}
use Rattle.swc_grammar.specs.Scope.{Scope}
use Rattle.swc_grammar.specs.Rule.{Rule, gives, never, take, check, peek, peek_two, read, hear, given, ◌>>=◌}
use Rattle.swc_grammar.specs.Symbols.{Symbol, Assign, Level, Unary, Lhs, Left, Base, Primary, Literal, Template, Answer, Body, Value, Side}
use Rattle.swc_grammar.specs.Parts.{reference, any_name, lit_of, regex_of, flags_ok, prefix_here, update_here, assign_here, operator_here}
use Rattle.swc_grammar.specs.Arrows.{arrow_name, async_name, async_param}
use Rattle.swc_grammar.specs.Cover.{as_literal}
use Rattle.swc_grammar.specs.Endings.{Last, any, nothing, last_in, last_of_block, writes_in, writes_of_block}
use Rattle.swc_grammar.specs.Grammar.{Production, ident-expr, async-ident, async-call, lit, regex-alone, regex-slash, private-expr, member-name, member-private, member-computed, call, chain-name, chain-private, super-name, unary-left, unary-op, update-postfix, update-prefix, bin-op, private-in, assign-level, assign-expr, assign-pattern, arrow-name, arrow-async-name, arrow-async-params}
use Rattle.swc_grammar.proofs.Answers.{only}
use Rattle.swc_grammar.specs.Reads.{Reads, by, Follows, gave, took, held, calm, part, heard, calm-two}

abbrev pub is_nothing : Last → Bool
is_nothing nothing = true
is_nothing l = false

abbrev is_shaped : Symbol → Bool
is_shaped Assign = true
is_shaped (Level n) = true
is_shaped Unary = true
is_shaped (Lhs b) = true
is_shaped (Left b) = true
is_shaped (Base b) = true
is_shaped Primary = true
is_shaped Literal = true
is_shaped (Template b) = true
is_shaped s = false

abbrev When : Bool → Type 0 → Type 0
When true X = X
When false X = Unit {0}

module _ {F C K : Type 0} where
  -- neither a part that is left out nor a block, as the bodies of functions are
  abbrev pub is_ordinary : Tree F C K → Bool
  is_ordinary (node hole s ts) = false
  is_ordinary (node (block v) s ts) = false
  is_ordinary t = true

  abbrev pub is_below : Tree F C K → Bool
  is_below (node (yield d) s ts) = false
  is_below (node (arrow a) s ts) = false
  is_below (node (assign op) s ts) = false
  is_below (node cond s ts) = false
  is_below (node seq s ts) = false
  is_below (node hole s ts) = false
  is_below (node (block v) s ts) = false
  is_below t = true

  abbrev pub is_plain : Tree F C K → Bool
  is_plain (node (update op b) s ts) = false
  is_plain (node (unary op) s ts) = false
  is_plain (node await s ts) = false
  is_plain (node (bin op) s ts) = false
  is_plain (node (yield d) s ts) = false
  is_plain (node (arrow a) s ts) = false
  is_plain (node (assign op) s ts) = false
  is_plain (node cond s ts) = false
  is_plain (node seq s ts) = false
  is_plain (node hole s ts) = false
  is_plain (node (block v) s ts) = false
  is_plain t = true

  abbrev pub Operand : Tree F C K → Type 0
  Operand t = (is_nothing (last_in t) ≡ false) × (is_below t ≡ true)

  pub plain-any : (t : Tree F C K) → is_plain t ≡ true → last_in t ≡ any
  plain-any (node (update op b) s ts) h = cc
  plain-any (node (unary op) s ts) h = cc
  plain-any (node await s ts) h = cc
  plain-any (node (bin op) s ts) h = cc
  plain-any (node (yield d) s ts) h = cc
  plain-any (node (arrow a) s ts) h = cc
  plain-any (node (assign op) s ts) h = cc
  plain-any (node cond s ts) h = cc
  plain-any (node seq s ts) h = cc
  plain-any (node k s ts) h = refl

  plain-below : (t : Tree F C K) → is_plain t ≡ true → is_below t ≡ true
  plain-below (node (yield d) s ts) h = cc
  plain-below (node (arrow a) s ts) h = cc
  plain-below (node (assign op) s ts) h = cc
  plain-below (node cond s ts) h = cc
  plain-below (node seq s ts) h = cc
  plain-below (node hole s ts) h = cc
  plain-below (node (block v) s ts) h = cc
  plain-below (node k s ts) h = refl

  plain-operand : (t : Tree F C K) → is_plain t ≡ true → Operand t
  plain-operand t h = (rw (plain-any t h) refl, plain-below t h)

  pub below-writes : (t : Tree F C K) → is_below t ≡ true → writes_in t ≡ not (is_operation t)
  below-writes (node (yield d) s ts) h = cc
  below-writes (node (arrow a) s ts) h = cc
  below-writes (node (assign op) s ts) h = cc
  below-writes (node cond s ts) h = cc
  below-writes (node seq s ts) h = cc
  below-writes (node k s ts) h = refl

  below-ordinary : (t : Tree F C K) → is_below t ≡ true → is_ordinary t ≡ true
  below-ordinary (node hole s ts) h = cc
  below-ordinary (node (block v) s ts) h = cc
  below-ordinary (node k s ts) h = refl

  pub ordinary-yield : (s : Span) (d : Bool) (t : Tree F C K) → is_ordinary t ≡ true
      → (last_in (yield_e s d t) ≡ last_in t) × (writes_in (yield_e s d t) ≡ writes_in t)
  ordinary-yield s d (node hole s' ts) h = cc
  ordinary-yield s d (node k s' ts) h = (refl, refl)

  pub ordinary-body : (t : Tree F C K) (l : Last) (b : Bool) → is_ordinary t ≡ true
      → (last_of_block t l ≡ l) × (writes_of_block t b ≡ b)
  ordinary-body (node (block v) s ts) l b h = cc
  ordinary-body (node k s ts) l b h = (refl, refl)

  -- what is so of the trees of a symbol
  abbrev pub Shape : (s : Symbol) → Tree F C K → Type 0
  Shape Assign t = is_ordinary t ≡ true
  Shape (Level n) t = Operand t
  Shape Unary t = Operand t
  Shape (Lhs b) t = is_plain t ≡ true
  Shape (Left b) t = is_plain t ≡ true
  Shape (Base b) t = is_plain t ≡ true
  Shape Primary t = is_plain t ≡ true
  Shape Literal t = is_plain t ≡ true
  Shape (Template b) t = is_plain t ≡ true
  Shape s t = Unit {0}

  abbrev Keeps : {A : Type 0} → (A → Type 0) → Rule Symbol (Answer F C K) Body (Value F C K) A → Type 0
  Keeps P (gives a) = P a
  Keeps P never = Unit {0}
  Keeps P (take f) = (a : TokenAndSpan) → Keeps P (f a)
  Keeps P (check b r) = Keeps P r
  Keeps P (peek p r) = Keeps P r
  Keeps P (peek_two p r) = Keeps P r
  Keeps P (read s c f) = (e : Answer F C K s) → Shape s e → Keeps P (f e)
  Keeps P (hear b c f) = (v : Value F C K b) (s : Span) → Keeps P (f v s)

  keeps-given : {A D : Type 0} (P : A → Type 0) (o : Option D)
      (k : D → Rule Symbol (Answer F C K) Body (Value F C K) A)
      → ((x : D) → o ≡ Some x → Keeps P (k x)) → Keeps P (given o >>= k)
  keeps-given P None k f = tt
  keeps-given P (Some x) k f = f x refl

  shaped-or : (s : Symbol) (t : Answer F C K s) {X : Type 0} → When (is_shaped s) X → (X → Shape s t) → Shape s t
  shaped-or Assign t h f = f h
  shaped-or (Level n) t h f = f h
  shaped-or Unary t h f = f h
  shaped-or (Lhs b) t h f = f h
  shaped-or (Left b) t h f = f h
  shaped-or (Base b) t h f = f h
  shaped-or Primary t h f = f h
  shaped-or Literal t h f = f h
  shaped-or (Template b) t h f = f h
  shaped-or s t h f = tt

  same-plain : (x e : Tree F C K) → is_plain x ≡ true → Some x ≡ Some e → is_plain e ≡ true
  same-plain x e h k = let same : x ≡ e = cc in subst (λ v. is_plain v ≡ true) same h

  lit-plain : (t : Token) (s : Span) (e : Tree F C K) → lit_of t s ≡ Some e → is_plain e ≡ true
  lit-plain (token.Word word.Null) s e h = same-plain _ e refl h
  lit-plain (token.Word word.True) s e h = same-plain _ e refl h
  lit-plain (token.Word word.False) s e h = same-plain _ e refl h
  lit-plain (token.Num raw) s e h = same-plain _ e refl h
  lit-plain (token.BigInt raw) s e h = same-plain _ e refl h
  lit-plain (token.Str value raw) s e h = same-plain _ e refl h
  lit-plain t s e h = cc

  regex-plain : (t : Token) (s : Span) (e : Tree F C K) → regex_of t s ≡ Some e → is_plain e ≡ true
  regex-plain (token.Regex exp flags) s e h = same-plain _ e refl (only (flags_ok flags) h).1
  regex-plain t s e h = cc

  placed-plain : (s : Span) (e : Tree F C K) → is_plain e ≡ true → is_plain (at_place s e) ≡ true
  placed-plain s (node (update op b) s' ts) h = h
  placed-plain s (node k s' ts) h = h

  linked-plain : (b : Bool) (l t : Tree F C K) → is_plain t ≡ true → is_plain (link_e b l t) ≡ true
  linked-plain b l t h = by-test (b || is_chain l)
    where
      by-test : (x : Bool) → is_plain (if x then chain_e b t else t) ≡ true
      by-test true = refl
      by-test false = h

  giving : {s : Symbol} {c : Scope} {r : Side F C K s} → Production s c r → When (is_shaped s) (Keeps (Shape s) r)
  giving {c = c} ident-expr = λ a. keeps-given _ (reference c a.token a.span) _ (λ n o. refl)
  giving {c = c} async-ident = λ a. keeps-given _ (async_name c a.token a.span) _ (λ n o. refl)
  giving {c = c} async-call = λ a. keeps-given _ (async_name c a.token a.span) _ (λ n o. λ b. λ e k. refl)
  giving lit = λ a. keeps-given _ (lit_of a.token a.span) _ (λ e o. lit-plain a.token a.span e o)
  giving regex-alone = λ a. keeps-given _ (regex_of a.token a.span) _ (λ e o. regex-plain a.token a.span e o)
  giving regex-slash = λ b. λ a. keeps-given _ (regex_of a.token a.span) _
      (λ e o. placed-plain _ e (regex-plain a.token a.span e o))
  giving {c = c} private-expr = λ b. λ a. keeps-given _ (any_name c a.token a.span) _ (λ n o. refl)
  giving {c = c} super-name = λ b d. λ a. keeps-given _ (any_name c a.token a.span) _ (λ n o. refl)
  giving {c = c} member-name = λ l k. λ b. λ a. keeps-given _ (any_name c a.token a.span) _
      (λ n o. linked-plain false l (member_e (to (span_of l) n.at) l (name_e n.at n.text)) refl)
  giving {c = c} member-private = λ l k. λ b. λ d. λ a. keeps-given _ (any_name c a.token a.span) _
      (λ n o. linked-plain false l (member_e (to (span_of l) n.at) l (private_e (to d.span n.at) n.text)) refl)
  giving member-computed = λ l k. λ a. λ e i. λ b.
      linked-plain false l (member_e (to (span_of l) b.span) l (computed_e (to a.span b.span) e)) refl
  giving call = λ l k. λ a. λ e i. linked-plain false l (call_e (to (span_of l) (span_of e)) l (items_of e)) refl
  giving {c = c} chain-name = λ l k. λ b. λ d. λ a. keeps-given _ (any_name c a.token a.span) _ (λ n o. refl)
  giving {c = c} chain-private =
      λ l k. λ b. λ d. λ g. λ a. keeps-given _ (any_name c a.token a.span) _ (λ n o. refl)
  giving unary-left = λ l k. plain-operand l k
  giving unary-op = λ a. keeps-given _ (prefix_here a.token a.span) _ (λ x o. λ e k. (k.0, refl))
  giving update-postfix =
      λ l k. λ a. keeps-given _ (update_here a.token a.span) _ (λ x o. (refl, refl))
  giving update-prefix = λ a. keeps-given _ (update_here a.token a.span) _ (λ x o. λ e k. (k.0, refl))
  giving {c = c} (bin-op b) =
      λ l k. λ a. keeps-given _ (operator_here c a.token a.span) _ (λ x o. λ r i. (i.0, refl))
  giving {c = c} private-in =
      λ a. λ b. keeps-given _ (any_name c b.token b.span) _ (λ n o. λ d. λ r i. (i.0, refl))
  giving assign-level = λ e k. below-ordinary e k.1
  giving assign-expr = λ l k. λ a. keeps-given _ (assign_here a.token a.span) _ (λ x o. λ r i. refl)
  giving {c = c} assign-pattern = λ l k. λ a. keeps-given _ (as_literal c.context.strict l) _ (λ x o. λ r i. refl)
  giving {c = c} arrow-name = λ a. keeps-given _ (arrow_name c a.token a.span) _ (λ n o. λ b. λ e k. refl)
  giving {c = c} arrow-async-name = λ a. keeps-given _ (async_name c a.token a.span) _
      (λ n o. λ b. keeps-given _ (async_param c b.token b.span) _ (λ m i. λ d. λ e k. refl))
  giving {c = c} arrow-async-params = λ a. keeps-given _ (async_name c a.token a.span) _
      (λ n o. λ hs k. λ d. λ e i. refl)
  giving p = assumption

module _ {F C K : Type 0} {hook : Hook F C K} where
  mutual
    pub shape : {s : Symbol} {c : Scope} {xs ys : List TokenAndSpan} {t : Answer F C K s} → Reads hook s c xs ys t
        → Shape s t
    shape {s = s} {t = t} (by p d) = shaped-or s t (giving p) (shape-side d)

    shape-side : {s : Symbol} {r : Side F C K s} {xs ys : List TokenAndSpan} {t : Answer F C K s}
        → Follows hook s r xs ys t → Keeps (Shape s) r → Shape s t
    shape-side gave k = k
    shape-side (took {a = a} d) k = shape-side d (k a)
    shape-side (held h d) k = shape-side d k
    shape-side (calm h d) k = shape-side d k
    shape-side (calm-two h d) k = shape-side d k
    shape-side (part {e = e} r d) k = shape-side d (k e (shape r))
    shape-side (heard {v = v} h d) k = shape-side d (k v _)
