-- The steps of the code where what may be an arrow function is an operand, which links may follow (13.2.9, 13.3.8).
use Rattle.std.proofs.Common.{◌≡◌, Bool, if◌then◌else◌, true, false, List, Option, Some, None, Result, Ok, Err, IfOk, ℕ, [], refl, sym, ap, subst}
use Rattle.swc_context.specs.{declared.error.Error.Error, declared.span.BytePos.BytePos, declared.span.Span.Span}
use Rattle.swc_input.specs.{declared.buffer.Buffer.Buffer, declared.token.TokenAndSpan.TokenAndSpan, Kinds.at_token, Source.Model, Source.Laws}
use Rattle.swc_ast.specs.{Tree.Tree, declared.spanned.Spanned.Ghosts}
use Rattle.swc_bodies.specs.Readings.{is_async as is_async_token}
use Rattle.swc_grammar.specs.{Arrows.is_arrow, Clean.first, Names.Spelling, Names.may_refer, Scope.Scope, Tokens.is_lparen, Words.◌>>=◌, Words.word}
use Rattle.swc_nodes.specs.{GrowingNodes.Apart, GrowingNodes.Grows, NodeParts.expr_part, declared.node.ExprId.ExprId, declared.node.PatId.PatId, declared.nodes.Nodes.Nodes}
use Rattle.swc_nodes.proofs.Held.{from-apart, tree-later}
use Rattle.swc_steps.specs.Keys.{expected}
use Rattle.swc_steps.specs.Parsing.{seen, On, Heard}
use Rattle.swc_steps.proofs.Steps.{give, here_now, seen_some, on_seen, on_call, on_then, heard_after, heard_more}
use Rattle.swc_arrows.specs.Answers.{callee_at, callee_parts, HearsBase, IsArrow, IsBase, OneParam}
use Rattle.swc_arrows.specs.Readers.{async_alone, async_base, async_opening, base_closed, base_look, before_of, list_opening, of_alone, of_base}
use Rattle.swc_arrows.specs.{declared.names.ArrowHead.ArrowHead, declared.names.Beginning.Beginning, declared.names.Beginning.Beginning as begins}

-- ---- what is answered

pub one_is_arrow : (start : BytePos) (a : Bool) (param : PatId) (at : BytePos) (r : Result Beginning Error)
    → OneParam start a param at r → IfOk r (λ b. IsArrow b)
one_is_arrow start a param at (Ok b) (h, is, st, y, ip, ps) = subst (λ v. IsArrow v) (sym is) tt
one_is_arrow start a param at (Err e) h = tt

-- what holds of each beginning of an arrow function
pub if_arrow : (P : Beginning → Type 0) → ((h : ArrowHead) → P (begins.Arrow h)) → (r : Result Beginning Error)
    → IfOk r (λ v. IsArrow v) → IfOk r P
if_arrow P f (Ok (begins.Arrow h)) z = f h
if_arrow P f (Ok (begins.Base e)) z = absurd z
if_arrow P f (Err e) z = tt

-- ---- what is read

module _ {F C K : Type 0} where
  pub look_base : (lo hi : BytePos) (o : Option (Tree F C K)) (s : Span) (es : Tree F C K) (x : Scope)
      (ts : List TokenAndSpan) → at_token is_arrow (first ts) ≡ false
      → base_look lo hi o s es x ts ≡ base_closed lo hi o s es x ts
  unfolding base_look
  look_base lo hi o s es x ts h = rw h refl

  pub paren_starts : (b : Bool) → b ≡ false → (x : Scope) (ts : List TokenAndSpan)
      → list_opening {F = F} {C = C} {K = K} b x ts ≡ (expected is_lparen x ts >>= (λ p. Some ((None, p.0), p.1)))
  unfolding list_opening
  paren_starts true h x ts = absurd cc
  paren_starts false h x ts = refl

  async_starts : (b : Bool) → b ≡ true → (x : Scope) (ts : List TokenAndSpan)
      → at_token is_async_token (first ts) ≡ true → list_opening {F = F} {C = C} {K = K} b x ts ≡ async_opening x ts
  unfolding list_opening
  async_starts true h x ts k = rw k refl
  async_starts false h x ts k = absurd cc

  alone_starts : (x : Scope) (ts : List TokenAndSpan) → at_token is_async_token (first ts) ≡ true
      → async_base {F = F} {C = C} {K = K} x ts ≡ async_alone x ts
  unfolding async_base
  alone_starts x ts k = rw k refl

  module _ {S : Type 0} {model : Model S} {sure : Bool} where
    -- `async` is current
    pub on_async_list : (laws : Laws model) (a : Bool) (b : Buffer S) → a ≡ true
        → at_token is_async_token (seen b) ≡ true
        → On model sure (list_opening {F = F} {C = C} {K = K} a) async_opening b b
    on_async_list laws a b h k =
        on_seen (here_now laws b (seen_some is_async_token b k))
        (λ x ts same e. async_starts a h x ts (subst (λ o. at_token is_async_token o ≡ true) (sym e) k))

    pub on_async_base : (laws : Laws model) (b : Buffer S) → at_token is_async_token (seen b) ≡ true
        → On model sure (async_base {F = F} {C = C} {K = K}) async_alone b b
    on_async_base laws b k =
        on_seen (here_now laws b (seen_some is_async_token b k))
        (λ x ts same e. alone_starts x ts (subst (λ o. at_token is_async_token o ≡ true) (sym e) k))

-- `async`, and what is before `of` in the head of a `for await`
module _ {S F C K : Type 0} {model : Model S} {sure : Bool} where
  on_before_of : (n : Spelling) (v : Bool) {m d : Buffer S} → v ≡ true → On model sure of_alone (give v) m d
      → On model sure (before_of {F = F} {C = C} {K = K} n) (of_base n) m d
  on_before_of n true h o = on_call (λ x p. if p.0 then of_base n x p.1 else None) (λ x ts. refl) o
  on_before_of n false h o = absurd cc

module _ {S F C K : Type 0} {fg : Ghosts F} {cg : Ghosts C} {kg : Ghosts K} {model : Model S} {sure : Bool} where
  pub base_before_of : (ns : Nodes F C K fg cg kg) (laws : Laws model) (n : Spelling) (v : Bool) {b m d : Buffer S}
      (c : Buffer S) (r : Result Beginning Error) → at_token is_async_token (seen b) ≡ true
      → Heard model sure (word may_refer) n b m → v ≡ true → On model sure of_alone (give v) m d
      → IfOk r (λ u. IsBase model sure (of_base n) ns u d c) → IfOk r (λ u. HearsBase model sure async_base ns u b c)
  base_before_of ns laws n v c (Ok (begins.Arrow h)) k w t o z = tt
  base_before_of ns laws n v {b} c (Ok (begins.Base e)) k w t o z =
      heard_after (on_async_base laws b k)
      (heard_more (λ x p. before_of p.0 x p.1) (λ x ts. refl) w (on_then (on_before_of n v t o) z))
  base_before_of ns laws n v c (Err e) k w t o z = tt

-- what is before a list keeps its tree where nodes are appended
module _ {F C K : Type 0} {fg : Ghosts F} {cg : Ghosts C} {kg : Ghosts K} where
  pub callee_later : {ns ms : Nodes F C K fg cg kg} {k : ℕ} (o : Option ExprId) → Grows ns ms
      → Apart k ns (callee_parts o) → callee_at ms o ≡ callee_at ns o
  callee_later None w a = refl
  callee_later (Some e) w a = ap (λ t. Some t) (tree-later w (from-apart (expr_part e) [] a))
