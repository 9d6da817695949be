-- Operands that begin with a name, a literal or `this`: what is read before their links, and where nothing goes on with
-- them.
use Rattle.std.proofs.Common.{◌≡◌, Bool, true, false, not, ◌&&◌, if◌then◌else◌, List, [], ◌∷◌, Option, Some, None, refl, sym, ap, ◌∙◌}
use Rattle.swc_context.specs.{declared.word.Keyword.Keyword as keyword, declared.word.Word.Word as word}
use Rattle.swc_input.specs.{declared.token.Token.Token, declared.token.Token.Token as token, declared.token.TokenAndSpan.TokenAndSpan, Kinds.at_token}
use Rattle.swc_ast.specs.Tree.{Tree}
use Rattle.swc_bodies.specs.Readings.{Hook}
use Rattle.swc_grammar.specs.Symbols.{Unary, Lhs, Base, Primary}
use Rattle.swc_grammar.specs.Tokens.{is_update, update_of, is_await, prefix_of, is_new, is_super, is_import, is_dot, is_lbracket, is_lparen, is_backquote, is_question}
use Rattle.swc_grammar.specs.Clean.{first, sym as at, links, run}
use Rattle.swc_grammar.specs.{Scope.Scope, Scope.inner, Words.◌>>=◌}
use Rattle.swc_grammar.proofs.{Complete.last, Complete.links-end, Knot.knot, Members.lhs_parts}
use Rattle.swc_operators.specs.Operands.{is_plain, goes_on}
use Rattle.swc_operators.proofs.{Operands.behind, Operands.updated, Updates.operand_splits, Updates.updates_end}
use Rattle.swc_steps.proofs.{Keys.then_calls, Lists.binds, Lists.calls, Steps.Inner.inner_is}

-- ---- no other production begins with such a token

no_update : (t : Token) → is_plain t ≡ true → is_update t ≡ false
no_update token.PlusPlus h = absurd cc
no_update token.MinusMinus h = absurd cc
no_update t h = refl

no_await : (t : Token) → is_plain t ≡ true → is_await t ≡ false
no_await (token.Word (word.Keyword keyword.Await)) h = absurd cc
no_await t h = refl

no_prefix : (t : Token) → is_plain t ≡ true → prefix_of t ≡ None
no_prefix (token.Word (word.Keyword keyword.This)) h = refl
no_prefix (token.Word (word.Keyword k)) h = absurd cc
no_prefix (token.Word w) h = refl
no_prefix (token.Num raw) h = refl
no_prefix (token.BigInt raw) h = refl
no_prefix (token.Str value raw) h = refl
no_prefix t h = absurd cc

no_new : (t : Token) → is_plain t ≡ true → is_new t ≡ false
no_new (token.Word (word.Keyword keyword.New)) h = absurd cc
no_new t h = refl

no_super : (t : Token) → is_plain t ≡ true → is_super t ≡ false
no_super (token.Word (word.Keyword keyword.Super)) h = absurd cc
no_super t h = refl

no_import : (t : Token) → is_plain t ≡ true → is_import t ≡ false
no_import (token.Word (word.Keyword keyword.Import)) h = absurd cc
no_import t h = refl

-- ---- nothing goes on

ends_links : (t : Token) (u : Option TokenAndSpan) → goes_on t ≡ false
    → (not (is_dot t) && (not (is_lbracket t) && (not (is_backquote t) && (not (is_question t && at_token is_dot u)
    && not (true && is_lparen t))))) ≡ true
ends_links token.Dot u h = absurd cc
ends_links token.LBracket u h = absurd cc
ends_links token.LParen u h = absurd cc
ends_links token.BackQuote u h = absurd cc
ends_links token.QuestionMark u h = absurd cc
ends_links t u h = refl

ends_updates : (t : Token) (b : Bool) → goes_on t ≡ false → (if b then None else update_of t) ≡ None
ends_updates t true h = refl
ends_updates token.PlusPlus false h = absurd cc
ends_updates token.MinusMinus false h = absurd cc
ends_updates t false h = refl

module _ {F C K : Type 0} (hook : Hook F C K) where
  -- a member expression first, and then links that may be calls
  pub plain_unary : (x : Scope) (ts : List TokenAndSpan) → x.head ≡ false → at_token is_plain (first ts) ≡ true
      → run hook (at Unary) x ts ≡ (run hook (at (Lhs false)) x ts >>= behind hook x)
  plain_unary x [] none h = absurd cc
  plain_unary x (t ∷ ts) none h =
      let member = run hook (at (Lhs false)) x (t ∷ ts) in
      operand_splits hook x (t ∷ ts) none (no_update t.token h) (no_await t.token h) (no_prefix t.token h)
      ∙ ap (λ o. o >>= updated hook x) (lhs_parts hook x (t ∷ ts) (no_super t.token h) (no_import t.token h)
      ∙ calls member (λ l us. run hook (links true l) (inner x) us)
      ∙ ap (λ v. member >>= (λ p. run hook (links true p.0) v p.1)) (inner_is x none))
      ∙ sym (binds member (λ p. run hook (links true p.0) x p.1) (updated hook x))

  -- such an expression: a primary expression, and links that are no calls
  pub plain_member : (x : Scope) (ts : List TokenAndSpan) → x.head ≡ false → at_token is_plain (first ts) ≡ true
      → run hook (at (Lhs false)) x ts ≡ (run hook (at Primary) x ts >>= (λ p. run hook (links false p.0) x p.1))
  plain_member x [] none h = absurd cc
  plain_member x (t ∷ ts) none h =
      let n = no_new t.token h in
      let s = no_super t.token h in
      let i = no_import t.token h in
      knot hook (at (Lhs false)) x (t ∷ ts)
      ∙ rw n (then_calls (run hook (at (Base false)) x (t ∷ ts)) _ (λ e us. run hook (links false e) (inner x) us)
      (λ e us. last hook (Some 10) (links false e) (inner x) us refl))
      ∙ ap (λ v. run hook (at (Base false)) x (t ∷ ts) >>= (λ p. run hook (links false p.0) v p.1)) (inner_is x none)
      ∙ ap (λ o. o >>= (λ p. run hook (links false p.0) x p.1))
      (knot hook (at (Base false)) x (t ∷ ts) ∙ rw (n, s, i) (last hook (Some 9) (at Primary) x (t ∷ ts) refl))

  -- an operand with which nothing goes on
  pub ends_here : (l : Tree F C K) (x : Scope) (ts : List TokenAndSpan) → at_token goes_on (first ts) ≡ false
      → behind hook x (l, ts) ≡ Some (l, ts)
  ends_here l x [] h = ap (λ o. o >>= updated hook x) (links-end hook true l x [] refl) ∙ updates_end hook l x [] refl
  ends_here l x (t ∷ ts) h =
      ap (λ o. o >>= updated hook x) (links-end hook true l x (t ∷ ts) (ends_links t.token (first ts) h))
      ∙ updates_end hook l x (t ∷ ts) (ends_updates t.token t.had_line_break h)
