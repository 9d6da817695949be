-- Where an assignment expression begins, what it begins with is read as elsewhere, but for `async` and what makes it
-- more than a name.
use Rattle.std.specs.Prelude.{◌≡◌, ℕ, Bool, true, false, not, ◌&&◌, ◌||◌, List, ◌∷◌, Option, Some, None, [], if◌then◌else◌}
use Rattle.std.proofs.Common.{refl, sym as sym_path, ap, ◌∙◌}
use Rattle.swc_context.specs.declared.operator.UnaryOp.{UnaryOp}
use Rattle.swc_input.specs.{declared.token.TokenAndSpan.TokenAndSpan, Kinds.at_token, Kinds.is_hash}
use Rattle.swc_ast.specs.{Tree.Tree, Trees.ident_e}
use Rattle.swc_bodies.specs.Readings.{Hook, begins, begins_function, is_class, is_brace, is_async, is_function}
use Rattle.swc_grammar.specs.Arrows.{async_name, goes_on_async, of_arrow, is_bindable, before_of, is_arrow}
use Rattle.swc_grammar.specs.Clean.{Out, and_then, first, second, third, sym, links, updates, climb, chosen, exec, run, Choice, Plan, plan, base, primary, async_primary, unary_by, is_lit, is_identifier, prefix_at, begins_async_name, begins_async_list, begins_new, ends_await_at, is_lparen_here, is_bindable_here, before_of_here, begins_private}
use Rattle.swc_grammar.specs.Rule.{read, peek, peek_two, sees, sees_two, gives, given, ◌>>=◌}
use Rattle.swc_grammar.specs.Names.{Spelling}
use Rattle.swc_grammar.specs.Scope.{Scope, at_head, inner}
use Rattle.swc_grammar.specs.Symbols.{Symbol, Answer, Side, Level, Unary, Lhs, Base, Primary}
use Rattle.swc_grammar.specs.Tokens.{is_lparen, is_this, is_lbracket, is_backquote, is_slash, is_regex, is_update, is_await, is_star, is_new, is_super, is_import, is_dot, is_source}
use Rattle.swc_grammar.proofs.Knot.{knot}

-- two choices by one test
same-if : {A B D : Type 0} (f : A → D) (g : B → D) (b : Bool) (x y : A) (u v : B) → (b ≡ true → f x ≡ g u)
    → (b ≡ false → f y ≡ g v) → f (if b then x else y) ≡ g (if b then u else v)
same-if f g true x y u v h k = h refl
same-if f g false x y u v h k = k refl

-- after `async`, where it begins neither an arrow function with a name nor a list
quiet-case : (l f p q o w : Bool) → (not l && p) ≡ false → ((not l && q) && not (o && not w)) ≡ false
    → (not l && (f || (true && (p || (q && not o))))) ≡ (not l && (f || (false && (p || (q && not o)))))
quiet-case true f p q o w h k = refl
quiet-case false true p q o w h k = refl
quiet-case false false true q o w h k = absurd cc
quiet-case false false false true true w h k = refl
quiet-case false false false true false w h k = absurd cc
quiet-case false false false false o w h k = refl

quiet-behind : (c : Scope) (us : List TokenAndSpan) → is_lparen_here (first us) ≡ false
    → (is_bindable_here c (first us) && not (before_of_here c (first us) && not (at_token is_arrow (second us))))
    ≡ false → sees (goes_on_async (at_head c)) us ≡ sees (goes_on_async (inner c)) us
quiet-behind c [] h k = refl
quiet-behind c (t ∷ ts) h k =
    quiet-case t.had_line_break (is_function t.token) (is_lparen t.token) (is_bindable c t.token) (before_of c t.token)
    (at_token is_arrow (first ts)) h k

two-case : (l q o w : Bool) → ((not l && q) && not (o && not w)) ≡ false
    → (true && (not l && ((q && o) && w))) ≡ (false && (not l && ((q && o) && w)))
two-case true q o w k = refl
two-case false true true true k = absurd cc
two-case false true true false k = refl
two-case false true false w k = refl
two-case false false o w k = refl

quiet-two : (c : Scope) (us : List TokenAndSpan)
    → (is_bindable_here c (first us) && not (before_of_here c (first us) && not (at_token is_arrow (second us))))
    ≡ false → sees_two (of_arrow (at_head c)) us ≡ sees_two (of_arrow (inner c)) us
quiet-two c [] k = refl
quiet-two c (t ∷ []) k = refl
quiet-two c (t ∷ (u ∷ us)) k =
    two-case t.had_line_break (is_bindable c t.token) (before_of c t.token) (is_arrow u.token) k

module _ {F C K : Type 0} (hook : Hook F C K) where
  abbrev Does : (g : ℕ) (s : Symbol) (c : Scope) → List TokenAndSpan → Choice F C K s c → Out (Answer F C K s)
  Does g s c ts x = exec hook (run hook) (Some g) (chosen x) ts

  abbrev named : Scope → Spelling → Side F C K Primary
  named d n = peek (goes_on_async d) (peek_two (of_arrow d) (gives (ident_e n.at n.text)))

  name-same : (d e : Scope) (us : List TokenAndSpan) → sees (goes_on_async d) us ≡ sees (goes_on_async e) us
      → sees_two (of_arrow d) us ≡ sees_two (of_arrow e) us → (o : Option Spelling)
      → exec hook (run hook) None (plan (given o >>= named d)) us
      ≡ exec hook (run hook) None (plan (given o >>= named e)) us
  name-same d e us h k None = refl
  name-same d e us h k (Some n) =
      ap (λ v. if v then None else (if sees_two (of_arrow d) us then None else Some (ident_e n.at n.text, us))) h
      ∙ ap (λ v. if sees (goes_on_async e) us then None else (if v then None else Some (ident_e n.at n.text, us))) k

  async-same : (c : Scope) (a : TokenAndSpan) (us : List TokenAndSpan) → is_lparen_here (first us) ≡ false
      → (is_bindable_here c (first us) && not (before_of_here c (first us) && not (at_token is_arrow (second us))))
      ≡ false → Does 8 Primary (at_head c) (a ∷ us) (async_primary (at_head c) (first us))
      ≡ Does 8 Primary (inner c) (a ∷ us) (async_primary (inner c) (first us))
  async-same c a us h k =
      rw h (name-same (at_head c) (inner c) us (quiet-behind c us h k) (quiet-two c us k) (async_name c a.token a.span))

  after-and : (a b : Bool) → a ≡ true → (a && b) ≡ false → b ≡ false
  after-and true b h k = k
  after-and false b h k = absurd cc

  neither : (a b : Bool) → (a || b) ≡ false → (a ≡ false) × (b ≡ false)
  neither true b h = absurd cc
  neither false b h = (refl, h)

  async-choice : (c : Scope) (ts : List TokenAndSpan) → at_token is_async (first ts) ≡ true
      → (begins_async_name c ts || begins_async_list ts) ≡ false
      → Does 8 Primary (at_head c) ts (async_primary (at_head c) (second ts))
      ≡ Does 8 Primary (inner c) ts (async_primary (inner c) (second ts))
  async-choice c [] h z = absurd cc
  async-choice c (a ∷ us) h z =
      let (x, y) = neither (begins_async_name c (a ∷ us)) (begins_async_list (a ∷ us)) z in
      async-same c a us (after-and (is_async a.token) _ h y) (after-and (is_async a.token) _ h x)

  primary-same : (c : Scope) (ts : List TokenAndSpan) → (begins_async_name c ts || begins_async_list ts) ≡ false
      → Does 8 Primary (at_head c) ts (primary (at_head c) ts) ≡ Does 8 Primary (inner c) ts (primary (inner c) ts)
  primary-same c ts z =
      let f : Choice F C K Primary (at_head c) → Out (Tree F C K) = λ v. Does 8 Primary (at_head c) ts v in
      let g : Choice F C K Primary (inner c) → Out (Tree F C K) = λ v. Does 8 Primary (inner c) ts v in
      same-if f g (at_token (is_identifier c.context) (first ts)) _ _ _ _ (λ h. refl) (λ h.
      same-if f g (at_token is_lit (first ts)) _ _ _ _ (λ h. refl) (λ h.
      same-if f g (at_token is_lparen (first ts)) _ _ _ _ (λ h. refl) (λ h.
      same-if f g (at_token is_hash (first ts)) _ _ _ _ (λ h. refl) (λ h.
      same-if f g (at_token is_this (first ts)) _ _ _ _ (λ h. refl) (λ h.
      same-if f g (at_token is_lbracket (first ts)) _ _ _ _ (λ h. refl) (λ h.
      same-if f g (begins_function ts) _ _ _ _ (λ h. refl) (λ h.
      same-if f g (at_token is_async (first ts)) _ _ _ _ (λ h. async-choice c ts h z) (λ h.
      same-if f g (begins is_class ts) _ _ _ _ (λ h. refl) (λ h.
      same-if f g (at_token is_brace (first ts)) _ _ _ _ (λ h. refl) (λ h.
      same-if f g (at_token is_backquote (first ts)) _ _ _ _ (λ h. refl) (λ h.
      same-if f g (at_token is_slash (first ts)) _ _ _ _ (λ h. refl) (λ h.
      same-if f g (at_token is_regex (first ts)) _ _ _ _ (λ h. refl) (λ h. refl)))))))))))))

  module _ (c : Scope) (ts : List TokenAndSpan) (z : (begins_async_name c ts || begins_async_list ts) ≡ false) where
    primary-run : run hook (sym Primary) (at_head c) ts ≡ run hook (sym Primary) (inner c) ts
    primary-run =
        knot hook (sym Primary) (at_head c) ts ∙ primary-same c ts z ∙ sym_path (knot hook (sym Primary) (inner c) ts)

    base-same : Does 9 (Base true) (at_head c) ts (base true (at_head c) ts)
        ≡ Does 9 (Base true) (inner c) ts (base true (inner c) ts)
    base-same =
        let f : Choice F C K (Base true) (at_head c) → Out (Tree F C K) = λ v. Does 9 (Base true) (at_head c) ts v in
        let g : Choice F C K (Base true) (inner c) → Out (Tree F C K) = λ v. Does 9 (Base true) (inner c) ts v in
        same-if f g (at_token is_new (first ts)) _ _ _ _ (λ h. refl) (λ h.
        same-if f g (at_token is_super (first ts)) _ _ _ _
        (λ h. same-if f g (at_token is_dot (second ts)) _ _ _ _ (λ h. refl) (λ h.
        same-if f g (at_token is_lbracket (second ts)) _ _ _ _ (λ h. refl) (λ h. refl))) (λ h.
        same-if f g (at_token is_import (first ts)) _ _ _ _
        (λ h. same-if f g (at_token is_dot (second ts)) _ _ _ _
        (λ h. same-if f g (at_token is_source (third ts)) _ _ _ _ (λ h. refl) (λ h. refl)) (λ h. refl)) (λ h.
        ap (λ o. and_then o (λ e us. Some (e, us))) primary-run)))

    base-run : run hook (sym (Base true)) (at_head c) ts ≡ run hook (sym (Base true)) (inner c) ts
    base-run =
        knot hook (sym (Base true)) (at_head c) ts ∙ base-same ∙ sym_path (knot hook (sym (Base true)) (inner c) ts)

    lhs-run : run hook (sym (Lhs true)) (at_head c) ts ≡ run hook (sym (Lhs true)) (inner c) ts
    lhs-run =
        let f : Plan F C K (Tree F C K) → Out (Tree F C K) = λ v. exec hook (run hook) (Some 10) v ts in
        knot hook (sym (Lhs true)) (at_head c) ts
        ∙ same-if f f (begins_new ts) _ _ _ _ (λ h. refl)
        (λ h. ap (λ o. and_then o (λ e us. exec hook (run hook) (Some 10)
        (read (links true e) (inner c) (λ v. gives v)) us)) base-run)
        ∙ sym_path (knot hook (sym (Lhs true)) (inner c) ts)

    prefixed : (o : Option UnaryOp) → exec hook (run hook) (Some 11) (unary_by (at_head c) o) ts
        ≡ exec hook (run hook) (Some 11) (unary_by (inner c) o) ts
    prefixed None =
        ap (λ o. and_then o (λ l us. exec hook (run hook) (Some 11)
        (read (updates l) (inner c) (λ v. gives v)) us)) lhs-run
    prefixed (Some op) = refl

    -- an operand
    pub unary-run : run hook (sym Unary) (at_head c) ts ≡ run hook (sym Unary) (inner c) ts
    unary-run =
        let f : Plan F C K (Tree F C K) → Out (Tree F C K) = λ v. exec hook (run hook) (Some 11) v ts in
        let p : Choice F C K Unary (at_head c) → Out (Tree F C K) = λ v. Does 11 Unary (at_head c) ts v in
        let q : Choice F C K Unary (inner c) → Out (Tree F C K) = λ v. Does 11 Unary (inner c) ts v in
        knot hook (sym Unary) (at_head c) ts
        ∙ same-if f f (at_token is_update (first ts)) _ _ _ _ (λ h. refl) (λ h.
        same-if f f (at_token is_await (first ts)) _ _ _ _
        (λ h. same-if p q (at_token is_star (second ts)) _ _ _ _ (λ h. refl) (λ h.
        same-if p q (not c.context.in_async && ends_await_at (second ts)) _ _ _ _ (λ h. refl) (λ h. refl)))
        (λ h. prefixed (prefix_at (first ts))))
        ∙ sym_path (knot hook (sym Unary) (inner c) ts)

    -- and operators after it
    pub level-run : run hook (sym (Level 1)) (at_head c) ts ≡ run hook (sym (Level 1)) (inner c) ts
    level-run =
        let f : Plan F C K (Tree F C K) → Out (Tree F C K) = λ v. exec hook (run hook) (Some 12) v ts in
        knot hook (sym (Level 1)) (at_head c) ts
        ∙ same-if f f (begins_private true c ts) _ _ _ _ (λ h. refl)
        (λ h. ap (λ o. and_then o (λ e us. exec hook (run hook) (Some 12)
        (read (climb e 0) (inner c) (λ v. gives v)) us)) unary-run)
        ∙ sym_path (knot hook (sym (Level 1)) (inner c) ts)
