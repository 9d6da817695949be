-- A left-hand side that begins with neither `super` nor `import` is read in two steps: first one that holds no calls,
-- as a member expression or `new`, and then links that may be calls.
use Rattle.std.specs.Prelude.{◌≡◌, ℕ, zero, suc, ◌≤◌, ◌<◌, Bool, true, false, not, ◌&&◌, if◌then◌else◌, List, [], ◌∷◌, Some, None, length}
use Rattle.std.proofs.Common.{refl, sym as flip, ap, subst, ◌∙◌, arith}
use Rattle.swc_context.specs.declared.span.Span.{Span}
use Rattle.swc_input.specs.{declared.token.TokenAndSpan.TokenAndSpan, Kinds.at_token, Kinds.is_hash}
use Rattle.swc_ast.specs.Tree.{Tree, span_of}
use Rattle.swc_ast.specs.Trees.{to, new_e, bare_new_e, is_chain, items_of}
use Rattle.swc_bodies.specs.Readings.{Hook}
use Rattle.swc_grammar.specs.Scope.{Scope, with_head, inner}
use Rattle.swc_grammar.specs.Rule.{take, read, symbol}
use Rattle.swc_grammar.specs.Symbols.{Lhs, Left, Base, Args, Side}
use Rattle.swc_grammar.specs.Tokens.{with_in, is_dot, is_lbracket, is_backquote, is_question, is_lparen, is_super, is_import, is_new}
use Rattle.swc_grammar.specs.Grammar.{Production, new-target, base-primary}
use Rattle.swc_grammar.specs.Clean.{Out, and_then, first, second, third, sym, links, constructs, plan, exec, run, Link, no_more, more, linked, link, dot_link, chain_link, no_link, begins_new, chosen, pick}
use Rattle.swc_grammar.proofs.Answers.{then-ok, then-same, only, inj}
use Rattle.swc_grammar.proofs.Knot.{knot, exec-less, run-less}
use Rattle.swc_grammar.proofs.{Complete.last, Complete.links-end, Rules.exec-bind}

then_then : {A B D : Type 0} (o : Out A) (f : A → List TokenAndSpan → Out B) (g : B → List TokenAndSpan → Out D)
    → and_then (and_then o f) g ≡ and_then o (λ e us. and_then (f e us) g)
then_then None f g = refl
then_then (Some p) f g = refl

then_all : {A B : Type 0} (o : Out A) (k f : A → List TokenAndSpan → Out B)
    → ((e : A) (us : List TokenAndSpan) → k e us ≡ f e us) → and_then o k ≡ and_then o f
then_all None k f h = refl
then_all (Some p) k f h = h p.0 p.1

if_then : {A B : Type 0} (b : Bool) (o : Out B) (u : Out A) (k : A → List TokenAndSpan → Out B) → o ≡ and_then u k
    → (if b then o else None) ≡ and_then (if b then u else None) k
if_then true o u k h = h
if_then false o u k h = refl

module _ {F C K : Type 0} {c : Scope} where
  -- ---- the link that comes next, with calls and without

  -- it is the same link, or without calls none comes
  pub data Beside : Link F C K true c → Link F C K false c → Type 0 where
    none_left : {x : Link F C K true c} → Beside x no_more
    same_link : {f : Tree F C K → TokenAndSpan → Side F C K (Left true)}
        {p : (i : Bool) → Production (Left true) (with_head i c)
        (read (Left true) (with_head i c) (λ l. take (λ t. f l t)))}
        {q : (i : Bool) → Production (Left false) (with_head i c)
        (read (Left false) (with_head i c) (λ l. take (λ t. f l t)))} → Beside (more p) (more q)

  beside_if : (d : Bool) {x y : Link F C K true c} {u v : Link F C K false c} → Beside x u → Beside y v
      → Beside (if d then x else y) (if d then u else v)
  beside_if true h k = h
  beside_if false h k = k

  beside : (ts : List TokenAndSpan) → Beside (link true c ts) (link false c ts)
  beside ts =
      beside_if (at_token is_dot (first ts)) (beside_if (at_token is_hash (second ts)) same_link same_link)
      (beside_if (at_token is_lbracket (first ts)) same_link
      (beside_if (at_token is_backquote (first ts)) same_link
      (beside_if (at_token is_question (first ts) && at_token is_dot (second ts))
      (beside_if (at_token is_lbracket (third ts)) same_link
      (beside_if (at_token is_lparen (third ts)) same_link
      (beside_if (at_token is_hash (third ts)) same_link same_link))) none_left)))

  -- where none comes without calls
  abbrev Some_link : Link F C K false c → Type 0
  Some_link x = x ≡ no_more → ⊥

  either_link : (d : Bool) (x y : Link F C K false c) → Some_link x → Some_link y → Some_link (if d then x else y)
  either_link true x y h k = h
  either_link false x y h k = k

  not_this : (d m : Bool) (x y : Link F C K false c) → Some_link x → (y ≡ no_more → m ≡ true)
      → (if d then x else y) ≡ no_more → (not d && m) ≡ true
  not_this true m x y n f h = absurd (n h)
  not_this false m x y n f h = f h

  none_ends : (ts : List TokenAndSpan) → link {F = F} {C = C} {K = K} false c ts ≡ no_more → no_link false ts ≡ true
  none_ends [] h = refl
  none_ends (t ∷ us) h =
      not_this (is_dot t.token) _ (dot_link (first us)) _
      (either_link (at_token is_hash (first us)) _ _ (λ e. cc) (λ e. cc))
      (not_this (is_lbracket t.token) _ _ _ (λ e. cc)
      (not_this (is_backquote t.token) _ _ _ (λ e. cc)
      (not_this (is_question t.token && at_token is_dot (first us)) _ (chain_link (second us)) _
      (either_link (at_token is_lbracket (second us)) _ _ (λ e. cc)
      (either_link (at_token is_lparen (second us)) _ _ (λ e. cc)
      (either_link (at_token is_hash (second us)) _ _ (λ e. cc) (λ e. cc))))
      (λ e. refl)))) h

-- where no parenthesis comes, no call does
no_call : (d e q x p : Bool) → p ≡ false → (not d && (not e && (not q && (not x && not (false && p))))) ≡ true
    → (not d && (not e && (not q && (not x && not (true && p))))) ≡ true
no_call d e q x true k h = absurd cc
no_call d e q x false k h = h

no_call_at : (ts : List TokenAndSpan) → no_link false ts ≡ true → at_token is_lparen (first ts) ≡ false
    → no_link true ts ≡ true
no_call_at [] h k = refl
no_call_at (t ∷ us) h k =
    no_call (is_dot t.token) (is_lbracket t.token) (is_backquote t.token)
    (is_question t.token && at_token is_dot (first us)) (is_lparen t.token) k h

module _ {F C K : Type 0} (hook : Hook F C K) where
  -- ---- links

  -- with links that may be calls
  abbrev pub with_calls : Scope → Tree F C K → List TokenAndSpan → Out (Tree F C K)
  with_calls c l ts = run hook (links true l) c ts

  link_step : {b : Bool} {c : Scope} (l : Tree F C K) (t : TokenAndSpan) (us : List TokenAndSpan)
      {f : Tree F C K → TokenAndSpan → Side F C K (Left b)}
      (p : (i : Bool) → Production (Left b) (with_head i c) (read (Left b) (with_head i c) (λ e. take (λ u. f e u))))
      → link b c (t ∷ us) ≡ more p → run hook (links b l) c (t ∷ us)
      ≡ and_then (exec hook (run hook) None (plan (f l t)) us) (λ e vs. run hook (links b e) c vs)
  link_step {b} {c} l t us {f = f} p h =
      knot hook (links b l) c (t ∷ us)
      ∙ ap (λ v. exec hook (run hook) (Some 1) (linked v l) (t ∷ us)) h
      ∙ exec-bind hook (plan (f l t)) (λ e. symbol (links b e) c) us
      ∙ then_all (exec hook (run hook) None (plan (f l t)) us) _ (λ e vs. run hook (links b e) c vs)
      (λ e vs. last hook None (links b e) c vs refl)

  link_none : {b : Bool} {c : Scope} (l : Tree F C K)
      {f : Tree F C K → TokenAndSpan → Side F C K (Left b)}
      (p : (i : Bool) → Production (Left b) (with_head i c) (read (Left b) (with_head i c) (λ e. take (λ u. f e u))))
      → link b c [] ≡ more p → run hook (links b l) c [] ≡ None
  link_none {b} {c} l p h = knot hook (links b l) c [] ∙ ap (λ v. exec hook (run hook) (Some 1) (linked v l) []) h

  link_stops : {b : Bool} {c : Scope} (l : Tree F C K) (ts : List TokenAndSpan)
      → link {F = F} {C = C} {K = K} b c ts ≡ no_more → run hook (links b l) c ts ≡ Some (l, ts)
  link_stops {b} {c} l ts h = knot hook (links b l) c ts ∙ ap (λ v. exec hook (run hook) (Some 1) (linked v l) ts) h

  split_by : (c : Scope) (l : Tree F C K) (ts : List TokenAndSpan)
      → ((e : Tree F C K) (vs : List TokenAndSpan) → length vs < length ts
      → with_calls c e vs ≡ and_then (run hook (links false e) c vs) (with_calls c))
      → {x : Link F C K true c} {y : Link F C K false c} → Beside x y → link true c ts ≡ x → link false c ts ≡ y
      → with_calls c l ts ≡ and_then (run hook (links false l) c ts) (with_calls c)
  split_by c l ts more_of none_left h k = flip (ap (λ o. and_then o (with_calls c)) (link_stops l ts k))
  split_by c l [] more_of (same_link {p = p} {q = q}) h k =
      link_none l p h ∙ flip (ap (λ o. and_then o (with_calls c)) (link_none l q k))
  split_by c l (t ∷ us) more_of (same_link {f = f} {p = p} {q = q}) h k =
      let link_of = exec hook (run hook) None (plan (f l t)) us in
      link_step l t us p h
      ∙ then-same link_of link_of (with_calls c) (λ e vs. and_then (run hook (links false e) c vs) (with_calls c)) refl
      (λ r e. let n = exec-less hook (run hook) (run-less hook) None (plan (f l t)) us r e in
      more_of r.0 r.1 (omega arith))
      ∙ flip (then_then link_of (λ e vs. run hook (links false e) c vs) (with_calls c))
      ∙ flip (ap (λ o. and_then o (with_calls c)) (link_step l t us q k))

  -- first those without calls, and then those with them
  links_split : (n : ℕ) (c : Scope) (l : Tree F C K) (ts : List TokenAndSpan) → length ts ≤ n
      → with_calls c l ts ≡ and_then (run hook (links false l) c ts) (with_calls c)
  links_split zero c l ts h = split_by c l ts (λ e vs lt. absurd (omega (arith, lt, h))) (beside ts) refl refl
  links_split (suc n) c l ts h =
      split_by c l ts (λ e vs lt. links_split n c e vs (omega (arith, lt, h))) (beside ts) refl refl

  -- after those without calls no more of them come
  ends_by : (c : Scope) (l : Tree F C K) (ts : List TokenAndSpan) (r : Tree F C K × List TokenAndSpan)
      → ((e : Tree F C K) (vs : List TokenAndSpan) → length vs < length ts
      → run hook (links false e) c vs ≡ Some r → no_link false r.1 ≡ true)
      → (y : Link F C K false c) → link false c ts ≡ y → run hook (links false l) c ts ≡ Some r
      → no_link false r.1 ≡ true
  ends_by c l ts r more_of no_more k h =
      subst (λ v. no_link false v.1 ≡ true) (inj (l, ts) r (flip (link_stops l ts k) ∙ h)) (none_ends ts k)
  ends_by c l [] r more_of (more q) k h = let e = flip (link_none l q k) ∙ h in cc
  ends_by c l (t ∷ us) r more_of (more {f = f} q) k h =
      let (p, a, b) = then-ok (exec hook (run hook) None (plan (f l t)) us) (λ e vs. run hook (links false e) c vs)
      (flip (link_step l t us q k) ∙ h) in
      let n = exec-less hook (run hook) (run-less hook) None (plan (f l t)) us p a in
      more_of p.0 p.1 (omega arith) b

  links_end : (n : ℕ) (c : Scope) (l : Tree F C K) (ts : List TokenAndSpan) (r : Tree F C K × List TokenAndSpan)
      → length ts ≤ n → run hook (links false l) c ts ≡ Some r → no_link false r.1 ≡ true
  links_end zero c l ts r h = ends_by c l ts r (λ e vs lt. absurd (omega (arith, lt, h))) (link false c ts) refl
  links_end (suc n) c l ts r h =
      ends_by c l ts r (λ e vs lt. links_end n c e vs r (omega (arith, lt, h))) (link false c ts) refl

  -- ---- `new`, and what it constructs

  with_args : (b : Bool) (s : Span) (l : Tree F C K) (c : Scope) (t : TokenAndSpan) (us : List TokenAndSpan)
      → is_lparen t.token ≡ true → run hook (constructs b s l) c (t ∷ us)
      ≡ and_then (run hook (sym (Args false)) (with_in c) us)
      (λ es vs. run hook (links b (new_e (to s (span_of es)) l (items_of es))) c vs)
  with_args b s l c t us h =
      knot hook (constructs b s l) c (t ∷ us)
      ∙ rw h (then_all (run hook (sym (Args false)) (with_in c) us) _
      (λ es vs. run hook (links b (new_e (to s (span_of es)) l (items_of es))) c vs)
      (λ es vs. last hook None (links b (new_e (to s (span_of es)) l (items_of es))) c vs refl))

  bare : (b : Bool) (s : Span) (l : Tree F C K) (c : Scope) (ts : List TokenAndSpan)
      → at_token is_lparen (first ts) ≡ false
      → run hook (constructs b s l) c ts ≡ Some (bare_new_e (to s (span_of l)) l, ts)
  bare b s l c ts h = knot hook (constructs b s l) c ts ∙ rw h refl

  constructs_split : (s : Span) (l : Tree F C K) (c : Scope) (ts : List TokenAndSpan) → no_link false ts ≡ true
      → (p : Bool) → at_token is_lparen (first ts) ≡ p
      → run hook (constructs true s l) c ts ≡ and_then (run hook (constructs false s l) c ts) (with_calls c)
  constructs_split s l c ts n false h =
      bare true s l c ts h
      ∙ flip (ap (λ o. and_then o (with_calls c)) (bare false s l c ts h)
      ∙ links-end hook true (bare_new_e (to s (span_of l)) l) c ts (no_call_at ts n h))
  constructs_split s l c [] n true h = absurd cc
  constructs_split s l c (t ∷ us) n true h =
      let list = run hook (sym (Args false)) (with_in c) us in
      with_args true s l c t us h
      ∙ then_all list _
      (λ es vs. and_then (run hook (links false (new_e (to s (span_of es)) l (items_of es))) c vs) (with_calls c))
      (λ es vs. links_split (length vs) c _ vs (omega arith))
      ∙ flip (then_then list (λ es vs. run hook (links false (new_e (to s (span_of es)) l (items_of es))) c vs)
      (with_calls c))
      ∙ flip (ap (λ o. and_then o (with_calls c)) (with_args false s l c t us h))

  constructs_end : (s : Span) (l : Tree F C K) (c : Scope) (ts : List TokenAndSpan) (r : Tree F C K × List TokenAndSpan)
      → no_link false ts ≡ true → (p : Bool) → at_token is_lparen (first ts) ≡ p
      → run hook (constructs false s l) c ts ≡ Some r → no_link false r.1 ≡ true
  constructs_end s l c ts r n false h e =
      subst (λ v. no_link false v.1 ≡ true) (inj (bare_new_e (to s (span_of l)) l, ts) r
      (flip (bare false s l c ts h) ∙ e)) n
  constructs_end s l c [] r n true h e = absurd cc
  constructs_end s l c (t ∷ us) r n true h e =
      let (p, a, b) = then-ok (run hook (sym (Args false)) (with_in c) us) _
      (flip (with_args false s l c t us h) ∙ e) in
      links_end (length p.1) c _ p.1 r (omega arith) b

  -- ---- left-hand sides

  on_base : (b : Bool) (c : Scope) (ts : List TokenAndSpan) → begins_new ts ≡ false → run hook (sym (Lhs b)) c ts
      ≡ and_then (run hook (sym (Base b)) c ts) (λ e us. run hook (links b e) (inner c) us)
  on_base b c ts h =
      knot hook (sym (Lhs b)) c ts
      ∙ rw h (then_all (run hook (sym (Base b)) c ts) _ (λ e us. run hook (links b e) (inner c) us)
      (λ e us. last hook (Some 10) (links b e) (inner c) us refl))

  on_new : (b : Bool) (c : Scope) (t : TokenAndSpan) (us : List TokenAndSpan) → begins_new (t ∷ us) ≡ true
      → run hook (sym (Lhs b)) c (t ∷ us)
      ≡ and_then (run hook (sym (Lhs false)) (inner c) us)
      (λ l vs. if not (is_chain l) then run hook (constructs b t.span l) (inner c) vs else None)
  on_new b c t us h =
      knot hook (sym (Lhs b)) c (t ∷ us)
      ∙ rw h (then_all (run hook (sym (Lhs false)) (inner c) us) _
      (λ l vs. if not (is_chain l) then run hook (constructs b t.span l) (inner c) vs else None)
      (λ l vs. ap (λ o. if not (is_chain l) then o else None)
      (last hook None (constructs b t.span l) (inner c) vs refl)))

  lhs_end : (n : ℕ) (c : Scope) (ts : List TokenAndSpan) (r : Tree F C K × List TokenAndSpan) → length ts ≤ n
      → (p : Bool) → begins_new ts ≡ p → run hook (sym (Lhs false)) c ts ≡ Some r → no_link false r.1 ≡ true
  lhs_end n c ts r h false k e =
      let (p, a, b) = then-ok (run hook (sym (Base false)) c ts) _ (flip (on_base false c ts k) ∙ e) in
      links_end (length p.1) (inner c) p.0 p.1 r (omega arith) b
  lhs_end n c [] r h true k e = absurd cc
  lhs_end zero c (t ∷ us) r h true k e = absurd (omega (arith, h))
  lhs_end (suc n) c (t ∷ us) r h true k e =
      let (p, a, b) = then-ok (run hook (sym (Lhs false)) (inner c) us) _ (flip (on_new false c t us k) ∙ e) in
      let (x, d) = only (not (is_chain p.0)) b in
      constructs_end t.span p.0 (inner c) p.1 r (lhs_end n (inner c) us p (omega (arith, h)) (begins_new us) refl a)
      (at_token is_lparen (first p.1)) refl d

  base_by : (c : Scope) (ts : List TokenAndSpan) (d : Bool)
      → exec hook (run hook) (Some 9) (chosen (if d then pick (new-target {c = c} {b = true}) else pick base-primary))
      ts
      ≡ exec hook (run hook) (Some 9) (chosen (if d then pick (new-target {c = c} {b = false}) else pick base-primary))
      ts
  base_by c ts true = refl
  base_by c ts false = refl

  base_picks : (b : Bool) (c : Scope) (ts : List TokenAndSpan) → at_token is_super (first ts) ≡ false
      → at_token is_import (first ts) ≡ false → run hook (sym (Base b)) c ts
      ≡ exec hook (run hook) (Some 9)
      (chosen (if at_token is_new (first ts) then pick (new-target {c = c} {b = b}) else pick base-primary)) ts
  base_picks b c ts h k = knot hook (sym (Base b)) c ts ∙ rw (h, k) refl

  base_same : (c : Scope) (ts : List TokenAndSpan) → at_token is_super (first ts) ≡ false
      → at_token is_import (first ts) ≡ false → run hook (sym (Base true)) c ts ≡ run hook (sym (Base false)) c ts
  base_same c ts h k =
      base_picks true c ts h k ∙ base_by c ts (at_token is_new (first ts)) ∙ flip (base_picks false c ts h k)

  parts_by : (c : Scope) (ts : List TokenAndSpan) → at_token is_super (first ts) ≡ false
      → at_token is_import (first ts) ≡ false → (p : Bool) → begins_new ts ≡ p
      → run hook (sym (Lhs true)) c ts ≡ and_then (run hook (sym (Lhs false)) c ts) (with_calls (inner c))
  parts_by c ts h k false n =
      let base = run hook (sym (Base false)) c ts in
      on_base true c ts n
      ∙ ap (λ o. and_then o (with_calls (inner c))) (base_same c ts h k)
      ∙ then_all base (with_calls (inner c)) (λ e us. and_then (run hook (links false e) (inner c) us)
      (with_calls (inner c)))
      (λ e us. links_split (length us) (inner c) e us (omega arith))
      ∙ flip (then_then base (λ e us. run hook (links false e) (inner c) us) (with_calls (inner c)))
      ∙ flip (ap (λ o. and_then o (with_calls (inner c))) (on_base false c ts n))
  parts_by c [] h k true n = absurd cc
  parts_by c (t ∷ us) h k true n =
      let callee = run hook (sym (Lhs false)) (inner c) us in
      on_new true c t us n
      ∙ then-same callee callee _
      (λ l vs. and_then (if not (is_chain l) then run hook (constructs false t.span l) (inner c) vs else None)
      (with_calls (inner c))) refl
      (λ r e. if_then (not (is_chain r.0)) _ _ (with_calls (inner c))
      (constructs_split t.span r.0 (inner c) r.1 (lhs_end (length us) (inner c) us r (omega arith)
      (begins_new us) refl e)
      (at_token is_lparen (first r.1)) refl))
      ∙ flip (then_then callee
      (λ l vs. if not (is_chain l) then run hook (constructs false t.span l) (inner c) vs else None)
      (with_calls (inner c)))
      ∙ flip (ap (λ o. and_then o (with_calls (inner c))) (on_new false c t us n))

  -- one that holds no calls, and links after it that may be calls
  pub lhs_parts : (c : Scope) (ts : List TokenAndSpan) → at_token is_super (first ts) ≡ false
      → at_token is_import (first ts) ≡ false
      → run hook (sym (Lhs true)) c ts ≡ and_then (run hook (sym (Lhs false)) c ts) (with_calls (inner c))
  lhs_parts c ts h k = parts_by c ts h k (begins_new ts) refl
