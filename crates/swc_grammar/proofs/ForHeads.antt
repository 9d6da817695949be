-- Heads of `for`: what the clean parser reads is what the definition derives, and it derives one head from a list.
use Rattle.std.specs.Prelude.{◌≡◌, Bool, true, false, if◌then◌else◌, List, [], ◌∷◌, ◌++◌, Option, Some, None}
use Rattle.std.proofs.Common.{refl, sym as sym_path, subst}
use Rattle.std.proofs.lemmas.List.{append_assoc}
use Rattle.swc_context.specs.{declared.span.Span.Span, declared.word.Keyword.Keyword as keyword, declared.word.Word.Word as word}
use Rattle.swc_input.specs.{declared.token.Token.Token, declared.token.TokenAndSpan.TokenAndSpan}
use Rattle.swc_input.specs.declared.token.Token.TheVariants as token
use Rattle.swc_ast.specs.Tree.{Tree, Trees, nil, cons}
use Rattle.swc_ast.specs.Trees.{items_of, trees_append, seq_of, is_valid, is_grouped}
use Rattle.swc_bodies.specs.Readings.{Hook, LawfulHook}
use Rattle.swc_grammar.specs.Symbols.{Expr, Exprs, Assign}
use Rattle.swc_grammar.specs.Grammar.{exprs-one, exprs-more, seq-expr}
use Rattle.swc_grammar.specs.Reads.{Reads, by, gave, took, held, part}
use Rattle.swc_grammar.specs.Cover.{Role, target, as_pat, is_assign}
use Rattle.swc_grammar.specs.Clean.{sym, run, Stop}
use Rattle.swc_grammar.specs.ForHead.{ForHead, for_target, for_expr, in_for, is_each, ReadsHead, target-head, expr-head, is_head_stop, HeadStops, head-end, head-stop, head_tree, next}
use Rattle.swc_grammar.specs.ForHeadClean.{written, for_tail, for_head}
use Rattle.swc_grammar.specs.{Scope.Scope, Rule.sees}
use Rattle.swc_grammar.proofs.{Answers.then-ok, Answers.unless, Complete.complete, Cut.cut-tail, Cut.consumed, Good.good, Kept.Fine, Kept.kept, One.one-answer, Sound.sound}

-- Two expressions or more, with commas between them, are no target.
abbrev some : {F C K : Type 0} → Trees F C K → Bool
some nil = false
some (cons t ts) = true

module _ {F C K : Type 0} where
  more-some : (ts us : Trees F C K) → some ts ≡ true → some (trees_append ts us) ≡ true
  more-some nil us h = absurd cc
  more-some (cons t ts) us h = refl

  no-target : (m : Role) (ts : Trees F C K) (e p : Tree F C K) → some ts ≡ true
      → as_pat m (seq_of (trees_append ts (cons e nil))) ≡ Some p → ⊥
  no-target m nil e p s h = absurd cc
  no-target m (cons t nil) e p s h = absurd cc
  no-target m (cons t (cons u us)) e p s h = absurd cc

module _ {F C K : Type 0} {hook : Hook F C K} where
  exprs-some : {c : Scope} {xs ys : List TokenAndSpan} {t : Tree F C K} → Reads hook Exprs c xs ys t
      → some (items_of t) ≡ true
  exprs-some (by exprs-one (part d gave)) = refl
  exprs-some (by exprs-more (part {e = es} ds (took (held q (part {e = e} d gave))))) =
      more-some (items_of es) (cons e nil) (exprs-some ds)

  one-target : {c : Scope} {xs ys : List TokenAndSpan} {e p : Tree F C K} (m : Role) → Reads hook Expr c xs ys e
      → as_pat m e ≡ Some p → Reads hook Assign c xs ys e
  one-target m (by seq-expr (part (by exprs-one (part d gave)) gave)) h = d
  one-target {p = p} m
      (by seq-expr (part (by exprs-more (part {e = es} ds (took (held q (part {e = e} d gave))))) gave)) h =
      absurd (no-target m (items_of es) e p (exprs-some ds) h)

  pub as-expr : {c : Scope} {xs ys : List TokenAndSpan} {e : Tree F C K} → Reads hook Assign c xs ys e
      → Reads hook Expr c xs ys e
  as-expr d = by seq-expr (part (by exprs-one (part d gave)) gave)

-- of what the clean parser reads
module _ {F C K : Type 0} {fun_at : F → Span} {class_at : C → Span} {block_at : K → Span} (hook : Hook F C K)
    (laws : LawfulHook fun_at class_at block_at hook) where
  tail-sound : (is_await : Bool) (c : Scope) (ts us : List TokenAndSpan) (e : Tree F C K)
      (r : ForHead F C K × List TokenAndSpan) → Reads hook Expr (in_for is_await c) ts us e
      → for_tail c.context.strict e us ≡ Some r → ReadsHead hook is_await c ts r.1 r.0
  tail-sound is_await c ts us e r d h = by-word (sees is_each us) refl h
    where
      by-target : (o : Option (Tree F C K)) → as_pat (target c.context.strict) e ≡ o → is_assign e ≡ false
          → sees is_each us ≡ true → written o us ≡ Some r → ReadsHead hook is_await c ts r.1 r.0
      by-target None k a n h = absurd cc
      by-target (Some p) k a n h =
          let same : (for_target p, us) ≡ r = cc in
          subst (λ v. ReadsHead hook is_await c ts v.1 v.0) same
          (target-head (one-target (target c.context.strict) d k) a k n)

      by-word : (b : Bool) → sees is_each us ≡ b
          → (if b then (if is_assign e then None else written (as_pat (target c.context.strict) e) us)
          else Some (for_expr e, us)) ≡ Some r → ReadsHead hook is_await c ts r.1 r.0
      by-word true n h =
          let (a, k) = unless (is_assign e) h in by-target (as_pat (target c.context.strict) e) refl a n k
      by-word false n h =
          let same : (for_expr e, us) ≡ r = cc in
          subst (λ v. ReadsHead hook is_await c ts v.1 v.0) same (expr-head d n)

  pub head-sound : (is_await : Bool) (c : Scope) (ts : List TokenAndSpan) (r : ForHead F C K × List TokenAndSpan)
      → for_head hook is_await c ts ≡ Some r → ReadsHead hook is_await c ts r.1 r.0
  head-sound is_await c ts r h =
      let (q, a, b) = then-ok (run hook (sym Expr) (in_for is_await c) ts) (λ e us. for_tail c.context.strict e us) h in
      tail-sound is_await c ts q.1 q.0 r (sound hook laws Expr (in_for is_await c) ts q a) b

-- of what the definition derives
module _ {F C K : Type 0} (hook : Hook F C K) where
  pub head-complete : {is_await : Bool} {c : Scope} {xs ys : List TokenAndSpan} {h : ForHead F C K}
      → ReadsHead hook is_await c xs ys h → Stop Expr (in_for is_await c) ys
      → for_head hook is_await c xs ≡ Some (h, ys)
  head-complete (target-head d a k n) stop = rw (complete hook (as-expr d) stop) (rw (n, a, k) refl)
  head-complete (expr-head d n) stop = rw (complete hook d stop) (rw n refl)

  -- before its hard stops an expression stops
  pub head-stops : {ys : List TokenAndSpan} (is_await : Bool) (c : Scope) → HeadStops ys
      → Stop Expr (in_for is_await c) ys
  head-stops is_await c head-end = (refl, λ op h. absurd cc)
  head-stops is_await c (head-stop {t = t} {ts = ts} h) = by-token t.token t.had_line_break t.span h
    where
      by-token : (u : Token) (b : Bool) (s : Span)
          → is_head_stop (record { token = u; had_line_break = b; span = s }) ≡ true
          → Stop Expr (in_for is_await c) (record { token = u; had_line_break = b; span = s } ∷ ts)
      by-token token.Semi b s h = (refl, λ op k. absurd cc)
      by-token token.RParen b s h = (refl, λ op k. absurd cc)
      by-token (token.Word (word.Keyword keyword.In)) b s h = (refl, λ op k. absurd cc)
      by-token (token.Word (word.Ident w)) b s h = (refl, λ op k. absurd cc)
      by-token u b s h = absurd cc

  pub head-front : {is_await : Bool} {c : Scope} {xs ys : List TokenAndSpan} {h : ForHead F C K}
      → ReadsHead hook is_await c xs ys h → HeadStops ys → for_head hook is_await c xs ≡ Some (h, ys)
  head-front {is_await = is_await} {c = c} d stop = head-complete d (head-stops is_await c stop)

  -- one head, and one place where it ends
  pub one-head : {is_await : Bool} {c : Scope} {xs ys ys' : List TokenAndSpan} {h h' : ForHead F C K}
      → ReadsHead hook is_await c xs ys h → HeadStops ys → ReadsHead hook is_await c xs ys' h' → HeadStops ys'
      → (h ≡ h') × (ys ≡ ys')
  one-head d s e s' = one-answer _ (head-front d s) (head-front e s')

  -- what isn't read before a hard stop isn't derived either
  pub head-refused : {is_await : Bool} {c : Scope} {xs ys : List TokenAndSpan} {h : ForHead F C K}
      → for_head hook is_await c xs ≡ None → HeadStops ys → ReadsHead hook is_await c xs ys h → ⊥
  head-refused n s d = let k = head-front d s in absurd cc

-- Of what follows a head its first token decides, and nothing after that: the rest may be taken away. That token may
-- not, as before the end each head is an expression.
module _ {F C K : Type 0} {hook : Hook F C K} {is_await : Bool} {c : Scope} where
  pub head-cut : {h : ForHead F C K} (xs : List TokenAndSpan) (y : TokenAndSpan) (ys zs : List TokenAndSpan)
      → ReadsHead hook is_await c (xs ++ zs) (y ∷ (ys ++ zs)) h → ReadsHead hook is_await c xs (y ∷ ys) h
  head-cut xs y ys zs (target-head d a k n) = target-head (cut-tail xs (y ∷ ys) zs d) a k n
  head-cut xs y ys zs (expr-head d n) = expr-head (cut-tail xs (y ∷ ys) zs d) n

  head-consumed : {h : ForHead F C K} {xs ys : List TokenAndSpan} → ReadsHead hook is_await c xs ys h
      → (own : List TokenAndSpan) × (xs ≡ own ++ ys)
  head-consumed (target-head d a k n) = consumed d
  head-consumed (expr-head d n) = consumed d

  -- so a head is one of its own tokens and the one after them
  pub head-next : {h : ForHead F C K} (own ys : List TokenAndSpan) → ReadsHead hook is_await c (own ++ ys) ys h
      → ReadsHead hook is_await c (own ++ next ys) (next ys) h
  head-next own [] d = d
  head-next {h = h} own (y ∷ us) d =
      head-cut (own ++ (y ∷ [])) y [] us
      (subst (λ v. ReadsHead hook is_await c v (y ∷ us) h) (sym_path (append_assoc own (y ∷ []) us)) d)

  pub head-alone : {h : ForHead F C K} {xs ys : List TokenAndSpan} → ReadsHead hook is_await c xs ys h
      → (own : List TokenAndSpan) × (xs ≡ own ++ ys) × ReadsHead hook is_await c (own ++ next ys) (next ys) h
  head-alone {h = h} {ys = ys} d =
      let (own, e) = head-consumed d in
      (own, e, head-next own ys (subst (λ v. ReadsHead hook is_await c v ys h) e d))

-- A head is valid, and its operators group, as in any other tree.
module _ {F C K : Type 0} {hook : Hook F C K} {is_await : Bool} {c : Scope} {xs ys : List TokenAndSpan} where
  head-fine : {h : ForHead F C K} → ReadsHead hook is_await c xs ys h → Fine (head_tree h)
  head-fine (target-head {e = e} {p = p} d a k n) =
      let g = good d in kept (target c.context.strict) e p k (g.valid, g.grouped)
  head-fine (expr-head d n) = let g = good d in (g.valid, g.grouped)

  pub head-valid : {h : ForHead F C K} → ReadsHead hook is_await c xs ys h → is_valid (head_tree h) ≡ true
  head-valid d = (head-fine d).0

  pub head-grouped : {h : ForHead F C K} → ReadsHead hook is_await c xs ys h → is_grouped (head_tree h) ≡ true
  head-grouped d = (head-fine d).1
