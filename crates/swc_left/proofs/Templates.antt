-- The clean parser's steps in templates (13.2.8, 13.3.11), as the code takes them.
use Rattle.std.proofs.Common.{◌≡◌, ◌≢◌, ℕ, Bool, true, false, not, if◌then◌else◌, List, [], ◌∷◌, Option, Some, None, Result, Ok, Err, IsSome, refl, sym, ap, ◌∙◌}
use Rattle.swc_context.specs.{declared.error.Error.Error, declared.error.SyntaxError.SyntaxError, declared.span.Span.Span}
use Rattle.swc_context.specs.declared.error.SyntaxError.TheVariants as kind
use Rattle.swc_input.specs.Plain.{plain, plain_cooked, plain_token}
use Rattle.swc_input.specs.{declared.buffer.Buffer.Buffer, declared.token.Token.Token, declared.token.Token.Token as token, declared.token.TokenAndSpan.TokenAndSpan, Buffer.Bumped, Buffer.current, Kinds.at_token, Laws.held_some, Recording.counted_kind, Source.Model, Source.Laws}
use Rattle.swc_ast.specs.Tree.{Tree, Trees, nil, cons, span_of}
use Rattle.swc_ast.specs.Trees.{to, trees_append, parts_e, put_part, texts_of, exprs_of, tpl_e, tagged_e, is_chain}
use Rattle.swc_ast.specs.{Parts.quasi_tree, declared.expr.TplElement.TplElement}
use Rattle.swc_bodies.specs.Readings.{Hook}
use Rattle.swc_grammar.specs.Rule.{gives, take, check, given, read, ◌>>=◌ as ◌▸◌}
use Rattle.swc_grammar.specs.Parts.{cooked_of, text_by, text_of}
use Rattle.swc_grammar.specs.Symbols.{Expr, Template, Parts, Side}
use Rattle.swc_grammar.specs.Tokens.{with_in, is_backquote, is_dollar_brace, is_rbrace}
use Rattle.swc_grammar.specs.Clean.{Out, and_then, first, sym as at, pick, chosen, plan, exec, run}
use Rattle.swc_grammar.specs.Words.{◌>>=◌, rest, one}
use Rattle.swc_grammar.specs.{Scope.Scope, Grammar.parts-end, Grammar.parts-more}
use Rattle.swc_grammar.proofs.Knot.{knot}
use Rattle.swc_nodes.proofs.Lists.{trees_append-assoc, trees_append-nil}
use Rattle.swc_input.specs.Calls.{Refuses}
use Rattle.swc_steps.specs.Parsing.{seen, seen_of}
use Rattle.swc_steps.specs.{Keys.expected, Lists.eaten, Readers.whole_inside}
use Rattle.swc_left.specs.Templates.{is_template, quasi_with, quasi_by, quasi_of, text_at, tpl_element, parts_before, tagged_node, tpl_end_by, tpl_end, tpl_expr_close, tpl_expr_tail, parts_behind, parts_by, parts_after, template_tail}
use Rattle.swc_steps.proofs.Lists.{calls, binds, bind_same}
use Rattle.swc_steps.proofs.{Keys.then_calls, Keys.then_token, Steps.took_leads, Steps.spent}

-- the error of a bad escape, as it counts, isn't that of a failed parser
pub counted_apart : (k : SyntaxError) → counted_kind k ≢ kind.ParserFailed
counted_apart kind.OutOfMemory = λ h. cc
counted_apart kind.ParserFailed = λ h. cc
counted_apart k = λ h. cc

-- a text that was consumed, and refused then
pub refused_took : {S : Type 0} {model : Model S} {b c : Buffer S} {k : Token} {e : Error} → Laws model
    → IsSome (current b) → Bumped model b k c → e.kind ≢ kind.ParserFailed → Refuses model b e c
refused_took {model = model} {b = b} laws some h apart = record {
  spends = spent (took_leads laws h);
  kind = apart;
  served = λ n. record { before = λ f. (ap (λ z. (model.state z.iter).failed) (sym h.now) ∙ f, held_some b some) };
}

cooked_plain : (is_tagged : Bool) (r : Result (List ℕ) Error)
    → cooked_of is_tagged (plain_cooked r) ≡ cooked_of is_tagged r
cooked_plain is_tagged (Ok v) = refl
cooked_plain true (Err e) = refl
cooked_plain false (Err e) = refl

pub end_splits : (x : Scope) (ts : List TokenAndSpan)
    → tpl_end x ts ≡ (eaten is_backquote x ts >>= (λ q. tpl_end_by q.0 x q.1))
unfolding tpl_end
end_splits x ts = refl

-- ---- texts

quasi_none : (is_tagged is_last : Bool) (t : Token) (s : Span) → is_template t ≡ false
    → quasi_of is_tagged is_last t s ≡ None
quasi_none is_tagged is_last (token.Template raw cooked) s h = absurd cc
quasi_none is_tagged is_last t s h = refl

pub element_not : (is_tagged : Bool) (x : Scope) (ts : List TokenAndSpan) → at_token is_template (first ts) ≡ false
    → tpl_element is_tagged x ts ≡ None
unfolding tpl_element
element_not is_tagged x [] h = refl
element_not is_tagged x (t ∷ ts) h =
    ap (λ o. one o ts) (quasi_none is_tagged (at_token is_backquote (first ts)) t.token t.span h)

-- the token that was consumed
quasi_was : {S : Type 0} {model : Model S} {b c : Buffer S} {k : Token} (is_tagged is_last : Bool) (raw : List ℕ)
    (cooked : Result (List ℕ) Error) (h : Bumped model b k c) → k ≡ token.Template raw cooked
    → quasi_of is_tagged is_last (plain h.was).token (plain h.was).span
    ≡ quasi_by is_last h.was.span raw (cooked_of is_tagged cooked)
quasi_was is_tagged is_last raw cooked h e =
    ap (λ v. quasi_of is_tagged is_last (plain_token v) h.was.span) (sym h.token ∙ e)
    ∙ ap (λ v. quasi_by is_last h.was.span raw v) (cooked_plain is_tagged cooked)

pub element_bad : {S : Type 0} {model : Model S} {b c : Buffer S} {k : Token} (is_tagged : Bool) (raw : List ℕ)
    (cooked : Result (List ℕ) Error) (h : Bumped model b k c) → k ≡ token.Template raw cooked
    → cooked_of is_tagged cooked ≡ None → (x : Scope) (ts : List TokenAndSpan) → first ts ≡ seen b
    → tpl_element is_tagged x ts ≡ None
unfolding tpl_element
element_bad is_tagged raw cooked h e none x ts same =
    let is_last = at_token is_backquote (first (rest ts)) in
    ap (λ o. text_at is_tagged o (rest ts)) (same ∙ ap seen_of h.current)
    ∙ ap (λ o. one o (rest ts))
    (quasi_was is_tagged is_last raw cooked h e ∙ ap (λ v. quasi_by is_last h.was.span raw v) none)

pub element_opens : (is_tagged : Bool) (t : TokenAndSpan) (x : Scope) (ts : List TokenAndSpan)
    → tpl_element is_tagged x (t ∷ ts) ≡ text_at is_tagged (Some t) ts
unfolding tpl_element
element_opens is_tagged t x ts = refl

pub element_takes : {S : Type 0} {model : Model S} {b c : Buffer S} {k : Token} (is_tagged is_last : Bool)
    (raw : List ℕ)
    (cooked : Result (List ℕ) Error) (text : Option (List ℕ)) (h : Bumped model b k c) → k ≡ token.Template raw cooked
    → cooked_of is_tagged cooked ≡ Some text → (ts : List TokenAndSpan) → at_token is_backquote (first ts) ≡ is_last
    → text_at is_tagged (Some (plain h.was)) ts ≡ Some (quasi_with h.was.span is_last text raw, ts)
element_takes is_tagged is_last raw cooked text h e good ts last =
    ap (λ v. one (quasi_of is_tagged v (plain h.was).token (plain h.was).span) ts) last
    ∙ ap (λ o. one o ts)
    (quasi_was is_tagged is_last raw cooked h e ∙ ap (λ v. quasi_by is_last h.was.span raw v) good)

module _ {F C K : Type 0} where
  -- the trees of texts, as the grammar has them
  abbrev text_tree : Option TplElement → Option (Tree F C K)
  text_tree None = None
  text_tree (Some q) = Some (quasi_tree q)

  text_is : (is_tagged is_last : Bool) (t : Token) (s : Span)
      → text_of is_tagged is_last t s ≡ text_tree (quasi_of is_tagged is_last t s)
  text_is is_tagged is_last (token.Template raw cooked) s = by_meaning (cooked_of is_tagged cooked)
    where
      by_meaning : (o : Option (Option (List ℕ))) → text_by is_last s raw o ≡ text_tree (quasi_by is_last s raw o)
      by_meaning None = refl
      by_meaning (Some text) = refl
  text_is is_tagged is_last t s = refl

  -- ---- texts and expressions put before those of a template

  -- one more text, and one more expression
  parts_twice : (texts exprs : Trees F C K) (t e ps : Tree F C K) → parts_before texts exprs (put_part t e ps)
      ≡ parts_before (trees_append texts (cons t nil)) (trees_append exprs (cons e nil)) ps
  parts_twice texts exprs t e ps =
      ap (λ v. parts_e (span_of ps) v (trees_append exprs (cons e (exprs_of ps))))
      (sym (trees_append-assoc texts (cons t nil) (texts_of ps)))
      ∙ ap (λ v. parts_e (span_of ps) (trees_append (trees_append texts (cons t nil)) (texts_of ps)) v)
      (sym (trees_append-assoc exprs (cons e nil) (exprs_of ps)))

module _ {F C K : Type 0} (hook : Hook F C K) where
  -- after a text and what is after that
  abbrev parts_left : Bool → Tree F C K → Option Span → Scope → List TokenAndSpan → Out (Tree F C K)
  parts_left is_tagged t (Some s) x us = Some (parts_e s (cons t nil) nil, us)
  parts_left is_tagged t None x us =
      tpl_expr_tail hook x us
      >>= (λ r. run hook (at (Parts is_tagged)) x r.1 >>= (λ w. Some (put_part t r.0 w.0, w.1)))

  abbrev parts_from : Bool → Scope → TplElement × List TokenAndSpan → Out (Tree F C K)
  parts_from is_tagged x p = tpl_end x p.1 >>= (λ q. parts_left is_tagged (quasi_tree p.0) q.0 x q.1)

  -- the sides after a text: the backquote that closes the template, or an expression and what follows it
  abbrev end_side : (is_tagged : Bool) → Tree F C K → Side F C K (Parts is_tagged)
  end_side is_tagged t = take (λ v. check (is_backquote v.token) (gives (parts_e v.span (cons t nil) nil)))

  abbrev parts_side : (is_tagged : Bool) → Tree F C K → Tree F C K → Scope → Side F C K (Parts is_tagged)
  parts_side is_tagged t e x =
      take (λ v. check (is_rbrace v.token) (read (Parts is_tagged) x (λ ps. gives (put_part t e ps))))

  abbrev more_side : (is_tagged : Bool) → Tree F C K → Scope → Side F C K (Parts is_tagged)
  more_side is_tagged t x =
      take (λ v. check (is_dollar_brace v.token) (read Expr (with_in x) (λ e. parts_side is_tagged t e x)))

  end_first : (is_tagged : Bool) (o : Option TplElement) (x : Scope) (u : TokenAndSpan) (us : List TokenAndSpan)
      → is_backquote u.token ≡ true
      → exec hook (run hook) None (plan (given (text_tree o) ▸ end_side is_tagged)) (u ∷ us)
      ≡ (one o (u ∷ us) >>= parts_from is_tagged x)
  unfolding eaten tpl_end
  end_first is_tagged None x u us h = refl
  end_first is_tagged (Some q) x u us h = rw h refl

  -- after the expression
  parts_rest : (is_tagged : Bool) (t e : Tree F C K) (x : Scope) (us : List TokenAndSpan)
      → exec hook (run hook) None (plan (parts_side is_tagged t e x)) us
      ≡ (tpl_expr_close hook e x us
      >>= (λ r. run hook (at (Parts is_tagged)) x r.1 >>= (λ w. Some (put_part t r.0 w.0, w.1))))
  parts_rest is_tagged t e x us =
      closes us
      ∙ bind_same (expected is_rbrace x us) _ _ (λ q. calls (run hook (at (Parts is_tagged)) x q.1) _)
      ∙ binds (expected is_rbrace x us) (λ q. Some (e, q.1)) _
    where
      closes : (us : List TokenAndSpan) → exec hook (run hook) None (plan (parts_side is_tagged t e x)) us
          ≡ (expected is_rbrace x us >>= (λ q. and_then (run hook (at (Parts is_tagged)) x q.1)
          (λ ps ws. Some (put_part t e ps, ws))))
      closes [] = then_token is_rbrace x [] (λ q vs. and_then (run hook (at (Parts is_tagged)) x vs)
          (λ ps ws. Some (put_part t e ps, ws)))
      closes (u ∷ us) = then_token is_rbrace x (u ∷ us) (λ q vs. and_then (run hook (at (Parts is_tagged)) x vs)
          (λ ps ws. Some (put_part t e ps, ws)))

  -- after the `${`, and from it on
  expr_rest : (is_tagged : Bool) (t : Tree F C K) (x : Scope) (us : List TokenAndSpan)
      → and_then (run hook (at Expr) (with_in x) us)
      (λ e vs. exec hook (run hook) None (plan (parts_side is_tagged t e x)) vs)
      ≡ (tpl_expr_tail hook x us
      >>= (λ r. run hook (at (Parts is_tagged)) x r.1 >>= (λ w. Some (put_part t r.0 w.0, w.1))))
  unfolding whole_inside
  expr_rest is_tagged t x us =
      then_calls (run hook (at Expr) (with_in x) us) _ _ (λ e vs. parts_rest is_tagged t e x vs)
      ∙ binds (run hook (at Expr) (with_in x) us) (λ p. tpl_expr_close hook p.0 x p.1) _

  more_rest : (is_tagged : Bool) (t : Tree F C K) (x : Scope) (us : List TokenAndSpan)
      → exec hook (run hook) None (plan (more_side is_tagged t x)) us
      ≡ (tpl_end_by None x us >>= (λ q. parts_left is_tagged t q.0 x q.1))
  more_rest is_tagged t x us =
      opens us
      ∙ bind_same (expected is_dollar_brace x us) _ _ (λ q. expr_rest is_tagged t x q.1)
      ∙ binds (expected is_dollar_brace x us) (λ p. Some (None, p.1)) _
    where
      opens : (us : List TokenAndSpan) → exec hook (run hook) None (plan (more_side is_tagged t x)) us
          ≡ (expected is_dollar_brace x us >>= (λ q. and_then (run hook (at Expr) (with_in x) q.1)
          (λ e vs. exec hook (run hook) None (plan (parts_side is_tagged t e x)) vs)))
      opens [] = then_token is_dollar_brace x [] (λ q vs. and_then (run hook (at Expr) (with_in x) vs)
          (λ e ws. exec hook (run hook) None (plan (parts_side is_tagged t e x)) ws))
      opens (u ∷ us) = then_token is_dollar_brace x (u ∷ us) (λ q vs. and_then (run hook (at Expr) (with_in x) vs)
          (λ e ws. exec hook (run hook) None (plan (parts_side is_tagged t e x)) ws))

  more_first : (is_tagged : Bool) (o : Option TplElement) (x : Scope) (us : List TokenAndSpan)
      → at_token is_backquote (first us) ≡ false
      → exec hook (run hook) None (plan (given (text_tree o) ▸ (λ t. more_side is_tagged t x))) us
      ≡ (one o us >>= parts_from is_tagged x)
  unfolding eaten tpl_end
  more_first is_tagged None x us h = refl
  more_first is_tagged (Some q) x us h = rw h (more_rest is_tagged (quasi_tree q) x us)

  -- the same from the token on
  end_text : (is_tagged is_last : Bool) (t : TokenAndSpan) (x : Scope) (u : TokenAndSpan) (us : List TokenAndSpan)
      → is_backquote u.token ≡ true
      → exec hook (run hook) None (plan (given (text_of is_tagged is_last t.token t.span) ▸ end_side is_tagged))
      (u ∷ us)
      ≡ (one (quasi_of is_tagged is_last t.token t.span) (u ∷ us) >>= parts_from is_tagged x)
  end_text is_tagged is_last t x u us h =
      ap (λ o. exec hook (run hook) None (plan (given o ▸ end_side is_tagged)) (u ∷ us))
      (text_is is_tagged is_last t.token t.span)
      ∙ end_first is_tagged (quasi_of is_tagged is_last t.token t.span) x u us h

  more_text : (is_tagged is_last : Bool) (t : TokenAndSpan) (x : Scope) (us : List TokenAndSpan)
      → at_token is_backquote (first us) ≡ false → exec hook (run hook) None
      (plan (given (text_of is_tagged is_last t.token t.span) ▸ (λ e. more_side is_tagged e x))) us
      ≡ (one (quasi_of is_tagged is_last t.token t.span) us >>= parts_from is_tagged x)
  more_text is_tagged is_last t x us h =
      ap (λ o. exec hook (run hook) None (plan (given o ▸ (λ e. more_side is_tagged e x))) us)
      (text_is is_tagged is_last t.token t.span)
      ∙ more_first is_tagged (quasi_of is_tagged is_last t.token t.span) x us h

  -- one text, and what is after it
  parts_step : (is_tagged : Bool) (x : Scope) (ts : List TokenAndSpan)
      → run hook (at (Parts is_tagged)) x ts ≡ (tpl_element is_tagged x ts >>= parts_from is_tagged x)
  unfolding tpl_element
  parts_step is_tagged x [] = knot hook (at (Parts is_tagged)) x []
  parts_step is_tagged x (t ∷ []) =
      knot hook (at (Parts is_tagged)) x (t ∷ [])
      ∙ more_text is_tagged false t x [] refl
  parts_step is_tagged x (t ∷ (u ∷ us)) =
      knot hook (at (Parts is_tagged)) x (t ∷ (u ∷ us)) ∙ by_test (is_backquote u.token) refl
    where
      by_test : (b : Bool) → is_backquote u.token ≡ b → exec hook (run hook) (Some 6)
          (chosen (if is_backquote u.token then pick (parts-end {c = x} {is_tagged = is_tagged}) else pick parts-more))
          (t ∷ (u ∷ us))
          ≡ (one (quasi_of is_tagged (is_backquote u.token) t.token t.span) (u ∷ us) >>= parts_from is_tagged x)
      by_test true e =
          ap (λ b. exec hook (run hook) (Some 6)
          (chosen (if b then pick (parts-end {c = x} {is_tagged = is_tagged}) else pick parts-more)) (t ∷ (u ∷ us))) e
          ∙ end_text is_tagged true t x u us e
          ∙ ap (λ b. one (quasi_of is_tagged b t.token t.span) (u ∷ us) >>= parts_from is_tagged x) (sym e)
      by_test false e =
          ap (λ b. exec hook (run hook) (Some 6)
          (chosen (if b then pick (parts-end {c = x} {is_tagged = is_tagged}) else pick parts-more)) (t ∷ (u ∷ us))) e
          ∙ more_text is_tagged false t x (u ∷ us) e
          ∙ ap (λ b. one (quasi_of is_tagged b t.token t.span) (u ∷ us) >>= parts_from is_tagged x) (sym e)

  left_behind : (is_tagged : Bool) (texts exprs : Trees F C K) (t : Tree F C K) (o : Option Span) (x : Scope)
      (us : List TokenAndSpan) → (parts_left is_tagged t o x us >>= (λ p. Some (parts_before texts exprs p.0, p.1)))
      ≡ parts_by hook is_tagged (trees_append texts (cons t nil)) exprs o x us
  unfolding parts_behind
  left_behind is_tagged texts exprs t (Some s) x us =
      ap (λ v. Some (parts_e s (trees_append texts (cons t nil)) v, us)) (trees_append-nil exprs)
  left_behind is_tagged texts exprs t None x us =
      sym (binds (tpl_expr_tail hook x us) _ _)
      ∙ bind_same (tpl_expr_tail hook x us) _ _ (λ r.
      sym (binds (run hook (at (Parts is_tagged)) x r.1) _ _)
      ∙ bind_same (run hook (at (Parts is_tagged)) x r.1) _ _ (λ w.
      ap (λ v. Some (v, w.1)) (parts_twice texts exprs t r.0 w.0)))

  -- a text after those that are before, and what is after it
  pub behind_splits : (is_tagged : Bool) (texts exprs : Trees F C K) (x : Scope) (ts : List TokenAndSpan)
      → parts_behind hook is_tagged texts exprs x ts
      ≡ (tpl_element is_tagged x ts
      >>= (λ p. parts_after hook is_tagged (trees_append texts (cons (quasi_tree p.0) nil)) exprs x p.1))
  unfolding parts_behind
  behind_splits is_tagged texts exprs x ts =
      ap (λ o. o >>= (λ p. Some (parts_before texts exprs p.0, p.1))) (parts_step is_tagged x ts)
      ∙ sym (binds (tpl_element is_tagged x ts) _ _)
      ∙ bind_same (tpl_element is_tagged x ts) _ _ (λ p.
      sym (binds (tpl_end x p.1) _ _)
      ∙ bind_same (tpl_end x p.1) _ _ (λ q. left_behind is_tagged texts exprs (quasi_tree p.0) q.0 x q.1))

  left_first : (is_tagged : Bool) (t : Tree F C K) (o : Option Span) (x : Scope) (us : List TokenAndSpan)
      → parts_left is_tagged t o x us
      ≡ (parts_left is_tagged t o x us >>= (λ p. Some (parts_before nil nil p.0, p.1)))
  left_first is_tagged t (Some s) x us = refl
  left_first is_tagged t None x us =
      bind_same (tpl_expr_tail hook x us) _ _ (λ r. binds (run hook (at (Parts is_tagged)) x r.1) _ _)
      ∙ binds (tpl_expr_tail hook x us) _ _

  -- before the first text
  pub parts_first : (is_tagged : Bool) (x : Scope) (ts : List TokenAndSpan)
      → run hook (at (Parts is_tagged)) x ts ≡ parts_behind hook is_tagged nil nil x ts
  unfolding parts_behind
  parts_first is_tagged x ts =
      parts_step is_tagged x ts
      ∙ bind_same (tpl_element is_tagged x ts) _ _ (λ p.
      bind_same (tpl_end x p.1) _ _ (λ q. left_first is_tagged (quasi_tree p.0) q.0 x q.1)
      ∙ binds (tpl_end x p.1) _ _)
      ∙ binds (tpl_element is_tagged x ts) _ _
      ∙ ap (λ o. o >>= (λ p. Some (parts_before nil nil p.0, p.1))) (sym (parts_step is_tagged x ts))

  pub behind_same : (is_tagged : Bool) {texts others exprs more : Trees F C K} → texts ≡ others → exprs ≡ more
      → (x : Scope) (ts : List TokenAndSpan)
      → parts_behind hook is_tagged texts exprs x ts ≡ parts_behind hook is_tagged others more x ts
  behind_same is_tagged {others = others} {exprs = exprs} h k x ts =
      ap (λ v. parts_behind hook is_tagged v exprs x ts) h
      ∙ ap (λ v. parts_behind hook is_tagged others v x ts) k

  -- ---- templates

  opens : (is_tagged : Bool) (x : Scope) (ts : List TokenAndSpan) → run hook (at (Template is_tagged)) x ts
      ≡ (expected is_backquote x ts >>= (λ p. and_then (run hook (at (Parts is_tagged)) x p.1)
      (λ ps us. Some (tpl_e (to p.0 (span_of ps)) ps, us))))
  opens is_tagged x [] =
      knot hook (at (Template is_tagged)) x []
      ∙ then_token is_backquote x [] (λ s us. and_then (run hook (at (Parts is_tagged)) x us)
      (λ ps vs. Some (tpl_e (to s (span_of ps)) ps, vs)))
  opens is_tagged x (t ∷ ts) =
      knot hook (at (Template is_tagged)) x (t ∷ ts)
      ∙ then_token is_backquote x (t ∷ ts) (λ s us. and_then (run hook (at (Parts is_tagged)) x us)
      (λ ps vs. Some (tpl_e (to s (span_of ps)) ps, vs)))

  pub template_splits : (is_tagged : Bool) (x : Scope) (ts : List TokenAndSpan)
      → run hook (at (Template is_tagged)) x ts
      ≡ (expected is_backquote x ts >>= (λ p. template_tail hook is_tagged p.0 x p.1))
  template_splits is_tagged x ts =
      opens is_tagged x ts
      ∙ bind_same (expected is_backquote x ts) _ _ (λ p. calls (run hook (at (Parts is_tagged)) x p.1) _)

-- a tag that is no optional chain, and one that is
module _ {F C K : Type 0} where
  pub tagged_well : (s : Span) (l ps : Tree F C K) (x : Scope) (ts : List TokenAndSpan) → not (is_chain l) ≡ true
      → tagged_node s l ps x ts ≡ Some (tagged_e (to (span_of l) (span_of ps)) l (tpl_e (to s (span_of ps)) ps), ts)
  tagged_well s l ps x ts h = rw h refl

  pub tagged_ill : (s : Span) (l ps : Tree F C K) (x : Scope) (ts : List TokenAndSpan) → not (is_chain l) ≡ false
      → tagged_node s l ps x ts ≡ None
  tagged_ill s l ps x ts h = rw h refl
