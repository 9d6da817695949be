-- What the clean parser reads after a list in parentheses, as the code does it (13.2.9, 15.3, 15.9).
use Rattle.std.proofs.Common.{◌≡◌, Bool, true, false, not, ◌&&◌, if◌then◌else◌, List, [], ◌∷◌, Option, Some, None, ℕ, map, refl, sym, ap, subst, ◌∙◌}
use Rattle.std.specs.Prelude.{is_some}
use Rattle.swc_context.specs.{declared.span.BytePos.BytePos, declared.span.Span.Span}
use Rattle.swc_input.specs.{declared.token.TokenAndSpan.TokenAndSpan, Kinds.at_token}
use Rattle.swc_ast.specs.Tree.{Tree, Trees, span_of, array}
use Rattle.swc_ast.specs.Trees.{to, arrow_e, ident_e, call_e, paren_e, listed, items_of, comma_of, covers_ok, paren_ok, seq_of, held_exprs, are_valid}
use Rattle.swc_ast.specs.{declared.expr.ExprOrSpread.ExprOrSpread, declared.spanned.Spanned.Ghosts}
use Rattle.swc_bodies.specs.Readings.{Hook, LawfulHook}
use Rattle.swc_grammar.specs.Arrows.{is_arrow, is_block, is_sign}
use Rattle.swc_grammar.specs.Clean.{Out, first, sym as at, run, exec, plan, parens, asyncs, links, updates, climb, assigns, behind_base, arrow_tail, async_arrow_tail}
use Rattle.swc_grammar.specs.Cover.{binding, as_elements, as_params, arrow_params_ok}
use Rattle.swc_grammar.specs.Rule.{gives, take, check, peek, read, given, sees, ◌>>=◌ as ◌▸◌}
use Rattle.swc_grammar.specs.Symbols.{Args, ArrowBody, Assign, Side}
use Rattle.swc_grammar.specs.{Names.Spelling, Names.spelling, Scope.Scope, Scope.inner, Tokens.with_in, Words.◌>>=◌}
use Rattle.swc_grammar.proofs.{Complete.last, Knot.knot}
use Rattle.swc_cover.specs.{Fits.Binding, Fits.elems_fit, ReservedNames.names_ok, Items.want_items, Refining.items_at, Refining.takes_arrow_params as takes}
use Rattle.swc_cover.proofs.{Refines.items-all, Ties.as-elems-is, Bound.params-are, Clear.clear-items}
use Rattle.swc_nodes.specs.GrowingNodes.{first_start, last_end, Apart}
use Rattle.swc_nodes.specs.{NodeParts.args_parts, declared.node.ExprId.ExprId, declared.nodes.Nodes.Nodes}
use Rattle.swc_steps.proofs.{Args.inside_args, Building.apart-down, Endings.read-valid, Keys.then_calls, Steps.Inner.inner_is}
use Rattle.swc_steps.specs.Args.{args_inside, paren_closed, paren_of, paren_from}
use Rattle.swc_steps.specs.{Parsing.args_at, declared.tokens.Listed.Listed, Keys.expected}
use Rattle.swc_arrows.specs.Readers.{arrow_behind, arrow_end, params_closed, params_refined, takes_params, async_call, base_behind, is_callee, list_behind, list_closed, spelling_of}
use Rattle.swc_arrows.proofs.Closes.{closed_clean}
use Rattle.swc_arrows.proofs.ListReads.{closed_arrow, closed_base, params_splits, line_here, line_breaks, arrow_takes}

-- what items in parentheses are, where none of them was refused
pub record Refines {F C K : Type 0} (es : Tree F C K) : Type 0 where
  pub valid : are_valid (items_of es) ≡ true
  pub params : as_elements binding (comma_of es) (items_of es)
      ≡ (if elems_fit Binding (comma_of es) (items_of es) then Some (want_items (items_of es)) else None)

sees_sign : (b : Bool) (ts : List TokenAndSpan) → sees (λ t. b && is_sign t.token) ts
    ≡ (b && at_token is_sign (first ts))
sees_sign true [] = refl
sees_sign false [] = refl
sees_sign b (t ∷ ts) = refl

module _ {F C K : Type 0} (hook : Hook F C K) (x : Scope) where
  -- ---- `=>` after it

  abbrev ends : Span → Bool → Trees F C K → Side F C K Assign
  ends s a ps = take (λ t. check (not t.had_line_break) (check (is_arrow t.token) (read (ArrowBody a) x (λ b.
      peek (λ t. is_block b && is_sign t.token) (gives (arrow_e (to s (span_of b)) a b ps))))))

  abbrev arrow_side : Span → Bool → Option (Trees F C K) → Side F C K Assign
  arrow_side s a o = given o ▸ (λ ps. check (arrow_params_ok x.context ps) (ends s a ps))

  -- the body, and what is after it
  body_ends : (s : Span) (a : Bool) (ps : Trees F C K) (us : List TokenAndSpan)
      → exec hook (run hook) None (plan (read (ArrowBody a) x (λ b.
      peek (λ t. is_block b && is_sign t.token) (gives (arrow_e (to s (span_of b)) a b ps))))) us
      ≡ arrow_behind hook s.lo a true ps x us
  unfolding arrow_behind
  body_ends s a ps us =
      then_calls (run hook (at (ArrowBody a)) x us) _
      (λ b vs. arrow_end s.lo (span_of b).hi a true ps b vs)
      (λ b vs. ap (λ v. if v then None else Some (arrow_e (to s (span_of b)) a b ps, vs)) (sees_sign (is_block b) vs))

  abbrev told : Bool → Bool → Bool → Out (Tree F C K) → Out (Tree F C K)
  told m b a o = if m then (if not b then (if a then o else None) else None) else None

  abbrev turned : Bool → Bool → Out (Tree F C K) → Out (Tree F C K)
  turned m b o = if b then None else (if m then o else None)

  told_turned : (m b : Bool) (o : Out (Tree F C K)) → told m b true o ≡ turned m b o
  told_turned true true o = refl
  told_turned true false o = refl
  told_turned false true o = refl
  told_turned false false o = refl

  none_turned : (b : Bool) (o : Out (Tree F C K)) → None ≡ turned false b o
  none_turned true o = refl
  none_turned false o = refl

  params_told : (s : Span) (a : Bool) (ps : Trees F C K) (t : TokenAndSpan) (us : List TokenAndSpan)
      → exec hook (run hook) None (plan (arrow_side s a (Some ps))) (t ∷ us)
      ≡ told (arrow_params_ok x.context ps) t.had_line_break (is_arrow t.token) (arrow_behind hook s.lo a true ps x us)
  params_told s a ps t us = ap (told (arrow_params_ok x.context ps) t.had_line_break (is_arrow t.token))
      (body_ends s a ps us)

  closed_turned : (o : Option (Tree F C K)) (s : Span) (es : Tree F C K) (t : TokenAndSpan) (us : List TokenAndSpan)
      → is_arrow t.token ≡ true → (m b : Bool) → takes_params x.context es ≡ m → t.had_line_break ≡ b
      → params_closed hook o s es x (t ∷ us)
      ≡ turned m b (arrow_behind hook s.lo (is_some o) true (want_items (items_of es)) x us)
  closed_turned o s es t us a m true k e =
      params_splits hook o s es x (t ∷ us)
      ∙ ap (λ r. r >>= (λ p. expected is_arrow x p.1 >>= (λ q. params_refined hook o s es x q.1))) (line_breaks x
      (t ∷ us) e)
  closed_turned o s es t us a m false k e =
      params_splits hook o s es x (t ∷ us)
      ∙ ap (λ r. r >>= (λ p. expected is_arrow x p.1 >>= (λ q. params_refined hook o s es x q.1))) (line_here x
      (t ∷ us) e)
      ∙ arrow_takes hook o s es x t us a
      ∙ ap (λ b. if b then arrow_behind hook s.lo (is_some o) true (want_items (items_of es)) x us else None) k

  -- the list is refined, and then the `=>` is read, or the other way round
  commute : (o : Option (Tree F C K)) (s : Span) (es : Tree F C K) (t : TokenAndSpan) (us : List TokenAndSpan)
      → is_arrow t.token ≡ true → (fit names : Bool) → elems_fit Binding (comma_of es) (items_of es) ≡ fit
      → Refines es → names_ok x.context (want_items (items_of es)) ≡ names
      → exec hook (run hook) None (plan (arrow_side s (is_some o) (as_params es))) (t ∷ us)
      ≡ params_closed hook o s es x (t ∷ us)
  commute o s es t us a false names f r n =
      let none : as_params es ≡ None = r.params ∙ ap (λ b. if b then Some (want_items (items_of es)) else None) f in
      let not_taken : takes_params x.context es ≡ false =
      ap (λ b. b && names_ok x.context (want_items (items_of es))) (clear-items (comma_of es) (items_of es) r.valid
      ∙ f) in
      ap (λ v. exec hook (run hook) None (plan (arrow_side s (is_some o) v)) (t ∷ us)) none
      ∙ none_turned t.had_line_break (arrow_behind hook s.lo (is_some o) true (want_items (items_of es)) x us)
      ∙ sym (closed_turned o s es t us a false t.had_line_break not_taken refl)
  commute o s es t us a true names f r n =
      let ps : Trees F C K = want_items (items_of es) in
      let is : as_params es ≡ Some ps = r.params ∙ ap (λ b. if b then Some ps else None) f in
      let names_same : arrow_params_ok x.context ps ≡ names =
      ap (takes x.context) (sym is) ∙ params-are x.context (comma_of es) (items_of es) ps r.params
      ∙ ap (λ b. b && names_ok x.context ps) f ∙ n in
      let taken : takes_params x.context es ≡ names =
      ap (λ b. b && names_ok x.context ps) (clear-items (comma_of es) (items_of es) r.valid ∙ f) ∙ n in
      let goes : Out (Tree F C K) = arrow_behind hook s.lo (is_some o) true ps x us in
      ap (λ v. exec hook (run hook) None (plan (arrow_side s (is_some o) v)) (t ∷ us)) is
      ∙ params_told s (is_some o) ps t us
      ∙ ap (λ v. told v t.had_line_break (is_arrow t.token) goes) names_same
      ∙ ap (λ v. told names t.had_line_break v goes) a
      ∙ told_turned names t.had_line_break goes
      ∙ sym (closed_turned o s es t us a names t.had_line_break taken refl)

  -- ---- no `=>` after it

  base_reads : x.head ≡ false → (e : Tree F C K) (ts : List TokenAndSpan)
      → exec hook (run hook) (Some 2) (behind_base x e) ts ≡ base_behind hook e x ts
  unfolding base_behind
  base_reads n e ts =
      then_calls (run hook (links true e) (inner x) ts) _ _ (λ l us.
      then_calls (run hook (updates l) (inner x) us) _ _ (λ u vs.
      then_calls (run hook (climb u 0) (inner x) vs) _ _ (λ k ws. last hook (Some 2) (assigns k) x ws refl)))
      ∙ ap (λ y. run hook (links true e) y ts >>= (λ l. run hook (updates l.0) y l.1
      >>= (λ u. run hook (climb u.0 0) y u.1 >>= (λ k. run hook (assigns k.0) x k.1)))) (inner_is x n)

  paren_base : x.head ≡ false → (s : Span) (es : Tree F C K) (ts : List TokenAndSpan)
      → at_token is_arrow (first ts) ≡ false
      → run hook (parens s es) x ts ≡ (paren_closed (paren_of x s es) ts >>= (λ p. base_behind hook p.0 x p.1))
  paren_base n s es ts h =
      knot hook (parens s es) x ts
      ∙ rw h (ap (λ o. if paren_ok x.syntax.pedantic es then o else None)
      (base_reads n (paren_e (to s (span_of es)) (seq_of (held_exprs (items_of es)))) ts)
      ∙ by_test (paren_ok x.syntax.pedantic es))
    where
      by_test : (b : Bool) → (if b then base_behind hook (paren_e (to s (span_of es))
          (seq_of (held_exprs (items_of es)))) x ts else None)
          ≡ ((if b then Some (paren_e (to s (span_of es)) (seq_of (held_exprs (items_of es))), ts) else None)
          >>= (λ p. base_behind hook p.0 x p.1))
      by_test true = refl
      by_test false = refl

  async_base : x.head ≡ false → (n : Spelling) (es : Tree F C K) (ts : List TokenAndSpan)
      → at_token is_arrow (first ts) ≡ false → run hook (asyncs n es) x ts
      ≡ (async_call (ident_e n.at n.text) es x ts >>= (λ p. base_behind hook p.0 x p.1))
  async_base h n es ts k =
      knot hook (asyncs n es) x ts
      ∙ rw k (ap (λ o. if covers_ok x.syntax.pedantic es then o else None)
      (base_reads h (call_e (to n.at (span_of es)) (ident_e n.at n.text) (items_of es)) ts)
      ∙ by_test (covers_ok x.syntax.pedantic es))
    where
      by_test : (b : Bool) → (if b then base_behind hook (call_e (to n.at (span_of es)) (ident_e n.at n.text)
          (items_of es)) x ts else None)
          ≡ ((if b then Some (call_e (to n.at (span_of es)) (ident_e n.at n.text) (items_of es), ts) else None)
          >>= (λ p. base_behind hook p.0 x p.1))
      by_test true = refl
      by_test false = refl

  -- ---- either

  paren_params : (s : Span) (es : Tree F C K) (t : TokenAndSpan) (us : List TokenAndSpan) → is_arrow t.token ≡ true
      → run hook (parens s es) x (t ∷ us) ≡ exec hook (run hook) None (plan (arrow_side s false (as_params es)))
      (t ∷ us)
  paren_params s es t us h = knot hook (parens s es) x (t ∷ us) ∙ rw h (by_params (as_params es))
    where
      by_params : (o : Option (Trees F C K)) → exec hook (run hook) (Some 2) (plan (given o ▸ (λ ps.
          check (arrow_params_ok x.context ps) (arrow_tail x (listed None (to s (span_of es)) ps))))) (t ∷ us)
          ≡ exec hook (run hook) None (plan (arrow_side s false o)) (t ∷ us)
      by_params None = refl
      by_params (Some ps) = refl

  async_params : (n : Spelling) (es : Tree F C K) (t : TokenAndSpan) (us : List TokenAndSpan) → is_arrow t.token ≡ true
      → run hook (asyncs n es) x (t ∷ us) ≡ exec hook (run hook) None (plan (arrow_side n.at true (as_params es)))
      (t ∷ us)
  async_params n es t us h = knot hook (asyncs n es) x (t ∷ us) ∙ rw h (by_params (as_params es))
    where
      by_params : (o : Option (Trees F C K)) → exec hook (run hook) (Some 2) (plan (given o ▸ (λ ps.
          check (arrow_params_ok x.context ps) (async_arrow_tail x n (listed None n.at ps))))) (t ∷ us)
          ≡ exec hook (run hook) None (plan (arrow_side n.at true o)) (t ∷ us)
      by_params None = refl
      by_params (Some ps) = refl

  -- what is after a list in parentheses; the first of its items begins, and the last one ends, where the nodes say
  pub list_reads : x.head ≡ false → (lo hi : BytePos) (s : Span) (es : Tree F C K) (ts : List TokenAndSpan) → Refines es
      → paren_closed (paren_of x s es) ts ≡ paren_closed (paren_from lo hi x s es) ts
      → list_behind hook None s es x ts ≡ list_closed hook lo hi None s es x ts
  list_reads n lo hi s es [] r same =
      paren_base n s es [] refl ∙ ap (λ o. o >>= (λ p. base_behind hook p.0 x p.1)) same
      ∙ sym (closed_base hook lo hi None s es x [] refl)
  list_reads n lo hi s es (t ∷ us) r same = by_arrow (is_arrow t.token) refl
    where
      by_arrow : (b : Bool) → is_arrow t.token ≡ b
          → list_behind hook None s es x (t ∷ us) ≡ list_closed hook lo hi None s es x (t ∷ us)
      by_arrow true h =
          paren_params s es t us h
          ∙ commute None s es t us h (elems_fit Binding (comma_of es) (items_of es))
          (names_ok x.context (want_items (items_of es))) refl r refl
          ∙ sym (closed_arrow hook lo hi None s es x (t ∷ us) h)
      by_arrow false h =
          paren_base n s es (t ∷ us) h ∙ ap (λ o. o >>= (λ p. base_behind hook p.0 x p.1)) same
          ∙ sym (closed_base hook lo hi None s es x (t ∷ us) h)

  -- the same after `async`
  pub async_list_reads : x.head ≡ false → (lo hi : BytePos) (n : Spelling) (es : Tree F C K) (ts : List TokenAndSpan)
      → Refines es → list_behind hook (Some (ident_e n.at n.text)) n.at es x ts
      ≡ list_closed hook lo hi (Some (ident_e n.at n.text)) n.at es x ts
  async_list_reads k lo hi n es [] r =
      async_base k n es [] refl ∙ sym (closed_base hook lo hi (Some (ident_e n.at n.text)) n.at es x [] refl)
  async_list_reads k lo hi n es (t ∷ us) r = by_arrow (is_arrow t.token) refl
    where
      by_arrow : (b : Bool) → is_arrow t.token ≡ b → list_behind hook (Some (ident_e n.at n.text)) n.at es x (t ∷ us)
          ≡ list_closed hook lo hi (Some (ident_e n.at n.text)) n.at es x (t ∷ us)
      by_arrow true h =
          async_params n es t us h
          ∙ commute (Some (ident_e n.at n.text)) n.at es t us h (elems_fit Binding (comma_of es) (items_of es))
          (names_ok x.context (want_items (items_of es))) refl r refl
          ∙ sym (closed_arrow hook lo hi (Some (ident_e n.at n.text)) n.at es x (t ∷ us) h)
      by_arrow false h =
          async_base k n es (t ∷ us) h
          ∙ sym (closed_base hook lo hi (Some (ident_e n.at n.text)) n.at es x (t ∷ us) h)

  -- either, where what is before the list is `async`, so spelled, or nothing
  pub closes : x.head ≡ false → (lo hi : BytePos) (o : Option (Tree F C K)) (s : Span) (es : Tree F C K)
      (ts : List TokenAndSpan) → is_callee s o → Refines es
      → paren_closed (paren_of x s es) ts ≡ paren_closed (paren_from lo hi x s es) ts
      → list_behind hook o s es x ts ≡ list_closed hook lo hi o s es x ts
  closes n lo hi None s es ts c r same = list_reads n lo hi s es ts r same
  closes n lo hi (Some e) s es ts c r same =
      subst (λ v. list_behind hook (Some v) s es x ts ≡ list_closed hook lo hi (Some v) s es x ts) (sym c)
      (async_list_reads n lo hi (spelling (spelling_of e).text s) es ts r)

module _ {F C K : Type 0} {fg : Ghosts F} {cg : Ghosts C} {kg : Ghosts K} where
  -- items that were read hold nothing that was refused
  pub refines_at : {ns : Nodes F C K fg cg kg} (list : Listed (ExprOrSpread ExprId))
      → Apart 0 ns (args_parts list.items) → are_valid (items_of (args_at ns list)) ≡ true → Refines (args_at ns list)
  refines_at {ns} list a v = record {
    valid = v;
    params = as-elems-is Binding list.trailing_comma array (items_at ns list.items.items)
        (items-all list.items.items a);
  }

module _ {F C K : Type 0} {fg : Ghosts F} {cg : Ghosts C} {kg : Ghosts K} (hook : Hook F C K)
    (lawful : LawfulHook fg.place cg.place kg.place hook) where
  -- What is after a list that was read, wherever that is: the ring's reading goes on by it.
  pub list_closes : {ns : Nodes F C K fg cg kg} {k : ℕ} (o : Option (Tree F C K)) (s : Span)
      (list : Listed (ExprOrSpread ExprId)) (y : Scope) (vs us : List TokenAndSpan) → Apart k ns (args_parts list.items)
      → args_inside hook false y vs ≡ Some (args_at ns list, us) → is_callee s o → (x : Scope) (ts : List TokenAndSpan)
      → x.head ≡ false → list_behind hook o s (args_at ns list) x ts
      ≡ list_closed hook (first_start ns (map (λ e. e.expr) list.items.items))
      (last_end ns (map (λ e. e.expr) list.items.items)) o s (args_at ns list) x ts
  list_closes {ns} o s list y vs us a h c x ts n =
      closes hook x n _ _ o s (args_at ns list) ts c
      (refines_at list (apart-down (args_parts list.items) a)
      (read-valid hook lawful (Args false) (with_in y) vs us (args_at ns list) (sym (inside_args hook false y vs) ∙ h)))
      (closed_clean hook lawful s list y vs us a h x ts)
