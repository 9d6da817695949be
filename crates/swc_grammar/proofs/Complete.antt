-- What the grammar derives, the clean parser reads, where nothing goes on that it would take too.
pub mod Bools
pub mod Stops
pub mod Sides
mod Lists
mod Properties
mod Primaries
pub mod LeftSides
pub mod Operators
pub mod Arrows
pub mod Asyncs
pub mod Assignments
mod Patterns
use Rattle.std.specs.Prelude.{◌≡◌, zero, suc, min, true, false, List, ◌∷◌, Some, None, ◌&&◌}
use Rattle.std.proofs.Common.{refl, ap, ◌∙◌, arith, sym as sym_path, subst}
use Rattle.std.proofs.lemmas.Bool.{eqb-true, ltb-true}
use Rattle.swc_context.specs.{Operators.precedence_of, declared.operator.AssignOp.AssignOp as assign}
use Rattle.swc_input.specs.{declared.token.TokenAndSpan.TokenAndSpan, Kinds.is_hash}
use Rattle.swc_ast.specs.Tree.{nil, cons, span_of}
use Rattle.swc_ast.specs.Trees.{new_e, items_of, trees_append, to}
use Rattle.swc_bodies.specs.Readings.{Hook, is_async}
use Rattle.swc_grammar.specs.Scope.{Scope, at_head, inner}
use Rattle.swc_grammar.specs.Tokens.{with_in, is_lparen, is_lbracket, tk}
use Rattle.swc_grammar.specs.Symbols.{Symbol, Expr, Exprs, Assign, Level, Unary, Lhs, Left, Arguments, Args, ArgsTail, Primary, Literal, Template, Parts, Base, Elements, ElementsTail, Item, Props, PropsTail, Prop, Key, AfterKey, Shell, Answer, Side, ArrowParams, ArrowBody, Pat, Element, Rest, PatElements, PatElementsTail, PatProps, PatPropsTail, PatProp, Params, ParamsTail}
use Rattle.swc_grammar.specs.Parts.{any_name, lit_of, update_here, assign_here, operator_here}
use Rattle.swc_grammar.specs.Grammar.{Production, lit, unary-left, unary-op, exp-unary, left-base, member-name, covered-params, member-private, member-computed, call, lhs-left, new-bare, left-new, chain-name, chain-private, chain-computed, chain-call, tagged-tpl, arguments, template, exp-op, shell-block, level-up, bin-op, assign-level, update-postfix, arrow-name, update-prefix, await-expr, await-ident, cond-expr, assign-expr, yield-alone, yield-expr, yield-star, exprs-one, exprs-more, seq-expr, assign-pattern, element-pat, element-default, pat-rest, arrow-params, arrow-async-name, private-in, arrow-async-params}
use Rattle.swc_grammar.specs.Reads.{Reads}
use Rattle.swc_grammar.specs.Clean.{first, sym, links, exec, constructs, no_link, call_args, args, args_tail, tpl, parts, base, updates, assigns, seqs, no_update_at, ends_unary, no_assign_at, plan, update_tail, cond_tail, assign_tail, Stop, primary, literal, elements, arrow_tail, elements_tail, item, props, props_tail, prop, key, after_key, shell, run, no_arrow, defaults, default_tail, pick, pat, pat_elements, pat_tail, pat_props, pattern_tail, pat_props_tail, pat_prop, params, params_tail, arrow_block, async_arrow_tail}
use Rattle.swc_grammar.specs.Cover.{as_literal, as_params, is_pattern}
use Rattle.swc_grammar.proofs.Only.{backquote-is, lbracket-is, lparen-is, dot-is, question-is, equals-is}
use Rattle.swc_grammar.proofs.Induct.{ran-took, ran-held, ran-calm, ran-part, every}
use Rattle.swc_grammar.proofs.Complete.Bools.{if-off, is-false, if-on}
use Rattle.swc_grammar.proofs.Complete.Stops.{expr-stop, quiet-rbracket, quiet-colon, quiet-comma}
use Rattle.swc_grammar.proofs.Complete.Sides.{Claim, ready-given, climb-ends, settle, next-passes, Ran, forget, given-ran, before-given, starting, must-ran, part-ran, gave-ran, side-reads}
use Rattle.swc_grammar.proofs.Complete.Lists.{picked-args, picked-args-tail, picked-elements, picked-tail, picked-item, ready-args, ready-args-tail, ready-elements, ready-tail, ready-item}
use Rattle.swc_grammar.proofs.Complete.Properties.{picked-props, picked-props-tail, picked-key, picked-after, picked-prop, ready-props, ready-props-tail, ready-prop, ready-key, ready-after}
use Rattle.swc_grammar.proofs.Complete.Primaries.{picked-primary, ready-primary, ready-parts, picked-parts, picked-reads}
use Rattle.swc_grammar.proofs.Complete.LeftSides.{any-link, no-paren, links-take, new-begins, no-dot-first, picked-base, base-no-new, ready-base, name-next, hash-alone, lparen-alone, chained}
use Rattle.swc_grammar.proofs.Complete.Operators.{private-reads, operand-climbs, op-reads, exp-reads, signed, operand-reads, updates-end, update-link}
use Rattle.swc_grammar.proofs.Complete.Assignments.{no-dot-expr, yielded, level-reads, assigns-end, question-ends, question-bound, assign-token, target-apart, assign-no-arrow, equals-plain, pattern-apart, target-no-pattern}
use Rattle.swc_grammar.proofs.Complete.Patterns.{picked-pat, picked-pat-elements, picked-pat-tail, picked-pat-props, picked-pat-props-tail, picked-pat-prop, picked-params, picked-params-tail, ready-pat, ready-pat-elements, ready-pat-tail, ready-pat-props, ready-pat-props-tail, ready-pat-prop, ready-params, ready-params-tail, element-reads, no-equals}
use Rattle.swc_grammar.proofs.Complete.Arrows.{here-arrow, line-arrow, body-bound, params-reads, picked-body, ready-body}
use Rattle.swc_grammar.proofs.Complete.Asyncs.{async-params-parts, lparen-next, lparen-here, async-params-reads}
use Rattle.swc_grammar.proofs.{Good.good, Answers.both, Answers.only, Firsts.begins, Firsts.update-first, Knot.knot, Levels.bound-above}
pub use Rattle.swc_grammar.proofs.Complete.Stops.{stops-assign, stops-expr, stops-unary, stops-level, stops-element, stops-pat-prop}
pub use Rattle.swc_grammar.proofs.Complete.Sides.{last, picks, picks-as}
pub use Rattle.swc_grammar.proofs.Complete.Primaries.{lit-picks, fn-picks, class-picks, picking}
pub use Rattle.swc_grammar.proofs.{Complete.Operators.private-refused, Complete.LeftSides.links-end}

module _ {F C K : Type 0} (hook : Hook F C K) where
  -- one clause per production
  claim-by : {s : Symbol} {c : Scope} {r : Side F C K s} {xs ys : List TokenAndSpan} {t : Answer F C K s}
      → Production s c r → Ran hook s r xs ys t → Claim hook s c xs ys t
  claim-by {s = Primary} {c = c} {xs = xs} {ys = ys} {t = t} p d = λ stop.
      picks-as hook Primary c xs (primary c xs) (picking hook p) refl (picked-primary hook p (forget hook d))
      (picked-reads hook xs ys t p stop (side-reads hook (Some 8) d (ready-primary hook {c = c} ys p)))
  claim-by {c = c} unary-left (ran-calm {xs = xs} w (ran-part {e = l} {ms = ms} dl h d)) =
      gave-ran hook (λ u us. Claim hook Unary c xs us u) d
      (λ stop. let (n, u) = both (no_link true ms && no_arrow ms) (no_update_at (first ms)) stop in
      operand-reads hook c xs ms l (begins dl) w (h n) ∙ updates-end hook (inner c) l ms u)
  claim-by {c = c} {ys = ys} update-postfix
      (ran-calm {xs = xs} w (ran-part {e = l} dl h (ran-took {a = a} {xs = us} (ran-held n d)))) =
      let (x, o, d1) = given-ran hook (update_here a.token a.span) _ d in
      let u = update-first a.token a.span x o in
      λ stop.
      operand-reads hook c xs (a ∷ us) l (begins dl) w (h (update-link a us u))
      ∙ knot hook (updates l) (inner c) (a ∷ us)
      ∙ ap (λ v. exec hook (run hook) (Some 1) v (a ∷ us))
      (if-off (no_update_at (Some a)) _ _ (rw (u, is-false a.had_line_break n) refl))
      ∙ side-reads hook {r = update_tail c l} (Some 1) (ran-took (ran-held n d))
      (λ b j. ready-given _ _ (update_here b.token b.span) _ (λ y i m. tt))
  claim-by update-prefix d = signed hook update-prefix refl d
  claim-by await-expr d = signed hook await-expr refl d
  claim-by await-ident d = signed hook await-ident refl d
  claim-by unary-op d = signed hook unary-op refl d
  claim-by {c = c} (lhs-left {b = b}) (ran-part {e = e} {xs = xs} {ms = ms} l h d) =
      gave-ran hook (λ u us. Claim hook (Lhs b) c xs us u) d
      (λ stop. let (n, r) = both (no_link true ms) (no_arrow ms) stop in
      h r ∙ links-end hook b e (inner c) ms (any-link b ms n))
  claim-by {c = c} (new-bare {b = b})
      (ran-took {a = a} {xs = us} (ran-held h (ran-part {e = l} {ms = ms} dl k (ran-held n d)))) =
      gave-ran hook (λ u vs. Claim hook (Lhs b) c (a ∷ us) vs u) d
      (λ stop. new-begins hook b c a us ms l h (no-dot-first c us (begins dl)) n (k stop)
      ∙ knot hook (constructs b a.span l) (inner c) ms
      ∙ rw (no-paren ms (both (no_link true ms) (no_arrow ms) stop).0) refl)
  claim-by {c = c} (left-base {b = b}) (ran-part {e = e} {xs = xs} {ms = ms} l h d) =
      gave-ran hook (λ u us. Claim hook (Left b) c xs us u) d
      (λ n. knot hook (sym (Lhs b)) c xs
      ∙ rw (base-no-new hook l, h n) (last hook (Some 10) (links b e) (inner c) ms refl))
  claim-by {c = c} (left-new {b = b})
      (ran-took {a = a} {xs = us} (ran-held h (ran-part {e = l} dl k (ran-held n
      (ran-took {a = o} {xs = vs} (ran-held i (ran-part {e = es} {ms = ms} de m d))))))) =
      gave-ran hook (λ u ws. Claim hook (Left b) c (a ∷ us) ws u) d
      (λ r. new-begins hook b c a us (o ∷ vs) l h (no-dot-first c us (begins dl)) n
      (k (rw (lparen-is o.token i) refl)
      ∙ links-end hook false l (inner c) (o ∷ vs) (rw (lparen-is o.token i) refl))
      ∙ knot hook (constructs b a.span l) (inner c) (o ∷ vs)
      ∙ rw (i, m tt) (last hook None (links b (new_e (to a.span (span_of es)) l (items_of es))) (inner c) ms refl))
  claim-by {s = Base b} {c = c} {xs = xs} {ys = ys} p d = λ stop.
      picks hook (Base b) c xs p (base b c xs) refl (picked-base hook p (forget hook d))
      (side-reads hook (Some 9) d (ready-base hook {c = c} ys stop p))
  claim-by {c = c} {ys = ys} member-name (ran-part {e = l} e k (ran-took {a = a} {xs = us} (ran-held h d))) = λ r.
      k (rw (dot-is a.token h) refl) ∙ links-take hook l a us ys
      (λ i. member-name) (rw (h, (name-next hook c (forget hook d)).0) refl)
      (rw h (side-reads hook None d (λ b. ready-given _ _ (any_name c b.token b.span) _ (λ n j. tt))))
  claim-by {c = c} {ys = ys} member-private (ran-part {e = l} e k (ran-took {a = a} {xs = us} (ran-held h d))) = λ r.
      k (rw (dot-is a.token h) refl) ∙ links-take hook l a us ys
      (λ i. member-private) (rw (h, next-passes hook is_hash (forget hook d)) refl)
      (rw h (side-reads hook None d (λ b j. λ g. ready-given _ _ (any_name c g.token g.span) _ (λ n i o. tt))))
  claim-by {c = c} {ys = ys} (member-computed {b = b})
      (ran-part {e = l} e k (ran-took {a = a} {xs = us} (ran-held h d))) = λ r.
      k (rw (lbracket-is a.token h) refl) ∙ links-take hook l a us ys (λ i. member-computed)
      (rw (lbracket-is a.token h) refl)
      (rw h (side-reads hook None d (refl, λ i. (λ g vs j. quiet-rbracket (with_in c) g vs j, λ g j. tt))))
  claim-by {c = c} {ys = ys} call (ran-part {e = l} e k (ran-took {a = a} {xs = us} (ran-held h d))) = λ r.
      k (rw (lparen-is a.token h) refl) ∙ links-take hook l a us ys (λ i. call)
      (rw (lparen-is a.token h) refl)
      (rw h (side-reads hook None d (refl, λ es. (tt, tt))))
  claim-by {c = c} {ys = ys} (chain-name {b = b})
      (ran-part {e = l} e k (ran-took {a = a} (ran-held h (ran-took {a = g} {xs = us} (ran-held i d))))) = λ r.
      let (x, y, z) = name-next hook c (forget hook d) in
      k (rw (question-is a.token h) refl) ∙ links-take hook l a (g ∷ us) ys
      (λ i. chain-name) (chained hook b (inner c) a g us h i ∙ rw (y, z, x) refl)
      (rw (h, i) (side-reads hook None d (λ o. ready-given _ _ (any_name c o.token o.span) _ (λ n j. tt))))
  claim-by {c = c} {ys = ys} (chain-private {b = b})
      (ran-part {e = l} e k (ran-took {a = a} (ran-held h (ran-took {a = g} {xs = us} (ran-held i d))))) = λ r.
      let x = next-passes hook is_hash (forget hook d) in
      let (y, z) = hash-alone (first us) x in
      k (rw (question-is a.token h) refl) ∙ links-take hook l a (g ∷ us) ys
      (λ i. chain-private) (chained hook b (inner c) a g us h i ∙ rw (y, z, x) refl)
      (rw (h, i) (side-reads hook None d (λ q j. λ o. ready-given _ _ (any_name c o.token o.span) _ (λ n m w. tt))))
  claim-by {c = c} {ys = ys} (chain-computed {b = b})
      (ran-part {e = l} e k (ran-took {a = a} (ran-held h (ran-took {a = g} {xs = us} (ran-held i d))))) = λ r.
      let x = next-passes hook is_lbracket (forget hook d) in
      k (rw (question-is a.token h) refl) ∙ links-take hook l a (g ∷ us) ys
      (λ i. chain-computed) (chained hook b (inner c) a g us h i ∙ rw x refl)
      (rw (h, i)
      (side-reads hook None d (λ q j. (refl, λ o. (λ m vs w. quiet-rbracket (with_in c) m vs w, λ m w. tt)))))
  claim-by {c = c} {ys = ys} (chain-call {b = b})
      (ran-part {e = l} e k (ran-took {a = a} (ran-held h (ran-took {a = g} {xs = us} (ran-held i d))))) = λ r.
      let x = next-passes hook is_lparen (forget hook d) in
      let y = lparen-alone (first us) x in
      k (rw (question-is a.token h) refl) ∙ links-take hook l a (g ∷ us) ys
      (λ i. chain-call) (chained hook b (inner c) a g us h i ∙ rw (y, x) refl)
      (rw (h, i) (side-reads hook None d (λ q j. (refl, λ es. (tt, tt)))))
  claim-by {c = c} {ys = ys} (tagged-tpl {b = b})
      (ran-part {e = l} e k (ran-took {a = a} {xs = us} (ran-held h d))) = λ r.
      k (rw (backquote-is a.token h) refl) ∙ links-take hook l a us ys (λ i. tagged-tpl)
      (rw (backquote-is a.token h) refl)
      (rw h (side-reads hook None d (refl, λ ps. (λ n. tt, λ n. tt))))
  claim-by {c = c} {xs = xs} (arguments {i = i}) d = λ stop.
      picks hook (Arguments i) c xs arguments (call_args i c xs) refl refl
      (side-reads hook (Some 9) d (λ a h. (refl, λ es. (λ n. tt, λ n. tt))))
  claim-by {c = c} {xs = xs} (template {is_tagged = is_tagged}) d = λ stop.
      picks hook (Template is_tagged) c xs template (tpl is_tagged c xs) refl refl
      (side-reads hook (Some 6) d (λ a h. (refl, λ ps. (tt, tt))))
  claim-by {s = Parts is_tagged} {c = c} {xs = xs} {ys = ys} p d = λ stop.
      picks hook (Parts is_tagged) c xs p (parts is_tagged c xs) refl (picked-parts hook p (forget hook d))
      (side-reads hook (Some 6) d (ready-parts hook {c = c} ys p))
  claim-by {s = Args i} {c = c} {xs = xs} {ys = ys} p d = λ stop.
      picks hook (Args i) c xs p (args i c xs) refl (picked-args hook p (forget hook d))
      (side-reads hook (Some 17) d (ready-args hook {c = c} ys p))
  claim-by {s = ArgsTail i} {c = c} {xs = xs} {ys = ys} p d = λ stop.
      picks hook (ArgsTail i) c xs p (args_tail i c xs) refl (picked-args-tail hook p (forget hook d))
      (side-reads hook (Some 5) d (ready-args-tail hook {c = c} ys p))
  claim-by {s = Elements} {c = c} {xs = xs} {ys = ys} p d = λ stop.
      picks hook Elements c xs p (elements c xs) refl (picked-elements hook p (forget hook d))
      (side-reads hook (Some 17) d (ready-elements hook {c = c} ys p))
  claim-by {s = ElementsTail} {c = c} {xs = xs} {ys = ys} p d = λ stop.
      picks hook ElementsTail c xs p (elements_tail c xs) refl (picked-tail hook p (forget hook d))
      (side-reads hook (Some 5) d (ready-tail hook {c = c} ys p))
  claim-by {s = Item} {c = c} {xs = xs} {ys = ys} p d = λ stop.
      picks hook Item c xs p (item c xs) refl (picked-item hook p (forget hook d))
      (side-reads hook (Some 16) d (ready-item hook {c = c} ys stop p))
  claim-by {s = Props} {c = c} {xs = xs} {ys = ys} p d = λ stop.
      picks hook Props c xs p (props c xs) refl (picked-props hook p (forget hook d))
      (side-reads hook (Some 5) d (ready-props hook {c = c} ys p))
  claim-by {s = PropsTail} {c = c} {xs = xs} {ys = ys} p d = λ stop.
      picks hook PropsTail c xs p (props_tail c xs) refl (picked-props-tail hook p (forget hook d))
      (side-reads hook (Some 2) d (ready-props-tail hook {c = c} ys p))
  claim-by {s = Prop} {c = c} {xs = xs} {ys = ys} p d = λ stop.
      picks hook Prop c xs p (prop c xs) refl (picked-prop hook p stop (forget hook d))
      (side-reads hook (Some 4) d (ready-prop hook {c = c} ys stop p))
  claim-by {s = Key} {c = c} {xs = xs} {ys = ys} p d = λ stop.
      picks hook Key c xs p (key c xs) refl (picked-key hook p (forget hook d))
      (side-reads hook (Some 3) d (ready-key hook {c = c} ys p))
  claim-by {s = AfterKey} {c = c} {xs = xs} {ys = ys} p d = λ stop.
      picks hook AfterKey c xs p (after_key c xs) refl (picked-after hook p (forget hook d))
      (side-reads hook (Some 3) d (ready-after hook {c = c} ys stop p))
  claim-by {c = c} {xs = xs} (shell-block {is_async = is_async} {is_generator = is_generator}) d = λ stop.
      picks hook (Shell is_async is_generator) c xs shell-block (shell is_async is_generator c xs) refl refl
      (side-reads hook (Some 2) d (λ a h. (refl, λ ps. (λ own us b. tt, λ v s. tt))))
  claim-by {c = c} {xs = xs} lit d = λ stop.
      picks hook Literal c xs lit (literal c xs) refl refl
      (side-reads hook (Some 6) d (λ a. ready-given _ _ (lit_of a.token a.span) _ (λ e h. tt)))
  claim-by {c = c} exp-unary (ran-part {e = e} {xs = xs} {ms = ms} l h d) =
      gave-ran hook (λ u us. Claim hook (Level 11) c xs us u) d
      (λ le end b m lt. operand-climbs hook m c xs ms e (omega arith) (h end))
  claim-by {c = c} exp-op (ran-part {e = l} {xs = xs} dl left (ran-took {a = a} {xs = us} d)) =
      let (x, d1) = must-ran hook d in
      let (n, d2) = must-ran hook d1 in
      let (r, ms, dr, right, d3) = part-ran hook d2 in
      gave-ran hook (λ u vs. Claim hook (Level 11) c xs vs u) d3
      (exp-reads hook c a l r xs us ms x n (good dr) left right)
  claim-by (level-up {k = zero} b) d = tt
  claim-by {c = c} {ys = ys} {t = t} (level-up {k = suc k} b) (ran-part {e = e} {xs = xs} {ms = ms} l h d) =
      gave-ran hook (λ u us. Claim hook (Level (suc k)) c xs us u) d
      (λ le end q m lt. let top = ltb-true (suc k) 11 b in
      h (omega arith) end (bound-above c (min (suc k) 10) (min (suc (suc k)) 10) ms (omega arith) q) m (omega arith))
  claim-by (bin-op {k = zero} b) d = tt
  claim-by {c = c} (bin-op {k = suc n} b) (ran-part {e = l} {xs = xs} dl left (ran-took {a = a} {xs = us} d)) =
      let (op, o, d1) = given-ran hook (operator_here c a.token a.span) _ d in
      let (p, d2) = must-ran hook d1 in
      let (r, ms, dr, right, d3) = part-ran hook d2 in
      let (k, d4) = must-ran hook d3 in
      let (g, d5) = must-ran hook d4 in
      let top = ltb-true (suc n) 11 b in
      gave-ran hook (λ u vs. Claim hook (Level (suc n)) c xs vs u) d5
      (op-reads hook n op c a l r xs us ms (omega arith) o (eqb-true (precedence_of op) (suc n) p) k g
      (good dr) left right)
  claim-by {c = c} {ys = ys} private-in (ran-took {a = a} (ran-held h (ran-took {a = b} {xs = us} d))) =
      let (n, o, d1) = given-ran hook (any_name c b.token b.span) _ d in
      let (x, d2) = must-ran hook d1 in
      private-reads hook c a b us ys n h o x d2
  claim-by {c = c} assign-level (ran-part {e = e} {xs = xs} {ms = ms} de h d) =
      gave-ran hook (λ u us. Claim hook Assign c xs us u) d
      (λ stop. let (u, n) = both (ends_unary ms) (no_assign_at (first ms)) stop.0 in
      let (q, v) = both (no_link true ms && no_arrow ms) (no_update_at (first ms)) u in
      level-reads hook c xs ms e (begins de) (both (no_link true ms) (no_arrow ms) q).1
      (settle hook (Level 1) (at_head c) xs ms e (good de) h (omega arith, u, stop.1))
      ∙ assigns-end hook c e ms n)
  claim-by {c = c} {ys = ys} cond-expr
      (ran-part {e = e} {xs = xs} de h (ran-took {a = a} {xs = us} (ran-held q (ran-part dm k d)))) = λ stop.
      level-reads hook c xs (a ∷ us) e (begins de) (rw (question-is a.token q) refl)
      (settle hook (Level 1) (at_head c) xs (a ∷ us) e (good de) h
      (omega arith, question-ends a us q (no-dot-expr (with_in c) us (begins dm)), question-bound c a us q))
      ∙ knot hook (assigns e) c (a ∷ us)
      ∙ rw q (side-reads hook {r = cond_tail c e} (Some 1) (ran-took {a = a} (ran-held q (ran-part dm k d)))
      (λ b i. (refl, λ m. (λ o vs j. quiet-colon (with_in c) o vs j, λ o j. (refl, λ v. (stop, tt))))))
  claim-by {c = c} {ys = ys} assign-expr (ran-part {e = l} {xs = xs} dl h (ran-took {a = a} {xs = us} d)) =
      let (op, o, d1) = given-ran hook (assign_here a.token a.span) _ d in
      let (t, d2) = must-ran hook d1 in
      let (q, w, u, b) = assign-token c a us op o in
      λ stop.
      level-reads hook c xs (a ∷ us) l (begins dl) (assign-no-arrow a us op o)
      (operand-climbs hook 0 (at_head c) xs (a ∷ us) l (omega arith) (h u)
      ∙ climb-ends hook l 0 (inner c) (a ∷ us) (good dl).left b)
      ∙ knot hook (assigns l) c (a ∷ us)
      ∙ rw (q, w, target-apart hook c.context.strict l t, target-no-pattern hook c.context.strict l t)
      (side-reads hook {r = assign_tail c l} (Some 1) (ran-took {a = a} d)
      (λ e. ready-given _ _ (assign_here e.token e.span) _ (λ y i m. (refl, λ r. (stop, tt)))))
  claim-by {c = c} {ys = ys} assign-pattern
      (ran-part {e = l} {xs = xs} dl h (ran-took {a = a} {xs = us} (ran-held i d))) =
      let (p, o, d1) = given-ran hook (as_literal c.context.strict l) _ d in
      let (q, w, u, b) = assign-token c a us assign.Assign (equals-plain a i) in
      let z = (only (is_pattern l) o).0 in
      λ stop.
      level-reads hook c xs (a ∷ us) l (begins dl) (rw (equals-is a.token i) refl)
      (operand-climbs hook 0 (at_head c) xs (a ∷ us) l (omega arith) (h u)
      ∙ climb-ends hook l 0 (inner c) (a ∷ us) (good dl).left b)
      ∙ knot hook (assigns l) c (a ∷ us)
      ∙ rw (q, w, pattern-apart hook l z)
      (ap (λ v. exec hook (run hook) (Some 1) (plan v) (a ∷ us))
      (if-on (is_pattern l) (pattern_tail c l) (assign_tail c l) z)
      ∙ side-reads hook {r = pattern_tail c l} (Some 1) (ran-took {a = a} (ran-held i d))
      (λ e j. ready-given _ _ (as_literal c.context.strict l) _ (λ y k. (refl, λ r. (stop, tt)))))
  claim-by arrow-name d = yielded hook arrow-name refl d
  claim-by arrow-async-name d = yielded hook arrow-async-name refl d
  claim-by {c = c} {ys = ys} {t = t} arrow-async-params (ran-took {a = a} {xs = us} w) = λ stop.
      let (n, i, (l, hs, ms, dh, k, w2)) = async-params-parts hook c a us w in
      lparen-next hook (λ v. run hook (sym ArrowParams) c v ≡ Some (hs, ms) → run hook (sym Assign) c (a ∷ v)
      ≡ Some (t, ys)) us
      (lparen-here hook us l (begins dh))
      (λ s vs h. async-params-reads hook c a s vs ms ys n hs t i h
      (here-arrow (first ms) (line-arrow hook (forget hook w2)))
      (side-reads hook {r = async_arrow_tail c n hs} (Some 2) w2
      (λ b x y. (refl, λ e. (λ q. (stop.0, body-bound hook c true ys stop.1), tt))))) (k tt)
  claim-by {c = c} {ys = ys} {t = t} arrow-params (ran-part {e = hs} {xs = xs} {ms = ms} dh k w) = λ stop.
      starting (λ v. run hook (sym ArrowParams) c v ≡ Some (hs, ms) → run hook (sym Assign) c v ≡ Some (t, ys))
      is_lparen xs (begins dh)
      (λ a us h. subst (λ v. run hook (sym ArrowParams) c (tk v a.had_line_break a.span ∷ us) ≡ Some (hs, ms)
      → run hook (sym Assign) c (tk v a.had_line_break a.span ∷ us) ≡ Some (t, ys)) (sym_path (lparen-is a.token h))
      (λ i. params-reads hook c a.had_line_break a.span us ms ys hs t i
      (here-arrow (first ms) (line-arrow hook (forget hook w)))
      (side-reads hook {r = arrow_tail c hs} (Some 2) w
      (λ b x y. (refl, λ e. (λ n. (stop.0, body-bound hook c false ys stop.1), tt)))))) (k tt)
  claim-by {s = ArrowBody is_async} {c = c} {xs = xs} {ys = ys} p d = λ stop.
      picks hook (ArrowBody is_async) c xs p (arrow_block is_async c xs) refl (picked-body hook p (forget hook d))
      (side-reads hook (Some 15) d (ready-body hook {c = c} ys stop p))
  claim-by {c = c} {xs = xs} {ys = ys} covered-params d = λ stop.
      picks hook ArrowParams c xs (covered-params {c = c}) (pick covered-params) refl refl
      (side-reads hook (Some 2) d (λ a h. (
        refl,
        λ es. (
          before-given _ _ (as_params es) _ (λ ps k w. tt),
          ready-given _ _ (as_params es) _ (λ ps k w. tt),
        ),
      )))
  claim-by yield-alone d = yielded hook yield-alone refl d
  claim-by yield-expr d = yielded hook yield-expr refl d
  claim-by yield-star d = yielded hook yield-star refl d
  claim-by {c = c} exprs-one (ran-part {e = e} {xs = xs} {ms = ms} de h d) =
      gave-ran hook (λ u us. Claim hook Exprs c xs us u) d
      (λ stop. knot hook (sym Expr) c xs ∙ rw (h stop) (last hook (Some 15) (seqs (cons e nil)) c ms refl))
  claim-by {c = c} exprs-more
      (ran-part {e = es} {xs = xs} ds h (ran-took {a = a} {xs = us} (ran-held q (ran-part {e = e} {ms = ms} de k d)))) =
      gave-ran hook (λ u vs. Claim hook Exprs c xs vs u) d
      (λ stop. h (quiet-comma c a us q)
      ∙ knot hook (seqs (items_of es)) c (a ∷ us)
      ∙ rw (q, k stop) (rw q (last hook None (seqs (trees_append (items_of es) (cons e nil))) c ms refl)))
  claim-by {c = c} seq-expr (ran-part {e = es} {xs = xs} {ms = ms} ds h d) =
      gave-ran hook (λ u us. Claim hook Expr c xs us u) d
      (λ stop. let (e, n) = expr-stop c ms stop in
      h e ∙ knot hook (seqs (items_of es)) c ms ∙ rw n refl)
  claim-by {c = c} element-pat (ran-part {e = p} {xs = xs} {ms = ms} dp h d) =
      gave-ran hook (λ u us. Claim hook Element c xs us u) d
      (λ stop. element-reads hook c xs ms p (h tt) ∙ knot hook (defaults p) c ms ∙ rw (no-equals ms stop.0) refl)
  claim-by {c = c} element-default
      (ran-part {e = p} {xs = xs} dp h (ran-took {a = a} {xs = us} (ran-held q (ran-part dm k d)))) = λ stop.
      element-reads hook c xs (a ∷ us) p (h tt)
      ∙ knot hook (defaults p) c (a ∷ us)
      ∙ rw q (side-reads hook {r = default_tail c p} (Some 1) (ran-took {a = a} (ran-held q (ran-part dm k d)))
      (λ b i. (refl, λ m. (stop, tt))))
  claim-by {s = Pat} {c = c} {xs = xs} {ys = ys} p d = λ stop.
      picks hook Pat c xs p (pat c xs) refl (picked-pat hook p (forget hook d))
      (side-reads hook (Some 2) d (ready-pat hook {c = c} ys p))
  claim-by {c = c} {xs = xs} pat-rest d = λ stop.
      picks hook Rest c xs (pat-rest {c = c}) (pick pat-rest) refl refl
      (side-reads hook (Some 2) d (λ a h. (refl, λ p. (tt, tt))))
  claim-by {s = PatElements} {c = c} {xs = xs} {ys = ys} p d = λ stop.
      picks hook PatElements c xs p (pat_elements c xs) refl (picked-pat-elements hook p (forget hook d))
      (side-reads hook (Some 4) d (ready-pat-elements hook {c = c} ys p))
  claim-by {s = PatElementsTail} {c = c} {xs = xs} {ys = ys} p d = λ stop.
      picks hook PatElementsTail c xs p (pat_tail c xs) refl (picked-pat-tail hook p (forget hook d))
      (side-reads hook (Some 2) d (ready-pat-tail hook {c = c} ys p))
  claim-by {s = PatProps} {c = c} {xs = xs} {ys = ys} p d = λ stop.
      picks hook PatProps c xs p (pat_props c xs) refl (picked-pat-props hook p (forget hook d))
      (side-reads hook (Some 5) d (ready-pat-props hook {c = c} ys p))
  claim-by {s = PatPropsTail} {c = c} {xs = xs} {ys = ys} p d = λ stop.
      picks hook PatPropsTail c xs p (pat_props_tail c xs) refl (picked-pat-props-tail hook p (forget hook d))
      (side-reads hook (Some 2) d (ready-pat-props-tail hook {c = c} ys p))
  claim-by {s = PatProp} {c = c} {xs = xs} {ys = ys} p d = λ stop.
      picks hook PatProp c xs p (pat_prop c xs) refl (picked-pat-prop hook p stop (forget hook d))
      (side-reads hook (Some 4) d (ready-pat-prop hook {c = c} ys stop p))
  claim-by {s = Params} {c = c} {xs = xs} {ys = ys} p d = λ stop.
      picks hook Params c xs p (params c xs) refl (picked-params hook p (forget hook d))
      (side-reads hook (Some 4) d (ready-params hook {c = c} ys p))
  claim-by {s = ParamsTail} {c = c} {xs = xs} {ys = ys} p d = λ stop.
      picks hook ParamsTail c xs p (params_tail c xs) refl (picked-params-tail hook p (forget hook d))
      (side-reads hook (Some 2) d (ready-params-tail hook {c = c} ys p))

  pub claim : {s : Symbol} {c : Scope} {xs ys : List TokenAndSpan} {t : Answer F C K s} → Reads hook s c xs ys t
      → Claim hook s c xs ys t
  claim d = every hook (Claim hook) (λ s c r xs ys t p e. claim-by p e) d

  -- what the grammar derives is read, where nothing goes on
  pub complete : {s : Symbol} {c : Scope} {xs ys : List TokenAndSpan} {t : Answer F C K s} → Reads hook s c xs ys t
      → Stop s c ys → run hook (sym s) c xs ≡ Some (t, ys)
  complete {s = s} {c = c} {xs = xs} {ys = ys} {t = t} d stop = settle hook s c xs ys t (good d) (claim d) stop
