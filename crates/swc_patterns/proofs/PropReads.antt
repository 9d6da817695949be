-- A property of an object pattern (14.3.3), or a rest among these: what is read, part by part.
use Rattle.std.proofs.Common.{◌≡◌, Bool, Option, Some, None, MatchOption, refl}
use Rattle.swc_context.specs.{declared.error.Error.Error, declared.span.Span.Span}
use Rattle.swc_input.specs.{declared.buffer.Buffer.Buffer, Source.Model}
use Rattle.swc_ast.specs.{Parts.prop_name_tree, Tree.Tree, Tree.span_of, Trees.to, Trees.key_value_e, declared.ident.BindingIdent.BindingIdent, declared.prop.PropName.PropName}
use Rattle.swc_bodies.specs.Readings.{Hook}
use Rattle.swc_grammar.specs.Symbols.{Pat, Element, Key}
use Rattle.swc_grammar.specs.{Tokens.is_dots, Clean.sym as at, Clean.run}
use Rattle.swc_nodes.specs.declared.node.ExprId.{ExprId}
use Rattle.swc_steps.specs.Parsing.{On, Heard, Unheard, binding_spelling}
use Rattle.swc_steps.specs.{Lists.eaten, Readers.inside}
use Rattle.swc_steps.proofs.Steps.{give, on_then, on_call, on_answer, heard_after, heard_call, heard_more, unheard_after, unheard_call, eats_none, eats_some}
use Rattle.swc_patterns.specs.Objects.{after_pat_key, default_node, name_node, pat_prop_left, pat_prop_item}
use Rattle.swc_patterns.specs.{Rests.rest_node, declared.object.AfterPatKey.AfterPatKey, declared.object.AfterPatKey.AfterPatKey as after}
use Rattle.swc_patterns.proofs.Objects.{key_left, key_left_splits, pat_prop_splits, pat_prop_item_splits}

-- where dots were looked for from b to c, and perhaps taken
abbrev Looked : {S : Type 0} → Model S → Bool → Buffer S → Option Span → Buffer S → Type 0
Looked model sure b o c =
    MatchOption o (On model sure (eaten is_dots) (λ x ts. Some (None, ts)) b c)
    (λ s. Heard model sure (eaten is_dots) (Some s) b c)

module _ {S F C K : Type 0} {model : Model S} {sure : Bool} (hook : Hook F C K) {a b : Buffer S} where
  -- the dots are asked for, and that is refused
  pub dots_refused : {e : Error} → Unheard model sure (eaten is_dots) a e b
      → Unheard model sure (pat_prop_item hook) a e b
  dots_refused u = unheard_call _ (pat_prop_item_splits hook) u

module _ {S F C K : Type 0} {model : Model S} {sure : Bool} (hook : Hook F C K) {a b c : Buffer S}
    {o : Option Span} where
  -- they are there, and then a pattern
  pub rest_refused : {s : Span} {e : Error} → o ≡ Some s → Looked model sure a o b
      → Unheard model sure (run hook (at Pat)) b e c → Unheard model sure (pat_prop_item hook) a e c
  rest_refused {s} is looked u =
      unheard_after (on_call _ (pat_prop_item_splits hook) (eats_some sure is_dots o s a b is looked).on)
      (unheard_call (λ x p. Some (rest_node s p.0, p.1)) (λ x ts. refl) u)

  pub rest_read : {s : Span} {t : Tree F C K} → o ≡ Some s → Looked model sure a o b
      → Heard model sure (run hook (at Pat)) t b c → Heard model sure (pat_prop_item hook) (rest_node s t) a c
  rest_read {s} is looked h =
      heard_after (on_call _ (pat_prop_item_splits hook) (eats_some sure is_dots o s a b is looked).on)
      (heard_call (λ x p. Some (rest_node s p.0, p.1)) (λ x ts. refl) (λ x ts. refl) h)

  -- they aren't there, and a key is
  pub key_refused : {e : Error} → o ≡ None → Looked model sure a o b → Unheard model sure (run hook (at Key)) b e c
      → Unheard model sure (pat_prop_item hook) a e c
  key_refused is looked u =
      unheard_after (on_call _ (pat_prop_item_splits hook) (eats_none sure is_dots o a b is looked))
      (unheard_call _ (pat_prop_splits hook) u)

  pub key_read : {t : Tree F C K} → o ≡ None → Looked model sure a o b → Heard model sure (run hook (at Key)) t b c
      → On model sure (pat_prop_item hook) (key_left hook t) a c
  key_read is looked h =
      on_then (on_call _ (pat_prop_item_splits hook) (eats_none sure is_dots o a b is looked))
      (on_call _ (pat_prop_splits hook) h.on)

  -- a name that is bound itself
  pub name_read : {d : Buffer S} {found : AfterPatKey} (view : ExprId → Tree F C K) (k : PropName ExprId)
      (n : BindingIdent) → o ≡ None → Looked model sure a o b
      → Heard model sure (run hook (at Key)) (prop_name_tree view k) b c → found ≡ after.Name n
      → On model sure (after_pat_key k) (give found) c d
      → Heard model sure (pat_prop_item hook) (name_node (binding_spelling n)) a d
  name_read view k n is looked h found_is behind =
      heard_after (on_call _ (pat_prop_item_splits hook) (eats_none sure is_dots o a b is looked))
      (heard_more _ (pat_prop_splits hook) h
      (on_call (λ x p. pat_prop_left hook (prop_name_tree view k) p.0 x p.1) (key_left_splits hook view k)
      (on_answer found_is behind)))

-- ---- after a key, whose tree is the view's

module _ {S F C K : Type 0} {model : Model S} {sure : Bool} (hook : Hook F C K) (view : ExprId → Tree F C K)
    (k : PropName ExprId) {a b c : Buffer S}
    (named : On model sure (pat_prop_item hook) (key_left hook (prop_name_tree view k)) a b) where
  -- what is there is asked for, and that is refused
  pub behind_refused : {e : Error} → Unheard model sure (after_pat_key k) b e c
      → Unheard model sure (pat_prop_item hook) a e c
  behind_refused u = unheard_after named (unheard_call _ (key_left_splits hook view k) u)

  pub behind_read : {found : AfterPatKey} (is : AfterPatKey) → found ≡ is
      → On model sure (after_pat_key k) (give found) b c
      → On model sure (pat_prop_item hook) (pat_prop_left hook (prop_name_tree view k) is) a c
  behind_read is found_is o = on_then named (on_call _ (key_left_splits hook view k) (on_answer found_is o))

module _ {S F C K : Type 0} {model : Model S} {sure : Bool} (hook : Hook F C K) (view : ExprId → Tree F C K)
    (k : PropName ExprId) {a b c d : Buffer S} {found : AfterPatKey}
    (named : On model sure (pat_prop_item hook) (key_left hook (prop_name_tree view k)) a b) where
  -- an element after a colon
  pub value_refused : {e : Error} (n : PropName ExprId) → found ≡ after.Value n
      → On model sure (after_pat_key k) (give found) b c → Unheard model sure (run hook (at Element)) c e d
      → Unheard model sure (pat_prop_item hook) a e d
  value_refused n is behind u =
      let key = prop_name_tree view k in
      unheard_after (behind_read hook view k named (after.Value n) is behind)
      (unheard_call (λ x p. Some (key_value_e (to (span_of key) (span_of p.0)) key p.0, p.1)) (λ x ts. refl) u)

  pub value_read : {t : Tree F C K} (n : PropName ExprId) → found ≡ after.Value n
      → On model sure (after_pat_key k) (give found) b c → Heard model sure (run hook (at Element)) t c d
      → Heard model sure (pat_prop_item hook)
      (key_value_e (to (span_of (prop_name_tree view k)) (span_of t)) (prop_name_tree view k) t) a d
  value_read n is behind h =
      let key = prop_name_tree view k in
      heard_after (behind_read hook view k named (after.Value n) is behind)
      (heard_call (λ x p. Some (key_value_e (to (span_of key) (span_of p.0)) key p.0, p.1)) (λ x ts. refl)
      (λ x ts. refl) h)

  -- an initialiser after `=`
  pub default_refused : {e : Error} (n : BindingIdent) → found ≡ after.Default n
      → On model sure (after_pat_key k) (give found) b c → Unheard model sure (inside hook) c e d
      → Unheard model sure (pat_prop_item hook) a e d
  default_refused n is behind u =
      unheard_after (behind_read hook view k named (after.Default n) is behind)
      (unheard_call (λ x p. Some (default_node (binding_spelling n) p.0, p.1)) (λ x ts. refl) u)
