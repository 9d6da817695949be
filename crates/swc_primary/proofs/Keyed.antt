-- The clean parser's steps in properties that have a key, methods among them, as the code takes them.
use Rattle.std.specs.Prelude.{◌≡◌, ℕ, Bool, true, false, not, if◌then◌else◌, List, [], ◌∷◌, Option, Some, None}
use Rattle.std.proofs.Common.{refl, sym, ap, subst, ◌∙◌}
use Rattle.swc_context.specs.declared.span.Span.{Span}
use Rattle.swc_input.specs.{declared.token.Token.Token, declared.token.Token.Token as token, declared.token.TokenAndSpan.TokenAndSpan}
use Rattle.swc_ast.specs.Tree.{Tree, node, Trees, nil, cons, span_of, getter, setter, block}
use Rattle.swc_ast.specs.Trees.{to, value_e, prop_of, method_e, getter_e, setter_e, getter_ok, items_of, has_items, behind_first}
use Rattle.swc_ast.specs.{Parts.leaf, Parts.prop_name_tree, Spans.prop_name_span, declared.function.Function.Function, declared.prop.PropName.PropName, declared.prop.PropName.PropName as prop_name, declared.spanned.Spanned.Ghosts}
use Rattle.swc_bodies.specs.Readings.{Hook, is_async}
use Rattle.swc_grammar.specs.Symbols.{Assign, Key, AfterKey as Behind, Shell}
use Rattle.swc_grammar.specs.Tokens.{tk, with_in, is_colon, is_get, is_set, is_star}
use Rattle.swc_grammar.specs.Grammar.{prop-key, prop-generator, prop-async, prop-async-generator, prop-getter, prop-setter}
use Rattle.swc_grammar.specs.Clean.{Out, and_then, sym as at, run}
use Rattle.swc_grammar.specs.{Scope.Scope, Words.◌>>=◌}
use Rattle.swc_grammar.proofs.{Complete.last, Knot.knot}
use Rattle.swc_nodes.specs.NodeParts.{expr_part, key_parts, prop_parts}
use Rattle.swc_nodes.specs.GrowingNodes.{tree_at, count, Apart, From, Grows}
use Rattle.swc_nodes.specs.{Lists.first_param_pat, declared.node.ExprId.ExprId, declared.node.PatId.PatId, declared.node.PropNode.PropNode, declared.nodes.Nodes.Nodes}
use Rattle.swc_nodes.proofs.Lists.{apart-later, apart-more, apart-trees, key-same}
use Rattle.swc_nodes.proofs.{Held.apart-from, PatternParts.setter-apart, PatternParts.setter-parts}
use Rattle.swc_primary.specs.declared.modifiers.MethodKind.{MethodKind, MethodKind as kind}
use Rattle.swc_primary.specs.Methods.{value_behind, after_colon, after_by, behind_key, of_async, of_generator, setter_node, method_node, only_first, method_tree, function_ok, misses_by, misses_param, async_star, modifiers, method_by, method_function, method_behind_key, method_tail}
use Rattle.swc_steps.specs.Parsing.{tree_of, key_of, key_at, shell_of, shell_at, prop_at, prop_of as prop_of_node}
use Rattle.swc_steps.specs.Readers.{reading, by_production, inside}
use Rattle.swc_steps.specs.{Keys.expected, Lists.eaten}
use Rattle.swc_steps.proofs.Keys.{then_calls, token_then, then_token}
use Rattle.swc_steps.proofs.Lists.{binds, bind_same, calls}

-- a function without parameters has its block alone
only_same : {F C K : Type 0} (ts : Trees F C K) → not (has_items (behind_first ts)) ≡ true → only_first ts ≡ ts
only_same nil h = refl
only_same (cons t nil) h = refl
only_same (cons t (cons u ts)) h = absurd cc

module _ {F C K : Type 0} (hook : Hook F C K) where
  -- ---- a key, and what is after it (13.2.5)

  pub key_splits : (x : Scope) (ts : List TokenAndSpan)
      → by_production hook (λ c. prop-key) x ts ≡ (run hook (at Key) x ts >>= (λ p. behind_key hook p.0 x p.1))
  unfolding by_production reading behind_key
  key_splits x ts =
      then_calls (run hook (at Key) x ts) _
      (λ k us. run hook (at Behind) x us >>= (λ p. Some (prop_of k p.0, p.1)))
      (λ k us. calls (run hook (at Behind) x us) _)

  pub behind_key_splits : (k : Tree F C K) (x : Scope) (ts : List TokenAndSpan)
      → behind_key hook k x ts ≡ (run hook (at Behind) x ts >>= (λ p. Some (prop_of k p.0, p.1)))
  unfolding behind_key
  behind_key_splits k x ts = refl

  after_token : (x : Scope) (v : Token) (b : Bool) (s : Span) (us : List TokenAndSpan)
      → run hook (at Behind) x (tk v b s ∷ us)
      ≡ (eaten is_colon x (tk v b s ∷ us) >>= (λ p. after_by hook p.0 x p.1))
  unfolding eaten after_colon inside
  after_token x token.Colon b s us =
      knot hook (at Behind) x (tk token.Colon b s ∷ us) ∙ calls (run hook (at Assign) (with_in x) us) _
  after_token x v b s us =
      knot hook (at Behind) x (tk v b s ∷ us) ∙ last hook (Some 3) (at (Shell false false)) x (tk v b s ∷ us) refl

  pub after_splits : (x : Scope) (ts : List TokenAndSpan)
      → run hook (at Behind) x ts ≡ (eaten is_colon x ts >>= (λ p. after_by hook p.0 x p.1))
  unfolding eaten
  after_splits x [] = knot hook (at Behind) x [] ∙ last hook (Some 3) (at (Shell false false)) x [] refl
  after_splits x (t ∷ ts) = after_token x t.token t.had_line_break t.span ts

  pub after_colon_splits : (x : Scope) (ts : List TokenAndSpan)
      → after_colon hook x ts ≡ (inside hook x ts >>= (λ p. Some (value_e (span_of p.0) p.0, p.1)))
  unfolding after_colon
  after_colon_splits x ts = refl

  -- ---- methods (15.4)

  -- a key, and after it the function of a method of a kind, in which nothing is checked
  method_is : (m : MethodKind) → ((f : Tree F C K) → function_ok (Some m) f ≡ true) → (s : Span) (x : Scope)
      (us : List TokenAndSpan) → and_then (run hook (at Key) x us)
      (λ k vs. and_then (run hook (at (Shell (of_async m) (of_generator m))) x vs)
      (λ f ws. Some (method_tree (Some m) s k f, ws)))
      ≡ method_tail hook m s x us
  unfolding method_tail method_behind_key method_function
  method_is m h s x us =
      then_calls (run hook (at Key) x us) _ (λ k vs. method_behind_key hook (Some m) s k x vs) (λ k vs.
      calls (run hook (at (Shell (of_async m) (of_generator m))) x vs) _
      ∙ bind_same (run hook (at (Shell (of_async m) (of_generator m))) x vs) _ _ (λ p. rw (h p.0) refl)
      ∙ binds (run hook (at (Shell (of_async m) (of_generator m))) x vs) (λ p. method_by (Some m) p)
      (λ p. Some (method_tree (Some m) s k p.0, p.1)))

  -- the same, where it is checked: of a getter and of a setter
  checked_is : (m : MethodKind) (tree : Tree F C K → Tree F C K → Tree F C K) (s : Span)
      → ((k f : Tree F C K) → function_ok (Some m) f ≡ true → tree k f ≡ method_tree (Some m) s k f) → (x : Scope)
      (us : List TokenAndSpan) → and_then (run hook (at Key) x us)
      (λ k vs. and_then (run hook (at (Shell (of_async m) (of_generator m))) x vs)
      (λ f ws. if function_ok (Some m) f then Some (tree k f, ws) else None))
      ≡ method_tail hook m s x us
  unfolding method_tail method_behind_key method_function
  checked_is m tree s same x us =
      then_calls (run hook (at Key) x us) _ (λ k vs. method_behind_key hook (Some m) s k x vs) (λ k vs.
      calls (run hook (at (Shell (of_async m) (of_generator m))) x vs) _
      ∙ bind_same (run hook (at (Shell (of_async m) (of_generator m))) x vs) _ _
      (λ p. by_test k p.0 p.1 (function_ok (Some m) p.0) refl)
      ∙ binds (run hook (at (Shell (of_async m) (of_generator m))) x vs) (λ p. method_by (Some m) p)
      (λ p. Some (method_tree (Some m) s k p.0, p.1)))
    where
      by_test : (k f : Tree F C K) (ws : List TokenAndSpan) (b : Bool) → function_ok (Some m) f ≡ b
          → (if function_ok (Some m) f then Some (tree k f, ws) else None)
          ≡ (method_by (Some m) (f, ws) >>= (λ p. Some (method_tree (Some m) s k p.0, p.1)))
      by_test k f ws true e = rw e (ap (λ t. Some (t, ws)) (same k f e))
      by_test k f ws false e = rw e refl

  -- a sign, and what is read after it
  behind_sign : {A : Type 0} (f : Token → Bool) (x : Scope) (ts : List TokenAndSpan)
      (k h : Span → List TokenAndSpan → Out A) → ((s : Span) (us : List TokenAndSpan) → k s us ≡ h s us)
      → token_then f ts k ≡ (expected f x ts >>= (λ p. h p.0 p.1))
  behind_sign f x ts k h same = then_token f x ts k ∙ bind_same (expected f x ts) _ _ (λ p. same p.0 p.1)

  pub generator_splits : (x : Scope) (ts : List TokenAndSpan) → by_production hook (λ c. prop-generator) x ts
      ≡ (modifiers kind.Generator x ts >>= (λ p. method_tail hook kind.Generator p.0 x p.1))
  unfolding by_production reading
  generator_splits x [] = behind_sign is_star x [] _ _ (λ s us. method_is kind.Generator (λ f. refl) s x us)
  generator_splits x (t ∷ ts) = behind_sign is_star x (t ∷ ts) _ _ (λ s us. method_is kind.Generator (λ f. refl) s x us)

  pub async_splits : (x : Scope) (ts : List TokenAndSpan) → by_production hook (λ c. prop-async) x ts
      ≡ (modifiers kind.Async x ts >>= (λ p. method_tail hook kind.Async p.0 x p.1))
  unfolding by_production reading
  async_splits x [] = behind_sign is_async x [] _ _ (λ s us. method_is kind.Async (λ f. refl) s x us)
  async_splits x (t ∷ ts) = behind_sign is_async x (t ∷ ts) _ _ (λ s us. method_is kind.Async (λ f. refl) s x us)

  star_is : (s : Span) (x : Scope) (us : List TokenAndSpan)
      → token_then is_star us (λ s' vs. and_then (run hook (at Key) x vs)
      (λ k ws. and_then (run hook (at (Shell true true)) x ws) (λ f zs. Some (method_e (to s (span_of f)) k f, zs))))
      ≡ (expected is_star x us >>= (λ q. method_tail hook kind.AsyncGenerator s x q.1))
  star_is s x us = behind_sign is_star x us _ _ (λ s' vs. method_is kind.AsyncGenerator (λ f. refl) s x vs)

  -- `async` and the star are one reading
  async_star_then : (x : Scope) (ts : List TokenAndSpan) → (expected is_async x ts
      >>= (λ p. expected is_star x p.1 >>= (λ q. method_tail hook kind.AsyncGenerator p.0 x q.1)))
      ≡ (async_star x ts >>= (λ r. method_tail hook kind.AsyncGenerator r.0 x r.1))
  unfolding async_star
  async_star_then x ts =
      bind_same (expected is_async x ts) _ _
      (λ p. binds (expected is_star x p.1) (λ q. Some (p.0, q.1)) (λ r. method_tail hook kind.AsyncGenerator r.0 x r.1))
      ∙ binds (expected is_async x ts) (λ p. expected is_star x p.1 >>= (λ q. Some (p.0, q.1)))
      (λ r. method_tail hook kind.AsyncGenerator r.0 x r.1)

  pub async_generator_splits : (x : Scope) (ts : List TokenAndSpan)
      → by_production hook (λ c. prop-async-generator) x ts
      ≡ (modifiers kind.AsyncGenerator x ts >>= (λ p. method_tail hook kind.AsyncGenerator p.0 x p.1))
  unfolding by_production reading
  async_generator_splits x [] = behind_sign is_async x [] _ _ (λ s us. star_is s x us) ∙ async_star_then x []
  async_generator_splits x (t ∷ []) =
      behind_sign is_async x (t ∷ []) _ _ (λ s us. star_is s x us) ∙ async_star_then x (t ∷ [])
  async_generator_splits x (t ∷ (u ∷ ts)) =
      behind_sign is_async x (t ∷ (u ∷ ts)) _ _ (λ s us. star_is s x us) ∙ async_star_then x (t ∷ (u ∷ ts))

  getter_is : (s : Span) (k f : Tree F C K) → getter_ok f ≡ true
      → getter_e (to s (span_of f)) k f ≡ method_tree (Some kind.Getter) s k f
  getter_is s k f h = ap (λ ts. node getter (to s (span_of f)) (cons k ts)) (sym (only_same (items_of f) h))

  pub getter_splits : (x : Scope) (ts : List TokenAndSpan) → by_production hook (λ c. prop-getter) x ts
      ≡ (modifiers kind.Getter x ts >>= (λ p. method_tail hook kind.Getter p.0 x p.1))
  unfolding by_production reading
  getter_splits x [] =
      behind_sign is_get x [] _ _
      (λ s us. checked_is kind.Getter (λ k f. getter_e (to s (span_of f)) k f) s (getter_is s) x us)
  getter_splits x (t ∷ ts) =
      behind_sign is_get x (t ∷ ts) _ _
      (λ s us. checked_is kind.Getter (λ k f. getter_e (to s (span_of f)) k f) s (getter_is s) x us)

  pub setter_splits : (x : Scope) (ts : List TokenAndSpan) → by_production hook (λ c. prop-setter) x ts
      ≡ (modifiers kind.Setter x ts >>= (λ p. method_tail hook kind.Setter p.0 x p.1))
  unfolding by_production reading
  setter_splits x [] =
      behind_sign is_set x [] _ _
      (λ s us. checked_is kind.Setter (λ k f. setter_e (to s (span_of f)) k f) s (λ k f h. refl) x us)
  setter_splits x (t ∷ ts) =
      behind_sign is_set x (t ∷ ts) _ _
      (λ s us. checked_is kind.Setter (λ k f. setter_e (to s (span_of f)) k f) s (λ k f h. refl) x us)

  pub method_tail_splits : (m : MethodKind) (s : Span) (x : Scope) (ts : List TokenAndSpan) → method_tail hook m s x ts
      ≡ (run hook (at Key) x ts >>= (λ p. method_behind_key hook (Some m) s p.0 x p.1))
  unfolding method_tail
  method_tail_splits m s x ts = refl

  pub method_behind_splits : (m : Option MethodKind) (s : Span) (k : Tree F C K) (x : Scope) (ts : List TokenAndSpan)
      → method_behind_key hook m s k x ts
      ≡ (method_function hook m x ts >>= (λ p. Some (method_tree m s k p.0, p.1)))
  unfolding method_behind_key
  method_behind_splits m s k x ts = refl

pub async_star_splits : (x : Scope) (ts : List TokenAndSpan)
    → async_star x ts ≡ (expected is_async x ts >>= (λ p. expected is_star x p.1 >>= (λ q. Some (p.0, q.1))))
unfolding async_star
async_star_splits x ts = refl

-- ---- the nodes

place_of_key : {F C K X : Type 0} (view : X → Tree F C K) (k : PropName X)
    → span_of (prop_name_tree view k) ≡ prop_name_span k
place_of_key view (prop_name.Ident i) = refl
place_of_key view (prop_name.Str s) = refl
place_of_key view (prop_name.Num n) = refl
place_of_key view (prop_name.BigInt n) = refl
place_of_key view (prop_name.Computed c) = refl

module _ {F C K : Type 0} {fg : Ghosts F} {cg : Ghosts C} {kg : Ghosts K} where
  -- a key stays the same among more nodes
  key_later : {ns ms : Nodes F C K fg cg kg} {i : ℕ} (k : PropName ExprId) → Grows ns ms → key_of i ns k
      → key_at ms k ≡ key_at ns k
  key_later {ns} {ms} k g a = key-same (tree_at ms) (tree_at ns) k (apart-trees g a)

  -- the node of a key and the value after it: its tree, and what it reaches
  value_tree : (ns : Nodes F C K fg cg kg) (k : PropName ExprId) (e : ExprId)
      → prop_of (key_at ns k) (value_e (span_of (tree_of ns e)) (tree_of ns e))
      ≡ prop_at ns (value_behind k (span_of (tree_of ns e)) e)
  value_tree ns k e = rw (place_of_key (tree_of ns) k) refl

  pub key_prop_made : {ns ms : Nodes F C K fg cg kg} {i : ℕ} (k : PropName ExprId) (e : ExprId) (p : PropNode K)
      → p ≡ value_behind k (span_of (tree_of ms e)) e → Grows ns ms → key_of i ns k → From (count ns) ms (expr_part e)
      → (prop_of (key_at ns k) (value_e (span_of (tree_of ms e)) (tree_of ms e)) ≡ prop_at ms p) × prop_of_node i ms p
  key_prop_made {ns} {ms} {i} k e p is g key later = (
    ap (λ t. prop_of t (value_e (span_of (tree_of ms e)) (tree_of ms e))) (sym (key_later k g key))
        ∙ value_tree ms k e ∙ ap (λ v. prop_at ms v) (sym is),
    subst (λ ps. Apart i ms ps) (sym (ap prop_parts is)) (apart-more g key (apart-from (expr_part e) later)),
  )

  -- the node of a method over a key and a function: its tree
  kind_tree : (m : Option MethodKind) (ns : Nodes F C K fg cg kg) (s : Span) (k : PropName ExprId)
      (f : Function PatId K) → misses_param m f.params.items ≡ false
      → method_tree m s (key_at ns k) (shell_at ns f) ≡ prop_at ns (method_node m s k f)
  kind_tree None ns s k f h = refl
  kind_tree (Some kind.Getter) ns s k f h = refl
  kind_tree (Some kind.Setter) ns s k f h = by_first (first_param_pat f.params.items) refl h
    where
      by_first : (o : Option PatId) → first_param_pat f.params.items ≡ o → misses_by (Some kind.Setter) o ≡ false
          → method_tree (Some kind.Setter) s (key_at ns k) (shell_at ns f)
          ≡ prop_at ns (setter_node s k f (first_param_pat f.params.items))
      by_first None e h = absurd cc
      by_first (Some p) e h =
          rw e (ap (λ ts. node setter (to s f.span) (cons (key_at ns k) ts))
          (setter-parts (tree_at ns) (leaf (block f.body) (kg.place f.body)) f.params.items p e))
  kind_tree (Some kind.Generator) ns s k f h = refl
  kind_tree (Some kind.Async) ns s k f h = refl
  kind_tree (Some kind.AsyncGenerator) ns s k f h = refl

  pub method_made : {ns ms : Nodes F C K fg cg kg} {i : ℕ} (m : Option MethodKind) (s : Span) (k : PropName ExprId)
      (f : Function PatId K) (p : PropNode K) → p ≡ method_node m s k f → Grows ns ms → key_of i ns k
      → misses_param m f.params.items ≡ false → method_tree m s (key_at ns k) (shell_at ms f) ≡ prop_at ms p
  method_made {ns} {ms} m s k f p e g key some =
      ap (λ t. method_tree m s t (shell_at ms f)) (sym (key_later k g key))
      ∙ kind_tree m ms s k f some ∙ ap (λ v. prop_at ms v) (sym e)

  -- without a kind it begins with its key
  pub plain_made : {ns ms : Nodes F C K fg cg kg} {i : ℕ} (s : Span) (k : PropName ExprId) (f : Function PatId K)
      (p : PropNode K) → s ≡ prop_name_span k → p ≡ method_node None s k f → Grows ns ms → key_of i ns k
      → prop_of (key_at ns k) (shell_at ms f) ≡ prop_at ms p
  plain_made {ns} {ms} s k f p place e g key =
      ap (λ t. prop_of t (shell_at ms f)) (sym (key_later k g key))
      ∙ ap (λ v. method_e (to v (span_of (shell_at ms f))) (key_at ms k) (shell_at ms f))
      (place_of_key (tree_of ms) k ∙ sym place)
      ∙ ap (λ v. prop_at ms v) (sym e)

  -- what it reaches
  node_apart : {ns ms : Nodes F C K fg cg kg} {i : ℕ} (m : Option MethodKind) (s : Span) (k : PropName ExprId)
      (f : Function PatId K) → Grows ns ms → key_of i ns k → shell_of (count ns) ms f
      → prop_of_node i ms (method_node m s k f)
  node_apart None s k f g key later = apart-more g key later
  node_apart (Some kind.Getter) s k f g key later = apart-later g key
  node_apart {ns} {ms} {i} (Some kind.Setter) s k f g key later = by_first (first_param_pat f.params.items) refl
    where
      by_first : (o : Option PatId) → first_param_pat f.params.items ≡ o → prop_of_node i ms (setter_node s k f o)
      by_first None e = apart-more g key later
      by_first (Some p) e = setter-apart (key_parts k) f.params.items p e (apart-more g key later)
  node_apart (Some kind.Generator) s k f g key later = apart-more g key later
  node_apart (Some kind.Async) s k f g key later = apart-more g key later
  node_apart (Some kind.AsyncGenerator) s k f g key later = apart-more g key later

  pub method_apart : {ns ms : Nodes F C K fg cg kg} {i : ℕ} (m : Option MethodKind) (s : Span) (k : PropName ExprId)
      (f : Function PatId K) (p : PropNode K) → p ≡ method_node m s k f → Grows ns ms → key_of i ns k
      → shell_of (count ns) ms f → prop_of_node i ms p
  method_apart {ns} {ms} {i} m s k f p e g key later =
      subst (λ v. Apart i ms (prop_parts v)) (sym e) (node_apart m s k f g key later)
