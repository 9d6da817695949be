-- The clean parser's steps in the functions of methods (15.4), as the code takes them.
use Rattle.std.proofs.Common.{◌≡◌, Bool, true, false, not, ◌&&◌, List, [], ◌∷◌, ◌++◌, Some, None, ℕ, ◌≤◌, map, length, refl, sym, ap, subst, ◌∙◌, arith}
use Rattle.std.specs.{declared.alloc.Global.Global, declared.vec.Vec.Vec, Option.is_some, Prelude.Option}
use Rattle.swc_context.specs.{Contexts.method_block, Contexts.method_params, declared.span.Span.Span}
use Rattle.swc_input.specs.{declared.buffer.Buffer.Buffer, declared.token.TokenAndSpan.TokenAndSpan, Source.Model}
use Rattle.swc_ast.specs.Tree.{Tree, node, Trees, nil, cons, trees, function, block as block_kind}
use Rattle.swc_ast.specs.Trees.{to, function_e, block_e, params_e, items_of, has_items, is_rest}
use Rattle.swc_ast.specs.{Parts.leaf, Parts.param_tree, declared.function.Param.Param, declared.spanned.Spanned.Ghosts}
use Rattle.swc_bodies.specs.Readings.{Hook, LawfulHook}
use Rattle.swc_grammar.specs.Symbols.{Params, Shell, block}
use Rattle.swc_grammar.specs.Clean.{Out, and_then, hear_then, sym as at, exec, step, rank_of, run}
use Rattle.swc_grammar.specs.{Scope.Scope, Scope.in_context, Tokens.is_lparen, Tokens.is_rparen, Words.◌>>=◌}
use Rattle.swc_grammar.proofs.Bodies.{hears, hears-place, hears-run}
use Rattle.swc_grammar.proofs.Knot.{knot}
use Rattle.swc_nodes.specs.NodeParts.{flat, param_parts, pat_part}
use Rattle.swc_nodes.specs.GrowingNodes.{count, seat_at, Apart, From}
use Rattle.swc_nodes.specs.{Lists.first_param_pat, declared.node.PatId.PatId, declared.nodes.Nodes.Nodes}
use Rattle.swc_nodes.proofs.{Chains.chain-bound, Held.from-apart}
use Rattle.swc_steps.specs.Params.{pat_at, params_at, placed, params_close}
use Rattle.swc_primary.specs.declared.modifiers.MethodKind.{MethodKind, MethodKind as kind}
use Rattle.swc_primary.specs.Methods.{async_in, generator_in, accessor_ok, function_ok, just_one, misses_param, in_params, method_function_node, method_function_of, method_block_by, method_end, method_close, method_left, method_inside, method_by, method_function}
use Rattle.swc_input.specs.Calls.{Leads, Checks}
use Rattle.swc_steps.specs.Parsing.{scope, On, shell_at}
use Rattle.swc_steps.specs.{Keys.expected, Keys.method_body}
use Rattle.swc_steps.proofs.Keys.{bind_none, then_calls, token_then, then_token}
use Rattle.swc_steps.proofs.Lists.{binds, bind_same}
use Rattle.swc_steps.proofs.Steps.{Reader, leads_then, more_recorded, read_scope}

-- ---- parameters of getters and setters

pub just-one : (ps : List (Param PatId)) → length ps ≡ 1 → just_one ps ≡ true
just-one [] h = absurd (omega (arith, h))
just-one (p ∷ []) h = refl
just-one (p ∷ (q ∷ ps)) h = absurd (omega (arith, h))

-- with a parameter no method misses one
pub held : (m : Option MethodKind) (ps : List (Param PatId)) → is_some (first_param_pat ps) ≡ true
    → misses_param m ps ≡ false
held m [] h = absurd cc
held None (p ∷ ps) h = refl
held (Some kind.Setter) (p ∷ ps) h = refl
held (Some kind.Getter) (p ∷ ps) h = refl
held (Some kind.Generator) (p ∷ ps) h = refl
held (Some kind.Async) (p ∷ ps) h = refl
held (Some kind.AsyncGenerator) (p ∷ ps) h = refl

module _ {F C K : Type 0} where
  has_params : (ps : Trees F C K) → has_items (params_e ps) ≡ has_items ps
  has_params nil = refl
  has_params (cons p ps) = refl

  -- a function has the parameters that its method has to have, if these are what they have to be
  ok_is : (m : Option MethodKind) (s : Span) (a g : Bool) (b : Tree F C K) (ps : Trees F C K)
      → function_ok m (function_e s a g b (params_e ps)) ≡ accessor_ok m ps
  ok_is (Some kind.Getter) s a g b ps = ap not (has_params ps)
  ok_is (Some kind.Setter) s a g b nil = refl
  ok_is (Some kind.Setter) s a g b (cons p ps) = ap (λ v. not v && not (is_rest p)) (has_params ps)
  ok_is (Some kind.Generator) s a g b ps = refl
  ok_is (Some kind.Async) s a g b ps = refl
  ok_is (Some kind.AsyncGenerator) s a g b ps = refl
  ok_is None s a g b ps = refl

module _ {F C K : Type 0} {fg : Ghosts F} {cg : Ghosts C} {kg : Ghosts K} where
  -- a setter that has none isn't as it has to be
  pub missed : (ns : Nodes F C K fg cg kg) (m : Option MethodKind) (ps : List (Param PatId)) → misses_param m ps ≡ true
      → accessor_ok m (trees (map (λ p. pat_at ns p.pat) ps)) ≡ false
  missed ns (Some kind.Setter) [] h = refl
  missed ns (Some kind.Setter) (p ∷ ps) h = absurd cc
  missed ns m ps h = absurd cc

  -- the first of them has its number
  pub first-from : {ns : Nodes F C K fg cg kg} {k : ℕ} (ps : List (Param PatId)) (p : PatId)
      → first_param_pat ps ≡ Some p
      → Apart k ns (flat param_parts ps) → From k ns (pat_part p)
  first-from [] p e a = absurd cc
  first-from {ns} {k} (x ∷ xs) p e a =
      let same : x.pat ≡ p = cc in
      subst (λ q. From k ns (pat_part q)) same (from-apart (pat_part x.pat) (flat param_parts xs) a)

  pub first-under : {ns : Nodes F C K fg cg kg} {k : ℕ} (ps : List (Param PatId)) → Apart k ns (flat param_parts ps)
      → k ≤ count ns
  first-under {ns} {k} ps a = chain-bound (seat_at ns) k (flat param_parts ps) (count ns) a.chained

  -- a parameter that lies where its pattern does is the grammar's
  pub params-are : (ns : Nodes F C K fg cg kg) (ps : List (Param PatId)) → placed ns ps
      → trees (map (param_tree (λ q. pat_at ns q)) ps) ≡ params_e (trees (map (λ p. pat_at ns p.pat) ps))
  params-are ns [] h = refl
  params-are ns (p ∷ ps) h = rw (h.0, params-are ns ps h.1) refl

  pub function-at : (ns : Nodes F C K fg cg kg) (m : Option MethodKind) (s : Span) (ps : Vec (Param PatId) Global)
      (v : K)
      → placed ns ps.items
      → method_function_node kg.place m s (params_at ns ps) v ≡ shell_at ns (method_function_of kg.place m s ps v)
  function-at ns m s ps v h =
      ap (λ l. node (function (async_in m) (generator_in m)) (to s (kg.place v))
      (cons (leaf (block_kind v) (kg.place v)) l))
      (sym (params-are ns ps.items h))

-- ---- the function of a method

module _ {F C K : Type 0} (hook : Hook F C K) where
  -- the block of a method whose parameters begin at s, as the grammar has it
  abbrev heard_block : Bool → Bool → Scope → Span → Trees F C K → List TokenAndSpan → Out (Tree F C K)
  heard_block is_async is_generator x s ps ts =
      hear_then (hook.block (method_block is_async is_generator x.context) ts) ts
      (λ v q us. Some (function_e (to s q) is_async is_generator (block_e q v) (params_e ps), us))

  shell_opens : (is_async is_generator : Bool) (x : Scope) (ts : List TokenAndSpan)
      → exec hook (run hook) (Some (rank_of (Shell is_async is_generator)))
      (step (at (Shell is_async is_generator)) x ts) ts
      ≡ token_then is_lparen ts
      (λ s us. and_then (run hook (at Params) (in_context (method_params is_async is_generator) x) us)
      (λ p vs. heard_block is_async is_generator x s (items_of p) vs))
  shell_opens is_async is_generator x [] = refl
  shell_opens is_async is_generator x (t ∷ ts) = refl

  module _ {fun_at : F → Span} {class_at : C → Span} {block_at : K → Span}
      (laws : LawfulHook fun_at class_at block_at hook) (m : Option MethodKind) where
    heard_is : (x : Scope) (s : Span) (ps : Trees F C K) (ts : List TokenAndSpan)
        → heard_block (async_in m) (generator_in m) x s ps ts
        ≡ method_block_by hook block_at m true s ps (in_params m x) ts
    unfolding method_body
    heard_is x s ps ts = by_what (hook.block c.context ts) refl
      where
        c : Scope
        c = in_context (method_block (async_in m) (generator_in m)) x

        by_what : (o : Out K) → hook.block c.context ts ≡ o → heard_block (async_in m) (generator_in m) x s ps ts
            ≡ (hook.block c.context ts
            >>= (λ p. Some (method_function_node {F = F} {C = C} block_at m s ps p.0, p.1)))
        by_what None e = rw e refl
        by_what (Some p) e =
            let h = hears hook laws block c ts p.0 p.1 e in
            hears-run h (λ v q us. Some (
              function_e (to s q) (async_in m) (generator_in m) (block_e q v)
                  (params_e ps),
              us,
            ))
            ∙ ap (λ q. Some (function_e (to s q) (async_in m) (generator_in m) (block_e q p.0) (params_e ps), p.1))
            (sym (hears-place hook laws block c ts p.0 p.1 h))
            ∙ ap (λ o. o >>= (λ p. Some (method_function_node block_at m s ps p.0, p.1))) (sym e)

    -- a check after the block is the same check before it
    by_ok : (b : Bool) (s : Span) (ps : Trees F C K) (x : Scope) (ts : List TokenAndSpan) → accessor_ok m ps ≡ b
        → (method_block_by hook block_at m true s ps x ts >>= (λ p. method_by m p))
        ≡ method_block_by hook block_at m b s ps x ts
    by_ok b s ps x ts e =
        sym (binds (method_body hook (async_in m) (generator_in m) x ts)
        (λ p. Some (method_function_node block_at m s ps p.0, p.1)) (λ p. method_by m p))
        ∙ by_test b e
      where
        node_ok : (v : K) → function_ok m (method_function_node {F = F} {C = C} block_at m s ps v) ≡ accessor_ok m ps
        node_ok v = ok_is m (to s (block_at v)) (async_in m) (generator_in m) (block_e (block_at v) v) ps

        by_test : (b : Bool) → accessor_ok m ps ≡ b → (method_body hook (async_in m) (generator_in m) x ts
            >>= (λ p. method_by m (method_function_node block_at m s ps p.0, p.1)))
            ≡ method_block_by hook block_at m b s ps x ts
        by_test true e =
            bind_same (method_body hook (async_in m) (generator_in m) x ts) _ _
            (λ p. rw (node_ok p.0 ∙ e) refl)
        by_test false e =
            bind_none (method_body hook (async_in m) (generator_in m) x ts) _ (λ p. rw (node_ok p.0 ∙ e) refl)

    shell_is : (x : Scope) (ts : List TokenAndSpan) → run hook (at (Shell (async_in m) (generator_in m))) x ts
        ≡ (expected is_lparen (in_params m x) ts >>= (λ p. run hook (at Params) (in_params m x) p.1
        >>= (λ q. method_block_by hook block_at m true p.0 (items_of q.0) (in_params m x) q.1)))
    shell_is x ts =
        knot hook (at (Shell (async_in m) (generator_in m))) x ts
        ∙ shell_opens (async_in m) (generator_in m) x ts
        ∙ then_token is_lparen (in_params m x) ts _
        ∙ bind_same (expected is_lparen (in_params m x) ts) _ _ (λ p.
        then_calls (run hook (at Params) (in_params m x) p.1) _
        (λ q us. method_block_by hook block_at m true p.0 (items_of q) (in_params m x) us)
        (λ q us. heard_is x p.0 (items_of q) us))

    -- the function of a method, in the context of its parameters
    pub function_inside : (x : Scope) (ts : List TokenAndSpan) → method_function hook m x ts
        ≡ method_inside hook block_at m (in_context (method_params (async_in m) (generator_in m)) x) ts
    unfolding method_function method_inside method_left
    function_inside x ts =
        ap (λ o. o >>= (λ p. method_by m p)) (shell_is x ts)
        ∙ sym (binds (expected is_lparen (in_params m x) ts) _ (λ p. method_by m p))
        ∙ bind_same (expected is_lparen (in_params m x) ts) _ _ (λ p.
        sym (binds (run hook (at Params) (in_params m x) p.1) _ (λ r. method_by m r))
        ∙ bind_same (run hook (at Params) (in_params m x) p.1) _ _ (λ q.
        by_ok (accessor_ok m (items_of q.0)) p.0 (items_of q.0) (in_params m x) q.1 refl))

  module _ (block_at : K → Span) (m : Option MethodKind) where
    pub inside_splits : (x : Scope) (ts : List TokenAndSpan) → method_inside hook block_at m x ts
        ≡ (expected is_lparen x ts >>= (λ p. method_left hook block_at m p.0 x p.1))
    unfolding method_inside
    inside_splits x ts = refl

    pub left_splits : (s : Span) (x : Scope) (ts : List TokenAndSpan) → method_left hook block_at m s x ts
        ≡ (run hook (at Params) x ts >>= (λ p. method_end hook block_at m s (items_of p.0) x p.1))
    unfolding method_left
    left_splits s x ts = refl

    -- after the parameters, and their closing parenthesis
    pub close_is : (s : Span) (ps : Trees F C K) (x : Scope) (ts : List TokenAndSpan)
        → (params_close ps x ts >>= (λ p. method_end hook block_at m s (items_of p.0) x p.1))
        ≡ method_close hook block_at m s ps x ts
    unfolding params_close method_close
    close_is s ps x ts = sym (binds (expected is_rparen x ts) _ _)

    -- where the parameters are what they have to be, or not
    pub close_well : (s : Span) (ps : Trees F C K) (x : Scope) (ts : List TokenAndSpan) → accessor_ok m ps ≡ true
        → method_close hook block_at m s ps x ts
        ≡ (expected is_rparen x ts >>= (λ p. method_block_by hook block_at m true s ps x p.1))
    unfolding method_close
    close_well s ps x ts h = rw h refl

    pub block_is : (is_async is_generator : Bool) → is_async ≡ async_in m → is_generator ≡ generator_in m → (s : Span)
        (ps : Trees F C K) (x : Scope) (ts : List TokenAndSpan) → method_block_by hook block_at m true s ps x ts
        ≡ (method_body hook is_async is_generator x ts
        >>= (λ p. Some (method_function_node block_at m s ps p.0, p.1)))
    block_is is_async is_generator a g s ps x ts = rw (a, g) refl

    pub close_ill : (s : Span) (ps : Trees F C K) (x : Scope) (ts : List TokenAndSpan) → accessor_ok m ps ≡ false
        → method_close hook block_at m s ps x ts ≡ None
    unfolding method_close
    close_ill s ps x ts h = bind_none (expected is_rparen x ts) _ (λ p. rw h refl)

  -- without a kind it is the function alone
  pub plain_function : (x : Scope) (ts : List TokenAndSpan)
      → run hook (at (Shell false false)) x ts ≡ method_function hook None x ts
  unfolding method_function
  plain_function x ts = by_what (run hook (at (Shell false false)) x ts)
    where
      by_what : (o : Out (Tree F C K)) → o ≡ (o >>= (λ p. Some p))
      by_what None = refl
      by_what (Some p) = refl

-- ---- steps

module _ {S : Type 0} {model : Model S} {sure : Bool} where
  -- f and g, and then k
  pub on_then_both : {A B : Type 0} {f : Reader A} {q r : Reader B} {b c : Buffer S}
      (k : Scope → B × List TokenAndSpan → Out A) → ((x : Scope) (ts : List TokenAndSpan) → f x ts ≡ (q x ts >>= k x))
      → On model sure q r b c → On model sure f (λ x ts. r x ts >>= k x) b c
  on_then_both {r = r} {b = b} {c = c} k step o = record {
    leads = o.leads;
    clean = λ l s ys f. step (scope model b) (o.leads.taken ++ ys) ∙ ap (λ v. v >>= k (scope model b))
        (o.clean l s ys f)
        ∙ ap (λ x. r (scope model c) ys >>= k x) (sym (read_scope o.leads.laws o.leads.read));
    faulty = λ y l lt ts h. step (scope model b) ts ∙ ap (λ v. v >>= k (scope model b)) (o.faulty y l lt ts h);
  }

  -- a fault was recorded, and f reads nothing: whatever follows
  pub on_noted : {A : Type 0} {f g : Reader A} {b c d : Buffer S} (well : Bool) → well ≡ false → Checks model well b c
      → Leads model c d → ((x : Scope) (ts : List TokenAndSpan) → f x ts ≡ None) → On model sure f g b d
  on_noted {b = b} {c = c} {d = d} well ill h later none = record {
    leads = leads_then h.leads later;
    clean = λ l s ys f. let lt = h.notes ill l in let le = more_recorded later in absurd (omega (arith, s, lt, le));
    faulty = λ y l lt ts k. none (scope model b) ts;
  }
